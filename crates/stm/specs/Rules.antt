-- Document 02 No. 4: the machine rules, their numbers, and what a thread's record holds of them.
use Rattle.std.specs.Prelude.{ℕ, ◌+◌, ◌-◌, ◌<◌, cond, List, [], ◌∷◌, eqb, ltb}
use Rattle.std.proofs.Math.Option.{Option, none, some}
use Rattle.stm.specs.Events.{Source, Event, idle, pushed, summed, forked, begun, looked, from_writes, from_reads, from_table, wrote, committed, sent_back, is_back, Happened, more}

-- "Each step names the machine rule it used: push, sum, fork, begin, read from write log, read from read log, read from table, write, commit,
-- sent back with the lowest stale register, or idle"; idle uses none
pub data MachineRule : Type 0 where
  push sum fork begin read_from_write_log read_from_read_log read_from_table write commit : MachineRule
  sent_back_with : (register : ℕ) → MachineRule

-- the rule that a pick used, by what it did
unfoldable pub used_by : Event → Option MachineRule
used_by idle = none
used_by pushed = some push
used_by (summed inside) = some sum
used_by forked = some fork
used_by begun = some begin
used_by (looked from_writes) = some read_from_write_log
used_by (looked from_reads) = some read_from_read_log
used_by (looked from_table) = some read_from_table
used_by wrote = some write
used_by committed = some commit
used_by (sent_back v) = some (sent_back_with v)

-- a rule as a number: 0 is none, 1 to 9 are the rules from push to commit, 10 + v is sent back with register v
unfoldable pub rule_number : Option MachineRule → ℕ
rule_number none = 0
rule_number (some push) = 1
rule_number (some sum) = 2
rule_number (some fork) = 3
rule_number (some begin) = 4
rule_number (some read_from_write_log) = 5
rule_number (some read_from_read_log) = 6
rule_number (some read_from_table) = 7
rule_number (some write) = 8
rule_number (some commit) = 9
rule_number (some (sent_back_with v)) = 10 + v

-- the rule of a number; a number of 74 or above names none
unfoldable pub rule_of_number : ℕ → Option MachineRule
rule_of_number n =
    cond (eqb n 0) none
    (cond (eqb n 1) (some push)
    (cond (eqb n 2) (some sum)
    (cond (eqb n 3) (some fork)
    (cond (eqb n 4) (some begin)
    (cond (eqb n 5) (some read_from_write_log)
    (cond (eqb n 6) (some read_from_read_log)
    (cond (eqb n 7) (some read_from_table)
    (cond (eqb n 8) (some write)
    (cond (eqb n 9) (some commit)
    (cond (ltb n 74) (some (sent_back_with (n - 10))) none))))))))))

-- a rule of this machine: it has 64 registers
unfoldable pub OfMachine : Option MachineRule → Type 0
OfMachine none = Unit {0}
OfMachine (some push) = Unit {0}
OfMachine (some sum) = Unit {0}
OfMachine (some fork) = Unit {0}
OfMachine (some begin) = Unit {0}
OfMachine (some read_from_write_log) = Unit {0}
OfMachine (some read_from_read_log) = Unit {0}
OfMachine (some read_from_table) = Unit {0}
OfMachine (some write) = Unit {0}
OfMachine (some commit) = Unit {0}
OfMachine (some (sent_back_with v)) = v < 64

-- ---- "Each thread record now also holds its last rule that was not idle, none at first, and its own number of send-backs"
-- the number that is held: that of the rule, and as it was if there is none
abbrev pub held : Option MachineRule → (rule : ℕ) → ℕ
held none rule = rule
held (some r) rule = rule_number (some r)

-- what a pick of the thread makes of both
unfoldable pub rule_after : Event → (rule : ℕ) → ℕ
rule_after e rule = held (used_by e) rule

-- the number of send-backs after it
unfoldable pub backs_after : Event → (backs : ℕ) → ℕ
backs_after e backs = more (is_back e) backs

-- the last rule of thread i in a list of picks, none if each of its picks was idle
abbrev pub lastly : (later earlier : Option MachineRule) → Option MachineRule
lastly none earlier = earlier
lastly (some r) earlier = some r

-- of picks, the later one deciding
unfoldable pub last_rule : ℕ → List Happened → Option MachineRule
last_rule i [] = none
last_rule i (h ∷ hs) = lastly (last_rule i hs) (cond (eqb h.thread i) (used_by h.event) none)

-- a source of READ has its own rule
abbrev pub read_rule : Source → MachineRule
read_rule from_writes = read_from_write_log
read_rule from_reads = read_from_read_log
read_rule from_table = read_from_table
