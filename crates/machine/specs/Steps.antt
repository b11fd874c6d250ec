-- One pick, and a run of picks: document 01, "One pick, one step" and "Runs and turns".
use Rattle.std.specs.Prelude.{ℕ, suc, ◌+◌, ◌<◌, Bool, true, false, cond, not, ◌||◌, ◌≡◌, List, [], ◌∷◌, eqb, ltb, ℤ, pos, length, drop, get_or, set, replicate}
use Rattle.thread.specs.declared.Thread.{Thread}
use Rattle.thread.specs.Threads.{exists, blank, with_rule, spawned, below, push, sum_told, add, begin, source_of, read, write, closed, stale, first_stale}
use Rattle.thread.specs.Threads.{with_writes}
use Rattle.stm.specs.Counted.{Table}
use Rattle.stm.specs.Rules.{rule_after, backs_after}
use Rattle.stm.specs.Events.{Source, from_writes, from_reads, from_table, Event, idle, pushed, summed, forked, begun, looked, wrote, committed, sent_back}
use Rattle.stm.specs.Events.{Happened, is_idle}
use Rattle.code.specs.Ops.{Op, op_at}
use Rattle.code.specs.Ops as code
use Rattle.script.specs.Outcome.{Outcome, refused, done}
use Rattle.word.specs.Registers.{member}
use Rattle.word.specs.Sum.{Rule, over_of}

-- the register table, "beside each value, how often commits have written it" (document 02 No. 6), and the thread table
pub record State : Type 0 where
  pub registers : List ℤ
  pub counts : List ℕ
  pub threads : List Thread

-- a register table, its counts and a run of records, as they are lent
abbrev pub state_from : List ℤ → List ℕ → List Thread → State
state_from rs ns ts = record { registers = rs; counts = ns; threads = ts }

-- the register table of a state, with its counts
abbrev pub table_in : State → Table
table_in s = record { registers = s.registers; counts = s.counts }

-- "Threads are numbered without gaps": the number of threads is the next thread's number
unfoldable pub number_of : List Thread → ℕ
number_of [] = 0
number_of (t ∷ ts) = cond (exists t) (suc (number_of ts)) 0

-- the record of thread i; of no thread if there are fewer
abbrev pub thread_at : State → ℕ → Thread
thread_at s i = get_or s.threads i blank

-- a FORK's child code, from its start up to its end
pub record Child : Type 0 where
  pub start : ℕ
  pub end : ℕ

-- ---- one instruction of one thread
-- what an instruction leaves: the thread's record, the register table, the child's code if one was forked, what was done, and how many sums
-- that fell outside the range it tells of
pub record Acted : Type 0 where
  pub thread : Thread
  pub table : Table
  pub children : List Child
  pub event : Event
  pub over : ℕ

-- an instruction that forks nothing
abbrev pub alters : Thread → Table → Event → (over : ℕ) → Acted
alters t table event over = record { thread = t; table = table; children = []; event = event; over = over }

-- COMMIT: "With a stale one the thread is sent back: to its BEGIN, stack height as noted, logs and notes emptied. Otherwise the write log
-- goes into the table and the commit has taken effect"; v is the first stale register, or 64. Document 02 No. 2: sums count "as noted, in
-- attempts that took effect"
abbrev pub committing : (stale : Bool) → Table → Thread → (v : ℕ) → Acted
committing true table t v = alters (closed t.begin t.base t) table (sent_back v) 0
committing false table t v = alters (closed (t.place + 1) t.height t) (with_writes t table) committed t.over

-- COMMIT, v being the first stale register, or 64
unfoldable pub commit : Table → Thread → (v : ℕ) → Acted
commit table t v = committing (ltb v 64) table t v

-- each instruction, in document 01's order
unfoldable pub perform : Rule → Table → Thread → Op → Acted
perform sum table t (code.push n) = alters (push n (t.place + 5) t) table pushed 0
perform sum table t code.add = alters (add sum t) table (summed (not (eqb t.begin 0))) (sum_told t)
perform sum table t (code.fork size) =
    record {
      thread = push (pos 0) (t.place + 3 + size) t;
      table = table;
      children = record { start = t.place + 3; end = t.place + 3 + size } ∷ [];
      event = forked;
      over = 0;
    }
perform sum table t code.begin = alters (begin t) table begun 0
perform sum table t (code.read v) = alters (read table v t) table (looked (source_of t v)) 0
perform sum table t (code.write v) = alters (write v t) table wrote 0
perform sum table t code.commit = commit table t (first_stale 64 0 t table)

-- document 02 No. 4: "Each thread record now also holds its last rule that was not idle, .. and its own number of send-backs"
abbrev pub moved_by : Event → Thread → Thread
moved_by e t = with_rule (rule_after e t.rule) (backs_after e t.backs) t

-- what an instruction leaves, with both held in its thread's record
abbrev pub ruled : Acted → Acted
ruled a = record { thread = moved_by a.event a.thread; table = a.table; children = a.children; event = a.event; over = a.over }

-- an instruction, the rule that it used being held in the thread's record
unfoldable pub act : Rule → Table → Thread → Op → Acted
act sum table t op = ruled (perform sum table t op)

-- ---- one pick
-- what a pick leaves: the state, what it did, and how many sums that fell outside the range it tells of
pub record Stepped : Type 0 where
  pub state : State
  pub event : Event
  pub over : ℕ

-- a child becomes the next thread, `count` being the number of threads
abbrev pub seated : (count : ℕ) → List Child → List Thread → List Thread
seated count [] ts = ts
seated count (c ∷ cs) ts = seated (suc count) cs (set ts count (spawned c.start c.end))

-- thread i is put back into the state as an instruction left it
unfoldable pub settle : (count : ℕ) → State → ℕ → Acted → Stepped
settle count s i a =
    record {
      state = record { registers = a.table.registers; counts = a.table.counts; threads = seated count a.children (set s.threads i a.thread) };
      event = a.event;
      over = a.over;
    }

-- the instruction at the thread's place is done; where there is none the pick is idle
abbrev pub doing : Rule → (count : ℕ) → State → ℕ → Thread → Outcome Op → Stepped
doing sum count s i t (refused number place) = record { state = s; event = idle; over = 0 }
doing sum count s i t (done op) = settle count s i (act sum (table_in s) t op)

-- "A pick of a thread that does not exist or has ended is idle and changes nothing": the picked thread's record is taken out, does the
-- instruction at its place, and is put back
unfoldable pub pick_among : Rule → (code : List ℕ) → (count : ℕ) → State → ℕ → Stepped
pick_among sum bytes count s i =
    elim (not (ltb i (length s.threads)) || (not (exists (thread_at s i)) || eqb (thread_at s i).place (thread_at s i).end)) [
      | true ↦ record { state = s; event = idle; over = 0 }
      | false ↦ doing sum count s i (thread_at s i) (op_at (drop (thread_at s i).place bytes))
    ]

-- one pick of thread i, a forked child becoming the next thread
abbrev pub pick : Rule → (code : List ℕ) → State → ℕ → Stepped
pick sum bytes s i = pick_among sum bytes (number_of s.threads) s i

-- one instruction of thread i, which is t
abbrev pub instruction : Rule → State → ℕ → Thread → Op → Stepped
instruction sum s i t op = settle (number_of s.threads) s i (act sum (table_in s) t op)

-- ---- document 02 No. 2, by a pick's event and its thread's record before the pick
-- the sums that it tells of: "such sums outside transactions and, as noted, in attempts that took effect"
abbrev pub told_by : Event → Thread → ℕ
told_by idle t = 0
told_by pushed t = 0
told_by (summed true) t = 0
told_by (summed false) t = over_of (below t 2) (below t 1)
told_by forked t = 0
told_by begun t = 0
told_by (looked source) t = 0
told_by wrote t = 0
told_by committed t = t.over
told_by (sent_back v) t = 0

-- the count that it leaves among the notes: "An open attempt's count is one of its notes"
abbrev pub noted_by : Event → Thread → ℕ
noted_by idle t = t.over
noted_by pushed t = t.over
noted_by (summed true) t = t.over + over_of (below t 2) (below t 1)
noted_by (summed false) t = t.over
noted_by forked t = t.over
noted_by begun t = 0
noted_by (looked source) t = t.over
noted_by wrote t = t.over
noted_by committed t = 0
noted_by (sent_back v) t = 0

-- "Each other pick does one instruction": the one at the thread's place
pub record DoesOne (sum : Rule) (code : List ℕ) (s : State) (i : ℕ) : Type 0 where
  pub op : Op
  pub at_place : op_at (drop (thread_at s i).place code) ≡ done op
  pub does : pick sum code s i ≡ instruction sum s i (thread_at s i) op
  pub not_idle : is_idle (pick sum code s i).event ≡ false

-- "the first stale one": the lowest stale register
pub record FirstStale (t : Thread) (table : Table) (v : ℕ) : Type 0 where
  pub small : v < 64
  pub its : stale t table v ≡ true
  pub before : (u : ℕ) → u < v → stale t table u ≡ false

-- where READ of register v finds its value: "in the write log if there, else in the read log if there, else the table's"
pub data FoundIn (t : Thread) (v : ℕ) : Source → Type 0 where
  in_writes : member t.writes v ≡ true → FoundIn t v from_writes
  in_reads : member t.writes v ≡ false → member t.reads v ≡ true → FoundIn t v from_reads
  in_table : member t.writes v ≡ false → member t.reads v ≡ false → FoundIn t v from_table

-- ---- runs
-- a fresh state: "thread 0 alone, at the start of the whole code, and every register 0"; no commit has written any
unfoldable pub fresh : (code : List ℕ) → State
fresh bytes =
    record { registers = replicate 64 (pos 0); counts = replicate 64 0; threads = spawned 5 (length bytes) ∷ replicate 15 blank }

-- what picks leave: the state, and what each of them did
pub record Ran : Type 0 where
  pub state : State
  pub events : List Happened

-- picks, one after the other
unfoldable pub run : Rule → (code : List ℕ) → State → (picks : List ℕ) → Ran
run sum bytes s [] = record { state = s; events = [] }
run sum bytes s (i ∷ is) =
    let one = pick sum bytes s i in
    let rest = run sum bytes one.state is in
    record { state = rest.state; events = record { thread = i; event = one.event; over = one.over } ∷ rest.events }
