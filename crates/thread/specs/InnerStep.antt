-- Mirrors the methods of `Thread` for their proofs. Nobody has to believe it: in a state that fits, a step is `act` with every number that it
-- hands back (`step_acts` and `idle_step`, machine/proofs/Actings). What it does of a record that no such state has is left free by the papers.
use Rattle.std.specs.Prelude.{ℕ, zero, suc, ◌+◌, ◌-◌, ◌^◌, ◌≤◌, ◌<◌, Bool, true, false, Option, Some, None, cond, not, ◌&&◌, ◌||◌, List, ◌≡◌, eqb, leb, ltb, ℤ, pos, length, drop, get_or, set}
use Rattle.thread.specs.declared.Action.{Action}
use Rattle.thread.specs.declared.Thread.{Thread}
use Rattle.thread.specs.Shown.{shown_event, child_of}
use Rattle.thread.specs.Threads.{with_rule, below, adding, push, begin, read, write, closed, first_stale, overlaid}
use Rattle.code.specs.Ops.{op_at}
use Rattle.ops.specs.Shown.{shown_op}
use Rattle.ops.specs.declared.Op.{Op}
use Rattle.ops.specs.declared.Op.TheVariants as op
use Rattle.stm.specs.Counted.{Table}
use Rattle.stm.specs.Events.{event_number, event_register, turn_number}
use Rattle.word.specs.Registers.{member}
use Rattle.word.specs.InnerCount.{saturated}
use Rattle.word.specs.Sum.{Rule, added}

-- ---- by the sets and values of a record
-- whether register v is stale
unfoldable pub stale_in : (reads : ℕ) (readcounts counts : List ℕ) → ℕ → Bool
stale_in reads readcounts counts v = member reads v && not (eqb (get_or readcounts v 0) (get_or counts v 0))

-- the first stale register from v on, `left` of them being left
unfoldable pub first_stale_in : (left v : ℕ) (reads : ℕ) (readcounts counts : List ℕ) → ℕ
first_stale_in zero v reads readcounts counts = v
first_stale_in (suc left) v reads readcounts counts =
    elim (stale_in reads readcounts counts v) [ true ↦ v | false ↦ first_stale_in left (suc v) reads readcounts counts ]

-- a register, or none where there is none below 64
abbrev pub found_at : ℕ → Option ℕ
found_at v = cond (ltb v 64) (Some v) None

-- whether a register of a record's read log is stale, in a table of 64 counts
unfoldable pub stale_read : (counts : List ℕ) → Thread → Bool
stale_read counts t = cond (eqb (length counts) 64) (ltb (first_stale_in 64 0 t.reads t.readcounts counts) 64) false

-- the table with the write log in it, from register v on, `left` of them being left
unfoldable pub stored_in : (left v : ℕ) (writes : ℕ) (writelog table : List ℤ) → List ℤ
stored_in zero v writes writelog table = table
stored_in (suc left) v writes writelog table =
    stored_in left (suc v) writes writelog (cond (member writes v) (set table v (get_or writelog v (pos 0))) table)

-- a count, one more, the greatest staying
unfoldable pub risen_by : ℕ → ℕ
risen_by n = cond (ltb n 4294967295) (n + 1) n

-- the counts with one more for each register of the write log, from register v on, `left` of them being left
unfoldable pub recounted_in : (left v : ℕ) (writes : ℕ) (counts : List ℕ) → List ℕ
recounted_in zero v writes counts = counts
recounted_in (suc left) v writes counts =
    recounted_in left (suc v) writes (cond (member writes v) (set counts v (risen_by (get_or counts v 0))) counts)

-- the number of registers where 64 counts are lent beside them, else 0
unfoldable pub sized_by : (registers counts : ℕ) → ℕ
sized_by registers counts = cond (eqb counts 64) registers 0

-- registers and counts as a table
abbrev pub table_from : List ℤ → List ℕ → Table
table_from rs ns = record { registers = rs; counts = ns }

-- the event's number of a READ of v, by the sets of both logs
unfoldable pub source_number : (writes reads v : ℕ) → ℕ
source_number writes reads v = cond (member writes v) 5 (cond (member reads v) 6 7)

-- an ADD takes a turn where no transaction is open
unfoldable pub outside_turn : (begin : ℕ) → ℕ
outside_turn begin = cond (eqb begin 0) 1 0

-- ---- what a step hands back in the papers' numbers, with the table
-- the record; the event; the first stale register of a send-back, else 0; 1 if it took a turn, else 0; the sums that left the range and took
-- effect; a forked child's code, else 0 and 0
pub record Numbered : Type 0 where
  pub thread : Thread
  pub event : ℕ
  pub register : ℕ
  pub turn : ℕ
  pub over : ℕ
  pub start : ℕ
  pub end : ℕ

-- an action in numbers: two that differ have other numbers
abbrev pub numbered : Action → Numbered
numbered a =
    record {
      thread = a.thread;
      event = event_number (shown_event a.event);
      register = event_register (shown_event a.event);
      turn = turn_number (shown_event a.event);
      over = a.over;
      start = (child_of a.event).start;
      end = (child_of a.event).end;
    }

-- both
pub record Handed : Type 0 where
  pub acted : Numbered
  pub table : Table

-- an action in numbers and the table
abbrev pub handed : Numbered → Table → Handed
handed a table = record { acted = a; table = table }

-- an idle step
abbrev pub unacted : Thread → Numbered
unacted t = record { thread = t; event = 0; register = 0; turn = 0; over = 0; start = 0; end = 0 }

-- the last rule after an event of this number
unfoldable pub rule_at : (event rule : ℕ) → ℕ
rule_at event rule = cond (eqb event 0) rule event

-- a step that forks nothing and is no send-back
abbrev pub acting : (event turn over : ℕ) → Thread → Numbered
acting event turn over t =
    record {
      thread = with_rule (rule_at event t.rule) t.backs t;
      event = event;
      register = 0;
      turn = turn;
      over = over;
      start = 0;
      end = 0;
    }

-- the note after a sum that left the range or not, the greatest note staying; and what the sum counts at once
unfoldable pub note_after : (begin over : ℕ) → Bool → ℕ
note_after begin over overflowed = cond (eqb begin 0) over (cond overflowed (saturated over 1) over)

-- what the sum counts at once: 1 if it left the range where no transaction is open
unfoldable pub over_at_once : (begin : ℕ) → Bool → ℕ
over_at_once begin overflowed = cond (eqb begin 0) (cond overflowed 1 0) 0

-- ADD
unfoldable pub summing : Rule → Thread → Numbered
summing sum t =
    let s = added sum (below t 2) (below t 1) in
    acting 2 (outside_turn t.begin) (over_at_once t.begin s.overflowed) (adding (note_after t.begin t.over s.overflowed) s.value t)

-- COMMIT, by whether register v is stale
abbrev pub committed_by : (stale : Bool) (v : ℕ) (table : Table) → Thread → Handed
committed_by true v table t =
    handed
    (record {
      thread = with_rule (10 + v) (saturated t.backs 1) (closed t.begin t.base t);
      event = 10;
      register = v;
      turn = 0;
      over = 0;
      start = 0;
      end = 0;
    })
    table
committed_by false v table t =
    handed
    (acting 9 1 t.over (closed (t.place + 1) t.height t))
    (table_from (overlaid 64 0 t table.registers) (recounted_in 64 0 t.writes table.counts))

-- COMMIT
unfoldable pub committed : (table : Table) → Thread → Handed
committed table t =
    let v = first_stale 64 0 t table in
    committed_by (ltb v 64) v table t

-- ---- one step
-- whether the height is within these bounds and so many bytes are there
unfoldable pub enough_for : (low height high size left : ℕ) → Bool
enough_for low height high size left = cond (ltb height low) false (cond (ltb high height) false (leb size left))

-- whether a record with this height and base has what an instruction takes, with so many registers, and so many bytes from its place on
unfoldable pub takes_op : Op → (height base registers left : ℕ) → Bool
takes_op (op.Push n) h b r left = enough_for 0 h 63 5 left
takes_op op.Add h b r left = enough_for 2 h 64 1 left
takes_op (op.Read v) h b r left = cond (ltb 63 v) false (cond (eqb r 64) (enough_for 0 h 63 2 left) false)
takes_op (op.Write v) h b r left = cond (ltb 63 v) false (enough_for 1 h 64 2 left)
takes_op op.Begin h b r left = enough_for 0 h 64 1 left
takes_op op.Commit h b r left = cond (ltb 64 b) false (cond (eqb r 64) (enough_for 0 h 64 1 left) false)
takes_op (op.Fork size) h b r left = cond (ltb left 3) false (enough_for 0 h 63 size (left - 3))
takes_op op.Foreign h b r left = false

-- one instruction of a record that has what it takes
unfoldable pub performed : Rule → (table : Table) → Thread → Op → Handed
performed sum table t (op.Push n) = handed (acting 1 0 0 (push n (t.place + 5) t)) table
performed sum table t op.Add = handed (summing sum t) table
performed sum table t (op.Read v) = handed (acting (source_number t.writes t.reads v) 0 0 (read table v t)) table
performed sum table t (op.Write v) = handed (acting 8 0 0 (write v t)) table
performed sum table t op.Begin = handed (acting 4 0 0 (begin t)) table
performed sum table t op.Commit = committed table t
performed sum table t (op.Fork size) =
    handed
    (record {
      thread = with_rule 3 t.backs (push (pos 0) (t.place + 3 + size) t);
      event = 3;
      register = 0;
      turn = 1;
      over = 0;
      start = t.place + 3;
      end = t.place + 3 + size;
    })
    table
performed sum table t op.Foreign = handed (unacted t) table

-- the instruction at a record's place: Foreign if there is no such thread, it has ended, or there is none
unfoldable pub here_op : (code : List ℕ) → Thread → Op
here_op bytes t =
    elim (eqb t.start 0 || eqb t.place t.end) [ true ↦ op.Foreign | false ↦ shown_op (op_at (drop t.place bytes)) ]

-- the instruction if the record has what it takes, else Foreign
unfoldable pub able_op : (code : List ℕ) (registers : ℕ) → Thread → Op → Op
able_op bytes registers t o =
    elim (takes_op o t.height t.base registers (length bytes - t.place)) [ true ↦ o | false ↦ op.Foreign ]

-- the instruction that is due: Foreign if there is none, or the record has not what it takes
unfoldable pub due_op : (code : List ℕ) (registers : ℕ) → Thread → Op
due_op bytes registers t =
    elim (eqb t.start 0 || eqb t.place t.end) [
      | true ↦ op.Foreign
      | false ↦ able_op bytes registers t (shown_op (op_at (drop t.place bytes)))
    ]

-- what a record must have: numbers or room on its stack, a register and a table of 64, and a number for the place behind the instruction
abbrev pub Able : Op → (registers : ℕ) → Thread → Type 0
Able (op.Push n) registers t = (t.height < 64) × (t.place + 5 < 2 ^ 64)
Able op.Add registers t = (2 ≤ t.height) × (t.height ≤ 64) × (t.place + 1 < 2 ^ 64)
Able (op.Read v) registers t = (v < 64) × (t.height < 64) × (t.place + 2 < 2 ^ 64) × (registers ≡ 64)
Able (op.Write v) registers t = (v < 64) × (1 ≤ t.height) × (t.height ≤ 64) × (t.place + 2 < 2 ^ 64)
Able op.Begin registers t = t.place + 1 < 2 ^ 64
Able op.Commit registers t = (t.height ≤ 64) × (t.base ≤ 64) × (t.place + 1 < 2 ^ 64) × (registers ≡ 64)
Able (op.Fork size) registers t = (t.height < 64) × (t.place + 3 + size < 2 ^ 64)
Able op.Foreign registers t = Unit {0}

-- the same of any record: idle if it has not what the instruction takes
unfoldable pub attempted : Rule → (code : List ℕ) (table : Table) → Thread → Op → Handed
attempted sum bytes table t o =
    elim (takes_op o t.height t.base (sized_by (length table.registers) (length table.counts)) (length bytes - t.place)) [
      | true ↦ performed sum table t o
      | false ↦ handed (unacted t) table
    ]

-- one step of a record: idle if there is no such thread or it has ended
unfoldable pub stepped : Rule → (code : List ℕ) (table : Table) → Thread → Handed
stepped sum bytes table t =
    elim (eqb t.start 0 || eqb t.place t.end) [
      | true ↦ handed (unacted t) table
      | false ↦ attempted sum bytes table t (shown_op (op_at (drop t.place bytes)))
    ]

-- ---- PUSH and ADD, which change the stack, the note and the last rule, not the logs
-- its event, 0 if it is none of them
unfoldable pub stack_event : Op → ℕ
stack_event (op.Push n) = 1
stack_event op.Add = 2
stack_event (op.Read v) = 0
stack_event (op.Write v) = 0
stack_event op.Begin = 0
stack_event op.Commit = 0
stack_event (op.Fork size) = 0
stack_event op.Foreign = 0

-- whether the instruction is one of them, and a record with this height has what it takes
unfoldable pub stacked_op : Op → (height left : ℕ) → Bool
stacked_op o h left = cond (eqb (stack_event o) 0) false (takes_op o h 0 0 left)

-- an instruction that is one of them, or Foreign
abbrev pub Plain : Op → Type 0
Plain (op.Push n) = Unit {0}
Plain op.Add = Unit {0}
Plain (op.Read v) = ⊥
Plain (op.Write v) = ⊥
Plain op.Begin = ⊥
Plain op.Commit = ⊥
Plain (op.Fork size) = ⊥
Plain op.Foreign = Unit {0}

-- the instruction of a step if it is one of them, else Foreign
unfoldable pub stack_only : (code : List ℕ) → Thread → Op → Op
stack_only bytes t o = elim (stacked_op o t.height (length bytes - t.place)) [ true ↦ o | false ↦ op.Foreign ]

-- the instruction of a record's step if it is one of them, else Foreign
unfoldable pub plain_op : (code : List ℕ) → Thread → Op
plain_op bytes t =
    elim (eqb t.start 0 || eqb t.place t.end) [
      | true ↦ op.Foreign
      | false ↦ stack_only bytes t (shown_op (op_at (drop t.place bytes)))
    ]

-- whether a step is one of them, or idle because there is no such thread or it has ended
unfoldable pub plain_in : (code : List ℕ) → Thread → Bool
plain_in bytes t = eqb t.start 0 || (eqb t.place t.end || not (eqb (stack_event (plain_op bytes t)) 0))
