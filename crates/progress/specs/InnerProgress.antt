-- For the proofs of functions over records only: one pick by value, and with what a call begins and ends. Nobody has to believe it:
-- `run_by_value` and `step_by_value` (proofs/Calls) say that `ran_by` and `stepped_by` are `run_call` and `step_call`, `plained` (proofs/Performs)
-- that a plain pick is a pick.
use Rattle.std.specs.Prelude.{ℕ, zero, suc, ◌+◌, ◌*◌, ◌<◌, Bool, cond, not, List, [], ◌∷◌, eqb, ltb, length, set, take}
use Rattle.stm.specs.Counted.{Table}
use Rattle.code.specs.Reader.{read_code}
use Rattle.std.specs.Prelude as std
use Rattle.progress.specs.declared.Child.{Child}
use Rattle.progress.specs.declared.Picked.{Picked}
use Rattle.progress.specs.declared.Progress.{Progress}
use Rattle.machine.specs.Answers.{Returned}
use Rattle.machine.specs.InnerTally as tally
use Rattle.machine.specs.Steps.{State, table_in, thread_at}
use Rattle.machine.specs.declared.FreshReply.{FreshReply}
use Rattle.machine.specs.declared.RunReply.{RunReply}
use Rattle.machine.specs.declared.StepReply.{StepReply}
use Rattle.script.specs.Outcome.{Outcome, refused, done}
use Rattle.script.specs.Jobs.{Job}
use Rattle.survey.specs.InnerRecords.{survey_of}
use Rattle.survey.specs.InnerWalk.{survey_fits}
use Rattle.thread.specs.declared.Thread.{Thread}
use Rattle.thread.specs.InnerStep.{Numbered, Handed, handed, unacted, performed, stepped, plain_in, plain_op}
use Rattle.thread.specs.Threads.{spawned}
use Rattle.word.specs.InnerCount.{saturated}
use Rattle.word.specs.Sum.{wrapping}

-- one more if so; the greatest number stays
unfoldable pub more_to : Bool → ℕ → ℕ
more_to so n = cond so (saturated n 1) n

-- the child that a pick forked, if it did, at the seat behind so many threads
unfoldable pub child_of : (event threads start end : ℕ) → std.Option Child
child_of event threads start end = cond (eqb event 3) (std.Some (record { seat = threads; start = start; end = end })) std.None

-- after a pick that did this
unfoldable pub advanced_to : (event register turn over : ℕ) → Progress → Progress
advanced_to event register turn over p =
    record {
      threads = more_to (eqb event 3) p.threads;
      steps = more_to (not (eqb event 0)) p.steps;
      idle = more_to (eqb event 0) p.idle;
      commits = more_to (eqb event 9) p.commits;
      back = more_to (eqb event 10) p.back;
      over = saturated p.over over;
      event = event;
      register = register;
      turn = turn;
    }

-- the record that a pick takes out
unfoldable pub which_of : (pick : ℕ) → ℕ
which_of pick = cond (ltb pick 16) pick 0

-- how much of the code it has before it
unfoldable pub reach_of : (pick length : ℕ) → ℕ
reach_of pick length = cond (ltb pick 16) length 0

-- whether it changes the stack, the note and the last rule of its record and not its logs
unfoldable pub plain_pick : (code : List ℕ) (pick : ℕ) → Thread → Bool
plain_pick bytes pick t = plain_in (take (reach_of pick (length bytes)) bytes) t

-- what a pick leaves, with the table
pub record Given : Type 0 where
  pub picked : Picked
  pub table : Table

-- what a pick leaves and the table
abbrev pub given : Picked → Table → Given
given r table = record { picked = r; table = table }

-- what is left by a step that did this
abbrev pub left_by : Numbered → Progress → Picked
left_by a p = record { thread = a.thread; child = child_of a.event p.threads a.start a.end; progress = advanced_to a.event a.register a.turn a.over p }

-- of what the step of the record hands back
abbrev pub picked_of : Handed → Progress → Given
picked_of h p = given (left_by h.acted p) h.table

-- one pick; of 16 and above it is idle
unfoldable pub picked_by : (code : List ℕ) (table : Table) (pick : ℕ) → Thread → Progress → Given
picked_by bytes table pick t p =
    cond (ltb pick 16) (picked_of (stepped wrapping bytes table t) p) (picked_of (handed (unacted t) table) p)

-- the same by what does not change the logs; any other pick is idle
unfoldable pub plained_by : (code : List ℕ) (table : Table) (pick : ℕ) → Thread → Progress → Given
plained_by bytes table pick t p =
    picked_of (performed wrapping table t (plain_op (take (reach_of pick (length bytes)) bytes) t)) p

-- the refusal of a call with code, a state that fits or not, and so many picks
unfoldable pub refusal_of : Outcome Job → (fitting : Bool) (picks : ℕ) → ℕ
refusal_of (refused number place) fitting picks = 11
refusal_of (done j) fitting picks = cond fitting (cond (ltb 32768 picks) 13 0) 12

-- the refusal of laying down a fresh state over so many registers, counts and records
unfoldable pub fresh_refusal_of : Outcome Job → (registers counts records : ℕ) → ℕ
fresh_refusal_of (refused number place) registers counts records = 11
fresh_refusal_of (done j) registers counts records = cond (eqb records 16) (cond (eqb registers 64) (cond (eqb counts 64) 0 12) 12) 12

-- what a call comes to that has this refusal, 0 being none
abbrev pub unless_refused : {A : Type 0} → (refusal : ℕ) → A → Outcome A
unless_refused zero a = done a
unless_refused (suc number) a = refused (suc number) 0

-- whether an accepted job compiles to the code
abbrev pub accepted_to : Outcome Job → Outcome (Unit {0})
accepted_to (refused number place) = refused 11 0
accepted_to (done j) = done tt

-- the progress before the first pick
abbrev pub beginning : (threads : ℕ) → Progress
beginning threads = record { threads = threads; steps = 0; idle = 0; commits = 0; back = 0; over = 0; event = 0; register = 0; turn = 0 }

-- the progress with which a call begins, by what the code and the state are
abbrev pub admitted_to : Outcome Job → (fitting : Bool) (threads picks : ℕ) → Outcome Progress
admitted_to read fitting threads picks = unless_refused (refusal_of read fitting picks) (beginning threads)

-- whether a fresh state is laid down
abbrev pub fresh_admitted_to : Outcome Job → (registers counts records : ℕ) → Outcome (Unit {0})
fresh_admitted_to read registers counts records = unless_refused (fresh_refusal_of read registers counts records) tt

-- the answers
abbrev pub fresh_reply_of : Outcome (Unit {0}) → FreshReply
fresh_reply_of (refused number place) = record { refusal = number; place = place }
fresh_reply_of (done _) = record { refusal = 0; place = 0 }

-- of a step
abbrev pub step_reply_of : Outcome Progress → StepReply
step_reply_of (refused number place) = record { refusal = number; place = place; event = 0; register = 0; turn = 0; over = 0 }
step_reply_of (done p) = record { refusal = 0; place = 0; event = p.event; register = p.register; turn = p.turn; over = p.over }

-- of a run
abbrev pub run_reply_of : Outcome Progress → RunReply
run_reply_of (refused number place) = record { refusal = number; place = place; steps = 0; idle = 0; commits = 0; back = 0; over = 0 }
run_reply_of (done p) = record { refusal = 0; place = 0; steps = p.steps; idle = p.idle; commits = p.commits; back = p.back; over = p.over }

-- what a run that is told forward carries of it
abbrev pub shown : Progress → tally.Progress
shown p =
    record {
      threads = p.threads;
      counts = record { steps = p.steps; idle = p.idle; commits = p.commits; back = p.back; over = p.over };
    }

-- no number is the greatest, nor will `over` be after one more pick, which tells of fewer than 6,000 sums
pub record Low (p : Progress) : Type 0 where
  pub threads : p.threads < 18446744073709551615
  pub steps : p.steps < 18446744073709551615
  pub idle : p.idle < 18446744073709551615
  pub commits : p.commits < 18446744073709551615
  pub back : p.back < 18446744073709551615
  pub over : p.over + 6000 < 18446744073709551615

-- a forked child at its seat
abbrev pub seated_in : std.Option Child → List Thread → List Thread
seated_in std.None ts = ts
seated_in (std.Some c) ts = set ts c.seat (spawned c.start c.end)

-- a pick's record put back, and a forked child at its seat
abbrev pub settled_by : State → (who : ℕ) → Given → tally.Tallied
settled_by s who g =
    record {
      state =
          record {
            registers = g.table.registers;
            counts = g.table.counts;
            threads = seated_in g.picked.child (set s.threads who g.picked.thread);
          };
      progress = shown g.picked.progress;
    }

-- ---- picks, one after the other
-- what they leave: the state, and what is carried from pick to pick
pub record Driven : Type 0 where
  pub state : State
  pub progress : Progress

-- one pick's record and child put into the state
abbrev pub driven_by : State → (who : ℕ) → Given → Driven
driven_by s who g = record { state = (settled_by s who g).state; progress = g.picked.progress }

-- the picks of a list
unfoldable pub driven : (code picks : List ℕ) → Driven → Driven
driven bytes [] d = d
driven bytes (i ∷ is) d =
    driven bytes is
    (driven_by d.state (which_of i) (picked_by bytes (table_in d.state) i (thread_at d.state (which_of i)) d.progress))

-- so many picks more keep each number low
pub record Room (n : ℕ) (p : Progress) : Type 0 where
  pub threads : p.threads + n < 18446744073709551615
  pub steps : p.steps + n < 18446744073709551615
  pub idle : p.idle + n < 18446744073709551615
  pub commits : p.commits + n < 18446744073709551615
  pub back : p.back + n < 18446744073709551615
  pub over : p.over + 6000 * suc n < 18446744073709551615

-- a call by value: what it leaves, and the progress, if it is not refused
pub record Undergone : Type 0 where
  pub state : State
  pub progress : Outcome Progress

-- with what a call on a state begins
unfoldable pub admitting : (code : List ℕ) → State → (picks : ℕ) → Outcome Progress
admitting code s picks =
    admitted_to
    (read_code code)
    (survey_fits (survey_of s.counts s.threads) code (length s.registers) s.counts 0)
    (survey_of s.counts s.threads).count
    picks

-- its picks, unless it is refused
abbrev pub going_on : (code : List ℕ) → State → (picks : List ℕ) → Outcome Progress → Undergone
going_on code s picks (refused number place) = record { state = s; progress = refused number place }
going_on code s picks (done p) =
    let d = driven code picks (record { state = s; progress = p }) in
    record { state = d.state; progress = done d.progress }

-- a call by value
unfoldable pub undergone : (code : List ℕ) → State → (picks : List ℕ) → Undergone
undergone code s picks = going_on code s picks (admitting code s (length picks))

-- with the answer of a run
abbrev pub run_told : Undergone → Returned RunReply
run_told u = record { state = u.state; reply = run_reply_of u.progress }

-- and with that of a step
abbrev pub step_told : Undergone → Returned StepReply
step_told u = record { state = u.state; reply = step_reply_of u.progress }

-- a run by value
unfoldable pub ran_by : (code : List ℕ) → State → (picks : List ℕ) → Returned RunReply
ran_by code s picks = run_told (undergone code s picks)

-- a step by value
unfoldable pub stepped_by : (code : List ℕ) → State → (pick : ℕ) → Returned StepReply
stepped_by code s i = step_told (undergone code s (i ∷ []))
