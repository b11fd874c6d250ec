-- What `fresh`, `step` and `run` come to, leave and answer: document 01, "Turning a job down", 11 to 13.
use Rattle.std.specs.Prelude.{ℕ, zero, suc, ◌+◌, ◌<◌, ◌≤◌, not, ◌&&◌, ◌≡◌, List, [], ◌∷◌, eqb, ltb, ℤ, length}
use Rattle.std.proofs.Math.Option.{Option}
use Rattle.machine.specs.declared.FreshReply.{FreshReply}
use Rattle.machine.specs.declared.StepReply.{StepReply}
use Rattle.machine.specs.declared.RunReply.{RunReply}
use Rattle.thread.specs.declared.Thread.{Thread}
use Rattle.stm.specs.Events.{Event, more, Counts, uncounted, counts_of, event_number, event_register, turn_number, event_of}
use Rattle.stm.specs.Rules.{MachineRule, used_by}
use Rattle.machine.specs.Steps.{State, state_from, Stepped, pick, fresh, Ran, run}
use Rattle.machine.specs.Fits.{Fits}
use Rattle.machine.specs.FitTest.{fits}
use Rattle.code.specs.Bytes.{IsCode, Foreign}
use Rattle.code.specs.Reader.{read_code}
use Rattle.script.specs.Outcome.{Outcome, refused, done, refuse, onward, mapped}
use Rattle.script.specs.Jobs.{Job}
use Rattle.word.specs.Sum.{Rule, wrapping}

-- the rule for sums of a job's version
abbrev pub sum_of : Job → Rule
sum_of j = wrapping

-- "A run of other than 16 records, or a table of other than 64 registers, is a foreign state, also where a fresh state is to be laid down"; the
-- table has as many counts (document 02 No. 6)
abbrev pub right_lengths : State → Outcome State → Outcome State
right_lengths s behind = refuse (not (eqb (length s.threads) 16 && (eqb (length s.registers) 64 && eqb (length s.counts) 64))) 12 0 behind

-- 12, "does not fit the code"
abbrev pub fitting : {A : Type 0} → (code : List ℕ) → State → Outcome A → Outcome A
fitting code s behind = refuse (not (fits code s)) 12 0 behind

-- "Entries taking code test 11, then 10 or 12, then 13"; for 10 to 13 the place is always 0
unfoldable pub fresh_of : (code : List ℕ) → State → Outcome State
fresh_of code s = onward (read_code code) (λ j. right_lengths s (done (fresh code)))

-- what a step comes to: 11, then 12, else the pick
unfoldable pub step_of : (code : List ℕ) → State → (pick : ℕ) → Outcome Stepped
step_of code s i = onward (read_code code) (λ j. fitting code s (done (pick (sum_of j) code s i)))

-- 13, "more than 32,768 picks"
unfoldable pub run_of : (code : List ℕ) → State → (picks : List ℕ) → Outcome Ran
run_of code s is = onward (read_code code) (λ j. fitting code s (refuse (ltb 32768 (length is)) 13 0 (done (run (sum_of j) code s is))))

-- ---- document 01's number, place and values in each answer; refusal 0 is none
-- the answer of laying down a fresh state
abbrev pub fresh_reply : Outcome State → FreshReply
fresh_reply (refused number place) = record { refusal = number; place = place }
fresh_reply (done s) = record { refusal = 0; place = 0 }

-- the answer of a step
abbrev pub step_reply : Outcome Stepped → StepReply
step_reply (refused number place) = record { refusal = number; place = place; event = 0; register = 0; turn = 0; over = 0 }
step_reply (done r) =
    record {
      refusal = 0;
      place = 0;
      event = event_number r.event;
      register = event_register r.event;
      turn = turn_number r.event;
      over = r.over;
    }

-- the answer of a run: the counts of what its picks did
abbrev pub run_reply : Outcome Ran → RunReply
run_reply (refused number place) = record { refusal = number; place = place; steps = 0; idle = 0; commits = 0; back = 0; over = 0 }
run_reply (done r) =
    let c = counts_of r.events in
    record { refusal = 0; place = 0; steps = c.steps; idle = c.idle; commits = c.commits; back = c.back; over = c.over }

-- and what an answer says
abbrev pub saying : {A : Type 0} → (refusal place : ℕ) → A → Outcome A
saying zero place a = done a
saying (suc number) place a = refused (suc number) place

-- what the answer of laying down a fresh state says
abbrev pub fresh_says : FreshReply → Outcome (Unit {0})
fresh_says r = saying r.refusal r.place tt

-- what a step tells: what the pick did, and the sums that it tells of
pub record Told : Type 0 where
  pub event : Event
  pub over : ℕ

-- what a pick tells
abbrev pub tells : Stepped → Told
tells r = record { event = r.event; over = r.over }

-- what the answer of a step says
abbrev pub step_says : StepReply → Outcome Told
step_says r = saying r.refusal r.place (record { event = event_of r.event r.register r.turn; over = r.over })

-- document 02 No. 4: the rule that a step's answer names; none is idle
abbrev pub rule_named : StepReply → Outcome (Option MachineRule)
rule_named r = mapped (λ (t : Told). used_by t.event) (step_says r)

-- what the answer of a run says
abbrev pub run_says : RunReply → Outcome Counts
run_says r = saying r.refusal r.place (record { steps = r.steps; idle = r.idle; commits = r.commits; back = r.back; over = r.over })

-- ---- what a call returns: the registers, counts and records that it leaves, and its answer
pub record Returned (Reply : Type 0) : Type 0 where
  pub state : State
  pub reply : Reply

-- these registers, these counts, these records and this answer
abbrev pub answered : {Reply : Type 0} → List ℤ → List ℕ → List Thread → Reply → Returned Reply
answered rs ns ts reply = record { state = state_from rs ns ts; reply = reply }

-- "A refusal .. alters no lent memory"
abbrev pub returned : {A Reply : Type 0} → (A → State) → (Outcome A → Reply) → State → Outcome A → Returned Reply
returned leaves answer s (refused number place) = record { state = s; reply = answer (refused number place) }
returned leaves answer s (done a) = record { state = leaves a; reply = answer (done a) }

-- what laying down a fresh state returns
unfoldable pub fresh_call : (code : List ℕ) → State → Returned FreshReply
fresh_call code s = returned (λ (r : State). r) fresh_reply s (fresh_of code s)

-- what a step returns
unfoldable pub step_call : (code : List ℕ) → State → (pick : ℕ) → Returned StepReply
step_call code s i = returned (λ (r : Stepped). r.state) step_reply s (step_of code s i)

-- what a run returns
unfoldable pub run_call : (code : List ℕ) → State → (picks : List ℕ) → Returned RunReply
run_call code s is = returned (λ (r : Ran). r.state) run_reply s (run_of code s is)

-- ---- the table's rows 11 to 13, each with the tests before it passed: what a call returns, memory and answer
-- of laying down a fresh state: 11, then 12, else the fresh state
pub data FreshAnswer (code : List ℕ) (s : State) : Returned FreshReply → Type 0 where
  foreign_code : Foreign code → FreshAnswer code s (record { state = s; reply = fresh_reply (refused 11 0) })
  foreign_state :
      {j : Job} → IsCode code j → ((length s.threads ≡ 16) × (length s.registers ≡ 64) × (length s.counts ≡ 64) → ⊥) →
      FreshAnswer code s (record { state = s; reply = fresh_reply (refused 12 0) })
  laid_down :
      {j : Job} → IsCode code j → length s.threads ≡ 16 → length s.registers ≡ 64 → length s.counts ≡ 64 →
      FreshAnswer code s (record { state = fresh code; reply = fresh_reply (done (fresh code)) })

-- of a step: 11, then 12, else one pick
pub data StepAnswer (code : List ℕ) (s : State) (i : ℕ) : Returned StepReply → Type 0 where
  foreign_code : Foreign code → StepAnswer code s i (record { state = s; reply = step_reply (refused 11 0) })
  foreign_state : {j : Job} → IsCode code j → (Fits code s → ⊥) → StepAnswer code s i (record { state = s; reply = step_reply (refused 12 0) })
  picked :
      {j : Job} → IsCode code j → Fits code s →
      StepAnswer code s i (record { state = (pick (sum_of j) code s i).state; reply = step_reply (done (pick (sum_of j) code s i)) })

-- of a run: 11, then 12, then 13, else the picks
pub data RunAnswer (code : List ℕ) (s : State) (is : List ℕ) : Returned RunReply → Type 0 where
  foreign_code : Foreign code → RunAnswer code s is (record { state = s; reply = run_reply (refused 11 0) })
  foreign_state : {j : Job} → IsCode code j → (Fits code s → ⊥) → RunAnswer code s is (record { state = s; reply = run_reply (refused 12 0) })
  long_list :
      {j : Job} → IsCode code j → Fits code s → 32768 < length is →
      RunAnswer code s is (record { state = s; reply = run_reply (refused 13 0) })
  ran :
      {j : Job} → IsCode code j → Fits code s → length is ≤ 32768 →
      RunAnswer code s is (record { state = (run (sum_of j) code s is).state; reply = run_reply (done (run (sum_of j) code s is)) })

-- ---- the counts that an answer reports; a refused call's picks do not count
abbrev pub reporting : (refusal : ℕ) → Counts → Counts
reporting zero c = c
reporting (suc number) c = uncounted

-- a step's: one step, or one idle pick; one commit if it is 9, one send-back if it is 10; the sums that it tells of
abbrev pub step_counts : StepReply → Counts
step_counts r =
    reporting
    r.refusal
    (record {
      steps = more (not (eqb r.event 0)) 0;
      idle = more (eqb r.event 0) 0;
      commits = more (eqb r.event 9) 0;
      back = more (eqb r.event 10) 0;
      over = r.over;
    })

-- a run's, as they stand in its answer
abbrev pub run_counts : RunReply → Counts
run_counts r = reporting r.refusal (record { steps = r.steps; idle = r.idle; commits = r.commits; back = r.back; over = r.over })

-- document 02 No. 4: the threads' numbers of send-backs, added up
unfoldable pub backs_of : List Thread → ℕ
backs_of [] = 0
backs_of (t ∷ ts) = t.backs + backs_of ts
