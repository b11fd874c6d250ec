-- Document 02 No. 2: "An open attempt's count is one of its notes; above the ADDs passed since its BEGIN the state is foreign." The theorem
-- `counts_noted` (guarantee/proofs/Notes) says that it holds, for every accepted job.
use Rattle.std.specs.Prelude.{ℕ, suc, ◌+◌, ◌≤◌, ◌<◌, ◌↔◌, ◌≡◌, List, drop, set}
use Rattle.std.proofs.Math.Option.{Option, none, some}
use Rattle.code.specs.Bytes.{compiled}
use Rattle.code.specs.Ops.{Op, op_at}
use Rattle.code.specs.Ops as code
use Rattle.machine.specs.Answers.{step_reply, step_call, run_reply, run_call}
use Rattle.machine.specs.Fits.{next_place, Exists, Fits, Typed}
use Rattle.machine.specs.Steps.{State, thread_at}
use Rattle.script.specs.Jobs.{Job}
use Rattle.script.specs.Outcome.{refused, done}
use Rattle.thread.specs.Threads.{with_notes}

-- the ADDs passed behind an instruction of the same transaction: one more for an ADD; BEGIN and COMMIT are none of its instructions
abbrev pub adds_past : Op → (adds : ℕ) → Option ℕ
adds_past (code.push n) adds = some adds
adds_past code.add adds = some (suc adds)
adds_past (code.read v) adds = some adds
adds_past (code.write v) adds = some adds
adds_past code.begin adds = none
adds_past code.commit adds = none
adds_past (code.fork size) adds = some adds

-- At this place so many ADDs are passed since the BEGIN that stands at `begin`: from behind it on, instruction after instruction.
pub data AddsSince (bytes : List ℕ) (begin : ℕ) : (place adds : ℕ) → Type 0 where
  begun : op_at (drop begin bytes) ≡ done code.begin → AddsSince bytes begin (begin + 1) 0
  passed :
      {place adds more : ℕ} {op : Op} → AddsSince bytes begin place adds → op_at (drop place bytes) ≡ done op → adds_past op adds ≡ some more →
      AddsSince bytes begin (next_place op place) more

module _ (j : Job) where
  -- the job's code
  abbrev its : List ℕ
  its = compiled j

  -- thread i's transaction is open at its place, and so many ADDs are passed since its BEGIN
  abbrev Since : State → ℕ → ℕ → Type 0
  Since s i n = AddsSince its (thread_at s i).begin (thread_at s i).place n

  -- the state with another count among the notes of thread i
  abbrev noting : State → ℕ → (over : ℕ) → State
  noting s i over =
      record {
        registers = s.registers;
        counts = s.counts;
        threads = set s.threads i (with_notes (thread_at s i).begin (thread_at s i).base over (thread_at s i));
      }

  -- which counts fit
  pub record CountsNoted : Type 0 where
    -- where a transaction is open, the ADDs passed since its BEGIN are a number, and one only
    pub some_number : (s : State) → Fits its s → (i : ℕ) → Exists s i → ((thread_at s i).begin ≡ 0 → ⊥) → (n : ℕ) × Since s i n
    pub one_number : (s : State) (i m n : ℕ) → Since s i m → Since s i n → m ≡ n
    -- "above the ADDs passed since its BEGIN the state is foreign"
    pub above : (s : State) (i n : ℕ) → Exists s i → Since s i n → n < (thread_at s i).over → Fits its s → ⊥
    -- and it is for no other count: of a state that fits, another count fits exactly if it is not above them
    pub any_count :
        (s : State) → Fits its s → Typed s → (i n : ℕ) → Exists s i → Since s i n →
        (over : ℕ) → Fits its (noting s i over) ↔ (over ≤ n)
    -- "notes being empty otherwise": where no transaction is open only 0 fits
    pub none_open :
        (s : State) → Fits its s → Typed s → (i : ℕ) → Exists s i → (thread_at s i).begin ≡ 0 →
        (over : ℕ) → Fits its (noting s i over) ↔ (over ≡ 0)
    -- so a call on a higher count is refused, 12 at 0, and alters nothing
    pub step_refused :
        (s : State) → Fits its s → Typed s → (i n : ℕ) → Exists s i → Since s i n → (over : ℕ) → n < over →
        (pick : ℕ) → step_call its (noting s i over) pick ≡ record { state = noting s i over; reply = step_reply (refused 12 0) }
    pub run_refused :
        (s : State) → Fits its s → Typed s → (i n : ℕ) → Exists s i → Since s i n → (over : ℕ) → n < over →
        (picks : List ℕ) → run_call its (noting s i over) picks ≡ record { state = noting s i over; reply = run_reply (refused 12 0) }
