-- Document 02 No. 7: "From now on no entry alters its output behind its result." The theorem `outputs` (printing/proofs/Outputs) says that it holds.
use Rattle.std.specs.Prelude.{ℕ, List, ◌≡◌, length, drop}
use Rattle.compiler.specs.CompileTo.{compile_to}
use Rattle.decompiler.specs.ReadBackTo.{read_back_to}
use Rattle.delivery.specs.Delivered.{Delivered, delivered}
use Rattle.script.specs.Outcome as answer
use Rattle.formula.specs.FormulaTo.{formula_to}
use Rattle.listing.specs.Listed.{listed}
use Rattle.machine.specs.Answers.{fresh_call, step_call, run_call}
use Rattle.machine.specs.Fits.{Typed}
use Rattle.machine.specs.Steps.{State}
use Rattle.script.specs.Bytes.{Bytes}
use Rattle.script.specs.Outcome.{done}

-- What a call comes to for each output that is lent to it: a result of n bytes leaves what is behind them as it was, and a refusal all of it.
pub record KeepsBehind (call : (before : List ℕ) → Delivered) : Type 0 where
  pub behind : (before : List ℕ) (n : ℕ) → (call before).answer ≡ answer.done n → drop n (call before).output ≡ drop n before
  pub refused : (before : List ℕ) (number place : ℕ) → (call before).answer ≡ answer.refused number place → (call before).output ≡ before

-- 64 registers, 64 counts and 16 records are lent, no more: the whole of it is the result of the calls on states
pub record NothingBehind (s : State) : Type 0 where
  pub registers : length s.registers ≡ 64
  pub counts : length s.counts ≡ 64
  pub records : length s.threads ≡ 16

-- the exported calls; the forecast is lent no output
pub record Outputs : Type 0 where
  pub formula : (text : List ℕ) → KeepsBehind (formula_to text)
  pub compile : (job : List ℕ) → KeepsBehind (compile_to job)
  pub read_back : (code : List ℕ) → KeepsBehind (read_back_to code)
  pub report : (input : List ℕ) → KeepsBehind (delivered (done (listed input)))
  -- a call on a state that is taken; one that is refused alters nothing (`Demand1`, guarantee/specs)
  pub fresh : (code : List ℕ) (s : State) → Bytes code → (fresh_call code s).reply.refusal ≡ 0 → NothingBehind s
  pub step : (code : List ℕ) (s : State) (pick : ℕ) → Bytes code → Typed s → (step_call code s pick).reply.refusal ≡ 0 → NothingBehind s
  pub run : (code : List ℕ) (s : State) (picks : List ℕ) → Bytes code → Typed s → (run_call code s picks).reply.refusal ≡ 0 → NothingBehind s
