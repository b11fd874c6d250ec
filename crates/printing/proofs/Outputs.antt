-- No entry alters its output behind its result. Assumes nothing.
use Prim.Native.Nat.{ℕ}
use mathlib.Core.List.{List}
use mathlib.Core.Path.{◌≡◌, refl}
use native.Mathlib.Omega.{arith}
use Rattle.compiler.specs.CompileTo.{compile_to}
use Rattle.decompiler.specs.ReadBackTo.{read_back_to}
use Rattle.delivery.specs.Delivered.{delivered}
use Rattle.delivery.proofs.Delivers.{refused_keeps, behind_keeps}
use Rattle.formula.specs.FormulaTo.{formula_to}
use Rattle.guarantee.proofs.Demands.{demand_1}
use Rattle.machine.specs.Answers as rows
use Rattle.machine.specs.Answers.{Returned, fresh_call, step_call, run_call, FreshAnswer, StepAnswer, RunAnswer}
use Rattle.machine.specs.Fits.{Typed, Fits}
use Rattle.machine.specs.Steps.{State}
use Rattle.machine.specs.declared.FreshReply.{FreshReply}
use Rattle.machine.specs.declared.StepReply.{StepReply}
use Rattle.machine.specs.declared.RunReply.{RunReply}
use Rattle.script.specs.Bytes.{Bytes}
use Rattle.script.specs.Outcome.{Outcome}
use Rattle.printing.specs.Outputs.{KeepsBehind, NothingBehind, Outputs}

delivered_keeps : (o : Outcome (List ℕ)) → KeepsBehind (delivered o)
delivered_keeps o = record { behind = behind_keeps o; refused = refused_keeps o }

formula_keeps : (text : List ℕ) → KeepsBehind (formula_to text)
unfolding formula_to
formula_keeps text = delivered_keeps _

compile_keeps : (job : List ℕ) → KeepsBehind (compile_to job)
unfolding compile_to
compile_keeps job = delivered_keeps _

read_back_keeps : (code : List ℕ) → KeepsBehind (read_back_to code)
unfolding read_back_to
read_back_keeps code = delivered_keeps _

fitting_lengths : {code : List ℕ} {s : State} → Fits code s → NothingBehind s
fitting_lengths f = record { registers = f.registers; counts = f.counts; records = f.records }

fresh_lengths : (code : List ℕ) (s : State) → Bytes code → (fresh_call code s).reply.refusal ≡ 0 → NothingBehind s
fresh_lengths code s b e = go _ ((demand_1.fresh code s b _).1 refl) e
  where
    go : (r : Returned FreshReply) → FreshAnswer code s r → r.reply.refusal ≡ 0 → NothingBehind s
    go _ (rows.FreshAnswer.foreign_code f) e = absurd (omega (arith, e))
    go _ (rows.FreshAnswer.foreign_state c f) e = absurd (omega (arith, e))
    go _ (rows.FreshAnswer.laid_down c t r n) e = record { registers = r; counts = n; records = t }

step_lengths : (code : List ℕ) (s : State) (pick : ℕ) → Bytes code → Typed s → (step_call code s pick).reply.refusal ≡ 0 → NothingBehind s
step_lengths code s pick b y e = go _ ((demand_1.step code s pick b y _).1 refl) e
  where
    go : (r : Returned StepReply) → StepAnswer code s pick r → r.reply.refusal ≡ 0 → NothingBehind s
    go _ (rows.StepAnswer.foreign_code f) e = absurd (omega (arith, e))
    go _ (rows.StepAnswer.foreign_state c f) e = absurd (omega (arith, e))
    go _ (rows.StepAnswer.picked c f) e = fitting_lengths f

run_lengths : (code : List ℕ) (s : State) (picks : List ℕ) → Bytes code → Typed s → (run_call code s picks).reply.refusal ≡ 0 → NothingBehind s
run_lengths code s picks b y e = go _ ((demand_1.run code s picks b y _).1 refl) e
  where
    go : (r : Returned RunReply) → RunAnswer code s picks r → r.reply.refusal ≡ 0 → NothingBehind s
    go _ (rows.RunAnswer.foreign_code f) e = absurd (omega (arith, e))
    go _ (rows.RunAnswer.foreign_state c f) e = absurd (omega (arith, e))
    go _ (rows.RunAnswer.long_list c f l) e = absurd (omega (arith, e))
    go _ (rows.RunAnswer.ran c f l) e = fitting_lengths f

pub outputs : Outputs
outputs =
    record {
      formula = formula_keeps;
      compile = compile_keeps;
      read_back = read_back_keeps;
      report = λ input. delivered_keeps _;
      fresh = fresh_lengths;
      step = step_lengths;
      run = run_lengths;
    }
