-- What `hand_out` answers, from the job reader's answer. Assumes nothing.
use Prim.Native.Nat.{ℕ}
use mathlib.Core.Path.{◌≡◌, refl, ap, ◌∙◌}
use mathlib.Core.List.{List}
use Rattle.std.specs.Prelude.{Ok, Err}
use Rattle.delivery.specs.Delivered.{Delivered, delivered}
use Rattle.terms.specs.declared.Refusal.{Refusal}
use Rattle.terms.specs.Numbers.{outcome, reason_number}
use Rattle.job.specs.declared.Accepted.{Accepted}
use Rattle.job.specs.Answer.{answer}
use Rattle.script.specs.Outcome.{Outcome, refused, done, mapped}
use Rattle.script.specs.Jobs.{Job}
use Rattle.script.specs.Reader.{read_job}
use Rattle.formula.specs.FormulaTo.{if_accepted}

refused_by : (o : Outcome Job) (n p : ℕ) → refused n p ≡ answer o → o ≡ refused n p
refused_by (refused m q) n p e =
    let a : m ≡ n = cc in
    let b : q ≡ p = cc in
    rw (a, b)
refused_by (done j) n p e = cc

accepted_by : (o : Outcome Job) (a : Accepted) (job : List ℕ) → done a ≡ answer o → mapped (λ _. job) o ≡ done job
accepted_by (refused m q) a job e = cc
accepted_by (done j) a job e = refl

module _ (job before : List ℕ) where
  pub turned-down : (r : Refusal) → outcome (Err r) ≡ answer (read_job job) → delivered (if_accepted job) before ≡ record { answer = outcome (Err r); output = before }
  unfolding delivered
  turned-down r e = rw (refused_by (read_job job) (reason_number r.reason) r.place e)

  pub handed : (a : Accepted) (d : Delivered) → outcome (Ok a) ≡ answer (read_job job) → delivered (done job) before ≡ d → delivered (if_accepted job) before ≡ d
  handed a d e f = ap (λ (o : Outcome (List ℕ)). delivered o before) (accepted_by (read_job job) a job e) ∙ f
