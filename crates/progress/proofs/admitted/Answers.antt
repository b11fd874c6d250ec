use mathlib.Core.Path.{◌≡◌, sym, ap, ◌∙◌}
use Rattle.std.proofs.Common.{rules, Err}
use Rattle.progress.specs.declared.Progress.{Progress}
use Rattle.script.specs.Outcome.{refused, done}
use Rattle.terms.specs.Numbers.{outcome, reason_number}
use Rattle.terms.specs.declared.Refusal.{Refusal}
use Rattle.progress.proofs.Refusals.{foreign, unfit, long, begins}
use Rattle.progress.proofs.admitted.Goals as goal

pub returns-in_err-accepted : goal.returns-in_err-accepted
returns-in_err-accepted c =
    let r : c.from_residual.result ≡ Err c.in_err-accepted.field-0.0 = search rules in
    ap outcome r ∙ foreign _ _ _ c.in_err-accepted.ensures _ _ _

pub returns-then-not-fits : goal.returns-then-not-fits
returns-then-not-fits c =
    ap (λ (r : Refusal). refused (reason_number r.reason) r.place) c.at.ensures ∙ unfit _ _ _ _ (rw c.in_ok-accepted.was at c.accepted.ensures) (sym c.fits.ensures ∙ c.if-not-fits.true)

pub returns-then-picks-gt32768 : goal.returns-then-picks-gt32768
returns-then-picks-gt32768 c =
    ap (λ (r : Refusal). refused (reason_number r.reason) r.place) c.at-then-picks-gt32768.ensures ∙ long _ _ _ _ (rw c.in_ok-accepted.was at c.accepted.ensures) (sym c.fits.ensures ∙ c.if-not-fits.false) c.if-picks-gt32768.true

pub returns : goal.returns
returns c =
    ap (λ (p : Progress). done p) c.beginning.ensures ∙ begins _ _ _ _ (rw c.in_ok-accepted.was at c.accepted.ensures) (sym c.fits.ensures ∙ c.if-not-fits.false) c.if-picks-gt32768.false
