use mathlib.Core.Path.{◌≡◌, ap, ◌∙◌}
use Rattle.std.proofs.Common.{rules, Err}
use Rattle.script.specs.Outcome.{refused}
use Rattle.terms.specs.Numbers.{outcome, reason_number}
use Rattle.terms.specs.declared.Refusal.{Refusal}
use Rattle.progress.proofs.Refusals.{fresh_foreign, laid, not_laid, other_records, other_registers, other_counts}
use Rattle.progress.proofs.fresh_admitted.Goals.{then-records-ne16-via-then-records-ne16, then-records-ne16-via-else-records-ne16+then-registers-ne64, then-records-ne16-via-else-records-ne16+else-registers-ne64+then-counts-ne64}
use Rattle.progress.proofs.fresh_admitted.Goals as goal

pub returns-in_err-accepted : goal.returns-in_err-accepted
returns-in_err-accepted c =
    let r : c.from_residual.result ≡ Err c.in_err-accepted.field-0.0 = search rules in
    ap outcome r ∙ fresh_foreign _ _ _ c.in_err-accepted.ensures _ _ _

pub returns-then-records-ne16 : goal.returns-then-records-ne16
returns-then-records-ne16 c =
    ap (λ (r : Refusal). refused (reason_number r.reason) r.place) c.at.ensures ∙ not_laid c.args.registers c.args.counts c.args.records _ (rw c.in_ok-accepted.was at c.accepted.ensures)
    (elim c.then-records-ne16.branch [
      | then-records-ne16-via-then-records-ne16 w ↦ other_records c.args.registers c.args.counts c.args.records w.if-records-ne16.true
      | then-records-ne16-via-else-records-ne16+then-registers-ne64 w ↦ other_registers c.args.registers c.args.counts c.args.records w.if-records-ne16.false w.if-registers-ne64.true
      | then-records-ne16-via-else-records-ne16+else-registers-ne64+then-counts-ne64 w ↦ other_counts c.args.registers c.args.counts c.args.records w.if-records-ne16.false w.if-registers-ne64.false w.if-counts-ne64.true
    ])

pub returns : goal.returns
returns c =
    laid _ _ _ _ (rw c.in_ok-accepted.was at c.accepted.ensures) c.if-records-ne16.false c.if-registers-ne64.false c.if-counts-ne64.false
