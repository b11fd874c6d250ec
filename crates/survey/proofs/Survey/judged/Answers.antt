-- `survey::Survey::judged` meets its contract. Assumes nothing.
use mathlib.Core.Path.{◌≡◌, refl, sym, ap, ◌∙◌}
use Rattle.std.proofs.Common.{◌+◌, rules}
use Rattle.std.specs.Prelude as std
use Rattle.survey.specs.InnerRecords.{starts_of, ends_of}
use Rattle.survey.specs.InnerWalk.{known, verdict_in, first_verdict, row_at, judge_all}
use Rattle.survey.proofs.Judging.{none_fit, some_known}
use Rattle.survey.proofs.Loops.{judge_again, judge_done, judge_stays}
use Rattle.survey.proofs.Survey.judged.Goals as goal

pub loop-row-init : goal.loop-row-init
loop-row-init c = refl

pub returns-in_err-verdict : goal.returns-in_err-verdict
unfolding judge_all first_verdict
returns-in_err-verdict c =
    let r : c.from_residual.result ≡ std.None = search rules in
    let e = sym c.judge.ensures ∙ c.in_err-verdict.was in
    let g = none_fit _ e in
    r ∙ (sym e ∙ ap verdict_in (judge_stays c.args.code.now (starts_of c.args.self.now.rows) (ends_of c.args.self.now.rows) (row_at c.args.self.now) (c.loop-row.row-index + 1) _ g ∙ (judge_again c.args.code.now (starts_of c.args.self.now.rows) (ends_of c.args.self.now.rows) (row_at c.args.self.now) c.loop-row.row-index (known c.loop-row.verdict) _ c.loop-row-test.true refl ∙ c.loop-row.invariant)))

pub loop-row-preserved : goal.loop-row-preserved
loop-row-preserved c =
    let e = some_known _ c.in_ok-verdict.verdict (sym c.judge.ensures ∙ c.in_ok-verdict.was) in
    judge_again c.args.code.now (starts_of c.args.self.now.rows) (ends_of c.args.self.now.rows) (row_at c.args.self.now) c.loop-row.row-index (known c.loop-row.verdict) (known c.in_ok-verdict.verdict) c.loop-row-test.true (sym e) ∙ c.loop-row.invariant

pub returns : goal.returns
unfolding judge_all first_verdict
returns c = ap verdict_in (sym (judge_done c.args.code.now (starts_of c.args.self.now.rows) (ends_of c.args.self.now.rows) (row_at c.args.self.now) c.loop-row.row-index (known c.loop-row.verdict) c.loop-row-test.false) ∙ c.loop-row.invariant)
