-- `survey::Verdict::judge` meets its contract. Assumes nothing.
use mathlib.Core.Path.{◌≡◌, refl, sym, ap, ◌∙◌}
use Rattle.std.proofs.Common.{rules}
use Rattle.std.specs.Prelude as std
use Rattle.survey.specs.InnerRecords.{starts_of, ends_of}
use Rattle.survey.specs.InnerWalk.{going, known, verdict_in, walk_from, unfit}
use Rattle.survey.proofs.Steps.{none_good, some_going}
use Rattle.survey.proofs.Judging.{judge_none, judge_differs, judge_agrees, not_there}
use Rattle.survey.proofs.Verdict.judge.Goals as goal

pub returns-then-row-eq0 : goal.returns-then-row-eq0
returns-then-row-eq0 c = ap verdict_in (judge_none c.args.code.now (starts_of c.args.rows.now) (ends_of c.args.rows.now) c.args.row (known c.args.self) refl c.if-row-eq0.true)

pub returns-in_err-w : goal.returns-in_err-w
unfolding unfit
returns-in_err-w c =
    let r : c.from_residual.result ≡ std.None = search rules in
    let g = none_good _ (sym c.walk_to.ensures ∙ c.in_err-w.was) in
    r ∙ ap verdict_in (judge_differs c.args.code.now (starts_of c.args.rows.now) (ends_of c.args.rows.now) c.args.row (known c.args.self) refl c.if-row-eq0.false (walk_from c.args.code.now (starts_of c.args.rows.now) (ends_of c.args.rows.now) c.args.row.start c.args.row.end c.args.row.place c.args.self.asked) refl (not_there _ c.args.row g))

pub returns-then-not-is_agreeing : goal.returns-then-not-is_agreeing
unfolding unfit
returns-then-not-is_agreeing c =
    let e = some_going _ c.in_ok-w.w (sym c.walk_to.ensures ∙ c.in_ok-w.was) in
    ap verdict_in (judge_differs c.args.code.now (starts_of c.args.rows.now) (ends_of c.args.rows.now) c.args.row (known c.args.self) refl c.if-row-eq0.false (going c.in_ok-w.w) (sym e) (sym c.is_agreeing.ensures ∙ c.if-not-is_agreeing.true))

pub returns : goal.returns
returns c =
    let e = some_going _ c.in_ok-w.w (sym c.walk_to.ensures ∙ c.in_ok-w.was) in
    ap verdict_in (judge_agrees c.args.code.now (starts_of c.args.rows.now) (ends_of c.args.rows.now) c.args.row (known c.args.self) refl c.if-row-eq0.false (going c.in_ok-w.w) (sym e) (sym c.is_agreeing.ensures ∙ c.if-not-is_agreeing.false) c.saturating_add-commits.result c.saturating_add-commits.ensures)
