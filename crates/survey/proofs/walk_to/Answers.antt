-- `survey::walk_to` meets its contract: the loop follows the definition's walk, and what is left to the target falls. Assumes nothing.
use mathlib.Core.Path.{◌≡◌, refl, sym, ap, subst, ◌∙◌}
use native.Mathlib.Omega.{arith}
use Rattle.std.proofs.Common.{rules}
use Rattle.std.specs.Prelude as std
use Rattle.survey.specs.InnerRecords.{starts_of, ends_of}
use Rattle.survey.specs.InnerWalk.{Trail, going, walk_in, lost_walk, step_to}
use Rattle.survey.proofs.Steps.{none_good, some_going}
use Rattle.survey.proofs.Walks.{Loop, begins, low_height, few_adds, few_commits, arrives, misses, ends_early, step_stops, step_goes, step_further}
use Rattle.survey.proofs.walk_to.Goals as goal

pub loop-walk-init : goal.loop-walk-init
loop-walk-init c = begins c.args.code.now (starts_of c.args.rows.now) (ends_of c.args.rows.now) c.args.row.start c.args.row.end c.args.row.place c.args.asked

pub returns-then-walk-row : goal.returns-then-walk-row
unfolding lost_walk
returns-then-walk-row c = ap walk_in (ends_early c.args.code.now (starts_of c.args.rows.now) (ends_of c.args.rows.now) c.args.row.start c.args.row.end c.args.row.place c.args.asked (going c.loop-walk.walk) c.loop-walk.invariant (λ e. omega arith) c.if-walk-row.true)

pub step-requires : goal.step-requires
step-requires c = (omega arith, low_height c.args.code.now (starts_of c.args.rows.now) (ends_of c.args.rows.now) c.args.row.start c.args.row.end c.args.row.place c.args.asked (going c.loop-walk.walk) c.loop-walk.invariant, few_adds c.args.code.now (starts_of c.args.rows.now) (ends_of c.args.rows.now) c.args.row.start c.args.row.end c.args.row.place c.args.asked (going c.loop-walk.walk) c.loop-walk.invariant, few_commits c.args.code.now (starts_of c.args.rows.now) (ends_of c.args.rows.now) c.args.row.start c.args.row.end c.args.row.place c.args.asked (going c.loop-walk.walk) c.loop-walk.invariant)

pub returns-in_err-walk : goal.returns-in_err-walk
returns-in_err-walk c =
    let r : c.from_residual.result ≡ std.None = search rules in
    let e = sym c.step.ensures ∙ c.in_err-walk.was in
    r ∙ (sym e ∙ ap walk_in (step_stops c.args.code.now (starts_of c.args.rows.now) (ends_of c.args.rows.now) c.args.row.start c.args.row.end c.args.row.place c.args.asked (going c.loop-walk.walk) c.loop-walk.invariant (λ (e : c.loop-walk.walk.place ≡ c.args.row.place). omega arith) c.loop-walk-test.true c.if-walk-row.false c.op_at-op.result (step_to (starts_of c.args.rows.now) (ends_of c.args.rows.now) c.args.row.place (going c.loop-walk.walk) c.op_at-op.result) c.op_at-op.ensures refl (none_good _ e)))

pub loop-walk-smaller : goal.loop-walk-smaller
loop-walk-smaller c =
    let e = some_going _ c.in_ok-walk.walk (sym c.step.ensures ∙ c.in_ok-walk.was) in
    let h = step_further c.args.code.now (starts_of c.args.rows.now) (ends_of c.args.rows.now) c.args.row.start c.args.row.end c.args.row.place c.args.asked (going c.loop-walk.walk) c.loop-walk.invariant (λ (e : c.loop-walk.walk.place ≡ c.args.row.place). omega arith) c.loop-walk-test.true c.if-walk-row.false c.op_at-op.result (step_to (starts_of c.args.rows.now) (ends_of c.args.rows.now) c.args.row.place (going c.loop-walk.walk) c.op_at-op.result) c.op_at-op.ensures refl (ap (λ (t : Trail). t.good) e) in
    let k = ap (λ (t : Trail). t.place) e in
    omega arith

pub loop-walk-preserved : goal.loop-walk-preserved
loop-walk-preserved c =
    let e = some_going _ c.in_ok-walk.walk (sym c.step.ensures ∙ c.in_ok-walk.was) in
    subst (Loop c.args.code.now (starts_of c.args.rows.now) (ends_of c.args.rows.now) c.args.row.start c.args.row.end c.args.row.place c.args.asked) e (step_goes c.args.code.now (starts_of c.args.rows.now) (ends_of c.args.rows.now) c.args.row.start c.args.row.end c.args.row.place c.args.asked (going c.loop-walk.walk) c.loop-walk.invariant (λ (e : c.loop-walk.walk.place ≡ c.args.row.place). omega arith) c.loop-walk-test.true c.if-walk-row.false c.op_at-op.result (step_to (starts_of c.args.rows.now) (ends_of c.args.rows.now) c.args.row.place (going c.loop-walk.walk) c.op_at-op.result) c.op_at-op.ensures refl (ap (λ (t : Trail). t.good) e))

pub returns-then-walk-row-2 : goal.returns-then-walk-row-2
unfolding lost_walk
returns-then-walk-row-2 c = ap walk_in (misses c.args.code.now (starts_of c.args.rows.now) (ends_of c.args.rows.now) c.args.row.start c.args.row.end c.args.row.place c.args.asked (going c.loop-walk.walk) c.loop-walk.invariant c.if-walk-row-2.true)

pub returns : goal.returns
returns c = ap walk_in (arrives c.args.code.now (starts_of c.args.rows.now) (ends_of c.args.rows.now) c.args.row.start c.args.row.end c.args.row.place c.args.asked (going c.loop-walk.walk) c.loop-walk.invariant (omega arith))
