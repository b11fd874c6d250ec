-- `formula::opening` meets its contract. Assumes nothing.
use mathlib.Core.Path.{sym, ◌∙◌}
use native.Mathlib.Omega.{arith}
use Rattle.parsing.proofs.Laws as L
use Rattle.parsing.proofs.Leaves as E
use Rattle.formula.proofs.opening.Goals as goal

pub digits-requires : goal.digits-requires
digits-requires c = (omega (arith, (L.there _ _ _ (sym c.is_at.ensures ∙ c.if-not-is_at.false)).0), omega arith)

pub returns-in_err-read : goal.returns-in_err-read
returns-in_err-read c = rw (L.err_as _ _ c.from_residual.ensures.1) (E.target_broken _ _ _ 0 _ c.skip-at.ensures (sym c.is_at.ensures ∙ c.if-not-is_at.false) _ c.in_err-read.ensures)

pub returns-then-not-is_at-2 : goal.returns-then-not-is_at-2
returns-then-not-is_at-2 c = E.target_plain _ _ _ _ 0 c.skip-at.ensures (sym c.is_at.ensures ∙ c.if-not-is_at.false) c.in_ok-read.read c.in_ok-read.ensures c.skip-colon.ensures (sym c.is_at-2.ensures ∙ c.if-not-is_at-2.true)

pub returns-then-opened-ge-MOST_OPEN : goal.returns-then-opened-ge-MOST_OPEN
returns-then-opened-ge-MOST_OPEN c = E.target_over _ _ _ _ _ c.skip-at.ensures (sym c.is_at.ensures ∙ c.if-not-is_at.false) c.in_ok-read.read c.in_ok-read.ensures c.skip-colon.ensures (sym c.is_at-2.ensures ∙ c.if-not-is_at-2.false) c.if-opened-ge-MOST_OPEN.true

pub returns-then-not-is_at-3 : goal.returns-then-not-is_at-3
returns-then-not-is_at-3 c = E.target_half _ _ _ _ _ c.skip-at.ensures (sym c.is_at.ensures ∙ c.if-not-is_at.false) c.in_ok-read.read c.in_ok-read.ensures c.skip-colon.ensures (sym c.is_at-2.ensures ∙ c.if-not-is_at-2.false) c.if-opened-ge-MOST_OPEN.false (sym c.is_at-3.ensures ∙ c.if-not-is_at-3.true)

pub returns : goal.returns
returns c = E.target_write _ _ _ _ _ c.skip-at.ensures (sym c.is_at.ensures ∙ c.if-not-is_at.false) c.in_ok-read.read c.in_ok-read.ensures c.skip-colon.ensures (sym c.is_at-2.ensures ∙ c.if-not-is_at-2.false) c.if-opened-ge-MOST_OPEN.false (sym c.is_at-3.ensures ∙ c.if-not-is_at-3.false)
