-- `delivery::shift` meets its contract. Assumes nothing.
use Rattle.std.proofs.Common.{arith, ◌∙◌}
use Rattle.delivery.proofs.Places.{moved_none, moved_out, moved_within}
use Rattle.delivery.proofs.shift.Goals as goal
use Rattle.delivery.proofs.shift.Goals.{then-end-start-via-then-end-start, then-end-start-via-else-end-start+then-out-by, then-end-start-via-else-end-start+else-out-by+then-out-by-2}

pub returns-then-end-start : goal.returns-then-end-start
returns-then-end-start c = elim c.then-end-start.branch [
  | then-end-start-via-then-end-start w ↦ moved_none _ _ _ _ w.if-end-start.true
  | then-end-start-via-else-end-start+then-out-by w ↦ moved_out _ _ _ _ (omega (arith, w.if-out-by.true))
  | then-end-start-via-else-end-start+else-out-by+then-out-by-2 w ↦ moved_out _ _ _ _ (omega (arith, w.if-out-by.false, w.if-out-by-2.true))
]

pub returns : goal.returns
returns c = c.copy_within.ensures.after ∙ moved_within _ _ _ _ c.if-end-start.false (omega (arith, c.if-out-by.false, c.if-out-by-2.false))
