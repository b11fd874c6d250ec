-- `delivery::deliver` meets its contract. Assumes nothing.
use Rattle.delivery.proofs.Delivers.{too_short, delivers}
use Rattle.delivery.proofs.deliver.Goals as goal

pub returns-then-out-length : goal.returns-then-out-length
returns-then-out-length c = rw c.at.ensures (too_short _ _ c.if-out-length.true)

pub returns : goal.returns
returns c = rw c.copy_from_slice.ensures.after (delivers _ _ c.if-out-length.false)
