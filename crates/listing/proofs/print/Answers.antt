-- `listing::print` meets its contract. Assumes nothing.
use Rattle.std.proofs.Common.{◌∙◌}
use Rattle.listing.proofs.Jobs.{too_few, cut, with_job}
use Rattle.listing.proofs.print.Goals as goal

pub returns-then-input-lt2 : goal.returns-then-input-lt2
returns-then-input-lt2 c = rw c.at.ensures at c.put_refused.ensures ∙ too_few _ c.if-input-lt2.true

pub returns-then-input-end : goal.returns-then-input-end
returns-then-input-end c = rw c.at-then-input-end.ensures at c.put_refused-then-input-end.ensures ∙ cut _ _ c.if-input-lt2.false (c.from-n.ensures ∙ c.number16.ensures) c.if-input-end.true

pub returns : goal.returns
returns c = c.put_job.ensures ∙ with_job _ _ c.if-input-lt2.false (c.from-n.ensures ∙ c.number16.ensures) c.if-input-end.false
