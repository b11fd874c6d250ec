-- `listing::put_refusal` meets its contract. Assumes nothing.
use Rattle.std.proofs.Common.{append_assoc}
use Rattle.listing.specs.Listed.{ascii, refusal_line}
use Rattle.listing.proofs.put_refusal.Goals as goal

pub returns : goal.returns
unfolding ascii refusal_line
returns c = simp (c.put.ensures, c.put_number-2.ensures.text, c.put_number.ensures.text, c.requires, append_assoc)
