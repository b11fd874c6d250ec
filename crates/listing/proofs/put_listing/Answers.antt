-- `listing::put_listing` meets its contract. Assumes nothing.
use Rattle.std.proofs.Common.{append_assoc}
use Rattle.listing.specs.Listed.{listing}
use Rattle.listing.proofs.put_listing.Goals as goal

pub returns : goal.returns
unfolding listing
returns c = simp (c.put_registers.ensures, c.put_threads.ensures.text, c.put_counts.ensures.text, append_assoc)
