-- `listing::page::Page::put_integer` meets its contract. Assumes nothing.
use Rattle.std.proofs.Common.{append_assoc, to_z-of_z}
use Rattle.listing.specs.Listed.{ascii}
use Rattle.listing.proofs.Lines.{signed_digits}
use Rattle.listing.proofs.page.Page.put_integer.Goals as goal

pub returns-clause-text : goal.returns-clause-text
unfolding ascii
returns-clause-text c =
    simp (c.put-2.ensures, c.put_number.ensures.text, c.unsigned_abs.ensures.value, c.put_sign.ensures.text, c.put.ensures, to_z-of_z c.ranges.n, append_assoc, signed_digits)
