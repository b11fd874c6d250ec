-- `listing::page::Page::put_number` meets its contract. Assumes nothing.
use Rattle.std.proofs.Common.{◌≡◌, take, ◌∙◌, append_assoc}
use Rattle.listing.specs.Listed.{decimal}
use Rattle.listing.proofs.Pages.{decimal_digits}
use Rattle.listing.proofs.page.Page.put_number.Goals as goal

pub returns-clause-text : goal.returns-clause-text
returns-clause-text c =
    let d : take c.decimal-k.result c.decimal-k.new.out ≡ decimal c.args.n = c.decimal-k.ensures.digits ∙ decimal_digits _ _ c.decimal-k.ensures.len in
    simp (c.put-2.ensures, d, c.put.ensures, append_assoc)
