-- `listing::put_counts` meets its contract. Assumes nothing.
use Rattle.listing.specs.Listed.{ascii}
use Rattle.listing.proofs.Lines.{counts_put}
use Rattle.listing.proofs.put_counts.Goals as goal

pub returns-clause-text : goal.returns-clause-text
unfolding ascii
returns-clause-text c =
    counts_put c.args.page.now c.put_number.new.self c.put_number-2.new.self c.put_number-3.new.self c.put_number-4.new.self c.put_number-5.new.self _ _ c.requires c.put_number.ensures.text c.put_number-2.ensures.text c.put_number-3.ensures.text
    c.put_number-4.ensures.text c.put_number-5.ensures.text c.put.ensures
