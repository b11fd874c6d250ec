-- `listing::put_thread` meets its contract. Assumes nothing.
use Rattle.std.proofs.Common.{rules, to_z-of_z, w32}
use Rattle.listing.specs.Listed.{ascii}
use Rattle.listing.proofs.Lines.{done, open-thread}
use Rattle.listing.proofs.put_thread.Goals as goal

pub returns-then-t-clause-text : goal.returns-then-t-clause-text
unfolding ascii
returns-then-t-clause-text c =
    done c.args.page.now c.put_number.new.self _ c.args.i c.args.t.now _ c.if-t.true (to_z-of_z {w = w32} (search rules)) c.put_number.ensures.text c.put_integer.ensures.text

pub returns-else-t-clause-text : goal.returns-else-t-clause-text
unfolding ascii
returns-else-t-clause-text c = open-thread c.args.page.now c.put_number.new.self _ c.args.i c.args.t.now c.if-t.false c.put_number.ensures.text c.put.ensures
