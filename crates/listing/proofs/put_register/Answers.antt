-- `listing::put_register` meets its contract. Assumes nothing.
use Rattle.std.proofs.Common.{◌≡◌, ◌++◌, pos, sym, ap, ◌∙◌, append-nil, to_z-of_z, to_z, of_z, w32}
use Rattle.listing.specs.Listed.{ascii}
use Rattle.listing.proofs.Lines.{registered, no_line}
use Rattle.listing.proofs.put_register.Goals as goal

pub returns-then-n-ne0-clause-text : goal.returns-then-n-ne0-clause-text
unfolding ascii
returns-then-n-ne0-clause-text c =
    registered c.args.page.now c.put_number.new.self _ c.args.v c.args.n _ (λ (e : c.args.n ≡ pos 0). c.if-n-ne0.true (ap (of_z w32) e)) (to_z-of_z c.ranges.n) c.put_number.ensures.text c.put_integer.ensures.text

pub returns-else-n-ne0-clause-text : goal.returns-else-n-ne0-clause-text
returns-else-n-ne0-clause-text c = sym (append-nil c.args.page.now) ∙ ap (c.args.page.now ++◌) (no_line c.args.v c.args.n (sym (to_z-of_z c.ranges.n) ∙ ap (to_z w32) c.if-n-ne0.false))
