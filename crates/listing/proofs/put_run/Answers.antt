-- `listing::put_run` meets its contract. Assumes nothing.
use Rattle.std.proofs.Common.{◌∙◌}
use Rattle.listing.proofs.Runs.{listing_text, refusal_text}
use Rattle.listing.proofs.put_run.Goals as goal

pub returns-then-ran-eq0 : goal.returns-then-ran-eq0
returns-then-ran-eq0 c = c.put_listing.ensures ∙ listing_text _ _ c.requires.accepted.0 c.requires.accepted.1 _ _ _ _ c.shown-ran.ensures c.if-ran-eq0.true

pub returns-else-ran-eq0 : goal.returns-else-ran-eq0
returns-else-ran-eq0 c = c.put_refusal.ensures ∙ refusal_text _ _ c.requires.accepted.0 c.requires.accepted.1 _ _ _ _ c.shown-ran.ensures c.if-ran-eq0.false
