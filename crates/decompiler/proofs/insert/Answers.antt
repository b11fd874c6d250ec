-- `decompiler::insert` meets its contract. Assumes nothing.
use mathlib.Core.Path.{ap, ◌∙◌}
use native.Mathlib.Omega.{arith}
use Rattle.delivery.specs.InnerPlaces.{placed_at}
use Rattle.delivery.proofs.Places.{placed_moved}
use Rattle.decompiler.proofs.insert.Goals as goal

pub returns : goal.returns
returns c = c.put.ensures ∙ (ap (placed_at c.args.start c.args.bytes.now) c.shift.ensures ∙ placed_moved c.args.start c.args.end c.args.bytes.now c.args.out.now (omega arith) (omega arith))
