-- `engine::known` meets its contract. Assumes nothing.
use mathlib.Core.Path.{refl}
use Rattle.engine.proofs.Rows.{known_thread}
use Rattle.engine.proofs.known.Goals as goal

pub returns : goal.returns
returns c = let k = known_thread c.args.t _ c.well_formed.0 in record { same = refl; typed = k.typed; ranged = k.ranged }
