-- `compiler::put_fork` meets its contract. Assumes nothing.
use mathlib.Core.Path.{refl, ◌∙◌}
use Rattle.script.specs.Bytes.{bytes16}
use Rattle.compiler.proofs.put_fork.Goals as goal

pub returns : goal.returns
unfolding bytes16
returns c = (refl, c.put.ensures ∙ rw (c.high.ensures, c.low.ensures, c.byte.ensures))
