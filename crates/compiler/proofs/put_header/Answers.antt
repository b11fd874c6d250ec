-- `compiler::put_header` meets its contract. Assumes nothing.
use mathlib.Core.Path.{◌∙◌}
use Rattle.code.specs.Bytes.{code_mark}
use Rattle.script.specs.Bytes.{bytes16}
use Rattle.compiler.proofs.put_header.Goals as goal

pub returns : goal.returns
unfolding code_mark bytes16
returns c = c.put.ensures ∙ rw (c.high.ensures, c.low.ensures, c.from-version.ensures)
