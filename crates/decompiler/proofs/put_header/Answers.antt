-- `decompiler::put_header` meets its contract. Assumes nothing.
use mathlib.Core.Path.{◌∙◌}
use Rattle.decompiler.specs.InnerParts.{job_header}
use Rattle.script.specs.Bytes.{job_mark, bytes16}
use Rattle.decompiler.proofs.put_header.Goals as goal

pub returns : goal.returns
unfolding job_header job_mark bytes16
returns c = c.put.ensures ∙ rw (c.high.ensures, c.low.ensures)
