-- `formula::register` meets its contract. Assumes nothing.
use mathlib.Core.Path.{refl}
use Rattle.parsing.proofs.Laws as L
use Rattle.parsing.proofs.Leaves as E
use Rattle.formula.proofs.register.Goals as goal

pub returns-in_err-read : goal.returns-in_err-read
returns-in_err-read c = λ opened. rw (L.err_as _ _ c.from_residual.ensures.1) (E.register_broken _ _ _ _ opened _ _ c.requires.1 c.requires.2 _ c.in_err-read.ensures refl)

pub returns : goal.returns
returns c = λ opened. rw (c.node.ensures.size, c.node.ensures.nodes) (E.register_read _ _ _ _ opened _ _ c.requires.1 c.requires.2 c.in_ok-read.read c.in_ok-read.ensures (rw c.byte.ensures at c.node.ensures.written) c.node.ensures.kept)
