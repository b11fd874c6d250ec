-- `formula::negative` meets its contract. Assumes nothing.
use native.Mathlib.Omega.{arith}
use mathlib.Core.Path.{refl}
use Rattle.parsing.proofs.Laws as L
use Rattle.parsing.proofs.Leaves as E
use Rattle.formula.proofs.negative.Goals as goal

pub returns-in_err-read : goal.returns-in_err-read
returns-in_err-read c = λ opened. rw (L.err_as _ _ c.from_residual.ensures.1) (E.minus_broken c.args.inside _ _ _ _ opened _ _ c.requires.1 _ c.requires.2 c.in_err-read.ensures refl)

pub returns : goal.returns
returns c = λ opened. rw (c.value.ensures.size, c.value.ensures.nodes) (E.minus_read c.args.inside _ _ _ _ opened _ _ c.requires.1 c.in_ok-read.read _ c.wrapping_neg.result c.requires.2 c.in_ok-read.ensures refl (omega (arith, c.wrapping_neg.ensures, c.wrapping_neg.type_inv, c.in_ok-read.ensures.0.small)) c.value.ensures.written c.value.ensures.kept)
