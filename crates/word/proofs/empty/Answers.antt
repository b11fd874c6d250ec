-- `word::empty` meets its contract. Assumes nothing.
use mathlib.Core.Path.{refl}
use Rattle.word.specs.Registers.{none}
use Rattle.word.proofs.empty.Goals as goal

pub returns : goal.returns
unfolding none
returns c = refl
