-- `text::room` meets its contract. Assumes nothing.
use Rattle.std.proofs.Common.{refl}
use Rattle.text.specs.Texts.{zeros}
use Rattle.text.proofs.room.Goals as goal

pub returns-clause-zero : goal.returns-clause-zero
unfolding zeros
returns-clause-zero g c = refl
