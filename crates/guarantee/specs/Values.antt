-- What every slice has by its type, in the kit's own terms: each entry is a value of the slice's type.
use Rattle.std.specs.Prelude.{List, [], ◌∷◌}
use mir.Val.{Val}
use Rattle.std.specs.Borrow.{RattleType}
use denote.Laws.{Is}

-- a value of a type: some machine values spell it
abbrev pub Valued : (R : RattleType) → R.Denot → Type 0
Valued R x = (vs : List Val) × Is R x vs

-- each entry is one
unfoldable pub AllValued : (R : RattleType) → List R.Denot → Type 0
AllValued R [] = Unit {0}
AllValued R (x ∷ xs) = Valued R x × AllValued R xs
