-- Whose code is whose: document 02 No. 1, "the root and .. each FORK's child in job order".
use Rattle.std.specs.Prelude.{ℕ, ◌+◌, List, [], ◌∷◌, ◌++◌}
use Rattle.machine.specs.Steps.{Child}
use Rattle.script.specs.Tree.{Proc, ValP, AddP, Atomic, Fork}
use Rattle.script.specs.Count.{code_p, code_length}

-- the process of each FORK's child, in job order
unfoldable pub child_bodies : Proc → List Proc
child_bodies (ValP n) = []
child_bodies (AddP a b) = child_bodies a ++ child_bodies b
child_bodies (Atomic t) = []
child_bodies (Fork p) = p ∷ child_bodies p

-- the root's process, and then theirs
unfoldable pub bodies : Proc → List Proc
bodies p = p ∷ child_bodies p

-- where the own code of each FORK's child starts and ends, in job order, in code that starts at a place: behind the FORK's three bytes. The
-- child code of the FORKs in it stands in between, though it is not its own.
unfoldable pub child_codes : (place : ℕ) → Proc → List Child
child_codes q (ValP n) = []
child_codes q (AddP a b) = child_codes q a ++ child_codes (q + code_p a) b
child_codes q (Atomic t) = []
child_codes q (Fork p) = record { start = q + 3; end = q + 3 + code_p p } ∷ child_codes (q + 3) p

-- the same of the root, behind mark and version, and then theirs
unfoldable pub own_codes : Proc → List Child
own_codes p = record { start = 5; end = code_length p } ∷ child_codes 5 p

-- no code
abbrev pub nowhere : Child
nowhere = record { start = 0; end = 0 }
