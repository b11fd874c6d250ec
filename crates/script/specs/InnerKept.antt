-- For the proofs, nobody has to believe it: what every turn keeps, the table of 64 registers, and "n is a signed 32-bit number and v a register, 0 to 63".
-- `turns_keep` (proofs/Turns) says that it holds after every list of turns.
use Rattle.std.specs.Prelude.{ℕ, ◌≡◌, pos, length, get_or}
use Rattle.script.specs.Tree.{ValP}
use Rattle.script.specs.Limits.{ValuedP}
use Rattle.script.specs.Turns.{Registers, Script}
use Rattle.word.specs.Sum.{InRange}

-- 64 registers, each of them a number of 32 bits
pub record Table (rs : Registers) : Type 0 where
  pub whole : length rs ≡ 64
  pub counts : (v : ℕ) → InRange (get_or rs v (pos 0))

-- and so are the numbers of every thread, which names registers 0 to 63 only
pub record Kept (s : Script) : Type 0 where
  pub table : Table s.registers
  pub valued : (i : ℕ) → ValuedP (get_or s.threads i (ValP (pos 0)))
