-- For the proofs, nobody has to believe it: `instruction_bytes` says it already. `fork_length` (proofs/Lengths) says that every FORK of a job's code does so.
use Rattle.std.specs.Prelude.{ℕ, ◌+◌, ◌*◌, ◌≡◌, ◌∷◌, length}
use Rattle.code.specs.Bytes.{instruction_bytes, instructions_bytes}
use Rattle.code.specs.Compile.{Code, FORK}

-- "of exactly the stated length in bytes": the two bytes behind a FORK's opcode hold the length of its child's code, which follows
pub record StatesLength (child : Code) : Type 0 where
  pub high : ℕ
  pub low : ℕ
  pub text : instruction_bytes (FORK child) ≡ 7 ∷ high ∷ low ∷ instructions_bytes child
  pub exact : high * 256 + low ≡ length (instructions_bytes child)
