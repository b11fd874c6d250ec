-- How the source's threads stand in a state: their code in the bytes, their stack in the cells.
use Rattle.std.specs.Prelude.{ℕ, zero, suc, ◌+◌, ◌<◌, ◌≡◌, List, [], ◌∷◌, ◌++◌, ℤ, pos, length, get_or}
use Rattle.code.specs.Compile.{Instruction, Code, PUSH, ADD, READ, WRITE, BEGIN, COMMIT, FORK, ε, ◌⨾◌}
use Rattle.code.specs.Bytes.{instructions_bytes}
use Rattle.word.specs.Sum.{InRange}

-- the code c stands in the bytes from a place up to an end
pub record Stands (bytes : List ℕ) (place end : ℕ) (c : Code) : Type 0 where
  pub front : List ℕ
  pub rest : List ℕ
  pub text : bytes ≡ front ++ (instructions_bytes c ++ rest)
  pub from : length front ≡ place
  pub until : place + length (instructions_bytes c) ≡ end

-- so many stack cells above a height, the topmost first
unfoldable pub stack_from : (cells : List ℤ) (base count : ℕ) → List ℤ
stack_from cells base zero = []
stack_from cells base (suc k) = get_or cells (k + base) (pos 0) ∷ stack_from cells base k

-- operands in range, in each FORK's child too
unfoldable mutual
  pub ValuedI : Instruction → Type 0
  ValuedI (PUSH n) = InRange n
  ValuedI ADD = Unit {0}
  ValuedI (READ v) = v < 64
  ValuedI (WRITE v) = v < 64
  ValuedI BEGIN = Unit {0}
  ValuedI COMMIT = Unit {0}
  ValuedI (FORK k) = (length (instructions_bytes k) < 65536) × ValuedC k

  pub ValuedC : Code → Type 0
  ValuedC ε = Unit {0}
  ValuedC (i ⨾ c) = ValuedI i × ValuedC c
