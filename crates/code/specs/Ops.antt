-- The instruction that stands at a place of the code: document 01, "The stack code".
use Rattle.std.specs.Prelude.{ℕ, cond, not, ◌&&◌, ◌||◌, List, [], ◌∷◌, eqb, leb, ltb, ℤ, length, get_or}
use Rattle.script.specs.Jobs.{number16, number32}
use Rattle.script.specs.Outcome.{Outcome, refused, done, test, tests}
use Rattle.word.specs.Sum.{signed}

-- 11, always at 0
abbrev pub foreign : {A : Type 0} → Outcome A
foreign = refused 11 0

-- an instruction as it stands in the bytes: a FORK has its child's length, and the child behind it
pub data Op : Type 0 where
  push : ℤ → Op
  add : Op
  read write : ℕ → Op
  begin commit : Op
  fork : (size : ℕ) → Op

-- how many bytes an opcode's operand has: "1 PUSH (4 bytes), 2 ADD, 3 READ (1 byte), 4 WRITE (1 byte), 5 BEGIN, 6 COMMIT, 7 FORK (16-bit length)"
unfoldable pub opcode_operand : ℕ → ℕ
opcode_operand opcode = cond (eqb opcode 1) 4 (cond (eqb opcode 3 || eqb opcode 4) 1 (cond (eqb opcode 7) 2 0))

-- the instruction of an opcode from 1 to 7, its operand at the front of what follows
unfoldable pub decoded : ℕ → List ℕ → Op
decoded opcode rest =
    cond
    (eqb opcode 1)
    (push (signed (number32 rest)))
    (cond
    (eqb opcode 2)
    add
    (cond
    (eqb opcode 3)
    (read (get_or rest 0 0))
    (cond
    (eqb opcode 4)
    (write (get_or rest 0 0))
    (cond (eqb opcode 5) begin (cond (eqb opcode 6) commit (fork (number16 rest 0)))))))

-- the instruction at the front: foreign are an unknown opcode, a cut operand, and a register of 64 or more
unfoldable pub op_at : List ℕ → Outcome Op
op_at [] = foreign
op_at (opcode ∷ rest) =
    tests
    (test (not (leb 1 opcode && leb opcode 7)) 11 0
    ∷ test (ltb (length rest) (opcode_operand opcode)) 11 0
    ∷ test (eqb (opcode_operand opcode) 1 && leb 64 (get_or rest 0 0)) 11 0
    ∷ [])
    (done (decoded opcode rest))

-- the bytes of an instruction, its child's code not counted
abbrev pub size_of : Op → ℕ
size_of (push n) = 5
size_of add = 1
size_of (read v) = 2
size_of (write v) = 2
size_of begin = 1
size_of commit = 1
size_of (fork size) = 3
