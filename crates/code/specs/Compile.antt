-- Source 5.2.1 and 5.2.2: instructions, and the compiler.
use Rattle.std.specs.Prelude.{ℕ, ℤ}
use Rattle.script.specs.Tree.{Tran, ValT, AddT, Read, Write, Proc, ValP, AddP, Atomic, Fork}

infixr 40 ◌⨾◌
-- `data Instruction`, FORK holding its child's code; `type Code = [Instruction]`, ε being the empty list and ⨾ its cons
mutual
  pub data Instruction : Type 0 where
    PUSH : ℤ → Instruction
    ADD : Instruction
    READ : ℕ → Instruction
    WRITE : ℕ → Instruction
    BEGIN : Instruction
    COMMIT : Instruction
    FORK : Code → Instruction

  pub data Code : Type 0 where
    ε : Code
    ◌⨾◌ : Instruction → Code → Code

-- `compile_t :: Tran → Code → Code`
unfoldable pub compile_t : Tran → Code → Code
compile_t (ValT i) c = PUSH i ⨾ c
compile_t (AddT x y) c = compile_t x (compile_t y (ADD ⨾ c))
compile_t (Read v) c = READ v ⨾ c
compile_t (Write v e) c = compile_t e (WRITE v ⨾ c)

-- `compile_p :: Proc → Code → Code`
unfoldable pub compile_p : Proc → Code → Code
compile_p (ValP i) c = PUSH i ⨾ c
compile_p (AddP x y) c = compile_p x (compile_p y (ADD ⨾ c))
compile_p (Atomic e) c = BEGIN ⨾ compile_t e (COMMIT ⨾ c)
compile_p (Fork x) c = FORK (compile_p x ε) ⨾ c
