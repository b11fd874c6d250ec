-- The bytes of a tree's code, by structure: what `compile_t` and `compile_p` put in front of the code that they are handed, and how long it is.
-- Assumes nothing.
use Prim.Native.Nat.{ℕ}
use mathlib.Core.Path.{◌≡◌, refl}
use mathlib.Core.List.{List, [], ◌∷◌, ◌++◌, append_assoc, append-nil}
use native.Mathlib.Omega.{arith}
use lib.ListN.{length, length-append}
use Rattle.code.specs.Compile.{Code, ADD, WRITE, COMMIT, ε, ◌⨾◌, compile_t, compile_p}
use Rattle.code.specs.Bytes.{instruction_bytes, instructions_bytes, code_mark, code_bytes, compiled}
use Rattle.script.specs.Tree.{Tran, ValT, AddT, Read, Write, Proc, ValP, AddP, Atomic, Fork}
use Rattle.script.specs.Count.{code_t, code_p, code_length}
use Rattle.script.specs.Bytes.{bytes16, bytes32}
use Rattle.script.specs.Jobs.{Job}
use Rattle.word.specs.Sum.{residue}

unfoldable pub flat_t : Tran → List ℕ
flat_t (ValT n) = 1 ∷ bytes32 (residue n)
flat_t (AddT a b) = flat_t a ++ (flat_t b ++ (2 ∷ []))
flat_t (Read v) = 3 ∷ v ∷ []
flat_t (Write v t) = flat_t t ++ (4 ∷ v ∷ [])

unfoldable pub flat_p : Proc → List ℕ
flat_p (ValP n) = 1 ∷ bytes32 (residue n)
flat_p (AddP a b) = flat_p a ++ (flat_p b ++ (2 ∷ []))
flat_p (Atomic t) = 5 ∷ (flat_t t ++ (6 ∷ []))
flat_p (Fork p) = 7 ∷ (bytes16 (length (flat_p p)) ++ flat_p p)

pub flat_tran : (t : Tran) (c : Code) → instructions_bytes (compile_t t c) ≡ flat_t t ++ instructions_bytes c
unfolding compile_t instructions_bytes instruction_bytes flat_t
flat_tran (ValT n) c = refl
flat_tran (AddT a b) c =
    rw (flat_tran a (compile_t b (ADD ⨾ c)), flat_tran b (ADD ⨾ c), append_assoc (flat_t a) (flat_t b ++ (2 ∷ [])) (instructions_bytes c), append_assoc (flat_t b) (2 ∷ []) (instructions_bytes c))
flat_tran (Read v) c = refl
flat_tran (Write v t) c = rw (flat_tran t (WRITE v ⨾ c), append_assoc (flat_t t) (4 ∷ v ∷ []) (instructions_bytes c))

pub flat_proc : (p : Proc) (c : Code) → instructions_bytes (compile_p p c) ≡ flat_p p ++ instructions_bytes c
unfolding compile_p instructions_bytes instruction_bytes flat_p
flat_proc (ValP n) c = refl
flat_proc (AddP a b) c =
    rw (flat_proc a (compile_p b (ADD ⨾ c)), flat_proc b (ADD ⨾ c), append_assoc (flat_p a) (flat_p b ++ (2 ∷ [])) (instructions_bytes c), append_assoc (flat_p b) (2 ∷ []) (instructions_bytes c))
flat_proc (Atomic t) c = rw (flat_tran t (COMMIT ⨾ c), append_assoc (flat_t t) (6 ∷ []) (instructions_bytes c))
flat_proc (Fork p) c = rw (flat_proc p ε, append-nil (flat_p p))

-- the code of a job, flat
pub compiled_flat : (j : Job) → compiled j ≡ code_mark ++ (bytes16 j.version ++ flat_p j.tree)
unfolding compiled code_bytes instructions_bytes
compiled_flat j = rw (flat_proc j.tree ε, append-nil (flat_p j.tree))

-- the code's length is the fold's
pub flat_length_t : (t : Tran) → length (flat_t t) ≡ code_t t
unfolding flat_t code_t bytes32
flat_length_t (ValT n) = refl
flat_length_t (AddT a b) =
    rw (length-append (flat_t a) (flat_t b ++ (2 ∷ [])), length-append (flat_t b) (2 ∷ []), flat_length_t a, flat_length_t b) (omega arith)
flat_length_t (Read v) = refl
flat_length_t (Write v t) = rw (length-append (flat_t t) (4 ∷ v ∷ []), flat_length_t t)

pub flat_length_p : (p : Proc) → length (flat_p p) ≡ code_p p
unfolding flat_p code_p bytes32 bytes16
flat_length_p (ValP n) = refl
flat_length_p (AddP a b) =
    rw (length-append (flat_p a) (flat_p b ++ (2 ∷ [])), length-append (flat_p b) (2 ∷ []), flat_length_p a, flat_length_p b) (omega arith)
flat_length_p (Atomic t) = rw (length-append (flat_t t) (6 ∷ []), flat_length_t t) (omega arith)
flat_length_p (Fork p) = rw (flat_length_p p) (omega arith)

pub code-length : (j : Job) → length (compiled j) ≡ code_length j.tree
unfolding code_length code_mark bytes16
code-length j = rw (compiled_flat j, flat_length_p j.tree) (omega arith)
