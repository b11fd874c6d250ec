-- For the proof of `compile` only: what its functions do.
use Rattle.std.specs.Prelude.{ℕ, ◌+◌, ◌≤◌, ◌≡◌, List, [], ◌∷◌, ◌++◌, length, drop, get_or}
use Rattle.compiler.specs.declared.Part.{Part}
use Rattle.delivery.specs.Delivered.{onto}
use Rattle.code.specs.Compile.{ε, compile_t, compile_p}
use Rattle.code.specs.Bytes.{instructions_bytes, code_mark}
use Rattle.script.specs.Tree.{Sort, process, transaction, Tree}
use Rattle.script.specs.InnerTrees.{depth, bytes}
use Rattle.script.specs.Bytes.{bytes16}

-- the place behind a node in the job, and the bytes of code written for it
abbrev pub part : (next size : ℕ) → Part
part next size = record { next = next; size = size }

-- what is put to the front of the output
abbrev pub code_header : ℕ → List ℕ
code_header version = code_mark ++ bytes16 version

-- a PUSH of the number behind the kind byte at i
abbrev pub push_bytes : List ℕ → ℕ → List ℕ
push_bytes job i = 1 ∷ get_or job (i + 1) 0 ∷ get_or job (i + 2) 0 ∷ get_or job (i + 3) 0 ∷ get_or job (i + 4) 0 ∷ []

-- a READ of the register behind the kind byte at i
abbrev pub read_bytes : List ℕ → ℕ → List ℕ
read_bytes job i = 3 ∷ get_or job (i + 1) 0 ∷ []

-- a FORK with a child of this size
abbrev pub fork_bytes : ℕ → List ℕ
fork_bytes size = 7 ∷ bytes16 size

-- the bytes of a tree's code
abbrev pub tree_code : (s : Sort) → Tree s → List ℕ
tree_code process p = instructions_bytes (compile_p p ε)
tree_code transaction t = instructions_bytes (compile_t t ε)

-- the job has t at a place
pub record Has (job : List ℕ) (i : ℕ) (s : Sort) (t : Tree s) : Type 0 where
  pub rest : List ℕ
  pub text : drop i job ≡ bytes s t ++ rest

-- a tree stands at a place, at most d deep, and its code fits n bytes
pub record Emittable (job : List ℕ) (i d n : ℕ) : Type 0 where
  pub sort : Sort
  pub tree : Tree sort
  pub there : Has job i sort tree
  pub flat : depth sort tree ≤ d
  pub room : length (tree_code sort tree) ≤ n

-- the tree at a place is emitted
pub record Emitted (i : ℕ) (r : Part) (before after : List ℕ) (s : Sort) (t : Tree s) : Type 0 where
  pub answer : r ≡ part (i + length (bytes s t)) (length (tree_code s t))
  pub output : after ≡ onto (tree_code s t) before
