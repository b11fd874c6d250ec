-- Document 01, "The stack code": the code's bytes, and which code is foreign.
use Rattle.std.specs.Prelude.{ℕ, ◌≡◌, List, [], ◌∷◌, ◌++◌, length}
use Rattle.code.specs.Compile.{Instruction, Code, PUSH, ADD, READ, WRITE, BEGIN, COMMIT, FORK, ε, ◌⨾◌, compile_p}
use Rattle.script.specs.Limits.{Within}
use Rattle.script.specs.Bytes.{Bytes, bytes16, bytes32}
use Rattle.script.specs.Outcome.{done}
use Rattle.script.specs.Jobs.{Job}
use Rattle.script.specs.Reader.{read_job}
use Rattle.script.specs.Refusal.{Taken}
use Rattle.word.specs.Sum.{residue}

-- "an opcode byte and its operand: 1 PUSH (4 bytes), 2 ADD, 3 READ (1 byte), 4 WRITE (1 byte), 5 BEGIN, 6 COMMIT, 7 FORK (16-bit length)";
-- "FORK is followed by the child's code, of exactly the stated length in bytes"
unfoldable mutual
  pub instruction_bytes : Instruction → List ℕ
  instruction_bytes (PUSH n) = 1 ∷ bytes32 (residue n)
  instruction_bytes ADD = 2 ∷ []
  instruction_bytes (READ v) = 3 ∷ v ∷ []
  instruction_bytes (WRITE v) = 4 ∷ v ∷ []
  instruction_bytes BEGIN = 5 ∷ []
  instruction_bytes COMMIT = 6 ∷ []
  instruction_bytes (FORK c) = 7 ∷ (bytes16 (length (instructions_bytes c)) ++ instructions_bytes c)

  pub instructions_bytes : Code → List ℕ
  instructions_bytes ε = []
  instructions_bytes (i ⨾ c) = instruction_bytes i ++ instructions_bytes c

-- an instruction stands in code, or in the code of a FORK's child there
pub data OccursIn (i : Instruction) : Code → Type 0 where
  first : {c : Code} → OccursIn i (i ⨾ c)
  later : {k : Instruction} {c : Code} → OccursIn i c → OccursIn i (k ⨾ c)
  inside : {child c : Code} → OccursIn i child → OccursIn i (FORK child ⨾ c)

-- the mark `WSC`
unfoldable pub code_mark : List ℕ
code_mark = 0x57 ∷ 0x53 ∷ 0x43 ∷ []

-- "Mark `WSC`, 16-bit version equal to the job's, then instructions"
unfoldable pub code_bytes : (version : ℕ) → Code → List ℕ
code_bytes version c = code_mark ++ (bytes16 version ++ instructions_bytes c)

-- what a job compiles to
unfoldable pub compiled : Job → List ℕ
compiled j = code_bytes j.version (compile_p j.tree ε)

-- the bytes are the code of a tree within the limits, in a version taken
pub record IsCode (bs : List ℕ) (j : Job) : Type 0 where
  pub version : Taken j.version
  pub within : Within j.tree
  pub text : bs ≡ compiled j

-- 11, "no accepted job compiles to it"
abbrev pub Foreign : List ℕ → Type 0
Foreign bs = (job : List ℕ) (j : Job) → Bytes job → read_job job ≡ done j → compiled j ≡ bs → ⊥
