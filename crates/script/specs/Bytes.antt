-- Document 01, "The job, as bytes".
use Rattle.std.specs.Prelude.{ℕ, ◌/◌, ◌%◌, ◌<◌, List, [], ◌∷◌, ◌++◌, ℤ, get_or, length}
use Rattle.script.specs.Tree.{Tran, ValT, AddT, Read, Write, Proc, ValP, AddP, Atomic, Fork, Sort, process, transaction}
use Rattle.script.specs.Count.{nodes_p}
use Rattle.word.specs.Sum.{residue}

-- what a list of bytes has by its type
pub record Bytes (bs : List ℕ) : Type 0 where
  pub small : (i : ℕ) → i < length bs → get_or bs i 0 < 256

-- "Numbers of more than one byte have the high byte first"
unfoldable pub bytes16 : ℕ → List ℕ
bytes16 n = n / 256 % 256 ∷ n % 256 ∷ []

-- the same in four bytes
unfoldable pub bytes32 : ℕ → List ℕ
bytes32 n = n / 16777216 % 256 ∷ n / 65536 % 256 ∷ n / 256 % 256 ∷ n % 256 ∷ []

-- a node: its kind and its operand
pub data Node : Sort → Type 0 where
  VALP : ℤ → Node process
  ADDP ATOMIC FORK : Node process
  VALT : ℤ → Node transaction
  ADDT : Node transaction
  READ WRITE : ℕ → Node transaction

-- the table of kinds: "A node is a kind byte and its operand"
unfoldable pub node_bytes : {s : Sort} → Node s → List ℕ
node_bytes (VALP n) = 1 ∷ bytes32 (residue n)
node_bytes ADDP = 2 ∷ []
node_bytes ATOMIC = 3 ∷ []
node_bytes FORK = 4 ∷ []
node_bytes (VALT n) = 5 ∷ bytes32 (residue n)
node_bytes ADDT = 6 ∷ []
node_bytes (READ v) = 7 ∷ v ∷ []
node_bytes (WRITE v) = 8 ∷ v ∷ []

-- "the nodes in prefix order, left part first"
unfoldable pub bytes_t : Tran → List ℕ
bytes_t (ValT n) = node_bytes (VALT n)
bytes_t (AddT a b) = node_bytes ADDT ++ (bytes_t a ++ bytes_t b)
bytes_t (Read v) = node_bytes (READ v)
bytes_t (Write v t) = node_bytes (WRITE v) ++ bytes_t t

-- the same of a process
unfoldable pub bytes_p : Proc → List ℕ
bytes_p (ValP n) = node_bytes (VALP n)
bytes_p (AddP a b) = node_bytes ADDP ++ (bytes_p a ++ bytes_p b)
bytes_p (Atomic t) = node_bytes ATOMIC ++ bytes_t t
bytes_p (Fork p) = node_bytes FORK ++ bytes_p p

-- the mark `WSJ`
unfoldable pub job_mark : List ℕ
job_mark = 0x57 ∷ 0x53 ∷ 0x4A ∷ []

-- "A job is: mark `WSJ`, 16-bit version 1, 16-bit node count, then the nodes in prefix order, left part first"; here of any version
unfoldable pub job_bytes : (version : ℕ) → Proc → List ℕ
job_bytes version p = job_mark ++ (bytes16 version ++ (bytes16 (nodes_p p) ++ bytes_p p))
