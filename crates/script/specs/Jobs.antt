-- What the tests of a job's bytes speak of: document 01, "The job, as bytes".
use Rattle.std.specs.Prelude.{ℕ, suc, ◌+◌, ◌*◌, cond, ◌||◌, List, [], ◌∷◌, eqb, get_or}
use Rattle.script.specs.Tree.{Proc, Sort, process, transaction}
use Rattle.script.specs.Bytes.{Node, VALP, ADDP, ATOMIC, FORK, VALT, ADDT, READ, WRITE}

-- a job: its version and its tree
pub record Job : Type 0 where
  pub version : ℕ
  pub tree : Proc

-- "Numbers of more than one byte have the high byte first": the number that two bytes hold, and four
abbrev pub number16 : List ℕ → ℕ → ℕ
number16 bs i = get_or bs i 0 * 256 + get_or bs (suc i) 0

-- the number that the first four bytes hold
abbrev pub number32 : List ℕ → ℕ
number32 bs = ((get_or bs 0 0 * 256 + get_or bs 1 0) * 256 + get_or bs 2 0) * 256 + get_or bs 3 0

-- the table of kinds: how many bytes a kind's operand has
unfoldable pub operand : ℕ → ℕ
operand kind = cond (eqb kind 1 || eqb kind 5) 4 (cond (eqb kind 7 || eqb kind 8) 1 0)

-- a part that is due: a process or a transaction, and the depth of its node
pub record Due : Type 0 where
  pub sort : Sort
  pub depth : ℕ

-- the root is a process, "the root having depth 1"
abbrev pub root : List Due
root = record { sort = process; depth = 1 } ∷ []

-- a part of a node at a depth
abbrev pub under : Sort → ℕ → Due
under sort depth = record { sort = sort; depth = suc depth }

-- what is due behind a node at a depth: its parts, and then what was due before. "The root and the parts of ADDP and FORK are
-- processes", "The parts of ATOMIC, ADDT and WRITE are transactions"
abbrev pub parts_then : {s : Sort} → Node s → ℕ → List Due → List Due
parts_then (VALP n) depth ds = ds
parts_then ADDP depth ds = under process depth ∷ under process depth ∷ ds
parts_then ATOMIC depth ds = under transaction depth ∷ ds
parts_then FORK depth ds = under process depth ∷ ds
parts_then (VALT n) depth ds = ds
parts_then ADDT depth ds = under transaction depth ∷ under transaction depth ∷ ds
parts_then (READ v) depth ds = ds
parts_then (WRITE v) depth ds = under transaction depth ∷ ds

-- how many FORKs a node is: 1 for a FORK
unfoldable pub fork_of : {s : Sort} → Node s → ℕ
fork_of (VALP n) = 0
fork_of ADDP = 0
fork_of ATOMIC = 0
fork_of FORK = 1
fork_of (VALT n) = 0
fork_of ADDT = 0
fork_of (READ v) = 0
fork_of (WRITE v) = 0
