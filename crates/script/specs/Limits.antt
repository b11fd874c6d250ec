-- Which trees are scripts, and the limits of a job: document 01's, and document 02 No. 3's.
use Rattle.std.specs.Prelude.{ℕ, ◌≤◌, ◌<◌}
use Rattle.script.specs.Tree.{Tran, ValT, AddT, Read, Write, Proc, ValP, AddP, Atomic, Fork}
use Rattle.script.specs.Count.{nodes_p, depth_p, forks, longest_nodes}
use Rattle.word.specs.Sum.{InRange}

-- "n is a signed 32-bit number and v a register, 0 to 63"
abbrev pub ValuedT : Tran → Type 0
ValuedT (ValT n) = InRange n
ValuedT (AddT a b) = ValuedT a × ValuedT b
ValuedT (Read v) = v < 64
ValuedT (Write v t) = (v < 64) × ValuedT t

-- the same of a process
abbrev pub ValuedP : Proc → Type 0
ValuedP (ValP n) = InRange n
ValuedP (AddP a b) = ValuedP a × ValuedP b
ValuedP (Atomic t) = ValuedT t
ValuedP (Fork p) = ValuedP p

-- "Node count 1 to 1,000; depth at most 64, the root having depth 1; at most 15 FORKs"
abbrev pub most_nodes : ℕ
most_nodes = 1000

-- "depth at most 64"
abbrev pub most_depth : ℕ
most_depth = 64

-- "at most 15 FORKs"
abbrev pub most_forks : ℕ
most_forks = 15

-- a tree within document 01's limits
pub record Sized (p : Proc) : Type 0 where
  pub valued : ValuedP p
  pub few : nodes_p p ≤ most_nodes
  pub flat : depth_p p ≤ most_depth
  pub narrow : forks p ≤ most_forks

-- document 02 No. 3: "A transaction may hold at most 200 nodes, ATOMIC not counted"
abbrev pub most_transaction : ℕ
most_transaction = 200

-- a tree within the limits of documents 01 and 02
pub record Within (p : Proc) : Type 0 where
  pub sized : Sized p
  pub short : longest_nodes p ≤ most_transaction
