-- What documents 01 and 02 count in a script, each as a fold over its tree.
use Rattle.std.specs.Prelude.{ℕ, suc, ◌+◌, ◌*◌, ◌-◌, max, List, [], ◌∷◌, ◌++◌}
use Rattle.script.specs.Tree.{Tran, ValT, AddT, Read, Write, Proc, ValP, AddP, Atomic, Fork}
use Rattle.word.specs.Registers.{none, with}

-- the nodes of a transaction
unfoldable pub nodes_t : Tran → ℕ
nodes_t (ValT n) = 1
nodes_t (AddT a b) = suc (nodes_t a + nodes_t b)
nodes_t (Read v) = 1
nodes_t (Write v t) = suc (nodes_t t)

-- the nodes of a process
unfoldable pub nodes_p : Proc → ℕ
nodes_p (ValP n) = 1
nodes_p (AddP a b) = suc (nodes_p a + nodes_p b)
nodes_p (Atomic t) = suc (nodes_t t)
nodes_p (Fork p) = suc (nodes_p p)

-- depth, "the root having depth 1"
unfoldable pub depth_t : Tran → ℕ
depth_t (ValT n) = 1
depth_t (AddT a b) = suc (max (depth_t a) (depth_t b))
depth_t (Read v) = 1
depth_t (Write v t) = suc (depth_t t)

-- the depth of a process
unfoldable pub depth_p : Proc → ℕ
depth_p (ValP n) = 1
depth_p (AddP a b) = suc (max (depth_p a) (depth_p b))
depth_p (Atomic t) = suc (depth_t t)
depth_p (Fork p) = suc (depth_p p)

-- FORK nodes
unfoldable pub forks : Proc → ℕ
forks (ValP n) = 0
forks (AddP a b) = forks a + forks b
forks (Atomic t) = 0
forks (Fork p) = suc (forks p)

-- K: ATOMIC nodes, the number of transactions
unfoldable pub atomics : Proc → ℕ
atomics (ValP n) = 0
atomics (AddP a b) = atomics a + atomics b
atomics (Atomic t) = 1
atomics (Fork p) = atomics p

-- T: "1 + FORK nodes"
unfoldable pub threads : Proc → ℕ
threads p = 1 + forks p

-- L: "nodes + ATOMIC nodes"
unfoldable pub instructions : Proc → ℕ
instructions p = nodes_p p + atomics p

-- M: "the longest transaction's instructions, BEGIN and COMMIT included", "0 if there is none"
unfoldable pub longest : Proc → ℕ
longest (ValP n) = 0
longest (AddP a b) = max (longest a) (longest b)
longest (Atomic t) = nodes_t t + 2
longest (Fork p) = longest p

-- document 02 No. 3: the nodes of the longest transaction, "ATOMIC not counted"; 0 if there is none
unfoldable pub longest_nodes : Proc → ℕ
longest_nodes (ValP n) = 0
longest_nodes (AddP a b) = max (longest_nodes a) (longest_nodes b)
longest_nodes (Atomic t) = nodes_t t
longest_nodes (Fork p) = longest_nodes p

-- demand 3: L + (K−1)×(T−1)×M, "or L if K is 0"
unfoldable pub bound : Proc → ℕ
bound p = instructions p + (atomics p - 1) * (threads p - 1) * longest p

-- the code's length in bytes without its mark and version: PUSH 5, ADD 1, READ 2, WRITE 2, BEGIN and COMMIT 1 each, FORK 3
unfoldable pub code_t : Tran → ℕ
code_t (ValT n) = 5
code_t (AddT a b) = code_t a + code_t b + 1
code_t (Read v) = 2
code_t (Write v t) = code_t t + 2

-- the same of a process
unfoldable pub code_p : Proc → ℕ
code_p (ValP n) = 5
code_p (AddP a b) = code_p a + code_p b + 1
code_p (Atomic t) = code_t t + 2
code_p (Fork p) = code_p p + 3

-- the code's length in bytes, its five bytes of mark and version included
unfoldable pub code_length : Proc → ℕ
code_length p = 5 + code_p p

-- the greatest stack height of a thread's own code
unfoldable pub height_t : Tran → ℕ
height_t (ValT n) = 1
height_t (AddT a b) = max (height_t a) (suc (height_t b))
height_t (Read v) = 1
height_t (Write v t) = height_t t

-- the same of a process: FORK pushes 0, and its child has a stack of its own
unfoldable pub height_p : Proc → ℕ
height_p (ValP n) = 1
height_p (AddP a b) = max (height_p a) (suc (height_p b))
height_p (Atomic t) = height_t t
height_p (Fork p) = 1

-- document 02 No. 1: "greatest stack height of the root and of each FORK's child in job order"
unfoldable pub child_heights : Proc → List ℕ
child_heights (ValP n) = []
child_heights (AddP a b) = child_heights a ++ child_heights b
child_heights (Atomic t) = []
child_heights (Fork p) = height_p p ∷ child_heights p

-- the root's, and then theirs
unfoldable pub heights : Proc → List ℕ
heights p = height_p p ∷ child_heights p

-- a set with the registers that READ names in a transaction
unfoldable pub with_reads_t : Tran → (set : ℕ) → ℕ
with_reads_t (ValT n) set = set
with_reads_t (AddT a b) set = with_reads_t b (with_reads_t a set)
with_reads_t (Read v) set = with set v
with_reads_t (Write v t) set = with_reads_t t set

-- a set with the registers that READ names in a process
unfoldable pub with_reads : Proc → (set : ℕ) → ℕ
with_reads (ValP n) set = set
with_reads (AddP a b) set = with_reads b (with_reads a set)
with_reads (Atomic t) set = with_reads_t t set
with_reads (Fork p) set = with_reads p set

-- a set with the registers that WRITE names in a transaction
unfoldable pub with_writes_t : Tran → (set : ℕ) → ℕ
with_writes_t (ValT n) set = set
with_writes_t (AddT a b) set = with_writes_t b (with_writes_t a set)
with_writes_t (Read v) set = set
with_writes_t (Write v t) set = with_writes_t t (with set v)

-- a set with the registers that WRITE names in a process
unfoldable pub with_writes : Proc → (set : ℕ) → ℕ
with_writes (ValP n) set = set
with_writes (AddP a b) set = with_writes b (with_writes a set)
with_writes (Atomic t) set = with_writes_t t set
with_writes (Fork p) set = with_writes p set

-- document 02 No. 1: "the set of registers named by READ"
unfoldable pub read_set : Proc → ℕ
read_set p = with_reads p none

-- document 02 No. 1: "the set named by WRITE"
unfoldable pub write_set : Proc → ℕ
write_set p = with_writes p none
