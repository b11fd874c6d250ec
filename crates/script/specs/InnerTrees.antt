-- For the proofs, nobody has to believe it: what is counted in a process and in a transaction, which numbers they hold and their bytes, as one function of
-- a tree of either sort; and the kind bytes that differ by the sort alone.
use Rattle.std.specs.Prelude.{ℕ, ◌+◌, Bool, true, false, List}
use Rattle.script.specs.Tree.{Sort, process, transaction, Tree}
use Rattle.script.specs.Count.{nodes_t, nodes_p, depth_t, depth_p, forks, code_t, code_p}
use Rattle.script.specs.Limits.{ValuedT, ValuedP}
use Rattle.script.specs.Bytes.{bytes_t, bytes_p}

-- the sort of a part, by whether it is a transaction
abbrev pub sort_of : Bool → Sort
sort_of true = transaction
sort_of false = process

-- the nodes of a tree of either sort
abbrev pub nodes : (s : Sort) → Tree s → ℕ
nodes process p = nodes_p p
nodes transaction t = nodes_t t

-- its depth
abbrev pub depth : (s : Sort) → Tree s → ℕ
depth process p = depth_p p
depth transaction t = depth_t t

-- its FORKs
abbrev pub forks_in : (s : Sort) → Tree s → ℕ
forks_in process p = forks p
forks_in transaction t = 0

-- the bytes of its code
abbrev pub code_size : (s : Sort) → Tree s → ℕ
code_size process p = code_p p
code_size transaction t = code_t t

-- the numbers and registers of a tree of either sort are such as a script has
abbrev pub Valued : (s : Sort) → Tree s → Type 0
Valued process p = ValuedP p
Valued transaction t = ValuedT t

-- the bytes of a tree of either sort
abbrev pub bytes : (s : Sort) → Tree s → List ℕ
bytes process p = bytes_p p
bytes transaction t = bytes_t t

-- the kind byte of a number or a sum, by that of the process; inside a transaction it is four more
abbrev pub kind_in : (inside : Bool) → ℕ → ℕ
kind_in true kind = kind + 4
kind_in false kind = kind
