-- For proofs only: what a part on the reader's stack holds of the job that the code becomes.
use Rattle.std.specs.Prelude.{ℕ, ◌+◌, List, [], ◌∷◌, ◌++◌}
use Rattle.code.specs.Reader.{Item, proc, tran, begun, forked}
use Rattle.script.specs.Bytes.{bytes_t, bytes_p}
use Rattle.script.specs.Count.{nodes_t, nodes_p, depth_t, depth_p, forks}

-- what a part is to the scan, and what it holds
abbrev pub item_kind : Item → ℕ
item_kind (proc p) = 2
item_kind (tran t) = 3
item_kind begun = 0
item_kind (forked n) = 1

-- its depth
abbrev pub item_depth : Item → ℕ
item_depth (proc p) = depth_p p
item_depth (tran t) = depth_t t
item_depth begun = 1
item_depth (forked n) = 1

-- its nodes
abbrev pub item_nodes : Item → ℕ
item_nodes (proc p) = nodes_p p
item_nodes (tran t) = nodes_t t
item_nodes begun = 1
item_nodes (forked n) = 1

-- its FORKs
abbrev pub item_forks : Item → ℕ
item_forks (proc p) = forks p
item_forks (tran t) = 0
item_forks begun = 0
item_forks (forked n) = 1

-- its bytes in the job
abbrev pub item_bytes : Item → List ℕ
item_bytes (proc p) = bytes_p p
item_bytes (tran t) = bytes_t t
item_bytes begun = 3 ∷ []
item_bytes (forked n) = 4 ∷ []

-- the job's bytes of a stack, the lowest item first
unfoldable pub job_text : List Item → List ℕ
job_text [] = []
job_text (x ∷ s) = job_text s ++ item_bytes x

-- a stack's nodes and FORKs
unfoldable pub nodes_i : List Item → ℕ
nodes_i [] = 0
nodes_i (x ∷ s) = nodes_i s + item_nodes x

-- a stack's FORKs
unfoldable pub forks_i : List Item → ℕ
forks_i [] = 0
forks_i (x ∷ s) = forks_i s + item_forks x
