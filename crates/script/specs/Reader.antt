-- The job reader: document 01, "Turning a job down", test by test in its order, and document 02 No. 3. Nobody has to believe it: `accepted_is_job` and
-- `job_is_accepted` (proofs/Accepts), `refused_is_read` and `read_is_refused` (proofs/Refuses) determine it.
use Rattle.std.specs.Prelude.{ℕ, zero, suc, ◌+◌, Bool, cond, not, ◌&&◌, List, [], ◌∷◌, eqb, leb, ltb, length, drop, get_or}
use Rattle.script.specs.Tree.{Proc, ValP, AddP, Atomic, Fork, ValT, AddT, Read, Write, Sort, process, transaction, Tree}
use Rattle.script.specs.Count.{nodes_t}
use Rattle.script.specs.Limits.{most_nodes, most_depth, most_forks, most_transaction}
use Rattle.script.specs.Bytes.{Node, VALP, ADDP, ATOMIC, FORK, VALT, ADDT, READ, WRITE, node_bytes, bytes_p}
use Rattle.script.specs.Jobs.{number16, number32, operand, Due, root, parts_then, fork_of, Job}
use Rattle.script.specs.Outcome.{Outcome, refused, done, refuse, test, tests, onward, mapped}
use Rattle.word.specs.Sum.{signed}

-- a tree for each part that is due
abbrev pub Forest : List Due → Type 0
Forest [] = Unit {0}
Forest (d ∷ ds) = Tree d.sort × Forest ds

-- "processes (kinds 1 to 4)", "transactions (5 to 8)"
unfoldable pub permitted : Sort → ℕ → Bool
permitted process kind = leb 1 kind && leb kind 4
permitted transaction kind = leb 5 kind && leb kind 8

-- the node of a permitted kind, its operand at the front of what follows
unfoldable pub node_of : (s : Sort) → ℕ → List ℕ → Node s
node_of process kind rest =
    cond (eqb kind 1) (VALP (signed (number32 rest))) (cond (eqb kind 2) ADDP (cond (eqb kind 3) ATOMIC FORK))
node_of transaction kind rest =
    cond
    (eqb kind 5)
    (VALT (signed (number32 rest)))
    (cond (eqb kind 6) ADDT (cond (eqb kind 7) (READ (get_or rest 0 0)) (WRITE (get_or rest 0 0))))

-- a node that is due: "1 if no byte is left, 5, 7, 1 if its operand is cut, 6, 8"
unfoldable pub node_at : (d : Due) (forks place : ℕ) → List ℕ → Outcome (Node d.sort)
node_at d forks place [] = refused 1 place
node_at d forks place (kind ∷ rest) =
    tests
    (test (not (permitted d.sort kind)) 5 place
    ∷ test (ltb most_depth d.depth) 7 place
    ∷ test (ltb (length rest) (operand kind)) 1 (place + suc (length rest))
    ∷ test (eqb (operand kind) 1 && leb 64 (get_or rest 0 0)) 6 (place + 1)
    ∷ test (eqb kind 4 && leb most_forks forks) 8 place
    ∷ [])
    (done (node_of d.sort kind rest))

-- the tree of a node and its parts, and then the others
unfoldable pub grown : {s : Sort} (node : Node s) (depth : ℕ) (ds : List Due) → Forest (parts_then node depth ds) → Tree s × Forest ds
grown (VALP n) depth ds ts = (ValP n, ts)
grown ADDP depth ds ts = (AddP ts.0 ts.1.0, ts.1.1)
grown ATOMIC depth ds ts = (Atomic ts.0, ts.1)
grown FORK depth ds ts = (Fork ts.0, ts.1)
grown (VALT n) depth ds ts = (ValT n, ts)
grown ADDT depth ds ts = (AddT ts.0 ts.1.0, ts.1.1)
grown (READ v) depth ds ts = (Read v, ts)
grown (WRITE v) depth ds ts = (Write v ts.0, ts.1)

-- "For each node that is due, left to right: 9 if the count is used up", then the node's own tests;
-- "When the tree is complete: 9 if nodes or bytes are left over".
-- `left` is what is left of the count, `bs` are the bytes from `place` on.
unfoldable pub read_nodes : (left : ℕ) (ds : List Due) (forks place : ℕ) → List ℕ → Outcome (Forest ds)
read_nodes zero [] forks place bs = refuse (not (eqb (length bs) 0)) 9 place (done tt)
read_nodes zero (d ∷ ds) forks place bs = refused 9 place
read_nodes (suc left) [] forks place bs = refused 9 place
read_nodes (suc left) (d ∷ ds) forks place bs =
    onward
    (node_at d forks place bs)
    (λ node. mapped
    (grown node d.depth ds)
    (read_nodes
    left
    (parts_then node d.depth ds)
    (forks + fork_of node)
    (place + length (node_bytes node))
    (drop (length (node_bytes node)) bs)))

-- whether the mark is `WSJ`
unfoldable pub job_marked : List ℕ → Bool
job_marked bs = eqb (get_or bs 0 0) 0x57 && (eqb (get_or bs 1 0) 0x53 && eqb (get_or bs 2 0) 0x4A)

-- the versions taken
unfoldable pub taken : ℕ → Bool
taken version = eqb version 1

-- the job of the tree that was read
abbrev pub whole : ℕ → Outcome (Forest root) → Outcome Job
whole version = mapped (λ ts. record { version = version; tree = ts.0 })

-- document 01's tests. "Job order: fewer than 7 bytes is 1; then 2, 3, 4", then the nodes
unfoldable pub read_tree : List ℕ → Outcome Job
read_tree bs =
    tests
    (test (ltb (length bs) 7) 1 (length bs)
    ∷ test (not (job_marked bs)) 2 0
    ∷ test (not (taken (number16 bs 3))) 3 3
    ∷ test (not (leb 1 (number16 bs 5) && leb (number16 bs 5) most_nodes)) 4 5
    ∷ [])
    (whole (number16 bs 3) (read_nodes (number16 bs 5) root 0 7 (drop 7 bs)))

-- document 02 No. 3's test: 14 at "the kind byte of the first ATOMIC concerned", left to right, p's own kind byte standing at `place`
unfoldable pub short_from : (place : ℕ) → Proc → Outcome (Unit {0})
short_from place (ValP n) = done tt
short_from place (AddP a b) = onward (short_from (suc place) a) (λ _. short_from (suc place + length (bytes_p a)) b)
short_from place (Atomic t) = refuse (ltb most_transaction (nodes_t t)) 14 place (done tt)
short_from place (Fork p) = short_from (suc place) p

-- it comes "after the last test for 9 and before 10"; the root stands behind the header of 7 bytes
abbrev pub short_only : Job → Outcome Job
short_only j = mapped (λ _. j) (short_from 7 j.tree)

-- document 01's tests, then document 02 No. 3's
unfoldable pub read_job : List ℕ → Outcome Job
read_job bs = onward (read_tree bs) short_only
