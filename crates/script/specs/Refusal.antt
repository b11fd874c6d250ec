-- Which bytes are a job, and document 01, "Turning a job down", as a relation: a constructor for each row of the table, 1 to 9 and
-- document 02 No. 3's 14, with its place.
use Rattle.std.specs.Prelude.{ℕ, zero, suc, ◌+◌, ◌≤◌, ◌<◌, ◌≡◌, ◌⊎◌, List, [], ◌∷◌, ◌++◌, length, drop, take}
use Rattle.script.specs.Tree.{Tran, Proc, AddP, Atomic, Fork, Sort, process, transaction}
use Rattle.script.specs.Count.{nodes_t}
use Rattle.script.specs.Limits.{most_nodes, most_depth, most_forks, most_transaction, Sized, Within}
use Rattle.script.specs.Bytes.{Node, VALP, ADDP, ATOMIC, FORK, VALT, ADDT, READ, WRITE, node_bytes, bytes_p, job_mark, job_bytes}
use Rattle.script.specs.Jobs.{Due, number16, operand, parts_then, fork_of, Job, root}
use Rattle.word.specs.Sum.{InRange}

-- "processes (kinds 1 to 4)", "transactions (5 to 8)"
abbrev pub Permitted : Sort → ℕ → Type 0
Permitted process kind = (1 ≤ kind) × (kind ≤ 4)
Permitted transaction kind = (5 ≤ kind) × (kind ≤ 8)

-- the versions taken
abbrev pub Taken : ℕ → Type 0
Taken version = version ≡ 1

-- the bytes are those of a tree within the limits, in a version taken
pub record IsJob (bs : List ℕ) (j : Job) : Type 0 where
  pub version : Taken j.version
  pub within : Within j.tree
  pub text : bs ≡ job_bytes j.version j.tree

-- the bytes are those of a tree within document 01's limits, in a version taken: exactly these meet no test for 1 to 9
pub record IsTree (bs : List ℕ) (j : Job) : Type 0 where
  pub version : Taken j.version
  pub sized : Sized j.tree
  pub text : bs ≡ job_bytes j.version j.tree

-- ATOMIC t is a node of p, and its kind byte stands so many bytes behind p's own
pub data AtomicAt (t : Tran) : Proc → ℕ → Type 0 where
  itself : AtomicAt t (Atomic t) 0
  in_left : {a b : Proc} {i : ℕ} → AtomicAt t a i → AtomicAt t (AddP a b) (1 + i)
  in_right : {a b : Proc} {i : ℕ} → AtomicAt t b i → AtomicAt t (AddP a b) (1 + length (bytes_p a) + i)
  in_child : {p : Proc} {i : ℕ} → AtomicAt t p i → AtomicAt t (Fork p) (1 + i)

-- "the first ATOMIC concerned" of p stands there: its transaction is too long, and no other such ATOMIC stands before it
pub record FirstLong (p : Proc) (i : ℕ) : Type 0 where
  pub body : Tran
  pub stands : AtomicAt body p i
  pub long : most_transaction < nodes_t body
  pub first : (t : Tran) (k : ℕ) → AtomicAt t p k → most_transaction < nodes_t t → i ≤ k

-- a node's operand is a number in range or a register below 64
abbrev pub ValuedN : {s : Sort} → Node s → Type 0
ValuedN (VALP n) = InRange n
ValuedN ADDP = Unit {0}
ValuedN ATOMIC = Unit {0}
ValuedN FORK = Unit {0}
ValuedN (VALT n) = InRange n
ValuedN ADDT = Unit {0}
ValuedN (READ v) = v < 64
ValuedN (WRITE v) = v < 64

-- the header passes its tests, up to the one named last
pub record Headed (bs : List ℕ) : Type 0 where
  pub enough : 7 ≤ length bs

-- and its mark is `WSJ`
pub record Marked (bs : List ℕ) : Type 0 where
  pub before : Headed bs
  pub mark : take 3 bs ≡ job_mark

-- and its version is one that is taken
pub record Versioned (bs : List ℕ) : Type 0 where
  pub before : Marked bs
  pub version : Taken (number16 bs 3)

-- and its node count is 1 to 1,000: the whole header passes
pub record Counted (bs : List ℕ) : Type 0 where
  pub before : Versioned bs
  pub some : 1 ≤ number16 bs 5
  pub few : number16 bs 5 ≤ most_nodes

-- The reader of bs has read the header and some nodes, each of which passed its tests. What is left of the count, what is due,
-- the FORKs so far, the place where the next node is due or where the tree ended, and the bytes from there on.
pub data Reaches (bs : List ℕ) : (left : ℕ) (due : List Due) (forks place : ℕ) (rest : List ℕ) → Type 0 where
  start : Counted bs → Reaches bs (number16 bs 5) root 0 7 (drop 7 bs)
  next : {left : ℕ} {d : Due} {ds : List Due} {forks place : ℕ} {rest : List ℕ} (node : Node d.sort) →
      Reaches bs (suc left) (d ∷ ds) forks place (node_bytes node ++ rest) →
      ValuedN node →
      d.depth ≤ most_depth →
      forks + fork_of node ≤ most_forks →
      Reaches bs left (parts_then node d.depth ds) (forks + fork_of node) (place + length (node_bytes node)) rest

-- a node is due, the count is not used up, and its kind byte is there
pub record DueNode (bs : List ℕ) : Type 0 where
  pub left : ℕ
  pub due : Due
  pub others : List Due
  pub forks : ℕ
  pub place : ℕ
  pub kind : ℕ
  pub rest : List ℕ
  pub reached : Reaches bs (suc left) (due ∷ others) forks place (kind ∷ rest)

-- its kind is permitted there, and its depth at most 64
pub record Allowed {bs : List ℕ} (n : DueNode bs) : Type 0 where
  pub permitted : Permitted n.due.sort n.kind
  pub flat : n.due.depth ≤ most_depth

-- The job of bytes bs is refused with this number at this place.
pub data Refused (bs : List ℕ) : (number place : ℕ) → Type 0 where
  -- 1, "bytes end too early", at "the input's length": fewer than 7 bytes, no byte left for a node, a cut operand
  cut_header : length bs < 7 → Refused bs 1 (length bs)
  cut_node : {left : ℕ} {d : Due} {ds : List Due} {forks place : ℕ} →
      Reaches bs (suc left) (d ∷ ds) forks place [] →
      Refused bs 1 (length bs)
  cut_operand : (n : DueNode bs) → Allowed n → length n.rest < operand n.kind → Refused bs 1 (length bs)
  -- 2, "not `WSJ`", at 0
  mark : Headed bs → (take 3 bs ≡ job_mark → ⊥) → Refused bs 2 0
  -- 3, "not 1", at 3
  version : Marked bs → (Taken (number16 bs 3) → ⊥) → Refused bs 3 3
  -- 4, "node count 0 or above 1,000", at 5
  count : Versioned bs → (number16 bs 5 ≡ 0) ⊎ (most_nodes < number16 bs 5) → Refused bs 4 5
  -- 5, "unknown kind, or one not permitted there", at the kind byte
  kind : (n : DueNode bs) → (Permitted n.due.sort n.kind → ⊥) → Refused bs 5 n.place
  -- 6, "64 or more", at the register byte
  register : {v : ℕ} {behind : List ℕ} (n : DueNode bs) → Allowed n →
      operand n.kind ≡ 1 →
      n.rest ≡ v ∷ behind →
      64 ≤ v →
      Refused bs 6 (n.place + 1)
  -- 7, "a node at depth 65", at the kind byte
  depth : (n : DueNode bs) → Permitted n.due.sort n.kind → most_depth < n.due.depth → Refused bs 7 n.place
  -- 8, "a sixteenth FORK", at the kind byte
  forks : (n : DueNode bs) → Allowed n → n.kind ≡ 4 → most_forks ≤ n.forks → Refused bs 8 n.place
  -- 9, "nodes or bytes do not match the count", "where the next node is due or where the tree ended"
  used_up : {d : Due} {ds : List Due} {forks place : ℕ} {rest : List ℕ} → Reaches bs zero (d ∷ ds) forks place rest → Refused bs 9 place
  nodes_over : {left forks place : ℕ} {rest : List ℕ} → Reaches bs (suc left) [] forks place rest → Refused bs 9 place
  bytes_over : {left forks place b : ℕ} {rest : List ℕ} → Reaches bs left [] forks place (b ∷ rest) → Refused bs 9 place
  -- 14, document 02 No. 3, "long transaction", at "the kind byte of the first ATOMIC concerned", behind the header of 7 bytes
  long : {j : Job} {i : ℕ} → IsTree bs j → FirstLong j.tree i → Refused bs 14 (7 + i)
