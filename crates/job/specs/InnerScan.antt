-- For the proof of `read_job` only: what its functions do, a step of `read_nodes` on the parts that are due.
use Rattle.std.specs.Prelude.{ℕ, ◌+◌, ◌-◌, ◌≤◌, ◌<◌, Bool, true, false, cond, List, [], ◌∷◌, map, reverse, ltb, Option, Some, None}
use Rattle.job.specs.declared.Cursor.{Cursor}
use Rattle.job.specs.declared.Due.{Due}
use Rattle.job.specs.declared.Transactions.{Transactions}
use Rattle.script.specs.InnerTrees.{sort_of}
use Rattle.script.specs.Tree.{Sort}
use Rattle.script.specs.Bytes.{Node, VALP, ADDP, ATOMIC, FORK, VALT, ADDT, READ, WRITE}
use Rattle.script.specs.Outcome.{Outcome, mapped}
use Rattle.script.specs.Jobs.{Due as Part, operand}
use Rattle.terms.specs.Numbers.{kind_number}
use Rattle.terms.specs.declared.Kind.{Kind}
use Rattle.terms.specs.declared.Kind.TheVariants as kind

-- a node's kind
abbrev pub node_kind : {s : Sort} → Node s → Kind
node_kind (VALP n) = kind.Valp
node_kind ADDP = kind.Addp
node_kind ATOMIC = kind.Atomic
node_kind FORK = kind.Fork
node_kind (VALT n) = kind.Valt
node_kind ADDT = kind.Addt
node_kind (READ v) = kind.Read
node_kind (WRITE v) = kind.Write

-- what `node` answers
abbrev pub tested : {s : Sort} → Outcome (Node s) → Outcome Kind
tested = mapped node_kind

-- whether a kind is one of transactions
abbrev pub of_transactions : Kind → Bool
of_transactions kind.Valp = false
of_transactions kind.Addp = false
of_transactions kind.Atomic = false
of_transactions kind.Fork = false
of_transactions kind.Valt = true
of_transactions kind.Addt = true
of_transactions kind.Read = true
of_transactions kind.Write = true

-- how many bytes of code a kind adds
abbrev pub code_of_kind : Kind → ℕ
code_of_kind kind.Valp = 5
code_of_kind kind.Addp = 1
code_of_kind kind.Atomic = 2
code_of_kind kind.Fork = 3
code_of_kind kind.Valt = 5
code_of_kind kind.Addt = 1
code_of_kind kind.Read = 2
code_of_kind kind.Write = 2

-- 1 for a FORK
abbrev pub forks_of_kind : Kind → ℕ
forks_of_kind kind.Valp = 0
forks_of_kind kind.Addp = 0
forks_of_kind kind.Atomic = 0
forks_of_kind kind.Fork = 1
forks_of_kind kind.Valt = 0
forks_of_kind kind.Addt = 0
forks_of_kind kind.Read = 0
forks_of_kind kind.Write = 0

-- a node's parts, at this depth
abbrev pub parts_of : Kind → (depth : ℕ) → List Due
parts_of kind.Valp depth = []
parts_of kind.Addp depth = record { depth = depth; transaction = false } ∷ record { depth = depth; transaction = false } ∷ []
parts_of kind.Atomic depth = record { depth = depth; transaction = true } ∷ []
parts_of kind.Fork depth = record { depth = depth; transaction = false } ∷ []
parts_of kind.Valt depth = []
parts_of kind.Addt depth = record { depth = depth; transaction = true } ∷ record { depth = depth; transaction = true } ∷ []
parts_of kind.Read depth = []
parts_of kind.Write depth = record { depth = depth; transaction = true } ∷ []

-- a part that is due, and all of them, the next one first
abbrev pub due_part : Due → Part
due_part d = record { sort = sort_of d.transaction; depth = d.depth }

abbrev pub due_list : List Due → List Part
due_list items = map due_part (reverse items)

-- before the first node
abbrev pub first_cursor : ℕ → Cursor
first_cursor count = record { left = count; forks = 0; place = 7; code = 5 }

-- a node is read
abbrev pub behind : Cursor → Kind → Cursor
behind c kind =
    record {
      left = c.left - 1;
      forks = c.forks + forks_of_kind kind;
      place = c.place + (1 + operand (kind_number kind));
      code = c.code + code_of_kind kind;
    }

-- what reading a node needs of the cursor
pub record CanAdvance (c : Cursor) (kind : Kind) : Type 0 where
  pub uncounted : 1 ≤ c.left
  pub few : c.forks ≤ 15
  pub early : c.place + (1 + operand (kind_number kind)) < 18446744073709551616
  pub short : c.code ≤ 6000

-- a cursor with what is due
pub record Reader : Type 0 where
  pub due : List Due
  pub at : Cursor

-- ---- the transactions

-- before the first node
abbrev pub no_transactions : Transactions
no_transactions = record { atomic = 0; nodes = 0; long = None }

-- the first long one, if the one at hand, which stands there, has so many nodes
abbrev pub long_with : Option ℕ → (nodes atomic : ℕ) → Option ℕ
long_with (Some long) nodes atomic = Some long
long_with None nodes atomic = cond (ltb 200 nodes) (Some atomic) None

-- a node of a transaction more
abbrev pub with_node : Transactions → Transactions
with_node t = record { atomic = t.atomic; nodes = t.nodes + 1; long = long_with t.long (t.nodes + 1) t.atomic }

-- a node of this kind more
abbrev pub with_kind : Transactions → Kind → (place : ℕ) → Transactions
with_kind t kind.Valp place = t
with_kind t kind.Addp place = t
with_kind t kind.Atomic place = record { atomic = place; nodes = 0; long = t.long }
with_kind t kind.Fork place = t
with_kind t kind.Valt place = with_node t
with_kind t kind.Addt place = with_node t
with_kind t kind.Read place = with_node t
with_kind t kind.Write place = with_node t
