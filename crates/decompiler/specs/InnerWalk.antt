-- For the proof of `read_back` only: how the pass follows `read_ops`, its state and its output the stack that is read.
use Rattle.std.specs.Prelude.{ℕ, ◌+◌, ◌*◌, ◌-◌, ◌≤◌, ◌<◌, ◌≡◌, Bool, true, false, List, [], ◌∷◌, ◌++◌, length, drop, get_or}
use Rattle.decompiler.specs.declared.Pass.{Pass}
use Rattle.delivery.specs.Delivered.{onto}
use Rattle.code.specs.Reader.{Item, proc, tran, begun, forked, read_ops, read_code}
use Rattle.code.specs.InnerParts.{job_text, forks_i}
use Rattle.script.specs.Tree.{Proc}
use Rattle.script.specs.Count.{nodes_p, depth_p, forks}
use Rattle.script.specs.Bytes.{Bytes, bytes_p, job_bytes}
use Rattle.script.specs.Outcome.{done}
use Rattle.script.specs.Jobs.{Job}

-- where each part starts in the job
abbrev pub Starts : List ℕ → List Item → Type 0
Starts a [] = Unit {0}
Starts a (x ∷ s) = (get_or a (length s) 0 ≡ 7 + length (job_text s)) × Starts a s

-- where each open child ends
abbrev pub Ends : List ℕ → List ℕ → Type 0
Ends a [] = Unit {0}
Ends a (e ∷ es) = (get_or a (length es) 0 ≡ e) × Ends a es

-- outside a transaction there are processes and FORKs; inside, its parts behind its BEGIN
abbrev pub OutsideItems : List Item → Type 0
OutsideItems [] = Unit {0}
OutsideItems (proc p ∷ s) = OutsideItems s
OutsideItems (tran t ∷ s) = ⊥
OutsideItems (begun ∷ s) = ⊥
OutsideItems (forked n ∷ s) = OutsideItems s

-- a stack inside a transaction
abbrev pub InsideItems : List Item → Type 0
InsideItems [] = ⊥
InsideItems (proc p ∷ s) = ⊥
InsideItems (tran t ∷ s) = InsideItems s
InsideItems (begun ∷ s) = OutsideItems s
InsideItems (forked n ∷ s) = ⊥

-- a stack, by whether a transaction is open
abbrev pub Sorted : Bool → List Item → Type 0
Sorted true s = InsideItems s
Sorted false s = OutsideItems s

-- what holds of the code, the job's header, the output as it was before, and the tree
pub record Setting (code head before : List ℕ) (p : Proc) : Type 0 where
  pub bytes : Bytes code
  pub short : length code ≤ 65536
  pub seven : length head ≡ 7
  pub flat : depth_p p ≤ 64
  pub narrow : forks p ≤ 15
  pub room : 7 + length (bytes_p p) ≤ length before

-- how the state and the output stand to the stack that is read, the ends that are open, and what is still to be read
pub record Follows (code head before : List ℕ) (p : Proc) (out : List ℕ) (s : Pass) (items : List Item) (open' : List ℕ) (fuel : ℕ) : Type 0 where
  pub known : Setting code head before p
  pub reads : read_ops fuel s.inside items open' s.place (drop s.place code) ≡ done p
  pub sorted : Sorted s.inside items
  pub high : s.height ≡ length items
  pub starts : Starts s.starts items
  pub many : s.forked ≡ length open'
  pub ends : Ends s.ends open'
  pub few : length open' ≤ forks_i items
  pub size : s.size ≡ 7 + length (job_text items)
  pub text : out ≡ onto (head ++ job_text items) before
  pub wide : length s.starts ≡ 64
  pub narrow : length s.ends ≡ 15

-- so for some stack, some open ends and what is left to read
pub record Walk (code head before : List ℕ) (p : Proc) (out : List ℕ) (s : Pass) : Type 0 where
  pub items : List Item
  pub open' : List ℕ
  pub fuel : ℕ
  pub stands : Follows code head before p out s items open' fuel

-- what is still to be read, and closed
abbrev pub weight : List ℕ → Pass → ℕ
weight code s = 2 * (length code - s.place) + s.forked

-- one turn of the pass
pub record TurnTaken (code head before : List ℕ) (p : Proc) (out : List ℕ) (s r : Pass) : Type 0 where
  pub walk : Walk code head before p out r
  pub less : weight code r < weight code s

-- a state from which a turn is due
pub record TurnDue (code out : List ℕ) (s : Pass) : Type 0 where
  pub head : List ℕ
  pub before : List ℕ
  pub tree : Proc
  pub walk : Walk code head before tree out s
  pub more : s.place < length code

-- the code is a job's, and the output has room for the job
pub record Restorable (code : List ℕ) (nodes : ℕ) (out : List ℕ) : Type 0 where
  pub job : Job
  pub read : read_code code ≡ done job
  pub count : nodes ≡ nodes_p job.tree
  pub room : length (job_bytes job.version job.tree) ≤ length out
