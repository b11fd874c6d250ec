-- Reading code back: going forward over the code, with a stack of finished parts and a stack of FORK ends. Nobody has to believe
-- it: `foreign_exactly` (proofs/Foreign), `code_read` and `read_is_code` (proofs/ReadBack) determine it.
use Rattle.std.specs.Prelude.{ℕ, zero, suc, ◌+◌, Bool, true, false, not, ◌&&◌, List, [], ◌∷◌, eqb, leb, ltb, ℤ, length, drop, get_or}
use Rattle.code.specs.Ops.{foreign, Op, push, add, read, write, begin, commit, fork, op_at, size_of}
use Rattle.script.specs.Tree.{Tran, ValT, AddT, Read, Write, Proc, ValP, AddP, Atomic, Fork}
use Rattle.script.specs.Count.{nodes_p, depth_p, forks, longest_nodes}
use Rattle.script.specs.Limits.{most_nodes, most_depth, most_forks, most_transaction}
use Rattle.script.specs.Jobs.{Job, number16}
use Rattle.script.specs.Outcome.{Outcome, done, refuse, onward}
use Rattle.script.specs.Reader.{taken}

-- what stands on the stack: finished parts, a BEGIN whose COMMIT is to come, and a FORK whose child's end is to come
pub data Item : Type 0 where
  proc : Proc → Item
  tran : Tran → Item
  begun : Item
  forked : (size : ℕ) → Item

-- VALP outside a transaction, VALT inside
abbrev pub value_item : Bool → ℤ → Item
value_item true n = tran (ValT n)
value_item false n = proc (ValP n)

-- the sum of the two topmost parts, both processes or both transactions
abbrev pub sum_p : Proc → List Item → Outcome (List Item)
sum_p b [] = foreign
sum_p b (proc a ∷ items) = done (proc (AddP a b) ∷ items)
sum_p b (tran t ∷ items) = foreign
sum_p b (begun ∷ items) = foreign
sum_p b (forked size ∷ items) = foreign

-- the same, the topmost part being a transaction
abbrev pub sum_t : Tran → List Item → Outcome (List Item)
sum_t b [] = foreign
sum_t b (proc p ∷ items) = foreign
sum_t b (tran a ∷ items) = done (tran (AddT a b) ∷ items)
sum_t b (begun ∷ items) = foreign
sum_t b (forked size ∷ items) = foreign

-- the same of a stack
abbrev pub sum_top : List Item → Outcome (List Item)
sum_top [] = foreign
sum_top (proc b ∷ items) = sum_p b items
sum_top (tran b ∷ items) = sum_t b items
sum_top (begun ∷ items) = foreign
sum_top (forked size ∷ items) = foreign

-- WRITE of the topmost part, which is a transaction
abbrev pub write_top : ℕ → List Item → Outcome (List Item)
write_top v [] = foreign
write_top v (proc p ∷ items) = foreign
write_top v (tran t ∷ items) = done (tran (Write v t) ∷ items)
write_top v (begun ∷ items) = foreign
write_top v (forked size ∷ items) = foreign

-- COMMIT: one transaction stands behind its BEGIN
abbrev pub atomic_with : Tran → List Item → Outcome (List Item)
atomic_with t [] = foreign
atomic_with t (proc p ∷ items) = foreign
atomic_with t (tran u ∷ items) = foreign
atomic_with t (begun ∷ items) = done (proc (Atomic t) ∷ items)
atomic_with t (forked size ∷ items) = foreign

-- COMMIT of a stack
abbrev pub commit_top : List Item → Outcome (List Item)
commit_top [] = foreign
commit_top (proc p ∷ items) = foreign
commit_top (tran t ∷ items) = atomic_with t items
commit_top (begun ∷ items) = foreign
commit_top (forked size ∷ items) = foreign

-- the end of a FORK's child: one process stands behind its FORK
abbrev pub fork_with : Proc → List Item → Outcome (List Item)
fork_with p [] = foreign
fork_with p (proc q ∷ items) = foreign
fork_with p (tran t ∷ items) = foreign
fork_with p (begun ∷ items) = foreign
fork_with p (forked size ∷ items) = done (proc (Fork p) ∷ items)

-- the end of a FORK's child, of a stack
abbrev pub child_ended : List Item → Outcome (List Item)
child_ended [] = foreign
child_ended (proc p ∷ items) = fork_with p items
child_ended (tran t ∷ items) = foreign
child_ended (begun ∷ items) = foreign
child_ended (forked size ∷ items) = foreign

-- the stack with this instruction done, and whether a transaction is then open. Foreign are READ or WRITE outside a transaction,
-- FORK or BEGIN inside one, and COMMIT without one
pub record Done : Type 0 where
  pub items : List Item
  pub inside : Bool

-- the stack as it comes to be, and whether a transaction is then open
abbrev pub done_with : Bool → Outcome (List Item) → Outcome Done
done_with inside o = onward o (λ items. done (record { items = items; inside = inside }))

-- one instruction
unfoldable pub do_op : Op → (inside : Bool) → List Item → Outcome Done
do_op (push n) inside items = done_with inside (done (value_item inside n ∷ items))
do_op add inside items = done_with inside (sum_top items)
do_op (read v) inside items = refuse (not inside) 11 0 (done_with true (done (tran (Read v) ∷ items)))
do_op (write v) inside items = refuse (not inside) 11 0 (done_with true (write_top v items))
do_op begin inside items = refuse inside 11 0 (done_with true (done (begun ∷ items)))
do_op commit inside items = refuse (not inside) 11 0 (done_with false (commit_top items))
do_op (fork size) inside items = refuse inside 11 0 (done_with false (done (forked size ∷ items)))

-- the ends of the open FORKs' children, the innermost first
abbrev pub ends_after : Op → (place : ℕ) → List ℕ → List ℕ
ends_after (push n) place ends = ends
ends_after add place ends = ends
ends_after (read v) place ends = ends
ends_after (write v) place ends = ends
ends_after begin place ends = ends
ends_after commit place ends = ends
ends_after (fork size) place ends = (place + 3 + size) ∷ ends

-- the children that end at this place, and what is then open and on the stack
pub record OpenParts : Type 0 where
  pub ends : List ℕ
  pub items : List Item

-- every child that ends at this place is closed
unfoldable pub ended_at : (place : ℕ) → List ℕ → List Item → Outcome OpenParts
ended_at place [] items = done (record { ends = []; items = items })
ended_at place (end ∷ ends) items =
    elim (eqb place end) [
      | true ↦ onward (child_ended items) (λ items'. ended_at place ends items')
      | false ↦ done (record { ends = end ∷ ends; items = items })
    ]

-- the end of the code: no FORK is open, and one process is left
abbrev pub one_left : Proc → List Item → Outcome Proc
one_left p [] = done p
one_left p (item ∷ items) = foreign

-- the one process that is left of a stack
abbrev pub last_of : List Item → Outcome Proc
last_of [] = foreign
last_of (proc p ∷ items) = one_left p items
last_of (tran t ∷ items) = foreign
last_of (begun ∷ items) = foreign
last_of (forked size ∷ items) = foreign

-- the same, no FORK being open
abbrev pub ended : OpenParts → Outcome Proc
ended open' = elim open'.ends [ [] ↦ last_of open'.items | end ∷ ends ↦ foreign ]

-- the instructions from a place on, `bs` being the bytes there; `fuel` is more than their number
unfoldable pub read_ops : (fuel : ℕ) (inside : Bool) (items : List Item) (ends : List ℕ) (place : ℕ) → List ℕ → Outcome Proc
read_ops zero inside items ends place bs = foreign
read_ops (suc fuel) inside items ends place bs =
    onward
    (ended_at place ends items)
    (λ now. elim (eqb (length bs) 0) [
      | true ↦ ended now
      | false ↦ onward
          (op_at bs)
          (λ op. onward
          (do_op op inside now.items)
          (λ next. read_ops
          fuel
          next.inside
          next.items
          (ends_after op place now.ends)
          (place + size_of op)
          (drop (size_of op) bs)))
    ])

-- "Node count 1 to 1,000; depth at most 64, the root having depth 1; at most 15 FORKs"
unfoldable pub sized : Proc → Bool
sized p = leb (nodes_p p) most_nodes && (leb (depth_p p) most_depth && leb (forks p) most_forks)

-- the mark `WSC`
unfoldable pub code_marked : List ℕ → Bool
code_marked bs = eqb (get_or bs 0 0) 0x57 && (eqb (get_or bs 1 0) 0x53 && eqb (get_or bs 2 0) 0x43)

-- the job within document 01's limits that compiles to this code, or 11 at 0
unfoldable pub read_code_tree : List ℕ → Outcome Job
read_code_tree bs =
    refuse
    (ltb (length bs) 5)
    11
    0
    (refuse
    (not (code_marked bs))
    11
    0
    (refuse
    (not (taken (number16 bs 3)))
    11
    0
    (onward
    (read_ops (suc (length bs)) false [] [] 5 (drop 5 bs))
    (λ p. refuse (not (sized p)) 11 0 (done (record { version = number16 bs 3; tree = p }))))))

-- document 02 No. 3: "Code of a longer one is foreign code from now on"
abbrev pub short_only : Job → Outcome Job
short_only j = refuse (ltb most_transaction (longest_nodes j.tree)) 11 0 (done j)

-- the job that compiles to this code, or 11 at 0
unfoldable pub read_code : List ℕ → Outcome Job
read_code bs = onward (read_code_tree bs) short_only
