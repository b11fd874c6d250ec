-- One pick of a record, by the step that it takes. Assumes nothing.
use Prim.Native.Nat.{ℕ, zero, suc, ◌≤◌}
use mathlib.Core.Bool.{Bool, true, false, cond, ◌||◌}
use mathlib.Core.Path.{◌≡◌, refl, sym, ap, ◌∙◌}
use mathlib.Core.List.{List, []}
use native.Mathlib.Omega.{arith}
use lib.Dec.{eqb, ltb}
use Rattle.stm.specs.Counted.{Table}
use lib.ListN.{length, drop, take}
use lib.Seq.{length-take-le, take-length}
use Rattle.code.specs.Ops.{op_at}
use Rattle.ops.specs.Shown.{shown_op}
use Rattle.progress.specs.InnerProgress.{left_by, given, picked_of, picked_by, plain_pick, plained_by, reach_of}
use Rattle.progress.specs.declared.Progress.{Progress}
use Rattle.thread.specs.declared.Thread.{Thread}
use Rattle.thread.specs.InnerStep.{Numbered, Handed, handed, unacted, takes_op, performed, attempted, stepped, plain_in, plain_op}
use Rattle.thread.proofs.Attempts.{plain_taken}
use Rattle.word.specs.Sum.{wrapping}

-- with no code a step is idle
pub no_code : (table : Table) (t : Thread) → stepped wrapping [] table t ≡ handed (unacted t) table
unfolding stepped attempted takes_op op_at
no_code table t = go (eqb t.start 0 || eqb t.place t.end)
  where
    nothing : (k : ℕ) → ◌≡◌ {A = List ℕ} (drop k []) []
    nothing zero = refl
    nothing (suc k) = refl

    none : attempted wrapping [] table t (shown_op (op_at (drop t.place []))) ≡ handed (unacted t) table
    none = ap (λ (l : List ℕ). attempted wrapping [] table t (shown_op (op_at l))) (nothing t.place)

    go : (b : Bool) → ◌≡◌ {A = Handed} (elim b [ true ↦ handed (unacted t) table | false ↦ attempted wrapping [] table t (shown_op (op_at (drop t.place []))) ]) (handed (unacted t) table)
    go true = refl
    go false = none

-- the code that a pick has before it
pub reach_length : (bytes : List ℕ) (pick reach : ℕ) → reach ≡ reach_of pick (length bytes) → reach ≡ length (take reach bytes)
unfolding reach_of
reach_length bytes pick reach e = sym (length-take-le reach bytes (low (ltb pick 16) e))
  where
    low : (b : Bool) → reach ≡ cond b (length bytes) 0 → reach ≤ length bytes
    low true e = omega arith
    low false e = omega arith

-- the step of a pick
reached : (bytes : List ℕ) (table : Table) (pick reach : ℕ) (t : Thread) (p : Progress) → reach ≡ reach_of pick (length bytes) → picked_of (stepped wrapping (take reach bytes) table t) p ≡ picked_by bytes table pick t p
unfolding reach_of picked_by
reached bytes table pick reach t p e = go (ltb pick 16) e
  where
    go : (b : Bool) → reach ≡ cond b (length bytes) 0 → picked_of (stepped wrapping (take reach bytes) table t) p ≡ cond b (picked_of (stepped wrapping bytes table t) p) (picked_of (handed (unacted t) table) p)
    go true e = ap (λ (l : List ℕ). picked_of (stepped wrapping l table t) p) (ap (λ (k : ℕ). take k bytes) e ∙ take-length bytes)
    go false e = ap (λ (l : List ℕ). picked_of (stepped wrapping l table t) p) (ap (λ (k : ℕ). take k bytes) e) ∙ ap (λ (h : Handed). picked_of h p) (no_code table t)

pub a_pick : (bytes : List ℕ) (table : Table) (pick reach : ℕ) (t : Thread) (p : Progress) → reach ≡ reach_of pick (length bytes) → (a : Numbered) (after : Table) → handed a after ≡ stepped wrapping (take reach bytes) table t → given (left_by a p) after ≡ picked_by bytes table pick t p
a_pick bytes table pick reach t p k a after h = ap (λ (i : Handed). picked_of i p) h ∙ reached bytes table pick reach t p k

-- whether a pick is plain, by the code that it has before it
pub plain_reach : (bytes : List ℕ) (pick reach : ℕ) (t : Thread) → reach ≡ reach_of pick (length bytes) → plain_in (take reach bytes) t ≡ plain_pick bytes pick t
unfolding plain_pick
plain_reach bytes pick reach t e = ap (λ (k : ℕ). plain_in (take k bytes) t) e

-- a pick by what does not change the logs
pub a_plain : (bytes : List ℕ) (table : Table) (pick reach : ℕ) (t : Thread) (p : Progress) → reach ≡ reach_of pick (length bytes) → (a : Numbered) → handed a table ≡ performed wrapping table t (plain_op (take reach bytes) t) → given (left_by a p) table ≡ plained_by bytes table pick t p
unfolding plained_by
a_plain bytes table pick reach t p k a h =
    ap (λ (i : Handed). picked_of i p) h ∙ ap (λ (i : ℕ). picked_of (performed wrapping table t (plain_op (take i bytes) t)) p) k

-- which is the pick where it is plain
pub plained : (bytes : List ℕ) (table : Table) (pick : ℕ) (t : Thread) (p : Progress) → plain_pick bytes pick t ≡ true → plained_by bytes table pick t p ≡ picked_by bytes table pick t p
unfolding plained_by plain_pick
plained bytes table pick t p e =
    ap (λ (h : Handed). picked_of h p) (plain_taken (take (reach_of pick (length bytes)) bytes) t table e) ∙ reached bytes table pick (reach_of pick (length bytes)) t p refl
