-- What the script's turns keep: the table's 64 registers, numbers of 32 bits everywhere, and no register but 0 to 63 named. Assumes nothing.
use Prim.Native.Nat.{ℕ, zero, suc}
use mathlib.Core.Bool.{Bool, true, false}
use mathlib.Core.Path.{refl, ◌∙◌}
use mathlib.Core.List.{List, [], ◌∷◌, ◌++◌}
use lib.Dec.{ltb}
use lib.IntN.{pos}
use lib.ListN.{length, get_or, set, replicate, length-set}
use lib.Signed.{le_z_yes}
use Rattle.script.specs.Tree.{Tran, ValT, AddT, Read, Write, Proc, ValP, AddP, Atomic, Fork}
use Rattle.script.specs.Limits.{ValuedT, ValuedP}
use Rattle.script.specs.Turns.{Registers, Worked, work, Reduced, value, moved, reduce_sum, reduce, Script, initial, idle, after, turn, left, turns}
use Rattle.script.specs.InnerKept.{Table, Kept}
use Rattle.word.specs.Sum.{InRange, wrapping}
use Rattle.word.proofs.Sums.{wrapping_in_range}

-- ---- of every element of a list
each_set : {A : Type 0} (P : A → Type 0) (d : A) (l : List A) (j : ℕ) (x : A) → ((i : ℕ) → P (get_or l i d)) → P x → (i : ℕ) → P (get_or (set l j x) i d)
each_set P d [] j x h p i = h i
each_set P d (y ∷ ys) zero x h p zero = p
each_set P d (y ∷ ys) zero x h p (suc i) = h (suc i)
each_set P d (y ∷ ys) (suc j) x h p zero = h zero
each_set P d (y ∷ ys) (suc j) x h p (suc i) = each_set P d ys j x (λ k. h (suc k)) p i

each_append : {A : Type 0} (P : A → Type 0) (d : A) (l m : List A) → ((i : ℕ) → P (get_or l i d)) → ((i : ℕ) → P (get_or m i d)) → (i : ℕ) → P (get_or (l ++ m) i d)
each_append P d [] m h k i = k i
each_append P d (y ∷ ys) m h k zero = h zero
each_append P d (y ∷ ys) m h k (suc i) = each_append P d ys m (λ j. h (suc j)) k i

small : InRange (pos 0)
small = record { low = le_z_yes tt; high = le_z_yes tt }

-- ---- a transaction
record Works (w : Worked) : Type 0 where
  table : Table w.registers
  count : InRange w.value

works : (t : Tran) (rs : Registers) → ValuedT t → Table rs → Works (work wrapping t rs)
unfolding work
works (ValT n) rs v h = record { table = h; count = v }
works (AddT a b) rs v h =
    let left = works a rs v.0 h in
    let right = works b (work wrapping a rs).registers v.1 left.table in
    record { table = right.table; count = wrapping_in_range _ _ }
works (Read r) rs v h = record { table = h; count = h.counts r }
works (Write r t) rs v h =
    let part = works t rs v.1 h in
    record {
      table = record {
        whole = length-set (work wrapping t rs).registers r (work wrapping t rs).value ∙ part.table.whole;
        counts = each_set InRange (pos 0) (work wrapping t rs).registers r (work wrapping t rs).value part.table.counts part.count;
      };
      count = part.count;
    }

-- ---- a due node
abbrev Reduces : Reduced → Type 0
Reduces (value n) = InRange n
Reduces (moved p rs new) = Table rs × ValuedP p × ((i : ℕ) → ValuedP (get_or new i (ValP (pos 0))))

none : (i : ℕ) → ValuedP (get_or [] i (ValP (pos 0)))
none i = small

reduces_sum : (rs : Registers) (a b : Proc) (l r : Reduced) → ValuedP a → ValuedP b → Table rs → Reduces l → Reduces r → Reduces (reduce_sum wrapping rs a b l r)
reduces_sum rs a b (moved a' rs' new) r v w h k m = (k.0, (k.1, w), k.2)
reduces_sum rs a b (value n) (moved b' rs' new) v w h k m = (m.0, (v, m.1), m.2)
reduces_sum rs a b (value n) (value n') v w h k m = (h, wrapping_in_range n n', none)

reduces : (rs : Registers) (p : Proc) → ValuedP p → Table rs → Reduces (reduce wrapping rs p)
unfolding reduce
reduces rs (ValP n) v h = v
reduces rs (AddP a b) v h = reduces_sum rs a b (reduce wrapping rs a) (reduce wrapping rs b) v.0 v.1 h (reduces rs a v.0 h) (reduces rs b v.1 h)
reduces rs (Atomic t) v h = let w = works t rs v h in (w.table, w.count, none)
reduces rs (Fork p) v h = (h, small, child)
  where
    child : (i : ℕ) → ValuedP (get_or (p ∷ []) i (ValP (pos 0)))
    child zero = v
    child (suc i) = small

-- ---- turns
after_keeps : (s : Script) (i : ℕ) (r : Reduced) → Kept s → Reduces r → Kept (left s (after s i r))
after_keeps s i (value n) h k = h
after_keeps s i (moved p rs new) h k =
    record {
      table = k.0;
      valued = each_append ValuedP (ValP (pos 0)) (set s.threads i p) new (each_set ValuedP (ValP (pos 0)) s.threads i p h.valued k.1) k.2;
    }

turn_keeps : (s : Script) (i : ℕ) → Kept s → Kept (left s (turn wrapping s i))
unfolding turn
turn_keeps s i h = go (ltb i (length s.threads))
  where
    go : (b : Bool) → Kept (left s (elim b [
      | true ↦ after s i (reduce wrapping s.registers (get_or s.threads i (ValP (pos 0))))
      | false ↦ idle
    ]))
    go true = after_keeps s i (reduce wrapping s.registers (get_or s.threads i (ValP (pos 0)))) h (reduces s.registers (get_or s.threads i (ValP (pos 0))) (h.valued i) h.table)
    go false = h

initial_kept : (p : Proc) → ValuedP p → Kept (initial p)
unfolding initial
initial_kept p v = record { table = record { whole = refl; counts = zeros 64 }; valued = root }
  where
    zeros : (n r : ℕ) → InRange (get_or (replicate n (pos 0)) r (pos 0))
    zeros zero r = small
    zeros (suc n) zero = small
    zeros (suc n) (suc r) = zeros n r

    root : (i : ℕ) → ValuedP (get_or (p ∷ []) i (ValP (pos 0)))
    root zero = v
    root (suc i) = small

keeps : (is : List ℕ) (s : Script) → Kept s → Kept (turns wrapping s is)
unfolding turns
keeps [] s h = h
keeps (i ∷ is) s h = keeps is (left s (turn wrapping s i)) (turn_keeps s i h)

-- whatever turns a script of document 01 is given
pub turns_keep : (p : Proc) (is : List ℕ) → ValuedP p → Kept (turns wrapping (initial p) is)
turns_keep p is v = keeps is (initial p) (initial_kept p v)
