-- An idle turn has no sum that leaves the range. Assumes nothing.
use Prim.Native.Nat.{ℕ, ◌+◌}
use mathlib.Core.Bool.{Bool, true, false}
use mathlib.Core.Path.{◌≡◌, refl, ap, ◌∙◌}
use mathlib.Core.List.{List, ◌∷◌}
use native.Mathlib.Omega.{arith}
use borrow.Author.Tests.{ltb-false}
use lib.Dec.{ltb}
use lib.IntN.{ℤ, pos}
use lib.ListN.{length, get_or, get_or-eq_default}
use Rattle.script.specs.Overflows.{overflows_p, overflows_turns}
use Rattle.script.specs.Tree.{Proc, ValP, AddP, Atomic, Fork}
use Rattle.script.specs.Turns.{Registers, Reduced, value, moved, reduce_sum, reduce, Script, Turned, idle, turned, after, turn, left}
use Rattle.word.specs.Sum.{Rule}

clash : {A : Type 0} {p : Proc} {rs : Registers} {new : List Proc} {n : ℤ} → moved p rs new ≡ value n → A
clash e = absurd (let z : ◌≡◌ {A = ℕ} 0 1 = cc in omega arith)

not_turned : {A : Type 0} {s : Script} → turned s ≡ idle → A
not_turned e = absurd (let z : ◌≡◌ {A = ℕ} 0 1 = cc in omega arith)

-- only a VALP does not move, and it has no sum
no_sum : (sum : Rule) (rs : Registers) (p : Proc) (n : ℤ) → reduce sum rs p ≡ value n → overflows_p sum rs p ≡ 0
unfolding reduce overflows_p
no_sum sum rs (ValP m) n e = refl
no_sum sum rs (AddP a b) n e = moves (reduce sum rs a) (reduce sum rs b) e
  where
    moves : {A : Type 0} (x y : Reduced) → reduce_sum sum rs a b x y ≡ value n → A
    moves (moved a' rs' new) y e = clash e
    moves (value m) (moved b' rs' new) e = clash e
    moves (value m) (value k) e = clash e
no_sum sum rs (Atomic t) n e = clash e
no_sum sum rs (Fork p) n e = clash e

pub idle_overflows : (sum : Rule) (s : Script) (i : ℕ) (is : List ℕ) → turn sum s i ≡ idle → overflows_turns sum s (i ∷ is) ≡ overflows_turns sum s is
unfolding turn overflows_turns overflows_p
idle_overflows sum s i is e =
    ap (λ (n : ℕ). n + overflows_turns sum (left s (turn sum s i)) is) (none (ltb i (length s.threads)) refl e)
    ∙ (ap (λ (t : Turned). 0 + overflows_turns sum (left s t) is) e ∙ (let z : 0 + overflows_turns sum s is ≡ overflows_turns sum s is = omega arith in z))
  where
    its : Proc
    its = get_or s.threads i (ValP (pos 0))

    still : (r : Reduced) → reduce sum s.registers its ≡ r → after s i r ≡ idle → overflows_p sum s.registers its ≡ 0
    still (value n) q f = no_sum sum s.registers its n q
    still (moved p rs new) q f = not_turned f

    none : (b : Bool) → ltb i (length s.threads) ≡ b → (elim b [
      | true ↦ after s i (reduce sum s.registers its)
      | false ↦ idle
    ]) ≡ idle → overflows_p sum s.registers its ≡ 0
    none true l f = still (reduce sum s.registers its) refl f
    none false l f = ap (overflows_p sum s.registers) (get_or-eq_default s.threads (ValP (pos 0)) (ltb-false i (length s.threads) l))
