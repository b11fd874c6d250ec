-- The script can take turns until every thread is a VALP. Assumes nothing.
use Prim.Native.Nat.{ℕ, zero, suc, ◌+◌, ◌<◌}
use mathlib.Core.Path.{◌≡◌, refl, sym, ap, subst, ◌∙◌}
use mathlib.Core.List.{List, [], ◌∷◌, ◌++◌}
use native.Mathlib.Omega.{arith}
use borrow.Author.Tests.{lt-ltb}
use lib.IntN.{ℤ, pos}
use lib.ListN.{length, get_or, set}
use Rattle.machine.specs.InnerStands.{register_cells}
use Rattle.script.specs.Tree.{Proc, ValP, AddP, Atomic, Fork}
use Rattle.script.specs.Turns.{Registers, Reduced, value, moved, reduce_sum, reduce, Script, turned, turn, turns, CanTake, none, one}
use Rattle.stm.proofs.Sound.{turns_one}
use Rattle.word.specs.Sum.{Rule}

-- the nodes that turns replace
unfoldable due : Proc → ℕ
due (ValP n) = 0
due (AddP a b) = suc (due a + due b)
due (Atomic t) = 1
due (Fork p) = suc (due p)

unfoldable due_all : List Proc → ℕ
due_all [] = 0
due_all (p ∷ ps) = due p + due_all ps

-- a turn replaces one
abbrev Falls : Proc → Reduced → Type 0
Falls p (value n) = p ≡ ValP n
Falls p (moved p' rs new) = suc (due p' + due_all new) ≡ due p

falls : (sum : Rule) (rs : Registers) (p : Proc) → Falls p (reduce sum rs p)
unfolding reduce due due_all
falls sum rs (ValP n) = refl
falls sum rs (AddP a b) = go (reduce sum rs a) (reduce sum rs b) (falls sum rs a) (falls sum rs b)
  where
    none_due : (p : Proc) (n : ℤ) → p ≡ ValP n → due p ≡ 0
    none_due p n e = ap due e

    go : (x y : Reduced) → Falls a x → Falls b y → Falls (AddP a b) (reduce_sum sum rs a b x y)
    go (moved a' rs' new) y f g = omega (arith, f)
    go (value m) (moved b' rs' new) f g = omega (arith, g)
    go (value m) (value n) f g = omega (arith, none_due a m f, none_due b n g)
falls sum rs (Atomic t) = refl
falls sum rs (Fork p) = omega arith

due_append : (ps qs : List Proc) → due_all (ps ++ qs) ≡ due_all ps + due_all qs
unfolding due_all
due_append [] qs = omega arith
due_append (p ∷ ps) qs = omega (arith, due_append ps qs)

due_set : (ps : List Proc) (i : ℕ) (p : Proc) → i < length ps → due_all (set ps i p) + due (get_or ps i (ValP (pos 0))) ≡ due_all ps + due p
unfolding due_all
due_set [] i p l = absurd (omega arith)
due_set (x ∷ ps) zero p l = omega arith
due_set (x ∷ ps) (suc i) p l = omega (arith, due_set ps i p (omega arith))

-- every thread is a VALP
abbrev pub AllValues : List Proc → Type 0
AllValues ps = (i : ℕ) → i < length ps → (n : ℤ) × (get_or ps i (ValP (pos 0)) ≡ ValP n)

-- or one is not
data Search (ps : List Proc) : Type 0 where
  all : AllValues ps → Search ps
  found : (i : ℕ) → i < length ps → ((n : ℤ) → get_or ps i (ValP (pos 0)) ≡ ValP n → ⊥) → Search ps

search : (ps : List Proc) → Search ps
search [] = all (λ i l. absurd (omega arith))
search (p ∷ ps) = first p refl (search ps)
  where
    rest : (n : ℤ) → p ≡ ValP n → Search ps → Search (p ∷ ps)
    rest n e (all f) = all each
      where
        each : (i : ℕ) → i < suc (length ps) → (m : ℤ) × (get_or (p ∷ ps) i (ValP (pos 0)) ≡ ValP m)
        each zero l = (n, e)
        each (suc i) l = f i (omega arith)
    rest n e (found i l other) = found (suc i) (omega arith) other

    first : (q : Proc) → p ≡ q → Search ps → Search (p ∷ ps)
    first (ValP n) e r = rest n e r
    first (AddP a b) e r = found 0 (omega arith) (λ n f. let y : AddP a b ≡ ValP n = sym e ∙ f in let z : ◌≡◌ {A = ℕ} 0 1 = cc in absurd (omega arith))
    first (Atomic t) e r = found 0 (omega arith) (λ n f. let y : Atomic t ≡ ValP n = sym e ∙ f in let z : ◌≡◌ {A = ℕ} 0 1 = cc in absurd (omega arith))
    first (Fork q) e r = found 0 (omega arith) (λ n f. let y : Fork q ≡ ValP n = sym e ∙ f in let z : ◌≡◌ {A = ℕ} 0 1 = cc in absurd (omega arith))

-- turns after which every thread is a VALP
pub record Ends (sum : Rule) (s : Script) : Type 0 where
  pub order : List ℕ
  pub can : CanTake sum s order
  pub values : AllValues (turns sum s order).threads

module _ (sum : Rule) where
  turn_is : (s : Script) (i : ℕ) (p : Proc) (rs : Registers) (new : List Proc) → i < length s.threads → reduce sum s.registers (get_or s.threads i (ValP (pos 0))) ≡ moved p rs new → turn sum s i ≡ turned (record { registers = rs; threads = set s.threads i p ++ new })
  unfolding turn
  turn_is s i p rs new l e = rw (turn, lt-ltb i (length s.threads) l, e)

  ended : (s : Script) → AllValues s.threads → Ends sum s
  unfolding turns
  ended s f = record { order = []; can = none; values = f }

  further : (s s' : Script) (i : ℕ) → turn sum s i ≡ turned s' → Ends sum s' → Ends sum s
  further s s' i e r = record { order = i ∷ r.order; can = one e r.can; values = subst (λ (z : Script). AllValues z.threads) (sym (turns_one register_cells sum s s' i r.order e)) r.values }

  ends_within : (fuel : ℕ) (s : Script) → due_all s.threads < fuel → Ends sum s
  ends_within zero s l = absurd (omega arith)
  ends_within (suc fuel) s l = go (search s.threads) (λ s' m. ends_within fuel s' m)
    where
      go : Search s.threads → ((s' : Script) → due_all s'.threads < fuel → Ends sum s') → Ends sum s
      go (all f) again = ended s f
      go (found i m other) again = by (reduce sum s.registers (get_or s.threads i (ValP (pos 0)))) refl (falls sum s.registers (get_or s.threads i (ValP (pos 0))))
        where
          by : (r : Reduced) → reduce sum s.registers (get_or s.threads i (ValP (pos 0))) ≡ r → Falls (get_or s.threads i (ValP (pos 0))) r → Ends sum s
          by (value n) e f = absurd (other n f)
          by (moved p rs new) e f =
              further s (record { registers = rs; threads = set s.threads i p ++ new }) i (turn_is s i p rs new m e)
              (again (record { registers = rs; threads = set s.threads i p ++ new }) (omega (arith, due_append (set s.threads i p) new, due_set s.threads i p m, f)))

  -- every script ends
  pub ends : (s : Script) → Ends sum s
  ends s = ends_within (suc (due_all s.threads)) s (omega arith)
