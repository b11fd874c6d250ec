-- Numbers are told apart by their digits, and texts by the bytes that they do not have. Assumes nothing.
use Prim.Native.Nat.{ℕ, zero, suc, ◌+◌, ◌-◌, ◌*◌, ◌/◌, ◌%◌, ◌^◌, ◌<◌, ◌≤◌}
use mathlib.Core.Bool.{Bool, true, false, cond}
use mathlib.Core.Path.{◌≡◌, refl, sym, ap, subst, ◌∙◌}
use mathlib.Core.List.{List, [], ◌∷◌, ◌++◌}
use native.Mathlib.Nat.{pow-suc}
use native.Mathlib.Omega.{arith}
use borrow.Author.Tests.{eq-eqb, ne_eqb}
use lib.Dec.{eqb, ltb, lit<}
use lib.IntN.{ℤ, pos, negsuc}
use lib.ListN.{length, drop, get_or, length-append}
use Rattle.listing.specs.Listed.{digits, decimal, integer}
use Rattle.listing.proofs.Pages.{above, digits_by}

-- the number that digits spell, behind a number
unfoldable value_from : ℕ → List ℕ → ℕ
value_from n [] = n
value_from n (d ∷ ds) = value_from (n * 10 + (d - 48)) ds

value_snoc : (n : ℕ) (ds : List ℕ) (d : ℕ) → value_from n (ds ++ (d ∷ [])) ≡ value_from n ds * 10 + (d - 48)
unfolding value_from
value_snoc n [] d = refl
value_snoc n (x ∷ ds) d = value_snoc (n * 10 + (x - 48)) ds d

digits_value : (most n : ℕ) → n < 10 ^ most → value_from 0 (digits most n) ≡ n
unfolding value_from digits
digits_value zero n h = omega (arith, h)
digits_value (suc most) n h = rw (digits_by most n) (by_test (digits_value most (n / 10) (let e : 10 ^ suc most ≡ 10 ^ most * 10 = pow-suc 10 most in omega (arith, h, e))) (ltb n 10))
  where
    by_test : value_from 0 (digits most (n / 10)) ≡ n / 10 → (t : Bool) → value_from 0 (cond t ((48 + n) ∷ []) (digits most (n / 10) ++ ((48 + n % 10) ∷ []))) ≡ n
    by_test r true = omega arith
    by_test r false = value_snoc 0 (digits most (n / 10)) (48 + n % 10) ∙ (let z : value_from 0 (digits most (n / 10)) * 10 + (48 + n % 10 - 48) ≡ n = omega (arith, r) in z)

-- different numbers have different digits
pub decimal_told : (a b : ℕ) → decimal a ≡ decimal b → a ≡ b
unfolding decimal
decimal_told a b e = sym (value a) ∙ ap (value_from 0) e ∙ value b
  where
    value : (n : ℕ) → value_from 0 (digits (suc n) n) ≡ n
    value n = digits_value (suc n) n (omega (arith, above (suc n)))

-- a digit is no minus
lead : (most n : ℕ) → 48 ≤ get_or (digits most n) 0 48
unfolding digits
lead zero n = omega arith
lead (suc most) n = rw (digits_by most n) (by_test (lead most (n / 10)) (ltb n 10))
  where
    snoc : (ds : List ℕ) (d : ℕ) → 48 ≤ d → 48 ≤ get_or ds 0 48 → 48 ≤ get_or (ds ++ (d ∷ [])) 0 48
    snoc [] d h k = h
    snoc (x ∷ ds) d h k = k

    by_test : 48 ≤ get_or (digits most (n / 10)) 0 48 → (t : Bool) → 48 ≤ get_or (cond t ((48 + n) ∷ []) (digits most (n / 10) ++ ((48 + n % 10) ∷ []))) 0 48
    by_test r true = omega arith
    by_test r false = snoc (digits most (n / 10)) (48 + n % 10) (omega arith) r

no_minus : (a : ℕ) (ds : List ℕ) → decimal a ≡ 45 ∷ ds → ⊥
unfolding decimal
no_minus a ds e = let z : get_or (digits (suc a) a) 0 48 ≡ 45 = ap (λ (l : List ℕ). get_or l 0 48) e in omega (arith, z, lead (suc a) a)

-- different signed numbers are spelt differently
pub integer_told : (x y : ℤ) → integer x ≡ integer y → x ≡ y
unfolding integer
integer_told (pos a) (pos b) e = ap pos (decimal_told a b e)
integer_told (pos a) (negsuc b) e = absurd (no_minus a (decimal (suc b)) e)
integer_told (negsuc a) (pos b) e = absurd (no_minus b (decimal (suc a)) (sym e))
integer_told (negsuc a) (negsuc b) e = ap negsuc (let z : suc a ≡ suc b = decimal_told (suc a) (suc b) (ap (drop 1) e) in omega (arith, z))

module _ {A : Type 0} where
  -- what follows the same
  pub follows : (p x y : List A) → p ++ x ≡ p ++ y → x ≡ y
  follows [] x y e = e
  follows (a ∷ p) x y e = follows p x y (ap (drop 1) e)

  -- and what comes before one and the same entry
  pub precedes : (x y : List A) (a : A) → x ++ (a ∷ []) ≡ y ++ (a ∷ []) → x ≡ y
  precedes [] [] a e = refl
  precedes [] (b ∷ y) a e = absurd (let z : length (b ∷ (y ++ (a ∷ []))) ≡ 1 = ap length (sym e) in let l : length (y ++ (a ∷ [])) ≡ length y + 1 = length-append y (a ∷ []) in omega (arith, z, l))
  precedes (b ∷ x) [] a e = absurd (let z : length (b ∷ (x ++ (a ∷ []))) ≡ 1 = ap length e in let l : length (x ++ (a ∷ [])) ≡ length x + 1 = length-append x (a ∷ []) in omega (arith, z, l))
  precedes (b ∷ x) (c ∷ y) a e = ap (λ (h : A). h ∷ x) (ap (λ (l : List A). get_or l 0 b) e) ∙ ap (c ∷◌) (precedes x y a (ap (drop 1) e))

-- ---- texts without a byte
unfoldable pub free : ℕ → List ℕ → Bool
free z [] = true
free z (c ∷ l) = cond (eqb c z) false (free z l)

free_snoc : (z : ℕ) (l : List ℕ) (d : ℕ) → free z l ≡ true → (d ≡ z → ⊥) → free z (l ++ (d ∷ [])) ≡ true
unfolding free
free_snoc z [] d f n = rw (ne_eqb d z n) refl
free_snoc z (c ∷ l) d f n = by_test (eqb c z) f (λ e. free_snoc z l d e n)
  where
    by_test : (t : Bool) → cond t false (free z l) ≡ true → (free z l ≡ true → free z (l ++ (d ∷ [])) ≡ true) → cond t false (free z (l ++ (d ∷ []))) ≡ true
    by_test true e k = e
    by_test false e k = k e

digits_free : (z most n : ℕ) → z < 48 → free z (digits most n) ≡ true
unfolding digits free
digits_free z zero n h = refl
digits_free z (suc most) n h = rw (digits_by most n) (by_test (digits_free z most (n / 10) h) (ltb n 10))
  where
    by_test : free z (digits most (n / 10)) ≡ true → (t : Bool) → free z (cond t ((48 + n) ∷ []) (digits most (n / 10) ++ ((48 + n % 10) ∷ []))) ≡ true
    by_test k true = rw (ne_eqb (48 + n) z (λ e. omega (arith, e, h))) refl
    by_test k false = free_snoc z (digits most (n / 10)) (48 + n % 10) k (λ e. omega (arith, e, h))

pub decimal_free : (z n : ℕ) → z < 48 → free z (decimal n) ≡ true
unfolding decimal
decimal_free z n h = digits_free z (suc n) n h

pub integer_free : (n : ℤ) → free 10 (integer n) ≡ true
unfolding integer free
integer_free (pos n) = decimal_free 10 n (lit< tt)
integer_free (negsuc n) = decimal_free 10 (suc n) (lit< tt)

-- the first byte of a text without z is not z, and the others are without it
holds_not : (z c : ℕ) (t : Bool) → c ≡ z → cond (eqb c z) false t ≡ true → ⊥
holds_not z c t e f = let q : false ≡ true = sym (ap (λ (b : Bool). cond b false t) (eq-eqb c z e)) ∙ f in absurd (no q)
  where
    no : ◌≡◌ {A = Bool} false true → ⊥
    no q = subst (λ (b : Bool). cond b ⊥ (Unit {0})) q tt

rest : (z c : ℕ) (t : Bool) → cond (eqb c z) false t ≡ true → t ≡ true
rest z c t f = by_test (eqb c z) f
  where
    by_test : (b : Bool) → cond b false t ≡ true → t ≡ true
    by_test true e = absurd (subst (λ (b : Bool). cond b ⊥ (Unit {0})) e tt)
    by_test false e = e

-- what stands before the first such byte, and what behind it
pub apart : (z : ℕ) (a b x y : List ℕ) → free z a ≡ true → free z b ≡ true → a ++ (z ∷ x) ≡ b ++ (z ∷ y) → (a ≡ b) × (x ≡ y)
unfolding free
apart z [] [] x y f g e = (refl, ap (drop 1) e)
apart z [] (c ∷ b) x y f g e = absurd (holds_not z c (free z b) (ap (λ (l : List ℕ). get_or l 0 0) (sym e)) g)
apart z (c ∷ a) [] x y f g e = absurd (holds_not z c (free z a) (ap (λ (l : List ℕ). get_or l 0 0) e) f)
apart z (c ∷ a) (d ∷ b) x y f g e =
    let r = apart z a b x y (rest z c (free z a) f) (rest z d (free z b) g) (ap (drop 1) e) in
    (ap (◌∷ a) (ap (λ (l : List ℕ). get_or l 0 0) e) ∙ ap (d ∷◌) r.0, r.1)
