-- The registers of a set as a list: the first is the place of the lowest 1, and the others are those of the set without it. Assumes nothing.
use Rattle.std.proofs.Common.{◌≡◌, ℕ, zero, suc, ◌+◌, ◌-◌, ◌/◌, ◌%◌, ◌^◌, ◌≤◌, ◌<◌, Bool, true, false, List, [], ◌∷◌, bit_and, refl, sym, ap, ◌∙◌, arith, inl, inr, pow-suc, eqb, ltb, ◌&&◌, All, subst}
use Rattle.std.specs.Int.{w64, bit_at, trailing_zeros}
use Rattle.std.specs.Int.Count.{count_trailing_zeros}
use Rattle.std.specs.List.{filter, range_with_len}
use Rattle.std.proofs.lemmas.Nat.Bits.{bit_at_lowest, bit_at-suc, bit_at-zero, bit_at_and, bit_at-trailing_zeros}
use Rattle.std.proofs.lemmas.Bool.{cases_lt}
use Rattle.std.proofs.lemmas.List.Elements.{filter_passes}
use mathlib.Core.Bool.{and-false}
use lib.Count.{under}
use borrow.Author.Tests.{eq-eqb}
use Rattle.word.specs.Registers.{member, members}
use Rattle.word.proofs.Sets.{member_low, member_high}

-- ---- a filtered range
-- no register of a range passes
none_pass : (p : ℕ → Bool) (n a : ℕ) → ((r : ℕ) → a ≤ r → r < a + n → p r ≡ false) → filter p (range_with_len a n) ≡ []
none_pass p zero a fails = refl
none_pass p (suc n) a fails =
    rw (fails a (omega arith) (omega arith)) (none_pass p n (a + 1) (λ r low high. fails r (omega arith) (omega arith)))

-- two tests that agree in a range pass the same
same_pass : (p q : ℕ → Bool) (n a : ℕ) → ((r : ℕ) → a ≤ r → r < a + n → p r ≡ q r) → filter p (range_with_len a n) ≡ filter q (range_with_len a n)
same_pass p q zero a same = refl
same_pass p q (suc n) a same =
    rw (same a (omega arith) (omega arith), same_pass p q n (a + 1) (λ r low high. same r (omega arith) (omega arith)))

-- p passes v first, q does not, and from then on they agree
first_pass : (p q : ℕ → Bool) (v n a : ℕ) → a ≤ v → v < a + n → p v ≡ true → q v ≡ false
    → ((r : ℕ) → a ≤ r → r < v → p r ≡ false) → ((r : ℕ) → a ≤ r → r < v → q r ≡ false) → ((r : ℕ) → v < r → r < a + n → p r ≡ q r)
    → filter p (range_with_len a n) ≡ v ∷ filter q (range_with_len a n)
first_pass p q v zero a low high here gone before less after = absurd (omega arith)
first_pass p q v (suc n) a low high here gone before less after =
    elim (cases_lt a v) [
      | inl l ↦
          rw (before a (omega arith) l, less a (omega arith) l)
          (first_pass p q v n (a + 1) (omega arith) (omega arith) here gone (λ r m. before r (omega arith)) (λ r m. less r (omega arith)) (λ r m h. after r m (omega arith)))
      | inr l ↦
          let e : v ≡ a = omega arith in
          let f : p a ≡ true = sym (ap p e) ∙ here in
          let g : q a ≡ false = sym (ap q e) ∙ gone in
          rw (f, g, same_pass p q n (a + 1) (λ r m h. after r (omega arith) (omega arith))) (ap (λ x. x ∷ filter q (range_with_len (a + 1) n)) (sym e))
    ]

-- ---- the number without its lowest 1
-- one less has 0 in place of the lowest 1, and the same above it
abbrev IsLess : ℕ → ℕ → Type 0
IsLess n t = (bit_at (n - 1) t ≡ 0) × ((i : ℕ) → t < i → bit_at (n - 1) i ≡ bit_at n i)

less_by : (n t d : ℕ) → n % 2 ≡ d → 0 < n → (0 < n / 2 → IsLess (n / 2) t) → IsLess n (under d t)
less_by n t (suc d) odd some half = (omega (arith, bit_at_lowest (n - 1)), above)
  where
    above : (i : ℕ) → 0 < i → bit_at (n - 1) i ≡ bit_at n i
    above zero l = absurd (omega arith)
    above (suc i) l =
        let e : (n - 1) / 2 ≡ n / 2 = omega arith in
        bit_at-suc (n - 1) i ∙ (ap (λ (x : ℕ). bit_at x i) e ∙ sym (bit_at-suc n i))
less_by n t zero even some half =
    let h = half (omega arith) in
    (bit_at-suc (n - 1) t ∙ (ap (λ (x : ℕ). bit_at x t) e ∙ h.0), above h.1)
  where
    e : (n - 1) / 2 ≡ n / 2 - 1
    e = omega arith

    above : ((i : ℕ) → t < i → bit_at (n / 2 - 1) i ≡ bit_at (n / 2) i) → (i : ℕ) → suc t < i → bit_at (n - 1) i ≡ bit_at n i
    above h zero l = absurd (omega arith)
    above h (suc i) l =
        bit_at-suc (n - 1) i ∙ (ap (λ (x : ℕ). bit_at x i) e ∙ (h i (omega arith) ∙ sym (bit_at-suc n i)))

less : (k n : ℕ) → 0 < n → n < 2 ^ k → IsLess n (count_trailing_zeros k n)
unfolding count_trailing_zeros
less zero n some fits = absurd (omega arith)
less (suc k) n some fits = less_by n (count_trailing_zeros k (n / 2)) (n % 2) refl some (λ rest. less k (n / 2) rest (omega (arith, pow-suc 2 k)))

-- ---- the registers of a set
module _ (s r : ℕ) where
  unmarked : bit_at s r ≡ 0 → member s r ≡ false
  unfolding member
  unmarked e = rw e (and-false (ltb r 64))

  same_mark : (t : ℕ) → bit_at s r ≡ bit_at t r → member s r ≡ member t r
  unfolding member
  same_mark t e = ap (λ (b : ℕ). ltb r 64 && eqb b 1) e

  -- no register of 64 or above
  pub member_below : member s r ≡ true → r < 64
  member_below e = elim (cases_lt r 64) [ inl l ↦ l | inr g ↦ let f = member_high s r g in cc ]

-- the lowest register, then those of the set without it
pub members_first : (s : ℕ) → 0 < s → s < 2 ^ 64 → members s ≡ trailing_zeros w64 s ∷ members (bit_and s (s - 1))
unfolding members
members_first s some fits =
    first_pass (member s) (member (bit_and s (s - 1))) t 64 0 (omega arith) z.0
    (member_low s t z.0 ∙ eq-eqb (s / 2 ^ t % 2) 1 z.1)
    (unmarked (bit_and s (s - 1)) t (omega (arith, bit_at_and s (s - 1) t, m.0)))
    (λ r low high. unmarked s r (z.2 r high))
    (λ r low high. unmarked (bit_and s (s - 1)) r (omega (arith, bit_at_and s (s - 1) r, z.2 r high)))
    (λ r low high. same_mark s r (bit_and s (s - 1)) (omega (arith, bit_at_and s (s - 1) r, m.1 r low)))
  where
    t : ℕ
    t = trailing_zeros w64 s

    z : (t < 64) × (bit_at s t ≡ 1) × ((i : ℕ) → i < t → bit_at s i ≡ 0)
    z = bit_at-trailing_zeros w64 s some fits

    m : IsLess s t
    m = less 64 s some fits

-- none of the empty set
pub members_none : members 0 ≡ []
unfolding members
members_none = none_pass (member 0) 64 0 (λ r low high. unmarked 0 r (bit_at-zero r))

-- the first of them is in the set, and so below 64
pub first_member : (s v : ℕ) (vs : List ℕ) → members s ≡ v ∷ vs → member s v ≡ true
unfolding members
first_member s v vs e =
    let passes : All (λ x. member s x ≡ true) (v ∷ vs) = subst (All (λ x. member s x ≡ true)) e (filter_passes (member s) (range_with_len 0 64)) in
    passes 0 0 (omega arith)

pub members_below : (s v : ℕ) (vs : List ℕ) → members s ≡ v ∷ vs → v < 64
members_below s v vs e = member_below s v (first_member s v vs e)
