-- What a number wraps to is in range, differs from it by a multiple of 2 ^ 32, and is the one number that does both. Assumes nothing.
use mathlib.Core.Bool.{Bool, true, false, ◌||◌}
use mathlib.Core.Logic.{◌↔◌}
use mathlib.Core.Path.{◌≡◌, refl, sym, ap, ◌∙◌}
use Prim.Native.Nat.{ℕ, zero, suc, ◌+◌, ◌*◌, ◌-◌, ◌/◌, ◌%◌, ◌^◌, ◌≤◌, ◌<◌}
use native.Mathlib.Decide.{dec_lt}
use native.Mathlib.Omega.{arith}
use lib.IntN.{ℤ, pos, negsuc, neg_ℤ, sub_ℕ, ◌+ℤ◌, ◌*ℤ◌}
use lib.Signed.{le_z_yes, lt_z}
use lib.Dec.{ltb, leb→le, le→leb}
use borrow.Author.Tests.{lt-ltb, le-ltb}
use mir.Syntax.{w32}
use mir.Val.{SFits, to_z, of_z}
use Rattle.std.specs.Bool.{FalseIff}
use Rattle.word.specs.Sum.{InRange, residue, signed, wrap, Rule, wrapping, overflows, added}

-- the range, as the check of the code states it
pub fits→range : {z : ℤ} → SFits w32 z → InRange z
fits→range {z = pos n} f = record { low = le_z_yes tt; high = le_z_yes (le→leb n 2147483647 (omega arith)) }
fits→range {z = negsuc n} f = record { low = le_z_yes (le→leb n 2147483647 (omega arith)); high = le_z_yes tt }

pub range→fits : {z : ℤ} → InRange z → SFits w32 z
range→fits {z = pos n} h = record { sfits = omega (arith, leb→le n 2147483647 h.high.le) }
range→fits {z = negsuc n} h = record { sfits = omega (arith, leb→le n 2147483647 h.low.le) }

-- `signed` of the lower half, and of the upper
signed_low : (n : ℕ) → n < 2147483648 → signed n ≡ pos n
unfolding signed
signed_low n h = rw (lt-ltb n 2147483648 h)

signed_high : (n : ℕ) → 2147483648 ≤ n → n < 4294967296 → signed n ≡ negsuc (4294967296 - suc n)
unfolding signed
signed_high n h k = rw (le-ltb n 2147483648 h, lt-ltb n 4294967296 k)

-- `residue` and `signed` undo each other
pub residue_small : (z : ℤ) → residue z < 2 ^ 32
unfolding residue
residue_small (pos n) = omega arith
residue_small (negsuc n) = omega arith

pub signed_in_range : (n : ℕ) → n < 2 ^ 32 → InRange (signed n)
signed_in_range n h = go (dec_lt n 2147483648)
  where
    go : Dec (n < 2147483648) → InRange (signed n)
    go (yes l) = rw (signed_low n l) (fits→range (record { sfits = l }))
    go (no l) =
        let g : 2147483648 ≤ n = omega arith in
        rw (signed_high n g h) (fits→range (record { sfits = omega arith }))

pub residue_signed : (n : ℕ) → n < 2 ^ 32 → residue (signed n) ≡ n
unfolding residue
residue_signed n h = go (dec_lt n 2147483648)
  where
    go : Dec (n < 2147483648) → residue (signed n) ≡ n
    go (yes l) = rw (signed_low n l) (omega arith)
    go (no l) =
        let g : 2147483648 ≤ n = omega arith in
        rw (signed_high n g h) (omega arith)

pub signed_residue : (z : ℤ) → InRange z → signed (residue z) ≡ z
unfolding residue
signed_residue (pos n) h =
    let b : n < 2147483648 = (range→fits h).sfits in
    let e : residue (pos n) ≡ n = omega arith in
    rw e (signed_low n b)
signed_residue (negsuc n) h =
    let b : n < 2147483648 = (range→fits h).sfits in
    let e : residue (negsuc n) ≡ 4294967295 - n = omega arith in
    let f : 4294967296 - suc (4294967295 - n) ≡ n = omega arith in
    rw (e, signed_high (4294967295 - n) (omega arith) (omega arith)) (ap negsuc f)

-- what a number wraps to
pub wrap_in_range : (z : ℤ) → InRange (wrap z)
unfolding wrap
wrap_in_range z = signed_in_range (residue z) (residue_small z)

pub wrapping_in_range : (a b : ℤ) → InRange (wrapping a b)
unfolding wrapping
wrapping_in_range a b = wrap_in_range (a +ℤ b)

pub wrap_same : (z : ℤ) → InRange z → wrap z ≡ z
unfolding wrap
wrap_same = signed_residue

-- multiples of 2 ^ 32 below zero, and differences of naturals
below : (q : ℕ) → negsuc q *ℤ pos 4294967296 ≡ negsuc (q * 4294967296 + 4294967295)
below q =
    let e : suc q * 4294967296 ≡ suc (q * 4294967296 + 4294967295) = omega arith in
    ap (λ (m : ℕ). neg_ℤ (pos m)) e

sub_lt : (a b c : ℕ) → a + suc c ≡ b → sub_ℕ a b ≡ negsuc c
sub_lt a b c e =
    let f : b - suc a ≡ c = omega arith in
    rw (lt-ltb a b (omega arith)) (ap negsuc f)

sub_ge : (a b c : ℕ) → b + c ≡ a → sub_ℕ a b ≡ pos c
sub_ge a b c e =
    let f : a - b ≡ c = omega arith in
    rw (le-ltb a b (omega arith)) (ap pos f)

minus : (x q : ℕ) → negsuc x +ℤ (neg_ℤ (pos q) *ℤ pos 4294967296) ≡ negsuc (x + q * 4294967296)
minus x zero = sub_lt 0 (suc x) (x + 0 * 4294967296) (omega arith)
minus x (suc q) =
    let e : suc (x + (q * 4294967296 + 4294967295)) ≡ x + suc q * 4294967296 = omega arith in
    rw (below q) (ap negsuc e)

-- z differs from what it wraps to by a multiple of 2 ^ 32
pub wrap_differs : (z : ℤ) → (k : ℤ) × (z ≡ wrap z +ℤ (k *ℤ pos 4294967296))
unfolding wrap residue
wrap_differs (pos n) = go (dec_lt r 2147483648)
  where
    r : ℕ
    r = residue (pos n)

    q : ℕ
    q = n / 4294967296

    go : Dec (r < 2147483648) → (k : ℤ) × (pos n ≡ wrap (pos n) +ℤ (k *ℤ pos 4294967296))
    go (yes l) =
        let e : n ≡ r + q * 4294967296 = omega arith in
        (pos q, rw (signed_low r l) (ap pos e))
    go (no l) =
        (pos (suc q), rw (signed_high r (omega arith) (residue_small (pos n))) (sym (sub_ge (suc q * 4294967296) (suc (4294967296 - suc r)) n (omega arith))))
wrap_differs (negsuc n) = go (dec_lt r 2147483648)
  where
    r : ℕ
    r = residue (negsuc n)

    q : ℕ
    q = n / 4294967296

    go : Dec (r < 2147483648) → (k : ℤ) × (negsuc n ≡ wrap (negsuc n) +ℤ (k *ℤ pos 4294967296))
    go (yes l) =
        (negsuc q, rw (signed_low r l, below q) (sym (sub_lt r (suc (q * 4294967296 + 4294967295)) n (omega arith))))
    go (no l) =
        let e : n ≡ (4294967296 - suc r) + q * 4294967296 = omega arith in
        (neg_ℤ (pos q), rw (signed_high r (omega arith) (residue_small (negsuc n))) (ap negsuc e ∙ sym (minus (4294967296 - suc r) q)))

-- a multiple of 2 ^ 32 changes no remainder
residue_shift : (w k : ℤ) → residue (w +ℤ (k *ℤ pos 4294967296)) ≡ residue w
unfolding residue
residue_shift (pos a) (pos k) = omega arith
residue_shift (pos a) (negsuc k) = rw (below k) (go (dec_lt a (suc (k * 4294967296 + 4294967295))))
  where
    go : Dec (a < suc (k * 4294967296 + 4294967295)) → residue (sub_ℕ a (suc (k * 4294967296 + 4294967295))) ≡ a % 4294967296
    go (yes h) = rw (lt-ltb a (suc (k * 4294967296 + 4294967295)) h) (omega arith)
    go (no h) = rw (le-ltb a (suc (k * 4294967296 + 4294967295)) (omega arith)) (omega arith)
residue_shift (negsuc a) (pos k) = go (dec_lt (k * 4294967296) (suc a))
  where
    go : Dec (k * 4294967296 < suc a) → residue (sub_ℕ (k * 4294967296) (suc a)) ≡ 4294967295 - a % 4294967296
    go (yes h) = rw (lt-ltb (k * 4294967296) (suc a) h) (omega arith)
    go (no h) = rw (le-ltb (k * 4294967296) (suc a) (omega arith)) (omega arith)
residue_shift (negsuc a) (negsuc k) = rw (below k) (omega arith)

-- and what z wraps to is the only number in range that does
pub wrap_only : (z w k : ℤ) → InRange w → z ≡ w +ℤ (k *ℤ pos 4294967296) → w ≡ wrap z
unfolding wrap
wrap_only z w k h e = sym (rw (e, residue_shift w k) (signed_residue w h))

-- std's wrapped sum is this one
residue_add : (a b : ℤ) → (residue a + residue b) % 2 ^ 32 ≡ residue (a +ℤ b)
unfolding residue
residue_add (pos a) (pos b) = omega arith
residue_add (pos a) (negsuc b) = go (dec_lt a (suc b))
  where
    go : Dec (a < suc b) → (a % 4294967296 + (4294967295 - b % 4294967296)) % 4294967296 ≡ residue (sub_ℕ a (suc b))
    go (yes h) = rw (lt-ltb a (suc b) h) (omega arith)
    go (no h) = rw (le-ltb a (suc b) (omega arith)) (omega arith)
residue_add (negsuc a) (pos b) = go (dec_lt b (suc a))
  where
    go : Dec (b < suc a) → ((4294967295 - a % 4294967296) + b % 4294967296) % 4294967296 ≡ residue (sub_ℕ b (suc a))
    go (yes h) = rw (lt-ltb b (suc a) h) (omega arith)
    go (no h) = rw (le-ltb b (suc a) (omega arith)) (omega arith)
residue_add (negsuc a) (negsuc b) = omega arith

signed_is : (n : ℕ) → n < 2 ^ 32 → to_z w32 n ≡ signed n
signed_is n h = go (dec_lt n 2147483648)
  where
    go : Dec (n < 2147483648) → to_z w32 n ≡ signed n
    go (yes l) = rw (signed_low n l, lt-ltb n 2147483648 l)
    go (no l) = rw (signed_high n (omega arith) h, le-ltb n 2147483648 (omega arith))

residue_is : (z : ℤ) → SFits w32 z → of_z w32 z ≡ residue z
unfolding residue
residue_is (pos n) f = let h = f.sfits in omega arith
residue_is (negsuc n) f = let h = f.sfits in omega arith

pub wrapping_is : (a b : ℤ) → SFits w32 a → SFits w32 b → to_z w32 ((of_z w32 a + of_z w32 b) % 2 ^ 32) ≡ wrapping a b
unfolding wrapping wrap
wrapping_is a b f g =
    signed_is _ (omega arith) ∙ ap signed (ap (λ (n : ℕ). (n + of_z w32 b) % 2 ^ 32) (residue_is a f) ∙ ap (λ (n : ℕ). (residue a + n) % 2 ^ 32) (residue_is b g) ∙ residue_add a b)

-- ---- whether a sum leaves the range
clash : {A : Type 0} → ◌≡◌ {A = Bool} false true → A
clash e = absurd (let z : ◌≡◌ {A = ℕ} 0 1 = cc in omega arith)

outside_not : (z : ℤ) → (lt_z (pos 2147483647) z || lt_z z (negsuc 2147483647)) ≡ true → InRange z → ⊥
outside_not (pos n) e h =
    let b : n ≤ 2147483647 = let f = (range→fits h).sfits in omega arith in
    clash (sym (rw (le-ltb 2147483647 n b)) ∙ e)
outside_not (negsuc n) e h =
    let b : n ≤ 2147483647 = let f = (range→fits h).sfits in omega arith in
    clash (sym (rw (le-ltb 2147483647 n b)) ∙ e)

not_outside : (z : ℤ) → (InRange z → ⊥) → (lt_z (pos 2147483647) z || lt_z z (negsuc 2147483647)) ≡ true
not_outside (pos n) h = go (dec_lt 2147483647 n)
  where
    go : Dec (2147483647 < n) → (ltb 2147483647 n || false) ≡ true
    go (yes l) = rw (lt-ltb 2147483647 n l)
    go (no l) = absurd (h (fits→range (record { sfits = omega arith })))
not_outside (negsuc n) h = go (dec_lt 2147483647 n)
  where
    go : Dec (2147483647 < n) → (false || ltb 2147483647 n) ≡ true
    go (yes l) = rw (lt-ltb 2147483647 n l)
    go (no l) = absurd (h (fits→range (record { sfits = omega arith })))

-- a sum tells of itself exactly if the exact sum is no number of 32 bits, whatever the rule
pub overflowed_exactly : (sum : Rule) (a b : ℤ) → ((added sum a b).overflowed ≡ true) ↔ (InRange (a +ℤ b) → ⊥)
unfolding added overflows
overflowed_exactly sum a b = (outside_not (a +ℤ b), not_outside (a +ℤ b))

-- std's flag says the same
pub overflows_is : (a b : ℤ) (t : Bool) → FalseIff t (SFits w32 (a +ℤ b)) → t ≡ overflows a b
unfolding overflows
overflows_is a b true f = sym (not_outside (a +ℤ b) (λ h. f (range→fits h)))
overflows_is a b false f = go _ refl
  where
    go : (t : Bool) → overflows a b ≡ t → false ≡ t
    go true e = absurd (outside_not (a +ℤ b) e (fits→range f))
    go false e = refl

-- and what it gives is the rule's sum
pub added_value : (sum : Rule) (a b : ℤ) → (added sum a b).value ≡ sum a b
unfolding added
added_value sum a b = refl
