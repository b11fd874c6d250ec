-- What is in a set of registers after one is put in, and that a set is known by what is in it. Assumes nothing.
use mathlib.Core.Path.{◌≡◌, refl, sym, ap, ◌∙◌}
use mathlib.Core.Bool.{true, false, ◌&&◌, and-false}
use Prim.Native.Nat.{ℕ, zero, suc, ◌+◌, ◌*◌, ◌-◌, ◌/◌, ◌%◌, ◌^◌, ◌≤◌, ◌<◌, max}
use native.Mathlib.Nat.{div_self, div-eq_of_lt, div-eq_of_eq-mul_left, one-mul, pow-suc, zero-div}
use native.Mathlib.Decide.{dec_lt, ℕ_discrete}
use native.Mathlib.Omega.{arith}
use lib.Dec.{eqb, ltb, lit<}
use lib.Bits.{bit_or, or_shr, or_step, or_lt}
use lib.Pow.{pow_pos, pow-lt, pow-add, shl_exact, shr-shr}
use borrow.Author.Tests.{lt-ltb, le-ltb, eq-eqb, ne_eqb, eqb-true, eqb-false}
use Rattle.word.specs.Registers.{member, none, with}

-- registers of 64 and above
pub member_high : (s r : ℕ) → 64 ≤ r → member s r ≡ false
unfolding member
member_high s r h = rw (le-ltb r 64 h)

pub with_high : (s r : ℕ) → 64 ≤ r → with s r ≡ s
unfolding with
with_high s r h = rw (le-ltb r 64 h)

-- registers below 64
pub member_low : (s r : ℕ) → r < 64 → member s r ≡ eqb (s / 2 ^ r % 2) 1
unfolding member
member_low s r h = rw (lt-ltb r 64 h)

pub with_low : (s r : ℕ) → r < 64 → with s r ≡ bit_or s (2 ^ r)
unfolding with
with_low s r h = rw (lt-ltb r 64 h)

-- the mask of one register, as the code makes it
pub mask : (r : ℕ) → r < 64 → (1 * 2 ^ r) % 18446744073709551616 ≡ 2 ^ r
mask r h = shl_exact 1 r 64 (lit< tt) (omega arith) ∙ one-mul _

-- bit q of the mask of r, and of two sets together
same_bit : (r : ℕ) → 2 ^ r / 2 ^ r % 2 ≡ 1
same_bit r = rw (div_self (pow_pos r)) refl

other_bit : (r q : ℕ) → (q ≡ r → ⊥) → 2 ^ r / 2 ^ q % 2 ≡ 0
other_bit r q n = go (dec_lt r q)
  where
    e : q < r → 2 ^ r ≡ 2 * 2 ^ (r - suc q) * 2 ^ q
    e h =
        let k : r ≡ (1 + (r - suc q)) + q = omega arith in
        ap (λ (n : ℕ). 2 ^ n) k ∙ (pow-add 2 (1 + (r - suc q)) q ∙ ap (λ (n : ℕ). n * 2 ^ q) (pow-add 2 1 (r - suc q)))

    go : Dec (r < q) → 2 ^ r / 2 ^ q % 2 ≡ 0
    go (yes h) = rw (div-eq_of_lt (pow-lt h)) refl
    go (no h) = rw (div-eq_of_eq-mul_left {k = 2 * 2 ^ (r - suc q)} (pow_pos q) (e (omega arith))) (omega arith)

or_bit : (a b q : ℕ) → bit_or a b / 2 ^ q % 2 ≡ max (a / 2 ^ q % 2) (b / 2 ^ q % 2)
or_bit a b q = rw (or_shr a b q) (omega (arith, or_step (a / 2 ^ q) (b / 2 ^ q)))

pub member_none : (r : ℕ) → member none r ≡ false
unfolding member none
member_none r = rw zero-div (and-false (ltb r 64))

-- after r is put in, r is in the set, and any other register is in it if it was
pub member_same : (s r : ℕ) → r < 64 → member (with s r) r ≡ true
member_same s r h =
    rw (with_low s r h, member_low (bit_or s (2 ^ r)) r h)
    (eq-eqb (bit_or s (2 ^ r) / 2 ^ r % 2) 1 (omega (arith, or_bit s (2 ^ r) r, same_bit r)))

pub member_other : (s r q : ℕ) → (q ≡ r → ⊥) → member (with s r) q ≡ member s q
unfolding member
member_other s r q n = go (dec_lt r 64)
  where
    go : Dec (r < 64) → member (with s r) q ≡ member s q
    go (yes h) =
        let e : bit_or s (2 ^ r) / 2 ^ q % 2 ≡ s / 2 ^ q % 2 = omega (arith, or_bit s (2 ^ r) q, other_bit r q n) in
        rw (with_low s r h) (ap (λ (b : ℕ). ltb q 64 && eqb b 1) e)
    go (no h) = rw (with_high s r (omega arith))

pub with_small : (s r : ℕ) → s < 2 ^ 64 → with s r < 2 ^ 64
with_small s r h = go (dec_lt r 64)
  where
    go : Dec (r < 64) → with s r < 2 ^ 64
    go (yes l) = rw (with_low s r l) (or_lt 64 s (2 ^ r) h (pow-lt l))
    go (no l) = rw (with_high s r (omega arith)) h

-- a number is known by its bits, and so a set by what is in it
same_bits : (n s t : ℕ) → s < 2 ^ n → t < 2 ^ n → ((r : ℕ) → r < n → s / 2 ^ r % 2 ≡ t / 2 ^ r % 2) → s ≡ t
same_bits zero s t h k e = omega arith
same_bits (suc n) s t h k e =
    let f : (r : ℕ) → r < n → s / 2 / 2 ^ r % 2 ≡ t / 2 / 2 ^ r % 2 = λ r l. rw (shr-shr s 1 r, shr-shr t 1 r) (e (1 + r) (omega arith)) in
    omega (arith, same_bits n (s / 2) (t / 2) (omega (arith, pow-suc 2 n)) (omega (arith, pow-suc 2 n)) f, e 0 (omega arith))

same_digit : (b c : ℕ) → b < 2 → c < 2 → eqb b 1 ≡ eqb c 1 → b ≡ c
same_digit b c h k e = go (ℕ_discrete b 1)
  where
    go : Dec (b ≡ 1) → b ≡ c
    go (yes p) = p ∙ sym (eqb-true c 1 (sym e ∙ eq-eqb b 1 p))
    go (no p) = omega (arith, eqb-false c 1 (sym e ∙ ne_eqb b 1 p))

pub same_members : (s t : ℕ) → s < 2 ^ 64 → t < 2 ^ 64 → ((r : ℕ) → r < 64 → member s r ≡ member t r) → s ≡ t
same_members s t h k e = same_bits 64 s t h k bit
  where
    bit : (r : ℕ) → r < 64 → s / 2 ^ r % 2 ≡ t / 2 ^ r % 2
    bit r l = same_digit (s / 2 ^ r % 2) (t / 2 ^ r % 2) (omega arith) (omega arith) (sym (member_low s r l) ∙ (e r l ∙ member_low t r l))
