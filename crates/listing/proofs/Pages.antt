-- The digits of a number on a page, and how many they are. Assumes nothing.
use Prim.Native.Nat.{ℕ, zero, suc, ◌+◌, ◌-◌, ◌*◌, ◌/◌, ◌%◌, ◌^◌, ◌<◌, ◌≤◌}
use mathlib.Core.Bool.{Bool, true, false, cond}
use mathlib.Core.Path.{◌≡◌, refl, ap, subst, ◌∙◌}
use mathlib.Core.List.{[], ◌∷◌, ◌++◌}
use native.Mathlib.Nat.{pow-suc, one-le-pow}
use native.Mathlib.Omega.{arith}
use borrow.Author.Tests.{lt-ltb, le-ltb}
use lib.Dec.{ltb, lit<}
use lib.ListN.{length, length-append}
use Rattle.io.specs.Digits as io
use Rattle.listing.specs.Listed.{digits, decimal}

-- a digit below 10
glyph_is : (d : ℕ) → d < 10 → io.hex_digit_ascii d ≡ 48 + d
glyph_is d h = rw (lt-ltb d 10 h)

-- a power of ten, and ten of the next
ten : (k : ℕ) → 10 ^ suc k ≡ 10 ^ k * 10
ten k = pow-suc 10 k

at_least : (k n : ℕ) → 10 ^ suc k ≤ n → 10 ≤ n
at_least k n q = let e : 10 ^ suc k ≡ 10 ^ k * 10 = ten k in let o : 1 ≤ 10 ^ k = one-le-pow k 10 (lit< tt) in omega (arith, q, e, o)

tenth_below : (k n : ℕ) → n < 10 ^ suc (suc k) → n / 10 < 10 ^ suc k
tenth_below k n q = let e : 10 ^ suc (suc k) ≡ 10 ^ suc k * 10 = ten (suc k) in omega (arith, q, e)

tenth_above : (k n : ℕ) → 10 ^ suc k ≤ n → 10 ^ k ≤ n / 10
tenth_above k n q = let e : 10 ^ suc k ≡ 10 ^ k * 10 = ten k in omega (arith, q, e)

-- a number's digits, by its size
pub digits_by : (most n : ℕ) → digits (suc most) n ≡ cond (ltb n 10) ((48 + n) ∷ []) (digits most (n / 10) ++ ((48 + n % 10) ∷ []))
unfolding digits
digits_by most n = by_test (ltb n 10) refl
  where
    by_test : (t : Bool) → ltb n 10 ≡ t → digits (suc most) n ≡ cond (ltb n 10) ((48 + n) ∷ []) (digits most (n / 10) ++ ((48 + n % 10) ∷ []))
    by_test true e = rw (digits, e) refl
    by_test false e = rw (digits, e) refl

-- a number below a power of ten has no more digits
digits_short : (most k n : ℕ) → n < 10 ^ suc k → length (digits most n) ≤ suc k
unfolding digits
digits_short zero k n h = omega arith
digits_short (suc most) zero n h = rw (digits_by most n, lt-ltb n 10 (omega (arith, h))) (omega arith)
digits_short (suc most) (suc k) n h = rw (digits_by most n) (by_test (digits_short most k (n / 10) (tenth_below k n h)) (ltb n 10))
  where
    by_test : length (digits most (n / 10)) ≤ suc k → (t : Bool) → length (cond t ((48 + n) ∷ []) (digits most (n / 10) ++ ((48 + n % 10) ∷ []))) ≤ suc (suc k)
    by_test r true = omega arith
    by_test r false = let l : length (digits most (n / 10) ++ ((48 + n % 10) ∷ [])) ≡ length (digits most (n / 10)) + 1 = length-append (digits most (n / 10)) ((48 + n % 10) ∷ []) in omega (arith, r, l)

-- 20 hold every number of 64 bits
pub decimal_short : (n : ℕ) → n < 2 ^ 64 → length (decimal n) ≤ 20
unfolding decimal
decimal_short n h = digits_short (suc n) 19 n (omega (arith, h))

-- the fewest digits that hold a number are its digits
spelt : (k most n : ℕ) → suc k ≤ most → n < 10 ^ suc k → (1 ≤ k → 10 ^ k ≤ n) → io.last_digits 10 (suc k) n ≡ digits most n
unfolding digits
spelt k zero n h u l = absurd (omega (arith, h))
spelt zero (suc most) n h u l =
    let s : n < 10 = omega (arith, u) in
    let z : n % 10 ≡ n = omega (arith, s) in
    rw (digits_by most n, lt-ltb n 10 s) (ap (◌∷ []) (glyph_is (n % 10) (omega arith) ∙ ap (48 +◌) z))
spelt (suc k) (suc most) n h u l =
    let b : 10 ≤ n = at_least k n (l (omega arith)) in
    let r : io.last_digits 10 (suc k) (n / 10) ≡ digits most (n / 10) = spelt k most (n / 10) (omega (arith, h)) (tenth_below k n u) (λ q. tenth_above k n (l (omega arith))) in
    rw (digits_by most n, le-ltb n 10 b) (ap (◌++ (io.hex_digit_ascii (n % 10) ∷ [])) r ∙ ap (λ (d : ℕ). digits most (n / 10) ++ (d ∷ [])) (glyph_is (n % 10) (omega arith)))

-- a power of ten is above its exponent
pub above : (k : ℕ) → k < 10 ^ k
above zero = lit< tt
above (suc k) = let e : 10 ^ suc k ≡ 10 ^ k * 10 = ten k in omega (arith, above k, e)

few : (n k : ℕ) → (1 ≤ k → 10 ^ k ≤ n) → suc k ≤ suc n
few n zero l = omega arith
few n (suc k) l = omega (arith, above (suc k), l (omega arith))

pub decimal_digits : (n k : ℕ) → io.IsDigitCount 10 1 n k → io.last_digits 10 k n ≡ decimal n
unfolding decimal
decimal_digits n zero f = absurd (omega (arith, f.0))
decimal_digits n (suc k) f = spelt k (suc n) n (few n k least) f.1 least
  where
    least : 1 ≤ k → 10 ^ k ≤ n
    least q = subst (λ (j : ℕ). 10 ^ j ≤ n) (let z : suc k - 1 ≡ k = omega arith in z) (f.2 (omega (arith, q)))
