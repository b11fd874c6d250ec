-- Numbers of 32 bits as whole numbers, and the rule for their sum.
use Rattle.std.specs.Prelude.{ℕ, ◌-◌, ◌%◌, ◌^◌, Bool, cond, ◌||◌, ℤ, pos, negsuc, ◌+ℤ◌, ◌-ℤ◌, ◌≤ℤ◌, ltb}
use Rattle.std.specs.Int.Signed.{lt_z}
use Rattle.word.specs.declared.Added.{Added}

-- "a signed 32-bit number": −2147483648 to 2147483647
pub record InRange (z : ℤ) : Type 0 where
  pub low : negsuc 2147483647 ≤ℤ z
  pub high : z ≤ℤ pos 2147483647

-- the remainder of z by 2 ^ 32: 0 to 2 ^ 32 − 1
unfoldable pub residue : ℤ → ℕ
residue (pos n) = n % 2 ^ 32
residue (negsuc n) = (2 ^ 32 - 1) - n % 2 ^ 32

-- the number in range whose remainder by 2 ^ 32 is n, for n below 2 ^ 32
unfoldable pub signed : ℕ → ℤ
signed n = cond (ltb n 2147483648) (pos n) (pos n -ℤ pos 4294967296)

-- the one number in range that differs from z by a multiple of 2 ^ 32 (`proofs/Sums.antt`: wrap-in-range, wrap-differs, wrap-only)
unfoldable pub wrap : ℤ → ℤ
wrap z = signed (residue z)

-- a rule for sums: what ADD makes of its two numbers
abbrev pub Rule : Type 0
Rule = ℤ → ℤ → ℤ

-- document 01: "sums wrap in 32 bits, two's complement"
unfoldable pub wrapping : Rule
wrapping a b = wrap (a +ℤ b)

-- document 02 No. 2: "whether the exact sum fell outside" the range of signed 32-bit numbers, whatever the rule for sums (`proofs/Sums.antt`:
-- overflowed-exactly)
unfoldable pub overflows : ℤ → ℤ → Bool
overflows a b = lt_z (pos 2147483647) (a +ℤ b) || lt_z (a +ℤ b) (negsuc 2147483647)

-- 1 if it did, else 0
abbrev pub over_of : ℤ → ℤ → ℕ
over_of a b = cond (overflows a b) 1 0

-- "Adding two numbers now also tells whether the exact sum fell outside"
unfoldable pub added : Rule → ℤ → ℤ → Added
added sum a b = record { value = sum a b; overflowed = overflows a b }
