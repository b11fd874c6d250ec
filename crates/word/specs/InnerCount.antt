-- What `saturating_add` of two counts gives. Nobody has to believe it: below 2 ^ 64 it is the sum (`saturated_exact`, proofs/Counting).
use Rattle.std.specs.Prelude.{ℕ, ◌+◌, ◌-◌, ◌^◌, min}

-- the sum of two counts; the greatest number stands for what is above it
abbrev pub saturated : ℕ → ℕ → ℕ
saturated a b = min (a + b) (2 ^ 64 - 1)
