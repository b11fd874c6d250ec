-- A sum of counts that is no number too great is the sum. Assumes nothing.
use mathlib.Core.Path.{◌≡◌}
use Prim.Native.Nat.{ℕ, ◌+◌, ◌≤◌}
use native.Mathlib.Omega.{arith}
use Rattle.word.specs.InnerCount.{saturated}

pub saturated_exact : (a b : ℕ) → a + b ≤ 18446744073709551615 → saturated a b ≡ a + b
saturated_exact a b l = omega arith
