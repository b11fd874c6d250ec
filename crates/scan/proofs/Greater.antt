-- std's greater of two numbers is `max`. Assumes nothing.
use Prim.Native.Nat.{ℕ, max}
use mathlib.Core.Path.{◌≡◌}
use Rattle.std.proofs.Common.{rules}
use Rattle.std.specs.Ordering.{ord_max, nat_cmp}

pub greater : (a b : ℕ) → ord_max nat_cmp a b ≡ max a b
greater a b = search rules
