-- `word::add` meets its contract: std's sum that may overflow is the one of the contract. Assumes nothing.
use Rattle.std.proofs.Common.{◌∙◌, ap}
use lib.IntN.{ℤ}
use mir.Syntax.{w32}
use mir.Val.{to_z, of_z}
use mir.Facts.{to_z-of_z}
use Rattle.word.specs.Sum.{added}
use Rattle.word.proofs.Sums.{range→fits, wrapping_in_range, wrapping_is, overflows_is}
use Rattle.word.proofs.add.Goals as goal

pub returns : goal.returns
unfolding added
returns c =
    let p = to_z-of_z c.ranges.a in
    let q = to_z-of_z c.ranges.b in
    let value = (rw (p, q) at c.overflowing_add-value.ensures.value) ∙ wrapping_is c.args.a c.args.b c.ranges.a c.ranges.b in
    let overflowed = overflows_is c.args.a c.args.b _ (rw (p, q) at c.overflowing_add-value.ensures.overflow) in
    let again = ap (λ (z : ℤ). to_z w32 (of_z w32 z)) value ∙ to_z-of_z (range→fits (wrapping_in_range c.args.a c.args.b)) in
    λ i. record { value = again i; overflowed = overflowed i }
