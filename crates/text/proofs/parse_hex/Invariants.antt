-- `text::parse_hex` meets its contract. The loop's invariant: `count` is within out, which is as long as it came. The measure is what is left. Assumes nothing.
use Rattle.std.proofs.Common.{◌≤◌, length}
use Rattle.text.proofs.parse_hex.Given as goal

abbrev pub invariant-loop-left : goal.invariant-loop-left
invariant-loop-left l = l.count ≤ length l.out

abbrev pub decreases-loop-left : goal.decreases-loop-left
decreases-loop-left l = length l.left
