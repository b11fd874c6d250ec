-- `scan::instructions` meets its contract: the loop follows `scan_ops` and counts the nodes of each transaction, and the code that is left falls. Assumes nothing.
use Prim.Native.Nat.{◌-◌}
use lib.ListN.{length}
use Rattle.scan.proofs.Loops.{Loop}
use Rattle.scan.proofs.Long.{Counting}
use Rattle.scan.proofs.instructions.Given as goal

abbrev pub invariant-loop-place : goal.invariant-loop-place
invariant-loop-place l = Loop l.code l.scan × Counting l.code l.scan.place l.since

abbrev pub decreases-loop-place : goal.decreases-loop-place
decreases-loop-place l = length l.code - l.scan.place
