-- `job::nodes` meets its contract: the loop follows `read_nodes` and counts each transaction's nodes, and what is left of the count falls. Assumes nothing.
use Prim.Native.Nat.{◌≤◌}
use mathlib.Core.Path.{◌≡◌}
use lib.ListN.{drop, take, length}
use Rattle.script.specs.Jobs.{root}
use Rattle.script.specs.Reader.{read_nodes, whole}
use Rattle.job.proofs.Walk.{ReaderInv}
use Rattle.job.proofs.Long.{Counting}
use Rattle.job.proofs.nodes.Given as goal

abbrev pub invariant-loop-height : goal.invariant-loop-height
invariant-loop-height l = (l.height ≤ 65) × (length l.due ≡ 65) × ReaderInv l.job l.version l.count (record { due = take l.height l.due; at = l.cursor }) × Counting l.job (whole l.version (read_nodes l.count root 0 7 (drop 7 l.job))) l.cursor.place l.transactions

abbrev pub decreases-loop-height : goal.decreases-loop-height
decreases-loop-height l = l.cursor.left
