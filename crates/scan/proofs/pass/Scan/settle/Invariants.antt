-- `scan::pass::Scan::settle` meets its contract: the loop follows `closes`, and the open FORKs fall. Assumes nothing.
use mathlib.Core.Path.{◌≡◌}
use Rattle.scan.proofs.Stack.{remaining}
use Rattle.scan.proofs.pass.Scan.settle.Given as goal

abbrev pub invariant-loop-self : goal.invariant-loop-self
invariant-loop-self l = (remaining l.self ≡ remaining l.initial.self) × (l.self.place ≡ l.initial.self.place)

abbrev pub decreases-loop-self : goal.decreases-loop-self
decreases-loop-self l = l.self.forked
