-- `forecast::figures` meets its contract: the loop walks the job's tree, and what is left of the bytes falls. Assumes nothing.
use Prim.Native.Nat.{◌-◌, ◌≤◌}
use mathlib.Core.Path.{◌≡◌}
use lib.ListN.{length, take}
use Rattle.forecast.specs.InnerWalk.{Accepts}
use Rattle.forecast.proofs.Walk.{Inv}
use Rattle.forecast.proofs.figures.Given as goal

abbrev pub invariant-loop-waiting : goal.invariant-loop-waiting
invariant-loop-waiting l = (l.waiting ≤ 65) × (length l.parts ≡ 65) × ((a : Accepts l.job l.length) → Inv l.job a.job.tree (record { due = take l.waiting l.parts; place = l.place; tally = record { counts = l.totals; heights = l.heights } }))

abbrev pub decreases-loop-waiting : goal.decreases-loop-waiting
decreases-loop-waiting l = length l.job - l.place
