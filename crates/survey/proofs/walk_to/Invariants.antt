-- `survey::walk_to` meets its contract: the loop follows the definition's walk, and what is left to the target falls. Assumes nothing.
use Prim.Native.Nat.{◌-◌}
use Rattle.survey.specs.InnerRecords.{starts_of, ends_of}
use Rattle.survey.specs.InnerWalk.{going}
use Rattle.survey.proofs.Walks.{Loop}
use Rattle.survey.proofs.walk_to.Given as goal

abbrev pub invariant-loop-walk : goal.invariant-loop-walk
invariant-loop-walk l = Loop l.code (starts_of l.rows) (ends_of l.rows) l.row.start l.row.end l.row.place l.asked (going l.walk)

abbrev pub decreases-loop-walk : goal.decreases-loop-walk
decreases-loop-walk l = l.row.place - l.walk.place
