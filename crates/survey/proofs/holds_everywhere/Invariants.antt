-- `survey::holds_everywhere` meets its contract. Assumes nothing.
use Rattle.std.proofs.Common.{◌<◌, ◌≡◌, ◌&&◌, ℕ, Bool, ◌-◌}
use Rattle.survey.specs.InnerRecords.{every}
use Rattle.survey.proofs.holds_everywhere.Given as goal

-- the places so far, with those that are left
abbrev pub invariant-loop-v : goal.invariant-loop-v
invariant-loop-v g l =
    (good : ℕ → Bool) → ((v : ℕ) (b : Bool) → v < 64 → goal.F-post g l.test v b → b ≡ good v) → (l.held && every (64 - l.v) l.v good) ≡ every 64 0 good
