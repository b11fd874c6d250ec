use Rattle.std.proofs.Common.{◌≡◌, drop}
use Rattle.progress.specs.InnerProgress.{driven}
use Rattle.engine.specs.InnerEngine.{drove}
use Rattle.engine.proofs.drive.Given as goal

-- the picks that are left, run from here, come to what all of them come to from the start
abbrev pub invariant-loop-pick : goal.invariant-loop-pick
invariant-loop-pick l =
    driven l.code (drop l.pick-index l.picks) (drove l.registers l.counts l.threads l.progress) ≡ driven l.code l.picks (drove l.initial.registers l.initial.counts l.initial.threads l.initial.progress)
