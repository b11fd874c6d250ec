-- `engine::drive` meets its contract: the picks go on one by one, as the definition does. Assumes nothing.
use mathlib.Core.Path.{◌∙◌}
use native.Mathlib.Omega.{arith}
use lib.ListN.{get_or}
use Rattle.engine.specs.InnerEngine.{drove}
use Rattle.engine.proofs.Picks.{which_low, driven_none, goes_on}
use Rattle.engine.proofs.drive.Goals as goal

pub turn-progress-requires : goal.turn-progress-requires
turn-progress-requires c = omega (arith, c.requires, c.loop-pick.auto.threads, which_low (get_or c.args.picks.now c.loop-pick.pick-index 0))

pub loop-pick-preserved : goal.loop-pick-preserved
loop-pick-preserved c =
    goes_on c.args.code.now c.args.picks.now c.loop-pick.pick-index (drove c.loop-pick.registers c.loop-pick.counts c.loop-pick.threads c.loop-pick.progress) (drove c.turn-progress.new.registers c.turn-progress.new.counts c.turn-progress.new.threads c.turn-progress.result) c.loop-pick-test.true c.turn-progress.ensures
    ∙ c.loop-pick.invariant

pub returns : goal.returns
returns c =
    driven_none c.args.code.now c.args.picks.now c.loop-pick.pick-index (drove c.loop-pick.registers c.loop-pick.counts c.loop-pick.threads c.loop-pick.progress) c.loop-pick-test.false
    ∙ c.loop-pick.invariant
