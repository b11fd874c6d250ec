use mathlib.Core.Path.{ap, ◌∙◌}
use Rattle.thread.specs.InnerStep.{table_from}
use Rattle.progress.specs.InnerProgress.{given}
use Rattle.progress.specs.declared.Picked.{Picked}
use Rattle.progress.proofs.Performs.{reach_length, a_pick}
use Rattle.progress.proofs.perform.Goals as goal

pub slice_bounds-step-end : goal.slice_bounds-step-end
slice_bounds-step-end c = reach_length c.args.code.now c.args.pick _ c.reach-reach.ensures

pub returns : goal.returns
returns c =
    ap (λ (r : Picked). given r (table_from c.step-a.new.registers c.step-a.new.counts)) c.left.ensures ∙ a_pick _ _ _ _ _ _ c.reach-reach.ensures _ _ c.step-a.ensures
