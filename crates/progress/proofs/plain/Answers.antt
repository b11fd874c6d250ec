use mathlib.Core.Path.{ap, ◌∙◌}
use Rattle.thread.specs.InnerStep.{table_from}
use Rattle.progress.specs.InnerProgress.{given}
use Rattle.progress.specs.declared.Picked.{Picked}
use Rattle.progress.proofs.Performs.{reach_length, a_plain}
use Rattle.progress.proofs.plain.Goals as goal

pub slice_bounds-plain-end : goal.slice_bounds-plain-end
slice_bounds-plain-end c = reach_length c.args.code.now c.args.pick _ c.reach-reach.ensures

pub returns : goal.returns
returns c =
    ap (λ (r : Picked). given r (table_from c.args.registers.now c.args.counts.now)) c.left.ensures ∙ a_plain _ _ _ _ _ _ c.reach-reach.ensures _ (c.plain-a.ensures _)
