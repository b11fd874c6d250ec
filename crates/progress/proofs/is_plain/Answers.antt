use mathlib.Core.Path.{◌∙◌}
use Rattle.progress.proofs.Performs.{reach_length, plain_reach}
use Rattle.progress.proofs.is_plain.Goals as goal

-- src/lib.rt:153:16
pub slice_bounds-is_plain-end : goal.slice_bounds-is_plain-end
slice_bounds-is_plain-end c = reach_length c.args.code.now c.args.pick _ c.reach-reach.ensures

-- src/lib.rt:149:1
pub returns : goal.returns
returns c = c.is_plain.ensures ∙ plain_reach _ _ _ _ c.reach-reach.ensures
