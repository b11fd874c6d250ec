-- `survey::is_at_most` meets its contract. Assumes nothing.
use Rattle.std.proofs.Common.{arith, ◌∙◌}
use Rattle.std.proofs.lemmas.Grind.{common_steps}
use Rattle.survey.proofs.Loops.{not_above, every_most}
use Rattle.survey.proofs.is_at_most.Goals as goal

pub returns : goal.returns
returns c =
    c.holds_everywhere.ensures (not_above c.args.counts.now c.args.most) (λ v b h p. let f = c.type_inv.counts v in grind (arith, common_steps)) ∙ every_most c.args.counts.now c.args.most
