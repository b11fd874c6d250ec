-- `survey::is_within` meets its contract. Assumes nothing.
use Rattle.std.proofs.Common.{rules, ◌∙◌}
use Rattle.survey.proofs.Loops.{not_ahead, every_within}
use Rattle.survey.proofs.is_within.Goals as goal

pub returns : goal.returns
returns c =
    c.holds_everywhere.ensures (not_ahead c.args.logged.now c.args.counts.now) (λ v b h p. search rules) ∙ every_within c.args.logged.now c.args.counts.now
