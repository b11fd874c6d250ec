-- `survey::is_all_met` meets its contract. Assumes nothing.
use Rattle.std.proofs.Common.{◌≡◌, rules, tests, sym, ◌∙◌}
use Rattle.std.specs.List.{list_all}
use Rattle.std.proofs.lemmas.Iterator.{YieldsList-from_slice}
use Rattle.std.proofs.lemmas.Iterator.Search.{all_from_yields_List}
use Rattle.survey.proofs.Loops.{enough, met_by_all}
use Rattle.survey.proofs.is_all_met.Goals as goal

pub returns : goal.returns
returns c =
    let each : c.all.result ≡ list_all (enough c.args.rows.now c.args.commits) c.args.rows.now =
    all_from_yields_List (enough c.args.rows.now c.args.commits) _ _ _ c.all.ensures.ran (YieldsList-from_slice c.args.rows.now cc) (λ x b q k. search (rules, tests)) in
    each ∙ sym (met_by_all c.args.rows.now c.args.commits (search rules))
