-- `survey::is_all_asked` meets its contract. Assumes nothing.
use Rattle.std.proofs.Common.{◌≡◌, rules, tests, sym, ◌∙◌}
use Rattle.std.specs.Prelude.{drop}
use Rattle.std.specs.List.{list_all, enumerate_from}
use Rattle.std.proofs.lemmas.Iterator.{YieldsList-from_slice}
use Rattle.std.proofs.lemmas.Iterator.Adapters.{YieldsList-from_skip}
use Rattle.std.proofs.lemmas.Iterator.Consumers.{YieldsList-from_enumerate}
use Rattle.std.proofs.lemmas.Iterator.Search.{all_from_yields_List}
use Rattle.survey.proofs.Loops.{wanted, asked_by_all}
use Rattle.survey.proofs.is_all_asked.Goals as goal

pub returns : goal.returns
returns c =
    let each : c.all.result ≡ list_all (wanted c.args.rows.now c.args.asked) (drop 1 (enumerate_from 0 c.args.rows.now)) =
    all_from_yields_List (wanted c.args.rows.now c.args.asked) _ _ _ c.all.ensures.ran (YieldsList-from_skip 1 (YieldsList-from_enumerate (YieldsList-from_slice c.args.rows.now cc) cc) cc) (λ x b q k. search (rules, tests)) in
    each ∙ sym (asked_by_all c.args.rows.now c.args.asked (search rules))
