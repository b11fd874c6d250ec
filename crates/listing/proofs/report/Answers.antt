-- `listing::report` meets its contract. Assumes nothing.
use Rattle.std.proofs.Common.{◌≤◌, List, ℕ, length, sym, ap, ◌∙◌, subst}
use Rattle.delivery.specs.Delivered.{delivered}
use Rattle.script.specs.Outcome.{done}
use Rattle.listing.proofs.report.Goals as goal

pub returns-clause-out_value : goal.returns-clause-out_value
returns-clause-out_value c = ap (λ (t : List ℕ). delivered (done t) c.args.out.now) (sym (c.text.ensures.text ∙ c.print.ensures)) ∙ c.deliver.ensures

pub returns-clause-input_len_bound : goal.returns-clause-input_len_bound
returns-clause-input_len_bound c = subst (λ (t : List ℕ). length t ≤ 4449) (c.text.ensures.text ∙ c.print.ensures) c.text.ensures.bound
