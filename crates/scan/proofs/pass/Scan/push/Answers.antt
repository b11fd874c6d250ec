-- `scan::pass::Scan::push` meets its contract. Assumes nothing.
use mathlib.Core.Path.{◌∙◌}
use Rattle.scan.specs.InnerView.{kind_number}
use Rattle.scan.proofs.Stack.{on_top}
use Rattle.scan.proofs.pass.Scan.push.Goals as goal

pub returns-clause-view : goal.returns-clause-view
returns-clause-view c = c.put.ensures.view ∙ on_top c.args.self.now (kind_number c.args.kind) c.args.inside c.args.forks c.args.size
