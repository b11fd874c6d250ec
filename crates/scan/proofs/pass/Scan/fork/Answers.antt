-- `scan::pass::Scan::fork` meets its contract. Assumes nothing.
use mathlib.Core.Path.{sym, ap, ◌∙◌}
use native.Mathlib.Omega.{arith}
use lib.ListN.{length}
use Rattle.code.specs.Ops.{fork}
use Rattle.code.specs.InnerScan.{scan_op, moved_past}
use Rattle.script.specs.Outcome.{mapped}
use Rattle.scan.proofs.Stack.{none_came, some_came, fork_done}
use Rattle.scan.proofs.pass.Scan.fork.Goals as goal

pub returns-then-self-clause-view : goal.returns-then-self-clause-view
unfolding scan_op
returns-then-self-clause-view c = rw c.if-self.true

pub returns-in_err-push-clause-view : goal.returns-in_err-push-clause-view
unfolding scan_op
returns-in_err-push-clause-view c = rw (c.from_residual.ensures, c.if-self.false, none_came c.push.result c.push.new.self c.push.ensures.view c.in_err-push.was)

pub returns-clause-view : goal.returns-clause-view
unfolding scan_op
returns-clause-view c = fork_done c.push.new.self c.args.size (omega (arith, c.in_ok-push.ensures.forks, ap length c.push.ensures.kept.1)) ∙ (ap (mapped (moved_past (fork c.args.size))) (sym (some_came c.push.result c.push.new.self c.push.ensures.view c.in_ok-push.was)) ∙ rw c.if-self.false)
