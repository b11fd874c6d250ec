-- `scan::pass::Scan::write` meets its contract. Assumes nothing.
use mathlib.Core.Path.{◌∙◌}
use Rattle.std.proofs.Common.{add-zero, add-one}
use Rattle.scan.specs.declared.pass.Kind.TheVariants as kind
use Rattle.code.specs.InnerScan.{scan_op}
use Rattle.scan.proofs.Stack.{stack_none, stack_one, kinds_differ, kinds_agree}
use Rattle.scan.proofs.pass.Scan.write.Goals as goal

pub returns-then-self-lt1-clause-view : goal.returns-then-self-lt1-clause-view
unfolding scan_op
returns-then-self-lt1-clause-view c = rw (stack_none c.args.self.now.items c.args.self.now.height c.if-self-lt1.true)

pub returns-then-not-self-clause-view : goal.returns-then-not-self-clause-view
unfolding scan_op
returns-then-not-self-clause-view c = rw (stack_one c.args.self.now.items c.args.self.now.height c.top-part.ensures c.if-self-lt1.false, c.if-not-self.true)

pub returns-then-ne-clause-view : goal.returns-then-ne-clause-view
unfolding scan_op
returns-then-ne-clause-view c = rw (stack_one c.args.self.now.items c.args.self.now.height c.top-part.ensures c.if-self-lt1.false, c.if-not-self.false, kinds_differ c.top-part.result.kind kind.Transaction c.ne.ensures c.if-ne.true)

pub returns-clause-view : goal.returns-clause-view
unfolding scan_op
returns-clause-view c = c.put.ensures.view ∙ rw (stack_one c.args.self.now.items c.args.self.now.height c.top-part.ensures c.if-self-lt1.false, c.if-not-self.false, kinds_agree c.top-part.result.kind kind.Transaction c.ne.ensures c.if-ne.false) (simp (add-zero, add-one))
