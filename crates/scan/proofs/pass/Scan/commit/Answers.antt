-- `scan::pass::Scan::commit` meets its contract. Assumes nothing.
use mathlib.Core.Path.{sym, ◌∙◌}
use Rattle.std.proofs.Common.{add-zero}
use Rattle.scan.specs.declared.pass.Kind.TheVariants as kind
use Rattle.scan.specs.InnerView.{view}
use Rattle.code.specs.InnerScan.{scan_op}
use Rattle.scan.proofs.Stack.{two_low, stack_two, kinds_differ, kinds_agree}
use Rattle.scan.proofs.pass.Scan.commit.Goals as goal

pub returns-then-self-lt2-clause-view : goal.returns-then-self-lt2-clause-view
unfolding scan_op
returns-then-self-lt2-clause-view c = sym (two_low (view c.args.self.now) c.args.self.now.items c.args.self.now.height _ c.if-self-lt2.true)

pub returns-then-not-self-clause-view : goal.returns-then-not-self-clause-view
unfolding scan_op
returns-then-not-self-clause-view c = rw (stack_two c.args.self.now.items c.args.self.now.height c.top-part.ensures c.top-begun.ensures c.if-self-lt2.false, c.if-not-self.true)

pub returns-then-ne-clause-view : goal.returns-then-ne-clause-view
unfolding scan_op
returns-then-ne-clause-view c = rw (stack_two c.args.self.now.items c.args.self.now.height c.top-part.ensures c.top-begun.ensures c.if-self-lt2.false, c.if-not-self.false, kinds_differ c.top-part.result.kind kind.Transaction c.ne.ensures c.if-ne.true)

pub returns-then-ne-2-clause-view : goal.returns-then-ne-2-clause-view
unfolding scan_op
returns-then-ne-2-clause-view c = rw (stack_two c.args.self.now.items c.args.self.now.height c.top-part.ensures c.top-begun.ensures c.if-self-lt2.false, c.if-not-self.false, kinds_agree c.top-part.result.kind kind.Transaction c.ne.ensures c.if-ne.false, kinds_differ c.top-begun.result.kind kind.Begun c.ne-2.ensures c.if-ne-2.true)

pub returns-clause-view : goal.returns-clause-view
unfolding scan_op
returns-clause-view c = c.put.ensures.view ∙ rw (stack_two c.args.self.now.items c.args.self.now.height c.top-part.ensures c.top-begun.ensures c.if-self-lt2.false, c.if-not-self.false, kinds_agree c.top-part.result.kind kind.Transaction c.ne.ensures c.if-ne.false, kinds_agree c.top-begun.result.kind kind.Begun c.ne-2.ensures c.if-ne-2.false) (simp add-zero)
