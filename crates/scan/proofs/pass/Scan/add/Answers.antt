-- `scan::pass::Scan::add` meets its contract. Assumes nothing.
use Prim.Native.Nat.{◌+◌}
use mathlib.Core.Path.{sym, ◌∙◌}
use Rattle.std.proofs.Common.{add-zero, add-one}
use Rattle.scan.specs.InnerView.{view}
use Rattle.code.specs.InnerScan.{scan_op}
use Rattle.scan.proofs.Greater.{greater}
use Rattle.scan.proofs.Stack.{two_low, stack_two}
use Rattle.scan.proofs.pass.Scan.add.Goals as goal

pub returns-then-self-lt2-clause-view : goal.returns-then-self-lt2-clause-view
unfolding scan_op
returns-then-self-lt2-clause-view c = sym (two_low (view c.args.self.now) c.args.self.now.items c.args.self.now.height _ c.if-self-lt2.true)

pub returns-then-not-adds-clause-view : goal.returns-then-not-adds-clause-view
unfolding scan_op
returns-then-not-adds-clause-view c = rw (stack_two c.args.self.now.items c.args.self.now.height c.top-right.ensures c.top-left.ensures c.if-self-lt2.false, sym c.adds.ensures ∙ c.if-not-adds.true)

pub returns-clause-view : goal.returns-clause-view
unfolding scan_op
returns-clause-view c = c.put.ensures.view ∙ rw (stack_two c.args.self.now.items c.args.self.now.height c.top-right.ensures c.top-left.ensures c.if-self-lt2.false, sym c.adds.ensures ∙ c.if-not-adds.false) (simp (c.max-reach.ensures ∙ greater (c.top-left.result.reach + 1) c.top-right.result.reach, add-zero, add-one))
