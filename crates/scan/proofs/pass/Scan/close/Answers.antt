-- `scan::pass::Scan::close` meets its contract. Assumes nothing.
use mathlib.Core.Path.{sym}
use native.Mathlib.Omega.{arith}
use Rattle.scan.specs.declared.pass.Kind.TheVariants as kind
use Rattle.scan.specs.InnerView.{view}
use Rattle.scan.proofs.Stack.{two_low, stack_two, close_done, kinds_differ, kinds_agree}
use Rattle.scan.proofs.pass.Scan.close.Goals as goal

pub returns-then-self-lt2-clause-view : goal.returns-then-self-lt2-clause-view
returns-then-self-lt2-clause-view c = sym (two_low (view c.args.self.now) c.args.self.now.items c.args.self.now.height _ c.if-self-lt2.true)

pub returns-then-ne-clause-view : goal.returns-then-ne-clause-view
returns-then-ne-clause-view c = rw (stack_two c.args.self.now.items c.args.self.now.height c.top-child.ensures c.top-fork.ensures c.if-self-lt2.false, kinds_differ c.top-child.result.kind kind.Process c.ne.ensures c.if-ne.true)

pub returns-then-ne-2-clause-view : goal.returns-then-ne-2-clause-view
returns-then-ne-2-clause-view c = rw (stack_two c.args.self.now.items c.args.self.now.height c.top-child.ensures c.top-fork.ensures c.if-self-lt2.false, kinds_agree c.top-child.result.kind kind.Process c.ne.ensures c.if-ne.false, kinds_differ c.top-fork.result.kind kind.Forked c.ne-2.ensures c.if-ne-2.true)

pub returns-clause-view : goal.returns-clause-view
returns-clause-view c = close_done c.args.self.now c.top-child.ensures c.top-fork.ensures c.if-self-lt2.false (omega arith) c.requires (kinds_agree c.top-child.result.kind kind.Process c.ne.ensures c.if-ne.false) (kinds_agree c.top-fork.result.kind kind.Forked c.ne-2.ensures c.if-ne-2.false)
