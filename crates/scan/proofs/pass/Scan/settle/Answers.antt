-- `scan::pass::Scan::settle` meets its contract: the loop follows `closes`, and the open FORKs fall. Assumes nothing.
use mathlib.Core.Path.{refl, ◌∙◌}
use native.Mathlib.Omega.{arith}
use Rattle.scan.proofs.Stack.{remaining, none_open, not_here, closing_none, closing_some}
use Rattle.scan.proofs.pass.Scan.settle.Goals as goal

pub loop-self-init : goal.loop-self-init
loop-self-init c = (refl, refl)

pub returns-then-self-clause-view : goal.returns-then-self-clause-view
unfolding remaining
returns-then-self-clause-view c = not_here c.loop-self.self c.loop-self-test.true c.if-self.true ∙ c.loop-self.invariant.0

pub loop-self-preserved : goal.loop-self-preserved
loop-self-preserved c = (closing_some c.close.result c.loop-self.self c.close.new.self c.close.ensures.view c.loop-self-test.true c.if-self.false c.in_ok-close.was ∙ c.loop-self.invariant.0, c.close.ensures.place ∙ c.loop-self.invariant.1)

pub returns-in_err-close-clause-view : goal.returns-in_err-close-clause-view
unfolding remaining
returns-in_err-close-clause-view c = rw c.from_residual.ensures (closing_none c.close.result c.loop-self.self c.close.new.self c.close.ensures.view c.loop-self-test.true c.if-self.false c.in_err-close.was ∙ c.loop-self.invariant.0)

pub returns-clause-view : goal.returns-clause-view
unfolding remaining
returns-clause-view c = none_open c.loop-self.self (omega arith) ∙ c.loop-self.invariant.0
