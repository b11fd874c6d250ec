-- `decompiler::Pass::fork` meets its contract. Assumes nothing.
use mathlib.Core.Path.{ap}
use native.Mathlib.Omega.{arith}
use Rattle.decompiler.specs.declared.Pass.{Pass}
use Rattle.decompiler.specs.InnerState.{part_pushed, child_opened}
use Rattle.decompiler.proofs.Pass.fork.Goals as goal

pub offset_bounds-self-self : goal.offset_bounds-self-self
unfolding part_pushed
offset_bounds-self-self c = omega (arith, ap (λ (s : Pass). s.forked) c.stack.ensures)

pub bounds-self-self : goal.bounds-self-self
unfolding part_pushed
bounds-self-self c = omega (arith, ap (λ (s : Pass). s.forked) c.stack.ensures)

pub overflow_add-self-3 : goal.overflow_add-self-3
unfolding part_pushed
overflow_add-self-3 c = omega (arith, ap (λ (s : Pass). s.forked) c.stack.ensures)

pub returns-clause-state : goal.returns-clause-state
unfolding part_pushed child_opened
returns-clause-state c = rw (c.stack.ensures, c.number16-child.ensures)
