-- `decompiler::Pass::is_at_end` meets its contract. Assumes nothing.
use native.Mathlib.Omega.{arith}
use borrow.Author.Tests.{lt-ltb, le-ltb}
use Rattle.decompiler.specs.InnerState.{at_end}
use Rattle.decompiler.proofs.Pass.is_at_end.Goals as goal

pub returns-then-self-gt0 : goal.returns-then-self-gt0
unfolding at_end
returns-then-self-gt0 c = rw (lt-ltb 0 c.args.self.now.forked c.if-self-gt0.true)

pub returns-else-self-gt0 : goal.returns-else-self-gt0
unfolding at_end
returns-else-self-gt0 c = rw (le-ltb 0 c.args.self.now.forked (omega arith))
