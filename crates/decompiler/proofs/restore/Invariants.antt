-- `decompiler::restore` meets its contract: the loop follows `read_ops`, and what is still to be read and closed falls. Assumes nothing.
use Rattle.decompiler.specs.InnerWalk.{weight}
use Rattle.decompiler.proofs.Whole.{PassInv}
use Rattle.decompiler.proofs.restore.Given as goal

abbrev pub invariant-loop-pass : goal.invariant-loop-pass
invariant-loop-pass l = PassInv l.code l.nodes l.initial.out l.out l.pass

abbrev pub decreases-loop-pass : goal.decreases-loop-pass
decreases-loop-pass l = weight l.code l.pass
