-- The depth falls with each call. Assumes nothing.
use Rattle.compiler.proofs.+emit.Given as goal

abbrev pub decreases-emit : goal.decreases-emit
decreases-emit l = l.depth
