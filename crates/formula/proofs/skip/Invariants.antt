-- `formula::skip` meets its contract. Assumes nothing.
use Rattle.parsing.proofs.Laws as L
use Rattle.formula.proofs.skip.Given as goal

abbrev pub invariant-loop-at : goal.invariant-loop-at
invariant-loop-at l = L.Skipping l.text l.from l.at
