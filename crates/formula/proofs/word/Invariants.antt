-- `formula::word` meets its contract. Assumes nothing.
use Rattle.parsing.proofs.Leaves as E
use Rattle.formula.proofs.word.Given as goal

abbrev pub invariant-loop-i : goal.invariant-loop-i
invariant-loop-i l = E.Spelling l.text l.from l.letters l.i
