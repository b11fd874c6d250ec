-- `formula::digits` meets its contract. Assumes nothing.
use Rattle.parsing.specs.InnerParsing.{Scanning}
use Rattle.formula.proofs.digits.Given as goal

abbrev pub invariant-loop-at : goal.invariant-loop-at
invariant-loop-at l = Scanning l.text l.from l.most l.at l.value
