-- An iterator over a set gives its lowest register first, then the others. Assumes nothing.
use Rattle.std.proofs.Common.{◌∙◌, rules, arith, ap, length}
use Rattle.word.specs.Registers.{members}
use Rattle.word.proofs.Listed.{members_none, members_first}
use Rattle.word.proofs.AscendingIterator.next.Goals as goal

pub returns-then-self-eq0-clause-steps : goal.returns-then-self-eq0-clause-steps
returns-then-self-eq0-clause-steps c = let e = ap members c.if-self-eq0.true ∙ members_none in (e, e)

pub returns-clause-steps : goal.returns-clause-steps
returns-clause-steps c = members_first _ (omega arith) (search rules)

pub returns-clause-goes : goal.returns-clause-goes
returns-clause-goes c =
    let e = ap length (members_first c.args.self.now.set (omega arith) (search rules)) in
    record { on = λ _. (tt, tt, omega arith); keeps = tt; rests = λ _. tt }
