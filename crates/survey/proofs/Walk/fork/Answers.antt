-- `survey::Walk::fork` meets its contract. Assumes nothing.
use mathlib.Core.Path.{ap, ◌∙◌}
use native.Mathlib.Omega.{arith}
use Prim.Native.Nat.{◌+◌}
use borrow.Author.Tests.{eq-eqb, ne_eqb}
use Rattle.survey.specs.InnerWalk.{going, walk_in, lost_walk, forked, fork_to}
use Rattle.survey.proofs.Yes.{when_true, when_false}
use Rattle.survey.proofs.Steps.{far, near}
use Rattle.survey.proofs.Walk.fork.Goals as goal

pub returns-then-left-lt3 : goal.returns-then-left-lt3
unfolding fork_to lost_walk
returns-then-left-lt3 c = ap walk_in (far c.args.target (c.args.self.place + 3 + c.args.size) _ (omega arith))

pub returns-then-a-ne1 : goal.returns-then-a-ne1
unfolding fork_to forked lost_walk
returns-then-a-ne1 c =
    ap walk_in (when_false _ _ lost_walk (ne_eqb c.ask-a.result.number 1 c.if-a-ne1.true) ∙ (ap (forked (going c.args.self) c.args.size) c.ask-a.ensures ∙ near c.args.target (c.args.self.place + 3 + c.args.size) _ (omega arith)))

pub returns : goal.returns
unfolding fork_to forked
returns c =
    ap walk_in (when_true _ _ lost_walk (eq-eqb c.ask-a.result.number 1 c.if-a-ne1.false) ∙ (ap (forked (going c.args.self) c.args.size) c.ask-a.ensures ∙ near c.args.target (c.args.self.place + 3 + c.args.size) _ (omega arith)))
