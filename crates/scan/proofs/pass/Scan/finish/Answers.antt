-- `scan::pass::Scan::finish` meets its contract. Assumes nothing.
use Rattle.scan.specs.declared.pass.Kind.TheVariants as kind
use Rattle.scan.proofs.Stack.{finish_open, finish_more, finish_other, finish_done, kinds_differ, kinds_agree}
use Rattle.scan.proofs.pass.Scan.finish.Goals as goal

pub returns-then-self-ne0 : goal.returns-then-self-ne0
returns-then-self-ne0 c = finish_open c.args.self.now c.if-self-ne0.true

pub returns-then-self-ne1 : goal.returns-then-self-ne1
returns-then-self-ne1 c = finish_more c.args.self.now c.if-self-ne0.false c.if-self-ne1.true

pub returns-then-ne : goal.returns-then-ne
returns-then-ne c = finish_other c.args.self.now c.if-self-ne0.false c.if-self-ne1.false (kinds_differ _ kind.Process c.ne.ensures c.if-ne.true)

pub returns : goal.returns
returns c = finish_done c.args.self.now c.if-self-ne0.false c.if-self-ne1.false (kinds_agree _ kind.Process c.ne.ensures c.if-ne.false)
