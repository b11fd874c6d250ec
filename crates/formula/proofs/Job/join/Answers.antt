-- `formula::Job::join` meets its contract. Assumes nothing.
use native.Mathlib.Omega.{arith}
use Rattle.script.specs.InnerTrees.{kind_in}
use Rattle.parsing.proofs.Moves.{put_before, put_none}
use Rattle.formula.proofs.Job.join.Goals as goal
use Rattle.formula.proofs.Job.join.Goals.{else-adds-gt0-via-then-adds-gt0+else-self-le3009, else-adds-gt0-via-else-adds-gt0}

pub returns-then-self-le3009-clause-written : goal.returns-then-self-le3009-clause-written
returns-then-self-le3009-clause-written c = λ h.
    rw (← c.kind_in.ensures) (rw c.byte.ensures at (put_before c.args.start c.args.self.now.size c.args.adds c.byte.result c.args.self.now.bytes c.shift.new.out c.fill.new.self c.requires.0 h c.shift.auto.out c.shift.ensures (c.fill.ensures.after (λ y e. e))))

pub returns-else-adds-gt0-clause-written : goal.returns-else-adds-gt0-clause-written
returns-else-adds-gt0-clause-written c = λ h.
    elim c.else-adds-gt0.branch [
      | else-adds-gt0-via-then-adds-gt0+else-self-le3009 w ↦ absurd (omega arith)
      | else-adds-gt0-via-else-adds-gt0 w ↦ put_none c.args.start c.args.self.now.size c.args.adds (kind_in c.args.inside 2) c.args.self.now.bytes c.requires.0 (omega arith)
    ]
