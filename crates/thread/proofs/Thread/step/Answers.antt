use mathlib.Core.Path.{ap, ◌∙◌}
use Rattle.thread.specs.InnerStep.{performed, due_op, table_from}
use Rattle.thread.proofs.Attempts.{due_step}
use Rattle.word.specs.Sum.{wrapping}
use Rattle.thread.proofs.Thread.step.Goals as goal

pub returns : goal.returns
returns c =
    let a = c.args in
    c.act.ensures
    ∙ (ap (performed wrapping _ _) (c.due-op.ensures.is ∙ ap (λ n. due_op a.code.now n a.self) c.sized.ensures)
    ∙ due_step a.code.now (table_from a.registers.now a.counts.now) a.self)
