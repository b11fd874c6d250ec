-- `kuspigo_step` meets its contract. Assumes nothing.
use mathlib.Core.Path.{ap, ◌∙◌}
use Rattle.machine.specs.Steps.{state_from}
use Rattle.progress.specs.InnerProgress.{step_told, stepped_by}
use Rattle.progress.proofs.Calls.{step_by_value}
use Rattle.script.proofs.Numbers.{bytes_of}
use Rattle.engine.proofs.kuspigo_step.Goals as goal

pub returns : goal.returns
unfolding stepped_by
returns c =
    rw c.step_reply.ensures (ap step_told c.call-answer.ensures.went ∙ step_by_value c.args.code.now (state_from c.args.registers.now c.args.counts.now c.args.threads.now) c.args.pick (bytes_of _ c.type_inv.code) c.call-answer.ensures.typed)
