-- `kuspigo_run` meets its contract. Assumes nothing.
use mathlib.Core.Path.{ap, ◌∙◌}
use Rattle.machine.specs.Steps.{state_from}
use Rattle.progress.specs.InnerProgress.{run_told, ran_by}
use Rattle.progress.proofs.Calls.{run_by_value}
use Rattle.script.proofs.Numbers.{bytes_of}
use Rattle.engine.proofs.kuspigo_run.Goals as goal

pub returns : goal.returns
unfolding ran_by
returns c =
    rw c.run_reply.ensures (ap run_told c.call-answer.ensures.went ∙ run_by_value c.args.code.now (state_from c.args.registers.now c.args.counts.now c.args.threads.now) c.args.picks.now (bytes_of _ c.type_inv.code) c.call-answer.ensures.typed)
