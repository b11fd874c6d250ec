-- `owned::shown` meets its contract. Assumes nothing.
use mathlib.Core.Path.{◌≡◌, refl, subst, ◌∙◌}
use lib.IntN.{pos}
use lib.ListN.{replicate}
use Rattle.engine.proofs.Laying.{unspawned}
use Rattle.machine.specs.Answers.{answered, fresh_call}
use Rattle.machine.specs.declared.FreshReply.{FreshReply}
use Rattle.thread.specs.Threads.{blank}
use Rattle.thread.specs.declared.Thread.{Thread}
use Rattle.owned.specs.Owned.{on_first}
use Rattle.owned.proofs.Freshly.{freshly}
use Rattle.owned.proofs.shown.Goals as goal

-- the two calls are one
pub returns : goal.returns
returns c =
    let laid : FreshReply = c.lend_first-laid.result in
    freshly _ _ (replicate 65 (pos 0)) (replicate 65 0) (replicate 17 blank) refl refl refl _ _ _ laid
    (subst (λ (t : Thread). answered c.lend_first-laid.new.registers c.lend_first-laid.new.counts c.lend_first-laid.new.threads laid ≡
    on_first 64 64 16 (fresh_call c.args.code.now) (replicate 65 (pos 0)) (replicate 65 0) (replicate 17 t))
    (c.spawned-blank.ensures ∙ unspawned) c.lend_first-laid.ensures) _ c.lend_first-reply.ensures
