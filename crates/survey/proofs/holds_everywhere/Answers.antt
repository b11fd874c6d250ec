-- `survey::holds_everywhere` meets its contract. Assumes nothing.
use Rattle.std.proofs.Common.{refl, ◌∙◌, of_calls}
use Rattle.survey.proofs.Loops.{every_more, every_done}
use Rattle.survey.proofs.holds_everywhere.Goals as goal

pub loop-v-init : goal.loop-v-init
loop-v-init g c = λ good told. refl

pub loop-v-preserved : goal.loop-v-preserved
loop-v-preserved g c =
    λ good told. every_more good c.loop-v.v c.loop-v.held c.test-held.result c.loop-v-test.true (told c.loop-v.v c.test-held.result c.loop-v-test.true (search of_calls)) ∙ c.loop-v.invariant good told

pub returns : goal.returns
returns g c = λ good told. every_done good c.loop-v.v c.loop-v.held c.loop-v-test.false ∙ c.loop-v.invariant good told
