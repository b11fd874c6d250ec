-- `survey::Survey::fits` meets its contract: test by test. Assumes nothing.
use mathlib.Core.Path.{sym, ◌∙◌}
use Rattle.std.proofs.Common.{arith}
use Rattle.std.proofs.lemmas.Grind.{common_steps}
use Rattle.survey.proofs.Yes.{is_false, clash}
use Rattle.survey.proofs.Judging.{survey_parts, survey_rest, root_start, root_end, root_whole, none_fit, some_known}
use Rattle.survey.proofs.Survey.fits.Goals.{then-not-self-via-then-not-self, then-not-self-via-else-not-self+then-self-records, then-not-self-via-else-not-self+else-self-records+then-registers-ne64, then-not-self-via-else-not-self+else-self-records+else-registers-ne64+then-counts-ne64, then-not-self-via-else-not-self+else-self-records+else-registers-ne64+else-counts-ne64+then-self-ne5, then-not-self-via-else-not-self+else-self-records+else-registers-ne64+else-counts-ne64+else-self-ne5+then-self-code}
use Rattle.survey.proofs.Survey.fits.Goals.{then-is_all_asked, else-is_all_asked}
use Rattle.survey.proofs.Survey.fits.Goals as goal

pub returns-then-not-self : goal.returns-then-not-self
returns-then-not-self c =
    is_false _ (λ e. let p = survey_parts c.args.self c.args.code.now c.args.registers c.args.counts.now c.args.others e in
    elim c.then-not-self.branch [
      | then-not-self-via-then-not-self w ↦ clash w.if-not-self.true p.good
      | then-not-self-via-else-not-self+then-self-records w ↦ w.if-self-records.true p.seen
      | then-not-self-via-else-not-self+else-self-records+then-registers-ne64 w ↦ w.if-registers-ne64.true p.table
      | then-not-self-via-else-not-self+else-self-records+else-registers-ne64+then-counts-ne64 w ↦ w.if-counts-ne64.true p.counted
      | then-not-self-via-else-not-self+else-self-records+else-registers-ne64+else-counts-ne64+then-self-ne5 w ↦ w.if-self-ne5.true (root_start c.args.self c.args.code.now c.args.registers c.args.counts.now c.args.others p.root)
      | then-not-self-via-else-not-self+else-self-records+else-registers-ne64+else-counts-ne64+else-self-ne5+then-self-code w ↦ w.if-self-code.true (root_end c.args.self c.args.code.now c.args.registers c.args.counts.now c.args.others p.root)
    ])

pub returns-in_default : goal.returns-in_default
returns-in_default c =
    is_false _ (λ e. clash (none_fit _ (sym c.judged.ensures ∙ c.in_default.is)) (survey_parts c.args.self c.args.code.now c.args.registers c.args.counts.now c.args.others e).judged)

pub returns-then-is_all_met : goal.returns-then-is_all_met
returns-then-is_all_met c =
    let root = root_whole c.args.self c.args.code.now c.args.registers c.args.counts.now c.args.others c.if-self-ne5.false c.if-self-code.false in
    let v = some_known _ c.in-Some.v (sym c.judged.ensures ∙ c.in-Some.is) in
    let e = survey_rest c.args.self c.args.code.now c.args.registers c.args.counts.now c.args.others c.if-not-self.false c.if-self-records.false c.if-registers-ne64.false c.if-counts-ne64.false root c.in-Some.v v in
    elim c.if-is_all_asked.branch [
      | then-is_all_asked w ↦ grind (arith, common_steps, e)
      | else-is_all_asked w ↦ cc
    ]

pub returns-else-is_all_met : goal.returns-else-is_all_met
returns-else-is_all_met c =
    let root = root_whole c.args.self c.args.code.now c.args.registers c.args.counts.now c.args.others c.if-self-ne5.false c.if-self-code.false in
    let v = some_known _ c.in-Some.v (sym c.judged.ensures ∙ c.in-Some.is) in
    let e = survey_rest c.args.self c.args.code.now c.args.registers c.args.counts.now c.args.others c.if-not-self.false c.if-self-records.false c.if-registers-ne64.false c.if-counts-ne64.false root c.in-Some.v v in
    elim c.if-is_all_asked.branch [
      | then-is_all_asked w ↦ grind (arith, common_steps, e)
      | else-is_all_asked w ↦ grind (arith, common_steps, e)
    ]
