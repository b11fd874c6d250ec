-- `survey::Survey::with` meets its contract: branch by branch. Assumes nothing.
use mathlib.Core.Path.{sym, ap, ◌∙◌}
use borrow.Author.Tests.{not-true, not-false}
use Rattle.survey.specs.InnerRecords.{put_to}
use Rattle.survey.proofs.Records.{with_bad, with_many, with_marred, with_blank, with_gap, with_untidy, with_put}
use Rattle.survey.proofs.Survey.with.Goals as goal

pub returns-then-not-self : goal.returns-then-not-self
returns-then-not-self c = with_bad c.args.self c.args.counts.now c.args.t (not-true _ c.if-not-self.true)

pub returns-then-self-ge16 : goal.returns-then-self-ge16
returns-then-self-ge16 c = c.refuse.ensures ∙ with_many c.args.self c.args.counts.now c.args.t (not-false _ c.if-not-self.false) c.if-self-ge16.true

pub returns-then-not-is_blank : goal.returns-then-not-is_blank
returns-then-not-is_blank c = c.refuse-then-not-is_blank.ensures ∙ with_marred c.args.self c.args.counts.now c.args.t (not-false _ c.if-not-self.false) c.if-self-ge16.false c.if-t-eq0.true (sym c.is_blank.ensures ∙ c.if-not-is_blank.true)

pub returns-then-t-eq0 : goal.returns-then-t-eq0
returns-then-t-eq0 c = c.pass.ensures ∙ with_blank c.args.self c.args.counts.now c.args.t (not-false _ c.if-not-self.false) c.if-self-ge16.false c.if-t-eq0.true (sym c.is_blank.ensures ∙ c.if-not-is_blank.false)

pub returns-then-self : goal.returns-then-self
returns-then-self c = c.refuse-then-self.ensures ∙ with_gap c.args.self c.args.counts.now c.args.t (not-false _ c.if-not-self.false) c.if-self-ge16.false c.if-t-eq0.false c.if-self.true

pub returns-then-not-is_tidy : goal.returns-then-not-is_tidy
returns-then-not-is_tidy c = c.refuse-then-not-is_tidy.ensures ∙ with_untidy c.args.self c.args.counts.now c.args.t (not-false _ c.if-not-self.false) c.if-self-ge16.false c.if-t-eq0.false c.if-self.false (sym c.is_tidy.ensures ∙ c.if-not-is_tidy.true)

pub returns : goal.returns
returns c = c.put.ensures ∙ (ap (put_to c.args.self c.args.t) c.need.ensures ∙ with_put c.args.self c.args.counts.now c.args.t (not-false _ c.if-not-self.false) c.if-self-ge16.false c.if-t-eq0.false c.if-self.false (sym c.is_tidy.ensures ∙ c.if-not-is_tidy.false))
