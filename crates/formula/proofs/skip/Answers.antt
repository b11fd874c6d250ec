-- `formula::skip` meets its contract. Assumes nothing.
use native.Mathlib.Omega.{arith}
use mathlib.Core.Path.{sym, ◌∙◌, subst}
use Rattle.parsing.specs.InnerParsing.{Skipped}
use Rattle.parsing.proofs.Laws as L
use Rattle.formula.proofs.skip.Goals as goal

pub returns-then-not-is_blank : goal.returns-then-not-is_blank
returns-then-not-is_blank c = L.skip_done _ _ _ c.loop-at.invariant (λ _. sym c.is_blank.ensures ∙ c.if-not-is_blank.true)

pub loop-at-preserved : goal.loop-at-preserved
loop-at-preserved c = L.skip_more _ _ _ c.loop-at.invariant c.loop-at-test.true (sym c.is_blank.ensures ∙ c.if-not-is_blank.false)

pub returns : goal.returns
returns c = subst (Skipped c.args.text.now c.args.from) (omega arith) (L.skip_done _ _ _ c.loop-at.invariant (λ h. absurd (omega arith)))
