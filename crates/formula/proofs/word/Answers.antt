-- `formula::word` meets its contract. Assumes nothing.
use native.Mathlib.Omega.{arith}
use mathlib.Core.Path.{sym, ◌∙◌}
use Rattle.parsing.proofs.Leaves as E
use Rattle.formula.proofs.word.Goals as goal

pub returns-then-not-is_at : goal.returns-then-not-is_at
returns-then-not-is_at c = E.spell_fails _ _ _ _ c.loop-i.invariant c.loop-i-test.true (sym c.is_at.ensures ∙ c.if-not-is_at.true)

pub loop-i-preserved : goal.loop-i-preserved
loop-i-preserved c = E.spell_more _ _ _ _ c.loop-i.invariant c.loop-i-test.true (sym c.is_at.ensures ∙ c.if-not-is_at.false)

pub returns : goal.returns
returns c = E.spell_whole _ _ _ _ c.loop-i.invariant (omega arith)
