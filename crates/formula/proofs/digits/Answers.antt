-- `formula::digits` meets its contract. Assumes nothing.
use native.Mathlib.Omega.{arith}
use Prim.Native.Nat.{ℕ}
use mathlib.Core.Path.{sym, ◌∙◌, subst}
use Rattle.parsing.specs.InnerParsing.{Scanning, ScannedTo}
use Rattle.parsing.proofs.Laws as L
use Rattle.formula.proofs.digits.Goals as goal

pub loop-at-init : goal.loop-at-init
loop-at-init c = L.scan_start _ _ _ c.requires.0

pub returns-then-not-is_digit : goal.returns-then-not-is_digit
returns-then-not-is_digit c = subst (ScannedTo c.args.text.now c.args.from c.args.most) (sym c.scanned.ensures) (L.scan_end _ _ _ _ _ c.loop-at.invariant (λ _. sym c.is_digit.ensures ∙ c.if-not-is_digit.true))

pub overflow_sub-b : goal.overflow_sub-b
overflow_sub-b c = omega (arith, L.digit_low _ (sym c.is_digit.ensures ∙ c.if-not-is_digit.false))

pub returns-then-next-from : goal.returns-then-next-from
returns-then-next-from c = L.scan_over _ _ _ _ _ c.loop-at.invariant c.loop-at-test.true (sym c.is_digit.ensures ∙ c.if-not-is_digit.false) (omega arith)

pub loop-at-preserved : goal.loop-at-preserved
loop-at-preserved c = rw (c.from.ensures, c.from-in-loop-at.ensures) (L.scan_more _ _ _ _ _ c.loop-at.invariant c.loop-at-test.true (sym c.is_digit.ensures ∙ c.if-not-is_digit.false) (omega arith))

pub returns : goal.returns
returns c = subst (ScannedTo c.args.text.now c.args.from c.args.most) (sym c.scanned-2.ensures) (L.scan_end _ _ _ _ _ (subst (λ (n : ℕ). Scanning c.args.text.now c.args.from c.args.most n c.loop-at.value) (omega arith) c.loop-at.invariant) (λ h. absurd (omega arith)))
