-- `scan::scan_code` meets its contract: the header, then the instructions. Assumes nothing.
use mathlib.Core.Path.{sym, subst, ◌∙◌}
use Rattle.scan.specs.InnerView.{Followed}
use Rattle.script.proofs.Numbers.{bytes_of}
use Rattle.scan.proofs.Whole.{is_marked, too_short, too-long, bad_mark, bad_version, is_foreign, is_job}
use Rattle.scan.proofs.scan_code.Goals as goal

pub returns-then-code-lt5 : goal.returns-then-code-lt5
returns-then-code-lt5 c = rw c.foreign.ensures (too_short c.args.code.now (bytes_of c.args.code.now c.type_inv.code) c.if-code-lt5.true)

pub returns-then-code-gt5005 : goal.returns-then-code-gt5005
returns-then-code-gt5005 c = rw c.foreign-then-code-gt5005.ensures (too-long c.args.code.now (bytes_of c.args.code.now c.type_inv.code) c.if-code-gt5005.true)

pub returns-then-not-starts_with : goal.returns-then-not-starts_with
returns-then-not-starts_with c = rw c.foreign-then-not-starts_with.ensures (bad_mark c.args.code.now (bytes_of c.args.code.now c.type_inv.code) c.if-code-lt5.false (sym (is_marked c.args.code.now c.if-code-lt5.false) ∙ (sym c.starts_with.ensures.value ∙ c.if-not-starts_with.true)))

pub returns-then-version-ne1 : goal.returns-then-version-ne1
returns-then-version-ne1 c = rw c.foreign-then-version-ne1.ensures (bad_version c.args.code.now (bytes_of c.args.code.now c.type_inv.code) c.if-code-lt5.false (sym (is_marked c.args.code.now c.if-code-lt5.false) ∙ (sym c.starts_with.ensures.value ∙ c.if-not-starts_with.false)) (λ e. c.if-version-ne1.true (c.number16-version.ensures ∙ e)))

pub returns-in_default : goal.returns-in_default
returns-in_default c = rw c.foreign-in_default.ensures (is_foreign c.args.code.now (bytes_of c.args.code.now c.type_inv.code) c.if-code-lt5.false (sym (is_marked c.args.code.now c.if-code-lt5.false) ∙ (sym c.starts_with.ensures.value ∙ c.if-not-starts_with.false)) (sym c.number16-version.ensures ∙ c.if-version-ne1.false) (subst (Followed c.args.code.now) c.in_default.is c.instructions.ensures))

pub returns : goal.returns
returns c = rw c.number16-version.ensures (is_job c.args.code.now (bytes_of c.args.code.now c.type_inv.code) c.if-code-lt5.false (sym (is_marked c.args.code.now c.if-code-lt5.false) ∙ (sym c.starts_with.ensures.value ∙ c.if-not-starts_with.false)) (sym c.number16-version.ensures ∙ c.if-version-ne1.false) c.in-Some.scan (subst (Followed c.args.code.now) c.in-Some.is c.instructions.ensures))
