-- `job::node` meets its contract: each answer is one of the tests. Assumes nothing.
use Prim.Native.Nat.{◌+◌}
use mathlib.Core.Path.{◌≡◌, sym, ◌∙◌}
use mathlib.Core.Bool.{false, ◌&&◌}
use lib.Dec.{eqb, leb}
use lib.ListN.{get_or}
use borrow.Author.Tests.{eqb-true}
use Rattle.script.specs.Jobs.{operand}
use Rattle.terms.specs.Numbers.{kind_number}
use Rattle.job.proofs.Tests.{no_byte, unknown, elsewhere, may_stand, too_deep, cut, bad_register, many_forks, good, no_register, low_register, few_forks, not_fork, same_fork}
use Rattle.job.proofs.node.Goals as goal
use Rattle.job.proofs.node.Goals.{else-size-eq1-via-then-size-eq1+else-job-place-ge64, else-size-eq1-via-else-size-eq1, else-eq-via-then-eq+else-forks-ge15, else-eq-via-else-eq}

pub returns-then-place-length : goal.returns-then-place-length
returns-then-place-length c = rw c.at.ensures (no_byte c.args.job.now c.args.place c.args.due c.args.forks c.if-place-length.true)

pub returns-in_default : goal.returns-in_default
returns-in_default c = rw c.at-in_default.ensures (unknown c.args.job.now c.args.place c.args.due c.args.forks c.if-place-length.false c.in_default.ensures)

pub returns-then-not-permitted : goal.returns-then-not-permitted
returns-then-not-permitted c = rw c.at-then-not-permitted.ensures (elsewhere c.args.job.now c.args.place c.args.due c.args.forks c.if-place-length.false (sym c.permitted.ensures ∙ c.if-not-permitted.true))

pub returns-then-due-gt64 : goal.returns-then-due-gt64
returns-then-due-gt64 c = rw c.at-then-due-gt64.ensures (too_deep c.args.job.now c.args.place c.args.due c.args.forks c.if-place-length.false c.in-Ok.kind c.in-Ok.ensures (may_stand c.args.job.now c.args.place c.args.due c.args.forks c.if-place-length.false c.in-Ok.kind c.in-Ok.ensures (sym c.permitted.ensures ∙ c.if-not-permitted.false)) c.if-due-gt64.true)

pub returns-then-length-place : goal.returns-then-length-place
returns-then-length-place c = rw c.at-then-length-place.ensures (cut c.args.job.now c.args.place c.args.due c.args.forks c.if-place-length.false c.in-Ok.kind c.in-Ok.ensures (may_stand c.args.job.now c.args.place c.args.due c.args.forks c.if-place-length.false c.in-Ok.kind c.in-Ok.ensures (sym c.permitted.ensures ∙ c.if-not-permitted.false)) c.if-due-gt64.false (rw c.operand-size.ensures at c.if-length-place.true))

pub returns-then-job-place-ge64 : goal.returns-then-job-place-ge64
returns-then-job-place-ge64 c = rw c.at-then-job-place-ge64.ensures (bad_register c.args.job.now c.args.place c.args.due c.args.forks c.if-place-length.false c.in-Ok.kind c.in-Ok.ensures (may_stand c.args.job.now c.args.place c.args.due c.args.forks c.if-place-length.false c.in-Ok.kind c.in-Ok.ensures (sym c.permitted.ensures ∙ c.if-not-permitted.false)) c.if-due-gt64.false (rw c.operand-size.ensures at c.if-length-place.false) (sym c.operand-size.ensures ∙ c.if-size-eq1.true) c.if-job-place-ge64.true)

pub returns-then-forks-ge15 : goal.returns-then-forks-ge15
returns-then-forks-ge15 c =
    let named : (eqb (operand (kind_number c.in-Ok.kind)) 1 && leb 64 (get_or c.args.job.now (c.args.place + 1) 0)) ≡ false =
    elim c.else-size-eq1.branch [ else-size-eq1-via-then-size-eq1+else-job-place-ge64 w ↦ low_register _ _ w.if-job-place-ge64.false | else-size-eq1-via-else-size-eq1 w ↦ no_register _ _ (λ e. w.if-size-eq1.false (c.operand-size.ensures ∙ e)) ] in
    rw c.at-then-forks-ge15.ensures (many_forks c.args.job.now c.args.place c.args.due c.args.forks c.if-place-length.false c.in-Ok.kind c.in-Ok.ensures (may_stand c.args.job.now c.args.place c.args.due c.args.forks c.if-place-length.false c.in-Ok.kind c.in-Ok.ensures (sym c.permitted.ensures ∙ c.if-not-permitted.false)) c.if-due-gt64.false (rw c.operand-size.ensures at c.if-length-place.false) named (eqb-true _ 4 (sym (same_fork c.in-Ok.kind) ∙ sym c.if-eq.ensures)) c.if-forks-ge15.true)

pub returns : goal.returns
returns c =
    let named : (eqb (operand (kind_number c.in-Ok.kind)) 1 && leb 64 (get_or c.args.job.now (c.args.place + 1) 0)) ≡ false =
    elim c.else-size-eq1.branch [ else-size-eq1-via-then-size-eq1+else-job-place-ge64 w ↦ low_register _ _ w.if-job-place-ge64.false | else-size-eq1-via-else-size-eq1 w ↦ no_register _ _ (λ e. w.if-size-eq1.false (c.operand-size.ensures ∙ e)) ] in
    let few : (eqb (kind_number c.in-Ok.kind) 4 && leb 15 c.args.forks) ≡ false =
    elim c.else-eq.branch [ else-eq-via-then-eq+else-forks-ge15 w ↦ few_forks _ _ w.if-forks-ge15.false | else-eq-via-else-eq w ↦ not_fork _ _ (sym (same_fork c.in-Ok.kind) ∙ sym w.if-eq.ensures) ] in
    good c.args.job.now c.args.place c.args.due c.args.forks c.if-place-length.false c.in-Ok.kind c.in-Ok.ensures (may_stand c.args.job.now c.args.place c.args.due c.args.forks c.if-place-length.false c.in-Ok.kind c.in-Ok.ensures (sym c.permitted.ensures ∙ c.if-not-permitted.false)) c.if-due-gt64.false (rw c.operand-size.ensures at c.if-length-place.false) named few
