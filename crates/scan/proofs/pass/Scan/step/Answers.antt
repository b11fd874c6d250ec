-- `scan::pass::Scan::step` meets its contract: by the instruction. Assumes nothing.
use mathlib.Core.Path.{sym, ap, ◌∙◌}
use Rattle.code.specs.Ops as list
use Rattle.code.specs.InnerScan.{scan_op}
use Rattle.scan.specs.InnerView.{further}
use Rattle.script.specs.Outcome.{mapped}
use Rattle.scan.proofs.Stack.{some_came, mapped_plain}
use Rattle.scan.proofs.pass.Scan.step.Goals as goal
use Rattle.scan.proofs.pass.Scan.step.Goals.{then-inside, else-inside}

pub returns-then-not-inside-clause-view : goal.returns-then-not-inside-clause-view
unfolding scan_op
returns-then-not-inside-clause-view c = rw (c.in-Read.is, c.if-not-inside.true)

pub returns-then-inside-2-clause-view : goal.returns-then-inside-2-clause-view
unfolding scan_op
returns-then-inside-2-clause-view c = rw (c.in-Begin.is, c.if-inside-2.true)

pub returns-in_ok-add-in-Add-clause-view : goal.returns-in_ok-add-in-Add-clause-view
returns-in_ok-add-in-Add-clause-view c = ap (mapped (further 1)) (sym (some_came c.add.result c.add.new.self c.add.ensures.view c.in_ok-add-in-Add.was)) ∙ (mapped_plain list.add tt _ ∙ rw c.in-Add.is)

pub returns-in_ok-write-in-Write-clause-view : goal.returns-in_ok-write-in-Write-clause-view
returns-in_ok-write-in-Write-clause-view c = ap (mapped (further 2)) (sym (some_came c.write.result c.write.new.self c.write.ensures.view c.in_ok-write-in-Write.was)) ∙ (mapped_plain (list.write c.in-Write.register) tt _ ∙ rw c.in-Write.is)

pub returns-in_ok-commit-in-Commit-clause-view : goal.returns-in_ok-commit-in-Commit-clause-view
returns-in_ok-commit-in-Commit-clause-view c = ap (mapped (further 1)) (sym (some_came c.commit.result c.commit.new.self c.commit.ensures.view c.in_ok-commit-in-Commit.was)) ∙ (mapped_plain list.commit tt _ ∙ rw c.in-Commit.is)

pub returns-else-not-inside-clause-view : goal.returns-else-not-inside-clause-view
unfolding scan_op
returns-else-not-inside-clause-view c = c.leaf-in-Read.ensures.view ∙ (mapped_plain (list.read c.in-Read.field-0) tt _ ∙ rw (c.in-Read.is, c.if-not-inside.false))

pub returns-else-inside-2-clause-view : goal.returns-else-inside-2-clause-view
unfolding scan_op
returns-else-inside-2-clause-view c = c.leaf-in-Begin.ensures.view ∙ (mapped_plain list.begin tt _ ∙ rw (c.in-Begin.is, c.if-inside-2.false))

pub returns-after-inside-clause-view : goal.returns-after-inside-clause-view
unfolding scan_op
returns-after-inside-clause-view c =
    elim c.if-inside.branch [
      | then-inside w ↦ c.leaf.ensures.view ∙ (mapped_plain (list.push c.in-Push.field-0) tt _ ∙ rw (c.in-Push.is, w.kind-is, w.if-inside.true))
      | else-inside w ↦ c.leaf.ensures.view ∙ (mapped_plain (list.push c.in-Push.field-0) tt _ ∙ rw (c.in-Push.is, w.kind-is, w.if-inside.false))
    ]
