-- `scan::instructions` meets its contract: the loop follows `scan_ops` and counts the nodes of each transaction, and the code that is left falls. Assumes nothing.
use Prim.Native.Nat.{ℕ}
use mathlib.Core.List.{List}
use mathlib.Core.Path.{◌≡◌, sym, subst, ◌∙◌}
use native.Mathlib.Omega.{arith}
use lib.ListN.{drop, length-drop}
use Rattle.std.proofs.Common.{inl, inr}
use Rattle.script.proofs.Numbers.{bytes_drop, bytes_of}
use Rattle.scan.proofs.Loops.{loop_start, settle_none, end_none, end_some, step_none, step_some, onward_by, number_is, long_here, op_within, op_small}
use Rattle.scan.proofs.Long.{Counting, counting_first, counts_short, counts_long, counts_on}
use Rattle.scan.proofs.instructions.Goals as goal

here : {code : List ℕ} {p q nodes : ℕ} → Counting code p nodes → q ≡ p → Counting code q nodes
here {code} {p} {q} {nodes} c e = subst (λ (n : ℕ). Counting code n nodes) (sym e) c

pub loop-place-init : goal.loop-place-init
loop-place-init c = (loop_start c.args.code.now c.start-scan.result c.start-scan.ensures.view c.start-scan.ensures.place c.requires.0, here (counting_first c.args.code.now (bytes_of c.args.code.now c.type_inv.code)) c.start-scan.ensures.place)

pub returns-in_err-settle : goal.returns-in_err-settle
returns-in_err-settle c = rw c.from_residual.ensures (inl (settle_none c.args.code.now (bytes_of c.args.code.now c.type_inv.code) c.loop-place.invariant.0 c.settle.new.self c.settle.ensures.place c.settle.result c.settle.ensures.view c.in_err-settle.was))

pub returns-in_err-finish : goal.returns-in_err-finish
returns-in_err-finish c = rw c.from_residual-in_err-finish.ensures (inl (end_none c.args.code.now (bytes_of c.args.code.now c.type_inv.code) c.loop-place.invariant.0 c.settle.new.self c.settle.ensures.place c.settle.result c.settle.ensures.view c.in_ok-settle.was c.finish.result c.if-place-code.true c.finish.ensures c.in_err-finish.was))

pub returns-then-place-code : goal.returns-then-place-code
returns-then-place-code c = (end_some c.args.code.now (bytes_of c.args.code.now c.type_inv.code) c.loop-place.invariant.0 c.settle.new.self c.settle.ensures.place c.settle.result c.settle.ensures.view c.in_ok-settle.was c.finish.result c.if-place-code.true c.finish.ensures c.in_ok-finish.was, counts_short (here c.loop-place.invariant.1 c.settle.ensures.place) c.if-place-code.true)

pub returns-then-ends_long : goal.returns-then-ends_long
returns-then-ends_long c = inr (counts_long (here c.loop-place.invariant.1 c.settle.ensures.place) c.if-place-code.false (long_here c.args.code.now (bytes_of c.args.code.now c.type_inv.code) c.settle.new.self.place _ c.op_at-op.result c.op_at-op.ensures (sym c.ends_long.ensures ∙ c.if-ends_long.true)))

pub step-requires-clause-place : goal.step-requires-clause-place
step-requires-clause-place c = rw c.op_at-op.ensures (omega (arith, op_within (drop c.settle.new.self.place c.args.code.now) (bytes_drop c.settle.new.self.place (bytes_of c.args.code.now c.type_inv.code)), length-drop c.settle.new.self.place c.args.code.now))

pub step-requires-clause-short : goal.step-requires-clause-short
step-requires-clause-short c = rw c.op_at-op.ensures (op_small (drop c.settle.new.self.place c.args.code.now) (bytes_drop c.settle.new.self.place (bytes_of c.args.code.now c.type_inv.code)))

pub returns-in_err-step : goal.returns-in_err-step
returns-in_err-step c = rw c.from_residual-in_err-step.ensures (inl (step_none c.args.code.now (bytes_of c.args.code.now c.type_inv.code) c.loop-place.invariant.0 c.settle.new.self c.settle.ensures.place c.settle.result c.settle.ensures.view c.in_ok-settle.was c.if-place-code.false c.step.result c.step.new.self c.op_at-op.result c.op_at-op.ensures c.step.ensures.view c.in_err-step.was))

pub loop-place-preserved : goal.loop-place-preserved
loop-place-preserved c = (
  step_some c.args.code.now (bytes_of c.args.code.now c.type_inv.code) c.loop-place.invariant.0 c.settle.new.self c.settle.ensures.place c.settle.result c.settle.ensures.view c.in_ok-settle.was c.if-place-code.false c.step.result c.step.new.self c.op_at-op.result c.op_at-op.ensures c.step.ensures.view c.in_ok-step.was c.step.ensures.place,
  let k = number_is c.args.code.now (bytes_of c.args.code.now c.type_inv.code) c.loop-place.invariant.0 c.settle.new.self c.settle.ensures.place c.settle.result c.settle.ensures.view c.in_ok-settle.was c.if-place-code.false c.step.result c.step.new.self c.op_at-op.result c.op_at-op.ensures c.step.ensures.view c.in_ok-step.was c.step.ensures.place in
      rw (c.counted-since.ensures, k) (counts_on (here c.loop-place.invariant.1 c.settle.ensures.place) c.if-place-code.false (rw k at (sym c.ends_long.ensures ∙ c.if-ends_long.false)) (onward_by c.args.code.now (bytes_of c.args.code.now c.type_inv.code) c.loop-place.invariant.0 c.settle.new.self c.settle.ensures.place c.settle.result c.settle.ensures.view c.in_ok-settle.was c.if-place-code.false c.step.result c.step.new.self c.op_at-op.result c.op_at-op.ensures c.step.ensures.view c.in_ok-step.was c.step.ensures.place)),
)
