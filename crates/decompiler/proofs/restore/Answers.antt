-- `decompiler::restore` meets its contract: the loop follows `read_ops`, and what is still to be read and closed falls. Assumes nothing.
use Prim.Native.Nat.{ℕ}
use mathlib.Core.List.{List}
use native.Mathlib.Omega.{arith}
use lib.ListN.{get_or}
use mir.Syntax.{w8}
use mir.Val.{Fits}
use Rattle.script.specs.Bytes.{Bytes}
use Rattle.decompiler.proofs.Whole.{header_fits, inv_start, inv_end}
use Rattle.decompiler.proofs.restore.Goals as goal

bytes_of : (code : List ℕ) → ((i : ℕ) → Fits w8 (get_or code i 0)) → Bytes code
bytes_of code h = record { small = λ i l. omega (arith, h i) }

pub put_header-requires : goal.put_header-requires
put_header-requires c = header_fits c.args.code.now c.args.nodes c.args.out.now (bytes_of c.args.code.now c.type_inv.code) c.requires

pub loop-pass-init : goal.loop-pass-init
loop-pass-init c = inv_start c.args.code.now c.args.nodes c.args.out.now (bytes_of c.args.code.now c.type_inv.code) c.requires _ c.put_header.ensures _ c.start-pass.ensures

pub step-requires : goal.step-requires
step-requires c = record { head = _; before = _; tree = _; walk = c.loop-pass.invariant.walk; more = c.loop-pass-test.true }

pub loop-pass-smaller : goal.loop-pass-smaller
loop-pass-smaller c = (c.step.ensures _ _ _ c.loop-pass.invariant.walk).less

pub loop-pass-preserved : goal.loop-pass-preserved
loop-pass-preserved c = let i = c.loop-pass.invariant in record { job = i.job; read = i.read; count = i.count; walk = (c.step.ensures _ _ _ c.loop-pass.invariant.walk).walk }

pub returns : goal.returns
returns c = inv_end c.args.code.now c.args.nodes c.args.out.now (bytes_of c.args.code.now c.type_inv.code) c.requires _ _ _ c.put_header.ensures c.loop-pass.invariant (omega arith)
