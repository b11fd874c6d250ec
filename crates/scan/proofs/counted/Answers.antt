-- `scan::counted` meets its contract. Assumes nothing.
use Prim.Native.Nat.{ℕ, ◌+◌}
use mathlib.Core.Path.{◌≡◌, refl}
use Rattle.ops.specs.declared.Op.{Op}
use Rattle.ops.specs.declared.Op.TheVariants as op
use Rattle.scan.specs.InnerView.{counted_to, opcode_of}
use Rattle.scan.proofs.counted.Goals as goal

one_more : (o : Op) (since : ℕ) → (o ≡ op.Begin → ⊥) → since + 1 ≡ counted_to (opcode_of o) since
unfolding counted_to
one_more (op.Push n) since h = refl
one_more op.Add since h = refl
one_more (op.Read v) since h = refl
one_more (op.Write v) since h = refl
one_more op.Begin since h = absurd (h refl)
one_more op.Commit since h = refl
one_more (op.Fork size) since h = refl
one_more op.Foreign since h = refl

pub returns-in_default : goal.returns-in_default
returns-in_default c = one_more c.args.op c.args.since c.in_default.not-Begin
