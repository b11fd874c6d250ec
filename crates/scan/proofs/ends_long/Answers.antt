-- `scan::ends_long` meets its contract. Assumes nothing.
use Prim.Native.Nat.{ℕ}
use mathlib.Core.Bool.{false}
use mathlib.Core.Path.{◌≡◌, refl}
use Rattle.ops.specs.declared.Op.{Op}
use Rattle.ops.specs.declared.Op.TheVariants as op
use Rattle.scan.specs.InnerView.{ends_long, opcode_of}
use Rattle.scan.proofs.ends_long.Goals as goal

not_long : (o : Op) (since : ℕ) → (o ≡ op.Commit → ⊥) → false ≡ ends_long (opcode_of o) since
unfolding ends_long
not_long (op.Push n) since h = refl
not_long op.Add since h = refl
not_long (op.Read v) since h = refl
not_long (op.Write v) since h = refl
not_long op.Begin since h = refl
not_long op.Commit since h = absurd (h refl)
not_long (op.Fork size) since h = refl
not_long op.Foreign since h = refl

pub returns-in_default : goal.returns-in_default
returns-in_default c = not_long c.args.op c.args.since c.in_default.not-Commit
