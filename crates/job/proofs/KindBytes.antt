-- A kind is told by its byte. Assumes nothing.
use Prim.Native.Nat.{ℕ, ◌≤◌}
use mathlib.Core.Path.{◌≡◌, refl, sym, ap, subst, ◌∙◌}
use mathlib.Core.Bool.{cond}
use native.Mathlib.Omega.{arith}
use lib.Dec.{eqb}
use Rattle.script.specs.Jobs.{operand}
use Rattle.std.specs.Prelude.{Result, Ok, Err, IsOk}
use mathlib.Core.Logic.{inl, inr}
use Rattle.terms.specs.Numbers.{kind_number, Decodes}
use Rattle.terms.specs.declared.UnknownKind.{UnknownKind}
use Rattle.terms.specs.declared.Kind.{Kind}
use Rattle.terms.specs.declared.Kind.TheVariants as kind

-- the kind of a byte
kind_at : ℕ → Kind
kind_at n = cond (eqb n 1) kind.Valp (cond (eqb n 2) kind.Addp (cond (eqb n 3) kind.Atomic (cond (eqb n 4) kind.Fork (cond (eqb n 5) kind.Valt (cond (eqb n 6) kind.Addt (cond (eqb n 7) kind.Read kind.Write))))))

kind_back : (k : Kind) → kind_at (kind_number k) ≡ k
unfolding kind_at
kind_back kind.Valp = refl
kind_back kind.Addp = refl
kind_back kind.Atomic = refl
kind_back kind.Fork = refl
kind_back kind.Valt = refl
kind_back kind.Addt = refl
kind_back kind.Read = refl
kind_back kind.Write = refl

pub same_kind : (j k : Kind) → kind_number j ≡ kind_number k → j ≡ k
same_kind j k e = sym (kind_back j) ∙ (ap kind_at e ∙ kind_back k)

pub kind_known : (k : Kind) → (1 ≤ kind_number k) × (kind_number k ≤ 8)
kind_known kind.Valp = (omega arith, omega arith)
kind_known kind.Addp = (omega arith, omega arith)
kind_known kind.Atomic = (omega arith, omega arith)
kind_known kind.Fork = (omega arith, omega arith)
kind_known kind.Valt = (omega arith, omega arith)
kind_known kind.Addt = (omega arith, omega arith)
kind_known kind.Read = (omega arith, omega arith)
kind_known kind.Write = (omega arith, omega arith)

pub operand_small : (k : Kind) → operand (kind_number k) ≤ 4
unfolding operand
operand_small kind.Valp = omega arith
operand_small kind.Addp = omega arith
operand_small kind.Atomic = omega arith
operand_small kind.Fork = omega arith
operand_small kind.Valt = omega arith
operand_small kind.Addt = omega arith
operand_small kind.Read = omega arith
operand_small kind.Write = omega arith

-- a kind's byte is decoded
pub decoded : (byte : ℕ) (r : Result Kind UnknownKind) → Decodes byte r → (k : Kind) → kind_number k ≡ byte → IsOk r
decoded byte (Ok j) d k e = refl
decoded byte (Err u) (inl z) k e = absurd (omega (arith, kind_known k))
decoded byte (Err u) (inr z) k e = absurd (omega (arith, kind_known k))

pub decoded_as : (byte : ℕ) (r : Result Kind UnknownKind) (k : Kind) → Decodes byte r → r ≡ Ok k → kind_number k ≡ byte
decoded_as byte r k d e = subst (Decodes byte) e d
