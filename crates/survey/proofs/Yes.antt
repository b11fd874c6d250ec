-- Yes and no. Assumes nothing.
use Prim.Native.Nat.{ℕ}
use mathlib.Core.Bool.{Bool, true, false, cond, not, ◌&&◌}
use mathlib.Core.Path.{◌≡◌, refl, sym, ◌∙◌}
use native.Mathlib.Omega.{arith}

pub never : {A : Type 0} → ◌≡◌ {A = Bool} true false → A
never e = absurd (let z : ◌≡◌ {A = ℕ} 0 1 = cc in omega arith)

pub first : (a b : Bool) → (a && b) ≡ true → a ≡ true
first true b e = refl
first false b e = e

pub second : (a b : Bool) → (a && b) ≡ true → b ≡ true
second true b e = e
second false b e = never (sym e)

pub both : {a b : Bool} → a ≡ true → b ≡ true → (a && b) ≡ true
both {a} {b} e f = rw (e, f)

-- what would be absurd if it were true is false
pub is_false : (b : Bool) → (b ≡ true → ⊥) → false ≡ b
is_false true n = absurd (n refl)
is_false false n = refl

-- two tests that follow from each other are the same
pub alike : (a b : Bool) → (a ≡ true → b ≡ true) → (b ≡ true → a ≡ true) → a ≡ b
alike true b f g = sym (f refl)
alike false true f g = g refl
alike false false f g = refl

pub clash : {b : Bool} → b ≡ false → b ≡ true → ⊥
clash e f = never (sym f ∙ e)

pub when_true : {A : Type 0} (b : Bool) (x y : A) → b ≡ true → x ≡ cond b x y
when_true b x y e = rw e

pub when_false : {A : Type 0} (b : Bool) (x y : A) → b ≡ false → y ≡ cond b x y
when_false b x y e = rw e

pub not_not : (b : Bool) → not (not b) ≡ b
not_not true = refl
not_not false = refl

pub and_no : (a : Bool) {b : Bool} → b ≡ false → (a && b) ≡ false
and_no true e = e
and_no false e = refl

pub and_yes : (a : Bool) {b : Bool} → b ≡ true → a ≡ (a && b)
and_yes true e = sym e
and_yes false e = refl
