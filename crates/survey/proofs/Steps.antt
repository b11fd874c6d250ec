-- A walk that goes on up to its target, and one that has not come so far. Assumes nothing.
use Prim.Native.Nat.{ℕ, ◌≤◌, ◌<◌}
use mathlib.Core.Bool.{Bool, true, false}
use mathlib.Core.Path.{◌≡◌, refl, ap, ◌∙◌}
use Rattle.std.specs.Prelude as std
use Rattle.survey.specs.declared.Walk.{Walk}
use borrow.Author.Tests.{lt-ltb, le-ltb}
use lib.Dec.{ltb}
use Rattle.survey.specs.InnerWalk.{Trail, going, walk_in, lost_walk, up_to}
use Rattle.survey.proofs.Yes.{when_true, when_false}

-- a place behind the target, and one that is not
pub far : (target place : ℕ) (w : Trail) → target < place → lost_walk ≡ up_to target place w
far target place w h = when_true (ltb target place) lost_walk w (lt-ltb target place h)

pub near : (target place : ℕ) (w : Trail) → place ≤ target → w ≡ up_to target place w
near target place w h = when_false (ltb target place) lost_walk w (le-ltb target place h)

-- a walk that has not come so far, and one that has
pub none_good : (t : Trail) → walk_in t ≡ std.None → t.good ≡ false
none_good t e = go t.good refl
  where
    go : (b : Bool) → t.good ≡ b → t.good ≡ false
    go true g = absurd (let f = rw g at e in cc)
    go false g = g

pub some_going : (t : Trail) (w : Walk) → walk_in t ≡ std.Some w → t ≡ going w
some_going t w e = go t.good refl
  where
    kept : Walk
    kept = record { place = t.place; height = t.height; begin = t.begin; base = t.base; adds = t.adds; commits = t.commits; asked = t.asked }

    go : (b : Bool) → t.good ≡ b → t ≡ going w
    go true g =
        let f : std.Some kept ≡ std.Some w = rw g at e in
        let k : kept ≡ w = cc in
        (λ i. record { place = t.place; height = t.height; begin = t.begin; base = t.base; adds = t.adds; commits = t.commits; asked = t.asked; good = g i }) ∙ ap going k
    go false g = absurd (let f = rw g at e in cc)
