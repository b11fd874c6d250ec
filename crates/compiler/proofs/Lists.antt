-- How the rest of an output is lent on and comes back. Assumes nothing.
use Prim.Native.Nat.{ℕ, ◌+◌, ◌-◌, ◌≤◌}
use mathlib.Core.Path.{◌≡◌, ap, ◌∙◌}
use mathlib.Core.List.{List, [], ◌++◌, append-nil}
use native.Mathlib.Omega.{arith}
use lib.ListN.{length, drop, take, length-drop}
use lib.Seq.{drop-drop, drop-length, take_all}
use Rattle.delivery.specs.Delivered.{onto}
use Rattle.delivery.specs.InnerPlaces.{placed_at}

-- the rest of the output, as `&mut out[n..]` lends it
abbrev pub rest : ℕ → List ℕ → List ℕ
rest n xs = take (length xs - n) (drop n xs)

pub rest_is : (n : ℕ) (xs : List ℕ) → rest n xs ≡ drop n xs
rest_is n xs = take_all (length xs - n) (drop n xs) (simp length-drop (omega arith))

pub rest_length : (n : ℕ) (xs : List ℕ) → length (rest n xs) ≡ length xs - n
rest_length n xs = ap length (rest_is n xs) ∙ length-drop n xs

-- the output when the rest is back
abbrev pub back : ℕ → List ℕ → List ℕ → List ℕ
back n xs ys = take n xs ++ (ys ++ drop (length xs - n) (drop n xs))

-- what is put to the front of the rest stands at a place of the whole
pub lent : (n : ℕ) (cs xs : List ℕ) → n ≤ length xs → back n xs (onto cs (rest n xs)) ≡ placed_at n cs xs
lent n cs xs h =
    let e : n + (length xs - n) ≡ length xs = omega arith in
    let gone : drop (length xs - n) (drop n xs) ≡ [] = drop-drop (length xs - n) n xs ∙ (ap (λ (j : ℕ). drop j xs) e ∙ drop-length xs) in
    rw (rest_is n xs, gone, drop-drop (length cs) n xs) (simp append-nil)
