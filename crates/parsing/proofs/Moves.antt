-- The same byte put several times in front of a part. Assumes nothing.
use Prim.Native.Nat.{ℕ, ◌+◌, ◌-◌, ◌≤◌}
use mathlib.Core.Path.{◌≡◌, sym, ap, ◌∙◌}
use mathlib.Core.List.{List, ◌++◌}
use native.Mathlib.Omega.{arith}
use lib.ListN.{length, take, drop, replicate, length-replicate}
use lib.Seq.{drop-drop}
use borrow.Rule.Slice.PartMut.{mid_of, put_mid, mid_len}
use Rattle.delivery.specs.InnerPlaces.{placed_at, moved, inserted}
use Rattle.delivery.proofs.Places.{placed_moved, inserted_none}

-- in front of a part, which was moved on before
pub put_before : (i e n b : ℕ) (xs mid ys : List ℕ) → i ≤ e → e + n ≤ length xs → length mid ≡ length xs → mid ≡ moved i e n xs → ys ≡ replicate (length (mid_of i (i + n - i) mid)) b → put_mid i (i + n - i) mid ys ≡ inserted i e (replicate n b) xs
put_before i e n b xs mid ys p q l a f =
    let k : i + n - i ≡ n = omega arith in
    let r : length (replicate n b) ≡ n = length-replicate n b in
    let m : length (mid_of i (i + n - i) mid) ≡ n = mid_len i (i + n) mid (omega arith) ∙ k in
    let y : ys ≡ replicate n b = f ∙ ap (λ (n : ℕ). replicate n b) m in
    let d : drop (i + n - i) (drop i mid) ≡ drop (i + length (replicate n b)) mid = ap (λ (k : ℕ). drop k (drop i mid)) (k ∙ sym r) ∙ drop-drop (length (replicate n b)) i mid in
    ap (λ (ys : List ℕ). put_mid i (i + n - i) mid ys) y ∙ ap (λ (z : List ℕ). take i mid ++ (replicate n b ++ z)) d
    ∙ ap (placed_at i (replicate n b)) (a ∙ ap (λ (n : ℕ). moved i e n xs) (sym r)) ∙ placed_moved i e (replicate n b) xs p (omega arith)

-- nothing in front of a part
pub put_none : (i e n b : ℕ) (xs : List ℕ) → i ≤ e → n ≡ 0 → xs ≡ inserted i e (replicate n b) xs
put_none i e n b xs h z = sym (ap (λ (n : ℕ). inserted i e (replicate n b) xs) z ∙ inserted_none i e xs h)
