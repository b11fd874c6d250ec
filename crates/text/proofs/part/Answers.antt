-- `text::part` meets its contract: part k is what `split` yields at k, or nothing. Assumes nothing.
use Rattle.std.proofs.Common.{Bor, take, drop, ◌+◌, arith, ◌≡◌, ℕ, zero, suc, Bool, true, false, List, [], ◌∷◌, Option, Some, None, option_map, slice_get, unwrap_or, eqb, refl, sym, ap, ◌∙◌, rules, tests}
use Rattle.std.specs.List.{slice_split, onto_first, position_or_len}
use Rattle.std.proofs.lemmas.Iterator.Consumers.{nth_from_yields_List}
use Rattle.std.proofs.lemmas.Iterator.Splits.{YieldsList-from_slice_split}
use Rattle.text.specs.Texts.{piece}
use Rattle.text.proofs.part.Goals as goal

onto_start : (x : ℕ) (parts : List (List ℕ)) → unwrap_or (slice_get (onto_first x parts) 0) [] ≡ x ∷ unwrap_or (slice_get parts 0) []
onto_start x [] = refl
onto_start x (y ∷ ys) = refl

onto_later : (x k : ℕ) (parts : List (List ℕ)) → slice_get (onto_first x parts) (suc k) ≡ slice_get parts (suc k)
onto_later x k [] = refl
onto_later x k (y ∷ ys) = refl

take_more : (x n : ℕ) (xs : List ℕ) → take (1 + n) (x ∷ xs) ≡ x ∷ take n xs
take_more x n xs = let e : 1 + n ≡ suc n = omega arith in ap (λ m. take m (x ∷ xs)) e

drop_more : (x n : ℕ) (xs : List ℕ) → drop (1 + n + 1) (x ∷ xs) ≡ drop (n + 1) xs
drop_more x n xs = let e : 1 + n + 1 ≡ suc (n + 1) = omega arith in ap (λ m. drop m (x ∷ xs)) e

piece_none : (byte k : ℕ) → piece byte k [] ≡ []
piece_none byte zero = refl
piece_none byte (suc k) = piece_none byte k

one_more : (byte x : ℕ) (xs : List ℕ) (k : ℕ) (b : Bool) → eqb x byte ≡ b → ((j : ℕ) → unwrap_or (slice_get (slice_split (λ x. eqb x byte) xs) j) [] ≡ piece byte j xs)
    → unwrap_or (slice_get (slice_split (λ x. eqb x byte) (x ∷ xs)) k) [] ≡ piece byte k (x ∷ xs)
one_more byte x xs zero true e h = rw e refl
one_more byte x xs (suc k) true e h = rw e (h k)
one_more byte x xs zero false e h = rw e (onto_start x (slice_split (λ x. eqb x byte) xs) ∙ ap (λ l. x ∷ l) (h 0) ∙ sym (take_more x (position_or_len (λ x. eqb x byte) xs) xs))
one_more byte x xs (suc k) false e h = rw e (ap (λ o. unwrap_or o []) (onto_later x k (slice_split (λ x. eqb x byte) xs)) ∙ h (suc k) ∙ ap (piece byte k) (sym (drop_more x (position_or_len (λ x. eqb x byte) xs) xs)))

sliced : (byte : ℕ) (text : List ℕ) (k : ℕ) → unwrap_or (slice_get (slice_split (λ x. eqb x byte) text) k) [] ≡ piece byte k text
sliced byte [] zero = refl
sliced byte [] (suc k) = sym (piece_none byte k)
sliced byte (x ∷ xs) k = one_more byte x xs k (eqb x byte) refl (sliced byte xs)

now_or : (o : Option (Bor (List ℕ))) (d : Bor (List ℕ)) → (unwrap_or o d).now ≡ unwrap_or (option_map (λ x. x.now) o) d.now
now_or None d = refl
now_or (Some x) d = refl

pub returns : goal.returns
returns c =
    ap (λ r. r.now) c.unwrap_or.ensures
    ∙ now_or c.nth.result _
    ∙ ap (λ o. unwrap_or o [])
    (nth_from_yields_List c.nth.result c.nth.new.self c.from.result c.nth.ensures.ran (YieldsList-from_slice_split _ (λ x. eqb x c.args.byte) c.args.text.now c.split.ensures.rest c.split.ensures.done c.split.ensures.closure (λ x b q k. search (rules, tests))))
    ∙ sliced c.args.byte c.args.text.now c.from.result
    ∙ ap (λ k. piece c.args.byte k c.args.text.now) c.from.ensures
