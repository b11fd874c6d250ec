-- The first so many entries of a list, as far as there are so many, and what a call leaves that is lent only them. Assumes nothing.
use mathlib.Core.Path.{◌≡◌, refl, sym, ◌∙◌, ap}
use mathlib.Core.Bool.{Bool, true, false, cond}
use Prim.Native.Nat.{ℕ, zero, suc, ◌≤◌}
use native.Mathlib.Omega.{arith}
use mathlib.Core.List.{List, [], ◌∷◌, ◌++◌}
use lib.Dec.{ltb}
use lib.IntN.{ℤ}
use lib.ListN.{length, take, drop, drop_of_length-le}
use borrow.Author.Tests.{ltb-false}
use Rattle.machine.specs.Answers.{Returned, answered}
use Rattle.machine.specs.Steps.{State, state_from}
use Rattle.thread.specs.declared.Thread.{Thread}
use Rattle.engine.specs.InnerEngine.{least_of}
use Rattle.owned.specs.Owned.{on_first}

module _ {A : Type 0} where
  -- all entries of a list are its first so many, if there are no more
  all_first : (n : ℕ) (xs : List A) → length xs ≤ n → take n xs ≡ xs
  all_first zero [] h = refl
  all_first (suc n) [] h = refl
  all_first zero (x ∷ xs) h = absurd (omega (arith, h))
  all_first (suc n) (x ∷ xs) h = ap (x ∷◌) (all_first n xs (omega (arith, h)))

  -- if there are so many, the first of them are so many
  pub first_length : (n : ℕ) (xs : List A) → n ≤ length xs → length (take n xs) ≡ n
  first_length zero xs h = refl
  first_length (suc n) [] h = absurd (omega (arith, h))
  first_length (suc n) (x ∷ xs) h = ap suc (first_length n xs (omega (arith, h)))

  -- of a list of N the first n are its first n as far as there are so many
  first_least : (n N : ℕ) (xs : List A) → length xs ≡ N → take (least_of n N) xs ≡ take n xs
  first_least n N xs len = by_test (ltb n N) refl
    where
      by_test : (t : Bool) → ltb n N ≡ t → take (cond t n N) xs ≡ take n xs
      by_test true e = refl
      by_test false e = let h : N ≤ n = ltb-false n N e in all_first N xs (omega (arith, len)) ∙ sym (all_first n xs (omega (arith, len, h)))

  -- and so are the others
  rest_least : (n N : ℕ) (xs : List A) → length xs ≡ N → drop (least_of n N) xs ≡ drop n xs
  rest_least n N xs len = by_test (ltb n N) refl
    where
      by_test : (t : Bool) → ltb n N ≡ t → drop (cond t n N) xs ≡ drop n xs
      by_test true e = refl
      by_test false e = let h : N ≤ n = ltb-false n N e in drop_of_length-le xs {i = N} (omega (arith, len)) ∙ sym (drop_of_length-le xs {i = n} (omega (arith, len, h)))

-- a call that is lent the first of N registers, of C counts and of K records, as far as there are so many, comes to what `on_first` says
pub on-first : {Reply : Type 0} (call : State → Returned Reply) (cells counters records N C K : ℕ) (rs : List ℤ) (ns : List ℕ) (ts : List Thread)
    → length rs ≡ N → length ns ≡ C → length ts ≡ K → (rs' : List ℤ) (ns' : List ℕ) (ts' : List Thread) (reply : Reply)
    → answered rs' ns' ts' reply ≡ call (state_from (take (least_of cells N) rs) (take (least_of counters C) ns) (take (least_of records K) ts))
    → answered (rs' ++ drop (least_of cells N) rs) (ns' ++ drop (least_of counters C) ns) (ts' ++ drop (least_of records K) ts) reply ≡ on_first cells counters records call rs ns ts
on-first {Reply} call cells counters records N C K rs ns ts er en et rs' ns' ts' reply f =
    ap (λ (r : Returned Reply). answered (r.state.registers ++ drop (least_of cells N) rs) (r.state.counts ++ drop (least_of counters C) ns) (r.state.threads ++ drop (least_of records K) ts) r.reply) f ∙
    (λ i. let r = call (state_from (first_least cells N rs er i) (first_least counters C ns en i) (first_least records K ts et i)) in
    answered (r.state.registers ++ rest_least cells N rs er i) (r.state.counts ++ rest_least counters C ns en i) (r.state.threads ++ rest_least records K ts et i) r.reply)
