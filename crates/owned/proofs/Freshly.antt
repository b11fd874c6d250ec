-- A fresh state laid down over the first 64 registers, 64 counts and 16 records, then picks on the same ones: one call on them. Assumes nothing.
use mathlib.Core.Path.{◌≡◌, refl, ◌∙◌, ap}
use mathlib.Core.Bool.{Bool, true, false, not, ◌&&◌}
use Prim.Native.Nat.{ℕ, zero, suc}
use native.Mathlib.Omega.{arith}
use mathlib.Core.List.{List, [], ◌∷◌, ◌++◌}
use lib.Dec.{eqb}
use lib.IntN.{ℤ}
use lib.ListN.{length, take, drop}
use Rattle.code.specs.Reader.{read_code}
use Rattle.machine.specs.Answers.{Returned, answered, fresh_call, fresh_of, fresh_reply, returned, right_lengths, run_call}
use Rattle.machine.specs.Steps.{State, state_from, fresh}
use Rattle.machine.specs.declared.FreshReply.{FreshReply}
use Rattle.machine.specs.declared.RunReply.{RunReply}
use Rattle.script.specs.Jobs.{Job}
use Rattle.script.specs.Outcome.{Outcome, refused, done, onward, refuse}
use Rattle.thread.specs.declared.Thread.{Thread}
use Rattle.owned.specs.Owned.{freshly_run, on_first}

module _ {A : Type 0} where
  -- the first of two lists, as long as it is
  taken : (n : ℕ) (xs ys : List A) → length xs ≡ n → take n (xs ++ ys) ≡ xs
  taken zero [] ys h = refl
  taken zero (x ∷ xs) ys h = absurd (omega (arith, h))
  taken (suc n) [] ys h = absurd (omega (arith, h))
  taken (suc n) (x ∷ xs) ys h = ap (x ∷◌) (taken n xs ys (omega (arith, h)))

  -- and the second
  dropped : (n : ℕ) (xs ys : List A) → length xs ≡ n → drop n (xs ++ ys) ≡ ys
  dropped zero [] ys h = refl
  dropped zero (x ∷ xs) ys h = absurd (omega (arith, h))
  dropped (suc n) [] ys h = absurd (omega (arith, h))
  dropped (suc n) (x ∷ xs) ys h = dropped n xs ys (omega (arith, h))

-- a state of 64 registers, 64 counts and 16 records
abbrev Sized : State → Type 0
Sized s = (length s.registers ≡ 64) × ((length s.counts ≡ 64) × (length s.threads ≡ 16))

-- a fresh state is one
fresh_sized : (code : List ℕ) → Sized (fresh code)
unfolding fresh
fresh_sized code = (refl, (refl, refl))

module _ (code : List ℕ) (s : State) (h : Sized s) where
  by_test : (t : Bool) → Sized (returned (λ (r : State). r) fresh_reply s (refuse t 12 0 (done (fresh code)))).state
  by_test true = h
  by_test false = fresh_sized code

  by_code : (o : Outcome Job) → Sized (returned (λ (r : State). r) fresh_reply s (onward o (λ (j : Job). right_lengths s (done (fresh code))))).state
  by_code (refused n p) = h
  by_code (done j) = by_test (not (eqb (length s.threads) 16 && (eqb (length s.registers) 64 && eqb (length s.counts) 64)))

  -- what is left where one was lent is one
  call_sized : Sized (fresh_call code s).state
  unfolding fresh_call fresh_of
  call_sized = by_code (read_code code)

-- the two calls, one after the other
pub freshly : (code picks : List ℕ) (rs : List ℤ) (ns : List ℕ) (ts : List Thread) → length (take 64 rs) ≡ 64 → length (take 64 ns) ≡ 64 → length (take 16 ts) ≡ 16
    → (rs' : List ℤ) (ns' : List ℕ) (ts' : List Thread) (r' : FreshReply) → answered rs' ns' ts' r' ≡ on_first 64 64 16 (fresh_call code) rs ns ts
    → (r : Returned RunReply) → r ≡ on_first 64 64 16 (λ (s : State). run_call code s picks) rs' ns' ts'
    → r ≡ on_first 64 64 16 (freshly_run code picks) rs ns ts
freshly code picks rs ns ts lr ln lt rs' ns' ts' r' f r g =
    g ∙ ap (λ (a : Returned FreshReply). on_first 64 64 16 (λ (s : State). run_call code s picks) a.state.registers a.state.counts a.state.threads) f
    ∙ (λ i. let o = run_call code (state_from (taken 64 left.registers (drop 64 rs) sized.0 i) (taken 64 left.counts (drop 64 ns) sized.1.0 i) (taken 16 left.threads (drop 16 ts) sized.1.1 i)) picks in
    answered (o.state.registers ++ dropped 64 left.registers (drop 64 rs) sized.0 i) (o.state.counts ++ dropped 64 left.counts (drop 64 ns) sized.1.0 i)
    (o.state.threads ++ dropped 16 left.threads (drop 16 ts) sized.1.1 i) o.reply)
  where
    left : State
    left = (fresh_call code (state_from (take 64 rs) (take 64 ns) (take 16 ts))).state

    sized : Sized left
    sized = call_sized code (state_from (take 64 rs) (take 64 ns) (take 16 ts)) (lr, (ln, lt))
