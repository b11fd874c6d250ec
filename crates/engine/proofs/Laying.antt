-- Writing over the first of a list, for 16 records and 64 registers and counts. Assumes nothing.
use Prim.Native.Nat.{ℕ, zero, suc, ◌≤◌}
use mathlib.Core.Bool.{Bool, true, false, cond, not, ◌&&◌}
use mathlib.Core.Path.{◌≡◌, refl, sym, ap, ◌∙◌}
use mathlib.Core.List.{List, [], ◌∷◌}
use native.Mathlib.Omega.{arith}
use borrow.Author.Tests.{eqb-true, ne_eqb}
use lib.Dec.{eqb}
use lib.IntN.{ℤ, pos}
use lib.ListN.{length, replicate}
use Rattle.thread.specs.declared.Thread.{Thread}
use Rattle.thread.specs.Threads.{blank, spawned}
use Rattle.code.proofs.Foreign.{only_foreign}
use Rattle.code.specs.Reader.{read_code}
use Rattle.machine.specs.Answers.{Returned, answered, fresh_call, fresh_of, fresh_reply, returned, right_lengths}
use Rattle.machine.specs.Steps.{State, state_from, fresh}
use Rattle.machine.specs.declared.FreshReply.{FreshReply}
use Rattle.progress.specs.InnerProgress.{unless_refused, fresh_refusal_of, fresh_admitted_to, fresh_reply_of}
use Rattle.script.specs.Jobs.{Job}
use Rattle.script.specs.Outcome.{Outcome, refused, done, onward, refuse}
use Rattle.engine.specs.InnerEngine.{overwritten, record_of, laid, cleared, forgotten}

-- a thread whose code is from 0 to 0 is none
pub unspawned : spawned 0 0 ≡ blank
unfolding spawned blank
unspawned = refl

module _ {A : Type 0} (new : ℕ → A) where
  -- all from number i on, if they are all the same there
  pub overwritten_all : (y : A) (n i : ℕ) (xs : List A) → ((k : ℕ) → i ≤ k → new k ≡ y) → length xs ≡ n → overwritten new n i xs ≡ replicate n y
  unfolding overwritten
  overwritten_all y zero i [] same h = refl
  overwritten_all y zero i (x ∷ xs) same h = absurd (omega (arith, h))
  overwritten_all y (suc n) i [] same h = absurd (omega (arith, h))
  overwritten_all y (suc n) i (x ∷ xs) same h =
      ap (◌∷ overwritten new n (suc i) xs) (same i (omega arith)) ∙ ap (y ∷◌) (overwritten_all y n (suc i) xs (λ k l. same k (omega (arith, l))) (omega (arith, h)))

-- 0 is not at least 1
zero_less : (k : ℕ) → k ≡ 0 → 1 ≤ k → ⊥
zero_less k e h = omega (arith, e, h)

-- behind record 0 each record of a fresh state is of no thread
record_blank : (end k : ℕ) → 1 ≤ k → record_of k end ≡ blank
unfolding record_of
record_blank end k h = rw (ne_eqb k 0 (λ e. absurd (zero_less k e h)))

-- limit 16: 16 records become those of a fresh state
pub laid_all : (end : ℕ) (ts : List Thread) → length ts ≡ 16 → laid end 16 ts ≡ spawned 5 end ∷ replicate 15 blank
unfolding laid overwritten record_of
laid_all end [] h = absurd (omega (arith, h))
laid_all end (t ∷ ts) h = ap (spawned 5 end ∷◌) (overwritten_all (λ i. record_of i end) blank 15 1 ts (record_blank end) (omega (arith, h)))

-- limit 64: 64 registers become 0
pub cleared_all : (rs : List ℤ) → length rs ≡ 64 → cleared 64 rs ≡ replicate 64 (pos 0)
unfolding cleared
cleared_all rs h = overwritten_all (λ _. pos 0) (pos 0) 64 0 rs (λ k l. refl) h

-- the same of the counts
pub forgotten_all : (ns : List ℕ) → length ns ≡ 64 → forgotten 64 ns ≡ replicate 64 0
unfolding forgotten
forgotten_all ns h = overwritten_all (λ _. 0) 0 64 0 ns (λ k l. refl) h

-- the loops together make 64 registers, 64 counts and 16 records the fresh state
pub makes_fresh : (code : List ℕ) (rs : List ℤ) (ns : List ℕ) (ts : List Thread) → length rs ≡ 64 → length ns ≡ 64 → length ts ≡ 16 → state_from (cleared 64 rs) (forgotten 64 ns) (laid (length code) 16 ts) ≡ fresh code
unfolding fresh
makes_fresh code rs ns ts h m k =
    ap (λ (l : List ℤ). state_from l (forgotten 64 ns) (laid (length code) 16 ts)) (cleared_all rs h)
    ∙ (ap (λ (l : List ℕ). state_from (replicate 64 (pos 0)) l (laid (length code) 16 ts)) (forgotten_all ns m) ∙ ap (state_from (replicate 64 (pos 0)) (replicate 64 0)) (laid_all (length code) ts k))

module _ (code : List ℕ) (rs : List ℤ) (ns : List ℕ) (ts : List Thread) where
  -- laying down, unless it is refused
  abbrev pub by : Outcome (Unit {0}) → Returned FreshReply
  by (refused n p) = answered rs ns ts (fresh_reply_of (refused n p))
  by (done u) = answered (cleared 64 rs) (forgotten 64 ns) (laid (length code) 16 ts) (fresh_reply_of (done u))

  -- the call, by what the code is
  abbrev called : Outcome Job → Returned FreshReply
  called o = returned (λ (r : State). r) fresh_reply (state_from rs ns ts) (onward o (λ (j : Job). right_lengths (state_from rs ns ts) (done (fresh code))))

  -- of an accepted job's code, by the three tests
  by_tests : (t u v : Bool) → eqb (length ts) 16 ≡ t → eqb (length rs) 64 ≡ u → eqb (length ns) 64 ≡ v
      → by (unless_refused (cond t (cond u (cond v 0 12) 12) 12) tt) ≡ returned (λ (r : State). r) fresh_reply (state_from rs ns ts) (refuse (not (t && (u && v))) 12 0 (done (fresh code)))
  by_tests true true true e f g = ap (λ (z : State). record { state = z; reply = fresh_reply_of (done tt) }) (makes_fresh code rs ns ts (eqb-true (length rs) 64 f) (eqb-true (length ns) 64 g) (eqb-true (length ts) 16 e))
  by_tests true true false e f g = refl
  by_tests true false v e f g = refl
  by_tests false u v e f g = refl

  by_code : (o : Outcome Job) → ((n p : ℕ) → o ≡ refused n p → (n ≡ 11) × (p ≡ 0)) → by (fresh_admitted_to o (length rs) (length ns) (length ts)) ≡ called o
  unfolding fresh_refusal_of
  by_code (refused n p) only =
      let o = only n p refl in
      ap (λ (m : ℕ). answered rs ns ts (record { refusal = m; place = 0 })) (sym o.0) ∙ ap (λ (q : ℕ). answered rs ns ts (record { refusal = n; place = q })) (sym o.1)
  by_code (done j) only = by_tests (eqb (length ts) 16) (eqb (length rs) 64) (eqb (length ns) 64) refl refl refl

  -- laying down, unless it is refused, is the call
  pub fresh_by_value : by (fresh_admitted_to (read_code code) (length rs) (length ns) (length ts)) ≡ fresh_call code (state_from rs ns ts)
  unfolding fresh_call fresh_of
  fresh_by_value = by_code (read_code code) (only_foreign code)
