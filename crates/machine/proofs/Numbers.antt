-- The number of threads: the first record that is no thread's. Assumes nothing.
use Prim.Native.Nat.{ℕ, zero, suc, ◌+◌, ◌-◌, ◌<◌}
use mathlib.Core.Bool.{Bool, true, false, cond}
use mathlib.Core.Path.{◌≡◌, refl, ap, subst, ◌∙◌}
use mathlib.Core.List.{List, [], ◌∷◌}
use native.Mathlib.Omega.{arith}
use native.Mathlib.Decide.{dec_lt}
use lib.ListN.{length, get_or, get_or-eq_default}
use Rattle.thread.specs.declared.Thread.{Thread}
use Rattle.thread.specs.Threads.{blank, exists}
use Rattle.machine.specs.Steps.{State, number_of}
use Rattle.machine.specs.Fits.{Exists}

-- the record at the number of threads is no thread's, those before it are threads'
pub at-end : (ts : List Thread) → exists (get_or ts (number_of ts) blank) ≡ false
unfolding number_of blank
at-end [] = refl
at-end (t ∷ ts) = go (exists t) refl (at-end ts)
  where
    go : (b : Bool) → exists t ≡ b → exists (get_or ts (number_of ts) blank) ≡ false → exists (get_or (t ∷ ts) (cond b (suc (number_of ts)) 0) blank) ≡ false
    go true e r = r
    go false e r = e

pub before_end : (ts : List Thread) (i : ℕ) → i < number_of ts → exists (get_or ts i blank) ≡ true
unfolding number_of
before_end [] i l = absurd (omega arith)
before_end (t ∷ ts) i l = go (exists t) refl i l (λ k m. before_end ts k m)
  where
    go : (b : Bool) → exists t ≡ b → (i : ℕ) → i < cond b (suc (number_of ts)) 0 → ((k : ℕ) → k < number_of ts → exists (get_or ts k blank) ≡ true) → exists (get_or (t ∷ ts) i blank) ≡ true
    go true e zero m f = e
    go true e (suc k) m f = f k (omega arith)
    go false e i m f = absurd (omega arith)

pub never : {A : Type 0} {b : Bool} → b ≡ true → b ≡ false → A
never e f = absurd (let z : ◌≡◌ {A = ℕ} 0 1 = cc in omega arith)

-- the first record that is no thread's
pub number_is : (ts : List Thread) (m : ℕ) → ((i : ℕ) → i < m → exists (get_or ts i blank) ≡ true) → exists (get_or ts m blank) ≡ false → number_of ts ≡ m
number_is ts m f e = compare' (dec_lt (number_of ts) m) (dec_lt m (number_of ts))
  where
    compare' : Dec (number_of ts < m) → Dec (m < number_of ts) → number_of ts ≡ m
    compare' (yes l) d = never (f (number_of ts) l) (at-end ts)
    compare' (no l) (yes k) = never (before_end ts m k) e
    compare' (no l) (no k) = omega arith

pub below_exists : (s : State) (i : ℕ) → i < number_of s.threads → Exists s i
below_exists s i l = before_end s.threads i l

-- without gaps, a thread that exists is below the number of threads
pub exists_below : (s : State) → ((i : ℕ) → Exists s (suc i) → Exists s i) → (i : ℕ) → Exists s i → i < number_of s.threads
exists_below s gap i e = go (dec_lt i (number_of s.threads))
  where
    down : (d i : ℕ) → Exists s (d + i) → Exists s i
    down zero i x = subst (λ (n : ℕ). Exists s n) (let z : 0 + i ≡ i = omega arith in z) x
    down (suc d) i x = down d i (gap (d + i) (subst (λ (n : ℕ). Exists s n) (let z : suc d + i ≡ suc (d + i) = omega arith in z) x))

    go : Dec (i < number_of s.threads) → i < number_of s.threads
    go (yes l) = l
    go (no l) = never (down (i - number_of s.threads) (number_of s.threads) (subst (λ (n : ℕ). Exists s n) (let z : i ≡ i - number_of s.threads + number_of s.threads = omega arith in z) e)) (at-end s.threads)

pub number_small : (ts : List Thread) (i : ℕ) → i < number_of ts → i < length ts
unfolding number_of
number_small [] i l = absurd (omega arith)
number_small (t ∷ ts) i l = go (exists t) i l (λ k m. number_small ts k m)
  where
    go : (b : Bool) (i : ℕ) → i < cond b (suc (number_of ts)) 0 → ((k : ℕ) → k < number_of ts → k < length ts) → i < suc (length ts)
    go true zero l f = omega arith
    go true (suc k) l f = let x = f k (omega arith) in omega arith
    go false i l f = absurd (omega arith)

pub blank_absent : exists blank ≡ false
unfolding blank
blank_absent = refl

-- a thread's number is one of the table
pub in_table : (s : State) (k : ℕ) → Exists s k → k < length s.threads
in_table s k e = go (dec_lt k (length s.threads))
  where
    go : Dec (k < length s.threads) → k < length s.threads
    go (yes l) = l
    go (no m) = never e (ap (λ (t : Thread). exists t) (get_or-eq_default s.threads blank (omega arith)) ∙ blank_absent)

-- without gaps, the record behind the next thread's is no thread's either
pub next_absent : (s : State) → ((i : ℕ) → Exists s (suc i) → Exists s i) → exists (get_or s.threads (suc (number_of s.threads)) blank) ≡ false
next_absent s gap = go (exists (get_or s.threads (suc (number_of s.threads)) blank)) refl
  where
    go : (b : Bool) → exists (get_or s.threads (suc (number_of s.threads)) blank) ≡ b → b ≡ false
    go true e = never (gap (number_of s.threads) e) (at-end s.threads)
    go false e = refl
