-- The tests of the header, on the job, and what document 02 No. 3's test makes of the answer to the others. Assumes nothing.
use Prim.Native.Nat.{ℕ, ◌≤◌, ◌<◌}
use mathlib.Core.Path.{◌≡◌, refl, sym}
use mathlib.Core.Bool.{true, false, ◌&&◌, and-true}
use mathlib.Core.List.{List, [], ◌∷◌}
use native.Mathlib.Decide.{ℕ_discrete, dec_lt}
use native.Mathlib.Omega.{arith}
use lib.Dec.{eqb, leb}
use lib.ListN.{length, drop}
use borrow.Author.Tests.{lt-ltb, le-ltb, le-leb, lt-leb, eq-eqb, ne_eqb}
use Rattle.job.specs.Answer.{answer}
use Rattle.std.specs.Prelude.{Option, Some, None}
use Rattle.job.proofs.Walk.{accepted_as}
use Rattle.std.specs.List.{starts_with}
use Rattle.std.specs.Ordering.{nat_cmp, is_le}
use Rattle.job.proofs.Long.{unless_long}
use Rattle.script.specs.Jobs.{Job, number16, root}
use Rattle.script.specs.Outcome.{Outcome, refused, done, onward}
use Rattle.script.specs.Reader.{read_nodes, read_tree, short_from, short_only, read_job, job_marked, taken, whole}

-- the mark, as `starts_with` compares it
same_byte : (a b : ℕ) → eqb a b ≡ eqb b a
same_byte a b = go (ℕ_discrete a b)
  where
    go : Dec (a ≡ b) → eqb a b ≡ eqb b a
    go (yes e) = rw (eq-eqb a b e, eq-eqb b a (sym e))
    go (no n) = rw (ne_eqb a b n, ne_eqb b a (λ e. n (sym e)))

pub marked : (job : List ℕ) → 7 ≤ length job → starts_with eqb job (0x57 ∷ 0x53 ∷ 0x4A ∷ []) ≡ job_marked job
unfolding job_marked
marked [] h = absurd (omega arith)
marked (a ∷ []) h = absurd (omega arith)
marked (a ∷ b ∷ []) h = absurd (omega arith)
marked (a ∷ b ∷ c ∷ rest) h = rw (same_byte a 0x57, same_byte b 0x53, same_byte c 0x4A, and-true (eqb 0x4A c))

-- what `contains` compares by
pub order_le : (a b : ℕ) → is_le (nat_cmp a b) ≡ leb a b
order_le a b = go (dec_lt a b) (ℕ_discrete a b)
  where
    go : Dec (a < b) → Dec (a ≡ b) → is_le (nat_cmp a b) ≡ leb a b
    go (yes l) d = rw (lt-ltb a b l, le-leb a b (omega arith)) refl
    go (no l) (yes e) = rw (le-ltb a b (omega arith), eq-eqb a b e, le-leb a b (omega arith)) refl
    go (no l) (no n) = rw (le-ltb a b (omega arith), ne_eqb a b n, lt-leb a b (omega arith)) refl

module _ (job : List ℕ) where
  pub cut : length job < 7 → refused 1 (length job) ≡ answer (read_job job)
  unfolding read_job read_tree
  cut h = rw (lt-ltb (length job) 7 h)

  module _ (long : 7 ≤ length job) where
    pub bad_mark : job_marked job ≡ false → refused 2 0 ≡ answer (read_job job)
    unfolding read_job read_tree
    bad_mark e = rw (le-ltb (length job) 7 long, e)

    module _ (mark : job_marked job ≡ true) where
      pub bad_version : (number16 job 3 ≡ 1 → ⊥) → refused 3 3 ≡ answer (read_job job)
      unfolding read_job read_tree taken
      bad_version n = rw (le-ltb (length job) 7 long, mark, ne_eqb (number16 job 3) 1 n)

      module _ (version : number16 job 3 ≡ 1) where
        pub bad_count : (leb 1 (number16 job 5) && leb (number16 job 5) 1000) ≡ false → refused 4 5 ≡ answer (read_job job)
        unfolding read_job read_tree taken
        bad_count e = rw (le-ltb (length job) 7 long, mark, eq-eqb (number16 job 3) 1 version, e)

        pub passed : (leb 1 (number16 job 5) && leb (number16 job 5) 1000) ≡ true → answer (onward (whole (number16 job 3) (read_nodes (number16 job 5) root 0 7 (drop 7 job))) short_only) ≡ answer (read_job job)
        unfolding read_job read_tree taken
        passed e = rw (le-ltb (length job) 7 long, mark, eq-eqb (number16 job 3) 1 version, e)

-- ---- behind document 01's tests, by the answer to them

was_read : (o : Outcome Job) (version code : ℕ) → done (accepted_as version code) ≡ answer o → (j : Job) × (o ≡ done j)
was_read (refused n p) version code e = absurd (let z : ◌≡◌ {A = ℕ} 0 1 = cc in omega arith)
was_read (done j) version code e = (j, refl)

pub was_refused : (o : Outcome Job) (number place : ℕ) → answer o ≡ refused number place → o ≡ refused number place
was_refused (refused n p) number place e = cc
was_refused (done j) number place e = absurd (let z : ◌≡◌ {A = ℕ} 0 1 = cc in omega arith)

module _ (o : Outcome Job) where
  pub refused_at_once : (number place : ℕ) → refused number place ≡ answer o → refused number place ≡ answer (onward o short_only)
  refused_at_once number place e = rw (was_refused o number place (sym e))

  module _ (version code : ℕ) (n : Option ℕ) (accepted : done (accepted_as version code) ≡ answer o) (told : (j : Job) → o ≡ done j → short_from 7 j.tree ≡ unless_long n) where
    pub long_answer : (place : ℕ) → n ≡ Some place → refused 14 place ≡ answer (onward o short_only)
    long_answer place e =
        let w = was_read o version code accepted in
        rw (w.1, told w.0 w.1, e)

    pub short_answer : n ≡ None → done (accepted_as version code) ≡ answer (onward o short_only)
    short_answer e =
        let w = was_read o version code accepted in
        let a : done (accepted_as version code) ≡ answer (done w.0) = rw w.1 at accepted in
        rw (w.1, told w.0 w.1, e) a
