-- The loops over the registers that a set marks, by the list of them; and that they are those of the definitions. Assumes nothing.
use Rattle.std.proofs.Common.{◌≡◌, ℕ, zero, suc, ◌+◌, ◌^◌, ◌≤◌, ◌<◌, Bool, true, false, cond, not, List, Option, Some, None, get_or, set, eqb, ltb, min, find, refl, sym, ap, ◌∙◌, add-one, arith}
use Rattle.std.specs.List.{filter, fold, range_with_len}
use Rattle.std.proofs.lemmas.Bool.Decides.{nat_tests}
use borrow.Author.Tests.{lt-ltb, le-ltb, ltb-true, ltb-false}
use lib.IntN.{ℤ, pos}
use Rattle.stm.specs.Counted.{Table}
use Rattle.thread.specs.declared.Thread.{Thread}
use Rattle.thread.specs.Threads.{stale, first_stale, overlaid}
use Rattle.thread.specs.InnerStep.{stale_in, first_stale_in, found_at, stored_in, recounted_in, risen_by}
use Rattle.word.specs.Registers.{member, members}

-- ---- the first stale register
-- whether commits have written a register since it was logged
abbrev pub differs : (readcounts counts : List ℕ) → ℕ → Bool
differs readcounts counts v = not (eqb (get_or readcounts v 0) (get_or counts v 0))

-- it is the first of the read log's that differs
module _ (reads : ℕ) (readcounts counts : List ℕ) where
  found_from : (n a : ℕ) → a + n ≡ 64 → find (differs readcounts counts) (filter (member reads) (range_with_len a n)) ≡ found_at (first_stale_in n a reads readcounts counts)
  unfolding first_stale_in stale_in
  found_from zero a e = rw (le-ltb a 64 (omega arith))
  found_from (suc n) a e = go (member reads a) refl (eqb (get_or readcounts a 0) (get_or counts a 0)) refl (rw (sym (add-one a)) (found_from n (a + 1) (omega arith)))
    where
      go : (m : Bool) → member reads a ≡ m → (d : Bool) → eqb (get_or readcounts a 0) (get_or counts a 0) ≡ d
          → find (differs readcounts counts) (filter (member reads) (range_with_len (a + 1) n)) ≡ found_at (first_stale_in n (suc a) reads readcounts counts)
          → find (differs readcounts counts) (filter (member reads) (range_with_len a (suc n))) ≡ found_at (first_stale_in (suc n) a reads readcounts counts)
      go false f d g later = rw (f, first_stale_in) later
      go true f true g later = rw (f, g, first_stale_in) later
      go true f false g later = rw (f, g, first_stale_in, lt-ltb a 64 (omega arith))

  pub found_first : find (differs readcounts counts) (members reads) ≡ found_at (first_stale_in 64 0 reads readcounts counts)
  unfolding members
  found_first = found_from 64 0 refl

pub found_is : (v w : ℕ) → ◌≡◌ {A = Option ℕ} (Some v) (found_at w) → (w ≡ v) × (w < 64)
found_is v w e = go (ltb w 64) refl e
  where
    go : (b : Bool) → ltb w 64 ≡ b → ◌≡◌ {A = Option ℕ} (Some v) (cond b (Some w) None) → (w ≡ v) × (w < 64)
    go true q e = (cc, ltb-true w 64 q)
    go false q e = absurd (cc)

pub none_is : (w : ℕ) → ◌≡◌ {A = Option ℕ} None (found_at w) → 64 ≤ w
none_is w e = go (ltb w 64) refl e
  where
    go : (b : Bool) → ltb w 64 ≡ b → ◌≡◌ {A = Option ℕ} None (cond b (Some w) None) → 64 ≤ w
    go true q e = absurd (cc)
    go false q e = ltb-false w 64 q

pub first_in : (left v : ℕ) (t : Thread) (table : Table) → first_stale_in left v t.reads t.readcounts table.counts ≡ first_stale left v t table
unfolding first_stale first_stale_in stale stale_in
first_in zero v t table = refl
first_in (suc left) v t table = go (stale t table v) (first_in left (suc v) t table)
  where
    go : (b : Bool) → first_stale_in left (suc v) t.reads t.readcounts table.counts ≡ first_stale left (suc v) t table → ◌≡◌ {A = ℕ} (elim b [ true ↦ v | false ↦ first_stale_in left (suc v) t.reads t.readcounts table.counts ]) (elim b [ true ↦ v | false ↦ first_stale left (suc v) t table ])
    go true e = refl
    go false e = e

-- ---- the write log into the table
module _ (writes : ℕ) (writelog : List ℤ) where
  -- the table with the registers of a list stored
  abbrev pub storing : List ℤ → ℕ → List ℤ
  storing table v = set table v (get_or writelog v (pos 0))

  stored_from : (n a : ℕ) (table : List ℤ) → fold storing table (filter (member writes) (range_with_len a n)) ≡ stored_in n a writes writelog table
  unfolding stored_in
  stored_from zero a table = refl
  stored_from (suc n) a table = go (member writes a) refl (λ t. stored_from n (a + 1) t ∙ ap (λ (b : ℕ). stored_in n b writes writelog t) (add-one a))
    where
      go : (m : Bool) → member writes a ≡ m → ((t : List ℤ) → fold storing t (filter (member writes) (range_with_len (a + 1) n)) ≡ stored_in n (suc a) writes writelog t)
          → fold storing table (filter (member writes) (range_with_len a (suc n))) ≡ stored_in (suc n) a writes writelog table
      go true f later = rw f (later _)
      go false f later = rw f (later _)

  pub stored_all : (table : List ℤ) → fold storing table (members writes) ≡ stored_in 64 0 writes writelog table
  unfolding members
  stored_all = stored_from 64 0

pub stored-in : (left v : ℕ) (t : Thread) (table : List ℤ) → stored_in left v t.writes t.writelog table ≡ overlaid left v t table
unfolding stored_in overlaid
stored-in zero v t table = refl
stored-in (suc left) v t table = stored-in left (suc v) t _

-- ---- the counts of the write log's registers
-- the counts with one more for a register
abbrev pub recounting : List ℕ → ℕ → List ℕ
recounting counts v = set counts v (risen_by (get_or counts v 0))

module _ (writes : ℕ) where
  recounted_from : (n a : ℕ) (counts : List ℕ) → fold recounting counts (filter (member writes) (range_with_len a n)) ≡ recounted_in n a writes counts
  unfolding recounted_in
  recounted_from zero a counts = refl
  recounted_from (suc n) a counts = go (member writes a) refl (λ t. recounted_from n (a + 1) t ∙ ap (λ (b : ℕ). recounted_in n b writes t) (add-one a))
    where
      go : (m : Bool) → member writes a ≡ m → ((t : List ℕ) → fold recounting t (filter (member writes) (range_with_len (a + 1) n)) ≡ recounted_in n (suc a) writes t)
          → fold recounting counts (filter (member writes) (range_with_len a (suc n))) ≡ recounted_in (suc n) a writes counts
      go true f later = rw f (later _)
      go false f later = rw f (later _)

  pub recounted_all : (counts : List ℕ) → fold recounting counts (members writes) ≡ recounted_in 64 0 writes counts
  unfolding members
  recounted_all = recounted_from 64 0

-- one more by the greatest count
pub risen_min : (n : ℕ) → n < 2 ^ 32 → min (n + 1) 4294967295 ≡ risen_by n
unfolding risen_by
risen_min n l = grind (arith, nat_tests)
