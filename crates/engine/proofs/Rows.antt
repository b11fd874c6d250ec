-- What is known of a record by its type, and that a record of no thread has it. Assumes nothing.
use mathlib.Core.Path.{◌≡◌, refl, sym, subst}
use Prim.Native.Nat.{ℕ, zero, suc, ◌<◌, ◌^◌}
use mathlib.Core.List.{List, [], ◌∷◌}
use lib.Dec.{lit<}
use lib.IntN.{ℤ, pos}
use lib.Signed.{mag}
use lib.ListN.{length, get_or, replicate, get_or-replicate, get_or-eq_default}
use native.Mathlib.Decide.{dec_lt}
use native.Mathlib.Omega.{arith}
use mir.Val.{Val}
use denote.RattleType.{RattleType}
use denote.Shadow.{shadow}
use denote.Array.{each}
use denote.Builtin.{i32, u32}
use denote.Laws.{Is}
use denote.Struct.Laws as LL
use Rattle.thread.specs.contracts.Thread as T
use Rattle.thread.proofs.Thread.TheLaws as T'
use Rattle.thread.specs.declared.Thread.{Thread}
use Rattle.thread.specs.Threads.{blank}
use Rattle.machine.specs.Fits.{TypedThread, RangedThread}
use Rattle.machine.proofs.Placings.{get_d_zeros}
use Rattle.word.specs.Registers as registers
use Rattle.word.specs.Sum.{InRange}
use Rattle.word.proofs.Sums.{fits→range}

-- a number of 32 bits is in range
pub small : (z : ℤ) → mag z < 2 ^ 31 → InRange z
small z h = fits→range (record { sfits = h })

-- the record's row
abbrev pub ThreadR : RattleType
ThreadR = T.the_row

-- each array of a record has 64 entries
pub typed_thread : (t : Thread) (vs : List Val) → Is ThreadR t vs → TypedThread t
typed_thread t vs p =
    let fields = LL.owed T.the_type T'.the_laws t vs p in
    record {
      cells = fields.1.1.1.1.0.1.0.1;
      readlog = fields.1.1.1.1.1.1.1.1.1.0.1.0.1;
      readcounts = fields.1.1.1.1.1.1.1.1.1.1.0.1.0.1;
      writelog = fields.1.1.1.1.1.1.1.1.1.1.1.1.0.1.0.1;
    }

-- each number of an array is in range
in_range : (xs : List ℤ) (us : List Val) → shadow (each ℤ i32.own_val xs us) → (n : ℕ) → InRange (get_or xs n (pos 0))
in_range [] us p n = small (pos 0) (lit< tt)
in_range (x ∷ xs) [] p n = absurd p
in_range (x ∷ xs) (u ∷ us) p zero = small x p.0.1
in_range (x ∷ xs) (u ∷ us) p (suc n) = in_range xs us p.1 n

-- each count of an array is below 2 ^ 32
counts_in_range : (xs : List ℕ) (us : List Val) → shadow (each ℕ u32.own_val xs us) → (n : ℕ) → get_or xs n 0 < 2 ^ 32
counts_in_range [] us p n = lit< tt
counts_in_range (x ∷ xs) [] p n = absurd p
counts_in_range (x ∷ xs) (u ∷ us) p zero = p.0.1
counts_in_range (x ∷ xs) (u ∷ us) p (suc n) = counts_in_range xs us p.1 n

-- each number of a record is in its range
pub ranged_thread : (t : Thread) (vs : List Val) → Is ThreadR t vs → RangedThread t
ranged_thread t vs p =
    let fields = LL.owed T.the_type T'.the_laws t vs p in
    let cells = fields.1.1.1.1.0 in
    let readlog = fields.1.1.1.1.1.1.1.1.1.0 in
    let writelog = fields.1.1.1.1.1.1.1.1.1.1.1.1.0 in
    let readcounts = fields.1.1.1.1.1.1.1.1.1.1.0 in
    record {
      cells = in_range t.cells cells.0 cells.1.1;
      readlog = in_range t.readlog readlog.0 readlog.1.1;
      readcounts = counts_in_range t.readcounts readcounts.0 readcounts.1.1;
      writelog = in_range t.writelog writelog.0 writelog.1.1;
      reads = fields.1.1.1.1.1.1.1.1.0.1;
      writes = fields.1.1.1.1.1.1.1.1.1.1.1.0.1;
      start = fields.0.1;
      end = fields.1.0.1;
      place = fields.1.1.0.1;
      height = fields.1.1.1.0.1;
      begin = fields.1.1.1.1.1.0.1;
      base = fields.1.1.1.1.1.1.0.1;
      over = fields.1.1.1.1.1.1.1.0.1;
      rule = fields.1.1.1.1.1.1.1.1.1.1.1.1.1.0.1;
      backs = fields.1.1.1.1.1.1.1.1.1.1.1.1.1.1.0.1;
    }

-- what is known of a record by its type
pub record Known (t : Thread) : Type 0 where
  pub typed : TypedThread t
  pub ranged : RangedThread t

-- it is known of whoever's relation holds
pub known_thread : (t : Thread) (vs : List Val) → Is ThreadR t vs → Known t
known_thread t vs p = record { typed = typed_thread t vs p; ranged = ranged_thread t vs p }

-- zeros are in range
zeros_in_range : (m n : ℕ) → InRange (get_or (replicate m (pos 0)) n (pos 0))
zeros_in_range m n = subst InRange (sym (get_d_zeros m n)) (small (pos 0) (lit< tt))

no_count : (n : ℕ) → ◌≡◌ {A = ℕ} (get_or (replicate 64 0) n 0) 0
no_count n = go (dec_lt n 64)
  where
    go : Dec (n < 64) → ◌≡◌ {A = ℕ} (get_or (replicate 64 0) n 0) 0
    go (yes l) = get_or-replicate 64 n 0 0 l
    go (no l) = get_or-eq_default (replicate 64 0) 0 {n = n} (let k : length {A = ℕ} (replicate 64 0) ≡ 64 = refl in omega arith)

-- a record of no thread has four arrays of 64 zeros
pub known_blank : Known blank
unfolding blank registers.none
known_blank =
    record {
      typed = record { cells = refl; readlog = refl; writelog = refl; readcounts = refl };
      ranged =
          record {
            cells = zeros_in_range 64;
            readlog = zeros_in_range 64;
            readcounts = λ n. subst (λ (k : ℕ). k < 2 ^ 32) (sym (no_count n)) (lit< tt);
            writelog = zeros_in_range 64;
            reads = lit< tt;
            writes = lit< tt;
            start = lit< tt;
            end = lit< tt;
            place = lit< tt;
            height = lit< tt;
            begin = lit< tt;
            base = lit< tt;
            over = lit< tt;
            rule = lit< tt;
            backs = lit< tt;
          };
    }
