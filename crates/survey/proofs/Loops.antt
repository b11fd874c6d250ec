-- One turn of each loop over records or over numbers. Assumes nothing.
use Prim.Native.Nat.{ℕ, zero, suc, ◌+◌, ◌-◌, ◌≤◌, ◌<◌}
use mathlib.Core.Bool.{Bool, true, false, ◌&&◌, ◌||◌}
use mathlib.Core.Path.{◌≡◌, refl, sym, ap, ◌∙◌}
use mathlib.Core.List.{List, [], ◌∷◌}
use native.Mathlib.Numerals.{add-one}
use native.Mathlib.Omega.{arith}
use lib.Dec.{eqb, leb}
use lib.IntN.{ℤ, pos}
use lib.ListN.{length, drop, get_or, get_or-map, drop_of_length-le}
use lib.Seq.{drop-cons}
use Rattle.std.specs.List.{list_all, enumerate_from}
use Rattle.machine.specs.Steps.{Child}
use Rattle.std.proofs.Math.Bool.{and_assoc, and-true}
use Rattle.machine.specs.FitTest.{free, free_from, is_zero, same, uncounted, uncounted_from, within_from, at_most_from}
use Rattle.survey.specs.InnerRecords.{every, needs_of, starts_of, no_row}
use Rattle.survey.specs.declared.Row.{Row}
use Rattle.survey.specs.declared.Asked.{Asked}
use Rattle.survey.specs.InnerWalk.{Finding, own_at, noted, asks, judge_to, judge_from, all_asked, all_met}
use Rattle.survey.proofs.Judging.{judge_bad}
use Rattle.word.specs.Registers.{member}

-- how many are left
fewer : (n i : ℕ) → i < n → n - i ≡ suc (n - (i + 1))
fewer n i h = omega arith

none_left : (n i : ℕ) → n ≤ i → n - i ≡ 0
none_left n i h = omega arith

-- ---- a test at each of 64 places
module _ (good : ℕ → Bool) where
  every_next : (v : ℕ) → v < 64 → every (64 - v) v good ≡ (good v && every (64 - (v + 1)) (v + 1) good)
  unfolding every
  every_next v h =
      ap (λ (k : ℕ). every k v good) (fewer 64 v h) ∙ ap (λ (i : ℕ). good v && every (64 - (v + 1)) i good) (sym (add-one v))

  pub every_more : (v : ℕ) (held b : Bool) → v < 64 → b ≡ good v → ((held && b) && every (64 - (v + 1)) (v + 1) good) ≡ (held && every (64 - v) v good)
  every_more v held b h e = rw (e, and_assoc) (sym (ap (held &&◌) (every_next v h)))

  pub every_done : (v : ℕ) (held : Bool) → 64 ≤ v → held ≡ (held && every (64 - v) v good)
  unfolding every
  every_done v held h = sym (ap (λ (k : ℕ). held && every k v good) (none_left 64 v h) ∙ and-true held)

  -- a definition that goes on in the same way is the same test
  every_as : (all : (left v : ℕ) → Bool) → ((v : ℕ) → all zero v ≡ true) → ((left v : ℕ) → all (suc left) v ≡ (good v && all left (suc v))) → (left v : ℕ) → every left v good ≡ all left v
  unfolding every
  every_as all last next zero v = sym (last v)
  every_as all last next (suc left) v = ap (good v &&◌) (every_as all last next left (suc v)) ∙ sym (next left v)

-- numbers that are 0 where they are not in use
abbrev pub kept : (ℕ → Bool) → List ℤ → ℕ → Bool
kept used ns v = used v || is_zero (get_or ns v (pos 0))

pub every_kept : (used : ℕ → Bool) (ns : List ℤ) → every 64 0 (kept used ns) ≡ free used ns
unfolding free_from
every_kept used ns = every_as (kept used ns) (λ left v. free_from left v used ns) (λ v. refl) (λ left v. refl) 64 0

abbrev pub count_kept : (ℕ → Bool) → List ℕ → ℕ → Bool
count_kept used ns v = used v || eqb (get_or ns v 0) 0

pub every_counted : (used : ℕ → Bool) (ns : List ℕ) → every 64 0 (count_kept used ns) ≡ uncounted used ns
unfolding uncounted_from
every_counted used ns = every_as (count_kept used ns) (λ left v. uncounted_from left v used ns) (λ v. refl) (λ left v. refl) 64 0

abbrev pub not_ahead : (ns ms : List ℕ) → ℕ → Bool
not_ahead ns ms v = leb (get_or ns v 0) (get_or ms v 0)

pub every_within : (ns ms : List ℕ) → every 64 0 (not_ahead ns ms) ≡ within_from 64 0 ns ms
unfolding within_from
every_within ns ms = every_as (not_ahead ns ms) (λ left v. within_from left v ns ms) (λ v. refl) (λ left v. refl) 64 0

abbrev pub not_above : List ℕ → (most : ℕ) → ℕ → Bool
not_above ns most v = leb (get_or ns v 0) most

pub every_most : (ns : List ℕ) (most : ℕ) → every 64 0 (not_above ns most) ≡ at_most_from 64 0 ns most
unfolding at_most_from
every_most ns most = every_as (not_above ns most) (λ left v. at_most_from left v ns most) (λ v. refl) (λ left v. refl) 64 0

-- ---- threads that were asked for
module _ (rows : List Row) (asked : ℕ) where
  abbrev pub wanted : ℕ × Row → Bool
  wanted p = eqb p.1.start 0 || member asked p.0

  asked_from : (left i : ℕ) → i + left ≡ length rows → all_asked left i (starts_of rows) asked ≡ list_all wanted (enumerate_from i (drop i rows))
  unfolding all_asked
  asked_from zero i e = rw (drop_of_length-le rows {i = i} (omega arith))
  asked_from (suc left) i e =
      ap (λ (n : ℕ). (eqb n 0 || member asked i) && all_asked left (suc i) (starts_of rows) asked) (get_or-map (λ (r : Row). r.start) rows i no_row)
      ∙ (ap (wanted (i, get_or rows i no_row) &&◌) (asked_from left (suc i) (omega arith))
      ∙ (ap (λ (j : ℕ). wanted (i, get_or rows i no_row) && list_all wanted (enumerate_from j (drop (suc i) rows))) (sym (add-one i))
      ∙ ap (λ (l : List Row). list_all wanted (enumerate_from i l)) (sym (drop-cons rows i no_row (omega arith)))))

  pub asked_by_all : length rows ≡ 16 → all_asked 15 1 (starts_of rows) asked ≡ list_all wanted (drop 1 (enumerate_from 0 rows))
  asked_by_all h = asked_from 15 1 (sym h) ∙ ap (list_all wanted) (skipped rows)
    where
      skipped : (l : List Row) → enumerate_from 1 (drop 1 l) ≡ drop 1 (enumerate_from 0 l)
      skipped [] = refl
      skipped (r ∷ l) = refl

-- ---- records for which the COMMITs passed are enough
module _ (rows : List Row) (commits : ℕ) where
  abbrev pub enough : Row → Bool
  enough r = leb r.need commits

  met_from : (left i : ℕ) → i + left ≡ length rows → all_met left i (needs_of rows) commits ≡ list_all enough (drop i rows)
  unfolding all_met
  met_from zero i e = rw (drop_of_length-le rows {i = i} (omega arith))
  met_from (suc left) i e =
      ap (λ (n : ℕ). leb n commits && all_met left (suc i) (needs_of rows) commits) (get_or-map (λ (r : Row). r.need) rows i no_row)
      ∙ (ap (enough (get_or rows i no_row) &&◌) (met_from left (suc i) (omega arith))
      ∙ ap (list_all enough) (sym (drop-cons rows i no_row (omega arith))))

  pub met_by_all : length rows ≡ 16 → all_met 16 0 (needs_of rows) commits ≡ list_all enough rows
  met_by_all h = met_from 16 0 (sym h)

-- ---- records that have a child code
noted_few : (a : Asked) (i : ℕ) (hit : Bool) → a.number ≤ i → (noted a i hit).number ≤ i + 1
unfolding noted
noted_few a i true h = omega arith
noted_few a i false h = omega arith

module _ (starts ends : List ℕ) (c : Child) where
  abbrev pub asks_at : ℕ → Asked → Asked
  asks_at i a = asks (16 - i) i starts ends c a

  pub asks_again : (i : ℕ) (a : Asked) → i < 16 → asks_at (i + 1) (noted a i (same (own_at starts ends i) c)) ≡ asks_at i a
  unfolding asks
  asks_again i a h =
      ap (λ (j : ℕ). asks (16 - (i + 1)) j starts ends c (noted a i (same (own_at starts ends i) c))) (add-one i)
      ∙ sym (ap (λ (k : ℕ). asks k i starts ends c a) (fewer 16 i h))

  pub asks_done : (i : ℕ) (a : Asked) → 16 ≤ i → asks_at i a ≡ a
  unfolding asks
  asks_done i a h = ap (λ (k : ℕ). asks k i starts ends c a) (none_left 16 i h)

  pub asks_turn : (i : ℕ) (a₀ a r : Asked) (hit : Bool) → i < 16 → hit ≡ same (own_at starts ends i) c → r ≡ noted a i hit → a.number ≤ i → asks_at i a ≡ asks_at 0 a₀ → (r.number ≤ i + 1) × (asks_at (i + 1) r ≡ asks_at 0 a₀)
  asks_turn i a₀ a r hit h e f n inv =
      let g : r ≡ noted a i (same (own_at starts ends i) c) = f ∙ ap (noted a i) e in
      (rw g (noted_few a i (same (own_at starts ends i) c) n), ap (asks_at (i + 1)) g ∙ (asks_again i a h ∙ inv))

-- ---- the threads
module _ (bytes starts ends : List ℕ) (rows : ℕ → Row) where
  abbrev pub judge_at : ℕ → Finding → Finding
  judge_at i v = judge_from bytes starts ends rows (16 - i) i v

  pub judge_again : (i : ℕ) (v r : Finding) → i < 16 → r ≡ judge_to bytes starts ends (rows i) v → judge_at (i + 1) r ≡ judge_at i v
  unfolding judge_from
  judge_again i v r h e =
      ap (judge_at (i + 1)) e
      ∙ (ap (λ (j : ℕ). judge_from bytes starts ends rows (16 - (i + 1)) j (judge_to bytes starts ends (rows i) v)) (add-one i)
      ∙ sym (ap (λ (k : ℕ). judge_from bytes starts ends rows k i v) (fewer 16 i h)))

  pub judge_done : (i : ℕ) (v : Finding) → 16 ≤ i → judge_at i v ≡ v
  unfolding judge_from
  judge_done i v h = ap (λ (k : ℕ). judge_from bytes starts ends rows k i v) (none_left 16 i h)

  judge_fixed : (left i : ℕ) (v : Finding) → v.good ≡ false → judge_from bytes starts ends rows left i v ≡ v
  unfolding judge_from
  judge_fixed zero i v g = refl
  judge_fixed (suc left) i v g =
      ap (judge_from bytes starts ends rows left (suc i)) (sym (judge_bad bytes starts ends (rows i) v g)) ∙ judge_fixed left (suc i) v g

  -- behind a thread that does not fit nothing changes
  pub judge_stays : (i : ℕ) (v : Finding) → v.good ≡ false → v ≡ judge_at i v
  judge_stays i v g = sym (judge_fixed (16 - i) i v g)
