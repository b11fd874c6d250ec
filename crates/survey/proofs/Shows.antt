-- What a survey shows of the records that came: it is good exactly if there are at most 16, threads first and tidy and then records of no
-- thread, and it then holds the numbers of each. Assumes nothing.
use Prim.Native.Nat.{ℕ, zero, suc, ◌+◌, ◌≤◌, ◌<◌}
use mathlib.Core.Bool.{Bool, true, false, cond, not, ◌&&◌}
use mathlib.Core.Path.{◌≡◌, refl, sym, ap, subst, ◌∙◌}
use mathlib.Core.List.{List, [], ◌∷◌, ◌++◌, append_assoc, append-nil}
use native.Mathlib.Decide.{dec_lt, ℕ_discrete}
use native.Mathlib.Omega.{arith}
use borrow.Author.Tests.{eqb-false, eqb-true, eq-eqb, ne_eqb, ltb-true, le-leb, not-true}
use lib.Dec.{eqb, ltb}
use lib.ListN.{length, get_or, set, replicate, get_or-replicate, length-append, length-set, get_or-append, get_or-eq_default, get_or-map}
use lib.Seq.{get_or-append_seam, get_or-set_same, get_or-set_other}
use Rattle.thread.specs.declared.Thread.{Thread}
use Rattle.stm.specs.Counted.{Table}
use Rattle.thread.specs.InnerStep.{stale_read, first_stale_in}
use Rattle.thread.specs.Threads.{blank, exists, first_stale}
use Rattle.thread.proofs.Loops.{first_in}
use Rattle.machine.specs.Steps.{number_of}
use Rattle.machine.specs.FitTest.{uncounted_from, uncounted, within_from, all_zero, none_behind}
use Rattle.survey.specs.declared.Survey.{Survey}
use Rattle.survey.specs.declared.Row.{Row}
use Rattle.survey.specs.InnerRecords.{starts_of, ends_of, needs_of, row_of, no_row, empty_survey, unfit_to, pass_to, put_to, tidy, needed_in, need_in, with_to, survey_from, survey_of}
use Rattle.survey.specs.InnerWalk.{row_at}
use Rattle.machine.proofs.Stale.{found_stale, stale_none}
use Rattle.word.specs.InnerCount.{saturated}
use Rattle.word.specs.Registers as registers
use Rattle.survey.proofs.Yes.{never, first, second, both, clash}
use Rattle.survey.proofs.Records.{Zeros, zeros_of, with_bad, with_many, with_blank, with_marred, with_gap, with_untidy, with_put}

-- ---- threads first, each tidy; then records of no thread only
unfoldable pub tidy_front : List Thread → Bool
tidy_front [] = true
tidy_front (t ∷ ts) = elim (exists t) [ true ↦ tidy t && tidy_front ts | false ↦ none_behind (t ∷ ts) ]

abbrev pub at : List Thread → ℕ → Thread
at ts i = get_or ts i blank

abbrev last : Thread → List Thread
last t = t ∷ []

-- one more record behind records of no thread, and behind threads
none_more : (ts : List Thread) (t : Thread) → none_behind ts ≡ true → all_zero t ≡ true → none_behind (ts ++ last t) ≡ true
unfolding none_behind
none_more [] t e z = both z refl
none_more (p ∷ ts) t e z = both (first (all_zero p) _ e) (none_more ts t (second (all_zero p) _ e) z)

tidy_none : (ts : List Thread) (t : Thread) → tidy_front ts ≡ true → exists t ≡ false → all_zero t ≡ true → tidy_front (ts ++ last t) ≡ true
unfolding tidy_front none_behind
tidy_none [] t e x z = rw (x, tidy_front) (both z refl)
tidy_none (p ∷ ts) t e x z = go (exists p) refl e (λ f. tidy_none ts t f x z)
  where
    go : (b : Bool) → exists p ≡ b → elim b [ true ↦ tidy p && tidy_front ts | false ↦ none_behind (p ∷ ts) ] ≡ true → (tidy_front ts ≡ true → tidy_front (ts ++ last t) ≡ true) → elim b [ true ↦ tidy p && tidy_front (ts ++ last t) | false ↦ none_behind (p ∷ (ts ++ last t)) ] ≡ true
    go true y f ih = both (first (tidy p) _ f) (ih (second (tidy p) _ f))
    go false y f ih = none_more (p ∷ ts) t f z

tidy_more : (ts : List Thread) (t : Thread) → tidy_front ts ≡ true → number_of ts ≡ length ts → exists t ≡ true → tidy t ≡ true → tidy_front (ts ++ last t) ≡ true
unfolding tidy_front number_of
tidy_more [] t e n x y = rw (x, tidy_front) (both y refl)
tidy_more (p ∷ ts) t e n x y = go (exists p) refl e n (λ f m. tidy_more ts t f m x y)
  where
    go : (b : Bool) → exists p ≡ b → elim b [ true ↦ tidy p && tidy_front ts | false ↦ none_behind (p ∷ ts) ] ≡ true → cond b (suc (number_of ts)) 0 ≡ suc (length ts) → (tidy_front ts ≡ true → number_of ts ≡ length ts → tidy_front (ts ++ last t) ≡ true) → elim b [ true ↦ tidy p && tidy_front (ts ++ last t) | false ↦ none_behind (p ∷ (ts ++ last t)) ] ≡ true
    go true y f m ih = both (first (tidy p) _ f) (ih (second (tidy p) _ f) (omega arith))
    go false y f m ih = absurd (omega arith)

number_none : (ts : List Thread) (t : Thread) → exists t ≡ false → number_of (ts ++ last t) ≡ number_of ts
unfolding number_of
number_none [] t x = rw x
number_none (p ∷ ts) t x = ap (λ (n : ℕ). cond (exists p) (suc n) 0) (number_none ts t x)

number_more : (ts : List Thread) (t : Thread) → number_of ts ≡ length ts → exists t ≡ true → number_of (ts ++ last t) ≡ suc (length ts)
unfolding number_of
number_more [] t n x = rw x
number_more (p ∷ ts) t n x = go (exists p) n (λ m. number_more ts t m x)
  where
    go : (b : Bool) → cond b (suc (number_of ts)) 0 ≡ suc (length ts) → (number_of ts ≡ length ts → number_of (ts ++ last t) ≡ suc (length ts)) → cond b (suc (number_of (ts ++ last t))) 0 ≡ suc (suc (length ts))
    go true m ih = ap suc (ih (omega arith))
    go false m ih = absurd (omega arith)

-- the records, with one more
at_last : (ts : List Thread) (t : Thread) → at (ts ++ last t) (length ts) ≡ t
at_last ts t = get_or-append_seam ts t [] blank

at_other : (ts : List Thread) (t : Thread) (i : ℕ) → (i ≡ length ts → ⊥) → at (ts ++ last t) i ≡ at ts i
at_other ts t i n = go (dec_lt i (length ts))
  where
    go : Dec (i < length ts) → at (ts ++ last t) i ≡ at ts i
    go (yes l) = get_or-append ts (last t) blank i l
    go (no l) =
        get_or-eq_default (ts ++ last t) blank {n = i} (omega (arith, length-append ts (last t)))
        ∙ sym (get_or-eq_default ts blank {n = i} (omega arith))

-- ---- what a good survey shows
pub record Shows (table : List ℕ) (ts : List Thread) (s : Survey) : Type 0 where
  pub good : s.good ≡ true
  pub seen : s.seen ≡ length ts
  pub few : length ts ≤ 16
  pub count : s.count ≡ number_of ts
  pub front : tidy_front ts ≡ true
  pub rows : (i : ℕ) → row_at s i ≡ row_of (at ts i) (need_in table (at ts i))
  pub long : length s.rows ≡ 16

module _ {table : List ℕ} {ts : List Thread} {s : Survey} (sh : Shows table ts s) (i : ℕ) where
  pub shows_start : get_or (starts_of s.rows) i 0 ≡ (at ts i).start
  shows_start = get_or-map (λ (r : Row). r.start) s.rows i no_row ∙ ap (λ (r : Row). r.start) (sh.rows i)

  pub shows_end : get_or (ends_of s.rows) i 0 ≡ (at ts i).end
  shows_end = get_or-map (λ (r : Row). r.end) s.rows i no_row ∙ ap (λ (r : Row). r.end) (sh.rows i)

  pub shows_need : get_or (needs_of s.rows) i 0 ≡ need_in table (at ts i)
  shows_need = get_or-map (λ (r : Row). r.need) s.rows i no_row ∙ ap (λ (r : Row). r.need) (sh.rows i)

stored : {A : Type 0} (d : A) (xs : List A) (k : ℕ) (v : A) (i : ℕ) → length xs ≡ 16 → k < 16 → i ≡ k → get_or (set xs k v) i d ≡ v
stored d xs k v i n h e = rw e (get_or-set_same xs k v d (omega arith))

set_long : {A : Type 0} (xs : List A) (k : ℕ) (v : A) → length xs ≡ 16 → length (set xs k v) ≡ 16
set_long xs k v n = length-set xs k v ∙ n

-- a record of no thread needs none
within_none : (left v : ℕ) (ns ms : List ℕ) → uncounted_from left v (λ n. false) ns ≡ true → within_from left v ns ms ≡ true
unfolding uncounted_from within_from
within_none zero v ns ms e = refl
within_none (suc left) v ns ms e =
    let z : get_or ns v 0 ≡ 0 = eqb-true (get_or ns v 0) 0 (first (eqb (get_or ns v 0) 0) (uncounted_from left (suc v) (λ n. false) ns) e) in
    both (le-leb (get_or ns v 0) (get_or ms v 0) (omega (arith, z))) (within_none left (suc v) ns ms (second (eqb (get_or ns v 0) 0) (uncounted_from left (suc v) (λ n. false) ns) e))

no_need : (table : List ℕ) (t : Thread) → t.reads ≡ 0 → t.backs ≡ 0 → uncounted (λ v. false) t.readcounts ≡ true → need_in table t ≡ 0
unfolding need_in needed_in stale_read registers.none
no_need table t r b u =
    ap (λ (x : Bool). cond (eqb (length table) 64) (cond x (cond (stale_read table t) (saturated t.backs 1) t.backs) 18446744073709551615) t.backs) (within_none 64 0 t.readcounts table u)
    ∙ go (eqb (length table) 64) (ltb (first_stale_in 64 0 t.reads t.readcounts table) 64) refl
  where
    held : Table
    held = record { registers = []; counts = table }

    go : (x y : Bool) → ltb (first_stale_in 64 0 t.reads t.readcounts table) 64 ≡ y → cond x (cond (cond x y false) (saturated t.backs 1) t.backs) t.backs ≡ 0
    go false y e = b
    go true false e = b
    go true true e =
        let l : first_stale 64 0 t held < 64 = ltb-true (first_stale 64 0 t held) 64 (ap (λ (k : ℕ). ltb k 64) (sym (first_in 64 0 t held)) ∙ e) in
        let f = found_stale t held l in
        never (sym f.its ∙ stale_none t held r (first_stale 64 0 t held))

blank_uncounted : uncounted (λ v. false) blank.readcounts ≡ true
unfolding blank uncounted_from
blank_uncounted = refl

-- one record more
module _ (table : List ℕ) (ts : List Thread) (s : Survey) (sh : Shows table ts s) (t : Thread) where
  more : length (ts ++ last t) ≡ length ts + 1
  more = length-append ts (last t)

  module _ (h : s.seen < 16) where
    room : length ts < 16
    room = omega (arith, sh.seen)

    abbrev put : Survey
    put = put_to s t (need_in table t)

    -- what is kept of each record, with that of one more
    put_each : {A : Type 0} (d : A) (g : Thread → A) (xs : List A) → length xs ≡ 16 → ((i : ℕ) → get_or xs i d ≡ g (at ts i)) → (i : ℕ) → get_or (set xs s.seen (g t)) i d ≡ g (at (ts ++ last t) i)
    put_each {A} d g xs l was i = go (ℕ_discrete i s.seen)
      where
        go : Dec (i ≡ s.seen) → get_or (set xs s.seen (g t)) i d ≡ g (at (ts ++ last t) i)
        go (yes e) = stored d xs s.seen (g t) i l h e ∙ ap g (sym (ap (at (ts ++ last t)) (e ∙ sh.seen) ∙ at_last ts t))
        go (no n) = get_or-set_other xs s.seen i (g t) d n ∙ (was i ∙ ap g (sym (at_other ts t i (λ x. n (x ∙ sym sh.seen)))))

    put_shows : exists t ≡ true → s.count ≡ s.seen → tidy t ≡ true → Shows table (ts ++ last t) put
    unfolding put_to
    put_shows x c y =
        let all : number_of ts ≡ length ts = sym sh.count ∙ (c ∙ sh.seen) in
        record {
          good = sh.good;
          seen = omega (arith, sh.seen, more);
          few = omega (arith, more, room);
          count = omega (arith, sh.count, all, number_more ts t all x);
          front = tidy_more ts t sh.front all x y;
          rows = put_each no_row (λ (u : Thread). row_of u (need_in table u)) s.rows sh.long sh.rows;
          long = set_long s.rows s.seen (row_of t (need_in table t)) sh.long;
        }

    -- a record of no thread changes nothing of it
    pass_each : {A : Type 0} (g : Thread → A) (a : ℕ → A) → g blank ≡ g t → ((i : ℕ) → a i ≡ g (at ts i)) → (i : ℕ) → a i ≡ g (at (ts ++ last t) i)
    pass_each {A} g a z was i = go (ℕ_discrete i (length ts))
      where
        go : Dec (i ≡ length ts) → a i ≡ g (at (ts ++ last t) i)
        go (yes e) =
            let f : at ts i ≡ blank = get_or-eq_default ts blank {n = i} (omega arith) in
            was i ∙ (ap g f ∙ (z ∙ ap g (sym (ap (at (ts ++ last t)) e ∙ at_last ts t))))
        go (no n) = was i ∙ ap g (sym (at_other ts t i n))

    blank_need : Zeros t → need_in table blank ≡ need_in table t
    unfolding blank registers.none
    blank_need z = no_need table blank refl refl blank_uncounted ∙ sym (no_need table t z.reads z.backs z.readcounts)

    blank_row : Zeros t → row_of blank (need_in table blank) ≡ row_of t (need_in table t)
    unfolding blank
    blank_row z = λ j. record { start = sym z.start j; end = sym z.end j; place = sym z.place j; height = sym z.height j; begin = sym z.begin j; base = sym z.base j; over = sym z.over j; need = blank_need z j }

    pass_shows : exists t ≡ false → all_zero t ≡ true → Shows table (ts ++ last t) (pass_to s)
    unfolding pass_to
    pass_shows x z =
        record {
          good = sh.good;
          seen = omega (arith, sh.seen, more);
          few = omega (arith, more, room);
          count = sh.count ∙ sym (number_none ts t x);
          front = tidy_none ts t sh.front x z;
          rows = pass_each (λ (u : Thread). row_of u (need_in table u)) (row_at s) (blank_row (zeros_of t z)) sh.rows;
          long = sh.long;
        }

  unfit_bad : {A : Type 0} → unfit_to s ≡ with_to s table t → (with_to s table t).good ≡ true → A
  unfolding unfit_to
  unfit_bad e g = never (sym g ∙ sym (ap (λ (r : Survey). r.good) e))

  with_shows : (with_to s table t).good ≡ true → Shows table (ts ++ last t) (with_to s table t)
  with_shows g = few (dec_lt s.seen 16)
    where
      blanks : s.seen < 16 → t.start ≡ 0 → (b : Bool) → all_zero t ≡ b → Shows table (ts ++ last t) (with_to s table t)
      blanks h e true z = subst (Shows table (ts ++ last t)) (with_blank s table t sh.good h e z) (pass_shows h (ap not (eq-eqb t.start 0 e)) z)
      blanks h e false z = unfit_bad (with_marred s table t sh.good h e z) g

      tidies : s.seen < 16 → (t.start ≡ 0 → ⊥) → s.count ≡ s.seen → (b : Bool) → tidy t ≡ b → Shows table (ts ++ last t) (with_to s table t)
      tidies h n c true y = subst (Shows table (ts ++ last t)) (with_put s table t sh.good h n c y) (put_shows h (ap not (ne_eqb t.start 0 n)) c y)
      tidies h n c false y = unfit_bad (with_untidy s table t sh.good h n c y) g

      gaps : s.seen < 16 → (t.start ≡ 0 → ⊥) → Dec (s.count ≡ s.seen) → Shows table (ts ++ last t) (with_to s table t)
      gaps h n (yes c) = tidies h n c (tidy t) refl
      gaps h n (no c) = unfit_bad (with_gap s table t sh.good h n c) g

      kinds : s.seen < 16 → Dec (t.start ≡ 0) → Shows table (ts ++ last t) (with_to s table t)
      kinds h (yes e) = blanks h e (all_zero t) refl
      kinds h (no n) = gaps h n (ℕ_discrete s.count s.seen)

      few : Dec (s.seen < 16) → Shows table (ts ++ last t) (with_to s table t)
      few (yes h) = kinds h (ℕ_discrete t.start 0)
      few (no h) = unfit_bad (with_many s table t sh.good (omega arith)) g

-- a survey that is not good stays so
stays : (table : List ℕ) (ts : List Thread) (s : Survey) → s.good ≡ false → (survey_from s table ts).good ≡ false
unfolding survey_from
stays table [] s g = g
stays table (t ∷ ts) s g = stays table ts (with_to s table t) (ap (λ (r : Survey). r.good) (sym (with_bad s table t g)) ∙ g)

-- all the records
from_shows : (table : List ℕ) (ps ts : List Thread) (s : Survey) → Shows table ps s → (survey_from s table ts).good ≡ true → Shows table (ps ++ ts) (survey_from s table ts)
unfolding survey_from
from_shows table ps [] s sh g = subst (λ (l : List Thread). Shows table l s) (sym (append-nil ps)) sh
from_shows table ps (t ∷ ts) s sh g =
    subst (λ (l : List Thread). Shows table l (survey_from (with_to s table t) table ts)) (append_assoc ps (last t) ts)
    (from_shows table (ps ++ last t) ts (with_to s table t) (go (with_to s table t).good refl) g)
  where
    go : (b : Bool) → (with_to s table t).good ≡ b → Shows table (ps ++ last t) (with_to s table t)
    go true e = with_shows table ps s sh t e
    go false e = absurd (clash (stays table ts (with_to s table t) e) g)

empty_shows : (table : List ℕ) → Shows table [] empty_survey
unfolding empty_survey tidy_front number_of blank registers.none
empty_shows table =
    record {
      good = refl;
      seen = refl;
      few = omega arith;
      count = refl;
      front = refl;
      rows = λ i. none no_row i ∙ (λ j. record { start = 0; end = 0; place = 0; height = 0; begin = 0; base = 0; over = 0; need = sym (no_need table blank refl refl blank_uncounted) j });
      long = refl;
    }
  where
    none : {A : Type 0} (d : A) (i : ℕ) → get_or (replicate 16 d) i d ≡ d
    none {A} d i = go (dec_lt i 16)
      where
        go : Dec (i < 16) → get_or (replicate 16 d) i d ≡ d
        go (yes l) = get_or-replicate 16 i d d l
        go (no l) = get_or-eq_default (replicate 16 d) d {n = i} (let n : length (replicate 16 d) ≡ 16 = refl in omega arith)

pub survey_shows : (table : List ℕ) (ts : List Thread) → (survey_of table ts).good ≡ true → Shows table ts (survey_of table ts)
unfolding survey_of
survey_shows table ts g = from_shows table [] ts empty_survey (empty_shows table) g

-- ---- and it is good if the records are so
blank_good : (table : List ℕ) (ts : List Thread) (s : Survey) → s.good ≡ true → s.seen + length ts ≤ 16 → none_behind ts ≡ true → (survey_from s table ts).good ≡ true
unfolding survey_from none_behind pass_to
blank_good table [] s g l e = g
blank_good table (t ∷ ts) s g l e =
    let z : all_zero t ≡ true = first (all_zero t) _ e in
    let w = with_blank s table t g (omega arith) (zeros_of t z).start z in
    subst (λ (r : Survey). (survey_from r table ts).good ≡ true) w (blank_good table ts (pass_to s) g (omega arith) (second (all_zero t) _ e))

tidy_good : (table : List ℕ) (ts : List Thread) (s : Survey) → s.good ≡ true → s.count ≡ s.seen → s.seen + length ts ≤ 16 → tidy_front ts ≡ true → (survey_from s table ts).good ≡ true
unfolding survey_from tidy_front put_to
tidy_good table [] s g c l e = g
tidy_good table (t ∷ ts) s g c l e = go (exists t) refl e (λ f. tidy_good table ts (put_to s t (need_in table t)) g (omega arith) (omega arith) f)
  where
    go : (b : Bool) → exists t ≡ b → elim b [ true ↦ tidy t && tidy_front ts | false ↦ none_behind (t ∷ ts) ] ≡ true → (tidy_front ts ≡ true → (survey_from (put_to s t (need_in table t)) table ts).good ≡ true) → (survey_from (with_to s table t) table ts).good ≡ true
    go true x f ih =
        let n : t.start ≡ 0 → ⊥ = eqb-false t.start 0 (not-true (eqb t.start 0) x) in
        let w = with_put s table t g (omega arith) n c (first (tidy t) _ f) in
        subst (λ (r : Survey). (survey_from r table ts).good ≡ true) w (ih (second (tidy t) _ f))
    go false x f ih = blank_good table (t ∷ ts) s g l f

pub survey_good : (table : List ℕ) (ts : List Thread) → length ts ≤ 16 → tidy_front ts ≡ true → (survey_of table ts).good ≡ true
unfolding survey_of empty_survey
survey_good table ts l e = tidy_good table ts empty_survey refl refl (omega arith) e
