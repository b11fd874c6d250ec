-- The survey of any records says exactly what the test of machine/specs/FitTest says of them, for code of fewer than 2 ^ 60 bytes and beside a
-- number of COMMITs of another job that can be counted with its own. Assumes nothing else.
use Prim.Native.Nat.{ℕ, zero, suc, ◌+◌, ◌*◌, ◌≤◌, ◌<◌}
use mathlib.Core.Bool.{Bool, true, false, cond, not, ◌&&◌, ◌||◌}
use mathlib.Core.Path.{◌≡◌, refl, sym, ap, subst, ◌∙◌}
use mathlib.Core.List.{List, [], ◌∷◌, ◌++◌}
use mathlib.Core.Option.{Option, none, some}
use native.Mathlib.Omega.{arith}
use borrow.Author.Tests.{eqb-true, eq-eqb, ltb-true, ltb-false, lt-leb}
use lib.Dec.{eqb, leb, ltb}
use Rattle.stm.specs.Counted.{Table}
use lib.ListN.{length, drop, get_or, take, drop_of_length-le}
use lib.Seq.{drop-cons, take-suc}
use Rattle.thread.specs.declared.Thread.{Thread}
use Rattle.thread.specs.InnerStep.{stale_read, first_stale_in}
use Rattle.thread.proofs.Loops.{first_in}
use Rattle.thread.specs.Threads.{blank, exists, first_stale}
use Rattle.machine.specs.Steps.{State, table_in, thread_at, Child, number_of}
use Rattle.machine.specs.Fits.{Walked, own_code}
use Rattle.machine.specs.FitTest.{walk_to, free, within_from, at_most_from, agrees_with, placed, all_zero, none_behind, in_front, same, passed_by, among, all_among, one_each, commits_passed, needs, all_tallied, fits_beside}
use Rattle.survey.specs.declared.Survey.{Survey}
use Rattle.survey.specs.InnerRecords.{starts_of, ends_of, needs_of, empty_survey, zero_from, tidy, needed_in, need_in, with_to, survey_from, survey_of}
use Rattle.survey.specs.InnerWalk.{own_at, first_verdict, row_at, judge_all, all_asked, all_met, survey_fits}
use Rattle.survey.proofs.Yes.{never, alike, first, second, both, and_yes, and_no}
use Rattle.survey.proofs.Records.{zeros_of, shut, tidy_of, is_tidy}
use Rattle.survey.proofs.Judging.{survey_parts, survey_whole}
use Rattle.survey.proofs.Shows.{tidy_front, at, Shows, shows_start, shows_end, shows_need, survey_shows, survey_good}
use Rattle.survey.proofs.Asking.{asked_among}
use Rattle.survey.proofs.Judges.{agrees, agree_all, AllJudged, all-judged, judged_all}
use Rattle.machine.proofs.Passing.{found_low}
use Rattle.word.specs.InnerCount.{saturated}
use Rattle.word.proofs.Counting.{saturated_exact}
use Rattle.word.specs.Registers.{member}
use Rattle.word.specs.Registers as registers
use Rattle.word.proofs.Sets.{member_none}

-- ---- a thread's record: what needs no code, and what its walk says
shut_by : (t : Thread) (n : ℕ) → t.begin ≡ n → (not (eqb n 0) || (eqb t.reads 0 && eqb t.writes 0)) ≡ shut t
shut_by t n e = ap (λ (b : ℕ). not (eqb b 0) || (eqb t.reads 0 && eqb t.writes 0)) (sym e)

module _ (bytes : List ℕ) (t : Thread) where
  agreed : (o : Option Walked) → agrees_with t o ≡ true → (agrees t o ≡ true) × (shut t ≡ true)
  unfolding registers.none
  agreed none e = never (sym e)
  agreed (some w) e =
      let e1 = second (eqb t.height w.height) _ e in
      let e2 = second (eqb t.begin w.begin) _ e1 in
      let e3 = second (eqb t.base w.base) _ e2 in
      let h : t.height ≡ w.height = eqb-true t.height w.height (first _ _ e) in
      let b : t.begin ≡ w.begin = eqb-true t.begin w.begin (first _ _ e1) in
      let c : t.base ≡ w.base = eqb-true t.base w.base (first _ _ e2) in (
        both (eq-eqb w.height t.height (sym h)) (both (eq-eqb w.begin t.begin (sym b)) (both (eq-eqb w.base t.base (sym c)) (first _ _ e3))),
        sym (shut_by t w.begin b) ∙ second (leb t.over w.adds) _ e3,
      )

  agreeing_back : (o : Option Walked) → agrees t o ≡ true → shut t ≡ true → agrees_with t o ≡ true
  unfolding registers.none
  agreeing_back none e s = never (sym e)
  agreeing_back (some w) e s =
      let e1 = second (eqb w.height t.height) _ e in
      let e2 = second (eqb w.begin t.begin) _ e1 in
      let h : t.height ≡ w.height = sym (eqb-true w.height t.height (first _ _ e)) in
      let b : t.begin ≡ w.begin = sym (eqb-true w.begin t.begin (first _ _ e1)) in
      let c : t.base ≡ w.base = sym (eqb-true w.base t.base (first _ _ e2)) in
      both (eq-eqb t.height w.height h) (both (eq-eqb t.begin w.begin b) (both (eq-eqb t.base w.base c) (both (second (eqb w.base t.base) _ e2) (shut_by t w.begin b ∙ s))))

  placed_parts : placed bytes t ≡ true → (tidy t ≡ true) × (agrees t (walk_to bytes t) ≡ true)
  unfolding placed zero_from
  placed_parts e =
      let a = agreed (walk_to bytes t) (first _ _ e) in
      let e1 = second (agrees_with t (walk_to bytes t)) _ e in
      let e2 = second (free (member t.reads) t.readlog) _ e1 in
      let e3 = second (free (member t.writes) t.writelog) _ e2 in (
        is_tidy t (record { shut = a.1; readlog = first _ _ e1; writelog = first _ _ e2; cells = first _ _ e3; readcounts = second (free (λ n. ltb n t.height) t.cells) _ e3 }),
        a.0,
      )

  parts_placed : tidy t ≡ true → agrees t (walk_to bytes t) ≡ true → placed bytes t ≡ true
  unfolding placed zero_from
  parts_placed y a =
      let z = tidy_of t y in
      both (agreeing_back (walk_to bytes t) a z.shut) (both z.readlog (both z.writelog (both z.cells z.readcounts)))

-- ---- the records one after the other
none_agree : (bytes : List ℕ) (ts : List Thread) → none_behind ts ≡ true → agree_all bytes ts ≡ true
unfolding none_behind agree_all
none_agree bytes [] e = refl
none_agree bytes (t ∷ ts) e =
    let x : not (exists t) ≡ true = ap (λ (b : Bool). not (not b)) (eq-eqb t.start 0 (zeros_of t (first (all_zero t) _ e)).start) in
    both (ap (λ (b : Bool). b || agrees t (walk_to bytes t)) x) (none_agree bytes ts (second (all_zero t) _ e))

front_parts : (bytes : List ℕ) (ts : List Thread) → in_front bytes ts ≡ true → (tidy_front ts ≡ true) × (agree_all bytes ts ≡ true)
unfolding in_front tidy_front agree_all
front_parts bytes [] e = (refl, refl)
front_parts bytes (t ∷ ts) e = go (exists t) refl e (λ f. front_parts bytes ts f)
  where
    go : (b : Bool) → exists t ≡ b → elim b [ true ↦ placed bytes t && in_front bytes ts | false ↦ none_behind (t ∷ ts) ] ≡ true → (in_front bytes ts ≡ true → (tidy_front ts ≡ true) × (agree_all bytes ts ≡ true)) → (elim b [ true ↦ tidy t && tidy_front ts | false ↦ none_behind (t ∷ ts) ] ≡ true) × (((not b || agrees t (walk_to bytes t)) && agree_all bytes ts) ≡ true)
    go true x f ih =
        let p = placed_parts bytes t (first (placed bytes t) _ f) in
        let r = ih (second (placed bytes t) _ f) in
        (both p.0 r.0, both p.1 r.1)
    go false x f ih = (f, second (not (exists t) || agrees t (walk_to bytes t)) _ (none_agree bytes (t ∷ ts) f))

parts_front : (bytes : List ℕ) (ts : List Thread) → tidy_front ts ≡ true → agree_all bytes ts ≡ true → in_front bytes ts ≡ true
unfolding in_front tidy_front agree_all
parts_front bytes [] e a = refl
parts_front bytes (t ∷ ts) e a = go (exists t) e a (λ f g. parts_front bytes ts f g)
  where
    go : (b : Bool) → elim b [ true ↦ tidy t && tidy_front ts | false ↦ none_behind (t ∷ ts) ] ≡ true → ((not b || agrees t (walk_to bytes t)) && agree_all bytes ts) ≡ true → (tidy_front ts ≡ true → agree_all bytes ts ≡ true → in_front bytes ts ≡ true) → elim b [ true ↦ placed bytes t && in_front bytes ts | false ↦ none_behind (t ∷ ts) ] ≡ true
    go true f a ih = both (parts_placed bytes t (first (tidy t) _ f) (first (agrees t (walk_to bytes t)) _ a)) (ih (second (tidy t) _ f) (second (agrees t (walk_to bytes t)) _ a))
    go false f a ih = f

-- ---- what a record needs
need_same : (table : Table) (t : Thread) (n : ℕ) → length table.counts ≡ 64 → n < 18446744073709551615 → leb (need_in table.counts t) n ≡ (leb (needs table t) n && within_from 64 0 t.readcounts table.counts)
unfolding need_in needed_in needs stale_read
need_same table t n wide small =
    ap (λ (b : Bool). leb (cond b (cond within (cond (cond b sought false) (saturated t.backs 1) t.backs) 18446744073709551615) t.backs) n) (eq-eqb (length table.counts) 64 wide)
    ∙ (ap (λ (k : ℕ). leb (cond within (cond (ltb k 64) (saturated t.backs 1) t.backs) 18446744073709551615) n) (first_in 64 0 t table) ∙ all within)
  where
    within : Bool
    within = within_from 64 0 t.readcounts table.counts

    sought : Bool
    sought = ltb (first_stale_in 64 0 t.reads t.readcounts table.counts) 64

    found : Bool
    found = ltb (first_stale 64 0 t table) 64

    one : (c : Bool) → ltb 18446744073709551615 (t.backs + 1) ≡ c → leb (saturated t.backs 1) n ≡ leb (suc t.backs) n
    one true e =
        let l = ltb-true 18446744073709551615 (t.backs + 1) e in
        lt-leb (saturated t.backs 1) n (omega arith) ∙ sym (lt-leb (suc t.backs) n (omega arith))
    one false e =
        let l = ltb-false 18446744073709551615 (t.backs + 1) e in
        let s : saturated t.backs 1 ≡ suc t.backs = omega arith in
        ap (λ (k : ℕ). leb k n) s

    go : (b : Bool) → leb (cond b (saturated t.backs 1) t.backs) n ≡ leb (cond b (suc t.backs) t.backs) n
    go true = one (ltb 18446744073709551615 (t.backs + 1)) refl
    go false = refl

    all : (w : Bool) → leb (cond w (cond found (saturated t.backs 1) t.backs) 18446744073709551615) n ≡ (leb (cond found (suc t.backs) t.backs) n && w)
    all true = go found ∙ and_yes (leb (cond found (suc t.backs) t.backs) n) refl
    all false = lt-leb 18446744073709551615 n small ∙ sym (and_no (leb (cond found (suc t.backs) t.backs) n) refl)

module _ (table : Table) (wide : length table.counts ≡ 64) (ts : List Thread) (long : length ts ≡ 16) (ns : List ℕ) (are : (i : ℕ) → get_or ns i 0 ≡ need_in table.counts (at ts i)) (n : ℕ) (small : n < 18446744073709551615) where
  met_tallied : (left i : ℕ) → i + left ≡ 16 → all_met left i ns n ≡ all_tallied n table (drop i ts)
  unfolding all_met all_tallied
  met_tallied zero i e = ap (all_tallied n table) (sym (drop_of_length-le ts {i = i} (omega arith)))
  met_tallied (suc left) i e =
      ap (λ (k : ℕ). leb k n && all_met left (suc i) ns n) (are i)
      ∙ (ap (λ (b : Bool). b && all_met left (suc i) ns n) (need_same table (at ts i) n wide small)
      ∙ (ap (λ (b : Bool). (leb (needs table (at ts i)) n && within_from 64 0 (at ts i).readcounts table.counts) && b) (met_tallied left (suc i) (omega arith))
      ∙ ap (all_tallied n table) (sym (drop-cons ts i blank (omega arith)))))

-- ---- the whole test
module _ (others : ℕ) (bytes : List ℕ) (ts : List Thread) (table : Table) where
  abbrev state : State
  state = record { registers = table.registers; counts = table.counts; threads = ts }

  abbrev passed : ℕ
  passed = others + commits_passed bytes ts

  abbrev whole : Child
  whole = record { start = 5; end = length bytes }

  record FitParts : Type 0 where
    records : length ts ≡ 16
    registers : length table.registers ≡ 64
    counts : length table.counts ≡ 64
    root : same (own_code (thread_at state 0)) whole ≡ true
    front : in_front bytes ts ≡ true
    children : all_among (passed_by bytes ts) (drop 1 ts) ≡ true
    one : one_each (passed_by bytes ts) ts ≡ true
    tallied : all_tallied passed table ts ≡ true
    most : at_most_from 64 0 table.counts passed ≡ true

  fit_parts : fits_beside others bytes state ≡ true → FitParts
  unfolding fits_beside
  fit_parts e =
      let e1 = second (eqb (length ts) 16) _ e in
      let ec = second (eqb (length table.registers) 64) _ e1 in
      let e2 = second (eqb (length table.counts) 64) _ ec in
      let e3 = second (same (own_code (thread_at state 0)) whole) _ e2 in
      let e4 = second (in_front bytes ts) _ e3 in
      let e5 = second (all_among (passed_by bytes ts) (drop 1 ts)) _ e4 in
      let e6 = second (one_each (passed_by bytes ts) ts) _ e5 in
      record {
        records = eqb-true (length ts) 16 (first _ _ e);
        registers = eqb-true (length table.registers) 64 (first _ _ e1);
        counts = eqb-true (length table.counts) 64 (first _ _ ec);
        root = first _ _ e2;
        front = first _ _ e3;
        children = first _ _ e4;
        one = first _ _ e5;
        tallied = first _ _ e6;
        most = second (all_tallied passed table ts) _ e6;
      }

  parts_fit : FitParts → fits_beside others bytes state ≡ true
  unfolding fits_beside
  parts_fit p =
      both (eq-eqb (length ts) 16 p.records)
      (both (eq-eqb (length table.registers) 64 p.registers)
      (both (eq-eqb (length table.counts) 64 p.counts) (both p.root (both p.front (both p.children (both p.one (both p.tallied p.most)))))))

  abbrev s : Survey
  s = survey_of table.counts ts

  module _ (sh : Shows table.counts ts s) (long : length ts ≡ 16) where
    owns : (i : ℕ) → own_at (starts_of s.rows) (ends_of s.rows) i ≡ own_code (at ts i)
    owns i j = record { start = shows_start sh i j; end = shows_end sh i j }

    judged : (judge_all bytes s).good ≡ true → AllJudged bytes ts long (starts_of s.rows) (ends_of s.rows) owns ts first_verdict (judge_all bytes s)
    unfolding judge_all
    judged g = all-judged bytes ts long (starts_of s.rows) (ends_of s.rows) owns (need_in table.counts) (row_at s) sh.rows 16 0 first_verdict refl g

    members : (judge_all bytes s).good ≡ true → (j : ℕ) → j < 16 → member (judge_all bytes s).asked j ≡ among (own_at (starts_of s.rows) (ends_of s.rows) j) (passed_by bytes ts)
    unfolding first_verdict registers.none
    members g j h = (judged g).all j h ∙ ap (λ (b : Bool). b || among (own_at (starts_of s.rows) (ends_of s.rows) j) (passed_by bytes ts)) (member_none j)

    asked_is : (judge_all bytes s).good ≡ true → all_asked 15 1 (starts_of s.rows) (judge_all bytes s).asked ≡ all_among (passed_by bytes ts) (drop 1 ts)
    asked_is g = asked_among ts long (starts_of s.rows) (ends_of s.rows) owns (passed_by bytes ts) (judge_all bytes s).asked (members g) 15 1 refl

    -- the COMMITs passed, and the records for which they are enough
    commits_are : others + 16 * length bytes < 18446744073709551615 → (judge_all bytes s).good ≡ true → (judge_all bytes s).commits ≡ commits_passed bytes ts
    unfolding first_verdict
    commits_are short g =
        let a : commits_passed bytes ts ≤ 16 * length bytes = subst (λ (n : ℕ). commits_passed bytes ts ≤ n * length bytes) long (found_low bytes ts) in
        (judged g).counts (omega arith) ∙ (let z : 0 + commits_passed bytes ts ≡ commits_passed bytes ts = omega arith in z)

    passed_are : others + 16 * length bytes < 18446744073709551615 → (judge_all bytes s).good ≡ true → saturated others (judge_all bytes s).commits ≡ passed
    passed_are short g =
        let a : commits_passed bytes ts ≤ 16 * length bytes = subst (λ (n : ℕ). commits_passed bytes ts ≤ n * length bytes) long (found_low bytes ts) in
        ap (saturated others) (commits_are short g) ∙ saturated_exact others (commits_passed bytes ts) (omega arith)

    met_is : others + 16 * length bytes < 18446744073709551615 → length table.counts ≡ 64 → (judge_all bytes s).good ≡ true → all_met 16 0 (needs_of s.rows) (saturated others (judge_all bytes s).commits) ≡ all_tallied passed table ts
    met_is short wide g =
        let a : commits_passed bytes ts ≤ 16 * length bytes = subst (λ (n : ℕ). commits_passed bytes ts ≤ n * length bytes) long (found_low bytes ts) in
        ap (all_met 16 0 (needs_of s.rows)) (passed_are short g) ∙ met_tallied table wide ts long (needs_of s.rows) (shows_need sh) passed (omega arith) 16 0 refl

    most_is : others + 16 * length bytes < 18446744073709551615 → (judge_all bytes s).good ≡ true → at_most_from 64 0 table.counts (saturated others (judge_all bytes s).commits) ≡ at_most_from 64 0 table.counts passed
    most_is short g = ap (at_most_from 64 0 table.counts) (passed_are short g)

    root_is : same (own_at (starts_of s.rows) (ends_of s.rows) 0) whole ≡ same (own_code (thread_at state 0)) whole
    root_is = ap (λ (c : Child). same c whole) (owns 0)

  there : others + 16 * length bytes < 18446744073709551615 → survey_fits s bytes (length table.registers) table.counts others ≡ true → fits_beside others bytes state ≡ true
  there short e =
      let p = survey_parts s bytes (length table.registers) table.counts others e in
      let sh = survey_shows table.counts ts p.good in
      let long : length ts ≡ 16 = sym sh.seen ∙ p.seen in
      let j = judged sh long p.judged in
      parts_fit
      (record {
        records = long;
        registers = p.table;
        counts = p.counted;
        root = sym (root_is sh long) ∙ p.root;
        front = parts_front bytes ts sh.front j.agree;
        children = sym (asked_is sh long p.judged) ∙ p.asked;
        one = j.one;
        tallied = sym (met_is sh long short p.counted p.judged) ∙ p.met;
        most = sym (most_is sh long short p.judged) ∙ p.most;
      })

  back : others + 16 * length bytes < 18446744073709551615 → fits_beside others bytes state ≡ true → survey_fits s bytes (length table.registers) table.counts others ≡ true
  unfolding judge_all first_verdict
  back short e =
      let p = fit_parts e in
      let f = front_parts bytes ts p.front in
      let long = p.records in
      let sh = survey_shows table.counts ts (survey_good table.counts ts (omega arith) f.0) in
      let g : (judge_all bytes s).good ≡ true = judged_all bytes ts long (starts_of s.rows) (ends_of s.rows) (owns sh long) (need_in table.counts) (row_at s) sh.rows 16 0 first_verdict refl refl f.1 p.one in
      survey_whole s bytes (length table.registers) table.counts others
      (record {
        good = sh.good;
        seen = sh.seen ∙ long;
        table = p.registers;
        counted = p.counts;
        root = root_is sh long ∙ p.root;
        judged = g;
        asked = asked_is sh long g ∙ p.children;
        met = met_is sh long short p.counts g ∙ p.tallied;
        most = most_is sh long short g ∙ p.most;
      })

-- the survey of any records, any register table, any counts and any code short enough for its COMMITs to be counted says what `fits_beside` says
pub survey-fits : (others : ℕ) (bytes : List ℕ) (s : State) → others + 16 * length bytes < 18446744073709551615 → survey_fits (survey_of s.counts s.threads) bytes (length s.registers) s.counts others ≡ fits_beside others bytes s
survey-fits others bytes s short = alike _ _ (there others bytes s.threads (table_in s) short) (back others bytes s.threads (table_in s) short)

-- a good survey has the number of threads
pub survey_count : (table : List ℕ) (ts : List Thread) → (survey_of table ts).good ≡ true → (survey_of table ts).count ≡ number_of ts
survey_count table ts g = (survey_shows table ts g).count

-- ---- the survey, record after record
from_more : (s : Survey) (table : List ℕ) (ts : List Thread) (t : Thread) → survey_from s table (ts ++ t ∷ []) ≡ with_to (survey_from s table ts) table t
unfolding survey_from
from_more s table [] t = refl
from_more s table (p ∷ ts) t = from_more (with_to s table p) table ts t

pub survey_more : (table : List ℕ) (ts : List Thread) (i : ℕ) → i < length ts → survey_of table (take (suc i) ts) ≡ with_to (survey_of table (take i ts)) table (at ts i)
unfolding survey_of
survey_more table ts i h = ap (survey_of table) (take-suc ts i blank h) ∙ from_more empty_survey table (take i ts) (at ts i)
