-- What `judge_to` is in each branch, and the parts of `survey_fits`. Assumes nothing.
use Prim.Native.Nat.{ℕ}
use mathlib.Core.Bool.{Bool, true, false, ◌&&◌}
use mathlib.Core.Path.{◌≡◌, refl, sym, ap, ◌∙◌}
use Rattle.std.specs.Prelude as std
use Rattle.survey.specs.declared.Verdict.{Verdict}
use mathlib.Core.List.{List}
use borrow.Author.Tests.{eqb-true, eq-eqb, ne_eqb}
use lib.Dec.{eqb}
use lib.ListN.{length, get_or, get_or-map}
use Rattle.machine.specs.FitTest.{same, at_most_from}
use Rattle.survey.specs.declared.Survey.{Survey}
use Rattle.survey.specs.declared.Row.{Row}
use Rattle.survey.specs.InnerRecords.{no_row, starts_of, ends_of, needs_of}
use Rattle.survey.specs.InnerWalk.{Trail, Finding, known, verdict_in, own_at, walk_from, agreeing, unfit, judged_by, judge_to, judge_all, all_asked, all_met, survey_fits}
use Rattle.word.specs.InnerCount.{saturated}
use Rattle.survey.proofs.Yes.{first, second, both, when_true, when_false}

module _ (bytes starts ends : List ℕ) (r : Row) (v : Finding) where
  pub judge_bad : v.good ≡ false → v ≡ judge_to bytes starts ends r v
  unfolding judge_to
  judge_bad g = when_false v.good _ v g

  module _ (g : v.good ≡ true) where
    pub judge_none : r.start ≡ 0 → v ≡ judge_to bytes starts ends r v
    unfolding judge_to
    judge_none e = when_true _ v _ (eq-eqb r.start 0 e) ∙ when_true v.good _ v g

    module _ (n : r.start ≡ 0 → ⊥) (w : Trail) (e : w ≡ walk_from bytes starts ends r.start r.end r.place v.asked) where
      judge-by : judged_by v.commits r w ≡ judge_to bytes starts ends r v
      unfolding judge_to
      judge-by = ap (judged_by v.commits r) e ∙ (when_false _ v _ (ne_eqb r.start 0 n) ∙ when_true v.good _ v g)

      pub judge_differs : agreeing w r ≡ false → unfit ≡ judge_to bytes starts ends r v
      unfolding judged_by
      judge_differs f = when_false (agreeing w r) _ unfit f ∙ judge-by

      pub judge_agrees : agreeing w r ≡ true → (n : ℕ) → n ≡ saturated v.commits w.commits → record { asked = w.asked; commits = n; good = true } ≡ judge_to bytes starts ends r v
      unfolding judged_by
      judge_agrees f n q = ap (λ (k : ℕ). record { asked = w.asked; commits = k; good = true }) q ∙ (when_true (agreeing w r) _ unfit f ∙ judge-by)

-- threads of which one does not fit, and threads that fit
pub none_fit : (v : Finding) → verdict_in v ≡ std.None → v.good ≡ false
none_fit v e = go v.good refl
  where
    go : (b : Bool) → v.good ≡ b → v.good ≡ false
    go true g = absurd (let f = rw g at e in cc)
    go false g = g

pub some_known : (v : Finding) (w : Verdict) → verdict_in v ≡ std.Some w → v ≡ known w
some_known v w e = go v.good refl
  where
    kept : Verdict
    kept = record { asked = v.asked; commits = v.commits }

    go : (b : Bool) → v.good ≡ b → v ≡ known w
    go true g =
        let f : std.Some kept ≡ std.Some w = rw g at e in
        let k : kept ≡ w = cc in
        (λ i. record { asked = v.asked; commits = v.commits; good = g i }) ∙ ap known k
    go false g = absurd (let f = rw g at e in cc)

pub not_there : (w : Trail) (r : Row) → w.good ≡ false → agreeing w r ≡ false
unfolding agreeing
not_there w r g = rw g

-- ---- the whole test
pub record SurveyFits (s : Survey) (bytes : List ℕ) (registers : ℕ) (counts : List ℕ) (others : ℕ) : Type 0 where
  pub good : s.good ≡ true
  pub seen : s.seen ≡ 16
  pub table : registers ≡ 64
  pub counted : length counts ≡ 64
  pub root : same (own_at (starts_of s.rows) (ends_of s.rows) 0) (record { start = 5; end = length bytes }) ≡ true
  pub judged : (judge_all bytes s).good ≡ true
  pub asked : all_asked 15 1 (starts_of s.rows) (judge_all bytes s).asked ≡ true
  pub met : all_met 16 0 (needs_of s.rows) (saturated others (judge_all bytes s).commits) ≡ true
  pub most : at_most_from 64 0 counts (saturated others (judge_all bytes s).commits) ≡ true

module _ (s : Survey) (bytes : List ℕ) (registers : ℕ) (counts : List ℕ) (others : ℕ) where
  pub survey_parts : survey_fits s bytes registers counts others ≡ true → SurveyFits s bytes registers counts others
  unfolding survey_fits
  survey_parts e =
      let e1 = second s.good _ e in
      let e2 = second (eqb s.seen 16) _ e1 in
      let e3 = second (eqb registers 64) _ e2 in
      let ec = second (eqb (length counts) 64) _ e3 in
      let e4 = second (same (own_at (starts_of s.rows) (ends_of s.rows) 0) (record { start = 5; end = length bytes })) _ ec in
      let e5 = second ((judge_all bytes s).good && all_asked 15 1 (starts_of s.rows) (judge_all bytes s).asked) _ e4 in
      record {
        good = first _ _ e;
        seen = eqb-true s.seen 16 (first _ _ e1);
        table = eqb-true registers 64 (first _ _ e2);
        counted = eqb-true (length counts) 64 (first _ _ e3);
        root = first _ _ ec;
        judged = first _ _ (first _ _ e4);
        asked = second (judge_all bytes s).good _ (first _ _ e4);
        met = first _ _ e5;
        most = second (all_met 16 0 (needs_of s.rows) (saturated others (judge_all bytes s).commits)) _ e5;
      }

  pub survey_whole : SurveyFits s bytes registers counts others → survey_fits s bytes registers counts others ≡ true
  unfolding survey_fits
  survey_whole p =
      both p.good
      (both (eq-eqb s.seen 16 p.seen)
      (both (eq-eqb registers 64 p.table)
      (both (eq-eqb (length counts) 64 p.counted) (both p.root (both (both p.judged p.asked) (both p.met p.most))))))

  -- what is left of it once the threads fit
  pub survey_rest : s.good ≡ true → s.seen ≡ 16 → registers ≡ 64 → length counts ≡ 64 → same (own_at (starts_of s.rows) (ends_of s.rows) 0) (record { start = 5; end = length bytes }) ≡ true → (v : Verdict) → judge_all bytes s ≡ known v → survey_fits s bytes registers counts others ≡ (all_asked 15 1 (starts_of s.rows) v.asked && (all_met 16 0 (needs_of s.rows) (saturated others v.commits) && at_most_from 64 0 counts (saturated others v.commits)))
  unfolding survey_fits
  survey_rest g n r c o v e =
      (λ i. g i && (eq-eqb s.seen 16 n i && (eq-eqb registers 64 r i && (eq-eqb (length counts) 64 c i && (o i && rest (judge_all bytes s)))))) ∙ ap rest e
    where
      rest : Finding → Bool
      rest x = (x.good && all_asked 15 1 (starts_of s.rows) x.asked) && (all_met 16 0 (needs_of s.rows) (saturated others x.commits) && at_most_from 64 0 counts (saturated others x.commits))

  -- thread 0 has the whole code
  abbrev first_row : Row
  first_row = get_or s.rows 0 no_row

  pub root_start : same (own_at (starts_of s.rows) (ends_of s.rows) 0) (record { start = 5; end = length bytes }) ≡ true → first_row.start ≡ 5
  root_start o = sym (get_or-map (λ (r : Row). r.start) s.rows 0 no_row) ∙ eqb-true _ 5 (first _ _ o)

  pub root_end : same (own_at (starts_of s.rows) (ends_of s.rows) 0) (record { start = 5; end = length bytes }) ≡ true → first_row.end ≡ length bytes
  root_end o = sym (get_or-map (λ (r : Row). r.end) s.rows 0 no_row) ∙ eqb-true _ (length bytes) (second (eqb (get_or (starts_of s.rows) 0 0) 5) _ o)

  pub root_whole : first_row.start ≡ 5 → first_row.end ≡ length bytes → same (own_at (starts_of s.rows) (ends_of s.rows) 0) (record { start = 5; end = length bytes }) ≡ true
  root_whole a b =
      both (eq-eqb _ 5 (get_or-map (λ (r : Row). r.start) s.rows 0 no_row ∙ a)) (eq-eqb _ (length bytes) (get_or-map (λ (r : Row). r.end) s.rows 0 no_row ∙ b))
