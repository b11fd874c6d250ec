-- The tests of one record, part by part, and what `with_to` is in each branch. Assumes nothing.
use Prim.Native.Nat.{ℕ, ◌≤◌, ◌<◌}
use mathlib.Core.Bool.{Bool, true, false, not, ◌&&◌, ◌||◌}
use mathlib.Core.Path.{◌≡◌, ap, fun_ext, ◌∙◌}
use mathlib.Core.List.{List}
use native.Mathlib.Omega.{arith}
use borrow.Author.Tests.{eqb-true, eq-eqb, ne_eqb, lt-ltb, le-ltb}
use lib.Dec.{eqb}
use lib.IntN.{ℤ}
use Rattle.thread.specs.declared.Thread.{Thread}
use Rattle.machine.specs.FitTest.{free, uncounted, all_zero}
use Rattle.word.specs.Registers.{member}
use Rattle.word.specs.Registers as registers
use Rattle.word.proofs.Sets.{member_none}
use Rattle.survey.specs.declared.Survey.{Survey}
use Rattle.survey.specs.InnerRecords.{unfit_to, pass_to, put_to, need_in, zero_from, tidy, with_to}
use Rattle.survey.proofs.Yes.{first, second, both, when_true, when_false}

-- ---- a record of no thread
pub record Zeros (t : Thread) : Type 0 where
  pub start : t.start ≡ 0
  pub end : t.end ≡ 0
  pub place : t.place ≡ 0
  pub height : t.height ≡ 0
  pub begin : t.begin ≡ 0
  pub base : t.base ≡ 0
  pub over : t.over ≡ 0
  pub reads : t.reads ≡ 0
  pub writes : t.writes ≡ 0
  pub rule : t.rule ≡ 0
  pub backs : t.backs ≡ 0
  pub cells : zero_from 0 t.cells ≡ true
  pub readlog : zero_from 0 t.readlog ≡ true
  pub writelog : zero_from 0 t.writelog ≡ true
  pub readcounts : uncounted (λ v. false) t.readcounts ≡ true

-- no cell is below height 0
none_below : (ns : List ℤ) → zero_from 0 ns ≡ free (λ n. false) ns
unfolding zero_from
none_below ns = ap (λ (used : ℕ → Bool). free used ns) (fun_ext (λ n. le-ltb n 0 (omega arith)))

-- nor is any register marked in the empty set
pub none_marked : (ns : List ℕ) → uncounted (member 0) ns ≡ uncounted (λ v. false) ns
unfolding registers.none
none_marked ns = ap (λ (used : ℕ → Bool). uncounted used ns) (fun_ext (λ v. member_none v))

pub zeros_of : (t : Thread) → all_zero t ≡ true → Zeros t
unfolding all_zero
zeros_of t e =
    let e1 = second (eqb t.start 0) _ e in
    let e2 = second (eqb t.end 0) _ e1 in
    let e3 = second (eqb t.place 0) _ e2 in
    let e4 = second (eqb t.height 0) _ e3 in
    let e5 = second (eqb t.begin 0) _ e4 in
    let e0 = second (eqb t.base 0) _ e5 in
    let e6 = second (eqb t.over 0) _ e0 in
    let e7 = second (eqb t.reads 0) _ e6 in
    let ex = second (eqb t.writes 0) _ e7 in
    let ey = second (eqb t.rule 0) _ ex in
    let e8 = second (eqb t.backs 0) _ ey in
    let e9 = second (free (λ n. false) t.cells) _ e8 in
    let ez = second (free (λ n. false) t.readlog) _ e9 in
    record {
      start = eqb-true t.start 0 (first _ _ e);
      end = eqb-true t.end 0 (first _ _ e1);
      place = eqb-true t.place 0 (first _ _ e2);
      height = eqb-true t.height 0 (first _ _ e3);
      begin = eqb-true t.begin 0 (first _ _ e4);
      base = eqb-true t.base 0 (first _ _ e5);
      over = eqb-true t.over 0 (first _ _ e0);
      reads = eqb-true t.reads 0 (first _ _ e6);
      writes = eqb-true t.writes 0 (first _ _ e7);
      rule = eqb-true t.rule 0 (first _ _ ex);
      backs = eqb-true t.backs 0 (first _ _ ey);
      cells = none_below t.cells ∙ first _ _ e8;
      readlog = none_below t.readlog ∙ first _ _ e9;
      readcounts = second (free (λ n. false) t.writelog) _ ez;
      writelog = none_below t.writelog ∙ first _ _ ez;
    }

-- ---- a thread's record
abbrev pub shut : Thread → Bool
shut t = not (eqb t.begin 0) || (eqb t.reads 0 && eqb t.writes 0)

pub record Tidy (t : Thread) : Type 0 where
  pub shut : shut t ≡ true
  pub readlog : free (member t.reads) t.readlog ≡ true
  pub writelog : free (member t.writes) t.writelog ≡ true
  pub cells : zero_from t.height t.cells ≡ true
  pub readcounts : uncounted (member t.reads) t.readcounts ≡ true

pub tidy_of : (t : Thread) → tidy t ≡ true → Tidy t
unfolding tidy
tidy_of t e =
    let e1 = second (shut t) _ e in
    let e2 = second (free (member t.reads) t.readlog) _ e1 in
    let e3 = second (free (member t.writes) t.writelog) _ e2 in
    record { shut = first _ _ e; readlog = first _ _ e1; writelog = first _ _ e2; cells = first _ _ e3; readcounts = second (zero_from t.height t.cells) _ e3 }

pub is_tidy : (t : Thread) → Tidy t → tidy t ≡ true
unfolding tidy
is_tidy t y = both y.shut (both y.readlog (both y.writelog (both y.cells y.readcounts)))

-- ---- the branches of `with_to`
module _ (s : Survey) (table : List ℕ) (t : Thread) where
  pub with_bad : s.good ≡ false → s ≡ with_to s table t
  unfolding with_to
  with_bad g = when_false s.good _ s g

  module _ (g : s.good ≡ true) where
    pub with_many : 16 ≤ s.seen → unfit_to s ≡ with_to s table t
    unfolding with_to
    with_many h = when_false _ _ (unfit_to s) (le-ltb s.seen 16 h) ∙ when_true s.good _ s g

    module _ (h : s.seen < 16) where
      pub with_blank : t.start ≡ 0 → all_zero t ≡ true → pass_to s ≡ with_to s table t
      unfolding with_to
      with_blank e z =
          when_true _ (pass_to s) (unfit_to s) z ∙ (when_true _ _ _ (eq-eqb t.start 0 e) ∙ (when_true _ _ (unfit_to s) (lt-ltb s.seen 16 h) ∙ when_true s.good _ s g))

      pub with_marred : t.start ≡ 0 → all_zero t ≡ false → unfit_to s ≡ with_to s table t
      unfolding with_to
      with_marred e z =
          when_false _ (pass_to s) (unfit_to s) z ∙ (when_true _ _ _ (eq-eqb t.start 0 e) ∙ (when_true _ _ (unfit_to s) (lt-ltb s.seen 16 h) ∙ when_true s.good _ s g))

      pub with_gap : (t.start ≡ 0 → ⊥) → (s.count ≡ s.seen → ⊥) → unfit_to s ≡ with_to s table t
      unfolding with_to
      with_gap e n =
          when_false _ _ (unfit_to s) (ne_eqb s.count s.seen n) ∙ (when_false _ _ _ (ne_eqb t.start 0 e) ∙ (when_true _ _ (unfit_to s) (lt-ltb s.seen 16 h) ∙ when_true s.good _ s g))

      pub with_untidy : (t.start ≡ 0 → ⊥) → s.count ≡ s.seen → tidy t ≡ false → unfit_to s ≡ with_to s table t
      unfolding with_to
      with_untidy e n y =
          when_false _ (put_to s t (need_in table t)) (unfit_to s) y ∙ (when_true _ _ (unfit_to s) (eq-eqb s.count s.seen n) ∙ (when_false _ _ _ (ne_eqb t.start 0 e) ∙ (when_true _ _ (unfit_to s) (lt-ltb s.seen 16 h) ∙ when_true s.good _ s g)))

      pub with_put : (t.start ≡ 0 → ⊥) → s.count ≡ s.seen → tidy t ≡ true → put_to s t (need_in table t) ≡ with_to s table t
      unfolding with_to
      with_put e n y =
          when_true _ (put_to s t (need_in table t)) (unfit_to s) y ∙ (when_true _ _ (unfit_to s) (eq-eqb s.count s.seen n) ∙ (when_false _ _ _ (ne_eqb t.start 0 e) ∙ (when_true _ _ (unfit_to s) (lt-ltb s.seen 16 h) ∙ when_true s.good _ s g)))
