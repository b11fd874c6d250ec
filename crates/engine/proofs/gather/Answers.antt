-- `engine::gather` meets its contract: the survey goes on record by record, and each record read is known by its type. Assumes nothing.
use Prim.Native.Nat.{ℕ, ◌+◌, ◌≤◌, ◌<◌}
use mathlib.Core.Bool.{Bool, true, false}
use mathlib.Core.Path.{◌≡◌, refl, sym, ap, subst, ◌∙◌}
use mathlib.Core.List.{List}
use native.Mathlib.Numerals.{add-one}
use native.Mathlib.Omega.{arith}
use borrow.Author.Tests.{ltb-true, ltb-false}
use lib.Dec.{ltb}
use lib.ListN.{length, get_or, drop as drop_l}
use lib.Seq.{drop-cons}
use lib.ListN.{drop_of_length-le, get_or-eq_default}
use Rattle.thread.specs.declared.Thread.{Thread}
use Rattle.std.proofs.lemmas.List.{get_or_default}
use Rattle.thread.specs.Threads.{blank}
use Rattle.survey.specs.declared.Survey.{Survey}
use Rattle.survey.specs.InnerRecords.{survey_from, survey_of, with_to, empty_survey}
use Rattle.engine.proofs.Rows.{Known, known_blank}
use Rattle.engine.proofs.gather.Goals as goal

-- the survey goes on after a turn as its definition does
goes-on : (rs : List ℕ) (ys : List Thread) (i : ℕ) (s : Survey) → i < length ys → survey_from (with_to s rs (get_or ys i blank)) rs (drop_l (i + 1) ys) ≡ survey_from s rs (drop_l i ys)
unfolding survey_from
goes-on rs ys i s h = ap (λ (j : ℕ). survey_from (with_to s rs (get_or ys i blank)) rs (drop_l j ys)) (add-one i) ∙ sym (ap (survey_from s rs) (drop-cons ys i blank h))

-- at the start all records are left
all_left : (rs : List ℕ) (ys : List Thread) → survey_from empty_survey rs (drop_l 0 ys) ≡ survey_of rs ys
unfolding survey_of
all_left rs ys = refl

-- at the end none is left
none_left : (rs : List ℕ) (ys : List Thread) (i : ℕ) (s : Survey) → length ys ≤ i → s ≡ survey_from s rs (drop_l i ys)
unfolding survey_from
none_left rs ys i s out = sym (ap (survey_from s rs) (drop_of_length-le ys out))

-- what was known of the records before i, and of record i, is known before i + 1
one_more : (ys : List Thread) (i : ℕ) → ((j : ℕ) → j < i → Known (get_or ys j blank)) → Known (get_or ys i blank) → (j : ℕ) → j < i + 1 → Known (get_or ys j blank)
one_more ys i old new j h = by_test (ltb j i) refl
  where
    by_test : (t : Bool) → ltb j i ≡ t → Known (get_or ys j blank)
    by_test true e = old j (ltb-true _ _ e)
    by_test false e = let here : i ≡ j = omega (arith, ltb-false j i e, h) in subst (λ (k : ℕ). Known (get_or ys k blank)) here new

-- each record is known, and so is what stands past the end
known_all : (ys : List Thread) (n : ℕ) → length ys ≤ n → ((j : ℕ) → j < n → Known (get_or ys j blank)) → (i : ℕ) → Known (get_or ys i blank)
known_all ys n h k i = by_test (ltb i n) refl
  where
    by_test : (t : Bool) → ltb i n ≡ t → Known (get_or ys i blank)
    by_test true e = k i (ltb-true _ _ e)
    by_test false e = subst Known (sym (get_or-eq_default ys blank {n = i} (let l : n ≤ i = ltb-false _ _ e in omega (arith, h, l)))) known_blank

pub loop-t-init : goal.loop-t-init
loop-t-init c = record {
  same = rw c.start-survey.ensures (all_left c.args.counts.now c.args.threads.now);
  known = λ j h. absurd (omega (arith, h));
}

pub loop-t-preserved : goal.loop-t-preserved
loop-t-preserved c =
    let ys = c.args.threads.now in
    let i = c.loop-t.t-index in
    let d = get_or_default ys i _ blank c.loop-t-test.true in
    let e : c.known-t.result ≡ get_or ys i blank = c.known-t.ensures.same ∙ d in
    record {
      same = rw (c.with-survey.ensures, e) (goes-on c.args.counts.now ys i c.loop-t.survey c.loop-t-test.true ∙ c.loop-t.invariant.same);
      known = one_more ys i c.loop-t.invariant.known (subst Known d (record { typed = c.known-t.ensures.typed; ranged = c.known-t.ensures.ranged }));
    }

pub returns : goal.returns
returns c = record {
  survey = none_left c.args.counts.now c.args.threads.now c.loop-t.t-index c.loop-t.survey c.loop-t-test.false ∙ c.loop-t.invariant.same;
  typed = λ i. (known_all c.args.threads.now c.loop-t.t-index c.loop-t-test.false c.loop-t.invariant.known i).typed;
  ranged = λ i. (known_all c.args.threads.now c.loop-t.t-index c.loop-t-test.false c.loop-t.invariant.known i).ranged;
}
