-- The records that FORKs ask for: how many have a child code, and which were asked for. Assumes nothing.
use Prim.Native.Nat.{ℕ, zero, suc, ◌+◌, ◌≤◌, ◌<◌}
use mathlib.Core.Bool.{Bool, true, false, cond, not, ◌&&◌, ◌||◌}
use mathlib.Core.Path.{◌≡◌, refl, sym, ap, subst, ◌∙◌}
use mathlib.Core.List.{List, [], ◌∷◌}
use native.Mathlib.Decide.{ℕ_discrete}
use native.Mathlib.Omega.{arith}
use borrow.Author.Tests.{eqb-true, eq-eqb, ne_eqb}
use lib.Dec.{eqb}
use lib.ListN.{length, drop, get_or, drop_of_length-le}
use lib.Seq.{drop-cons}
use Rattle.thread.specs.declared.Thread.{Thread}
use Rattle.thread.specs.Threads.{blank, exists}
use Rattle.machine.specs.Steps.{Child}
use Rattle.machine.specs.Fits.{own_code}
use Rattle.machine.specs.FitTest.{same, among, all_among, threads_of, one_each}
use Rattle.survey.specs.declared.Asked.{Asked}
use Rattle.survey.specs.InnerWalk.{own_at, noted, asks, asked_for, marks, ones, all_asked}
use Rattle.survey.proofs.Yes.{alike, first, second, both, not_not}
use Rattle.survey.proofs.Shows.{at}
use Rattle.word.specs.Registers.{member}
use Rattle.word.proofs.Sets.{member_same, member_other}

or_right : (a : Bool) → true ≡ (a || true)
or_right true = refl
or_right false = refl

pub or_left : (a : Bool) → a ≡ (a || false)
or_left true = refl
or_left false = refl

or_turn : (a b c : Bool) → ((a || b) || c) ≡ (a || (c || b))
or_turn true b c = refl
or_turn false true true = refl
or_turn false true false = refl
or_turn false false true = refl
or_turn false false false = refl

-- ---- which records were asked for
module _ (starts ends : List ℕ) (c : Child) where
  abbrev hit : ℕ → Bool
  hit i = same (own_at starts ends i) c

  noted_other : (a : Asked) (i : ℕ) (b : Bool) (j : ℕ) → (j ≡ i → ⊥) → member (noted a i b).asked j ≡ member a.asked j
  unfolding noted
  noted_other a i true j n = member_other a.asked i j n
  noted_other a i false j n = refl

  noted_same : (a : Asked) (i : ℕ) (b : Bool) → i < 64 → member (noted a i b).asked i ≡ (member a.asked i || b)
  unfolding noted
  noted_same a i true h = member_same a.asked i h ∙ or_right (member a.asked i)
  noted_same a i false h = or_left (member a.asked i)

  asks_below : (left i : ℕ) (a : Asked) (j : ℕ) → j < i → member (asks left i starts ends c a).asked j ≡ member a.asked j
  unfolding asks
  asks_below zero i a j l = refl
  asks_below (suc left) i a j l =
      asks_below left (suc i) (noted a i (hit i)) j (omega arith) ∙ noted_other a i (hit i) j (λ e. omega arith)

  asks_from : (left i : ℕ) (a : Asked) (j : ℕ) → i ≤ j → j < i + left → i + left ≤ 64 → member (asks left i starts ends c a).asked j ≡ (member a.asked j || hit j)
  unfolding asks
  asks_from zero i a j l h k = absurd (omega arith)
  asks_from (suc left) i a j l h k = go (ℕ_discrete j i) (λ m. asks_from left (suc i) (noted a i (hit i)) j m (omega arith) (omega arith))
    where
      go : Dec (j ≡ i) → (suc i ≤ j → member (asks left (suc i) starts ends c (noted a i (hit i))).asked j ≡ (member (noted a i (hit i)).asked j || hit j)) → member (asks left (suc i) starts ends c (noted a i (hit i))).asked j ≡ (member a.asked j || hit j)
      go (yes e) ih =
          asks_below left (suc i) (noted a i (hit i)) j (omega arith)
          ∙ subst (λ (m : ℕ). member (noted a i (hit i)).asked m ≡ (member a.asked m || hit m)) (sym e) (noted_same a i (hit i) (omega arith))
      go (no n) ih = ih (omega arith) ∙ ap (λ (b : Bool). b || hit j) (noted_other a i (hit i) j n)

  asked_one : (asked j : ℕ) → j < 16 → member (asked_for starts ends c asked).asked j ≡ (member asked j || hit j)
  unfolding asked_for
  asked_one asked j h = asks_from 16 0 (record { number = 0; asked = asked }) j (omega arith) (omega arith) (omega arith)

pub marked : (starts ends : List ℕ) (cs : List Child) (asked j : ℕ) → j < 16 → member (marks starts ends cs asked) j ≡ (member asked j || among (own_at starts ends j) cs)
unfolding marks among
marked starts ends [] asked j h = or_left (member asked j)
marked starts ends (c ∷ cs) asked j h =
    asked_one starts ends c (marks starts ends cs asked) j h
    ∙ (ap (λ (b : Bool). b || same (own_at starts ends j) c) (marked starts ends cs asked j h)
    ∙ or_turn (member asked j) (among (own_at starts ends j) cs) (same (own_at starts ends j) c))

-- ---- how many records have a child code; child codes start behind a FORK, so not at 0
pub data Behind : List Child → Type 0 where
  no_more : Behind []
  one_more : {c : Child} {cs : List Child} → (c.start ≡ 0 → ⊥) → Behind cs → Behind (c ∷ cs)

same_turn : (a b : Child) → same a b ≡ true → same b a ≡ true
same_turn a b e =
    both (eq-eqb b.start a.start (sym (eqb-true a.start b.start (first _ _ e))))
    (eq-eqb b.end a.end (sym (eqb-true a.end b.end (second (eqb a.start b.start) _ e))))

hit_is : (c : Child) (t : Thread) → (c.start ≡ 0 → ⊥) → same (own_code t) c ≡ (exists t && same c (own_code t))
hit_is c t n = alike _ _ there back
  where
    there : same (own_code t) c ≡ true → (exists t && same c (own_code t)) ≡ true
    there e =
        let s : t.start ≡ c.start = eqb-true t.start c.start (first _ _ e) in
        both (ap not (ne_eqb t.start 0 (λ z. n (sym s ∙ z)))) (same_turn (own_code t) c e)

    back : (exists t && same c (own_code t)) ≡ true → same (own_code t) c ≡ true
    back e = same_turn c (own_code t) (second (exists t) _ e)

module _ (ts : List Thread) (long : length ts ≡ 16) (starts ends : List ℕ) (owns : (i : ℕ) → own_at starts ends i ≡ own_code (at ts i)) where
  asks_number : (c : Child) → (c.start ≡ 0 → ⊥) → (left i : ℕ) (a : Asked) → i + left ≡ 16 → (asks left i starts ends c a).number ≡ a.number + threads_of c (drop i ts)
  unfolding asks threads_of noted
  asks_number c n zero i a e = rw (drop_of_length-le ts {i = i} (omega arith)) (omega arith)
  asks_number c n (suc left) i a e =
      let t = at ts i in
      let d : drop i ts ≡ t ∷ drop (suc i) ts = drop-cons ts i blank (omega arith) in
      let h : same (own_at starts ends i) c ≡ (exists t && same c (own_code t)) = ap (λ (o : Child). same o c) (owns i) ∙ hit_is c t n in
      asks_number c n left (suc i) (noted a i (same (own_at starts ends i) c)) (omega arith)
      ∙ (ap (λ (b : Bool). (noted a i b).number + threads_of c (drop (suc i) ts)) h
      ∙ (go (exists t && same c (own_code t)) ∙ ap (λ (l : List Thread). a.number + threads_of c l) (sym d)))
    where
      go : (b : Bool) → (noted a i b).number + threads_of c (drop (suc i) ts) ≡ a.number + cond b (suc (threads_of c (drop (suc i) ts))) (threads_of c (drop (suc i) ts))
      go true = omega arith
      go false = refl

  pub ones_each : (cs : List Child) → Behind cs → (asked : ℕ) → ones starts ends cs asked ≡ one_each cs ts
  unfolding ones one_each asked_for
  ones_each [] no_more asked = refl
  ones_each (c ∷ cs) (one_more n b) asked =
      let k : (asked_for starts ends c (marks starts ends cs asked)).number ≡ threads_of c ts = asks_number c n 16 0 (record { number = 0; asked = marks starts ends cs asked }) refl ∙ omega arith in
      ap (λ (m : ℕ). eqb m 1 && ones starts ends cs asked) k ∙ ap (λ (x : Bool). eqb (threads_of c ts) 1 && x) (ones_each cs b asked)

  -- each thread was asked for
  pub asked_among : (cs : List Child) (asked : ℕ) → ((j : ℕ) → j < 16 → member asked j ≡ among (own_at starts ends j) cs) → (left i : ℕ) → i + left ≡ 16 → all_asked left i starts asked ≡ all_among cs (drop i ts)
  unfolding all_asked all_among
  asked_among cs asked m zero i e = rw (drop_of_length-le ts {i = i} (omega arith))
  asked_among cs asked m (suc left) i e =
      let t = at ts i in
      let d : drop i ts ≡ t ∷ drop (suc i) ts = drop-cons ts i blank (omega arith) in
      let s : eqb (get_or starts i 0) 0 ≡ not (exists t) = ap (λ (o : Child). eqb o.start 0) (owns i) ∙ sym (not_not (eqb t.start 0)) in
      let g : member asked i ≡ among (own_code t) cs = m i (omega arith) ∙ ap (λ (o : Child). among o cs) (owns i) in
      ap (λ (b : Bool). (b || member asked i) && all_asked left (suc i) starts asked) s
      ∙ (ap (λ (b : Bool). (not (exists t) || b) && all_asked left (suc i) starts asked) g
      ∙ (ap (λ (b : Bool). (not (exists t) || among (own_code t) cs) && b) (asked_among cs asked m left (suc i) (omega arith))
      ∙ ap (all_among cs) (sym d)))
