-- What the walks of all threads come to: each record agrees with its walk, each FORK passed has exactly one thread, and the records asked
-- for are those whose own code a FORK passed has. Assumes nothing.
use Prim.Native.Nat.{ℕ, zero, suc, ◌+◌, ◌≤◌, ◌<◌}
use mathlib.Core.Bool.{Bool, true, false, cond, not, ◌&&◌, ◌||◌}
use mathlib.Core.Path.{◌≡◌, refl, sym, ap, subst, ◌∙◌}
use mathlib.Core.List.{List, [], ◌∷◌, ◌++◌}
use mathlib.Core.Option.{Option, none, some}
use native.Mathlib.Omega.{arith}
use lib.Dec.{eqb, ltb, leb}
use lib.ListN.{length, drop, drop_of_length-le}
use lib.Seq.{drop-cons}
use Rattle.code.specs.Ops.{op_at}
use Rattle.code.specs.Ops as code
use Rattle.script.specs.Outcome.{Outcome, refused, done}
use Rattle.thread.specs.declared.Thread.{Thread}
use Rattle.thread.specs.Threads.{blank, exists}
use Rattle.machine.specs.Steps.{Child}
use Rattle.machine.specs.Fits.{Walked, unmoved, walk_op, next_place, own_code}
use Rattle.machine.specs.FitTest.{going_on, walk, walk_to, children_of, commits_of, commits_passed, passed_by, same, among, threads_of, one_each}
use Rattle.survey.specs.declared.Row.{Row}
use Rattle.survey.specs.InnerRecords.{row_of}
use Rattle.survey.specs.InnerWalk.{Trail, Finding, own_at, lost_walk, marks, ones, walk_of, told, walk_from, agreeing, unfit, judged_by, judge_to, judge_from}
use Rattle.survey.proofs.Yes.{never, first, second, both}
use Rattle.survey.proofs.Shows.{at}
use Rattle.survey.proofs.Asking.{or_left, Behind, no_more, one_more, marked, ones_each}
use Rattle.word.specs.InnerCount.{saturated}
use Rattle.word.specs.Registers.{member}
use Rattle.word.proofs.Counting.{saturated_exact}

-- ---- the child codes of FORKs do not start at 0
op_behind : (op : code.Op) (place : ℕ) (v : Walked) → Behind v.children → Behind (walk_op op place v).children
unfolding walk_op
op_behind (code.push n) place v b = b
op_behind code.add place v b = b
op_behind (code.read r) place v b = b
op_behind (code.write r) place v b = b
op_behind code.begin place v b = b
op_behind code.commit place v b = b
op_behind (code.fork size) place v b = one_more (λ (e : place + 3 ≡ 0). omega arith) b

walk_behind : (bytes : List ℕ) (end target fuel place : ℕ) (v : Walked) → Behind v.children → Behind (children_of (walk fuel bytes end target place v))
unfolding walk
walk_behind bytes end target zero place v b = no_more
walk_behind bytes end target (suc fuel) place v b = one (eqb place target) (λ q u c. walk_behind bytes end target fuel q u c)
  where
    Again : Type 0
    Again = (q : ℕ) (u : Walked) → Behind u.children → Behind (children_of (walk fuel bytes end target q u))

    three : Again → (o : Outcome code.Op) → Behind (children_of (going_on o (λ op. walk fuel bytes end target (next_place op place) (walk_op op place v))))
    three ih (refused n m) = no_more
    three ih (done op) = ih (next_place op place) (walk_op op place v) (op_behind op place v b)

    two : (x : Bool) → Again → Behind (children_of (elim x [
      | true ↦ going_on (op_at (drop place bytes)) (λ op. walk fuel bytes end target (next_place op place) (walk_op op place v))
      | false ↦ none
    ]))
    two true ih = three ih (op_at (drop place bytes))
    two false ih = no_more

    one : (x : Bool) → Again → Behind (children_of (elim x [
      | true ↦ some v
      | false ↦ elim (ltb place end) [
        | true ↦ going_on (op_at (drop place bytes)) (λ op. walk fuel bytes end target (next_place op place) (walk_op op place v))
        | false ↦ none
      ]
    ]))
    one true ih = b
    one false ih = two (ltb place end) ih

thread_behind : (bytes : List ℕ) (t : Thread) → Behind (children_of (walk_to bytes t))
unfolding walk_to
thread_behind bytes t = walk_behind bytes t.end t.place (suc t.place) t.start unmoved no_more

-- ---- one thread
abbrev pub agrees : Thread → Option Walked → Bool
agrees t none = false
agrees t (some w) = eqb w.height t.height && (eqb w.begin t.begin && (eqb w.base t.base && leb t.over w.adds))

-- the child codes that a record's thread has passed
abbrev passed_of : List ℕ → Thread → List Child
passed_of bytes t = cond (exists t) (children_of (walk_to bytes t)) []

passed_more : (bytes : List ℕ) (t : Thread) (ts : List Thread) → passed_by bytes (t ∷ ts) ≡ passed_of bytes t ++ passed_by bytes ts
unfolding passed_by
passed_more bytes t ts = go (exists t)
  where
    go : (b : Bool) → cond b (children_of (walk_to bytes t) ++ passed_by bytes ts) (passed_by bytes ts) ≡ cond b (children_of (walk_to bytes t)) [] ++ passed_by bytes ts
    go true = refl
    go false = refl

among_more : (c : Child) (xs ys : List Child) → among c (xs ++ ys) ≡ (among c xs || among c ys)
unfolding among
among_more c [] ys = refl
among_more c (x ∷ xs) ys = ap (λ (b : Bool). same c x || b) (among_more c xs ys) ∙ go (same c x) (among c xs) (among c ys)
  where
    go : (x y z : Bool) → (x || (y || z)) ≡ ((x || y) || z)
    go true y z = refl
    go false y z = refl

one_each_more : (xs ys : List Child) (ts : List Thread) → one_each (xs ++ ys) ts ≡ (one_each xs ts && one_each ys ts)
unfolding one_each
one_each_more [] ys ts = refl
one_each_more (x ∷ xs) ys ts = ap (λ (b : Bool). eqb (threads_of x ts) 1 && b) (one_each_more xs ys ts) ∙ go (eqb (threads_of x ts) 1) (one_each xs ts) (one_each ys ts)
  where
    go : (x y z : Bool) → (x && (y && z)) ≡ ((x && y) && z)
    go true y z = refl
    go false y z = refl

-- the COMMITs that a record's thread has passed
abbrev commits_by : List ℕ → Thread → ℕ
commits_by bytes t = cond (exists t) (commits_of (walk_to bytes t)) 0

-- each thread's record agrees with its walk
unfoldable pub agree_all : List ℕ → List Thread → Bool
agree_all bytes [] = true
agree_all bytes (t ∷ ts) = (not (exists t) || agrees t (walk_to bytes t)) && agree_all bytes ts

module _ (bytes : List ℕ) (ts : List Thread) (long : length ts ≡ 16) (starts ends : List ℕ) (owns : (i : ℕ) → own_at starts ends i ≡ own_code (at ts i)) where
  abbrev Own : ℕ → Child
  Own j = own_at starts ends j

  -- what it means that a walk agrees with its record
  record Agreed (t : Thread) (asked : ℕ) (o : Option Walked) (w : Trail) : Type 0 where
    agree : agrees t o ≡ true
    one : one_each (children_of o) ts ≡ true
    all : w.asked ≡ marks starts ends (children_of o) asked
    passed : w.commits ≡ commits_of o

  told_agrees : (t : Thread) (asked : ℕ) (o : Option Walked) → Behind (children_of o) → agreeing (told starts ends asked t.place o) (row_of t 0) ≡ true → Agreed t asked o (told starts ends asked t.place o)
  unfolding told agreeing walk_of lost_walk
  told_agrees t asked none b e = never (sym e)
  told_agrees t asked (some w) b e = go (ones starts ends w.children asked) refl e
    where
      go : (x : Bool) → ones starts ends w.children asked ≡ x → agreeing (cond x (walk_of starts ends asked t.place w) lost_walk) (row_of t 0) ≡ true → Agreed t asked (some w) (cond x (walk_of starts ends asked t.place w) lost_walk)
      go true k f = record { agree = f; one = sym (ones_each ts long starts ends owns w.children b asked) ∙ k; all = refl; passed = refl }
      go false k f = never (sym f)

  agrees_told : (t : Thread) (asked : ℕ) (o : Option Walked) → Behind (children_of o) → agrees t o ≡ true → one_each (children_of o) ts ≡ true → agreeing (told starts ends asked t.place o) (row_of t 0) ≡ true
  unfolding told agreeing walk_of
  agrees_told t asked none b e f = never (sym e)
  agrees_told t asked (some w) b e f =
      let k : ones starts ends w.children asked ≡ true = ones_each ts long starts ends owns w.children b asked ∙ f in
      rw k e

  -- one record
  record Judged (t : Thread) (v r : Finding) : Type 0 where
    good : v.good ≡ true
    agree : (not (exists t) || agrees t (walk_to bytes t)) ≡ true
    one : one_each (passed_of bytes t) ts ≡ true
    all : (j : ℕ) → j < 16 → member r.asked j ≡ (member v.asked j || among (Own j) (passed_of bytes t))
    counts : v.commits + commits_by bytes t ≤ 18446744073709551615 → r.commits ≡ v.commits + commits_by bytes t

  abbrev judge : Thread → Finding → Finding
  judge t v = judge_to bytes starts ends (row_of t 0) v

  one_judged : (t : Thread) (v : Finding) → (judge t v).good ≡ true → Judged t v (judge t v)
  unfolding judge_to judged_by walk_from walk_to unfit among one_each
  one_judged t v g = start v.good refl g
    where
      o : Option Walked
      o = walk_to bytes t

      w : Trail
      w = told starts ends v.asked t.place o

      walked : v.good ≡ true → exists t ≡ true → (x : Bool) → agreeing w (row_of t 0) ≡ x → (cond x (record { asked = w.asked; commits = saturated v.commits w.commits; good = true }) unfit).good ≡ true → Judged t v (cond x (record { asked = w.asked; commits = saturated v.commits w.commits; good = true }) unfit)
      walked h e true a f =
          let y = told_agrees t v.asked o (thread_behind bytes t) a in
          record {
            good = h;
            agree = subst (λ (b : Bool). (not b || agrees t o) ≡ true) (sym e) y.agree;
            one = subst (λ (b : Bool). one_each (cond b (children_of o) []) ts ≡ true) (sym e) y.one;
            all = λ j l. ap (λ (m : ℕ). member m j) y.all ∙ (marked starts ends (children_of o) v.asked j l ∙ ap (λ (b : Bool). member v.asked j || among (Own j) (cond b (children_of o) [])) (sym e));
            counts = λ l. ap (saturated v.commits) (y.passed ∙ ap (λ (b : Bool). cond b (commits_of o) 0) (sym e)) ∙ saturated_exact v.commits (commits_by bytes t) l;
          }
      walked h e false a f = never (sym f)

      kind : (x : Bool) → eqb t.start 0 ≡ x → v.good ≡ true → (cond x v (judged_by v.commits (row_of t 0) w)).good ≡ true → Judged t v (cond x v (judged_by v.commits (row_of t 0) w))
      kind true e h f =
          let x : exists t ≡ false = ap not e in
          record {
            good = h;
            agree = subst (λ (b : Bool). (not b || agrees t o) ≡ true) (sym x) refl;
            one = subst (λ (b : Bool). one_each (cond b (children_of o) []) ts ≡ true) (sym x) refl;
            all = λ j l. or_left (member v.asked j) ∙ ap (λ (b : Bool). member v.asked j || among (Own j) (cond b (children_of o) [])) (sym x);
            counts = λ l. (let z : v.commits ≡ v.commits + 0 = omega arith in z) ∙ ap (λ (b : Bool). v.commits + cond b (commits_of o) 0) (sym x);
          }
      kind false e h f = walked h (ap not e) (agreeing w (row_of t 0)) refl f

      start : (x : Bool) → v.good ≡ x → (cond x (cond (eqb t.start 0) v (judged_by v.commits (row_of t 0) w)) v).good ≡ true → Judged t v (cond x (cond (eqb t.start 0) v (judged_by v.commits (row_of t 0) w)) v)
      start true h f = kind (eqb t.start 0) refl h f
      start false h f = never (sym f ∙ h)

  judged_one : (t : Thread) (v : Finding) → v.good ≡ true → (not (exists t) || agrees t (walk_to bytes t)) ≡ true → one_each (passed_of bytes t) ts ≡ true → (judge t v).good ≡ true
  unfolding judge_to judged_by walk_from walk_to
  judged_one t v h a e = start v.good h
    where
      o : Option Walked
      o = walk_to bytes t

      w : Trail
      w = told starts ends v.asked t.place o

      kind : (x : Bool) → eqb t.start 0 ≡ x → (cond x v (judged_by v.commits (row_of t 0) w)).good ≡ true
      kind true s = h
      kind false s =
          let x : exists t ≡ true = ap not s in
          let a' : agrees t o ≡ true = subst (λ (b : Bool). (not b || agrees t o) ≡ true) x a in
          let e' : one_each (children_of o) ts ≡ true = subst (λ (b : Bool). one_each (cond b (children_of o) []) ts ≡ true) x e in
          let y : agreeing w (row_of t 0) ≡ true = agrees_told t v.asked o (thread_behind bytes t) a' e' in
          rw y

      start : (x : Bool) → x ≡ true → (cond x (cond (eqb t.start 0) v (judged_by v.commits (row_of t 0) w)) v).good ≡ true
      start true s = kind (eqb t.start 0) refl
      start false s = never (sym s)

  -- all records from i on
  pub record AllJudged (ds : List Thread) (v r : Finding) : Type 0 where
    pub good : v.good ≡ true
    pub agree : agree_all bytes ds ≡ true
    pub one : one_each (passed_by bytes ds) ts ≡ true
    pub all : (j : ℕ) → j < 16 → member r.asked j ≡ (member v.asked j || among (Own j) (passed_by bytes ds))
    pub counts : v.commits + commits_passed bytes ds ≤ 18446744073709551615 → r.commits ≡ v.commits + commits_passed bytes ds

  -- what a record needs is nothing to its walk
  any_need : (n : ℕ) (t : Thread) (v : Finding) → judge_to bytes starts ends (row_of t n) v ≡ judge t v
  unfolding judge_to judged_by agreeing
  any_need n t v = refl

  module _ (need : Thread → ℕ) (rows : ℕ → Row) (are : (i : ℕ) → rows i ≡ row_of (at ts i) (need (at ts i))) where
    abbrev judge_by : ℕ → ℕ → Finding → Finding
    judge_by left i v = judge_from bytes starts ends rows left i v

    pub all-judged : (left i : ℕ) (v : Finding) → i + left ≡ 16 → (judge_by left i v).good ≡ true → AllJudged (drop i ts) v (judge_by left i v)
    unfolding judge_from agree_all passed_by among one_each commits_passed
    all-judged zero i v e g =
        subst (λ (ds : List Thread). AllJudged ds v v) (sym (drop_of_length-le ts {i = i} (omega arith)))
        (record { good = g; agree = refl; one = refl; all = λ j l. or_left (member v.asked j); counts = λ l. omega arith })
    all-judged (suc left) i v e g = go (all-judged left (suc i) (judge_to bytes starts ends (rows i) v) (omega arith) g)
      where
        t : Thread
        t = at ts i

        ds : List Thread
        ds = drop (suc i) ts

        r : Finding
        r = judge_to bytes starts ends (rows i) v

        r_is : r ≡ judge t v
        r_is = ap (λ (x : Row). judge_to bytes starts ends x v) (are i) ∙ any_need (need t) t v

        split : drop i ts ≡ t ∷ ds
        split = drop-cons ts i blank (omega arith)

        or_more : (x y z : Bool) → ((x || y) || z) ≡ (x || (y || z))
        or_more true y z = refl
        or_more false y z = refl

        go : AllJudged ds r (judge_by left (suc i) r) → AllJudged (drop i ts) v (judge_by left (suc i) r)
        go a =
            let y : Judged t v r = subst (Judged t v) (sym r_is) (one_judged t v (sym (ap (λ (x : Finding). x.good) r_is) ∙ a.good)) in
            subst (λ (l : List Thread). AllJudged l v (judge_by left (suc i) r)) (sym split)
            (record {
              good = y.good;
              agree = both y.agree a.agree;
              one = ap (λ (cs : List Child). one_each cs ts) (passed_more bytes t ds) ∙ (one_each_more (passed_of bytes t) (passed_by bytes ds) ts ∙ both y.one a.one);
              all = λ j l. a.all j l ∙ (ap (λ (b : Bool). b || among (Own j) (passed_by bytes ds)) (y.all j l) ∙ (or_more (member v.asked j) (among (Own j) (passed_of bytes t)) (among (Own j) (passed_by bytes ds)) ∙ ap (λ (b : Bool). member v.asked j || b) (sym (ap (among (Own j)) (passed_more bytes t ds) ∙ among_more (Own j) (passed_of bytes t) (passed_by bytes ds)))));
              counts = λ l. more l;
            })
          where
            more : v.commits + (commits_by bytes t + commits_passed bytes ds) ≤ 18446744073709551615 → (judge_by left (suc i) r).commits ≡ v.commits + (commits_by bytes t + commits_passed bytes ds)
            more l =
                let y : Judged t v r = subst (Judged t v) (sym r_is) (one_judged t v (sym (ap (λ (x : Finding). x.good) r_is) ∙ a.good)) in
                let b : r.commits ≡ v.commits + commits_by bytes t = y.counts (omega arith) in
                let d = a.counts (omega arith) in
                omega arith

    pub judged_all : (left i : ℕ) (v : Finding) → i + left ≡ 16 → v.good ≡ true → agree_all bytes (drop i ts) ≡ true → one_each (passed_by bytes (drop i ts)) ts ≡ true → (judge_by left i v).good ≡ true
    unfolding judge_from agree_all
    judged_all zero i v e h a o = h
    judged_all (suc left) i v e h a o =
        let t : Thread = at ts i in
        let ds : List Thread = drop (suc i) ts in
        let split : drop i ts ≡ t ∷ ds = drop-cons ts i blank (omega arith) in
        let a' : agree_all bytes (t ∷ ds) ≡ true = sym (ap (agree_all bytes) split) ∙ a in
        let o' : (one_each (passed_of bytes t) ts && one_each (passed_by bytes ds) ts) ≡ true = sym (ap (λ (l : List Thread). one_each (passed_by bytes l) ts) split ∙ (ap (λ (cs : List Child). one_each cs ts) (passed_more bytes t ds) ∙ one_each_more (passed_of bytes t) (passed_by bytes ds) ts)) ∙ o in
        let g : (judge t v).good ≡ true = judged_one t v h (first (not (exists t) || agrees t (walk_to bytes t)) _ a') (first (one_each (passed_of bytes t) ts) _ o') in
        judged_all left (suc i) (judge_to bytes starts ends (rows i) v) (omega arith)
        (ap (λ (x : Row). (judge_to bytes starts ends x v).good) (are i) ∙ (ap (λ (x : Finding). x.good) (any_need (need t) t v) ∙ g))
        (second (not (exists t) || agrees t (walk_to bytes t)) _ a')
        (second (one_each (passed_of bytes t) ts) _ o')
