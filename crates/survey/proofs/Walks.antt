-- The loop of `walk_to` follows the definition's walk. Assumes nothing.
use Prim.Native.Nat.{ℕ, zero, suc, ◌+◌, ◌-◌, ◌≤◌, ◌<◌}
use mathlib.Core.Bool.{Bool, true, false, cond, ◌&&◌}
use mathlib.Core.Path.{◌≡◌, refl, sym, ap, subst, ◌∙◌}
use mathlib.Core.List.{List}
use mathlib.Core.Option.{Option, none, some}
use native.Mathlib.Numerals.{add-one}
use native.Mathlib.Omega.{arith}
use borrow.Author.Tests.{eq-eqb, ne_eqb, lt-ltb, le-ltb, ltb-true}
use lib.Dec.{eqb, ltb}
use lib.ListN.{drop}
use Rattle.code.specs.Ops.{op_at}
use Rattle.code.specs.Ops as code
use Rattle.ops.specs.declared.Op.{Op}
use Rattle.ops.specs.Shown.{show_op, shown_op}
use Rattle.script.specs.Outcome.{Outcome, refused, done}
use Rattle.machine.specs.Fits.{Walked, unmoved, risen, walk_op, next_place}
use Rattle.machine.specs.FitTest.{going_on, walk}
use Rattle.machine.proofs.Walking.{next_after}
use Rattle.survey.specs.declared.Asked.{Asked}
use Rattle.survey.specs.InnerWalk.{Trail, asked_for, lost_walk, rose, rise_to, fall_to, adds_after, stay_to, note_to, forked, fork_to, step_to, marks, ones, walk_of, told, walk_from}
use Rattle.survey.proofs.Steps.{near}
use Rattle.survey.proofs.Yes.{never, clash, when_true, when_false, and_no, and_yes}

-- the records that the FORK at a place asks for, and whether it is one
abbrev asking : (starts ends : List ℕ) (place size asked : ℕ) → Asked
asking starts ends place size asked = asked_for starts ends (record { start = place + 3; end = place + 3 + size }) asked

abbrev alone : (starts ends : List ℕ) (place size asked : ℕ) → Bool
alone starts ends place size asked = eqb (asking starts ends place size asked).number 1

module _ (bytes starts ends : List ℕ) (end target asked : ℕ) where
  -- where the walk stands, if each FORK passed has its thread
  abbrev told_at : ℕ → Walked → Trail
  told_at place v = cond (ones starts ends v.children asked) (walk_of starts ends asked place v) lost_walk

  abbrev finds : Option Walked → Trail
  finds o = told starts ends asked target o

  -- a walk past its target does not come to it
  past : (fuel place : ℕ) (v : Walked) → target < place → walk fuel bytes end target place v ≡ none
  unfolding walk
  past zero place v h = refl
  past (suc fuel) place v h = rw (walk, ne_eqb place target (λ e. omega arith)) (go (ltb place end) (λ q u l. past fuel q u l))
    where
      on : ((q : ℕ) (u : Walked) → target < q → walk fuel bytes end target q u ≡ none) → (o : Outcome code.Op) → going_on o (λ op. walk fuel bytes end target (next_place op place) (walk_op op place v)) ≡ none
      on ih (refused n m) = refl
      on ih (done op) = ih (next_place op place) (walk_op op place v) (let n = next_after op place in omega arith)

      go : (b : Bool) → ((q : ℕ) (u : Walked) → target < q → walk fuel bytes end target q u ≡ none) → ◌≡◌ {A = Option Walked} (elim b [
        | true ↦ going_on (op_at (drop place bytes)) (λ op. walk fuel bytes end target (next_place op place) (walk_op op place v))
        | false ↦ none
      ]) none
      go true ih = on ih (op_at (drop place bytes))
      go false ih = refl

  -- a FORK passed without its one thread stays so
  still : (op : code.Op) (place : ℕ) (v : Walked) → ones starts ends v.children asked ≡ false → ones starts ends (walk_op op place v).children asked ≡ false
  unfolding walk_op ones
  still (code.push n) place v e = e
  still code.add place v e = e
  still (code.read r) place v e = e
  still (code.write r) place v e = e
  still code.begin place v e = e
  still code.commit place v e = e
  still (code.fork size) place v e = and_no (alone starts ends place size (marks starts ends v.children asked)) e

  fails : (fuel place : ℕ) (v : Walked) → ones starts ends v.children asked ≡ false → finds (walk fuel bytes end target place v) ≡ lost_walk
  unfolding walk told
  fails zero place v e = refl
  fails (suc fuel) place v e = one (eqb place target) (λ q u f. fails fuel q u f)
    where
      Again : Type 0
      Again = (q : ℕ) (u : Walked) → ones starts ends u.children asked ≡ false → finds (walk fuel bytes end target q u) ≡ lost_walk

      three : Again → (o : Outcome code.Op) → finds (going_on o (λ op. walk fuel bytes end target (next_place op place) (walk_op op place v))) ≡ lost_walk
      three ih (refused n m) = refl
      three ih (done op) = ih (next_place op place) (walk_op op place v) (still op place v e)

      two : (b : Bool) → Again → finds (elim b [
        | true ↦ going_on (op_at (drop place bytes)) (λ op. walk fuel bytes end target (next_place op place) (walk_op op place v))
        | false ↦ none
      ]) ≡ lost_walk
      two true ih = three ih (op_at (drop place bytes))
      two false ih = refl

      one : (b : Bool) → Again → finds (elim b [
        | true ↦ some v
        | false ↦ elim (ltb place end) [
          | true ↦ going_on (op_at (drop place bytes)) (λ op. walk fuel bytes end target (next_place op place) (walk_op op place v))
          | false ↦ none
        ]
      ]) ≡ lost_walk
      one true ih = sym (when_false (ones starts ends v.children asked) (walk_of starts ends asked target v) lost_walk e)
      one false ih = two (ltb place end) ih

  -- one instruction
  rises : (place size : ℕ) (v : Walked) → rose (walk_of starts ends asked place v) size ≡ walk_of starts ends asked (place + size) (risen (suc v.height) v)
  unfolding rose walk_of
  rises place size v =
      ap (λ (h : ℕ). record { place = place + size; height = h; begin = v.begin; base = v.base; adds = v.adds; commits = v.commits; asked = marks starts ends v.children asked; good = true }) (add-one v.height)

  module _ (place : ℕ) (v : Walked) (all : ones starts ends v.children asked ≡ true) (l : place < target) where
    abbrev here : Trail
    here = walk_of starts ends asked place v

    abbrev behind : (size height : ℕ) → Trail
    behind size height =
        record { place = place + 3 + size; height = height; begin = v.begin; base = v.base; adds = v.adds; commits = v.commits; asked = (asking starts ends place size (marks starts ends v.children asked)).asked; good = true }

    abbrev steps_to : code.Op → Type 0
    steps_to op = step_to starts ends target here (show_op op) ≡ cond (ltb target (next_place op place)) lost_walk (told_at (next_place op place) (walk_op op place v))

    one_op : (op : code.Op) → steps_to op
    unfolding step_to next_place walk_op ones rise_to fork_to forked fall_to adds_after stay_to note_to walk_of marks
    one_op (code.push n) = ap (cond (ltb target (place + 5)) lost_walk) (rises place 5 v ∙ when_true _ _ lost_walk all)
    one_op code.add =
        ap (λ (n : ℕ). record { place = place + 1; height = v.height - 1; begin = v.begin; base = v.base; adds = cond (eqb v.begin 0) 0 n; commits = v.commits; asked = marks starts ends v.children asked; good = true }) (add-one v.adds)
        ∙ (when_true (ones starts ends v.children asked) _ lost_walk all ∙ near target (place + 1) _ (omega arith))
    one_op (code.read r) = ap (cond (ltb target (place + 2)) lost_walk) (rises place 2 v ∙ when_true _ _ lost_walk all)
    one_op (code.write r) = ap (cond (ltb target (place + 2)) lost_walk) (when_true (ones starts ends v.children asked) _ lost_walk all)
    one_op code.begin = when_true (ones starts ends v.children asked) _ lost_walk all ∙ near target (place + 1) _ (omega arith)
    one_op code.commit =
        ap (λ (n : ℕ). record { place = place + 1; height = v.height; begin = 0; base = 0; adds = 0; commits = n; asked = marks starts ends v.children asked; good = true }) (add-one v.commits)
        ∙ (when_true (ones starts ends v.children asked) _ lost_walk all ∙ near target (place + 1) _ (omega arith))
    one_op (code.fork size) =
        let n = alone starts ends place size (marks starts ends v.children asked) in
        ap
        (cond (ltb target (place + 3 + size)) lost_walk)
        (ap (λ (b : Bool). cond b (behind size (v.height + 1)) lost_walk) (and_yes n all)
        ∙ ap (λ (h : ℕ). cond (n && ones starts ends v.children asked) (behind size h) lost_walk) (add-one v.height))

-- what holds at the loop's head
pub record Loop (bytes starts ends : List ℕ) (start end target asked : ℕ) (w : Trail) : Type 0 where
  pub walked : Walked
  pub fuel : ℕ
  pub is : w ≡ walk_of starts ends asked w.place walked
  pub all : ones starts ends walked.children asked ≡ true
  pub low : walked.height ≤ w.place
  pub few : walked.adds ≤ w.place
  pub rare : walked.commits ≤ w.place
  pub enough : target < w.place + fuel
  pub same : told starts ends asked target (walk fuel bytes end target w.place walked) ≡ walk_from bytes starts ends start end target asked

module _ (bytes starts ends : List ℕ) (start end target asked : ℕ) where
  abbrev final : Trail
  final = walk_from bytes starts ends start end target asked

  abbrev At : Trail → Type 0
  At w = Loop bytes starts ends start end target asked w

  pub begins : At (record { place = start; height = 0; begin = 0; base = 0; adds = 0; commits = 0; asked = asked; good = true })
  unfolding walk_of marks ones walk_from
  begins = record { walked = unmoved; fuel = suc target; is = refl; all = refl; low = omega arith; few = omega arith; rare = omega arith; enough = omega arith; same = refl }

  module _ (w : Trail) (a : At w) where
    pub low_height : w.height ≤ w.place
    unfolding walk_of
    low_height = rw (ap (λ (x : Trail). x.height) a.is) a.low

    pub few_adds : w.adds ≤ w.place
    unfolding walk_of
    few_adds = rw (ap (λ (x : Trail). x.adds) a.is) a.few

    pub few_commits : w.commits ≤ w.place
    unfolding walk_of
    few_commits = rw (ap (λ (x : Trail). x.commits) a.is) a.rare

    abbrev from : ℕ → Trail
    from fuel = told starts ends asked target (walk fuel bytes end target w.place a.walked)

    -- the target
    pub arrives : w.place ≡ target → w ≡ final
    unfolding walk told
    arrives e = go a.fuel a.enough a.same
      where
        v : Walked
        v = a.walked

        go : (fuel : ℕ) → target < w.place + fuel → from fuel ≡ final → w ≡ final
        go zero l s = absurd (omega arith)
        go (suc fuel) l s =
            let x : from (suc fuel) ≡ cond (ones starts ends v.children asked) (walk_of starts ends asked target v) lost_walk = rw (walk, eq-eqb w.place target e) in
            a.is
            ∙ (ap (λ (p : ℕ). walk_of starts ends asked p v) e
            ∙ (when_true _ _ lost_walk a.all ∙ (sym x ∙ s)))

    -- past it
    pub misses : target < w.place → lost_walk ≡ final
    unfolding told
    misses l = sym (ap (told starts ends asked target) (past bytes starts ends end target asked a.fuel w.place a.walked l)) ∙ a.same

    module _ (n : w.place ≡ target → ⊥) where
      -- the end of its own code
      pub ends_early : end ≤ w.place → lost_walk ≡ final
      unfolding walk told
      ends_early h = go a.fuel a.same
        where
          go : (fuel : ℕ) → from fuel ≡ final → lost_walk ≡ final
          go zero s = s
          go (suc fuel) s =
              let x : from (suc fuel) ≡ lost_walk = rw (walk, ne_eqb w.place target n, le-ltb w.place end h) in
              sym x ∙ s

      -- one instruction further: the walk is lost, or it goes on
      module _ (l : w.place < target) (h : w.place < end) where
        data Next : Trail → Type 0 where
          stops : lost_walk ≡ final → Next lost_walk
          goes : {r : Trail} → At r → w.place < r.place → Next r

        -- the instruction that is there, the rest of the walk being told by this much fuel
        abbrev Rest : ℕ → code.Op → Type 0
        Rest fuel op = told starts ends asked target (walk fuel bytes end target (next_place op w.place) (walk_op op w.place a.walked)) ≡ final

        rises_less : (op : code.Op) → (walk_op op w.place a.walked).height ≤ next_place op w.place
        unfolding walk_op next_place
        rises_less (code.push n) = omega (arith, a.low)
        rises_less code.add = omega (arith, a.low)
        rises_less (code.read r) = omega (arith, a.low)
        rises_less (code.write r) = omega (arith, a.low)
        rises_less code.begin = omega (arith, a.low)
        rises_less code.commit = omega (arith, a.low)
        rises_less (code.fork size) = omega (arith, a.low)

        counts_less : (op : code.Op) → (walk_op op w.place a.walked).adds ≤ next_place op w.place
        unfolding walk_op next_place
        counts_less (code.push n) = omega (arith, a.few)
        counts_less code.add = go (eqb a.walked.begin 0)
          where
            go : (b : Bool) → cond b 0 (suc a.walked.adds) ≤ w.place + 1
            go true = omega arith
            go false = omega (arith, a.few)
        counts_less (code.read r) = omega (arith, a.few)
        counts_less (code.write r) = omega (arith, a.few)
        counts_less code.begin = omega arith
        counts_less code.commit = omega arith
        counts_less (code.fork size) = omega (arith, a.few)

        passes_less : (op : code.Op) → (walk_op op w.place a.walked).commits ≤ next_place op w.place
        unfolding walk_op next_place
        passes_less (code.push n) = omega (arith, a.rare)
        passes_less code.add = omega (arith, a.rare)
        passes_less (code.read r) = omega (arith, a.rare)
        passes_less (code.write r) = omega (arith, a.rare)
        passes_less code.begin = omega (arith, a.rare)
        passes_less code.commit = omega (arith, a.rare)
        passes_less (code.fork size) = omega (arith, a.rare)

        has_op : (op : code.Op) (fuel : ℕ) → target < w.place + suc fuel → Rest fuel op → Next (cond (ltb target (next_place op w.place)) lost_walk (told_at bytes starts ends end target asked (next_place op w.place) (walk_op op w.place a.walked)))
        unfolding told walk_of
        has_op op fuel f s = far (ltb target q) refl
          where
            q : ℕ
            q = next_place op w.place

            u : Walked
            u = walk_op op w.place a.walked

            one : (b : Bool) → ones starts ends u.children asked ≡ b → Next (cond b (walk_of starts ends asked q u) lost_walk)
            one true e =
                let n = next_after op w.place in
                goes (record { walked = u; fuel = fuel; is = refl; all = e; low = rises_less op; few = counts_less op; rare = passes_less op; enough = omega arith; same = s }) n
            one false e = stops (sym (fails bytes starts ends end target asked fuel q u e) ∙ s)

            far : (b : Bool) → ltb target q ≡ b → Next (cond b lost_walk (told_at bytes starts ends end target asked q u))
            far true e = stops (sym (ap (told starts ends asked target) (past bytes starts ends end target asked fuel q u (ltb-true target q e))) ∙ s)
            far false e = one (ones starts ends u.children asked) refl

        next : Next (step_to starts ends target w (shown_op (op_at (drop w.place bytes))))
        unfolding walk told step_to
        next = go a.fuel a.enough a.same (op_at (drop w.place bytes)) refl
          where
            go : (fuel : ℕ) → target < w.place + fuel → from fuel ≡ final → (o : Outcome code.Op) → op_at (drop w.place bytes) ≡ o → Next (step_to starts ends target w (shown_op o))
            go zero f s o e = absurd (omega arith)
            go (suc fuel) f s (refused m k) e =
                let x : from (suc fuel) ≡ lost_walk = rw (walk, ne_eqb w.place target n, lt-ltb w.place end h, e) in
                stops (sym x ∙ s)
            go (suc fuel) f s (done op) e =
                let x : from (suc fuel) ≡ told starts ends asked target (walk fuel bytes end target (next_place op w.place) (walk_op op w.place a.walked)) = rw (walk, ne_eqb w.place target n, lt-ltb w.place end h, e) in
                let y : step_to starts ends target w (show_op op) ≡ cond (ltb target (next_place op w.place)) lost_walk (told_at bytes starts ends end target asked (next_place op w.place) (walk_op op w.place a.walked)) = ap (λ (z : Trail). step_to starts ends target z (show_op op)) a.is ∙ one_op bytes starts ends end target asked w.place a.walked a.all l op in
                subst Next (sym y) (has_op op fuel f (sym x ∙ s))

        module _ (o : Op) (r : Trail) (eo : o ≡ shown_op (op_at (drop w.place bytes))) (er : r ≡ step_to starts ends target w o) where
          nexts : Next r
          nexts = subst Next (sym (er ∙ ap (step_to starts ends target w) eo)) next

          pub step_stops : r.good ≡ false → r ≡ final
          unfolding walk_of
          step_stops g = go nexts g
            where
              go : {x : Trail} → Next x → x.good ≡ false → x ≡ final
              go (stops e) g = e
              go (goes b m) g = absurd (clash g (ap (λ (z : Trail). z.good) b.is))

          pub step_goes : r.good ≡ true → At r
          unfolding lost_walk
          step_goes g = go nexts g
            where
              go : {x : Trail} → Next x → x.good ≡ true → At x
              go (stops e) g = never (sym g)
              go (goes b m) g = b

          pub step_further : r.good ≡ true → w.place < r.place
          unfolding lost_walk
          step_further g = go nexts g
            where
              go : {x : Trail} → Next x → x.good ≡ true → w.place < x.place
              go (stops e) g = never (sym g)
              go (goes b m) g = m
