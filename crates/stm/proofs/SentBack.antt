-- Between neighbouring commits no task is sent back twice, and before the first none is. Assumes nothing.
use Prim.Native.Nat.{ℕ, zero, suc, ◌+◌, ◌≤◌}
use mathlib.Core.Bool.{Bool, true, false, cond, ◌&&◌}
use mathlib.Core.Path.{◌≡◌, refl, ap, sym, subst, ◌∙◌}
use mathlib.Core.List.{List, [], ◌∷◌, ◌++◌}
use mathlib.Core.Option.{Option, none, some}
use native.Mathlib.Omega.{arith}
use borrow.Author.Tests.{eqb-true}
use lib.Dec.{eqb, ltb}
use lib.IntN.{ℤ}
use lib.ListN.{get_or, set}
use Rattle.stm.specs.InnerCells.{Cells}
use Rattle.stm.specs.InnerTasks.{Log, nothing, logged, Task, outside, inside, ended, Did, cell_at, found_in, found, stale_in, first_stale, overwritten, commits, step_outside, step_inside, step_task, System, task_at, started, did, next, events_of, start}
use Rattle.stm.specs.InnerMeaning.{dirty}
use Rattle.code.specs.Compile.{Code, PUSH, ADD, READ, WRITE, BEGIN, COMMIT, FORK, ε, ◌⨾◌}
use Rattle.stm.specs.Events.{Event, committed, sent_back, counted, is_commit, is_back, backs}
use Rattle.word.specs.Sum.{Rule}

pub never : {A : Type 0} → ◌≡◌ {A = Bool} true false → A
never e = absurd (let z : ◌≡◌ {A = ℕ} 0 1 = cc in omega arith)

pub no : {A : Type 0} → ◌≡◌ {A = Bool} false true → A
no e = absurd (let z : ◌≡◌ {A = ℕ} 0 1 = cc in omega arith)

module _ (K : Cells) where
  -- ---- one log
  -- what a READ of the table logs is as stale as nothing
  look_stale : (r : Log K.Cell) (h : List K.Cell) (v u : ℕ) → r v ≡ none → stale_in K (logged r v (cell_at K h v) u) (cell_at K h u) ≡ stale_in K (r u) (cell_at K h u)
  look_stale r h v u e = go (eqb u v) refl
    where
      go : (b : Bool) → eqb u v ≡ b → stale_in K (cond b (some (cell_at K h v)) (r u)) (cell_at K h u) ≡ stale_in K (r u) (cell_at K h u)
      go true x = subst (λ (w : ℕ). stale_in K (some (cell_at K h v)) (cell_at K h w) ≡ stale_in K (r w) (cell_at K h w)) (sym (eqb-true u v x)) (rw e (K.just_read (cell_at K h v)))
      go false x = refl

  found_stale : (r : Log K.Cell) (w : Log ℤ) (h : List K.Cell) (v u : ℕ) → stale_in K ((found K h r w v).reads u) (cell_at K h u) ≡ stale_in K (r u) (cell_at K h u)
  unfolding found
  found_stale r w h v u = go (w v) (r v) refl
    where
      go : (a : Option ℤ) (b : Option K.Cell) → r v ≡ b → stale_in K ((found_in K a b (cell_at K h v) r v).reads u) (cell_at K h u) ≡ stale_in K (r u) (cell_at K h u)
      go (some n) b e = refl
      go none (some c) e = refl
      go none none e = look_stale r h v u e

  same_first : (left v : ℕ) (r q : Log K.Cell) (h : List K.Cell) → ((u : ℕ) → stale_in K (q u) (cell_at K h u) ≡ stale_in K (r u) (cell_at K h u)) → first_stale K left v q h ≡ first_stale K left v r h
  unfolding first_stale
  same_first zero v r q h e = refl
  same_first (suc left) v r q h e = go (stale_in K (q v) (cell_at K h v)) (stale_in K (r v) (cell_at K h v)) (e v) (same_first left (suc v) r q h e)
    where
      go : (a b : Bool) → a ≡ b → {x y : ℕ} → x ≡ y → ◌≡◌ {A = ℕ} (elim a [ true ↦ v | false ↦ x ]) (elim b [ true ↦ v | false ↦ y ])
      go true true d z = refl
      go true false d z = never d
      go false true d z = no d
      go false false d z = z

  -- a READ makes no register of the read log stale, nor one fresh
  pub found_dirty : (r : Log K.Cell) (w : Log ℤ) (h : List K.Cell) (v : ℕ) → ltb (first_stale K 64 0 (found K h r w v).reads h) 64 ≡ ltb (first_stale K 64 0 r h) 64
  found_dirty r w h v = rw (same_first 64 0 r (found K h r w v).reads h (found_stale r w h v))

  nothing_first : (left v : ℕ) (h : List K.Cell) → first_stale K left v nothing h ≡ left + v
  unfolding first_stale
  nothing_first zero v h = omega arith
  nothing_first (suc left) v h = nothing_first left (suc v) h ∙ omega arith

  -- an empty read log has no stale register
  pub nothing_dirty : (h : List K.Cell) → ltb (first_stale K 64 0 nothing h) 64 ≡ false
  nothing_dirty h = rw (nothing_first 64 0 h)

  -- ---- one step
  module _ (sum : Rule) where
    -- what a step does to the table and to the staleness of its task
    pub record StepStaleness (h : List K.Cell) (t : Task K) (d : Did K) : Type 0 where
      -- no step but a COMMIT that takes effect changes the table
      pub table_kept : is_commit d.event ≡ false → d.table ≡ h
      -- none makes its task dirty
      pub stays_clean : dirty K h t ≡ false → dirty K d.table d.task ≡ false
      -- only a dirty task is sent back
      pub was_dirty : is_back d.event ≡ true → dirty K h t ≡ true
      -- a task that is sent back is clean
      pub back_clean : is_back d.event ≡ true → dirty K d.table d.task ≡ false
      -- a task that has committed is clean, and was
      pub commit_clean : is_commit d.event ≡ true → dirty K h t ≡ false
      pub committed_clean : is_commit d.event ≡ true → (g : List K.Cell) → dirty K g d.task ≡ false

    same_task : (h : List K.Cell) (t u : Task K) (e : Event) {over : ℕ} → is_commit e ≡ false → is_back e ≡ false → dirty K h u ≡ dirty K h t → StepStaleness h t (record { task = u; table = h; children = []; event = e; over = over })
    same_task h t u e c b d = record {
      table_kept = λ x. refl;
      stays_clean = λ x. d ∙ x;
      was_dirty = λ x. no (sym b ∙ x);
      back_clean = λ x. no (sym b ∙ x);
      commit_clean = λ x. no (sym c ∙ x);
      committed_clean = λ x g. no (sym c ∙ x);
    }

    outside_staleness : (h : List K.Cell) (c : Code) (σ : List ℤ) → StepStaleness h (outside c σ) (step_outside K sum h c σ)
    unfolding step_outside
    outside_staleness h ε σ = same_task h _ _ _ refl refl refl
    outside_staleness h (PUSH n ⨾ c) σ = same_task h _ _ _ refl refl refl
    outside_staleness h (ADD ⨾ c) [] = same_task h _ _ _ refl refl refl
    outside_staleness h (ADD ⨾ c) (n ∷ []) = same_task h _ _ _ refl refl refl
    outside_staleness h (ADD ⨾ c) (n ∷ m ∷ σ) = same_task h _ _ _ refl refl refl
    outside_staleness h (READ v ⨾ c) σ = same_task h _ _ _ refl refl refl
    outside_staleness h (WRITE v ⨾ c) σ = same_task h _ _ _ refl refl refl
    outside_staleness h (BEGIN ⨾ c) σ = same_task h _ _ _ refl refl (nothing_dirty h)
    outside_staleness h (COMMIT ⨾ c) σ = same_task h _ _ _ refl refl refl
    outside_staleness h (FORK k ⨾ c) σ = record {
      table_kept = λ x. refl;
      stays_clean = λ x. refl;
      was_dirty = λ x. no x;
      back_clean = λ x. refl;
      commit_clean = λ x. refl;
      committed_clean = λ x g. refl;
    }

    commit_staleness : (h : List K.Cell) (body : Code) (base : List ℤ) (c : Code) (n : ℤ) (σ : List ℤ) (r : Log K.Cell) (w : Log ℤ) (over : ℕ) → StepStaleness h (inside body base (COMMIT ⨾ c) (n ∷ σ) r w over) (commits K h body base c n w over (first_stale K 64 0 r h))
    commit_staleness h body base c n σ r w over = go (ltb (first_stale K 64 0 r h) 64) refl
      where
        result : Bool → Did K
        result b = elim b [
          | true ↦ record { task = outside (BEGIN ⨾ body) base; table = h; children = []; event = sent_back (first_stale K 64 0 r h); over = 0 }
          | false ↦ record { task = outside c (n ∷ base); table = overwritten K 64 0 w h; children = []; event = committed; over = over }
        ]

        go : (b : Bool) → ltb (first_stale K 64 0 r h) 64 ≡ b → StepStaleness h (inside body base (COMMIT ⨾ c) (n ∷ σ) r w over) (result b)
        go true e = record {
          table_kept = λ x. refl;
          stays_clean = λ x. refl;
          was_dirty = λ x. e;
          back_clean = λ x. refl;
          commit_clean = λ x. no x;
          committed_clean = λ x g. refl;
        }
        go false e = record {
          table_kept = λ x. never x;
          stays_clean = λ x. refl;
          was_dirty = λ x. no x;
          back_clean = λ x. refl;
          commit_clean = λ x. e;
          committed_clean = λ x g. refl;
        }

    inside_staleness : (h : List K.Cell) (body : Code) (base : List ℤ) (c : Code) (σ : List ℤ) (r : Log K.Cell) (w : Log ℤ) (over : ℕ) → StepStaleness h (inside body base c σ r w over) (step_inside K sum h body base c σ r w over)
    unfolding step_inside
    inside_staleness h body base ε σ r w over = same_task h _ _ _ refl refl refl
    inside_staleness h body base (PUSH n ⨾ c) σ r w over = same_task h _ _ _ refl refl refl
    inside_staleness h body base (ADD ⨾ c) [] r w over = same_task h _ _ _ refl refl refl
    inside_staleness h body base (ADD ⨾ c) (n ∷ []) r w over = same_task h _ _ _ refl refl refl
    inside_staleness h body base (ADD ⨾ c) (n ∷ m ∷ σ) r w over = same_task h _ _ _ refl refl refl
    inside_staleness h body base (READ v ⨾ c) σ r w over = same_task h _ _ _ refl refl (found_dirty r w h v)
    inside_staleness h body base (WRITE v ⨾ c) [] r w over = same_task h _ _ _ refl refl refl
    inside_staleness h body base (WRITE v ⨾ c) (n ∷ σ) r w over = same_task h _ _ _ refl refl refl
    inside_staleness h body base (BEGIN ⨾ c) σ r w over = same_task h _ _ _ refl refl refl
    inside_staleness h body base (COMMIT ⨾ c) [] r w over = same_task h _ _ _ refl refl refl
    inside_staleness h body base (COMMIT ⨾ c) (n ∷ σ) r w over = commit_staleness h body base c n σ r w over
    inside_staleness h body base (FORK k ⨾ c) σ r w over = same_task h _ _ _ refl refl refl

    -- every step of every task
    pub staleness : (h : List K.Cell) (t : Task K) → StepStaleness h t (step_task K sum h t)
    unfolding step_task
    staleness h (outside c σ) = outside_staleness h c σ
    staleness h (inside body base c σ r w over) = inside_staleness h body base c σ r w over

  -- ---- one task among the others
  at_set : (P : Task K → Type 0) (ts : List (Task K)) (j : ℕ) (t : Task K) (i : ℕ) → P (get_or ts i (ended K)) → (i ≡ j → P t) → P (get_or (set ts j t) i (ended K))
  at_set P [] j t i h k = h
  at_set P (y ∷ ys) zero t zero h k = k refl
  at_set P (y ∷ ys) zero t (suc i) h k = h
  at_set P (y ∷ ys) (suc j) t zero h k = h
  at_set P (y ∷ ys) (suc j) t (suc i) h k = at_set P ys j t i h (λ e. k (ap suc e))

  at_append : (P : Task K → Type 0) (xs ys : List (Task K)) (i : ℕ) → P (get_or xs i (ended K)) → ((k : ℕ) → P (get_or ys k (ended K))) → P (get_or (xs ++ ys) i (ended K))
  at_append P [] ys i h k = k i
  at_append P (x ∷ xs) ys zero h k = h
  at_append P (x ∷ xs) ys (suc i) h k = at_append P xs ys i h k

  -- what holds of task i behind a step of task j
  pub at_next : (P : Task K → Type 0) (ts : List (Task K)) (j : ℕ) (t : Task K) (ks : List Code) (i : ℕ) → P (get_or ts i (ended K)) → (i ≡ j → P t) → ((k : ℕ) → P (get_or (started K ks) k (ended K))) → P (get_or (set ts j t ++ started K ks) i (ended K))
  at_next P ts j t ks i h k c = at_append P (set ts j t) (started K ks) i (at_set P ts j t i h k) c

  at_itself : (P : Task K → Type 0) (ts : List (Task K)) (j : ℕ) (t : Task K) → P t → P (ended K) → P (get_or (set ts j t) j (ended K))
  at_itself P [] j t h k = k
  at_itself P (y ∷ ys) zero t h k = h
  at_itself P (y ∷ ys) (suc j) t h k = at_itself P ys j t h k

  started_clean : (h : List K.Cell) (ks : List Code) (i : ℕ) → dirty K h (get_or (started K ks) i (ended K)) ≡ false
  started_clean h [] i = refl
  started_clean h (k ∷ ks) zero = refl
  started_clean h (k ∷ ks) (suc i) = started_clean h ks i

module _ (K : Cells) (sum : Rule) where
  -- task i is clean in the system
  abbrev CleanIn : System K → ℕ → Type 0
  CleanIn s i = dirty K s.table (task_at K s i) ≡ false

  -- no pick but a COMMIT that takes effect makes a clean task dirty
  pick_clean : (s : System K) (i j : ℕ) → CleanIn s i → is_commit (did K sum s j).event ≡ false → CleanIn (next K sum s j) i
  unfolding next
  pick_clean s i j c e =
      let f = staleness K sum s.table (task_at K s j) in
      let d = did K sum s j in
      at_next K (λ t. dirty K d.table t ≡ false) s.tasks j d.task d.children i
      (subst (λ h. dirty K h (task_at K s i) ≡ false) (sym (f.table_kept e)) c)
      (λ x. f.stays_clean (subst (λ (k : ℕ). CleanIn s k) x c))
      (started_clean K d.table d.children)

  clean_pick : (s : System K) (i : ℕ) → CleanIn s i → is_back (did K sum s i).event ≡ false
  clean_pick s i c = go (is_back (did K sum s i).event) refl
    where
      go : (b : Bool) → is_back (did K sum s i).event ≡ b → b ≡ false
      go true e = never (sym ((staleness K sum s.table (task_at K s i)).was_dirty e) ∙ c)
      go false e = refl

  back_clean_in : (s : System K) (i : ℕ) → is_back (did K sum s i).event ≡ true → CleanIn (next K sum s i) i
  unfolding next
  back_clean_in s i e =
      let d = did K sum s i in
      let f = staleness K sum s.table (task_at K s i) in
      at_append K (λ t. dirty K d.table t ≡ false) (set s.tasks i d.task) (started K d.children) i
      (at_itself K (λ t. dirty K d.table t ≡ false) s.tasks i d.task (f.back_clean e) refl)
      (started_clean K d.table d.children)

  -- none of these events is a commit
  record Quiet (e : Event) (n : ℕ) : Type 0 where
    now : is_commit e ≡ false
    later : n ≡ 0

  quiet : (e : Event) (n : ℕ) → cond (is_commit e) (suc n) n ≡ 0 → Quiet e n
  quiet e n = go (is_commit e) refl
    where
      go : (b : Bool) → is_commit e ≡ b → cond b (suc n) n ≡ 0 → Quiet e n
      go true t z = absurd (omega arith)
      go false t z = record { now = t; later = z }

  -- ---- runs in which no commit takes effect
  clean_run : (is : List ℕ) (s : System K) (i : ℕ) → CleanIn s i → counted is_commit (events_of K sum s is) ≡ 0 → backs i (events_of K sum s is) ≡ 0
  unfolding events_of counted backs
  clean_run [] s i c z = refl
  clean_run (j ∷ is) s i c z =
      let q = quiet (did K sum s j).event (counted is_commit (events_of K sum (next K sum s j) is)) z in
      let r = clean_run is (next K sum s j) i (pick_clean s i j c q.now) q.later in
      go (eqb j i) refl r
    where
      go : (b : Bool) → eqb j i ≡ b → backs i (events_of K sum (next K sum s j) is) ≡ 0 → cond (b && is_back (did K sum s j).event) (suc (backs i (events_of K sum (next K sum s j) is))) (backs i (events_of K sum (next K sum s j) is)) ≡ 0
      go true e r =
          let n : is_back (did K sum s j).event ≡ false = clean_pick s j (subst (λ (k : ℕ). CleanIn s k) (sym (eqb-true j i e)) c) in
          rw n r
      go false e r = r

  -- no task is sent back twice between neighbouring commits or after the last: not by any picks from any system, as long as no commit
  -- takes effect
  pub not_twice : (is : List ℕ) (s : System K) (i : ℕ) → counted is_commit (events_of K sum s is) ≡ 0 → backs i (events_of K sum s is) ≤ 1
  unfolding events_of counted backs
  not_twice [] s i z = omega arith
  not_twice (j ∷ is) s i z =
      let q = quiet (did K sum s j).event (counted is_commit (events_of K sum (next K sum s j) is)) z in
      go (eqb j i) (is_back (did K sum s j).event) refl refl q.later (not_twice is (next K sum s j) i q.later)
    where
      go : (b d : Bool) → eqb j i ≡ b → is_back (did K sum s j).event ≡ d → counted is_commit (events_of K sum (next K sum s j) is) ≡ 0 → backs i (events_of K sum (next K sum s j) is) ≤ 1 → cond (b && d) (suc (backs i (events_of K sum (next K sum s j) is))) (backs i (events_of K sum (next K sum s j) is)) ≤ 1
      go true true e d z r =
          let c : CleanIn (next K sum s j) i = subst (λ (k : ℕ). CleanIn (next K sum s j) k) (eqb-true j i e) (back_clean_in s j d) in
          let n = clean_run is (next K sum s j) i c z in
          omega arith
      go true false e d z r = r
      go false d e f z r = r

  start_clean : (c : Code) (i : ℕ) → CleanIn (start K c) i
  unfolding start
  start_clean c zero = refl
  start_clean c (suc i) = refl

  -- none is sent back before the first commit
  pub none_before_first : (c : Code) (is : List ℕ) (i : ℕ) → counted is_commit (events_of K sum (start K c) is) ≡ 0 → backs i (events_of K sum (start K c) is) ≡ 0
  none_before_first c is i = clean_run is (start K c) i (start_clean c i)
