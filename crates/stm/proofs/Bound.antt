-- The bounds of demand 3 for the machine with logs: threads, and picks that are not idle. Assumes nothing.
use Prim.Native.Nat.{ℕ, zero, suc, ◌+◌, ◌*◌, ◌-◌, ◌<◌, ◌≤◌}
use mathlib.Core.Bool.{Bool, true, false, cond, not}
use mathlib.Core.Path.{◌≡◌, refl, ap, sym, subst, ◌∙◌}
use mathlib.Core.List.{List, [], ◌∷◌, ◌++◌}
use native.Mathlib.Nat.{mul-suc, mul_comm, mul-le-mul_left, mul-zero}
use native.Mathlib.Omega.{arith}
use borrow.Author.Tests.{ltb-true, ltb-false}
use lib.Dec.{ltb}
use lib.IntN.{ℤ}
use lib.ListN.{length, get_or, set, length-set, length-append}
use lib.Seq.{get_or-set_same}
use Rattle.stm.specs.InnerCells.{Cells}
use Rattle.stm.specs.InnerTasks.{Log, Task, outside, inside, ended, Did, first_stale, overwritten, commits, stays, step_outside, step_inside, step_task, System, task_at, started, did, next, end_of, events_of, start}
use Rattle.stm.specs.InnerMeaning.{TakesOutside, TakesInside, Outside, Inside, behind, begins_in, begins, forks_in, forks_of, to_come, commits_to_come, forks_to_come, dirty, total}
use Rattle.stm.proofs.Codes.{proc_runs}
use Rattle.stm.proofs.SentBack.{StepStaleness, staleness, at_next, never, no}
use Rattle.code.specs.Compile.{Code, PUSH, ADD, READ, WRITE, BEGIN, COMMIT, FORK, ε, ◌⨾◌, compile_t, compile_p}
use Rattle.code.specs.Counts.{instruction_count, code_count, until_commit, longest_at, longest_in}
use Rattle.code.proofs.Heights.{count_proc, longest_proc}
use Rattle.stm.specs.Events.{Event, idle, pushed, summed, forked, begun, looked, wrote, committed, sent_back, counted, is_idle, is_commit, is_back}
use Rattle.script.specs.Tree.{Tran, ValT, AddT, Read, Write, Proc, ValP, AddP, Atomic, Fork}
use Rattle.script.specs.Count.{forks, atomics, threads, instructions, longest, bound}
use Rattle.script.specs.Limits.{ValuedP}
use Rattle.word.specs.Sum.{Rule}

-- ---- code
-- code inside a transaction has no BEGIN and over no FORK up to its COMMIT
record Closed (c : Code) : Type 0 where
  count_behind : code_count c ≡ until_commit c + code_count (behind c)
  begins_behind : begins c ≡ begins (behind c)
  forks_behind : forks_of c ≡ forks_of (behind c)
  longest_behind : longest_in c ≡ longest_in (behind c)

closed : (c : Code) (h b : ℕ) → Inside c h b → Closed c
unfolding Inside TakesInside code_count instruction_count until_commit behind begins begins_in forks_of forks_in longest_in longest_at
closed ε h b x = absurd x
closed (PUSH n ⨾ c) h b x =
    let r = closed c (suc h) b x in
    record { count_behind = omega (arith, r.count_behind); begins_behind = omega (arith, r.begins_behind); forks_behind = omega (arith, r.forks_behind); longest_behind = omega (arith, r.longest_behind) }
closed (ADD ⨾ c) zero b x = absurd x
closed (ADD ⨾ c) (suc zero) b x = absurd x
closed (ADD ⨾ c) (suc (suc h)) b x =
    let r = closed c (suc h) b x in
    record { count_behind = omega (arith, r.count_behind); begins_behind = omega (arith, r.begins_behind); forks_behind = omega (arith, r.forks_behind); longest_behind = omega (arith, r.longest_behind) }
closed (READ v ⨾ c) h b x =
    let r = closed c (suc h) b x.1 in
    record { count_behind = omega (arith, r.count_behind); begins_behind = omega (arith, r.begins_behind); forks_behind = omega (arith, r.forks_behind); longest_behind = omega (arith, r.longest_behind) }
closed (WRITE v ⨾ c) zero b x = absurd x.1
closed (WRITE v ⨾ c) (suc h) b x =
    let r = closed c (suc h) b x.1 in
    record { count_behind = omega (arith, r.count_behind); begins_behind = omega (arith, r.begins_behind); forks_behind = omega (arith, r.forks_behind); longest_behind = omega (arith, r.longest_behind) }
closed (BEGIN ⨾ c) h b x = absurd x
closed (COMMIT ⨾ c) h b x = record { count_behind = refl; begins_behind = omega arith; forks_behind = omega arith; longest_behind = omega arith }
closed (FORK k ⨾ c) h b x = absurd x

-- a script's code runs from an empty stack
pub outside_proc : (p : Proc) → ValuedP p → Outside (compile_p p ε) 0
unfolding Outside
outside_proc p v = proc_runs p ε 0 v refl

begins_tran : (t : Tran) (c : Code) → begins (compile_t t c) ≡ begins c
unfolding compile_t begins begins_in
begins_tran (ValT n) c = omega arith
begins_tran (AddT a b) c = rw (begins_tran a (compile_t b (ADD ⨾ c)), begins_tran b (ADD ⨾ c)) (omega arith)
begins_tran (Read v) c = omega arith
begins_tran (Write v t) c = rw (begins_tran t (WRITE v ⨾ c)) (omega arith)

begins_then : (p : Proc) (c : Code) → begins (compile_p p c) ≡ atomics p + begins c
unfolding compile_p begins begins_in atomics
begins_then (ValP n) c = omega arith
begins_then (AddP a b) c = rw (begins_then a (compile_p b (ADD ⨾ c)), begins_then b (ADD ⨾ c)) (omega arith)
begins_then (Atomic t) c = rw (begins_tran t (COMMIT ⨾ c)) (omega arith)
begins_then (Fork p) c = rw (begins_then p ε) (omega arith)

-- K is the number of BEGINs
pub begins_proc : (p : Proc) → begins (compile_p p ε) ≡ atomics p
unfolding begins
begins_proc p = rw (begins_then p ε) (omega arith)

forks_tran : (t : Tran) (c : Code) → forks_of (compile_t t c) ≡ forks_of c
unfolding compile_t forks_of forks_in
forks_tran (ValT n) c = omega arith
forks_tran (AddT a b) c = rw (forks_tran a (compile_t b (ADD ⨾ c)), forks_tran b (ADD ⨾ c)) (omega arith)
forks_tran (Read v) c = omega arith
forks_tran (Write v t) c = rw (forks_tran t (WRITE v ⨾ c)) (omega arith)

forks_then : (p : Proc) (c : Code) → forks_of (compile_p p c) ≡ forks p + forks_of c
unfolding compile_p forks_of forks_in forks
forks_then (ValP n) c = omega arith
forks_then (AddP a b) c = rw (forks_then a (compile_p b (ADD ⨾ c)), forks_then b (ADD ⨾ c)) (omega arith)
forks_then (Atomic t) c = rw (forks_tran t (COMMIT ⨾ c)) (omega arith)
forks_then (Fork p) c = rw (forks_then p ε) (omega arith)

-- the FORKs of the code are those of the tree
pub forks_proc : (p : Proc) → forks_of (compile_p p ε) ≡ forks p
unfolding forks_of
forks_proc p = rw (forks_then p ε) (omega arith)

-- ---- numbers
abbrev pub one : Bool → ℕ
one true = 1
one false = 0

more : (m n : ℕ) (b : Bool) → m * (n + one b) ≡ m * n + cond b m 0
more m n true = ap (λ (k : ℕ). m * k) (let z : n + 1 ≡ suc n = omega arith in z) ∙ mul-suc m n
more m n false = ap (λ (k : ℕ). m * k) (let z : n + 0 ≡ n = omega arith in z) ∙ (let z : m * n ≡ m * n + 0 = omega arith in z)

-- ---- sums over tasks
module _ {K : Cells} where
  total_append : (f : Task K → ℕ) (xs ys : List (Task K)) → total f (xs ++ ys) ≡ total f xs + total f ys
  unfolding total
  total_append f [] ys = omega arith
  total_append f (x ∷ xs) ys = omega (arith, total_append f xs ys)

  total_set : (f : Task K → ℕ) (ts : List (Task K)) (i : ℕ) (t : Task K) → i < length ts → total f (set ts i t) + f (get_or ts i (ended K)) ≡ total f ts + f t
  unfolding total
  total_set f [] i t l = absurd (omega arith)
  total_set f (x ∷ xs) zero t l = omega arith
  total_set f (x ∷ xs) (suc i) t l = omega (arith, total_set f xs i t (omega arith))

  -- one task set, and more behind
  total_next : (f : Task K → ℕ) (ts : List (Task K)) (i : ℕ) (t : Task K) (ys : List (Task K)) → i < length ts → total f (set ts i t ++ ys) + f (get_or ts i (ended K)) ≡ total f ts + (f t + total f ys)
  total_next f ts i t ys l = omega (arith, total_set f ts i t l, total_append f (set ts i t) ys)

  total_below : (f g : Task K → ℕ) → ((t : Task K) → f t ≤ g t) → (ts : List (Task K)) → total f ts ≤ total g ts
  unfolding total
  total_below f g h [] = omega arith
  total_below f g h (t ∷ ts) = omega (arith, h t, total_below f g h ts)

  total_length : (f : Task K → ℕ) → ((t : Task K) → f t ≤ 1) → (ts : List (Task K)) → total f ts ≤ length ts
  unfolding total
  total_length f h [] = omega arith
  total_length f h (t ∷ ts) = omega (arith, h t, total_length f h ts)

  -- one of them counts nothing
  total_but : (f : Task K → ℕ) → ((t : Task K) → f t ≤ 1) → (ts : List (Task K)) (i : ℕ) → i < length ts → f (get_or ts i (ended K)) ≡ 0 → total f ts + 1 ≤ length ts
  unfolding total
  total_but f h [] i l z = absurd (omega arith)
  total_but f h (t ∷ ts) zero l z = omega (arith, total_length f h ts)
  total_but f h (t ∷ ts) (suc i) l z = omega (arith, h t, total_but f h ts i (omega arith) z)

-- 1 if dirty
abbrev pub dirty_count : (K : Cells) → List K.Cell → Task K → ℕ
dirty_count K h t = one (dirty K h t)

one_most : (b : Bool) → one b ≤ 1
one_most true = omega arith
one_most false = omega arith

dirty_open : (K : Cells) (h : List K.Cell) (t : Task K) → dirty_count K h t ≤ commits_to_come K t
dirty_open K h (outside c σ) = omega arith
dirty_open K h (inside body base c σ r w over) = omega (arith, one_most (ltb (first_stale K 64 0 r h) 64))

children_clean : (K : Cells) (h : List K.Cell) (ks : List Code) → total (dirty_count K h) (started K ks) ≡ 0
unfolding total
children_clean K h [] = refl
children_clean K h (k ∷ ks) = omega (arith, children_clean K h ks)

-- ---- tasks that are well formed, their transactions being at most M long
-- an open transaction: its BEGIN's code runs from its BEGIN's stack, and both codes have the same behind the COMMIT
pub record Begun (M : ℕ) (body : Code) (base : List ℤ) (code : Code) (stack : List ℤ) : Type 0 where
  pub goes-on : Inside code (length stack) (length base)
  pub ready : Outside (BEGIN ⨾ body) (length base)
  pub same_behind : behind code ≡ behind body
  pub body_longest : suc (until_commit body) ≤ M
  pub code_longest : longest_in code ≤ M

abbrev pub Formed : (K : Cells) (M : ℕ) → Task K → Type 0
Formed K M (outside c σ) = Outside c (length σ) × (longest_in c ≤ M)
Formed K M (inside body base c σ r w over) = Begun M body base c σ

module _ (K : Cells) (M : ℕ) where
  -- what a step does to what is to come
  pub record Moves (t : Task K) (d : Did K) : Type 0 where
    pub work : one (not (is_idle d.event)) + (to_come K d.task + total (to_come K) (started K d.children)) ≤ to_come K t + cond (is_back d.event) M 0
    pub least : to_come K t + one (is_back d.event) ≤ one (not (is_idle d.event)) + (to_come K d.task + total (to_come K) (started K d.children))
    pub commit : one (is_commit d.event) + (commits_to_come K d.task + total (commits_to_come K) (started K d.children)) ≡ commits_to_come K t
    pub fork : length (started K d.children) + (forks_to_come K d.task + total (forks_to_come K) (started K d.children)) ≡ forks_to_come K t
    pub formed : Formed K M d.task
    pub children_formed : (k : ℕ) → Formed K M (get_or (started K d.children) k (ended K))

  ended_formed : Formed K M (ended K)
  unfolding Outside longest_in
  ended_formed = (refl, omega arith)

  idles : (h : List K.Cell) (t : Task K) → Formed K M t → Moves t (stays K t h)
  unfolding total
  idles h t f = record { work = omega arith; least = omega arith; commit = omega arith; fork = omega arith; formed = f; children_formed = λ k. ended_formed }

  -- a step of an instruction other than FORK and COMMIT
  passes : (h : List K.Cell) (t u : Task K) (e : Event) {over : ℕ} → is_idle e ≡ false → is_commit e ≡ false → is_back e ≡ false → to_come K t ≡ suc (to_come K u) → commits_to_come K u ≡ commits_to_come K t → forks_to_come K u ≡ forks_to_come K t → Formed K M u → Moves t (record { task = u; table = h; children = []; event = e; over = over })
  unfolding total
  passes h t u e i c b x y z f = record { work = rw (i, x) (omega arith); least = rw (i, x, b) (omega arith); commit = rw (c, y) (omega arith); fork = rw z (omega arith); formed = f; children_formed = λ k. ended_formed }

  module _ (sum : Rule) where
    outside_moves : (h : List K.Cell) (c : Code) (σ : List ℤ) → Formed K M (outside c σ) → Moves (outside c σ) (step_outside K sum h c σ)
    unfolding step_outside Outside TakesOutside code_count instruction_count begins begins_in forks_of forks_in longest_in longest_at total
    outside_moves h ε σ f = idles h _ f
    outside_moves h (PUSH n ⨾ c) σ f = passes h _ _ _ refl refl refl (omega arith) (omega arith) (omega arith) (f.0, omega (arith, f.1))
    outside_moves h (ADD ⨾ c) [] f = idles h _ f
    outside_moves h (ADD ⨾ c) (n ∷ []) f = idles h _ f
    outside_moves h (ADD ⨾ c) (n ∷ m ∷ σ) f = passes h _ _ _ refl refl refl (omega arith) (omega arith) (omega arith) (f.0, omega (arith, f.1))
    outside_moves h (READ v ⨾ c) σ f = idles h _ f
    outside_moves h (WRITE v ⨾ c) σ f = idles h _ f
    outside_moves h (BEGIN ⨾ c) σ f = passes h _ _ _ refl refl refl (omega arith) (omega arith) (omega arith) (record { goes-on = f.0; ready = f.0; same_behind = refl; body_longest = omega (arith, f.1); code_longest = omega (arith, f.1) })
    outside_moves h (COMMIT ⨾ c) σ f = idles h _ f
    outside_moves h (FORK k ⨾ c) σ f = record {
      work = omega arith;
      least = omega arith;
      commit = omega arith;
      fork = omega arith;
      formed = (f.0.1, omega (arith, f.1));
      children_formed = child;
    }
      where
        child : (j : ℕ) → Formed K M (get_or (started K (k ∷ [])) j (ended K))
        child zero = (f.0.0, omega (arith, f.1))
        child (suc j) = ended_formed

    commit_moves : (h : List K.Cell) (body : Code) (base : List ℤ) (c : Code) (n : ℤ) (σ : List ℤ) (r : Log K.Cell) (w : Log ℤ) (over : ℕ) → Begun M body base (COMMIT ⨾ c) (n ∷ σ) → Moves (inside body base (COMMIT ⨾ c) (n ∷ σ) r w over) (commits K h body base c n w over (first_stale K 64 0 r h))
    unfolding Outside TakesOutside Inside TakesInside code_count instruction_count begins begins_in forks_of forks_in longest_in longest_at behind total
    commit_moves h body base c n σ r w over f = go (ltb (first_stale K 64 0 r h) 64)
      where
        result : Bool → Did K
        result b = elim b [
          | true ↦ record { task = outside (BEGIN ⨾ body) base; table = h; children = []; event = sent_back (first_stale K 64 0 r h); over = 0 }
          | false ↦ record { task = outside c (n ∷ base); table = overwritten K 64 0 w h; children = []; event = committed; over = over }
        ]

        whole : Closed body
        whole = closed body 0 (length base) f.ready

        x : code_count body ≡ until_commit body + code_count c
        x = whole.count_behind ∙ ap (λ (k : Code). until_commit body + code_count k) (sym f.same_behind)

        y : begins body ≡ begins c
        y = whole.begins_behind ∙ ap begins (sym f.same_behind)

        z : forks_of body ≡ forks_of c
        z = whole.forks_behind ∙ ap forks_of (sym f.same_behind)

        l : longest_in body ≡ longest_in c
        l = whole.longest_behind ∙ ap longest_in (sym f.same_behind)

        go : (b : Bool) → Moves (inside body base (COMMIT ⨾ c) (n ∷ σ) r w over) (result b)
        go true = record {
          work = omega (arith, x, f.body_longest);
          least = omega (arith, x);
          commit = omega (arith, y);
          fork = omega (arith, z);
          formed = (f.ready, omega (arith, l, f.body_longest, f.code_longest));
          children_formed = λ k. ended_formed;
        }
        go false = record {
          work = omega arith;
          least = omega arith;
          commit = omega arith;
          fork = omega arith;
          formed = (f.goes-on.1, omega (arith, f.code_longest));
          children_formed = λ k. ended_formed;
        }

    inside_moves : (h : List K.Cell) (body : Code) (base : List ℤ) (c : Code) (σ : List ℤ) (r : Log K.Cell) (w : Log ℤ) (over : ℕ) → Begun M body base c σ → Moves (inside body base c σ r w over) (step_inside K sum h body base c σ r w over)
    unfolding step_inside Inside TakesInside code_count instruction_count begins begins_in forks_of forks_in longest_in longest_at behind total
    inside_moves h body base ε σ r w over f = idles h _ f
    inside_moves h body base (PUSH n ⨾ c) σ r w over f = passes h _ _ _ refl refl refl (omega arith) (omega arith) (omega arith) (record { goes-on = f.goes-on; ready = f.ready; same_behind = f.same_behind; body_longest = f.body_longest; code_longest = omega (arith, f.code_longest) })
    inside_moves h body base (ADD ⨾ c) [] r w over f = idles h _ f
    inside_moves h body base (ADD ⨾ c) (n ∷ []) r w over f = idles h _ f
    inside_moves h body base (ADD ⨾ c) (n ∷ m ∷ σ) r w over f = passes h _ _ _ refl refl refl (omega arith) (omega arith) (omega arith) (record { goes-on = f.goes-on; ready = f.ready; same_behind = f.same_behind; body_longest = f.body_longest; code_longest = omega (arith, f.code_longest) })
    inside_moves h body base (READ v ⨾ c) σ r w over f = passes h _ _ _ refl refl refl (omega arith) (omega arith) (omega arith) (record { goes-on = f.goes-on.1; ready = f.ready; same_behind = f.same_behind; body_longest = f.body_longest; code_longest = omega (arith, f.code_longest) })
    inside_moves h body base (WRITE v ⨾ c) [] r w over f = idles h _ f
    inside_moves h body base (WRITE v ⨾ c) (n ∷ σ) r w over f = passes h _ _ _ refl refl refl (omega arith) (omega arith) (omega arith) (record { goes-on = f.goes-on.1; ready = f.ready; same_behind = f.same_behind; body_longest = f.body_longest; code_longest = omega (arith, f.code_longest) })
    inside_moves h body base (BEGIN ⨾ c) σ r w over f = idles h _ f
    inside_moves h body base (COMMIT ⨾ c) [] r w over f = idles h _ f
    inside_moves h body base (COMMIT ⨾ c) (n ∷ σ) r w over f = commit_moves h body base c n σ r w over f
    inside_moves h body base (FORK k ⨾ c) σ r w over f = idles h _ f

    -- every step of every well-formed task
    pub moves : (h : List K.Cell) (t : Task K) → Formed K M t → Moves t (step_task K sum h t)
    unfolding step_task
    moves h (outside c σ) f = outside_moves h c σ f
    moves h (inside body base c σ r w over) f = inside_moves h body base c σ r w over f

commit_no_back : (e : Event) → is_commit e ≡ true → is_back e ≡ false
commit_no_back idle c = no c
commit_no_back pushed c = no c
commit_no_back (summed b) c = no c
commit_no_back forked c = no c
commit_no_back begun c = no c
commit_no_back (looked x) c = no c
commit_no_back wrote c = no c
commit_no_back committed c = refl
commit_no_back (sent_back v) c = no c

module _ (K : Cells) where
  -- What every step keeps. L: the instructions; M: those of the longest transaction; A: the transactions; T: the threads. A run so far
  -- had this many picks that were not idle, commits, and send-backs.
  pub record Bounded (L M A T : ℕ) (steps commits backs : ℕ) (s : System K) : Type 0 where
    pub work : steps + total (to_come K) s.tasks ≤ L + M * backs
    pub least : L + backs ≤ steps + total (to_come K) s.tasks
    pub commit : commits + total (commits_to_come K) s.tasks ≡ A
    pub fork : length s.tasks + total (forks_to_come K) s.tasks ≡ T
    -- each send-back, and each that is due, is by a commit and a thread that did not commit, and the last commit brings none
    pub by_commits : backs + total (dirty_count K s.table) s.tasks ≤ (T - 1) * commits
    pub by_others : backs + total (dirty_count K s.table) s.tasks ≤ (T - 1) * (A - 1)
    pub formed : (i : ℕ) → Formed K M (task_at K s i)

  -- ---- the start
  start_formed : (c : Code) (M : ℕ) → Outside c 0 → longest_in c ≤ M → (i : ℕ) → Formed K M (task_at K (start K c) i)
  unfolding start
  start_formed c M o l zero = (o, l)
  start_formed c M o l (suc i) = ended_formed K M

  -- code alone
  pub start_bounded : (c : Code) → Outside c 0 → Bounded (code_count c) (longest_in c) (begins c) (suc (forks_of c)) 0 0 0 (start K c)
  unfolding start total
  start_bounded c o = record {
    work = omega arith;
    least = omega arith;
    commit = omega arith;
    fork = omega arith;
    by_commits = omega arith;
    by_others = omega arith;
    formed = start_formed c (longest_in c) o (omega arith);
  }

  -- a script's code alone
  pub script_bounded : (p : Proc) → ValuedP p → Bounded (instructions p) (longest p) (atomics p) (threads p) 0 0 0 (start K (compile_p p ε))
  unfolding threads
  script_bounded p v =
      let b = start_bounded (compile_p p ε) (outside_proc p v) in
      let t : suc (forks_of (compile_p p ε)) ≡ 1 + forks p = omega (arith, forks_proc p) in
      subst (λ (T : ℕ). Bounded (instructions p) (longest p) (atomics p) T 0 0 0 (start K (compile_p p ε))) t
      (subst (λ (A : ℕ). Bounded (instructions p) (longest p) A (suc (forks_of (compile_p p ε))) 0 0 0 (start K (compile_p p ε))) (begins_proc p)
      (subst (λ (M : ℕ). Bounded (instructions p) M (begins (compile_p p ε)) (suc (forks_of (compile_p p ε))) 0 0 0 (start K (compile_p p ε))) (longest_proc p)
      (subst (λ (L : ℕ). Bounded L (longest_in (compile_p p ε)) (begins (compile_p p ε)) (suc (forks_of (compile_p p ε))) 0 0 0 (start K (compile_p p ε))) (count_proc p) b)))

  module _ (sum : Rule) where
    -- ---- a pick of a number that no task has
    nobody : (ts : List (Task K)) (i : ℕ) → length ts ≤ i → get_or ts i (ended K) ≡ ended K
    nobody [] i l = refl
    nobody (t ∷ ts) zero l = absurd (omega arith)
    nobody (t ∷ ts) (suc i) l = nobody ts i (omega arith)

    set_nobody : (ts : List (Task K)) (i : ℕ) (t : Task K) → length ts ≤ i → set ts i t ++ [] ≡ ts
    set_nobody [] i t l = refl
    set_nobody (x ∷ ts) zero t l = absurd (omega arith)
    set_nobody (x ∷ ts) (suc i) t l = ap {B = List (Task K)} (λ (r : List (Task K)). x ∷ r) (set_nobody ts i t (omega arith))

    over_idle : (h : List K.Cell) → step_task K sum h (ended K) ≡ stays K (ended K) h
    unfolding step_task step_outside
    over_idle h = refl

    module _ (L M A T : ℕ) (steps commits backs : ℕ) (s : System K) (b : Bounded L M A T steps commits backs s) (i : ℕ) where
      -- the system and the counts behind a step
      abbrev After : Did K → Type 0
      After d = Bounded L M A T (steps + one (not (is_idle d.event))) (commits + one (is_commit d.event)) (backs + one (is_back d.event)) (record { table = d.table; tasks = set s.tasks i d.task ++ started K d.children })

      nobody_keeps : length s.tasks ≤ i → After (stays K (ended K) s.table)
      nobody_keeps l =
          let e : set s.tasks i (ended K) ++ [] ≡ s.tasks = set_nobody s.tasks i (ended K) l in
          subst (λ (ts : List (Task K)). Bounded L M A T (steps + 0) (commits + 0) (backs + 0) (record { table = s.table; tasks = ts })) (sym e)
          (subst (λ (n : ℕ). Bounded L M A T n (commits + 0) (backs + 0) s) (let z : steps ≡ steps + 0 = omega arith in z)
          (subst (λ (n : ℕ). Bounded L M A T steps n (backs + 0) s) (let z : commits ≡ commits + 0 = omega arith in z)
          (subst (λ (n : ℕ). Bounded L M A T steps commits n s) (let z : backs ≡ backs + 0 = omega arith in z) b)))

      -- ---- a pick of a task
      module _ (l : i < length s.tasks) (d : Did K) (m : Moves K M (task_at K s i) d) (f : StepStaleness K sum s.table (task_at K s i) d) where
        abbrev after : List (Task K)
        after = set s.tasks i d.task ++ started K d.children

        -- dirty tasks before and behind the step
        abbrev was : ℕ
        was = total (dirty_count K s.table) s.tasks

        abbrev now : ℕ
        now = total (dirty_count K d.table) after

        falls : is_commit d.event ≡ false → one (is_back d.event) + now ≤ was
        falls c = subst (λ (h : List K.Cell). one (is_back d.event) + total (dirty_count K h) after ≤ was) (sym (f.table_kept c)) (go (is_back d.event) (dirty K s.table (task_at K s i)) (dirty K s.table d.task) refl refl refl)
          where
            clean_now : dirty K d.table d.task ≡ false → dirty K s.table d.task ≡ false
            clean_now e = subst (λ (h : List K.Cell). dirty K h d.task ≡ false) (f.table_kept c) e

            go : (x y z : Bool) → is_back d.event ≡ x → dirty K s.table (task_at K s i) ≡ y → dirty K s.table d.task ≡ z → one x + total (dirty_count K s.table) after ≤ was
            go x y z p q r =
                let t = total_next (dirty_count K s.table) s.tasks i d.task (started K d.children) l in
                let u = children_clean K s.table d.children in
                let a : one (dirty K s.table (task_at K s i)) ≡ one y = ap one q in
                let b : one (dirty K s.table d.task) ≡ one z = ap one r in
                let k : one x + one z ≤ one y = which x y z p q r in
                omega arith
              where
                which : (x y z : Bool) → is_back d.event ≡ x → dirty K s.table (task_at K s i) ≡ y → dirty K s.table d.task ≡ z → one x + one z ≤ one y
                which true true true p q r = never (sym r ∙ clean_now (f.back_clean p))
                which true true false p q r = omega arith
                which true false z p q r = never (sym (f.was_dirty p) ∙ q)
                which false true true p q r = omega arith
                which false true false p q r = omega arith
                which false false true p q r = never (sym r ∙ clean_now (f.stays_clean q))
                which false false false p q r = omega arith

        -- a commit makes at most the other tasks dirty
        others : is_commit d.event ≡ true → now + 1 ≤ length s.tasks
        others c =
            let n : get_or (set s.tasks i d.task) i (ended K) ≡ d.task = get_or-set_same s.tasks i d.task (ended K) l in
            let z : dirty_count K d.table (get_or (set s.tasks i d.task) i (ended K)) ≡ 0 = rw (n, f.committed_clean c d.table) in
            let e : length (set s.tasks i d.task) ≡ length s.tasks = length-set s.tasks i d.task in
            let t = total_but (dirty_count K d.table) (λ x. one_most (dirty K d.table x)) (set s.tasks i d.task) i (omega arith) z in
            let u = children_clean K d.table d.children in
            let a = total_append (dirty_count K d.table) (set s.tasks i d.task) (started K d.children) in
            omega arith

        work_kept : steps + one (not (is_idle d.event)) + total (to_come K) after ≤ L + M * (backs + one (is_back d.event))
        work_kept =
            let t = total_next (to_come K) s.tasks i d.task (started K d.children) l in
            let w = m.work in
            let o = b.work in
            let e = more M backs (is_back d.event) in
            omega arith

        least_kept : L + (backs + one (is_back d.event)) ≤ steps + one (not (is_idle d.event)) + total (to_come K) after
        least_kept =
            let t = total_next (to_come K) s.tasks i d.task (started K d.children) l in
            let w = m.least in
            let o = b.least in
            omega arith

        commit_kept : commits + one (is_commit d.event) + total (commits_to_come K) after ≡ A
        commit_kept =
            let t = total_next (commits_to_come K) s.tasks i d.task (started K d.children) l in
            let w = m.commit in
            let o = b.commit in
            omega arith

        fork_kept : length after + total (forks_to_come K) after ≡ T
        fork_kept =
            let t = total_next (forks_to_come K) s.tasks i d.task (started K d.children) l in
            let w = m.fork in
            let o = b.fork in
            let x = length-append (set s.tasks i d.task) (started K d.children) in
            let y = length-set s.tasks i d.task in
            omega arith

        by_commits_kept : backs + one (is_back d.event) + now ≤ (T - 1) * (commits + one (is_commit d.event))
        by_commits_kept = go (is_commit d.event) refl
          where
            go : (x : Bool) → is_commit d.event ≡ x → backs + one (is_back d.event) + now ≤ (T - 1) * (commits + one x)
            go true c =
                let n : one (is_back d.event) ≡ 0 = ap one (commit_no_back d.event c) in
                let o = others c in
                let p = b.by_commits in
                let q = b.fork in
                let e : (T - 1) * (commits + 1) ≡ (T - 1) * commits + (T - 1) = more (T - 1) commits true in
                omega arith
            go false c =
                let n = falls c in
                let p = b.by_commits in
                let e : (T - 1) * (commits + 0) ≡ (T - 1) * commits + 0 = more (T - 1) commits false in
                omega arith

        by_others_kept : backs + one (is_back d.event) + now ≤ (T - 1) * (A - 1)
        by_others_kept = go (is_commit d.event) refl
          where
            go : (x : Bool) → is_commit d.event ≡ x → backs + one (is_back d.event) + now ≤ (T - 1) * (A - 1)
            go true c = last (ltb (commits + 1) A) refl
              where
                last : (x : Bool) → ltb (commits + 1) A ≡ x → backs + one (is_back d.event) + now ≤ (T - 1) * (A - 1)
                last true e =
                    let k : commits + 1 ≤ A - 1 = omega (arith, ltb-true (commits + 1) A e) in
                    let p : backs + one (is_back d.event) + now ≤ (T - 1) * (commits + one (is_commit d.event)) = by_commits_kept in
                    let q : (T - 1) * (commits + one (is_commit d.event)) ≡ (T - 1) * (commits + 1) = ap (λ (x : Bool). (T - 1) * (commits + one x)) c in
                    let r : (T - 1) * (commits + 1) ≤ (T - 1) * (A - 1) = mul-le-mul_left (T - 1) k in
                    omega arith
                last false e =
                    let k = ltb-false (commits + 1) A e in
                    let n : one (is_back d.event) ≡ 0 = ap one (commit_no_back d.event c) in
                    let j : one (is_commit d.event) ≡ 1 = ap one c in
                    let p = commit_kept in
                    let q = total_below (dirty_count K d.table) (commits_to_come K) (dirty_open K d.table) after in
                    let r = b.by_others in
                    omega arith
            go false c =
                let n = falls c in
                let p = b.by_others in
                omega arith

        somebody_keeps : After d
        somebody_keeps = record {
          work = work_kept;
          least = least_kept;
          commit = commit_kept;
          fork = fork_kept;
          by_commits = by_commits_kept;
          by_others = by_others_kept;
          formed = λ j. at_next K (Formed K M) s.tasks i d.task d.children j (b.formed j) (λ e. m.formed) m.children_formed;
        }

    -- every pick keeps it
    pub pick_bounded : (L M A T : ℕ) (steps commits backs : ℕ) (s : System K) → Bounded L M A T steps commits backs s → (i : ℕ) → Bounded L M A T (steps + one (not (is_idle (did K sum s i).event))) (commits + one (is_commit (did K sum s i).event)) (backs + one (is_back (did K sum s i).event)) (next K sum s i)
    unfolding next
    pick_bounded L M A T steps commits backs s b i = go (ltb i (length s.tasks)) refl
      where
        go : (x : Bool) → ltb i (length s.tasks) ≡ x → After L M A T steps commits backs s b i (did K sum s i)
        go true e = somebody_keeps L M A T steps commits backs s b i (ltb-true i (length s.tasks) e) (did K sum s i) (moves K M sum s.table (task_at K s i) (b.formed i)) (staleness K sum s.table (task_at K s i))
        go false e =
            let l = ltb-false i (length s.tasks) e in
            let t : task_at K s i ≡ ended K = nobody s.tasks i l in
            let d : did K sum s i ≡ stays K (ended K) s.table = ap (step_task K sum s.table) t ∙ over_idle s.table in
            subst (After L M A T steps commits backs s b i) (sym d) (nobody_keeps L M A T steps commits backs s b i l)

    one_more : (b : Bool) (n k : ℕ) → n + one b + k ≡ n + cond b (suc k) k
    one_more true n k = omega arith
    one_more false n k = omega arith

    none_more : (n : ℕ) → n ≡ n + 0
    none_more n = omega arith

    counts : {L M A T n n' c c' k k' : ℕ} {s : System K} → n ≡ n' → c ≡ c' → k ≡ k' → Bounded L M A T n c k s → Bounded L M A T n' c' k' s
    counts {L} {M} {A} {T} {n} {n'} {c} {c'} {k} {k'} {s} x y z b =
        subst (λ (a : ℕ). Bounded L M A T a c' k' s) x (subst (λ (a : ℕ). Bounded L M A T n a k' s) y (subst (λ (a : ℕ). Bounded L M A T n c a s) z b))

    -- and so does every run of picks
    pub run_bounded : (L M A T : ℕ) (steps commits backs : ℕ) (s : System K) → Bounded L M A T steps commits backs s → (is : List ℕ) → Bounded L M A T (steps + counted (λ e. not (is_idle e)) (events_of K sum s is)) (commits + counted is_commit (events_of K sum s is)) (backs + counted is_back (events_of K sum s is)) (end_of K sum s is)
    unfolding end_of events_of counted
    run_bounded L M A T steps commits backs s b [] = counts (none_more steps) (none_more commits) (none_more backs) b
    run_bounded L M A T steps commits backs s b (i ∷ is) =
        let e = (did K sum s i).event in
        let hs = events_of K sum (next K sum s i) is in
        counts
        (one_more (not (is_idle e)) steps (counted (λ x. not (is_idle x)) hs))
        (one_more (is_commit e) commits (counted is_commit hs))
        (one_more (is_back e) backs (counted is_back hs))
        (run_bounded L M A T (steps + one (not (is_idle e))) (commits + one (is_commit e)) (backs + one (is_back e)) (next K sum s i) (pick_bounded L M A T steps commits backs s b i) is)

    -- a script's code alone, after any picks
    pub script_run : (p : Proc) → ValuedP p → (is : List ℕ) → Bounded (instructions p) (longest p) (atomics p) (threads p) (0 + counted (λ e. not (is_idle e)) (events_of K sum (start K (compile_p p ε)) is)) (0 + counted is_commit (events_of K sum (start K (compile_p p ε)) is)) (0 + counted is_back (events_of K sum (start K (compile_p p ε)) is)) (end_of K sum (start K (compile_p p ε)) is)
    script_run p v is = run_bounded (instructions p) (longest p) (atomics p) (threads p) 0 0 0 (start K (compile_p p ε)) (script_bounded p v) is

    -- ---- when every task has ended
    module _ (p : Proc) (v : ValuedP p) (is : List ℕ) where
      -- every task of a system has ended
      abbrev AllOver : System K → Type 0
      AllOver s = (i : ℕ) → i < length s.tasks → (σ : List ℤ) × (task_at K s i ≡ outside ε σ)

      over_none : (f : Task K → ℕ) → ((σ : List ℤ) → f (outside ε σ) ≡ 0) → (ts : List (Task K)) → ((i : ℕ) → i < length ts → (σ : List ℤ) × (get_or ts i (ended K) ≡ outside ε σ)) → total f ts ≡ 0
      unfolding total
      over_none f z [] a = refl
      over_none f z (t ∷ ts) a =
          let e = a 0 (omega arith) in
          let x : f t ≡ 0 = ap f e.1 ∙ z e.0 in
          let y = over_none f z ts (λ i l. a (suc i) (omega arith)) in
          omega arith

      abbrev last : System K
      last = end_of K sum (start K (compile_p p ε)) is

      -- all commits were made, and all threads are there
      pub all_commits : AllOver (end_of K sum (start K (compile_p p ε)) is) → counted is_commit (events_of K sum (start K (compile_p p ε)) is) ≡ atomics p
      unfolding begins
      all_commits a =
          let f = (script_run p v is).commit in
          let z = over_none (commits_to_come K) (λ σ. refl) last.tasks a in
          omega arith

      pub all_threads : AllOver (end_of K sum (start K (compile_p p ε)) is) → length (end_of K sum (start K (compile_p p ε)) is).tasks ≡ threads p
      unfolding forks_of
      all_threads a =
          let f = (script_run p v is).fork in
          let z = over_none (forks_to_come K) (λ σ. refl) last.tasks a in
          omega arith

      -- no fewer picks were not idle than there are instructions and send-backs, and as many as instructions if nothing was sent back
      pub steps_least : AllOver (end_of K sum (start K (compile_p p ε)) is) → instructions p + counted is_back (events_of K sum (start K (compile_p p ε)) is) ≤ counted (λ e. not (is_idle e)) (events_of K sum (start K (compile_p p ε)) is)
      unfolding code_count
      steps_least a =
          let f = (script_run p v is).least in
          let z = over_none (to_come K) (λ σ. refl) last.tasks a in
          omega arith

      pub steps_exact : AllOver (end_of K sum (start K (compile_p p ε)) is) → counted is_back (events_of K sum (start K (compile_p p ε)) is) ≡ 0 → counted (λ e. not (is_idle e)) (events_of K sum (start K (compile_p p ε)) is) ≡ instructions p
      steps_exact a b =
          let l = steps_least a in
          let w = (script_run p v is).work in
          let m : longest p * (0 + counted is_back (events_of K sum (start K (compile_p p ε)) is)) ≡ 0 = ap (λ (n : ℕ). longest p * (0 + n)) b ∙ mul-zero (longest p) in
          omega arith

    -- there are never more tasks than threads in the script
    pub thread_count : (p : Proc) → ValuedP p → (is : List ℕ) → length (end_of K sum (start K (compile_p p ε)) is).tasks ≤ threads p
    thread_count p v is =
        let f = (script_run p v is).fork in
        omega arith

    -- no more commits than transactions
    pub commits_bound : (p : Proc) → ValuedP p → (is : List ℕ) → counted is_commit (events_of K sum (start K (compile_p p ε)) is) ≤ atomics p
    commits_bound p v is =
        let f = (script_run p v is).commit in
        omega arith

    -- no more send-backs than (K−1)×(T−1)
    pub backs_bound : (p : Proc) → ValuedP p → (is : List ℕ) → counted is_back (events_of K sum (start K (compile_p p ε)) is) ≤ (atomics p - 1) * (threads p - 1)
    backs_bound p v is =
        let f = (script_run p v is).by_others in
        let c = mul_comm (threads p - 1) (atomics p - 1) in
        omega arith

    -- demand 3: no more picks that are not idle than L + (K−1)×(T−1)×M
    pub steps_bound : (p : Proc) → ValuedP p → (is : List ℕ) → counted (λ e. not (is_idle e)) (events_of K sum (start K (compile_p p ε)) is) ≤ bound p
    unfolding bound
    steps_bound p v is =
        let w = (script_run p v is).work in
        let z : 0 + counted is_back (events_of K sum (start K (compile_p p ε)) is) ≤ (atomics p - 1) * (threads p - 1) = omega (arith, backs_bound p v is) in
        let m : longest p * (0 + counted is_back (events_of K sum (start K (compile_p p ε)) is)) ≤ longest p * ((atomics p - 1) * (threads p - 1)) = mul-le-mul_left (longest p) z in
        let c : longest p * ((atomics p - 1) * (threads p - 1)) ≡ (atomics p - 1) * (threads p - 1) * longest p = mul_comm (longest p) ((atomics p - 1) * (threads p - 1)) in
        omega arith
