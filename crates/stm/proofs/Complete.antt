-- Every list of turns that the script can take is the order of a run of the tasks, at whose end each result of the script is a task's, and in which nothing is sent back. Assumes nothing.
use Prim.Native.Nat.{ℕ, zero, suc, ◌+◌, ◌<◌, ◌≤◌}
use mathlib.Core.Bool.{Bool, true, false}
use mathlib.Core.Path.{◌≡◌, refl, sym, ap, subst, ◌∙◌}
use mathlib.Core.List.{List, [], ◌∷◌, ◌++◌, append-nil}
use mathlib.Core.Option.{Option, none, some}
use native.Mathlib.Omega.{arith}
use borrow.Author.Tests.{eqb-true, eqb-false, ltb-true, ltb-false}
use lib.Dec.{eqb, ltb}
use lib.IntN.{ℤ, pos}
use lib.ListN.{length, get_or, set, length-set, length-append, get_or-append, get_or-eq_default}
use lib.Seq.{get_or-set_same, get_or-set_other}
use Rattle.stm.specs.InnerCells.{Cells}
use Rattle.stm.specs.InnerTasks.{Log, nothing, logged, Task, outside, inside, ended, Did, cell_at, found_in, found, stale_in, first_stale, overwritten, goes, step_outside, step_inside, step_task, System, task_at, started, did, next, end_of, events_of, start}
use Rattle.stm.specs.InnerMeaning.{process_of, Outside, Inside, Good, Linked}
use Rattle.stm.proofs.Logs.{logged_same, logged_other, none_found}
use Rattle.stm.proofs.Sound.{meant_length, meant_at, turns_one, run_linked}
use Rattle.code.specs.Compile.{Code, PUSH, ADD, READ, WRITE, BEGIN, COMMIT, FORK, ε, ◌⨾◌, compile_p}
use Rattle.stm.specs.Events.{Event, pushed, summed, forked, begun, looked, wrote, committed, is_turn, is_back, counted, order}
use Rattle.stm.proofs.Counts.{order_append, counted_append}
use Rattle.script.specs.Tree.{Proc, ValP, AddP, Atomic, Fork}
use Rattle.script.specs.Turns.{reduce, Script, turned, turn, turns, CanTake}
use Rattle.script.specs.Turns as script
use Rattle.word.specs.Sum.{Rule, over_of}

-- every number of the list is below n
abbrev pub Below : ℕ → List ℕ → Type 0
Below n [] = Unit {0}
Below n (i ∷ is) = (i < n) × Below n is

pub below_append : (n : ℕ) (is js : List ℕ) → Below n is → Below n js → Below n (is ++ js)
below_append n [] js a b = b
below_append n (i ∷ is) js a b = (a.0, below_append n is js a.1 b)

pub below_more : (n m : ℕ) (is : List ℕ) → n ≤ m → Below n is → Below m is
below_more n m [] l a = tt
below_more n m (i ∷ is) l a = (let x : i < n = a.0 in omega arith, below_more n m is l a.1)

append_at : {A : Type 0} (P : A → Type 0) (d : A) (l m : List A) (i : ℕ) → P (get_or l i d) → ((k : ℕ) → P (get_or m k d)) → P (get_or (l ++ m) i d)
append_at P d [] m i p q = q i
append_at P d (y ∷ ys) m zero p q = p
append_at P d (y ∷ ys) m (suc i) p q = append_at P d ys m i p q

module _ (K : Cells) where
  -- a task outside any transaction
  abbrev pub IsOutside : Task K → Type 0
  IsOutside t = (c : Code) × (σ : List ℤ) × (t ≡ outside c σ)

  abbrev pub AllOutside : System K → Type 0
  AllOutside s = (i : ℕ) → IsOutside (task_at K s i)

  -- a job's code alone is outside any transaction
  pub start_outside : (p : Proc) → AllOutside (start K (compile_p p ε))
  unfolding start
  start_outside p zero = (compile_p p ε, [], refl)
  start_outside p (suc i) = (ε, pos 0 ∷ [], refl)

module _ (K : Cells) (sum : Rule) where
  -- ---- picks behind picks
  pub end_append : (s : System K) (is js : List ℕ) → end_of K sum s (is ++ js) ≡ end_of K sum (end_of K sum s is) js
  unfolding end_of
  end_append s [] js = refl
  end_append s (i ∷ is) js = end_append (next K sum s i) is js

  pub events_append : (s : System K) (is js : List ℕ) → events_of K sum s (is ++ js) ≡ events_of K sum s is ++ events_of K sum (end_of K sum s is) js
  unfolding end_of events_of
  events_append s [] js = refl
  events_append s (i ∷ is) js = rw (events_append (next K sum s i) is js)

  pub orders_append : (s : System K) (is js : List ℕ) → order (events_of K sum s (is ++ js)) ≡ order (events_of K sum s is) ++ order (events_of K sum (end_of K sum s is) js)
  orders_append s is js = rw (events_append s is js) (order_append (events_of K sum s is) (events_of K sum (end_of K sum s is) js))

  calm_append : (s : System K) (is js : List ℕ) → counted is_back (events_of K sum s is) ≡ 0 → counted is_back (events_of K sum (end_of K sum s is) js) ≡ 0 → counted is_back (events_of K sum s (is ++ js)) ≡ 0
  calm_append s is js a b = rw (events_append s is js) (let c = counted_append is_back (events_of K sum s is) (events_of K sum (end_of K sum s is) js) in omega arith)

  next_length : (s : System K) (i : ℕ) → length s.tasks ≤ length (next K sum s i).tasks
  unfolding next
  next_length s i = let a = length-append (set s.tasks i (did K sum s i).task) (started K (did K sum s i).children) in let b = length-set s.tasks i (did K sum s i).task in omega arith

  pub end_length : (is : List ℕ) (s : System K) → length s.tasks ≤ length (end_of K sum s is).tasks
  unfolding end_of
  end_length [] s = omega arith
  end_length (i ∷ is) s = let a = end_length is (next K sum s i) in let b = next_length s i in omega arith

  module _ (i : ℕ) where
    -- all tasks but task i
    abbrev AllBut : System K → Type 0
    AllBut s = (j : ℕ) → (j ≡ i → ⊥) → IsOutside K (task_at K s j)

    -- ---- one pick of task i
    self : (s : System K) → i < length s.tasks → task_at K (next K sum s i) i ≡ (did K sum s i).task
    unfolding next
    self s l =
        get_or-append (set s.tasks i (did K sum s i).task) (started K (did K sum s i).children) (ended K) i (let b = length-set s.tasks i (did K sum s i).task in omega arith) ∙ get_or-set_same s.tasks i (did K sum s i).task (ended K) l

    children_outside : (ks : List Code) (j : ℕ) → IsOutside K (get_or (started K ks) j (ended K))
    children_outside [] j = (ε, pos 0 ∷ [], refl)
    children_outside (k ∷ ks) zero = (k, [], refl)
    children_outside (k ∷ ks) (suc j) = children_outside ks j

    others_outside : (s : System K) → AllBut s → AllBut (next K sum s i)
    unfolding next
    others_outside s o j n =
        append_at (IsOutside K) (ended K) (set s.tasks i (did K sum s i).task) (started K (did K sum s i).children) j
        (subst (IsOutside K) (sym (get_or-set_other s.tasks i j (did K sum s i).task (ended K) n)) (o j n))
        (children_outside (did K sum s i).children)

    all_outside : (s : System K) → AllBut s → IsOutside K (task_at K s i) → AllOutside K s
    all_outside s o t j = go (eqb j i) refl
      where
        go : (b : Bool) → eqb j i ≡ b → IsOutside K (task_at K s j)
        go true e = subst (λ (x : ℕ). IsOutside K (task_at K s x)) (sym (eqb-true j i e)) t
        go false e = o j (eqb-false j i e)

    -- a pick that only changes the task
    record Changed (s s' : System K) (t : Task K) : Type 0 where
      now : task_at K s' i ≡ t
      table_kept : s'.table ≡ s.table
      exists : i < length s'.tasks
      others : (j : ℕ) → (j ≡ i → ⊥) → task_at K s' j ≡ task_at K s j

    changed : (s : System K) (t : Task K) (e : Event) → i < length s.tasks → did K sum s i ≡ goes K t s.table e → Changed s (next K sum s i) t
    unfolding next
    changed s t e l f =
        record {
          now = self s l ∙ ap {B = Task K} (λ (d : Did K). d.task) f;
          table_kept = ap {B = List K.Cell} (λ (d : Did K). d.table) f;
          exists = let a = next_length s i in omega arith;
          others = λ j n. rw (f, append-nil (set s.tasks i t)) (get_or-set_other s.tasks i j t (ended K) n);
        }

    order_on : (s : System K) (e : Event) (is : List ℕ) → (did K sum s i).event ≡ e → is_turn e ≡ false → order (events_of K sum s (i ∷ is)) ≡ order (events_of K sum (next K sum s i) is)
    unfolding events_of order
    order_on s e is f q = rw (f, q)

    order_one : (s : System K) (e : Event) → (did K sum s i).event ≡ e → is_turn e ≡ true → order (events_of K sum s (i ∷ [])) ≡ i ∷ []
    unfolding events_of order
    order_one s e f q = rw (f, q)

    -- ---- task i alone, until it takes its turn
    pub record Turned (s : System K) : Type 0 where
      pub picks : List ℕ
      pub only : (n : ℕ) → i < n → Below n picks
      pub once : order (events_of K sum s picks) ≡ i ∷ []
      pub calm : counted is_back (events_of K sum s picks) ≡ 0
      pub outer : AllOutside K (end_of K sum s picks)

    -- or has ended
    pub record Ended (s : System K) : Type 0 where
      pub picks : List ℕ
      pub only : (n : ℕ) → i < n → Below n picks
      pub never : order (events_of K sum s picks) ≡ []
      pub calm : counted is_back (events_of K sum s picks) ≡ 0
      pub outer : AllOutside K (end_of K sum s picks)
      pub number : ℤ
      pub ended : task_at K (end_of K sum s picks) i ≡ outside ε (number ∷ [])
      pub others : (j : ℕ) → (j ≡ i → ⊥) → task_at K (end_of K sum s picks) j ≡ task_at K s j

    pub data Went (s : System K) : Type 0 where
      took : Turned s → Went s
      stopped : Ended s → Went s

    -- a pick that is not sent back, and then picks of which none is
    calm_on : (s : System K) (e : Event) (is : List ℕ) → (did K sum s i).event ≡ e → is_back e ≡ false → counted is_back (events_of K sum (next K sum s i) is) ≡ 0 → counted is_back (events_of K sum s (i ∷ is)) ≡ 0
    unfolding events_of counted
    calm_on s e is f b z = rw (f, b) z

    turned_later : (s : System K) (e : Event) → (did K sum s i).event ≡ e → is_turn e ≡ false → is_back e ≡ false → Turned (next K sum s i) → Turned s
    unfolding end_of
    turned_later s e f q b t =
        record { picks = i ∷ t.picks; only = λ n l. (l, t.only n l); once = order_on s e t.picks f q ∙ t.once; calm = calm_on s e t.picks f b t.calm; outer = t.outer }

    went_later : (s : System K) (t : Task K) (e : Event) → (did K sum s i).event ≡ e → is_turn e ≡ false → is_back e ≡ false → Changed s (next K sum s i) t → Went (next K sum s i) → Went s
    unfolding end_of
    went_later s t e f q b c (took x) = took (turned_later s e f q b x)
    went_later s t e f q b c (stopped x) =
        stopped (record {
          picks = i ∷ x.picks;
          only = λ n l. (l, x.only n l);
          never = order_on s e x.picks f q ∙ x.never;
          calm = calm_on s e x.picks f b x.calm;
          outer = x.outer;
          number = x.number;
          ended = x.ended;
          others = λ j n. x.others j n ∙ c.others j n;
        })

    turned_now : (s : System K) (e : Event) (c : Code) (σ : List ℤ) → i < length s.tasks → AllBut s → (did K sum s i).event ≡ e → is_turn e ≡ true → is_back e ≡ false → (did K sum s i).task ≡ outside c σ → Turned s
    unfolding end_of events_of counted
    turned_now s e c σ l o f q b t =
        record {
          picks = i ∷ [];
          only = λ n x. (x, tt);
          once = order_one s e f q;
          calm = calm_on s e [] f b refl;
          outer = all_outside (next K sum s i) (others_outside s o) (c, σ, self s l ∙ t);
        }

    -- ---- a transaction alone: its read log has the table's cells
    abbrev Fresh : Log K.Cell → List K.Cell → Type 0
    Fresh r h = (v : ℕ) (c : K.Cell) → r v ≡ some c → c ≡ cell_at K h v

    fresh_found : (h : List K.Cell) (r : Log K.Cell) (w : Log ℤ) (v : ℕ) → Fresh r h → Fresh (found K h r w v).reads h
    unfolding found
    fresh_found h r w v k = go (w v) (r v)
      where
        go : (a : Option ℤ) (b : Option K.Cell) → Fresh (found_in K a b (cell_at K h v) r v).reads h
        go (some n) b = k
        go none (some x) = k
        go none none = λ u x q. which u x q (eqb u v) refl
          where
            which : (u : ℕ) (x : K.Cell) → logged r v (cell_at K h v) u ≡ some x → (t : Bool) → eqb u v ≡ t → x ≡ cell_at K h u
            which u x q true d =
                let same : u ≡ v = eqb-true u v d in
                let now : ◌≡◌ {A = Option K.Cell} (some (cell_at K h v)) (some x) = sym (logged_same r v (cell_at K h v)) ∙ ap {B = Option K.Cell} (logged r v (cell_at K h v)) (sym same) ∙ q in
                let cell : cell_at K h v ≡ x = cc in
                sym cell ∙ ap {B = K.Cell} (λ (y : ℕ). cell_at K h y) (sym same)
            which u x q false d = k u x (sym (logged_other r v u (cell_at K h v) (eqb-false u v d)) ∙ q)

    fresh_clean : (h : List K.Cell) (r : Log K.Cell) → Fresh r h → first_stale K 64 0 r h ≡ 64
    fresh_clean h r k = none_found K 64 0 r h (λ u l. go u (r u) refl)
      where
        go : (u : ℕ) (b : Option K.Cell) → r u ≡ b → stale_in K b (cell_at K h u) ≡ false
        go u none e = refl
        go u (some x) e = rw (k u x e) (K.just_read (cell_at K h u))

    did_is : (s : System K) (t : Task K) → task_at K s i ≡ t → did K sum s i ≡ step_task K sum s.table t
    did_is s t e = ap {B = Did K} (λ (x : Task K). step_task K sum s.table x) e

    event_is : (s : System K) (d : Did K) → did K sum s i ≡ d → (did K sum s i).event ≡ d.event
    event_is s d e = ap {B = Event} (λ (x : Did K). x.event) e

    commit_is : (body : Code) (base : List ℤ) (c : Code) (n : ℤ) (σ : List ℤ) (r : Log K.Cell) (w : Log ℤ) (over : ℕ) (h : List K.Cell) → Fresh r h → step_inside K sum h body base (COMMIT ⨾ c) (n ∷ σ) r w over ≡ record { task = outside c (n ∷ base); table = overwritten K 64 0 w h; children = []; event = committed; over = over }
    unfolding step_inside
    commit_is body base c n σ r w over h k = rw (fresh_clean h r k)

    inner : (body : Code) (base : List ℤ) (c : Code) (σ : List ℤ) (r : Log K.Cell) (w : Log ℤ) (over : ℕ) (s : System K) → task_at K s i ≡ inside body base c σ r w over → i < length s.tasks → Inside c (length σ) (length base) → Fresh r s.table → AllBut s → Turned s
    unfolding step_task step_inside Inside
    inner body base ε σ r w over s e l k f o = absurd k
    inner body base (PUSH n ⨾ c) σ r w over s e l k f o =
        let t : Task K = inside body base c (n ∷ σ) r w over in
        let d : did K sum s i ≡ goes K t s.table pushed = did_is s (inside body base (PUSH n ⨾ c) σ r w over) e in
        let x = changed s t pushed l d in
        turned_later s pushed (event_is s (goes K t s.table pushed) d) refl refl
        (inner body base c (n ∷ σ) r w over (next K sum s i) x.now x.exists k (subst (Fresh r) (sym x.table_kept) f) (others_outside s o))
    inner body base (ADD ⨾ c) [] r w over s e l k f o = absurd k
    inner body base (ADD ⨾ c) (n ∷ []) r w over s e l k f o = absurd k
    inner body base (ADD ⨾ c) (n ∷ m ∷ σ) r w over s e l k f o =
        let t : Task K = inside body base c (sum m n ∷ σ) r w (over + over_of m n) in
        let d : did K sum s i ≡ goes K t s.table (summed true) = did_is s (inside body base (ADD ⨾ c) (n ∷ m ∷ σ) r w over) e in
        let x = changed s t (summed true) l d in
        turned_later s (summed true) (event_is s (goes K t s.table (summed true)) d) refl refl
        (inner body base c (sum m n ∷ σ) r w (over + over_of m n) (next K sum s i) x.now x.exists k (subst (Fresh r) (sym x.table_kept) f) (others_outside s o))
    inner body base (READ v ⨾ c) σ r w over s e l k f o =
        let y = found K s.table r w v in
        let t : Task K = inside body base c (y.value ∷ σ) y.reads w over in
        let d : did K sum s i ≡ goes K t s.table (looked y.source) = did_is s (inside body base (READ v ⨾ c) σ r w over) e in
        let x = changed s t (looked y.source) l d in
        turned_later s (looked y.source) (event_is s (goes K t s.table (looked y.source)) d) refl refl
        (inner body base c (y.value ∷ σ) y.reads w over (next K sum s i) x.now x.exists k.1 (subst (Fresh y.reads) (sym x.table_kept) (fresh_found s.table r w v f)) (others_outside s o))
    inner body base (WRITE v ⨾ c) [] r w over s e l k f o = absurd k.1
    inner body base (WRITE v ⨾ c) (n ∷ σ) r w over s e l k f o =
        let t : Task K = inside body base c (n ∷ σ) r (logged w v n) over in
        let d : did K sum s i ≡ goes K t s.table wrote = did_is s (inside body base (WRITE v ⨾ c) (n ∷ σ) r w over) e in
        let x = changed s t wrote l d in
        turned_later s wrote (event_is s (goes K t s.table wrote) d) refl refl
        (inner body base c (n ∷ σ) r (logged w v n) over (next K sum s i) x.now x.exists k.1 (subst (Fresh r) (sym x.table_kept) f) (others_outside s o))
    inner body base (BEGIN ⨾ c) σ r w over s e l k f o = absurd k
    inner body base (COMMIT ⨾ c) [] r w over s e l k f o = absurd (let z : ◌≡◌ {A = ℕ} 0 1 = k.0 in omega arith)
    inner body base (COMMIT ⨾ c) (n ∷ σ) r w over s e l k f o =
        let y : Did K = record { task = outside c (n ∷ base); table = overwritten K 64 0 w s.table; children = []; event = committed; over = over } in
        let d : did K sum s i ≡ y = did_is s (inside body base (COMMIT ⨾ c) (n ∷ σ) r w over) e ∙ commit_is body base c n σ r w over s.table f in
        turned_now s committed c (n ∷ base) l o (event_is s y d) refl refl (ap {B = Task K} (λ (z : Did K). z.task) d)
    inner body base (FORK x ⨾ c) σ r w over s e l k f o = absurd k

    one_number : {A : Type 0} (P : List ℤ → Type 0) (σ : List ℤ) → length σ ≡ 1 → ((n : ℤ) → P (n ∷ []) → A) → P σ → A
    one_number P [] e f p = absurd (let z : ◌≡◌ {A = ℕ} 0 1 = e in omega arith)
    one_number P (n ∷ []) e f p = f n p
    one_number P (n ∷ m ∷ σ) e f p = absurd (let z : suc (suc (length σ)) ≡ 1 = e in omega arith)

    -- task i, picked alone, takes its turn or ends
    pub goes_alone : (c : Code) (σ : List ℤ) (s : System K) → task_at K s i ≡ outside c σ → i < length s.tasks → Outside c (length σ) → AllOutside K s → Went s
    unfolding step_task step_outside Outside end_of events_of order counted
    goes_alone ε σ s e l k o =
        one_number (λ τ. task_at K s i ≡ outside ε τ) σ k
        (λ n f. stopped (record { picks = []; only = λ m x. tt; never = refl; calm = refl; outer = o; number = n; ended = f; others = λ j d. refl }))
        e
    goes_alone (PUSH n ⨾ c) σ s e l k o =
        let t : Task K = outside c (n ∷ σ) in
        let d : did K sum s i ≡ goes K t s.table pushed = did_is s (outside (PUSH n ⨾ c) σ) e in
        let x = changed s t pushed l d in
        went_later s t pushed (event_is s (goes K t s.table pushed) d) refl refl x
        (goes_alone c (n ∷ σ) (next K sum s i) x.now x.exists k (all_outside (next K sum s i) (others_outside s (λ j z. o j)) (c, n ∷ σ, x.now)))
    goes_alone (ADD ⨾ c) [] s e l k o = absurd k
    goes_alone (ADD ⨾ c) (n ∷ []) s e l k o = absurd k
    goes_alone (ADD ⨾ c) (n ∷ m ∷ σ) s e l k o =
        let y : Did K = record { task = outside c (sum m n ∷ σ); table = s.table; children = []; event = summed false; over = over_of m n } in
        let d : did K sum s i ≡ y = did_is s (outside (ADD ⨾ c) (n ∷ m ∷ σ)) e in
        took (turned_now s (summed false) c (sum m n ∷ σ) l (λ j z. o j) (event_is s y d) refl refl (ap {B = Task K} (λ (z : Did K). z.task) d))
    goes_alone (READ v ⨾ c) σ s e l k o = absurd k
    goes_alone (WRITE v ⨾ c) σ s e l k o = absurd k
    goes_alone (BEGIN ⨾ c) σ s e l k o =
        let t : Task K = inside c σ c [] nothing nothing 0 in
        let d : did K sum s i ≡ goes K t s.table begun = did_is s (outside (BEGIN ⨾ c) σ) e in
        let x = changed s t begun l d in
        took (turned_later s begun (event_is s (goes K t s.table begun) d) refl refl
        (inner c σ c [] nothing nothing 0 (next K sum s i) x.now x.exists k (λ v y q. absurd (let z : ◌≡◌ {A = ℕ} 0 1 = cc in omega arith)) (others_outside s (λ j z. o j))))
    goes_alone (COMMIT ⨾ c) σ s e l k o = absurd k
    goes_alone (FORK x ⨾ c) σ s e l k o =
        let y : Did K = record { task = outside c (pos 0 ∷ σ); table = s.table; children = x ∷ []; event = forked; over = 0 } in
        let d : did K sum s i ≡ y = did_is s (outside (FORK x ⨾ c) σ) e in
        took (turned_now s forked c (pos 0 ∷ σ) l (λ j z. o j) (event_is s y d) refl refl (ap {B = Task K} (λ (z : Did K). z.task) d))

  -- ---- the script's side
  -- a thread that is a VALP takes no turn
  value_idle : {A : Type 0} (q q' : Script) (i : ℕ) (n : ℤ) → get_or q.threads i (ValP (pos 0)) ≡ ValP n → turn sum q i ≡ turned q' → A
  unfolding turn reduce
  value_idle {A} q q' i n e t = go (ltb i (length q.threads)) refl
    where
      go : (b : Bool) → ltb i (length q.threads) ≡ b → A
      go true f = absurd (let x : script.idle ≡ turned q' = rw (turn, f, e) at t in let z : ◌≡◌ {A = ℕ} 0 1 = cc in omega arith)
      go false f = absurd (let x : script.idle ≡ turned q' = rw (turn, f) at t in let z : ◌≡◌ {A = ℕ} 0 1 = cc in omega arith)

  -- nor does one that does not exist
  beyond_idle : (q q' : Script) (i : ℕ) → turn sum q i ≡ turned q' → i < length q.threads
  unfolding turn
  beyond_idle q q' i t = go (ltb i (length q.threads)) refl
    where
      go : (b : Bool) → ltb i (length q.threads) ≡ b → i < length q.threads
      go true f = ltb-true i (length q.threads) f
      go false f = absurd (let x : script.idle ≡ turned q' = rw (turn, f) at t in let z : ◌≡◌ {A = ℕ} 0 1 = cc in omega arith)

  -- a task that has ended is a VALP in the script
  ended_value : (s : System K) (q : Script) (i : ℕ) (n : ℤ) → Linked K sum s q → task_at K s i ≡ outside ε (n ∷ []) → get_or q.threads i (ValP (pos 0)) ≡ ValP n
  unfolding process_of
  ended_value s q i n k e = rw (k.threads, meant_at K s.tasks i, e)

  tasks_length : (s : System K) (q : Script) → Linked K sum s q → length s.tasks ≡ length q.threads
  tasks_length s q k = rw k.threads (sym (meant_length K s.tasks))

  -- what a run without a turn, and one with one turn, leave
  still_linked : (s : System K) (q : Script) (is : List ℕ) → Linked K sum s q → order (events_of K sum s is) ≡ [] → Linked K sum (end_of K sum s is) q
  unfolding turns
  still_linked s q is k e = subst (λ (l : List ℕ). Linked K sum (end_of K sum s is) (turns sum q l)) e (run_linked K sum is s q k).linked

  turned_linked : (s : System K) (q q' : Script) (i : ℕ) (is : List ℕ) → Linked K sum s q → turn sum q i ≡ turned q' → order (events_of K sum s is) ≡ i ∷ [] → Linked K sum (end_of K sum s is) q'
  unfolding turns
  turned_linked s q q' i is k t e =
      subst (λ (x : Script). Linked K sum (end_of K sum s is) x) (turns_one K sum q q' i [] t)
      (subst (λ (l : List ℕ). Linked K sum (end_of K sum s is) (turns sum q l)) e (run_linked K sum is s q k).linked)

  can_turn : (q : Script) (i : ℕ) → CanTake sum q (i ∷ []) → (q' : Script) × (turn sum q i ≡ turned q')
  can_turn q i (script.one {s' = q'} t c) = (q', t)

  -- ---- at the end, each task that is a VALP in the script ends too
  record Settled (s : System K) (q : Script) (k : ℕ) : Type 0 where
    picks : List ℕ
    never : order (events_of K sum s picks) ≡ []
    calm : counted is_back (events_of K sum s picks) ≡ 0
    below : Below (length s.tasks) picks
    outer : AllOutside K (end_of K sum s picks)
    ended : (j : ℕ) (n : ℤ) → j < k → get_or q.threads j (ValP (pos 0)) ≡ ValP n → task_at K (end_of K sum s picks) j ≡ outside ε (n ∷ [])

  -- a task that is no VALP is not picked
  leave : (k : ℕ) (s : System K) (q : Script) → Settled s q k → ((n : ℤ) → get_or q.threads k (ValP (pos 0)) ≡ ValP n → ⊥) → Settled s q (suc k)
  leave k s q b no_value = record { picks = b.picks; never = b.never; calm = b.calm; below = b.below; outer = b.outer; ended = λ j n m e. go j n m e (eqb j k) refl }
    where
      go : (j : ℕ) (n : ℤ) → j < suc k → get_or q.threads j (ValP (pos 0)) ≡ ValP n → (t : Bool) → eqb j k ≡ t → task_at K (end_of K sum s b.picks) j ≡ outside ε (n ∷ [])
      go j n m e true f = absurd (no_value n (ap {B = Proc} (λ (x : ℕ). get_or q.threads x (ValP (pos 0))) (sym (eqb-true j k f)) ∙ e))
      go j n m e false f = let d : j ≡ k → ⊥ = eqb-false j k f in b.ended j n (omega arith) e

  -- a task that is a VALP ends alone
  finishes : (k : ℕ) (s : System K) (q : Script) → Linked K sum s q → k < length s.tasks → (b : Settled s q k) (n : ℤ) → get_or q.threads k (ValP (pos 0)) ≡ ValP n → Ended k (end_of K sum s b.picks)
  finishes k s q x l b n e = which (goes_alone k c σ s1 is_outside (let y = end_length b.picks s in omega arith) good b.outer)
    where
      s1 : System K
      s1 = end_of K sum s b.picks

      linked : Linked K sum s1 q
      linked = still_linked s q b.picks x b.never

      c : Code
      c = (b.outer k).0

      σ : List ℤ
      σ = (b.outer k).1

      is_outside : task_at K s1 k ≡ outside c σ
      is_outside = (b.outer k).2

      good : Outside c (length σ)
      good = subst (Good K sum s1.table) is_outside (linked.good k)

      which : Went k s1 → Ended k s1
      which (stopped w) = w
      which (took w) =
          let t = can_turn q k (subst (λ (js : List ℕ). CanTake sum q js) w.once (run_linked K sum w.picks s1 q linked).can) in
          value_idle q t.0 k n e t.1

  finish_one : (k : ℕ) (s : System K) (q : Script) → Linked K sum s q → k < length s.tasks → (b : Settled s q k) → Ended k (end_of K sum s b.picks) → Settled s q (suc k)
  finish_one k s q x l b w =
      record {
        picks = b.picks ++ w.picks;
        never = nothing_taken;
        calm = calm_append s b.picks w.picks b.calm w.calm;
        below = below_append (length s.tasks) b.picks w.picks b.below (w.only (length s.tasks) l);
        outer = rw (end_append s b.picks w.picks) w.outer;
        ended = λ j n m e. rw (end_append s b.picks w.picks) (go j n m e (eqb j k) refl);
      }
    where
      s1 : System K
      s1 = end_of K sum s b.picks

      nothing_taken : order (events_of K sum s (b.picks ++ w.picks)) ≡ []
      nothing_taken = orders_append s b.picks w.picks ∙ rw (b.never, w.never)

      now : Linked K sum (end_of K sum s1 w.picks) q
      now = still_linked s1 q w.picks (still_linked s q b.picks x b.never) w.never

      go : (j : ℕ) (n : ℤ) → j < suc k → get_or q.threads j (ValP (pos 0)) ≡ ValP n → (t : Bool) → eqb j k ≡ t → task_at K (end_of K sum s1 w.picks) j ≡ outside ε (n ∷ [])
      go j n m e true f =
          let same : j ≡ k = eqb-true j k f in
          let is : get_or q.threads k (ValP (pos 0)) ≡ ValP w.number = ended_value (end_of K sum s1 w.picks) q k w.number now w.ended in
          let is' : get_or q.threads k (ValP (pos 0)) ≡ ValP n = ap {B = Proc} (λ (y : ℕ). get_or q.threads y (ValP (pos 0))) (sym same) ∙ e in
          let both : ValP w.number ≡ ValP n = sym is ∙ is' in
          let number : w.number ≡ n = cc in
          subst (λ (y : ℕ). task_at K (end_of K sum s1 w.picks) y ≡ outside ε (n ∷ [])) (sym same) (subst (λ (y : ℤ). task_at K (end_of K sum s1 w.picks) k ≡ outside ε (y ∷ [])) number w.ended)
      go j n m e false f =
          let d : j ≡ k → ⊥ = eqb-false j k f in
          w.others j d ∙ b.ended j n (omega arith) e

  settle : (k : ℕ) (s : System K) (q : Script) → Linked K sum s q → AllOutside K s → k ≤ length s.tasks → Settled s q k
  unfolding events_of end_of order counted
  settle zero s q x o l = record { picks = []; never = refl; calm = refl; below = tt; outer = o; ended = λ j n m. absurd (omega arith) }
  settle (suc k) s q x o l = go (settle k s q x o (omega arith)) (get_or q.threads k (ValP (pos 0))) refl
    where
      go : Settled s q k → (p : Proc) → get_or q.threads k (ValP (pos 0)) ≡ p → Settled s q (suc k)
      go b (ValP n) e = finish_one k s q x l b (finishes k s q x l b n e)
      go b (AddP u v) e = leave k s q b (λ n f. let y : ValP n ≡ AddP u v = sym f ∙ e in let z : ◌≡◌ {A = ℕ} 0 1 = cc in omega arith)
      go b (Atomic t) e = leave k s q b (λ n f. let y : ValP n ≡ Atomic t = sym f ∙ e in let z : ◌≡◌ {A = ℕ} 0 1 = cc in omega arith)
      go b (Fork u) e = leave k s q b (λ n f. let y : ValP n ≡ Fork u = sym f ∙ e in let z : ◌≡◌ {A = ℕ} 0 1 = cc in omega arith)

  -- ---- a list of turns as a run
  pub record Realised (s : System K) (q : Script) (is : List ℕ) : Type 0 where
    pub picks : List ℕ
    pub taken : order (events_of K sum s picks) ≡ is
    pub calm : counted is_back (events_of K sum s picks) ≡ 0
    pub exist : Below (length (end_of K sum s picks).tasks) picks
    pub results : (i : ℕ) (n : ℤ) → get_or (turns sum q is).threads i (ValP (pos 0)) ≡ ValP n → task_at K (end_of K sum s picks) i ≡ outside ε (n ∷ [])

  at-end : (s : System K) (q : Script) → Linked K sum s q → AllOutside K s → Realised s q []
  unfolding turns
  at-end s q x o =
      record {
        picks = b.picks;
        taken = b.never;
        calm = b.calm;
        exist = below_more (length s.tasks) (length (end_of K sum s b.picks).tasks) b.picks (end_length b.picks s) b.below;
        results = λ i n e. go i n e (ltb i (length s.tasks)) refl;
      }
    where
      b : Settled s q (length s.tasks)
      b = settle (length s.tasks) s q x o (omega arith)

      end : System K
      end = end_of K sum s b.picks

      long : length end.tasks ≡ length s.tasks
      long = tasks_length end q (still_linked s q b.picks x b.never) ∙ sym (tasks_length s q x)

      go : (i : ℕ) (n : ℤ) → get_or q.threads i (ValP (pos 0)) ≡ ValP n → (t : Bool) → ltb i (length s.tasks) ≡ t → task_at K end i ≡ outside ε (n ∷ [])
      go i n e true f = b.ended i n (ltb-true i (length s.tasks) f) e
      go i n e false f =
          let far : length s.tasks ≤ i = ltb-false i (length s.tasks) f in
          let none_there : get_or q.threads i (ValP (pos 0)) ≡ ValP (pos 0) = get_or-eq_default q.threads (ValP (pos 0)) (let y = tasks_length s q x in omega arith) in
          let both : ValP (pos 0) ≡ ValP n = sym none_there ∙ e in
          let number : pos 0 ≡ n = cc in
          get_or-eq_default end.tasks (ended K) (let y = long in omega arith) ∙ ap {B = Task K} (λ (y : ℤ). outside ε (y ∷ [])) number

  -- a task whose turn is due takes it alone
  takes : (s : System K) (q q' : Script) (i : ℕ) → Linked K sum s q → AllOutside K s → turn sum q i ≡ turned q' → Turned i s
  takes s q q' i x o t = which (goes_alone i c σ s (o i).2 (let y = beyond_idle q q' i t in let z = tasks_length s q x in omega arith) good o)
    where
      c : Code
      c = (o i).0

      σ : List ℤ
      σ = (o i).1

      good : Outside c (length σ)
      good = subst (Good K sum s.table) (o i).2 (x.good i)

      which : Went i s → Turned i s
      which (took w) = w
      which (stopped w) = value_idle q q' i w.number (ended_value (end_of K sum s w.picks) q i w.number (still_linked s q w.picks x w.never) w.ended) t

  one_more : (s : System K) (q q' : Script) (i : ℕ) (is : List ℕ) → Linked K sum s q → turn sum q i ≡ turned q' → (w : Turned i s) → Realised (end_of K sum s w.picks) q' is → Realised s q (i ∷ is)
  one_more s q q' i is x t w r =
      record {
        picks = w.picks ++ r.picks;
        taken = orders_append s w.picks r.picks ∙ rw (w.once, r.taken);
        calm = calm_append s w.picks r.picks w.calm r.calm;
        exist = rw (end_append s w.picks r.picks) (below_append last w.picks r.picks (w.only last small) r.exist);
        results = λ j n e. rw (end_append s w.picks r.picks) (r.results j n (rw (turns_one K sum q q' i is t) at e));
      }
    where
      last : ℕ
      last = length (end_of K sum (end_of K sum s w.picks) r.picks).tasks

      small : i < last
      small =
          let a = beyond_idle q q' i t in
          let b = tasks_length s q x in
          let c = end_length w.picks s in
          let d = end_length r.picks (end_of K sum s w.picks) in
          omega arith

  -- every list of turns that the script can take is the order of a run of the tasks, at whose end each result of the script is a task's, and in
  -- which nothing is sent back
  pub complete : (is : List ℕ) (s : System K) (q : Script) → Linked K sum s q → AllOutside K s → CanTake sum q is → Realised s q is
  complete is s q x o script.none = at-end s q x o
  complete is s q x o (script.one {s' = q'} {i = i} {is = js} t c) =
      let w = takes s q q' i x o t in
      one_more s q q' i js x t w (complete js (end_of K sum s w.picks) q' (turned_linked s q q' i w.picks x t w.once) w.outer c)
