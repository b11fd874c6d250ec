-- One step of one task: what it keeps, and what it is in the script. Assumes nothing.
use Prim.Native.Nat.{ℕ, zero, suc, ◌+◌, ◌<◌}
use mathlib.Core.Bool.{Bool, true, false}
use mathlib.Core.Path.{◌≡◌, refl, sym, ap, subst, ◌∙◌}
use mathlib.Core.List.{List, [], ◌∷◌}
use mathlib.Core.Option.{Option, none, some}
use native.Mathlib.Omega.{arith}
use borrow.Author.Tests.{eqb-true, eqb-false, ltb-false}
use lib.Dec.{eqb, ltb}
use lib.IntN.{ℤ, pos}
use lib.ListN.{length, get_or}
use Rattle.stm.specs.InnerCells.{Cells}
use Rattle.stm.specs.InnerTasks.{Log, nothing, logged, Task, outside, inside, ended, Did, cell_at, Found, found_in, found, stale_in, first_stale, overwritten, goes, step_outside, step_inside, step_task, started}
use Rattle.stm.specs.InnerMeaning.{process_of, values, meant, meant_all, values_of, Outside, Inside, Finished, wholly, finish, overlay, behind, Agrees, Open, Known, Good}
use Rattle.stm.proofs.Codes.{tran_of, tran_whole, work_all, tran_finish, Becomes, due, outside_moves}
use Rattle.stm.proofs.Logs.{logged_same, logged_other, seen, overlay_nothing, overlay_at, overlay_logged, value_at, values_length, values_overwritten, overwritten_length, overwritten_past, none_stale}
use Rattle.code.specs.Compile.{Code, PUSH, ADD, READ, WRITE, BEGIN, COMMIT, FORK, ε, ◌⨾◌}
use Rattle.stm.specs.Events.{Event, idle, pushed, summed, begun, looked, wrote, committed, sent_back, is_turn}
use Rattle.script.specs.Tree.{Tran, Proc, ValP, AddP, Atomic, Fork}
use Rattle.script.specs.Overflows.{overflows_p}
use Rattle.script.specs.Turns.{Registers, Reduced, moved, reduce}
use Rattle.word.specs.Sum.{Rule, over_of}

pub values_long : (σ : List ℤ) → length (values σ) ≡ length σ
values_long [] = refl
values_long (n ∷ σ) = ap suc (values_long σ)

no_option : {A B : Type 0} {a : A} → ◌≡◌ {A = Option A} none (some a) → B
no_option e = absurd (let z : ◌≡◌ {A = ℕ} 0 1 = cc in omega arith)

module _ (K : Cells) (sum : Rule) where
  -- no turn: table and meaning stay, no sum is told; or a turn: the task's process moves to what the task then means, as many sums falling
  -- outside the range as are told
  pub data Scripted (h : List K.Cell) (t : Task K) (d : Did K) : Type 0 where
    quiet : is_turn d.event ≡ false → d.over ≡ 0 → d.table ≡ h → d.children ≡ [] → meant K d.task ≡ meant K t → Scripted h t d
    taken : is_turn d.event ≡ true → Becomes sum (values_of K h) (values_of K d.table) (meant_all K (started K d.children)) d.over (meant K t) (meant K d.task) → Scripted h t d

  pub record Fine (h : List K.Cell) (t : Task K) (d : Did K) : Type 0 where
    pub sized : length d.table ≡ length h
    pub known : (r : Log K.Cell) → Known K sum r h → Known K sum r d.table
    pub good : Good K sum d.table d.task
    pub born : (j : ℕ) → Good K sum d.table (get_or (started K d.children) j (ended K))
    pub script : Scripted h t d

  pub ended_good : (h : List K.Cell) → Good K sum h (ended K)
  unfolding Outside
  ended_good h = refl

  quietly : (h : List K.Cell) (t t' : Task K) (e : Event) → is_turn e ≡ false → meant K t' ≡ meant K t → Good K sum h t' → Fine h t (goes K t' h e)
  quietly h t t' e q m g = record { sized = refl; known = λ r k. k; good = g; born = λ j. ended_good h; script = quiet q refl refl refl m }

  -- ---- outside a transaction
  -- what a transaction is at its BEGIN
  pub opened : (c : Code) (σ : List ℤ) → Outside (BEGIN ⨾ c) (length σ) → Open K sum c σ c [] nothing nothing 0
  unfolding Outside process_of work_all
  opened c σ k =
      record {
        tran = tran_of c [];
        whole = λ ps. tran_whole c [] (length σ) k ps;
        ready = k;
        goes-on = k;
        same = λ rs l a. rw (overlay_nothing 64 0 rs) (tran_finish sum c [] (length σ) k rs);
      }

  due_top : (h : List K.Cell) (c : Code) (x x' : Proc) (σ : List ℤ) (rs' : Registers) (new : List Proc) (over : ℕ) → Outside c (suc (length σ)) → Becomes sum (values_of K h) rs' new over x x' → Becomes sum (values_of K h) rs' new over (process_of c (x ∷ values σ)) (process_of c (x' ∷ values σ))
  due_top h c x x' σ rs' new over k e =
      outside_moves sum (values_of K h) rs' new over c (x ∷ values σ) (x' ∷ values σ) (subst (λ (n : ℕ). Outside c (suc n)) (sym (values_long σ)) k) (due x x' σ e)

  outside_fine : (h : List K.Cell) (c : Code) (σ : List ℤ) → Outside c (length σ) → Fine h (outside c σ) (step_outside K sum h c σ)
  unfolding step_outside Outside process_of reduce overflows_p
  outside_fine h ε σ k = quietly h (outside ε σ) (outside ε σ) idle refl refl k
  outside_fine h (PUSH n ⨾ c) σ k = quietly h (outside (PUSH n ⨾ c) σ) (outside c (n ∷ σ)) pushed refl refl k
  outside_fine h (ADD ⨾ c) [] k = absurd k
  outside_fine h (ADD ⨾ c) (n ∷ []) k = absurd k
  outside_fine h (ADD ⨾ c) (n ∷ m ∷ σ) k =
      record {
        sized = refl;
        known = λ r x. x;
        good = k;
        born = λ j. ended_good h;
        script = taken refl (due_top h c (AddP (ValP m) (ValP n)) (ValP (sum m n)) σ (values_of K h) [] (over_of m n) k (record { reduces = refl; overs = refl }));
      }
  outside_fine h (READ v ⨾ c) σ k = absurd k
  outside_fine h (WRITE v ⨾ c) σ k = absurd k
  outside_fine h (BEGIN ⨾ c) σ k = quietly h (outside (BEGIN ⨾ c) σ) (inside c σ c [] nothing nothing 0) begun refl refl (opened c σ k, λ v x l e. no_option e)
  outside_fine h (COMMIT ⨾ c) σ k = absurd k
  outside_fine h (FORK x ⨾ c) σ k =
      record {
        sized = refl;
        known = λ r y. y;
        good = k.1;
        born = child;
        script = taken refl (due_top h c (Fork (process_of x [])) (ValP (pos 0)) σ (values_of K h) (process_of x [] ∷ []) 0 k.1 (record { reduces = refl; overs = refl }));
      }
    where
      child : (j : ℕ) → Good K sum h (get_or (started K (x ∷ [])) j (ended K))
      child zero = k.0
      child (suc j) = ended_good h

  -- ---- inside a transaction
  -- an open transaction that has gone on
  goes_on_open : (body : Code) (base : List ℤ) (c c' : Code) (σ σ' : List ℤ) (r r' : Log K.Cell) (w w' : Log ℤ) (over over' : ℕ) → Open K sum body base c σ r w over → behind c ≡ behind c' → Inside c' (length σ') (length base) → ((rs : Registers) → length rs ≡ 64 → Agrees K sum r' rs → Agrees K sum r rs) → ((rs : Registers) → length rs ≡ 64 → Agrees K sum r' rs → finish sum c' σ' over' (overlay 64 0 w' rs) ≡ finish sum c σ over (overlay 64 0 w rs)) → Open K sum body base c' σ' r' w' over'
  goes_on_open body base c c' σ σ' r r' w w' over over' o b i less f =
      record {
        tran = o.tran;
        whole = λ ps. subst (λ (x : Code). process_of (BEGIN ⨾ body) ps ≡ process_of x (Atomic o.tran ∷ ps)) b (o.whole ps);
        ready = o.ready;
        goes-on = i;
        same = λ rs l a. f rs l a ∙ o.same rs l (less rs l a);
      }

  -- a register read
  record Looks (body : Code) (base : List ℤ) (c : Code) (σ : List ℤ) (h : List K.Cell) (w : Log ℤ) (over : ℕ) (f : Found K) : Type 0 where
    open_on : Open K sum body base c (f.value ∷ σ) f.reads w over
    known_on : Known K sum f.reads h

  looks : (body : Code) (base : List ℤ) (c : Code) (σ : List ℤ) (h : List K.Cell) (r : Log K.Cell) (w : Log ℤ) (over v : ℕ) → Open K sum body base (READ v ⨾ c) σ r w over → Known K sum r h → Looks body base c σ h w over (found K h r w v)
  unfolding found Inside finish behind
  looks body base c σ h r w over v o k = go (w v) refl (r v) refl
    where
      small : v < 64
      small = o.goes-on.0

      -- the value that a table with the write log over it has
      at : (rs : Registers) → length rs ≡ 64 → (a : Option ℤ) → w v ≡ a → get_or (overlay 64 0 w rs) v (pos 0) ≡ seen a (get_or rs v (pos 0))
      at rs l a e = overlay_at w rs v small l ∙ ap {B = ℤ} (λ (x : Option ℤ). seen x (get_or rs v (pos 0))) e

      go : (a : Option ℤ) → w v ≡ a → (b : Option K.Cell) → r v ≡ b → Looks body base c σ h w over (found_in K a b (cell_at K h v) r v)
      go (some n) e b f =
          record {
            open_on =
                goes_on_open body base (READ v ⨾ c) c σ (n ∷ σ) r r w w over over o refl o.goes-on.1 (λ rs l a. a)
                (λ rs l a. ap {B = Finished} (λ (x : ℤ). finish sum c (x ∷ σ) over (overlay 64 0 w rs)) (sym (at rs l (some n) e)));
            known_on = k;
          }
      go none e (some x) f =
          record {
            open_on =
                goes_on_open body base (READ v ⨾ c) c σ (K.value x ∷ σ) r r w w over over o refl o.goes-on.1 (λ rs l a. a)
                (λ rs l a. ap {B = Finished} (λ (y : ℤ). finish sum c (y ∷ σ) over (overlay 64 0 w rs)) (sym (at rs l none e ∙ a v x small f)));
            known_on = k;
          }
      go none e none f =
          record {
            open_on =
                goes_on_open body base (READ v ⨾ c) c σ (K.value (cell_at K h v) ∷ σ) r (logged r v (cell_at K h v)) w w over over o refl o.goes-on.1
                (λ rs l a. fewer rs a)
                (λ rs l a. ap {B = Finished} (λ (y : ℤ). finish sum c (y ∷ σ) over (overlay 64 0 w rs)) (sym (at rs l none e ∙ a v (cell_at K h v) small (logged_same r v (cell_at K h v)))));
            known_on = λ u x l q. past u x l q (eqb u v) refl;
          }
        where
          fewer : (rs : Registers) → Agrees K sum (logged r v (cell_at K h v)) rs → Agrees K sum r rs
          fewer rs a u x l q = a u x l (logged_other r v u (cell_at K h v) (λ d. no_option (sym f ∙ sym (ap {B = Option K.Cell} r d) ∙ q)) ∙ q)

          past : (u : ℕ) (x : K.Cell) → u < 64 → logged r v (cell_at K h v) u ≡ some x → (t : Bool) → eqb u v ≡ t → K.Past x (cell_at K h u)
          past u x l q true d =
              let same : u ≡ v = eqb-true u v d in
              let now : ◌≡◌ {A = Option K.Cell} (some (cell_at K h v)) (some x) = sym (logged_same r v (cell_at K h v)) ∙ ap {B = Option K.Cell} (logged r v (cell_at K h v)) (sym same) ∙ q in
              let cell : cell_at K h v ≡ x = cc in
              subst (λ (y : ℕ). K.Past x (cell_at K h y)) (sym same) (subst (λ (y : K.Cell). K.Past x y) (sym cell) (K.past_now x))
          past u x l q false d = k u x l (sym (logged_other r v u (cell_at K h v) (eqb-false u v d)) ∙ q)

  atomic_due : (rs rs' : Registers) (t : Tran) (n : ℤ) (over : ℕ) → ◌≡◌ {A = Finished} (record { value = n; registers = rs'; over = over }) (wholly sum t rs) → Becomes sum rs rs' [] over (Atomic t) (ValP n)
  unfolding reduce overflows_p
  atomic_due rs rs' t n over e =
      record {
        reduces = sym (ap {B = Reduced} (λ (f : Finished). moved (ValP f.value) f.registers []) e);
        overs = sym (ap {B = ℕ} (λ (f : Finished). f.over) e);
      }

  inside_fine : (h : List K.Cell) (body : Code) (base : List ℤ) (c : Code) (σ : List ℤ) (r : Log K.Cell) (w : Log ℤ) (over : ℕ) → length h ≡ 64 → Open K sum body base c σ r w over → Known K sum r h → Fine h (inside body base c σ r w over) (step_inside K sum h body base c σ r w over)
  unfolding step_inside Inside finish behind
  inside_fine h body base ε σ r w over l o k = absurd o.goes-on
  inside_fine h body base (PUSH n ⨾ c) σ r w over l o k =
      quietly h (inside body base (PUSH n ⨾ c) σ r w over) (inside body base c (n ∷ σ) r w over) pushed refl refl
      (goes_on_open body base (PUSH n ⨾ c) c σ (n ∷ σ) r r w w over over o refl o.goes-on (λ rs x a. a) (λ rs x a. refl), k)
  inside_fine h body base (ADD ⨾ c) [] r w over l o k = absurd o.goes-on
  inside_fine h body base (ADD ⨾ c) (n ∷ []) r w over l o k = absurd o.goes-on
  inside_fine h body base (ADD ⨾ c) (n ∷ m ∷ σ) r w over l o k =
      quietly h (inside body base (ADD ⨾ c) (n ∷ m ∷ σ) r w over) (inside body base c (sum m n ∷ σ) r w (over + over_of m n)) (summed true) refl refl
      (goes_on_open body base (ADD ⨾ c) c (n ∷ m ∷ σ) (sum m n ∷ σ) r r w w over (over + over_of m n) o refl o.goes-on (λ rs x a. a) (λ rs x a. refl), k)
  inside_fine h body base (READ v ⨾ c) σ r w over l o k =
      let s = looks body base c σ h r w over v o k in
      quietly h (inside body base (READ v ⨾ c) σ r w over) (inside body base c ((found K h r w v).value ∷ σ) (found K h r w v).reads w over) (looked (found K h r w v).source) refl refl (s.open_on, s.known_on)
  inside_fine h body base (WRITE v ⨾ c) [] r w over l o k = absurd o.goes-on.1
  inside_fine h body base (WRITE v ⨾ c) (n ∷ σ) r w over l o k =
      quietly h (inside body base (WRITE v ⨾ c) (n ∷ σ) r w over) (inside body base c (n ∷ σ) r (logged w v n) over) wrote refl refl
      (goes_on_open body base (WRITE v ⨾ c) c (n ∷ σ) (n ∷ σ) r r w (logged w v n) over over o refl o.goes-on.1 (λ rs x a. a) (λ rs x a. ap {B = Finished} (λ (y : Registers). finish sum c (n ∷ σ) over y) (overlay_logged w v n rs o.goes-on.0 x)), k)
  inside_fine h body base (BEGIN ⨾ c) σ r w over l o k = absurd o.goes-on
  inside_fine h body base (COMMIT ⨾ c) [] r w over l o k = absurd (let z : ◌≡◌ {A = ℕ} 0 1 = o.goes-on.0 in omega arith)
  inside_fine h body base (COMMIT ⨾ c) (n ∷ σ) r w over l o k = go (ltb (first_stale K 64 0 r h) 64) refl
    where
      agrees : ltb (first_stale K 64 0 r h) 64 ≡ false → Agrees K sum r (values_of K h)
      agrees e v x small f =
          let none_is : stale_in K (r v) (cell_at K h v) ≡ false = none_stale K 64 0 r h (let y = ltb-false (first_stale K 64 0 r h) 64 e in omega arith) v (omega arith) (omega arith) in
          value_at K h v ∙ sym (K.not_stale x (cell_at K h v) (k v x small f) (subst (λ (y : Option K.Cell). stale_in K y (cell_at K h v) ≡ false) f none_is))

      worked : ltb (first_stale K 64 0 r h) 64 ≡ false → ◌≡◌ {A = Finished} (record { value = n; registers = overlay 64 0 w (values_of K h); over = over }) (wholly sum o.tran (values_of K h))
      worked e = o.same (values_of K h) (values_length K h ∙ l) (agrees e)

      moves : ltb (first_stale K 64 0 r h) 64 ≡ false → Becomes sum (values_of K h) (values_of K (overwritten K 64 0 w h)) [] over (Atomic o.tran) (ValP n)
      moves e = rw (values_overwritten K 64 0 w h) (atomic_due (values_of K h) (overlay 64 0 w (values_of K h)) o.tran n over (worked e))

      go : (t : Bool) → ltb (first_stale K 64 0 r h) 64 ≡ t → Fine h (inside body base (COMMIT ⨾ c) (n ∷ σ) r w over) (elim t [
        | true ↦ record { task = outside (BEGIN ⨾ body) base; table = h; children = []; event = sent_back (first_stale K 64 0 r h); over = 0 }
        | false ↦ record { task = outside c (n ∷ base); table = overwritten K 64 0 w h; children = []; event = committed; over = over }
      ])
      go true e = quietly h (inside body base (COMMIT ⨾ c) (n ∷ σ) r w over) (outside (BEGIN ⨾ body) base) (sent_back (first_stale K 64 0 r h)) refl refl o.ready
      go false e =
          record {
            sized = overwritten_length K 64 0 w h;
            known = λ r' k' v x s f. overwritten_past K 64 0 w h v x (k' v x s f);
            good = o.goes-on.1;
            born = λ j. ended_good (overwritten K 64 0 w h);
            script = taken refl (subst (λ (p : Proc). Becomes sum (values_of K h) (values_of K (overwritten K 64 0 w h)) [] over p (process_of c (values (n ∷ base)))) (sym (o.whole (values base))) (due_top h c (Atomic o.tran) (ValP n) base (values_of K (overwritten K 64 0 w h)) [] over o.goes-on.1 (moves e)));
          }
  inside_fine h body base (FORK x ⨾ c) σ r w over l o k = absurd o.goes-on

  -- a step of a good task is fine
  pub task_fine : (h : List K.Cell) (t : Task K) → length h ≡ 64 → Good K sum h t → Fine h t (step_task K sum h t)
  unfolding step_task
  task_fine h (outside c σ) l g = outside_fine h c σ g
  task_fine h (inside body base c σ r w over) l g = inside_fine h body base c σ r w over l g.0 g.1
