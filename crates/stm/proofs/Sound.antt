-- Every run of the tasks is a run of the script: its order is a list that the script can take, and the two stay linked. Assumes nothing.
use Prim.Native.Nat.{ℕ, zero, suc, ◌+◌}
use mathlib.Core.Bool.{Bool, true, false, cond}
use mathlib.Core.Path.{◌≡◌, refl, sym, ap, ap₂, subst, ◌∙◌}
use mathlib.Core.List.{List, [], ◌∷◌, ◌++◌, append-nil}
use native.Mathlib.Omega.{arith}
use lib.Dec.{ltb}
use lib.IntN.{ℤ, pos}
use lib.ListN.{length, get_or, set, replicate, get_or-eq_default}
use borrow.Author.Tests.{ltb-false}
use lib.Seq.{set-get_or}
use Rattle.stm.specs.InnerCells.{Cells}
use Rattle.stm.specs.InnerTasks.{Log, Task, outside, inside, ended, Did, System, task_at, started, did, next, end_of, events_of, start, overs}
use Rattle.stm.specs.InnerMeaning.{process_of, meant, meant_all, values_of, Outside, Known, Good, Linked}
use Rattle.stm.proofs.Codes.{proc_means, proc_runs}
use Rattle.stm.proofs.Logs.{values_blank}
use Rattle.stm.proofs.Opens.{Scripted, quiet, taken, Fine, task_fine}
use Rattle.code.specs.Compile.{ε, compile_p}
use Rattle.stm.specs.Events.{is_turn, order}
use Rattle.script.specs.Tree.{Proc, ValP}
use Rattle.script.specs.Limits.{ValuedP}
use Rattle.script.specs.Overflows.{overflows_p, overflows_turns}
use Rattle.script.specs.Turns.{Registers, moved, reduce, Script, initial, turned, turn, turns, CanTake}
use Rattle.script.specs.Turns as script
use Rattle.word.specs.Sum.{Rule}

-- ---- of every element of a list
pub each_set : {A : Type 0} (P : A → Type 0) (d : A) (l : List A) (j : ℕ) (x : A) → ((i : ℕ) → P (get_or l i d)) → P x → (i : ℕ) → P (get_or (set l j x) i d)
each_set P d [] j x h p i = h i
each_set P d (y ∷ ys) zero x h p zero = p
each_set P d (y ∷ ys) zero x h p (suc i) = h (suc i)
each_set P d (y ∷ ys) (suc j) x h p zero = h zero
each_set P d (y ∷ ys) (suc j) x h p (suc i) = each_set P d ys j x (λ k. h (suc k)) p i

pub each_append : {A : Type 0} (P : A → Type 0) (d : A) (l m : List A) → ((i : ℕ) → P (get_or l i d)) → ((i : ℕ) → P (get_or m i d)) → (i : ℕ) → P (get_or (l ++ m) i d)
each_append P d [] m h k i = k i
each_append P d (y ∷ ys) m h k zero = h zero
each_append P d (y ∷ ys) m h k (suc i) = each_append P d ys m (λ j. h (suc j)) k i

-- ---- what tasks stand for
module _ (K : Cells) where
  pub meant_length : (ts : List (Task K)) → length (meant_all K ts) ≡ length ts
  meant_length [] = refl
  meant_length (t ∷ ts) = ap suc (meant_length ts)

  pub meant_at : (ts : List (Task K)) (i : ℕ) → get_or (meant_all K ts) i (ValP (pos 0)) ≡ meant K (get_or ts i (ended K))
  unfolding process_of
  meant_at [] i = refl
  meant_at (t ∷ ts) zero = refl
  meant_at (t ∷ ts) (suc i) = meant_at ts i

  meant_set : (ts : List (Task K)) (i : ℕ) (t : Task K) → meant_all K (set ts i t) ≡ set (meant_all K ts) i (meant K t)
  meant_set [] i t = refl
  meant_set (u ∷ ts) zero t = refl
  meant_set (u ∷ ts) (suc i) t = rw (meant_set ts i t)

  meant_append : (ts us : List (Task K)) → meant_all K (ts ++ us) ≡ meant_all K ts ++ meant_all K us
  meant_append [] us = refl
  meant_append (t ∷ ts) us = rw (meant_append ts us)

module _ (K : Cells) (sum : Rule) where
  -- a job's code alone is linked to the job's script
  pub start_linked : (p : Proc) → ValuedP p → Linked K sum (start K (compile_p p ε)) (initial p)
  unfolding start initial Outside process_of
  start_linked p v =
      record {
        sized = refl;
        registers = sym (values_blank K 64);
        threads = ap {B = List Proc} (λ (x : Proc). x ∷ []) (sym (proc_means p ε []));
        good = root;
      }
    where
      root : (i : ℕ) → Good K sum (replicate 64 K.blank) (get_or (outside (compile_p p ε) [] ∷ []) i (ended K))
      root zero = proc_runs p ε 0 v refl
      root (suc i) = refl

  keeps_good : (h h' : List K.Cell) → ((r : Log K.Cell) → Known K sum r h → Known K sum r h') → (t : Task K) → Good K sum h t → Good K sum h' t
  keeps_good h h' k (outside c σ) g = g
  keeps_good h h' k (inside body base c σ r w over) g = (g.0, k r g.1)

  -- the sums of thread i's due node that fall outside the range
  abbrev due_overs : Script → ℕ → ℕ
  due_overs q i = overflows_p sum q.registers (get_or q.threads i (ValP (pos 0)))

  -- a pick: it is no turn, tells of no sum and the script stays, or it is the script's turn of the same number and tells of its sums
  pub data Stepped (s : System K) (q : Script) (i : ℕ) : Type 0 where
    stayed : is_turn (did K sum s i).event ≡ false → (did K sum s i).over ≡ 0 → Linked K sum (next K sum s i) q → Stepped s q i
    turned_to : is_turn (did K sum s i).event ≡ true → (did K sum s i).over ≡ due_overs q i → (q' : Script) → turn sum q i ≡ turned q' → Linked K sum (next K sum s i) q' → Stepped s q i

  value_stays : {A : Type 0} (rs : Registers) (n : ℤ) (p : Proc) (rs' : Registers) (new : List Proc) → reduce sum rs (ValP n) ≡ moved p rs' new → A
  unfolding reduce
  value_stays rs n p rs' new e = absurd (let z : ◌≡◌ {A = ℕ} 0 1 = cc in omega arith)

  -- a thread that moves takes its turn
  moves_turn : (q : Script) (i : ℕ) (p : Proc) (rs : Registers) (new : List Proc) → reduce sum q.registers (get_or q.threads i (ValP (pos 0))) ≡ moved p rs new → turn sum q i ≡ turned (record { registers = rs; threads = set q.threads i p ++ new })
  unfolding turn
  moves_turn q i p rs new e = go (ltb i (length q.threads)) refl
    where
      go : (b : Bool) → ltb i (length q.threads) ≡ b → turn sum q i ≡ turned (record { registers = rs; threads = set q.threads i p ++ new })
      go true f = rw (turn, f, e)
      go false f = value_stays q.registers (pos 0) p rs new (subst (λ (x : Proc). reduce sum q.registers x ≡ moved p rs new) (get_or-eq_default q.threads (ValP (pos 0)) (ltb-false i (length q.threads) f)) e)

  pub step_linked : (s : System K) (q : Script) (i : ℕ) → Linked K sum s q → Stepped s q i
  unfolding next
  step_linked s q i k = go fine.script
    where
      d : Did K
      d = did K sum s i

      fine : Fine K sum s.table (task_at K s i) d
      fine = task_fine K sum s.table (task_at K s i) k.sized (k.good i)

      all_good : (j : ℕ) → Good K sum d.table (get_or (set s.tasks i d.task ++ started K d.children) j (ended K))
      all_good =
          each_append (Good K sum d.table) (ended K) (set s.tasks i d.task) (started K d.children)
          (each_set (Good K sum d.table) (ended K) s.tasks i d.task (λ j. keeps_good s.table d.table fine.known (task_at K s j) (k.good j)) fine.good)
          fine.born

      all_meant : meant_all K (set s.tasks i d.task ++ started K d.children) ≡ set (meant_all K s.tasks) i (meant K d.task) ++ meant_all K (started K d.children)
      all_meant = meant_append K (set s.tasks i d.task) (started K d.children) ∙ ap {B = List Proc} (λ (l : List Proc). l ++ meant_all K (started K d.children)) (meant_set K s.tasks i d.task)

      go : Scripted K sum s.table (task_at K s i) d → Stepped s q i
      go (quiet e o table none same) =
          stayed e o (record {
            sized = fine.sized ∙ k.sized;
            registers = k.registers ∙ ap {B = Registers} (values_of K) (sym table);
            threads = k.threads ∙ sym (all_meant ∙ unmoved);
            good = all_good;
          })
        where
          unmoved : set (meant_all K s.tasks) i (meant K d.task) ++ meant_all K (started K d.children) ≡ meant_all K s.tasks
          unmoved = rw (none, same, ← meant_at K s.tasks i, set-get_or (meant_all K s.tasks) i (ValP (pos 0)), append-nil)
      go (taken e moves) =
          turned_to e (sym (rw (k.registers, k.threads, meant_at K s.tasks i) moves.overs)) (record { registers = values_of K d.table; threads = set q.threads i (meant K d.task) ++ meant_all K (started K d.children) })
          (moves_turn q i (meant K d.task) (values_of K d.table) (meant_all K (started K d.children)) (rw (k.registers, k.threads, meant_at K s.tasks i) moves.reduces))
          (record {
            sized = fine.sized ∙ k.sized;
            registers = refl;
            threads = sym (rw k.threads all_meant);
            good = all_good;
          })

  pub turns_one : (q q' : Script) (i : ℕ) (js : List ℕ) → turn sum q i ≡ turned q' → turns sum q (i ∷ js) ≡ turns sum q' js
  unfolding turns
  turns_one q q' i js e = rw e

  pub over_one : (q q' : Script) (i : ℕ) (js : List ℕ) → turn sum q i ≡ turned q' → overflows_turns sum q (i ∷ js) ≡ due_overs q i + overflows_turns sum q' js
  unfolding overflows_turns
  over_one q q' i js e = rw e

  -- the order of a run is a list that the script can take, what the run leaves is linked to what the script then is, and the sums that the run
  -- tells of are those of the script's turns
  pub record Followed (q : Script) (js : List ℕ) (told : ℕ) (end : System K) : Type 0 where
    pub can : CanTake sum q js
    pub linked : Linked K sum end (turns sum q js)
    pub over : told ≡ overflows_turns sum q js

  pub run_linked : (is : List ℕ) (s : System K) (q : Script) → Linked K sum s q → Followed q (order (events_of K sum s is)) (overs (events_of K sum s is)) (end_of K sum s is)
  unfolding end_of events_of order overs turns overflows_turns
  run_linked [] s q k = record { can = script.none; linked = k; over = refl }
  run_linked (i ∷ is) s q k = go (step_linked s q i k) (λ q' x. run_linked is (next K sum s i) q' x)
    where
      rest : List ℕ
      rest = order (events_of K sum (next K sum s i) is)

      behind : ℕ
      behind = overs (events_of K sum (next K sum s i) is)

      end : System K
      end = end_of K sum (next K sum s i) is

      go : Stepped s q i → ((q' : Script) → Linked K sum (next K sum s i) q' → Followed q' rest behind end) → Followed q (cond (is_turn (did K sum s i).event) (i ∷ rest) rest) ((did K sum s i).over + behind) end
      go (stayed e o x) f =
          let r = f q x in
          let a = r.over in
          rw e (record { can = r.can; linked = r.linked; over = omega arith })
      go (turned_to e o q' t x) f =
          let r = f q' x in
          rw e (record {
            can = script.one t r.can;
            linked = rw (turns_one q q' i rest t) r.linked;
            over = ap₂ (λ (n m : ℕ). n + m) o r.over ∙ sym (over_one q q' i rest t);
          })
