-- A step keeps the table's length, and makes one task more exactly if it forks. Assumes nothing.
use Prim.Native.Nat.{ℕ, ◌+◌}
use mathlib.Core.Bool.{Bool, true, false}
use mathlib.Core.Path.{◌≡◌, refl, ◌∙◌}
use mathlib.Core.List.{List, [], ◌∷◌}
use native.Mathlib.Omega.{arith}
use lib.Dec.{ltb}
use lib.IntN.{ℤ}
use lib.ListN.{length, set, length-set, length-append}
use Rattle.code.specs.Compile.{Code, PUSH, ADD, READ, WRITE, BEGIN, COMMIT, FORK, ε, ◌⨾◌}
use Rattle.stm.specs.Events.{Event, sent_back, committed, is_fork, more}
use Rattle.stm.specs.InnerCells.{Cells}
use Rattle.stm.specs.InnerTasks.{Log, Task, outside, inside, Did, first_stale, overwritten, commits, step_outside, step_inside, step_task, System, task_at, started, did, next}
use Rattle.stm.proofs.Logs.{overwritten_length}
use Rattle.word.specs.Sum.{Rule}

module _ (K : Cells) (sum : Rule) (h : List K.Cell) where
  -- how many cells and children a step leaves
  record Sized (d : Did K) : Type 0 where
    table : length d.table ≡ length h
    children : length d.children ≡ more (is_fork d.event) 0

  plain : {t : Task K} {e : Event} {over : ℕ} → is_fork e ≡ false → Sized (record { task = t; table = h; children = []; event = e; over = over })
  plain {t} {e} f = record { table = refl; children = rw f }

  outside_sized : (c : Code) (σ : List ℤ) → Sized (step_outside K sum h c σ)
  unfolding step_outside
  outside_sized ε σ = plain refl
  outside_sized (PUSH n ⨾ c) σ = plain refl
  outside_sized (ADD ⨾ c) [] = plain refl
  outside_sized (ADD ⨾ c) (n ∷ []) = plain refl
  outside_sized (ADD ⨾ c) (n ∷ m ∷ σ) = plain refl
  outside_sized (READ v ⨾ c) σ = plain refl
  outside_sized (WRITE v ⨾ c) σ = plain refl
  outside_sized (BEGIN ⨾ c) σ = plain refl
  outside_sized (COMMIT ⨾ c) σ = plain refl
  outside_sized (FORK k ⨾ c) σ = record { table = refl; children = refl }

  commits_sized : (body : Code) (base : List ℤ) (c : Code) (n : ℤ) (w : Log ℤ) (over v : ℕ) → Sized (commits K h body base c n w over v)
  commits_sized body base c n w over v = go (ltb v 64)
    where
      go : (b : Bool) → Sized (elim b [
        | true ↦ record { task = outside (BEGIN ⨾ body) base; table = h; children = []; event = sent_back v; over = 0 }
        | false ↦ record { task = outside c (n ∷ base); table = overwritten K 64 0 w h; children = []; event = committed; over = over }
      ])
      go true = plain refl
      go false = record { table = overwritten_length K 64 0 w h; children = refl }

  inside_sized : (body : Code) (base : List ℤ) (c : Code) (σ : List ℤ) (r : Log K.Cell) (w : Log ℤ) (over : ℕ) → Sized (step_inside K sum h body base c σ r w over)
  unfolding step_inside
  inside_sized body base ε σ r w over = plain refl
  inside_sized body base (PUSH n ⨾ c) σ r w over = plain refl
  inside_sized body base (ADD ⨾ c) [] r w over = plain refl
  inside_sized body base (ADD ⨾ c) (n ∷ []) r w over = plain refl
  inside_sized body base (ADD ⨾ c) (n ∷ m ∷ σ) r w over = plain refl
  inside_sized body base (READ v ⨾ c) σ r w over = plain refl
  inside_sized body base (WRITE v ⨾ c) [] r w over = plain refl
  inside_sized body base (WRITE v ⨾ c) (n ∷ σ) r w over = plain refl
  inside_sized body base (BEGIN ⨾ c) σ r w over = plain refl
  inside_sized body base (COMMIT ⨾ c) [] r w over = plain refl
  inside_sized body base (COMMIT ⨾ c) (n ∷ σ) r w over = commits_sized body base c n w over (first_stale K 64 0 r h)
  inside_sized body base (FORK k ⨾ c) σ r w over = plain refl

  step_sized : (t : Task K) → Sized (step_task K sum h t)
  unfolding step_task
  step_sized (outside c σ) = outside_sized c σ
  step_sized (inside body base c σ r w over) = inside_sized body base c σ r w over

  pub step_length : (t : Task K) → length (step_task K sum h t).table ≡ length h
  step_length t = (step_sized t).table

-- a FORK makes one task more, nothing else does
pub next_number : (K : Cells) (sum : Rule) (s : System K) (i : ℕ) → length (next K sum s i).tasks ≡ more (is_fork (did K sum s i).event) (length s.tasks)
unfolding next
next_number K sum s i =
    let a = length-append (set s.tasks i (did K sum s i).task) (started K (did K sum s i).children) in
    let b = length-set s.tasks i (did K sum s i).task in
    let c = started_length (did K sum s i).children in
    let d : length (did K sum s i).children ≡ more (is_fork (did K sum s i).event) 0 = (step_sized K sum s.table (task_at K s i)).children in
    a ∙ by (is_fork (did K sum s i).event) (length (set s.tasks i (did K sum s i).task)) (length (started K (did K sum s i).children)) b (c ∙ d)
  where
    started_length : (ks : List Code) → length (started K ks) ≡ length ks
    started_length [] = refl
    started_length (k ∷ ks) = let e = started_length ks in omega arith

    by : (b : Bool) (n m : ℕ) → n ≡ length s.tasks → m ≡ more b 0 → n + m ≡ more b (length s.tasks)
    by true n m e f = omega arith
    by false n m e f = omega arith
