-- For the proofs, nobody has to believe it: threads that carry their code, and one step of such a task. The stack inside a transaction is
-- kept apart from the one below it.
use Rattle.std.specs.Prelude.{ℕ, zero, suc, ◌+◌, Bool, true, false, cond, List, [], ◌∷◌, ◌++◌, eqb, ltb, ℤ, pos, get_or, set, replicate}
use Rattle.std.proofs.Math.Option.{Option, none, some}
use Rattle.stm.specs.InnerCells.{Cells}
use Rattle.code.specs.Compile.{Code, PUSH, ADD, READ, WRITE, BEGIN, COMMIT, FORK, ε, ◌⨾◌}
use Rattle.stm.specs.Events.{Source, from_writes, from_reads, from_table, Event, idle, pushed, summed, forked, begun, looked, wrote, committed, sent_back, Happened}
use Rattle.word.specs.Sum.{Rule, over_of}

-- a log: what it holds of each register
abbrev pub Log : Type 0 → Type 0
Log A = ℕ → Option A

-- an empty log
abbrev pub nothing : {A : Type 0} → Log A
nothing v = none

-- a log that holds a of register v besides
abbrev pub logged : {A : Type 0} → Log A → ℕ → A → Log A
logged log v a u = cond (eqb u v) (some a) (log u)

-- `outside code stack`; inside a transaction: the code behind its BEGIN, the stack at its BEGIN, the code to come, the stack above, the logs,
-- and how many of its sums so far fell outside the range
pub data Task (K : Cells) : Type 0 where
  outside : Code → List ℤ → Task K
  inside : (body : Code) (base : List ℤ) (code : Code) (stack : List ℤ) (reads : Log K.Cell) (writes : Log ℤ) (over : ℕ) → Task K

module _ (K : Cells) where
  -- a task that has ended
  abbrev pub ended : Task K
  ended = outside ε (pos 0 ∷ [])

  -- what a step leaves: the task, the table, the code of a child if one was forked, the event, and the sums that it tells of
  pub record Did : Type 0 where
    pub task : Task K
    pub table : List K.Cell
    pub children : List Code
    pub event : Event
    pub over : ℕ

  -- the cell of register v
  abbrev pub cell_at : List K.Cell → ℕ → K.Cell
  cell_at h v = get_or h v K.blank

  -- READ: the value, where it was found, and the read log behind it
  pub record Found : Type 0 where
    pub value : ℤ
    pub source : Source
    pub reads : Log K.Cell

  -- by what the logs hold of the register, and the table's cell
  abbrev pub found_in : Option ℤ → Option K.Cell → (now : K.Cell) → Log K.Cell → ℕ → Found
  found_in (some n) l now r v = record { value = n; source = from_writes; reads = r }
  found_in none (some c) now r v = record { value = K.value c; source = from_reads; reads = r }
  found_in none none now r v = record { value = K.value now; source = from_table; reads = logged r v now }

  -- READ of register v
  unfoldable pub found : List K.Cell → Log K.Cell → Log ℤ → ℕ → Found
  found h r w v = found_in (w v) (r v) (cell_at h v) r v

  -- the first stale register from v on, `left` registers being left
  abbrev pub stale_in : Option K.Cell → K.Cell → Bool
  stale_in none now = false
  stale_in (some c) now = K.stale c now

  -- that register, or v + `left` if none of them is stale
  unfoldable pub first_stale : (left v : ℕ) → Log K.Cell → List K.Cell → ℕ
  first_stale zero v r h = v
  first_stale (suc left) v r h = elim (stale_in (r v) (cell_at h v)) [ true ↦ v | false ↦ first_stale left (suc v) r h ]

  -- the table with the write log in it
  abbrev pub entered : Option ℤ → ℕ → List K.Cell → List K.Cell
  entered none v h = h
  entered (some n) v h = set h v (K.written (cell_at h v) n)

  -- from register v on, `left` of them being left
  unfoldable pub overwritten : (left v : ℕ) → Log ℤ → List K.Cell → List K.Cell
  overwritten zero v w h = h
  overwritten (suc left) v w h = overwritten left (suc v) w (entered (w v) v h)

  -- COMMIT
  abbrev pub commits : List K.Cell → (body : Code) (base : List ℤ) (code : Code) (n : ℤ) → Log ℤ → (over : ℕ) → (stale : ℕ) → Did
  commits h body base c n w over v =
      elim (ltb v 64) [
        | true ↦ record { task = outside (BEGIN ⨾ body) base; table = h; children = []; event = sent_back v; over = 0 }
        | false ↦ record { task = outside c (n ∷ base); table = overwritten 64 0 w h; children = []; event = committed; over = over }
      ]

  -- an idle pick
  abbrev pub stays : Task K → List K.Cell → Did
  stays t h = record { task = t; table = h; children = []; event = idle; over = 0 }

  -- an instruction that forks nothing and tells of no sum
  abbrev pub goes : Task K → List K.Cell → Event → Did
  goes t h e = record { task = t; table = h; children = []; event = e; over = 0 }

  -- one instruction outside a transaction
  unfoldable pub step_outside : Rule → List K.Cell → Code → List ℤ → Did
  step_outside sum h ε σ = stays (outside ε σ) h
  step_outside sum h (PUSH n ⨾ c) σ = goes (outside c (n ∷ σ)) h pushed
  step_outside sum h (ADD ⨾ c) [] = stays (outside (ADD ⨾ c) []) h
  step_outside sum h (ADD ⨾ c) (n ∷ []) = stays (outside (ADD ⨾ c) (n ∷ [])) h
  step_outside sum h (ADD ⨾ c) (n ∷ m ∷ σ) = record { task = outside c (sum m n ∷ σ); table = h; children = []; event = summed false; over = over_of m n }
  step_outside sum h (READ v ⨾ c) σ = stays (outside (READ v ⨾ c) σ) h
  step_outside sum h (WRITE v ⨾ c) σ = stays (outside (WRITE v ⨾ c) σ) h
  step_outside sum h (BEGIN ⨾ c) σ = goes (inside c σ c [] nothing nothing 0) h begun
  step_outside sum h (COMMIT ⨾ c) σ = stays (outside (COMMIT ⨾ c) σ) h
  step_outside sum h (FORK k ⨾ c) σ = record { task = outside c (pos 0 ∷ σ); table = h; children = k ∷ []; event = forked; over = 0 }

  -- one instruction inside a transaction
  unfoldable pub step_inside : Rule → List K.Cell → (body : Code) (base : List ℤ) (code : Code) (stack : List ℤ) → Log K.Cell → Log ℤ → (over : ℕ) → Did
  step_inside sum h body base ε σ r w over = stays (inside body base ε σ r w over) h
  step_inside sum h body base (PUSH n ⨾ c) σ r w over = goes (inside body base c (n ∷ σ) r w over) h pushed
  step_inside sum h body base (ADD ⨾ c) [] r w over = stays (inside body base (ADD ⨾ c) [] r w over) h
  step_inside sum h body base (ADD ⨾ c) (n ∷ []) r w over = stays (inside body base (ADD ⨾ c) (n ∷ []) r w over) h
  step_inside sum h body base (ADD ⨾ c) (n ∷ m ∷ σ) r w over = goes (inside body base c (sum m n ∷ σ) r w (over + over_of m n)) h (summed true)
  step_inside sum h body base (READ v ⨾ c) σ r w over = goes (inside body base c ((found h r w v).value ∷ σ) (found h r w v).reads w over) h (looked (found h r w v).source)
  step_inside sum h body base (WRITE v ⨾ c) [] r w over = stays (inside body base (WRITE v ⨾ c) [] r w over) h
  step_inside sum h body base (WRITE v ⨾ c) (n ∷ σ) r w over = goes (inside body base c (n ∷ σ) r (logged w v n) over) h wrote
  step_inside sum h body base (BEGIN ⨾ c) σ r w over = stays (inside body base (BEGIN ⨾ c) σ r w over) h
  step_inside sum h body base (COMMIT ⨾ c) [] r w over = stays (inside body base (COMMIT ⨾ c) [] r w over) h
  step_inside sum h body base (COMMIT ⨾ c) (n ∷ σ) r w over = commits h body base c n w over (first_stale 64 0 r h)
  step_inside sum h body base (FORK k ⨾ c) σ r w over = stays (inside body base (FORK k ⨾ c) σ r w over) h

  -- one instruction of a task
  unfoldable pub step_task : Rule → List K.Cell → Task K → Did
  step_task sum h (outside c σ) = step_outside sum h c σ
  step_task sum h (inside body base c σ r w over) = step_inside sum h body base c σ r w over

  -- the table, and the tasks by their numbers
  pub record System : Type 0 where
    pub table : List K.Cell
    pub tasks : List (Task K)

  -- task i; an ended one if there are fewer
  abbrev pub task_at : System → ℕ → Task K
  task_at s i = get_or s.tasks i ended

  -- children become the next tasks
  abbrev pub started : List Code → List (Task K)
  started [] = []
  started (k ∷ ks) = outside k [] ∷ started ks

  -- what a step of task i leaves is put into the system
  abbrev pub put : System → ℕ → Did → System
  put s i d = record { table = d.table; tasks = set s.tasks i d.task ++ started d.children }

  -- a pick of task i: what it leaves, and its event
  abbrev pub did : Rule → System → ℕ → Did
  did sum s i = step_task sum s.table (task_at s i)

  -- the system after it
  unfoldable pub next : Rule → System → ℕ → System
  next sum s i = put s i (did sum s i)

  -- picks, one after the other: the system that they leave, and their events
  unfoldable pub end_of : Rule → System → List ℕ → System
  end_of sum s [] = s
  end_of sum s (i ∷ is) = end_of sum (next sum s i) is

  -- the events of picks, one after the other
  unfoldable pub events_of : Rule → System → List ℕ → List Happened
  events_of sum s [] = []
  events_of sum s (i ∷ is) = record { thread = i; event = (did sum s i).event; over = (did sum s i).over } ∷ events_of sum (next sum s i) is

  -- a job's code alone, every cell blank
  unfoldable pub start : Code → System
  start c = record { table = replicate 64 K.blank; tasks = outside c [] ∷ [] }

-- the sums that the events tell of
unfoldable pub overs : List Happened → ℕ
overs [] = 0
overs (h ∷ hs) = h.over + overs hs
