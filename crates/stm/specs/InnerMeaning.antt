-- For the proofs, nobody has to believe it: what a task stands for in the script, which tasks are well formed, and what is counted in them.
use Rattle.std.specs.Prelude.{ℕ, zero, suc, ◌+◌, ◌<◌, ◌≡◌, Bool, false, List, [], ◌∷◌, ltb, ℤ, pos, length, get_or, set}
use Rattle.std.proofs.Math.Option.{Option, none, some}
use Rattle.stm.specs.InnerCells.{Cells}
use Rattle.stm.specs.InnerTasks.{Log, Task, outside, inside, System, task_at, first_stale, cell_at}
use Rattle.code.specs.Compile.{Instruction, Code, PUSH, ADD, READ, WRITE, BEGIN, COMMIT, FORK, ε, ◌⨾◌}
use Rattle.code.specs.Counts.{code_count}
use Rattle.script.specs.Tree.{Tran, ValT, AddT, Read, Write, Proc, ValP, AddP, Atomic, Fork}
use Rattle.script.specs.Turns.{Registers, work, Script}
use Rattle.script.specs.Overflows.{overflows_t}
use Rattle.word.specs.Sum.{Rule, over_of}

-- a sum of the two topmost parts
abbrev pub summed_p : List Proc → List Proc
summed_p [] = []
summed_p (b ∷ []) = b ∷ []
summed_p (b ∷ a ∷ ps) = AddP a b ∷ ps

-- the same of transactions
abbrev pub summed_t : List Tran → List Tran
summed_t [] = []
summed_t (b ∷ []) = b ∷ []
summed_t (b ∷ a ∷ ts) = AddT a b ∷ ts

-- WRITE of the topmost part
abbrev pub written_t : ℕ → List Tran → List Tran
written_t v [] = []
written_t v (t ∷ ts) = Write v t ∷ ts

-- COMMIT: the topmost transaction becomes an ATOMIC
abbrev pub atomic : List Tran → List Proc → List Proc
atomic [] ps = ps
atomic (t ∷ ts) ps = Atomic t ∷ ps

-- the process that is left
abbrev pub topmost : List Proc → Proc
topmost [] = ValP (pos 0)
topmost (p ∷ ps) = p

-- the process that code stands for, a stack of processes being there; inside a transaction also a stack of transactions
unfoldable mutual
  pub instruction_of : Instruction → (List Proc → Proc) → (List Tran → List Proc → Proc) → List Proc → Proc
  instruction_of (PUSH n) out in' ps = out (ValP n ∷ ps)
  instruction_of ADD out in' ps = out (summed_p ps)
  instruction_of (READ v) out in' ps = out ps
  instruction_of (WRITE v) out in' ps = out ps
  instruction_of BEGIN out in' ps = in' [] ps
  instruction_of COMMIT out in' ps = out ps
  instruction_of (FORK k) out in' ps = out (Fork (process_of k []) ∷ ps)

  pub inside_of : Instruction → (List Proc → Proc) → (List Tran → List Proc → Proc) → List Tran → List Proc → Proc
  inside_of (PUSH n) out in' ts ps = in' (ValT n ∷ ts) ps
  inside_of ADD out in' ts ps = in' (summed_t ts) ps
  inside_of (READ v) out in' ts ps = in' (Read v ∷ ts) ps
  inside_of (WRITE v) out in' ts ps = in' (written_t v ts) ps
  inside_of BEGIN out in' ts ps = in' ts ps
  inside_of COMMIT out in' ts ps = out (atomic ts ps)
  inside_of (FORK k) out in' ts ps = in' ts ps

  pub process_of : Code → List Proc → Proc
  process_of ε ps = topmost ps
  process_of (i ⨾ c) ps = instruction_of i (λ qs. process_of c qs) (λ ts qs. atomic_of c ts qs) ps

  pub atomic_of : Code → List Tran → List Proc → Proc
  atomic_of ε ts ps = topmost ps
  atomic_of (i ⨾ c) ts ps = inside_of i (λ qs. process_of c qs) (λ us qs. atomic_of c us qs) ts ps

-- numbers as processes
abbrev pub values : List ℤ → List Proc
values [] = []
values (n ∷ σ) = ValP n ∷ values σ

-- an open transaction is, until its COMMIT takes effect, still the whole ATOMIC
abbrev pub meant : (K : Cells) → Task K → Proc
meant K (outside c σ) = process_of c (values σ)
meant K (inside body base c σ r w over) = process_of (BEGIN ⨾ body) (values base)

-- the processes of all tasks
abbrev pub meant_all : (K : Cells) → List (Task K) → List Proc
meant_all K [] = []
meant_all K (t ∷ ts) = meant K t ∷ meant_all K ts

-- the values of the cells
abbrev pub values_of : (K : Cells) → List K.Cell → Registers
values_of K [] = []
values_of K (c ∷ cs) = K.value c ∷ values_of K cs

-- a sum takes two
abbrev pub taking2 : (ℕ → Type 0) → ℕ → Type 0
taking2 P zero = ⊥
taking2 P (suc zero) = ⊥
taking2 P (suc (suc h)) = P (suc h)

-- a WRITE takes one, and leaves it
abbrev pub taking1 : (ℕ → Type 0) → ℕ → Type 0
taking1 P zero = ⊥
taking1 P (suc h) = P (suc h)

-- code that runs from a stack of this height; inside a transaction from this height above, and this one at its BEGIN
unfoldable mutual
  pub TakesOutside : Instruction → (ℕ → Type 0) → (ℕ → ℕ → Type 0) → (height : ℕ) → Type 0
  TakesOutside (PUSH n) out in' h = out (suc h)
  TakesOutside ADD out in' h = taking2 out h
  TakesOutside (READ v) out in' h = ⊥
  TakesOutside (WRITE v) out in' h = ⊥
  TakesOutside BEGIN out in' h = in' 0 h
  TakesOutside COMMIT out in' h = ⊥
  TakesOutside (FORK k) out in' h = Outside k 0 × out (suc h)

  pub TakesInside : Instruction → (ℕ → Type 0) → (ℕ → ℕ → Type 0) → (height base : ℕ) → Type 0
  TakesInside (PUSH n) out in' h b = in' (suc h) b
  TakesInside ADD out in' h b = taking2 (λ x. in' x b) h
  TakesInside (READ v) out in' h b = (v < 64) × in' (suc h) b
  TakesInside (WRITE v) out in' h b = (v < 64) × taking1 (λ x. in' x b) h
  TakesInside BEGIN out in' h b = ⊥
  TakesInside COMMIT out in' h b = (h ≡ 1) × out (suc b)
  TakesInside (FORK k) out in' h b = ⊥

  pub Outside : Code → (height : ℕ) → Type 0
  Outside ε h = h ≡ 1
  Outside (i ⨾ c) h = TakesOutside i (λ x. Outside c x) (λ x y. Inside c x y) h

  pub Inside : Code → (height base : ℕ) → Type 0
  Inside ε h b = ⊥
  Inside (i ⨾ c) h b = TakesInside i (λ x. Outside c x) (λ x y. Inside c x y) h b

-- what a transaction gives: its value, the registers that it leaves, and how many of its sums fell outside the range
pub record Finished : Type 0 where
  pub value : ℤ
  pub registers : Registers
  pub over : ℕ

-- a transaction worked out whole on these registers
abbrev pub wholly : Rule → Tran → Registers → Finished
wholly sum t rs = record { value = (work sum t rs).value; registers = (work sum t rs).registers; over = overflows_t sum t rs }

-- a transaction's code, finished directly on a table, so many of its sums having fallen outside the range so far
unfoldable pub finish : Rule → Code → List ℤ → (over : ℕ) → Registers → Finished
finish sum ε σ over rs = record { value = pos 0; registers = rs; over = over }
finish sum (PUSH n ⨾ c) σ over rs = finish sum c (n ∷ σ) over rs
finish sum (ADD ⨾ c) [] over rs = record { value = pos 0; registers = rs; over = over }
finish sum (ADD ⨾ c) (n ∷ []) over rs = record { value = pos 0; registers = rs; over = over }
finish sum (ADD ⨾ c) (n ∷ m ∷ σ) over rs = finish sum c (sum m n ∷ σ) (over + over_of m n) rs
finish sum (READ v ⨾ c) σ over rs = finish sum c (get_or rs v (pos 0) ∷ σ) over rs
finish sum (WRITE v ⨾ c) [] over rs = record { value = pos 0; registers = rs; over = over }
finish sum (WRITE v ⨾ c) (n ∷ σ) over rs = finish sum c (n ∷ σ) over (set rs v n)
finish sum (BEGIN ⨾ c) σ over rs = record { value = pos 0; registers = rs; over = over }
finish sum (COMMIT ⨾ c) [] over rs = record { value = pos 0; registers = rs; over = over }
finish sum (COMMIT ⨾ c) (n ∷ σ) over rs = record { value = n; registers = rs; over = over }
finish sum (FORK k ⨾ c) σ over rs = record { value = pos 0; registers = rs; over = over }

-- registers with a write log over them
abbrev pub enter : Option ℤ → ℕ → Registers → Registers
enter none v rs = rs
enter (some n) v rs = set rs v n

-- from register v on, `left` of them being left
unfoldable pub overlay : (left v : ℕ) → Log ℤ → Registers → Registers
overlay zero v w rs = rs
overlay (suc left) v w rs = overlay left (suc v) w (enter (w v) v rs)

-- the code behind the next COMMIT
unfoldable pub behind : Code → Code
behind ε = ε
behind (PUSH n ⨾ c) = behind c
behind (ADD ⨾ c) = behind c
behind (READ v ⨾ c) = behind c
behind (WRITE v ⨾ c) = behind c
behind (BEGIN ⨾ c) = behind c
behind (COMMIT ⨾ c) = c
behind (FORK k ⨾ c) = behind c

module _ (K : Cells) (sum : Rule) where
  -- registers that have the values of a read log
  abbrev pub Agrees : Log K.Cell → Registers → Type 0
  Agrees r rs = (v : ℕ) (c : K.Cell) → v < 64 → r v ≡ some c → get_or rs v (pos 0) ≡ K.value c

  -- An open transaction, whatever the table is now: it is the one of its BEGIN, and on every table that agrees with the read log,
  -- finishing its code directly on that table overlaid with the write log gives what the whole transaction gives on that table, `over`
  -- sums being noted so far.
  pub record Open (body : Code) (base : List ℤ) (code : Code) (stack : List ℤ) (r : Log K.Cell) (w : Log ℤ) (over : ℕ) : Type 0 where
    pub tran : Tran
    pub whole : (ps : List Proc) → process_of (BEGIN ⨾ body) ps ≡ process_of (behind code) (Atomic tran ∷ ps)
    pub ready : Outside (BEGIN ⨾ body) (length base)
    pub goes-on : Inside code (length stack) (length base)
    pub same : (rs : Registers) → length rs ≡ 64 → Agrees r rs → finish sum code stack over (overlay 64 0 w rs) ≡ wholly sum tran rs

  -- each cell of a read log is one that the table has or had
  abbrev pub Known : Log K.Cell → List K.Cell → Type 0
  Known r h = (v : ℕ) (c : K.Cell) → v < 64 → r v ≡ some c → K.Past c (cell_at K h v)

  -- a task that is well formed, on this table
  abbrev pub Good : List K.Cell → Task K → Type 0
  Good h (outside c σ) = Outside c (length σ)
  Good h (inside body base c σ r w over) = Open body base c σ r w over × Known r h

  -- a system and a script: the same registers, the same threads
  pub record Linked (s : System K) (q : Script) : Type 0 where
    pub sized : length s.table ≡ 64
    pub registers : q.registers ≡ values_of K s.table
    pub threads : q.threads ≡ meant_all K s.tasks
    pub good : (i : ℕ) → Good s.table (task_at K s i)

-- ---- what is counted
-- BEGINs and FORKs of code, each FORK's child included
unfoldable mutual
  pub begins_in : Instruction → ℕ
  begins_in (PUSH n) = 0
  begins_in ADD = 0
  begins_in (READ v) = 0
  begins_in (WRITE v) = 0
  begins_in BEGIN = 1
  begins_in COMMIT = 0
  begins_in (FORK k) = begins k

  pub begins : Code → ℕ
  begins ε = 0
  begins (i ⨾ c) = begins_in i + begins c

-- FORKs of code, each FORK's child included
unfoldable mutual
  pub forks_in : Instruction → ℕ
  forks_in (PUSH n) = 0
  forks_in ADD = 0
  forks_in (READ v) = 0
  forks_in (WRITE v) = 0
  forks_in BEGIN = 0
  forks_in COMMIT = 0
  forks_in (FORK k) = suc (forks_of k)

  pub forks_of : Code → ℕ
  forks_of ε = 0
  forks_of (i ⨾ c) = forks_in i + forks_of c

-- of a task: instructions to come, transactions whose commit is to come, FORKs to come, and the longest transaction to come
abbrev pub to_come : (K : Cells) → Task K → ℕ
to_come K (outside c σ) = code_count c
to_come K (inside body base c σ r w over) = code_count c

-- its transactions whose commit is to come
abbrev pub commits_to_come : (K : Cells) → Task K → ℕ
commits_to_come K (outside c σ) = begins c
commits_to_come K (inside body base c σ r w over) = suc (begins c)

-- its FORKs to come
abbrev pub forks_to_come : (K : Cells) → Task K → ℕ
forks_to_come K (outside c σ) = forks_of c
forks_to_come K (inside body base c σ r w over) = forks_of c

-- whether a register of the read log is stale
abbrev pub dirty : (K : Cells) → List K.Cell → Task K → Bool
dirty K h (outside c σ) = false
dirty K h (inside body base c σ r w over) = ltb (first_stale K 64 0 r h) 64

-- a sum over all tasks
unfoldable pub total : {K : Cells} → (Task K → ℕ) → List (Task K) → ℕ
total f [] = 0
total f (t ∷ ts) = f t + total f ts
