-- What a job's code stands for, and what a transaction's code does directly on a table. Assumes nothing.
use Prim.Native.Nat.{ℕ, suc, ◌+◌}
use mathlib.Core.Path.{◌≡◌, refl, ap, ◌∙◌}
use mathlib.Core.List.{List, [], ◌∷◌}
use native.Mathlib.Omega.{arith}
use lib.IntN.{ℤ, pos}
use lib.ListN.{length}
use Rattle.stm.specs.InnerMeaning.{summed_p, summed_t, written_t, topmost, process_of, atomic_of, values, taking2, Outside, Inside, Finished, wholly, finish, behind}
use Rattle.code.specs.Compile.{Code, PUSH, ADD, READ, WRITE, BEGIN, COMMIT, FORK, ε, ◌⨾◌, compile_t, compile_p}
use Rattle.script.specs.Tree.{Tran, ValT, AddT, Read, Write, Proc, ValP, AddP, Atomic, Fork}
use Rattle.script.specs.Limits.{ValuedT, ValuedP}
use Rattle.script.specs.Overflows.{overflows_t, overflows_p}
use Rattle.script.specs.Turns.{Registers, work, moved, reduce}
use Rattle.word.specs.Sum.{Rule}

-- ---- compiled code stands for its tree
pub tran_means : (t : Tran) (c : Code) (ts : List Tran) (ps : List Proc) → atomic_of (compile_t t c) ts ps ≡ atomic_of c (t ∷ ts) ps
unfolding compile_t atomic_of
tran_means (ValT n) c ts ps = refl
tran_means (AddT a b) c ts ps = tran_means a (compile_t b (ADD ⨾ c)) ts ps ∙ tran_means b (ADD ⨾ c) (a ∷ ts) ps
tran_means (Read v) c ts ps = refl
tran_means (Write v t) c ts ps = tran_means t (WRITE v ⨾ c) ts ps

pub proc_means : (p : Proc) (c : Code) (ps : List Proc) → process_of (compile_p p c) ps ≡ process_of c (p ∷ ps)
unfolding compile_p process_of
proc_means (ValP n) c ps = refl
proc_means (AddP a b) c ps = proc_means a (compile_p b (ADD ⨾ c)) ps ∙ proc_means b (ADD ⨾ c) (a ∷ ps)
proc_means (Atomic t) c ps = tran_means t (COMMIT ⨾ c) [] ps
proc_means (Fork p) c ps = ap {B = Proc} (λ (x : Proc). process_of c (Fork x ∷ ps)) (proc_means p ε [])

-- ---- and is well formed
pub tran_runs : (t : Tran) (c : Code) (h b : ℕ) → ValuedT t → Inside c (suc h) b → Inside (compile_t t c) h b
unfolding compile_t Inside
tran_runs (ValT n) c h b v k = k
tran_runs (AddT x y) c h b v k = tran_runs x (compile_t y (ADD ⨾ c)) h b v.0 (tran_runs y (ADD ⨾ c) (suc h) b v.1 k)
tran_runs (Read r) c h b v k = (v, k)
tran_runs (Write r t) c h b v k = tran_runs t (WRITE r ⨾ c) h b v.1 (v.0, k)

pub proc_runs : (p : Proc) (c : Code) (h : ℕ) → ValuedP p → Outside c (suc h) → Outside (compile_p p c) h
unfolding compile_p Outside
proc_runs (ValP n) c h v k = k
proc_runs (AddP x y) c h v k = proc_runs x (compile_p y (ADD ⨾ c)) h v.0 (proc_runs y (ADD ⨾ c) (suc h) v.1 k)
proc_runs (Atomic t) c h v k = tran_runs t (COMMIT ⨾ c) 0 h v (refl, k)
proc_runs (Fork p) c h v k = (proc_runs p ε 0 v refl, k)

-- ---- a transaction's code: the transaction that it stands for, a stack of transactions being there
unfoldable pub tran_of : Code → List Tran → Tran
tran_of ε ts = ValT (pos 0)
tran_of (PUSH n ⨾ c) ts = tran_of c (ValT n ∷ ts)
tran_of (ADD ⨾ c) ts = tran_of c (summed_t ts)
tran_of (READ v ⨾ c) ts = tran_of c (Read v ∷ ts)
tran_of (WRITE v ⨾ c) ts = tran_of c (written_t v ts)
tran_of (BEGIN ⨾ c) ts = ValT (pos 0)
tran_of (COMMIT ⨾ c) [] = ValT (pos 0)
tran_of (COMMIT ⨾ c) (t ∷ ts) = t
tran_of (FORK k ⨾ c) ts = ValT (pos 0)

never_one : {A : Type 0} → ◌≡◌ {A = ℕ} 0 1 → A
never_one e = absurd (omega arith)

more_than_one : {A : Type 0} {n : ℕ} → suc (suc n) ≡ 1 → A
more_than_one e = absurd (omega arith)

-- until its COMMIT takes effect, a transaction is the ATOMIC of that transaction
pub tran_whole : (c : Code) (ts : List Tran) (b : ℕ) → Inside c (length ts) b → (ps : List Proc) → atomic_of c ts ps ≡ process_of (behind c) (Atomic (tran_of c ts) ∷ ps)
unfolding Inside atomic_of behind tran_of
tran_whole ε ts b k ps = absurd k
tran_whole (PUSH n ⨾ c) ts b k ps = tran_whole c (ValT n ∷ ts) b k ps
tran_whole (ADD ⨾ c) [] b k ps = absurd k
tran_whole (ADD ⨾ c) (t ∷ []) b k ps = absurd k
tran_whole (ADD ⨾ c) (t ∷ u ∷ ts) b k ps = tran_whole c (AddT u t ∷ ts) b k ps
tran_whole (READ v ⨾ c) ts b k ps = tran_whole c (Read v ∷ ts) b k.1 ps
tran_whole (WRITE v ⨾ c) [] b k ps = absurd k.1
tran_whole (WRITE v ⨾ c) (t ∷ ts) b k ps = tran_whole c (Write v t ∷ ts) b k.1 ps
tran_whole (BEGIN ⨾ c) ts b k ps = absurd k
tran_whole (COMMIT ⨾ c) [] b k ps = never_one k.0
tran_whole (COMMIT ⨾ c) (t ∷ ts) b k ps = refl
tran_whole (FORK x ⨾ c) ts b k ps = absurd k

-- a stack of transactions worked out, the lowest first
pub record Numbers : Type 0 where
  pub stack : List ℤ
  pub registers : Registers
  pub over : ℕ

module _ (sum : Rule) where
  abbrev pub onto : Tran → Numbers → Numbers
  onto t ns =
      let w = work sum t ns.registers in
      record { stack = w.value ∷ ns.stack; registers = w.registers; over = ns.over + overflows_t sum t ns.registers }

  unfoldable pub work_all : List Tran → Registers → Numbers
  work_all [] rs = record { stack = []; registers = rs; over = 0 }
  work_all (t ∷ ts) rs = onto t (work_all ts rs)

  -- other sums noted
  noting : (c : Code) (σ : List ℤ) (rs : Registers) (n m : ℕ) → n ≡ m → finish sum c σ n rs ≡ finish sum c σ m rs
  noting c σ rs n m e = ap {B = Finished} (λ (k : ℕ). finish sum c σ k rs) e

  -- a transaction's code does directly on a table what its transaction does
  pub tran_finish : (c : Code) (ts : List Tran) (b : ℕ) → Inside c (length ts) b → (rs : Registers) → finish sum c (work_all ts rs).stack (work_all ts rs).over (work_all ts rs).registers ≡ wholly sum (tran_of c ts) rs
  unfolding Inside finish tran_of work_all work overflows_t
  tran_finish ε ts b k rs = absurd k
  tran_finish (PUSH n ⨾ c) ts b k rs = noting c (n ∷ (work_all ts rs).stack) (work_all ts rs).registers _ _ (let e : (work_all ts rs).over ≡ (work_all ts rs).over + 0 = omega arith in e) ∙ tran_finish c (ValT n ∷ ts) b k rs
  tran_finish (ADD ⨾ c) [] b k rs = absurd k
  tran_finish (ADD ⨾ c) (t ∷ []) b k rs = absurd k
  tran_finish (ADD ⨾ c) (t ∷ u ∷ ts) b k rs = noting c _ _ _ _ (grouped (work_all ts rs).over _ _ _) ∙ tran_finish c (AddT u t ∷ ts) b k rs
    where
      grouped : (n x y z : ℕ) → n + x + y + z ≡ n + (x + y + z)
      grouped n x y z = omega arith
  tran_finish (READ v ⨾ c) ts b k rs = noting c _ _ _ _ (let e : (work_all ts rs).over ≡ (work_all ts rs).over + 0 = omega arith in e) ∙ tran_finish c (Read v ∷ ts) b k.1 rs
  tran_finish (WRITE v ⨾ c) [] b k rs = absurd k.1
  tran_finish (WRITE v ⨾ c) (t ∷ ts) b k rs = tran_finish c (Write v t ∷ ts) b k.1 rs
  tran_finish (BEGIN ⨾ c) ts b k rs = absurd k
  tran_finish (COMMIT ⨾ c) [] b k rs = never_one k.0
  tran_finish (COMMIT ⨾ c) (t ∷ []) b k rs = ap {B = Finished} (λ (n : ℕ). record { value = (work sum t rs).value; registers = (work sum t rs).registers; over = n }) (let e : 0 + overflows_t sum t rs ≡ overflows_t sum t rs = omega arith in e)
  tran_finish (COMMIT ⨾ c) (t ∷ u ∷ ts) b k rs = more_than_one k.0
  tran_finish (FORK x ⨾ c) ts b k rs = absurd k

-- ---- a due part of a stack of processes: those above it stay, those below it are numbers
-- and `over` of its sums fall outside the range
module _ (sum : Rule) (rs rs' : Registers) (new : List Proc) (over : ℕ) where
  pub record Becomes (x x' : Proc) : Type 0 where
    pub reduces : reduce sum rs x ≡ moved x' rs' new
    pub overs : overflows_p sum rs x ≡ over

  pub data Moves : List Proc → List Proc → Type 0 where
    due : (x x' : Proc) (σ : List ℤ) → Becomes x x' → Moves (x ∷ values σ) (x' ∷ values σ)
    above : (p : Proc) (ps qs : List Proc) → Moves ps qs → Moves (p ∷ ps) (p ∷ qs)

  left_due : (x x' y : Proc) → Becomes x x' → Becomes (AddP x y) (AddP x' y)
  unfolding reduce overflows_p
  left_due x x' y e = record { reduces = rw e.reduces; overs = rw e.reduces e.overs }

  right_due : (n : ℤ) (x x' : Proc) → Becomes x x' → Becomes (AddP (ValP n) x) (AddP (ValP n) x')
  unfolding reduce overflows_p
  right_due n x x' e = record { reduces = rw e.reduces; overs = rw e.reduces e.overs }

  -- a sum of the two topmost parts keeps the due part due
  record Summed (P : ℕ → Type 0) (ps qs : List Proc) : Type 0 where
    fits : P (length (summed_p ps))
    moves : Moves (summed_p ps) (summed_p qs)

  summed_moves : (P : ℕ → Type 0) (ps qs : List Proc) → taking2 P (length ps) → Moves ps qs → Summed P ps qs
  summed_moves P ps qs k (due x x' [] e) = absurd k
  summed_moves P ps qs k (due x x' (n ∷ σ) e) = record { fits = k; moves = due (AddP (ValP n) x) (AddP (ValP n) x') σ (right_due n x x' e) }
  summed_moves P ps qs k (above p ps' qs' (due x x' σ e)) = record { fits = k; moves = due (AddP x p) (AddP x' p) σ (left_due x x' p e) }
  summed_moves P ps qs k (above p ps' qs' (above u ps'' qs'' m)) = record { fits = k; moves = above (AddP u p) ps'' qs'' m }

  last_moves : (ps qs : List Proc) → length ps ≡ 1 → Moves ps qs → Becomes (topmost ps) (topmost qs)
  last_moves ps qs k (due x x' σ e) = e
  last_moves ps qs k (above p ps' qs' (due x x' σ e)) = more_than_one k
  last_moves ps qs k (above p ps' qs' (above u ps'' qs'' m)) = more_than_one k

  mutual
    unfolding Outside process_of

    -- what is due on the stack is due in what the code stands for
    pub outside_moves : (c : Code) (ps qs : List Proc) → Outside c (length ps) → Moves ps qs → Becomes (process_of c ps) (process_of c qs)
    outside_moves ε ps qs k m = last_moves ps qs k m
    outside_moves (PUSH n ⨾ c) ps qs k m = outside_moves c (ValP n ∷ ps) (ValP n ∷ qs) k (above (ValP n) ps qs m)
    outside_moves (ADD ⨾ c) ps qs k m = let s = summed_moves (λ x. Outside c x) ps qs k m in outside_moves c (summed_p ps) (summed_p qs) s.fits s.moves
    outside_moves (READ v ⨾ c) ps qs k m = absurd k
    outside_moves (WRITE v ⨾ c) ps qs k m = absurd k
    outside_moves (BEGIN ⨾ c) ps qs k m = inside_moves c [] ps qs k m
    outside_moves (COMMIT ⨾ c) ps qs k m = absurd k
    outside_moves (FORK x ⨾ c) ps qs k m = outside_moves c (Fork (process_of x []) ∷ ps) (Fork (process_of x []) ∷ qs) k.1 (above (Fork (process_of x [])) ps qs m)

    pub inside_moves : (c : Code) (ts : List Tran) (ps qs : List Proc) → Inside c (length ts) (length ps) → Moves ps qs → Becomes (atomic_of c ts ps) (atomic_of c ts qs)
    inside_moves ε ts ps qs k m = absurd k
    inside_moves (PUSH n ⨾ c) ts ps qs k m = inside_moves c (ValT n ∷ ts) ps qs k m
    inside_moves (ADD ⨾ c) [] ps qs k m = absurd k
    inside_moves (ADD ⨾ c) (t ∷ []) ps qs k m = absurd k
    inside_moves (ADD ⨾ c) (t ∷ u ∷ ts) ps qs k m = inside_moves c (AddT u t ∷ ts) ps qs k m
    inside_moves (READ v ⨾ c) ts ps qs k m = inside_moves c (Read v ∷ ts) ps qs k.1 m
    inside_moves (WRITE v ⨾ c) [] ps qs k m = absurd k.1
    inside_moves (WRITE v ⨾ c) (t ∷ ts) ps qs k m = inside_moves c (Write v t ∷ ts) ps qs k.1 m
    inside_moves (BEGIN ⨾ c) ts ps qs k m = absurd k
    inside_moves (COMMIT ⨾ c) [] ps qs k m = never_one k.0
    inside_moves (COMMIT ⨾ c) (t ∷ ts) ps qs k m = outside_moves c (Atomic t ∷ ps) (Atomic t ∷ qs) k.1 (above (Atomic t) ps qs m)
    inside_moves (FORK x ⨾ c) ts ps qs k m = absurd k
