-- A thread's record shows a task, and each instruction does to the record what it does to the task. Assumes nothing.
use Prim.Native.Nat.{ℕ, zero, suc, ◌+◌, ◌-◌, ◌≤◌, ◌<◌}
use mathlib.Core.Bool.{Bool, true, false, cond, not, ◌&&◌}
use mathlib.Core.Path.{◌≡◌, refl, sym, ap, subst, ◌∙◌, fun_ext}
use mathlib.Core.List.{List, [], ◌∷◌, ◌++◌}
use mathlib.Core.Option.{Option, none, some}
use native.Mathlib.Omega.{arith}
use borrow.Author.Tests.{eqb-true, eqb-false}
use lib.Dec.{eqb}
use lib.IntN.{ℤ, pos}
use lib.ListN.{length, get_or, set, take, length-set}
use lib.Seq.{get_or-set_same, get_or-set_other}
use Rattle.stm.specs.Counted.{Counted, Table}
use Rattle.code.specs.Compile.{Code, BEGIN, ◌⨾◌}
use Rattle.thread.specs.declared.Thread.{Thread}
use Rattle.thread.specs.Threads.{with_rule, stale, first_stale, overlaid, recounted, with_writes, log_of, counted_log, read_log, write_log}
use Rattle.machine.specs.InnerStands.{register_cells, cells_from, cells_of, Ready}
use Rattle.machine.specs.Stands.{stack_from}
use Rattle.machine.proofs.Placings.{closed_below}
use Rattle.stm.specs.InnerTasks as tasks
use Rattle.stm.specs.InnerTasks.{Task, outside, inside, logged, nothing, cell_at, stale_in, overwritten}
use Rattle.stm.specs.InnerMeaning.{Outside, Inside, behind, values_of}
use Rattle.word.specs.Registers as registers
use Rattle.word.specs.Registers.{member, with}
use Rattle.word.proofs.Sets.{member_none, member_same, member_other}

-- the task that a record shows, its code standing where its place is
pub data Shows (bytes : List ℕ) (t : Thread) : Task register_cells → Type 0 where
  shut : (c : Code) → Ready bytes t.place t.end c t.height → Outside c t.height → t.begin ≡ 0 → Shows bytes t (outside c (stack_from t.cells 0 t.height))
  open' : (body c : Code) (k : ℕ) → Ready bytes t.place t.end c t.height → Inside c k t.base → t.height ≡ k + t.base → 1 ≤ t.begin → Ready bytes t.begin t.end (BEGIN ⨾ body) t.base → Outside (BEGIN ⨾ body) t.base → behind c ≡ behind body → Shows bytes t (inside body (stack_from t.cells 0 t.base) c (stack_from t.cells t.base k) (read_log t) (write_log t) t.over)

-- another last rule and number of send-backs
pub shows_moved : {bytes : List ℕ} {t : Thread} {task : Task register_cells} (rule backs : ℕ) → Shows bytes t task → Shows bytes (with_rule rule backs t) task
shows_moved rule backs (shut c r o z) = shut c r o z
shows_moved rule backs (open' body c k r i h b a o e) = open' body c k r i h b a o e

-- ---- stacks
stack_same : (cells cells' : List ℤ) (base k : ℕ) → ((i : ℕ) → i < k + base → get_or cells i (pos 0) ≡ get_or cells' i (pos 0)) → stack_from cells base k ≡ stack_from cells' base k
unfolding stack_from
stack_same cells cells' base zero f = refl
stack_same cells cells' base (suc k) f =
    let h : get_or cells (k + base) (pos 0) ≡ get_or cells' (k + base) (pos 0) = f (k + base) (omega arith) in
    let r : stack_from cells base k ≡ stack_from cells' base k = stack_same cells cells' base k (λ i l. f i (omega arith)) in
    rw (h, r)

pub stack_suc : (cells : List ℤ) (base k : ℕ) → stack_from cells base (suc k) ≡ get_or cells (k + base) (pos 0) ∷ stack_from cells base k
unfolding stack_from
stack_suc cells base k = refl

pub stack_set : (cells : List ℤ) (base k i : ℕ) (n : ℤ) → k + base ≤ i → stack_from (set cells i n) base k ≡ stack_from cells base k
stack_set cells base k i n l = stack_same (set cells i n) cells base k (λ j less. get_or-set_other cells i j n (pos 0) (λ e. absurd (omega arith)))

pub stack_push : (cells : List ℤ) (base k i : ℕ) (n : ℤ) → i ≡ k + base → i < length cells → stack_from (set cells i n) base (suc k) ≡ n ∷ stack_from cells base k
unfolding stack_from
stack_push cells base k i n e l =
    let a : get_or (set cells i n) (k + base) (pos 0) ≡ n = subst (λ (j : ℕ). get_or (set cells i n) j (pos 0) ≡ n) e (get_or-set_same cells i n (pos 0) l) in
    let b : stack_from (set cells i n) base k ≡ stack_from cells base k = stack_set cells base k i n (omega arith) in
    rw (a, b)

-- ADD: the sum stands where the lower one stood, whatever is put above it
pub stack_add : (cells : List ℤ) (base k h : ℕ) (n m : ℤ) → h ≡ suc (suc k) + base → h ≤ length cells → stack_from (set (set cells (h - 2) n) (h - 1) m) base (suc k) ≡ n ∷ stack_from cells base k
stack_add cells base k h n m e l =
    stack_set (set cells (h - 2) n) base (suc k) (h - 1) m (omega arith) ∙ stack_push cells base k (h - 2) n (omega arith) (omega arith)

pub stack_closed : (cells : List ℤ) (base k h : ℕ) (above : List ℤ) → k + base ≤ h → h ≤ length cells → stack_from (take h cells ++ above) base k ≡ stack_from cells base k
stack_closed cells base k h above l m = stack_same (take h cells ++ above) cells base k (λ i less. closed_below h cells i above (omega arith) m)

-- ---- logs
pub log_none : (ns : List ℤ) → log_of registers.none ns ≡ nothing
unfolding log_of
log_none ns = fun_ext (λ v. rw (member_none v))

pub log_with : (set' : ℕ) (ns : List ℤ) (v : ℕ) (n : ℤ) → v < 64 → length ns ≡ 64 → log_of (with set' v) (set ns v n) ≡ logged (log_of set' ns) v n
unfolding log_of
log_with set' ns v n l e = fun_ext (λ u. at u (eqb u v) refl)
  where
    at : (u : ℕ) (b : Bool) → eqb u v ≡ b → ◌≡◌ {A = Option ℤ} (cond (member (with set' v) u) (some (get_or (set ns v n) u (pos 0))) none) (cond b (some n) (cond (member set' u) (some (get_or ns u (pos 0))) none))
    at u true t =
        let x : u ≡ v = eqb-true u v t in
        let m : member (with set' v) u ≡ true = subst (λ (y : ℕ). member (with set' v) y ≡ true) (sym x) (member_same set' v l) in
        let g : get_or (set ns v n) u (pos 0) ≡ n = subst (λ (y : ℕ). get_or (set ns v n) y (pos 0) ≡ n) (sym x) (get_or-set_same ns v n (pos 0) (omega arith)) in
        rw (m, g)
    at u false t =
        let x : u ≡ v → ⊥ = eqb-false u v t in
        rw (member_other set' v u x, get_or-set_other ns v u n (pos 0) x)

-- the same of a read log, with its counts
pub counted_none : (ns : List ℤ) (ks : List ℕ) → counted_log registers.none ns ks ≡ nothing
unfolding counted_log
counted_none ns ks = fun_ext (λ v. rw (member_none v))

pub counted_with : (set' : ℕ) (ns : List ℤ) (ks : List ℕ) (v : ℕ) (n : ℤ) (k : ℕ) → v < 64 → length ns ≡ 64 → length ks ≡ 64 → counted_log (with set' v) (set ns v n) (set ks v k) ≡ logged (counted_log set' ns ks) v (record { value = n; count = k })
unfolding counted_log
counted_with set' ns ks v n k l e f = fun_ext (λ u. at u (eqb u v) refl)
  where
    at : (u : ℕ) (b : Bool) → eqb u v ≡ b → ◌≡◌ {A = Option Counted} (cond (member (with set' v) u) (some (record { value = get_or (set ns v n) u (pos 0); count = get_or (set ks v k) u 0 })) none) (cond b (some (record { value = n; count = k })) (cond (member set' u) (some (record { value = get_or ns u (pos 0); count = get_or ks u 0 })) none))
    at u true t =
        let x : u ≡ v = eqb-true u v t in
        let m : member (with set' v) u ≡ true = subst (λ (y : ℕ). member (with set' v) y ≡ true) (sym x) (member_same set' v l) in
        let g : get_or (set ns v n) u (pos 0) ≡ n = subst (λ (y : ℕ). get_or (set ns v n) y (pos 0) ≡ n) (sym x) (get_or-set_same ns v n (pos 0) (omega arith)) in
        let h : get_or (set ks v k) u 0 ≡ k = subst (λ (y : ℕ). get_or (set ks v k) y 0 ≡ k) (sym x) (get_or-set_same ks v k 0 (omega arith)) in
        rw (m, g, h)
    at u false t =
        let x : u ≡ v → ⊥ = eqb-false u v t in
        rw (member_other set' v u x, get_or-set_other ns v u n (pos 0) x, get_or-set_other ks v u k 0 x)

-- ---- the table as cells
pub cell_at_lem : (rs : List ℤ) (ns : List ℕ) (v : ℕ) → cell_at register_cells (cells_from rs ns) v ≡ record { value = get_or rs v (pos 0); count = get_or ns v 0 }
unfolding cells_from
cell_at_lem [] [] v = refl
cell_at_lem [] (n ∷ ns) zero = refl
cell_at_lem [] (n ∷ ns) (suc v) = cell_at_lem [] ns v
cell_at_lem (r ∷ rs) [] zero = refl
cell_at_lem (r ∷ rs) [] (suc v) = cell_at_lem rs [] v
cell_at_lem (r ∷ rs) (n ∷ ns) zero = refl
cell_at_lem (r ∷ rs) (n ∷ ns) (suc v) = cell_at_lem rs ns v

pub cells_length : (rs : List ℤ) (ns : List ℕ) → length rs ≡ length ns → length (cells_from rs ns) ≡ length rs
unfolding cells_from
cells_length [] [] e = refl
cells_length [] (n ∷ ns) e = absurd (omega arith)
cells_length (r ∷ rs) [] e = absurd (omega arith)
cells_length (r ∷ rs) (n ∷ ns) e = ap suc (cells_length rs ns (omega arith))

pub cells_values : (rs : List ℤ) (ns : List ℕ) → length rs ≡ length ns → values_of register_cells (cells_from rs ns) ≡ rs
unfolding cells_from
cells_values [] [] e = refl
cells_values [] (n ∷ ns) e = absurd (omega arith)
cells_values (r ∷ rs) [] e = absurd (omega arith)
cells_values (r ∷ rs) (n ∷ ns) e = ap (λ (l : List ℤ). r ∷ l) (cells_values rs ns (omega arith))

cells_set : (rs : List ℤ) (ns : List ℕ) (v : ℕ) (n : ℤ) (k : ℕ) → length rs ≡ length ns → set (cells_from rs ns) v (record { value = n; count = k }) ≡ cells_from (set rs v n) (set ns v k)
unfolding cells_from
cells_set [] [] v n k e = refl
cells_set [] (m ∷ ns) v n k e = absurd (omega arith)
cells_set (r ∷ rs) [] v n k e = absurd (omega arith)
cells_set (r ∷ rs) (m ∷ ns) zero n k e = refl
cells_set (r ∷ rs) (m ∷ ns) (suc v) n k e = ap (λ (l : List Counted). record { value = r; count = m } ∷ l) (cells_set rs ns v n k (omega arith))

-- the first stale register, and the table with the write log in it
stale_same : (t : Thread) (table : Table) (v : ℕ) → stale t table v ≡ stale_in register_cells (read_log t v) (cell_at register_cells (cells_of table) v)
unfolding stale counted_log
stale_same t table v = rw (cell_at_lem table.registers table.counts v) (go (member t.reads v))
  where
    go : (b : Bool) → (b && not (eqb (get_or t.readcounts v 0) (get_or table.counts v 0))) ≡ stale_in register_cells (cond b (some (record { value = get_or t.readlog v (pos 0); count = get_or t.readcounts v 0 })) none) (record { value = get_or table.registers v (pos 0); count = get_or table.counts v 0 })
    go true = refl
    go false = refl

pub first_same : (left v : ℕ) (t : Thread) (table : Table) → first_stale left v t table ≡ tasks.first_stale register_cells left v (read_log t) (cells_of table)
unfolding first_stale tasks.first_stale
first_same zero v t table = refl
first_same (suc left) v t table = go (stale t table v) (stale_in register_cells (read_log t v) (cell_at register_cells (cells_of table) v)) (stale_same t table v) (first_same left (suc v) t table)
  where
    go : (a b : Bool) → a ≡ b → first_stale left (suc v) t table ≡ tasks.first_stale register_cells left (suc v) (read_log t) (cells_of table) → ◌≡◌ {A = ℕ} (elim a [ true ↦ v | false ↦ first_stale left (suc v) t table ]) (elim b [ true ↦ v | false ↦ tasks.first_stale register_cells left (suc v) (read_log t) (cells_of table) ])
    go true true e r = refl
    go true false e r = absurd (let z : ◌≡◌ {A = ℕ} 0 1 = cc in omega arith)
    go false true e r = absurd (let z : ◌≡◌ {A = ℕ} 0 1 = cc in omega arith)
    go false false e r = r

written_same : (left v : ℕ) (t : Thread) (rs : List ℤ) (ns : List ℕ) → length rs ≡ length ns → cells_from (overlaid left v t rs) (recounted left v t ns) ≡ overwritten register_cells left v (write_log t) (cells_from rs ns)
unfolding overlaid recounted overwritten log_of
written_same zero v t rs ns e = refl
written_same (suc left) v t rs ns e = go (member t.writes v) (λ rs' ns' e'. written_same left (suc v) t rs' ns' e')
  where
    n : ℤ
    n = get_or t.writelog v (pos 0)

    k : ℕ
    k = suc (get_or ns v 0)

    one : cells_from (set rs v n) (set ns v k) ≡ set (cells_from rs ns) v (record { value = n; count = suc (cell_at register_cells (cells_from rs ns) v).count })
    one = sym (cells_set rs ns v n k e) ∙ ap (λ (c : Counted). set (cells_from rs ns) v (record { value = n; count = suc c.count })) (sym (cell_at_lem rs ns v))

    go : (b : Bool) → ((rs' : List ℤ) (ns' : List ℕ) → length rs' ≡ length ns' → cells_from (overlaid left (suc v) t rs') (recounted left (suc v) t ns') ≡ overwritten register_cells left (suc v) (write_log t) (cells_from rs' ns')) → cells_from (overlaid left (suc v) t (cond b (set rs v (get_or t.writelog v (pos 0))) rs)) (recounted left (suc v) t (cond b (set ns v (suc (get_or ns v 0))) ns)) ≡ overwritten register_cells left (suc v) (write_log t) (tasks.entered register_cells (cond b (some (get_or t.writelog v (pos 0))) none) v (cells_from rs ns))
    go true f =
        let a = length-set rs v n in
        let b = length-set ns v k in
        f (set rs v n) (set ns v k) (omega arith) ∙ ap (λ (h : List Counted). overwritten register_cells left (suc v) (write_log t) h) one
    go false f = f rs ns e

pub writes_same : (t : Thread) (table : Table) → length table.registers ≡ length table.counts → cells_of (with_writes t table) ≡ overwritten register_cells 64 0 (write_log t) (cells_of table)
writes_same t table e = written_same 64 0 t table.registers table.counts e
