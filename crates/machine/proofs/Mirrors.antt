-- A state and the system of tasks that its records show: a pick does the same to both. Assumes nothing.
use Prim.Native.Nat.{ℕ, zero, suc, ◌≤◌, ◌<◌}
use mathlib.Core.Bool.{Bool, true, false, not}
use mathlib.Core.Path.{◌≡◌, refl, sym, ap, subst, ◌∙◌}
use mathlib.Core.List.{List, [], ◌∷◌, ◌++◌, append-nil}
use native.Mathlib.Omega.{arith}
use native.Mathlib.Decide.{dec_lt}
use borrow.Author.Tests.{eqb-true, eqb-false, ne_eqb, lt-ltb}
use lib.Dec.{eqb, ltb}
use lib.IntN.{ℤ}
use lib.ListN.{length, drop, get_or, set, length-set, length-append, get_or-eq_default}
use lib.Seq.{get_or-set_same, get_or-set_other, set-get_or, get_or-append_seam}
use Rattle.stm.specs.Counted.{Counted}
use Rattle.code.specs.Compile.{Instruction, Code, ε, ◌⨾◌}
use Rattle.code.specs.Ops.{op_at}
use Rattle.script.specs.Outcome.{done}
use Rattle.thread.specs.declared.Thread.{Thread}
use Rattle.thread.specs.Threads.{blank, spawned, exists}
use Rattle.machine.specs.Steps.{State, Stepped, number_of, thread_at, instruction, pick, Child, moved_by}
use Rattle.stm.specs.Events.{idle}
use Rattle.machine.specs.Fits.{Walked, Exists}
use Rattle.machine.specs.InnerStands.{register_cells, table_of, op_of, Ready, cells_from}
use Rattle.machine.specs.Stands.{stack_from}
use Rattle.machine.proofs.Numbers.{next_absent, at-end, number_is, below_exists, exists_below, number_small}
use Rattle.machine.proofs.Picks.{missing_idle, ended_idle, does}
use Rattle.machine.proofs.Codes.{stands_end, stands_inside, ready_op}
use Rattle.machine.proofs.Showings.{Shows, shut, open', shows_moved}
use Rattle.machine.proofs.Simulates.{Held, Born, nobody, child, Simulated, from_outside, from_inside}
use Rattle.stm.specs.InnerTasks.{Task, outside, ended, Did, System, task_at, started, put, did, next, step_outside, step_task}
use Rattle.stm.specs.InnerMeaning.{Outside, Inside}
use Rattle.word.specs.Sum.{Rule}

pub no_inside : (k b : ℕ) → Inside ε k b → ⊥
unfolding Inside
no_inside k b x = x

-- ---- a state and a system
pub record Mirrors (bytes : List ℕ) (s : State) (sys : System register_cells) : Type 0 where
  pub records : length s.threads ≡ 16
  pub table : table_of s ≡ sys.table
  pub even : length s.registers ≡ length s.counts
  pub number : number_of s.threads ≡ length sys.tasks
  pub shown : (i : ℕ) → i < length sys.tasks → Shows bytes (thread_at s i) (task_at register_cells sys i)

-- what a pick leaves of both
pub record Mirrored (bytes : List ℕ) (sum : Rule) (s : State) (sys : System register_cells) (i : ℕ) : Type 0 where
  pub event : (pick sum bytes s i).event ≡ (did register_cells sum sys i).event
  pub over : (pick sum bytes s i).over ≡ (did register_cells sum sys i).over
  pub mirrors : Mirrors bytes (pick sum bytes s i).state (next register_cells sum sys i)

-- a pick that is not idle does the instruction at the thread's place
pub data Picked (bytes : List ℕ) (sum : Rule) (s : State) (sys : System register_cells) (i : ℕ) (old : Walked) : Type 0 where
  stood : pick sum bytes s i ≡ record { state = s; event = idle; over = 0 } → did register_cells sum sys i ≡ record { task = task_at register_cells sys i; table = sys.table; children = []; event = idle; over = 0 } → Picked bytes sum s sys i old
  went : (r : Stepped) → pick sum bytes s i ≡ r → Exists s i → Simulated bytes s i (thread_at s i) old r (did register_cells sum sys i) → Picked bytes sum s sys i old

module _ (bytes : List ℕ) (sum : Rule) where
  -- a thread that exists is picked
  pub works : (s : State) (sys : System register_cells) → Mirrors bytes s sys → (i : ℕ) → i < length sys.tasks → (h : Held bytes (thread_at s i)) → Picked bytes sum s sys i h.placed.walked
  unfolding step_task step_outside
  works s sys m i l h = go (task_at register_cells sys i) refl (m.shown i l)
    where
      n : i < number_of s.threads
      n = subst (λ (k : ℕ). i < k) (sym m.number) l

      e : exists (thread_at s i) ≡ true
      e = below_exists s i n

      small : ltb i (length s.threads) ≡ true
      small = lt-ltb i (length s.threads) (number_small s.threads i n)

      at_place : (ins : Instruction) (t : Task register_cells) → task_at register_cells sys i ≡ t → (thread_at s i).place < (thread_at s i).end → op_at (drop (thread_at s i).place bytes) ≡ done (op_of ins) → Simulated bytes s i (thread_at s i) h.placed.walked (instruction sum s i (thread_at s i) (op_of ins)) (step_task register_cells sum (table_of s) t) → Picked bytes sum s sys i h.placed.walked
      at_place ins t q less o x =
          went
          (instruction sum s i (thread_at s i) (op_of ins))
          (does sum bytes (number_of s.threads) s i (op_of ins) small e (λ z. absurd (omega arith)) o)
          e
          (subst (λ (y : Task register_cells). Simulated bytes s i (thread_at s i) h.placed.walked (instruction sum s i (thread_at s i) (op_of ins)) (step_task register_cells sum sys.table y)) (sym q)
          (subst (λ (y : List Counted). Simulated bytes s i (thread_at s i) h.placed.walked (instruction sum s i (thread_at s i) (op_of ins)) (step_task register_cells sum y t)) m.table x))

      ended : (σ : List ℤ) → task_at register_cells sys i ≡ outside ε σ → (thread_at s i).place ≡ (thread_at s i).end → Picked bytes sum s sys i h.placed.walked
      ended σ q z =
          stood
          (ended_idle sum bytes (number_of s.threads) s i z)
          (ap (λ (y : Task register_cells). step_task register_cells sum sys.table y) q ∙ ap (λ (y : Task register_cells). record { task = y; table = sys.table; children = []; event = idle; over = 0 }) (sym q))

      go : (t : Task register_cells) → task_at register_cells sys i ≡ t → Shows bytes (thread_at s i) t → Picked bytes sum s sys i h.placed.walked
      go t q (shut ε r o z) = ended (stack_from (thread_at s i).cells 0 (thread_at s i).height) q (stands_end r.stands)
      go t q (shut (ins ⨾ c) r o z) = at_place ins t q (stands_inside r.stands) (ready_op r) (from_outside sum s i (thread_at s i) h m.even ins c r o z)
      go t q (open' body ε k r o f w g x y) = absurd (no_inside k (thread_at s i).base o)
      go t q (open' body (ins ⨾ c) k r o f w g x y) =
          at_place ins t q (stands_inside r.stands) (ready_op r)
          (from_inside sum s i (thread_at s i) h m.even ins body c k (record { ready = r; goes-on = o; height = f; somewhere = w; again = g; outer = x; same = y }))

-- ---- what a step leaves
pub same_start : (a b : Thread) → a.start ≡ b.start → exists b ≡ true → exists a ≡ true
same_start a b e x = ap (λ (n : ℕ). not (eqb n 0)) e ∙ x

get_d_front : (xs : List (Task register_cells)) (y : Task register_cells) (k : ℕ) → k < length xs → get_or (xs ++ (y ∷ [])) k (ended register_cells) ≡ get_or xs k (ended register_cells)
get_d_front [] y k l = absurd (omega arith)
get_d_front (x ∷ xs) y zero l = refl
get_d_front (x ∷ xs) y (suc k) l = get_d_front xs y k (omega arith)

pub less_than : (k l n : ℕ) → (k ≡ n → ⊥) → k < suc n → n ≡ l → k < l
less_than k l n z f w = go (dec_lt k l)
  where
    go : Dec (k < l) → k < l
    go (yes x) = x
    go (no x) = absurd (z (omega arith))

module _ {bytes : List ℕ} where
  -- a thread's record and its task change
  changed : (s : State) (sys : System register_cells) → Mirrors bytes s sys → (i : ℕ) → i < length sys.tasks → (rs : List ℤ) (ns : List ℕ) → length rs ≡ length ns → (t : Thread) (task : Task register_cells) → t.start ≡ (thread_at s i).start → Shows bytes t task → Mirrors bytes (record { registers = rs; counts = ns; threads = set s.threads i t }) (record { table = cells_from rs ns; tasks = set sys.tasks i task })
  changed s sys m i l rs ns ev t task e x =
      record {
        records = length-set s.threads i t ∙ m.records;
        table = refl;
        even = ev;
        number = number_is (set s.threads i t) (length (set sys.tasks i task)) each last;
        shown = each_shown;
      }
    where
      n : i < length s.threads
      n = number_small s.threads i (subst (λ (k : ℕ). i < k) (sym m.number) l)

      long : length (set sys.tasks i task) ≡ length sys.tasks
      long = length-set sys.tasks i task

      at_i : (k : ℕ) → k ≡ i → get_or (set s.threads i t) k blank ≡ t
      at_i k q = subst (λ (y : ℕ). get_or (set s.threads i t) y blank ≡ t) (sym q) (get_or-set_same s.threads i t blank n)

      each : (k : ℕ) → k < length (set sys.tasks i task) → exists (get_or (set s.threads i t) k blank) ≡ true
      each k less = go (eqb k i) refl
        where
          old : (y : ℕ) → y < length sys.tasks → exists (thread_at s y) ≡ true
          old y z = below_exists s y (subst (λ (q : ℕ). y < q) (sym m.number) z)

          go : (b : Bool) → eqb k i ≡ b → exists (get_or (set s.threads i t) k blank) ≡ true
          go true q = ap (λ (y : Thread). exists y) (at_i k (eqb-true k i q)) ∙ same_start t (thread_at s i) e (old i l)
          go false q = ap (λ (y : Thread). exists y) (get_or-set_other s.threads i k t blank (eqb-false k i q)) ∙ old k (omega (arith, long))

      last : exists (get_or (set s.threads i t) (length (set sys.tasks i task)) blank) ≡ false
      last =
          ap (λ (y : ℕ). exists (get_or (set s.threads i t) y blank)) (long ∙ sym m.number)
          ∙ (ap (λ (y : Thread). exists y) (get_or-set_other s.threads i (number_of s.threads) t blank (λ q. absurd (let z = m.number in omega arith))) ∙ at-end s.threads)

      each_shown : (k : ℕ) → k < length (set sys.tasks i task) → Shows bytes (get_or (set s.threads i t) k blank) (get_or (set sys.tasks i task) k (ended register_cells))
      each_shown k less = go (eqb k i) refl
        where
          go : (b : Bool) → eqb k i ≡ b → Shows bytes (get_or (set s.threads i t) k blank) (get_or (set sys.tasks i task) k (ended register_cells))
          go true q =
              let z : k ≡ i = eqb-true k i q in
              let a : get_or (set s.threads i t) k blank ≡ t = at_i k z in
              let b : get_or (set sys.tasks i task) k (ended register_cells) ≡ task = subst (λ (y : ℕ). get_or (set sys.tasks i task) y (ended register_cells) ≡ task) (sym z) (get_or-set_same sys.tasks i task (ended register_cells) l) in
              subst (λ (y : Task register_cells). Shows bytes (get_or (set s.threads i t) k blank) y) (sym b) (subst (λ (y : Thread). Shows bytes y task) (sym a) x)
          go false q =
              let z = eqb-false k i q in
              let a = get_or-set_other s.threads i k t blank z in
              let b = get_or-set_other sys.tasks i k task (ended register_cells) z in
              subst (λ (y : Task register_cells). Shows bytes (get_or (set s.threads i t) k blank) y) (sym b) (subst (λ (y : Thread). Shows bytes y (task_at register_cells sys k)) (sym a) (m.shown k (omega (arith, long))))

  -- a child's record and its task come behind
  grown : (s : State) (sys : System register_cells) → Mirrors bytes s sys → number_of s.threads < 16 → exists (get_or s.threads (suc (number_of s.threads)) blank) ≡ false → (t : Thread) (task : Task register_cells) → exists t ≡ true → Shows bytes t task → Mirrors bytes (record { registers = s.registers; counts = s.counts; threads = set s.threads (number_of s.threads) t }) (record { table = sys.table; tasks = sys.tasks ++ (task ∷ []) })
  grown s sys m room none t task e x =
      record {
        records = length-set s.threads (number_of s.threads) t ∙ m.records;
        table = m.table;
        even = m.even;
        number = number_is (set s.threads n t) (length (sys.tasks ++ (task ∷ []))) each last;
        shown = each_shown;
      }
    where
      n : ℕ
      n = number_of s.threads

      small : n < length s.threads
      small = subst (λ (k : ℕ). n < k) (sym m.records) room

      long : length (sys.tasks ++ (task ∷ [])) ≡ suc n
      long = length-append sys.tasks (task ∷ []) ∙ (let z = m.number in omega arith)

      at_n : (k : ℕ) → k ≡ n → get_or (set s.threads n t) k blank ≡ t
      at_n k q = subst (λ (y : ℕ). get_or (set s.threads n t) y blank ≡ t) (sym q) (get_or-set_same s.threads n t blank small)

      each : (k : ℕ) → k < length (sys.tasks ++ (task ∷ [])) → exists (get_or (set s.threads n t) k blank) ≡ true
      each k less = go (eqb k n) refl
        where
          go : (b : Bool) → eqb k n ≡ b → exists (get_or (set s.threads n t) k blank) ≡ true
          go true q = ap (λ (y : Thread). exists y) (at_n k (eqb-true k n q)) ∙ e
          go false q = let z = eqb-false k n q in ap (λ (y : Thread). exists y) (get_or-set_other s.threads n k t blank z) ∙ below_exists s k (let f : k < suc n = subst (λ (y : ℕ). k < y) long less in less_than k n n z f refl)

      last : exists (get_or (set s.threads n t) (length (sys.tasks ++ (task ∷ []))) blank) ≡ false
      last = ap (λ (y : ℕ). exists (get_or (set s.threads n t) y blank)) long ∙ (ap (λ (y : Thread). exists y) (get_or-set_other s.threads n (suc n) t blank (λ q. absurd (omega arith))) ∙ none)

      each_shown : (k : ℕ) → k < length (sys.tasks ++ (task ∷ [])) → Shows bytes (get_or (set s.threads n t) k blank) (get_or (sys.tasks ++ (task ∷ [])) k (ended register_cells))
      each_shown k less = go (eqb k n) refl
        where
          go : (b : Bool) → eqb k n ≡ b → Shows bytes (get_or (set s.threads n t) k blank) (get_or (sys.tasks ++ (task ∷ [])) k (ended register_cells))
          go true q =
              let z : k ≡ length sys.tasks = eqb-true k n q ∙ m.number in
              let b : get_or (sys.tasks ++ (task ∷ [])) k (ended register_cells) ≡ task = subst (λ (y : ℕ). get_or (sys.tasks ++ (task ∷ [])) y (ended register_cells) ≡ task) (sym z) (get_or-append_seam sys.tasks task [] (ended register_cells)) in
              subst (λ (y : Task register_cells). Shows bytes (get_or (set s.threads n t) k blank) y) (sym b) (subst (λ (y : Thread). Shows bytes y task) (sym (at_n k (eqb-true k n q))) x)
          go false q =
              let z = eqb-false k n q in
              let f : k < suc n = subst (λ (y : ℕ). k < y) long less in
              let g : k < length sys.tasks = let w = m.number in less_than k (length sys.tasks) n z f w in
              subst (λ (y : Task register_cells). Shows bytes (get_or (set s.threads n t) k blank) y) (sym (get_d_front sys.tasks task k g)) (subst (λ (y : Thread). Shows bytes y (task_at register_cells sys k)) (sym (get_or-set_other s.threads n k t blank z)) (m.shown k g))

-- ---- a pick
over_idle : (sum : Rule) (table : List Counted) (t : Task register_cells) → t ≡ ended register_cells → step_task register_cells sum table t ≡ record { task = t; table = table; children = []; event = idle; over = 0 }
unfolding step_task step_outside
over_idle sum table t e = ap (λ (x : Task register_cells). step_task register_cells sum table x) e ∙ ap (λ (x : Task register_cells). record { task = x; table = table; children = []; event = idle; over = 0 }) (sym e)

pub spawned_exists : (start end : ℕ) → 1 ≤ start → exists (spawned start end) ≡ true
unfolding spawned
spawned_exists start end l = rw (ne_eqb start 0 (λ z. absurd (omega arith)))

spawned_shows : {bytes : List ℕ} (start end : ℕ) (k : Code) → Ready bytes start end k 0 → Outside k 0 → Shows bytes (spawned start end) (outside k [])
unfolding spawned stack_from
spawned_shows start end k r o = shut k r o refl

module _ (bytes : List ℕ) (sum : Rule) where
  -- a pick that leaves both as they were
  still : (s : State) (sys : System register_cells) → Mirrors bytes s sys → (i : ℕ) → pick sum bytes s i ≡ record { state = s; event = idle; over = 0 } → did register_cells sum sys i ≡ record { task = task_at register_cells sys i; table = sys.table; children = []; event = idle; over = 0 } → Mirrored bytes sum s sys i
  unfolding next
  still s sys m i p d =
      let a : put register_cells sys i (did register_cells sum sys i) ≡ record { table = sys.table; tasks = set sys.tasks i (task_at register_cells sys i) ++ [] } = ap (λ (x : Did register_cells). put register_cells sys i x) d in
      let b : set sys.tasks i (task_at register_cells sys i) ++ [] ≡ sys.tasks = append-nil (set sys.tasks i (task_at register_cells sys i)) ∙ set-get_or sys.tasks i (ended register_cells) in
      let c : put register_cells sys i (did register_cells sum sys i) ≡ sys = a ∙ ap (λ (x : List (Task register_cells)). record { table = sys.table; tasks = x }) b in
      record {
        event = ap (λ (x : Stepped). x.event) p ∙ sym (ap (λ (x : Did register_cells). x.event) d);
        over = ap (λ (x : Stepped). x.over) p ∙ sym (ap (λ (x : Did register_cells). x.over) d);
        mirrors = subst (λ (x : System register_cells). Mirrors bytes (pick sum bytes s i).state x) (sym c) (subst (λ (x : Stepped). Mirrors bytes x.state sys) (sym p) m);
      }

  -- a step of thread i and of its task
  stepped : (s : State) (sys : System register_cells) → Mirrors bytes s sys → ((i : ℕ) → Exists s (suc i) → Exists s i) → (i : ℕ) → i < length sys.tasks → (old : Walked) (r : Stepped) (d : Did register_cells) → ((k : Code) → d.children ≡ k ∷ [] → number_of s.threads < 16) → Simulated bytes s i (thread_at s i) old r d → Mirrors bytes r.state (put register_cells sys i d)
  stepped s sys m gap i l old r d room x =
      subst (λ (h : List Counted). Mirrors bytes r.state (record { table = h; tasks = set sys.tasks i d.task ++ started register_cells d.children })) x.registers
      (go d.children x.born r.state.threads x.threads room)
    where
      one : Mirrors bytes (record { registers = r.state.registers; counts = r.state.counts; threads = set s.threads i (moved_by r.event x.thread) }) (record { table = table_of r.state; tasks = set sys.tasks i d.task })
      one = changed s sys m i l r.state.registers r.state.counts x.even (moved_by r.event x.thread) d.task x.start (shows_moved _ _ x.shows)

      number : number_of (set s.threads i (moved_by r.event x.thread)) ≡ number_of s.threads
      number = one.number ∙ (length-set sys.tasks i d.task ∙ sym m.number)

      behind : exists (get_or (set s.threads i (moved_by r.event x.thread)) (suc (number_of (set s.threads i (moved_by r.event x.thread)))) blank) ≡ false
      behind =
          ap (λ (y : ℕ). exists (get_or (set s.threads i (moved_by r.event x.thread)) (suc y) blank)) number
          ∙ (ap (λ (y : Thread). exists y) (get_or-set_other s.threads i (suc (number_of s.threads)) (moved_by r.event x.thread) blank (λ q. absurd (let z = m.number in omega arith))) ∙ next_absent s gap)

      go : (ks : List Code) (bs : List Child) (ts : List Thread) → Born bytes (set s.threads i (moved_by r.event x.thread)) (number_of s.threads) ks bs ts → ((k : Code) → ks ≡ k ∷ [] → number_of s.threads < 16) → Mirrors bytes (record { registers = r.state.registers; counts = r.state.counts; threads = ts }) (record { table = table_of r.state; tasks = set sys.tasks i d.task ++ started register_cells ks })
      go ks bs ts nobody f = subst (λ (y : List (Task register_cells)). Mirrors bytes (record { registers = r.state.registers; counts = r.state.counts; threads = set s.threads i (moved_by r.event x.thread) }) (record { table = table_of r.state; tasks = y })) (sym (append-nil (set sys.tasks i d.task))) one
      go ks bs ts (child {k} start end ready o there) f =
          subst (λ (y : ℕ). Mirrors bytes (record { registers = r.state.registers; counts = r.state.counts; threads = set (set s.threads i (moved_by r.event x.thread)) y (spawned start end) }) (record { table = table_of r.state; tasks = set sys.tasks i d.task ++ (outside k [] ∷ []) })) number
          (grown (record { registers = r.state.registers; counts = r.state.counts; threads = set s.threads i (moved_by r.event x.thread) }) (record { table = table_of r.state; tasks = set sys.tasks i d.task }) one (subst (λ (y : ℕ). y < 16) (sym number) (f k refl)) behind (spawned start end) (outside k []) (spawned_exists start end there) (spawned_shows start end k ready o))

  -- a number with no thread is idle in both
  pub idle_missing : (s : State) (sys : System register_cells) → Mirrors bytes s sys → ((i : ℕ) → Exists s (suc i) → Exists s i) → (i : ℕ) → length sys.tasks ≤ i → (pick sum bytes s i ≡ record { state = s; event = idle; over = 0 }) × (did register_cells sum sys i ≡ record { task = task_at register_cells sys i; table = sys.table; children = []; event = idle; over = 0 })
  idle_missing s sys m gap i l = go (exists (thread_at s i)) refl
    where
      go : (b : Bool) → exists (thread_at s i) ≡ b → (pick sum bytes s i ≡ record { state = s; event = idle; over = 0 }) × (did register_cells sum sys i ≡ record { task = task_at register_cells sys i; table = sys.table; children = []; event = idle; over = 0 })
      go true e = absurd (let a = exists_below s gap i e in let z = m.number in omega arith)
      go false e = (missing_idle sum bytes (number_of s.threads) s i e, over_idle sum sys.table (task_at register_cells sys i) (get_or-eq_default sys.tasks (ended register_cells) l))

  -- a pick does the same to a state and to the system that it shows
  pub pick_mirrors : (s : State) (sys : System register_cells) → Mirrors bytes s sys → ((i : ℕ) → Exists s (suc i) → Exists s i) → (i : ℕ) → (Exists s i → Held bytes (thread_at s i)) → ((k : Code) → (did register_cells sum sys i).children ≡ k ∷ [] → number_of s.threads < 16) → Mirrored bytes sum s sys i
  unfolding next
  pick_mirrors s sys m gap i holds room = go (dec_lt i (length sys.tasks))
    where
      there : i < length sys.tasks → Exists s i
      there l = below_exists s i (subst (λ (k : ℕ). i < k) (sym m.number) l)

      by : (old : Walked) → i < length sys.tasks → Picked bytes sum s sys i old → Mirrored bytes sum s sys i
      by old l (stood p d) = still s sys m i p d
      by old l (went r p e x) =
          record {
            event = ap (λ (y : Stepped). y.event) p ∙ x.event;
            over = ap (λ (y : Stepped). y.over) p ∙ x.over;
            mirrors = subst (λ (y : Stepped). Mirrors bytes y.state (put register_cells sys i (did register_cells sum sys i))) (sym p) (stepped s sys m gap i l old r (did register_cells sum sys i) room x);
          }

      go : Dec (i < length sys.tasks) → Mirrored bytes sum s sys i
      go (yes l) = let h = holds (there l) in by h.placed.walked l (works bytes sum s sys m i l h)
      go (no l) = let x = idle_missing s sys m gap i (omega arith) in still s sys m i x.0 x.1
