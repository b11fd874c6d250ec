-- A fitting state shows a system of tasks; a pick of either leaves a fitting state that shows the other's; so does a run of picks. Assumes nothing.
use Prim.Native.Nat.{ℕ, zero, suc, ◌+◌, ◌≤◌, ◌<◌}
use mathlib.Core.Path.{◌≡◌, refl, sym, ap, subst, ◌∙◌}
use mathlib.Core.List.{List, [], ◌∷◌}
use native.Mathlib.Omega.{arith}
use native.Mathlib.Decide.{dec_lt}
use lib.ListN.{length, get_or}
use Rattle.code.specs.Compile.{Code, BEGIN, ε, ◌⨾◌, compile_p}
use Rattle.code.specs.Bytes.{IsCode}
use Rattle.script.specs.Jobs.{Job}
use Rattle.thread.specs.declared.Thread.{Thread}
use Rattle.thread.specs.Threads.{read_log, write_log}
use Rattle.machine.specs.Steps.{State, Stepped, number_of, thread_at, pick, run}
use Rattle.stm.specs.Events.{idle, is_commit, more}
use Rattle.machine.specs.Fits.{CommitsPassed, Exists, Placed, FitsBeside, Typed}
use Rattle.machine.specs.InnerStands.{register_cells, Ready, table_of}
use Rattle.machine.specs.Stands.{stack_from}
use Rattle.machine.proofs.Shapes.{Shape, out, open' as shape-open, shape}
use Rattle.machine.proofs.Showings.{Shows, shut, open', cells_length}
use Rattle.machine.proofs.Simulates.{Held}
use Rattle.machine.proofs.Mirrors.{Mirrors, Picked, stood, went, works, pick_mirrors, idle_missing}
use Rattle.machine.proofs.Numbers.{below_exists}
use Rattle.machine.proofs.Regions.{held}
use Rattle.machine.proofs.Keeps.{keeps, keeps_passed, has_room}
use Rattle.machine.proofs.Passing.{passed_once}
use Rattle.stm.specs.InnerTasks.{Task, outside, inside, ended, Did, System, task_at, did, next, end_of, events_of}
use Rattle.stm.specs.InnerMeaning.{Outside, Inside}
use Rattle.stm.proofs.Sizes.{step_length}
use Rattle.word.specs.Sum.{Rule}

-- ---- the task of a record
pub shows_of : {bytes : List ℕ} {t : Thread} → Held bytes t → (task : Task register_cells) × Shows bytes t task
shows_of {bytes} {t} h = go (shape h.region h.outer h.somewhere h.placed.walks)
  where
    p : Placed bytes t
    p = h.placed

    ready : (c : Code) → Ready bytes t.place t.end c h.placed.walked.height → Ready bytes t.place t.end c t.height
    ready c r = subst (λ (n : ℕ). Ready bytes t.place t.end c n) (sym h.placed.height) r

    go : Shape bytes t.start t.end t.place h.placed.walked → (task : Task register_cells) × Shows bytes t task
    go (out c r o b z) = (
      outside c (stack_from t.cells 0 t.height),
      shut c (ready c r) (subst (λ (n : ℕ). Outside c n) (sym h.placed.height) o) (h.placed.begin ∙ b),
    )
    go (shape-open body c k r i e g) =
        let base : t.base ≡ h.placed.walked.base = h.placed.base in
        let begin : t.begin ≡ h.placed.walked.begin = h.placed.begin in (
          inside body (stack_from t.cells 0 t.base) c (stack_from t.cells t.base k) (read_log t) (write_log t) t.over,
          open' body c k (ready c r) (subst (λ (n : ℕ). Inside c k n) (sym base) i) (h.placed.height ∙ (e ∙ ap (λ (n : ℕ). k + n) (sym base))) (subst (λ (n : ℕ). 1 ≤ n) (sym begin) g.somewhere) (subst (λ (n : ℕ). Ready bytes t.begin t.end (BEGIN ⨾ body) n) (sym base) (subst (λ (n : ℕ). Ready bytes n t.end (BEGIN ⨾ body) h.placed.walked.base) (sym begin) g.again)) (subst (λ (n : ℕ). Outside (BEGIN ⨾ body) n) (sym base) g.outside) g.same,
        )

-- a list of tasks, one for each number below n
record Row (P : ℕ → Task register_cells → Type 0) (n : ℕ) : Type 0 where
  tasks : List (Task register_cells)
  long : length tasks ≡ n
  each : (i : ℕ) → i < n → P i (get_or tasks i (ended register_cells))

row : (P : ℕ → Task register_cells → Type 0) (n : ℕ) → ((i : ℕ) → i < n → (t : Task register_cells) × P i t) → Row P n
row P zero f = record { tasks = []; long = refl; each = λ i l. absurd (omega arith) }
row P (suc n) f =
    let first = f 0 (omega arith) in
    let rest = row (λ i t. P (suc i) t) n (λ i l. f (suc i) (omega arith)) in
    record { tasks = first.0 ∷ rest.tasks; long = ap suc rest.long; each = each' first rest }
  where
    each' : (first : (t : Task register_cells) × P 0 t) (rest : Row (λ i t. P (suc i) t) n) (i : ℕ) → i < suc n → P i (get_or (first.0 ∷ rest.tasks) i (ended register_cells))
    each' first rest zero l = first.1
    each' first rest (suc i) l = rest.each i (omega arith)

module _ {bytes : List ℕ} {j : Job} (c : IsCode bytes j) (o : Outside (compile_p j.tree ε) 0) where
  -- every fitting state shows a system
  pub mirror : {beside : ℕ} (s : State) → FitsBeside beside bytes s → Typed s → (sys : System register_cells) × Mirrors bytes s sys
  mirror s f y =
      let r = row (λ i t. Shows bytes (thread_at s i) t) (number_of s.threads) (λ i l. shows_of (held c o s f y i (below_exists s i l))) in (
        record { table = table_of s; tasks = r.tasks },
        record { records = f.records; table = refl; even = f.registers ∙ sym f.counts; number = sym r.long; shown = λ i l. r.each i (subst (λ (n : ℕ). i < n) r.long l) },
      )

  childless : (sum : Rule) (s : State) (sys : System register_cells) (i : ℕ) → did register_cells sum sys i ≡ record { task = task_at register_cells sys i; table = sys.table; children = []; event = idle; over = 0 } → (k : Code) → (did register_cells sum sys i).children ≡ k ∷ [] → number_of s.threads < 16
  childless sum s sys i d k e = absurd (let q : ◌≡◌ {A = List Code} [] (k ∷ []) = sym (ap (λ (x : Did register_cells). x.children) d) ∙ e in let z : ◌≡◌ {A = ℕ} 0 1 = cc in omega arith)

  -- a forked child has a record
  pub room_for : {beside : ℕ} (sum : Rule) (s : State) (sys : System register_cells) → FitsBeside beside bytes s → Typed s → Mirrors bytes s sys → (i : ℕ) (k : Code) → (did register_cells sum sys i).children ≡ k ∷ [] → number_of s.threads < 16
  room_for sum s sys f y m i = go (dec_lt i (length sys.tasks))
    where
      by : (e : Exists s i) (h : Held bytes (thread_at s i)) → Picked bytes sum s sys i h.placed.walked → (k : Code) → (did register_cells sum sys i).children ≡ k ∷ [] → number_of s.threads < 16
      by e h (stood p d) = childless sum s sys i d
      by e h (went r p there x) = has_room c o s f y i e h.placed r (did register_cells sum sys i) x

      go : Dec (i < length sys.tasks) → (k : Code) → (did register_cells sum sys i).children ≡ k ∷ [] → number_of s.threads < 16
      go (yes l) =
          let e = below_exists s i (subst (λ (n : ℕ). i < n) (sym m.number) l) in
          by e (held c o s f y i e) (works bytes sum s sys m i l (held c o s f y i e))
      go (no l) = childless sum s sys i (idle_missing bytes sum s sys m f.no_gap i (omega arith)).1

  -- a pick leaves a state that fits and a system that it shows, with the same event and the same sums told
  pub record Kept (beside : ℕ) (sum : Rule) (s : State) (sys : System register_cells) (i : ℕ) : Type 0 where
    pub event : (pick sum bytes s i).event ≡ (did register_cells sum sys i).event
    pub over : (pick sum bytes s i).over ≡ (did register_cells sum sys i).over
    pub mirrors : Mirrors bytes (pick sum bytes s i).state (next register_cells sum sys i)
    pub fits : FitsBeside beside bytes (pick sum bytes s i).state
    pub typed : Typed (pick sum bytes s i).state
    pub passed : (n : ℕ) → CommitsPassed bytes s.threads n → CommitsPassed bytes (pick sum bytes s i).state.threads (more (is_commit (pick sum bytes s i).event) n)

  pub pick_keeps : {beside : ℕ} (sum : Rule) (s : State) (sys : System register_cells) → FitsBeside beside bytes s → Typed s → Mirrors bytes s sys → (i : ℕ) → Kept beside sum s sys i
  pick_keeps {beside} sum s sys f y m i = go (dec_lt i (length sys.tasks))
    where
      long : length sys.table ≡ 64
      long = ap length (sym m.table) ∙ (cells_length s.registers s.counts m.even ∙ f.registers)

      holds : (k : ℕ) → Exists s k → Held bytes (thread_at s k)
      holds k e = held c o s f y k e

      Passes : Stepped → Type 0
      Passes r = (n : ℕ) → CommitsPassed bytes s.threads n → CommitsPassed bytes r.state.threads (more (is_commit r.event) n)

      all : FitsBeside beside bytes (pick sum bytes s i).state → Typed (pick sum bytes s i).state → Passes (pick sum bytes s i) → Kept beside sum s sys i
      all g z k =
          let x = pick_mirrors bytes sum s sys m f.no_gap i (holds i) (room_for sum s sys f y m i) in
          record { event = x.event; over = x.over; mirrors = x.mirrors; fits = g; typed = z; passed = k }

      same_state : pick sum bytes s i ≡ record { state = s; event = idle; over = 0 } → Kept beside sum s sys i
      same_state p = all (subst (λ (x : Stepped). FitsBeside beside bytes x.state) (sym p) f) (subst (λ (x : Stepped). Typed x.state) (sym p) y) (subst Passes (sym p) (λ n x. x))

      by : (e : Exists s i) (h : Held bytes (thread_at s i)) → Picked bytes sum s sys i h.placed.walked → Kept beside sum s sys i
      by e h (stood p d) = same_state p
      by e h (went r p there x) =
          let k = keeps c o s f y i e h.placed r (did register_cells sum sys i) (step_length register_cells sum sys.table (task_at register_cells sys i) ∙ long) x in
          all (subst (λ (q : Stepped). FitsBeside beside bytes q.state) (sym p) k.0) (subst (λ (q : Stepped). Typed q.state) (sym p) k.1)
          (subst Passes (sym p) (λ n z. subst (λ (m : ℕ). CommitsPassed bytes r.state.threads (more (is_commit r.event) m)) (passed_once f.passed z) (keeps_passed c o s f y i e h.placed r (did register_cells sum sys i) x)))

      go : Dec (i < length sys.tasks) → Kept beside sum s sys i
      go (yes l) =
          let e = below_exists s i (subst (λ (n : ℕ). i < n) (sym m.number) l) in
          by e (holds i e) (works bytes sum s sys m i l (holds i e))
      go (no l) = let x = idle_missing bytes sum s sys m f.no_gap i (omega arith) in same_state x.0

  -- and so does a run of picks
  pub record Run (beside : ℕ) (sum : Rule) (s : State) (sys : System register_cells) (is : List ℕ) : Type 0 where
    pub events : (run sum bytes s is).events ≡ events_of register_cells sum sys is
    pub mirrors : Mirrors bytes (run sum bytes s is).state (end_of register_cells sum sys is)
    pub fits : FitsBeside beside bytes (run sum bytes s is).state
    pub typed : Typed (run sum bytes s is).state

  pub run_keeps : {beside : ℕ} (sum : Rule) (is : List ℕ) (s : State) (sys : System register_cells) → FitsBeside beside bytes s → Typed s → Mirrors bytes s sys → Run beside sum s sys is
  unfolding run end_of events_of
  run_keeps sum [] s sys f y m = record { events = refl; mirrors = m; fits = f; typed = y }
  run_keeps sum (i ∷ is) s sys f y m =
      let k = pick_keeps sum s sys f y m i in
      let r = run_keeps sum is (pick sum bytes s i).state (next register_cells sum sys i) k.fits k.typed k.mirrors in
      record {
        events = λ n. record { thread = i; event = k.event n; over = k.over n } ∷ r.events n;
        mirrors = r.mirrors;
        fits = r.fits;
        typed = r.typed;
      }
