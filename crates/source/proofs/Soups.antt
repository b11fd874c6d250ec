-- A state and its soup: a pick is a step of the soup, and every step of the soup is a pick. Assumes nothing.
use Prim.Native.Nat.{ℕ, zero, suc, ◌+◌, ◌≤◌, ◌<◌}
use mathlib.Core.Bool.{Bool, true, false}
use mathlib.Core.Logic.{◌↔◌}
use mathlib.Core.Path.{◌≡◌, refl, sym, ap, subst, ◌∙◌}
use mathlib.Core.List.{List, [], ◌∷◌, ◌++◌, append_assoc, append-nil}
use mathlib.Core.Option.{some}
use native.Mathlib.Omega.{arith}
use native.Mathlib.Decide.{dec_lt}
use borrow.Author.Tests.{eqb-true, eqb-false, lt-ltb}
use lib.Dec.{eqb, ltb}
use lib.IntN.{ℤ}
use lib.ListN.{length, drop, get_or, set, length-set, length-append, get_or-append}
use lib.Seq.{get_or-set_same, get_or-set_other, get_or-append_seam}
use Rattle.stm.specs.Counted.{Table, Counted}
use Rattle.code.specs.Compile.{Instruction, Code, PUSH, ADD, READ, WRITE, BEGIN, COMMIT, FORK, ε, ◌⨾◌}
use Rattle.code.specs.InnerHeights.{Takes}
use Rattle.code.specs.Ops.{Op, op_at}
use Rattle.script.specs.Outcome.{done}
use Rattle.thread.specs.declared.Thread.{Thread}
use Rattle.thread.specs.Threads.{blank, spawned, exists, read_log, write_log}
use Rattle.machine.specs.Steps.{State, Stepped, number_of, thread_at, instruction, pick, moved_by, table_in}
use Rattle.stm.specs.Events.{Event, idle, pushed, summed, forked, begun, looked, wrote, committed, sent_back, is_idle}
use Rattle.machine.specs.Fits.{Exists}
use Rattle.source.specs.Source.{Log, empty, SThread, StepM, Preempt, ForkM, PushM, AddM, BeginM, ReadM, WriteM, Committed, Failed}
use Rattle.machine.specs.InnerStands.{register_cells, op_of, Ready}
use Rattle.machine.specs.Stands.{Stands, stack_from, ValuedC}
use Rattle.source.specs.Soup.{First, rule_of, Carries, nobody, Soup, Name, named, PickOn}
use Rattle.machine.proofs.Picks.{missing_idle, ended_idle, does}
use Rattle.machine.proofs.Codes.{stands_end, stands_inside, stands_op, ready_op, ready_takes}
use Rattle.machine.proofs.Shapes.{taking_two}
use Rattle.machine.proofs.Walking.{same_op}
use Rattle.machine.proofs.Showings.{Shows, shut, open'}
use Rattle.machine.proofs.Simulates.{Held}
use Rattle.machine.proofs.Mirrors.{Mirrors, same_start, spawned_exists, less_than, no_inside}
use Rattle.machine.proofs.Numbers.{next_absent, at-end, number_small, number_is, below_exists, exists_below, never}
use Rattle.source.proofs.Rules.{preempted, preempted_rule, named_same, Peeled, peel, only}
use Rattle.source.proofs.Carryings.{carries_moved, newborn, Forks, nobody as no_child, child, Follows, Fine, follows}
use Rattle.stm.specs.InnerTasks.{Task, outside, System, task_at, did, step_outside, step_task}
use Rattle.stm.specs.InnerMeaning.{taking1, TakesOutside, TakesInside, Outside, Inside}
use Rattle.word.specs.Sum.{Rule}

-- ---- lists
listed : (n : ℕ) (P : ℕ → SThread → Type 0) → ((i : ℕ) → i < n → (m : SThread) × P i m) → (soup : List SThread) × ((length soup ≡ n) × ((i : ℕ) → i < n → P i (get_or soup i nobody)))
listed zero P f = ([], (refl, λ i l. absurd (omega arith)))
listed (suc n) P f =
    let x : (m : SThread) × P 0 m = f 0 (omega arith) in
    let r = listed n (λ (i : ℕ) (m : SThread). P (suc i) m) (λ i l. f (suc i) (omega arith)) in
    (x.0 ∷ r.0, (ap suc r.1.0, λ i l. at x.0 r.0 x.1 r.1.1 i l))
  where
    at : (m : SThread) (ms : List SThread) → P 0 m → ((i : ℕ) → i < n → P (suc i) (get_or ms i nobody)) → (i : ℕ) → i < suc n → P i (get_or (m ∷ ms) i nobody)
    at m ms a b zero l = a
    at m ms a b (suc i) l = b i (omega arith)

-- a list and its place i
record Split (l : List SThread) (i : ℕ) : Type 0 where
  front : List SThread
  behind : List SThread
  number : length front ≡ i
  was : l ≡ front ++ (get_or l i nobody ∷ behind)

split : (l : List SThread) (i : ℕ) → i < length l → Split l i
split [] i less = absurd (omega arith)
split (m ∷ ms) zero less = record { front = []; behind = ms; number = refl; was = refl }
split (m ∷ ms) (suc i) less =
    let r = split ms i (omega arith) in
    record { front = m ∷ r.front; behind = r.behind; number = ap suc r.number; was = ap (λ (l : List SThread). m ∷ l) r.was }

other_place : (front : List SThread) (m m' : SThread) (behind : List SThread) (k : ℕ) → (k ≡ length front → ⊥) → get_or (front ++ (m' ∷ behind)) k nobody ≡ get_or (front ++ (m ∷ behind)) k nobody
other_place [] m m' behind zero n = absurd (n refl)
other_place [] m m' behind (suc k) n = refl
other_place (x ∷ xs) m m' behind zero n = refl
other_place (x ∷ xs) m m' behind (suc k) n = other_place xs m m' behind k (λ e. n (ap suc e))

same_length : (front : List SThread) (m m' : SThread) (behind : List SThread) → length (front ++ (m' ∷ behind)) ≡ length (front ++ (m ∷ behind))
same_length front m m' behind = length-append front (m' ∷ behind) ∙ sym (length-append front (m ∷ behind))

-- ---- the number of threads
changed_number : (ts : List Thread) (i : ℕ) (t : Thread) → i < number_of ts → exists t ≡ true → number_of (set ts i t) ≡ number_of ts
changed_number ts i t l e = number_is (set ts i t) (number_of ts) each last
  where
    each : (k : ℕ) → k < number_of ts → exists (get_or (set ts i t) k blank) ≡ true
    each k less = go (eqb k i) refl
      where
        go : (b : Bool) → eqb k i ≡ b → exists (get_or (set ts i t) k blank) ≡ true
        go true q = ap (λ (y : Thread). exists y) (subst (λ (y : ℕ). get_or (set ts i t) y blank ≡ t) (sym (eqb-true k i q)) (get_or-set_same ts i t blank (number_small ts i l))) ∙ e
        go false q = ap (λ (y : Thread). exists y) (get_or-set_other ts i k t blank (eqb-false k i q)) ∙ below_exists (record { registers = []; counts = []; threads = ts }) k less

    last : exists (get_or (set ts i t) (number_of ts) blank) ≡ false
    last = ap (λ (y : Thread). exists y) (get_or-set_other ts i (number_of ts) t blank (λ q. absurd (omega arith))) ∙ at-end ts

grown_number : (ts : List Thread) (t : Thread) → number_of ts < length ts → exists (get_or ts (suc (number_of ts)) blank) ≡ false → exists t ≡ true → number_of (set ts (number_of ts) t) ≡ suc (number_of ts)
grown_number ts t l free e = number_is (set ts (number_of ts) t) (suc (number_of ts)) each last
  where
    each : (k : ℕ) → k < suc (number_of ts) → exists (get_or (set ts (number_of ts) t) k blank) ≡ true
    each k less = go (eqb k (number_of ts)) refl
      where
        go : (b : Bool) → eqb k (number_of ts) ≡ b → exists (get_or (set ts (number_of ts) t) k blank) ≡ true
        go true q = ap (λ (y : Thread). exists y) (subst (λ (y : ℕ). get_or (set ts (number_of ts) t) y blank ≡ t) (sym (eqb-true k (number_of ts) q)) (get_or-set_same ts (number_of ts) t blank l)) ∙ e
        go false q =
            let z = eqb-false k (number_of ts) q in
            ap (λ (y : Thread). exists y) (get_or-set_other ts (number_of ts) k t blank z) ∙ below_exists (record { registers = []; counts = []; threads = ts }) k (less_than k (number_of ts) (number_of ts) z less refl)

    last : exists (get_or (set ts (number_of ts) t) (suc (number_of ts)) blank) ≡ false
    last = ap (λ (y : Thread). exists y) (get_or-set_other ts (number_of ts) (suc (number_of ts)) t blank (λ q. absurd (omega arith))) ∙ free

-- ---- soups
module _ {bytes : List ℕ} where
  -- a thread's record and its thread of the soup change
  changed : (s : State) (front : List SThread) (m : SThread) (behind : List SThread) → Soup bytes s (front ++ (m ∷ behind)) → (i : ℕ) → length front ≡ i → (h : Table) (t : Thread) (m' : SThread) → t.start ≡ (thread_at s i).start → Carries bytes t m' → Soup bytes (record { registers = h.registers; counts = h.counts; threads = set s.threads i t }) (front ++ (m' ∷ behind))
  changed s front m behind x i at rs t m' e c =
      record {
        number = long ∙ (x.number ∙ sym (changed_number s.threads i t small (same_start t (thread_at s i) e (below_exists s i small))));
        carries = each;
      }
    where
      long : length (front ++ (m' ∷ behind)) ≡ length (front ++ (m ∷ behind))
      long = same_length front m m' behind

      small : i < number_of s.threads
      small = let a = x.number in let b = length-append front (m ∷ behind) in omega arith

      each : (k : ℕ) → k < length (front ++ (m' ∷ behind)) → Carries bytes (get_or (set s.threads i t) k blank) (get_or (front ++ (m' ∷ behind)) k nobody)
      each k less = go (eqb k i) refl
        where
          go : (b : Bool) → eqb k i ≡ b → Carries bytes (get_or (set s.threads i t) k blank) (get_or (front ++ (m' ∷ behind)) k nobody)
          go true q =
              let z : i ≡ k = sym (eqb-true k i q) in
              let a : get_or (set s.threads i t) k blank ≡ t = subst (λ (y : ℕ). get_or (set s.threads i t) y blank ≡ t) z (get_or-set_same s.threads i t blank (number_small s.threads i small)) in
              let b : get_or (front ++ (m' ∷ behind)) k nobody ≡ m' = subst (λ (y : ℕ). get_or (front ++ (m' ∷ behind)) y nobody ≡ m') (at ∙ z) (get_or-append_seam front m' behind nobody) in
              subst (λ (y : SThread). Carries bytes (get_or (set s.threads i t) k blank) y) (sym b) (subst (λ (y : Thread). Carries bytes y m') (sym a) c)
          go false q =
              let z : k ≡ i → ⊥ = eqb-false k i q in
              let a : get_or (set s.threads i t) k blank ≡ thread_at s k = get_or-set_other s.threads i k t blank z in
              let b : get_or (front ++ (m' ∷ behind)) k nobody ≡ get_or (front ++ (m ∷ behind)) k nobody = other_place front m m' behind k (λ g. z (g ∙ at)) in
              subst (λ (y : SThread). Carries bytes (get_or (set s.threads i t) k blank) y) (sym b) (subst (λ (y : Thread). Carries bytes y (get_or (front ++ (m ∷ behind)) k nobody)) (sym a) (x.carries k (omega (arith, long))))

  -- a child's record and its thread come behind
  grown : (s : State) (soup : List SThread) → Soup bytes s soup → number_of s.threads < length s.threads → exists (get_or s.threads (suc (number_of s.threads)) blank) ≡ false → (t : Thread) (m : SThread) → exists t ≡ true → Carries bytes t m → Soup bytes (record { registers = s.registers; counts = s.counts; threads = set s.threads (number_of s.threads) t }) (soup ++ (m ∷ []))
  grown s soup x room free t m e c =
      record {
        number = long ∙ sym (grown_number s.threads t room free e);
        carries = each;
      }
    where
      n : ℕ
      n = number_of s.threads

      long : length (soup ++ (m ∷ [])) ≡ suc n
      long = length-append soup (m ∷ []) ∙ (let z = x.number in omega arith)

      each : (k : ℕ) → k < length (soup ++ (m ∷ [])) → Carries bytes (get_or (set s.threads n t) k blank) (get_or (soup ++ (m ∷ [])) k nobody)
      each k less = go (eqb k n) refl
        where
          go : (b : Bool) → eqb k n ≡ b → Carries bytes (get_or (set s.threads n t) k blank) (get_or (soup ++ (m ∷ [])) k nobody)
          go true q =
              let z : n ≡ k = sym (eqb-true k n q) in
              let a : get_or (set s.threads n t) k blank ≡ t = subst (λ (y : ℕ). get_or (set s.threads n t) y blank ≡ t) z (get_or-set_same s.threads n t blank room) in
              let b : get_or (soup ++ (m ∷ [])) k nobody ≡ m = subst (λ (y : ℕ). get_or (soup ++ (m ∷ [])) y nobody ≡ m) (x.number ∙ z) (get_or-append_seam soup m [] nobody) in
              subst (λ (y : SThread). Carries bytes (get_or (set s.threads n t) k blank) y) (sym b) (subst (λ (y : Thread). Carries bytes y m) (sym a) c)
          go false q =
              let z : k ≡ n → ⊥ = eqb-false k n q in
              let f : k < suc n = subst (λ (y : ℕ). k < y) long less in
              let g : k < length soup = less_than k (length soup) n z f (sym x.number) in
              let a : get_or (set s.threads n t) k blank ≡ thread_at s k = get_or-set_other s.threads n k t blank z in
              let b : get_or (soup ++ (m ∷ [])) k nobody ≡ get_or soup k nobody = get_or-append soup (m ∷ []) nobody k g in
              subst (λ (y : SThread). Carries bytes (get_or (set s.threads n t) k blank) y) (sym b) (subst (λ (y : Thread). Carries bytes y (get_or soup k nobody)) (sym a) (x.carries k g))

-- ---- every state has a soup
carrier : {bytes : List ℕ} {t : Thread} {task : Task register_cells} → Shows bytes t task → (m : SThread) × Carries bytes t m
carrier {bytes} {t} (shut c r o z) = (
  record { code = c; stack = stack_from t.cells 0 t.height; again = ε; reads = empty; writes = empty },
  record {
    code = r.stands;
    valued = r.valued;
    stack = refl;
    again = λ l. absurd (omega arith);
    reads = λ l. absurd (omega arith);
    writes = λ l. absurd (omega arith);
  },
)
carrier {bytes} {t} (open' body c k r o e l g x y) = (
  record { code = c; stack = stack_from t.cells 0 t.height; again = BEGIN ⨾ body; reads = read_log t; writes = write_log t },
  record {
    code = r.stands;
    valued = r.valued;
    stack = refl;
    again = λ l. (g.stands, g.valued);
    reads = λ l v. refl;
    writes = λ l v. refl;
  },
)

-- a state that shows a system of tasks has a soup
pub soup_of : {bytes : List ℕ} {s : State} {sys : System register_cells} → Mirrors bytes s sys → (soup : List SThread) × Soup bytes s soup
soup_of {bytes} {s} {sys} m =
    let r = listed (length sys.tasks) (λ (i : ℕ) (x : SThread). Carries bytes (thread_at s i) x) (λ i l. carrier (m.shown i l)) in
    (r.0, record { number = r.1.0 ∙ sym m.number; carries = λ i l. r.1.1 i (subst (λ (n : ℕ). i < n) r.1.0 l) })

-- ---- what the instruction at a thread's place needs is there
taking_some : (P : ℕ → Type 0) (h : ℕ) → taking1 P h → 1 ≤ h
taking_some P zero t = absurd t
taking_some P (suc h) t = omega arith

module _ {bytes : List ℕ} (sum : Rule) (s : State) (t : Thread) (table : List register_cells.Cell) where
  fine_outside : (i : Instruction) (c : Code) (σ : List ℤ) → Ready bytes t.place t.end (i ⨾ c) t.height → Outside (i ⨾ c) t.height → ((k : Code) → (step_task register_cells sum table (outside (i ⨾ c) σ)).children ≡ k ∷ [] → number_of s.threads < 16) → Fine s t (op_of i)
  unfolding Fine Outside TakesOutside Takes step_task step_outside
  fine_outside (PUSH n) c σ r o room = ready_takes r
  fine_outside ADD c σ r o room = taking_two (λ (x : ℕ). Outside c x) t.height o
  fine_outside (READ v) c σ r o room = absurd o
  fine_outside (WRITE v) c σ r o room = absurd o
  fine_outside BEGIN c σ r o room = tt
  fine_outside COMMIT c σ r o room = absurd o
  fine_outside (FORK k) c σ r o room = ((ready_takes r).0, room k refl)

  fine_inside : (i : Instruction) (c : Code) (k : ℕ) → Ready bytes t.place t.end (i ⨾ c) t.height → Inside (i ⨾ c) k t.base → t.height ≡ k + t.base → 1 ≤ t.begin → Fine s t (op_of i)
  unfolding Fine Inside TakesInside Takes
  fine_inside (PUSH n) c k r o e l = ready_takes r
  fine_inside ADD c k r o e l = let two = taking_two (λ (x : ℕ). Inside c x t.base) k o in omega arith
  fine_inside (READ v) c k r o e l = (o.0, (ready_takes r, l))
  fine_inside (WRITE v) c k r o e l = (o.0, ((let one = taking_some (λ (x : ℕ). Inside c x t.base) k o.1 in omega arith), l))
  fine_inside BEGIN c k r o e l = absurd o
  fine_inside COMMIT c k r o e l = ((let one : k ≡ 1 = o.0 in omega arith), l)
  fine_inside (FORK m) c k r o e l = absurd o

  fine : {task : Task register_cells} → Shows bytes t task → ((k : Code) → (step_task register_cells sum table task).children ≡ k ∷ [] → number_of s.threads < 16) → (op : Op) → t.place < t.end → op_at (drop t.place bytes) ≡ done op → Fine s t op
  fine (shut ε r o z) room op l e = absurd (let x = stands_end r.stands in omega arith)
  fine (shut (i ⨾ c) r o z) room op l e = subst (λ (p : Op). Fine s t p) (same_op (sym (ready_op r) ∙ e)) (fine_outside i c (stack_from t.cells 0 t.height) r o room)
  fine (open' body ε k r o h b g x y) room op l e = absurd (no_inside k t.base o)
  fine (open' body (i ⨾ c) k r o h b g x y) room op l e = subst (λ (p : Op). Fine s t p) (same_op (sym (ready_op r) ∙ e)) (fine_inside i c k r o h b)

shown_low : {bytes : List ℕ} {t : Thread} {task : Task register_cells} → Shows bytes t task → t.height ≤ 64
shown_low (shut c r o z) = r.low
shown_low (open' body c k r o h b g x y) = r.low

-- ---- one pick
-- a rule has its event
not_idle : (e : Event) (x : Name) → named e ≡ some x → is_idle e ≡ false
not_idle idle x q = absurd (let z : ◌≡◌ {A = ℕ} 0 1 = cc in omega arith)
not_idle pushed x q = refl
not_idle (summed inside') x q = refl
not_idle forked x q = refl
not_idle begun x q = refl
not_idle (looked source) x q = refl
not_idle wrote x q = refl
not_idle committed x q = refl
not_idle (sent_back v) x q = refl

data Move (bytes : List ℕ) (sum : Rule) (s : State) (i : ℕ) (m : SThread) : Type 0 where
  ended : m.code ≡ ε → pick sum bytes s i ≡ record { state = s; event = idle; over = 0 } → Move bytes sum s i m
  moves : (r : Stepped) → pick sum bytes s i ≡ r → Follows bytes sum s i (thread_at s i) m r → Move bytes sum s i m

module _ (bytes : List ℕ) (sum : Rule) where
  move : (s : State) (sys : System register_cells) → Mirrors bytes s sys → (i : ℕ) → i < number_of s.threads → Held bytes (thread_at s i) → ((k : Code) → (did register_cells sum sys i).children ≡ k ∷ [] → number_of s.threads < 16) → (m : SThread) → Carries bytes (thread_at s i) m → Move bytes sum s i m
  unfolding ValuedC
  move s sys a i l h room m x = go m.code m.again m.stack m.reads m.writes x
    where
      shows : Shows bytes (thread_at s i) (task_at register_cells sys i)
      shows = a.shown i (subst (λ (n : ℕ). i < n) a.number l)

      e : exists (thread_at s i) ≡ true
      e = below_exists s i l

      small : ltb i (length s.threads) ≡ true
      small = lt-ltb i (length s.threads) (number_small s.threads i l)

      go : (c f : Code) (σ : List ℤ) (r : Log Counted) (w : Log ℤ) → Carries bytes (thread_at s i) (record { code = c; stack = σ; again = f; reads = r; writes = w }) → Move bytes sum s i (record { code = c; stack = σ; again = f; reads = r; writes = w })
      go ε f σ r w y =
          ended refl (ended_idle sum bytes (number_of s.threads) s i (stands_end y.code))
      go (ins ⨾ c) f σ r w y =
          let less = stands_inside y.code in
          let o : op_at (drop (thread_at s i).place bytes) ≡ done (op_of ins) = stands_op y.code y.valued.0 in
          moves
          (instruction sum s i (thread_at s i) (op_of ins))
          (does sum bytes (number_of s.threads) s i (op_of ins) small e (λ z. absurd (omega arith)) o)
          (follows bytes sum s i (thread_at s i) h.typed (shown_low shows) ins c f σ r w y (fine sum s (thread_at s i) sys.table shows room (op_of ins) less o))

  -- a thread's rule is a step of the soup
  step_on : (s : State) (soup : List SThread) → Soup bytes s soup → length s.threads ≡ 16 → ((i : ℕ) → Exists s (suc i) → Exists s i) → (i : ℕ) (front : List SThread) (m : SThread) (behind : List SThread) → length front ≡ i → soup ≡ front ++ (m ∷ behind) → (r : Stepped) → pick sum bytes s i ≡ r → (x : Follows bytes sum s i (thread_at s i) m r) → PickOn bytes sum s i soup x.heap (front ++ (x.m' ∷ (x.new ++ behind)))
  step_on s soup a sized gap i front m behind at was r p x =
      record {
        front = front;
        m = m;
        m' = x.m';
        behind = behind;
        new = x.new;
        number = at;
        was = was;
        step = x.step;
        its = x.first;
        whole =
            named_same (pick sum bytes s i).event (sym was) refl
            (record { step = preempted front (x.step behind); rule = ap (λ (y : Stepped). named y.event) p ∙ (x.rule behind ∙ ap some (sym (preempted_rule front (x.step behind)))) });
        rule = λ others. ap (λ (y : Stepped). named y.event) p ∙ x.rule others;
        becomes = refl;
        heap = ap (λ (y : Stepped). table_in y.state) p ∙ x.registers;
        left = subst (λ (y : Stepped). Soup bytes y.state (front ++ (x.m' ∷ (behind ++ x.new)))) (sym p) (go x.new r.state.threads x.threads);
      }
    where
      ts : List Thread
      ts = set s.threads i (moved_by r.event x.thread)

      before : Soup bytes s (front ++ (m ∷ behind))
      before = subst (λ (y : List SThread). Soup bytes s y) was a

      one : Soup bytes (record { registers = r.state.registers; counts = r.state.counts; threads = ts }) (front ++ (x.m' ∷ behind))
      one = changed s front m behind before i at (table_in r.state) (moved_by r.event x.thread) x.m' x.start (carries_moved _ _ x.thread x.carries)

      small : i < number_of s.threads
      small = let b = before.number in let c = length-append front (m ∷ behind) in omega arith

      number : number_of ts ≡ number_of s.threads
      number = sym one.number ∙ (same_length front m x.m' behind ∙ before.number)

      still_free : exists (get_or ts (suc (number_of ts)) blank) ≡ false
      still_free =
          ap (λ (y : ℕ). exists (get_or ts (suc y) blank)) number
          ∙ (ap (λ (y : Thread). exists y) (get_or-set_other s.threads i (suc (number_of s.threads)) (moved_by r.event x.thread) blank (λ q. absurd (let z = small in omega arith))) ∙ next_absent s gap)

      go : (new : List SThread) (us : List Thread) → Forks bytes ts (number_of s.threads) new us → Soup bytes (record { registers = r.state.registers; counts = r.state.counts; threads = us }) (front ++ (x.m' ∷ (behind ++ new)))
      go new us no_child = subst (λ (y : List SThread). Soup bytes (record { registers = r.state.registers; counts = r.state.counts; threads = ts }) (front ++ (x.m' ∷ y))) (sym (append-nil behind)) one
      go new us (child k start end there room c) =
          subst (λ (y : List SThread). Soup bytes (record { registers = r.state.registers; counts = r.state.counts; threads = set ts (number_of s.threads) (spawned start end) }) y) (append_assoc front (x.m' ∷ behind) (newborn k ∷ []))
          (subst (λ (y : ℕ). Soup bytes (record { registers = r.state.registers; counts = r.state.counts; threads = set ts y (spawned start end) }) ((front ++ (x.m' ∷ behind)) ++ (newborn k ∷ []))) number
          (grown (record { registers = r.state.registers; counts = r.state.counts; threads = ts }) (front ++ (x.m' ∷ behind)) one (let w = length-set s.threads i (moved_by r.event x.thread) in let v = number in omega arith) still_free (spawned start end) (newborn k) (spawned_exists start end there) c))

  -- a pick that is not idle is a step of the soup, by the rule of its event
  pub pick_steps : (s : State) (sys : System register_cells) → Mirrors bytes s sys → ((i : ℕ) → Exists s (suc i) → Exists s i) → ((i : ℕ) → Exists s i → Held bytes (thread_at s i)) → (i : ℕ) → ((k : Code) → (did register_cells sum sys i).children ≡ k ∷ [] → number_of s.threads < 16) → (soup : List SThread) → Soup bytes s soup → is_idle (pick sum bytes s i).event ≡ false → (h' : Table) × ((soup' : List SThread) × PickOn bytes sum s i soup h' soup')
  pick_steps s sys a gap holds i room soup x busy = go (dec_lt i (number_of s.threads))
    where
      no_idle : pick sum bytes s i ≡ record { state = s; event = idle; over = 0 } → ⊥
      no_idle p = never (ap (λ (y : Stepped). is_idle y.event) p) busy

      by : i < length soup → Move bytes sum s i (get_or soup i nobody) → (h' : Table) × ((soup' : List SThread) × PickOn bytes sum s i soup h' soup')
      by l (ended z p) = absurd (no_idle p)
      by l (moves r p y) =
          let d = split soup i l in
          (y.heap, (_, step_on s soup x a.records gap i d.front (get_or soup i nobody) d.behind d.number d.was r p y))

      go : Dec (i < number_of s.threads) → (h' : Table) × ((soup' : List SThread) × PickOn bytes sum s i soup h' soup')
      go (yes l) =
          let k : i < length soup = subst (λ (n : ℕ). i < n) (sym x.number) l in
          by k (move s sys a i l (holds i (below_exists s i l)) room (get_or soup i nobody) (x.carries i k))
      go (no l) = absurd (missing (exists (thread_at s i)) refl)
        where
          missing : (b : Bool) → exists (thread_at s i) ≡ b → ⊥
          missing true e = absurd (let z = exists_below s gap i e in omega arith)
          missing false e = no_idle (missing_idle sum bytes (number_of s.threads) s i e)

  some_code : {h h' : Table} {m : SThread} {behind s' : List SThread} → (x : StepM sum h (m ∷ behind) h' s') → First x → m.code ≡ ε → ⊥
  unfolding First
  some_code (Preempt x) f e = f
  some_code ForkM f e = absurd (let z : ◌≡◌ {A = ℕ} 0 1 = cc in omega arith)
  some_code PushM f e = absurd (let z : ◌≡◌ {A = ℕ} 0 1 = cc in omega arith)
  some_code AddM f e = absurd (let z : ◌≡◌ {A = ℕ} 0 1 = cc in omega arith)
  some_code BeginM f e = absurd (let z : ◌≡◌ {A = ℕ} 0 1 = cc in omega arith)
  some_code ReadM f e = absurd (let z : ◌≡◌ {A = ℕ} 0 1 = cc in omega arith)
  some_code WriteM f e = absurd (let z : ◌≡◌ {A = ℕ} 0 1 = cc in omega arith)
  some_code (Committed q) f e = absurd (let z : ◌≡◌ {A = ℕ} 0 1 = cc in omega arith)
  some_code (Failed q) f e = absurd (let z : ◌≡◌ {A = ℕ} 0 1 = cc in omega arith)

  -- every step of the soup is a pick that is not idle
  pub step_picks : (s : State) (sys : System register_cells) → Mirrors bytes s sys → ((i : ℕ) → Exists s (suc i) → Exists s i) → ((i : ℕ) → Exists s i → Held bytes (thread_at s i)) → ((i : ℕ) (k : Code) → (did register_cells sum sys i).children ≡ k ∷ [] → number_of s.threads < 16) → (soup : List SThread) → Soup bytes s soup → (h' : Table) (soup' : List SThread) → (step : StepM sum (table_in s) soup h' soup') → (i : ℕ) × ((is_idle (pick sum bytes s i).event ≡ false) × ((named (pick sum bytes s i).event ≡ some (rule_of step)) × PickOn bytes sum s i soup h' soup'))
  step_picks s sys a gap holds room soup x h' soup' step = (i, by (move s sys a i small (holds i (below_exists s i small)) (room i) d.m carries))
    where
      d : Peeled sum (table_in s) soup h' soup' (rule_of step)
      d = peel step

      i : ℕ
      i = length d.front

      long : i < length soup
      long = subst (λ (y : List SThread). i < length y) (sym d.was) (let c = length-append d.front (d.m ∷ d.behind) in omega arith)

      small : i < number_of s.threads
      small = subst (λ (n : ℕ). i < n) x.number long

      carries : Carries bytes (thread_at s i) d.m
      carries =
          subst (λ (y : SThread). Carries bytes (thread_at s i) y) (ap (λ (y : List SThread). get_or y i nobody) d.was ∙ get_or-append_seam d.front d.m d.behind nobody) (x.carries i long)

      by : Move bytes sum s i d.m → (is_idle (pick sum bytes s i).event ≡ false) × ((named (pick sum bytes s i).event ≡ some (rule_of step)) × PickOn bytes sum s i soup h' soup')
      by (ended e p) = absurd (some_code d.step d.first e)
      by (moves r p y) =
          let o = only d.step d.first (y.step d.behind) (y.first d.behind) in
          let z = step_on s soup x a.records gap i d.front d.m d.behind refl d.was r p y in
          let w : soup' ≡ d.front ++ (y.m' ∷ (y.new ++ d.behind)) = d.becomes ∙ ap (λ (l : List SThread). d.front ++ l) o.1.0 in (
            not_idle (pick sum bytes s i).event _ (z.rule []),
            (
              ap (λ (v : Stepped). named v.event) p ∙ (y.rule d.behind ∙ ap some (sym o.1.1 ∙ d.rule)),
              subst (λ (l : List SThread). PickOn bytes sum s i soup h' l) (sym w) (subst (λ (h : Table). PickOn bytes sum s i soup h (d.front ++ (y.m' ∷ (y.new ++ d.behind)))) (sym o.0) z),
            ),
          )

-- a thread has ended exactly if the source's has no code left
pub ended_halted : {bytes : List ℕ} {t : Thread} {m : SThread} → Carries bytes t m → (t.place ≡ t.end) ↔ (m.code ≡ ε)
ended_halted {bytes} {t} {m} x = (there m.code x.code, λ e. stands_end (subst (λ (c : Code). Stands bytes t.place t.end c) e x.code))
  where
    there : (c : Code) → Stands bytes t.place t.end c → t.place ≡ t.end → c ≡ ε
    there ε s e = refl
    there (i ⨾ c) s e = absurd (let l = stands_inside s in omega arith)
