-- Document 02 No. 6: a register of an open attempt's read log is stale exactly if a commit has written it since. Assumes nothing.
use Prim.Native.Nat.{ℕ, zero, suc, ◌+◌, ◌<◌}
use mathlib.Core.Bool.{Bool, true, false, cond, not, ◌&&◌}
use mathlib.Core.Logic.{◌↔◌}
use mathlib.Core.Path.{◌≡◌, refl, sym, ap, subst, ◌∙◌}
use mathlib.Core.List.{List, [], ◌∷◌}
use mathlib.Core.Option.{some}
use mathlib.Core.Option as option
use native.Mathlib.Decide.{dec_lt}
use native.Mathlib.Omega.{arith}
use borrow.Author.Tests.{eqb-true, eqb-false, eq-eqb, ne_eqb, ltb-true, ltb-false}
use lib.Dec.{eqb, ltb}
use lib.IntN.{ℤ, pos}
use lib.ListN.{length, drop, get_or, set, replicate, get_or-replicate}
use lib.Seq.{get_or-set_same, get_or-set_other}
use Rattle.guarantee.specs.Histories.{Session, History, picks_taken}
use Rattle.guarantee.specs.Staleness.{Staleness}
use Rattle.guarantee.proofs.Counts.{any_count, any_logged, none_logged, any_values}
use Rattle.guarantee.proofs.Histories.{is_code, history_run, Behind, behind}
use Rattle.code.specs.Bytes.{compiled, IsCode}
use Rattle.code.specs.Compile.{ε, compile_p}
use Rattle.code.specs.Ops.{Op, op_at}
use Rattle.code.specs.Ops as code
use Rattle.machine.specs.Answers.{sum_of}
use Rattle.machine.specs.Fits.{Exists, Fits, Typed}
use Rattle.machine.specs.Steps.{State, table_in, Stepped, Child, thread_at, number_of, committing, commit, perform, act, moved_by, seated, settle, instruction, pick, FirstStale, fresh, Ran, run}
use Rattle.machine.specs.InnerStands.{register_cells}
use Rattle.machine.specs.Written.{anew, written, GoesOn, none, next, Entered}
use Rattle.machine.proofs.Agrees.{does_one, step_fits, run_fits}
use Rattle.machine.proofs.Found.{committed_none}
use Rattle.machine.proofs.Fresh.{fresh_fits, fresh_typed}
use Rattle.machine.proofs.Numbers.{exists_below, in_table}
use Rattle.machine.proofs.Passing.{passed_once}
use Rattle.machine.proofs.Picks.{missing_idle, ended_idle, run_append}
use Rattle.machine.proofs.Showings.{Shows, shut, open', cell_at_lem}
use Rattle.machine.proofs.Stale.{found_stale, found_none}
use Rattle.machine.proofs.Written.{pick_raises, run_written}
use Rattle.script.specs.Bytes.{Bytes}
use Rattle.script.specs.Jobs.{Job}
use Rattle.script.specs.Outcome.{Outcome, done}
use Rattle.script.specs.Reader.{read_job}
use Rattle.script.specs.Turns.{initial, turns}
use Rattle.stm.specs.Counted.{Counted, Table}
use Rattle.stm.specs.Events.{Source, from_writes, from_reads, from_table, Event, idle, looked, committed, sent_back, is_commit, more, Happened, order}
use Rattle.stm.specs.InnerTasks.{Task, System, task_at, cell_at, start, end_of, events_of}
use Rattle.stm.specs.InnerMeaning.{Good, Linked}
use Rattle.stm.proofs.Sound.{start_linked, run_linked}
use Rattle.thread.specs.declared.Thread.{Thread}
use Rattle.thread.specs.Threads.{blank, exists, spawned, push, add, begin, source_of, read_from, noted, read, write, closed, stale, first_stale, counted_log, read_log}
use Rattle.word.specs.Registers.{member}
use Rattle.word.specs.Registers as registers
use Rattle.word.specs.Sum.{Rule}
use Rattle.word.proofs.Sets.{member_same, member_other, member_none}

never : {A : Type 0} → ◌≡◌ {A = Bool} true false → A
never e = absurd (let z : ◌≡◌ {A = ℕ} 0 1 = cc in omega arith)

-- ---- one instruction
-- a thread has register v in its read log, with this count
record Held (v n : ℕ) (t : Thread) : Type 0 where
  there : exists t ≡ true
  marked : member t.reads v ≡ true
  count : get_or t.readcounts v 0 ≡ n

not_table : (t : Thread) (u : ℕ) → member t.reads u ≡ true → source_of t u ≡ from_table → ⊥
unfolding source_of
not_table t u m e = go (member t.writes u) (member t.reads u) m e
  where
    go : (a b : Bool) → b ≡ true → cond a from_writes (cond b from_reads from_table) ≡ from_table → ⊥
    go true b m e = absurd (let z : ◌≡◌ {A = ℕ} 0 1 = cc in omega arith)
    go false true m e = absurd (let z : ◌≡◌ {A = ℕ} 0 1 = cc in omega arith)
    go false false m e = never (sym m)

noted_holds : (t : Thread) (u v n : ℕ) (x : ℤ) (k : ℕ) → Held v n t → (from : Source) → source_of t u ≡ from → Held v n (noted from u x k t)
noted_holds t u v n x k h from_writes e = h
noted_holds t u v n x k h from_reads e = h
noted_holds t u v n x k h from_table e =
    record {
      there = h.there;
      marked = member_other t.reads u v other ∙ h.marked;
      count = get_or-set_other t.readcounts u v k 0 other ∙ h.count;
    }
  where
    other : v ≡ u → ⊥
    other q = not_table t u (subst (λ (w : ℕ). member t.reads w ≡ true) q h.marked) e

act_holds : (sum : Rule) (table : Table) (t : Thread) (op : Op) (v n : ℕ) → Held v n t → anew (act sum table t op).event ≡ false → Held v n (act sum table t op).thread
unfolding act perform commit push add begin read write
act_holds sum table t (code.push x) v n h e = record { there = h.there; marked = h.marked; count = h.count }
act_holds sum table t code.add v n h e = record { there = h.there; marked = h.marked; count = h.count }
act_holds sum table t (code.fork size) v n h e = record { there = h.there; marked = h.marked; count = h.count }
act_holds sum table t code.begin v n h e = never e
act_holds sum table t (code.read u) v n h e =
    let g = noted_holds t u v n (read_from (source_of t u) table.registers t u) (get_or table.counts u 0) h (source_of t u) refl in
    record { there = g.there; marked = g.marked; count = g.count }
act_holds sum table t (code.write u) v n h e = record { there = h.there; marked = h.marked; count = h.count }
act_holds sum table t code.commit v n h e = go (ltb (first_stale 64 0 t table) 64) e
  where
    go : (b : Bool) → anew (committing b table t (first_stale 64 0 t table)).event ≡ false → Held v n (moved_by (committing b table t (first_stale 64 0 t table)).event (committing b table t (first_stale 64 0 t table)).thread)
    go true e = never e
    go false e = never e

-- ---- one pick, of a state that fits
seated_below : (n : ℕ) (cs : List Child) (ts : List Thread) (i : ℕ) → i < n → get_or (seated n cs ts) i blank ≡ get_or ts i blank
seated_below n [] ts i l = refl
seated_below n (c ∷ cs) ts i l = seated_below (suc n) cs (set ts n (spawned c.start c.end)) i (omega arith) ∙ get_or-set_other ts n i (spawned c.start c.end) blank (λ e. absurd (omega arith))

record After (s : State) (k : ℕ) (r : Stepped) : Type 0 where
  other : (i : ℕ) → Exists s i → (k ≡ i → ⊥) → thread_at r.state i ≡ thread_at s i
  own : (v n : ℕ) → Held v n (thread_at s k) → anew r.event ≡ false → Held v n (thread_at r.state k)

stands : (s : State) (k : ℕ) → After s k (record { state = s; event = idle; over = 0 })
stands s k = record { other = λ i e n. refl; own = λ v n h e. h }

module _ {bytes : List ℕ} {j : Job} (c : IsCode bytes j) (sum : Rule) where
  module _ (s : State) (f : Fits bytes s) (y : Typed s) (k : ℕ) where
    -- the picked thread's record
    mine : Exists s k → (op : Op) → thread_at (instruction sum s k (thread_at s k) op).state k ≡ (act sum (table_in s) (thread_at s k) op).thread
    unfolding settle
    mine e op =
        seated_below (number_of s.threads) (act sum (table_in s) (thread_at s k) op).children (set s.threads k (act sum (table_in s) (thread_at s k) op).thread) k (exists_below s f.no_gap k e)
        ∙ get_or-set_same s.threads k (act sum (table_in s) (thread_at s k) op).thread blank (in_table s k e)

    moved : Exists s k → (op : Op) → After s k (instruction sum s k (thread_at s k) op)
    unfolding settle
    moved e op =
        record {
          other = λ i x n. seated_below (number_of s.threads) (act sum (table_in s) (thread_at s k) op).children (set s.threads k (act sum (table_in s) (thread_at s k) op).thread) i (exists_below s f.no_gap i x)
              ∙ get_or-set_other s.threads k i (act sum (table_in s) (thread_at s k) op).thread blank (λ z. n (sym z));
          own = λ v n h a. subst (Held v n) (sym (mine e op)) (act_holds sum (table_in s) (thread_at s k) op v n h a);
        }

    after : After s k (pick sum bytes s k)
    after = go (exists (thread_at s k)) refl (eqb (thread_at s k).place (thread_at s k).end) refl
      where
        go : (b : Bool) → exists (thread_at s k) ≡ b → (d : Bool) → eqb (thread_at s k).place (thread_at s k).end ≡ d → After s k (pick sum bytes s k)
        go false e d z = subst (After s k) (sym (missing_idle sum bytes (number_of s.threads) s k e)) (stands s k)
        go true e true z = subst (After s k) (sym (ended_idle sum bytes (number_of s.threads) s k (eqb-true (thread_at s k).place (thread_at s k).end z))) (stands s k)
        go true e false z =
            let o = does_one c sum s f y k e (eqb-false (thread_at s k).place (thread_at s k).end z) in
            subst (After s k) (sym o.does) (moved e o.op)

  -- ---- a run
  run-counts : (s : State) → Fits bytes s → (is : List ℕ) (v : ℕ) → v < 64 → get_or (run sum bytes s is).state.counts v 0 ≡ written sum bytes s is v + get_or s.counts v 0
  run-counts s f is v l = let a = run_written sum bytes is s f.counts v l in omega arith

  run_holds : (is : List ℕ) (s : State) → Fits bytes s → Typed s → (i v n : ℕ) → Held v n (thread_at s i) → GoesOn sum bytes i s is → Held v n (thread_at (run sum bytes s is).state i)
  unfolding run
  run_holds [] s f y i v n h g = h
  run_holds (k ∷ is) s f y i v n h (next a g) =
      let m = step_fits c sum s f y k in
      run_holds is (pick sum bytes s k).state m.0 m.1 i v n (go (eqb k i) refl) g
    where
      go : (b : Bool) → eqb k i ≡ b → Held v n (thread_at (pick sum bytes s k).state i)
      go true e =
          let q = eqb-true k i e in
          subst (λ (w : ℕ). Held v n (thread_at (pick sum bytes s k).state w)) q ((after s f y k).own v n (subst (λ (w : ℕ). Held v n (thread_at s w)) (sym q) h) (a q))
      go false e = subst (Held v n) (sym ((after s f y k).other i h.there (eqb-false k i e))) h

  -- ---- a READ from the table, and then
  same_op : {a b : Op} → ◌≡◌ {A = Outcome Op} (done a) (done b) → a ≡ b
  same_op e = cc

  same_source : {a b : Source} → looked a ≡ looked b → a ≡ b
  same_source e = cc

  read_holds : (s : State) → Fits bytes s → Typed s → (i v : ℕ) → Exists s i → v < 64 → op_at (drop (thread_at s i).place bytes) ≡ done (code.read v) → (pick sum bytes s i).event ≡ looked from_table
      → Held v (get_or s.counts v 0) (thread_at (pick sum bytes s i).state i)
  unfolding settle act perform read push
  read_holds s f y i v e l at q = go (eqb (thread_at s i).place (thread_at s i).end) refl
    where
      t : Thread
      t = thread_at s i

      held : source_of t v ≡ from_table → Held v (get_or s.counts v 0) (act sum (table_in s) (thread_at s i) (code.read v)).thread
      held z =
          let g = entered (source_of t v) z (read_from (source_of t v) s.registers t v) in
          record { there = g.there; marked = g.marked; count = g.count }
        where
          entered : (from : Source) → from ≡ from_table → (x : ℤ) → Held v (get_or s.counts v 0) (noted from v x (get_or s.counts v 0) t)
          entered from_table z x =
              record {
                there = e;
                marked = member_same t.reads v l;
                count = get_or-set_same t.readcounts v (get_or s.counts v 0) 0 (let w = (y i).readcounts in omega arith);
              }
          entered from_writes z x = absurd (let w : ◌≡◌ {A = ℕ} 0 1 = cc in omega arith)
          entered from_reads z x = absurd (let w : ◌≡◌ {A = ℕ} 0 1 = cc in omega arith)

      told : (instruction sum s i (thread_at s i) (code.read v)).event ≡ looked (source_of t v)
      told = refl

      go : (b : Bool) → eqb (thread_at s i).place (thread_at s i).end ≡ b → Held v (get_or s.counts v 0) (thread_at (pick sum bytes s i).state i)
      go true z =
          absurd (let w : ◌≡◌ {A = Event} idle (looked from_table) = sym (ap (λ (r : Stepped). r.event) (ended_idle sum bytes (number_of s.threads) s i (eqb-true (thread_at s i).place (thread_at s i).end z))) ∙ q in let x : ◌≡◌ {A = ℕ} 0 1 = cc in omega arith)
      go false z =
          let o = does_one c sum s f y i e (eqb-false (thread_at s i).place (thread_at s i).end z) in
          let p : pick sum bytes s i ≡ instruction sum s i (thread_at s i) (code.read v) = o.does ∙ ap (instruction sum s i (thread_at s i)) (same_op (sym o.at_place ∙ at)) in
          let w : source_of t v ≡ from_table = same_source (sym told ∙ (sym (ap (λ (r : Stepped). r.event) p) ∙ q)) in
          subst (Held v (get_or s.counts v 0)) (sym (ap (λ (r : Stepped). thread_at r.state i) p ∙ mine s f y i e (code.read v))) (held w)

  stale_exactly : (t : Thread) (table : Table) (v n m : ℕ) → Held v n t → get_or table.counts v 0 ≡ m + n → (stale t table v ≡ true) ↔ (0 < m)
  unfolding stale
  stale_exactly t table v n m h e = (there, back)
    where
      is : (member t.reads v && not (eqb (get_or t.readcounts v 0) (get_or table.counts v 0))) ≡ not (eqb n (m + n))
      is = rw (h.marked, h.count, e)

      there : (member t.reads v && not (eqb (get_or t.readcounts v 0) (get_or table.counts v 0))) ≡ true → 0 < m
      there z = go (dec_lt 0 m)
        where
          go : Dec (0 < m) → 0 < m
          go (yes l) = l
          go (no l) = never (sym (sym (ap not (eq-eqb n (m + n) (omega arith))) ∙ (sym is ∙ z)))

      back : 0 < m → (member t.reads v && not (eqb (get_or t.readcounts v 0) (get_or table.counts v 0))) ≡ true
      back l = is ∙ ap not (ne_eqb n (m + n) (λ q. absurd (omega arith)))

  exactly : (s : State) → Fits bytes s → Typed s → (i v : ℕ) → Exists s i → v < 64 → op_at (drop (thread_at s i).place bytes) ≡ done (code.read v) → (pick sum bytes s i).event ≡ looked from_table → (is : List ℕ)
      → GoesOn sum bytes i (pick sum bytes s i).state is
      → (stale (thread_at (run sum bytes (pick sum bytes s i).state is).state i) (table_in (run sum bytes (pick sum bytes s i).state is).state) v ≡ true) ↔ (0 < written sum bytes (pick sum bytes s i).state is v)
  exactly s f y i v e l at q is g =
      let m = step_fits c sum s f y i in
      let s₁ = (pick sum bytes s i).state in
      let h = run_holds is s₁ m.0 m.1 i v (get_or s.counts v 0) (read_holds s f y i v e l at q) g in
      let a : get_or s₁.counts v 0 ≡ get_or s.counts v 0 = (pick_raises sum bytes s i).each v l f.counts ∙ ap (λ (x : Event). more (is_commit x && member (thread_at s i).writes v) (get_or s.counts v 0)) q in
      stale_exactly (thread_at (run sum bytes s₁ is).state i) (table_in (run sum bytes s₁ is).state) v (get_or s.counts v 0) (written sum bytes s₁ is v) h
      (run-counts s₁ m.0 is v l ∙ ap (λ (n : ℕ). written sum bytes s₁ is v + n) a)

  -- ---- a COMMIT
  committed_event : (s : State) → Fits bytes s → Typed s → (i : ℕ) → Exists s i → ((thread_at s i).place ≡ (thread_at s i).end → ⊥) → op_at (drop (thread_at s i).place bytes) ≡ done code.commit
      → (pick sum bytes s i).event ≡ (committing (ltb (first_stale 64 0 (thread_at s i) (table_in s)) 64) (table_in s) (thread_at s i) (first_stale 64 0 (thread_at s i) (table_in s))).event
  unfolding settle act perform commit
  committed_event s f y i e n at =
      let o = does_one c sum s f y i e n in
      ap (λ (r : Stepped). r.event) (o.does ∙ ap (instruction sum s i (thread_at s i)) (same_op (sym o.at_place ∙ at)))

  same_register : {a b : ℕ} → sent_back a ≡ sent_back b → a ≡ b
  same_register e = cc

  -- the lowest stale register is one
  lowest_one : (t : Thread) (table : Table) (a b : ℕ) → FirstStale t table a → FirstStale t table b → a ≡ b
  lowest_one t table a b x y = go (dec_lt a b) (dec_lt b a)
    where
      go : Dec (a < b) → Dec (b < a) → a ≡ b
      go (yes l) d = never (sym x.its ∙ y.before a l)
      go (no l) (yes k) = never (sym y.its ∙ x.before b k)
      go (no l) (no k) = omega arith

  module _ (t : Thread) (table : Table) where
    -- the register where the walk stops
    abbrev stop : ℕ
    stop = first_stale 64 0 t table

    sent_there : (b : Bool) → ltb stop 64 ≡ b → (v : ℕ) → (committing b table t stop).event ≡ sent_back v → FirstStale t table v
    sent_there true l v q = subst (FirstStale t table) (same_register q) (found_stale t table (ltb-true stop 64 l))
    sent_there false l v q = absurd (let z : ◌≡◌ {A = ℕ} 0 1 = cc in omega arith)

    sent-back : (b : Bool) → ltb stop 64 ≡ b → (v : ℕ) → FirstStale t table v → (committing b table t stop).event ≡ sent_back v
    sent-back true l v x = ap sent_back (lowest_one t table stop v (found_stale t table (ltb-true stop 64 l)) x)
    sent-back false l v x = never (sym x.its ∙ found_none t table (ltb-false stop 64 l) v x.small)

    effect_there : (b : Bool) → ltb stop 64 ≡ b → (committing b table t stop).event ≡ committed → (v : ℕ) → v < 64 → stale t table v ≡ false
    effect_there true l q v k = absurd (let z : ◌≡◌ {A = ℕ} 0 1 = cc in omega arith)
    effect_there false l q v k = found_none t table (ltb-false stop 64 l) v k

    effect_back : (b : Bool) → ltb stop 64 ≡ b → ((v : ℕ) → v < 64 → stale t table v ≡ false) → (committing b table t stop).event ≡ committed
    effect_back true l x = let z = found_stale t table (ltb-true stop 64 l) in never (sym z.its ∙ x stop z.small)
    effect_back false l x = refl

  sent : (s : State) → Fits bytes s → Typed s → (i : ℕ) → Exists s i → ((thread_at s i).place ≡ (thread_at s i).end → ⊥) → op_at (drop (thread_at s i).place bytes) ≡ done code.commit → (v : ℕ)
      → ((pick sum bytes s i).event ≡ sent_back v) ↔ FirstStale (thread_at s i) (table_in s) v
  sent s f y i e n at v =
      let q = committed_event s f y i e n at in
      (λ x. sent_there (thread_at s i) (table_in s) _ refl v (sym q ∙ x), λ x. q ∙ sent-back (thread_at s i) (table_in s) _ refl v x)

  takes_effect : (s : State) → Fits bytes s → Typed s → (i : ℕ) → Exists s i → ((thread_at s i).place ≡ (thread_at s i).end → ⊥) → op_at (drop (thread_at s i).place bytes) ≡ done code.commit
      → ((pick sum bytes s i).event ≡ committed) ↔ ((v : ℕ) → v < 64 → stale (thread_at s i) (table_in s) v ≡ false)
  takes_effect s f y i e n at =
      let q = committed_event s f y i e n at in
      (λ x. effect_there (thread_at s i) (table_in s) _ refl (sym q ∙ x), λ x. q ∙ effect_back (thread_at s i) (table_in s) _ refl x)

  -- ---- how a register entered a read log
  -- a thread has register v in its read log
  abbrev Marks : ℕ → Thread → Type 0
  Marks v t = (exists t ≡ true) × (member t.reads v ≡ true)

  -- an instruction after which v is marked: it was before and the attempt goes on, or this is its READ from the table
  data From (v : ℕ) (t : Thread) (op : Op) (e : Event) : Type 0 where
    before' : Marks v t → anew e ≡ false → From v t op e
    here' : op ≡ code.read v → e ≡ looked from_table → From v t op e

  none_marked : (v : ℕ) → member registers.none v ≡ true → ⊥
  none_marked v m = never (sym m ∙ member_none v)

  noted_from : (t : Thread) (u v : ℕ) (x : ℤ) (k : ℕ) → exists t ≡ true → (from : Source) → source_of t u ≡ from → member (noted from u x k t).reads v ≡ true → From v t (code.read u) (looked from)
  noted_from t u v x k e from_writes q m = before' (e, m) refl
  noted_from t u v x k e from_reads q m = before' (e, m) refl
  noted_from t u v x k e from_table q m = go (eqb v u) refl
    where
      go : (b : Bool) → eqb v u ≡ b → From v t (code.read u) (looked from_table)
      go true z = here' (ap code.read (sym (eqb-true v u z))) refl
      go false z = before' (e, sym (member_other t.reads u v (eqb-false v u z)) ∙ m) refl

  act_from : (table : Table) (t : Thread) (op : Op) (v : ℕ) → exists t ≡ true → member (act sum table t op).thread.reads v ≡ true → From v t op (act sum table t op).event
  unfolding act perform commit push add begin read write closed
  act_from table t (code.push x) v e m = before' (e, m) refl
  act_from table t code.add v e m = before' (e, m) refl
  act_from table t (code.fork size) v e m = before' (e, m) refl
  act_from table t code.begin v e m = absurd (none_marked v m)
  act_from table t (code.read u) v e m = noted_from t u v (read_from (source_of t u) table.registers t u) (get_or table.counts u 0) e (source_of t u) refl m
  act_from table t (code.write u) v e m = before' (e, m) refl
  act_from table t code.commit v e m = go (ltb (first_stale 64 0 t table) 64) m
    where
      go : (b : Bool) → member (moved_by (committing b table t (first_stale 64 0 t table)).event (committing b table t (first_stale 64 0 t table)).thread).reads v ≡ true
          → From v t code.commit (committing b table t (first_stale 64 0 t table)).event
      go true m = absurd (none_marked v m)
      go false m = absurd (none_marked v m)

  -- over a run: v was marked and the attempt goes on, or it entered
  data Came (s : State) (is : List ℕ) (i v : ℕ) : Type 0 where
    held : Marks v (thread_at s i) → GoesOn sum bytes i s is → Came s is i v
    came : Entered sum bytes s is i v → Came s is i v

  -- an entry of a list in which one is set
  set_cases : {A : Type 0} (P : A → Type 0) (xs : List A) (n i : ℕ) (x d : A) → P (get_or xs i d) → P x → P (get_or (set xs n x) i d)
  set_cases P [] n i x d p q = p
  set_cases P (y ∷ ys) zero zero x d p q = q
  set_cases P (y ∷ ys) zero (suc i) x d p q = p
  set_cases P (y ∷ ys) (suc n) zero x d p q = p
  set_cases P (y ∷ ys) (suc n) (suc i) x d p q = set_cases P ys n i x d p q

  -- an entry of many alike
  alike : {A : Type 0} (P : A → Type 0) (n i : ℕ) (x d : A) → P x → P d → P (get_or (replicate n x) i d)
  alike P zero i x d p q = q
  alike P (suc n) zero x d p q = p
  alike P (suc n) (suc i) x d p q = alike P n i x d p q

  -- a record in which children are seated
  seated_cases : (P : Thread → Type 0) (n : ℕ) (cs : List Child) (ts : List Thread) (i : ℕ) → P (get_or ts i blank) → ((a b : ℕ) → P (spawned a b)) → P (get_or (seated n cs ts) i blank)
  seated_cases P n [] ts i p q = p
  seated_cases P n (x ∷ cs) ts i p q = seated_cases P (suc n) cs (set ts n (spawned x.start x.end)) i (set_cases P ts n i (spawned x.start x.end) blank p (q x.start x.end)) q

  spawned_none : (v a b : ℕ) → Marks v (spawned a b) → ⊥
  unfolding spawned
  spawned_none v a b m = none_marked v m.1

  blank_none : (v : ℕ) → Marks v blank → ⊥
  unfolding blank
  blank_none v m = none_marked v m.1

  -- a pick after which v is marked in the read log of thread i
  data PickFrom (s : State) (k i v : ℕ) (r : Stepped) : Type 0 where
    still : Marks v (thread_at s i) → (k ≡ i → anew r.event ≡ false) → PickFrom s k i v r
    reading : k ≡ i → Exists s i → op_at (drop (thread_at s i).place bytes) ≡ done (code.read v) → r.event ≡ looked from_table → PickFrom s k i v r

  module _ (s : State) (f : Fits bytes s) (y : Typed s) (k i v : ℕ) where
    doing_from : Exists s k → (op : Op) → op_at (drop (thread_at s k).place bytes) ≡ done op → Marks v (thread_at (instruction sum s k (thread_at s k) op).state i) → PickFrom s k i v (instruction sum s k (thread_at s k) op)
    unfolding settle
    doing_from e op at m = go (eqb k i) refl
      where
        own : k ≡ i → Marks v (thread_at (instruction sum s k (thread_at s k) op).state k) → PickFrom s k i v (instruction sum s k (thread_at s k) op)
        own q z = by (act_from (table_in s) (thread_at s k) op v e (subst (Marks v) (mine s f y k e op) z).1)
          where
            by : From v (thread_at s k) op (act sum (table_in s) (thread_at s k) op).event → PickFrom s k i v (instruction sum s k (thread_at s k) op)
            by (before' w a) = still (subst (λ (n : ℕ). Marks v (thread_at s n)) q w) (λ _. a)
            by (here' o a) = reading q (subst (Exists s) q e) (subst (λ (n : ℕ). op_at (drop (thread_at s n).place bytes) ≡ done (code.read v)) q (at ∙ ap done o)) a

        other : (k ≡ i → ⊥) → PickFrom s k i v (instruction sum s k (thread_at s k) op)
        other d =
            still
            (seated_cases (λ (t : Thread). Marks v t → Marks v (thread_at s i)) (number_of s.threads) (act sum (table_in s) (thread_at s k) op).children (set s.threads k (act sum (table_in s) (thread_at s k) op).thread) i
            (λ z. subst (Marks v) (get_or-set_other s.threads k i (act sum (table_in s) (thread_at s k) op).thread blank (λ q. d (sym q))) z) (λ a b z. absurd (spawned_none v a b z)) m)
            (λ q. absurd (d q))

        go : (b : Bool) → eqb k i ≡ b → PickFrom s k i v (instruction sum s k (thread_at s k) op)
        go true q = own (eqb-true k i q) (subst (λ (n : ℕ). Marks v (thread_at (instruction sum s k (thread_at s k) op).state n)) (sym (eqb-true k i q)) m)
        go false q = other (eqb-false k i q)

    pick_from : Marks v (thread_at (pick sum bytes s k).state i) → PickFrom s k i v (pick sum bytes s k)
    pick_from m = go (exists (thread_at s k)) refl (eqb (thread_at s k).place (thread_at s k).end) refl
      where
        idle_from : pick sum bytes s k ≡ record { state = s; event = idle; over = 0 } → PickFrom s k i v (pick sum bytes s k)
        idle_from q = still (subst (λ (r : Stepped). Marks v (thread_at r.state i)) q m) (λ _. ap (λ (r : Stepped). anew r.event) q)

        go : (b : Bool) → exists (thread_at s k) ≡ b → (d : Bool) → eqb (thread_at s k).place (thread_at s k).end ≡ d → PickFrom s k i v (pick sum bytes s k)
        go false e d z = idle_from (missing_idle sum bytes (number_of s.threads) s k e)
        go true e true z = idle_from (ended_idle sum bytes (number_of s.threads) s k (eqb-true (thread_at s k).place (thread_at s k).end z))
        go true e false z =
            let o = does_one c sum s f y k e (eqb-false (thread_at s k).place (thread_at s k).end z) in
            subst (PickFrom s k i v) (sym o.does) (doing_from e o.op o.at_place (subst (λ (r : Stepped). Marks v (thread_at r.state i)) o.does m))

  run_came : (is : List ℕ) (s : State) → Fits bytes s → Typed s → (i v : ℕ) → Marks v (thread_at (run sum bytes s is).state i) → Came s is i v
  unfolding run
  run_came [] s f y i v m = held m none
  run_came (k ∷ is) s f y i v m =
      let g = step_fits c sum s f y k in
      go (run_came is (pick sum bytes s k).state g.0 g.1 i v m)
    where
      at_once : GoesOn sum bytes i (pick sum bytes s k).state is → PickFrom s k i v (pick sum bytes s k) → Came s (k ∷ is) i v
      at_once g (still w a) = held w (next a g)
      at_once g (reading q e at z) =
          came
          (record {
            before = [];
            after = is;
            among = ap (λ (n : ℕ). n ∷ is) q;
            there = e;
            reads = at;
            from-table = subst (λ (n : ℕ). (pick sum bytes s n).event ≡ looked from_table) q z;
            goes-on = subst (λ (n : ℕ). GoesOn sum bytes i (pick sum bytes s n).state is) q g;
          })

      go : Came (pick sum bytes s k).state is i v → Came s (k ∷ is) i v
      go (held w g) = let x = step_fits c sum s f y k in at_once g (pick_from s f y k i v w)
      go (came x) = came (record { before = k ∷ x.before; after = x.after; among = ap (λ (l : List ℕ). k ∷ l) x.among; there = x.there; reads = x.reads; from-table = x.from-table; goes-on = x.goes-on })

  -- in a fresh state no register is marked
  fresh_none : (i v : ℕ) → Marks v (thread_at (fresh bytes) i) → ⊥
  unfolding fresh
  fresh_none zero v = spawned_none v 5 (length bytes)
  fresh_none (suc i) v = alike (λ (t : Thread). Marks v t → ⊥) 15 i blank blank (blank_none v) (blank_none v)

  run_entered : (is : List ℕ) (i v : ℕ) → Marks v (thread_at (run sum bytes (fresh bytes) is).state i) → Entered sum bytes (fresh bytes) is i v
  run_entered is i v m = go (run_came is (fresh bytes) (fresh_fits bytes) (fresh_typed bytes) i v m)
    where
      go : Came (fresh bytes) is i v → Entered sum bytes (fresh bytes) is i v
      go (held w g) = absurd (fresh_none i v w)
      go (came x) = x

  run_since : (is : List ℕ) (i v : ℕ) → v < 64 → (e : Entered sum bytes (fresh bytes) is i v)
      → (stale (thread_at (run sum bytes (fresh bytes) is).state i) (table_in (run sum bytes (fresh bytes) is).state) v ≡ true) ↔ (0 < written sum bytes (pick sum bytes (run sum bytes (fresh bytes) e.before).state i).state e.after v)
  unfolding run
  run_since is i v l e =
      let b = run_fits c sum (fresh bytes) (fresh_fits bytes) (fresh_typed bytes) e.before in
      subst (λ (s : State). (stale (thread_at s i) (table_in s) v ≡ true) ↔ (0 < written sum bytes (pick sum bytes (run sum bytes (fresh bytes) e.before).state i).state e.after v))
      (sym (ap (λ (r : Ran). r.state) (run_append sum bytes (fresh bytes) e.before (i ∷ e.after))) ∙ ap (λ (l : List ℕ). (run sum bytes (fresh bytes) l).state) (sym e.among))
      (exactly (run sum bytes (fresh bytes) e.before).state b.0 b.1 i v e.there l e.reads e.from-table e.after e.goes-on)

-- ---- the values of a read log
module _ (job : List ℕ) (j : Job) (b : Bytes job) (accepted : read_job job ≡ done j) where
  not_not : (x : Bool) → not x ≡ false → x ≡ true
  not_not true e = refl
  not_not false e = never e

  same_count : (t : Thread) (table : Table) (v : ℕ) → member t.reads v ≡ true → stale t table v ≡ false → get_or t.readcounts v 0 ≡ get_or table.counts v 0
  unfolding stale
  same_count t table v m e =
      eqb-true (get_or t.readcounts v 0) (get_or table.counts v 0)
      (not_not (eqb (get_or t.readcounts v 0) (get_or table.counts v 0)) (sym (ap (λ (x : Bool). x && not (eqb (get_or t.readcounts v 0) (get_or table.counts v 0))) m) ∙ e))

  logged : (t : Thread) (v : ℕ) → member t.reads v ≡ true → read_log t v ≡ some (record { value = get_or t.readlog v (pos 0); count = get_or t.readcounts v 0 })
  unfolding counted_log
  logged t v m = ap (λ (x : Bool). cond x (some (record { value = get_or t.readlog v (pos 0); count = get_or t.readcounts v 0 })) option.none) m

  not_stale_same : {now : Session} {events : List Happened} → History (compiled j) now events → (i v : ℕ) → Exists now.state i → v < 64 → member (thread_at now.state i).reads v ≡ true
      → stale (thread_at now.state i) (table_in now.state) v ≡ false → get_or (thread_at now.state i).readlog v (pos 0) ≡ get_or now.state.registers v (pos 0)
  not_stale_same {now} {events} h i v e l m z = go (task_at register_cells sys i) (k.mirrors.shown i inside_tasks) (linked.good i)
    where
      t : Thread
      t = thread_at now.state i

      k : Behind job j b accepted now.state events
      k = behind job j b accepted h

      sys : System register_cells
      sys = end_of register_cells (sum_of j) (start register_cells (compile_p j.tree ε)) (behind job j b accepted h).picks

      linked : Linked register_cells (sum_of j) sys (turns (sum_of j) (initial j.tree) (order (events_of register_cells (sum_of j) (start register_cells (compile_p j.tree ε)) (behind job j b accepted h).picks)))
      linked = (run_linked register_cells (sum_of j) k.picks (start register_cells (compile_p j.tree ε)) (initial j.tree) (start_linked register_cells (sum_of j) j.tree (is_code job j b accepted).within.sized.valued)).linked

      inside_tasks : i < length sys.tasks
      inside_tasks = subst (λ (n : ℕ). i < n) k.mirrors.number (exists_below now.state k.fit.no_gap i e)

      cell : cell_at register_cells sys.table v ≡ record { value = get_or now.state.registers v (pos 0); count = get_or now.state.counts v 0 }
      cell = ap (λ (c : List Counted). cell_at register_cells c v) (sym k.mirrors.table) ∙ cell_at_lem now.state.registers now.state.counts v

      go : (task : Task register_cells) → Shows (compiled j) t task → Good register_cells (sum_of j) sys.table task → get_or t.readlog v (pos 0) ≡ get_or now.state.registers v (pos 0)
      go task (shut c r o y) g =
          let p = k.fit.placed i e in
          let none_read : t.reads ≡ registers.none = p.no_reads (sym p.begin ∙ y) in
          never (sym m ∙ (ap (λ (x : ℕ). member x v) none_read ∙ member_none v))
      go task (open' body c n r o x y a w q) g =
          let past = subst (λ (x : Counted). register_cells.Past (record { value = get_or t.readlog v (pos 0); count = get_or t.readcounts v 0 }) x) cell
          (g.1 v (record { value = get_or t.readlog v (pos 0); count = get_or t.readcounts v 0 }) l (logged t v m)) in
          past.1 (same_count t (table_in now.state) v m z)

-- for every accepted job
pub staleness : (job : List ℕ) (j : Job) → Bytes job → read_job job ≡ done j → Staleness j
unfolding fresh
staleness job j b accepted =
    let c = is_code job j b accepted in
    record {
      counts = counts;
      more_counts = λ s f y. run-counts c (sum_of j) s f;
      entered = entered;
      since = since;
      exactly = exactly c (sum_of j);
      sent = sent c (sum_of j);
      takes_effect = takes_effect c (sum_of j);
      not_stale_same = not_stale_same job j b accepted;
      printed = λ {now} h i v e l q m. not_stale_same job j b accepted h i v e l m (committed_none (sum_of j) (compiled j) (number_of now.state.threads) now.state i q v l);
      above = λ s n v p l f. absurd (let a = passed_once p f.passed in let t = f.counted v in omega arith);
      ahead = λ s i v e l f. absurd (let t = (f.tallied i e).not-ahead v in omega arith);
      unmarked = λ s i v e m l f. absurd (let t = (f.placed i e).counts_free v m in omega arith);
      any_count = λ s f y n v p l m. any_count (compiled j) s f n v p l m;
      any_logged = λ s f y i n v e p l k x m. any_logged c s f y i v e l x m n p k;
      none_logged = λ s f y i v e l k x m. none_logged c s f y i v e l x m k;
      any_values = any_values (compiled j);
    }
  where
    entered : {now : Session} {events : List Happened} (h : History (compiled j) now events) (i v : ℕ) → Exists now.state i → member (thread_at now.state i).reads v ≡ true
        → Entered (sum_of j) (compiled j) (fresh (compiled j)) (picks_taken h) i v
    entered h i v e m =
        run_entered (is_code job j b accepted) (sum_of j) (picks_taken h) i v
        (subst (λ (x : Ran). (exists (thread_at x.state i) ≡ true) × (member (thread_at x.state i).reads v ≡ true)) (sym (history_run job j b accepted h)) (e, m))

    since : {now : Session} {events : List Happened} (h : History (compiled j) now events) (i v : ℕ) → v < 64 → (e : Entered (sum_of j) (compiled j) (fresh (compiled j)) (picks_taken h) i v)
        → (stale (thread_at now.state i) (table_in now.state) v ≡ true) ↔ (0 < written (sum_of j) (compiled j) (pick (sum_of j) (compiled j) (run (sum_of j) (compiled j) (fresh (compiled j)) e.before).state i).state e.after v)
    since h i v l e =
        subst (λ (x : Ran). (stale (thread_at x.state i) (table_in x.state) v ≡ true) ↔ (0 < written (sum_of j) (compiled j) (pick (sum_of j) (compiled j) (run (sum_of j) (compiled j) (fresh (compiled j)) e.before).state i).state e.after v))
        (history_run job j b accepted h) (run_since (is_code job j b accepted) (sum_of j) (picks_taken h) i v l e)

    counts : {now : Session} {events : List Happened} → (h : History (compiled j) now events) → (v : ℕ) → v < 64 → get_or now.state.counts v 0 ≡ written (sum_of j) (compiled j) (fresh (compiled j)) (picks_taken h) v
    counts {now} h v l =
        let c = is_code job j b accepted in
        let a = run-counts c (sum_of j) (fresh (compiled j)) (fresh_fits (compiled j)) (picks_taken h) v l in
        let z : get_or (fresh (compiled j)).counts v 0 ≡ 0 = get_or-replicate 64 v 0 0 l in
        subst (λ (x : Ran). get_or x.state.counts v 0 ≡ written (sum_of j) (compiled j) (fresh (compiled j)) (picks_taken h) v) (history_run job j b accepted h)
        (let w : get_or (run (sum_of j) (compiled j) (fresh (compiled j)) (picks_taken h)).state.counts v 0 ≡ written (sum_of j) (compiled j) (fresh (compiled j)) (picks_taken h) v = omega arith in w)
