-- What a run from a fresh state shows, once every thread has ended: the job's figures. Assumes nothing.
use Prim.Native.Nat.{ℕ, ◌+◌, ◌≤◌, ◌<◌}
use mathlib.Core.Bool.{Bool, true, false, not}
use mathlib.Core.Logic.{◌↔◌}
use mathlib.Core.Path.{◌≡◌, refl, sym, ap, subst, ◌∙◌}
use mathlib.Core.List.{List}
use native.Mathlib.Omega.{arith}
use native.Mathlib.Decide.{dec_lt}
use lib.IntN.{ℤ}
use lib.ListN.{length, drop}
use Rattle.code.specs.Bytes.{IsCode}
use Rattle.code.specs.Compile.{Instruction, Code, PUSH, ADD, READ, WRITE, BEGIN, COMMIT, FORK, ε, ◌⨾◌, compile_p}
use Rattle.code.specs.InnerHeights.{greatest}
use Rattle.code.specs.Ops.{Op, op_at}
use Rattle.code.specs.Ops as code
use Rattle.machine.specs.Fits.{Walked, Walks, starts, Exists, ThreadOf, OneThread}
use Rattle.machine.specs.InnerStands.{register_cells, op_of, Ready}
use Rattle.machine.specs.Steps.{State, Stepped, Child, thread_at, number_of, fresh, run, DoesOne}
use Rattle.machine.proofs.Agrees.{outer, does_one}
use Rattle.machine.proofs.Codes.{stands_inside}
use Rattle.machine.proofs.Fresh.{fresh_typed, fresh_fits, fresh_mirrors}
use Rattle.machine.proofs.Mirrors.{no_inside}
use Rattle.machine.proofs.Numbers.{below_exists, exists_below}
use Rattle.machine.proofs.Picks.{missing_idle, ended_idle}
use Rattle.machine.proofs.Runs.{Run, run_keeps}
use Rattle.machine.proofs.Showings.{Shows, shut, open'}
use Rattle.machine.proofs.Walking.{same_op, walks_once}
use Rattle.script.specs.Count.{atomics, threads, instructions, bound, read_set, write_set}
use Rattle.script.specs.Jobs.{Job}
use Rattle.script.specs.Outcome.{done}
use Rattle.stm.specs.Events.{is_idle, is_commit, is_back, counted, counts_of}
use Rattle.stm.specs.InnerTasks.{Task, outside, task_at, end_of, events_of, start}
use Rattle.stm.proofs.Bound.{all_commits, all_threads, steps_least, steps_exact, steps_bound}
use Rattle.stm.proofs.Counts.{steps_counted, commits_counted, back_counted}
use Rattle.thread.specs.declared.Thread.{Thread}
use Rattle.thread.specs.Threads.{exists}
use Rattle.traces.specs.Traces.{Finished, Moment, moments, Among, PickDid, Greatest}
use Rattle.traces.proofs.Along.{Own, place_of, highest, none_above, not_behind, own_op, top}
use Rattle.traces.proofs.Parts.{Part, whole, child, part_ready, thread_part, one_thread}
use Rattle.traces.proofs.Named.{Anywhere, own, in_child, read_stands, stands_read, write_stands, stands_write}
use Rattle.traces.proofs.Visits.{PickedAt, StoodAt, PassedBy, fresh_visited, Fitting, all_fit}
use Rattle.word.specs.Registers.{member}
use Rattle.word.specs.Sum.{Rule}

never : {A : Type 0} → ◌≡◌ {A = Bool} true false → A
never e = absurd (let z : ◌≡◌ {A = ℕ} 0 1 = cc in omega arith)

is_read : (i : Instruction) (v : ℕ) → op_of i ≡ code.read v → i ≡ READ v
is_read (PUSH n) v e = absurd (let z : ◌≡◌ {A = ℕ} 0 1 = cc in omega arith)
is_read ADD v e = absurd (let z : ◌≡◌ {A = ℕ} 0 1 = cc in omega arith)
is_read (READ u) v e = cc
is_read (WRITE u) v e = absurd (let z : ◌≡◌ {A = ℕ} 0 1 = cc in omega arith)
is_read BEGIN v e = absurd (let z : ◌≡◌ {A = ℕ} 0 1 = cc in omega arith)
is_read COMMIT v e = absurd (let z : ◌≡◌ {A = ℕ} 0 1 = cc in omega arith)
is_read (FORK k) v e = absurd (let z : ◌≡◌ {A = ℕ} 0 1 = cc in omega arith)

is_write : (i : Instruction) (v : ℕ) → op_of i ≡ code.write v → i ≡ WRITE v
is_write (PUSH n) v e = absurd (let z : ◌≡◌ {A = ℕ} 0 1 = cc in omega arith)
is_write ADD v e = absurd (let z : ◌≡◌ {A = ℕ} 0 1 = cc in omega arith)
is_write (READ u) v e = absurd (let z : ◌≡◌ {A = ℕ} 0 1 = cc in omega arith)
is_write (WRITE u) v e = cc
is_write BEGIN v e = absurd (let z : ◌≡◌ {A = ℕ} 0 1 = cc in omega arith)
is_write COMMIT v e = absurd (let z : ◌≡◌ {A = ℕ} 0 1 = cc in omega arith)
is_write (FORK k) v e = absurd (let z : ◌≡◌ {A = ℕ} 0 1 = cc in omega arith)

-- a thread at its end shows a task that is over
over_shown : {bytes : List ℕ} (t : Thread) (task : Task register_cells) → t.place ≡ t.end → Shows bytes t task → (σ : List ℤ) × (task ≡ outside ε σ)
over_shown t task p (shut ε r o z) = (_, refl)
over_shown t task p (shut (i ⨾ c) r o z) = absurd (let l = stands_inside r.stands in omega arith)
over_shown t task p (open' body ε k r o h w g x y) = absurd (no_inside k t.base o)
over_shown t task p (open' body (i ⨾ c) k r o h w g x y) = absurd (let l = stands_inside r.stands in omega arith)

-- a thread that does an instruction exists, and has not ended
module _ (sum : Rule) (bytes : List ℕ) (s : State) (i : ℕ) (d : DoesOne sum bytes s i) where
  does_exists : Exists s i
  does_exists = go (exists (thread_at s i)) refl
    where
      go : (b : Bool) → exists (thread_at s i) ≡ b → exists (thread_at s i) ≡ true
      go true e = e
      go false e = never (sym (ap (λ (r : Stepped). is_idle r.event) (missing_idle sum bytes (number_of s.threads) s i e)) ∙ d.not_idle)

  does_goes : (thread_at s i).place ≡ (thread_at s i).end → ⊥
  does_goes e = never (sym (ap (λ (r : Stepped). is_idle r.event) (ended_idle sum bytes (number_of s.threads) s i e)) ∙ d.not_idle)

module _ {bytes : List ℕ} {j : Job} (c : IsCode bytes j) (sum : Rule) (is : List ℕ) where
  abbrev last : State
  last = (run sum bytes (fresh bytes) is).state

  abbrev trace : List Moment
  trace = moments sum bytes (fresh bytes) is

  keeps : Run c (outer c) 0 sum (fresh bytes) (start register_cells (compile_p j.tree ε)) is
  keeps = run_keeps c (outer c) sum is (fresh bytes) (start register_cells (compile_p j.tree ε)) (fresh_fits bytes) (fresh_typed bytes) (fresh_mirrors bytes c (outer c))

  fitting : (m : Moment) → Among m (moments sum bytes (fresh bytes) is) → Fitting c sum m
  fitting m a = all_fit c sum is (fresh bytes) (fresh_fits bytes) (fresh_typed bytes) m a

  -- what stands in the code is done: an instruction that a pick did is own code of some part
  done_stands : (op : Op) (d : PickDid sum bytes (moments sum bytes (fresh bytes) is) op) → (x : Instruction) × ((op_of x ≡ op) × Anywhere x (compile_p j.tree ε) 5)
  done_stands op d =
      let m = d.moment in
      let f = fitting m d.made in
      let e = does_exists sum bytes m.before m.thread d.does in
      let p = thread_part c (outer c) m.before f.before m.thread e in
      let w = f.before.placed m.thread e in
      let r = part_ready c p.1 in
      let l = not_behind bytes (thread_at m.before m.thread).start (thread_at m.before m.thread).end p.0 r w.walks in
      let n = does_goes sum bytes m.before m.thread d.does in
      let o = own_op bytes (thread_at m.before m.thread).start (thread_at m.before m.thread).end p.0 r op w.walks (strictly l n) (d.does.at_place ∙ ap done d.its) in
      (o.instruction, (o.shown, anywhere p.1 o.own))
    where
      strictly : {a b : ℕ} → a ≤ b → (a ≡ b → ⊥) → a < b
      strictly {a} {b} l n = go (dec_lt a b)
        where
          go : Dec (a < b) → a < b
          go (yes x) = x
          go (no x) = absurd (n (omega arith))

      anywhere : {y : Child} {k : Code} {x : Instruction} → Part bytes j y k → Own x k → Anywhere x (compile_p j.tree ε) 5
      anywhere whole o = own o
      anywhere (child z) o = in_child z o

  module _ (fin : Finished (run sum bytes (fresh bytes) is).state) where
    -- ---- counts
    over_all : (i : ℕ) → i < length (end_of register_cells sum (start register_cells (compile_p j.tree ε)) is).tasks → (σ : List ℤ) × (task_at register_cells (end_of register_cells sum (start register_cells (compile_p j.tree ε)) is) i ≡ outside ε σ)
    over_all i l =
        let e = below_exists last i (subst (λ (n : ℕ). i < n) (sym keeps.mirrors.number) l) in
        over_shown (thread_at last i) (task_at register_cells (end_of register_cells sum (start register_cells (compile_p j.tree ε)) is) i) (fin i e) (keeps.mirrors.shown i l)

    pub commits_shown : (counts_of (run sum bytes (fresh bytes) is).events).commits ≡ atomics j.tree
    commits_shown = commits_counted (run sum bytes (fresh bytes) is).events ∙ (ap (counted is_commit) keeps.events ∙ all_commits register_cells sum j.tree c.within.sized.valued is over_all)

    pub threads_shown : (i : ℕ) → Exists (run sum bytes (fresh bytes) is).state i ↔ (i < threads j.tree)
    threads_shown i = (λ e. subst (λ (n : ℕ). i < n) number (exists_below last keeps.fits.no_gap i e), λ l. below_exists last i (subst (λ (n : ℕ). i < n) (sym number) l))
      where
        number : number_of (run sum bytes (fresh bytes) is).state.threads ≡ threads j.tree
        number = keeps.mirrors.number ∙ all_threads register_cells sum j.tree c.within.sized.valued is over_all

    steps_are : (counts_of (run sum bytes (fresh bytes) is).events).steps ≡ counted (λ e. not (is_idle e)) (events_of register_cells sum (start register_cells (compile_p j.tree ε)) is)
    steps_are = steps_counted (run sum bytes (fresh bytes) is).events ∙ ap (counted (λ e. not (is_idle e))) keeps.events

    backs_are : (counts_of (run sum bytes (fresh bytes) is).events).back ≡ counted is_back (events_of register_cells sum (start register_cells (compile_p j.tree ε)) is)
    backs_are = back_counted (run sum bytes (fresh bytes) is).events ∙ ap (counted is_back) keeps.events

    pub least_shown : instructions j.tree + (counts_of (run sum bytes (fresh bytes) is).events).back ≤ (counts_of (run sum bytes (fresh bytes) is).events).steps
    least_shown =
        subst (λ (n : ℕ). instructions j.tree + (counts_of (run sum bytes (fresh bytes) is).events).back ≤ n) (sym steps_are)
        (subst (λ (n : ℕ). instructions j.tree + n ≤ counted (λ e. not (is_idle e)) (events_of register_cells sum (start register_cells (compile_p j.tree ε)) is)) (sym backs_are)
        (steps_least register_cells sum j.tree c.within.sized.valued is over_all))

    pub exact_shown : (counts_of (run sum bytes (fresh bytes) is).events).back ≡ 0 → (counts_of (run sum bytes (fresh bytes) is).events).steps ≡ instructions j.tree
    exact_shown z = steps_are ∙ steps_exact register_cells sum j.tree c.within.sized.valued is over_all (sym backs_are ∙ z)

    pub most_shown : (counts_of (run sum bytes (fresh bytes) is).events).steps ≤ bound j.tree
    most_shown = subst (λ (n : ℕ). n ≤ bound j.tree) (sym steps_are) (steps_bound register_cells sum j.tree c.within.sized.valued is)

    -- ---- parts
    pub part_thread : {x : Child} {k : Code} → Part bytes j x k → OneThread (run sum bytes (fresh bytes) is).state x
    part_thread p = one_thread c (outer c) last keeps.fits fin p

    -- the thread of a part has passed all of it
    passed_all : {x : Child} {k : Code} (p : Part bytes j x k) → PassedBy bytes (moments sum bytes (fresh bytes) is) (thread_at (run sum bytes (fresh bytes) is).state (part_thread p).thread)
    passed_all p = fresh_visited c sum is (fresh_fits bytes) (fresh_typed bytes) (part_thread p).thread (part_thread p).its.there

    at-end : {x : Child} {k : Code} (p : Part bytes j x k) → (thread_at (run sum bytes (fresh bytes) is).state (part_thread p).thread).place ≡ x.end
    at-end p = let o = (part_thread p).its in fin (part_thread p).thread o.there ∙ ap (λ (y : Child). y.end) o.own

    picked_part : {x : Child} {k : Code} (p : Part bytes j x k) (q : ℕ) (w : Walked) → Walks bytes x.start x.end q w → q < x.end → PickedAt (moments sum bytes (fresh bytes) is) x q
    picked_part {x} p q w ws l =
        let o = (part_thread p).its.own in
        subst (λ (y : Child). PickedAt trace y q) o ((passed_all p).picked q w (subst (λ (y : Child). Walks bytes y.start y.end q w) (sym o) ws) (subst (λ (n : ℕ). q < n) (sym (at-end p)) l))

    stood_part : {x : Child} {k : Code} (p : Part bytes j x k) (q : ℕ) (w : Walked) → Walks bytes x.start x.end q w → x.start < q → q ≤ x.end → StoodAt (moments sum bytes (fresh bytes) is) x q
    stood_part {x} p q w ws l m =
        let o = (part_thread p).its.own in
        subst (λ (y : Child). StoodAt trace y q) o ((passed_all p).stood q w (subst (λ (y : Child). Walks bytes y.start y.end q w) (sym o) ws) (subst (λ (y : Child). y.start < q) (sym o) l) (subst (λ (n : ℕ). q ≤ n) (sym (at-end p)) m))

    -- its greatest height
    pub height_shown : {x : Child} {k : Code} → Part bytes j x k → 1 ≤ greatest k 0 → Greatest (moments sum bytes (fresh bytes) is) x (greatest k 0)
    height_shown {x} {k} p some =
        let r = part_ready c p in
        let h = highest bytes x.start x.end k r starts in
        let t = stood_part p h.place h.walked h.walks (top bytes x.start x.end k r some h) (not_behind bytes x.start x.end k r h.walks) in
        let f = (fitting t.moment t.made).after.placed t.thread t.its.there in
        let w : Walks bytes x.start x.end h.place f.walked = subst (λ (n : ℕ). Walks bytes x.start x.end n f.walked) t.place (subst (λ (y : Child). Walks bytes y.start y.end (thread_at t.moment.after t.thread).place f.walked) t.its.own f.walks) in
        let same : f.walked ≡ h.walked = walks_once bytes x.start x.end w h.walks in
        record {
          moment = t.moment;
          made = t.made;
          thread = t.thread;
          its = t.its;
          reached = f.height ∙ (ap (λ (z : Walked). z.height) same ∙ h.height);
          most = λ m a i o. most' r m a i o;
        }
      where
        most' : Ready bytes x.start x.end k 0 → (m : Moment) → Among m (moments sum bytes (fresh bytes) is) → (i : ℕ) → ThreadOf m.after x i → (thread_at m.after i).height ≤ greatest k 0
        most' r m a i o =
            let f = (fitting m a).after.placed i o.there in
            let l = none_above bytes x.start x.end k r (subst (λ (y : Child). Walks bytes y.start y.end (thread_at m.after i).place f.walked) o.own f.walks) in
            let e = f.height in
            omega arith

    -- each of its instructions is done
    stands_done : {x : Child} {k : Code} → Part bytes j x k → (ins : Instruction) → Own ins k → PickDid sum bytes (moments sum bytes (fresh bytes) is) (op_of ins)
    stands_done {x} {k} p ins o =
        let r = part_ready c p in
        let h = place_of bytes x.start x.end ins o r starts in
        let t = picked_part p h.place h.walked h.walks h.inside in
        let f = fitting t.moment t.made in
        let e : (thread_at t.moment.before t.moment.thread).end ≡ x.end = ap (λ (y : Child). y.end) t.its.own in
        let n : (thread_at t.moment.before t.moment.thread).place ≡ (thread_at t.moment.before t.moment.thread).end → ⊥ = λ z. absurd (let l = h.inside in let q = t.place in omega arith) in
        let d = does_one c sum t.moment.before f.before f.typed_before t.moment.thread t.its.there n in
        record { moment = t.moment; made = t.made; does = d; its = same_op (sym d.at_place ∙ (ap (λ (z : ℕ). op_at (drop z bytes)) t.place ∙ h.stands)) }

    anywhere_done : (ins : Instruction) → Anywhere ins (compile_p j.tree ε) 5 → PickDid sum bytes (moments sum bytes (fresh bytes) is) (op_of ins)
    anywhere_done ins (own o) = stands_done whole ins o
    anywhere_done ins (in_child z o) = stands_done (child z) ins o

    -- ---- the registers
    pub reads_shown : (v : ℕ) → (member (read_set j.tree) v ≡ true) ↔ PickDid sum bytes (moments sum bytes (fresh bytes) is) (code.read v)
    reads_shown v = (λ e. anywhere_done (READ v) (read_stands j.tree v e), λ d. back (done_stands (code.read v) d))
      where
        back : (x : Instruction) × ((op_of x ≡ code.read v) × Anywhere x (compile_p j.tree ε) 5) → member (read_set j.tree) v ≡ true
        back p = stands_read j.tree v c.within.sized.valued (subst (λ (x : Instruction). Anywhere x (compile_p j.tree ε) 5) (is_read p.0 v p.1.0) p.1.1)

    pub writes_shown : (v : ℕ) → (member (write_set j.tree) v ≡ true) ↔ PickDid sum bytes (moments sum bytes (fresh bytes) is) (code.write v)
    writes_shown v = (λ e. anywhere_done (WRITE v) (write_stands j.tree v e), λ d. back (done_stands (code.write v) d))
      where
        back : (x : Instruction) × ((op_of x ≡ code.write v) × Anywhere x (compile_p j.tree ε) 5) → member (write_set j.tree) v ≡ true
        back p = stands_write j.tree v c.within.sized.valued (subst (λ (x : Instruction). Anywhere x (compile_p j.tree ε) 5) (is_write p.0 v p.1.0) p.1.1)
