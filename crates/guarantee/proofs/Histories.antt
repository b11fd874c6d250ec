-- What holds of every list of calls that run an accepted job's code by picks. Assumes nothing.
use Prim.Native.Nat.{ℕ, zero, suc, ◌≤◌, ◌<◌}
use mathlib.Core.Bool.{Bool, true, false, not}
use mathlib.Core.Logic.{◌↔◌}
use mathlib.Core.Path.{◌≡◌, refl, sym, ap, subst, ◌∙◌}
use mathlib.Core.List.{List, [], ◌∷◌, ◌++◌, append-nil, append_assoc}
use native.Mathlib.Omega.{arith}
use borrow.Author.Tests.{le-ltb, lt-ltb}
use lib.Dec.{ltb}
use lib.IntN.{ℤ, pos}
use lib.ListN.{length, get_or}
use Rattle.guarantee.specs.Histories.{Call, step, run, code_of, state_of, picks_of, Lent, alone, comes_to, Session, History, none, turned-down, followed, script_after, Ended, SameResult, calls_of, picks_taken, state_after, reported_by, reported, CallLists, Whole, IsOrder, SentBack}
use Rattle.guarantee.proofs.RoundTrip.{mapped_done}
use Rattle.code.specs.Compile.{Code, ε, ◌⨾◌, compile_p}
use Rattle.code.specs.Bytes.{compiled, IsCode}
use Rattle.code.specs.Reader.{read_code_tree, read_code}
use Rattle.code.proofs.Foreign.{there_and_back, code-bytes}
use Rattle.thread.specs.declared.Thread.{Thread}
use Rattle.machine.specs.Steps as steps
use Rattle.machine.specs.Steps.{State, Stepped, number_of, thread_at, pick, fresh, Ran}
use Rattle.stm.specs.Counted.{Counted}
use Rattle.stm.specs.Events.{Happened, counted, is_idle, is_commit, is_back, backs, order, counts_of, Counts, together}
use Rattle.machine.specs.Fits.{Exists, Fits, Typed, Ranged}
use Rattle.machine.specs.FitTest.{fits}
use Rattle.machine.specs.Answers.{sum_of, fitting, Returned, step_of, run_of}
use Rattle.machine.specs.declared.RunReply.{RunReply}
use Rattle.machine.specs.declared.StepReply.{StepReply}
use Rattle.machine.proofs.Cuts.{run_cut}
use Rattle.machine.proofs.Picks.{run_append}
use Rattle.machine.proofs.FitTests.{fits_exactly}
use Rattle.machine.proofs.Calls.{counting, step_call_counts, run_call_counts, step_refused, run_refused, step_taken, run_taken}
use Rattle.script.specs.Tree.{Proc, ValP}
use Rattle.script.specs.Count.{forks, threads, bound}
use Rattle.script.specs.Bytes.{Bytes}
use Rattle.script.specs.Outcome.{Outcome, refused, done, refuse, onward, mapped}
use Rattle.script.specs.Jobs.{Job}
use Rattle.script.specs.Reader.{read_job}
use Rattle.script.specs.Refusal.{IsJob}
use Rattle.script.specs.Overflows.{overflows_turns}
use Rattle.script.specs.Turns.{initial, turns, CanTake, Result}
use Rattle.script.proofs.Accepts.{accepted_is_job, passed}
use Rattle.machine.specs.InnerStands.{register_cells}
use Rattle.machine.specs.Stands.{Stands, stack_from}
use Rattle.machine.proofs.Codes.{stands_end, stands_inside}
use Rattle.machine.proofs.Showings.{Shows, shut, open', cells_values}
use Rattle.machine.proofs.Numbers.{below_exists, exists_below}
use Rattle.machine.proofs.Mirrors.{Mirrors}
use Rattle.machine.proofs.Fresh.{fresh_typed, fresh_fits, fresh_mirrors}
use Rattle.machine.proofs.Ranges.{wrapping_in_range, fresh_ranged, run_ranged}
use Rattle.machine.proofs.Runs.{Run, run_keeps}
use Rattle.stm.specs.InnerTasks.{Log, Task, outside, inside, System, task_at, next, start, end_of, events_of, overs}
use Rattle.stm.specs.InnerMeaning.{Outside, Inside, process_of, values, meant, values_of, Linked}
use Rattle.stm.proofs.Sound.{start_linked, run_linked, meant_length, meant_at}
use Rattle.stm.proofs.Complete.{Below, below_more, Realised, start_outside, complete}
use Rattle.stm.proofs.Bound.{outside_proc, thread_count, steps_bound}
use Rattle.stm.proofs.Counts.{steps_counted, back_counted, counts_append, together_none, none_together, together_assoc, over_counted}
use Rattle.stm.proofs.SentBack as sent
use Rattle.word.specs.Sum.{Rule}

-- ---- what a call that is not refused comes to
picked : {A : Type 0} {x : A} (code : List ℕ) (s : State) (o : Outcome A) → fitting code s o ≡ done x → o ≡ done x
picked code s o e = (passed (not (fits code s)) 12 0 o e).1

same_done : {A : Type 0} {x y : A} → ◌≡◌ {A = Outcome A} (done x) (done y) → x ≡ y
same_done e = cc

step_done : (j : Job) (code : List ℕ) (s : State) (i : ℕ) (x : Stepped) → read_code code ≡ done j → step_of code s i ≡ done x → pick (sum_of j) code s i ≡ x
unfolding step_of
step_done j code s i x c e =
    let d : fitting code s (done (pick (sum_of j) code s i)) ≡ done x = rw c at e in
    same_done (picked code s (done (pick (sum_of j) code s i)) d)

taken_run : (j : Job) (code : List ℕ) → read_code code ≡ done j → (c : Call) (r : Ran) → code_of c ≡ code → comes_to c ≡ done r → r ≡ steps.run (sum_of j) code (state_of c) (picks_of c)
unfolding run_of steps.run
taken_run j code e (step code' s i) r q t =
    let m = mapped_done (alone i) (step_of code' s i) r t in
    let c : read_code code' ≡ done j = ap read_code q ∙ e in
    let p : pick (sum_of j) code' s i ≡ m.0 = step_done j code' s i m.0 c m.1 in
    sym m.2 ∙ (ap (alone i) (sym p) ∙ ap (λ (x : List ℕ). alone i (pick (sum_of j) x s i)) q)
taken_run j code e (run code' s is) r q t =
    let c : read_code code' ≡ done j = ap read_code q ∙ e in
    let d : fitting code' s (refuse (ltb 32768 (length is)) 13 0 (done (steps.run (sum_of j) code' s is))) ≡ done r = rw c at t in
    let p : refuse (ltb 32768 (length is)) 13 0 (done (steps.run (sum_of j) code' s is)) ≡ done r = picked code' s _ d in
    let x : steps.run (sum_of j) code' s is ≡ r = same_done (passed (ltb 32768 (length is)) 13 0 (done (steps.run (sum_of j) code' s is)) p).1 in
    sym x ∙ ap (λ (y : List ℕ). steps.run (sum_of j) y s is) q

-- ---- the events of a run, cut in two
record Cut (sum : Rule) (s : System register_cells) (a b : List Happened) : Type 0 where
  first : List ℕ
  second : List ℕ
  before : events_of register_cells sum s first ≡ a
  behind : events_of register_cells sum (end_of register_cells sum s first) second ≡ b

tail_of : {x y : Happened} {a b : List Happened} → x ∷ a ≡ y ∷ b → (x ≡ y) × (a ≡ b)
tail_of e = (cc, cc)

cut : (sum : Rule) (a : List Happened) (is : List ℕ) (s : System register_cells) (b : List Happened) → events_of register_cells sum s is ≡ a ++ b → Cut sum s a b
unfolding events_of end_of
cut sum [] is s b e = record { first = []; second = is; before = refl; behind = e }
cut sum (x ∷ a) [] s b e = absurd (let z : ◌≡◌ {A = ℕ} 0 1 = cc in omega arith)
cut sum (x ∷ a) (i ∷ is) s b e =
    let t = tail_of e in
    let c = cut sum a is (next register_cells sum s i) b t.1 in
    record {
      first = i ∷ c.first;
      second = c.second;
      before = ap (λ (h : Happened). h ∷ events_of register_cells sum (next register_cells sum s i) c.first) t.0 ∙ ap (λ (l : List Happened). x ∷ l) c.before;
      behind = c.behind;
    }

-- a record at its end shows a VALP
pub ended_shows : {bytes : List ℕ} (t : Thread) (task : Task register_cells) → t.place ≡ t.end → Shows bytes t task → (t.height ≡ 1) × (meant register_cells task ≡ ValP (get_or t.cells 0 (pos 0)))
unfolding Outside Inside process_of stack_from
ended_shows t task p (shut ε r o z) = (o, ap (λ (n : ℕ). process_of ε (values (stack_from t.cells 0 n))) o ∙ one_cell t.cells)
  where
    one_cell : (cells : List ℤ) → process_of ε (values (stack_from cells 0 1)) ≡ ValP (get_or cells 0 (pos 0))
    one_cell cells = refl
ended_shows t task p (shut (i ⨾ c) r o z) = absurd (let l = stands_inside r.stands in omega arith)
ended_shows t task p (open' body ε k r o h w g x y) = absurd o
ended_shows t task p (open' body (i ⨾ c) k r o h w g x y) = absurd (let l = stands_inside r.stands in omega arith)

ended_height : (h : ℕ) → Outside ε h → h ≡ 1
unfolding Outside
ended_height h o = o

pub one_on : (cells : List ℤ) → stack_from cells 0 1 ≡ get_or cells 0 (pos 0) ∷ []
unfolding stack_from
one_on cells = refl

pub same_head : {a b : ℤ} {σ τ : List ℤ} → a ∷ σ ≡ b ∷ τ → a ≡ b
same_head e = cc

same_outside : {c d : Code} {σ τ : List ℤ} → ◌≡◌ {A = Task register_cells} (outside c σ) (outside d τ) → (c ≡ d) × (σ ≡ τ)
same_outside e = (cc, cc)

not_outside : {body c d : Code} {base σ τ : List ℤ} {r : Log Counted} {w : Log ℤ} {n : ℕ} → ◌≡◌ {A = Task register_cells} (inside body base c σ r w n) (outside d τ) → ⊥
not_outside e = absurd (let z : ◌≡◌ {A = ℕ} 0 1 = cc in omega arith)

-- and a record that shows an ended task is at its end
shows_ended : {bytes : List ℕ} (t : Thread) (n : ℤ) → Shows bytes t (outside ε (n ∷ [])) → (t.place ≡ t.end) × ((t.height ≡ 1) × (get_or t.cells 0 (pos 0) ≡ n))
shows_ended {bytes} t n x = go (outside ε (n ∷ [])) refl x
  where
    Goal : Type 0
    Goal = (t.place ≡ t.end) × ((t.height ≡ 1) × (get_or t.cells 0 (pos 0) ≡ n))

    end_code : (c : Code) → c ≡ ε → Outside c t.height → t.height ≡ 1
    end_code c e o = ended_height t.height (subst (λ (y : Code). Outside y t.height) e o)

    top : stack_from t.cells 0 t.height ≡ n ∷ [] → t.height ≡ 1 → get_or t.cells 0 (pos 0) ≡ n
    top e h = same_head (sym (one_on t.cells) ∙ (ap (λ (m : ℕ). stack_from t.cells 0 m) (sym h) ∙ e))

    go : (task : Task register_cells) → task ≡ outside ε (n ∷ []) → Shows bytes t task → Goal
    go task q (shut c r o z) =
        let parts = same_outside q in
        let h : t.height ≡ 1 = end_code c parts.0 o in
        (stands_end (subst (λ (y : Code). Stands bytes t.place t.end y) parts.0 r.stands), (h, top parts.1 h))
    go task q (open' body c k r o h w g x y) = absurd (not_outside q)

-- a fitting state's step is taken
step_accepted : (j : Job) (code : List ℕ) (s : State) (i : ℕ) → read_code code ≡ done j → fits code s ≡ true → comes_to (step code s i) ≡ done (alone i (pick (sum_of j) code s i))
unfolding step_of
step_accepted j code s i c f = rw (c, f)

one_byte : (i : ℕ) → i < 256 → (k : ℕ) → k < 1 → get_or (i ∷ []) k 0 < 256
one_byte i l zero m = l
one_byte i l (suc k) m = absurd (omega arith)

few : {n : ℕ} (p : Proc) → n ≤ threads p → forks p ≤ 15 → n ≤ 256
unfolding threads
few p l m = omega arith

module _ (job : List ℕ) (j : Job) (b : Bytes job) (accepted : read_job job ≡ done j) where
  abbrev code : List ℕ
  code = compiled j

  abbrev sum : Rule
  sum = sum_of j

  abbrev first : System register_cells
  first = start register_cells (compile_p j.tree ε)

  is_job : IsJob job j
  is_job = accepted_is_job job j b accepted

  -- an accepted job's code is not foreign
  pub is_code : IsCode (compiled j) j
  is_code = record { version = is_job.version; within = is_job.within; text = refl }

  outer : Outside (compile_p j.tree ε) 0
  outer = outside_proc j.tree is_job.within.sized.valued

  read : read_code (compiled j) ≡ done j
  read = there_and_back is_job

  -- the code stays the job's
  pub code_kept : {now : Session} {events : List Happened} → History (compiled j) now events → now.code ≡ compiled j
  code_kept none = refl
  code_kept (turned-down h c l e) = code_kept h
  code_kept (followed h c l e f g) = code_kept h

  -- a list of calls is one run of picks from the fresh state
  pub history_run : {now : Session} {events : List Happened} (h : History (compiled j) now events) → steps.run (sum_of j) (compiled j) (fresh (compiled j)) (picks_taken h) ≡ record { state = now.state; events = events }
  unfolding steps.run picks_taken
  history_run none = refl
  history_run (turned-down h c l e) = history_run h
  history_run (followed {now} {events} {r} h c l e f g) =
      let x : r ≡ steps.run (sum_of j) (compiled j) now.state (picks_of c) = taken_run j (compiled j) read c r (e ∙ code_kept h) g ∙ ap (λ (y : State). steps.run (sum_of j) (compiled j) y (picks_of c)) f in
      run_append (sum_of j) (compiled j) (fresh (compiled j)) (picks_taken h) (picks_of c)
      ∙ (ap (λ (y : Ran). record { state = (steps.run (sum_of j) (compiled j) y.state (picks_of c)).state; events = y.events ++ (steps.run (sum_of j) (compiled j) y.state (picks_of c)).events }) (history_run h)
      ∙ ap (λ (y : Ran). record { state = y.state; events = events ++ y.events }) (sym x))

  -- what holds behind a list of calls
  pub record Behind (s : State) (events : List Happened) : Type 0 where
    pub picks : List ℕ
    pub its_events : events ≡ events_of register_cells (sum_of j) (start register_cells (compile_p j.tree ε)) picks
    pub mirrors : Mirrors (compiled j) s (end_of register_cells (sum_of j) (start register_cells (compile_p j.tree ε)) picks)
    pub fit : Fits (compiled j) s
    pub typed : Typed s
    pub ranges : Ranged s

  pub behind : {now : Session} {events : List Happened} → History (compiled j) now events → Behind now.state events
  behind {now} {events} h =
      let m = history_run h in
      let k = run_keeps is_code outer (sum_of j) (picks_taken h) (fresh (compiled j)) (start register_cells (compile_p j.tree ε)) (fresh_fits (compiled j)) (fresh_typed (compiled j)) (fresh_mirrors (compiled j) is_code outer) in
      record {
        picks = picks_taken h;
        its_events = sym (ap (λ (r : Ran). r.events) m) ∙ k.events;
        mirrors = subst (λ (r : Ran). Mirrors (compiled j) r.state (end_of register_cells (sum_of j) (start register_cells (compile_p j.tree ε)) (picks_taken h))) m k.mirrors;
        fit = subst (λ (r : Ran). Fits (compiled j) r.state) m k.fits;
        typed = subst (λ (r : Ran). Typed r.state) m k.typed;
        ranges = subst (λ (r : Ran). Ranged r.state) m (run_ranged is_code (sum_of j) wrapping_in_range (fresh (compiled j)) (fresh_fits (compiled j)) (fresh_typed (compiled j)) (fresh_ranged is_code) (picks_taken h));
      }

  -- ---- sound
  -- After every list of calls the registers, the threads that exist and the results of those that have ended are the script's, fed the order
  -- of the turns.
  pub sound : {now : Session} {events : List Happened} → History (compiled j) now events → Whole j now.state events
  unfolding script_after
  sound {now} {events} h = record { registers = registers'; threads = threads'; results = results' }
    where
      k : Behind now.state events
      k = behind h

      sys : System register_cells
      sys = end_of register_cells (sum_of j) (start register_cells (compile_p j.tree ε)) (behind h).picks

      linked : Linked register_cells (sum_of j) sys (turns (sum_of j) (initial j.tree) (order events))
      linked =
          subst (λ (es : List Happened). Linked register_cells (sum_of j) sys (turns (sum_of j) (initial j.tree) (order es))) (sym k.its_events)
          (run_linked register_cells (sum_of j) k.picks (start register_cells (compile_p j.tree ε)) (initial j.tree) (start_linked register_cells (sum_of j) j.tree is_job.within.sized.valued)).linked

      registers' : now.state.registers ≡ (turns (sum_of j) (initial j.tree) (order events)).registers
      registers' = sym (cells_values now.state.registers now.state.counts (k.fit.registers ∙ sym k.fit.counts)) ∙ (ap (values_of register_cells) k.mirrors.table ∙ sym linked.registers)

      number : number_of now.state.threads ≡ length (turns (sum_of j) (initial j.tree) (order events)).threads
      number = k.mirrors.number ∙ (sym (meant_length register_cells sys.tasks) ∙ sym (ap length linked.threads))

      threads' : (i : ℕ) → Exists now.state i ↔ (i < length (turns (sum_of j) (initial j.tree) (order events)).threads)
      threads' i = (
        λ e. subst (λ (n : ℕ). i < n) number (exists_below now.state k.fit.no_gap i e),
        λ l. below_exists now.state i (subst (λ (n : ℕ). i < n) (sym number) l),
      )

      process : (i : ℕ) → get_or (turns (sum_of j) (initial j.tree) (order events)).threads i (ValP (pos 0)) ≡ meant register_cells (task_at register_cells sys i)
      process i = ap (λ (ps : List Proc). get_or ps i (ValP (pos 0))) linked.threads ∙ meant_at register_cells sys.tasks i

      results' : (i : ℕ) → Exists now.state i → (thread_at now.state i).place ≡ (thread_at now.state i).end → SameResult now.state (turns (sum_of j) (initial j.tree) (order events)) i
      results' i e p =
          let l : i < length sys.tasks = subst (λ (n : ℕ). i < n) k.mirrors.number (exists_below now.state k.fit.no_gap i e) in
          let r = ended_shows (thread_at now.state i) (task_at register_cells sys i) p (k.mirrors.shown i l) in
          record {
            number = get_or (thread_at now.state i).cells 0 (pos 0);
            ended = record { there = e; place = p; height = r.0; result = refl };
            script's = record { exists = subst (λ (n : ℕ). i < n) number (exists_below now.state k.fit.no_gap i e); ended = process i ∙ r.1 };
          }

  -- no turn of the order is idle in the script
  pub order_taken : {now : Session} {events : List Happened} → History (compiled j) now events → CanTake (sum_of j) (initial j.tree) (order events)
  order_taken h =
      let k = behind h in
      subst (λ (es : List Happened). CanTake (sum_of j) (initial j.tree) (order es)) (sym k.its_events)
      (run_linked register_cells (sum_of j) k.picks (start register_cells (compile_p j.tree ε)) (initial j.tree) (start_linked register_cells (sum_of j) j.tree is_job.within.sized.valued)).can

  -- the sums that the list tells of are those of the script's turns
  pub told_overs : {now : Session} {events : List Happened} → History (compiled j) now events → (counts_of events).over ≡ overflows_turns (sum_of j) (initial j.tree) (order events)
  told_overs {now} {events} h =
      let k = behind h in
      over_counted events
      ∙ subst (λ (es : List Happened). overs es ≡ overflows_turns (sum_of j) (initial j.tree) (order es)) (sym k.its_events)
      (run_linked register_cells (sum_of j) k.picks (start register_cells (compile_p j.tree ε)) (initial j.tree) (start_linked register_cells (sum_of j) j.tree is_job.within.sized.valued)).over

  -- the steps of the list, idle picks uncounted, are no more than the bound: "L + (K−1)×(T−1)×M steps, or L if K is 0"
  pub bounded : {now : Session} {events : List Happened} → History (compiled j) now events → (counts_of events).steps ≤ bound j.tree
  bounded {now} {events} h =
      let k = behind h in
      subst (λ (n : ℕ). n ≤ bound j.tree) (sym (steps_counted events))
      (subst (λ (es : List Happened). counted (λ e. not (is_idle e)) es ≤ bound j.tree) (sym k.its_events) (steps_bound register_cells (sum_of j) j.tree is_job.within.sized.valued k.picks))

  -- "no thread is sent back twice between neighbouring commits or after the last, nor at all before the first"
  pub sent-back : {now : Session} {events : List Happened} → History (compiled j) now events → SentBack events
  sent-back {now} {events} h = record { not_twice = twice; none_first = first' }
    where
      k : Behind now.state events
      k = behind h

      twice : (before between after : List Happened) → events ≡ before ++ (between ++ after) → counted is_commit between ≡ 0 → (i : ℕ) → backs i between ≤ 1
      twice before between after e z i =
          let c = cut (sum_of j) before k.picks (start register_cells (compile_p j.tree ε)) (between ++ after) (sym k.its_events ∙ e) in
          let d = cut (sum_of j) between c.second (end_of register_cells (sum_of j) (start register_cells (compile_p j.tree ε)) c.first) after c.behind in
          subst (λ (es : List Happened). backs i es ≤ 1) d.before (sent.not_twice register_cells (sum_of j) d.first (end_of register_cells (sum_of j) (start register_cells (compile_p j.tree ε)) c.first) i (ap (counted is_commit) d.before ∙ z))

      first' : (before after : List Happened) → events ≡ before ++ after → counted is_commit before ≡ 0 → (i : ℕ) → backs i before ≡ 0
      first' before after e z i =
          let c = cut (sum_of j) before k.picks (start register_cells (compile_p j.tree ε)) after (sym k.its_events ∙ e) in
          subst (λ (es : List Happened). backs i es ≡ 0) c.before (sent.none_before_first register_cells (sum_of j) (compile_p j.tree ε) c.first i (ap (counted is_commit) c.before ∙ z))

  -- the state behind a list of calls fits the code
  pub fits_behind : {now : Session} {events : List Happened} → History (compiled j) now events → Fits (compiled j) now.state × Typed now.state
  fits_behind h = ((behind h).fit, (behind h).typed)

  -- ---- complete
  -- the job's code with a state
  abbrev on : State → Session
  on s = record { code = compiled j; state = s }

  -- a list of calls with these picks
  abbrev pub TakenBy : State → List Happened → List ℕ → Type 0
  TakenBy s events is = (h : History (compiled j) (record { code = compiled j; state = s }) events) × (picks_taken h ≡ is)

  -- a list of calls with these picks more
  abbrev TakenMore : State → List Happened → List ℕ → (more : List ℕ) → Type 0
  TakenMore s events before is = let r = steps.run (sum_of j) (compiled j) s is in TakenBy r.state (events ++ r.events) (before ++ is)

  -- picks as calls, one step each
  steps_history : (is : List ℕ) → Below 256 is → (s : State) (events : List Happened) (before : List ℕ) → TakenBy s events before → TakenMore s events before is
  unfolding steps.run picks_taken
  steps_history [] bel s events before t = subst (TakenBy s (events ++ [])) (sym (append-nil before)) (subst (λ (es : List Happened). TakenBy s es before) (sym (append-nil events)) t)
  steps_history (i ∷ is) bel s events before (h, e) =
      let k = behind h in
      let r = pick (sum_of j) (compiled j) s i in
      let first : Happened = record { thread = i; event = r.event; over = r.over } in
      let end = steps.run (sum_of j) (compiled j) r.state is in
      let one = followed h (step (compiled j) s i) (lent i bel.0 s k.typed k.ranges) refl refl (comes i s k.fit k.typed) in
      let rest = steps_history is bel.1 r.state (events ++ (first ∷ [])) (before ++ (i ∷ [])) (one, ap (λ (x : List ℕ). x ++ (i ∷ [])) e) in
      subst (TakenBy end.state (events ++ (first ∷ end.events))) (append_assoc before (i ∷ []) is)
      (subst (λ (es : List Happened). TakenBy end.state es ((before ++ (i ∷ [])) ++ is)) (append_assoc events (first ∷ []) end.events) rest)
    where
      lent : (i : ℕ) → i < 256 → (s : State) → Typed s → Ranged s → Lent (step (compiled j) s i)
      lent i l s y z = record { code = code-bytes j is_job.within.sized.valued; state = y; ranges = z; picks = record { small = one_byte i l } }

      comes : (i : ℕ) (s : State) → Fits (compiled j) s → Typed s → comes_to (step (compiled j) s i) ≡ done (alone i (pick (sum_of j) (compiled j) s i))
      comes i s f y = step_accepted j (compiled j) s i read ((fits_exactly (compiled j) s y).1 f)

  -- every list of picks is that of a list of calls
  pub picks_history : (is : List ℕ) → Below 256 is → let r = steps.run (sum_of j) (compiled j) (fresh (compiled j)) is in TakenBy r.state r.events is
  unfolding picks_taken
  picks_history is bel = steps_history is bel (fresh (compiled j)) [] [] (none, refl)

  -- Every list of turns that the script can take is the order of one list of calls, which ends every thread that is then a VALP.
  pub every_order : (is : List ℕ) → CanTake (sum_of j) (initial j.tree) is → IsOrder j is
  unfolding script_after
  every_order is can = record { now = on ran.state; events = ran.events; history = history'; its_order = order'; calm = calm'; ends = ends' }
    where
      real : Realised register_cells (sum_of j) (start register_cells (compile_p j.tree ε)) (initial j.tree) is
      real = complete register_cells (sum_of j) is (start register_cells (compile_p j.tree ε)) (initial j.tree) (start_linked register_cells (sum_of j) j.tree is_job.within.sized.valued) (start_outside register_cells j.tree) can

      ran : Ran
      ran = steps.run (sum_of j) (compiled j) (fresh (compiled j)) real.picks

      k : Run is_code outer 0 (sum_of j) (fresh (compiled j)) (start register_cells (compile_p j.tree ε)) real.picks
      k = run_keeps is_code outer (sum_of j) real.picks (fresh (compiled j)) (start register_cells (compile_p j.tree ε)) (fresh_fits (compiled j)) (fresh_typed (compiled j)) (fresh_mirrors (compiled j) is_code outer)

      sys : System register_cells
      sys = end_of register_cells (sum_of j) (start register_cells (compile_p j.tree ε)) real.picks

      count : length sys.tasks ≤ 256
      count = few j.tree (thread_count register_cells (sum_of j) j.tree is_job.within.sized.valued real.picks) is_job.within.sized.narrow

      history' : History (compiled j) (on ran.state) ran.events
      history' = (picks_history real.picks (below_more (length sys.tasks) 256 real.picks count real.exist)).0

      order' : order ran.events ≡ is
      order' = ap order k.events ∙ real.taken

      calm' : (counts_of ran.events).back ≡ 0
      calm' = back_counted ran.events ∙ (ap (counted is_back) k.events ∙ real.calm)

      linked : Linked register_cells (sum_of j) sys (turns (sum_of j) (initial j.tree) is)
      linked =
          subst (λ (os : List ℕ). Linked register_cells (sum_of j) sys (turns (sum_of j) (initial j.tree) os)) real.taken
          (run_linked register_cells (sum_of j) real.picks (start register_cells (compile_p j.tree ε)) (initial j.tree) (start_linked register_cells (sum_of j) j.tree is_job.within.sized.valued)).linked

      number : length sys.tasks ≡ length (turns (sum_of j) (initial j.tree) is).threads
      number = sym (meant_length register_cells sys.tasks) ∙ sym (ap length linked.threads)

      ends' : (i : ℕ) (n : ℤ) → Result (turns (sum_of j) (initial j.tree) is) i n → Ended ran.state i n
      ends' i n r =
          let t : task_at register_cells sys i ≡ outside ε (n ∷ []) = real.results i n r.ended in
          let l : i < length sys.tasks = subst (λ (m : ℕ). i < m) (sym number) r.exists in
          let e : Exists ran.state i = below_exists ran.state i (subst (λ (m : ℕ). i < m) (sym k.mirrors.number) l) in
          let x = shows_ended (thread_at ran.state i) n (subst (λ (y : Task register_cells). Shows (compiled j) (thread_at ran.state i) y) t (k.mirrors.shown i l)) in
          record { there = e; place = x.0; height = x.1.0; result = x.1.1 }

-- ---- which lists of calls there are
no_bytes : Bytes []
no_bytes = record { small = λ i l. absurd (omega arith) }

counts-of : (c : Call) → reported_by c ≡ counting (λ (r : Ran). counts_of r.events) (comes_to c)
counts-of (step code s i) = step_call_counts code s i ∙ same (step_of code s i)
  where
    same : (o : Outcome Stepped) → counting (λ (r : Stepped). counts_of (record { thread = i; event = r.event; over = r.over } ∷ [])) o ≡ counting (λ (r : Ran). counts_of r.events) (mapped (alone i) o)
    same (refused n p) = refl
    same (done r) = refl
counts-of (run code s is) = run_call_counts code s is

reported_append : (cs : List Call) (c : Call) → reported (cs ++ (c ∷ [])) ≡ together (reported cs) (reported_by c)
unfolding reported
reported_append [] c = none_together (reported_by c) ∙ sym (together_none (reported_by c))
reported_append (d ∷ cs) c = ap (together (reported_by d)) (reported_append cs c) ∙ sym (together_assoc (reported_by d) (reported cs) (reported_by c))

-- the counts that the calls of a list report add up to those of its events
reports' : {code : List ℕ} {now : Session} {events : List Happened} (h : History code now events) → reported (calls_of h) ≡ counts_of events
unfolding calls_of reported counts_of
reports' none = refl
reports' (turned-down {events = events} h c l e) =
    reported_append (calls_of h) c
    ∙ (ap (together (reported (calls_of h))) (counts-of c ∙ ap (counting (λ (r : Ran). counts_of r.events)) e)
    ∙ (none_together (reported (calls_of h)) ∙ reports' h))
reports' (followed {events = events} {r = r} h c l a b e) =
    reported_append (calls_of h) c
    ∙ (ap (together (reported (calls_of h))) (counts-of c ∙ ap (counting (λ (r : Ran). counts_of r.events)) e)
    ∙ (ap (λ (k : Counts). together k (counts_of r.events)) (reports' h) ∙ sym (counts_append events r.events)))

-- a step is a run call with a single pick
step_is_run' : (code : List ℕ) (s : State) (i : ℕ) → comes_to (step code s i) ≡ comes_to (run code s (i ∷ []))
unfolding step_of run_of steps.run
step_is_run' code s i = by (read_code code)
  where
    by : (o : Outcome Job) → mapped (alone i) (onward o (λ j. fitting code s (done (pick (sum_of j) code s i)))) ≡ onward o (λ j. fitting code s (refuse (ltb 32768 1) 13 0 (done (steps.run (sum_of j) code s (i ∷ [])))))
    by (refused n p) = refl
    by (done j) = go (not (fits code s))
      where
        go : (b : Bool) → mapped (alone i) (refuse b 12 0 (done (pick (sum_of j) code s i))) ≡ refuse b 12 0 (refuse (ltb 32768 1) 13 0 (done (steps.run (sum_of j) code s (i ∷ []))))
        go true = refl
        go false = refl

module _ (job : List ℕ) (j : Job) (b : Bytes job) (accepted : read_job job ≡ done j) where
  ready : fits (compiled j) (fresh (compiled j)) ≡ true
  ready = (fits_exactly (compiled j) (fresh (compiled j)) (fresh_typed (compiled j))).1 (fresh_fits (compiled j))

  ran_short : (is : List ℕ) → length is ≤ 32768 → comes_to (run (compiled j) (fresh (compiled j)) is) ≡ done (steps.run (sum_of j) (compiled j) (fresh (compiled j)) is)
  unfolding run_of
  ran_short is l = rw (read job j b accepted, ready, le-ltb 32768 (length is) l)

  ran_long : (is : List ℕ) → 32768 < length is → comes_to (run (compiled j) (fresh (compiled j)) is) ≡ refused 13 0
  unfolding run_of
  ran_long is l = rw (read job j b accepted, ready, lt-ltb 32768 (length is) l)

  foreign : comes_to (step [] (fresh (compiled j)) 0) ≡ refused 11 0
  unfolding step_of read_code read_code_tree
  foreign = refl

  -- a list with a refused step first, a refused run in between, and a run of any length that is taken
  mixed' : (is js : List ℕ) → Bytes is → Bytes js → length is ≤ 32768 → 32768 < length js → (now : Session) × ((events : List Happened) × ((h : History (compiled j) now events) × (calls_of h ≡ step [] (fresh (compiled j)) 0 ∷ run (compiled j) (fresh (compiled j)) js ∷ run (compiled j) (fresh (compiled j)) is ∷ [])))
  unfolding calls_of
  mixed' is js x y l m = (_, (_, (followed (turned-down (turned-down none (step [] (fresh (compiled j)) 0) foreign_lent foreign) (run (compiled j) (fresh (compiled j)) js) (lent js y) (ran_long js m)) (run (compiled j) (fresh (compiled j)) is) (lent is x) refl refl (ran_short is l), refl)))
    where
      lent : (is : List ℕ) → Bytes is → Lent (run (compiled j) (fresh (compiled j)) is)
      lent is x = record { code = code-bytes j (is_job job j b accepted).within.sized.valued; state = fresh_typed (compiled j); ranges = fresh_ranged (is_code job j b accepted); picks = x }

      foreign_lent : Lent (step [] (fresh (compiled j)) 0)
      foreign_lent = record { code = no_bytes; state = fresh_typed (compiled j); ranges = fresh_ranged (is_code job j b accepted); picks = record { small = one_byte 0 (omega arith) } }

  goes_on' : {now : Session} {events : List Happened} → History (compiled j) now events → (is : List ℕ) → Bytes is → length is ≤ 32768 → Lent (run (compiled j) now.state is) × (comes_to (run (compiled j) now.state is) ≡ done (steps.run (sum_of j) (compiled j) now.state is))
  unfolding run_of
  goes_on' {now = now} h is x l =
      let k = behind job j b accepted h in
      let fit : fits (compiled j) now.state ≡ true = (fits_exactly (compiled j) now.state k.typed).1 k.fit in
      (record { code = code-bytes j (is_job job j b accepted).within.sized.valued; state = k.typed; ranges = k.ranges; picks = x }, rw (read job j b accepted, fit, le-ltb 32768 (length is) l))

  -- what a call leaves
  refused_keeps' : (c : Call) (number place : ℕ) → comes_to c ≡ refused number place → state_after c ≡ state_of c
  refused_keeps' (step code s i) n p e = ap (λ (x : Returned StepReply). x.state) (step_refused code s i n p (not_taken (step_of code s i) e))
    where
      not_taken : (o : Outcome Stepped) → mapped (alone i) o ≡ refused n p → o ≡ refused n p
      not_taken (refused m q) e = cc
      not_taken (done x) e = absurd (let z : ◌≡◌ {A = ℕ} 0 1 = cc in omega arith)
  refused_keeps' (run code s is) n p e = ap (λ (x : Returned RunReply). x.state) (run_refused code s is n p e)

  taken_leaves' : (c : Call) (r : Ran) → comes_to c ≡ done r → state_after c ≡ r.state
  taken_leaves' (step code s i) r e =
      let m = mapped_done (alone i) (step_of code s i) r e in
      ap (λ (x : Returned StepReply). x.state) (step_taken code s i m.0 m.1) ∙ ap (λ (x : Ran). x.state) m.2
  taken_leaves' (run code s is) r e = ap (λ (x : Returned RunReply). x.state) (run_taken code s is r e)

  pub call_lists : CallLists j
  call_lists =
      record {
        refused_next = λ h c l e. turned-down h c l e;
        taken_next = λ h c l a d e. followed h c l a d e;
        refused_keeps = refused_keeps';
        taken_leaves = taken_leaves';
        mixed = mixed';
        same-code = λ h. code_kept job j b accepted h;
        goes-on = goes_on';
        step_is_run = step_is_run';
        one_run = λ h. history_run job j b accepted h;
        reports = λ h. reports' h;
        cut = λ s is js y l. run_cut (is_code job j b accepted) (read job j b accepted) s is js y l;
        order_taken = λ h. order_taken job j b accepted h;
      }
