-- Every forecast comes true: of compiling, and of every list of calls after which every thread has ended; and there is one. Assumes nothing.
use Prim.Native.Nat.{ℕ, zero, suc, ◌+◌, ◌-◌, ◌<◌, ◌≤◌}
use mathlib.Core.Bool.{Bool, true, false}
use mathlib.Core.Logic.{◌↔◌}
use mathlib.Core.Path.{◌≡◌, refl, sym, ap, subst, ◌∙◌}
use mathlib.Core.List.{List, [], ◌∷◌, ◌++◌}
use native.Mathlib.Omega.{arith}
use borrow.Author.Tests.{eqb-true, eqb-false}
use lib.Dec.{eqb}
use lib.IntN.{pos}
use lib.ListN.{length, get_or, replicate, get_or-append}
use Rattle.code.specs.Bytes.{compiled, IsCode}
use Rattle.code.specs.Compile.{ε, compile_p}
use Rattle.code.specs.InnerHeights.{greatest}
use Rattle.code.specs.Ops as code
use Rattle.code.proofs.Flat.{code-length}
use Rattle.code.proofs.Heights.{count_proc, longest_proc, greatest_height}
use Rattle.forecast.specs.Figures.{sixteen, figures, refused_with, forecast_of}
use Rattle.forecast.specs.declared.ForecastReply.{ForecastReply}
use Rattle.guarantee.specs.Forecasts.{moments_of, own_of, AsCompiled, AsRun, FinishedList, ComesTrue, Forecasts}
use Rattle.guarantee.specs.Histories.{Session, History, none, turned-down, followed, code_of, state_of, picks_of, picks_taken, script_after, IsOrder}
use Rattle.guarantee.proofs.Histories.{is_code, code_kept, history_run, fits_behind, sound, every_order}
use Rattle.machine.specs.Answers.{sum_of}
use Rattle.machine.specs.Fits.{Exists, OneThread}
use Rattle.machine.specs.Steps as steps
use Rattle.machine.specs.Steps.{State, Child, Ran, fresh, Stepped, number_of, thread_at}
use Rattle.machine.proofs.Agrees.{does_one}
use Rattle.machine.proofs.Picks.{missing_idle, ended_idle}
use Rattle.script.specs.Bytes.{Bytes}
use Rattle.script.specs.Count.{atomics, instructions, bound, read_set, write_set, forks, threads, heights, height_p, child_heights, code_p, code_length}
use Rattle.script.specs.Jobs.{Job}
use Rattle.script.specs.Outcome.{Outcome, refused, done}
use Rattle.script.specs.Reader.{read_job}
use Rattle.script.specs.Tree.{Proc, ValP}
use Rattle.script.specs.Turns.{initial, turns}
use Rattle.script.proofs.Refuses.{refused_is_read, read_is_refused}
use Rattle.stm.specs.Events.{Happened, counts_of, order, is_idle}
use Rattle.thread.specs.Threads.{exists}
use Rattle.traces.specs.OwnCodes.{bodies, own_codes, nowhere}
use Rattle.traces.specs.Traces.{Finished, Moment, moments, Chained, happened, PickDid, Greatest}
use Rattle.traces.proofs.Ends.{Ends, ends}
use Rattle.traces.proofs.Along.{some_height}
use Rattle.traces.proofs.Parts.{Part, part_ready, pairwise_at, pairwise_length, parts_in, bodies_count, all_heights, codes_ascend}
use Rattle.traces.proofs.Named.{read_stands, stands_read, write_stands, stands_write, anywhere_occurs, occurs_anywhere}
use Rattle.traces.proofs.Shown.{commits_shown, threads_shown, least_shown, exact_shown, most_shown, part_thread, height_shown, reads_shown, writes_shown}
use Rattle.traces.proofs.Visits.{moments_chained, moments_happened}
use Rattle.word.specs.Registers.{member}
use Rattle.word.specs.Sum.{Rule}

behind_zeros : (xs : List ℕ) (n k : ℕ) → length xs ≤ k → get_or (xs ++ replicate n 0) k 0 ≡ 0
behind_zeros [] zero k l = refl
behind_zeros [] (suc n) zero l = refl
behind_zeros [] (suc n) (suc k) l = behind_zeros [] n k (omega arith)
behind_zeros (x ∷ xs) n zero l = absurd (omega arith)
behind_zeros (x ∷ xs) n (suc k) l = behind_zeros xs n k (omega arith)

-- ---- the picks of a list of calls are those of one run
moments_append : (sum : Rule) (code : List ℕ) (s : State) (is js : List ℕ) → moments sum code s (is ++ js) ≡ moments sum code s is ++ moments sum code (steps.run sum code s is).state js
unfolding moments steps.run
moments_append sum code s [] js = refl
moments_append sum code s (i ∷ is) js = rw (moments_append sum code (steps.pick sum code s i).state is js)

module _ (job : List ℕ) (j : Job) (b : Bytes job) (accepted : read_job job ≡ done j) where
  abbrev bytes : List ℕ
  bytes = compiled j

  its_code : IsCode (compiled j) j
  its_code = is_code job j b accepted

  moments_run : {now : Session} {events : List Happened} (h : History (compiled j) now events) → moments_of j h ≡ moments (sum_of j) (compiled j) (fresh (compiled j)) (picks_taken h)
  unfolding moments_of picks_taken moments
  moments_run none = refl
  moments_run (turned-down h c l e) = moments_run h
  moments_run (followed {now} h c l e f g) =
      let x : (steps.run (sum_of j) (compiled j) (fresh (compiled j)) (picks_taken h)).state ≡ state_of c = ap (λ (r : Ran). r.state) (history_run job j b accepted h) ∙ sym f in
      let y : code_of c ≡ compiled j = e ∙ code_kept job j b accepted h in
      ap (λ (l : List Moment). l ++ moments (sum_of j) (code_of c) (state_of c) (picks_of c)) (moments_run h)
      ∙ (ap (λ (k : List ℕ). moments (sum_of j) (compiled j) (fresh (compiled j)) (picks_taken h) ++ moments (sum_of j) k (state_of c) (picks_of c)) y
      ∙ (ap (λ (s : State). moments (sum_of j) (compiled j) (fresh (compiled j)) (picks_taken h) ++ moments (sum_of j) (compiled j) s (picks_of c)) (sym x)
      ∙ sym (moments_append (sum_of j) (compiled j) (fresh (compiled j)) (picks_taken h) (picks_of c))))

  -- ---- compiling
  length_is : length (compiled j) ≡ code_length j.tree
  length_is = code-length j

  part_of : (k : ℕ) → k < threads j.tree → Part (compiled j) j (own_of j k) (compile_p (get_or (bodies j.tree) k (ValP (pos 0))) ε)
  unfolding threads bodies
  part_of k l =
      pairwise_at (λ (x : Child) (p : Proc). Part (compiled j) j x (compile_p p ε)) (own_codes j.tree) (bodies j.tree) nowhere (ValP (pos 0))
      (parts_in (compiled j) j length_is) k (let n = bodies_count j.tree in omega arith)

  few : (k : ℕ) → suc k < threads j.tree → suc k < length (own_codes j.tree)
  unfolding threads bodies
  few k l =
      let a = pairwise_length (λ (x : Child) (p : Proc). Part (compiled j) j x (compile_p p ε)) (own_codes j.tree) (bodies j.tree) (parts_in (compiled j) j length_is) in
      let n = bodies_count j.tree in
      omega arith

  compiling' : AsCompiled j (figures j.tree)
  unfolding figures
  compiling' =
      record {
        length = length_is;
        instructions = count_proc j.tree;
        longest = longest_proc j.tree;
        reads = λ v. (λ e. anywhere_occurs (read_stands j.tree v e), λ o. stands_read j.tree v its_code.within.sized.valued (occurs_anywhere 5 o));
        writes = λ v. (λ e. anywhere_occurs (write_stands j.tree v e), λ o. stands_write j.tree v its_code.within.sized.valued (occurs_anywhere 5 o));
        own-codes = λ k l. (part_ready its_code (part_of k l)).stands;
        ascending = λ k l. codes_ascend j.tree k (few k l);
      }

  -- ---- running
  height_at : (k : ℕ) → k < threads j.tree → greatest (compile_p (get_or (bodies j.tree) k (ValP (pos 0))) ε) 0 ≡ get_or (sixteen j.tree) k 0
  unfolding threads sixteen heights bodies
  height_at k l =
      let n : k < length (height_p j.tree ∷ child_heights j.tree) = few in
      greatest_height (get_or (bodies j.tree) k (ValP (pos 0)))
      ∙ (pairwise_at (λ (p : Proc) (m : ℕ). height_p p ≡ m) (bodies j.tree) (heights j.tree) (ValP (pos 0)) 0 (all_heights j.tree) k n
      ∙ sym (get_or-append (heights j.tree) (replicate (15 - forks j.tree) 0) 0 k n))
    where
      few : k < length (heights j.tree)
      few = let a = pairwise_length (λ (p : Proc) (m : ℕ). height_p p ≡ m) (bodies j.tree) (heights j.tree) (all_heights j.tree) in let n = bodies_count j.tree in omega arith

  running' : {now : Session} {events : List Happened} (h : History (compiled j) now events) → Finished now.state → AsRun j (figures j.tree) h
  unfolding figures
  running' {now} {events} h fin = record {
    commits = subst (λ (r : Ran). (counts_of r.events).commits ≡ atomics j.tree) m (commits_shown its_code (sum_of j) (picks_taken h) over);
    threads = subst (λ (r : Ran). (i : ℕ) → Exists r.state i ↔ (i < threads j.tree)) m (threads_shown its_code (sum_of j) (picks_taken h) over);
    one = λ k l. subst (λ (r : Ran). OneThread r.state (own_of j k)) m (part_thread its_code (sum_of j) (picks_taken h) over (part_of k l));
    heights = λ k l. subst (λ (ms : List Moment). Greatest ms (own_of j k) (get_or (sixteen j.tree) k 0)) t (subst (Greatest (moments (sum_of j) (compiled j) (fresh (compiled j)) (picks_taken h)) (own_of j k)) (height_at k l) (height_shown its_code (sum_of j) (picks_taken h) over (part_of k l) (some_height (get_or (bodies j.tree) k (ValP (pos 0))))));
    reads = λ v. subst (λ (ms : List Moment). (member (read_set j.tree) v ≡ true) ↔ PickDid (sum_of j) (compiled j) ms (code.read v)) t (reads_shown its_code (sum_of j) (picks_taken h) over v);
    writes = λ v. subst (λ (ms : List Moment). (member (write_set j.tree) v ≡ true) ↔ PickDid (sum_of j) (compiled j) ms (code.write v)) t (writes_shown its_code (sum_of j) (picks_taken h) over v);
    least = subst (λ (r : Ran). instructions j.tree + (counts_of r.events).back ≤ (counts_of r.events).steps) m (least_shown its_code (sum_of j) (picks_taken h) over);
    exact = subst (λ (r : Ran). (counts_of r.events).back ≡ 0 → (counts_of r.events).steps ≡ instructions j.tree) m (exact_shown its_code (sum_of j) (picks_taken h) over);
    most = subst (λ (r : Ran). (counts_of r.events).steps ≤ bound j.tree) m (most_shown its_code (sum_of j) (picks_taken h) over);
  }
    where
      m : steps.run (sum_of j) (compiled j) (fresh (compiled j)) (picks_taken h) ≡ record { state = now.state; events = events }
      m = history_run job j b accepted h

      t : moments (sum_of j) (compiled j) (fresh (compiled j)) (picks_taken h) ≡ moments_of j h
      t = sym (moments_run h)

      over : Finished (steps.run (sum_of j) (compiled j) (fresh (compiled j)) (picks_taken h)).state
      over = subst (λ (r : Ran). Finished r.state) (sym (history_run job j b accepted h)) fin

  -- ---- a finished list
  finishes' : FinishedList j
  unfolding script_after
  finishes' = record { now = o.now; events = o.events; history = o.history; finished = over; calm = o.calm }
    where
      e : Ends (sum_of j) (initial j.tree)
      e = ends (sum_of j) (initial j.tree)

      o : IsOrder j e.order
      o = every_order job j b accepted e.order e.can

      over : Finished o.now.state
      over i x =
          let w = sound job j b accepted o.history in
          let l : i < length (turns (sum_of j) (initial j.tree) (order o.events)).threads = (w.threads i).0 x in
          let l' : i < length (turns (sum_of j) (initial j.tree) e.order).threads = subst (λ (is : List ℕ). i < length (turns (sum_of j) (initial j.tree) is).threads) o.its_order l in
          let v = e.values i l' in
          (o.ends i v.0 (record { exists = l'; ended = v.1 })).place

  -- ---- finished is: any further pick would be idle
  finished' : {now : Session} {events : List Happened} → History (compiled j) now events → Finished now.state ↔ ((i : ℕ) → is_idle (steps.pick (sum_of j) (compiled j) now.state i).event ≡ true)
  finished' {now} h = (λ f i. idle_all f i (exists (thread_at now.state i)) refl, λ f i e. ended f i e (eqb (thread_at now.state i).place (thread_at now.state i).end) refl)
    where
      idle_all : Finished now.state → (i : ℕ) (b : Bool) → exists (thread_at now.state i) ≡ b → is_idle (steps.pick (sum_of j) (compiled j) now.state i).event ≡ true
      idle_all f i true e = ap (λ (r : Stepped). is_idle r.event) (ended_idle (sum_of j) (compiled j) (number_of now.state.threads) now.state i (f i e))
      idle_all f i false e = ap (λ (r : Stepped). is_idle r.event) (missing_idle (sum_of j) (compiled j) (number_of now.state.threads) now.state i e)

      ended : ((i : ℕ) → is_idle (steps.pick (sum_of j) (compiled j) now.state i).event ≡ true) → (i : ℕ) → Exists now.state i → (b : Bool) → eqb (thread_at now.state i).place (thread_at now.state i).end ≡ b → (thread_at now.state i).place ≡ (thread_at now.state i).end
      ended f i e true q = eqb-true (thread_at now.state i).place (thread_at now.state i).end q
      ended f i e false q =
          let k = fits_behind job j b accepted h in
          let d = does_one its_code (sum_of j) now.state k.0 k.1 i e (eqb-false (thread_at now.state i).place (thread_at now.state i).end q) in
          let z : true ≡ false = sym (f i) ∙ d.not_idle in
          absurd (let y : ◌≡◌ {A = ℕ} 0 1 = cc in omega arith)

  -- ---- what else the answer has
  none_behind' : (k : ℕ) → threads j.tree ≤ k → get_or (sixteen j.tree) k 0 ≡ 0
  unfolding threads sixteen heights bodies
  none_behind' k l = behind_zeros (heights j.tree) (15 - forks j.tree) k (let a = pairwise_length (λ (p : Proc) (m : ℕ). height_p p ≡ m) (bodies j.tree) (heights j.tree) (all_heights j.tree) in let n = bodies_count j.tree in omega arith)

  comes_true : ComesTrue j (figures j.tree)
  unfolding figures bound
  comes_true = record {
    taken = (refl, refl);
    bound = refl;
    none-behind = none_behind';
    compiling = compiling';
    running = λ h f. running' h f;
    finishes = finishes';
    finished = λ h. finished' h;
    chained = λ h. chained' h;
    all_made = λ h. made' h;
  }
    where
      chained' : {now : Session} {events : List Happened} (h : History (compiled j) now events) → Chained (sum_of j) (compiled j) (fresh (compiled j)) (moments_of j h) now.state
      chained' {now} h =
          subst (λ (ms : List Moment). Chained (sum_of j) (compiled j) (fresh (compiled j)) ms now.state) (sym (moments_run h))
          (subst (λ (r : Ran). Chained (sum_of j) (compiled j) (fresh (compiled j)) (moments (sum_of j) (compiled j) (fresh (compiled j)) (picks_taken h)) r.state) (history_run job j b accepted h) (moments_chained (sum_of j) (compiled j) (fresh (compiled j)) (picks_taken h)))

      made' : {now : Session} {events : List Happened} (h : History (compiled j) now events) → happened (sum_of j) (compiled j) (moments_of j h) ≡ events
      made' h = ap (happened (sum_of j) (compiled j)) (moments_run h) ∙ (moments_happened (sum_of j) (compiled j) (fresh (compiled j)) (picks_taken h) ∙ ap (λ (r : Ran). r.events) (history_run job j b accepted h))

-- ---- a refused job
refused_told : (o : Outcome Job) (number place : ℕ) → (o ≡ refused number place) ↔ (forecast_of o ≡ refused_with number place)
unfolding figures refused_with code_length
refused_told (refused n p) number place = (λ e. ap forecast_of e, λ e. same (ap (λ (f : ForecastReply). f.refusal) e) (ap (λ (f : ForecastReply). f.place) e))
  where
    same : n ≡ number → p ≡ place → ◌≡◌ {A = Outcome Job} (refused n p) (refused number place)
    same a b = ap (λ (m : ℕ). refused m p) a ∙ ap (refused number) b
refused_told (done j) number place = (λ e. absurd (let z : ◌≡◌ {A = ℕ} 0 1 = cc in omega arith), λ e. absurd (let z : 5 + code_p j.tree ≡ 0 = ap (λ (f : ForecastReply). f.length) e in omega arith))

told' : (number place : ℕ) → ((refused_with number place).refusal ≡ number) × ((refused_with number place).place ≡ place)
unfolding refused_with
told' number place = (refl, refl)

pub forecasts : Forecasts
forecasts = record {
  refused = λ job b n p. (λ r. (refused_told (read_job job) n p).0 (refused_is_read r), λ e. read_is_refused job b n p ((refused_told (read_job job) n p).1 e));
  told = told';
  accepted = λ job j b e. subst (λ (o : Outcome Job). ComesTrue j (forecast_of o)) (sym e) (comes_true job j b e);
}
