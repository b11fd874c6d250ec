-- Picks by value, one after the other, are the run with its counts; and which refusal a call has. Assumes nothing.
use Prim.Native.Nat.{ℕ, suc, ◌+◌, ◌*◌, ◌<◌, ◌≤◌}
use mathlib.Core.Bool.{Bool, true, false, cond, not}
use mathlib.Core.Path.{◌≡◌, refl, sym, ap, ap₂, subst, ◌∙◌}
use mathlib.Core.List.{List, [], ◌∷◌}
use native.Mathlib.Omega.{arith}
use borrow.Author.Tests.{ltb-false}
use lib.Dec.{eqb, ltb}
use lib.ListN.{length}
use Rattle.code.specs.Bytes.{IsCode}
use Rattle.code.specs.Reader.{read_code}
use Rattle.code.proofs.Foreign.{only_foreign}
use Rattle.progress.specs.InnerProgress.{more_to, advanced_to, which_of, Given, picked_of, picked_by, refusal_of, Low, shown, settled_by, Driven, driven, Room}
use Rattle.progress.specs.declared.Progress.{Progress}
use Rattle.progress.proofs.Turns.{few_told, perform_turns}
use Rattle.machine.specs.Answers.{run_of}
use Rattle.machine.specs.Fits.{Fits, Typed}
use Rattle.machine.specs.FitTest.{fits}
use Rattle.machine.specs.InnerTally as tally
use Rattle.machine.specs.Steps.{State, table_in, number_of, thread_at, pick, pick_among, run}
use Rattle.machine.proofs.Agrees.{step_fits}
use Rattle.machine.proofs.Tallies.{pick_number, tallied_run}
use Rattle.script.specs.Jobs.{Job}
use Rattle.script.specs.Outcome.{Outcome, refused, done}
use Rattle.stm.specs.Events.{is_fork, more, uncounted, counts_of}
use Rattle.thread.specs.declared.Thread.{Thread}
use Rattle.thread.specs.InnerStep.{handed, unacted, stepped}
use Rattle.word.specs.InnerCount.{saturated}
use Rattle.word.specs.Sum.{wrapping}
use Rattle.word.proofs.Counting.{saturated_exact}

-- ---- the numbers stay low
more_low : (b : Bool) (n m : ℕ) → n + suc m < 18446744073709551615 → more_to b n + m < 18446744073709551615
unfolding more_to
more_low false n m l = omega arith
more_low true n m l = let e = saturated_exact n 1 (omega arith) in omega arith

plus_low : (a b m : ℕ) → b < 6000 → a + 6000 * suc (suc m) < 18446744073709551615 → saturated a b + 6000 * suc m < 18446744073709551615
plus_low a b m few l = let e = saturated_exact a b (omega arith) in omega arith

room_after : (event register turn over n : ℕ) (p : Progress) → over < 6000 → Room (suc n) p → Room n (advanced_to event register turn over p)
unfolding advanced_to
room_after event register turn over n p few r =
    record {
      threads = more_low (eqb event 3) p.threads n r.threads;
      steps = more_low (not (eqb event 0)) p.steps n r.steps;
      idle = more_low (eqb event 0) p.idle n r.idle;
      commits = more_low (eqb event 9) p.commits n r.commits;
      back = more_low (eqb event 10) p.back n r.back;
      over = plus_low p.over over n few r.over;
    }

room_picked : (bytes : List ℕ) (s : State) (i : ℕ) (t : Thread) (n : ℕ) (p : Progress) → (stepped wrapping bytes (table_in s) t).acted.over < 6000 → Room (suc n) p → Room n (picked_by bytes (table_in s) i t p).picked.progress
unfolding picked_by
room_picked bytes s i t n p few r = go (ltb i 16)
  where
    go : (b : Bool) → Room n (cond b (picked_of (stepped wrapping bytes (table_in s) t) p) (picked_of (handed (unacted t) (table_in s)) p)).picked.progress
    go true = room_after _ _ _ _ n p few r
    go false = room_after _ _ _ _ n p (omega arith) r

room_low : (n : ℕ) (p : Progress) → Room n p → Low p
room_low n p r =
    let a = r.threads in
    let b = r.steps in
    let c = r.idle in
    let d = r.commits in
    let e = r.back in
    let f = r.over in
    record { threads = omega arith; steps = omega arith; idle = omega arith; commits = omega arith; back = omega arith; over = omega arith }

-- what is carried, as the run told forward has it
abbrev told : Driven → tally.Tallied
told d = record { state = d.state; progress = shown d.progress }

-- the number of threads that is carried is the state's
turned_pick : (bytes : List ℕ) (s : State) (i : ℕ) (p : Progress) → p.threads ≡ number_of s.threads → tally.turned wrapping bytes s (shown p) i ≡ record { state = (pick wrapping bytes s i).state; progress = tally.advanced (pick wrapping bytes s i).event (pick wrapping bytes s i).over (shown p) }
unfolding tally.turned
turned_pick bytes s i p n = ap (λ (m : ℕ). record { state = (pick_among wrapping bytes m s i).state; progress = tally.advanced (pick_among wrapping bytes m s i).event (pick_among wrapping bytes m s i).over (shown p) }) n

module _ {bytes : List ℕ} {j : Job} (c : IsCode bytes j) where
  -- the picks of a list, all of them, the number of threads being carried
  pub drive_tallies : (is : List ℕ) (s : State) → Fits bytes s → Typed s → (p : Progress) → p.threads ≡ number_of s.threads → Room (length is) p → told (driven bytes is (record { state = s; progress = p })) ≡ tally.tallied wrapping bytes s (shown p) is
  unfolding driven tally.tallied
  drive_tallies [] s f y p n r = refl
  drive_tallies (i ∷ is) s f y p n r =
      drive_tallies is (settled_by s (which_of i) g).state fit.0 fit.1 g.picked.progress number (room_picked bytes s i (thread_at s (which_of i)) (length is) p (few_told c s f y (which_of i)) r)
      ∙ ap (λ (x : tally.Tallied). tally.tallied wrapping bytes x.state x.progress is) t
    where
      g : Given
      g = picked_by bytes (table_in s) i (thread_at s (which_of i)) p

      t : settled_by s (which_of i) g ≡ tally.turned wrapping bytes s (shown p) i
      t = perform_turns c s f y i p (room_low (suc (length is)) p r)

      same : tally.turned wrapping bytes s (shown p) i ≡ record { state = (pick wrapping bytes s i).state; progress = tally.advanced (pick wrapping bytes s i).event (pick wrapping bytes s i).over (shown p) }
      same = turned_pick bytes s i p n

      fit : Fits bytes (settled_by s (which_of i) g).state × Typed (settled_by s (which_of i) g).state
      fit = subst (λ (x : tally.Tallied). Fits bytes x.state × Typed x.state) (sym (t ∙ same)) (step_fits c wrapping s f y i)

      number : g.picked.progress.threads ≡ number_of (settled_by s (which_of i) g).state.threads
      number =
          ap (λ (x : tally.Tallied). x.progress.threads) (t ∙ same)
          ∙ (ap (more (is_fork (pick wrapping bytes s i).event)) n
          ∙ (sym (pick_number c wrapping s f y i)
          ∙ ap (λ (x : tally.Tallied). number_of x.state.threads) (sym (t ∙ same))))

  -- from no counts: the run, and its counts
  pub drive_runs : (is : List ℕ) (s : State) → Fits bytes s → Typed s → (p : Progress) → shown p ≡ record { threads = number_of s.threads; counts = uncounted } → Room (length is) p → told (driven bytes is (record { state = s; progress = p })) ≡ record {
    state = (run wrapping bytes s is).state;
    progress = record { threads = number_of (run wrapping bytes s is).state.threads; counts = counts_of (run wrapping bytes s is).events };
  }
  drive_runs is s f y p e r =
      drive_tallies is s f y p (ap (λ (x : tally.Progress). x.threads) e) r
      ∙ (ap (λ (x : tally.Progress). tally.tallied wrapping bytes s x is) e ∙ tallied_run c wrapping s f y is)

-- ---- which refusal a call has
pub run_refuses : (code : List ℕ) (s : State) (is : List ℕ) (n : ℕ) → refusal_of (read_code code) (fits code s) (length is) ≡ suc n → run_of code s is ≡ refused (suc n) 0
unfolding run_of refusal_of
run_refuses code s is n e = go (read_code code) refl (fits code s) refl (ltb 32768 (length is)) refl e
  where
    go : (o : Outcome Job) → read_code code ≡ o → (b : Bool) → fits code s ≡ b → (d : Bool) → ltb 32768 (length is) ≡ d → refusal_of o b (length is) ≡ suc n → run_of code s is ≡ refused (suc n) 0
    go (refused m q) x b z d w e =
        let k = only_foreign code m q x in
        rw x (ap₂ (λ (u v : ℕ). refused u v) (k.0 ∙ e) k.1)
    go (done k) x false z d w e = rw (x, z) (ap (λ (u : ℕ). refused u 0) e)
    go (done k) x true z true w e =
        let e' : 13 ≡ suc n = rw w at e in
        rw (x, z, w) (ap (λ (u : ℕ). refused u 0) e')
    go (done k) x true z false w e =
        let e' : 0 ≡ suc n = rw w at e in
        absurd (omega arith)

-- what a call that is not refused has
pub record Taken (code : List ℕ) (s : State) (picks : ℕ) : Type 0 where
  pub job : Job
  pub read : read_code code ≡ done job
  pub fit : fits code s ≡ true
  pub short : picks ≤ 32768

pub admits : (code : List ℕ) (s : State) (picks : ℕ) → refusal_of (read_code code) (fits code s) picks ≡ 0 → Taken code s picks
unfolding refusal_of
admits code s picks e = go (read_code code) refl (fits code s) refl (ltb 32768 picks) refl e
  where
    go : (o : Outcome Job) → read_code code ≡ o → (b : Bool) → fits code s ≡ b → (d : Bool) → ltb 32768 picks ≡ d → refusal_of o b picks ≡ 0 → Taken code s picks
    go (refused m q) x b z d w e = absurd (omega arith)
    go (done k) x false z d w e = absurd (omega arith)
    go (done k) x true z true w e = absurd (let e' : ◌≡◌ {A = ℕ} 13 0 = rw w at e in omega arith)
    go (done k) x true z false w e = record { job = k; read = x; fit = z; short = ltb-false 32768 picks w }
