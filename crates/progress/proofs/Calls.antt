-- A call done by value: admitted or not, its picks driven, its answer. Assumes nothing.
use Prim.Native.Nat.{ℕ, zero, suc, ◌+◌, ◌≤◌}
use mathlib.Core.Bool.{Bool, true, false, cond}
use mathlib.Core.Path.{◌≡◌, refl, sym, ap, ap₂, subst, ◌∙◌}
use mathlib.Core.List.{List, [], ◌∷◌}
use native.Mathlib.Omega.{arith}
use borrow.Author.Tests.{le-ltb}
use lib.ListN.{length}
use Rattle.code.specs.Bytes.{IsCode}
use Rattle.code.specs.Reader.{read_code}
use Rattle.code.proofs.Foreign.{only_foreign}
use Rattle.code.proofs.ReadBack.{read_is_code}
use Rattle.progress.specs.InnerProgress.{unless_refused, beginning, refusal_of, shown, Driven, driven, Room, admitting, going_on, undergone, run_told, step_told, ran_by, stepped_by, step_reply_of, Low, settled_by, which_of, Given, picked_by}
use Rattle.progress.specs.declared.Progress.{Progress}
use Rattle.progress.proofs.Turns.{Tells, perform_turns, perform_tells}
use Rattle.progress.proofs.Drives.{drive_runs, run_refuses, admits}
use Rattle.machine.specs.Answers.{Returned, step_of, step_call, step_reply, run_of, run_call, run_reply}
use Rattle.machine.specs.Fits.{Typed}
use Rattle.machine.specs.FitTest.{fits}
use Rattle.machine.specs.InnerTally as tally
use Rattle.machine.specs.Steps.{State, table_in, Stepped, number_of, thread_at, pick, pick_among, Ran, run}
use Rattle.machine.specs.declared.RunReply.{RunReply}
use Rattle.machine.specs.declared.StepReply.{StepReply}
use Rattle.machine.proofs.Calls.{step_refused, step_taken, run_refused, run_taken}
use Rattle.machine.proofs.FitTests.{fits_exactly}
use Rattle.machine.proofs.Ranges.{code_short}
use Rattle.script.specs.Bytes.{Bytes}
use Rattle.script.specs.Jobs.{Job}
use Rattle.script.specs.Outcome.{Outcome, refused, done}
use Rattle.stm.specs.Events as events
use Rattle.stm.specs.Events.{Event, Counts, uncounted, counts_of, event_number, event_register, turn_number}
use Rattle.survey.specs.InnerRecords.{survey_of}
use Rattle.survey.specs.InnerWalk.{survey_fits}
use Rattle.survey.proofs.Judging.{survey_parts}
use Rattle.survey.proofs.Exact.{survey-fits, survey_count}
use Rattle.thread.specs.declared.Thread.{Thread}
use Rattle.thread.specs.Threads.{exists}
use Rattle.word.specs.Sum.{wrapping}

-- the answer by the state and the counts
answers : (d : Driven) (r : Ran) (n : ℕ) → ◌≡◌ {A = tally.Tallied} (record { state = d.state; progress = shown d.progress }) (record { state = r.state; progress = record { threads = n; counts = counts_of r.events } }) → run_told (record { state = d.state; progress = done d.progress }) ≡ record { state = r.state; reply = run_reply (done r) }
answers d r n e = ap (λ (x : tally.Tallied). record { state = x.state; reply = record { refusal = 0; place = 0; steps = x.progress.counts.steps; idle = x.progress.counts.idle; commits = x.progress.counts.commits; back = x.progress.counts.back; over = x.progress.counts.over } }) e

number_low : (ts : List Thread) → number_of ts ≤ length ts
unfolding number_of
number_low [] = omega arith
number_low (t ∷ ts) = go (exists t) (number_low ts)
  where
    go : (b : Bool) → number_of ts ≤ length ts → cond b (suc (number_of ts)) 0 ≤ suc (length ts)
    go true l = omega arith
    go false l = omega arith

-- the survey of a state and the test say the same of code that is no foreign code, which is short; of foreign code neither is asked
survey-of : {code : List ℕ} {j : Job} → IsCode code j → (s : State) → survey_fits (survey_of s.counts s.threads) code (length s.registers) s.counts 0 ≡ fits code s
unfolding fits
survey-of {code} c s = survey-fits 0 code s (let l = code_short c in omega arith)

pub same_refusal : (code : List ℕ) (s : State) (n : ℕ) → Bytes code → refusal_of (read_code code) (survey_fits (survey_of s.counts s.threads) code (length s.registers) s.counts 0) n ≡ refusal_of (read_code code) (fits code s) n
unfolding refusal_of
same_refusal code s n b = go (read_code code) refl
  where
    go : (o : Outcome Job) → read_code code ≡ o → refusal_of o (survey_fits (survey_of s.counts s.threads) code (length s.registers) s.counts 0) n ≡ refusal_of o (fits code s) n
    go (refused number place) e = refl
    go (done j) e = ap (λ (x : Bool). refusal_of (done j) x n) (survey-of (read_is_code code j b e) s)

module _ (code : List ℕ) (s : State) (is : List ℕ) (b : Bytes code) (y : Typed s) where
  admitted : admitting code s (length is) ≡ unless_refused (refusal_of (read_code code) (fits code s) (length is)) (beginning (survey_of s.counts s.threads).count)
  unfolding admitting
  admitted = ap (λ (r : ℕ). unless_refused r (beginning (survey_of s.counts s.threads).count)) (same_refusal code s (length is) b)

  -- what a run by value comes to, by its refusal
  abbrev from : ℕ → Returned RunReply
  from r = run_told (going_on code s is (unless_refused r (beginning (survey_of s.counts s.threads).count)))

  refused_run : (n : ℕ) → refusal_of (read_code code) (fits code s) (length is) ≡ suc n → from (suc n) ≡ run_call code s is
  refused_run n e = sym (run_refused code s is (suc n) 0 (run_refuses code s is n e))

  taken_run : refusal_of (read_code code) (fits code s) (length is) ≡ 0 → from 0 ≡ run_call code s is
  unfolding run_of
  taken_run e =
      let k = admits code s (length is) e in
      let c = read_is_code code k.job b k.read in
      let f = (fits_exactly code s y).0 k.fit in
      let n = survey_count s.counts s.threads (survey_parts (survey_of s.counts s.threads) code (length s.registers) s.counts 0 (survey-of c s ∙ k.fit)).good in
      let few : (survey_of s.counts s.threads).count ≤ 16 = let a = number_low s.threads in let r = f.records in omega arith in
      let short = k.short in
      let p : Progress = beginning (survey_of s.counts s.threads).count in
      let room : Room (length is) p = record { threads = omega arith; steps = omega arith; idle = omega arith; commits = omega arith; back = omega arith; over = omega arith } in
      let ran : run_of code s is ≡ done (run wrapping code s is) = rw (k.read, k.fit, le-ltb 32768 (length is) k.short) in
      answers (driven code is (record { state = s; progress = p })) (run wrapping code s is) (number_of (run wrapping code s is).state.threads) (drive_runs c is s f y p (ap (λ (m : ℕ). record { threads = m; counts = uncounted }) n) room)
      ∙ sym (run_taken code s is (run wrapping code s is) ran)

  pub run_by_value : ran_by code s is ≡ run_call code s is
  unfolding ran_by undergone
  run_by_value =
      ap (λ (o : Outcome Progress). run_told (going_on code s is o)) admitted ∙ go (refusal_of (read_code code) (fits code s) (length is)) refl
    where
      go : (r : ℕ) → refusal_of (read_code code) (fits code s) (length is) ≡ r → from (refusal_of (read_code code) (fits code s) (length is)) ≡ run_call code s is
      go zero e = ap from e ∙ taken_run e
      go (suc n) e = ap from e ∙ refused_run n e

-- ---- a step
answers_step : (s : State) (who : ℕ) (g : Given) (r : Stepped) → (settled_by s who g).state ≡ r.state → Tells r.event g.picked.progress → g.picked.progress.over ≡ r.over → ◌≡◌ {A = Returned StepReply} (record { state = (settled_by s who g).state; reply = step_reply_of (done g.picked.progress) }) (record { state = r.state; reply = step_reply (done r) })
answers_step s who g r a w o = λ i. record { state = a i; reply = record { refusal = 0; place = 0; event = w.event i; register = w.register i; turn = w.turn i; over = o i } }

pub step_refuses : (code : List ℕ) (s : State) (i n : ℕ) → refusal_of (read_code code) (fits code s) 1 ≡ suc n → step_of code s i ≡ refused (suc n) 0
unfolding step_of refusal_of
step_refuses code s i n e = go (read_code code) refl (fits code s) refl e
  where
    go : (o : Outcome Job) → read_code code ≡ o → (b : Bool) → fits code s ≡ b → refusal_of o b 1 ≡ suc n → step_of code s i ≡ refused (suc n) 0
    go (refused m q) x b z e =
        let k = only_foreign code m q x in
        rw x (ap₂ (λ (u v : ℕ). refused u v) (k.0 ∙ e) k.1)
    go (done k) x false z e = rw (x, z) (ap (λ (u : ℕ). refused u 0) e)
    go (done k) x true z e = absurd (omega arith)

module _ (code : List ℕ) (s : State) (i : ℕ) (b : Bytes code) (y : Typed s) where
  admitted_one : admitting code s 1 ≡ unless_refused (refusal_of (read_code code) (fits code s) 1) (beginning (survey_of s.counts s.threads).count)
  unfolding admitting
  admitted_one = ap (λ (r : ℕ). unless_refused r (beginning (survey_of s.counts s.threads).count)) (same_refusal code s 1 b)

  abbrev one_from : ℕ → Returned StepReply
  one_from r = step_told (going_on code s (i ∷ []) (unless_refused r (beginning (survey_of s.counts s.threads).count)))

  refused_step : (n : ℕ) → refusal_of (read_code code) (fits code s) 1 ≡ suc n → one_from (suc n) ≡ step_call code s i
  refused_step n e = sym (step_refused code s i (suc n) 0 (step_refuses code s i n e))

  taken_step : refusal_of (read_code code) (fits code s) 1 ≡ 0 → one_from 0 ≡ step_call code s i
  unfolding step_of driven tally.turned events.tally
  taken_step e =
      let k = admits code s 1 e in
      let c = read_is_code code k.job b k.read in
      let f = (fits_exactly code s y).0 k.fit in
      let n : (survey_of s.counts s.threads).count ≡ number_of s.threads = survey_count s.counts s.threads (survey_parts (survey_of s.counts s.threads) code (length s.registers) s.counts 0 (survey-of c s ∙ k.fit)).good in
      let few : (survey_of s.counts s.threads).count ≤ 16 = let a = number_low s.threads in let r = f.records in omega arith in
      let p : Progress = beginning (survey_of s.counts s.threads).count in
      let low : Low p = record { threads = omega arith; steps = omega arith; idle = omega arith; commits = omega arith; back = omega arith; over = omega arith } in
      let t = perform_turns c s f y i p low in
      let w = perform_tells c s f y i p in
      let same : pick_among wrapping code p.threads s i ≡ pick wrapping code s i = ap (λ (m : ℕ). pick_among wrapping code m s i) n in
      let ran : step_of code s i ≡ done (pick wrapping code s i) = rw (k.read, k.fit) in
      let state = ap (λ (x : tally.Tallied). x.state) t ∙ ap (λ (x : Stepped). x.state) same in
      let one : 0 + (pick_among wrapping code p.threads s i).over ≡ (pick_among wrapping code p.threads s i).over = omega arith in
      let over = ap (λ (x : tally.Tallied). x.progress.counts.over) t ∙ (one ∙ ap (λ (x : Stepped). x.over) same) in
      answers_step s (which_of i) (picked_by code (table_in s) i (thread_at s (which_of i)) p) (pick wrapping code s i) state (subst (λ (x : Stepped). Tells x.event (picked_by code (table_in s) i (thread_at s (which_of i)) p).picked.progress) same w) over
      ∙ sym (step_taken code s i (pick wrapping code s i) ran)

  pub step_by_value : stepped_by code s i ≡ step_call code s i
  unfolding stepped_by undergone
  step_by_value =
      ap (λ (o : Outcome Progress). step_told (going_on code s (i ∷ []) o)) admitted_one ∙ go (refusal_of (read_code code) (fits code s) 1) refl
    where
      go : (r : ℕ) → refusal_of (read_code code) (fits code s) 1 ≡ r → one_from (refusal_of (read_code code) (fits code s) 1) ≡ step_call code s i
      go zero e = ap one_from e ∙ taken_step e
      go (suc n) e = ap one_from e ∙ refused_step n e
