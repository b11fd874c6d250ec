-- Demand 2 on the machine, for every accepted job. Assumes nothing.
use Prim.Native.Nat.{ℕ}
use mathlib.Core.Logic.{◌↔◌}
use mathlib.Core.Path.{◌≡◌, sym, ap, subst, ◌∙◌}
use mathlib.Core.List.{List, [], ◌∷◌}
use lib.IntN.{ℤ, pos}
use lib.ListN.{replicate}
use Rattle.guarantee.specs.Histories.{Session, History, picks_taken, Ended}
use Rattle.guarantee.specs.Agreement.{Agreement}
use Rattle.guarantee.proofs.Histories.{is_code, history_run, fits_behind, ended_shows, one_on, same_head}
use Rattle.code.specs.Bytes.{compiled}
use Rattle.machine.specs.Steps.{State, number_of, thread_at, Ran, fresh, table_in}
use Rattle.machine.specs.Fits.{Exists, Fits, Typed}
use Rattle.machine.specs.Stands.{stack_from}
use Rattle.machine.specs.Answers.{sum_of}
use Rattle.source.specs.Source.{SThread, Halted, StepsM}
use Rattle.source.specs.Soup.{Carries, StandsFor, load}
use Rattle.machine.proofs.Fresh.{fresh_fits, fresh_typed}
use Rattle.machine.proofs.Notes.{pick_told, pick_noted, none_noted}
use Rattle.machine.proofs.Picks.{missing_idle, ended_idle}
use Rattle.machine.proofs.Found.{sent_back_first, committed_none, looked_found}
use Rattle.machine.proofs.Regions.{held}
use Rattle.source.proofs.Rules.{rule_is_for}
use Rattle.machine.proofs.Runs.{shows_of}
use Rattle.source.proofs.Soups.{ended_halted}
use Rattle.machine.proofs.Agrees.{outer, does_one, step_fits, run_fits}
use Rattle.source.proofs.Agrees.{has_soup, fresh_soup, pick_is_step, step_is_pick, pick_is_step_same, step_is_pick_same, run_is_steps}
use Rattle.script.specs.Bytes.{Bytes}
use Rattle.script.specs.Outcome.{done}
use Rattle.script.specs.Jobs.{Job}
use Rattle.script.specs.Reader.{read_job}
use Rattle.script.proofs.Same.{same_refl}
use Rattle.stm.specs.Events.{Happened}

module _ (job : List ℕ) (j : Job) (b : Bytes job) (accepted : read_job job ≡ done j) where
  reached : {now : Session} {events : List Happened} → History (compiled j) now events → (soup : List SThread) × (StepsM (sum_of j) (record { registers = replicate 64 (pos 0); counts = replicate 64 0 }) (load j.tree) (table_in now.state) soup × StandsFor (compiled j) now.state soup)
  unfolding fresh
  reached {now} {events} h =
      let c = is_code job j b accepted in
      let m = history_run job j b accepted h in
      let r = run_is_steps c (sum_of j) (picks_taken h) (fresh (compiled j)) (fresh_fits (compiled j)) (fresh_typed (compiled j)) (load j.tree) (record { threads = load j.tree; ordered = fresh_soup c; same = same_refl (load j.tree) }) in
      (r.0, subst (λ (x : Ran). StepsM (sum_of j) (record { registers = replicate 64 (pos 0); counts = replicate 64 0 }) (load j.tree) (table_in x.state) r.0 × StandsFor (compiled j) x.state r.0) m r.1)

  -- a thread that has ended, with its result, and the source's
  ended_is_halted : (s : State) → Fits (compiled j) s → Typed s → (i : ℕ) → Exists s i → (m : SThread) → Carries (compiled j) (thread_at s i) m → (n : ℤ) → Ended s i n ↔ Halted m n
  ended_is_halted s f y i e m x n = (there, back)
    where
      there : Ended s i n → Halted m n
      there d =
          record {
            code = (ended_halted x).0 d.place;
            stack = x.stack ∙ (ap (stack_from (thread_at s i).cells 0) d.height ∙ (one_on (thread_at s i).cells ∙ ap (λ (z : ℤ). z ∷ []) d.result));
          }

      back : Halted m n → Ended s i n
      back h =
          let c = is_code job j b accepted in
          let at-end = (ended_halted x).1 h.code in
          let w = shows_of (held c (outer c) s f y i e) in
          let high = (ended_shows (thread_at s i) w.0 at-end w.1).0 in
          record {
            there = e;
            place = at-end;
            height = high;
            result = same_head (sym (one_on (thread_at s i).cells) ∙ (ap (stack_from (thread_at s i).cells 0) (sym high) ∙ (sym x.stack ∙ h.stack)));
          }

-- every step agrees with the machine of the source, for every accepted job
pub agreement : (job : List ℕ) (j : Job) → Bytes job → read_job job ≡ done j → Agreement j
agreement job j b accepted =
    let c = is_code job j b accepted in
    record {
      missing_idle = λ s i e. missing_idle (sum_of j) (compiled j) (number_of s.threads) s i e;
      ended_idle = λ s i e. ended_idle (sum_of j) (compiled j) (number_of s.threads) s i e;
      does_one = λ s f y i e n. does_one c (sum_of j) s f y i e n;
      sent_back_first = λ s i v e. sent_back_first (sum_of j) (compiled j) (number_of s.threads) s i v e;
      committed_none = λ s i e. committed_none (sum_of j) (compiled j) (number_of s.threads) s i e;
      looked_found = λ s i from e. looked_found (sum_of j) (compiled j) (number_of s.threads) s i from e;
      told = λ s i. pick_told (sum_of j) (compiled j) (number_of s.threads) s i;
      noted = λ s f y i e. pick_noted c (sum_of j) s f y i e;
      none_noted = λ s f i e z. none_noted (f.placed i e) z;
      fresh_fits = (fresh_fits (compiled j), fresh_typed (compiled j));
      step_fits = λ s f y i. step_fits c (sum_of j) s f y i;
      run_fits = λ s f y is. run_fits c (sum_of j) s f y is;
      fresh_soup = fresh_soup c;
      has_soup = λ s f y. has_soup c s f y;
      ended_halted = λ s f y i e m x n. ended_is_halted job j b accepted s f y i e m x n;
      pick_is_step = λ s f y soup x i e. pick_is_step c (sum_of j) s f y soup x i e;
      step_is_pick = λ s f y soup x h' soup' e. step_is_pick c (sum_of j) s f y soup x h' soup' e;
      rule_is_for = λ x f. rule_is_for x f;
      pick_is_step_same = λ s f y soup x i e. pick_is_step_same c (sum_of j) s f y soup x i e;
      step_is_pick_same = λ s f y soup x h' soup' e. step_is_pick_same c (sum_of j) s f y soup x h' soup' e;
      history_reached = λ h. reached job j b accepted h;
      history_fits = λ h. fits_behind job j b accepted h;
    }
