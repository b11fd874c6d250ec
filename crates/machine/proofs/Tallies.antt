-- A run told forward, the number of threads being carried, is the run and its counts. Assumes nothing.
use Prim.Native.Nat.{ℕ}
use mathlib.Core.Path.{◌≡◌, sym, ap, ap₂, ◌∙◌}
use mathlib.Core.List.{List, [], ◌∷◌}
use Rattle.code.specs.Bytes.{IsCode}
use Rattle.machine.specs.Steps.{State, number_of, pick, run}
use Rattle.machine.specs.Fits.{Fits, Typed}
use Rattle.machine.specs.InnerStands.{register_cells}
use Rattle.machine.specs.InnerTally.{turned, tallied}
use Rattle.machine.proofs.Runs.{mirror, pick_keeps}
use Rattle.machine.proofs.Agrees.{outer, step_fits}
use Rattle.script.specs.Jobs.{Job}
use Rattle.stm.specs.Events.{Event, is_fork, more, Counts, tally, counts_of, together, uncounted}
use Rattle.stm.proofs.Sizes.{next_number}
use Rattle.stm.proofs.Counts.{tally_behind, together_none, none_together}
use Rattle.word.specs.Sum.{Rule}

module _ {code : List ℕ} {j : Job} (c : IsCode code j) (sum : Rule) where
  -- a FORK makes one thread more, nothing else does
  pub pick_number : (s : State) → Fits code s → Typed s → (i : ℕ) → number_of (pick sum code s i).state.threads ≡ more (is_fork (pick sum code s i).event) (number_of s.threads)
  pick_number s f y i =
      let m = mirror c (outer c) s f y in
      let k = pick_keeps c (outer c) sum s m.0 f y m.1 i in
      k.mirrors.number ∙ (next_number register_cells sum m.0 i ∙ ap₂ (λ (e : Event) (n : ℕ). more (is_fork e) n) (sym k.event) (sym m.1.number))

  -- what a run comes to, with the counts before it
  pub tallied_on : (is : List ℕ) (s : State) → Fits code s → Typed s → (before : Counts) → tallied sum code s (record { threads = number_of s.threads; counts = before }) is ≡ record {
    state = (run sum code s is).state;
    progress = record { threads = number_of (run sum code s is).state.threads; counts = together before (counts_of (run sum code s is).events) };
  }
  unfolding tallied turned run counts_of
  tallied_on [] s f y before = ap (λ (k : Counts). record { state = s; progress = record { threads = number_of s.threads; counts = k } }) (sym (none_together before))
  tallied_on (i ∷ is) s f y before =
      let one = pick sum code s i in
      let g = step_fits c sum s f y i in
      let r = tallied_on is (pick sum code s i).state g.0 g.1 (tally (pick sum code s i).event (pick sum code s i).over before) in
      ap (λ (n : ℕ). tallied sum code (pick sum code s i).state (record { threads = n; counts = tally (pick sum code s i).event (pick sum code s i).over before }) is) (sym (pick_number s f y i)) ∙ (r ∙ ap (λ (k : Counts). record {
        state = (run sum code (pick sum code s i).state is).state;
        progress = record { threads = number_of (run sum code (pick sum code s i).state is).state.threads; counts = k };
      }) (tally_behind (pick sum code s i).event (pick sum code s i).over before (counts_of (run sum code (pick sum code s i).state is).events)))

  -- from the number of threads and no counts: the run, the number of threads that it leaves, and its counts
  pub tallied_run : (s : State) → Fits code s → Typed s → (is : List ℕ) → tallied sum code s (record { threads = number_of s.threads; counts = uncounted }) is ≡ record {
    state = (run sum code s is).state;
    progress = record { threads = number_of (run sum code s is).state.threads; counts = counts_of (run sum code s is).events };
  }
  tallied_run s f y is =
      tallied_on is s f y uncounted ∙ ap (λ (k : Counts). record {
        state = (run sum code s is).state;
        progress = record { threads = number_of (run sum code s is).state.threads; counts = k };
      }) (together_none (counts_of (run sum code s is).events))
