-- For code that is not foreign: picks agree with the source's machine. Assumes nothing.
use Prim.Native.Nat.{ℕ, zero, suc, ◌<◌}
use mathlib.Core.Bool.{Bool, true, false}
use mathlib.Core.Path.{◌≡◌, refl, sym, ap, subst, ◌∙◌}
use mathlib.Core.List.{List, [], ◌∷◌, ◌++◌}
use mathlib.Core.Option.{some}
use native.Mathlib.Omega.{arith}
use lib.ListN.{get_or}
use Rattle.stm.specs.Counted.{Table}
use Rattle.code.specs.Bytes.{IsCode}
use Rattle.script.specs.Jobs.{Job}
use Rattle.script.specs.Soup.{Same}
use Rattle.script.proofs.Same.{cut, picks_at, same_refl, same_sym, same_trans, take_both, same_left}
use Rattle.thread.specs.Threads.{spawned}
use Rattle.machine.specs.Steps.{State, thread_at, pick, fresh, run, table_in}
use Rattle.machine.specs.Fits.{Fits, Typed}
use Rattle.source.specs.Source.{SThread, StepM, StepsM, stop, then}
use Rattle.source.specs.Soup.{Carries, nobody, Soup, StandsFor, rule_of, named, ByRule, load, PickOn}
use Rattle.machine.specs.Stands.{stack_from}
use Rattle.machine.proofs.Agrees.{outer, step_fits}
use Rattle.machine.proofs.Codes.{code_ready}
use Rattle.machine.proofs.Picks.{idle_keeps}
use Rattle.machine.proofs.Fresh.{fresh_mirrors}
use Rattle.machine.proofs.Regions.{held}
use Rattle.machine.proofs.Runs.{mirror, room_for}
use Rattle.source.proofs.Rules.{preempted, preempted_rule, named_same, renamed, peel, own}
use Rattle.source.proofs.Soups.{soup_of, pick_steps, step_picks}
use Rattle.stm.specs.Events.{is_idle}
use Rattle.stm.specs.InnerTasks.{start}
use Rattle.word.specs.Sum.{Rule}

module _ {code : List ℕ} {j : Job} (c : IsCode code j) where
  -- a fitting state stands for a soup of the source's threads
  pub has_soup : (s : State) → Fits code s → Typed s → (soup : List SThread) × Soup code s soup
  has_soup s f y = soup_of (mirror c (outer c) s f y).1

  -- a fresh state stands for the source's loaded process
  pub fresh_soup : Soup code (fresh code) (load j.tree)
  unfolding fresh spawned stack_from start
  fresh_soup = record { number = sym (fresh_mirrors code c (outer c)).number; carries = carried }
    where
      carried : (i : ℕ) → i < 1 → Carries code (thread_at (fresh code) i) (get_or (load j.tree) i nobody)
      carried zero l =
          record {
            code = (code_ready c).stands;
            valued = (code_ready c).valued;
            stack = refl;
            again = λ b. absurd (omega arith);
            reads = λ b v. absurd (omega arith);
            writes = λ b v. absurd (omega arith);
          }
      carried (suc i) l = absurd (omega arith)

  -- a pick that is not idle is a step of the source's machine, by the rule that its event names
  pub pick_is_step : (sum : Rule) (s : State) → Fits code s → Typed s → (soup : List SThread) → Soup code s soup → (i : ℕ) → is_idle (pick sum code s i).event ≡ false → (h' : Table) × ((soup' : List SThread) × PickOn code sum s i soup h' soup')
  pick_is_step sum s f y soup x i e =
      let m = mirror c (outer c) s f y in
      pick_steps code sum s m.0 m.1 f.no_gap (λ k there. held c (outer c) s f y k there) i (room_for c (outer c) sum s m.0 f y m.1 i) soup x e

  -- and each step of the source's machine is such a pick, whose event names its rule
  pub step_is_pick : (sum : Rule) (s : State) → Fits code s → Typed s → (soup : List SThread) → Soup code s soup → (h' : Table) (soup' : List SThread) → (step : StepM sum (table_in s) soup h' soup') → (i : ℕ) × ((is_idle (pick sum code s i).event ≡ false) × ((named (pick sum code s i).event ≡ some (rule_of step)) × PickOn code sum s i soup h' soup'))
  step_is_pick sum s f y soup x h' soup' e =
      let m = mirror c (outer c) s f y in
      step_picks code sum s m.0 m.1 f.no_gap (λ k there. held c (outer c) s f y k there) (λ i. room_for c (outer c) sum s m.0 f y m.1 i) soup x h' soup' e

  -- ---- soups in any order
  -- a pick that is not idle is a step of any soup that the state stands for, by the rule that its event names, and leaves a soup that the state left stands for
  pub pick_is_step_same : (sum : Rule) (s : State) → Fits code s → Typed s → (soup : List SThread) → StandsFor code s soup → (i : ℕ) → is_idle (pick sum code s i).event ≡ false → (soup' : List SThread) × (ByRule sum (table_in s) soup (table_in (pick sum code s i).state) soup' (pick sum code s i).event × StandsFor code (pick sum code s i).state soup')
  pick_is_step_same sum s f y soup x i e =
      let p = pick_is_step sum s f y x.threads x.ordered i e in
      let o = p.1.1 in
      let k = take_both (subst (λ (l : List SThread). Same l soup) o.was (same_sym x.same)) (picks_at o.front o.m o.behind) in
      let c = cut k.picks in
      let rests : Same (c.front ++ c.behind) (o.front ++ o.behind) = same_sym (subst (λ (l : List SThread). Same (o.front ++ o.behind) l) c.rest k.same) in
      let step : ByRule sum (table_in s) (c.front ++ (o.m ∷ c.behind)) p.0 (c.front ++ (o.m' ∷ (o.new ++ c.behind))) (pick sum code s i).event = record { step = preempted c.front (o.step c.behind); rule = o.rule c.behind ∙ ap some (sym (preempted_rule c.front (o.step c.behind))) } in
      let there : ByRule sum (table_in s) (c.front ++ (o.m ∷ c.behind)) (table_in (pick sum code s i).state) (c.front ++ (o.m' ∷ (o.new ++ c.behind))) (pick sum code s i).event = subst (λ (h : Table). ByRule sum (table_in s) (c.front ++ (o.m ∷ c.behind)) h (c.front ++ (o.m' ∷ (o.new ++ c.behind))) (pick sum code s i).event) (sym o.heap) step in (
        c.front ++ (o.m' ∷ (o.new ++ c.behind)),
        (
          named_same (pick sum code s i).event (sym c.whole) refl there,
          record { threads = o.front ++ (o.m' ∷ (o.behind ++ o.new)); ordered = o.left; same = same_left o.m' o.new c.front c.behind o.front o.behind rests },
        ),
      )

  -- and each step of such a soup is such a pick
  pub step_is_pick_same : (sum : Rule) (s : State) → Fits code s → Typed s → (soup : List SThread) → StandsFor code s soup → (h' : Table) (soup' : List SThread) → (step : StepM sum (table_in s) soup h' soup') → (i : ℕ) × ((named (pick sum code s i).event ≡ some (rule_of step)) × ((table_in (pick sum code s i).state ≡ h') × StandsFor code (pick sum code s i).state soup'))
  step_is_pick_same sum s f y soup x h' soup' st =
      let d = peel st in
      let w = own d.step d.first in
      let k = take_both (subst (λ (l : List SThread). Same l x.threads) d.was x.same) (picks_at d.front d.m d.behind) in
      let c = cut k.picks in
      let rests : Same (d.front ++ d.behind) (c.front ++ c.behind) = subst (λ (l : List SThread). Same (d.front ++ d.behind) l) c.rest k.same in
      let moved = renamed (sym c.whole) (preempted c.front (w.step c.behind)) in
      let p = step_is_pick sum s f y x.threads x.ordered h' (c.front ++ (w.m' ∷ (w.new ++ c.behind))) moved.0 in
      let o = p.1.1.1 in
      let by = p.1.1.0 ∙ ap some (moved.1 ∙ (preempted_rule c.front (w.step c.behind) ∙ (w.rule c.behind ∙ d.rule))) in
      let left : soup' ≡ d.front ++ (w.m' ∷ (w.new ++ d.behind)) = d.becomes ∙ ap (λ (l : List SThread). d.front ++ l) w.leaves in
      let one : Same (d.front ++ (w.m' ∷ (w.new ++ d.behind))) (c.front ++ (w.m' ∷ (c.behind ++ w.new))) = same_left w.m' w.new d.front d.behind c.front c.behind rests in
      let two : Same (c.front ++ (w.m' ∷ (w.new ++ c.behind))) (c.front ++ (w.m' ∷ (c.behind ++ w.new))) = same_left w.m' w.new c.front c.behind c.front c.behind (same_refl (c.front ++ c.behind)) in
      let three : Same (o.front ++ (o.m' ∷ (o.new ++ o.behind))) (o.front ++ (o.m' ∷ (o.behind ++ o.new))) = same_left o.m' o.new o.front o.behind o.front o.behind (same_refl (o.front ++ o.behind)) in
      let all : Same soup' (o.front ++ (o.m' ∷ (o.behind ++ o.new))) = subst (λ (l : List SThread). Same l (o.front ++ (o.m' ∷ (o.behind ++ o.new)))) (sym left) (same_trans one (same_trans (same_sym two) (subst (λ (l : List SThread). Same l (o.front ++ (o.m' ∷ (o.behind ++ o.new)))) (sym o.becomes) three))) in
      (p.0, (by, (o.heap, record { threads = o.front ++ (o.m' ∷ (o.behind ++ o.new)); ordered = o.left; same = all })))

  -- a run of picks is a chain of steps of the source's machine, from any soup that the state stands for
  pub run_is_steps : (sum : Rule) (is : List ℕ) (s : State) → Fits code s → Typed s → (soup : List SThread) → StandsFor code s soup → (soup' : List SThread) × (StepsM sum (table_in s) soup (table_in (run sum code s is).state) soup' × StandsFor code (run sum code s is).state soup')
  unfolding run
  run_is_steps sum [] s f y soup x = (soup, (stop, x))
  run_is_steps sum (i ∷ is) s f y soup x = go (is_idle (pick sum code s i).event) refl (λ soup₁ z. run_is_steps sum is (pick sum code s i).state (step_fits c sum s f y i).0 (step_fits c sum s f y i).1 soup₁ z)
    where
      s₁ : State
      s₁ = (pick sum code s i).state

      go : (b : Bool) → is_idle (pick sum code s i).event ≡ b → ((soup₁ : List SThread) → StandsFor code (pick sum code s i).state soup₁ → (soup' : List SThread) × (StepsM sum (table_in (pick sum code s i).state) soup₁ (table_in (run sum code (pick sum code s i).state is).state) soup' × StandsFor code (run sum code (pick sum code s i).state is).state soup')) → (soup' : List SThread) × (StepsM sum (table_in s) soup (table_in (run sum code (pick sum code s i).state is).state) soup' × StandsFor code (run sum code (pick sum code s i).state is).state soup')
      go true e rec =
          let q : (pick sum code s i).state ≡ s = idle_keeps sum code s i e in
          let r = rec soup (subst (λ (z : State). StandsFor code z soup) (sym q) x) in
          (r.0, (subst (λ (z : State). StepsM sum (table_in z) soup (table_in (run sum code (pick sum code s i).state is).state) r.0) q r.1.0, r.1.1))
      go false e rec =
          let p = pick_is_step_same sum s f y soup x i e in
          let r = rec p.0 p.1.1 in
          (r.0, (then p.1.0.step r.1.0, r.1.1))
