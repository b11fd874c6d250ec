-- A run cut in two leaves the same and reports the same as in one call, from every state that is lent. Assumes nothing.
use Prim.Native.Nat.{ℕ, ◌+◌, ◌≤◌}
use mathlib.Core.Bool.{Bool, true, false}
use mathlib.Core.Path.{◌≡◌, refl, sym}
use mathlib.Core.List.{List, ◌++◌}
use native.Mathlib.Omega.{arith}
use borrow.Author.Tests.{le-ltb}
use lib.ListN.{length, length-append}
use Rattle.code.specs.Bytes.{IsCode}
use Rattle.code.specs.Reader.{read_code}
use Rattle.machine.specs.Answers.{sum_of, run_of, run_reply, run_call, run_counts}
use Rattle.machine.specs.Fits.{Typed}
use Rattle.machine.specs.FitTest.{fits}
use Rattle.machine.specs.Steps.{State, run}
use Rattle.machine.proofs.Agrees.{run_fits}
use Rattle.machine.proofs.Calls.{run_refused, run_taken}
use Rattle.machine.proofs.FitTests.{fits_exactly}
use Rattle.machine.proofs.Picks.{run_append}
use Rattle.script.specs.Jobs.{Job}
use Rattle.script.specs.Outcome.{refused, done}
use Rattle.stm.specs.Events.{together, uncounted}
use Rattle.stm.proofs.Counts.{together_none, counts_append}

module _ {code : List ℕ} {j : Job} (c : IsCode code j) (read : read_code code ≡ done j) where
  -- a call that is taken, and one that is refused
  taken : (s : State) (is : List ℕ) → fits code s ≡ true → length is ≤ 32768 → run_call code s is ≡ record { state = (run (sum_of j) code s is).state; reply = run_reply (done (run (sum_of j) code s is)) }
  unfolding run_of
  taken s is f l =
      let e : run_of code s is ≡ done (run (sum_of j) code s is) = rw (read, f, le-ltb 32768 (length is) l) in
      run_taken code s is (run (sum_of j) code s is) e

  turned-down : (s : State) (is : List ℕ) → fits code s ≡ false → run_call code s is ≡ record { state = s; reply = run_reply (refused 12 0) }
  unfolding run_of
  turned-down s is f =
      let e : run_of code s is ≡ refused 12 0 = rw (read, f) in
      run_refused code s is 12 0 e

  abbrev Cut : State → List ℕ → List ℕ → Type 0
  Cut s is js =
      let first = run_call code s is in
      let second = run_call code first.state js in
      ((run_call code s (is ++ js)).state ≡ second.state) × (run_counts (run_call code s (is ++ js)).reply ≡ together (run_counts first.reply) (run_counts second.reply))

  pub run_cut : (s : State) (is js : List ℕ) → Typed s → length (is ++ js) ≤ 32768 → Cut s is js
  run_cut s is js y l = go (fits code s) refl
    where
      long : length (is ++ js) ≡ length is + length js
      long = length-append is js

      go : (b : Bool) → fits code s ≡ b → Cut s is js
      go false f =
          let a = turned-down s (is ++ js) f in
          let b = turned-down s is f in
          let d = turned-down s js f in
          rw (a, b, d) (refl, sym (together_none uncounted))
      go true f =
          let g = run_fits c (sum_of j) s ((fits_exactly code s y).0 f) y is in
          let mid = (fits_exactly code (run (sum_of j) code s is).state g.1).1 g.0 in
          let a = taken s (is ++ js) f l in
          let b = taken s is f (omega (arith, l, long)) in
          let d = taken (run (sum_of j) code s is).state js mid (omega (arith, l, long)) in
          let m = run_append (sum_of j) code s is js in
          rw (a, b, d, m) (refl, counts_append (run (sum_of j) code s is).events (run (sum_of j) code (run (sum_of j) code s is).state js).events)
