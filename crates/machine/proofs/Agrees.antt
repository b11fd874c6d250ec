-- For code that is not foreign: steps keep the fit of a state, and a pick that is not idle does one instruction. Assumes nothing.
use Prim.Native.Nat.{ℕ}
use mathlib.Core.Bool.{true}
use mathlib.Core.Path.{◌≡◌, ap, ◌∙◌}
use mathlib.Core.List.{List}
use borrow.Author.Tests.{lt-ltb}
use lib.Dec.{ltb}
use lib.ListN.{length}
use Rattle.code.specs.Compile.{Instruction, Code, ε, ◌⨾◌, compile_p}
use Rattle.code.specs.Bytes.{IsCode}
use Rattle.script.specs.Jobs.{Job}
use Rattle.machine.specs.Steps.{State, Stepped, number_of, thread_at, settle, pick, run, DoesOne, table_in}
use Rattle.machine.specs.Fits.{Exists, Fits, Typed}
use Rattle.machine.specs.InnerStands.{register_cells, op_of, Ready}
use Rattle.machine.proofs.Numbers.{in_table}
use Rattle.machine.proofs.Codes.{stands_end, ready_op}
use Rattle.machine.proofs.Showings.{Shows, shut, open'}
use Rattle.machine.proofs.Picks.{never_idle, does as picks}
use Rattle.machine.proofs.Mirrors.{no_inside}
use Rattle.machine.proofs.Regions.{held}
use Rattle.machine.proofs.Runs.{shows_of, mirror, pick_keeps, run_keeps}
use Rattle.stm.specs.Events.{is_idle}
use Rattle.stm.specs.InnerTasks.{Task}
use Rattle.stm.specs.InnerMeaning.{Outside}
use Rattle.stm.proofs.Bound.{outside_proc}
use Rattle.word.specs.Sum.{Rule}

module _ {code : List ℕ} {j : Job} (c : IsCode code j) where
  -- a job's code runs from an empty stack
  pub outer : Outside (compile_p j.tree ε) 0
  outer = outside_proc j.tree c.within.sized.valued

  -- "each step leaves a state that fits as one that fits, what it frees being 0"
  pub step_fits : (sum : Rule) (s : State) → Fits code s → Typed s → (i : ℕ) → Fits code (pick sum code s i).state × Typed (pick sum code s i).state
  step_fits sum s f y i =
      let m = mirror c outer s f y in
      let k = pick_keeps c outer sum s m.0 f y m.1 i in
      (k.fits, k.typed)

  -- and so does a run
  pub run_fits : (sum : Rule) (s : State) → Fits code s → Typed s → (is : List ℕ) → Fits code (run sum code s is).state × Typed (run sum code s is).state
  run_fits sum s f y is =
      let m = mirror c outer s f y in
      let k = run_keeps c outer sum is s m.0 f y m.1 in
      (k.fits, k.typed)

  -- "Each other pick does one instruction", and is not idle
  pub does_one : (sum : Rule) (s : State) → Fits code s → Typed s → (i : ℕ) → Exists s i → ((thread_at s i).place ≡ (thread_at s i).end → ⊥) → DoesOne sum code s i
  unfolding settle
  does_one sum s f y i e ne = go (shows_of (held c outer s f y i e))
    where
      one : {ins : Instruction} {k : Code} → Ready code (thread_at s i).place (thread_at s i).end (ins ⨾ k) (thread_at s i).height → DoesOne sum code s i
      one {ins} r =
          let small : ltb i (length s.threads) ≡ true = lt-ltb i (length s.threads) (in_table s i e) in
          let d = picks sum code (number_of s.threads) s i (op_of ins) small e ne (ready_op r) in
          record { op = op_of ins; at_place = ready_op r; does = d; not_idle = ap (λ (x : Stepped). is_idle x.event) d ∙ never_idle sum (table_in s) (thread_at s i) (op_of ins) }

      go : (task : Task register_cells) × Shows code (thread_at s i) task → DoesOne sum code s i
      go (t, shut ε r o z) = absurd (ne (stands_end r.stands))
      go (t, shut (ins ⨾ k) r o z) = one r
      go (t, open' body ε k r o h w g x q) = absurd (no_inside k (thread_at s i).base o)
      go (t, open' body (ins ⨾ k) n r o h w g x q) = one r
