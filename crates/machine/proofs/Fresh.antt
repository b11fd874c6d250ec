-- A fresh state fits its code, is of its type, and shows the job's code alone. Assumes nothing.
use Prim.Native.Nat.{ℕ, zero, suc, ◌<◌}
use mathlib.Core.Bool.{false}
use mathlib.Core.Path.{◌≡◌, refl, sym, ap, subst, ◌∙◌}
use mathlib.Core.List.{List, [], ◌∷◌}
use native.Mathlib.Omega.{arith}
use lib.ListN.{length, get_or, replicate}
use lib.IntN.{pos}
use Rattle.stm.specs.Counted.{Counted}
use Rattle.machine.proofs.Stale.{low_none}
use Rattle.code.specs.Compile.{ε, compile_p}
use Rattle.code.specs.Bytes.{IsCode}
use Rattle.script.specs.Jobs.{Job}
use Rattle.thread.specs.declared.Thread.{Thread}
use Rattle.thread.specs.Threads.{blank, spawned, exists}
use Rattle.machine.specs.Steps.{thread_at, fresh, Child, table_in}
use Rattle.machine.specs.Fits.{Walked, unmoved, starts, In, here, there, Passed, Exists, Placed, BacksWithin, Fits, TypedThread, Typed}
use Rattle.machine.proofs.Walking.{walks_once}
use Rattle.machine.specs.InnerStands.{register_cells, cells_from}
use Rattle.machine.specs.Stands.{stack_from}
use Rattle.machine.proofs.Codes.{code_ready}
use Rattle.machine.proofs.Placings.{typed_spawned, placed_spawned}
use Rattle.machine.proofs.Keeps.{tallied_spawned}
use Rattle.machine.proofs.Passing.{passed_root}
use Rattle.machine.proofs.Showings.{Shows, shut}
use Rattle.machine.proofs.Mirrors.{Mirrors}
use Rattle.machine.proofs.Numbers.{number_is, blank_absent}
use Rattle.stm.specs.InnerTasks.{task_at, start}
use Rattle.stm.specs.InnerMeaning.{Outside}

-- a run of records of no thread
pub no_record : (n i : ℕ) → get_or (replicate n blank) i blank ≡ blank
no_record zero i = refl
no_record (suc n) zero = refl
no_record (suc n) (suc i) = no_record n i

typed_blank : TypedThread blank
unfolding blank
typed_blank = record { cells = refl; readlog = refl; writelog = refl; readcounts = refl }

no_child : (c : Child) (cs : List Child) → cs ≡ [] → In c cs → ⊥
no_child c cs e here = absurd (let z : ◌≡◌ {A = ℕ} 0 1 = cc in omega arith)
no_child c cs e (there x) = absurd (let z : ◌≡◌ {A = ℕ} 0 1 = cc in omega arith)

cells_fresh : (n : ℕ) → cells_from (replicate n (pos 0)) (replicate n 0) ≡ replicate n (record { value = pos 0; count = 0 })
unfolding cells_from
cells_fresh zero = refl
cells_fresh (suc n) = ap (λ (h : List Counted). record { value = pos 0; count = 0 } ∷ h) (cells_fresh n)

module _ (bytes : List ℕ) where
  later : (i : ℕ) → thread_at (fresh bytes) (suc i) ≡ blank
  unfolding fresh
  later i = no_record 15 i

  absent : {A : Type 0} (i : ℕ) → Exists (fresh bytes) (suc i) → A
  absent i e = absurd (let f : exists (thread_at (fresh bytes) (suc i)) ≡ false = ap (λ (t : Thread). exists t) (later i) ∙ blank_absent in let z : ◌≡◌ {A = ℕ} 0 1 = cc in omega arith)

  -- no FORK is passed
  none_passed : (i : ℕ) → Exists (fresh bytes) i → (c : Child) → Passed bytes (thread_at (fresh bytes) i) c → ⊥
  unfolding fresh spawned
  none_passed zero e c p =
      let w : p.walked ≡ unmoved = walks_once bytes 5 (length bytes) p.walks starts in
      no_child c p.walked.children (ap (λ (x : Walked). x.children) w) p.one
  none_passed (suc i) e c p = absent i e

  -- a fresh state is of its type
  pub fresh_typed : Typed (fresh bytes)
  unfolding fresh
  fresh_typed zero = typed_spawned 5 (length bytes)
  fresh_typed (suc i) = subst TypedThread (sym (no_record 15 i)) typed_blank

  -- "A fresh state fits its code"
  pub fresh_fits : Fits bytes (fresh bytes)
  unfolding fresh spawned
  fresh_fits =
      record {
        records = refl;
        registers = refl;
        counts = refl;
        root = refl;
        child = λ i e. absent i e;
        one = λ c f. absurd (none_passed f.parent f.there c f.passed);
        placed = places;
        no_gap = λ i e. absent i e;
        no_thread = blanks;
        commits = 0;
        passed = passed_root 5 (length bytes) 15 (omega arith) refl;
        tallied = tallies;
        counted = λ v. low_none v 0;
      }
    where
      places : (i : ℕ) → Exists (fresh bytes) i → Placed bytes (thread_at (fresh bytes) i)
      places zero e = placed_spawned bytes 5 (length bytes)
      places (suc i) e = absent i e

      tallies : (i : ℕ) → Exists (fresh bytes) i → BacksWithin 0 (table_in (fresh bytes)) (thread_at (fresh bytes) i)
      tallies zero e = tallied_spawned 0 (table_in (fresh bytes)) 5 (length bytes)
      tallies (suc i) e = absent i e

      blanks : (i : ℕ) → exists (thread_at (fresh bytes) i) ≡ false → thread_at (fresh bytes) i ≡ blank
      blanks zero e = absurd (let z : ◌≡◌ {A = ℕ} 0 1 = cc in omega arith)
      blanks (suc i) e = later i

  -- and shows the job's code alone
  pub fresh_mirrors : {j : Job} → IsCode bytes j → Outside (compile_p j.tree ε) 0 → Mirrors bytes (fresh bytes) (start register_cells (compile_p j.tree ε))
  unfolding fresh start spawned stack_from
  fresh_mirrors {j} c o =
      record {
        records = refl;
        table = cells_fresh 64;
        even = refl;
        number = number_is (fresh bytes).threads 1 first (ap (λ (t : Thread). exists t) (later 0) ∙ blank_absent);
        shown = shown;
      }
    where
      first : (i : ℕ) → i < 1 → Exists (fresh bytes) i
      first zero l = refl
      first (suc i) l = absurd (omega arith)

      shown : (i : ℕ) → i < 1 → Shows bytes (thread_at (fresh bytes) i) (task_at register_cells (start register_cells (compile_p j.tree ε)) i)
      shown zero l = shut (compile_p j.tree ε) (code_ready c) o refl
      shown (suc i) l = absurd (omega arith)
