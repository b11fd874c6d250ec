-- Document 02 No. 13: what another job does to the table leaves a state that fits as one that fits. Assumes nothing.
use Prim.Native.Nat.{ℕ, ◌+◌, ◌≤◌}
use mathlib.Core.Bool.{Bool, true, false}
use mathlib.Core.Path.{◌≡◌, refl, sym, subst}
use mathlib.Core.List.{List}
use native.Mathlib.Omega.{arith}
use lib.ListN.{get_or}
use Rattle.machine.specs.Fits.{BacksWithin, FitsBeside}
use Rattle.machine.specs.Steps.{State, table_in, thread_at}
use Rattle.machine.proofs.Keeps.{Sized}
use Rattle.machine.proofs.Stale.{Grown}
use Rattle.stm.specs.Counted.{Table}
use Rattle.stm.specs.Events.{more}
use Rattle.thread.specs.declared.Thread.{Thread}

-- a step of the other job: no commit, and the table is as it was; or a commit, and each count grows by one at most
pub record OtherStep (commits : Bool) (before after : Table) : Type 0 where
  pub sized : Sized after
  pub still : commits ≡ false → after ≡ before
  pub grown : (v : ℕ) → Grown commits (get_or before.counts v 0) (get_or after.counts v 0)

pub beside_fits : {others : ℕ} {bytes : List ℕ} (s : State) → FitsBeside others bytes s → (commits : Bool) (table : Table) → OtherStep commits (table_in s) table
    → FitsBeside (more commits others) bytes (record { registers = table.registers; counts = table.counts; threads = s.threads })
beside_fits {others} {bytes} s f commits table o =
    record {
      records = f.records;
      registers = o.sized.registers;
      counts = o.sized.counts;
      root = f.root;
      child = λ i h. let k = f.child i h in record { parent = k.parent; there = k.there; passed = k.passed };
      one = λ c h. let r = f.one c (record { parent = h.parent; there = h.there; passed = h.passed }) in record { thread = r.thread; its = record { there = r.its.there; own = r.its.own }; alone = λ i a. r.alone i (record { there = a.there; own = a.own }) };
      placed = f.placed;
      no_gap = f.no_gap;
      no_thread = f.no_thread;
      commits = f.commits;
      passed = f.passed;
      tallied = λ i h. go commits o.still o.grown (thread_at s i) (f.tallied i h);
      counted = λ v. most commits v (o.grown v) (f.counted v);
    }
  where
    most : (b : Bool) (v : ℕ) → Grown b (get_or s.counts v 0) (get_or table.counts v 0) → get_or s.counts v 0 ≤ others + f.commits → get_or table.counts v 0 ≤ more b others + f.commits
    most true v g l = let a = g.1 in omega arith
    most false v g l = let a = g.1 in omega arith

    go : (b : Bool) → (b ≡ false → table ≡ table_in s) → ((v : ℕ) → Grown b (get_or s.counts v 0) (get_or table.counts v 0)) → (t : Thread) → BacksWithin (others + f.commits) (table_in s) t
        → BacksWithin (more b others + f.commits) table t
    go true e g t x =
        let a = x.not-above in
        record { not-above = omega arith; not_stale = λ q. absurd (omega arith); not-ahead = λ v. let p = x.not-ahead v in let r = (g v).0 in omega arith }
    go false e g t x = subst (λ (h : Table). BacksWithin (others + f.commits) h t) (sym (e refl)) x
