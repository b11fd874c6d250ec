-- COMMIT, by what its loops find and leave. Assumes nothing.
use Prim.Native.Nat.{ℕ, ◌+◌}
use mathlib.Core.Bool.{true}
use mathlib.Core.Path.{◌≡◌, sym, ◌∙◌}
use borrow.Author.Tests.{lt-ltb, le-ltb}
use Rattle.std.specs.Prelude.{Option, Some, None}
use Rattle.stm.specs.Counted.{Table}
use Rattle.thread.specs.declared.Thread.{Thread}
use Rattle.thread.specs.Threads.{closed, first_stale}
use Rattle.thread.specs.InnerStep.{first_stale_in, found_at, stored_in, handed, acting, committed, committed_by, recounted_in, table_from}
use Rattle.thread.proofs.Loops.{first_in, stored-in, found_is, none_is}

module _ (t : Thread) (table : Table) where
  pub commit_back : (v : ℕ) → ◌≡◌ {A = Option ℕ} (Some v) (found_at (first_stale_in 64 0 t.reads t.readcounts table.counts)) → committed_by true v table t ≡ committed table t
  unfolding committed
  commit_back v e =
      let f = found_is v _ e in
      let a : first_stale 64 0 t table ≡ v = sym (first_in 64 0 t table) ∙ f.0 in
      rw (a, lt-ltb v 64 (rw f.0 at f.1))

  pub commit_done : ◌≡◌ {A = Option ℕ} None (found_at (first_stale_in 64 0 t.reads t.readcounts table.counts)) → handed (acting 9 1 t.over (closed (t.place + 1) t.height t)) (table_from (stored_in 64 0 t.writes t.writelog table.registers) (recounted_in 64 0 t.writes table.counts)) ≡ committed table t
  unfolding committed
  commit_done e = rw (le-ltb (first_stale 64 0 t table) 64 (rw (first_in 64 0 t table) at (none_is _ e)), stored-in 64 0 t table.registers)
