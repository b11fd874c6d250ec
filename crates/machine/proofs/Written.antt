-- Document 02 No. 6: "how often commits have written it", of every state with 64 counts. Assumes nothing.
use Prim.Native.Nat.{ℕ, ◌+◌, ◌<◌}
use mathlib.Core.Bool.{Bool, true, false, not, ◌&&◌, ◌||◌}
use mathlib.Core.Path.{◌≡◌, refl, ap, ◌∙◌}
use mathlib.Core.List.{List, [], ◌∷◌}
use native.Mathlib.Omega.{arith}
use lib.Dec.{eqb, ltb}
use lib.ListN.{length, drop, get_or}
use Rattle.code.specs.Ops.{Op, op_at}
use Rattle.code.specs.Ops as code
use Rattle.machine.specs.Steps.{State, table_in, Acted, committing, commit, act, perform, Stepped, number_of, thread_at, settle, doing, pick_among, pick, run}
use Rattle.machine.specs.Written.{writes, written}
use Rattle.machine.proofs.Stale.{recounted_at, recounted_length}
use Rattle.script.specs.Outcome.{Outcome, refused, done}
use Rattle.stm.specs.Counted.{Table}
use Rattle.stm.specs.Events.{idle, is_commit, more}
use Rattle.thread.specs.declared.Thread.{Thread}
use Rattle.thread.specs.Threads.{exists, first_stale}
use Rattle.word.specs.Registers.{member}
use Rattle.word.specs.Sum.{Rule}

-- what an instruction of this record leaves of the counts
record Counting (table : Table) (t : Thread) (a : Acted) : Type 0 where
  long : length a.table.counts ≡ length table.counts
  each : (v : ℕ) → v < 64 → length table.counts ≡ 64 → get_or a.table.counts v 0 ≡ more (is_commit a.event && member t.writes v) (get_or table.counts v 0)

commit_counts : (table : Table) (t : Thread) (n : ℕ) → Counting table t (commit table t n)
unfolding commit
commit_counts table t n = go (ltb n 64)
  where
    go : (b : Bool) → Counting table t (committing b table t n)
    go true = record { long = refl; each = λ v l e. refl }
    go false = record { long = recounted_length 64 0 t table.counts; each = λ v l e. recounted_at 64 0 t table.counts v (omega arith) (omega arith) (omega arith) }

act_counts : (sum : Rule) (table : Table) (t : Thread) (op : Op) → Counting table t (act sum table t op)
unfolding act perform
act_counts sum table t (code.push n) = record { long = refl; each = λ v l e. refl }
act_counts sum table t code.add = record { long = refl; each = λ v l e. refl }
act_counts sum table t (code.read u) = record { long = refl; each = λ v l e. refl }
act_counts sum table t (code.write u) = record { long = refl; each = λ v l e. refl }
act_counts sum table t code.begin = record { long = refl; each = λ v l e. refl }
act_counts sum table t code.commit = let a = commit_counts table t (first_stale 64 0 t table) in record { long = a.long; each = a.each }
act_counts sum table t (code.fork size) = record { long = refl; each = λ v l e. refl }

module _ (sum : Rule) (bytes : List ℕ) where
  pub record Raised (s : State) (i : ℕ) (r : Stepped) : Type 0 where
    pub long : length r.state.counts ≡ length s.counts
    pub each : (v : ℕ) → v < 64 → length s.counts ≡ 64 → get_or r.state.counts v 0 ≡ more (is_commit r.event && member (thread_at s i).writes v) (get_or s.counts v 0)

  pub pick_raises : (s : State) (i : ℕ) → Raised s i (pick sum bytes s i)
  unfolding pick_among settle
  pick_raises s i = go (not (ltb i (length s.threads)) || (not (exists (thread_at s i)) || eqb (thread_at s i).place (thread_at s i).end))
    where
      op : (o : Outcome Op) → Raised s i (doing sum (number_of s.threads) s i (thread_at s i) o)
      op (refused n p) = record { long = refl; each = λ v l e. refl }
      op (done o) = let a = act_counts sum (table_in s) (thread_at s i) o in record { long = a.long; each = a.each }

      go : (b : Bool) → Raised s i (elim b [ true ↦ record { state = s; event = idle; over = 0 } | false ↦ doing sum (number_of s.threads) s i (thread_at s i) (op_at (drop (thread_at s i).place bytes)) ])
      go true = record { long = refl; each = λ v l e. refl }
      go false = op (op_at (drop (thread_at s i).place bytes))

  -- "The register table carries, beside each value, how often commits have written it"
  pub run_written : (is : List ℕ) (s : State) → length s.counts ≡ 64 → (v : ℕ) → v < 64 → get_or (run sum bytes s is).state.counts v 0 ≡ get_or s.counts v 0 + written sum bytes s is v
  unfolding run written
  run_written [] s e v l = omega arith
  run_written (i ∷ is) s e v l =
      let p = pick_raises s i in
      let k = run_written is (pick sum bytes s i).state (p.long ∙ e) v l in
      k ∙ (ap (λ (n : ℕ). n + written sum bytes (pick sum bytes s i).state is v) (p.each v l e) ∙ sums (writes sum bytes s i v))
    where
      sums : (b : Bool) → more b (get_or s.counts v 0) + written sum bytes (pick sum bytes s i).state is v ≡ get_or s.counts v 0 + more b (written sum bytes (pick sum bytes s i).state is v)
      sums true = omega arith
      sums false = refl
