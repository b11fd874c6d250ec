-- Document 02 No. 3 holds. Assumes nothing.
use Prim.Native.Nat.{ℕ, ◌+◌, ◌≤◌}
use mathlib.Core.Logic.{◌⊎◌, inl, inr}
use mathlib.Core.Path.{◌≡◌, refl, sym, ap, subst, ◌∙◌}
use mathlib.Core.List.{List, ◌∷◌, ◌++◌}
use native.Mathlib.Omega.{arith}
use lib.ListN.{length}
use Rattle.code.proofs.Foreign.{long_is_foreign}
use Rattle.guarantee.specs.Rows as rows
use Rattle.guarantee.proofs.Forecasts.{forecasts}
use Rattle.guarantee.proofs.Rows.{compile_rows}
use Rattle.guarantee.specs.LongTransactions.{AllShort, OfTree, LongTransactions}
use Rattle.script.specs.Bytes.{Bytes, node_bytes, bytes16, bytes_t, bytes_p, job_mark, job_bytes}
use Rattle.script.specs.Count.{nodes_p, longest, longest_nodes}
use Rattle.script.specs.Jobs.{Job}
use Rattle.script.specs.Outcome.{Outcome, refused, done, onward, mapped}
use Rattle.script.specs.Reader.{read_tree, short_from, short_only, read_job}
use Rattle.script.specs.Refusal.{IsJob, IsTree, AtomicAt, FirstLong, long}
use Rattle.script.specs.Tree.{Tran, Proc, ValP, AddP, Atomic, Fork}
use Rattle.script.proofs.Accepts.{tree_is_read, short-from, accepted_is_job, job_is_accepted}
use Rattle.script.proofs.Long.{Judged, short, long as too-long, judged, atomic_most, atomics_short, atomic_stands}
use Rattle.script.proofs.Refuses.{refused_is_read}

-- M is the longest transaction's nodes, with BEGIN and COMMIT
longest_most : (p : Proc) → longest p ≤ longest_nodes p + 2
unfolding longest longest_nodes
longest_most (ValP n) = omega arith
longest_most (AddP a b) = omega (arith, longest_most a, longest_most b)
longest_most (Atomic t) = omega arith
longest_most (Fork p) = longest_most p

module _ (job : List ℕ) (j : Job) (b : Bytes job) (tree : IsTree job j) where
  all_short : AllShort j → longest_nodes j.tree ≤ 200
  all_short h = atomics_short 200 j.tree h

  short_all : longest_nodes j.tree ≤ 200 → AllShort j
  short_all h t i s = omega (arith, atomic_most s)

  stands : (t : Tran) (i : ℕ) → AtomicAt t j.tree i → (before : List ℕ) × (behind : List ℕ) × (length before ≡ 7 + i) × (job ≡ before ++ (3 ∷ (bytes_t t ++ behind)))
  unfolding job_bytes job_mark bytes16 bytes_p node_bytes
  stands t i s =
      let w = atomic_stands s in
      let header : List ℕ → List ℕ = λ l. job_mark ++ (bytes16 j.version ++ (bytes16 (nodes_p j.tree) ++ l)) in
      (header w.before, w.behind, omega (arith, w.place), tree.text ∙ ap header w.whole_is)

  is_job : longest_nodes j.tree ≤ 200 → IsJob job j
  is_job h = record { version = tree.version; within = record { sized = tree.sized; short = h }; text = tree.text }

  reads : read_tree job ≡ done j
  reads = tree_is_read job j tree

  accepted_short : read_job job ≡ done j → longest_nodes j.tree ≤ 200
  unfolding read_job
  accepted_short e = (short-from (read_tree job) j e).1

  first : (i : ℕ) → read_job job ≡ refused 14 (7 + i) → FirstLong j.tree i
  unfolding read_job
  first i e = go (short_from 7 j.tree) (judged 7 j.tree) (sym (ap (λ (o : Outcome Job). onward o short_only) reads) ∙ e)
    where
      go : (o : Outcome (Unit {0})) → Judged 7 j.tree o → mapped (λ (u : Unit {0}). j) o ≡ refused 14 (7 + i) → FirstLong j.tree i
      go _ (short h) r = absurd (let z : ◌≡◌ {A = ℕ} 0 1 = cc in omega arith)
      go _ (too-long {i = k} {at = at} f l) r =
          let m : at ≡ 7 + i = cc in
          let n : k ≡ i = omega arith in
          subst (FirstLong j.tree) n f

  decided : AllShort j ⊎ ((i : ℕ) × FirstLong j.tree i)
  decided = go (short_from 7 j.tree) (judged 7 j.tree)
    where
      go : (o : Outcome (Unit {0})) → Judged 7 j.tree o → AllShort j ⊎ ((i : ℕ) × FirstLong j.tree i)
      go _ (short h) = inl (short_all h)
      go _ (too-long {i = i} f e) = inr (i, f)

  refuses : (i : ℕ) → FirstLong j.tree i → read_job job ≡ refused 14 (7 + i)
  refuses i f = refused_is_read (long tree f)

  of_tree : OfTree job j
  of_tree =
      record {
        stands = stands;
        decided = decided;
        taken = (λ h. job_is_accepted job j (is_job (all_short h)), λ e. short_all (accepted_short e));
        turned-down = λ i. (refuses i, first i);
        forecast = λ i. (λ f. (forecasts.refused job b 14 (7 + i)).0 (long tree f), λ e. first i (refused_is_read ((forecasts.refused job b 14 (7 + i)).1 e)));
        compiling = λ i f before. sym ((compile_rows job before b _).0 (rows.refused (long tree f)));
        foreign = λ i f. long_is_foreign j tree.version tree.sized (omega (arith, atomic_most f.stands, f.long));
        not_foreign = λ h f. f job j b (job_is_accepted job j (is_job (all_short h))) refl;
      }

pub long_transactions : LongTransactions
long_transactions =
    record {
      of_tree = of_tree;
      longest = λ job j b e. omega (arith, longest_most j.tree, (accepted_is_job job j b e).within.short);
    }
