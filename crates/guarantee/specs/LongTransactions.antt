-- Document 02 No. 3: "A transaction may hold at most 200 nodes, ATOMIC not counted. Code of a longer one is foreign code from now on."
use Rattle.std.specs.Prelude.{ℕ, ◌+◌, ◌≤◌, ◌↔◌, ◌⊎◌, ◌≡◌, List, ◌∷◌, ◌++◌, length}
use Rattle.code.specs.Bytes.{compiled, Foreign}
use Rattle.compiler.specs.CompileTo.{compile_to}
use Rattle.script.specs.Outcome as answer
use Rattle.forecast.specs.Figures.{refused_with, forecast_of}
use Rattle.script.specs.Bytes.{Bytes, bytes_t}
use Rattle.script.specs.Count.{nodes_t, longest}
use Rattle.script.specs.Jobs.{Job}
use Rattle.script.specs.Limits.{most_transaction}
use Rattle.script.specs.Outcome.{refused, done}
use Rattle.script.specs.Reader.{read_job}
use Rattle.script.specs.Refusal.{IsTree, AtomicAt, FirstLong}
use Rattle.script.specs.Tree.{Tran}

-- no transaction of the job's holds more than 200 nodes
abbrev pub AllShort : Job → Type 0
AllShort j = (t : Tran) (i : ℕ) → AtomicAt t j.tree i → nodes_t t ≤ most_transaction

-- what holds of bytes that no test for 1 to 9 turns down, j being the job that they are
pub record OfTree (job : List ℕ) (j : Job) : Type 0 where
  -- where an ATOMIC is said to stand, there its kind byte stands, and its transaction's bytes behind it
  pub stands :
      (t : Tran) (i : ℕ) → AtomicAt t j.tree i →
      (before : List ℕ) × (behind : List ℕ) × (length before ≡ 7 + i) × (job ≡ before ++ (3 ∷ (bytes_t t ++ behind)))
  -- no transaction is too long, or there is a first ATOMIC concerned
  pub decided : AllShort j ⊎ ((i : ℕ) × FirstLong j.tree i)
  -- in the first case, exactly, the job is accepted; in the other it is refused with 14 at "the kind byte of the first ATOMIC concerned"
  pub taken : AllShort j ↔ (read_job job ≡ done j)
  pub turned-down : (i : ℕ) → FirstLong j.tree i ↔ (read_job job ≡ refused 14 (7 + i))
  -- so it is by the forecast; and by compiling "before 10", whatever the output
  pub forecast : (i : ℕ) → FirstLong j.tree i ↔ (forecast_of (read_job job) ≡ refused_with 14 (7 + i))
  pub compiling :
      (i : ℕ) → FirstLong j.tree i →
      (before : List ℕ) → compile_to job before ≡ record { answer = answer.refused 14 (7 + i); output = before }
  -- "Code of a longer one is foreign code from now on", and no other code of such a job
  pub foreign : (i : ℕ) → FirstLong j.tree i → Foreign (compiled j)
  pub not_foreign : AllShort j → Foreign (compiled j) → ⊥

-- document 02 No. 3, of every job that no test for 1 to 9 turns down
pub record LongTransactions : Type 0 where
  pub of_tree : (job : List ℕ) (j : Job) → Bytes job → IsTree job j → OfTree job j
  -- so M is at most 202
  pub longest : (job : List ℕ) (j : Job) → Bytes job → read_job job ≡ done j → longest j.tree ≤ 202
