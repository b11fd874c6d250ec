-- What the loop has counted is what the forecast answers. Assumes nothing.
use Prim.Native.Nat.{ℕ, ◌+◌, ◌*◌, ◌-◌}
use mathlib.Core.Path.{◌≡◌, refl, ◌∙◌}
use mathlib.Core.List.{List}
use native.Mathlib.Omega.{arith}
use Rattle.forecast.specs.declared.ForecastReply.{ForecastReply}
use Rattle.forecast.specs.Figures.{figures}
use Rattle.forecast.specs.InnerWalk.{Accepts}
use Rattle.forecast.proofs.Fold.{Tally, Told}
use Rattle.job.specs.declared.Accepted.{Accepted}
use Rattle.job.specs.Answer.{answer}
use Rattle.script.specs.Tree.{Proc}
use Rattle.script.specs.Count.{threads, bound as boundOf, code_length}
use Rattle.script.specs.Jobs.{Job}
use Rattle.script.specs.Outcome.{Outcome, refused, done}
use Rattle.script.specs.Reader.{read_job}

-- the figures of a tree, as they are answered
abbrev answered : (long bound : ℕ) → Tally → ForecastReply
answered long bound t =
    record {
      refusal = 0;
      place = 0;
      length = long;
      transactions = t.counts.transactions;
      threads = t.counts.forks + 1;
      instructions = t.counts.instructions;
      longest = t.counts.longest;
      bound = bound;
      reads = t.counts.reads;
      writes = t.counts.writes;
      heights = t.heights;
    }

pub figures_told : (tree : Proc) (t : Tally) (long bound : ℕ) → Told tree t → long ≡ code_length tree → bound ≡ t.counts.instructions + (t.counts.transactions - 1) * t.counts.forks * t.counts.longest → answered long bound t ≡ figures tree
unfolding figures threads boundOf
figures_told tree t long bound d l b =
    let k : t.counts.forks + 1 ≡ threads tree = omega (arith, d.forks) in
    let n : t.counts.forks ≡ threads tree - 1 = omega arith in
    let m : bound ≡ boundOf tree = b ∙ (rw (n, d.instructions, d.transactions, d.longest) refl) in
    rw (k, l, m, d.transactions, d.instructions, d.longest, d.reads, d.writes, d.heights)

-- the reader's answer tells the job
pub was_accepted : (o : Outcome Job) (a : Accepted) → answer o ≡ done a → (bs : List ℕ) → read_job bs ≡ o → Accepts bs a.length
was_accepted (refused n p) a e bs r = absurd (let z : ◌≡◌ {A = ℕ} 0 1 = cc in omega arith)
was_accepted (done j) a e bs r = record { job = j; read = r; long = cc }
