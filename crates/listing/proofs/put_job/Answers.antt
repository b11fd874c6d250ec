-- `listing::put_job` meets its contract. Assumes nothing.
use Prim.Native.Nat.{ℕ}
use mathlib.Core.Path.{sym, ap, ◌∙◌}
use lib.ListN.{length, length-replicate}
use Rattle.code.specs.Reader.{read_code}
use Rattle.script.proofs.Numbers.{bytes_of}
use Rattle.terms.specs.Numbers.{outcome}
use Rattle.listing.proofs.Jobs.{refused_job, coded, coded_run, code_within}
use Rattle.listing.proofs.put_job.Goals as goal

pub slice_bounds-code-end : goal.slice_bounds-code-end
slice_bounds-code-end c = let k = coded _ _ (bytes_of _ c.type_inv.job) (length-replicate {A = ℕ} 5005 0) _ _ c.compile.ensures _ (ap outcome c.in-Ok.is) in code_within k

pub slice_bounds-put_run-end : goal.slice_bounds-put_run-end
slice_bounds-put_run-end c = let k = coded _ _ (bytes_of _ c.type_inv.job) (length-replicate {A = ℕ} 5005 0) _ _ c.compile.ensures _ (ap outcome c.in-Ok.is) in k.size ∙ sym (ap length k.front)

pub put_run-requires-clause-accepted : goal.put_run-requires-clause-accepted
put_run-requires-clause-accepted c = let k = coded _ _ (bytes_of _ c.type_inv.job) (length-replicate {A = ℕ} 5005 0) _ _ c.compile.ensures _ (ap outcome c.in-Ok.is) in (k.job, ap read_code k.front ∙ k.read)

pub returns-in-Err : goal.returns-in-Err
returns-in-Err c = c.put_refused.ensures ∙ refused_job _ _ (bytes_of _ c.type_inv.job) (length-replicate {A = ℕ} 5005 0) _ _ c.compile.ensures _ _ _ (ap outcome c.in-Err.is)

pub returns-in-Ok : goal.returns-in-Ok
returns-in-Ok c = let k = coded _ _ (bytes_of _ c.type_inv.job) (length-replicate {A = ℕ} 5005 0) _ _ c.compile.ensures _ (ap outcome c.in-Ok.is) in c.put_run.ensures ∙ coded_run _ _ _ k
