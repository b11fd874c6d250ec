-- `compiler::compile` meets its contract: the reader's refusals, then 10, then the header and the root's code. Assumes nothing.
use Prim.Native.Nat.{ℕ}
use mathlib.Core.List.{List}
use mathlib.Core.Path.{◌≡◌}
use native.Mathlib.Omega.{arith}
use lib.ListN.{get_or}
use mir.Syntax.{w8}
use mir.Val.{Fits}
use Rattle.std.proofs.lemmas.Result.{err_from_is_err_and}
use Rattle.script.specs.Outcome.{done}
use Rattle.script.specs.Tree.{process}
use Rattle.script.specs.Reader.{read_job}
use Rattle.job.specs.declared.Accepted.{Accepted}
use Rattle.job.specs.Answer.{answer}
use Rattle.compiler.proofs.Whole.{AcceptedJob, bytes_of, found, turned-down, short, compiles}
use Rattle.compiler.proofs.compile.Goals as goal

-- the job that was read, where the reader accepted
accepted : {job : List ℕ} {a : Accepted} → ((i : ℕ) → Fits w8 (get_or job i 0)) → done a ≡ answer (read_job job) → AcceptedJob job a.version a.length
accepted {job} {a} h e = found job (bytes_of job h) a e

pub returns-in_err-accepted : goal.returns-in_err-accepted
returns-in_err-accepted c = let p = err_from_is_err_and c.from_residual.result c.from_residual.ensures.1 in rw (p.1, p.2) (turned-down c.args.job.now c.args.out.now _ _ c.in_err-accepted.ensures)

pub returns-then-out-accepted : goal.returns-then-out-accepted
returns-then-out-accepted c = rw c.at.ensures (short c.args.job.now c.args.out.now _ _ (accepted c.type_inv.job c.in_ok-accepted.ensures) c.if-out-accepted.true)

pub put_header-requires : goal.put_header-requires
put_header-requires c = omega (arith, (accepted c.type_inv.job c.in_ok-accepted.ensures).least, c.if-out-accepted.false)

pub slice_bounds-emit-count : goal.slice_bounds-emit-count
slice_bounds-emit-count c = omega (arith, (accepted c.type_inv.job c.in_ok-accepted.ensures).least, c.if-out-accepted.false, c.put_header.auto.out)

pub slice_bounds-emit-start : goal.slice_bounds-emit-start
slice_bounds-emit-start c = slice_bounds-emit-count c

pub emit-requires : goal.emit-requires
emit-requires c = (accepted c.type_inv.job c.in_ok-accepted.ensures).ready c.put_header.new.out (omega (arith, c.if-out-accepted.false, c.put_header.auto.out))

pub returns : goal.returns
returns c =
    let f = accepted c.type_inv.job c.in_ok-accepted.ensures in
    compiles c.args.job.now c.args.out.now _ _ _ _ _ f c.if-out-accepted.false c.put_header.ensures (c.emit.ensures process f.job.tree f.there)
