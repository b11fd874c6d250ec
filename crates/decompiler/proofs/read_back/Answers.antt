-- `decompiler::read_back` meets its contract: the scan decides, and the pass writes. Assumes nothing.
use Rattle.std.proofs.lemmas.Result.{err_from_is_err_and}
use Rattle.decompiler.proofs.Answers.{refused_answer, found, short_answer, ready, done_answer}
use Rattle.decompiler.proofs.read_back.Goals as goal

pub returns-in_err-scanned : goal.returns-in_err-scanned
returns-in_err-scanned c = let p = err_from_is_err_and c.from_residual.result c.from_residual.ensures.1 in rw (p.1, p.2) (refused_answer c.args.code.now c.args.out.now _ _ c.in_err-scanned.ensures)

pub returns-then-out-scanned : goal.returns-then-out-scanned
returns-then-out-scanned c = rw c.at.ensures (short_answer c.args.code.now c.args.out.now (found c.args.code.now c.args.out.now c.in_ok-scanned.scanned c.in_ok-scanned.ensures) c.if-out-scanned.true)

pub restore-requires : goal.restore-requires
restore-requires c = ready c.args.code.now c.args.out.now (found c.args.code.now c.args.out.now c.in_ok-scanned.scanned c.in_ok-scanned.ensures) c.if-out-scanned.false

pub returns : goal.returns
returns c = done_answer c.args.code.now c.args.out.now (found c.args.code.now c.args.out.now c.in_ok-scanned.scanned c.in_ok-scanned.ensures) _ c.if-out-scanned.false c.restore.ensures
