-- `scan::pass::Scan::put` meets its contract. Assumes nothing.
use native.Mathlib.Omega.{arith}
use Rattle.scan.proofs.Stack.{put_done}
use Rattle.scan.proofs.pass.Scan.put.Goals as goal

pub returns-clause-view : goal.returns-clause-view
returns-clause-view c = put_done c.args.self.now c.args.height (record { kind = c.args.kind; reach = c.args.reach }) c.args.inside c.args.nodes c.args.forks c.args.size (omega (arith, c.requires.room c.if-reach-gt64.false)) c.if-reach-gt64.false c.if-nodes-gt1000.false c.if-forks-gt15.false
