-- `scan::pass::Scan::start` meets its contract. Assumes nothing.
use mathlib.Core.Path.{refl}
use Rattle.scan.specs.InnerView.{stack_of, ends_of}
use Rattle.code.specs.InnerScan.{scan_start}
use Rattle.scan.proofs.pass.Scan.start.Goals as goal

pub returns-clause-view : goal.returns-clause-view
unfolding scan_start stack_of ends_of
returns-clause-view c = refl
