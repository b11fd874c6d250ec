-- `formula::hand_out` meets its contract. Assumes nothing.
use Rattle.parsing.proofs.Laws as L
use Rattle.formula.proofs.Handing.{turned-down, handed}
use Rattle.formula.proofs.hand_out.Goals as goal

pub returns-in_err-read_job : goal.returns-in_err-read_job
returns-in_err-read_job c = rw (L.err_as _ _ c.from_residual.ensures.1) (turned-down _ _ _ c.in_err-read_job.ensures)

pub returns : goal.returns
returns c = handed _ _ _ _ c.in_ok-read_job.ensures c.deliver.ensures
