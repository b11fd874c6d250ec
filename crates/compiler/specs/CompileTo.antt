-- What compiling comes to: the answer, and the whole output.
use Rattle.std.specs.Prelude.{ℕ, List}
use Rattle.code.specs.Bytes.{compiled}
use Rattle.delivery.specs.Delivered.{Delivered, delivered}
use Rattle.script.specs.Outcome.{mapped}
use Rattle.script.specs.Reader.{read_job}

-- the job's refusals, 1 to 9 and 14, "Then 10"; else the code stands at the output's start
unfoldable pub compile_to : (job before : List ℕ) → Delivered
compile_to job before = delivered (mapped compiled (read_job job)) before
