-- The scan's answer.
use Rattle.std.specs.Prelude.{length}
use Rattle.scan.specs.declared.Scanned.{Scanned}
use Rattle.script.specs.Bytes.{job_bytes}
use Rattle.script.specs.Count.{nodes_p}
use Rattle.script.specs.Outcome.{Outcome, mapped}
use Rattle.script.specs.Jobs.{Job}

-- a refusal's number and place, or the version, the node count and the length of the job that compiles to the code
abbrev pub told : Outcome Job → Outcome Scanned
told = mapped (λ (j : Job). record { version = j.version; nodes = nodes_p j.tree; size = length (job_bytes j.version j.tree) })
