-- What reading back comes to: the answer, and the whole output.
use Rattle.std.specs.Prelude.{ℕ, List}
use Rattle.code.specs.Reader.{read_code}
use Rattle.delivery.specs.Delivered.{Delivered, delivered}
use Rattle.script.specs.Bytes.{job_bytes}
use Rattle.script.specs.Outcome.{mapped}
use Rattle.script.specs.Jobs.{Job}

-- the job as bytes
abbrev pub bytes_of : Job → List ℕ
bytes_of j = job_bytes j.version j.tree

-- 11, then 10; else the job stands at the output's start
unfoldable pub read_back_to : (code before : List ℕ) → Delivered
read_back_to code before = delivered (mapped bytes_of (read_code code)) before
