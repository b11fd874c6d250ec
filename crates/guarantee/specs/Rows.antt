-- Document 01, "Turning a job down", for the calls that take a job or write an output: what each returns, a constructor for each row.
-- (Rows 1 to 9 and 14 are `Refused`, script; rows 11 to 13 of the calls that run are `FreshAnswer`, `StepAnswer`, `RunAnswer`, machine.)
use Rattle.std.specs.Prelude.{ℕ, ◌<◌, ◌≤◌, List, length}
use Rattle.code.specs.Bytes.{compiled, IsCode, Foreign}
use Rattle.decompiler.specs.ReadBackTo.{bytes_of}
use Rattle.delivery.specs.Delivered.{Delivered, onto}
use Rattle.script.specs.Outcome as answer
use Rattle.grammar.specs.Grammar.{ShortScript, NoScript}
use Rattle.job.specs.declared.Accepted.{Accepted}
use Rattle.script.specs.Bytes.{job_bytes}
use Rattle.script.specs.Jobs.{Job}
use Rattle.script.specs.Limits.{Within}
use Rattle.script.specs.Refusal.{IsJob, Refused}
use Rattle.script.specs.Tree.{Proc}

-- the job reader: 1 to 9, 14, or the job's version and its code's length
pub data JobAnswer (job : List ℕ) : answer.Outcome Accepted → Type 0 where
  refused : {number place : ℕ} → Refused job number place → JobAnswer job (answer.refused number place)
  accepted : {j : Job} → IsJob job j → JobAnswer job (answer.done (record { version = j.version; length = length (compiled j) }))

-- compiling: 1 to 9, 14, then 10, "output shorter than the result"; else the code stands at the output's start
pub data CompileAnswer (job before : List ℕ) : Delivered → Type 0 where
  refused :
      {number place : ℕ} → Refused job number place →
      CompileAnswer job before (record { answer = answer.refused number place; output = before })
  short_tray :
      {j : Job} → IsJob job j → length before < length (compiled j) →
      CompileAnswer job before (record { answer = answer.refused 10 0; output = before })
  written :
      {j : Job} → IsJob job j → length (compiled j) ≤ length before →
      CompileAnswer job before (record { answer = answer.done (length (compiled j)); output = onto (compiled j) before })

-- reading back: 11, "no accepted job compiles to it", then 10; else the job stands at the output's start
pub data ReadBackAnswer (code before : List ℕ) : Delivered → Type 0 where
  foreign_code : Foreign code → ReadBackAnswer code before (record { answer = answer.refused 11 0; output = before })
  short_tray :
      {j : Job} → IsCode code j → length before < length (bytes_of j) →
      ReadBackAnswer code before (record { answer = answer.refused 10 0; output = before })
  written :
      {j : Job} → IsCode code j → length (bytes_of j) ≤ length before →
      ReadBackAnswer code before (record { answer = answer.done (length (bytes_of j)); output = onto (bytes_of j) before })

-- a formula, document 02 No. 7: 15, "before all others", then "The job refusals follow with places in the job it would make", then 10; else "the bytes are
-- that tree's job" at the output's start
pub data FormulaAnswer (text before : List ℕ) : Delivered → Type 0 where
  no_script : {i : ℕ} → NoScript text i → FormulaAnswer text before (record { answer = answer.refused 15 i; output = before })
  refused :
      {p : Proc} {number place : ℕ} → ShortScript text p → Refused (job_bytes 1 p) number place →
      FormulaAnswer text before (record { answer = answer.refused number place; output = before })
  short_tray :
      {p : Proc} → ShortScript text p → Within p → length before < length (job_bytes 1 p) →
      FormulaAnswer text before (record { answer = answer.refused 10 0; output = before })
  written :
      {p : Proc} → ShortScript text p → Within p → length (job_bytes 1 p) ≤ length before →
      FormulaAnswer text before (record { answer = answer.done (length (job_bytes 1 p)); output = onto (job_bytes 1 p) before })
