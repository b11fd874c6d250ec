-- `survey::Survey::judged` meets its contract. Assumes nothing.
use Rattle.std.proofs.Common.{◌≡◌}
use Rattle.survey.specs.InnerRecords.{starts_of, ends_of}
use Rattle.survey.specs.InnerWalk.{row_at, known}
use Rattle.survey.proofs.Loops.{judge_at}
use Rattle.survey.proofs.Survey.judged.Given as goal

abbrev pub invariant-loop-row : goal.invariant-loop-row
invariant-loop-row l = judge_at l.code (starts_of l.self.rows) (ends_of l.self.rows) (row_at l.self) l.row-index (known l.verdict) ≡ judge_at l.code (starts_of l.self.rows) (ends_of l.self.rows) (row_at l.self) 0 (known l.initial.verdict)
