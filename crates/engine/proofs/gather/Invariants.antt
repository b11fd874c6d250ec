use Rattle.std.proofs.Common.{◌<◌, ◌≡◌, get_or, ℕ, drop}
use Rattle.survey.specs.InnerRecords.{survey_from, survey_of}
use Rattle.thread.specs.Threads.{blank}
use Rattle.engine.proofs.Rows.{Known}
use Rattle.engine.proofs.gather.Given as goal

-- the survey goes on as its definition does, and the records so far are known
abbrev pub invariant-loop-t : goal.invariant-loop-t
invariant-loop-t l = record {
  same : survey_from l.survey l.counts (drop l.t-index l.threads) ≡ survey_of l.counts l.threads;
  known : (j : ℕ) → j < l.t-index → Known (get_or l.threads j blank);
}
