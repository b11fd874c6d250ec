-- The job reader's answer.
use Rattle.job.specs.declared.Accepted.{Accepted}
use Rattle.script.specs.Count.{code_length}
use Rattle.script.specs.Outcome.{Outcome, mapped}
use Rattle.script.specs.Jobs.{Job}

-- a refusal's number and place, or an accepted job's version and its code's length
abbrev pub answer : Outcome Job → Outcome Accepted
answer = mapped (λ j. record { version = j.version; length = code_length j.tree })
