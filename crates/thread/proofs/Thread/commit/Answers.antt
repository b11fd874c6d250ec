use Rattle.thread.specs.InnerStep.{rule_at}
use Rattle.stm.specs.Events.{event_number, event_register, turn_number}
use Rattle.stm.specs.Rules.{rule_after, used_by, rule_number}
use Rattle.thread.specs.Threads.{closed}
use Rattle.thread.proofs.Commits.{commit_back, commit_done}
use Rattle.thread.proofs.Thread.commit.Goals as goal

pub returns-in-Some : goal.returns-in-Some
unfolding closed rule_at event_number event_register turn_number rule_after used_by rule_number
returns-in-Some c =
    rw (c.did.ensures, c.saturating_add.ensures, c.closed-back.ensures) (commit_back _ _ _ c.in-Some.ensures)

pub returns : goal.returns
unfolding rule_at event_number event_register turn_number rule_after used_by rule_number
returns c =
    rw (c.did-2.ensures, c.closed.ensures, c.store.ensures, c.recount.ensures) (commit_done _ _ c.in_default.ensures)
