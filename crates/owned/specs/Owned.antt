-- What a call on a state that is owned, not lent, returns.
use Rattle.std.specs.Prelude.{ℕ, List, ◌++◌, ℤ, take, drop}
use Rattle.machine.specs.Answers.{Returned, answered, fresh_call, run_call}
use Rattle.machine.specs.Steps.{State, state_from}
use Rattle.machine.specs.declared.RunReply.{RunReply}
use Rattle.thread.specs.declared.Thread.{Thread}

-- a call that is lent the first `cells` registers, the first `counters` counts and the first `records` records: the others are as they were
abbrev pub on_first : {Reply : Type 0} → (cells counters records : ℕ) → (State → Returned Reply) → List ℤ → List ℕ → List Thread → Returned Reply
on_first cells counters records call rs ns ts =
    let r = call (state_from (take cells rs) (take counters ns) (take records ts)) in
    answered (r.state.registers ++ drop cells rs) (r.state.counts ++ drop counters ns) (r.state.threads ++ drop records ts) r.reply

-- a fresh state laid down, then a list of picks
abbrev pub freshly_run : (code picks : List ℕ) → State → Returned RunReply
freshly_run code picks s = run_call code (fresh_call code s).state picks
