-- What a call leaves of the test program's memory.
use Rattle.machine.specs.Answers.{Returned}
use Rattle.machine.specs.Steps.{State}
use Rattle.memory.specs.declared.Memory.{Memory}
use Rattle.owned.specs.Owned.{on_first}

-- the memory that a call leaves, which is lent its first registers, counts and records
abbrev pub left_by : {Reply : Type 0} → Memory → (State → Returned Reply) → Memory
left_by m call =
    let r = on_first m.lent.registers m.lent.counts m.lent.records call m.state.registers m.state.counts m.state.threads in
    record { state = record { registers = r.state.registers; counts = r.state.counts; threads = r.state.threads }; lent = m.lent }
