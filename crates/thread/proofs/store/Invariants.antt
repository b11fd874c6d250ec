use Rattle.std.proofs.Common.{◌≡◌}
use Rattle.std.specs.List.{fold}
use Rattle.thread.proofs.Loops.{storing}
use Rattle.thread.specs.InnerStep.{stored_in}
use Rattle.word.specs.Registers.{left}
use Rattle.thread.proofs.store.Given as goal

abbrev pub invariant-loop-v : goal.invariant-loop-v
invariant-loop-v l = fold (storing l.writes l.writelog) l.registers (left l.v-iterator) ≡ stored_in 64 0 l.writes l.writelog l.initial.registers
