use Rattle.std.proofs.Common.{◌≡◌}
use Rattle.std.specs.List.{fold}
use Rattle.thread.proofs.Loops.{recounting}
use Rattle.thread.specs.InnerStep.{recounted_in}
use Rattle.word.specs.Registers.{left}
use Rattle.thread.proofs.recount.Given as goal

abbrev pub invariant-loop-v : goal.invariant-loop-v
invariant-loop-v l = fold recounting l.counts (left l.v-iterator) ≡ recounted_in 64 0 l.writes l.initial.counts
