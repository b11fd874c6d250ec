use Rattle.std.proofs.Common.{◌≡◌, find}
use Rattle.thread.proofs.Loops.{differs}
use Rattle.thread.specs.InnerStep.{first_stale_in, found_at}
use Rattle.word.specs.Registers.{left}
use Rattle.thread.proofs.first_stale.Given as goal

abbrev pub invariant-loop-v : goal.invariant-loop-v
invariant-loop-v l = find (differs l.readcounts l.counts) (left l.v-iterator) ≡ found_at (first_stale_in 64 0 l.reads l.readcounts l.counts)
