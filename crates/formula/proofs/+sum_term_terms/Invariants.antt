-- What `formula::sum`, `formula::term` and `formula::terms` come down by, and what the loop of `terms` keeps. Assumes nothing.
use Rattle.std.proofs.Common.{◌+◌, ◌*◌, ◌-◌, length}
use Rattle.parsing.proofs.Ways as W
use Rattle.formula.proofs.+sum_term_terms.Given as goal

abbrev pub decreases-sum : goal.decreases-sum
decreases-sum l = 3 * (length l.text.now - l.from) + 2

abbrev pub decreases-term : goal.decreases-term
decreases-term l = 3 * (length l.text.now - l.from)

abbrev pub decreases-terms : goal.decreases-terms
decreases-terms l = 3 * (length l.text.now - l.head) + 1

abbrev pub invariant-terms-loop-job : goal.invariant-terms-loop-job
invariant-terms-loop-job l = W.Going l.inside l.text l.start l.opened (record { at = l.head; size = l.initial.job.size; nodes = l.initial.job.nodes }) (record { at = l.last; size = l.job.size; nodes = l.job.nodes }) l.adds l.initial.job.bytes l.job.bytes

abbrev pub decreases-terms-loop-job : goal.decreases-terms-loop-job
decreases-terms-loop-job l = length l.text - l.last
