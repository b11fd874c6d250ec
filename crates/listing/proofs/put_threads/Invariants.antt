-- `listing::put_threads` meets its contract. The loop's invariant: the lines of the records passed and of those to come are all lines. Assumes nothing.
use Rattle.std.proofs.Common.{◌≡◌, ◌+◌, ◌*◌, ◌≤◌, ◌++◌, length, drop}
use Rattle.listing.specs.Listed.{thread_lines}
use Rattle.listing.proofs.put_threads.Given as goal

abbrev pub invariant-loop-i : goal.invariant-loop-i
invariant-loop-i l =
    (length l.page ≤ length l.initial.page + 55 * l.i) × (l.page ++ thread_lines l.i (drop l.i l.threads) ≡ l.initial.page ++ thread_lines 0 l.threads)
