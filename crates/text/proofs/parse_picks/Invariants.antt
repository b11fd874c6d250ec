-- `text::parse_picks` meets its contract. The loop's invariant: `count` is within picks. Assumes nothing.
use Rattle.std.proofs.Common.{◌≤◌, length}
use Rattle.text.proofs.parse_picks.Given as goal

abbrev pub invariant-loop-word : goal.invariant-loop-word
invariant-loop-word l =
    (goal.iterator-loop-word).can_next l.word-iterator × ((goal.iterator-loop-word).is_finite l.word-iterator × (l.count ≤ length l.picks))
