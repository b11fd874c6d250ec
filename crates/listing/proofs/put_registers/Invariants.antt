-- `listing::put_registers` meets its contract. The loop's invariant: the lines of the registers passed and of those to come are all lines. Assumes nothing.
use Rattle.std.proofs.Common.{◌≡◌, ◌+◌, ◌*◌, ◌≤◌, ◌++◌, length, drop}
use Rattle.listing.specs.Listed.{register_lines}
use Rattle.listing.proofs.put_registers.Given as goal

abbrev pub invariant-loop-v : goal.invariant-loop-v
invariant-loop-v l =
    (length l.page ≤ length l.initial.page + 52 * l.v) × (l.page ++ register_lines l.v (drop l.v l.registers) ≡ l.initial.page ++ register_lines 0 l.registers)
