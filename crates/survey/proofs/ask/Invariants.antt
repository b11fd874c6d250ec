-- `survey::ask` meets its contract. Assumes nothing.
use Rattle.std.proofs.Common.{◌≡◌, ◌≤◌}
use Rattle.survey.specs.InnerRecords.{starts_of, ends_of}
use Rattle.survey.proofs.Loops.{asks_at}
use Rattle.survey.proofs.ask.Given as goal

abbrev pub invariant-loop-i : goal.invariant-loop-i
invariant-loop-i l = (l.a.number ≤ l.i) × (asks_at (starts_of l.rows) (ends_of l.rows) (record { start = l.start; end = l.end }) l.i l.a ≡ asks_at (starts_of l.rows) (ends_of l.rows) (record { start = l.start; end = l.end }) 0 l.initial.a)
