-- By count, staleness is exact. Assumes nothing.
use Prim.Native.Nat.{suc, ◌≤◌}
use mathlib.Core.Bool.{not}
use mathlib.Core.Path.{ap}
use native.Mathlib.Omega.{arith}
use borrow.Author.Tests.{ne_eqb}
use Rattle.stm.specs.InnerCells.{Exact, by_count}

pub by_count_exact : Exact by_count
by_count_exact = record { written_stale = λ l c n p. let q : l.count ≤ c.count = p.0 in ap not (ne_eqb l.count (suc c.count) (λ e. omega arith)) }
