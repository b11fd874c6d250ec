-- `job::permitted` meets its contract: by where the kind lies. Assumes nothing.
use Prim.Native.Nat.{ℕ, ◌≤◌, ◌<◌}
use mathlib.Core.Path.{◌≡◌}
use mathlib.Core.Bool.{Bool, true, false, not}
use native.Mathlib.Omega.{arith}
use borrow.Author.Tests.{le-leb, lt-leb}
use Rattle.script.specs.InnerTrees.{sort_of}
use Rattle.script.specs.Reader.{permitted as may}
use Rattle.job.proofs.permitted.Goals as goal

within : (t : Bool) (k : ℕ) → 1 ≤ k → k < 5 → not t ≡ may (sort_of t) k
unfolding may
within true k h l = rw (lt-leb 5 k l)
within false k h l = rw (le-leb 1 k h, le-leb k 4 (omega arith))

above : (t : Bool) (k : ℕ) → 5 ≤ k → k < 9 → t ≡ may (sort_of t) k
unfolding may
above true k h l = rw (le-leb 5 k h, le-leb k 8 (omega arith))
above false k h l = rw (le-leb 1 k (omega arith), lt-leb k 4 h)

below : (t : Bool) (k : ℕ) → k < 1 → false ≡ may (sort_of t) k
unfolding may
below true k h = rw (lt-leb 5 k (omega arith))
below false k h = rw (lt-leb 1 k h)

beyond : (t : Bool) (k : ℕ) → 9 ≤ k → false ≡ may (sort_of t) k
unfolding may
beyond true k h = rw (le-leb 5 k (omega arith), lt-leb k 8 h)
beyond false k h = rw (le-leb 1 k (omega arith), lt-leb k 4 (omega arith))

pub returns-in-1-to-4 : goal.returns-in-1-to-4
returns-in-1-to-4 c = within c.args.transaction _ c.in-1-to-4.if-byte-lt1-own.false c.in-1-to-4.if-byte-lt5-own.true

pub returns-in-5-to-8 : goal.returns-in-5-to-8
returns-in-5-to-8 c = above c.args.transaction _ c.in-5-to-8.if-byte-lt5-own.false c.in-5-to-8.if-byte-lt9-own.true

pub returns-in_default : goal.returns-in_default
returns-in_default c = below c.args.transaction _ c.in_default.if-byte-lt1-own.true

pub returns-in_default-2 : goal.returns-in_default-2
returns-in_default-2 c = beyond c.args.transaction _ c.in_default.if-byte-lt9-own.false
