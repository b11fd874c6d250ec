-- A refusal leaves the output as it was, and a result leaves what is behind it as it was; 10 is for an output shorter than the result. Assumes nothing.
use Prim.Native.Nat.{ℕ, ◌<◌, ◌≤◌}
use mathlib.Core.Path.{◌≡◌, refl}
use mathlib.Core.List.{List}
use native.Mathlib.Omega.{arith}
use borrow.Author.Tests.{le-ltb, lt-ltb}
use lib.ListN.{length, drop}
use lib.Seq.{drop-append_seam}
use Rattle.delivery.specs.Delivered.{onto, room_for, settled, delivered}
use Rattle.script.specs.Outcome.{Outcome, refused, done, onward}

settled_keeps : (o : Outcome (List ℕ)) (before : List ℕ) (n p : ℕ) → (settled o before).answer ≡ refused n p → (settled o before).output ≡ before
settled_keeps (refused number place) before n p e = refl
settled_keeps (done result) before n p e = absurd (let z : ◌≡◌ {A = ℕ} 0 1 = cc in omega arith)

-- "A refusal .. alters no lent memory"
pub refused_keeps : (o : Outcome (List ℕ)) (before : List ℕ) (n p : ℕ) → (delivered o before).answer ≡ refused n p → (delivered o before).output ≡ before
unfolding delivered
refused_keeps o before n p e = settled_keeps (onward o (room_for before)) before n p e

settled_behind : (o : Outcome (List ℕ)) (before : List ℕ) (n : ℕ) → (settled o before).answer ≡ done n → drop n (settled o before).output ≡ drop n before
settled_behind (refused number place) before n e = absurd (let z : ◌≡◌ {A = ℕ} 0 1 = cc in omega arith)
settled_behind (done result) before n e =
    let l : length result ≡ n = cc in
    rw (← l) (drop-append_seam result (drop (length result) before))

-- "only as many bytes of the output as they need, counted from its start"
pub behind_keeps : (o : Outcome (List ℕ)) (before : List ℕ) (n : ℕ) → (delivered o before).answer ≡ done n → drop n (delivered o before).output ≡ drop n before
unfolding delivered
behind_keeps o before n e = settled_behind (onward o (room_for before)) before n e

-- a result that the output is long enough for is delivered: 10 is "output shorter than the result", nothing else
pub delivers : (r before : List ℕ) → length r ≤ length before → delivered (done r) before ≡ record { answer = done (length r); output = onto r before }
unfolding delivered
delivers r before h = rw (le-ltb (length before) (length r) h)

-- and 10 at 0 is the answer to a shorter one
pub too_short : (r before : List ℕ) → length before < length r → delivered (done r) before ≡ record { answer = refused 10 0; output = before }
unfolding delivered
too_short r before h = rw (lt-ltb (length before) (length r) h)
