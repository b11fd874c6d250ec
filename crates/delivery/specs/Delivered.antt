-- What a call comes to that writes its result to the front of a lent output: the answer, and the whole output.
use Rattle.std.specs.Prelude.{ℕ, List, ◌++◌, ltb, length, drop}
use Rattle.script.specs.Outcome.{Outcome, refused, done, refuse, onward}

-- the answer of a call, a refusal or the length of its result, and the whole output after it
pub record Delivered : Type 0 where
  pub answer : Outcome ℕ
  pub output : List ℕ

-- the result stands at the output's start, and what is behind it is as it was
abbrev pub onto : (result before : List ℕ) → List ℕ
onto result before = result ++ drop (length result) before

-- 10 at 0, "output shorter than the result"
abbrev pub room_for : (before result : List ℕ) → Outcome (List ℕ)
room_for before result = refuse (ltb (length before) (length result)) 10 0 (done result)

-- "A refusal returns its number and a place, and alters no lent memory"
abbrev pub settled : Outcome (List ℕ) → (before : List ℕ) → Delivered
settled (refused number place) before = record { answer = refused number place; output = before }
settled (done result) before = record { answer = done (length result); output = onto result before }

-- the tests before 10, then 10; then the answer and the output
unfoldable pub delivered : Outcome (List ℕ) → (before : List ℕ) → Delivered
delivered outcome before = settled (onward outcome (room_for before)) before
