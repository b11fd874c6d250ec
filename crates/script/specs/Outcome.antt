-- What a call comes to: a refusal, with the papers' number and place, or its result.
use Rattle.std.specs.Prelude.{ℕ, Bool, true, false, List, [], ◌∷◌}

-- a refusal's number and place, or what the call gives
pub data Outcome (A : Type 0) : Type 0 where
  refused : (number place : ℕ) → Outcome A
  done : A → Outcome A

-- a test in document 01's order: where it is met the call is refused, else what comes behind it decides
abbrev pub refuse : {A : Type 0} → Bool → ℕ → ℕ → Outcome A → Outcome A
refuse true number place behind = refused number place
refuse false number place behind = behind

-- a row of tests, the first one that is met deciding
pub data Test : Type 0 where
  test : (met : Bool) (number place : ℕ) → Test

-- a row of tests, and what is behind them if none is met
abbrev pub tests : {A : Type 0} → List Test → Outcome A → Outcome A
tests [] behind = behind
tests (test met number place ∷ rows) behind = refuse met number place (tests rows behind)

-- a refusal stays, and what was given decides what comes next
abbrev pub onward : {A B : Type 0} → Outcome A → (A → Outcome B) → Outcome B
onward (refused number place) f = refused number place
onward (done a) f = f a

-- a refusal stays, and what was given is carried over
abbrev pub mapped : {A B : Type 0} → (A → B) → Outcome A → Outcome B
mapped f (refused number place) = refused number place
mapped f (done a) = done (f a)
