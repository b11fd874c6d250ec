-- For the proofs of the functions over lent records only: what each leaves. Nobody has to believe it: `laid_all`, `cleared_all` and
-- `forgotten_all` (proofs/Laying) say what comes of a fresh state, and `Gathered` speaks of `survey_of` alone, which `survey-fits` ties to `fits`.
use Rattle.std.specs.Prelude.{ℕ, zero, suc, ◌≡◌, cond, List, [], ◌∷◌, eqb, ltb, ℤ, pos, get_or}
use Rattle.thread.specs.declared.Thread.{Thread}
use Rattle.thread.specs.Threads.{blank, spawned}
use Rattle.machine.specs.Fits.{Typed, TypedThread, RangedThread}
use Rattle.machine.specs.Steps.{State, state_from}
use Rattle.code.specs.Reader.{read_code}
use Rattle.progress.specs.InnerProgress.{Driven, Undergone, admitted_to, undergone}
use Rattle.progress.specs.declared.Progress.{Progress}
use Rattle.survey.specs.declared.Survey.{Survey}
use Rattle.survey.specs.InnerRecords.{survey_of}
use Rattle.survey.specs.InnerWalk.{survey_fits}
use Rattle.script.specs.Outcome.{Outcome}

-- what is known of the records once they were gathered: their survey, and what each record has by its type
pub record Gathered (counts : List ℕ) (ts : List Thread) (r : Survey) : Type 0 where
  pub survey : r ≡ survey_of counts ts
  pub typed : (i : ℕ) → TypedThread (get_or ts i blank)
  pub ranged : (i : ℕ) → RangedThread (get_or ts i blank)

-- with what a call begins, over the survey of its records
pub record Admitted (code : List ℕ) (registers : ℕ) (counts : List ℕ) (ts : List Thread) (picks : ℕ) (o : Outcome Progress) : Type 0 where
  pub survey : Survey
  pub gathered : Gathered counts ts survey
  pub admitted : o ≡ admitted_to (read_code code) (survey_fits survey code registers counts 0) survey.count picks

-- the lesser of two numbers
abbrev pub least_of : ℕ → ℕ → ℕ
least_of a b = cond (ltb a b) a b

-- so many of a list are written over, the first of them being number i; there may be fewer
unfoldable pub overwritten : {A : Type 0} (new : ℕ → A) (left i : ℕ) → List A → List A
overwritten new zero i xs = xs
overwritten new (suc n) i [] = []
overwritten new (suc n) i (x ∷ xs) = new i ∷ overwritten new n (suc i) xs

-- record i of a fresh state whose code has so many bytes
unfoldable pub record_of : (i end : ℕ) → Thread
record_of i end = cond (eqb i 0) (spawned 5 end) blank

-- the records with the first `limit` of them as in a fresh state
unfoldable pub laid : (end limit : ℕ) → List Thread → List Thread
laid end limit ts = overwritten (λ i. record_of i end) limit 0 ts

-- the registers with the first `limit` of them 0
unfoldable pub cleared : (limit : ℕ) → List ℤ → List ℤ
cleared limit rs = overwritten (λ _. pos 0) limit 0 rs

-- the counts with the first `limit` of them 0
unfoldable pub forgotten : (limit : ℕ) → List ℕ → List ℕ
forgotten limit ns = overwritten (λ _. 0) limit 0 ns

-- a state with what is carried from pick to pick
abbrev pub drove : List ℤ → List ℕ → List Thread → Progress → Driven
drove rs ns ts p = record { state = state_from rs ns ts; progress = p }

-- a state with what a call comes to
abbrev pub underwent : List ℤ → List ℕ → List Thread → Outcome Progress → Undergone
underwent rs ns ts o = record { state = state_from rs ns ts; progress = o }

-- a call, and what its records have by their type
pub record Called (code : List ℕ) (s : State) (picks : List ℕ) (u : Undergone) : Type 0 where
  pub went : u ≡ undergone code s picks
  pub typed : Typed s
