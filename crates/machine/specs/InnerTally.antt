-- Mirrors the loop over picks for its proof: `run`, told forward, with what is carried from pick to pick. Nobody has to believe it:
-- `tallied_run` says that it is `run` with its counts.
use Rattle.std.specs.Prelude.{ℕ, List, [], ◌∷◌}
use Rattle.machine.specs.Steps.{State, pick_among}
use Rattle.stm.specs.Events.{Event, is_fork, more, Counts, tally}
use Rattle.word.specs.Sum.{Rule}

-- the number of threads, and the counts so far
pub record Progress : Type 0 where
  pub threads : ℕ
  pub counts : Counts

-- what a pick adds to both
abbrev pub advanced : Event → (over : ℕ) → Progress → Progress
advanced e over p = record { threads = more (is_fork e) p.threads; counts = tally e over p.counts }

-- the state, and what is carried
pub record Tallied : Type 0 where
  pub state : State
  pub progress : Progress

-- one pick
unfoldable pub turned : Rule → (code : List ℕ) → State → Progress → (pick : ℕ) → Tallied
turned sum bytes s p i =
    let one = pick_among sum bytes p.threads s i in
    record { state = one.state; progress = advanced one.event one.over p }

-- picks, one after the other
unfoldable pub tallied : Rule → (code : List ℕ) → State → Progress → (picks : List ℕ) → Tallied
tallied sum bytes s p [] = record { state = s; progress = p }
tallied sum bytes s p (i ∷ is) =
    let one = turned sum bytes s p i in
    tallied sum bytes one.state one.progress is
