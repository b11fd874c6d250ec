-- What a run shows pick by pick: document 02 No. 1 speaks of "any finished run".
use Rattle.std.specs.Prelude.{ℕ, ◌≤◌, ◌≡◌, List, [], ◌∷◌}
use Rattle.code.specs.Ops.{Op}
use Rattle.machine.specs.Fits.{Exists, ThreadOf}
use Rattle.machine.specs.Steps.{State, Child, thread_at, pick, DoesOne}
use Rattle.stm.specs.Events.{Happened}
use Rattle.word.specs.Sum.{Rule}

-- a run is finished: every thread that exists has ended
abbrev pub Finished : State → Type 0
Finished s = (i : ℕ) → Exists s i → (thread_at s i).place ≡ (thread_at s i).end

-- one pick: the state before it, the thread that is picked, the state after it
pub record Moment : Type 0 where
  pub before : State
  pub thread : ℕ
  pub after : State

-- a list of picks, one after the other
unfoldable pub moments : Rule → (code : List ℕ) → State → (picks : List ℕ) → List Moment
moments sum code s [] = []
moments sum code s (i ∷ is) =
    let after = (pick sum code s i).state in
    record { before = s; thread = i; after = after } ∷ moments sum code after is

-- each pick starts from the state that the one before it left, and leaves the next one's: from a state to a state
abbrev pub Chained : Rule → (code : List ℕ) → State → List Moment → State → Type 0
Chained sum code s [] last = s ≡ last
Chained sum code s (m ∷ ms) last =
    (m.before ≡ s) × (m.after ≡ (pick sum code m.before m.thread).state) × Chained sum code m.after ms last

-- what the picks did
unfoldable pub happened : Rule → (code : List ℕ) → List Moment → List Happened
happened sum code [] = []
happened sum code (m ∷ ms) = record { thread = m.thread; event = (pick sum code m.before m.thread).event; over = (pick sum code m.before m.thread).over } ∷ happened sum code ms

-- one of a list
pub data Among (m : Moment) : List Moment → Type 0 where
  first : {ms : List Moment} → Among m (m ∷ ms)
  later : {l : Moment} {ms : List Moment} → Among m ms → Among m (l ∷ ms)

-- some pick did this instruction
pub record PickDid (sum : Rule) (code : List ℕ) (ms : List Moment) (op : Op) : Type 0 where
  pub moment : Moment
  pub made : Among moment ms
  pub does : DoesOne sum code moment.before moment.thread
  pub its : does.op ≡ op

-- the greatest stack height of the thread with this own code, in the states after the picks
pub record Greatest (ms : List Moment) (own : Child) (n : ℕ) : Type 0 where
  -- it is reached, after some pick
  pub moment : Moment
  pub made : Among moment ms
  pub thread : ℕ
  pub its : ThreadOf moment.after own thread
  pub reached : (thread_at moment.after thread).height ≡ n
  -- and none is above it
  pub most : (m : Moment) → Among m ms → (i : ℕ) → ThreadOf m.after own i → (thread_at m.after i).height ≤ n
