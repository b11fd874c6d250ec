-- Document 02 No. 6: "how often commits have written it", and how long a register stays in a read log.
use Rattle.std.specs.Prelude.{ℕ, Bool, true, false, ◌&&◌, ◌≡◌, List, [], ◌∷◌, ◌++◌, drop}
use Rattle.code.specs.Ops.{op_at}
use Rattle.code.specs.Ops as code
use Rattle.machine.specs.Fits.{Exists}
use Rattle.machine.specs.Steps.{State, thread_at, pick, run}
use Rattle.script.specs.Outcome.{done}
use Rattle.stm.specs.Events.{from_table, Event, idle, pushed, summed, forked, begun, looked, wrote, committed, sent_back, is_commit, more}
use Rattle.word.specs.Registers.{member}
use Rattle.word.specs.Sum.{Rule}

-- with such an event an attempt begins or ends
abbrev pub anew : Event → Bool
anew idle = false
anew pushed = false
anew (summed inside) = false
anew forked = false
anew begun = true
anew (looked from) = false
anew wrote = false
anew committed = true
anew (sent_back v) = true

module _ (sum : Rule) (bytes : List ℕ) where
  -- a pick of thread i is a commit that takes effect and has register v in its write log
  abbrev pub writes : State → (i v : ℕ) → Bool
  writes s i v = is_commit (pick sum bytes s i).event && member (thread_at s i).writes v

  -- "how often commits have written it": the picks of a list that are such commits
  unfoldable pub written : State → List ℕ → (v : ℕ) → ℕ
  written s [] v = 0
  written s (i ∷ is) v = more (writes s i v) (written (pick sum bytes s i).state is v)

  -- over these picks the attempt of thread i goes on: none of its own picks begins or ends one
  pub data GoesOn (i : ℕ) : State → List ℕ → Type 0 where
    none : {s : State} → GoesOn i s []
    next :
        {s : State} {k : ℕ} {is : List ℕ} → (k ≡ i → anew (pick sum bytes s k).event ≡ false) →
        GoesOn i (pick sum bytes s k).state is → GoesOn i s (k ∷ is)

  -- register v "entered the read log" of thread i: one of these picks is its READ of v from the table, and from there on its attempt goes on
  pub record Entered (s : State) (is : List ℕ) (i v : ℕ) : Type 0 where
    pub before : List ℕ
    pub after : List ℕ
    pub among : is ≡ before ++ (i ∷ after)
    pub there : Exists (run sum bytes s before).state i
    pub reads : op_at (drop (thread_at (run sum bytes s before).state i).place bytes) ≡ done (code.read v)
    pub from-table : (pick sum bytes (run sum bytes s before).state i).event ≡ looked from_table
    pub goes-on : GoesOn i (pick sum bytes (run sum bytes s before).state i).state after
