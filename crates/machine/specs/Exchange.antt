-- Document 02 No. 8, "Turns that may be exchanged": pick lists that differ by exchanging neighbouring picks.
use Rattle.std.specs.Prelude.{ℕ, Bool, false, cond, ◌||◌, ◌≡◌, List, [], ◌∷◌, eqb}
use Rattle.machine.specs.declared.StepReply.{StepReply}
use Rattle.machine.specs.Steps.{State, Stepped, pick}
use Rattle.stm.specs.Events.{Event, forked, committed, is_fork, is_commit, Happened, event_number}
use Rattle.word.specs.Sum.{Rule}

-- "a FORK" or "a commit that takes effect"
abbrev pub fixed : Event → Bool
fixed e = is_fork e || is_commit e

-- a pick that does neither; an idle pick is one
abbrev pub Free : Stepped → Type 0
Free r = fixed r.event ≡ false

-- a step's answer that names neither of them, 3 and 9
pub record FreeReply (r : StepReply) : Type 0 where
  pub no_fork : r.event ≡ event_number forked → ⊥
  pub no_commit : r.event ≡ event_number committed → ⊥

module _ (sum : Rule) (code : List ℕ) where
  -- "pick lists that differ by exchanging two neighbouring picks of different threads, neither doing a FORK nor a commit that takes effect",
  -- from a state: the two picks come first, or behind others; what they do is judged in the first list, where they stand
  pub data Exchanged : State → List ℕ → List ℕ → Type 0 where
    here :
        {s : State} {i k : ℕ} {is : List ℕ} → (i ≡ k → ⊥) →
        Free (pick sum code s i) → Free (pick sum code (pick sum code s i).state k) →
        Exchanged s (i ∷ k ∷ is) (k ∷ i ∷ is)
    later : {s : State} {i : ℕ} {is ks : List ℕ} → Exchanged (pick sum code s i).state is ks → Exchanged s (i ∷ is) (i ∷ ks)

  -- "any number of such exchanges", one after the other, each judged in the list that the one before it left
  pub data Exchanges (s : State) : List ℕ → List ℕ → Type 0 where
    none : {is : List ℕ} → Exchanges s is is
    then : {is ks ls : List ℕ} → Exchanged s is ks → Exchanges s ks ls → Exchanges s is ls

-- of what picks did: what those of number i did, every FORK, and every commit that took effect, in their order
unfoldable pub seen_by : (i : ℕ) → List Happened → List Happened
seen_by i [] = []
seen_by i (h ∷ hs) = cond (eqb h.thread i || fixed h.event) (h ∷ seen_by i hs) (seen_by i hs)
