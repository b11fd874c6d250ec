-- Document 02 No. 8: "Our scheduler people want to reorder turns. For pick lists that differ by exchanging two neighbouring picks of different
-- threads, neither doing a FORK nor a commit that takes effect, the full states and all counts at the end are equal. The same must follow for any
-- number of such exchanges." Which lists these are stands in machine/specs/Exchange. The theorem `exchanging` (guarantee/proofs/Exchanges) says that
-- all of it holds.
use Rattle.std.specs.Prelude.{ℕ, ◌↔◌, ◌≡◌, List}
use Rattle.guarantee.specs.Histories.{Session, History, calls_of, picks_taken, reported}
use Rattle.code.specs.Bytes.{compiled, IsCode}
use Rattle.machine.specs.Answers.{sum_of, step_reply, tells, step_call, run_call}
use Rattle.machine.specs.Exchange.{Free, FreeReply, Exchanges, seen_by}
use Rattle.machine.specs.Fits.{Typed}
use Rattle.machine.specs.Steps.{State, Stepped, pick, fresh, run}
use Rattle.script.specs.Bytes.{Bytes}
use Rattle.script.specs.Jobs.{Job}
use Rattle.script.specs.Outcome.{done}
use Rattle.script.specs.Reader.{read_job}
use Rattle.stm.specs.Events.{Happened, counts_of}
use Rattle.word.specs.Sum.{Rule}

-- document 02 No. 8, of every rule for sums, every code and every state, fitting or not
pub record FromState (sum : Rule) (code : List ℕ) (s : State) : Type 0 where
  -- "the full states and all counts at the end are equal", `over` too
  pub states : (is ks : List ℕ) → Exchanges sum code s is ks → (run sum code s is).state ≡ (run sum code s ks).state
  pub counts : (is ks : List ℕ) → Exchanges sum code s is ks → counts_of (run sum code s is).events ≡ counts_of (run sum code s ks).events
  -- either of the two lists may be called the first
  pub symmetric : (is ks : List ℕ) → Exchanges sum code s is ks → Exchanges sum code s ks is
  -- each of the two picks tells the same in both lists
  pub told :
      (i k : ℕ) → (i ≡ k → ⊥) → Free (pick sum code s i) → Free (pick sum code (pick sum code s i).state k) →
      (tells (pick sum code (pick sum code s k).state i) ≡ tells (pick sum code s i)) ×
      (tells (pick sum code s k) ≡ tells (pick sum code (pick sum code s i).state k))
  -- which lists follow from one another so: exactly those in which each number sees the same, its own picks with what they did, every FORK and every
  -- commit that took effect
  pub exactly :
      (is ks : List ℕ) →
      Exchanges sum code s is ks ↔ ((i : ℕ) → seen_by i (run sum code s is).events ≡ seen_by i (run sum code s ks).events)

-- of the lists of calls that run a job's code by picks, from a fresh state
pub record OfLists (j : Job) : Type 0 where
  -- however the picks are cut into calls, refused calls included: the same state, and the calls report the same counts together
  pub same :
      {now now' : Session} {events events' : List Happened} (h : History (compiled j) now events) (h' : History (compiled j) now' events') →
      Exchanges (sum_of j) (compiled j) (fresh (compiled j)) (picks_taken h) (picks_taken h') →
      (now.state ≡ now'.state) × (reported (calls_of h) ≡ reported (calls_of h'))
  -- each list of picks that follows from those of a list of calls is that of some list of calls
  pub some_calls :
      {now : Session} {events : List Happened} (h : History (compiled j) now events) (ks : List ℕ) →
      Exchanges (sum_of j) (compiled j) (fresh (compiled j)) (picks_taken h) ks →
      (now' : Session) × ((events' : List Happened) × ((h' : History (compiled j) now' events') × (picks_taken h' ≡ ks)))

-- document 02 No. 8
pub record Exchanging : Type 0 where
  pub from_state : (sum : Rule) (code : List ℕ) (s : State) → FromState sum code s
  -- a run call returns the same, answer and all lent memory, whatever code and state it is lent; of foreign code nothing is asked
  pub run-call :
      (code : List ℕ) (s : State) (is ks : List ℕ) → Bytes code → ((j : Job) → IsCode code j → Exchanges (sum_of j) code s is ks) →
      run_call code s is ≡ run_call code s ks
  -- the answer of a step that is taken tells whether its pick is one that may be exchanged
  pub by_answer : (r : Stepped) → FreeReply (step_reply (done r)) ↔ Free r
  -- two step calls of different numbers, one behind the other, neither answer naming a FORK or a commit: in the other order each answers the same, and
  -- the memory behind both is the same
  pub step_calls :
      (code : List ℕ) (s : State) (i k : ℕ) → Bytes code → Typed s → (i ≡ k → ⊥) →
      let first = step_call code s i in
      let second = step_call code first.state k in
      let first' = step_call code s k in
      let second' = step_call code first'.state i in
      FreeReply first.reply → FreeReply second.reply →
      (second.state ≡ second'.state) × (first.reply ≡ second'.reply) × (second.reply ≡ first'.reply)
  -- for every accepted job, as demand 3
  pub of_lists : (job : List ℕ) (j : Job) → Bytes job → read_job job ≡ done j → OfLists j
