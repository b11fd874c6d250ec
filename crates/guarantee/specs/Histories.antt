-- Document 01, "Runs and turns": lists of calls that run a job's code by picks, and what demand 3 speaks of.
use Rattle.std.specs.Prelude.{ℕ, ◌<◌, ◌≤◌, ◌↔◌, ◌≡◌, List, [], ◌∷◌, ◌++◌, ℤ, pos, length, get_or}
use Rattle.code.specs.Bytes.{compiled}
use Rattle.machine.specs.Steps as steps
use Rattle.machine.specs.Steps.{State, Stepped, thread_at, fresh, Ran}
use Rattle.stm.specs.Events.{Happened, counted, is_commit, backs, order, Counts, uncounted, counts_of, together}
use Rattle.machine.specs.Fits.{Exists, Typed, Ranged}
use Rattle.machine.specs.Answers.{sum_of, step_of, run_of, step_call, run_call, step_counts, run_counts}
use Rattle.script.specs.Bytes.{Bytes}
use Rattle.script.specs.Outcome.{Outcome, refused, done, mapped}
use Rattle.script.specs.Jobs.{Job}
use Rattle.script.specs.Turns.{Script, initial, turns, CanTake, Result}

-- a call, with what it is lent
pub data Call : Type 0 where
  step : (code : List ℕ) (state : State) (pick : ℕ) → Call
  run : (code : List ℕ) (state : State) (picks : List ℕ) → Call

-- the code that it is lent
abbrev pub code_of : Call → List ℕ
code_of (step code s i) = code
code_of (run code s is) = code

-- the state that it is lent
abbrev pub state_of : Call → State
state_of (step code s i) = s
state_of (run code s is) = s

-- its picks
abbrev pub picks_of : Call → List ℕ
picks_of (step code s i) = i ∷ []
picks_of (run code s is) = is

-- what every call has by the types of what it is lent
pub record Lent (c : Call) : Type 0 where
  pub code : Bytes (code_of c)
  pub state : Typed (state_of c)
  pub ranges : Ranged (state_of c)
  pub picks : Bytes (picks_of c)

-- what a call comes to; "a step by itself counts as one with a single pick"
abbrev pub alone : ℕ → Stepped → Ran
alone i r = record { state = r.state; events = record { thread = i; event = r.event; over = r.over } ∷ [] }

-- what a call comes to
abbrev pub comes_to : Call → Outcome Ran
comes_to (step code s i) = mapped (alone i) (step_of code s i)
comes_to (run code s is) = run_of code s is

-- the code and the state that the next call of a list must have
pub record Session : Type 0 where
  pub code : List ℕ
  pub state : State

-- A list of calls that run a job's code by picks, from a fresh state: the code and the state behind it, and what its picks did: "the first
-- call that is not refused has the job's code and a fresh state; each later one that is not refused has the same code and the state that the
-- one before it left." "A refused call, whatever it was lent, leaves that state as it was, and its picks do not count."
pub data History (code : List ℕ) : Session → List Happened → Type 0 where
  none : History code (record { code = code; state = fresh code }) []
  turned-down :
      {now : Session} {events : List Happened} {number place : ℕ} →
      History code now events → (c : Call) → Lent c →
      comes_to c ≡ refused number place → History code now events
  followed :
      {now : Session} {events : List Happened} {r : Ran} →
      History code now events → (c : Call) → Lent c →
      code_of c ≡ now.code →
      state_of c ≡ now.state →
      comes_to c ≡ done r → History code (record { code = now.code; state = r.state }) (events ++ r.events)

-- the calls of a list, in their order
unfoldable pub calls_of : {code : List ℕ} {now : Session} {events : List Happened} → History code now events → List Call
calls_of none = []
calls_of (turned-down h c l e) = calls_of h ++ (c ∷ [])
calls_of (followed h c l a b e) = calls_of h ++ (c ∷ [])

-- the picks of its calls that are not refused, in their order
unfoldable pub picks_taken : {code : List ℕ} {now : Session} {events : List Happened} → History code now events → List ℕ
picks_taken none = []
picks_taken (turned-down h c l e) = picks_taken h
picks_taken (followed h c l a b e) = picks_taken h ++ picks_of c

-- the state that a call leaves
abbrev pub state_after : Call → State
state_after (step code s i) = (step_call code s i).state
state_after (run code s is) = (run_call code s is).state

-- the counts that its answers report, refused calls included
abbrev pub reported_by : Call → Counts
reported_by (step code s i) = step_counts (step_call code s i).reply
reported_by (run code s is) = run_counts (run_call code s is).reply

-- the counts that the answers of a list of calls report together
unfoldable pub reported : List Call → Counts
reported [] = uncounted
reported (c ∷ cs) = together (reported_by c) (reported cs)

-- the script itself, fed a list of thread numbers
unfoldable pub script_after : Job → List ℕ → Script
script_after j is = turns (sum_of j) (initial j.tree) is

-- "A thread ends at the end of its own code; its result is the one number left on its stack"
pub record Ended (s : State) (i : ℕ) (n : ℤ) : Type 0 where
  pub there : Exists s i
  pub place : (thread_at s i).place ≡ (thread_at s i).end
  pub height : (thread_at s i).height ≡ 1
  pub result : get_or (thread_at s i).cells 0 (pos 0) ≡ n

-- a thread that has ended, and the script's result for it
pub record SameResult (s : State) (script : Script) (i : ℕ) : Type 0 where
  pub number : ℤ
  pub ended : Ended s i number
  pub script's : Result script i number

-- "after it the registers' values and the numbers of the threads that exist are exactly those of the script itself, .. given one turn for each
-- outside sum, fork and commit in the order in which these came, and each thread that has ended has the script's result for it"
pub record Whole (j : Job) (s : State) (events : List Happened) : Type 0 where
  pub registers : s.registers ≡ (script_after j (order events)).registers
  pub threads : (i : ℕ) → Exists s i ↔ (i < length (script_after j (order events)).threads)
  pub results : (i : ℕ) → Exists s i → (thread_at s i).place ≡ (thread_at s i).end → SameResult s (script_after j (order events)) i

-- "Every list of turns that the script can take is the order of some such list of calls", which "also ends every thread that is then a VALP in
-- the script"
-- More than the papers ask: it sends no thread back.
pub record IsOrder (j : Job) (is : List ℕ) : Type 0 where
  pub now : Session
  pub events : List Happened
  pub history : History (compiled j) now events
  pub its_order : order events ≡ is
  pub calm : (counts_of events).back ≡ 0
  pub ends : (i : ℕ) (n : ℤ) → Result (script_after j is) i n → Ended now.state i n

-- "no thread is sent back twice between neighbouring commits or after the last, nor at all before the first"
pub record SentBack (events : List Happened) : Type 0 where
  pub not_twice :
      (before between behind : List Happened) → events ≡ before ++ (between ++ behind) → counted is_commit between ≡ 0 → (i : ℕ) →
      backs i between ≤ 1
  pub none_first : (before behind : List Happened) → events ≡ before ++ behind → counted is_commit before ≡ 0 → (i : ℕ) → backs i before ≡ 0

-- Which lists of calls there are.
pub record CallLists (j : Job) : Type 0 where
  -- any refused call may come next in any list
  pub refused_next :
      {now : Session} {events : List Happened} {number place : ℕ} →
      History (compiled j) now events → (c : Call) → Lent c → comes_to c ≡ refused number place →
      History (compiled j) now events
  -- and any call that is taken, with the code and the state so far
  pub taken_next :
      {now : Session} {events : List Happened} {r : Ran} →
      History (compiled j) now events → (c : Call) → Lent c → code_of c ≡ now.code → state_of c ≡ now.state → comes_to c ≡ done r →
      History (compiled j) (record { code = now.code; state = r.state }) (events ++ r.events)
  -- so there is one with a refused step first, a refused run in between, and a run of any bytes up to 32,768
  pub mixed :
      (is js : List ℕ) → Bytes is → Bytes js → length is ≤ 32768 → 32768 < length js →
      (now : Session) × ((events : List Happened) × ((h : History (compiled j) now events) ×
      (calls_of h ≡ step [] (fresh (compiled j)) 0 ∷ run (compiled j) (fresh (compiled j)) js ∷ run (compiled j) (fresh (compiled j)) is ∷ [])))
  -- after any list the code is the job's, and any bytes up to 32,768 can be run next: such a call is lent what its types allow, and is not refused
  pub same-code : {now : Session} {events : List Happened} → History (compiled j) now events → now.code ≡ compiled j
  pub goes-on :
      {now : Session} {events : List Happened} → History (compiled j) now events → (is : List ℕ) → Bytes is → length is ≤ 32768 →
      Lent (run (compiled j) now.state is) ×
      (comes_to (run (compiled j) now.state is) ≡ done (steps.run (sum_of j) (compiled j) now.state is))
  -- "a step by itself counts as one with a single pick"
  pub step_is_run : (code : List ℕ) (s : State) (i : ℕ) → comes_to (step code s i) ≡ comes_to (run code s (i ∷ []))
  -- a refused call leaves the state that it was lent, a taken one the state that the next must have
  pub refused_keeps : (c : Call) (number place : ℕ) → comes_to c ≡ refused number place → state_after c ≡ state_of c
  pub taken_leaves : (c : Call) (r : Ran) → comes_to c ≡ done r → state_after c ≡ r.state
  -- a list is one run, from the fresh state, of the picks of its calls that are not refused
  pub one_run :
      {now : Session} {events : List Happened} (h : History (compiled j) now events) →
      steps.run (sum_of j) (compiled j) (fresh (compiled j)) (picks_taken h) ≡ record { state = now.state; events = events }
  -- the counts that its calls report add up to those of the whole list
  pub reports :
      {now : Session} {events : List Happened} (h : History (compiled j) now events) →
      reported (calls_of h) ≡ counts_of events
  -- a run cut in two, from any state that is lent, leaves the same state, and its two calls report the same counts together
  pub cut :
      (s : State) (is js : List ℕ) → Typed s → length (is ++ js) ≤ 32768 →
      let first = run (compiled j) s is in
      let second = run (compiled j) (state_after first) js in
      (state_after (run (compiled j) s (is ++ js)) ≡ state_after second) ×
      (reported_by (run (compiled j) s (is ++ js)) ≡ together (reported_by first) (reported_by second))
  -- no turn of its order is idle in the script
  pub order_taken :
      {now : Session} {events : List Happened} → History (compiled j) now events →
      CanTake (sum_of j) (initial j.tree) (order events)
