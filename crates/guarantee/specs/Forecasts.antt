-- Document 02 No. 1: "Each figure equals what compiling and any finished run later show, the bound being an upper limit."
use Rattle.std.specs.Prelude.{ℕ, suc, ◌+◌, ◌-◌, ◌*◌, ◌<◌, ◌≤◌, true, ◌↔◌, ◌≡◌, List, [], ◌++◌, pos, length, get_or}
use Rattle.code.specs.Bytes.{compiled, OccursIn}
use Rattle.code.specs.Compile.{READ, WRITE, ε, compile_p}
use Rattle.code.specs.Counts.{code_count, longest_in}
use Rattle.code.specs.Ops as code
use Rattle.forecast.specs.Figures.{refused_with, forecast_of}
use Rattle.forecast.specs.declared.ForecastReply.{ForecastReply}
use Rattle.guarantee.specs.Histories.{Session, History, none, turned-down, followed, code_of, state_of, picks_of}
use Rattle.machine.specs.Answers.{sum_of}
use Rattle.machine.specs.Fits.{Exists, OneThread}
use Rattle.machine.specs.Stands.{Stands}
use Rattle.machine.specs.Steps.{Child, pick, fresh}
use Rattle.script.specs.Bytes.{Bytes}
use Rattle.script.specs.Jobs.{Job}
use Rattle.script.specs.Outcome.{done}
use Rattle.script.specs.Reader.{read_job}
use Rattle.script.specs.Refusal.{Refused}
use Rattle.script.specs.Tree.{ValP}
use Rattle.stm.specs.Events.{Happened, is_idle, counts_of}
use Rattle.traces.specs.OwnCodes.{bodies, own_codes, nowhere}
use Rattle.traces.specs.Traces.{Finished, Moment, moments, Chained, happened, PickDid, Greatest}
use Rattle.word.specs.Registers.{member}

-- the picks of a list of calls, those inside its calls too, each with the states before and after it; a refused call's "picks do not count"
unfoldable pub moments_of : (j : Job) {now : Session} {events : List Happened} → History (compiled j) now events → List Moment
moments_of j none = []
moments_of j (turned-down h c l e) = moments_of j h
moments_of j (followed h c l a b e) = moments_of j h ++ moments (sum_of j) (code_of c) (state_of c) (picks_of c)

-- where the own code of the root (0) and of the k-th FORK's child, in job order, starts and ends
abbrev pub own_of : Job → ℕ → Child
own_of j k = get_or (own_codes j.tree) k nowhere

-- what compiling shows
pub record AsCompiled (j : Job) (f : ForecastReply) : Type 0 where
  -- "code length in bytes"
  pub length : length (compiled j) ≡ f.length
  -- L and M, counted in the instructions whose bytes the code is
  pub instructions : code_count (compile_p j.tree ε) ≡ f.instructions
  pub longest : longest_in (compile_p j.tree ε) ≡ f.longest
  -- the registers of its READ and of its WRITE instructions
  pub reads : (v : ℕ) → (member f.reads v ≡ true) ↔ OccursIn (READ v) (compile_p j.tree ε)
  pub writes : (v : ℕ) → (member f.writes v ≡ true) ↔ OccursIn (WRITE v) (compile_p j.tree ε)
  -- at each `own_of` stands the code of the root or of a FORK's child, each starting behind the start of the one before: compiling keeps left
  -- before right and a child behind its FORK, so this is job order
  pub own-codes :
      (k : ℕ) → k < f.threads →
      Stands (compiled j) (own_of j k).start (own_of j k).end (compile_p (get_or (bodies j.tree) k (ValP (pos 0))) ε)
  pub ascending : (k : ℕ) → suc k < f.threads → (own_of j k).start < (own_of j (suc k)).start

-- what a finished list of calls shows
pub record AsRun (j : Job) (f : ForecastReply) {now : Session} {events : List Happened} (h : History (compiled j) now events) : Type 0 where
  -- K and T
  pub commits : (counts_of events).commits ≡ f.transactions
  pub threads : (i : ℕ) → Exists now.state i ↔ (i < f.threads)
  -- "greatest stack height of the root and of each FORK's child in job order", over the states after every pick; each has one thread
  pub one : (k : ℕ) → k < f.threads → OneThread now.state (own_of j k)
  pub heights : (k : ℕ) → k < f.threads → Greatest (moments_of j h) (own_of j k) (get_or f.heights k 0)
  -- "the set of registers named by READ and the set named by WRITE"
  pub reads : (v : ℕ) → (member f.reads v ≡ true) ↔ PickDid (sum_of j) (compiled j) (moments_of j h) (code.read v)
  pub writes : (v : ℕ) → (member f.writes v ≡ true) ↔ PickDid (sum_of j) (compiled j) (moments_of j h) (code.write v)
  -- L steps if nothing was sent back, else more; and "the step bound"
  pub exact : (counts_of events).back ≡ 0 → (counts_of events).steps ≡ f.instructions
  pub least : f.instructions + (counts_of events).back ≤ (counts_of events).steps
  pub most : (counts_of events).steps ≤ f.bound

-- a list of calls after which every thread has ended, none having been sent back
pub record FinishedList (j : Job) : Type 0 where
  pub now : Session
  pub events : List Happened
  pub history : History (compiled j) now events
  pub finished : Finished now.state
  pub calm : (counts_of events).back ≡ 0

-- what a forecast is worth
pub record ComesTrue (j : Job) (f : ForecastReply) : Type 0 where
  -- it is no refusal; its bound is L + (K−1)×(T−1)×M; behind the heights of the root and the children it has 0
  pub taken : (f.refusal ≡ 0) × (f.place ≡ 0)
  pub bound : f.bound ≡ f.instructions + (f.transactions - 1) * (f.threads - 1) * f.longest
  pub none-behind : (k : ℕ) → f.threads ≤ k → get_or f.heights k 0 ≡ 0
  pub compiling : AsCompiled j f
  pub running :
      {now : Session} {events : List Happened} (h : History (compiled j) now events) → Finished now.state → AsRun j f h
  -- there is such a list
  pub finishes : FinishedList j
  -- and a list is finished exactly if any further pick would be idle
  pub finished :
      {now : Session} {events : List Happened} → History (compiled j) now events →
      Finished now.state ↔ ((i : ℕ) → is_idle (pick (sum_of j) (compiled j) now.state i).event ≡ true)
  -- the picks that `moments_of` has are those that the list made, from the fresh state to the last
  pub chained :
      {now : Session} {events : List Happened} (h : History (compiled j) now events) →
      Chained (sum_of j) (compiled j) (fresh (compiled j)) (moments_of j h) now.state
  pub all_made :
      {now : Session} {events : List Happened} (h : History (compiled j) now events) →
      happened (sum_of j) (compiled j) (moments_of j h) ≡ events

-- `forecast::forecast` answers `forecast_of (read_job job)`
pub record Forecasts : Type 0 where
  -- "A refused job gets the job reader's number and place": those of `Refused`, document 01's table with document 02 No. 3's row
  pub refused : (job : List ℕ) → Bytes job → (number place : ℕ) → Refused job number place ↔ (forecast_of (read_job job) ≡ refused_with number place)
  pub told : (number place : ℕ) → ((refused_with number place).refusal ≡ number) × ((refused_with number place).place ≡ place)
  -- every accepted job's comes true
  pub accepted : (job : List ℕ) (j : Job) → Bytes job → read_job job ≡ done j → ComesTrue j (forecast_of (read_job job))
