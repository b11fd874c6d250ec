-- The three demands, in the user's words, and before them what they speak in. The theorems `readers`, `replies`, `demand_1`, `demand_2`, `demand_3`
-- (guarantee/proofs/Demands) say that they hold.
use Rattle.std.specs.Prelude.{ℕ, ◌≤◌, true, ◌↔◌, ◌≡◌, List, ◌∷◌, ℤ, length, take}
use Rattle.guarantee.specs.Agreement.{Agreement}
use Rattle.guarantee.specs.Histories.{Session, History, CallLists, Whole, IsOrder, SentBack}
use Rattle.guarantee.specs.Rows.{JobAnswer, CompileAnswer, ReadBackAnswer}
use Rattle.code.specs.Bytes.{compiled, IsCode, Foreign}
use Rattle.code.specs.Reader.{read_code}
use Rattle.compiler.specs.CompileTo.{compile_to}
use Rattle.decompiler.specs.ReadBackTo.{bytes_of, read_back_to}
use Rattle.delivery.specs.Delivered.{Delivered, onto}
use Rattle.job.specs.Answer.{answer}
use Rattle.job.specs.declared.Accepted.{Accepted}
use Rattle.machine.specs.Answers.{sum_of, fresh_of, step_of, run_of, fresh_says, step_says, run_says}
use Rattle.machine.specs.Answers.{Returned, fresh_call, step_call, run_call, FreshAnswer, StepAnswer, RunAnswer}
use Rattle.machine.specs.FitTest.{fits}
use Rattle.machine.specs.Fits.{Typed, Fits}
use Rattle.machine.specs.Steps.{State, Stepped, Ran}
use Rattle.machine.specs.declared.FreshReply.{FreshReply}
use Rattle.machine.specs.declared.RunReply.{RunReply}
use Rattle.machine.specs.declared.StepReply.{StepReply}
use Rattle.script.specs.Bytes.{Bytes}
use Rattle.script.specs.Count.{bound}
use Rattle.script.specs.Outcome.{Outcome, refused, done, mapped}
use Rattle.script.specs.Jobs.{Job}
use Rattle.script.specs.Overflows.{overflows_turns}
use Rattle.script.specs.Reader.{read_job}
use Rattle.script.specs.Refusal.{IsJob, Refused}
use Rattle.script.specs.Soup.{Same, StepOn}
use Rattle.script.specs.Source.{StepsT, StepP}
use Rattle.script.specs.Tree.{Tran, ValT, Proc}
use Rattle.script.specs.Turns.{Registers, work, Script, initial, turn, idle, turned, turns, CanTake}
use Rattle.stm.specs.Events.{Happened, order, counts_of}
use Rattle.word.specs.Sum.{Rule}

-- What `read_job`, `read_code` and `fits` say, in which the contracts and the records below speak of jobs, code and states: nobody has to read them.
pub record Readers : Type 0 where
  -- a job is accepted, and is this one, exactly if its bytes are this one's; it is refused as the table says
  pub accepted : (job : List ℕ) (j : Job) → Bytes job → (read_job job ≡ done j) ↔ IsJob job j
  pub turned-down : (job : List ℕ) (number place : ℕ) → Bytes job → (read_job job ≡ refused number place) ↔ Refused job number place
  -- code is that of this job; it is foreign, 11 at 0, and there is no other refusal of code
  pub taken : (code : List ℕ) (j : Job) → Bytes code → (read_code code ≡ done j) ↔ IsCode code j
  pub foreign : (code : List ℕ) → Bytes code → (read_code code ≡ refused 11 0) ↔ Foreign code
  pub only_foreign : (code : List ℕ) (number place : ℕ) → read_code code ≡ refused number place → (number ≡ 11) × (place ≡ 0)
  -- a state fits
  pub fitting : (code : List ℕ) (s : State) → Typed s → (fits code s ≡ true) ↔ Fits code s

-- What the answers of fresh, step and run say, which are structs of numbers: just what the call comes to. So no refusal has number 0, and a step's
-- event, with its register and turn, is told by its numbers.
pub record Replies : Type 0 where
  pub fresh : (code : List ℕ) (s : State) → fresh_says (fresh_call code s).reply ≡ mapped (λ (r : State). tt) (fresh_of code s)
  pub step :
      (code : List ℕ) (s : State) (pick : ℕ) →
      step_says (step_call code s pick).reply ≡ mapped (λ (r : Stepped). record { event = r.event; over = r.over }) (step_of code s pick)
  pub run :
      (code : List ℕ) (s : State) (picks : List ℕ) →
      run_says (run_call code s picks).reply ≡ mapped (λ (r : Ran). counts_of r.events) (run_of code s picks)

-- 1. "Each job, code, state and pick list that meets document 01's rules, lent an output long enough, is carried through to its result, always
-- ending, inside the memory lent. Each other call is refused with the number and place document 01 gives, and no lent memory is altered."
-- The rows say what a call returns, answer and all lent memory: a result, or the number and place with the memory as it was. What a call
-- comes to is what one row says, and no row says anything else. That the functions end, inside the memory lent, is what the checker proves
-- of every function. At each field stands the function whose contract is the equation; what is asked of bytes and states, every slice has by
-- its type (`ByType`).
pub record Demand1 : Type 0 where
  -- `job::read_job`
  pub job_reader : (job : List ℕ) → Bytes job → (r : Outcome Accepted) → JobAnswer job r ↔ (r ≡ answer (read_job job))
  -- `compiler::compile`
  pub compiling : (job before : List ℕ) → Bytes job → (d : Delivered) → CompileAnswer job before d ↔ (d ≡ compile_to job before)
  -- `compiler::read_back`
  pub reading_back : (code before : List ℕ) → Bytes code → (d : Delivered) → ReadBackAnswer code before d ↔ (d ≡ read_back_to code before)
  -- `engine::kuspigo_fresh`
  pub fresh : (code : List ℕ) (s : State) → Bytes code → (r : Returned FreshReply) → FreshAnswer code s r ↔ (r ≡ fresh_call code s)
  -- `engine::kuspigo_step`
  pub step :
      (code : List ℕ) (s : State) (pick : ℕ) → Bytes code → Typed s →
      (r : Returned StepReply) → StepAnswer code s pick r ↔ (r ≡ step_call code s pick)
  -- `engine::kuspigo_run`
  pub run :
      (code : List ℕ) (s : State) (picks : List ℕ) → Bytes code → Typed s →
      (r : Returned RunReply) → RunAnswer code s picks r ↔ (r ≡ run_call code s picks)

-- 2. "Compiling, reading back and every step agree with the language and machine of source document 002, chapter 5, as document 01 fixes them;
-- code is read back exactly if some accepted job compiles to it, and to that job."
-- Compiling is the source's compiler by its definition: `compiled` is the bytes of `compile_p` (code/specs).
pub record Demand2 : Type 0 where
  -- the language: ATOMIC's value and registers are those that the source's small steps reach, and no other
  pub atomic_reached : (sum : Rule) (t : Tran) (h : Registers) → StepsT sum h t (work sum t h).registers (ValT (work sum t h).value)
  pub atomic_only :
      (sum : Rule) {h h' : Registers} {t : Tran} {n : ℤ} → StepsT sum h t h' (ValT n) →
      work sum t h ≡ record { value = n; registers = h' }
  -- a turn that is not idle is a step of the source's soup on that process, and each step of the soup is such a turn; also in any order
  pub turn_is_step : (sum : Rule) (s s' : Script) (i : ℕ) → turn sum s i ≡ turned s' → (soup' : List Proc) × StepOn sum s i s' soup'
  pub step_is_turn :
      (sum : Rule) (s : Script) {h' : Registers} {soup' : List Proc} → StepP sum s.registers s.threads h' soup' →
      (i : ℕ) × (s' : Script) × (turn sum s i ≡ turned s') × (s'.registers ≡ h') × StepOn sum s i s' soup'
  pub turn_is_step_same :
      (sum : Rule) (s s' : Script) (i : ℕ) (soup : List Proc) → Same soup s.threads → turn sum s i ≡ turned s' →
      (soup' : List Proc) × StepP sum s.registers soup s'.registers soup' × Same soup' s'.threads
  pub step_is_turn_same :
      (sum : Rule) (s : Script) (soup : List Proc) {h' : Registers} {soup' : List Proc} →
      Same soup s.threads → StepP sum s.registers soup h' soup' →
      (i : ℕ) × (s' : Script) × (turn sum s i ≡ turned s') × (s'.registers ≡ h') × Same soup' s'.threads
  -- an idle turn leaves the script as it was, and has no sum that falls outside the range
  pub idle_turn : (sum : Rule) (s : Script) (i : ℕ) (is : List ℕ) → turn sum s i ≡ idle → turns sum s (i ∷ is) ≡ turns sum s is
  pub idle_over :
      (sum : Rule) (s : Script) (i : ℕ) (is : List ℕ) → turn sum s i ≡ idle →
      overflows_turns sum s (i ∷ is) ≡ overflows_turns sum s is
  -- every step of the machine; document 02 No. 6 replaces one premise of the source's COMMIT (source/specs/Source), and `Staleness` says what of it
  -- holds of every run
  pub machine : (job : List ℕ) (j : Job) → Bytes job → read_job job ≡ done j → Agreement j
  -- "code is read back exactly if some accepted job compiles to it, and to that job"
  pub read_back_exactly :
      (job code : List ℕ) → Bytes job → Bytes code →
      (mapped bytes_of (read_code code) ≡ done job) ↔ (mapped compiled (read_job job) ≡ done code)
  -- of the calls: compiling and then reading back gives the job's own bytes, reading back and then compiling the code's
  pub compile_then_back :
      (job out out' : List ℕ) (n : ℕ) → Bytes job → (compile_to job out).answer ≡ done n → length job ≤ length out' →
      read_back_to (take n (compile_to job out).output) out' ≡ record { answer = done (length job); output = onto job out' }
  pub back_then_compile :
      (code out out' : List ℕ) (n : ℕ) → Bytes code → (read_back_to code out).answer ≡ done n → length code ≤ length out' →
      compile_to (take n (read_back_to code out).output) out' ≡ record { answer = done (length code); output = onto code out' }

-- 3. "every list of calls that run its code by picks, from a fresh state, idle picks and refused calls included":
-- a call is one of `engine::kuspigo_step` or `engine::kuspigo_run`, a fresh state what `engine::kuspigo_fresh` lays down.
pub record AsScript (j : Job) : Type 0 where
  -- which lists of calls there are
  pub lists : CallLists j
  -- "after it the registers' values and the numbers of the threads that exist are exactly those of the script itself, its transactions whole
  -- and alone, given one turn for each outside sum, fork and commit in the order in which these came, and each thread that has ended has the
  -- script's result for it."
  pub whole : {now : Session} {events : List Happened} → History (compiled j) now events → Whole j now.state events
  -- document 02 No. 2: `over` is "the number of such sums outside transactions and .. in attempts that took effect": over the whole list, as
  -- many sums of the script fed the order, its transactions whole, fall outside the range
  pub over :
      {now : Session} {events : List Happened} → History (compiled j) now events →
      (counts_of events).over ≡ overflows_turns (sum_of j) (initial j.tree) (order events)
  -- "Every list of turns that the script can take is the order of some such list of calls."
  pub orders : (is : List ℕ) → CanTake (sum_of j) (initial j.tree) is → IsOrder j is
  -- "Whatever the picks, no thread is sent back twice between neighbouring commits or after the last, nor at all before the first."
  pub sent-back : {now : Session} {events : List Happened} → History (compiled j) now events → SentBack events
  -- "With K transactions, T threads, L instructions and longest transaction M, the job ends within L + (K−1)×(T−1)×M steps, or L if K is 0,
  -- idle picks uncounted."
  pub ends : {now : Session} {events : List Happened} → History (compiled j) now events → (counts_of events).steps ≤ bound j.tree

-- "For every accepted job"
abbrev pub Demand3 : Type 0
Demand3 = (job : List ℕ) (j : Job) → Bytes job → read_job job ≡ done j → AsScript j
