-- Demand 2 on the machine: every step agrees with the machine of source document 002, chapter 5, "as document 01 fixes them", its COMMIT asking for
-- the counts of document 02 No. 6 where `r ⊆ h` is printed (source/specs/Source).
use Rattle.std.specs.Prelude.{ℕ, ◌<◌, false, ◌↔◌, ◌≡◌, List, ◌∷◌, ℤ, pos, drop, replicate}
use Rattle.std.proofs.Math.Option.{some}
use Rattle.guarantee.specs.Histories.{Session, History, Ended}
use Rattle.code.specs.Bytes.{compiled}
use Rattle.code.specs.Ops.{op_at}
use Rattle.code.specs.Ops as code
use Rattle.thread.specs.Threads.{exists, stale}
use Rattle.machine.specs.Steps.{State, thread_at, pick, told_by, noted_by, DoesOne, FirstStale, FoundIn, fresh, run, table_in}
use Rattle.machine.specs.Fits.{Exists, Fits, Typed}
use Rattle.machine.specs.Answers.{sum_of}
use Rattle.source.specs.Source.{SThread, Halted, StepM, StepsM}
use Rattle.source.specs.Soup.{Carries, Soup, StandsFor, rule_of, IsFor, First, named, ByRule, load, PickOn}
use Rattle.script.specs.Outcome.{done}
use Rattle.script.specs.Jobs.{Job}
use Rattle.stm.specs.Counted.{Table}
use Rattle.stm.specs.Events.{Source, idle, looked, committed, sent_back, Happened, is_idle}
use Rattle.word.specs.Sum.{Rule}

module _ (j : Job) where
  -- the job's code, and its rule for sums
  abbrev its : List ℕ
  its = compiled j

  -- its rule for sums
  abbrev sum : Rule
  sum = sum_of j

  -- what holds of every pick of the job's code, of the fit, and of the source's machine beside it
  pub record Agreement : Type 0 where
    -- ---- picks
    -- "A pick of a thread that does not exist or has ended is idle and changes nothing but the idle count"
    pub missing_idle : (s : State) (i : ℕ) → exists (thread_at s i) ≡ false → pick sum its s i ≡ record { state = s; event = idle; over = 0 }
    pub ended_idle : (s : State) (i : ℕ) → (thread_at s i).place ≡ (thread_at s i).end → pick sum its s i ≡ record { state = s; event = idle; over = 0 }
    -- "Each other pick does one instruction": the one at the thread's place
    pub does_one :
        (s : State) → Fits its s → Typed s → (i : ℕ) → Exists s i → ((thread_at s i).place ≡ (thread_at s i).end → ⊥) →
        DoesOne sum its s i
    -- a send-back tells "the first stale one"; a commit that takes effect found none
    pub sent_back_first : (s : State) (i v : ℕ) → (pick sum its s i).event ≡ sent_back v → FirstStale (thread_at s i) (table_in s) v
    pub committed_none :
        (s : State) (i : ℕ) → (pick sum its s i).event ≡ committed →
        (u : ℕ) → u < 64 → stale (thread_at s i) (table_in s) u ≡ false
    -- READ tells where it found its value
    pub looked_found :
        (s : State) (i : ℕ) (from : Source) → (pick sum its s i).event ≡ looked from →
        (v : ℕ) × ((op_at (drop (thread_at s i).place its) ≡ done (code.read v)) × FoundIn (thread_at s i) v from)
    -- document 02 No. 2: a pick tells of "such sums outside transactions and, as noted, in attempts that took effect", and of no other; the
    -- others of an open attempt are noted in its thread's record
    pub told : (s : State) (i : ℕ) → (pick sum its s i).over ≡ told_by (pick sum its s i).event (thread_at s i)
    pub noted :
        (s : State) → Fits its s → Typed s → (i : ℕ) → Exists s i →
        (thread_at (pick sum its s i).state i).over ≡ noted_by (pick sum its s i).event (thread_at s i)
    -- and where no transaction is open nothing is noted
    pub none_noted : (s : State) → Fits its s → (i : ℕ) → Exists s i → (thread_at s i).begin ≡ 0 → (thread_at s i).over ≡ 0
    -- ---- the fit
    -- "A fresh state fits its code, and each step leaves a state that fits as one that fits, what it frees being 0"
    pub fresh_fits : Fits its (fresh its) × Typed (fresh its)
    pub step_fits :
        (s : State) → Fits its s → Typed s → (i : ℕ) →
        Fits its (pick sum its s i).state × Typed (pick sum its s i).state
    pub run_fits :
        (s : State) → Fits its s → Typed s → (is : List ℕ) →
        Fits its (run sum its s is).state × Typed (run sum its s is).state
    -- ---- the source's machine
    -- a fitting state stands for a soup, a fresh one for the loaded process
    pub fresh_soup : Soup its (fresh its) (load j.tree)
    pub has_soup : (s : State) → Fits its s → Typed s → (soup : List SThread) × Soup its s soup
    -- a thread has ended, with its result, exactly if the source's is halted with it
    pub ended_halted :
        (s : State) → Fits its s → Typed s → (i : ℕ) → Exists s i → (m : SThread) → Carries its (thread_at s i) m →
        (n : ℤ) → Ended s i n ↔ Halted m n
    -- a pick that is not idle is a step of the soup on that thread, by the rule that its event names
    pub pick_is_step :
        (s : State) → Fits its s → Typed s → (soup : List SThread) → Soup its s soup →
        (i : ℕ) → is_idle (pick sum its s i).event ≡ false →
        (h' : Table) × ((soup' : List SThread) × PickOn its sum s i soup h' soup')
    -- and each step of the soup is such a pick, whose event names its rule
    pub step_is_pick :
        (s : State) → Fits its s → Typed s → (soup : List SThread) → Soup its s soup →
        (h' : Table) (soup' : List SThread) → (step : StepM sum (table_in s) soup h' soup') →
        (i : ℕ) × ((is_idle (pick sum its s i).event ≡ false) ×
        ((named (pick sum its s i).event ≡ some (rule_of step)) × PickOn its sum s i soup h' soup'))
    -- a rule's name says which instruction it is for, so that different rules have different names
    pub rule_is_for :
        {h h' : Table} {m : SThread} {behind left : List SThread} →
        (x : StepM sum h (m ∷ behind) h' left) → First x → IsFor (rule_of x) h m
    -- picks and steps also for soups in any order
    pub pick_is_step_same :
        (s : State) → Fits its s → Typed s → (soup : List SThread) → StandsFor its s soup →
        (i : ℕ) → is_idle (pick sum its s i).event ≡ false →
        (soup' : List SThread) ×
        (ByRule sum (table_in s) soup (table_in (pick sum its s i).state) soup' (pick sum its s i).event ×
        StandsFor its (pick sum its s i).state soup')
    pub step_is_pick_same :
        (s : State) → Fits its s → Typed s → (soup : List SThread) → StandsFor its s soup →
        (h' : Table) (soup' : List SThread) → (step : StepM sum (table_in s) soup h' soup') →
        (i : ℕ) × ((named (pick sum its s i).event ≡ some (rule_of step)) ×
        ((table_in (pick sum its s i).state ≡ h') × StandsFor its (pick sum its s i).state soup'))
    -- behind every list of calls stands a soup that the source's machine reaches from the loaded process, every register being 0 and never written
    pub history_reached :
        {now : Session} {events : List Happened} → History its now events →
        (soup : List SThread) ×
        (StepsM sum (record { registers = replicate 64 (pos 0); counts = replicate 64 0 }) (load j.tree) (table_in now.state) soup ×
        StandsFor its now.state soup)
    pub history_fits : {now : Session} {events : List Happened} → History its now events → Fits its now.state × Typed now.state
