-- Document 02 No. 4: "A service engineer steps through a run and must see why a thread is where it is."
use Rattle.std.specs.Prelude.{ℕ, ◌+◌, ◌≤◌, ◌<◌, true, false, cond, ◌↔◌, ◌≡◌, List, eqb, drop, set}
use Rattle.std.proofs.Math.Option.{Option, none, some}
use Rattle.guarantee.specs.Histories.{Session, History}
use Rattle.code.specs.Bytes.{compiled}
use Rattle.code.specs.Ops.{op_at}
use Rattle.code.specs.Ops as code
use Rattle.machine.specs.Answers.{sum_of, step_of, step_call, rule_named, backs_of}
use Rattle.machine.specs.Fits.{CommitsPassed, Exists, Fits, Typed}
use Rattle.source.specs.Soup.{Soup, source_rule, PickOn, rule_of}
use Rattle.source.specs.Source.{SThread}
use Rattle.machine.specs.Steps.{State, Stepped, thread_at, pick, FirstStale, FoundIn, fresh, run, table_in}
use Rattle.script.specs.Jobs.{Job}
use Rattle.script.specs.Outcome.{done, mapped}
use Rattle.stm.specs.Counted.{Table}
use Rattle.stm.specs.Events.{Source, Event, is_commit, Happened, backs, more, counts_of, event_number, event_register}
use Rattle.stm.specs.Rules.{MachineRule, sent_back_with, read_rule, used_by, rule_number, rule_of_number, OfMachine, held, rule_after, backs_after, last_rule}
use Rattle.thread.specs.declared.Thread.{Thread}
use Rattle.thread.specs.Threads.{with_rule, stale}
use Rattle.word.specs.Sum.{Rule}

-- the numbers of the rules: each rule has one; below 74 each number has a rule or, 0, none; the others name none; the two numbers of a step's
-- answer, the event's and the register's, add up to that of the rule
pub record RuleNumbers : Type 0 where
  pub rule-of-number : (r : Option MachineRule) → OfMachine r → rule_of_number (rule_number r) ≡ r
  pub number_of_rule : (n : ℕ) → n < 74 → rule_number (rule_of_number n) ≡ n
  pub no_rule : (n : ℕ) → 74 ≤ n → rule_of_number n ≡ none
  pub answer_number : (e : Event) → event_number e + event_register e ≡ rule_number (used_by e)

module _ (j : Job) where
  -- the job's code, and its rule for sums
  abbrev its : List ℕ
  its = compiled j

  -- its rule for sums
  abbrev sum : Rule
  sum = sum_of j

  -- the rule that a pick uses
  abbrev uses : State → ℕ → Option MachineRule
  uses s i = used_by (pick sum its s i).event

  -- the state with another last rule and another number of send-backs of thread i
  abbrev renumbered : State → ℕ → (rule backs : ℕ) → State
  renumbered s i rule n = record { registers = s.registers; counts = s.counts; threads = set s.threads i (with_rule rule n (thread_at s i)) }

  -- document 02 No. 4, of every step of the job's code, of every thread's record, and of the state test
  pub record RulesNamed : Type 0 where
    -- ---- "Each step names the machine rule it used": its answer does, unless it is a refusal
    pub names : (s : State) (i : ℕ) → rule_named (step_call its s i).reply ≡ mapped (λ (r : Stepped). used_by r.event) (step_of its s i)
    -- "or idle", exactly if there is no such thread or it has ended
    pub idle_named : (s : State) → Fits its s → Typed s → (i : ℕ) → (uses s i ≡ none) ↔ (Exists s i → (thread_at s i).place ≡ (thread_at s i).end)
    -- else it is the rule of the source's machine by which the soup steps, and by which the thread does, whatever the others are
    pub by_source :
        (s : State) → Fits its s → Typed s → (soup : List SThread) → Soup its s soup →
        (i : ℕ) (m : MachineRule) → uses s i ≡ some m →
        (h' : Table) × ((soup' : List SThread) × ((p : PickOn its sum s i soup h' soup') ×
        ((source_rule m ≡ rule_of p.whole.step) × ((others : List SThread) → source_rule m ≡ rule_of (p.step others)))))
    -- "read from write log, read from read log, read from table", and "sent back with the lowest stale register"
    pub read-from :
        (s : State) (i : ℕ) (from : Source) → uses s i ≡ some (read_rule from) →
        (v : ℕ) × ((op_at (drop (thread_at s i).place its) ≡ done (code.read v)) × FoundIn (thread_at s i) v from)
    pub lowest_stale : (s : State) (i v : ℕ) → uses s i ≡ some (sent_back_with v) → FirstStale (thread_at s i) (table_in s) v
    -- ---- "Each thread record now also holds its last rule that was not idle, none at first, and its own number of send-backs"
    -- a pick of thread i changes both numbers in the record of thread i alone
    pub rule-after :
        (s : State) → Fits its s → Typed s → (i k : ℕ) →
        (thread_at (pick sum its s i).state k).rule ≡ cond (eqb i k) (rule_after (pick sum its s i).event (thread_at s k).rule) (thread_at s k).rule
    pub backs-after :
        (s : State) → Fits its s → Typed s → (i k : ℕ) →
        (thread_at (pick sum its s i).state k).backs ≡ cond (eqb i k) (backs_after (pick sum its s i).event (thread_at s k).backs) (thread_at s k).backs
    -- so after a run a record holds its thread's last rule in it, and as many send-backs more as there were
    pub last-rule :
        (s : State) → Fits its s → Typed s → (is : List ℕ) (k : ℕ) →
        (thread_at (run sum its s is).state k).rule ≡ held (last_rule k (run sum its s is).events) (thread_at s k).rule
    pub more_backs :
        (s : State) → Fits its s → Typed s → (is : List ℕ) (k : ℕ) →
        (thread_at (run sum its s is).state k).backs ≡ backs k (run sum its s is).events + (thread_at s k).backs
    -- "From a fresh state": after every list of calls, and so after every step, the last rule over all calls, the count of the thread's
    -- send-backs over all calls; "these numbers add up to the run's `back` after every step"
    pub held_rule : {now : Session} {events : List Happened} → History its now events → (k : ℕ) → (thread_at now.state k).rule ≡ rule_number (last_rule k events)
    pub held_backs : {now : Session} {events : List Happened} → History its now events → (k : ℕ) → (thread_at now.state k).backs ≡ backs k events
    pub add_up : {now : Session} {events : List Happened} → History its now events → backs_of now.state.threads ≡ (counts_of events).back
    pub add_up_always : (is : List ℕ) → backs_of (run sum its (fresh its) is).state.threads ≡ (counts_of (run sum its (fresh its) is).events).back
    -- ---- "A state is foreign if such a number is above the COMMITs passed by all threads, or equal to it while that thread's open transaction
    -- has a stale read"
    -- the COMMITs passed are one number; a pick raises it by one if it is a COMMIT that takes effect; from a fresh state they are the commits of
    -- all calls
    pub one_number : {ts : List Thread} {m n : ℕ} → CommitsPassed its ts m → CommitsPassed its ts n → m ≡ n
    pub one_more :
        (s : State) → Fits its s → Typed s → (i n : ℕ) → CommitsPassed its s.threads n →
        CommitsPassed its (pick sum its s i).state.threads (more (is_commit (pick sum its s i).event) n)
    pub all_commits : {now : Session} {events : List Happened} → History its now events → CommitsPassed its now.state.threads (counts_of events).commits
    pub above : (s : State) (n i : ℕ) → CommitsPassed its s.threads n → Exists s i → n < (thread_at s i).backs → Fits its s → ⊥
    pub stale_equal :
        (s : State) (n i v : ℕ) → CommitsPassed its s.threads n → Exists s i →
        (thread_at s i).backs ≡ n → stale (thread_at s i) (table_in s) v ≡ true → Fits its s → ⊥
    -- and it is for no other value of these numbers: any last rule fits, also one that is no rule's number; any number of send-backs does that
    -- is below the COMMITs passed, and the equal one if no read is stale
    pub any_rule : (s : State) → Fits its s → Typed s → (i : ℕ) → Exists s i → (rule : ℕ) → Fits its (renumbered s i rule (thread_at s i).backs)
    pub any_backs :
        (s : State) → Fits its s → Typed s → (i n : ℕ) → Exists s i → CommitsPassed its s.threads n →
        (m : ℕ) → m ≤ n → (m ≡ n → (v : ℕ) → stale (thread_at s i) (table_in s) v ≡ false) → Fits its (renumbered s i (thread_at s i).rule m)
