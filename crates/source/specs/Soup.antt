-- How the records of a state stand for the source's soup of threads that carry their code (source 5.2.4).
use Rattle.std.specs.Prelude.{ℕ, ◌≤◌, ◌<◌, true, false, ◌≡◌, List, [], ◌∷◌, ◌++◌, ℤ, length, get_or}
use Rattle.std.proofs.Math.Option.{Option, none, some}
use Rattle.code.specs.Compile.{Code, PUSH, ADD, READ, WRITE, BEGIN, COMMIT, FORK, ε, ◌⨾◌, compile_p}
use Rattle.thread.specs.declared.Thread.{Thread}
use Rattle.thread.specs.Threads.{read_log, write_log}
use Rattle.machine.specs.Steps.{State, table_in, number_of, thread_at, pick}
use Rattle.stm.specs.Rules as rules
use Rattle.stm.specs.Rules.{MachineRule}
use Rattle.stm.specs.Events.{Event, idle, pushed, summed, forked, begun, looked, wrote, committed, sent_back}
use Rattle.source.specs.Source.{empty, SThread, consistent, StepM, Preempt, ForkM, PushM, AddM, BeginM, ReadM, WriteM, Committed, Failed}
use Rattle.script.specs.Tree.{Proc}
use Rattle.stm.specs.Counted.{Table}
use Rattle.script.specs.Soup.{Same}
use Rattle.machine.specs.Stands.{Stands, ValuedC, stack_from}
use Rattle.word.specs.Sum.{Rule}

-- A record and a thread of the source. Its code is the record's own code from its place on; while a transaction is open, f is the code from
-- its BEGIN on, and r and w are the logs. Outside a transaction the source leaves in f, r and w what the last one had; the record empties them.
pub record Carries (bytes : List ℕ) (t : Thread) (m : SThread) : Type 0 where
  pub code : Stands bytes t.place t.end m.code
  pub valued : ValuedC m.code
  pub stack : m.stack ≡ stack_from t.cells 0 t.height
  pub again : 1 ≤ t.begin → Stands bytes t.begin t.end m.again × ValuedC m.again
  pub reads : 1 ≤ t.begin → (v : ℕ) → m.reads v ≡ read_log t v
  pub writes : 1 ≤ t.begin → (v : ℕ) → m.writes v ≡ write_log t v

-- a thread with nothing to do
abbrev pub nobody : SThread
nobody = record { code = ε; stack = []; again = ε; reads = empty; writes = empty }

-- the soup of a state: its threads in the order of their numbers
pub record Soup (bytes : List ℕ) (s : State) (soup : List SThread) : Type 0 where
  pub number : length soup ≡ number_of s.threads
  pub carries : (i : ℕ) → i < length soup → Carries bytes (thread_at s i) (get_or soup i nobody)

-- a soup of the state's threads in any order: "the soup itself is to be regarded as a multi-set" (source 5.1.3)
pub record StandsFor (bytes : List ℕ) (s : State) (soup : List SThread) : Type 0 where
  pub threads : List SThread
  pub ordered : Soup bytes s threads
  pub same : Same soup threads

-- the rules' names
pub data Name : Type 0 where
  fork push add begin read write commit fail : Name

-- the rule of a step; Preempt only says which thread steps
unfoldable pub rule_of : {sum : Rule} {h h' : Table} {s s' : List SThread} → StepM sum h s h' s' → Name
rule_of (Preempt x) = rule_of x
rule_of ForkM = fork
rule_of PushM = push
rule_of AddM = add
rule_of BeginM = begin
rule_of ReadM = read
rule_of WriteM = write
rule_of (Committed e) = commit
rule_of (Failed e) = fail

-- what a rule is for: the thread's next instruction, and for COMMIT whether the read log's counts are the heap's, which stands for `r ⊆ h`
unfoldable pub IsFor : Name → Table → SThread → Type 0
IsFor fork h m = (k : Code) × ((c : Code) × (m.code ≡ FORK k ⨾ c))
IsFor push h m = (n : ℤ) × ((c : Code) × (m.code ≡ PUSH n ⨾ c))
IsFor add h m = (c : Code) × (m.code ≡ ADD ⨾ c)
IsFor begin h m = (c : Code) × (m.code ≡ BEGIN ⨾ c)
IsFor read h m = (v : ℕ) × ((c : Code) × (m.code ≡ READ v ⨾ c))
IsFor write h m = (v : ℕ) × ((c : Code) × (m.code ≡ WRITE v ⨾ c))
IsFor commit h m = (c : Code) × ((m.code ≡ COMMIT ⨾ c) × (consistent 64 0 m.reads h.counts ≡ true))
IsFor fail h m = (c : Code) × ((m.code ≡ COMMIT ⨾ c) × (consistent 64 0 m.reads h.counts ≡ false))

-- it is the first thread of the soup that steps
unfoldable pub First : {sum : Rule} {h h' : Table} {s s' : List SThread} → StepM sum h s h' s' → Type 0
First (Preempt x) = ⊥
First ForkM = Unit {0}
First PushM = Unit {0}
First AddM = Unit {0}
First BeginM = Unit {0}
First ReadM = Unit {0}
First WriteM = Unit {0}
First (Committed e) = Unit {0}
First (Failed e) = Unit {0}

-- the source's rule of an event
abbrev pub named : Event → Option Name
named idle = none
named pushed = some push
named (summed inside) = some add
named forked = some fork
named begun = some begin
named (looked source) = some read
named wrote = some write
named committed = some commit
named (sent_back v) = some fail

-- the source's rule of a machine rule of document 02 No. 4: it has one for READ, wherever that finds its value
unfoldable pub source_rule : MachineRule → Name
source_rule rules.push = push
source_rule rules.sum = add
source_rule rules.fork = fork
source_rule rules.begin = begin
source_rule rules.read_from_write_log = read
source_rule rules.read_from_read_log = read
source_rule rules.read_from_table = read
source_rule rules.write = write
source_rule rules.commit = commit
source_rule (rules.sent_back_with v) = fail

-- a step by the rule that an event names
pub record ByRule (sum : Rule) (h : Table) (soup : List SThread) (h' : Table) (soup' : List SThread) (event : Event) : Type 0 where
  pub step : StepM sum h soup h' soup'
  pub rule : named event ≡ some (rule_of step)

-- `load`, source 5.3.1: "the compiled code for the process, together with an empty stack, restart code and read and write logs"
abbrev pub load : Proc → List SThread
load p = record { code = compile_p p ε; stack = []; again = ε; reads = empty; writes = empty } ∷ []

-- A pick of thread i as a step of the soup, which leaves the heap h' and the soup'. The source puts a forked child behind its parent,
-- document 01 gives it the next number.
pub record PickOn (bytes : List ℕ) (sum : Rule) (s : State) (i : ℕ) (soup : List SThread) (h' : Table) (soup' : List SThread) : Type 0 where
  pub front : List SThread
  pub m : SThread
  pub m' : SThread
  pub behind : List SThread
  pub new : List SThread
  pub number : length front ≡ i
  pub was : soup ≡ front ++ (m ∷ behind)
  -- the thread's own step, whatever the other threads are
  pub step : (others : List SThread) → StepM sum (table_in s) (m ∷ others) h' (m' ∷ (new ++ others))
  pub its : (others : List SThread) → First (step others)
  pub rule : (others : List SThread) → named (pick sum bytes s i).event ≡ some (rule_of (step others))
  pub whole : ByRule sum (table_in s) soup h' soup' (pick sum bytes s i).event
  pub becomes : soup' ≡ front ++ (m' ∷ (new ++ behind))
  pub heap : table_in (pick sum bytes s i).state ≡ h'
  pub left : Soup bytes (pick sum bytes s i).state (front ++ (m' ∷ (behind ++ new)))
