-- Document 02 No. 6: "A register is now stale if a commit wrote it after it entered the read log, even with an equal value". What the counts are,
-- when a register of a read log is stale, what a COMMIT that takes effect finds, and which states are foreign by their counts. The theorem
-- `staleness` (guarantee/proofs/Staleness) says that it holds, for every accepted job.
use Rattle.std.specs.Prelude.{ℕ, ◌+◌, ◌≤◌, ◌<◌, true, false, ◌↔◌, ◌≡◌, List, ℤ, pos, length, drop, get_or, set}
use Rattle.guarantee.specs.Histories.{Session, History, picks_taken}
use Rattle.code.specs.Bytes.{compiled}
use Rattle.code.specs.Ops.{op_at}
use Rattle.code.specs.Ops as code
use Rattle.machine.specs.Answers.{sum_of}
use Rattle.machine.specs.Fits.{CommitsPassed, Exists, Fits, Typed}
use Rattle.machine.specs.Steps.{State, table_in, thread_at, pick, FirstStale, fresh, run}
use Rattle.machine.specs.Written.{written, GoesOn, Entered}
use Rattle.script.specs.Jobs.{Job}
use Rattle.script.specs.Outcome.{done}
use Rattle.stm.specs.Events.{from_table, looked, committed, sent_back, Happened}
use Rattle.thread.specs.Threads.{with_logs, stale}
use Rattle.word.specs.Registers.{member}
use Rattle.word.specs.Sum.{Rule}

-- the state with other registers
abbrev pub with_registers : State → List ℤ → State
with_registers s rs = record { registers = rs; counts = s.counts; threads = s.threads }

-- the state with another count of register v in the table
abbrev pub with_count : State → (v m : ℕ) → State
with_count s v m = record { registers = s.registers; counts = set s.counts v m; threads = s.threads }

-- the state with another value and another count of register v in the read log of thread i
abbrev pub with_logged : State → (i v : ℕ) (x : ℤ) (m : ℕ) → State
with_logged s i v x m =
    let t = thread_at s i in
    record {
      registers = s.registers;
      counts = s.counts;
      threads = set s.threads i (with_logs t.reads (set t.readlog v x) (set t.readcounts v m) t.writes t.writelog t);
    }

module _ (j : Job) where
  -- the job's code
  abbrev its : List ℕ
  its = compiled j

  -- its rule for sums
  abbrev sum : Rule
  sum = sum_of j

  -- document 02 No. 6, of every list of calls, of every state that fits, and of the state test
  pub record Staleness : Type 0 where
    -- ---- "The register table carries, beside each value, how often commits have written it"
    -- after every list of calls it is the number of its commits that had the register in their write log; after any picks, so many more
    pub counts :
        {now : Session} {events : List Happened} (h : History its now events) (v : ℕ) → v < 64 →
        get_or now.state.counts v 0 ≡ written sum its (fresh its) (picks_taken h) v
    pub more_counts :
        (s : State) → Fits its s → Typed s → (is : List ℕ) (v : ℕ) → v < 64 →
        get_or (run sum its s is).state.counts v 0 ≡ written sum its s is v + get_or s.counts v 0
    -- ---- "stale if a commit wrote it after it entered the read log, even with an equal value"
    -- after every list of calls, a register of a read log entered it by a READ of its thread, and it is stale exactly if a commit of the picks
    -- since then had it in its write log
    pub entered :
        {now : Session} {events : List Happened} (h : History its now events) (i v : ℕ) → Exists now.state i →
        member (thread_at now.state i).reads v ≡ true → Entered sum its (fresh its) (picks_taken h) i v
    pub since :
        {now : Session} {events : List Happened} (h : History its now events) (i v : ℕ) → v < 64 →
        (e : Entered sum its (fresh its) (picks_taken h) i v) →
        (stale (thread_at now.state i) (table_in now.state) v ≡ true)
        ↔ (0 < written sum its (pick sum its (run sum its (fresh its) e.before).state i).state e.after v)
    -- the same from every state that fits: a READ of thread i takes v from the table, and its attempt goes on over the picks `is`
    pub exactly :
        (s : State) → Fits its s → Typed s → (i v : ℕ) → Exists s i → v < 64 →
        op_at (drop (thread_at s i).place its) ≡ done (code.read v) → (pick sum its s i).event ≡ looked from_table →
        (is : List ℕ) → GoesOn sum its i (pick sum its s i).state is →
        (stale (thread_at (run sum its (pick sum its s i).state is).state i) (table_in (run sum its (pick sum its s i).state is).state) v ≡ true)
        ↔ (0 < written sum its (pick sum its s i).state is v)
    -- at a COMMIT the thread is sent back with v exactly if v is the lowest stale register, and the commit takes effect exactly if none is stale
    pub sent :
        (s : State) → Fits its s → Typed s → (i : ℕ) → Exists s i → ((thread_at s i).place ≡ (thread_at s i).end → ⊥) →
        op_at (drop (thread_at s i).place its) ≡ done code.commit →
        (v : ℕ) → ((pick sum its s i).event ≡ sent_back v) ↔ FirstStale (thread_at s i) (table_in s) v
    pub takes_effect :
        (s : State) → Fits its s → Typed s → (i : ℕ) → Exists s i → ((thread_at s i).place ≡ (thread_at s i).end → ⊥) →
        op_at (drop (thread_at s i).place its) ≡ done code.commit →
        ((pick sum its s i).event ≡ committed) ↔ ((v : ℕ) → v < 64 → stale (thread_at s i) (table_in s) v ≡ false)
    -- ---- what the source's rule for COMMIT asks (`r ⊆ h`), whose premise the count replaces
    -- after every list of calls a register of a read log that is not stale has in the table the value that was read
    pub not_stale_same :
        {now : Session} {events : List Happened} → History its now events → (i v : ℕ) → Exists now.state i → v < 64 →
        member (thread_at now.state i).reads v ≡ true → stale (thread_at now.state i) (table_in now.state) v ≡ false →
        get_or (thread_at now.state i).readlog v (pos 0) ≡ get_or now.state.registers v (pos 0)
    -- so a COMMIT that takes effect finds every value of its read log in the table, as printed
    pub printed :
        {now : Session} {events : List Happened} → History its now events → (i v : ℕ) → Exists now.state i → v < 64 →
        (pick sum its now.state i).event ≡ committed → member (thread_at now.state i).reads v ≡ true →
        get_or (thread_at now.state i).readlog v (pos 0) ≡ get_or now.state.registers v (pos 0)
    -- ---- "A state is foreign if that count is above the COMMITs passed, or a read log's count is above the table's or, its register unmarked,
    -- is not 0"
    pub above : (s : State) (n v : ℕ) → CommitsPassed its s.threads n → n < get_or s.counts v 0 → Fits its s → ⊥
    pub ahead : (s : State) (i v : ℕ) → Exists s i → get_or s.counts v 0 < get_or (thread_at s i).readcounts v 0 → Fits its s → ⊥
    pub unmarked :
        (s : State) (i v : ℕ) → Exists s i → member (thread_at s i).reads v ≡ false → 0 < get_or (thread_at s i).readcounts v 0 → Fits its s → ⊥
    -- and it is for no other count, each taken by itself. Of a state that fits, another count in the table fits exactly if it is not above the
    -- COMMITs passed, no thread has logged a higher one, and (No. 4) no thread that was sent back as often as COMMITs were passed has a stale read by
    -- it; where that stands in the way of changing several, `any_backs` of `RulesNamed` frees the number of send-backs first
    pub any_count :
        (s : State) → Fits its s → Typed s → (n v : ℕ) → CommitsPassed its s.threads n → v < 64 →
        (m : ℕ) → Fits its (with_count s v m)
        ↔ ((m ≤ n) × ((i : ℕ) → Exists s i → (get_or (thread_at s i).readcounts v 0 ≤ m)
        × ((thread_at s i).backs ≡ n → stale (thread_at s i) (table_in (with_count s v m)) v ≡ false)))
    -- another count of a marked register in a read log exactly if it is not above the table's, and equal to it in a thread that was sent back as
    -- often as COMMITs were passed; the value beside it is free
    pub any_logged :
        (s : State) → Fits its s → Typed s → (i n v : ℕ) → Exists s i → CommitsPassed its s.threads n → v < 64 →
        member (thread_at s i).reads v ≡ true →
        (x : ℤ) (m : ℕ) → Fits its (with_logged s i v x m)
        ↔ ((m ≤ get_or s.counts v 0) × ((thread_at s i).backs ≡ n → m ≡ get_or s.counts v 0))
    -- of an unmarked one only 0, the value being 0 too
    pub none_logged :
        (s : State) → Fits its s → Typed s → (i v : ℕ) → Exists s i → v < 64 → member (thread_at s i).reads v ≡ false →
        (x : ℤ) (m : ℕ) → Fits its (with_logged s i v x m) ↔ ((x ≡ pos 0) × (m ≡ 0))
    -- the table's values are free
    pub any_values : (s : State) → Fits its s → (rs : List ℤ) → length rs ≡ 64 → Fits its (with_registers s rs)
