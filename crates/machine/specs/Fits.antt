-- Document 01: "A state fits its code if ..". A test that decides it is in FitTest.
use Rattle.std.specs.Prelude.{ℕ, suc, ◌+◌, ◌-◌, ◌≤◌, ◌<◌, ◌^◌, ◌≡◌, true, false, cond, List, [], ◌∷◌, eqb, pos, length, drop, get_or}
use Rattle.thread.specs.declared.Thread.{Thread}
use Rattle.thread.specs.Threads.{blank, exists, stale}
use Rattle.machine.specs.Steps.{State, table_in, thread_at, Child}
use Rattle.stm.specs.Counted.{Table}
use Rattle.code.specs.Ops.{Op, op_at}
use Rattle.code.specs.Ops as code
use Rattle.script.specs.Outcome.{done}
use Rattle.word.specs.Registers.{member}
use Rattle.word.specs.Registers as registers
use Rattle.word.specs.Sum.{InRange}

-- What the instructions before a place leave there: the stack height; the place and stack height of the BEGIN of an open transaction, and the
-- ADDs passed since, 0 if none is open; how many COMMITs were passed; and the child codes of the FORKs passed, the last one first.
pub record Walked : Type 0 where
  pub height : ℕ
  pub begin : ℕ
  pub base : ℕ
  pub adds : ℕ
  pub commits : ℕ
  pub children : List Child

-- at the start of a thread's own code
abbrev pub unmoved : Walked
unmoved = record { height = 0; begin = 0; base = 0; adds = 0; commits = 0; children = [] }

-- another stack height
abbrev pub risen : ℕ → Walked → Walked
risen height w = record { height = height; begin = w.begin; base = w.base; adds = w.adds; commits = w.commits; children = w.children }

-- other notes, a BEGIN's place and stack height, no ADD being passed since
abbrev pub notes : (begin base : ℕ) → Walked → Walked
notes begin base w = record { height = w.height; begin = begin; base = base; adds = 0; commits = w.commits; children = w.children }

-- an ADD passed, which counts while a transaction is open
abbrev pub add_passed : Walked → Walked
add_passed w =
    record {
      height = w.height;
      begin = w.begin;
      base = w.base;
      adds = cond (eqb w.begin 0) 0 (suc w.adds);
      commits = w.commits;
      children = w.children;
    }

-- a COMMIT passed
abbrev pub commit_passed : Walked → Walked
commit_passed w =
    record { height = w.height; begin = w.begin; base = w.base; adds = w.adds; commits = suc w.commits; children = w.children }

-- a FORK passed, whose child has this code
abbrev pub forking : Child → Walked → Walked
forking child w =
    record { height = w.height; begin = w.begin; base = w.base; adds = w.adds; commits = w.commits; children = child ∷ w.children }

-- no transaction is open
abbrev pub shut : Walked → Walked
shut w = notes 0 0 w

-- the instruction at a place
unfoldable pub walk_op : Op → (place : ℕ) → Walked → Walked
walk_op (code.push n) q w = risen (suc w.height) w
walk_op code.add q w = risen (w.height - 1) (add_passed w)
walk_op (code.fork size) q w = forking (record { start = q + 3; end = q + 3 + size }) (risen (suc w.height) w)
walk_op code.begin q w = notes q w.height w
walk_op (code.read v) q w = risen (suc w.height) w
walk_op (code.write v) q w = w
walk_op code.commit q w = commit_passed (shut w)

-- "less the child code of the FORKs in it": the parent goes on behind it
unfoldable pub next_place : Op → (place : ℕ) → ℕ
next_place (code.push n) q = q + 5
next_place code.add q = q + 1
next_place (code.read v) q = q + 2
next_place (code.write v) q = q + 2
next_place code.begin q = q + 1
next_place code.commit q = q + 1
next_place (code.fork size) q = q + 3 + size

-- the places of a thread's own code, from its start on, and what the instructions before each leave
pub data Walks (bytes : List ℕ) (start end : ℕ) : (place : ℕ) → Walked → Type 0 where
  starts : Walks bytes start end start unmoved
  passes :
      {place : ℕ} {w : Walked} {op : Op} → Walks bytes start end place w → place < end → op_at (drop place bytes) ≡ done op →
      Walks bytes start end (next_place op place) (walk_op op place w)

-- one of a list
pub data In (x : Child) : List Child → Type 0 where
  here : {xs : List Child} → In x (x ∷ xs)
  there : {y : Child} {xs : List Child} → In x xs → In x (y ∷ xs)

-- a thread's own code, from its start up to its end
abbrev pub own_code : Thread → Child
own_code t = record { start = t.start; end = t.end }

-- the thread has passed the FORK of this child code
pub record Passed (bytes : List ℕ) (t : Thread) (child : Child) : Type 0 where
  pub walked : Walked
  pub walks : Walks bytes t.start t.end t.place walked
  pub one : In child walked.children

-- a thread's record
pub record Placed (bytes : List ℕ) (t : Thread) : Type 0 where
  pub walked : Walked
  -- "each place is at an instruction of the thread's own code or at its end"
  pub walks : Walks bytes t.start t.end t.place walked
  -- "the stack height is the one which the instructions before that place leave"
  pub height : t.height ≡ walked.height
  -- "a transaction is open exactly from after BEGIN until COMMIT is done, its notes being its BEGIN's place and stack height", "notes being
  -- empty otherwise"
  pub begin : t.begin ≡ walked.begin
  pub base : t.base ≡ walked.base
  -- document 02 No. 2: "An open attempt's count is one of its notes; above the ADDs passed since its BEGIN the state is foreign"
  pub over : t.over ≤ walked.adds
  -- "logs .. being empty otherwise"
  pub no_reads : walked.begin ≡ 0 → t.reads ≡ registers.none
  pub no_writes : walked.begin ≡ 0 → t.writes ≡ registers.none
  -- "Log values not marked, stack cells above the height .. hold 0"
  pub reads_free : (v : ℕ) → member t.reads v ≡ false → get_or t.readlog v (pos 0) ≡ pos 0
  pub writes_free : (v : ℕ) → member t.writes v ≡ false → get_or t.writelog v (pos 0) ≡ pos 0
  pub cells_free : (n : ℕ) → t.height ≤ n → get_or t.cells n (pos 0) ≡ pos 0
  -- document 02 No. 6: "A state is foreign if .. a read log's count .., its register unmarked, is not 0"
  pub counts_free : (v : ℕ) → member t.reads v ≡ false → get_or t.readcounts v 0 ≡ 0

-- document 02 No. 4: "the COMMITs passed by all threads", ended ones too
pub data CommitsPassed (bytes : List ℕ) : List Thread → ℕ → Type 0 where
  no_records : CommitsPassed bytes [] 0
  of_thread :
      {t : Thread} {ts : List Thread} {w : Walked} {n : ℕ} →
      exists t ≡ true → Walks bytes t.start t.end t.place w → CommitsPassed bytes ts n → CommitsPassed bytes (t ∷ ts) (w.commits + n)
  of_none : {t : Thread} {ts : List Thread} {n : ℕ} → exists t ≡ false → CommitsPassed bytes ts n → CommitsPassed bytes (t ∷ ts) n

-- "A state is foreign if such a number is above the COMMITs passed by all threads, or equal to it while that thread's open transaction has a
-- stale read": of a thread's record, so many COMMITs being passed
pub record BacksWithin (passed : ℕ) (table : Table) (t : Thread) : Type 0 where
  pub not-above : t.backs ≤ passed
  pub not_stale : t.backs ≡ passed → (v : ℕ) → stale t table v ≡ false
  -- document 02 No. 6: "or a read log's count is above the table's"
  pub not-ahead : (v : ℕ) → get_or t.readcounts v 0 ≤ get_or table.counts v 0

-- thread i exists
abbrev pub Exists : State → ℕ → Type 0
Exists s i = exists (thread_at s i) ≡ true

-- thread i exists, and this is its own code
pub record ThreadOf (s : State) (child : Child) (i : ℕ) : Type 0 where
  pub there : Exists s i
  pub own : own_code (thread_at s i) ≡ child

-- some thread has passed the FORK of this child code
pub record Forked (bytes : List ℕ) (s : State) (child : Child) : Type 0 where
  pub parent : ℕ
  pub there : Exists s parent
  pub passed : Passed bytes (thread_at s parent) child

-- exactly one thread has this code
pub record OneThread (s : State) (child : Child) : Type 0 where
  pub thread : ℕ
  pub its : ThreadOf s child thread
  pub alone : (i : ℕ) → ThreadOf s child i → i ≡ thread

-- beside another job's threads, which have passed so many COMMITs over the same table
pub record FitsBeside (others : ℕ) (bytes : List ℕ) (s : State) : Type 0 where
  -- "A run of other than 16 records, or a table of other than 64 registers, is a foreign state"
  pub records : length s.threads ≡ 16
  pub registers : length s.registers ≡ 64
  -- document 02 No. 6: the counts are part of the table
  pub counts : length s.counts ≡ 64
  -- "thread 0 owns the whole code"
  pub root : own_code (thread_at s 0) ≡ record { start = 5; end = length bytes }
  -- "and each child its FORK's child code"; "every FORK that its thread has passed has .. one thread, and no other thread exists"
  pub child : (i : ℕ) → Exists s (suc i) → Forked bytes s (own_code (thread_at s (suc i)))
  -- "every FORK that its thread has passed has exactly one thread"
  pub one : (c : Child) → Forked bytes s c → OneThread s c
  pub placed : (i : ℕ) → Exists s i → Placed bytes (thread_at s i)
  -- "Threads are numbered without gaps"
  pub no_gap : (i : ℕ) → Exists s (suc i) → Exists s i
  -- "records of threads that do not exist hold 0"
  pub no_thread : (i : ℕ) → exists (thread_at s i) ≡ false → thread_at s i ≡ blank
  -- document 02 No. 4: each thread's number of send-backs against the COMMITs passed by all threads
  pub commits : ℕ
  pub passed : CommitsPassed bytes s.threads commits
  pub tallied : (i : ℕ) → Exists s i → BacksWithin (others + commits) (table_in s) (thread_at s i)
  -- document 02 No. 6: "A state is foreign if that count is above the COMMITs passed"
  pub counted : (v : ℕ) → get_or s.counts v 0 ≤ others + commits

-- alone
abbrev pub Fits : List ℕ → State → Type 0
Fits bytes s = FitsBeside 0 bytes s

-- ---- what every state that can be lent has by its type alone: 64 cells, 64 values in each log, 64 counts in the read log
pub record TypedThread (t : Thread) : Type 0 where
  pub cells : length t.cells ≡ 64
  pub readlog : length t.readlog ≡ 64
  pub writelog : length t.writelog ≡ 64
  pub readcounts : length t.readcounts ≡ 64

-- every record of a state has them
abbrev pub Typed : State → Type 0
Typed s = (i : ℕ) → TypedThread (thread_at s i)

-- and numbers of 32 bits, a read log's counts too; sets, places, heights, notes and the other numbers of 64 bits
pub record RangedThread (t : Thread) : Type 0 where
  pub cells : (n : ℕ) → InRange (get_or t.cells n (pos 0))
  pub readlog : (v : ℕ) → InRange (get_or t.readlog v (pos 0))
  pub writelog : (v : ℕ) → InRange (get_or t.writelog v (pos 0))
  pub reads : t.reads < 2 ^ 64
  pub writes : t.writes < 2 ^ 64
  pub start : t.start < 2 ^ 64
  pub end : t.end < 2 ^ 64
  pub place : t.place < 2 ^ 64
  pub height : t.height < 2 ^ 64
  pub begin : t.begin < 2 ^ 64
  pub base : t.base < 2 ^ 64
  pub over : t.over < 2 ^ 64
  pub rule : t.rule < 2 ^ 64
  pub backs : t.backs < 2 ^ 64
  pub readcounts : (v : ℕ) → get_or t.readcounts v 0 < 2 ^ 32

-- the same of a state: its registers, their counts, and each of its records
pub record Ranged (s : State) : Type 0 where
  pub registers : (v : ℕ) → InRange (get_or s.registers v (pos 0))
  pub counts : (v : ℕ) → get_or s.counts v 0 < 2 ^ 32
  pub threads : (i : ℕ) → RangedThread (thread_at s i)
