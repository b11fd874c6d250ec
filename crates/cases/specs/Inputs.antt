-- What the rows of the worked cases speak of: jobs with their code, picks, states, and states with one thing changed.
use Rattle.std.specs.Prelude.{ℕ, List, [], ◌∷◌, ◌++◌, ℤ, pos, negsuc, set, replicate}
use Rattle.script.specs.Tree.{Proc, ValP, AddP, Atomic, Fork, ValT, AddT, Read, Write}
use Rattle.script.specs.Outcome.{Outcome, done}
use Rattle.script.specs.Jobs.{Job}
use Rattle.code.specs.Bytes.{compiled}
use Rattle.thread.specs.declared.Thread.{Thread}
use Rattle.thread.specs.Threads.{zeros, unwritten, blank, spawned, noted, with_stack, with_logs}
use Rattle.machine.specs.Steps.{State, Ran, thread_at, fresh, run}
use Rattle.machine.specs.Answers.{Told}
use Rattle.stm.specs.Events.{from_table, Event, counts_of}
use Rattle.word.specs.Registers.{with}
use Rattle.word.specs.Sum.{wrapping}

-- ---- jobs and their code
-- job version 1, and so many nodes
abbrev pub header : ℕ → List ℕ → List ℕ
header count nodes = 0x57 ∷ 0x53 ∷ 0x4A ∷ 0x00 ∷ 0x01 ∷ 0x00 ∷ count ∷ nodes

-- the job reader takes this process, as a job of version 1
abbrev pub accepted : Proc → Outcome Job
accepted p = done (record { version = 1; tree = p })

-- the code of a process
abbrev pub code_for : Proc → List ℕ
code_for p = compiled (record { version = 1; tree = p })

-- VALP 7
abbrev pub seven : List ℕ
seven = 0x57 ∷ 0x53 ∷ 0x4A ∷ 0x00 ∷ 0x01 ∷ 0x00 ∷ 0x01 ∷ 0x01 ∷ 0x00 ∷ 0x00 ∷ 0x00 ∷ 0x07 ∷ []

-- its code: PUSH at 5, end 10
abbrev pub seven_code : List ℕ
seven_code = code_for (ValP (pos 7))

-- −2147483648 + −1
abbrev pub low_tree : Proc
low_tree = AddP (ValP (negsuc 2147483647)) (ValP (negsuc 0))

-- its code: PUSH at 5, PUSH at 10, ADD at 15, end 16
abbrev pub low_code : List ℕ
low_code = code_for low_tree

-- ATOMIC of ADDT (WRITE 0 (VALT 5)) (READ 0)
abbrev pub own_write_tree : Proc
own_write_tree = Atomic (AddT (Write 0 (ValT (pos 5))) (Read 0))

-- its code: BEGIN at 5, PUSH at 6, WRITE at 11, READ at 13, ADD at 15, COMMIT at 16, end 17
abbrev pub own_write_code : List ℕ
own_write_code = code_for own_write_tree

-- the whole case: two threads each add 1 to register 0
abbrev pub increment : Proc
increment = Fork (Atomic (Write 0 (AddT (Read 0) (ValT (pos 1)))))

-- its bytes in the job: FORK, ATOMIC, WRITE 0, ADDT, READ 0, VALT 1
abbrev pub increment_bytes : List ℕ
increment_bytes = 0x04 ∷ 0x03 ∷ 0x08 ∷ 0x00 ∷ 0x06 ∷ 0x07 ∷ 0x00 ∷ 0x05 ∷ 0x00 ∷ 0x00 ∷ 0x00 ∷ 0x01 ∷ []

-- the whole case's tree
abbrev pub whole_tree : Proc
whole_tree = AddP increment increment

-- the whole case's job, of 32 bytes
abbrev pub whole_job : List ℕ
whole_job = header 13 (0x02 ∷ (increment_bytes ++ increment_bytes))

-- the code of one of the two: FORK with a child of 12 bytes, which is BEGIN, READ 0, PUSH 1, ADD, WRITE 0, COMMIT
abbrev pub increment_code : List ℕ
increment_code = 0x07 ∷ 0x00 ∷ 0x0C ∷ 0x05 ∷ 0x03 ∷ 0x00 ∷ 0x01 ∷ 0x00 ∷ 0x00 ∷ 0x00 ∷ 0x01 ∷ 0x02 ∷ 0x04 ∷ 0x00 ∷ 0x06 ∷ []

-- its code. Thread 0: FORK at 5, FORK at 20, ADD at 35, end 36. The first FORK's child: BEGIN at 8, READ at 9, PUSH at 11, ADD at 16,
-- WRITE at 17, COMMIT at 19, end 20; the second one's the same from 23, end 35.
abbrev pub whole_code : List ℕ
whole_code = 0x57 ∷ 0x53 ∷ 0x43 ∷ 0x00 ∷ 0x01 ∷ (increment_code ++ (increment_code ++ (0x02 ∷ [])))

-- ADDP 5 (ADDP (FORK (ATOMIC (WRITE 0 1))) (ATOMIC (READ 0))), whose root is sent back with two numbers below its transaction
abbrev pub high_tree : Proc
high_tree = AddP (ValP (pos 5)) (AddP (Fork (Atomic (Write 0 (ValT (pos 1))))) (Atomic (Read 0)))

-- its code: PUSH at 5, FORK at 10 with its child from 13, BEGIN at 22, READ at 23, COMMIT at 25, ADD at 26, ADD at 27, end 28
abbrev pub high_code : List ℕ
high_code = code_for high_tree

-- ATOMIC (VALT 0) + ATOMIC (READ 0): BEGIN at 5, PUSH at 6, COMMIT at 11, BEGIN at 12, READ at 13, COMMIT at 15, ADD at 16, end 17
abbrev pub look_code : List ℕ
look_code = code_for (AddP (Atomic (ValT (pos 0))) (Atomic (Read 0)))

-- ATOMIC (ADDT (READ 3) (READ 3)), which reads a register twice and writes none
abbrev pub twice_code : List ℕ
twice_code = code_for (Atomic (AddT (Read 3) (Read 3)))

-- ADDP (FORK (ATOMIC (WRITE 63 n))) (ATOMIC (READ 63))
abbrev pub last_code : ℤ → List ℕ
last_code n = code_for (AddP (Fork (Atomic (Write 63 (ValT n)))) (Atomic (Read 63)))

-- ADDP (FORK (ATOMIC (WRITE 2 (WRITE 1 1)))) (ATOMIC (ADDT (READ 2) (READ 1))): registers 1 and 2 become stale
abbrev pub stale_code : List ℕ
stale_code = code_for (AddP (Fork (Atomic (Write 2 (Write 1 (ValT (pos 1)))))) (Atomic (AddT (Read 2) (Read 1))))

-- FORK (VALP 1) + ATOMIC (WRITE 10 3 + WRITE 2 4), in 30 bytes; nine steps of the root, its last one the sum 0 + 7
abbrev pub registers_job : List ℕ
registers_job =
    header 9 (0x02 ∷ 0x04 ∷ 0x01 ∷ 0 ∷ 0 ∷ 0 ∷ 1 ∷ 0x03 ∷ 0x06 ∷ 0x08 ∷ 10 ∷ 0x05 ∷ 0 ∷ 0 ∷ 0 ∷ 3 ∷ 0x08 ∷ 2 ∷ 0x05 ∷ 0 ∷ 0 ∷ 0 ∷ 4 ∷ [])

-- 15 FORKs, each inside the one before; thread i has FORK at 5 + 3 i, thread 15 PUSH at 50, and the end of each is 55
abbrev pub five_forks : Proc → Proc
five_forks p = Fork (Fork (Fork (Fork (Fork p))))

-- their code, VALP 1 being the innermost
abbrev pub nest_code : List ℕ
nest_code = code_for (five_forks (five_forks (five_forks (ValP (pos 1)))))

-- ---- runs
-- so many picks of a thread
abbrev pub times : ℕ → ℕ → List ℕ
times n i = replicate n i

-- a run of picks from the fresh state
abbrev pub ran : List ℕ → List ℕ → Ran
ran code picks = run wrapping code (fresh code) picks

-- picks not idle
abbrev pub steps : Ran → ℕ
steps r = (counts_of r.events).steps

-- the whole case's picks
abbrev pub whole_picks : List ℕ
whole_picks = times 3 0 ++ (times 2 1 ++ (times 6 2 ++ times 10 1))

-- its picks up to the COMMIT that sends thread 1 back
abbrev pub stale_there : List ℕ
stale_there = times 3 0 ++ (times 2 1 ++ (times 6 2 ++ times 3 1))

-- of high_code: PUSH, FORK, BEGIN, READ of the root; BEGIN, PUSH, WRITE, COMMIT of thread 1; the root's COMMIT, which is sent back
abbrev pub high_picks : List ℕ
high_picks = times 4 0 ++ (times 4 1 ++ times 1 0)

-- FORK of each thread in turn
abbrev pub nest_picks : List ℕ
nest_picks = 0 ∷ 1 ∷ 2 ∷ 3 ∷ 4 ∷ 5 ∷ 6 ∷ 7 ∷ 8 ∷ 9 ∷ 10 ∷ 11 ∷ 12 ∷ 13 ∷ 14 ∷ []

-- what a step tells
abbrev pub told : Event → (over : ℕ) → Told
told event over = record { event = event; over = over }

-- ---- states
-- 64 numbers: n, then 0
abbrev pub front : ℤ → List ℤ
front n = n ∷ replicate 63 (pos 0)

-- 64 numbers: 0, n, then 0
abbrev pub second : ℤ → List ℤ
second n = pos 0 ∷ n ∷ replicate 62 (pos 0)

-- 64 counts: n, then 0
abbrev pub front_counts : ℕ → List ℕ
front_counts n = n ∷ replicate 63 0

-- what a record's two logs hold
pub record Logs : Type 0 where
  pub reads : ℕ
  pub readlog : List ℤ
  pub readcounts : List ℕ
  pub writes : ℕ
  pub writelog : List ℤ

-- both empty
abbrev pub no_logs : Logs
no_logs = record { reads = 0; readlog = zeros; readcounts = unwritten; writes = 0; writelog = zeros }

-- a record that has noted no sum outside the range: its own code and place, its stack, its BEGIN's notes, its logs, its last rule and send-backs
abbrev pub standing : (start end place height : ℕ) (cells : List ℤ) (begin base : ℕ) → Logs → (rule backs : ℕ) → Thread
standing start end place height cells begin base logs rule backs =
    record {
      start = start;
      end = end;
      place = place;
      height = height;
      cells = cells;
      begin = begin;
      base = base;
      over = 0;
      reads = logs.reads;
      readlog = logs.readlog;
      readcounts = logs.readcounts;
      writes = logs.writes;
      writelog = logs.writelog;
      rule = rule;
      backs = backs;
    }

-- no record of a thread
abbrev pub no_threads : State
no_threads = record { registers = zeros; counts = unwritten; threads = replicate 16 blank }

-- a state of so many registers, counts and records, thread 0 as in the fresh state of seven_code
abbrev pub sized : (registers counts records : ℕ) → State
sized r c n = record { registers = replicate r (pos 0); counts = replicate c 0; threads = set (replicate n blank) 0 (spawned 5 10) }

-- the whole case: the first FORK passed; both; thread 1 then behind BEGIN, behind READ, behind COMMIT; the last pick done
abbrev pub one_forked : State
one_forked = (ran whole_code (times 1 0)).state

-- both FORKs passed
abbrev pub both_forked : State
both_forked = (ran whole_code (times 2 0)).state

-- and then thread 1 behind its BEGIN
abbrev pub behind_begin : State
behind_begin = (ran whole_code (times 2 0 ++ times 1 1)).state

-- thread 1 behind its READ
abbrev pub behind_read : State
behind_read = (ran whole_code (times 2 0 ++ times 2 1)).state

-- thread 1 behind its COMMIT
abbrev pub behind_commit : State
behind_commit = (ran whole_code (times 2 0 ++ times 6 1)).state

-- the whole case's last pick done
abbrev pub whole_end : State
whole_end = (ran whole_code whole_picks).state

-- thread 0 of high_code behind READ, two numbers being below its transaction
abbrev pub high_read : State
high_read = (ran high_code (times 4 0)).state

-- all 16 threads
abbrev pub nested : State
nested = (ran nest_code nest_picks).state

-- ---- one thing changed in a state
-- thread i's record is t
abbrev pub put_at : State → ℕ → Thread → State
put_at s i t = record { registers = s.registers; counts = s.counts; threads = set s.threads i t }

-- thread i's record is changed
abbrev pub changed : State → ℕ → (Thread → Thread) → State
changed s i f = put_at s i (f (thread_at s i))

-- the registers are changed
abbrev pub with_registers : List ℤ → State → State
with_registers registers s = record { registers = registers; counts = s.counts; threads = s.threads }

-- the table's counts are changed
abbrev pub with_counts : List ℕ → State → State
with_counts counts s = record { registers = s.registers; counts = counts; threads = s.threads }

-- the records of threads 1 and 2 in each other's place
abbrev pub crossed : State → State
crossed s = put_at (put_at s 1 (thread_at s 2)) 2 (thread_at s 1)

-- thread 1's read log marks register 63, with the value 9 and the count 0
abbrev pub with_mark : State → State
with_mark s = changed s 1 (noted from_table 63 (pos 9) 0)

-- another height, the cells as they are
abbrev pub with_height : ℕ → Thread → Thread
with_height height t = with_stack height t.cells t

-- another number in a cell, the height as it is
abbrev pub with_cell : ℕ → ℤ → Thread → Thread
with_cell cell n t = with_stack t.height (set t.cells cell n) t

-- register v marked besides, the values and counts as they are: in the read log, in the write log
abbrev pub with_read : ℕ → Thread → Thread
with_read v t = with_logs (with t.reads v) t.readlog t.readcounts t.writes t.writelog t

-- the same in the write log
abbrev pub with_write : ℕ → Thread → Thread
with_write v t = with_logs t.reads t.readlog t.readcounts (with t.writes v) t.writelog t

-- another value of register v, the marks and counts as they are: in the read log, in the write log
abbrev pub with_read_value : ℕ → ℤ → Thread → Thread
with_read_value v n t = with_logs t.reads (set t.readlog v n) t.readcounts t.writes t.writelog t

-- the same in the write log
abbrev pub with_write_value : ℕ → ℤ → Thread → Thread
with_write_value v n t = with_logs t.reads t.readlog t.readcounts t.writes (set t.writelog v n) t

-- another count of register v in the read log, the marks and values as they are
abbrev pub with_read_count : (v count : ℕ) → Thread → Thread
with_read_count v count t = with_logs t.reads t.readlog (set t.readcounts v count) t.writes t.writelog t

-- another own code
abbrev pub with_code : (start end : ℕ) → Thread → Thread
with_code start end t =
    record {
      start = start;
      end = end;
      place = t.place;
      height = t.height;
      cells = t.cells;
      begin = t.begin;
      base = t.base;
      over = t.over;
      reads = t.reads;
      readlog = t.readlog;
      readcounts = t.readcounts;
      writes = t.writes;
      writelog = t.writelog;
      rule = t.rule;
      backs = t.backs;
    }

-- look_code behind its second BEGIN, one COMMIT being passed, with 9 in register 0 and its count 1, its logs being changed
abbrev pub looking : (Thread → Thread) → State
looking f = with_counts (front_counts 1) (with_registers (front (pos 9)) (changed (ran look_code (times 4 0)).state 0 f))

-- 7 in the read log, with the count 0
abbrev pub read_seven : Thread → Thread
read_seven t = with_read_value 0 (pos 7) (with_read 0 t)

-- and 5 in the write log
abbrev pub read_seven_wrote_five : Thread → Thread
read_seven_wrote_five t = with_write_value 0 (pos 5) (with_write 0 (read_seven t))
