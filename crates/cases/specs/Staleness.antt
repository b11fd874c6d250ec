-- Document 02 No. 6: worked cases of the counts, of stale registers, and of the state test. The right sides were found by hand from the papers.
use Rattle.std.specs.Prelude.{ℕ, true, false, ◌≡◌, List, [], ◌∷◌, ◌++◌, pos, drop, replicate}
use Rattle.cases.specs.Inputs.{header, accepted, code_for, seven_code, whole_code, look_code, twice_code, last_code, stale_code, times, ran, stale_there, told}
use Rattle.cases.specs.Inputs.{front, front_counts, no_logs, standing, sized, both_forked, behind_read, behind_commit, whole_end, put_at, changed, with_counts}
use Rattle.cases.specs.Inputs.{with_read, with_read_value, with_read_count}
use Rattle.cases.specs.Rules.{again_code, again_there, backed}
use Rattle.code.specs.Ops.{op_at}
use Rattle.code.specs.Ops as code
use Rattle.guarantee.specs.Histories.{Ended}
use Rattle.listing.specs.Listed.{ascii, listed}
use Rattle.machine.specs.Answers.{fresh_says, step_says, run_says, fresh_call, step_call, run_call}
use Rattle.machine.specs.FitTest.{fits}
use Rattle.machine.specs.Steps.{State, table_in, thread_at, pick, FirstStale, fresh}
use Rattle.machine.specs.Written.{written, GoesOn, Entered}
use Rattle.script.specs.Count.{bound}
use Rattle.script.specs.Outcome.{refused, done}
use Rattle.script.specs.Reader.{read_job}
use Rattle.script.specs.Tree.{Tran, Proc, AddP, Atomic, Fork, ValT, AddT, Read, Write}
use Rattle.stm.specs.Events.{committed, sent_back, order}
use Rattle.thread.specs.Threads.{zeros, unwritten, blank, spawned, begin, stale}
use Rattle.word.specs.Sum.{wrapping}

-- ---- jobs
-- FORK (ATOMIC (WRITE 1 (READ 0))) + FORK (ATOMIC (WRITE 0 5) + ATOMIC (WRITE 0 0)): register 0 leaves 0 and comes back
abbrev pub came_back_tree : Proc
came_back_tree = AddP (Fork (Atomic (Write 1 (Read 0)))) (Fork (AddP (Atomic (Write 0 (ValT (pos 5)))) (Atomic (Write 0 (ValT (pos 0))))))

-- its job, of 32 bytes
abbrev pub came_back_job : List ℕ
came_back_job =
    header
    13
    (0x02 ∷ 0x04 ∷ 0x03 ∷ 0x08 ∷ 1 ∷ 0x07 ∷ 0 ∷ 0x04 ∷ 0x02 ∷ 0x03 ∷ 0x08 ∷ 0 ∷ 0x05 ∷ 0 ∷ 0 ∷ 0 ∷ 5 ∷ 0x03 ∷ 0x08 ∷ 0 ∷ 0x05 ∷ 0 ∷ 0 ∷ 0 ∷ 0 ∷ [])

-- its code. Thread 0: FORK at 5, FORK at 14, ADD at 36, end 37. Thread 1: BEGIN at 8, READ at 9, WRITE at 11, COMMIT at 13, end 14.
-- Thread 2: BEGIN at 17, PUSH at 18, WRITE at 23, COMMIT at 25, the same from 26, ADD at 35, end 36.
abbrev pub came_back_code : List ℕ
came_back_code = code_for came_back_tree

-- both FORKs; BEGIN, READ of thread 1; both transactions of thread 2; WRITE of thread 1, whose COMMIT is next
abbrev pub came_back_there : List ℕ
came_back_there = times 2 0 ++ (times 2 1 ++ (times 8 2 ++ times 1 1))

-- and that COMMIT
abbrev pub came_back_picks : List ℕ
came_back_picks = came_back_there ++ times 1 1

-- and all that is left: thread 1's transaction again, and the two ADDs
abbrev pub came_back_all : List ℕ
came_back_all = came_back_picks ++ (times 4 1 ++ (times 1 2 ++ times 1 0))

-- thread 1's READ between the two transactions of thread 2, its COMMIT being next
abbrev pub between_there : List ℕ
between_there = times 2 0 ++ (times 4 2 ++ (times 2 1 ++ (times 4 2 ++ times 1 1)))

-- FORK (ATOMIC (WRITE 1 (READ 0))) + FORK (ATOMIC (WRITE 0 0)): register 0 is written with the value that it has
abbrev pub same_tree : Proc
same_tree = AddP (Fork (Atomic (Write 1 (Read 0)))) (Fork (Atomic (Write 0 (ValT (pos 0)))))

-- its job, of 23 bytes
abbrev pub same_job : List ℕ
same_job = header 9 (0x02 ∷ 0x04 ∷ 0x03 ∷ 0x08 ∷ 1 ∷ 0x07 ∷ 0 ∷ 0x04 ∷ 0x03 ∷ 0x08 ∷ 0 ∷ 0x05 ∷ 0 ∷ 0 ∷ 0 ∷ 0 ∷ [])

-- its code. Thread 1 as above; thread 2: BEGIN, PUSH, WRITE, COMMIT
abbrev pub same_code : List ℕ
same_code = code_for same_tree

-- both FORKs; BEGIN, READ of thread 1; thread 2's four; WRITE of thread 1, whose COMMIT is next
abbrev pub same_there : List ℕ
same_there = times 2 0 ++ (times 2 1 ++ (times 4 2 ++ times 1 1))

-- FORK (ATOMIC t) + ATOMIC (READ 0): FORK, BEGIN, READ, COMMIT, ADD of the root
abbrev pub beside_code : Tran → List ℕ
beside_code t = code_for (AddP (Fork (Atomic t)) (Atomic (Read 0)))

-- in which thread 1 writes register 1: BEGIN, PUSH, WRITE, COMMIT
abbrev pub beside_write : List ℕ
beside_write = beside_code (Write 1 (ValT (pos 5)))

-- ATOMIC (ADDT (WRITE 0 5) (WRITE 0 6)): BEGIN, PUSH, WRITE, PUSH, WRITE, ADD, COMMIT
abbrev pub two_writes_code : List ℕ
two_writes_code = code_for (Atomic (AddT (Write 0 (ValT (pos 5))) (Write 0 (ValT (pos 6)))))

-- FORK (ATOMIC (WRITE 0 1)) + ATOMIC (ADDT (READ 0) (READ 0)): FORK, BEGIN, READ of the root; BEGIN, PUSH, WRITE, COMMIT of thread 1
abbrev pub read_again_code : List ℕ
read_again_code = code_for (AddP (Fork (Atomic (Write 0 (ValT (pos 1))))) (Atomic (AddT (Read 0) (Read 0))))

-- the root's second READ is next
abbrev pub read_again_there : List ℕ
read_again_there = times 3 0 ++ times 4 1

-- FORK (ATOMIC (WRITE 0 1)) + ATOMIC (ADDT (WRITE 0 5) (READ 0)): FORK; thread 1's four; BEGIN, PUSH, WRITE, READ of the root
abbrev pub read_own_code : List ℕ
read_own_code = code_for (AddP (Fork (Atomic (Write 0 (ValT (pos 1))))) (Atomic (AddT (Write 0 (ValT (pos 5))) (Read 0))))

-- ---- states
-- same_code with thread 1 at its COMMIT, no COMMIT being passed, and 7 in its read log where the table has 0
abbrev pub lent_seven : State
lent_seven = changed (ran same_code (times 2 0 ++ times 3 1)).state 1 (with_read_value 0 (pos 7))

-- same_code with thread 2 ended before thread 1's READ, thread 1 being at its COMMIT: 0 with the count 1, in its read log and in the table
abbrev pub read_after : State
read_after = (ran same_code (times 2 0 ++ (times 4 2 ++ times 3 1))).state

-- and its read log's count one below the table's
abbrev pub lent_below : State
lent_below = changed read_after 1 (with_read_count 0 0)

-- the whole case: thread 2 has added 1 to register 0 and ended, so that its count is 1, as the COMMITs passed are; thread 1 is at its BEGIN
abbrev pub other_done : State
other_done = (ran whole_code (times 2 0 ++ times 6 2)).state

-- and thread 1 behind its BEGIN
abbrev pub other_begun : State
other_begun = (ran whole_code (times 2 0 ++ (times 6 2 ++ times 1 1))).state

-- and thread 1 behind its READ, which noted the count 1
abbrev pub other_read : State
other_read = (ran whole_code (times 2 0 ++ (times 6 2 ++ times 2 1))).state

-- the 64 counts, of which register 63 has n and each other m
abbrev pub last_counts : (m n : ℕ) → List ℕ
last_counts m n = replicate 63 m ++ (n ∷ [])

-- what runs do, on the left, and what document 02 No. 6 says of it, on the right
pub record StalenessCases : Type 0 where
  -- ---- "A value that went away and came back": at thread 1's COMMIT register 0 has the value that was read, and its count is 2, not 0
  pub came-back-job : read_job came_back_job ≡ accepted came_back_tree
  pub went_away : (ran came_back_code (times 2 0 ++ (times 2 1 ++ times 4 2))).state.registers ≡ front (pos 5)
  pub came_back_registers : (ran came_back_code came_back_there).state.registers ≡ zeros
  pub came_back_counts : (ran came_back_code came_back_there).state.counts ≡ front_counts 2
  pub came_back_logged :
      thread_at (ran came_back_code came_back_there).state 1 ≡
      standing 8 14 13 1 zeros 8 0 (record { reads = 1; readlog = zeros; readcounts = unwritten; writes = 2; writelog = zeros }) 8 0
  -- "A register is now stale if a commit wrote it after it entered the read log, even with an equal value": the thread is sent back with register 0
  pub came_back_step :
      (step_call came_back_code (ran came_back_code came_back_there).state 1).reply ≡
      record { refusal = 0; place = 0; event = 10; register = 0; turn = 0; over = 0 }
  pub came_back_run :
      (run_call came_back_code (fresh came_back_code) came_back_picks).reply ≡
      record { refusal = 0; place = 0; steps = 14; idle = 0; commits = 2; back = 1; over = 0 }
  pub came_back_record : thread_at (ran came_back_code came_back_picks).state 1 ≡ standing 8 14 8 0 zeros 0 0 no_logs 10 1
  pub came_back_left : (ran came_back_code came_back_picks).state.counts ≡ front_counts 2
  pub came_back_listing :
      listed (0x00 ∷ 0x20 ∷ (came_back_job ++ came_back_picks)) ≡
      ascii "steps 14 idle 0 commits 2 back 1 over 0\nthread 0 open\nthread 1 open\nthread 2 open\n"
  -- "Whole-transaction equality and the bound must hold under this rule": its end, in 20 steps of at most 16 + 2×2×4
  pub came_back_bound : bound came_back_tree ≡ 32
  pub came_back_end :
      (run_call came_back_code (fresh came_back_code) came_back_all).reply ≡
      record { refusal = 0; place = 0; steps = 20; idle = 0; commits = 3; back = 1; over = 0 }
  pub came_back_order : order (ran came_back_code came_back_all).events ≡ 0 ∷ 0 ∷ 2 ∷ 2 ∷ 1 ∷ 2 ∷ 0 ∷ []
  pub came_back_0 : Ended (ran came_back_code came_back_all).state 0 (pos 0)
  pub came_back_1 : Ended (ran came_back_code came_back_all).state 1 (pos 0)
  pub came_back_2 : Ended (ran came_back_code came_back_all).state 2 (pos 5)
  pub came_back_end_registers : (ran came_back_code came_back_all).state.registers ≡ zeros
  pub came_back_end_counts : (ran came_back_code came_back_all).state.counts ≡ 2 ∷ 1 ∷ replicate 62 0
  pub came_back_end_listing :
      listed (0x00 ∷ 0x20 ∷ (came_back_job ++ came_back_all)) ≡
      ascii "steps 20 idle 0 commits 3 back 1 over 0\nthread 0 done 0\nthread 1 done 0\nthread 2 done 5\n"
  -- "even with an equal value": it never left it
  pub same-job : read_job same_job ≡ accepted same_tree
  pub same_step : step_says (step_call same_code (ran same_code same_there).state 1).reply ≡ done (told (sent_back 0) 0)
  pub same_run :
      (run_call same_code (fresh same_code) (same_there ++ times 1 1)).reply ≡
      record { refusal = 0; place = 0; steps = 10; idle = 0; commits = 1; back = 1; over = 0 }
  pub same_counts : (ran same_code same_there).state.counts ≡ front_counts 1
  -- "after it entered the read log": both commits before the READ; one before and one after it
  pub both_before : step_says (step_call came_back_code (ran came_back_code (times 2 0 ++ (times 8 2 ++ times 3 1))).state 1).reply ≡ done (told committed 0)
  pub one_after : step_says (step_call came_back_code (ran came_back_code between_there).state 1).reply ≡ done (told (sent_back 0) 0)
  -- "a commit wrote it": one that wrote another register, one that wrote none, one that read it; and one that wrote it
  pub wrote_another : step_says (step_call beside_write (ran beside_write (times 3 0 ++ times 4 1)).state 0).reply ≡ done (told committed 0)
  pub wrote_none :
      step_says (step_call (beside_code (ValT (pos 5))) (ran (beside_code (ValT (pos 5))) (times 3 0 ++ times 3 1)).state 0).reply ≡ done (told committed 0)
  pub read_it : step_says (step_call (beside_code (Read 0)) (ran (beside_code (Read 0)) (times 3 0 ++ times 3 1)).state 0).reply ≡ done (told committed 0)
  pub wrote_it :
      step_says (step_call (beside_code (Write 0 (Read 0))) (ran (beside_code (Write 0 (Read 0))) (times 3 0 ++ times 4 1)).state 0).reply ≡
      done (told (sent_back 0) 0)
  -- "a commit": a WRITE whose COMMIT is not done
  pub not_committed :
      step_says (step_call (beside_code (Write 0 (ValT (pos 5)))) (ran (beside_code (Write 0 (ValT (pos 5)))) (times 3 0 ++ times 3 1)).state 0).reply ≡
      done (told committed 0)
  -- ---- "how often commits have written it": a WRITE alone counts nothing, its COMMIT does
  pub write_alone : (ran whole_code (times 2 0 ++ times 5 1)).state.counts ≡ unwritten
  pub write_committed : behind_commit.counts ≡ front_counts 1
  -- two WRITEs of one register in one ATOMIC; two registers in one; the last register
  pub two_writes_alone : (ran two_writes_code (times 6 0)).state.counts ≡ unwritten
  pub two_writes : (ran two_writes_code (times 7 0)).state.counts ≡ front_counts 1
  pub two_registers : (ran stale_code (times 1 0 ++ times 5 1)).state.counts ≡ 0 ∷ 1 ∷ 1 ∷ replicate 61 0
  pub register_63 : (ran (last_code (pos 1)) (times 1 0 ++ times 4 1)).state.counts ≡ last_counts 0 1
  -- two commits of one register; a COMMIT with an empty write log
  pub one_commit : (ran again_code (times 3 0 ++ times 4 1)).state.counts ≡ front_counts 1
  pub two_commits : again_there.counts ≡ front_counts 2
  pub empty_log : (ran twice_code (times 5 0)).state.counts ≡ unwritten
  -- an attempt that is sent back counts nothing; its second one, which takes effect, does
  pub back_before : (ran whole_code stale_there).state.counts ≡ front_counts 1
  pub back_behind : (ran whole_code (stale_there ++ times 1 1)).state.counts ≡ front_counts 1
  pub whole_counts : whole_end.counts ≡ front_counts 2
  -- ---- "entered the read log": a READ from the table notes the table's count
  pub noted_0 : (thread_at behind_read 1).readcounts ≡ unwritten
  pub noted_1 : (thread_at other_read 1).readcounts ≡ front_counts 1
  -- a READ that the read log answers, a commit having come since, notes nothing, and the thread is sent back; nor does one that the write log answers
  pub again_reply :
      (step_call read_again_code (ran read_again_code read_again_there).state 0).reply ≡
      record { refusal = 0; place = 0; event = 6; register = 0; turn = 0; over = 0 }
  pub again_table : (ran read_again_code (read_again_there ++ times 1 0)).state.counts ≡ front_counts 1
  pub again_noted : (thread_at (ran read_again_code (read_again_there ++ times 1 0)).state 0).readcounts ≡ unwritten
  pub again_back :
      step_says (step_call read_again_code (ran read_again_code (read_again_there ++ times 2 0)).state 0).reply ≡ done (told (sent_back 0) 0)
  pub own_table : (ran read_own_code (times 1 0 ++ (times 4 1 ++ times 4 0))).state.counts ≡ front_counts 1
  pub own_read : (thread_at (ran read_own_code (times 1 0 ++ (times 4 1 ++ times 4 0))).state 0).reads ≡ 0
  pub own_noted : (thread_at (ran read_own_code (times 1 0 ++ (times 4 1 ++ times 4 0))).state 0).readcounts ≡ unwritten
  -- a read log is emptied with its counts: by COMMIT, by a send-back, by BEGIN
  pub commit_before : (thread_at read_after 1).readcounts ≡ front_counts 1
  pub commit_empties : (thread_at (step_call same_code read_after 1).state 1).readcounts ≡ unwritten
  pub back_noted : (thread_at (ran came_back_code between_there).state 1).readcounts ≡ front_counts 1
  pub back_empties : (thread_at (ran came_back_code (between_there ++ times 1 1)).state 1).readcounts ≡ unwritten
  pub begin_empties : (begin (with_read_count 5 3 (spawned 8 20))).readcounts ≡ unwritten
  -- ---- the count alone decides: another value with the table's count fits, also with no COMMIT passed, and its COMMIT takes effect
  pub lent_value : fits same_code lent_seven ≡ true
  pub lent_value_step : (step_call same_code lent_seven 1).reply ≡ record { refusal = 0; place = 0; event = 9; register = 0; turn = 1; over = 0 }
  pub lent_value_left : (step_call same_code lent_seven 1).state.counts ≡ 0 ∷ 1 ∷ replicate 62 0
  -- the table's value with a count one below, one COMMIT being passed: the thread is sent back; with the table's count the COMMIT takes effect
  pub lent-below : fits same_code lent_below ≡ true
  pub lent_below_value : (thread_at lent_below 1).readlog ≡ lent_below.registers
  pub lent_below_step : (step_call same_code lent_below 1).reply ≡ record { refusal = 0; place = 0; event = 10; register = 0; turn = 0; over = 0 }
  pub lent_equal_step : (step_call same_code read_after 1).reply ≡ record { refusal = 0; place = 0; event = 9; register = 0; turn = 1; over = 0 }

-- whether a state with these counts fits, on the left, and what document 02 No. 6 says of it, on the right
pub record ForeignCounts : Type 0 where
  -- ---- "A state is foreign if that count is above the COMMITs passed": none passed, of the first and of the last register
  pub none_passed : fits whole_code both_forked ≡ true
  pub above_none : fits whole_code (with_counts (front_counts 1) both_forked) ≡ false
  pub above_none_63 : fits whole_code (with_counts (last_counts 0 1) both_forked) ≡ false
  pub above_none_fresh : fits seven_code (with_counts (front_counts 1) (fresh seven_code)) ≡ false
  pub above_none_step : step_says (step_call whole_code (with_counts (front_counts 1) both_forked) 1).reply ≡ refused 12 0
  pub above_none_step_left : (step_call whole_code (with_counts (front_counts 1) both_forked) 1).state ≡ with_counts (front_counts 1) both_forked
  pub above_none_run : run_says (run_call whole_code (with_counts (front_counts 1) both_forked) (times 2 1)).reply ≡ refused 12 0
  pub above_none_run_left : (run_call whole_code (with_counts (front_counts 1) both_forked) (times 2 1)).state ≡ with_counts (front_counts 1) both_forked
  -- a thread at its COMMIT has not passed it; behind it any register may have 1, also one that no transaction writes, and none 2; any may have less
  pub at_commit : fits whole_code (with_counts (front_counts 1) (ran whole_code (times 2 0 ++ times 5 1)).state) ≡ false
  pub all_one : fits whole_code (with_counts (replicate 64 1) behind_commit) ≡ true
  pub above_one : fits whole_code (with_counts (front_counts 2) behind_commit) ≡ false
  pub above_one_63 : fits whole_code (with_counts (last_counts 1 2) behind_commit) ≡ false
  pub all_none : fits whole_code (with_counts unwritten behind_commit) ≡ true
  -- "the COMMITs passed" by all threads; a COMMIT with an empty write log is passed too; one that was sent back is not
  pub all_two : fits whole_code (with_counts (replicate 64 2) whole_end) ≡ true
  pub above_two : fits whole_code (with_counts (front_counts 3) whole_end) ≡ false
  pub empty_passed : fits look_code (with_counts (replicate 64 1) (ran look_code (times 3 0)).state) ≡ true
  pub empty_above : fits look_code (with_counts (front_counts 2) (ran look_code (times 3 0)).state) ≡ false
  pub back_above : fits whole_code (with_counts (front_counts 2) (ran whole_code (stale_there ++ times 1 1)).state) ≡ false
  -- ---- "or a read log's count is above the table's": equal, one above, one below; the table's lowered, and another register's raised
  pub logged_equal : fits whole_code other_read ≡ true
  pub logged_above : fits whole_code (changed other_read 1 (with_read_count 0 2)) ≡ false
  pub logged_below : fits whole_code (changed other_read 1 (with_read_count 0 0)) ≡ true
  pub table_lowered : fits whole_code (with_counts unwritten other_read) ≡ false
  pub table_other : fits whole_code (with_counts (0 ∷ 1 ∷ replicate 62 0) other_read) ≡ false
  pub logged_above_step : step_says (step_call whole_code (changed other_read 1 (with_read_count 0 2)) 1).reply ≡ refused 12 0
  pub logged_above_run : run_says (run_call whole_code (changed other_read 1 (with_read_count 0 2)) (times 1 1)).reply ≡ refused 12 0
  -- with no COMMIT passed; and of register 63, which the transaction never names
  pub logged_above_none : fits whole_code (changed behind_read 1 (with_read_count 0 1)) ≡ false
  pub logged_above_left : (step_call whole_code (changed behind_read 1 (with_read_count 0 1)) 1).state ≡ changed behind_read 1 (with_read_count 0 1)
  pub logged_63 : fits whole_code (with_counts (last_counts 0 1) (changed other_begun 1 (λ t. with_read_count 63 1 (with_read 63 t)))) ≡ true
  pub logged_above_63 : fits whole_code (with_counts (last_counts 1 0) (changed other_begun 1 (λ t. with_read_count 63 1 (with_read 63 t)))) ≡ false
  -- ---- "or, its register unmarked, is not 0": the count is not above the table's; inside a transaction, with the mark and without it
  pub marked : fits whole_code (changed other_begun 1 (λ t. with_read_count 0 1 (with_read 0 t))) ≡ true
  pub unmarked : fits whole_code (changed other_begun 1 (with_read_count 0 1)) ≡ false
  pub unmarked_step : step_says (step_call whole_code (changed other_begun 1 (with_read_count 0 1)) 1).reply ≡ refused 12 0
  pub unmarked_run : run_says (run_call whole_code (changed other_begun 1 (with_read_count 0 1)) (times 1 1)).reply ≡ refused 12 0
  pub unmarked_63 : fits whole_code (with_counts (replicate 64 1) (changed other_read 1 (with_read_count 63 1))) ≡ false
  -- outside one: before BEGIN, behind COMMIT, in the root
  pub unmarked_before : fits whole_code (changed other_done 1 (with_read_count 0 1)) ≡ false
  pub unmarked_before_step : step_says (step_call whole_code (changed other_done 1 (with_read_count 0 1)) 1).reply ≡ refused 12 0
  pub unmarked_behind : fits whole_code (changed other_done 2 (with_read_count 0 1)) ≡ false
  pub unmarked_root : fits whole_code (changed other_done 0 (with_read_count 0 1)) ≡ false
  -- "records of threads that do not exist hold 0": the first such record, and the last
  pub unused_count : fits whole_code (put_at other_done 3 (with_read_count 0 1 blank)) ≡ false
  pub unused_count_step : step_says (step_call whole_code (put_at other_done 3 (with_read_count 0 1 blank)) 1).reply ≡ refused 12 0
  pub unused_count_63 : fits whole_code (with_counts (replicate 64 1) (put_at other_done 15 (with_read_count 63 1 blank))) ≡ false
  -- ---- document 02 No. 4, "equal to it while that thread's open transaction has a stale read": two COMMITs passed, the log's count 0 and the table's 2
  pub stale_below : fits again_code (backed again_there 0 1) ≡ true
  pub stale_equal : fits again_code (backed again_there 0 2) ≡ false
  pub stale_equal_step : step_says (step_call again_code (backed again_there 0 2) 0).reply ≡ refused 12 0
  pub stale_equal_run : run_says (run_call again_code (backed again_there 0 2) (times 1 0)).reply ≡ refused 12 0
  -- the log's count 1, and 2
  pub stale_by_one_below : fits again_code (backed (changed again_there 0 (with_read_count 0 1)) 0 1) ≡ true
  pub stale_by_one_equal : fits again_code (backed (changed again_there 0 (with_read_count 0 1)) 0 2) ≡ false
  pub unstale_equal : fits again_code (backed (changed again_there 0 (with_read_count 0 2)) 0 2) ≡ true
  pub unstale_value_equal : fits again_code (backed (changed again_there 0 (λ t. with_read_value 0 (pos 9) (with_read_count 0 2 t))) 0 2) ≡ true
  -- ---- "The register table carries, beside each value, how often commits have written it": 64 counts, as there are 64 registers
  pub counts_64 : fits seven_code (sized 64 64 16) ≡ true
  pub counts_63 : fits seven_code (sized 64 63 16) ≡ false
  pub counts_65 : fits seven_code (sized 64 65 16) ≡ false
  pub both_63 : fits seven_code (sized 63 63 16) ≡ false
  pub no_counts : fits seven_code (sized 64 0 16) ≡ false
  pub step_63 : step_says (step_call seven_code (sized 64 63 16) 0).reply ≡ refused 12 0
  pub step_63_left : (step_call seven_code (sized 64 63 16) 0).state ≡ sized 64 63 16
  pub step_65 : step_says (step_call seven_code (sized 64 65 16) 0).reply ≡ refused 12 0
  pub step_65_left : (step_call seven_code (sized 64 65 16) 0).state ≡ sized 64 65 16
  pub run_63 : run_says (run_call seven_code (sized 64 63 16) (times 1 0)).reply ≡ refused 12 0
  pub run_63_left : (run_call seven_code (sized 64 63 16) (times 1 0)).state ≡ sized 64 63 16
  pub run_65 : run_says (run_call seven_code (sized 64 65 16) (times 1 0)).reply ≡ refused 12 0
  pub run_65_left : (run_call seven_code (sized 64 65 16) (times 1 0)).state ≡ sized 64 65 16
  -- "also where a fresh state is to be laid down", whatever the counts are
  pub fresh_counted : (fresh_call seven_code (with_counts (replicate 64 9) (sized 64 64 16))).state ≡ fresh seven_code
  pub fresh_63 : fresh_says (fresh_call seven_code (sized 64 63 16)).reply ≡ refused 12 0
  pub fresh_63_left : (fresh_call seven_code (sized 64 63 16)).state ≡ sized 64 63 16
  pub fresh_65 : fresh_says (fresh_call seven_code (sized 64 65 16)).reply ≡ refused 12 0
  pub fresh_65_left : (fresh_call seven_code (sized 64 65 16)).state ≡ sized 64 65 16
  -- 11 before it, 13 behind it
  pub fresh_11 : fresh_says (fresh_call [] (sized 64 63 16)).reply ≡ refused 11 0
  pub step_11 : step_says (step_call [] (sized 64 63 16) 0).reply ≡ refused 11 0
  pub run_12 : run_says (run_call seven_code (sized 64 63 16) (times 32769 0)).reply ≡ refused 12 0

-- thread 1 of came_back_code behind its READ, which took register 0 from the table
abbrev pub came_back_read : State
came_back_read = (pick wrapping came_back_code (ran came_back_code (times 2 0 ++ times 1 1)).state 1).state

-- the root of beside_code likewise, thread 1 writing register 1
abbrev pub beside_read : State
beside_read = (pick wrapping beside_write (ran beside_write (times 2 0)).state 0).state

-- and with thread 1's transaction done
abbrev pub beside_done : State
beside_done = (ran beside_write (times 3 0 ++ times 4 1)).state

-- What the theorem `staleness` (guarantee/specs/Staleness) asks for is there, and both sides of what it says occur: a register that entered a read log
-- and was written since, which is stale, and one that was not, which is not. That a list of calls has such picks, `CallLists` says of any picks.
pub record EnteredCases : Type 0 where
  -- "after it entered the read log", "a commit wrote it": twice since thread 1's READ
  pub fits_before : fits came_back_code (ran came_back_code (times 2 0 ++ times 1 1)).state ≡ true
  pub entered : Entered wrapping came_back_code (fresh came_back_code) came_back_there 1 0
  pub goes-on : GoesOn wrapping came_back_code 1 came_back_read (times 8 2 ++ times 1 1)
  pub written_since : written wrapping came_back_code came_back_read (times 8 2 ++ times 1 1) 0 ≡ 2
  pub is_stale : stale (thread_at (ran came_back_code came_back_there).state 1) (table_in (ran came_back_code came_back_there).state) 0 ≡ true
  -- "walks the registers from 0 up and stops at the first stale one": the instruction that is next is the COMMIT, and register 0 the first stale one
  pub fits_there : fits came_back_code (ran came_back_code came_back_there).state ≡ true
  pub commits_next : op_at (drop (thread_at (ran came_back_code came_back_there).state 1).place came_back_code) ≡ done code.commit
  pub first-stale : FirstStale (thread_at (ran came_back_code came_back_there).state 1) (table_in (ran came_back_code came_back_there).state) 0
  -- another register was written since
  pub entered_beside : Entered wrapping beside_write (fresh beside_write) (times 3 0 ++ times 4 1) 0 0
  pub goes_on_beside : GoesOn wrapping beside_write 0 beside_read (times 4 1)
  pub not_written_since : written wrapping beside_write beside_read (times 4 1) 0 ≡ 0
  pub another_written : written wrapping beside_write beside_read (times 4 1) 1 ≡ 1
  pub not_stale : stale (thread_at beside_done 0) (table_in beside_done) 0 ≡ false
  -- "how often commits have written it", from the fresh state: registers 0, 1 and 63 up to the send-back, and at the end
  pub written_0 : written wrapping came_back_code (fresh came_back_code) came_back_picks 0 ≡ 2
  pub written_1 : written wrapping came_back_code (fresh came_back_code) came_back_picks 1 ≡ 0
  pub written_63 : written wrapping came_back_code (fresh came_back_code) came_back_picks 63 ≡ 0
  pub written_end_0 : written wrapping came_back_code (fresh came_back_code) came_back_all 0 ≡ 2
  pub written_end_1 : written wrapping came_back_code (fresh came_back_code) came_back_all 1 ≡ 1
