-- Document 02 No. 8: worked cases of picks that may be exchanged, and of picks that may not. The right sides were found by hand from the papers. Of two
-- rows with the same name but for ' the second is of the other order.
use Rattle.std.specs.Prelude.{ℕ, true, false, ◌≡◌, List, [], ◌∷◌, ◌++◌, pos, negsuc}
use Rattle.cases.specs.Inputs.{header, accepted, code_for, seven_code, whole_code, times, ran, told, front}
use Rattle.cases.specs.Inputs.{second, front_counts, Logs, no_logs, standing, sized}
use Rattle.guarantee.specs.Histories.{Ended}
use Rattle.machine.specs.Answers.{step_says, run_says, step_call, run_call}
use Rattle.machine.specs.declared.RunReply.{RunReply}
use Rattle.machine.specs.Exchange.{Exchanged, Exchanges, seen_by}
use Rattle.machine.specs.FitTest.{fits}
use Rattle.machine.specs.Steps.{thread_at, fresh}
use Rattle.script.specs.Outcome.{refused, done}
use Rattle.script.specs.Reader.{read_job}
use Rattle.script.specs.Tree.{Proc, ValP, AddP, Fork, Atomic, ValT, AddT, Read, Write}
use Rattle.stm.specs.Events.{from_writes, from_reads, from_table, Event, idle, pushed, summed, forked, begun, looked, committed, sent_back, Happened, order}
use Rattle.thread.specs.Threads.{zeros, unwritten, spawned}
use Rattle.word.specs.Sum.{wrapping}

-- the second list follows from the first by exchanges, from the fresh state
abbrev pub Follows : (code is ks : List ℕ) → Type 0
Follows code is ks = Exchanges wrapping code (fresh code) is ks

-- it does not
abbrev pub Apart : (code is ks : List ℕ) → Type 0
Apart code is ks = Exchanges wrapping code (fresh code) is ks → ⊥

-- what a pick did
abbrev pub did : ℕ → Event → Happened
did i e = record { thread = i; event = e; over = 0 }

-- the answer of a run
abbrev pub counting : (steps idle commits back over : ℕ) → RunReply
counting steps still commits back over =
    record { refusal = 0; place = 0; steps = steps; idle = still; commits = commits; back = back; over = over }

-- ---- jobs
-- FORK (1 + 2) + (3 + 4)
abbrev pub sums_tree : Proc
sums_tree = AddP (Fork (AddP (ValP (pos 1)) (ValP (pos 2)))) (AddP (ValP (pos 3)) (ValP (pos 4)))

-- its job, of 31 bytes
abbrev pub sums_job : List ℕ
sums_job =
    header
    8
    (0x02 ∷ 0x04 ∷ 0x02 ∷ 0x01 ∷ 0 ∷ 0 ∷ 0 ∷ 1 ∷ 0x01 ∷ 0 ∷ 0 ∷ 0 ∷ 2 ∷ 0x02 ∷ 0x01 ∷ 0 ∷ 0 ∷ 0 ∷ 3 ∷ 0x01 ∷ 0 ∷ 0 ∷ 0 ∷ 4 ∷ [])

-- its code. Thread 0: FORK at 5, PUSH at 19, PUSH at 24, ADD at 29, ADD at 30, end 31. Thread 1: PUSH at 8, PUSH at 13, ADD at 18, end 19.
abbrev pub sums_code : List ℕ
sums_code = code_for sums_tree

-- FORK; both PUSHes of thread 1; both of thread 0: each thread's ADD is next
abbrev pub sums_there : List ℕ
sums_there = 0 ∷ 1 ∷ 1 ∷ 0 ∷ 0 ∷ []

-- the same with sums that leave the range: FORK (2147483647 + 1) + (2147483647 + 1)
abbrev pub overs_code : List ℕ
overs_code = code_for (AddP (Fork (AddP (ValP (pos 2147483647)) (ValP (pos 1)))) (AddP (ValP (pos 2147483647)) (ValP (pos 1))))

-- FORK 1 + (FORK 2 + FORK 3). Thread 0: FORK at 5, FORK at 13, FORK at 21, ADD at 29, ADD at 30, end 31. Threads 1, 2, 3: PUSH at 8, 16, 24.
abbrev pub three_code : List ℕ
three_code = code_for (AddP (Fork (ValP (pos 1))) (AddP (Fork (ValP (pos 2))) (Fork (ValP (pos 3)))))

-- FORK (FORK 1) + FORK 2. Thread 0: FORK at 5, FORK at 16, ADD at 24, end 25. Thread 1: FORK at 8, end 16. The code of 1 is from 11 to 16, that of
-- 2 from 19 to 24.
abbrev pub forks_code : List ℕ
forks_code = code_for (AddP (Fork (Fork (ValP (pos 1)))) (Fork (ValP (pos 2))))

-- FORK (ATOMIC (ADDT (WRITE 0 5) (READ 0))) + ATOMIC (ADDT (READ 1) (READ 1)). Thread 0: FORK at 5, BEGIN at 20, READ at 21, READ at 23, ADD at 25,
-- COMMIT at 26, ADD at 27, end 28. Thread 1: BEGIN at 8, PUSH at 9, WRITE at 14, READ at 16, ADD at 18, COMMIT at 19, end 20.
abbrev pub logs_code : List ℕ
logs_code = code_for (AddP (Fork (Atomic (AddT (Write 0 (ValT (pos 5))) (Read 0)))) (Atomic (AddT (Read 1) (Read 1))))

-- thread 0 up to its second READ, which its read log answers; thread 1 up to its READ, which its write log answers
abbrev pub logs_there : List ℕ
logs_there = times 3 0 ++ times 3 1

-- ---- picks of the whole case: both FORKs, and then
-- thread 1 up to its WRITE, thread 2 up to its READ of the same register
abbrev pub write_read_there : List ℕ
write_read_there = times 2 0 ++ (times 4 1 ++ times 1 2)

-- thread 1 up to its COMMIT, which takes effect, thread 2 up to its READ
abbrev pub commit_there : List ℕ
commit_there = times 2 0 ++ (times 5 1 ++ times 1 2)

-- both up to their COMMITs, of which the first takes effect and the second is sent back
abbrev pub commits_there : List ℕ
commits_there = times 2 0 ++ (times 5 1 ++ times 5 2)

-- thread 1 up to its READ, all of thread 2, thread 1 up to its COMMIT, which is sent back; thread 0's ADD is next
abbrev pub back_there : List ℕ
back_there = times 2 0 ++ (times 2 1 ++ (times 6 2 ++ times 3 1))

-- a read log that has register 0 alone, with the value 0 and the count 0, and an empty write log
abbrev pub read_zero : Logs
read_zero = record { reads = 1; readlog = zeros; readcounts = unwritten; writes = 0; writelog = zeros }

-- the same with the value 1 and the count 1
abbrev pub read_one : Logs
read_one = record { reads = 1; readlog = front (pos 1); readcounts = front_counts 1; writes = 0; writelog = zeros }

-- 0 of register 0 read, and 1 to be written
abbrev pub read_zero_wrote_one : Logs
read_zero_wrote_one = record { reads = 1; readlog = zeros; readcounts = unwritten; writes = 1; writelog = front (pos 1) }

-- what picks do, and whether they may be exchanged, on the left, and what document 02 No. 8 says of it, on the right
pub record ExchangeCases : Type 0 where
  -- ---- two outside sums: the order of the turns changes, the state and the counts do not
  pub sums-job : read_job sums_job ≡ accepted sums_tree
  pub sums : Follows sums_code (sums_there ++ (0 ∷ 1 ∷ [])) (sums_there ++ (1 ∷ 0 ∷ []))
  pub sums' : Follows sums_code (sums_there ++ (1 ∷ 0 ∷ [])) (sums_there ++ (0 ∷ 1 ∷ []))
  pub sums_order : order (ran sums_code (sums_there ++ (0 ∷ 1 ∷ []))).events ≡ 0 ∷ 0 ∷ 1 ∷ []
  pub sums_order' : order (ran sums_code (sums_there ++ (1 ∷ 0 ∷ []))).events ≡ 0 ∷ 1 ∷ 0 ∷ []
  pub sums_run : (run_call sums_code (fresh sums_code) (sums_there ++ (0 ∷ 1 ∷ []))).reply ≡ counting 7 0 0 0 0
  pub sums_run' : (run_call sums_code (fresh sums_code) (sums_there ++ (1 ∷ 0 ∷ []))).reply ≡ counting 7 0 0 0 0
  pub sums_0 : thread_at (ran sums_code (sums_there ++ (0 ∷ 1 ∷ []))).state 0 ≡ standing 5 31 30 2 (second (pos 7)) 0 0 no_logs 2 0
  pub sums_0' : thread_at (ran sums_code (sums_there ++ (1 ∷ 0 ∷ []))).state 0 ≡ standing 5 31 30 2 (second (pos 7)) 0 0 no_logs 2 0
  pub sums_1 : thread_at (ran sums_code (sums_there ++ (0 ∷ 1 ∷ []))).state 1 ≡ standing 8 19 19 1 (front (pos 3)) 0 0 no_logs 2 0
  pub sums_1' : thread_at (ran sums_code (sums_there ++ (1 ∷ 0 ∷ []))).state 1 ≡ standing 8 19 19 1 (front (pos 3)) 0 0 no_logs 2 0
  -- `over` too: each of the two sums leaves the range
  pub overs : Follows overs_code (sums_there ++ (0 ∷ 1 ∷ [])) (sums_there ++ (1 ∷ 0 ∷ []))
  pub overs_run : (run_call overs_code (fresh overs_code) (sums_there ++ (0 ∷ 1 ∷ []))).reply ≡ counting 7 0 0 0 2
  pub overs_run' : (run_call overs_code (fresh overs_code) (sums_there ++ (1 ∷ 0 ∷ []))).reply ≡ counting 7 0 0 0 2
  pub overs_told : step_says (step_call overs_code (ran overs_code sums_there).state 1).reply ≡ done (told (summed false) 1)
  pub overs_told' : step_says (step_call overs_code (ran overs_code (sums_there ++ (0 ∷ []))).state 1).reply ≡ done (told (summed false) 1)
  pub overs_ended : Ended (ran overs_code (sums_there ++ (1 ∷ 0 ∷ []))).state 1 (negsuc 2147483647)
  -- ---- "picks of different threads": an idle pick is a pick of its number, also where no thread can have it; and of a thread that has ended
  pub idle_beside : Follows seven_code (0 ∷ 9 ∷ []) (9 ∷ 0 ∷ [])
  pub idle_run : (run_call seven_code (fresh seven_code) (0 ∷ 9 ∷ [])).reply ≡ counting 1 1 0 0 0
  pub idle_run' : (run_call seven_code (fresh seven_code) (9 ∷ 0 ∷ [])).reply ≡ counting 1 1 0 0 0
  pub both_idle : Follows seven_code (16 ∷ 17 ∷ []) (17 ∷ 16 ∷ [])
  pub both_idle_run : (run_call seven_code (fresh seven_code) (17 ∷ 16 ∷ [])).reply ≡ counting 0 2 0 0 0
  pub ended_beside : Follows seven_code (0 ∷ 0 ∷ 9 ∷ []) (0 ∷ 9 ∷ 0 ∷ [])
  pub same_number : Exchanged wrapping seven_code (fresh seven_code) (5 ∷ 5 ∷ []) (5 ∷ 5 ∷ []) → ⊥
  -- ---- "neither doing a FORK nor a commit that takes effect": READ beside WRITE of one register, which goes into the write log
  pub read_write : Follows whole_code (write_read_there ++ (1 ∷ 2 ∷ [])) (write_read_there ++ (2 ∷ 1 ∷ []))
  pub read_write_1 : thread_at (ran whole_code (write_read_there ++ (1 ∷ 2 ∷ []))).state 1 ≡ standing 8 20 19 1 (front (pos 1)) 8 0 read_zero_wrote_one 8 0
  pub read_write_1' : thread_at (ran whole_code (write_read_there ++ (2 ∷ 1 ∷ []))).state 1 ≡ standing 8 20 19 1 (front (pos 1)) 8 0 read_zero_wrote_one 8 0
  pub read_write_2 : thread_at (ran whole_code (write_read_there ++ (1 ∷ 2 ∷ []))).state 2 ≡ standing 23 35 26 1 zeros 23 0 read_zero 7 0
  pub read_write_2' : thread_at (ran whole_code (write_read_there ++ (2 ∷ 1 ∷ []))).state 2 ≡ standing 23 35 26 1 zeros 23 0 read_zero 7 0
  -- READ beside READ of one register, BEGIN beside BEGIN: two exchanges
  pub read_read : Follows whole_code (times 2 0 ++ (1 ∷ 2 ∷ 1 ∷ 2 ∷ [])) (times 2 0 ++ (2 ∷ 1 ∷ 2 ∷ 1 ∷ []))
  -- READ from the read log beside READ from the write log; then an ADD in a transaction beside another
  pub logs : Follows logs_code (logs_there ++ (0 ∷ 1 ∷ 0 ∷ 1 ∷ [])) (logs_there ++ (1 ∷ 0 ∷ 1 ∷ 0 ∷ []))
  pub logs_told_0 : step_says (step_call logs_code (ran logs_code logs_there).state 0).reply ≡ done (told (looked from_reads) 0)
  pub logs_told_0' : step_says (step_call logs_code (ran logs_code (logs_there ++ (1 ∷ []))).state 0).reply ≡ done (told (looked from_reads) 0)
  pub logs_told_1 : step_says (step_call logs_code (ran logs_code (logs_there ++ (0 ∷ []))).state 1).reply ≡ done (told (looked from_writes) 0)
  pub logs_told_1' : step_says (step_call logs_code (ran logs_code logs_there).state 1).reply ≡ done (told (looked from_writes) 0)
  pub logs_added : step_says (step_call logs_code (ran logs_code (logs_there ++ (0 ∷ 1 ∷ 0 ∷ []))).state 1).reply ≡ done (told (summed true) 0)
  pub logs_added' : step_says (step_call logs_code (ran logs_code (logs_there ++ (1 ∷ 0 ∷ []))).state 1).reply ≡ done (told (summed true) 0)
  -- a COMMIT that is sent back beside an outside sum
  pub back : Follows whole_code (back_there ++ (1 ∷ 0 ∷ [])) (back_there ++ (0 ∷ 1 ∷ []))
  pub back_told : step_says (step_call whole_code (ran whole_code back_there).state 1).reply ≡ done (told (sent_back 0) 0)
  pub back_told' : step_says (step_call whole_code (ran whole_code (back_there ++ (0 ∷ []))).state 1).reply ≡ done (told (sent_back 0) 0)
  pub back_run : (run_call whole_code (fresh whole_code) (back_there ++ (1 ∷ 0 ∷ []))).reply ≡ counting 15 0 1 1 0
  pub back_run' : (run_call whole_code (fresh whole_code) (back_there ++ (0 ∷ 1 ∷ []))).reply ≡ counting 15 0 1 1 0
  pub back_1 : thread_at (ran whole_code (back_there ++ (1 ∷ 0 ∷ []))).state 1 ≡ standing 8 20 8 0 zeros 0 0 no_logs 10 1
  pub back_1' : thread_at (ran whole_code (back_there ++ (0 ∷ 1 ∷ []))).state 1 ≡ standing 8 20 8 0 zeros 0 0 no_logs 10 1
  -- ---- "any number of such exchanges": 1 over 2, and then over 3
  pub two_links : Follows three_code (times 3 0 ++ (1 ∷ 2 ∷ 3 ∷ [])) (times 3 0 ++ (2 ∷ 3 ∷ 1 ∷ []))
  pub two_links_1 : Ended (ran three_code (times 3 0 ++ (2 ∷ 3 ∷ 1 ∷ []))).state 1 (pos 1)
  pub two_links_3 : Ended (ran three_code (times 3 0 ++ (2 ∷ 3 ∷ 1 ∷ []))).state 3 (pos 3)
  -- ---- a state that does not fit: the picks may be exchanged, and the call is refused either way
  pub unfit : fits seven_code (sized 63 64 16) ≡ false
  pub unfit_beside : Exchanges wrapping seven_code (sized 63 64 16) (0 ∷ 9 ∷ []) (9 ∷ 0 ∷ [])
  pub unfit_run : run_says (run_call seven_code (sized 63 64 16) (0 ∷ 9 ∷ [])).reply ≡ refused 12 0
  pub unfit_run' : run_says (run_call seven_code (sized 63 64 16) (9 ∷ 0 ∷ [])).reply ≡ refused 12 0
  -- ---- over the border of two calls: each call's counts change, and they add up to the same
  pub border : (run_call seven_code (fresh seven_code) (0 ∷ [])).reply ≡ counting 1 0 0 0 0
  pub border_next : (run_call seven_code (run_call seven_code (fresh seven_code) (0 ∷ [])).state (9 ∷ [])).reply ≡ counting 0 1 0 0 0
  pub border' : (run_call seven_code (fresh seven_code) (9 ∷ [])).reply ≡ counting 0 1 0 0 0
  pub border_next' : (run_call seven_code (run_call seven_code (fresh seven_code) (9 ∷ [])).state (0 ∷ [])).reply ≡ counting 1 0 0 0 0
  -- ---- a FORK, first or second: a pick of its child is idle before it
  pub fork : Apart whole_code (0 ∷ 1 ∷ []) (1 ∷ 0 ∷ [])
  pub fork' : Apart whole_code (1 ∷ 0 ∷ []) (0 ∷ 1 ∷ [])
  pub fork_run : (run_call whole_code (fresh whole_code) (0 ∷ 1 ∷ [])).reply ≡ counting 2 0 0 0 0
  pub fork_run' : (run_call whole_code (fresh whole_code) (1 ∷ 0 ∷ [])).reply ≡ counting 1 1 0 0 0
  pub fork_1 : thread_at (ran whole_code (0 ∷ 1 ∷ [])).state 1 ≡ standing 8 20 9 0 zeros 8 0 no_logs 4 0
  pub fork_1' : thread_at (ran whole_code (1 ∷ 0 ∷ [])).state 1 ≡ spawned 8 20
  -- two FORKs: the counts are the same, the children have other numbers
  pub forks : Apart forks_code (0 ∷ 0 ∷ 1 ∷ []) (0 ∷ 1 ∷ 0 ∷ [])
  pub forks_run : (run_call forks_code (fresh forks_code) (0 ∷ 0 ∷ 1 ∷ [])).reply ≡ counting 3 0 0 0 0
  pub forks_run' : (run_call forks_code (fresh forks_code) (0 ∷ 1 ∷ 0 ∷ [])).reply ≡ counting 3 0 0 0 0
  pub forks_2 : thread_at (ran forks_code (0 ∷ 0 ∷ 1 ∷ [])).state 2 ≡ spawned 19 24
  pub forks_2' : thread_at (ran forks_code (0 ∷ 1 ∷ 0 ∷ [])).state 2 ≡ spawned 11 16
  -- a FORK beside an idle pick: the words leave it out, though the ends are the same
  pub fork_idle : Apart whole_code (0 ∷ 9 ∷ []) (9 ∷ 0 ∷ [])
  pub fork_idle_end : (ran whole_code (0 ∷ 9 ∷ [])).state ≡ (ran whole_code (9 ∷ 0 ∷ [])).state
  pub fork_idle_run : (run_call whole_code (fresh whole_code) (0 ∷ 9 ∷ [])).reply ≡ counting 1 1 0 0 0
  pub fork_idle_run' : (run_call whole_code (fresh whole_code) (9 ∷ 0 ∷ [])).reply ≡ counting 1 1 0 0 0
  -- ---- a commit that takes effect, first or second: a READ finds the value and the count before it, or behind it
  pub commit : Apart whole_code (commit_there ++ (1 ∷ 2 ∷ [])) (commit_there ++ (2 ∷ 1 ∷ []))
  pub commit' : Apart whole_code (commit_there ++ (2 ∷ 1 ∷ [])) (commit_there ++ (1 ∷ 2 ∷ []))
  pub commit_2 : thread_at (ran whole_code (commit_there ++ (1 ∷ 2 ∷ []))).state 2 ≡ standing 23 35 26 1 (front (pos 1)) 23 0 read_one 7 0
  pub commit_2' : thread_at (ran whole_code (commit_there ++ (2 ∷ 1 ∷ []))).state 2 ≡ standing 23 35 26 1 zeros 23 0 read_zero 7 0
  -- two COMMITs: the first takes effect, the second is sent back; the counts are the same, the states are not
  pub commits : Apart whole_code (commits_there ++ (1 ∷ 2 ∷ [])) (commits_there ++ (2 ∷ 1 ∷ []))
  pub commits_run : (run_call whole_code (fresh whole_code) (commits_there ++ (1 ∷ 2 ∷ []))).reply ≡ counting 14 0 1 1 0
  pub commits_run' : (run_call whole_code (fresh whole_code) (commits_there ++ (2 ∷ 1 ∷ []))).reply ≡ counting 14 0 1 1 0
  pub commits_1 : Ended (ran whole_code (commits_there ++ (1 ∷ 2 ∷ []))).state 1 (pos 1)
  pub commits_1' : thread_at (ran whole_code (commits_there ++ (2 ∷ 1 ∷ []))).state 1 ≡ standing 8 20 8 0 zeros 0 0 no_logs 10 1
  -- a commit beside an idle pick: left out too
  pub commit_idle : Apart whole_code (commit_there ++ (1 ∷ 9 ∷ [])) (commit_there ++ (9 ∷ 1 ∷ []))
  pub commit_idle_end : (ran whole_code (commit_there ++ (1 ∷ 9 ∷ []))).state ≡ (ran whole_code (commit_there ++ (9 ∷ 1 ∷ []))).state
  pub commit_idle_run : (run_call whole_code (fresh whole_code) (commit_there ++ (1 ∷ 9 ∷ []))).reply ≡ counting 9 1 1 0 0
  pub commit_idle_run' : (run_call whole_code (fresh whole_code) (commit_there ++ (9 ∷ 1 ∷ []))).reply ≡ counting 9 1 1 0 0
  -- ---- what a number sees: its own picks, every FORK, every commit that took effect
  pub seen_own :
      seen_by 1 (ran sums_code (sums_there ++ (0 ∷ 1 ∷ []))).events ≡ did 0 forked ∷ did 1 pushed ∷ did 1 pushed ∷ did 1 (summed false) ∷ []
  pub seen_fork : seen_by 9 (ran sums_code (sums_there ++ (9 ∷ 1 ∷ []))).events ≡ did 0 forked ∷ did 9 idle ∷ []
  pub seen_commit :
      seen_by 2 (ran whole_code (commit_there ++ (1 ∷ 2 ∷ []))).events ≡
      did 0 forked ∷ did 0 forked ∷ did 2 begun ∷ did 1 committed ∷ did 2 (looked from_table) ∷ []
  pub seen_logs :
      seen_by 0 (ran logs_code (logs_there ++ (0 ∷ 1 ∷ []))).events ≡ did 0 forked ∷ did 0 begun ∷ did 0 (looked from_table) ∷ did 0 (looked from_reads) ∷ []
  pub seen_back : seen_by 0 (ran whole_code (back_there ++ (1 ∷ 0 ∷ []))).events ≡ did 0 forked ∷ did 0 forked ∷ did 2 committed ∷ did 0 (summed false) ∷ []
