-- The joint table of worked cases: each row says what a definition computes and what document 01 says of it. The rows of the
-- cases that it marks M come first. What they speak of stands in Inputs.
use Rattle.std.specs.Prelude.{true, false, ◌≡◌, [], ◌∷◌, ◌++◌, eqb, pos, negsuc, length, get_or, replicate}
use Rattle.script.specs.Tree.{ValP, Atomic, Read, Write}
use Rattle.script.specs.Bytes.{job_bytes}
use Rattle.script.specs.Count.{bound, code_length}
use Rattle.script.specs.Outcome.{refused, done}
use Rattle.script.specs.Reader.{read_job}
use Rattle.code.specs.Bytes.{compiled}
use Rattle.code.specs.Reader.{read_code}
use Rattle.guarantee.specs.Histories.{Ended}
use Rattle.listing.specs.Listed.{ascii, listed}
use Rattle.thread.specs.Threads.{zeros, unwritten, blank, spawned, exists, with_place, with_notes}
use Rattle.machine.specs.Steps.{number_of, thread_at, fresh}
use Rattle.machine.specs.FitTest.{fits}
use Rattle.machine.specs.Answers.{fresh_says, step_says, run_says, fresh_call, step_call, run_call}
use Rattle.stm.specs.Events.{idle, sent_back, counted, is_idle, is_commit, is_back, order, backs}
use Rattle.word.specs.Sum.{wrapping}
use Rattle.cases.specs.Inputs.{header, accepted, seven, seven_code, registers_job, low_tree, low_code, own_write_tree, own_write_code, whole_tree, whole_job, whole_code, high_tree, high_code, look_code, twice_code, last_code, stale_code, nest_code, times, ran, steps, whole_picks, stale_there, high_picks, nest_picks, told, front, second, front_counts, no_logs, standing, no_threads, sized, one_forked, both_forked, behind_begin, behind_read, behind_commit, whole_end, high_read, nested, put_at, changed, with_registers, crossed, with_mark, with_height, with_cell, with_read, with_write, with_read_value, with_write_value, with_code, looking, read_seven, read_seven_wrote_five}

-- what a definition computes, on the left, and what document 01 says of it, on the right
pub record Cases : Type 0 where
  -- M: "job hex `57 53 4A 00 01 00 01 01 00 00 00 07` has code `57 53 43 00 01 01 00 00 00 07`, one step, result 7"; of three picks the
  -- other two are idle
  pub seven_read : read_job seven ≡ accepted (ValP (pos 7))
  pub seven-code : compiled (record { version = 1; tree = ValP (pos 7) }) ≡ 0x57 ∷ 0x53 ∷ 0x43 ∷ 0x00 ∷ 0x01 ∷ 0x01 ∷ 0x00 ∷ 0x00 ∷ 0x00 ∷ 0x07 ∷ []
  pub seven_steps : steps (ran seven_code (times 1 0)) ≡ 1
  pub seven_done : Ended (ran seven_code (times 1 0)).state 0 (pos 7)
  pub seven_run : (run_call seven_code (fresh seven_code) (times 3 0)).reply ≡ record { refusal = 0; place = 0; steps = 1; idle = 2; commits = 0; back = 0; over = 0 }
  pub seven_bound : bound (ValP (pos 7)) ≡ 1
  -- M: "−2147483648 + −1 is 2147483647"; as a job, and as a call
  pub below_range : wrapping (negsuc 2147483647) (negsuc 0) ≡ pos 2147483647
  pub low_read : read_job (header 3 (0x02 ∷ 0x01 ∷ 0x80 ∷ 0x00 ∷ 0x00 ∷ 0x00 ∷ 0x01 ∷ 0xFF ∷ 0xFF ∷ 0xFF ∷ 0xFF ∷ [])) ≡ accepted low_tree
  pub low_done : Ended (ran low_code (times 3 0)).state 0 (pos 2147483647)
  pub low_run : (run_call low_code (fresh low_code) (times 3 0)).reply ≡ record { refusal = 0; place = 0; steps = 3; idle = 0; commits = 0; back = 0; over = 1 }
  pub low_left : Ended (run_call low_code (fresh low_code) (times 3 0)).state 0 (pos 2147483647)
  -- M: "ATOMIC of ADDT (WRITE 0 (VALT 5)) (READ 0) gives 10 with an empty read log"
  pub own-job : read_job (header 5 (0x03 ∷ 0x06 ∷ 0x08 ∷ 0x00 ∷ 0x05 ∷ 0x00 ∷ 0x00 ∷ 0x00 ∷ 0x05 ∷ 0x07 ∷ 0x00 ∷ [])) ≡ accepted own_write_tree
  pub own_read : (thread_at (ran own_write_code (times 4 0)).state 0).reads ≡ 0
  pub own_reads : (thread_at (ran own_write_code (times 4 0)).state 0).readlog ≡ replicate 64 (pos 0)
  pub own_added : (thread_at (ran own_write_code (times 5 0)).state 0).reads ≡ 0
  pub own_still : (thread_at (ran own_write_code (times 5 0)).state 0).readlog ≡ replicate 64 (pos 0)
  pub own_done : Ended (ran own_write_code (times 6 0)).state 0 (pos 10)
  pub own_register : get_or (ran own_write_code (times 6 0)).state.registers 0 (pos 0) ≡ pos 5
  pub own_run : (run_call own_write_code (fresh own_write_code) (times 6 0)).reply ≡ record { refusal = 0; place = 0; steps = 6; idle = 0; commits = 1; back = 0; over = 0 }
  -- M: "no bytes, 1 at 0"
  pub no_bytes : read_job [] ≡ refused 1 0
  -- M: "register 63 taken, 64 refused"; the place is the register byte
  pub register_63 : read_job (header 2 (0x03 ∷ 0x07 ∷ 63 ∷ [])) ≡ accepted (Atomic (Read 63))
  pub register_64 : read_job (header 2 (0x03 ∷ 0x07 ∷ 64 ∷ [])) ≡ refused 6 9
  pub written_63 : read_job (header 3 (0x03 ∷ 0x08 ∷ 63 ∷ 0x07 ∷ 63 ∷ [])) ≡ accepted (Atomic (Write 63 (Read 63)))
  pub written_64 : read_job (header 3 (0x03 ∷ 0x08 ∷ 64 ∷ 0x07 ∷ 63 ∷ [])) ≡ refused 6 9
  -- M: "count 0 refused"
  pub no_count : read_job (header 0 []) ≡ refused 4 5
  -- M: "the whole case's code length and bound"; the job has 32 bytes, and this tree and code
  pub whole_length : code_length whole_tree ≡ 36
  pub whole_size : length whole_code ≡ 36
  pub whole_bound : bound whole_tree ≡ 27
  pub whole_job_size : length whole_job ≡ 32
  pub whole_read : read_job whole_job ≡ accepted whole_tree
  pub whole-code : compiled (record { version = 1; tree = whole_tree }) ≡ whole_code
  -- M: "an empty pick list leaves thread 0 open"
  pub none_there : exists (thread_at (ran seven_code []).state 0) ≡ true
  pub none_open : eqb (thread_at (ran seven_code []).state 0).place (thread_at (ran seven_code []).state 0).end ≡ false
  pub none_run : (run_call seven_code (fresh seven_code) []).reply ≡ record { refusal = 0; place = 0; steps = 0; idle = 0; commits = 0; back = 0; over = 0 }
  pub none_left : (run_call seven_code (fresh seven_code) []).state ≡ fresh seven_code
  -- ---- the other rows. Sums: "2147483647 + 1 is −2147483648"
  pub above_range : wrapping (pos 2147483647) (pos 1) ≡ negsuc 2147483647
  -- "9 if the count is used up, 1 if no byte is left"
  pub count_used_up : read_job (header 1 (0x02 ∷ [])) ≡ refused 9 8
  pub no_byte_left : read_job (header 2 (0x02 ∷ [])) ≡ refused 1 8
  -- jobs written and code read back
  pub high_job : read_job (header 9 (0x02 ∷ 0x01 ∷ 0x00 ∷ 0x00 ∷ 0x00 ∷ 0x05 ∷ 0x02 ∷ 0x04 ∷ 0x03 ∷ 0x08 ∷ 0x00 ∷ 0x05 ∷ 0x00 ∷ 0x00 ∷ 0x00 ∷ 0x01 ∷ 0x03 ∷ 0x07 ∷ 0x00 ∷ [])) ≡ accepted high_tree
  pub whole_written : job_bytes 1 whole_tree ≡ whole_job
  pub whole_back : read_code whole_code ≡ accepted whole_tree
  -- the whole case's output: "steps 21 idle 0 commits 2 back 1" and, by document 02, " over 0"; "thread 0 done 0", "thread 1 done 2", "thread 2 done 1", "register 0 2"
  pub whole_listing :
      listed (0x00 ∷ 0x20 ∷ (whole_job ++ whole_picks)) ≡
      ascii "steps 21 idle 0 commits 2 back 1 over 0\nthread 0 done 0\nthread 1 done 2\nthread 2 done 1\nregister 0 2\n"
  -- "an empty pick list leaves thread 0 open"; the least number, as a result; an input cut below its job's length; a job that is cut itself
  pub open_listing : listed (0x00 ∷ 0x0C ∷ seven) ≡ ascii "steps 0 idle 0 commits 0 back 0 over 0\nthread 0 open\n"
  pub least_listing :
      listed (0x00 ∷ 0x0C ∷ header 1 (0x01 ∷ 0x80 ∷ 0x00 ∷ 0x00 ∷ 0x00 ∷ 0x00 ∷ [])) ≡
      ascii "steps 1 idle 0 commits 0 back 0 over 0\nthread 0 done -2147483648\n"
  pub cut_listing : listed (0x00 ∷ 0x0C ∷ header 1 (0x01 ∷ 0x00 ∷ 0x00 ∷ [])) ≡ ascii "refused 1 at 12\n"
  pub cut_job_listing : listed (0x00 ∷ 0x03 ∷ 0x57 ∷ 0x53 ∷ 0x4A ∷ []) ≡ ascii "refused 1 at 3\n"
  pub no_listing : listed [] ≡ ascii "refused 1 at 0\n"
  -- picks of a thread that has ended and of none; a number below 0 in register 63; eleven threads, each the child of the one before; a mark, a kind
  pub idle_listing : listed (0x00 ∷ 0x0C ∷ (seven ++ (0 ∷ 0 ∷ 9 ∷ []))) ≡ ascii "steps 1 idle 2 commits 0 back 0 over 0\nthread 0 done 7\n"
  pub held_listing :
      listed (0x00 ∷ 0x0F ∷ (header 3 (0x03 ∷ 0x08 ∷ 0x3F ∷ 0x05 ∷ 0xFF ∷ 0xFF ∷ 0xFF ∷ 0xFB ∷ []) ++ replicate 4 0)) ≡
      ascii "steps 4 idle 0 commits 1 back 0 over 0\nthread 0 done -5\nregister 63 -5\n"
  -- "Threads ascend", the last one being open; "Registers not 0 follow, ascending": 3 is written to register 10 and then 4 to register 2
  pub registers_listing :
      listed (0x00 ∷ 0x1E ∷ (registers_job ++ times 9 0)) ≡
      ascii "steps 9 idle 0 commits 1 back 0 over 0\nthread 0 done 7\nthread 1 open\nregister 2 4\nregister 10 3\n"
  pub eleven_listing :
      listed (0x00 ∷ 0x16 ∷ (header 11 (replicate 10 0x04 ++ (0x01 ∷ 0x00 ∷ 0x00 ∷ 0x00 ∷ 0x01 ∷ [])) ++ (0 ∷ 1 ∷ 2 ∷ 3 ∷ 4 ∷ 5 ∷ 6 ∷ 7 ∷ 8 ∷ 9 ∷ []))) ≡
      ascii "steps 10 idle 0 commits 0 back 0 over 0\nthread 0 done 0\nthread 1 done 0\nthread 2 done 0\nthread 3 done 0\nthread 4 done 0\nthread 5 done 0\nthread 6 done 0\nthread 7 done 0\nthread 8 done 0\nthread 9 done 0\nthread 10 open\n"
  pub mark_listing : listed (0x00 ∷ 0x07 ∷ 0x57 ∷ 0x53 ∷ 0x43 ∷ 0x00 ∷ 0x01 ∷ 0x00 ∷ 0x01 ∷ []) ≡ ascii "refused 2 at 0\n"
  pub kind_listing : listed (0x00 ∷ 0x08 ∷ header 1 (0x09 ∷ [])) ≡ ascii "refused 5 at 7\n"
  pub whole_steps : steps (ran whole_code whole_picks) ≡ 21
  pub whole_idle : counted is_idle (ran whole_code whole_picks).events ≡ 0
  pub whole_commits : counted is_commit (ran whole_code whole_picks).events ≡ 2
  pub whole_back_count : counted is_back (ran whole_code whole_picks).events ≡ 1
  pub whole_threads : number_of (ran whole_code whole_picks).state.threads ≡ 3
  pub whole_0 : Ended (ran whole_code whole_picks).state 0 (pos 0)
  pub whole_1 : Ended (ran whole_code whole_picks).state 1 (pos 2)
  pub whole_2 : Ended (ran whole_code whole_picks).state 2 (pos 1)
  pub whole_registers : (ran whole_code whole_picks).state.registers ≡ pos 2 ∷ replicate 63 (pos 0)
  -- its turns: both FORKs and the sum of thread 0, the commits of threads 2 and 1; how often each thread was sent back
  pub whole_order : order (ran whole_code whole_picks).events ≡ 0 ∷ 0 ∷ 0 ∷ 2 ∷ 1 ∷ []
  pub backs_1 : backs 1 (ran whole_code whole_picks).events ≡ 1
  pub backs_2 : backs 2 (ran whole_code whole_picks).events ≡ 0
  pub backs_twice : backs 1 (record { thread = 1; event = sent_back 0; over = 0 } ∷ record { thread = 2; event = sent_back 0; over = 0 } ∷ record { thread = 1; event = sent_back 3; over = 0 } ∷ []) ≡ 2
  -- a sent-back thread: at its BEGIN, its stack as it was there, logs and notes empty
  pub high_back : counted is_back (ran high_code high_picks).events ≡ 1
  pub high_place : (thread_at (ran high_code high_picks).state 0).place ≡ 22
  pub high_height : (thread_at (ran high_code high_picks).state 0).height ≡ 2
  pub high_cells : (thread_at (ran high_code high_picks).state 0).cells ≡ pos 5 ∷ pos 0 ∷ replicate 62 (pos 0)
  pub high_begin : (thread_at (ran high_code high_picks).state 0).begin ≡ 0
  pub high_base : (thread_at (ran high_code high_picks).state 0).base ≡ 0
  pub high_reads : (thread_at (ran high_code high_picks).state 0).reads ≡ 0
  pub high_readlog : (thread_at (ran high_code high_picks).state 0).readlog ≡ replicate 64 (pos 0)
  pub high_done : Ended (ran high_code (high_picks ++ times 5 0)).state 0 (pos 6)
  -- ---- what each instruction leaves in its thread's record. PUSH; ADD, which frees a cell
  pub push_record : thread_at (step_call seven_code (fresh seven_code) 0).state 0 ≡ standing 5 10 10 1 (front (pos 7)) 0 0 no_logs 1 0
  pub sum_record : thread_at (step_call low_code (ran low_code (times 2 0)).state 0).state 0 ≡ standing 5 16 16 1 (front (pos 2147483647)) 0 0 no_logs 2 0
  -- "FORK gives 0 to its own thread and starts p as the next thread number"; "the parent goes on after it"
  pub fork_parent : thread_at (step_call whole_code (fresh whole_code) 0).state 0 ≡ standing 5 36 20 1 zeros 0 0 no_logs 3 0
  pub fork_child : thread_at (step_call whole_code (fresh whole_code) 0).state 1 ≡ standing 8 20 8 0 zeros 0 0 no_logs 0 0
  pub fork_next : thread_at (step_call whole_code one_forked 0).state 2 ≡ standing 23 35 23 0 zeros 0 0 no_logs 0 0
  pub fork_number : number_of (step_call whole_code one_forked 0).state.threads ≡ 3
  -- "BEGIN: notes its place and the stack height, and empties both logs"
  pub begin_record : thread_at (step_call high_code (ran high_code (times 2 0)).state 0).state 0 ≡ standing 5 28 23 2 (front (pos 5)) 22 2 no_logs 4 0
  -- "READ: the value in the write log if there, else in the read log if there, else the table's, which enters the read log", with the table's count
  pub read_from_writes :
      thread_at (step_call look_code (looking read_seven_wrote_five) 0).state 0 ≡
      standing 5 17 15 2 (second (pos 5)) 12 1 (record { reads = 1; readlog = front (pos 7); readcounts = unwritten; writes = 1; writelog = front (pos 5) }) 5 0
  pub read_from_reads :
      thread_at (step_call look_code (looking read_seven) 0).state 0 ≡
      standing 5 17 15 2 (second (pos 7)) 12 1 (record { reads = 1; readlog = front (pos 7); readcounts = unwritten; writes = 0; writelog = zeros }) 6 0
  pub read-from-table :
      thread_at (step_call look_code (looking (λ t. t)) 0).state 0 ≡
      standing 5 17 15 2 (second (pos 9)) 12 1 (record { reads = 1; readlog = front (pos 9); readcounts = front_counts 1; writes = 0; writelog = zeros }) 7 0
  -- "WRITE: puts the top of the stack in the write log; the top stays"; the table is as it was
  pub write_record :
      thread_at (step_call whole_code (ran whole_code (times 2 0 ++ times 4 1)).state 1).state 1 ≡
      standing 8 20 19 1 (front (pos 1)) 8 0 (record { reads = 1; readlog = zeros; readcounts = unwritten; writes = 1; writelog = front (pos 1) }) 8 0
  pub write_table : (step_call whole_code (ran whole_code (times 2 0 ++ times 4 1)).state 1).state.registers ≡ zeros
  -- COMMIT: "the write log goes into the table"; behind it logs and notes are empty
  pub commit_record :
      thread_at (step_call whole_code (ran whole_code (times 2 0 ++ times 5 1)).state 1).state 1 ≡
      standing 8 20 20 1 (front (pos 1)) 0 0 no_logs 9 0
  pub commit_table : (step_call whole_code (ran whole_code (times 2 0 ++ times 5 1)).state 1).state.registers ≡ front (pos 1)
  -- "With a stale one the thread is sent back: to its BEGIN, stack height as noted, logs and notes emptied"; the table is as it was
  pub back_record : thread_at (step_call whole_code (ran whole_code stale_there).state 1).state 1 ≡ standing 8 20 8 0 zeros 0 0 no_logs 10 1
  pub back_table : (step_call whole_code (ran whole_code stale_there).state 1).state.registers ≡ front (pos 1)
  -- ---- the reply of `step`, an event number after the other; a turn is "an ADD outside a transaction, a FORK, or a COMMIT that takes effect"
  pub step_0_idle : (step_call seven_code (ran seven_code (times 1 0)).state 0).reply ≡ record { refusal = 0; place = 0; event = 0; register = 0; turn = 0; over = 0 }
  pub step_1_push : (step_call seven_code (fresh seven_code) 0).reply ≡ record { refusal = 0; place = 0; event = 1; register = 0; turn = 0; over = 0 }
  pub step_2_sum_outside : (step_call low_code (ran low_code (times 2 0)).state 0).reply ≡ record { refusal = 0; place = 0; event = 2; register = 0; turn = 1; over = 1 }
  pub step_2_sum_inside : (step_call own_write_code (ran own_write_code (times 4 0)).state 0).reply ≡ record { refusal = 0; place = 0; event = 2; register = 0; turn = 0; over = 0 }
  pub step_3_fork : (step_call whole_code (fresh whole_code) 0).reply ≡ record { refusal = 0; place = 0; event = 3; register = 0; turn = 1; over = 0 }
  pub step_4_begin : (step_call whole_code both_forked 1).reply ≡ record { refusal = 0; place = 0; event = 4; register = 0; turn = 0; over = 0 }
  pub step_5_from_writes : (step_call own_write_code (ran own_write_code (times 3 0)).state 0).reply ≡ record { refusal = 0; place = 0; event = 5; register = 0; turn = 0; over = 0 }
  pub step_5_from_both : (step_call look_code (looking read_seven_wrote_five) 0).reply ≡ record { refusal = 0; place = 0; event = 5; register = 0; turn = 0; over = 0 }
  pub step_6_from_reads : (step_call twice_code (ran twice_code (times 2 0)).state 0).reply ≡ record { refusal = 0; place = 0; event = 6; register = 0; turn = 0; over = 0 }
  pub step_7_from_table : (step_call whole_code behind_begin 1).reply ≡ record { refusal = 0; place = 0; event = 7; register = 0; turn = 0; over = 0 }
  pub step_8_write : (step_call whole_code (ran whole_code (times 2 0 ++ times 4 1)).state 1).reply ≡ record { refusal = 0; place = 0; event = 8; register = 0; turn = 0; over = 0 }
  pub step_9_commit : (step_call whole_code (ran whole_code (times 2 0 ++ times 5 1)).state 1).reply ≡ record { refusal = 0; place = 0; event = 9; register = 0; turn = 1; over = 0 }
  pub step_10_back : (step_call whole_code (ran whole_code stale_there).state 1).reply ≡ record { refusal = 0; place = 0; event = 10; register = 0; turn = 0; over = 0 }
  -- "the commit has taken effect, also with an empty write log"
  pub commit_unwritten : (step_call twice_code (ran twice_code (times 4 0)).state 0).reply ≡ record { refusal = 0; place = 0; event = 9; register = 0; turn = 1; over = 0 }
  -- "walks the registers from 0 up and stops at the first stale one": of 1 and 2, of which 2 was read first; up to 63
  pub lowest_stale : (step_call stale_code (ran stale_code (times 5 0 ++ times 5 1)).state 0).reply ≡ record { refusal = 0; place = 0; event = 10; register = 1; turn = 0; over = 0 }
  pub last_stale : (step_call (last_code (pos 1)) (ran (last_code (pos 1)) (times 3 0 ++ times 4 1)).state 0).reply ≡ record { refusal = 0; place = 0; event = 10; register = 63; turn = 0; over = 0 }
  -- document 02 No. 6: "stale if a commit wrote it after it entered the read log, even with an equal value"; not if that commit came before the READ
  pub same_value :
      (step_call (last_code (pos 0)) (ran (last_code (pos 0)) (times 3 0 ++ times 4 1)).state 0).reply ≡
      record { refusal = 0; place = 0; event = 10; register = 63; turn = 0; over = 0 }
  pub written_before :
      (step_call (last_code (pos 0)) (ran (last_code (pos 0)) (times 1 0 ++ (times 4 1 ++ times 2 0))).state 0).reply ≡
      record { refusal = 0; place = 0; event = 9; register = 0; turn = 1; over = 0 }
  -- what such a reply says
  pub step_idle : step_says (step_call seven_code (ran seven_code (times 1 0)).state 0).reply ≡ done (told idle 0)
  pub step_back : step_says (step_call stale_code (ran stale_code (times 5 0 ++ times 5 1)).state 0).reply ≡ done (told (sent_back 1) 0)
  -- "A pick of a thread that does not exist or has ended is idle and changes nothing but the idle count"
  pub idle_3 : (step_call seven_code (fresh seven_code) 3).reply ≡ record { refusal = 0; place = 0; event = 0; register = 0; turn = 0; over = 0 }
  pub idle_3_left : (step_call seven_code (fresh seven_code) 3).state ≡ fresh seven_code
  pub idle_15 : (step_call seven_code (fresh seven_code) 15).reply ≡ record { refusal = 0; place = 0; event = 0; register = 0; turn = 0; over = 0 }
  pub idle_15_left : (step_call seven_code (fresh seven_code) 15).state ≡ fresh seven_code
  pub idle_16 : (step_call seven_code (fresh seven_code) 16).reply ≡ record { refusal = 0; place = 0; event = 0; register = 0; turn = 0; over = 0 }
  pub idle_16_left : (step_call seven_code (fresh seven_code) 16).state ≡ fresh seven_code
  pub idle_200 : (step_call seven_code (fresh seven_code) 200).reply ≡ record { refusal = 0; place = 0; event = 0; register = 0; turn = 0; over = 0 }
  pub idle_200_left : (step_call seven_code (fresh seven_code) 200).state ≡ fresh seven_code
  pub idle_ended : (step_call whole_code whole_end 1).reply ≡ record { refusal = 0; place = 0; event = 0; register = 0; turn = 0; over = 0 }
  pub idle_ended_left : (step_call seven_code (ran seven_code (times 1 0)).state 0).state ≡ (ran seven_code (times 1 0)).state
  pub idle_run : (run_call seven_code (fresh seven_code) (3 ∷ 200 ∷ 0 ∷ 0 ∷ [])).reply ≡ record { refusal = 0; place = 0; steps = 1; idle = 3; commits = 0; back = 0; over = 0 }
  -- ---- the reply of `run`: "`steps` are picks not idle, `commits` those that took effect, `back` those sent back"
  pub run-reply : (run_call whole_code (fresh whole_code) whole_picks).reply ≡ record { refusal = 0; place = 0; steps = 21; idle = 0; commits = 2; back = 1; over = 0 }
  pub run_left : (run_call whole_code (fresh whole_code) whole_picks).state ≡ whole_end
  pub run_whole : run_says (run_call whole_code (fresh whole_code) whole_picks).reply ≡ done (record { steps = 21; idle = 0; commits = 2; back = 1; over = 0 })
  pub run_none : run_says (run_call seven_code (fresh seven_code) []).reply ≡ done (record { steps = 0; idle = 0; commits = 0; back = 0; over = 0 })
  pub run_all_threads : (run_call nest_code (fresh nest_code) (nest_picks ++ times 1 15)).reply ≡ record { refusal = 0; place = 0; steps = 16; idle = 0; commits = 0; back = 0; over = 0 }
  -- 13, "more than 32,768 picks"
  pub full_list : (run_call seven_code (fresh seven_code) (times 32768 0)).reply ≡ record { refusal = 0; place = 0; steps = 1; idle = 32767; commits = 0; back = 0; over = 0 }
  pub run_13 : (run_call seven_code (fresh seven_code) (times 32769 0)).reply ≡ record { refusal = 13; place = 0; steps = 0; idle = 0; commits = 0; back = 0; over = 0 }
  pub run_13_left : (run_call seven_code (fresh seven_code) (times 32769 0)).state ≡ fresh seven_code
  pub long_list : run_says (run_call seven_code (fresh seven_code) (times 32769 0)).reply ≡ refused 13 0
  -- 12 before 13, 11 before 12; "A refusal returns its number and a place, and alters no lent memory"
  pub run_12 : (run_call seven_code no_threads (times 32769 0)).reply ≡ record { refusal = 12; place = 0; steps = 0; idle = 0; commits = 0; back = 0; over = 0 }
  pub run_12_left : (run_call seven_code no_threads (times 32769 0)).state ≡ no_threads
  pub run_11 : (run_call [] no_threads (times 32769 0)).reply ≡ record { refusal = 11; place = 0; steps = 0; idle = 0; commits = 0; back = 0; over = 0 }
  pub run_11_left : (run_call [] no_threads (times 32769 0)).state ≡ no_threads
  pub long_foreign : run_says (run_call seven_code no_threads (times 32769 0)).reply ≡ refused 12 0
  pub step_12 : (step_call seven_code no_threads 0).reply ≡ record { refusal = 12; place = 0; event = 0; register = 0; turn = 0; over = 0 }
  pub step_12_left : (step_call seven_code no_threads 0).state ≡ no_threads
  pub step_12_other_job : (step_call whole_code (fresh seven_code) 0).reply ≡ record { refusal = 12; place = 0; event = 0; register = 0; turn = 0; over = 0 }
  pub step_11 : (step_call [] no_threads 0).reply ≡ record { refusal = 11; place = 0; event = 0; register = 0; turn = 0; over = 0 }
  pub step_11_left : (step_call [] no_threads 0).state ≡ no_threads
  pub step_11_job : (step_call seven (fresh seven_code) 0).reply ≡ record { refusal = 11; place = 0; event = 0; register = 0; turn = 0; over = 0 }
  pub foreign_code : step_says (step_call [] no_threads 0).reply ≡ refused 11 0
  pub foreign_state : step_says (step_call seven_code no_threads 0).reply ≡ refused 12 0
  -- ---- `fresh`: "thread 0 alone, at the start of the whole code, and every register 0"; its reply, and what it leaves whatever the records held
  pub fresh_state :
      fresh seven_code ≡
      record { registers = zeros; counts = unwritten; threads = standing 5 10 5 0 zeros 0 0 no_logs 0 0 ∷ replicate 15 (standing 0 0 0 0 zeros 0 0 no_logs 0 0) }
  pub fresh-reply : (fresh_call seven_code no_threads).reply ≡ record { refusal = 0; place = 0 }
  pub fresh_left : (fresh_call seven_code no_threads).state ≡ fresh seven_code
  pub fresh_over : (fresh_call seven_code whole_end).state ≡ fresh seven_code
  pub laid_down : fresh_says (fresh_call seven_code no_threads).reply ≡ done tt
  -- "a foreign state, also where a fresh state is to be laid down"; 11 before 12
  pub fresh_12 : (fresh_call seven_code (sized 64 64 15)).reply ≡ record { refusal = 12; place = 0 }
  pub fresh_12_left : (fresh_call seven_code (sized 64 64 15)).state ≡ sized 64 64 15
  pub fresh_12_records : (fresh_call seven_code (sized 64 64 17)).reply ≡ record { refusal = 12; place = 0 }
  pub fresh_12_registers : (fresh_call seven_code (sized 63 64 16)).reply ≡ record { refusal = 12; place = 0 }
  pub fresh_12_registers_65 : (fresh_call seven_code (sized 65 64 16)).reply ≡ record { refusal = 12; place = 0 }
  pub fresh_11 : (fresh_call [] (sized 64 64 15)).reply ≡ record { refusal = 11; place = 0 }
  pub fresh_11_left : (fresh_call [] (sized 64 64 15)).state ≡ sized 64 64 15
  pub foreign_fresh : fresh_says (fresh_call seven_code (record { registers = zeros; counts = unwritten; threads = replicate 15 blank })).reply ≡ refused 12 0
  pub foreign_table : fresh_says (fresh_call seven_code (record { registers = replicate 63 (pos 0); counts = unwritten; threads = replicate 16 blank })).reply ≡ refused 12 0
  -- ---- "A state fits its code if ..". A state that fits stands before those which differ from it in one thing and do not
  -- "A run of other than 16 records, or a table of other than 64 registers, is a foreign state"
  pub fits_sized : fits seven_code (sized 64 64 16) ≡ true
  pub records_15 : fits seven_code (sized 64 64 15) ≡ false
  pub records_17 : fits seven_code (sized 64 64 17) ≡ false
  pub registers_63 : fits seven_code (sized 63 64 16) ≡ false
  pub registers_65 : fits seven_code (sized 65 64 16) ≡ false
  -- "thread 0 owns the whole code": an end before its last instruction and one behind it, a start at its second FORK, where it stands
  pub fits_fresh : fits whole_code (fresh whole_code) ≡ true
  pub root_end_early : fits whole_code (changed (fresh whole_code) 0 (with_code 5 35)) ≡ false
  pub root_end_late : fits whole_code (changed (fresh whole_code) 0 (with_code 5 37)) ≡ false
  pub root_start : fits whole_code (put_at (fresh whole_code) 0 (spawned 20 36)) ≡ false
  pub root_in_child : fits whole_code (put_at (fresh whole_code) 0 (spawned 8 20)) ≡ false
  -- "and each child its FORK's child code": an end before its COMMIT, the end of the other child, a start behind its BEGIN,
  -- where it stands
  pub fits_forked : fits whole_code both_forked ≡ true
  pub child_end_early : fits whole_code (changed both_forked 1 (with_code 8 19)) ≡ false
  pub child_end_late : fits whole_code (changed both_forked 1 (with_code 8 35)) ≡ false
  pub child_start : fits whole_code (put_at both_forked 1 (spawned 9 20)) ≡ false
  -- "less the child code of the FORKs in it": thread 0 behind its first FORK, but in the child's code
  pub fits_one : fits whole_code one_forked ≡ true
  pub in_child : fits whole_code (changed one_forked 0 (with_place 8)) ≡ false
  -- "every FORK that its thread has passed has exactly one thread, and no other thread exists": none, two, one of a FORK that is not passed
  pub missing_thread : fits whole_code (put_at both_forked 2 blank) ≡ false
  pub two_threads : fits whole_code (put_at both_forked 3 (thread_at both_forked 2)) ≡ false
  pub unforked : fits whole_code (put_at one_forked 2 (thread_at both_forked 2)) ≡ false
  pub fits_nest_one : fits nest_code (ran nest_code (times 1 0)).state ≡ true
  pub unforked_by_child : fits nest_code (put_at (ran nest_code (times 1 0)).state 2 (spawned 11 55)) ≡ false
  -- the children in another order; all 16 threads, and the last one missing
  pub other_order : fits whole_code (crossed (ran whole_code (times 2 0)).state) ≡ true
  pub all_threads : number_of nested.threads ≡ 16
  pub fits_all_threads : fits nest_code nested ≡ true
  pub last_missing : fits nest_code (put_at nested 15 blank) ≡ false
  -- "each place is at an instruction of the thread's own code or at its end": in an operand of PUSH (the byte is an opcode, 1), of READ; no place;
  -- the other child's; behind the end of the code; at an instruction behind the end of the child's code, with the height that would be left there
  pub fits_inside : fits whole_code behind_read ≡ true
  pub in_push : fits whole_code (changed behind_read 1 (with_place 15)) ≡ false
  pub in_read : fits whole_code (changed behind_read 1 (with_place 10)) ≡ false
  pub no_place : fits whole_code (changed both_forked 1 (with_place 0)) ≡ false
  pub other_child : fits whole_code (changed both_forked 1 (with_place 23)) ≡ false
  pub fits_ended : fits whole_code whole_end ≡ true
  pub behind_end : fits whole_code (changed whole_end 0 (with_place 37)) ≡ false
  pub fits_child_ended : fits whole_code behind_commit ≡ true
  pub behind_child_end : fits whole_code (changed behind_commit 1 (λ t. with_place 35 (with_height 2 t))) ≡ false
  -- "the stack height is the one which the instructions before that place leave": one too low, one too high, the cell being 0 or not
  pub height_low : fits whole_code (changed both_forked 0 (with_height 1)) ≡ false
  pub height_high : fits whole_code (changed both_forked 0 (with_height 3)) ≡ false
  pub height_high_filled : fits whole_code (changed both_forked 0 (λ t. with_height 3 (with_cell 2 (pos 1) t))) ≡ false
  pub height_ended : fits whole_code (changed whole_end 0 (with_height 2)) ≡ false
  -- "a transaction is open exactly from after BEGIN until COMMIT is done": notes empty behind BEGIN, notes before BEGIN and behind COMMIT
  pub fits_begun : fits whole_code behind_begin ≡ true
  pub notes_missing : fits whole_code (changed behind_begin 1 (with_notes 0 0 0)) ≡ false
  pub begin_before : fits whole_code (changed both_forked 1 (with_notes 8 0 0)) ≡ false
  pub base_before : fits whole_code (changed both_forked 1 (with_notes 0 1 0)) ≡ false
  pub begin_behind : fits whole_code (changed behind_commit 1 (with_notes 8 0 0)) ≡ false
  pub base_behind : fits whole_code (changed behind_commit 1 (with_notes 0 1 0)) ≡ false
  -- "its notes being its BEGIN's place and stack height": behind it, another thread's; one too low, one too high
  pub begin_wrong : fits whole_code (changed behind_read 1 (with_notes 9 0 0)) ≡ false
  pub begin_other : fits whole_code (changed behind_read 1 (with_notes 23 0 0)) ≡ false
  pub fits_high : fits high_code high_read ≡ true
  pub base_low : fits high_code (changed high_read 0 (with_notes 22 1 0)) ≡ false
  pub base_high : fits high_code (changed high_read 0 (with_notes 22 3 0)) ≡ false
  -- "logs .. being empty otherwise": a mark before BEGIN and behind COMMIT, its value being 0; and one with a value
  pub read_before : fits whole_code (changed both_forked 1 (with_read 0)) ≡ false
  pub write_before : fits whole_code (changed both_forked 1 (with_write 0)) ≡ false
  pub read_behind : fits whole_code (changed behind_commit 1 (with_read 63)) ≡ false
  pub write_behind : fits whole_code (changed behind_commit 1 (with_write 63)) ≡ false
  pub marked_outside : fits whole_code (with_mark (ran whole_code (times 2 0)).state) ≡ false
  -- "Threads are numbered without gaps": thread 2 as thread 3
  pub gap : fits whole_code (put_at (put_at both_forked 2 blank) 3 (thread_at both_forked 2)) ≡ false
  -- "Log values not marked .. hold 0": inside a transaction that has marked register 0, and outside
  pub unmarked_read : fits whole_code (changed behind_read 1 (with_read_value 1 (pos 1))) ≡ false
  pub unmarked_read_63 : fits whole_code (changed behind_read 1 (with_read_value 63 (negsuc 0))) ≡ false
  pub unmarked_write : fits whole_code (changed behind_read 1 (with_write_value 0 (pos 1))) ≡ false
  pub unmarked_write_63 : fits whole_code (changed behind_read 1 (with_write_value 63 (negsuc 0))) ≡ false
  pub unmarked_read_outside : fits whole_code (changed both_forked 1 (with_read_value 3 (pos 1))) ≡ false
  pub unmarked_write_outside : fits whole_code (changed both_forked 1 (with_write_value 3 (pos 1))) ≡ false
  -- "stack cells above the height .. hold 0": the one right above, the last one
  pub cell_above : fits whole_code (changed both_forked 0 (with_cell 2 (pos 1))) ≡ false
  pub cell_63 : fits whole_code (changed both_forked 0 (with_cell 63 (negsuc 0))) ≡ false
  -- "records of threads that do not exist hold 0": one field after the other in the first such record, and one in the last
  pub unused_end : fits whole_code (put_at both_forked 3 (with_code 0 1 blank)) ≡ false
  pub unused_place : fits whole_code (put_at both_forked 3 (with_place 1 blank)) ≡ false
  pub unused_height : fits whole_code (put_at both_forked 3 (with_height 1 blank)) ≡ false
  pub unused_cell : fits whole_code (put_at both_forked 3 (with_cell 0 (pos 1) blank)) ≡ false
  pub unused_begin : fits whole_code (put_at both_forked 3 (with_notes 1 0 0 blank)) ≡ false
  pub unused_base : fits whole_code (put_at both_forked 3 (with_notes 0 1 0 blank)) ≡ false
  pub unused_read : fits whole_code (put_at both_forked 3 (with_read 0 blank)) ≡ false
  pub unused_read_value : fits whole_code (put_at both_forked 3 (with_read_value 63 (pos 1) blank)) ≡ false
  pub unused_write : fits whole_code (put_at both_forked 3 (with_write 63 blank)) ≡ false
  pub unused_write_value : fits whole_code (put_at both_forked 3 (with_write_value 0 (negsuc 0) blank)) ≡ false
  pub unused_last : fits whole_code (put_at both_forked 15 (with_cell 63 (pos 1) blank)) ≡ false
  -- values on the stack, in registers and in logs are free, by document 02 No. 6 also a read log's value other than the table's; a log may mark a
  -- register which its transaction never names
  pub free_cells : fits whole_code (changed both_forked 0 (λ t. with_cell 0 (pos 7) (with_cell 1 (negsuc 2) t))) ≡ true
  pub free_registers : fits whole_code (with_registers (replicate 64 (negsuc 4)) both_forked) ≡ true
  pub free_read : fits whole_code (changed behind_read 1 (with_read_value 0 (pos 9))) ≡ true
  pub free_write : fits whole_code (changed behind_read 1 (λ t. with_write_value 5 (pos 9) (with_write 5 t))) ≡ true
  pub unnamed : fits whole_code (with_mark behind_begin) ≡ true
