-- Document 02 No. 4: worked cases of the rules, of what the records hold of them, and of the state test. The right sides were found by hand.
use Rattle.std.specs.Prelude.{ℕ, true, false, ◌≡◌, List, [], ◌∷◌, ◌++◌, pos, replicate}
use Rattle.std.proofs.Math.Option.{Option, none, some}
use Rattle.cases.specs.Inputs.{code_for, seven_code, look_code, whole_code, whole_picks, stale_there, times, ran, front, front_counts, put_at, changed, with_registers, with_counts, with_read_count, both_forked, behind_read, behind_commit, whole_end}
use Rattle.machine.specs.Answers.{rule_named, step_says, step_call, run_call, backs_of}
use Rattle.machine.specs.FitTest.{fits}
use Rattle.machine.specs.Steps.{State, thread_at, fresh}
use Rattle.script.specs.Outcome.{Outcome, refused, done}
use Rattle.script.specs.Tree.{AddP, Atomic, Fork, ValT, AddT, Read, Write}
use Rattle.stm.specs.Events.{Happened}
use Rattle.stm.specs.Rules.{MachineRule, push, sum, fork, begin, read_from_write_log, read_from_read_log, read_from_table, write, commit, sent_back_with, used_by, rule_of_number, last_rule}
use Rattle.thread.specs.Threads.{zeros, unwritten, blank, with_rule}
use Rattle.thread.specs.declared.Thread.{Thread}

-- the rules of picks, one after the other
unfoldable pub rules_of : List Happened → List (Option MachineRule)
rules_of [] = []
rules_of (h ∷ hs) = used_by h.event ∷ rules_of hs

-- what a step of a thread names after these picks of the whole case
abbrev pub named_after : List ℕ → ℕ → Outcome (Option MachineRule)
named_after is i = rule_named (step_call whole_code (ran whole_code is).state i).reply

-- the last rule and the send-backs of a thread after these picks of the whole case
abbrev pub rule_behind : List ℕ → ℕ → ℕ
rule_behind is i = (thread_at (ran whole_code is).state i).rule

-- the send-backs of a thread after these picks of the whole case
abbrev pub backs_behind : List ℕ → ℕ → ℕ
backs_behind is i = (thread_at (ran whole_code is).state i).backs

-- its picks up to the COMMIT that sends thread 1 back, and that one
abbrev pub sent_back_there : List ℕ
sent_back_there = stale_there ++ times 1 1

-- FORK (ATOMIC (WRITE 5 (WRITE 3 (VALT 1)))) + ATOMIC (READ 5 + READ 3): FORK, BEGIN, READ, READ, ADD of the root; BEGIN, PUSH, WRITE, WRITE,
-- COMMIT of thread 1
abbrev pub two_stale_code : List ℕ
two_stale_code = code_for (AddP (Fork (Atomic (Write 5 (Write 3 (ValT (pos 1)))))) (Atomic (AddT (Read 5) (Read 3))))

-- the picks up to the root's COMMIT, registers 3 and 5 being stale
abbrev pub two_stale : List ℕ
two_stale = times 5 0 ++ times 5 1

-- ATOMIC (ADDT (ADDT (WRITE 0 5) (READ 0)) (ADDT (READ 1) (READ 1))): BEGIN, PUSH, WRITE, READ from the write log, ADD, READ from the table,
-- READ from the read log, ADD, ADD, COMMIT
abbrev pub reads_code : List ℕ
reads_code = code_for (Atomic (AddT (AddT (Write 0 (ValT (pos 5))) (Read 0)) (AddT (Read 1) (Read 1))))

-- FORK (ATOMIC (WRITE 0 1) + ATOMIC (WRITE 0 2)) + ATOMIC (READ 0): FORK, BEGIN, READ of the root, then both transactions of thread 1
abbrev pub again_code : List ℕ
again_code = code_for (AddP (Fork (AddP (Atomic (Write 0 (ValT (pos 1)))) (Atomic (Write 0 (ValT (pos 2)))))) (Atomic (Read 0)))

-- both transactions of thread 1 done, and the root at its COMMIT
abbrev pub again_there : State
again_there = (ran again_code (times 3 0 ++ times 8 1)).state

-- ---- one thing changed
-- another last rule
abbrev pub with_last : ℕ → Thread → Thread
with_last rule t = with_rule rule t.backs t

-- another number of send-backs
abbrev pub with_backs : ℕ → Thread → Thread
with_backs backs t = with_rule t.rule backs t

-- thread i has so many send-backs
abbrev pub backed : State → ℕ → ℕ → State
backed s i n = changed s i (with_backs n)

-- the whole case: thread 1 has read 0, thread 2 has added 1 to register 0 and ended; so one COMMIT is passed and thread 1's read is stale
abbrev pub read_stale : State
read_stale = (ran whole_code (times 2 0 ++ (times 2 1 ++ times 6 2))).state

-- and register 0's value put back to 0, its count as it is: the read is stale by document 02 No. 6
abbrev pub value_back : State
value_back = with_registers zeros read_stale

-- and register 0's count put back to 0, its value as it is: no read is stale
abbrev pub count_back : State
count_back = with_counts unwritten read_stale

-- the rules of picks, of answers and of records, on the left, and what document 02 No. 4 says of them, on the right
pub record RuleCases : Type 0 where
  -- ---- the numbers: 0 none, 1 to 9 in document 02's order, 10 + v sent back with register v; what is above names none
  pub number_0 : rule_of_number 0 ≡ none
  pub number_1 : rule_of_number 1 ≡ some push
  pub number_2 : rule_of_number 2 ≡ some sum
  pub number_3 : rule_of_number 3 ≡ some fork
  pub number_4 : rule_of_number 4 ≡ some begin
  pub number_5 : rule_of_number 5 ≡ some read_from_write_log
  pub number_6 : rule_of_number 6 ≡ some read_from_read_log
  pub number_7 : rule_of_number 7 ≡ some read_from_table
  pub number_8 : rule_of_number 8 ≡ some write
  pub number_9 : rule_of_number 9 ≡ some commit
  pub number_10 : rule_of_number 10 ≡ some (sent_back_with 0)
  pub number_73 : rule_of_number 73 ≡ some (sent_back_with 63)
  pub number_74 : rule_of_number 74 ≡ none
  pub number_255 : rule_of_number 255 ≡ none
  -- ---- "Each step names the machine rule it used": the whole case pick by pick
  pub whole_rules :
      rules_of (ran whole_code whole_picks).events ≡
      some fork ∷ some fork ∷ some sum
      ∷ some begin ∷ some read_from_table
      ∷ some begin ∷ some read_from_table ∷ some push ∷ some sum ∷ some write ∷ some commit
      ∷ some push ∷ some sum ∷ some write ∷ some (sent_back_with 0)
      ∷ some begin ∷ some read_from_table ∷ some push ∷ some sum ∷ some write ∷ some commit ∷ []
  -- the answers of steps: its first, both sides of the send-back, its last; a pick of an ended thread and of none
  pub first_named : named_after [] 0 ≡ done (some fork)
  pub back_named : named_after stale_there 1 ≡ done (some (sent_back_with 0))
  pub again_named : named_after sent_back_there 1 ≡ done (some begin)
  pub last_named : named_after (stale_there ++ times 6 1) 1 ≡ done (some commit)
  pub ended_named : named_after whole_picks 1 ≡ done none
  pub missing_named : named_after [] 1 ≡ done none
  pub far_named : named_after [] 200 ≡ done none
  -- a refused step names none of them: a count above the COMMITs passed; with another value it is not refused
  pub refused_named : rule_named (step_call whole_code (with_counts (front_counts 1) behind_read) 1).reply ≡ refused 12 0
  pub other_value_named : rule_named (step_call whole_code (with_registers (front (pos 9)) behind_read) 1).reply ≡ done (some push)
  -- the three sources of READ
  pub reads_rules :
      rules_of (ran reads_code (times 10 0)).events ≡
      some begin ∷ some push ∷ some write ∷ some read_from_write_log ∷ some sum ∷ some read_from_table ∷ some read_from_read_log ∷ some sum ∷ some sum ∷ some commit ∷ []
  -- "sent back with the lowest stale register": of 3 and 5, 5 being read first
  pub lowest_named : rule_named (step_call two_stale_code (ran two_stale_code two_stale).state 0).reply ≡ done (some (sent_back_with 3))
  pub lowest_answer : (step_call two_stale_code (ran two_stale_code two_stale).state 0).reply ≡ record { refusal = 0; place = 0; event = 10; register = 3; turn = 0; over = 0 }
  pub lowest_held : (thread_at (ran two_stale_code (two_stale ++ times 1 0)).state 0).rule ≡ 13
  -- ---- "its last rule that was not idle, none at first, and its own number of send-backs"
  pub none_first : (thread_at (fresh whole_code) 0).rule ≡ 0
  pub none_backs : (thread_at (fresh whole_code) 0).backs ≡ 0
  pub child_none : rule_behind (times 1 0) 1 ≡ 0
  pub forked_held : rule_behind (times 1 0) 0 ≡ 3
  pub table_held : rule_behind (times 2 0 ++ times 2 1) 1 ≡ 7
  pub back_held : rule_behind sent_back_there 1 ≡ 10
  pub back_counted : backs_behind sent_back_there 1 ≡ 1
  -- another thread's send-back changes neither of the others' numbers
  pub others_held : rule_behind sent_back_there 2 ≡ 9
  pub others_backs : backs_behind sent_back_there 2 ≡ 0
  -- an idle pick leaves both: of a thread that has ended, of one that does not exist, of no record
  pub idle_held : rule_behind (sent_back_there ++ (times 1 2 ++ (times 1 9 ++ times 1 200))) 2 ≡ 9
  pub idle_back_held : rule_behind (sent_back_there ++ (times 1 2 ++ (times 1 9 ++ times 1 200))) 1 ≡ 10
  -- after the whole case: a commit and what comes before it leave the number, so that thread 1 has 1
  pub end_0 : rule_behind whole_picks 0 ≡ 2
  pub end_1 : rule_behind whole_picks 1 ≡ 9
  pub end_2 : rule_behind whole_picks 2 ≡ 9
  pub end_3 : rule_behind whole_picks 3 ≡ 0
  pub end_backs_0 : backs_behind whole_picks 0 ≡ 0
  pub end_backs_1 : backs_behind whole_picks 1 ≡ 1
  pub end_backs_2 : backs_behind whole_picks 2 ≡ 0
  pub end_last : last_rule 1 (ran whole_code whole_picks).events ≡ some commit
  -- "these numbers add up to the run's `back`": of all calls; the second call's own `back` is 0
  pub added_up : backs_of whole_end.threads ≡ 1
  pub second_call : (run_call whole_code (ran whole_code sent_back_there).state (times 6 1)).reply ≡ record { refusal = 0; place = 0; steps = 6; idle = 0; commits = 1; back = 0; over = 0 }
  pub second_left : backs_of (run_call whole_code (ran whole_code sent_back_there).state (times 6 1)).state.threads ≡ 1

-- whether a state with these numbers of send-backs fits, on the left, and what document 02 No. 4 says of it, on the right
pub record TallyCases : Type 0 where
  -- ---- "A state is foreign if such a number is above the COMMITs passed by all threads": none passed, also not by passing a FORK
  pub none_passed : fits whole_code both_forked ≡ true
  pub above_none : fits whole_code (backed both_forked 0 1) ≡ false
  pub above_none_fresh : fits seven_code (backed (fresh seven_code) 0 1) ≡ false
  -- a thread at its COMMIT has not passed it; behind it, it has
  pub at_commit : fits whole_code (backed (ran whole_code (times 2 0 ++ times 5 1)).state 1 1) ≡ false
  pub behind-commit : fits whole_code (backed behind_commit 1 1) ≡ true
  -- "by all threads", ended ones too, and in calls before this one: of thread 1 for threads 0 and 2
  pub passed_by_another : fits whole_code (backed behind_commit 2 1) ≡ true
  pub passed_for_all : fits whole_code (backed (backed (backed behind_commit 0 1) 1 1) 2 1) ≡ true
  pub above_one : fits whole_code (backed behind_commit 2 2) ≡ false
  -- both ended: 2, not 3
  pub two_passed : fits whole_code (backed whole_end 0 2) ≡ true
  pub above_two : fits whole_code (backed whole_end 0 3) ≡ false
  -- one thread behind two COMMITs: ATOMIC (VALT 0) + ATOMIC (READ 0) at its end
  pub own_two : fits look_code (backed (ran look_code (times 7 0)).state 0 2) ≡ true
  pub own_above_two : fits look_code (backed (ran look_code (times 7 0)).state 0 3) ≡ false
  -- a thread that was sent back has passed no COMMIT by it
  pub not_passed_back : fits whole_code (backed (ran whole_code sent_back_there).state 1 2) ≡ false
  -- "or equal to it while that thread's open transaction has a stale read": where no COMMIT is passed a stale read needs a count that is foreign
  -- itself, so both grounds hold
  pub stale_none_passed : fits whole_code (with_counts (front_counts 1) behind_read) ≡ false
  pub stale_none_step : step_says (step_call whole_code (with_counts (front_counts 1) behind_read) 1).reply ≡ refused 12 0
  pub stale_none_left : (step_call whole_code (with_counts (front_counts 1) behind_read) 1).state ≡ with_counts (front_counts 1) behind_read
  -- by document 02 No. 6 a register with another value and the logged count is not stale, nor is one that was not read
  pub other_value : fits whole_code (with_registers (front (pos 9)) behind_read) ≡ true
  pub other_register : fits whole_code (with_registers (pos 0 ∷ pos 9 ∷ replicate 62 (pos 0)) behind_read) ≡ true
  -- one passed: 0 fits with a stale read, 1 does not, also with the value that was read; without a stale read 1 does, 2 does not
  pub stale_below : fits whole_code read_stale ≡ true
  pub stale_equal : fits whole_code (backed read_stale 1 1) ≡ false
  pub value_back_below : fits whole_code value_back ≡ true
  pub value_back_equal : fits whole_code (backed value_back 1 1) ≡ false
  pub unstale_equal : fits whole_code (backed count_back 1 1) ≡ true
  pub unstale_above : fits whole_code (backed count_back 1 2) ≡ false
  pub count_logged : fits whole_code (backed (changed read_stale 1 (with_read_count 0 1)) 1 1) ≡ true
  -- it is that thread's own transaction: thread 0 has none, thread 2 has ended
  pub stale_of_another : fits whole_code (backed read_stale 0 1) ≡ true
  pub stale_of_another_ended : fits whole_code (backed read_stale 2 1) ≡ true
  -- ---- any last rule fits in a record that exists, also one that is no rule's number; a record of no thread holds 0 of both
  pub free_rule : fits whole_code (changed both_forked 1 (with_last 9)) ≡ true
  pub free_read_outside : fits whole_code (changed both_forked 1 (with_last 6)) ≡ true
  pub free_back : fits whole_code (changed behind_read 1 (with_last 10)) ≡ true
  pub free_unknown : fits whole_code (changed both_forked 1 (with_last 74)) ≡ true
  pub free_greatest : fits whole_code (changed both_forked 1 (with_last 18446744073709551615)) ≡ true
  pub free_ended : fits whole_code (changed whole_end 2 (with_last 0)) ≡ true
  pub unused_rule : fits whole_code (put_at both_forked 3 (with_last 1 blank)) ≡ false
  pub unused_backs : fits whole_code (put_at behind_commit 3 (with_backs 1 blank)) ≡ false
  pub unused_last : fits whole_code (put_at both_forked 15 (with_last 255 blank)) ≡ false
  -- a lent number goes on: one send-back more, whatever the last rule was; none for a commit
  pub lent_back : (thread_at (step_call again_code (changed again_there 0 (with_rule 200 1)) 0).state 0).backs ≡ 2
  pub lent_back_rule : (thread_at (step_call again_code (changed again_there 0 (with_rule 200 1)) 0).state 0).rule ≡ 10
  pub lent_commit : (thread_at (step_call whole_code (backed (ran whole_code (times 2 0 ++ (times 6 2 ++ times 5 1))).state 1 1) 1).state 1).backs ≡ 1
  pub lent_commit_rule : (thread_at (step_call whole_code (backed (ran whole_code (times 2 0 ++ (times 6 2 ++ times 5 1))).state 1 1) 1).state 1).rule ≡ 9
