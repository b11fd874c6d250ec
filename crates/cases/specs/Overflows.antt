-- Document 02 No. 2: worked cases of sums that leave the range. The right sides were counted by hand.
use Rattle.std.specs.Prelude.{ℕ, true, false, ◌≡◌, List, [], ◌∷◌, ◌++◌, ℤ, pos, negsuc}
use Rattle.cases.specs.Inputs.{told, header, code_for, low_tree, low_code, whole_code, times, ran, put_at, changed, both_forked}
use Rattle.guarantee.specs.Histories.{Ended}
use Rattle.listing.specs.Listed.{ascii, listed}
use Rattle.machine.specs.Answers.{step_says, run_says, step_call, run_call}
use Rattle.machine.specs.FitTest.{fits}
use Rattle.machine.specs.Steps.{State, thread_at, fresh}
use Rattle.script.specs.Outcome.{refused, done}
use Rattle.script.specs.Overflows.{overflows_turns}
use Rattle.script.specs.Tree.{Proc, ValP, AddP, Atomic, Fork, ValT, AddT, Read, Write}
use Rattle.script.specs.Turns.{initial}
use Rattle.stm.specs.Events.{pushed, summed, committed, sent_back, counts_of}
use Rattle.thread.specs.Threads.{blank, with_notes}
use Rattle.thread.specs.declared.Thread.{Thread}
use Rattle.word.specs.Sum.{wrapping, overflows}

-- the two ends of the range
abbrev pub greatest : ℤ
greatest = pos 2147483647

-- the lower end of the range
abbrev pub least : ℤ
least = negsuc 2147483647

-- (2147483647 + 1) + −1
abbrev pub both_ways_tree : Proc
both_ways_tree = AddP (AddP (ValP greatest) (ValP (pos 1))) (ValP (negsuc 0))

-- its code: PUSH at 5, PUSH at 10, ADD at 15, PUSH at 16, ADD at 21, end 22
abbrev pub both_ways_code : List ℕ
both_ways_code = code_for both_ways_tree

-- ATOMIC (2147483647 + 1): BEGIN at 5, PUSH at 6, PUSH at 11, ADD at 16, COMMIT at 17, end 18
abbrev pub inside_tree : Proc
inside_tree = Atomic (AddT (ValT greatest) (ValT (pos 1)))

-- its code
abbrev pub inside_code : List ℕ
inside_code = code_for inside_tree

-- ATOMIC (1 + 2), with the same places; behind its ADD, and behind its second PUSH
abbrev pub small_code : List ℕ
small_code = code_for (Atomic (AddT (ValT (pos 1)) (ValT (pos 2))))

-- small_code behind its ADD
abbrev pub behind_add : State
behind_add = (ran small_code (times 4 0)).state

-- small_code behind its second PUSH
abbrev pub behind_push : State
behind_push = (ran small_code (times 3 0)).state

-- another count among the notes
abbrev pub with_over : ℕ → Thread → Thread
with_over over t = with_notes t.begin t.base over t

-- thread 0 has noted so many
abbrev pub noting : State → ℕ → State
noting s over = changed s 0 (with_over over)

-- (1 + 2) + ATOMIC (VALT 3), behind its BEGIN; ATOMIC (1 + 2) + ATOMIC (VALT 3), behind its second BEGIN: an ADD was passed before
abbrev pub sum_before_code : List ℕ
sum_before_code = code_for (AddP (AddP (ValP (pos 1)) (ValP (pos 2))) (Atomic (ValT (pos 3))))

-- the second of the two
abbrev pub atomic_before_code : List ℕ
atomic_before_code = code_for (AddP (Atomic (AddT (ValT (pos 1)) (ValT (pos 2)))) (Atomic (ValT (pos 3))))

-- ATOMIC (1 + (2 + 3)), behind its second ADD
abbrev pub two_adds_code : List ℕ
two_adds_code = code_for (Atomic (AddT (ValT (pos 1)) (AddT (ValT (pos 2)) (ValT (pos 3)))))

-- ATOMIC ((1 + 2) + 2147483647): BEGIN, PUSH, PUSH, ADD; PUSH, ADD, COMMIT
abbrev pub more_code : List ℕ
more_code = code_for (Atomic (AddT (AddT (ValT (pos 1)) (ValT (pos 2))) (ValT greatest)))

-- FORK (ATOMIC (WRITE 0 1)) + ATOMIC (READ 0 + (2147483647 + 1)): the root's first attempt has read 0 when thread 1 commits
abbrev pub again_tree : Proc
again_tree = AddP (Fork (Atomic (Write 0 (ValT (pos 1))))) (Atomic (AddT (Read 0) (AddT (ValT greatest) (ValT (pos 1)))))

-- its code
abbrev pub again_code : List ℕ
again_code = code_for again_tree

-- FORK, BEGIN, READ, PUSH, PUSH, ADD, ADD of the root; BEGIN, PUSH, WRITE, COMMIT of thread 1
abbrev pub until_stale : List ℕ
until_stale = times 7 0 ++ times 4 1

-- and the root's COMMIT that is sent back; all of it again, and the last ADD
abbrev pub again_picks : List ℕ
again_picks = until_stale ++ (times 1 0 ++ times 8 0)

-- FORK (ATOMIC (WRITE 0 n)) + ATOMIC (READ 0 + m)
abbrev pub second_code : ℤ → ℤ → List ℕ
second_code n m = code_for (AddP (Fork (Atomic (Write 0 (ValT n)))) (Atomic (AddT (Read 0) (ValT m))))

-- BEGIN, READ, PUSH, ADD after the FORK; thread 1's four; COMMIT sent back; BEGIN to COMMIT again, ADD
abbrev pub second_picks : List ℕ
second_picks = times 5 0 ++ (times 4 1 ++ (times 1 0 ++ times 6 0))

-- ATOMIC (WRITE 0 1) + (FORK (ATOMIC (WRITE 0 −2147483648)) + ATOMIC (READ 0 + 2147483647)): the last one's first attempt leaves the range, the
-- second does not
abbrev pub first_tree : Proc
first_tree = AddP (Atomic (Write 0 (ValT (pos 1)))) (AddP (Fork (Atomic (Write 0 (ValT least)))) (Atomic (AddT (Read 0) (ValT greatest))))

-- its code
abbrev pub first_code : List ℕ
first_code = code_for first_tree

-- BEGIN, PUSH, WRITE, COMMIT, FORK, BEGIN, READ, PUSH, ADD of the root; thread 1's four; COMMIT sent back; BEGIN to COMMIT again
abbrev pub first_picks : List ℕ
first_picks = times 9 0 ++ (times 4 1 ++ (times 1 0 ++ times 5 0))

-- what a definition computes, on the left, and what document 02 No. 2 says of it, on the right
pub record OverflowCases : Type 0 where
  -- ---- "whether the exact sum fell outside": each end, and one further
  pub above : overflows greatest (pos 1) ≡ true
  pub below : overflows least (negsuc 0) ≡ true
  pub twice_above : overflows greatest greatest ≡ true
  pub twice_below : overflows least least ≡ true
  pub at_greatest : overflows (pos 2147483646) (pos 1) ≡ false
  pub at_least : overflows (negsuc 2147483646) (negsuc 0) ≡ false
  pub across : overflows greatest least ≡ false
  -- ---- outside transactions: (2147483647 + 1) + −1 has over 2, each sum being judged on its two operands as they stand; its result is in range again
  pub both_ways :
      (run_call both_ways_code (fresh both_ways_code) (times 5 0)).reply ≡
      record { refusal = 0; place = 0; steps = 5; idle = 0; commits = 0; back = 0; over = 2 }
  pub both_ways_done : Ended (ran both_ways_code (times 5 0)).state 0 greatest
  pub both_ways_cut : run_says (run_call both_ways_code (ran both_ways_code (times 3 0)).state (times 2 0)).reply ≡ done (record { steps = 2; idle = 0; commits = 0; back = 0; over = 1 })
  pub both_ways_script : overflows_turns wrapping (initial both_ways_tree) (0 ∷ 0 ∷ []) ≡ 2
  pub both_ways_note : (thread_at (ran both_ways_code (times 3 0)).state 0).over ≡ 0
  -- −2147483648 + −1, by steps
  pub low_script : overflows_turns wrapping (initial low_tree) (0 ∷ []) ≡ 1
  pub low_push : step_says (step_call low_code (ran low_code (times 1 0)).state 0).reply ≡ done (told pushed 0)
  pub low_add : step_says (step_call low_code (ran low_code (times 2 0)).state 0).reply ≡ done (told (summed false) 1)
  -- ---- inside: the ADD is noted, the COMMIT tells; a note that crosses two calls
  pub noted : (thread_at (ran inside_code (times 4 0)).state 0).over ≡ 1
  pub noted_add : step_says (step_call inside_code (ran inside_code (times 3 0)).state 0).reply ≡ done (told (summed true) 0)
  pub first_call :
      (run_call inside_code (fresh inside_code) (times 4 0)).reply ≡
      record { refusal = 0; place = 0; steps = 4; idle = 0; commits = 0; back = 0; over = 0 }
  pub second_call :
      (run_call inside_code (ran inside_code (times 4 0)).state (times 1 0)).reply ≡
      record { refusal = 0; place = 0; steps = 1; idle = 0; commits = 1; back = 0; over = 1 }
  pub one_call :
      (run_call inside_code (fresh inside_code) (times 5 0)).reply ≡
      record { refusal = 0; place = 0; steps = 5; idle = 0; commits = 1; back = 0; over = 1 }
  pub noted_commit : step_says (step_call inside_code (ran inside_code (times 4 0)).state 0).reply ≡ done (told committed 1)
  pub note_emptied : (thread_at (ran inside_code (times 5 0)).state 0).over ≡ 0
  pub inside_script : overflows_turns wrapping (initial inside_tree) (0 ∷ []) ≡ 1
  -- ---- "in attempts that took effect": an attempt that is sent back does not count
  pub again_noted : (thread_at (ran again_code until_stale).state 0).over ≡ 1
  pub again_back : step_says (step_call again_code (ran again_code until_stale).state 0).reply ≡ done (told (sent_back 0) 0)
  pub again_emptied : (thread_at (ran again_code (until_stale ++ times 1 0)).state 0).over ≡ 0
  pub again_run :
      (run_call again_code (fresh again_code) again_picks).reply ≡
      record { refusal = 0; place = 0; steps = 20; idle = 0; commits = 2; back = 1; over = 1 }
  pub again_script : overflows_turns wrapping (initial again_tree) (0 ∷ 1 ∷ 0 ∷ 0 ∷ []) ≡ 1
  -- the second attempt leaves the range and the first did not; the other way round
  pub second_run : counts_of (ran (second_code (pos 1) greatest) second_picks).events ≡ record { steps = 16; idle = 0; commits = 2; back = 1; over = 1 }
  pub second_low : counts_of (ran (second_code (negsuc 0) least) second_picks).events ≡ record { steps = 16; idle = 0; commits = 2; back = 1; over = 1 }
  pub first_noted : (thread_at (ran first_code (times 9 0)).state 0).over ≡ 1
  pub first_run : counts_of (ran first_code first_picks).events ≡ record { steps = 19; idle = 0; commits = 3; back = 1; over = 0 }
  -- ---- "above the ADDs passed since its BEGIN the state is foreign": a lent note counts when its commit takes effect, one higher is 12
  pub lent_fits : fits small_code (noting behind_add 1) ≡ true
  pub lent_counts :
      (run_call small_code (noting behind_add 1) (times 1 0)).reply ≡
      record { refusal = 0; place = 0; steps = 1; idle = 0; commits = 1; back = 0; over = 1 }
  pub lent_none :
      (run_call small_code behind_add (times 1 0)).reply ≡
      record { refusal = 0; place = 0; steps = 1; idle = 0; commits = 1; back = 0; over = 0 }
  pub lent_high :
      (run_call small_code (noting behind_add 2) (times 1 0)).reply ≡
      record { refusal = 12; place = 0; steps = 0; idle = 0; commits = 0; back = 0; over = 0 }
  pub lent_high_left : (run_call small_code (noting behind_add 2) (times 1 0)).state ≡ noting behind_add 2
  pub lent_high_step : step_says (step_call small_code (noting behind_add 2) 0).reply ≡ refused 12 0
  -- a note lowered to 0 behind a sum that left the range; a lent 1 and such a sum; a lent note that is sent back
  pub lowered :
      (run_call inside_code (noting (ran inside_code (times 4 0)).state 0) (times 1 0)).reply ≡
      record { refusal = 0; place = 0; steps = 1; idle = 0; commits = 1; back = 0; over = 0 }
  pub lent_more :
      (run_call more_code (noting (ran more_code (times 4 0)).state 1) (times 3 0)).reply ≡
      record { refusal = 0; place = 0; steps = 3; idle = 0; commits = 1; back = 0; over = 2 }
  pub lent_back :
      (run_call again_code (noting (ran again_code until_stale).state 2) (times 1 0)).reply ≡
      record { refusal = 0; place = 0; steps = 1; idle = 0; commits = 0; back = 1; over = 0 }
  -- before the ADD; an ADD and a whole transaction before the BEGIN do not count; two ADDs
  pub before_add : fits small_code (noting behind_push 1) ≡ false
  pub sum_before : fits sum_before_code (ran sum_before_code (times 4 0)).state ≡ true
  pub sum_before_noted : fits sum_before_code (noting (ran sum_before_code (times 4 0)).state 1) ≡ false
  pub atomic_before : fits atomic_before_code (ran atomic_before_code (times 6 0)).state ≡ true
  pub atomic_before_noted : fits atomic_before_code (noting (ran atomic_before_code (times 6 0)).state 1) ≡ false
  pub two_adds : fits two_adds_code (noting (ran two_adds_code (times 6 0)).state 2) ≡ true
  pub two_adds_high : fits two_adds_code (noting (ran two_adds_code (times 6 0)).state 3) ≡ false
  pub one_of_two : fits two_adds_code (noting (ran two_adds_code (times 5 0)).state 2) ≡ false
  -- "notes being empty otherwise", and in "records of threads that do not exist"
  pub noted_behind : fits small_code (noting (ran small_code (times 5 0)).state 1) ≡ false
  pub noted_before : fits small_code (noting (fresh small_code) 1) ≡ false
  pub noted_outside : fits both_ways_code (noting (ran both_ways_code (times 3 0)).state 1) ≡ false
  pub unused_noted : fits whole_code (put_at both_forked 3 (with_over 1 blank)) ≡ false
  -- ---- the listing ("in document 01's whole case ` over 0`" is a row of Cases)
  pub low_listing :
      listed (0x00 ∷ 0x12 ∷ (header 3 (0x02 ∷ 0x01 ∷ 0x80 ∷ 0x00 ∷ 0x00 ∷ 0x00 ∷ 0x01 ∷ 0xFF ∷ 0xFF ∷ 0xFF ∷ 0xFF ∷ []) ++ times 3 0)) ≡
      ascii "steps 3 idle 0 commits 0 back 0 over 1\nthread 0 done 2147483647\n"
