-- What the exported calls make of an answer, and what a call comes to that is lent the first part of an owned state: worked cases. Document 01:
-- "A refusal returns its number and a place, and alters no lent memory"; 0 is no refusal. The right sides were found by hand.
use Rattle.std.specs.Prelude.{ℕ, ◌≡◌, List, [], ◌∷◌, ◌++◌, ℤ, pos, replicate}
use Rattle.cases.specs.Inputs.{header, seven, seven_code, times, ran, sized, whole_end}
use Rattle.cases.specs.Refusals.{tray}
use Rattle.compiler.specs.CompileTo.{compile_to}
use Rattle.decompiler.specs.ReadBackTo.{read_back_to}
use Rattle.delivery.specs.Delivered.{delivered}
use Rattle.exports.specs.Written.{Returned, written}
use Rattle.listing.specs.Listed.{ascii, listed}
use Rattle.machine.specs.Answers.{answered, fresh_call, step_call, run_call}
use Rattle.machine.specs.Answers as machine
use Rattle.machine.specs.Steps.{State, fresh}
use Rattle.machine.specs.declared.FreshReply.{FreshReply}
use Rattle.machine.specs.declared.RunReply.{RunReply}
use Rattle.owned.specs.Owned.{on_first, freshly_run}
use Rattle.script.specs.Outcome.{done}
use Rattle.thread.specs.Threads.{zeros, unwritten, blank, spawned}
use Rattle.thread.specs.declared.Thread.{Thread}

-- an answer in numbers, and the output
abbrev pub returns : (refusal place length : ℕ) (output : List ℕ) → Returned
returns refusal place length output = record { reply = record { refusal = refusal; place = place; length = length }; output = output }

-- 65 registers, 65 counts and 17 records, the last of each other than those before it
abbrev pub owned : List ℤ
owned = replicate 64 (pos 5) ++ (pos 9 ∷ [])

-- the counts
abbrev pub owned_counts : List ℕ
owned_counts = replicate 64 3 ++ (7 ∷ [])

-- the records
abbrev pub owned_threads : List Thread
owned_threads = replicate 16 (spawned 1 2) ++ (spawned 3 4 ∷ [])

-- the fresh state of VALP 7's code, and the same last register, count and record behind it
abbrev pub laid : List ℤ
laid = zeros ++ (pos 9 ∷ [])

-- the counts
abbrev pub laid_counts : List ℕ
laid_counts = unwritten ++ (7 ∷ [])

-- the records
abbrev pub laid_threads : List Thread
laid_threads = (fresh seven_code).threads ++ (spawned 3 4 ∷ [])

-- and with VALP 7's one step done
abbrev pub done_threads : List Thread
done_threads = (ran seven_code (times 1 0)).state.threads ++ (spawned 3 4 ∷ [])

-- `fresh` on the first so many of them
abbrev pub fresh_on : (cells counters records : ℕ) → machine.Returned FreshReply
fresh_on cells counters records = on_first cells counters records (fresh_call seven_code) owned owned_counts owned_threads

-- they are as they were, and the call is refused with 12
abbrev pub unaltered : machine.Returned FreshReply
unaltered = answered owned owned_counts owned_threads (record { refusal = 12; place = 0 })

-- the answer of a run that is not refused
abbrev pub counting : (steps idle : ℕ) → RunReply
counting steps idle = record { refusal = 0; place = 0; steps = steps; idle = idle; commits = 0; back = 0; over = 0 }

-- the answer of a refused run
abbrev pub turned_down : (number : ℕ) → RunReply
turned_down number = record { refusal = number; place = 0; steps = 0; idle = 0; commits = 0; back = 0; over = 0 }

-- what the exported calls make of an answer
pub record ExportCases : Type 0 where
  -- a result: refusal 0, place 0 and its length; it stands at the output's start
  pub compiling : written (compile_to seven (tray 11)) ≡ returns 0 0 10 (seven_code ++ tray 1)
  pub reading_back : written (read_back_to seven_code (tray 13)) ≡ returns 0 0 12 (seven ++ tray 1)
  -- a refusal: its number, its place and length 0; the output is as it was
  pub register_64 : written (compile_to (header 2 (0x03 ∷ 0x07 ∷ 64 ∷ [])) (tray 20)) ≡ returns 6 9 0 (tray 20)
  pub short_tray : written (compile_to seven (tray 9)) ≡ returns 10 0 0 (tray 9)
  pub foreign_code : written (read_back_to [] (tray 20)) ≡ returns 11 0 0 (tray 20)
  -- a refused run is listed, so its listing is the result
  pub listing : written (delivered (done (listed [])) (tray 16)) ≡ returns 0 0 15 (ascii "refused 1 at 0\n" ++ tray 1)
  pub short_listing : written (delivered (done (listed [])) (tray 14)) ≡ returns 10 0 0 (tray 14)

-- calls on an owned state
pub record OwnedCases : Type 0 where
  -- lent 64 registers, 64 counts and 16 records: what is not lent stays
  pub lent_all : fresh_on 64 64 16 ≡ answered laid laid_counts laid_threads (record { refusal = 0; place = 0 })
  -- lent one less or one more of any: "A run of other than 16 records, or a table of other than 64 registers, is a foreign state", and the table
  -- carries a count "beside each value" (document 02 No. 6)
  pub lent_63 : fresh_on 63 64 16 ≡ unaltered
  pub lent_65 : fresh_on 65 64 16 ≡ unaltered
  pub lent_counts_63 : fresh_on 64 63 16 ≡ unaltered
  pub lent_counts_65 : fresh_on 64 65 16 ≡ unaltered
  pub lent_15 : fresh_on 64 64 15 ≡ unaltered
  pub lent_17 : fresh_on 64 64 17 ≡ unaltered
  -- a step and a run on the same
  pub stepped :
      on_first 64 64 16 (λ (s : State). step_call seven_code s 0) laid laid_counts laid_threads ≡
      answered laid laid_counts done_threads (record { refusal = 0; place = 0; event = 1; register = 0; turn = 0; over = 0 })
  pub run_on :
      on_first 64 64 16 (λ (s : State). run_call seven_code s (times 3 0)) laid laid_counts laid_threads ≡
      answered laid laid_counts done_threads (counting 1 2)
  -- a fresh state laid down whatever the records held, then picks; no pick
  pub freshly : freshly_run seven_code (times 3 0) whole_end ≡ record { state = (ran seven_code (times 1 0)).state; reply = counting 1 2 }
  pub freshly_none : freshly_run seven_code [] whole_end ≡ record { state = fresh seven_code; reply = counting 0 0 }
  -- 11 and 12 leave what was lent; with 13 the fresh state is laid down, and no pick is done
  pub freshly_11 : freshly_run [] (times 1 0) whole_end ≡ record { state = whole_end; reply = turned_down 11 }
  pub freshly_12 : freshly_run seven_code (times 1 0) (sized 63 64 16) ≡ record { state = sized 63 64 16; reply = turned_down 12 }
  pub freshly_12_counts : freshly_run seven_code (times 1 0) (sized 64 65 16) ≡ record { state = sized 64 65 16; reply = turned_down 12 }
  pub freshly_13 : freshly_run seven_code (times 32769 0) whole_end ≡ record { state = fresh seven_code; reply = turned_down 13 }
  -- as the run program does: 64 of 65 registers, 64 of 65 counts and 16 of 17 records, all 0
  pub shown :
      on_first 64 64 16 (freshly_run seven_code (times 1 0)) (replicate 65 (pos 0)) (replicate 65 0) (replicate 17 blank) ≡
      answered (replicate 65 (pos 0)) (replicate 65 0) ((ran seven_code (times 1 0)).state.threads ++ (blank ∷ [])) (counting 1 0)
