-- The three demands hold. Assumes nothing.
use Prim.Native.Nat.{ℕ}
use mathlib.Core.Path.{◌≡◌, ap, ◌∙◌}
use mathlib.Core.List.{List, ◌∷◌}
use Rattle.guarantee.specs.Demands.{Readers, Replies, Demand1, Demand2, Demand3}
use Rattle.guarantee.proofs.Agreement.{agreement}
use Rattle.guarantee.proofs.Histories.{call_lists, sound, told_overs, every_order, sent-back, bounded}
use Rattle.guarantee.proofs.RoundTrip.{read_back_exactly, compile_then_back, back_then_compile}
use Rattle.guarantee.proofs.Rows.{job_rows, compile_rows, back_rows}
use Rattle.code.specs.Bytes.{IsCode}
use Rattle.code.specs.Reader.{read_code}
use Rattle.code.proofs.Foreign.{foreign_exactly, only_foreign}
use Rattle.code.proofs.ReadBack.{code_read, read_is_code}
use Rattle.machine.proofs.FitTests.{fits_exactly}
use Rattle.script.proofs.Accepts.{accepted_is_job, job_is_accepted}
use Rattle.script.proofs.Refuses.{refused_is_read, read_is_refused}
use Rattle.machine.proofs.Calls.{fresh_answers, step_answers, run_answers, fresh-says, step-says, run-says}
use Rattle.script.specs.Refusal.{Refused}
use Rattle.script.specs.Turns.{Script, turn, idle, Turned, left, turns}
use Rattle.script.proofs.Overflows.{idle_overflows}
use Rattle.script.proofs.Soups.{turn_steps, step_turns, turn_steps_same, step_turns_same}
use Rattle.script.proofs.Transactions.{work_reached, work_only}
use Rattle.word.specs.Sum.{Rule}

pub readers : Readers
readers =
    record {
      accepted = λ job j b. (accepted_is_job job j b, job_is_accepted job j);
      turned-down = λ job number place b. (read_is_refused job b number place, λ (r : Refused job number place). refused_is_read r);
      taken = λ code j b. (read_is_code code j b, λ (i : IsCode code j). ap read_code i.text ∙ code_read j i.version i.within);
      foreign = foreign_exactly;
      only_foreign = only_foreign;
      fitting = fits_exactly;
    }

pub replies : Replies
replies = record { fresh = fresh-says; step = step-says; run = run-says }

pub demand_1 : Demand1
demand_1 =
    record {
      job_reader = job_rows;
      compiling = λ job before b d. compile_rows job before b d;
      reading_back = λ code before b d. back_rows code before b d;
      fresh = fresh_answers;
      step = step_answers;
      run = run_answers;
    }

-- an idle turn leaves the script as it was
idle_turn' : (sum : Rule) (s : Script) (i : ℕ) (is : List ℕ) → turn sum s i ≡ idle → turns sum s (i ∷ is) ≡ turns sum s is
unfolding turns
idle_turn' sum s i is e = ap (λ (t : Turned). turns sum (left s t) is) e

pub demand_2 : Demand2
demand_2 =
    record {
      atomic_reached = λ sum t h. work_reached sum t h;
      atomic_only = λ sum x. work_only sum x;
      turn_is_step = turn_steps;
      step_is_turn = λ sum s x. step_turns sum s x;
      turn_is_step_same = turn_steps_same;
      step_is_turn_same = λ sum s soup m x. step_turns_same sum s soup m x;
      idle_turn = idle_turn';
      idle_over = idle_overflows;
      machine = agreement;
      read_back_exactly = read_back_exactly;
      compile_then_back = compile_then_back;
      back_then_compile = back_then_compile;
    }

pub demand_3 : Demand3
demand_3 job j b accepted =
    record {
      lists = call_lists job j b accepted;
      whole = λ h. sound job j b accepted h;
      over = λ h. told_overs job j b accepted h;
      orders = λ is can. every_order job j b accepted is can;
      sent-back = λ h. sent-back job j b accepted h;
      ends = λ h. bounded job j b accepted h;
    }
