-- The worked cases of document 02 No. 8 hold, by computation. Assumes nothing.
use Prim.Native.Nat.{ℕ, ◌<◌}
use mathlib.Core.Path.{◌≡◌, refl, ap}
use mathlib.Core.List.{List, [], ◌∷◌}
use native.Mathlib.Omega.{arith}
use lib.ListN.{get_or, length}
use Rattle.code.specs.Compile.{compile_t, compile_p}
use Rattle.code.specs.Bytes.{instruction_bytes, instructions_bytes, code_mark, code_bytes, compiled}
use Rattle.code.specs.Ops.{opcode_operand, decoded, op_at}
use Rattle.code.specs.Reader.{do_op, ended_at, read_ops, sized, code_marked, read_code_tree, read_code}
use Rattle.thread.specs.Threads.{blank, spawned, push, add, begin, source_of, read, write, closed as closedAt, stale, first_stale, overlaid, recounted}
use Rattle.machine.specs.Fits.{walk_op, next_place}
use Rattle.machine.specs.FitTest.{walk, walk_to, free_from, uncounted_from, within_from, at_most_from, placed, all_zero, none_behind, in_front, passed_by, among, all_among, threads_of, one_each, commits_passed, needs, all_tallied, fits_beside, fits}
use Rattle.machine.specs.Answers.{fresh_of, step_of, run_of, fresh_call, step_call, run_call}
use Rattle.machine.specs.Steps.{State, number_of, commit, act, perform, settle, pick_among, fresh, run}
use Rattle.machine.specs.Exchange.{Exchanged, here, later, Exchanges, none, then, seen_by}
use Rattle.machine.proofs.Exchanges.{exchanges_behind, exchanges_exactly}
use Rattle.stm.specs.Events.{idle, Happened, counted, order, backs, tally, counts_of, event_number, event_register, turn_number, event_of}
use Rattle.stm.specs.Rules.{used_by, rule_number, rule_after, backs_after}
use Rattle.word.specs.Registers.{none as noRegisters, member, with}
use Rattle.script.specs.Bytes.{node_bytes, bytes16, bytes32, bytes_t, bytes_p, job_mark, job_bytes}
use Rattle.script.specs.Count.{nodes_t, nodes_p, depth_t, depth_p, forks, atomics, threads, instructions, longest, longest_nodes, bound, code_t, code_p, code_length}
use Rattle.script.specs.Jobs.{operand, fork_of}
use Rattle.script.specs.Reader.{permitted, node_of, node_at, grown, read_nodes, job_marked, taken, read_tree, short_from, read_job}
use Rattle.word.specs.Sum.{residue, signed, wrap, wrapping, overflows}
use Rattle.cases.specs.Exchanges.{ExchangeCases, did, sums_code, sums_there, overs_code, three_code, forks_code, logs_code, logs_there, write_read_there, back_there}
use Rattle.cases.specs.Inputs.{whole_code, times}

-- no pick, one pick, or two of one number, have no exchange
no_none : {code : List ℕ} {s : State} → Exchanged wrapping code s [] [] → ⊥
no_none = elim [ ]

-- nor has a list of fewer than two
too_few : {code : List ℕ} {s : State} {is ks : List ℕ} → Exchanged wrapping code s is ks → length is < 2 → ⊥
too_few (here n f g) h = omega (arith, h)
too_few (later x) h = too_few x (omega (arith, h))

no_one : {code : List ℕ} {s : State} {i : ℕ} → Exchanged wrapping code s (i ∷ []) (i ∷ []) → ⊥
no_one x = too_few x (omega arith)

two_same : {code : List ℕ} {s : State} {is ks : List ℕ} (i : ℕ) → Exchanged wrapping code s is ks → is ≡ i ∷ i ∷ [] → ⊥
two_same i (here {i = a} {k = b} n f g) e = n (let c : a ≡ b = cc in c)
two_same i (later {is = is} x) e = too_few x (omega (arith, ap length e))

no_same : {code : List ℕ} {s : State} (i : ℕ) → Exchanged wrapping code s (i ∷ i ∷ []) (i ∷ i ∷ []) → ⊥
no_same i x = two_same i x refl

-- the thread of the n-th pick that thread x sees is the same in lists that follow from one another
differ : {is ks : List ℕ} (code : List ℕ) (x n : ℕ) → Exchanges wrapping code (fresh code) is ks
    → (get_or (seen_by x (run wrapping code (fresh code) is).events) n (did 0 idle)).thread ≡ (get_or (seen_by x (run wrapping code (fresh code) ks).events) n (did 0 idle)).thread
differ {is} {ks} code x n e = ap (λ (hs : List Happened). (get_or hs n (did 0 idle)).thread) ((exchanges_exactly wrapping code (fresh code) is ks).0 e x)

pub exchange_cases : ExchangeCases
unfolding wrapping wrap signed residue read_tree short_from read_job read_nodes node_at node_of permitted operand grown fork_of job_marked taken job_bytes job_mark bytes_p bytes_t node_bytes bytes16 bytes32 nodes_p nodes_t forks
    atomics threads instructions longest bound code_t code_p code_length compiled code_bytes code_mark compile_p compile_t instruction_bytes instructions_bytes read_code read_code_tree longest_nodes read_ops ended_at do_op op_at decoded
    opcode_operand code_marked sized depth_t depth_p blank spawned push add begin source_of read write closedAt stale first_stale overlaid recounted number_of commit act perform settle pick_among fresh run counted order backs
    noRegisters member with walk_op next_place walk walk_to free_from uncounted_from within_from at_most_from placed all_zero none_behind in_front passed_by among all_among threads_of one_each commits_passed needs all_tallied used_by
    rule_number rule_after backs_after fits_beside fits fresh_of step_of run_of tally counts_of event_number event_register turn_number event_of fresh_call step_call run_call overflows seen_by
exchange_cases =
    record {
      sums-job = refl;
      sums = exchanges_behind wrapping sums_code sums_there (fresh sums_code) (then (here (λ e. omega arith) refl refl) none);
      sums' = exchanges_behind wrapping sums_code sums_there (fresh sums_code) (then (here (λ e. omega arith) refl refl) none);
      sums_order = refl;
      sums_order' = refl;
      sums_run = refl;
      sums_run' = refl;
      sums_0 = refl;
      sums_0' = refl;
      sums_1 = refl;
      sums_1' = refl;
      overs = exchanges_behind wrapping overs_code sums_there (fresh overs_code) (then (here (λ e. omega arith) refl refl) none);
      overs_run = refl;
      overs_run' = refl;
      overs_told = refl;
      overs_told' = refl;
      overs_ended = record { there = refl; place = refl; height = refl; result = refl };
      idle_beside = then (here {i = 0} {k = 9} (λ e. omega arith) refl refl) none;
      idle_run = refl;
      idle_run' = refl;
      both_idle = then (here {i = 16} {k = 17} (λ e. omega arith) refl refl) none;
      both_idle_run = refl;
      ended_beside = then (later (here {i = 0} {k = 9} (λ e. omega arith) refl refl)) none;
      same_number = no_same 5;
      read_write = exchanges_behind wrapping whole_code write_read_there (fresh whole_code) (then (here (λ e. omega arith) refl refl) none);
      read_write_1 = refl;
      read_write_1' = refl;
      read_write_2 = refl;
      read_write_2' = refl;
      read_read = exchanges_behind wrapping whole_code (times 2 0) (fresh whole_code) (then (later (later (here (λ e. omega arith) refl refl))) (then (here (λ e. omega arith) refl refl) none));
      logs = exchanges_behind wrapping logs_code logs_there (fresh logs_code) (then (here (λ e. omega arith) refl refl) (then (later (later (here (λ e. omega arith) refl refl))) none));
      logs_told_0 = refl;
      logs_told_0' = refl;
      logs_told_1 = refl;
      logs_told_1' = refl;
      logs_added = refl;
      logs_added' = refl;
      back = exchanges_behind wrapping whole_code back_there (fresh whole_code) (then (here (λ e. omega arith) refl refl) none);
      back_told = refl;
      back_told' = refl;
      back_run = refl;
      back_run' = refl;
      back_1 = refl;
      back_1' = refl;
      two_links = exchanges_behind wrapping three_code (times 3 0) (fresh three_code) (then (here (λ e. omega arith) refl refl) (then (later (here (λ e. omega arith) refl refl)) none));
      two_links_1 = record { there = refl; place = refl; height = refl; result = refl };
      two_links_3 = record { there = refl; place = refl; height = refl; result = refl };
      unfit = refl;
      unfit_beside = then (here {i = 0} {k = 9} (λ e. omega arith) refl refl) none;
      unfit_run = refl;
      unfit_run' = refl;
      border = refl;
      border_next = refl;
      border' = refl;
      border_next' = refl;
      fork = λ e. let z : ◌≡◌ {A = ℕ} 0 1 = differ whole_code 1 0 e in omega arith;
      fork' = λ e. let z : ◌≡◌ {A = ℕ} 1 0 = differ whole_code 1 0 e in omega arith;
      fork_run = refl;
      fork_run' = refl;
      fork_1 = refl;
      fork_1' = refl;
      forks = λ e. let z : ◌≡◌ {A = ℕ} 0 1 = differ forks_code 1 1 e in omega arith;
      forks_run = refl;
      forks_run' = refl;
      forks_2 = refl;
      forks_2' = refl;
      fork_idle = λ e. let z : ◌≡◌ {A = ℕ} 0 9 = differ whole_code 9 0 e in omega arith;
      fork_idle_end = refl;
      fork_idle_run = refl;
      fork_idle_run' = refl;
      commit = λ e. let z : ◌≡◌ {A = ℕ} 1 2 = differ whole_code 2 3 e in omega arith;
      commit' = λ e. let z : ◌≡◌ {A = ℕ} 2 1 = differ whole_code 2 3 e in omega arith;
      commit_2 = refl;
      commit_2' = refl;
      commits = λ e. let z : ◌≡◌ {A = ℕ} 1 2 = differ whole_code 1 7 e in omega arith;
      commits_run = refl;
      commits_run' = refl;
      commits_1 = record { there = refl; place = refl; height = refl; result = refl };
      commits_1' = refl;
      commit_idle = λ e. let z : ◌≡◌ {A = ℕ} 1 9 = differ whole_code 9 2 e in omega arith;
      commit_idle_end = refl;
      commit_idle_run = refl;
      commit_idle_run' = refl;
      seen_own = refl;
      seen_fork = refl;
      seen_commit = refl;
      seen_logs = refl;
      seen_back = refl;
    }
