-- The worked cases of document 02 No. 6 hold, by computation. Assumes nothing.
use Prim.Native.Nat.{ℕ, zero, suc}
use mathlib.Core.Path.{◌≡◌, refl}
use mathlib.Core.List.{List, [], ◌∷◌, ◌++◌}
use native.Mathlib.Omega.{arith}
use lib.ListN.{replicate}
use Rattle.code.specs.Compile.{compile_t, compile_p}
use Rattle.code.specs.Bytes.{instruction_bytes, instructions_bytes, code_mark, code_bytes, compiled}
use Rattle.code.specs.Ops.{opcode_operand, decoded, op_at}
use Rattle.code.specs.Reader.{do_op, ended_at, read_ops, sized, code_marked, read_code_tree, read_code}
use Rattle.thread.specs.Threads.{blank, spawned, push, add, begin, source_of, read, write, closed as closedAt, stale, first_stale, overlaid, recounted}
use Rattle.machine.specs.Fits.{walk_op, next_place}
use Rattle.machine.specs.FitTest.{walk, walk_to, free_from, uncounted_from, within_from, at_most_from, placed, all_zero, none_behind, in_front, passed_by, among, all_among, threads_of, one_each, commits_passed, needs, all_tallied, fits_beside, fits}
use Rattle.machine.specs.Answers.{fresh_of, step_of, run_of, fresh_call, step_call, run_call}
use Rattle.machine.specs.Steps.{State, number_of, commit, act, perform, settle, pick_among, pick, fresh, run}
use Rattle.machine.specs.Written.{written, GoesOn, none, next}
use Rattle.stm.specs.Events.{counted, order, backs, tally, counts_of, event_number, event_register, turn_number, event_of}
use Rattle.stm.specs.Rules.{used_by, rule_number, rule_after, backs_after}
use Rattle.listing.specs.Listed.{listed, job_run, printed, listing, counts_line, thread_lines, thread_line, register_lines, register_line, refusal_line, integer, decimal, digits, ascii}
use Rattle.word.specs.Registers.{none as noRegisters, member, with}
use Rattle.script.specs.Bytes.{node_bytes, bytes16, bytes32, bytes_t, bytes_p, job_mark, job_bytes}
use Rattle.script.specs.Count.{nodes_t, nodes_p, depth_t, depth_p, forks, atomics, threads, instructions, longest, longest_nodes, bound, code_t, code_p, code_length}
use Rattle.script.specs.Jobs.{operand, fork_of}
use Rattle.script.specs.Reader.{permitted, node_of, node_at, grown, read_nodes, job_marked, taken, read_tree, short_from, read_job}
use Rattle.word.specs.Sum.{Rule, residue, signed, wrap, wrapping, overflows}
use Rattle.cases.specs.Staleness.{StalenessCases, ForeignCounts, EnteredCases, came_back_code, came_back_read, beside_write, beside_read}

pub staleness_cases : StalenessCases
unfolding listed job_run printed listing counts_line thread_lines thread_line register_lines register_line refusal_line integer decimal digits ascii wrapping wrap signed residue read_tree short_from read_job read_nodes node_at node_of
    permitted operand grown fork_of job_marked taken job_bytes job_mark bytes_p bytes_t node_bytes bytes16 bytes32 nodes_p nodes_t forks atomics threads instructions longest bound code_t code_p code_length compiled code_bytes code_mark
    compile_p compile_t instruction_bytes instructions_bytes read_code read_code_tree longest_nodes read_ops ended_at do_op op_at decoded opcode_operand code_marked sized depth_t depth_p blank spawned push add begin source_of read write
    closedAt stale first_stale overlaid recounted number_of commit act perform settle pick_among fresh run counted order backs noRegisters member with walk_op next_place walk walk_to free_from uncounted_from within_from at_most_from
    placed all_zero none_behind in_front passed_by among all_among threads_of one_each commits_passed needs all_tallied used_by rule_number rule_after backs_after fits_beside fits fresh_of step_of run_of tally counts_of event_number
    event_register turn_number event_of fresh_call step_call run_call overflows
staleness_cases =
    record {
      came-back-job = refl;
      went_away = refl;
      came_back_registers = refl;
      came_back_counts = refl;
      came_back_logged = refl;
      came_back_step = refl;
      came_back_run = refl;
      came_back_record = refl;
      came_back_left = refl;
      came_back_listing = refl;
      came_back_bound = refl;
      came_back_end = refl;
      came_back_order = refl;
      came_back_0 = record { there = refl; place = refl; height = refl; result = refl };
      came_back_1 = record { there = refl; place = refl; height = refl; result = refl };
      came_back_2 = record { there = refl; place = refl; height = refl; result = refl };
      came_back_end_registers = refl;
      came_back_end_counts = refl;
      came_back_end_listing = refl;
      same-job = refl;
      same_step = refl;
      same_run = refl;
      same_counts = refl;
      both_before = refl;
      one_after = refl;
      wrote_another = refl;
      wrote_none = refl;
      read_it = refl;
      wrote_it = refl;
      not_committed = refl;
      write_alone = refl;
      write_committed = refl;
      two_writes_alone = refl;
      two_writes = refl;
      two_registers = refl;
      register_63 = refl;
      one_commit = refl;
      two_commits = refl;
      empty_log = refl;
      back_before = refl;
      back_behind = refl;
      whole_counts = refl;
      noted_0 = refl;
      noted_1 = refl;
      again_reply = refl;
      again_table = refl;
      again_noted = refl;
      again_back = refl;
      own_table = refl;
      own_read = refl;
      own_noted = refl;
      commit_before = refl;
      commit_empties = refl;
      back_noted = refl;
      back_empties = refl;
      begin_empties = refl;
      lent_value = refl;
      lent_value_step = refl;
      lent_value_left = refl;
      lent-below = refl;
      lent_below_value = refl;
      lent_below_step = refl;
      lent_equal_step = refl;
    }

pub foreign_counts : ForeignCounts
unfolding wrapping wrap signed residue read_tree short_from read_job read_nodes node_at node_of permitted operand grown fork_of job_marked taken job_bytes job_mark bytes_p bytes_t node_bytes bytes16 bytes32 nodes_p nodes_t forks atomics
    threads instructions longest bound code_t code_p code_length compiled code_bytes code_mark compile_p compile_t instruction_bytes instructions_bytes read_code read_code_tree longest_nodes read_ops ended_at do_op op_at decoded opcode_operand
    code_marked sized depth_t depth_p blank spawned push add begin source_of read write closedAt stale first_stale overlaid recounted number_of commit act perform settle pick_among fresh run counted order backs noRegisters member
    with walk_op next_place walk walk_to free_from uncounted_from within_from at_most_from placed all_zero none_behind in_front passed_by among all_among threads_of one_each commits_passed needs all_tallied used_by rule_number rule_after
    backs_after fits_beside fits fresh_of step_of run_of tally counts_of event_number event_register turn_number event_of fresh_call step_call run_call overflows
foreign_counts =
    record {
      none_passed = refl;
      above_none = refl;
      above_none_63 = refl;
      above_none_fresh = refl;
      above_none_step = refl;
      above_none_step_left = refl;
      above_none_run = refl;
      above_none_run_left = refl;
      at_commit = refl;
      all_one = refl;
      above_one = refl;
      above_one_63 = refl;
      all_none = refl;
      all_two = refl;
      above_two = refl;
      empty_passed = refl;
      empty_above = refl;
      back_above = refl;
      logged_equal = refl;
      logged_above = refl;
      logged_below = refl;
      table_lowered = refl;
      table_other = refl;
      logged_above_step = refl;
      logged_above_run = refl;
      logged_above_none = refl;
      logged_above_left = refl;
      logged_63 = refl;
      logged_above_63 = refl;
      marked = refl;
      unmarked = refl;
      unmarked_step = refl;
      unmarked_run = refl;
      unmarked_63 = refl;
      unmarked_before = refl;
      unmarked_before_step = refl;
      unmarked_behind = refl;
      unmarked_root = refl;
      unused_count = refl;
      unused_count_step = refl;
      unused_count_63 = refl;
      stale_below = refl;
      stale_equal = refl;
      stale_equal_step = refl;
      stale_equal_run = refl;
      stale_by_one_below = refl;
      stale_by_one_equal = refl;
      unstale_equal = refl;
      unstale_value_equal = refl;
      counts_64 = refl;
      counts_63 = refl;
      counts_65 = refl;
      both_63 = refl;
      no_counts = refl;
      step_63 = refl;
      step_63_left = refl;
      step_65 = refl;
      step_65_left = refl;
      run_63 = refl;
      run_63_left = refl;
      run_65 = refl;
      run_65_left = refl;
      fresh_counted = refl;
      fresh_63 = refl;
      fresh_63_left = refl;
      fresh_65 = refl;
      fresh_65_left = refl;
      fresh_11 = refl;
      step_11 = refl;
      run_12 = refl;
    }

-- picks of another thread do not end an attempt
others :
    (sum : Rule) (bytes : List ℕ) (i k : ℕ) → (k ≡ i → ⊥) → (n : ℕ) (s : State) (is : List ℕ) →
    GoesOn sum bytes i (run sum bytes s (replicate n k)).state is → GoesOn sum bytes i s (replicate n k ++ is)
unfolding run
others sum bytes i k ne zero s is g = g
others sum bytes i k ne (suc n) s is g = next (λ e. absurd (ne e)) (others sum bytes i k ne n (pick sum bytes s k).state is g)

pub entered_cases : EnteredCases
unfolding wrapping wrap signed residue read_tree short_from read_job read_nodes node_at node_of permitted operand grown fork_of job_marked taken job_bytes job_mark bytes_p bytes_t node_bytes bytes16 bytes32 nodes_p nodes_t forks atomics
    threads instructions longest bound code_t code_p code_length compiled code_bytes code_mark compile_p compile_t instruction_bytes instructions_bytes read_code read_code_tree longest_nodes read_ops ended_at do_op op_at decoded opcode_operand
    code_marked sized depth_t depth_p blank spawned push add begin source_of read write closedAt stale first_stale overlaid recounted number_of commit act perform settle pick_among fresh run counted order backs noRegisters member
    with walk_op next_place walk walk_to free_from uncounted_from within_from at_most_from placed all_zero none_behind in_front passed_by among all_among threads_of one_each commits_passed needs all_tallied used_by rule_number rule_after
    backs_after fits_beside fits fresh_of step_of run_of tally counts_of event_number event_register turn_number event_of fresh_call step_call run_call overflows written
entered_cases =
    let on : GoesOn wrapping came_back_code 1 came_back_read (replicate 8 2 ++ (1 ∷ [])) = others wrapping came_back_code 1 2 (λ e. omega arith) 8 came_back_read (1 ∷ []) (next (λ e. refl) none) in
    let beside : GoesOn wrapping beside_write 0 beside_read (replicate 4 1) = others wrapping beside_write 0 1 (λ e. omega arith) 4 beside_read [] none in
    record {
      fits_before = refl;
      entered = record { before = 0 ∷ 0 ∷ 1 ∷ []; after = replicate 8 2 ++ (1 ∷ []); among = refl; there = refl; reads = refl; from-table = refl; goes-on = on };
      goes-on = on;
      written_since = refl;
      is_stale = refl;
      fits_there = refl;
      commits_next = refl;
      first-stale = record { small = omega arith; its = refl; before = λ u l. absurd (omega arith) };
      entered_beside = record { before = 0 ∷ 0 ∷ []; after = replicate 4 1; among = refl; there = refl; reads = refl; from-table = refl; goes-on = beside };
      goes_on_beside = beside;
      not_written_since = refl;
      another_written = refl;
      not_stale = refl;
      written_0 = refl;
      written_1 = refl;
      written_63 = refl;
      written_end_0 = refl;
      written_end_1 = refl;
    }
