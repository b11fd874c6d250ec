-- The table of worked cases holds, by computation; those of 32,768 picks and more without walking so long a list. Assumes nothing.
use Prim.Native.Nat.{ℕ, zero, suc}
use mathlib.Core.Bool.{Bool, true, false}
use mathlib.Core.Path.{◌≡◌, refl, ap, ◌∙◌}
use mathlib.Core.List.{List}
use lib.Dec.{ltb}
use lib.ListN.{length, replicate, length-replicate}
use Rattle.cases.specs.Inputs.{seven_code, times}
use Rattle.cases.specs.Cases.{Cases}
use Rattle.code.specs.Compile.{compile_t, compile_p}
use Rattle.code.specs.Bytes.{instruction_bytes, instructions_bytes, code_mark, code_bytes, compiled}
use Rattle.code.specs.Ops.{opcode_operand, decoded, op_at}
use Rattle.code.specs.Reader.{do_op, ended_at, read_ops, sized, code_marked, read_code_tree, read_code}
use Rattle.thread.specs.Threads.{blank, spawned, push, add, begin, source_of, read, write, closed as closedAt, stale, first_stale, overlaid, recounted}
use Rattle.machine.specs.Fits.{walk_op, next_place}
use Rattle.machine.specs.FitTest.{walk, walk_to, free_from, uncounted_from, within_from, at_most_from, placed, all_zero, none_behind, in_front, passed_by, among, all_among, threads_of, one_each, commits_passed, needs, all_tallied, fits_beside, fits}
use Rattle.script.specs.Outcome.{refused, done, refuse}
use Rattle.machine.specs.Answers.{Returned, returned, run_reply, run_says, fresh_of, step_of, run_of, fresh_call, step_call, run_call}
use Rattle.machine.specs.declared.RunReply.{RunReply}
use Rattle.machine.specs.Steps.{State, Ran, number_of, commit, act, perform, settle, pick_among, pick, fresh, run}
use Rattle.stm.specs.Events.{idle, pushed, Counts, counted, order, backs, tally, counts_of, event_number, event_register, turn_number, event_of}
use Rattle.stm.specs.Rules.{used_by, rule_number, rule_after, backs_after}
use Rattle.listing.specs.Listed.{listed, job_run, printed, listing, counts_line, thread_lines, thread_line, register_lines, register_line, refusal_line, integer, decimal, digits, ascii}
use Rattle.word.specs.Registers.{none, member, with}
use Rattle.script.specs.Bytes.{node_bytes, bytes16, bytes32, bytes_t, bytes_p, job_mark, job_bytes}
use Rattle.script.specs.Count.{nodes_t, nodes_p, depth_t, depth_p, forks, atomics, threads, instructions, longest, longest_nodes, bound, code_t, code_p, code_length}
use Rattle.script.specs.Jobs.{operand, fork_of}
use Rattle.script.specs.Reader.{permitted, node_of, node_at, grown, read_nodes, job_marked, taken, read_tree, short_from, read_job}
use Rattle.word.specs.Sum.{residue, signed, wrap, wrapping, overflows}

-- the counts of so many picks of a thread, each of them idle
idle_counts :
    (bytes : List ℕ) (s : State) → pick wrapping bytes s 0 ≡ record { state = s; event = idle; over = 0 } → (n : ℕ) →
    counts_of (run wrapping bytes s (replicate n 0)).events ≡ record { steps = 0; idle = n; commits = 0; back = 0; over = 0 }
unfolding run counts_of tally
idle_counts bytes s e zero = refl
idle_counts bytes s e (suc n) = rw (e, idle_counts bytes s e n)

-- the answer of a run of VALP 7 with so many idle picks behind its one step
seven_idle :
    (n : ℕ) → ltb 32768 (length (times (suc n) 0)) ≡ false →
    (run_call seven_code (fresh seven_code) (times (suc n) 0)).reply ≡ record { refusal = 0; place = 0; steps = 1; idle = n; commits = 0; back = 0; over = 0 }
unfolding wrapping wrap signed residue overflows compiled code_bytes code_mark compile_p compile_t instruction_bytes instructions_bytes bytes16 bytes32 read_code read_code_tree longest_nodes nodes_p nodes_t forks read_ops ended_at do_op
    op_at decoded opcode_operand code_marked sized depth_t depth_p blank spawned push act perform settle pick_among number_of fresh run none member stale first_stale walk_op next_place walk walk_to free_from uncounted_from within_from
    at_most_from placed all_zero none_behind in_front passed_by among all_among threads_of one_each commits_passed needs all_tallied used_by rule_number rule_after backs_after fits_beside fits run_of run_call tally counts_of taken
seven_idle n l =
    ap (λ (b : Bool). (returned (λ (r : Ran). r.state) run_reply (fresh seven_code) (refuse b 13 0 (done (run wrapping seven_code (fresh seven_code) (replicate (suc n) 0))))).reply) l
    ∙ ap (λ (c : Counts). let d = tally pushed 0 c in record { refusal = 0; place = 0; steps = d.steps; idle = d.idle; commits = d.commits; back = d.back; over = d.over })
    (idle_counts seven_code (pick wrapping seven_code (fresh seven_code) 0).state refl n)

-- 32,768 picks
full_list : (run_call seven_code (fresh seven_code) (times 32768 0)).reply ≡ record { refusal = 0; place = 0; steps = 1; idle = 32767; commits = 0; back = 0; over = 0 }
full_list = seven_idle 32767 (ap (λ (k : ℕ). ltb 32768 k) (length-replicate {A = ℕ} 32768 0))

-- a run of VALP 7 with more than 32,768 picks is refused with 13, and leaves what it was lent
seven_long : (is : List ℕ) → ltb 32768 (length is) ≡ true → run_call seven_code (fresh seven_code) is ≡ record { state = fresh seven_code; reply = run_reply (refused 13 0) }
unfolding signed residue compiled code_bytes code_mark compile_p compile_t instruction_bytes instructions_bytes bytes16 bytes32 read_code read_code_tree longest_nodes nodes_p nodes_t forks read_ops ended_at do_op op_at decoded opcode_operand
    code_marked sized depth_t depth_p blank spawned fresh none member stale first_stale walk_op next_place walk walk_to free_from uncounted_from within_from at_most_from placed all_zero none_behind in_front passed_by among all_among threads_of
    one_each commits_passed needs all_tallied fits_beside fits run_of run_call taken
seven_long is l = ap (λ (b : Bool). returned (λ (r : Ran). r.state) run_reply (fresh seven_code) (refuse b 13 0 (done (run wrapping seven_code (fresh seven_code) is)))) l

-- 32,769 picks
too-long : run_call seven_code (fresh seven_code) (times 32769 0) ≡ record { state = fresh seven_code; reply = run_reply (refused 13 0) }
too-long = seven_long (times 32769 0) (ap (λ (k : ℕ). ltb 32768 k) (length-replicate {A = ℕ} 32769 0))

pub cases : Cases
unfolding listed job_run printed listing counts_line thread_lines thread_line register_lines register_line refusal_line integer decimal digits ascii wrapping wrap signed residue overflows read_tree short_from read_job read_nodes node_at
    node_of permitted operand grown fork_of job_marked taken job_bytes job_mark bytes_p bytes_t node_bytes bytes16 bytes32 nodes_p nodes_t forks atomics threads instructions longest bound code_t code_p code_length compiled code_bytes
    code_mark compile_p compile_t instruction_bytes instructions_bytes read_code read_code_tree longest_nodes read_ops ended_at do_op op_at decoded opcode_operand code_marked sized depth_t depth_p blank spawned push add begin source_of read
    write closedAt stale first_stale overlaid recounted number_of commit act perform settle pick_among fresh run counted order backs none member with walk_op next_place walk walk_to free_from uncounted_from within_from at_most_from
    placed all_zero none_behind in_front passed_by among all_among threads_of one_each commits_passed needs all_tallied used_by rule_number rule_after backs_after fits_beside fits fresh_of step_of run_of tally counts_of event_number
    event_register turn_number event_of fresh_call step_call run_call
cases =
    record {
      seven_read = refl;
      seven-code = refl;
      seven_steps = refl;
      seven_done = record { there = refl; place = refl; height = refl; result = refl };
      seven_run = refl;
      seven_bound = refl;
      below_range = refl;
      low_read = refl;
      low_done = record { there = refl; place = refl; height = refl; result = refl };
      low_run = refl;
      low_left = record { there = refl; place = refl; height = refl; result = refl };
      own-job = refl;
      own_read = refl;
      own_reads = refl;
      own_added = refl;
      own_still = refl;
      own_done = record { there = refl; place = refl; height = refl; result = refl };
      own_register = refl;
      own_run = refl;
      no_bytes = refl;
      register_63 = refl;
      register_64 = refl;
      written_63 = refl;
      written_64 = refl;
      no_count = refl;
      whole_length = refl;
      whole_size = refl;
      whole_bound = refl;
      whole_job_size = refl;
      whole_read = refl;
      whole-code = refl;
      none_there = refl;
      none_open = refl;
      none_run = refl;
      none_left = refl;
      above_range = refl;
      count_used_up = refl;
      no_byte_left = refl;
      high_job = refl;
      whole_written = refl;
      whole_back = refl;
      whole_listing = refl;
      open_listing = refl;
      least_listing = refl;
      cut_listing = refl;
      cut_job_listing = refl;
      no_listing = refl;
      idle_listing = refl;
      held_listing = refl;
      registers_listing = refl;
      eleven_listing = refl;
      mark_listing = refl;
      kind_listing = refl;
      whole_steps = refl;
      whole_idle = refl;
      whole_commits = refl;
      whole_back_count = refl;
      whole_threads = refl;
      whole_0 = record { there = refl; place = refl; height = refl; result = refl };
      whole_1 = record { there = refl; place = refl; height = refl; result = refl };
      whole_2 = record { there = refl; place = refl; height = refl; result = refl };
      whole_registers = refl;
      whole_order = refl;
      backs_1 = refl;
      backs_2 = refl;
      backs_twice = refl;
      high_back = refl;
      high_place = refl;
      high_height = refl;
      high_cells = refl;
      high_begin = refl;
      high_base = refl;
      high_reads = refl;
      high_readlog = refl;
      high_done = record { there = refl; place = refl; height = refl; result = refl };
      push_record = refl;
      sum_record = refl;
      fork_parent = refl;
      fork_child = refl;
      fork_next = refl;
      fork_number = refl;
      begin_record = refl;
      read_from_writes = refl;
      read_from_reads = refl;
      read-from-table = refl;
      write_record = refl;
      write_table = refl;
      commit_record = refl;
      commit_table = refl;
      back_record = refl;
      back_table = refl;
      step_0_idle = refl;
      step_1_push = refl;
      step_2_sum_outside = refl;
      step_2_sum_inside = refl;
      step_3_fork = refl;
      step_4_begin = refl;
      step_5_from_writes = refl;
      step_5_from_both = refl;
      step_6_from_reads = refl;
      step_7_from_table = refl;
      step_8_write = refl;
      step_9_commit = refl;
      step_10_back = refl;
      commit_unwritten = refl;
      lowest_stale = refl;
      last_stale = refl;
      same_value = refl;
      written_before = refl;
      step_idle = refl;
      step_back = refl;
      idle_3 = refl;
      idle_3_left = refl;
      idle_15 = refl;
      idle_15_left = refl;
      idle_16 = refl;
      idle_16_left = refl;
      idle_200 = refl;
      idle_200_left = refl;
      idle_ended = refl;
      idle_ended_left = refl;
      idle_run = refl;
      run-reply = refl;
      run_left = refl;
      run_whole = refl;
      run_none = refl;
      run_all_threads = refl;
      full_list = full_list;
      run_13 = ap (λ (r : Returned RunReply). r.reply) too-long;
      run_13_left = ap (λ (r : Returned RunReply). r.state) too-long;
      long_list = ap (λ (r : Returned RunReply). run_says r.reply) too-long;
      run_12 = refl;
      run_12_left = refl;
      run_11 = refl;
      run_11_left = refl;
      long_foreign = refl;
      step_12 = refl;
      step_12_left = refl;
      step_12_other_job = refl;
      step_11 = refl;
      step_11_left = refl;
      step_11_job = refl;
      foreign_code = refl;
      foreign_state = refl;
      fresh_state = refl;
      fresh-reply = refl;
      fresh_left = refl;
      fresh_over = refl;
      laid_down = refl;
      fresh_12 = refl;
      fresh_12_left = refl;
      fresh_12_records = refl;
      fresh_12_registers = refl;
      fresh_12_registers_65 = refl;
      fresh_11 = refl;
      fresh_11_left = refl;
      foreign_fresh = refl;
      foreign_table = refl;
      fits_sized = refl;
      records_15 = refl;
      records_17 = refl;
      registers_63 = refl;
      registers_65 = refl;
      fits_fresh = refl;
      root_end_early = refl;
      root_end_late = refl;
      root_start = refl;
      root_in_child = refl;
      fits_forked = refl;
      child_end_early = refl;
      child_end_late = refl;
      child_start = refl;
      fits_one = refl;
      in_child = refl;
      missing_thread = refl;
      two_threads = refl;
      unforked = refl;
      fits_nest_one = refl;
      unforked_by_child = refl;
      other_order = refl;
      all_threads = refl;
      fits_all_threads = refl;
      last_missing = refl;
      fits_inside = refl;
      in_push = refl;
      in_read = refl;
      no_place = refl;
      other_child = refl;
      fits_ended = refl;
      behind_end = refl;
      fits_child_ended = refl;
      behind_child_end = refl;
      height_low = refl;
      height_high = refl;
      height_high_filled = refl;
      height_ended = refl;
      fits_begun = refl;
      notes_missing = refl;
      begin_before = refl;
      base_before = refl;
      begin_behind = refl;
      base_behind = refl;
      begin_wrong = refl;
      begin_other = refl;
      fits_high = refl;
      base_low = refl;
      base_high = refl;
      read_before = refl;
      write_before = refl;
      read_behind = refl;
      write_behind = refl;
      marked_outside = refl;
      gap = refl;
      unmarked_read = refl;
      unmarked_read_63 = refl;
      unmarked_write = refl;
      unmarked_write_63 = refl;
      unmarked_read_outside = refl;
      unmarked_write_outside = refl;
      cell_above = refl;
      cell_63 = refl;
      unused_end = refl;
      unused_place = refl;
      unused_height = refl;
      unused_cell = refl;
      unused_begin = refl;
      unused_base = refl;
      unused_read = refl;
      unused_read_value = refl;
      unused_write = refl;
      unused_write_value = refl;
      unused_last = refl;
      free_cells = refl;
      free_registers = refl;
      free_read = refl;
      free_write = refl;
      unnamed = refl;
    }
