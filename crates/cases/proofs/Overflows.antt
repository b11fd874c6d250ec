-- The worked cases of document 02 No. 2 hold, by computation. Assumes nothing.
use mathlib.Core.Path.{refl}
use Rattle.code.specs.Compile.{compile_t, compile_p}
use Rattle.code.specs.Bytes.{instruction_bytes, instructions_bytes, code_mark, code_bytes, compiled}
use Rattle.code.specs.Ops.{opcode_operand, decoded, op_at}
use Rattle.code.specs.Reader.{do_op, ended_at, read_ops, sized, code_marked, read_code_tree, read_code}
use Rattle.thread.specs.Threads.{blank, spawned, push, add, begin, source_of, read, write, closed as closedAt, stale, first_stale, overlaid, recounted}
use Rattle.machine.specs.Fits.{walk_op, next_place}
use Rattle.machine.specs.FitTest.{walk, walk_to, free_from, uncounted_from, within_from, at_most_from, placed, all_zero, none_behind, in_front, passed_by, among, all_among, threads_of, one_each, commits_passed, needs, all_tallied, fits_beside, fits}
use Rattle.machine.specs.Answers.{fresh_of, step_of, run_of, fresh_call, step_call, run_call}
use Rattle.machine.specs.Steps.{number_of, commit, act, perform, settle, pick_among, fresh, run}
use Rattle.stm.specs.Events.{counted, order, backs, tally, counts_of, event_number, event_register, turn_number, event_of}
use Rattle.stm.specs.Rules.{used_by, rule_number, rule_after, backs_after}
use Rattle.listing.specs.Listed.{listed, job_run, printed, listing, counts_line, thread_lines, thread_line, register_lines, register_line, refusal_line, integer, decimal, digits, ascii}
use Rattle.word.specs.Registers.{none, member, with}
use Rattle.script.specs.Bytes.{node_bytes, bytes16, bytes32, bytes_t, bytes_p, job_mark, job_bytes}
use Rattle.script.specs.Count.{nodes_t, nodes_p, depth_t, depth_p, forks, atomics, threads, instructions, longest, longest_nodes, bound, code_t, code_p, code_length}
use Rattle.script.specs.Jobs.{operand, fork_of}
use Rattle.script.specs.Reader.{permitted, node_of, node_at, grown, read_nodes, job_marked, taken, read_tree, short_from, read_job}
use Rattle.script.specs.Overflows.{overflows_t, overflows_p, overflows_turns}
use Rattle.script.specs.Turns.{work, reduce, initial, turn}
use Rattle.word.specs.Sum.{residue, signed, wrap, wrapping, overflows}
use Rattle.cases.specs.Overflows.{OverflowCases}

pub overflow_cases : OverflowCases
unfolding listed job_run printed listing counts_line thread_lines thread_line register_lines register_line refusal_line integer decimal digits ascii wrapping wrap signed residue read_tree short_from read_job read_nodes node_at node_of
    permitted operand grown fork_of job_marked taken job_bytes job_mark bytes_p bytes_t node_bytes bytes16 bytes32 nodes_p nodes_t forks atomics threads instructions longest bound code_t code_p code_length compiled code_bytes code_mark
    compile_p compile_t instruction_bytes instructions_bytes read_code read_code_tree longest_nodes read_ops ended_at do_op op_at decoded opcode_operand code_marked sized depth_t depth_p blank spawned push add begin source_of read write
    closedAt stale first_stale overlaid recounted number_of commit act perform settle pick_among fresh run counted order backs none member with walk_op next_place walk walk_to free_from uncounted_from within_from at_most_from placed
    all_zero none_behind in_front passed_by among all_among threads_of one_each commits_passed needs all_tallied used_by rule_number rule_after backs_after fits_beside fits fresh_of step_of run_of tally counts_of event_number event_register
    turn_number event_of fresh_call step_call run_call overflows overflows_t overflows_p overflows_turns work reduce initial turn
overflow_cases =
    record {
      above = refl;
      below = refl;
      twice_above = refl;
      twice_below = refl;
      at_greatest = refl;
      at_least = refl;
      across = refl;
      both_ways = refl;
      both_ways_done = record { there = refl; place = refl; height = refl; result = refl };
      both_ways_cut = refl;
      both_ways_script = refl;
      both_ways_note = refl;
      low_script = refl;
      low_push = refl;
      low_add = refl;
      noted = refl;
      noted_add = refl;
      first_call = refl;
      second_call = refl;
      one_call = refl;
      noted_commit = refl;
      note_emptied = refl;
      inside_script = refl;
      again_noted = refl;
      again_back = refl;
      again_emptied = refl;
      again_run = refl;
      again_script = refl;
      second_run = refl;
      second_low = refl;
      first_noted = refl;
      first_run = refl;
      lent_fits = refl;
      lent_counts = refl;
      lent_none = refl;
      lent_high = refl;
      lent_high_left = refl;
      lent_high_step = refl;
      lowered = refl;
      lent_more = refl;
      lent_back = refl;
      before_add = refl;
      sum_before = refl;
      sum_before_noted = refl;
      atomic_before = refl;
      atomic_before_noted = refl;
      two_adds = refl;
      two_adds_high = refl;
      one_of_two = refl;
      noted_behind = refl;
      noted_before = refl;
      noted_outside = refl;
      unused_noted = refl;
      low_listing = refl;
    }
