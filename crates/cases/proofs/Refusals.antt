-- The rows of each refusal hold, by computation. Assumes nothing.
use mathlib.Core.Path.{refl}
use Rattle.cases.specs.LongTransactions.{sums, sums_bytes, writes_bytes}
use Rattle.cases.specs.Refusals.{deep, deep_bytes, writes, forked, forked_bytes, JobRefusals, CallRefusals}
use Rattle.code.specs.Bytes.{instruction_bytes, instructions_bytes, code_mark, code_bytes, compiled}
use Rattle.code.specs.Compile.{compile_t, compile_p}
use Rattle.code.specs.Ops.{opcode_operand, decoded, op_at}
use Rattle.code.specs.Reader.{do_op, ended_at, read_ops, sized, code_marked, read_code_tree, read_code}
use Rattle.compiler.specs.CompileTo.{compile_to}
use Rattle.decompiler.specs.ReadBackTo.{read_back_to}
use Rattle.delivery.specs.Delivered.{delivered}
use Rattle.listing.specs.Listed.{listed, job_run, printed, refusal_line, decimal, digits, ascii}
use Rattle.machine.specs.Answers.{run_of}
use Rattle.machine.specs.Fits.{walk_op, next_place}
use Rattle.machine.specs.FitTest.{walk, walk_to, free_from, uncounted_from, within_from, at_most_from, placed, all_zero, none_behind, in_front, passed_by, among, all_among, threads_of, one_each, commits_passed, needs, all_tallied, fits_beside, fits}
use Rattle.machine.specs.Steps.{fresh}
use Rattle.script.specs.Bytes.{node_bytes, bytes16, bytes32, bytes_t, bytes_p, job_mark, job_bytes}
use Rattle.script.specs.Count.{nodes_t, nodes_p, depth_t, depth_p, forks, longest_nodes}
use Rattle.script.specs.Jobs.{operand, fork_of}
use Rattle.script.specs.Reader.{permitted, node_of, node_at, grown, read_nodes, job_marked, taken, read_tree, short_from, read_job}
use Rattle.thread.specs.Threads.{blank, spawned, stale, first_stale}
use Rattle.word.specs.Registers.{none, member}
use Rattle.word.specs.Sum.{residue, signed}

pub job_refusals : JobRefusals
unfolding sums sums_bytes writes_bytes deep deep_bytes writes forked forked_bytes read_job read_tree short_from read_nodes node_at node_of permitted operand grown fork_of job_marked taken node_bytes bytes32 bytes_t bytes_p nodes_t signed residue
job_refusals =
    record {
      six_bytes = refl;
      seven_bytes = refl;
      six_unmarked = refl;
      seven_unmarked = refl;
      six_unversioned = refl;
      cut_valp = refl;
      cut_valp_3 = refl;
      cut_valt_3 = refl;
      valt_4 = refl;
      cut_read = refl;
      cut_write = refl;
      first_byte = refl;
      second_byte = refl;
      third_byte = refl;
      mark_and_version = refl;
      mark_and_count = refl;
      version_0 = refl;
      version_2 = refl;
      version_256 = refl;
      version_257 = refl;
      version_and_count = refl;
      count_1000 = refl;
      count_1001 = refl;
      count_65535 = refl;
      count_1000_used_up = refl;
      none_of_1000 = refl;
      none_of_1001 = refl;
      unknown_of_1001 = refl;
      one_of_0 = refl;
      root_0 = refl;
      root_5 = refl;
      root_8 = refl;
      root_9 = refl;
      root_255 = refl;
      left_of_addp = refl;
      right_of_addp = refl;
      in_fork = refl;
      in_atomic_0 = refl;
      in_atomic_1 = refl;
      in_atomic_4 = refl;
      in_atomic_9 = refl;
      left_of_addt = refl;
      right_of_addt = refl;
      in_write = refl;
      behind_atomic = refl;
      used_up_unknown = refl;
      unknown_deep = refl;
      transaction_deep = refl;
      wrong_and_cut = refl;
      wrong_and_register = refl;
      wrong_sixteenth = refl;
      register_255 = refl;
      second_register = refl;
      register_64_at_64 = refl;
      register_64_at_65 = refl;
      register_and_over = refl;
      depth_64 = refl;
      depth_65 = refl;
      left_64 = refl;
      left_65 = refl;
      writes_64 = refl;
      writes_65 = refl;
      sums_64 = refl;
      sums_65 = refl;
      forks_64 = refl;
      forks_65 = refl;
      used_up_deep = refl;
      none_left_deep = refl;
      cut_deep = refl;
      cut_not_deep = refl;
      sixteenth_deep = refl;
      sixteenth_not_deep = refl;
      forks_15 = refl;
      forks_16 = refl;
      beside_15 = refl;
      beside_16 = refl;
      used_up_sixteenth = refl;
      no_sixteenth = refl;
      sixteenth_cut = refl;
      sixteenth_and_over = refl;
      used_up_later = refl;
      used_up_cut = refl;
      node_over = refl;
      byte_over = refl;
      both_over = refl;
      none_over = refl;
    }

pub call_refusals : CallRefusals
unfolding sums sums_bytes writes_bytes deep deep_bytes writes forked forked_bytes read_job read_tree short_from read_nodes node_at node_of permitted operand grown fork_of job_marked taken node_bytes bytes32 bytes_t bytes_p nodes_t signed
    residue bytes16 job_mark job_bytes nodes_p depth_t depth_p forks longest_nodes compiled code_bytes code_mark compile_p compile_t instruction_bytes instructions_bytes read_code read_code_tree read_ops ended_at do_op op_at decoded
    opcode_operand code_marked sized compile_to read_back_to delivered listed job_run printed refusal_line decimal digits ascii run_of fresh blank spawned stale first_stale none member walk_op next_place walk walk_to free_from
    uncounted_from within_from at_most_from placed all_zero none_behind in_front passed_by among all_among threads_of one_each commits_passed needs all_tallied fits_beside fits
call_refusals =
    record {
      compile_10 = refl;
      compile_9 = refl;
      compile_11 = refl;
      back_12 = refl;
      back_11 = refl;
      back_13 = refl;
      report_15 = refl;
      report_14 = refl;
      cut_no_output = refl;
      over_no_output = refl;
      foreign_no_output = refl;
      code_least = refl;
      code_empty = refl;
      code_cut = refl;
      code_first_byte = refl;
      code_second_byte = refl;
      code_third_byte = refl;
      code_version_0 = refl;
      code_version_2 = refl;
      code_version_256 = refl;
      code_version_257 = refl;
      opcode_0 = refl;
      opcode_8 = refl;
      push_cut = refl;
      read_cut = refl;
      fork_cut = refl;
      code_read_63 = refl;
      code_read_64 = refl;
      code_write_63 = refl;
      code_write_64 = refl;
      sum_of_one = refl;
      two_left = refl;
      sum_across = refl;
      two_inside = refl;
      none_inside = refl;
      read_outside = refl;
      write_outside = refl;
      commit_outside = refl;
      never_committed = refl;
      begin_inside = refl;
      fork_inside = refl;
      child_5 = refl;
      child_4 = refl;
      child_6 = refl;
      child_0 = refl;
      code_depth_64 = refl;
      code_depth_65 = refl;
      code_forks_15 = refl;
      code_forks_16 = refl;
      code_nodes_1000 = refl;
      code_nodes_1001 = refl;
      long_listing = refl;
      mark_before_list = refl;
      transaction_before_list = refl;
    }
