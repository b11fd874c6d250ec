-- The worked cases of document 02 No. 4 hold, by computation. Assumes nothing.
use mathlib.Core.Path.{refl}
use Rattle.code.specs.Compile.{compile_t, compile_p}
use Rattle.code.specs.Bytes.{instruction_bytes, instructions_bytes, code_mark, code_bytes, compiled}
use Rattle.code.specs.Ops.{opcode_operand, decoded, op_at}
use Rattle.code.specs.Reader.{do_op, ended_at, read_ops, sized, code_marked, read_code_tree, read_code}
use Rattle.thread.specs.Threads.{blank, spawned, push, add, begin, source_of, read, write, closed as closedAt, stale, first_stale, overlaid, recounted}
use Rattle.machine.specs.Fits.{walk_op, next_place}
use Rattle.machine.specs.FitTest.{walk, walk_to, free_from, uncounted_from, within_from, at_most_from, placed, all_zero, none_behind, in_front, passed_by, among, all_among, threads_of, one_each, commits_passed, needs, all_tallied, fits_beside, fits}
use Rattle.machine.specs.Answers.{step_of, run_of, step_call, run_call, backs_of}
use Rattle.machine.specs.Steps.{number_of, commit, act, perform, settle, pick_among, fresh, run}
use Rattle.stm.specs.Events.{counted, order, backs, tally, counts_of, event_number, event_register, turn_number, event_of}
use Rattle.stm.specs.Rules.{used_by, rule_number, rule_of_number, rule_after, backs_after, last_rule}
use Rattle.word.specs.Registers.{none, member, with}
use Rattle.script.specs.Bytes.{node_bytes, bytes16, bytes32, bytes_t, bytes_p, job_mark, job_bytes}
use Rattle.script.specs.Count.{nodes_t, nodes_p, depth_t, depth_p, forks, atomics, threads, instructions, longest, longest_nodes, bound, code_t, code_p, code_length}
use Rattle.script.specs.Jobs.{operand, fork_of}
use Rattle.script.specs.Reader.{permitted, node_of, node_at, grown, read_nodes, job_marked, taken, read_tree, short_from, read_job}
use Rattle.word.specs.Sum.{residue, signed, wrap, wrapping, overflows}
use Rattle.cases.specs.Rules.{RuleCases, TallyCases, rules_of}

pub rule_cases : RuleCases
unfolding wrapping wrap signed residue read_tree short_from read_job read_nodes node_at node_of permitted operand grown fork_of job_marked taken job_bytes job_mark bytes_p bytes_t node_bytes bytes16 bytes32 nodes_p nodes_t forks atomics
    threads instructions longest bound code_t code_p code_length compiled code_bytes code_mark compile_p compile_t instruction_bytes instructions_bytes read_code read_code_tree longest_nodes read_ops ended_at do_op op_at decoded opcode_operand
    code_marked sized depth_t depth_p blank spawned push add begin source_of read write closedAt stale first_stale overlaid recounted number_of commit act perform settle pick_among fresh run counted order backs none member with
    walk_op next_place walk walk_to free_from uncounted_from within_from at_most_from placed all_zero none_behind in_front passed_by among all_among threads_of one_each commits_passed needs all_tallied used_by rule_number rule_after backs_after
    fits_beside fits step_of run_of tally counts_of event_number event_register turn_number event_of step_call run_call overflows rule_of_number last_rule backs_of rules_of
rule_cases =
    record {
      number_0 = refl;
      number_1 = refl;
      number_2 = refl;
      number_3 = refl;
      number_4 = refl;
      number_5 = refl;
      number_6 = refl;
      number_7 = refl;
      number_8 = refl;
      number_9 = refl;
      number_10 = refl;
      number_73 = refl;
      number_74 = refl;
      number_255 = refl;
      whole_rules = refl;
      first_named = refl;
      back_named = refl;
      again_named = refl;
      last_named = refl;
      ended_named = refl;
      missing_named = refl;
      far_named = refl;
      refused_named = refl;
      other_value_named = refl;
      reads_rules = refl;
      lowest_named = refl;
      lowest_answer = refl;
      lowest_held = refl;
      none_first = refl;
      none_backs = refl;
      child_none = refl;
      forked_held = refl;
      table_held = refl;
      back_held = refl;
      back_counted = refl;
      others_held = refl;
      others_backs = refl;
      idle_held = refl;
      idle_back_held = refl;
      end_0 = refl;
      end_1 = refl;
      end_2 = refl;
      end_3 = refl;
      end_backs_0 = refl;
      end_backs_1 = refl;
      end_backs_2 = refl;
      end_last = refl;
      added_up = refl;
      second_call = refl;
      second_left = refl;
    }

pub tally_cases : TallyCases
unfolding wrapping wrap signed residue read_tree short_from read_job read_nodes node_at node_of permitted operand grown fork_of job_marked taken job_bytes job_mark bytes_p bytes_t node_bytes bytes16 bytes32 nodes_p nodes_t forks atomics
    threads instructions longest bound code_t code_p code_length compiled code_bytes code_mark compile_p compile_t instruction_bytes instructions_bytes read_code read_code_tree longest_nodes read_ops ended_at do_op op_at decoded opcode_operand
    code_marked sized depth_t depth_p blank spawned push add begin source_of read write closedAt stale first_stale overlaid recounted number_of commit act perform settle pick_among fresh run counted order backs none member with
    walk_op next_place walk walk_to free_from uncounted_from within_from at_most_from placed all_zero none_behind in_front passed_by among all_among threads_of one_each commits_passed needs all_tallied used_by rule_number rule_after backs_after
    fits_beside fits step_of run_of tally counts_of event_number event_register turn_number event_of step_call run_call overflows rule_of_number last_rule backs_of rules_of
tally_cases =
    record {
      none_passed = refl;
      above_none = refl;
      above_none_fresh = refl;
      at_commit = refl;
      behind-commit = refl;
      passed_by_another = refl;
      passed_for_all = refl;
      above_one = refl;
      two_passed = refl;
      above_two = refl;
      own_two = refl;
      own_above_two = refl;
      not_passed_back = refl;
      stale_none_passed = refl;
      stale_none_step = refl;
      stale_none_left = refl;
      other_value = refl;
      other_register = refl;
      stale_below = refl;
      stale_equal = refl;
      value_back_below = refl;
      value_back_equal = refl;
      unstale_equal = refl;
      unstale_above = refl;
      count_logged = refl;
      stale_of_another = refl;
      stale_of_another_ended = refl;
      free_rule = refl;
      free_read_outside = refl;
      free_back = refl;
      free_unknown = refl;
      free_greatest = refl;
      free_ended = refl;
      unused_rule = refl;
      unused_backs = refl;
      unused_last = refl;
      lent_back = refl;
      lent_back_rule = refl;
      lent_commit = refl;
      lent_commit_rule = refl;
    }
