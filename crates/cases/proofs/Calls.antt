-- The worked cases of exported calls and of owned states hold, by computation. Assumes nothing.
use mathlib.Core.Path.{refl}
use Rattle.cases.specs.Calls.{ExportCases, OwnedCases}
use Rattle.code.specs.Bytes.{instruction_bytes, instructions_bytes, code_mark, code_bytes, compiled}
use Rattle.code.specs.Compile.{compile_t, compile_p}
use Rattle.code.specs.Ops.{opcode_operand, decoded, op_at}
use Rattle.code.specs.Reader.{do_op, ended_at, read_ops, sized, code_marked, read_code_tree, read_code}
use Rattle.compiler.specs.CompileTo.{compile_to}
use Rattle.decompiler.specs.ReadBackTo.{read_back_to}
use Rattle.delivery.specs.Delivered.{delivered}
use Rattle.listing.specs.Listed.{listed, refusal_line, decimal, digits, ascii}
use Rattle.machine.specs.Answers.{fresh_of, step_of, run_of, fresh_call, step_call, run_call}
use Rattle.machine.specs.Fits.{walk_op, next_place}
use Rattle.machine.specs.FitTest.{walk, walk_to, free_from, uncounted_from, within_from, at_most_from, placed, all_zero, none_behind, in_front, passed_by, among, all_among, threads_of, one_each, commits_passed, needs, all_tallied, fits_beside, fits}
use Rattle.machine.specs.Steps.{number_of, commit, act, perform, settle, pick_among, fresh, run}
use Rattle.script.specs.Bytes.{node_bytes, bytes16, bytes32, bytes_t, bytes_p, job_mark, job_bytes}
use Rattle.script.specs.Count.{nodes_t, nodes_p, depth_t, depth_p, forks, longest_nodes}
use Rattle.script.specs.Jobs.{operand, fork_of}
use Rattle.script.specs.Reader.{permitted, node_of, node_at, grown, read_nodes, job_marked, taken, read_tree, short_from, read_job}
use Rattle.stm.specs.Events.{tally, counts_of, event_number, event_register, turn_number, event_of}
use Rattle.stm.specs.Rules.{used_by, rule_number, rule_after, backs_after}
use Rattle.thread.specs.Threads.{blank, spawned, push, add, begin, source_of, read, write, closed as closedAt, stale, first_stale, overlaid, recounted}
use Rattle.word.specs.Registers.{none, member, with}
use Rattle.word.specs.Sum.{residue, signed, wrap, wrapping, overflows}

pub export_cases : ExportCases
unfolding compile_to read_back_to delivered listed refusal_line decimal digits ascii read_tree short_from read_job read_nodes node_at node_of permitted operand grown fork_of job_marked taken job_bytes job_mark bytes_p bytes_t node_bytes
    bytes16 bytes32 signed residue nodes_p nodes_t depth_t depth_p forks longest_nodes compiled code_bytes code_mark compile_p compile_t instruction_bytes instructions_bytes read_code read_code_tree read_ops ended_at do_op op_at decoded
    opcode_operand code_marked sized
export_cases = record { compiling = refl; reading_back = refl; register_64 = refl; short_tray = refl; foreign_code = refl; listing = refl; short_listing = refl }

pub owned_cases : OwnedCases
unfolding wrapping wrap signed residue overflows read_tree short_from read_job read_nodes node_at node_of permitted operand grown fork_of job_marked taken job_bytes job_mark bytes_p bytes_t node_bytes bytes16 bytes32 nodes_p nodes_t forks
    longest_nodes compiled code_bytes code_mark compile_p compile_t instruction_bytes instructions_bytes read_code read_code_tree read_ops ended_at do_op op_at decoded opcode_operand code_marked sized depth_t depth_p blank spawned push add
    begin source_of read write closedAt stale first_stale overlaid recounted number_of commit act perform settle pick_among fresh run none member with walk_op next_place walk walk_to free_from uncounted_from within_from at_most_from
    placed all_zero none_behind in_front passed_by among all_among threads_of one_each commits_passed needs all_tallied used_by rule_number rule_after backs_after fits_beside fits fresh_of step_of run_of tally counts_of event_number
    event_register turn_number event_of fresh_call step_call run_call
owned_cases =
    record {
      lent_all = refl;
      lent_63 = refl;
      lent_65 = refl;
      lent_counts_63 = refl;
      lent_counts_65 = refl;
      lent_15 = refl;
      lent_17 = refl;
      stepped = refl;
      run_on = refl;
      freshly = refl;
      freshly_none = refl;
      freshly_11 = refl;
      freshly_12 = refl;
      freshly_12_counts = refl;
      freshly_13 = refl;
      shown = refl;
    }
