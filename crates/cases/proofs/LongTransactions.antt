-- The worked cases of long transactions hold, by computation. Assumes nothing.
use mathlib.Core.Path.{refl}
use Rattle.cases.specs.LongTransactions.{sums, sums_bytes, writes_bytes, LongTransactionCases}
use Rattle.code.specs.Bytes.{instruction_bytes, instructions_bytes, code_mark, code_bytes, compiled}
use Rattle.code.specs.Compile.{compile_t, compile_p}
use Rattle.code.specs.Ops.{opcode_operand, decoded, op_at}
use Rattle.code.specs.Reader.{do_op, ended_at, read_ops, sized, code_marked, read_code_tree, read_code}
use Rattle.compiler.specs.CompileTo.{compile_to}
use Rattle.delivery.specs.Delivered.{delivered}
use Rattle.forecast.specs.Figures.{figures, refused_with}
use Rattle.listing.specs.Listed.{listed, job_run, printed, refusal_line, decimal, digits, ascii}
use Rattle.script.specs.Bytes.{node_bytes, bytes16, bytes32, bytes_t, bytes_p}
use Rattle.script.specs.Count.{nodes_t, nodes_p, depth_t, depth_p, forks, longest, longest_nodes}
use Rattle.script.specs.Jobs.{operand, fork_of}
use Rattle.script.specs.Reader.{permitted, node_of, node_at, grown, read_nodes, job_marked, taken, read_tree, short_from, read_job}
use Rattle.word.specs.Registers.{none}
use Rattle.word.specs.Sum.{signed, residue}

pub long_transaction_cases : LongTransactionCases
unfolding compile_to delivered sums sums_bytes writes_bytes read_tree short_from read_job read_nodes node_at node_of permitted operand grown fork_of job_marked taken node_bytes bytes16 bytes32 bytes_t bytes_p signed residue nodes_t nodes_p
    depth_t depth_p forks longest longest_nodes compiled code_bytes code_mark compile_p compile_t instruction_bytes instructions_bytes read_code read_code_tree read_ops ended_at do_op op_at decoded opcode_operand code_marked sized figures
    refused_with none listed job_run printed refusal_line decimal digits ascii
long_transaction_cases =
    record {
      most = refl;
      one_more = refl;
      byte_over = refl;
      count_over = refl;
      count_short = refl;
      register_behind = refl;
      depth_behind = refl;
      second = refl;
      first = refl;
      in_child = refl;
      apart = refl;
      no_output = refl;
      full_output = refl;
      most_forecast = refl;
      more_forecast = refl;
      more_listing = refl;
      most_code = refl;
      more-code = refl;
      child_code = refl;
    }
