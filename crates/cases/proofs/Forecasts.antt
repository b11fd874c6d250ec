-- The worked cases of the forecast hold, by computation. Assumes nothing.
use mathlib.Core.Path.{refl}
use Rattle.cases.specs.Forecasts.{ForecastCases}
use Rattle.forecast.specs.Figures.{sixteen, figures, refused_with}
use Rattle.script.specs.Bytes.{node_bytes, bytes32}
use Rattle.script.specs.Count.{nodes_t, nodes_p, forks, atomics, threads, instructions, longest, bound, code_t, code_p, code_length, height_t, height_p, child_heights, heights, with_reads_t, with_reads, with_writes_t, with_writes, read_set, write_set}
use Rattle.script.specs.Jobs.{operand, fork_of}
use Rattle.script.specs.Reader.{permitted, node_of, node_at, grown, read_nodes, job_marked, taken, read_tree, short_from, read_job}
use Rattle.traces.specs.OwnCodes.{child_codes, own_codes}
use Rattle.word.specs.Registers.{none, with}
use Rattle.word.specs.Sum.{signed}

pub forecast_cases : ForecastCases
unfolding own_codes child_codes read_tree short_from read_job read_nodes node_at node_of permitted operand grown fork_of job_marked taken node_bytes bytes32 signed sixteen figures refused_with nodes_t nodes_p forks atomics threads instructions longest bound code_t code_p code_length height_t height_p child_heights heights with_reads_t with_reads with_writes_t with_writes read_set write_set none with
forecast_cases = record { whole = refl; forks = refl; fork-tree = refl; fork_codes = refl; single = refl; own = refl; sets = refl; no_bytes = refl; register_64 = refl; left_over = refl }
