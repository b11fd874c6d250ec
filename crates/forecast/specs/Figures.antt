-- Document 02 No. 1: what the forecast answers.
use Rattle.std.specs.Prelude.{ℕ, ◌-◌, List, ◌++◌, replicate}
use Rattle.forecast.specs.declared.ForecastReply.{ForecastReply}
use Rattle.script.specs.Count.{forks, atomics, threads, instructions, longest, bound, code_length, heights, read_set, write_set}
use Rattle.script.specs.Jobs.{Job}
use Rattle.script.specs.Outcome.{Outcome, refused, done}
use Rattle.script.specs.Tree.{Proc}
use Rattle.word.specs.Registers.{none}

-- the 16 heights: the root's, then each FORK's child's in job order, then 0
unfoldable pub sixteen : Proc → List ℕ
sixteen p = heights p ++ replicate (15 - forks p) 0

-- "code length in bytes, greatest stack height of the root and of each FORK's child in job order, the set of registers named by READ and
-- the set named by WRITE, and K, T, L, M with the step bound"
unfoldable pub figures : Proc → ForecastReply
figures p =
    record {
      refusal = 0;
      place = 0;
      length = code_length p;
      transactions = atomics p;
      threads = threads p;
      instructions = instructions p;
      longest = longest p;
      bound = bound p;
      reads = read_set p;
      writes = write_set p;
      heights = sixteen p;
    }

-- "A refused job gets the job reader's number and place", and 0 in every figure
unfoldable pub refused_with : (number place : ℕ) → ForecastReply
refused_with number place =
    record {
      refusal = number;
      place = place;
      length = 0;
      transactions = 0;
      threads = 0;
      instructions = 0;
      longest = 0;
      bound = 0;
      reads = none;
      writes = none;
      heights = replicate 16 0;
    }

-- the figures of an accepted job, or the refusal
abbrev pub forecast_of : Outcome Job → ForecastReply
forecast_of (refused number place) = refused_with number place
forecast_of (done j) = figures j.tree
