-- Worked cases of document 02 No. 1: what the forecast answers.
use Rattle.std.specs.Prelude.{ℕ, ◌≡◌, List, [], ◌∷◌, ◌++◌, pos, replicate}
use Rattle.cases.specs.Inputs.{header, accepted, seven, whole_job}
use Rattle.forecast.specs.Figures.{forecast_of}
use Rattle.forecast.specs.declared.ForecastReply.{ForecastReply}
use Rattle.machine.specs.Steps.{Child}
use Rattle.script.specs.Reader.{read_job}
use Rattle.script.specs.Tree.{Proc, ValP, AddP, Fork}
use Rattle.traces.specs.OwnCodes.{own_codes}

-- VALP 1
abbrev pub one : List ℕ
one = 0x01 ∷ 0x00 ∷ 0x00 ∷ 0x00 ∷ 0x01 ∷ []

-- fork(fork(1+1)) + fork 1
abbrev pub fork_job : List ℕ
fork_job = header 8 (0x02 ∷ 0x04 ∷ 0x04 ∷ 0x02 ∷ (one ++ (one ++ (0x04 ∷ one))))

-- its tree
abbrev pub fork_tree : Proc
fork_tree = AddP (Fork (Fork (AddP (ValP (pos 1)) (ValP (pos 1))))) (Fork (ValP (pos 1)))

-- from a place up to a place
abbrev pub up_to : (start end : ℕ) → Child
up_to a b = record { start = a; end = b }

-- ATOMIC of ADDT (WRITE 0 (VALT 5)) (READ 0), which reads a register that it wrote itself
abbrev pub own_job : List ℕ
own_job = header 5 (0x03 ∷ 0x06 ∷ 0x08 ∷ 0x00 ∷ 0x05 ∷ 0x00 ∷ 0x00 ∷ 0x00 ∷ 0x05 ∷ 0x07 ∷ 0x00 ∷ [])

-- ADDP (ATOMIC (WRITE 63 (READ 1))) (ATOMIC (READ 0))
abbrev pub sets_job : List ℕ
sets_job = header 6 (0x02 ∷ 0x03 ∷ 0x08 ∷ 63 ∷ 0x07 ∷ 1 ∷ 0x03 ∷ 0x07 ∷ 0 ∷ [])

-- a refusal's number and place, nothing else
abbrev pub nothing_but : (number place : ℕ) → ForecastReply
nothing_but number place =
    record {
      refusal = number;
      place = place;
      length = 0;
      transactions = 0;
      threads = 0;
      instructions = 0;
      longest = 0;
      bound = 0;
      reads = 0;
      writes = 0;
      heights = replicate 16 0;
    }

-- what the forecast answers, on the left, and the figures as they were counted by hand, on the right
pub record ForecastCases : Type 0 where
  -- the whole case: 36 bytes, heights 2, 2, 2, registers {0} and {0}, K 2, T 3, L 15, M 6, bound 27
  pub whole :
      forecast_of (read_job whole_job) ≡
      record {
        refusal = 0;
        place = 0;
        length = 36;
        transactions = 2;
        threads = 3;
        instructions = 15;
        longest = 6;
        bound = 27;
        reads = 1;
        writes = 1;
        heights = 2 ∷ 2 ∷ 2 ∷ replicate 13 0;
      }
  -- no ATOMIC, so M is 0 and the bound is L; heights in the order of the FORKs, whatever number each child will have
  pub forks :
      forecast_of (read_job fork_job) ≡
      record {
        refusal = 0;
        place = 0;
        length = 31;
        transactions = 0;
        threads = 4;
        instructions = 8;
        longest = 0;
        bound = 8;
        reads = 0;
        writes = 0;
        heights = 2 ∷ 1 ∷ 2 ∷ 1 ∷ replicate 12 0;
      }
  pub fork-tree : read_job fork_job ≡ accepted fork_tree
  -- its code: FORK at 5 with its child from 8 to 22, FORK at 8 with its child from 11 to 22, FORK at 22 with its child from 25 to 30, ADD at 30
  pub fork_codes : own_codes fork_tree ≡ up_to 5 31 ∷ up_to 8 22 ∷ up_to 11 22 ∷ up_to 25 30 ∷ []
  -- a single node
  pub single :
      forecast_of (read_job seven) ≡
      record {
        refusal = 0;
        place = 0;
        length = 10;
        transactions = 0;
        threads = 1;
        instructions = 1;
        longest = 0;
        bound = 1;
        reads = 0;
        writes = 0;
        heights = 1 ∷ replicate 15 0;
      }
  -- READ names register 0, though no read log ever has it
  pub own :
      forecast_of (read_job own_job) ≡
      record {
        refusal = 0;
        place = 0;
        length = 17;
        transactions = 1;
        threads = 1;
        instructions = 6;
        longest = 6;
        bound = 6;
        reads = 1;
        writes = 1;
        heights = 2 ∷ replicate 15 0;
      }
  -- registers 0 and 1 read, 63 written
  pub sets :
      forecast_of (read_job sets_job) ≡
      record {
        refusal = 0;
        place = 0;
        length = 16;
        transactions = 2;
        threads = 1;
        instructions = 8;
        longest = 4;
        bound = 8;
        reads = 3;
        writes = 0x8000000000000000;
        heights = 2 ∷ replicate 15 0;
      }
  -- "A refused job gets the job reader's number and place"
  pub no_bytes : forecast_of (read_job []) ≡ nothing_but 1 0
  pub register_64 : forecast_of (read_job (header 2 (0x03 ∷ 0x07 ∷ 64 ∷ []))) ≡ nothing_but 6 9
  pub left_over : forecast_of (read_job (whole_job ++ (0 ∷ []))) ≡ nothing_but 9 32
