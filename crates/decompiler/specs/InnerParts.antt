-- For the proof of `read_back` only: what its functions put in front of the parts that stand in the output.
use Rattle.std.specs.Prelude.{ℕ, List, ◌∷◌, ◌++◌, get_or}
use Rattle.script.specs.Bytes.{job_mark, bytes16}

-- the header of the job that this code is of
unfoldable pub job_header : List ℕ → ℕ → List ℕ
job_header code nodes = job_mark ++ (get_or code 3 0 ∷ get_or code 4 0 ∷ bytes16 nodes)
