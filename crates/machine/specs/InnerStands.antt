-- For the proofs, nobody has to believe it: the cells of the table, an instruction as it stands in the bytes, code that is there to be run,
-- a walk before its BEGIN, a rule that stays in range.
use Rattle.std.specs.Prelude.{ℕ, ◌≤◌, List, [], ◌∷◌, ℤ, pos, length}
use Rattle.code.specs.Compile.{Instruction, Code, PUSH, ADD, READ, WRITE, BEGIN, COMMIT, FORK}
use Rattle.code.specs.Bytes.{instructions_bytes}
use Rattle.code.specs.InnerHeights.{RunsIn}
use Rattle.code.specs.Ops.{Op}
use Rattle.code.specs.Ops as code
use Rattle.machine.specs.Fits.{Walked, risen, shut}
use Rattle.machine.specs.Stands.{Stands, ValuedC}
use Rattle.machine.specs.Steps.{State, table_in}
use Rattle.stm.specs.InnerCells.{Cells, by_count}
use Rattle.stm.specs.Counted.{Counted, Table}
use Rattle.word.specs.Sum.{InRange, Rule}

-- a register's cell, and when a logged one is stale: document 02 No. 6, by count
abbrev pub register_cells : Cells
register_cells = by_count

-- values and counts as such cells, one for each register
unfoldable pub cells_from : List ℤ → List ℕ → List Counted
cells_from [] [] = []
cells_from [] (n ∷ ns) = record { value = pos 0; count = n } ∷ cells_from [] ns
cells_from (r ∷ rs) [] = record { value = r; count = 0 } ∷ cells_from rs []
cells_from (r ∷ rs) (n ∷ ns) = record { value = r; count = n } ∷ cells_from rs ns

-- the table's cells
abbrev pub cells_of : Table → List register_cells.Cell
cells_of table = cells_from table.registers table.counts

-- the table of a state
abbrev pub table_of : State → List register_cells.Cell
table_of s = cells_of (table_in s)

-- an instruction as it stands in the bytes
abbrev pub op_of : Instruction → Op
op_of (PUSH n) = code.push n
op_of ADD = code.add
op_of (READ v) = code.read v
op_of (WRITE v) = code.write v
op_of BEGIN = code.begin
op_of COMMIT = code.commit
op_of (FORK k) = code.fork (length (instructions_bytes k))

-- code that is there to be run from a stack of this height
pub record Ready (bytes : List ℕ) (place end : ℕ) (c : Code) (height : ℕ) : Type 0 where
  pub stands : Stands bytes place end c
  pub runs : RunsIn 64 c height
  pub valued : ValuedC c
  pub low : height ≤ 64

-- what was left before the BEGIN of the open transaction: no FORK stands inside one
abbrev pub undone : Walked → Walked
undone w = risen w.base (shut w)

-- a rule for sums that stays in range
abbrev pub InRangeRule : Rule → Type 0
InRangeRule sum = (a b : ℤ) → InRange a → InRange b → InRange (sum a b)
