-- The script itself: document 01, "Runs and turns". Every meaning takes the rule for sums.
use Rattle.std.specs.Prelude.{ℕ, ◌<◌, true, false, ◌≡◌, List, [], ◌∷◌, ◌++◌, ltb, ℤ, pos, length, get_or, set, replicate}
use Rattle.script.specs.Tree.{Tran, ValT, AddT, Read, Write, Proc, ValP, AddP, Atomic, Fork}
use Rattle.word.specs.Sum.{Rule}

-- the table of 64 registers
abbrev pub Registers : Type 0
Registers = List ℤ

-- a transaction's value, and the registers that it leaves
pub record Worked : Type 0 where
  pub value : ℤ
  pub registers : Registers

module _ (sum : Rule) where
  -- a transaction worked out on the registers: "READ gives the register as it then is, WRITE sets it at once"
  unfoldable pub work : Tran → Registers → Worked
  work (ValT n) rs = record { value = n; registers = rs }
  work (AddT a b) rs =
      let left = work a rs in
      let right = work b left.registers in
      record { value = sum left.value right.value; registers = right.registers }
  work (Read v) rs = record { value = get_or rs v (pos 0); registers = rs }
  work (Write v t) rs = let part = work t rs in record { value = part.value; registers = set part.registers v part.value }

-- a process asked for a turn: it is a VALP, or its due node is replaced, which leaves these registers and starts these threads
pub data Reduced : Type 0 where
  value : ℤ → Reduced
  moved : Proc → Registers → List Proc → Reduced

-- "In ADDP that is the left part's due node until the part is a VALP, then the right part's likewise, then the ADDP."
abbrev pub reduce_sum : Rule → Registers → Proc → Proc → Reduced → Reduced → Reduced
reduce_sum sum rs a b (moved a' rs' new) right = moved (AddP a' b) rs' new
reduce_sum sum rs a b (value m) (moved b' rs' new) = moved (AddP a b') rs' new
reduce_sum sum rs a b (value m) (value n) = moved (ValP (sum m n)) rs []

-- "ATOMIC and FORK are due themselves": what the turn makes of a process
unfoldable pub reduce : Rule → Registers → Proc → Reduced
reduce sum rs (ValP n) = value n
reduce sum rs (AddP a b) = reduce_sum sum rs a b (reduce sum rs a) (reduce sum rs b)
reduce sum rs (Atomic t) = moved (ValP (work sum t rs).value) (work sum t rs).registers []
reduce sum rs (Fork p) = moved (ValP (pos 0)) rs (p ∷ [])

-- "64 registers, at first 0, and numbered processes, at first the job's as thread 0"
pub record Script : Type 0 where
  pub registers : Registers
  pub threads : List Proc

-- at first: every register 0, and the job's process as thread 0
unfoldable pub initial : Proc → Script
initial p = record { registers = replicate 64 (pos 0); threads = p ∷ [] }

-- a turn: idle, or the script that it leaves
pub data Turned : Type 0 where
  idle : Turned
  turned : Script → Turned

-- what a turn of thread i leaves: "FORK p becomes VALP 0, and p is the next thread"
abbrev pub after : Script → ℕ → Reduced → Turned
after s i (value n) = idle
after s i (moved p rs new) = turned (record { registers = rs; threads = set s.threads i p ++ new })

-- "A turn of a thread that does not exist or is a VALP is idle"
unfoldable pub turn : Rule → Script → ℕ → Turned
turn sum s i =
    elim (ltb i (length s.threads)) [
      | true ↦ after s i (reduce sum s.registers (get_or s.threads i (ValP (pos 0))))
      | false ↦ idle
    ]

-- an idle turn "changes nothing"
abbrev pub left : Script → Turned → Script
left s idle = s
left s (turned s') = s'

-- the script fed a list of thread numbers
unfoldable pub turns : Rule → Script → List ℕ → Script
turns sum s [] = s
turns sum s (i ∷ is) = turns sum (left s (turn sum s i)) is

-- "The script can take a list if no turn in it is idle"
pub data CanTake (sum : Rule) : Script → List ℕ → Type 0 where
  none : {s : Script} → CanTake sum s []
  one : {s s' : Script} {i : ℕ} {is : List ℕ} → turn sum s i ≡ turned s' → CanTake sum s' is → CanTake sum s (i ∷ is)

-- "A thread that is VALP n has n as result"
pub record Result (s : Script) (i : ℕ) (n : ℤ) : Type 0 where
  pub exists : i < length s.threads
  pub ended : get_or s.threads i (ValP (pos 0)) ≡ ValP n
