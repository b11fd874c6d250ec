-- Document 02 No. 2, in the script: how many sums fall outside the range of signed 32-bit numbers, each transaction being worked out whole.
use Rattle.std.specs.Prelude.{ℕ, ◌+◌, List, [], ◌∷◌, pos, get_or}
use Rattle.script.specs.Tree.{Tran, ValT, AddT, Read, Write, Proc, ValP, AddP, Atomic, Fork}
use Rattle.script.specs.Turns.{Registers, work, Reduced, value, moved, reduce, Script, turn, left}
use Rattle.word.specs.Sum.{Rule, over_of}

-- of a transaction worked out on these registers
unfoldable pub overflows_t : Rule → Tran → Registers → ℕ
overflows_t sum (ValT n) rs = 0
overflows_t sum (AddT a b) rs =
    let left = work sum a rs in
    let right = work sum b left.registers in
    overflows_t sum a rs + overflows_t sum b left.registers + over_of left.value right.value
overflows_t sum (Read v) rs = 0
overflows_t sum (Write v t) rs = overflows_t sum t rs

-- of an ADDP: its left part's due node's, then its right part's, then its own, by what the parts are reduced to
abbrev pub overflows_sum : (left right : ℕ) → Reduced → Reduced → ℕ
overflows_sum left right (moved a rs new) r = left
overflows_sum left right (value m) (moved b rs new) = right
overflows_sum left right (value m) (value n) = over_of m n

-- of a process's due node
unfoldable pub overflows_p : Rule → Registers → Proc → ℕ
overflows_p sum rs (ValP n) = 0
overflows_p sum rs (AddP a b) = overflows_sum (overflows_p sum rs a) (overflows_p sum rs b) (reduce sum rs a) (reduce sum rs b)
overflows_p sum rs (Atomic t) = overflows_t sum t rs
overflows_p sum rs (Fork p) = 0

-- of a list of turns; an idle one has none
unfoldable pub overflows_turns : Rule → Script → List ℕ → ℕ
overflows_turns sum s [] = 0
overflows_turns sum s (i ∷ is) = overflows_p sum s.registers (get_or s.threads i (ValP (pos 0))) + overflows_turns sum (left s (turn sum s i)) is
