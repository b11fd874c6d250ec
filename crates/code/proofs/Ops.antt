-- What `op_at` finds, told by what stands there: an instruction whose operand is in range, or nothing that code has. Assumes nothing.
use Prim.Native.Nat.{ℕ, zero, suc, ◌+◌, ◌*◌, ◌<◌}
use mathlib.Core.Path.{◌≡◌, refl, sym, ap}
use mathlib.Core.Bool.{false}
use mathlib.Core.List.{List, [], ◌∷◌, ◌++◌}
use native.Mathlib.Decide.{dec_lt}
use native.Mathlib.Omega.{arith}
use lib.Dec.{ltb}
use lib.ListN.{length}
use borrow.Author.Tests.{le-ltb, le-leb, lt-leb}
use Rattle.code.specs.Ops.{foreign, Op, push, add, read, write, begin, commit, fork, opcode_operand, decoded, op_at, size_of}
use Rattle.script.specs.Bytes.{Bytes, bytes16, bytes32}
use Rattle.script.specs.Outcome.{done}
use Rattle.script.proofs.Numbers.{number16_bytes16, number_read, bytes16_number16, small32, number_written, bytes_head, bytes_tail}
use Rattle.word.specs.Sum.{InRange, residue, signed}
use Rattle.word.proofs.Sums.{signed_in_range}

-- an instruction's opcode and operand
unfoldable pub op_bytes : Op → List ℕ
op_bytes (push n) = 1 ∷ bytes32 (residue n)
op_bytes add = 2 ∷ []
op_bytes (read v) = 3 ∷ v ∷ []
op_bytes (write v) = 4 ∷ v ∷ []
op_bytes begin = 5 ∷ []
op_bytes commit = 6 ∷ []
op_bytes (fork size) = 7 ∷ bytes16 size

-- its operand is in range
abbrev pub ValuedO : Op → Type 0
ValuedO (push n) = InRange n
ValuedO add = Unit {0}
ValuedO (read v) = v < 64
ValuedO (write v) = v < 64
ValuedO begin = Unit {0}
ValuedO commit = Unit {0}
ValuedO (fork size) = size < 65536

-- the bytes of an instruction are as many as the reader goes on by
pub op_length : (op : Op) → length (op_bytes op) ≡ size_of op
unfolding op_bytes bytes32 bytes16
op_length (push n) = refl
op_length add = refl
op_length (read v) = refl
op_length (write v) = refl
op_length begin = refl
op_length commit = refl
op_length (fork size) = refl

four : (n : ℕ) (rest : List ℕ) → ltb (length (bytes32 n ++ rest)) 4 ≡ false
unfolding bytes32
four n rest = le-ltb (suc (suc (suc (suc (length rest))))) 4 (omega arith)

two : (n : ℕ) (rest : List ℕ) → ltb (length (bytes16 n ++ rest)) 2 ≡ false
unfolding bytes16
two n rest = le-ltb (suc (suc (length rest))) 2 (omega arith)

-- an instruction whose operand is in range is the one that is read
pub op_reads : (op : Op) (rest : List ℕ) → ValuedO op → op_at (op_bytes op ++ rest) ≡ done op
unfolding op_at op_bytes opcode_operand decoded
op_reads (push n) rest v = rw (four (residue n) rest, number_read n v rest)
op_reads add rest v = rw (le-ltb (length rest) 0 (omega arith))
op_reads (read r) rest v = rw (le-ltb (suc (length rest)) 1 (omega arith), lt-leb 64 r v)
op_reads (write r) rest v = rw (le-ltb (suc (length rest)) 1 (omega arith), lt-leb 64 r v)
op_reads begin rest v = rw (le-ltb (length rest) 0 (omega arith))
op_reads commit rest v = rw (le-ltb (length rest) 0 (omega arith))
op_reads (fork size) rest v = rw (two size rest, number16_bytes16 size v rest)

-- what stands where an instruction is due
pub data Sees (bs : List ℕ) : Type 0 where
  good : (op : Op) (rest : List ℕ) → ValuedO op → bs ≡ op_bytes op ++ rest → Sees bs
  bad : op_at bs ≡ foreign → Sees bs

-- something is seen, whatever stands there
pub seen : (bs : List ℕ) → Bytes bs → Sees bs
unfolding op_at op_bytes opcode_operand decoded
seen [] b = bad refl
seen (zero ∷ rest) b = bad refl
seen (suc zero ∷ []) b = bad refl
seen (suc zero ∷ x ∷ []) b = bad refl
seen (suc zero ∷ x ∷ y ∷ []) b = bad refl
seen (suc zero ∷ x ∷ y ∷ z ∷ []) b = bad refl
seen (suc zero ∷ x ∷ y ∷ z ∷ w ∷ rest) b =
    let b₁ = bytes_tail b in
    let b₂ = bytes_tail b₁ in
    let b₃ = bytes_tail b₂ in
    let px : x < 256 = bytes_head b₁ in
    let py : y < 256 = bytes_head b₂ in
    let pz : z < 256 = bytes_head b₃ in
    let pw : w < 256 = bytes_head (bytes_tail b₃) in
    let n : ℕ = ((x * 256 + y) * 256 + z) * 256 + w in
    good (push (signed n)) rest (signed_in_range n (small32 x y z w px py pz pw)) (sym (ap (λ (l : List ℕ). 1 ∷ (l ++ rest)) (number_written x y z w px py pz pw)))
seen (suc (suc zero) ∷ rest) b = good add rest tt refl
seen (suc (suc (suc zero)) ∷ []) b = bad refl
seen (suc (suc (suc zero)) ∷ v ∷ rest) b = pick (dec_lt v 64)
  where
    pick : Dec (v < 64) → Sees (3 ∷ v ∷ rest)
    pick (yes l) = good (read v) rest l refl
    pick (no l) = bad (rw (le-ltb (suc (length rest)) 1 (omega arith), le-leb 64 v (omega arith)))
seen (suc (suc (suc (suc zero))) ∷ []) b = bad refl
seen (suc (suc (suc (suc zero))) ∷ v ∷ rest) b = pick (dec_lt v 64)
  where
    pick : Dec (v < 64) → Sees (4 ∷ v ∷ rest)
    pick (yes l) = good (write v) rest l refl
    pick (no l) = bad (rw (le-ltb (suc (length rest)) 1 (omega arith), le-leb 64 v (omega arith)))
seen (suc (suc (suc (suc (suc zero)))) ∷ rest) b = good begin rest tt refl
seen (suc (suc (suc (suc (suc (suc zero))))) ∷ rest) b = good commit rest tt refl
seen (suc (suc (suc (suc (suc (suc (suc zero)))))) ∷ []) b = bad refl
seen (suc (suc (suc (suc (suc (suc (suc zero)))))) ∷ x ∷ []) b = bad refl
seen (suc (suc (suc (suc (suc (suc (suc zero)))))) ∷ x ∷ y ∷ rest) b =
    let b₁ = bytes_tail b in
    let px : x < 256 = bytes_head b₁ in
    let py : y < 256 = bytes_head (bytes_tail b₁) in
    good (fork (x * 256 + y)) rest (omega arith) (sym (ap (λ (l : List ℕ). 7 ∷ (l ++ rest)) (bytes16_number16 x y px py)))
seen (suc (suc (suc (suc (suc (suc (suc (suc k))))))) ∷ rest) b =
    bad (rw (lt-leb (suc (suc (suc (suc (suc (suc (suc (suc k)))))))) 7 (omega arith), le-leb 1 (suc (suc (suc (suc (suc (suc (suc (suc k)))))))) (omega arith)))
