-- Numbers of two and four bytes are read back as they were written, and written back as they were read. Assumes nothing.
use Prim.Native.Nat.{ℕ, suc, ◌+◌, ◌*◌, ◌/◌, ◌%◌, ◌^◌, ◌<◌}
use mathlib.Core.Path.{◌≡◌, ap, ◌∙◌}
use mathlib.Core.List.{List, [], ◌∷◌, ◌++◌}
use native.Mathlib.Nat.{div-add-mod', div-div-eq-div-mul}
use native.Mathlib.Omega.{arith}
use lib.IntN.{ℤ}
use lib.ListN.{drop, get_or, length-drop}
use lib.Seq.{get_or-drop}
use mir.Syntax.{w8}
use mir.Val.{Fits}
use Rattle.script.specs.Bytes.{Bytes, bytes16, bytes32}
use Rattle.script.specs.Jobs.{number16, number32}
use Rattle.word.specs.Sum.{InRange, residue, signed}
use Rattle.word.proofs.Sums.{residue_small, residue_signed, signed_residue}

pub number16_bytes16 : (n : ℕ) → n < 65536 → (rest : List ℕ) → number16 (bytes16 n ++ rest) 0 ≡ n
unfolding bytes16
number16_bytes16 n h rest = omega arith

pub number32_bytes32 : (n : ℕ) → n < 2 ^ 32 → (rest : List ℕ) → number32 (bytes32 n ++ rest) ≡ n
unfolding bytes32
number32_bytes32 n h rest =
    let e : n / 65536 * 256 + n / 256 % 256 ≡ n / 256 = rw (div-div-eq-div-mul n 256 256) at (div-add-mod' (n / 256) 256) in
    let f : n / 16777216 * 256 + n / 65536 % 256 ≡ n / 65536 = rw (div-div-eq-div-mul n 65536 256) at (div-add-mod' (n / 65536) 256) in
    let g : n / 16777216 % 256 ≡ n / 16777216 = omega arith in
    let k : n / 256 * 256 + n % 256 ≡ n = div-add-mod' n 256 in
    rw (g, f, e) k

-- a number in range, from its four bytes
pub number_read : (z : ℤ) → InRange z → (rest : List ℕ) → signed (number32 (bytes32 (residue z) ++ rest)) ≡ z
number_read z h rest = ap signed (number32_bytes32 (residue z) (residue_small z) rest) ∙ signed_residue z h

pub bytes16_number16 : (a b : ℕ) → a < 256 → b < 256 → bytes16 (a * 256 + b) ≡ a ∷ b ∷ []
unfolding bytes16
bytes16_number16 a b p q =
    let e : (a * 256 + b) / 256 % 256 ≡ a = omega arith in
    let f : (a * 256 + b) % 256 ≡ b = omega arith in
    rw (e, f)

module _ (a b c d : ℕ) (pa : a < 256) (pb : b < 256) (pc : c < 256) (pd : d < 256) where
  pub small32 : ((a * 256 + b) * 256 + c) * 256 + d < 2 ^ 32
  small32 = omega arith

  pub bytes32_number32 : bytes32 (((a * 256 + b) * 256 + c) * 256 + d) ≡ a ∷ b ∷ c ∷ d ∷ []
  unfolding bytes32
  bytes32_number32 =
      let n : ℕ = ((a * 256 + b) * 256 + c) * 256 + d in
      let e : n / 16777216 % 256 ≡ a = omega arith in
      let f : n / 65536 % 256 ≡ b = omega arith in
      let g : n / 256 % 256 ≡ c = omega arith in
      let h : n % 256 ≡ d = omega arith in
      rw (e, f, g, h)

  -- four bytes, from the number that they hold
  pub number_written : bytes32 (residue (signed (((a * 256 + b) * 256 + c) * 256 + d))) ≡ a ∷ b ∷ c ∷ d ∷ []
  number_written = ap bytes32 (residue_signed (((a * 256 + b) * 256 + c) * 256 + d) small32) ∙ bytes32_number32

-- a lent slice of bytes is bytes
pub bytes_of : (bs : List ℕ) → ((i : ℕ) → Fits w8 (get_or bs i 0)) → Bytes bs
bytes_of bs h = record { small = λ i l. omega (arith, h i) }

-- the bytes behind the first n are bytes, and so are those behind a first one
pub bytes_drop : {bs : List ℕ} (n : ℕ) → Bytes bs → Bytes (drop n bs)
bytes_drop {bs} n h =
    record { small = λ i l. rw (get_or-drop n bs i 0) (h.small (n + i) (omega (arith, rw (length-drop n bs) at l))) }

pub bytes_tail : {b : ℕ} {bs : List ℕ} → Bytes (b ∷ bs) → Bytes bs
bytes_tail h = record { small = λ i l. h.small (suc i) (omega arith) }

pub bytes_head : {b : ℕ} {bs : List ℕ} → Bytes (b ∷ bs) → b < 256
bytes_head h = h.small 0 (omega arith)
