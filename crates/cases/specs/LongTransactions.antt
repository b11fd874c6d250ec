-- Document 02 No. 3: worked cases of transactions of 200 and of 201 nodes. The right sides were counted by hand.
use Rattle.std.specs.Prelude.{ℕ, zero, suc, ◌≡◌, List, [], ◌∷◌, ◌++◌, pos}
use Rattle.cases.specs.Inputs.{accepted, code_for}
use Rattle.cases.specs.Forecasts.{one, nothing_but}
use Rattle.code.specs.Reader.{read_code}
use Rattle.compiler.specs.CompileTo.{compile_to}
use Rattle.script.specs.Outcome as answer
use Rattle.forecast.specs.Figures.{forecast_of}
use Rattle.listing.specs.Listed.{ascii, listed}
use Rattle.script.specs.Outcome.{refused}
use Rattle.script.specs.Reader.{read_job}
use Rattle.script.specs.Tree.{Tran, AddT, Read, Write, ValP, AddP, Atomic, Fork}

-- READ 5, so many times summed onto READ 5: one node, and two for each sum; two bytes, and three for each sum
unfoldable pub sums : ℕ → Tran
sums zero = Read 5
sums (suc n) = AddT (Read 5) (sums n)

-- its bytes in the job
unfoldable pub sums_bytes : ℕ → List ℕ
sums_bytes zero = 0x07 ∷ 5 ∷ []
sums_bytes (suc n) = 0x06 ∷ 0x07 ∷ 5 ∷ sums_bytes n

-- 1 + 1 + 99 + 99 nodes in 2 + 1 + 149 + 149 bytes; and one node more, in 2 bytes more
abbrev pub full : Tran
full = Write 0 (AddT (sums 49) (sums 49))

-- the bytes of the 200 nodes
abbrev pub full_bytes : List ℕ
full_bytes = 0x08 ∷ 0 ∷ 0x06 ∷ (sums_bytes 49 ++ sums_bytes 49)

-- 201 nodes
abbrev pub too_long : Tran
too_long = Write 1 full

-- and their bytes
abbrev pub too_long_bytes : List ℕ
too_long_bytes = 0x08 ∷ 1 ∷ full_bytes

-- WRITE 0, so many times, of READ 5
unfoldable pub writes_bytes : ℕ → List ℕ
writes_bytes zero = 0x07 ∷ 5 ∷ []
writes_bytes (suc n) = 0x08 ∷ 0 ∷ writes_bytes n

-- job version 1, and a node count of two bytes
abbrev pub header16 : (high low : ℕ) → List ℕ → List ℕ
header16 high low nodes = 0x57 ∷ 0x53 ∷ 0x4A ∷ 0x00 ∷ 0x01 ∷ high ∷ low ∷ nodes

-- ATOMIC of 200 nodes, and of 201, in 302 and 304 bytes
abbrev pub full_job : List ℕ
full_job = header16 0 201 (0x03 ∷ full_bytes)

-- ATOMIC of 201 nodes
abbrev pub too_long_job : List ℕ
too_long_job = header16 0 202 (0x03 ∷ too_long_bytes)

-- what the job reader, compiling, the forecast, the run program and the code reader say of them, on the left, and document 02 No. 3, on the right
pub record LongTransactionCases : Type 0 where
  -- "A transaction may hold at most 200 nodes, ATOMIC not counted"
  pub most : read_job full_job ≡ accepted (Atomic full)
  pub one_more : read_job too_long_job ≡ refused 14 7
  -- "after the last test for 9": a byte too many, where the tree ended; a count one too large, and one too small, where its last node is due
  pub byte_over : read_job (too_long_job ++ (0x00 ∷ [])) ≡ refused 9 311
  pub count_over : read_job (header16 0 203 (0x03 ∷ too_long_bytes)) ≡ refused 9 311
  pub count_short : read_job (header16 0 201 (0x03 ∷ too_long_bytes)) ≡ refused 9 309
  -- behind a long one: a register 64, and a node at depth 65
  pub register_behind : read_job (header16 0 205 (0x02 ∷ 0x03 ∷ (too_long_bytes ++ (0x03 ∷ 0x07 ∷ 64 ∷ [])))) ≡ refused 6 314
  pub depth_behind : read_job (header16 1 11 (0x02 ∷ 0x03 ∷ (too_long_bytes ++ (0x03 ∷ writes_bytes 62)))) ≡ refused 7 437
  -- "the first ATOMIC concerned": only the second of two is too long; both are; the one in a FORK's child, behind a VALP
  pub second : read_job (header16 1 148 (0x02 ∷ 0x03 ∷ (full_bytes ++ (0x03 ∷ too_long_bytes)))) ≡ refused 14 310
  pub first : read_job (header16 1 149 (0x02 ∷ 0x03 ∷ (too_long_bytes ++ (0x03 ∷ too_long_bytes)))) ≡ refused 14 8
  pub in_child : read_job (header16 0 205 (0x02 ∷ (one ++ (0x04 ∷ 0x03 ∷ too_long_bytes)))) ≡ refused 14 14
  -- each ATOMIC is counted for itself: 99 and 199 nodes, and ADDP, FORK and VALP besides
  pub apart :
      read_job (header16 1 48 (0x02 ∷ 0x02 ∷ 0x03 ∷ (sums_bytes 49 ++ (0x04 ∷ 0x03 ∷ 0x06 ∷ (sums_bytes 49 ++ (sums_bytes 49 ++ one)))))) ≡
      accepted (AddP (AddP (Atomic (sums 49)) (Fork (Atomic (AddT (sums 49) (sums 49))))) (ValP (pos 1)))
  -- "before 10": an empty output
  pub no_output : compile_to too_long_job [] ≡ record { answer = answer.refused 14 7; output = [] }
  pub full_output : compile_to full_job [] ≡ record { answer = answer.refused 10 0; output = [] }
  -- M is 202; the forecast and the run program refuse with 14 too
  pub most_forecast : (forecast_of (read_job full_job)).longest ≡ 202
  pub more_forecast : forecast_of (read_job too_long_job) ≡ nothing_but 14 7
  pub more_listing : listed (0x01 ∷ 0x37 ∷ (too_long_job ++ (0 ∷ 0 ∷ []))) ≡ ascii "refused 14 at 7\n"
  -- "Code of a longer one is foreign code from now on"
  pub most_code : read_code (code_for (Atomic full)) ≡ accepted (Atomic full)
  pub more-code : read_code (code_for (Atomic too_long)) ≡ refused 11 0
  pub child_code : read_code (code_for (AddP (Atomic full) (Fork (Atomic too_long)))) ≡ refused 11 0
