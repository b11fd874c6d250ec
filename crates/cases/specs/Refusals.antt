-- Document 01, "Turning a job down", and document 02 No. 3's 14: for each refusal a row of its place, rows of its limit from both sides, and rows
-- of its order against its neighbours. The right sides were found by hand from the papers. Rows that stand in another table are named, not repeated.
use Rattle.std.specs.Prelude.{ℕ, zero, suc, ◌≡◌, List, [], ◌∷◌, ◌++◌, pos, replicate}
use Rattle.cases.specs.Inputs.{header, accepted, code_for, seven, seven_code, five_forks, nest_code, times}
use Rattle.cases.specs.Forecasts.{one}
use Rattle.cases.specs.LongTransactions.{sums, sums_bytes, full, full_bytes, writes_bytes, header16, too_long_job}
use Rattle.code.specs.Reader.{read_code}
use Rattle.compiler.specs.CompileTo.{compile_to}
use Rattle.decompiler.specs.ReadBackTo.{read_back_to}
use Rattle.delivery.specs.Delivered.{delivered}
use Rattle.script.specs.Outcome as answer
use Rattle.listing.specs.Listed.{ascii, listed}
use Rattle.script.specs.Outcome.{refused, done}
use Rattle.script.specs.Reader.{read_job}
use Rattle.script.specs.Tree.{Tran, AddT, Read, Write, ValT, Proc, ValP, AddP, Atomic, Fork}

-- ---- jobs
-- mark `WSJ`, this version, one node, VALP 7
abbrev pub versioned : (high low : ℕ) → List ℕ
versioned high low = 0x57 ∷ 0x53 ∷ 0x4A ∷ high ∷ low ∷ 0x00 ∷ 0x01 ∷ 0x01 ∷ 0x00 ∷ 0x00 ∷ 0x00 ∷ 0x07 ∷ []

-- these three bytes as the mark, version 1, one node, VALP 7
abbrev pub marked : (a b c : ℕ) → List ℕ
marked a b c = a ∷ b ∷ c ∷ 0x00 ∷ 0x01 ∷ 0x00 ∷ 0x01 ∷ 0x01 ∷ 0x00 ∷ 0x00 ∷ 0x00 ∷ 0x07 ∷ []

-- so many ADDPs, each the left part of the one before: the next node is due behind them, its depth one more than their number
abbrev pub under : ℕ → List ℕ → List ℕ
under n nodes = header 200 (replicate n 0x02 ++ nodes)

-- ATOMIC and so many ADDTs likewise: its depth is two more than their number
abbrev pub under_atomic : ℕ → List ℕ → List ℕ
under_atomic n nodes = header 200 (0x03 ∷ (replicate n 0x06 ++ nodes))

-- 15 FORKs, each inside the one before, and so many ADDPs
abbrev pub under_forks : ℕ → List ℕ → List ℕ
under_forks n nodes = header 200 (replicate 15 0x04 ++ (replicate n 0x02 ++ nodes))

-- VALP 1, so many times summed onto VALP 1: the last node's depth is one more; six bytes for each sum, and five
unfoldable pub deep : ℕ → Proc
deep zero = ValP (pos 1)
deep (suc n) = AddP (ValP (pos 1)) (deep n)

-- its nodes' bytes
unfoldable pub deep_bytes : ℕ → List ℕ
deep_bytes zero = one
deep_bytes (suc n) = 0x02 ∷ (one ++ deep_bytes n)

-- WRITE 0, so many times, of READ 5
unfoldable pub writes : ℕ → Tran
writes zero = Read 5
writes (suc n) = Write 0 (writes n)

-- FORK (VALP 1), so many times summed onto FORK (VALP 1): seven bytes for each sum, and six
unfoldable pub forked : ℕ → Proc
forked zero = Fork (ValP (pos 1))
forked (suc n) = AddP (Fork (ValP (pos 1))) (forked n)

-- its nodes' bytes
unfoldable pub forked_bytes : ℕ → List ℕ
forked_bytes zero = 0x04 ∷ one
forked_bytes (suc n) = 0x02 ∷ 0x04 ∷ (one ++ forked_bytes n)

-- 191 nodes
abbrev pub part : Tran
part = AddT (sums 47) (sums 47)

-- their bytes
abbrev pub part_bytes : List ℕ
part_bytes = 0x06 ∷ (sums_bytes 47 ++ sums_bytes 47)

-- with `part` 1,000 nodes: 4 ADDPs, 4 ATOMICs of 200 nodes each, an ATOMIC of 191; in 4 + 4 × 302 + 288 bytes. And 1,001: one WRITE more, in 2
-- bytes more
abbrev pub four_and : Tran → Proc
four_and t = AddP (AddP (Atomic full) (Atomic full)) (AddP (AddP (Atomic full) (Atomic full)) (Atomic t))

-- its nodes' bytes
abbrev pub four_and_bytes : List ℕ → List ℕ
four_and_bytes bs =
    0x02 ∷ 0x02 ∷ 0x03 ∷ (full_bytes ++ (0x03 ∷ (full_bytes ++ (0x02 ∷ 0x02 ∷ 0x03 ∷ (full_bytes ++ (0x03 ∷ (full_bytes ++ (0x03 ∷ bs))))))))

-- 1 to 9 of a job
pub record JobRefusals : Type 0 where
  -- ---- 1, "bytes end too early", at "the input's length" (no bytes, and no byte left for a part: `no_bytes` and `no_byte_left` in Cases)
  -- "fewer than 7 bytes is 1": six, and seven, behind which "no byte is left" for the root
  pub six_bytes : read_job (0x57 ∷ 0x53 ∷ 0x4A ∷ 0x00 ∷ 0x01 ∷ 0x00 ∷ []) ≡ refused 1 6
  pub seven_bytes : read_job (header 1 []) ≡ refused 1 7
  -- "then 2": six and seven bytes without the mark; six with version 0
  pub six_unmarked : read_job (replicate 6 0x00) ≡ refused 1 6
  pub seven_unmarked : read_job (replicate 7 0x00) ≡ refused 2 0
  pub six_unversioned : read_job (0x57 ∷ 0x53 ∷ 0x4A ∷ 0x00 ∷ 0x00 ∷ 0x00 ∷ []) ≡ refused 1 6
  -- "1 if its operand is cut": VALP with none of four bytes, and three (four: `seven_read` in Cases); VALT with three; READ and WRITE with none
  pub cut_valp : read_job (header 1 (0x01 ∷ [])) ≡ refused 1 8
  pub cut_valp_3 : read_job (header 1 (0x01 ∷ 0x00 ∷ 0x00 ∷ 0x00 ∷ [])) ≡ refused 1 11
  pub cut_valt_3 : read_job (header 2 (0x03 ∷ 0x05 ∷ 0x00 ∷ 0x00 ∷ 0x00 ∷ [])) ≡ refused 1 12
  pub valt_4 : read_job (header 2 (0x03 ∷ 0x05 ∷ 0x00 ∷ 0x00 ∷ 0x00 ∷ 0x07 ∷ [])) ≡ accepted (Atomic (ValT (pos 7)))
  pub cut_read : read_job (header 2 (0x03 ∷ 0x07 ∷ [])) ≡ refused 1 9
  pub cut_write : read_job (header 3 (0x03 ∷ 0x08 ∷ [])) ≡ refused 1 9
  -- ---- 2, "not `WSJ`", at 0: each byte of the mark (all right: `seven_read` in Cases)
  pub first_byte : read_job (marked 0x56 0x53 0x4A) ≡ refused 2 0
  pub second_byte : read_job (marked 0x57 0x54 0x4A) ≡ refused 2 0
  pub third_byte : read_job (marked 0x57 0x53 0x43) ≡ refused 2 0
  -- "then 2, 3, 4": mark and version wrong; mark and count wrong
  pub mark_and_version : read_job (0x57 ∷ 0x53 ∷ 0x43 ∷ 0x00 ∷ 0x02 ∷ 0x00 ∷ 0x01 ∷ []) ≡ refused 2 0
  pub mark_and_count : read_job (0x57 ∷ 0x53 ∷ 0x43 ∷ 0x00 ∷ 0x01 ∷ 0x00 ∷ 0x00 ∷ []) ≡ refused 2 0
  -- ---- 3, "not 1", at 3: 0 and 2 (1: `seven_read` in Cases); 256 and 257, "the high byte first"
  pub version_0 : read_job (versioned 0x00 0x00) ≡ refused 3 3
  pub version_2 : read_job (versioned 0x00 0x02) ≡ refused 3 3
  pub version_256 : read_job (versioned 0x01 0x00) ≡ refused 3 3
  pub version_257 : read_job (versioned 0x01 0x01) ≡ refused 3 3
  -- version and count wrong
  pub version_and_count : read_job (0x57 ∷ 0x53 ∷ 0x4A ∷ 0x00 ∷ 0x02 ∷ 0x00 ∷ 0x00 ∷ []) ≡ refused 3 3
  -- ---- 4, "node count 0 or above 1,000", at 5 (0: `no_count` in Cases; 1: `seven_read`): 1,000, which is accepted; 1,001, and 65,535
  pub count_1000 : read_job (header16 0x03 0xE8 (four_and_bytes part_bytes)) ≡ accepted (four_and part)
  pub count_1001 : read_job (header16 0x03 0xE9 (four_and_bytes (0x08 ∷ 0 ∷ part_bytes))) ≡ refused 4 5
  pub count_65535 : read_job (header16 0xFF 0xFF []) ≡ refused 4 5
  -- 1,001 nodes for a count of 1,000. 4 before the nodes are read: no byte for 1,000 and for 1,001; an unknown kind; count 0 and a node
  pub count_1000_used_up : read_job (header16 0x03 0xE8 (four_and_bytes (0x08 ∷ 0 ∷ part_bytes))) ≡ refused 9 1507
  pub none_of_1000 : read_job (header16 0x03 0xE8 []) ≡ refused 1 7
  pub none_of_1001 : read_job (header16 0x03 0xE9 []) ≡ refused 4 5
  pub unknown_of_1001 : read_job (header16 0x03 0xE9 (0x00 ∷ [])) ≡ refused 4 5
  pub one_of_0 : read_job (header 0 one) ≡ refused 4 5
  -- ---- 5, "unknown kind, or one not permitted there", at "the node's kind byte"
  -- "The root and the parts of ADDP and FORK are processes (kinds 1 to 4)": 0, 5, 8, 9, 255 as root (1 to 3 are accepted in Cases, 4 below)
  pub root_0 : read_job (header 1 (0 ∷ [])) ≡ refused 5 7
  pub root_5 : read_job (header 1 (5 ∷ 0 ∷ 0 ∷ 0 ∷ 7 ∷ [])) ≡ refused 5 7
  pub root_8 : read_job (header 2 (8 ∷ 0 ∷ 7 ∷ 0 ∷ [])) ≡ refused 5 7
  pub root_9 : read_job (header 1 (9 ∷ [])) ≡ refused 5 7
  pub root_255 : read_job (header 1 (255 ∷ [])) ≡ refused 5 7
  pub left_of_addp : read_job (header 3 (0x02 ∷ 0x05 ∷ [])) ≡ refused 5 8
  pub right_of_addp : read_job (header 3 (0x02 ∷ (one ++ (0x05 ∷ [])))) ≡ refused 5 13
  pub in_fork : read_job (header 2 (0x04 ∷ 0x05 ∷ [])) ≡ refused 5 8
  -- "The parts of ATOMIC, ADDT and WRITE are transactions (5 to 8)": 0, 1, 4, 9 in ATOMIC; 4 in the others
  pub in_atomic_0 : read_job (header 2 (0x03 ∷ 0 ∷ [])) ≡ refused 5 8
  pub in_atomic_1 : read_job (header 2 (0x03 ∷ one)) ≡ refused 5 8
  pub in_atomic_4 : read_job (header 3 (0x03 ∷ 4 ∷ one)) ≡ refused 5 8
  pub in_atomic_9 : read_job (header 2 (0x03 ∷ 9 ∷ [])) ≡ refused 5 8
  pub left_of_addt : read_job (header 4 (0x03 ∷ 0x06 ∷ 0x04 ∷ [])) ≡ refused 5 9
  pub right_of_addt : read_job (header 4 (0x03 ∷ 0x06 ∷ 0x07 ∷ 5 ∷ 0x04 ∷ [])) ≡ refused 5 11
  pub in_write : read_job (header 3 (0x03 ∷ 0x08 ∷ 0 ∷ 0x04 ∷ [])) ≡ refused 5 10
  -- behind ATOMIC a process is due again, where one was due before it
  pub behind_atomic : read_job (header 4 (0x02 ∷ 0x03 ∷ 0x07 ∷ 5 ∷ 0x07 ∷ 5 ∷ [])) ≡ refused 5 11
  -- "9 if the count is used up" before it; it before 7, before a cut operand, before 6, before 8
  pub used_up_unknown : read_job (header 1 (0x02 ∷ 0 ∷ [])) ≡ refused 9 8
  pub unknown_deep : read_job (under 64 (0 ∷ [])) ≡ refused 5 71
  pub transaction_deep : read_job (under 64 (0x07 ∷ 0 ∷ [])) ≡ refused 5 71
  pub wrong_and_cut : read_job (header 1 (0x05 ∷ [])) ≡ refused 5 7
  pub wrong_and_register : read_job (header 1 (0x07 ∷ 64 ∷ [])) ≡ refused 5 7
  pub wrong_sixteenth : read_job (under_forks 0 (0x03 ∷ 0x04 ∷ [])) ≡ refused 5 23
  -- ---- 6, "64 or more", at "the register byte" (63 and 64, read and written: Cases); 255
  pub register_255 : read_job (header 2 (0x03 ∷ 0x07 ∷ 255 ∷ [])) ≡ refused 6 9
  pub second_register : read_job (header 3 (0x03 ∷ 0x08 ∷ 63 ∷ 0x07 ∷ 64 ∷ [])) ≡ refused 6 11
  -- 7 before it: register 64 at depth 64, and at depth 65; it before 9
  pub register_64_at_64 : read_job (under_atomic 62 (0x07 ∷ 64 ∷ [])) ≡ refused 6 71
  pub register_64_at_65 : read_job (under_atomic 63 (0x07 ∷ 64 ∷ [])) ≡ refused 7 71
  pub register_and_over : read_job (header 2 (0x03 ∷ 0x07 ∷ 64 ∷ 0x00 ∷ [])) ≡ refused 6 9
  -- ---- 7, "a node at depth 65", at "the node's kind byte"
  -- sums to the right: the last node at depth 64, and the left part of the 64th ADDP at 65; sums to the left; WRITEs, and sums to the right, in an
  -- ATOMIC; FORKs before the sums
  pub depth_64 : read_job (header 127 (deep_bytes 63)) ≡ accepted (deep 63)
  pub depth_65 : read_job (header 129 (deep_bytes 64)) ≡ refused 7 386
  pub left_64 : read_job (under 63 one) ≡ refused 1 75
  pub left_65 : read_job (under 64 one) ≡ refused 7 71
  pub writes_64 : read_job (header 64 (0x03 ∷ writes_bytes 62)) ≡ accepted (Atomic (writes 62))
  pub writes_65 : read_job (header 65 (0x03 ∷ writes_bytes 63)) ≡ refused 7 134
  pub sums_64 : read_job (header 126 (0x03 ∷ sums_bytes 62)) ≡ accepted (Atomic (sums 62))
  pub sums_65 : read_job (header 128 (0x03 ∷ sums_bytes 63)) ≡ refused 7 195
  pub forks_64 : read_job (under_forks 48 one) ≡ refused 1 75
  pub forks_65 : read_job (under_forks 49 one) ≡ refused 7 71
  -- 9 and 1 before it: the count used up, no byte left; it before a cut operand and before 8
  pub used_up_deep : read_job (header 64 (replicate 64 0x02 ++ one)) ≡ refused 9 71
  pub none_left_deep : read_job (under 64 []) ≡ refused 1 71
  pub cut_deep : read_job (under 64 (0x01 ∷ [])) ≡ refused 7 71
  pub cut_not_deep : read_job (under 63 (0x01 ∷ [])) ≡ refused 1 71
  pub sixteenth_deep : read_job (under_forks 49 (0x04 ∷ one)) ≡ refused 7 71
  pub sixteenth_not_deep : read_job (under_forks 48 (0x04 ∷ one)) ≡ refused 8 70
  -- ---- 8, "a sixteenth FORK", at "the node's kind byte": 15 and 16, each inside the one before; 15 and 16 side by side
  pub forks_15 : read_job (header 16 (replicate 15 0x04 ++ one)) ≡ accepted (five_forks (five_forks (five_forks (ValP (pos 1)))))
  pub forks_16 : read_job (header 17 (replicate 16 0x04 ++ one)) ≡ refused 8 22
  pub beside_15 : read_job (header 44 (forked_bytes 14)) ≡ accepted (forked 14)
  pub beside_16 : read_job (header 47 (forked_bytes 15)) ≡ refused 8 112
  -- 9 and 1 before it: the count used up, no byte left; it before its part is cut, and before 9
  pub used_up_sixteenth : read_job (header 15 (replicate 16 0x04 ++ one)) ≡ refused 9 22
  pub no_sixteenth : read_job (header 17 (replicate 15 0x04)) ≡ refused 1 22
  pub sixteenth_cut : read_job (header 17 (replicate 16 0x04)) ≡ refused 8 22
  pub sixteenth_and_over : read_job (header 17 (replicate 16 0x04 ++ (one ++ (0 ∷ [])))) ≡ refused 8 22
  -- ---- 9, "where the next node is due or where the tree ended" (used up, and before 1: `count_used_up` in Cases)
  pub used_up_later : read_job (header 2 (0x02 ∷ (one ++ one))) ≡ refused 9 13
  pub used_up_cut : read_job (header 2 (0x02 ∷ (one ++ (0x01 ∷ [])))) ≡ refused 9 13
  -- "9 if nodes or bytes are left over": a node, a byte, both; nothing
  pub node_over : read_job (header 2 one) ≡ refused 9 12
  pub byte_over : read_job (header 1 (one ++ (0 ∷ []))) ≡ refused 9 12
  pub both_over : read_job (header 2 (one ++ one)) ≡ refused 9 12
  pub none_over : read_job (header 1 one) ≡ accepted (ValP (pos 1))
  -- ---- 14, document 02 No. 3: its rows stand in LongTransactions, 200 and 201 nodes, its places, "after the last test for 9 and before 10"

-- ---- outputs, code, picks
-- mark `WSC`, version 1, and these instructions
abbrev pub coded : List ℕ → List ℕ
coded ops = 0x57 ∷ 0x53 ∷ 0x43 ∷ 0x00 ∷ 0x01 ∷ ops

-- PUSH 7
abbrev pub push7 : List ℕ
push7 = 0x01 ∷ 0x00 ∷ 0x00 ∷ 0x00 ∷ 0x07 ∷ []

-- the code of VALP 7 with these three bytes as its mark
abbrev pub marked_code : (a b c : ℕ) → List ℕ
marked_code a b c = a ∷ b ∷ c ∷ 0x00 ∷ 0x01 ∷ push7

-- and with this version
abbrev pub versioned_code : (high low : ℕ) → List ℕ
versioned_code high low = 0x57 ∷ 0x53 ∷ 0x43 ∷ high ∷ low ∷ push7

-- so many bytes
abbrev pub tray : ℕ → List ℕ
tray n = replicate n 0xAA

-- 10, 11 and 13 of the calls
pub record CallRefusals : Type 0 where
  -- ---- 10, "output shorter than the result", at 0
  -- compiling VALP 7 gives ten bytes, reading back twelve, the listing of no input 15: an output as long, one byte shorter, and one longer
  pub compile_10 : compile_to seven (tray 10) ≡ record { answer = answer.done 10; output = seven_code }
  pub compile_9 : compile_to seven (tray 9) ≡ record { answer = answer.refused 10 0; output = tray 9 }
  pub compile_11 : compile_to seven (tray 11) ≡ record { answer = answer.done 10; output = seven_code ++ tray 1 }
  pub back_12 : read_back_to seven_code (tray 12) ≡ record { answer = answer.done 12; output = seven }
  pub back_11 : read_back_to seven_code (tray 11) ≡ record { answer = answer.refused 10 0; output = tray 11 }
  pub back_13 : read_back_to seven_code (tray 13) ≡ record { answer = answer.done 12; output = seven ++ tray 1 }
  pub report_15 : delivered (done (listed [])) (tray 15) ≡ record { answer = answer.done 15; output = ascii "refused 1 at 0\n" }
  pub report_14 : delivered (done (listed [])) (tray 14) ≡ record { answer = answer.refused 10 0; output = tray 14 }
  -- 1 to 9 before it (14 before it: `no_output` in LongTransactions); 11 before it
  pub cut_no_output : compile_to [] [] ≡ record { answer = answer.refused 1 0; output = [] }
  pub over_no_output : compile_to (header 1 (one ++ (0 ∷ []))) [] ≡ record { answer = answer.refused 9 12; output = [] }
  pub foreign_no_output : read_back_to (coded []) [] ≡ record { answer = answer.refused 11 0; output = [] }
  -- ---- 11, "no accepted job compiles to it", at 0 (before 12 and 13: `step_11`, `run_11`, `fresh_11` in Cases; 200 and 201 nodes: LongTransactions)
  -- the smallest code; mark and version alone; one byte less
  pub code_least : read_code (coded push7) ≡ accepted (ValP (pos 7))
  pub code_empty : read_code (coded []) ≡ refused 11 0
  pub code_cut : read_code (0x57 ∷ 0x53 ∷ 0x43 ∷ 0x00 ∷ []) ≡ refused 11 0
  -- each byte of the mark; versions 0, 2, 256, 257
  pub code_first_byte : read_code (marked_code 0x56 0x53 0x43) ≡ refused 11 0
  pub code_second_byte : read_code (marked_code 0x57 0x54 0x43) ≡ refused 11 0
  pub code_third_byte : read_code (marked_code 0x57 0x53 0x4A) ≡ refused 11 0
  pub code_version_0 : read_code (versioned_code 0x00 0x00) ≡ refused 11 0
  pub code_version_2 : read_code (versioned_code 0x00 0x02) ≡ refused 11 0
  pub code_version_256 : read_code (versioned_code 0x01 0x00) ≡ refused 11 0
  pub code_version_257 : read_code (versioned_code 0x01 0x01) ≡ refused 11 0
  -- opcodes 0 and 8; a cut operand of PUSH, READ, FORK
  pub opcode_0 : read_code (coded (0 ∷ [])) ≡ refused 11 0
  pub opcode_8 : read_code (coded (push7 ++ (8 ∷ []))) ≡ refused 11 0
  pub push_cut : read_code (coded (0x01 ∷ 0x00 ∷ 0x00 ∷ 0x00 ∷ [])) ≡ refused 11 0
  pub read_cut : read_code (coded (0x05 ∷ 0x03 ∷ [])) ≡ refused 11 0
  pub fork_cut : read_code (coded (0x07 ∷ 0x00 ∷ [])) ≡ refused 11 0
  -- registers 63 and 64, read and written
  pub code_read_63 : read_code (coded (0x05 ∷ 0x03 ∷ 63 ∷ 0x06 ∷ [])) ≡ accepted (Atomic (Read 63))
  pub code_read_64 : read_code (coded (0x05 ∷ 0x03 ∷ 64 ∷ 0x06 ∷ [])) ≡ refused 11 0
  pub code_write_63 : read_code (coded (0x05 ∷ 0x03 ∷ 0 ∷ 0x04 ∷ 63 ∷ 0x06 ∷ [])) ≡ accepted (Atomic (Write 63 (Read 0)))
  pub code_write_64 : read_code (coded (0x05 ∷ 0x03 ∷ 0 ∷ 0x04 ∷ 64 ∷ 0x06 ∷ [])) ≡ refused 11 0
  -- "its result is the one number left on its stack": a sum of one number; two numbers left; a sum across BEGIN; two in a transaction, and none
  pub sum_of_one : read_code (coded (push7 ++ (0x02 ∷ []))) ≡ refused 11 0
  pub two_left : read_code (coded (push7 ++ push7)) ≡ refused 11 0
  pub sum_across : read_code (coded (push7 ++ (0x05 ∷ (push7 ++ (0x02 ∷ 0x06 ∷ []))))) ≡ refused 11 0
  pub two_inside : read_code (coded (0x05 ∷ (push7 ++ (push7 ++ (0x06 ∷ []))))) ≡ refused 11 0
  pub none_inside : read_code (coded (0x05 ∷ 0x06 ∷ [])) ≡ refused 11 0
  -- "ATOMIC is BEGIN, the transaction's code, COMMIT": READ and WRITE outside, COMMIT without BEGIN, BEGIN without COMMIT, BEGIN and FORK inside
  pub read_outside : read_code (coded (0x03 ∷ 0 ∷ [])) ≡ refused 11 0
  pub write_outside : read_code (coded (push7 ++ (0x04 ∷ 0 ∷ []))) ≡ refused 11 0
  pub commit_outside : read_code (coded (push7 ++ (0x06 ∷ []))) ≡ refused 11 0
  pub never_committed : read_code (coded (0x05 ∷ push7)) ≡ refused 11 0
  pub begin_inside : read_code (coded (0x05 ∷ 0x05 ∷ (push7 ++ (0x06 ∷ 0x06 ∷ [])))) ≡ refused 11 0
  pub fork_inside : read_code (coded (0x05 ∷ 0x07 ∷ 0x00 ∷ 0x05 ∷ (push7 ++ (0x06 ∷ [])))) ≡ refused 11 0
  -- "of exactly the stated length in bytes": five, four, six, none
  pub child_5 : read_code (coded (0x07 ∷ 0x00 ∷ 0x05 ∷ push7)) ≡ accepted (Fork (ValP (pos 7)))
  pub child_4 : read_code (coded (0x07 ∷ 0x00 ∷ 0x04 ∷ push7)) ≡ refused 11 0
  pub child_6 : read_code (coded (0x07 ∷ 0x00 ∷ 0x06 ∷ push7)) ≡ refused 11 0
  pub child_0 : read_code (coded (0x07 ∷ 0x00 ∷ 0x00 ∷ push7)) ≡ refused 11 0
  -- code of jobs that 7, 8 and 4 turn down, and of those one below: depth 64 and 65, 15 and 16 FORKs, 1,000 and 1,001 nodes
  pub code_depth_64 : read_code (code_for (deep 63)) ≡ accepted (deep 63)
  pub code_depth_65 : read_code (code_for (deep 64)) ≡ refused 11 0
  pub code_forks_15 : read_code nest_code ≡ accepted (five_forks (five_forks (five_forks (ValP (pos 1)))))
  pub code_forks_16 : read_code (code_for (Fork (five_forks (five_forks (five_forks (ValP (pos 1))))))) ≡ refused 11 0
  pub code_nodes_1000 : read_code (code_for (four_and part)) ≡ accepted (four_and part)
  pub code_nodes_1001 : read_code (code_for (four_and (Write 0 part))) ≡ refused 11 0
  -- ---- 12, "does not fit the code", at 0: its rows stand in Cases, Overflows, Rules and Staleness; before 13: `run_12` in Cases
  -- ---- 13, "more than 32,768 picks", at 0 (32,768, 32,769, and behind 11 and 12: Cases)
  -- the run program: 32,769 picks behind a job, behind a job without its mark, and behind one with 201 nodes in a transaction
  pub long_listing : listed (0x00 ∷ 0x0C ∷ (seven ++ times 32769 0)) ≡ ascii "refused 13 at 0\n"
  pub mark_before_list : listed (0x00 ∷ 0x0C ∷ (marked 0x57 0x53 0x43 ++ times 32769 0)) ≡ ascii "refused 2 at 0\n"
  pub transaction_before_list : listed (0x01 ∷ 0x37 ∷ (too_long_job ++ times 32769 0)) ≡ ascii "refused 14 at 7\n"
