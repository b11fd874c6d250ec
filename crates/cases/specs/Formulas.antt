-- Document 02 No. 7: worked cases of scripts typed as formulas. The right sides were found by hand from the request.
use Rattle.std.specs.Prelude.{ℕ, zero, suc, ◌≡◌, List, [], ◌∷◌, ◌++◌, pos, negsuc, replicate}
use Rattle.cases.specs.Inputs.{header, seven, increment, increment_bytes, whole_job}
use Rattle.script.specs.Outcome as answer
use Rattle.formula.specs.FormulaTo.{formula_of, formula_to}
use Rattle.grammar.specs.Grammar.{plus_sign, opening, closing, becomes, fork_word, atomic_word}
use Rattle.grammar.specs.Printed.{printed}
use Rattle.listing.specs.Listed.{ascii}
use Rattle.script.specs.Bytes.{job_bytes}
use Rattle.script.specs.Outcome.{Outcome, refused, done}
use Rattle.script.specs.Tree.{Tran, ValT, AddT, Read, Write, Proc, ValP, AddP, Atomic, Fork}

-- the text is a script, and its job is that of this tree, in version 1
abbrev pub job_for : Proc → Outcome (List ℕ)
job_for p = done (job_bytes 1 p)

-- VALP 1
abbrev pub one_process : Proc
one_process = ValP (pos 1)

-- VALT 1
abbrev pub one_transaction : Tran
one_transaction = ValT (pos 1)

-- a text so many repeated, and then another
unfoldable pub repeated : ℕ → (text rest : List ℕ) → List ℕ
repeated zero text rest = rest
repeated (suc n) text rest = text ++ repeated n text rest

-- a text in so many brackets
abbrev pub in_brackets : ℕ → List ℕ → List ℕ
in_brackets n text = repeated n (ascii "(") (text ++ repeated n (ascii ")") [])

-- so many more ones, joined by `+`
abbrev pub ones : ℕ → List ℕ
ones more = ascii "1" ++ repeated more (ascii "+1") []

-- their tree
unfoldable pub ones_tree : ℕ → Proc
ones_tree zero = one_process
ones_tree (suc n) = AddP (ones_tree n) one_process

-- the same in a transaction
unfoldable pub ones_tran : ℕ → Tran
ones_tran zero = one_transaction
ones_tran (suc n) = AddT (ones_tran n) one_transaction

-- so many writes, one inside the other, of 2
unfoldable pub writes : ℕ → Tran
writes zero = ValT (pos 2)
writes (suc n) = Write 1 (writes n)

-- twice 50 ones of a transaction in brackets: 99 nodes each, and 199 with their sum
abbrev pub many_ones : List ℕ
many_ones = ascii "(" ++ (ones 49 ++ (ascii ")+(" ++ (ones 49 ++ ascii ")")))

-- what a text comes to, on the left, and document 02 No. 7, on the right
pub record FormulaCases : Type 0 where
  -- the words of the grammar
  pub plus-sign : plus_sign ≡ ascii "+"
  pub opening_bracket : opening ≡ ascii "("
  pub closing_bracket : closing ≡ ascii ")"
  pub becomes_sign : becomes ≡ ascii ":="
  pub fork-word : fork_word ≡ ascii "fork"
  pub atomic-word : atomic_word ≡ ascii "atomic"
  -- "a term is a number, a bracketed process, `fork` with a term, or `atomic` with a bracketed transaction"
  pub number : formula_of (ascii "7") ≡ done seven
  pub bracketed : formula_of (ascii "(7)") ≡ done seven
  pub increments : formula_of (ascii "fork atomic(r0 := r0 + 1)") ≡ done (header 6 increment_bytes)
  pub whole_case : formula_of (ascii "fork atomic(r0 := r0 + 1) + fork atomic(r0 := r0 + 1)") ≡ done whole_job
  pub fork_ends : formula_of (ascii "fork 1 + 2") ≡ job_for (AddP (Fork one_process) (ValP (pos 2)))
  pub fork_bracket : formula_of (ascii "fork (1 + 2)") ≡ job_for (Fork (AddP one_process (ValP (pos 2))))
  pub atomic_unbracketed : formula_of (ascii "atomic 1") ≡ refused 15 7
  pub register_outside : formula_of (ascii "1 + r1") ≡ refused 15 4
  pub fork_inside : formula_of (ascii "atomic(fork 1)") ≡ refused 15 7
  pub atomic_inside : formula_of (ascii "atomic(atomic(1))") ≡ refused 15 7
  -- "`r5 := t` writes the transaction t; otherwise terms are joined by `+`, and a term is a number, a register such as `r5`, or a bracketed transaction"
  pub write_takes_all :
      formula_of (ascii "atomic(r1 := r2 := 3 + r4)") ≡ job_for (Atomic (Write 1 (Write 2 (AddT (ValT (pos 3)) (Read 4)))))
  pub write_bracketed : formula_of (ascii "atomic((r1 := 1) + r1)") ≡ job_for (Atomic (AddT (Write 1 one_transaction) (Read 1)))
  pub write_behind_plus : formula_of (ascii "atomic(1 + r1 := 2)") ≡ refused 15 14
  pub write_to_bracket : formula_of (ascii "atomic((r1) := 2)") ≡ refused 15 12
  pub write_of_nothing : formula_of (ascii "atomic(r5:=)") ≡ refused 15 11
  pub write_outside : formula_of (ascii "r1 := 2") ≡ refused 15 0
  pub two_registers : formula_of (ascii "atomic(r1 r2)") ≡ refused 15 10
  pub no_register : formula_of (ascii "atomic(r)") ≡ refused 15 8
  -- "`+` groups to the left"
  pub left : formula_of (ascii "1 + 2 + 3") ≡ job_for (AddP (AddP one_process (ValP (pos 2))) (ValP (pos 3)))
  pub right : formula_of (ascii "1 + (2 + 3)") ≡ job_for (AddP one_process (AddP (ValP (pos 2)) (ValP (pos 3))))
  pub left_inside : formula_of (ascii "atomic(r1 + r2 + r3)") ≡ job_for (Atomic (AddT (AddT (Read 1) (Read 2)) (Read 3)))
  pub no_first : formula_of (ascii "+1") ≡ refused 15 0
  pub no_second : formula_of (ascii "1++2") ≡ refused 15 2
  -- "A number is an optional `-` and decimal digits, in signed 32-bit range"; "leading zeros are allowed"
  pub greatest : formula_of (ascii "2147483647") ≡ job_for (ValP (pos 2147483647))
  pub too_great : formula_of (ascii "2147483648") ≡ refused 15 9
  pub too-long : formula_of (ascii "21474836470") ≡ refused 15 10
  pub least : formula_of (ascii "-2147483648") ≡ job_for (ValP (negsuc 2147483647))
  pub too_little : formula_of (ascii "-2147483649") ≡ refused 15 10
  pub greatest_inside : formula_of (ascii "atomic(2147483647)") ≡ job_for (Atomic (ValT (pos 2147483647)))
  pub too_great_inside : formula_of (ascii "atomic(2147483648)") ≡ refused 15 16
  pub minus_zero : formula_of (ascii "-0") ≡ job_for (ValP (pos 0))
  pub zeros : formula_of (ascii "000000000000007") ≡ done seven
  pub minus_zeros : formula_of (ascii "-0002147483648") ≡ job_for (ValP (negsuc 2147483647))
  pub two_dashes : formula_of (ascii "--1") ≡ refused 15 1
  pub plus_one : formula_of (ascii "1 + +1") ≡ refused 15 4
  pub minus_sum : formula_of (ascii "1-1") ≡ refused 15 1
  -- "registers are 0 to 63"
  pub last_register : formula_of (ascii "atomic(r63)") ≡ job_for (Atomic (Read 63))
  pub register_over : formula_of (ascii "atomic(r64)") ≡ refused 15 9
  pub register_zeros : formula_of (ascii "atomic(r00063)") ≡ job_for (Atomic (Read 63))
  pub register_long : formula_of (ascii "atomic(r630)") ≡ refused 15 10
  pub register_minus : formula_of (ascii "atomic(r-1)") ≡ refused 15 8
  pub target_over : formula_of (ascii "atomic(r64 := 1)") ≡ refused 15 9
  -- "Bytes 32, 10 and 13 may stand before or after a word, number, register, bracket, `+` or `:=`, never inside one, and are never needed"
  pub blanks : formula_of (ascii " \r\n7\n") ≡ done seven
  pub all_around : formula_of (ascii " fork\natomic\r( r0\n:=\rr0 + 1 ) ") ≡ done (header 6 increment_bytes)
  pub none_needed : formula_of (ascii "forkatomic(r0:=r0+1)") ≡ done (header 6 increment_bytes)
  pub forks_joined : formula_of (ascii "forkfork1") ≡ job_for (Fork (Fork one_process))
  pub inside_number : formula_of (ascii "12 3") ≡ refused 15 3
  pub inside_minus : formula_of (ascii "- 1") ≡ refused 15 1
  pub inside_becomes : formula_of (ascii "atomic(r5: =1)") ≡ refused 15 10
  pub inside_register : formula_of (ascii "atomic(r 5)") ≡ refused 15 8
  pub inside_word : formula_of (ascii "fo rk 1") ≡ refused 15 2
  pub tab : formula_of (ascii "\t1") ≡ refused 15 0
  pub byte_11 : formula_of (11 ∷ 49 ∷ []) ≡ refused 15 0
  pub byte_12 : formula_of (12 ∷ 49 ∷ []) ≡ refused 15 0
  pub byte_0 : formula_of (49 ∷ 0 ∷ []) ≡ refused 15 1
  pub high_byte : formula_of (0xC3 ∷ 0xA4 ∷ []) ≡ refused 15 0
  -- "words small letters", "Brackets are round"
  pub great_letters : formula_of (ascii "Fork 1") ≡ refused 15 0
  pub great_register : formula_of (ascii "atomic(R5)") ≡ refused 15 7
  pub square_brackets : formula_of (ascii "[1]") ≡ refused 15 0
  -- "at the first offset where no script .. could go on as this one does, an end too early counting at the text's length"
  pub empty : formula_of [] ≡ refused 15 0
  pub only_blanks : formula_of (ascii "  ") ≡ refused 15 2
  pub cut_word : formula_of (ascii "for") ≡ refused 15 3
  pub cut_fork : formula_of (ascii "fork") ≡ refused 15 4
  pub other_word : formula_of (ascii "form 1") ≡ refused 15 3
  pub cut_atomic : formula_of (ascii "atomi(1)") ≡ refused 15 5
  pub cut_bracket : formula_of (ascii "(1") ≡ refused 15 2
  pub bracket_over : formula_of (ascii "1)") ≡ refused 15 1
  pub empty_bracket : formula_of (ascii "()") ≡ refused 15 1
  pub half_becomes : formula_of (ascii "atomic(r5:") ≡ refused 15 10
  pub only_minus : formula_of (ascii "-") ≡ refused 15 1
  pub cut_sum : formula_of (ascii "1 +") ≡ refused 15 3
  -- "Brackets, forks, atomics and writes open together number at most 64, an atomic and its bracket being two"
  pub brackets_64 : formula_of (in_brackets 64 (ascii "7")) ≡ done seven
  pub brackets_65 : formula_of (in_brackets 65 (ascii "7")) ≡ refused 15 64
  pub not_together : formula_of (in_brackets 64 (ascii "7") ++ (ascii "+" ++ in_brackets 64 (ascii "7"))) ≡ job_for (AddP (ValP (pos 7)) (ValP (pos 7)))
  pub forks_64 : formula_of (repeated 64 (ascii "fork ") (ascii "1")) ≡ refused 8 22
  pub forks_65 : formula_of (repeated 65 (ascii "fork ") (ascii "1")) ≡ refused 15 320
  pub atomic_62 : formula_of (in_brackets 62 (ascii "atomic(1)")) ≡ job_for (Atomic one_transaction)
  pub atomic_63 : formula_of (in_brackets 63 (ascii "atomic(1)")) ≡ refused 15 63
  pub writes_62 : formula_of (ascii "atomic(" ++ repeated 62 (ascii "r1:=") (ascii "2)")) ≡ job_for (Atomic (writes 62))
  pub writes_63 : formula_of (ascii "atomic(" ++ repeated 63 (ascii "r1:=") (ascii "2)")) ≡ refused 15 257
  pub write_61 : formula_of (in_brackets 61 (ascii "atomic(r1 :=2)")) ≡ job_for (Atomic (Write 1 (ValT (pos 2))))
  pub write_62 : formula_of (in_brackets 62 (ascii "atomic(r1 :=2)")) ≡ refused 15 72
  pub read_62 : formula_of (in_brackets 62 (ascii "atomic(r1 +2)")) ≡ job_for (Atomic (AddT (Read 1) (ValT (pos 2))))
  pub fork_63 : formula_of (in_brackets 63 (ascii "fork 1")) ≡ job_for (Fork one_process)
  pub fork_64 : formula_of (in_brackets 64 (ascii "fork 1")) ≡ refused 15 64
  -- a fork is open until its term ends, an atomic until its bracket is shut, a write until its transaction ends
  pub fork_shut : formula_of (ascii "fork 1+" ++ in_brackets 64 (ascii "7")) ≡ job_for (AddP (Fork one_process) (ValP (pos 7)))
  pub atomic_shut : formula_of (ascii "atomic(1)+" ++ in_brackets 64 (ascii "7")) ≡ job_for (AddP (Atomic one_transaction) (ValP (pos 7)))
  pub write_shut :
      formula_of (ascii "atomic((r1:=1)+" ++ (in_brackets 62 (ascii "7") ++ ascii ")")) ≡ job_for (Atomic (AddT (Write 1 one_transaction) (ValT (pos 7))))
  -- "The job refusals follow with places in the job it would make": 64 ADDPs and a node at depth 65; 1,001 nodes; a sixteenth FORK; 200 and 201 nodes
  pub sum_64 : formula_of (ones 63) ≡ job_for (ones_tree 63)
  pub sum_65 : formula_of (ones 64) ≡ refused 7 71
  pub sum_501 : formula_of (ones 500) ≡ refused 4 5
  pub forks_16 : formula_of (ascii "fork 1" ++ repeated 15 (ascii " + fork 1") []) ≡ refused 8 112
  pub long_200 :
      formula_of (ascii "atomic(r0 := " ++ (many_ones ++ ascii ")")) ≡ job_for (Atomic (Write 0 (AddT (ones_tran 49) (ones_tran 49))))
  pub long_201 : formula_of (ascii "atomic(r1 := r0 := " ++ (many_ones ++ ascii ")")) ≡ refused 14 7
  -- 15 "before all others", and "a text above 32,768 bytes is always 15 at 32768"
  pub script_first : formula_of (ones 500 ++ ascii "+") ≡ refused 15 1002
  pub text_32768 : formula_of (replicate 32767 32 ++ ascii "7") ≡ done seven
  pub text_32769 : formula_of (replicate 32769 32) ≡ refused 15 32768
  pub text_wrong : formula_of (ascii "x" ++ replicate 32767 32) ≡ refused 15 0
  pub text_wrong_long : formula_of (ascii "x" ++ replicate 32768 32) ≡ refused 15 32768
  -- then 10; nothing is altered behind the result, and nothing on a refusal
  pub just_enough : formula_to (ascii "7") (replicate 12 0xAA) ≡ record { answer = answer.done 12; output = seven }
  pub short_tray : formula_to (ascii "7") (replicate 11 0xAA) ≡ record { answer = answer.refused 10 0; output = replicate 11 0xAA }
  pub behind : formula_to (ascii "7") (replicate 15 0xAA) ≡ record { answer = answer.done 12; output = seven ++ replicate 3 0xAA }
  pub before_ten : formula_to (ones 64) [] ≡ record { answer = answer.refused 7 71; output = [] }
  pub before_all : formula_to (ascii "1 +") (replicate 2 0xAA) ≡ record { answer = answer.refused 15 3; output = replicate 2 0xAA }
  -- as a tree is printed
  pub prints_increment : printed increment ≡ ascii "fork atomic(r0 := r0 + 1)"
  pub prints_brackets :
      printed (AddP (AddP one_process (Fork (AddP one_process (ValP (negsuc 1))))) (AddP one_process one_process)) ≡ ascii "1 + fork (1 + -2) + (1 + 1)"
  pub prints_write : printed (Atomic (AddT (Write 63 (Read 10)) (Write 0 (AddT (Read 1) one_transaction)))) ≡ ascii "atomic((r63 := r10) + (r0 := r1 + 1))"
