-- What the run program prints, and what a listing tells, line by line: document 01, "The run program". The theorem `run_program`
-- (printing/proofs/Prints) says that it holds.
use Rattle.std.specs.Prelude.{ℕ, ◌+◌, ◌<◌, ◌≤◌, false, cond, ◌↔◌, ◌≡◌, List, [], ◌∷◌, ◌++◌, eqb, ℤ, pos, length, take, drop, get_or}
use Rattle.code.specs.Bytes.{compiled}
use Rattle.guarantee.specs.Histories.{Ended}
use Rattle.listing.specs.Listed.{ascii, decimal, integer, counts_line, register_line, refusal_line, is_zero, listing, listed}
use Rattle.machine.specs.Answers.{sum_of}
use Rattle.machine.specs.Fits.{Exists}
use Rattle.machine.specs.Steps.{State, Ran, thread_at, run, fresh}
use Rattle.script.specs.Bytes.{Bytes, bytes16}
use Rattle.script.specs.Jobs.{Job, number16}
use Rattle.script.specs.Outcome.{refused, done}
use Rattle.script.specs.Reader.{read_job}
use Rattle.stm.specs.Events.{Counts, counts_of}

-- a text cut behind each newline
abbrev pub before : ℕ → List (List ℕ) → List (List ℕ)
before c [] = (c ∷ []) ∷ []
before c (l ∷ ls) = (c ∷ l) ∷ ls

-- the lines of a text, each with its newline
unfoldable pub lines_of : List ℕ → List (List ℕ)
lines_of [] = []
lines_of (c ∷ text) = cond (eqb c 10) ((c ∷ []) ∷ lines_of text) (before c (lines_of text))

-- a text has a line
pub record HasLine (text line : List ℕ) : Type 0 where
  pub number : ℕ
  pub below : number < length (lines_of text)
  pub its : get_or (lines_of text) number [] ≡ line

-- "`done` is followed by the result, and an unfinished one prints `thread N open`"
abbrev pub done_line : (i : ℕ) → (result : ℤ) → List ℕ
done_line i n = ascii "thread " ++ (decimal i ++ (ascii " done " ++ (integer n ++ ascii "\n")))

-- the line of a thread that has not ended
abbrev pub open_line : ℕ → List ℕ
open_line i = ascii "thread " ++ (decimal i ++ ascii " open\n")

-- A text tells the counts and the state of a run: which lines of each form it has.
pub record Tells (text : List ℕ) (c : Counts) (s : State) : Type 0 where
  -- the counts, and no others
  pub counts : (d : Counts) → HasLine text (counts_line d) ↔ (d ≡ c)
  -- thread i is done with n exactly if it has ended with n
  pub done : (i : ℕ) (n : ℤ) → HasLine text (done_line i n) ↔ Ended s i n
  -- it is open exactly if it exists and has not ended
  pub unfinished : (i : ℕ) → HasLine text (open_line i) ↔ (Exists s i × ((thread_at s i).place ≡ (thread_at s i).end → ⊥))
  -- register v is listed with n exactly if it holds n, and n is not 0
  pub register : (v : ℕ) (n : ℤ) → HasLine text (register_line v n) ↔ ((get_or s.registers v (pos 0) ≡ n) × (is_zero n ≡ false))
  -- nothing was refused
  pub taken : (number place : ℕ) → HasLine text (refusal_line number place) → ⊥

-- Two runs have the same counts of what their picks did, registers, threads and results. The registers' own counts are not printed.
pub record SameResults (c : Counts) (s : State) (c' : Counts) (s' : State) : Type 0 where
  pub counts : c ≡ c'
  pub registers : s.registers ≡ s'.registers
  pub threads : (i : ℕ) → Exists s i ↔ Exists s' i
  pub results : (i : ℕ) (n : ℤ) → Ended s i n ↔ Ended s' i n

-- "Standard input: 16-bit job length, the job, then picks."
abbrev pub input_of : (job picks : List ℕ) → List ℕ
input_of job picks = bytes16 (length job) ++ (job ++ picks)

-- the run of a job's code from a fresh state
abbrev pub ran_of : Job → (picks : List ℕ) → Ran
ran_of j picks = run (sum_of j) (compiled j) (fresh (compiled j)) picks

-- What the run program prints for each input. `listed` is the text that `listing::report`, which the run program writes out, delivers.
pub record RunProgram : Type 0 where
  -- "Input below 2 bytes or shorter than that length prints `refused 1 at` and the input's length."
  pub cut : (input : List ℕ) → length input < 2 + number16 input 0 → listed input ≡ refusal_line 1 (length input)
  -- every other input has a job and picks
  pub splits :
      (input : List ℕ) → Bytes input → 2 + number16 input 0 ≤ length input →
      input ≡ input_of (take (number16 input 0) (drop 2 input)) (drop (2 + number16 input 0) input)
  -- "Otherwise a refusal prints `refused N at P`": the job's, whatever the picks
  pub refused_job :
      (job picks : List ℕ) (number place : ℕ) → length job < 65536 → read_job job ≡ refused number place →
      listed (input_of job picks) ≡ refusal_line number place
  -- then 13
  pub long_list :
      (job picks : List ℕ) (j : Job) → Bytes job → read_job job ≡ done j → 32768 < length picks →
      listed (input_of job picks) ≡ refusal_line 13 0
  -- else the listing of the run of its code from a fresh state, which tells the counts and the state
  pub accepted :
      (job picks : List ℕ) (j : Job) → Bytes job → read_job job ≡ done j → length picks ≤ 32768 →
      listed (input_of job picks) ≡ listing (counts_of (ran_of j picks).events) (ran_of j picks).state
  pub tells :
      (job picks : List ℕ) (j : Job) → Bytes job → Bytes picks → read_job job ≡ done j → length picks ≤ 32768 →
      Tells (listed (input_of job picks)) (counts_of (ran_of j picks).events) (ran_of j picks).state
  -- a refusal's line tells its number and place
  pub refusal_told : (number place number' place' : ℕ) → refusal_line number place ≡ refusal_line number' place' → (number ≡ number') × (place ≡ place')
  -- inputs that print the same have the same counts, registers, threads and results
  pub told_apart :
      (job picks : List ℕ) (j : Job) → Bytes job → Bytes picks → read_job job ≡ done j → length picks ≤ 32768 →
      (job' picks' : List ℕ) (j' : Job) → Bytes job' → Bytes picks' → read_job job' ≡ done j' → length picks' ≤ 32768 →
      listed (input_of job picks) ≡ listed (input_of job' picks') →
      SameResults
      (counts_of (ran_of j picks).events) (ran_of j picks).state
      (counts_of (ran_of j' picks').events) (ran_of j' picks').state
  -- what stands behind the first 65,537 bytes, which the run program reads, changes nothing
  pub first_bytes : (input : List ℕ) → Bytes input → listed (take 65537 input) ≡ listed input
