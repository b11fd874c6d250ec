-- What an input prints: the refusal of its job, 13, or the listing of its run. Assumes nothing.
use Prim.Native.Nat.{ℕ, suc, ◌+◌, ◌*◌, ◌<◌, ◌≤◌}
use mathlib.Core.Bool.{Bool, true, false, cond, not, ◌||◌}
use mathlib.Core.Path.{◌≡◌, refl, sym, ap, ◌∙◌}
use mathlib.Core.List.{List, [], ◌∷◌, ◌++◌}
use native.Mathlib.Omega.{arith}
use borrow.Author.Tests.{lt-ltb, le-ltb}
use lib.Dec.{ltb}
use lib.ListN.{length, take, drop, length-append, take-append-drop}
use lib.Seq.{length-take-le, take-append_seam, drop-append_seam}
use Rattle.code.proofs.Foreign.{there_and_back}
use Rattle.code.specs.Bytes.{compiled}
use Rattle.machine.proofs.FitTests.{fits_exactly}
use Rattle.machine.proofs.Fresh.{fresh_typed, fresh_fits}
use Rattle.machine.specs.Answers.{sum_of, fitting, run_of}
use Rattle.machine.specs.Steps.{Ran, run, fresh}
use Rattle.script.proofs.Accepts.{accepted_is_job}
use Rattle.script.proofs.Numbers.{number16_bytes16, bytes16_number16, bytes_head, bytes_tail}
use Rattle.script.specs.Bytes.{Bytes, bytes16}
use Rattle.script.specs.Jobs.{Job, number16}
use Rattle.script.specs.Outcome.{Outcome, refused, done, onward, refuse}
use Rattle.script.specs.Reader.{read_job}
use Rattle.stm.specs.Events.{counts_of}
use Rattle.listing.specs.Listed.{listing, printed, job_run, listed, refusal_line}
use Rattle.printing.specs.Printing.{input_of, ran_of}
use Rattle.printing.proofs.FirstBytes.{short_job, refused_13}

-- an input that has a job and picks prints what they do
pub listed_job : (job picks : List ℕ) → length job < 65536 → listed (input_of job picks) ≡ printed (job_run job picks)
unfolding listed bytes16
listed_job job picks small =
    let input = input_of job picks in
    let n : number16 input 0 ≡ length job = number16_bytes16 (length job) (omega (arith, small)) (job ++ picks) in
    let l : length input ≡ 2 + (length job + length picks) = sized in
    rw (le-ltb (length input) 2 (omega (arith, l)), le-ltb (length input) (2 + number16 input 0) (omega (arith, l, n)))
    (ap (λ (m : ℕ). printed (job_run (take m (drop 2 input)) (drop (2 + m) input))) n ∙ ap (λ (b : List ℕ). printed (job_run b (drop (2 + length job) input))) front ∙ ap (λ (p : List ℕ). printed (job_run job p)) behind)
  where
    sized : length (input_of job picks) ≡ 2 + (length job + length picks)
    sized = let l : length (job ++ picks) ≡ length job + length picks = length-append job picks in omega (arith, l)

    front : take (length job) (drop 2 (input_of job picks)) ≡ job
    front = take-append_seam job picks

    behind : drop (2 + length job) (input_of job picks) ≡ picks
    behind = ap (λ (m : ℕ). drop m (input_of job picks)) (let z : 2 + length job ≡ suc (suc (length job)) = omega arith in z) ∙ drop-append_seam job picks

-- every input that is at least as long as it says is of that form
pub input_splits : (input : List ℕ) → Bytes input → 2 + number16 input 0 ≤ length input → input ≡ input_of (take (number16 input 0) (drop 2 input)) (drop (2 + number16 input 0) input)
input_splits [] b h = absurd (omega (arith, h))
input_splits (x ∷ []) b h = absurd (omega (arith, h))
input_splits (x ∷ y ∷ rest) b h =
    let l : length (take (x * 256 + y) rest) ≡ x * 256 + y = length-take-le (x * 256 + y) rest (omega (arith, h)) in
    let e : bytes16 (length (take (x * 256 + y) rest)) ≡ x ∷ y ∷ [] = ap bytes16 l ∙ bytes16_number16 x y (bytes_head b) (bytes_head (bytes_tail b)) in
    let d : drop (2 + (x * 256 + y)) (x ∷ y ∷ rest) ≡ drop (x * 256 + y) rest = ap (λ (m : ℕ). drop m (x ∷ y ∷ rest)) (let z : 2 + (x * 256 + y) ≡ suc (suc (x * 256 + y)) = omega arith in z) in
    sym
    (ap (◌++ (take (x * 256 + y) rest ++ drop (2 + (x * 256 + y)) (x ∷ y ∷ rest))) e
    ∙ ap (λ (r : List ℕ). x ∷ y ∷ (take (x * 256 + y) rest ++ r)) d
    ∙ ap (λ (r : List ℕ). x ∷ y ∷ r) (take-append-drop (x * 256 + y) rest))

-- any other input: "`refused 1 at` and the input's length"
pub cut_listed : (input : List ℕ) → length input < 2 + number16 input 0 → listed input ≡ refusal_line 1 (length input)
unfolding listed
cut_listed input h = rw (lt-ltb (length input) (2 + number16 input 0) h) (either (ltb (length input) 2))
  where
    either : (a : Bool) → cond (a || true) (refusal_line 1 (length input)) (printed (job_run (take (number16 input 0) (drop 2 input)) (drop (2 + number16 input 0) input))) ≡ refusal_line 1 (length input)
    either true = refl
    either false = refl

-- a job that is refused, with any picks: "`refused N at P`"
pub refused_listed : (job picks : List ℕ) (number place : ℕ) → length job < 65536 → read_job job ≡ refused number place → listed (input_of job picks) ≡ refusal_line number place
unfolding job_run printed
refused_listed job picks number place small e = listed_job job picks small ∙ ap (λ (o : Outcome Job). printed (onward o (λ (k : Job). run_of (compiled k) (fresh (compiled k)) picks))) e

-- an accepted job with more than 32,768 picks
pub long_listed : (job picks : List ℕ) (j : Job) → Bytes job → read_job job ≡ done j → 32768 < length picks → listed (input_of job picks) ≡ refusal_line 13 0
unfolding job_run printed
long_listed job picks j b e long =
    listed_job job picks (omega (arith, short_job job j b e)) ∙ ap (λ (o : Outcome Job). printed (onward o (λ (k : Job). run_of (compiled k) (fresh (compiled k)) picks))) e ∙ ap printed (refused_13 job picks j b e long)

module _ (job picks : List ℕ) (j : Job) (bytes : Bytes job) (accepted : read_job job ≡ done j) (few : length picks ≤ 32768) where
  abbrev ran : Ran
  ran = ran_of j picks

  pub taken : run_of (compiled j) (fresh (compiled j)) picks ≡ done ran
  unfolding run_of
  taken =
      ap (λ (o : Outcome Job). onward o (λ (k : Job). fitting (compiled j) (fresh (compiled j)) (refuse (ltb 32768 (length picks)) 13 0 (done (run (sum_of k) (compiled j) (fresh (compiled j)) picks))))) (there_and_back (accepted_is_job job j bytes accepted))
      ∙ ap (λ (t : Bool). refuse (not t) 12 0 (refuse (ltb 32768 (length picks)) 13 0 (done ran))) ((fits_exactly (compiled j) (fresh (compiled j)) (fresh_typed (compiled j))).1 (fresh_fits (compiled j)))
      ∙ ap (λ (t : Bool). refuse t 13 0 (done ran)) (le-ltb 32768 (length picks) few)

  -- it prints the listing of its run, never a refusal
  pub accepted_listed : printed (job_run job picks) ≡ listing (counts_of ran.events) ran.state
  unfolding job_run printed
  accepted_listed = ap (λ (o : Outcome Job). printed (onward o (λ (k : Job). run_of (compiled k) (fresh (compiled k)) picks))) accepted ∙ ap printed taken

  -- of an input that has the job and the picks
  pub accepted_input : listed (input_of job picks) ≡ listing (counts_of ran.events) ran.state
  accepted_input = listed_job job picks (omega (arith, short_job job j bytes accepted)) ∙ accepted_listed
