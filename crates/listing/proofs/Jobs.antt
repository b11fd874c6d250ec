-- What compiling a job leaves for the run program: a job that is accepted has its code at the front of 5,005 bytes. Assumes nothing.
use Prim.Native.Nat.{ℕ, ◌+◌, ◌-◌, ◌<◌, ◌≤◌, min}
use mathlib.Core.Bool.{Bool, true, false}
use mathlib.Core.Path.{◌≡◌, refl, sym, ap, ◌∙◌}
use mathlib.Core.List.{List}
use native.Mathlib.Omega.{arith}
use borrow.Author.Tests.{ltb-true, ltb-false, lt-ltb, le-ltb}
use lib.Dec.{ltb}
use lib.ListN.{length, take, drop, length-take, length-drop}
use lib.Seq.{take-append_seam, take_all}
use Rattle.code.proofs.Foreign.{there_and_back, code-bytes}
use Rattle.code.specs.Bytes.{compiled}
use Rattle.code.specs.Reader.{read_code}
use Rattle.compiler.specs.CompileTo.{compile_to}
use Rattle.delivery.specs.Delivered.{Delivered, onto, room_for, settled, delivered}
use Rattle.machine.specs.Answers.{run_of}
use Rattle.machine.specs.Steps.{fresh}
use Rattle.scan.specs.Answer.{told}
use Rattle.scan.proofs.Whole.{too-long}
use Rattle.script.proofs.Accepts.{accepted_is_job}
use Rattle.script.specs.Bytes.{Bytes}
use Rattle.script.specs.Jobs.{Job, number16}
use Rattle.script.specs.Outcome.{Outcome, refused, done, mapped, onward}
use Rattle.script.specs.Reader.{read_job}
use Rattle.listing.specs.Listed.{refusal_line, printed, job_run, listed}

-- an accepted job's code stands at the front, and is read as its own
pub record Coded (bytes output : List ℕ) (n : ℕ) : Type 0 where
  pub job : Job
  pub accepted : read_job bytes ≡ done job
  pub size : n ≡ length (compiled job)
  pub front : take n output ≡ compiled job
  pub read : read_code (compiled job) ≡ done job

-- code that is read is at most 5,005 bytes long
short : (code : List ℕ) (j : Job) → Bytes code → read_code code ≡ done j → length code ≤ 5005
short code j b e = by_test (ltb 5005 (length code)) refl
  where
    by_test : (t : Bool) → ltb 5005 (length code) ≡ t → length code ≤ 5005
    by_test false f = ltb-false 5005 (length code) f
    by_test true f = let z = too-long code b (ltb-true 5005 (length code) f) in let y : refused 11 0 ≡ told (done j) = z ∙ ap told e in absurd (let w : ◌≡◌ {A = ℕ} 0 1 = cc in omega arith)

module _ (bytes before : List ℕ) (small : Bytes bytes) (room : length before ≡ 5005) (r : Outcome ℕ) (output : List ℕ) (f : compile_to bytes before ≡ record { answer = r; output = output }) where
  abbrev settles : Outcome Job → Delivered
  settles o = settled (onward (mapped compiled o) (room_for before)) before

  comes : settles (read_job bytes) ≡ record { answer = r; output = output }
  unfolding compile_to delivered
  comes = f

  -- code of a job
  module _ (j : Job) (accepted : read_job bytes ≡ done j) where
    own : read_code (compiled j) ≡ done j
    own = there_and_back (accepted_is_job bytes j small accepted)

    fits : length (compiled j) ≤ 5005
    fits = short (compiled j) j (code-bytes j (accepted_is_job bytes j small accepted).within.sized.valued) own

    written : settles (done j) ≡ record { answer = done (length (compiled j)); output = onto (compiled j) before }
    written = rw (le-ltb (length before) (length (compiled j)) (omega (arith, fits, room))) refl

  -- a refusal is the job's
  pub refused_job : (picks : List ℕ) (number place : ℕ) → r ≡ refused number place → refusal_line number place ≡ printed (job_run bytes picks)
  unfolding job_run printed
  refused_job picks number place e = go (read_job bytes) refl
    where
      go : (o : Outcome Job) → read_job bytes ≡ o → refusal_line number place ≡ printed (onward o (λ (j : Job). run_of (compiled j) (fresh (compiled j)) picks))
      go (refused n p) q =
          let a : refused n p ≡ r = ap (λ (o : Outcome Job). (settles o).answer) (sym q) ∙ ap (λ (d : Delivered). d.answer) comes in
          let x : ◌≡◌ {A = ℕ} number n = cc in
          let y : ◌≡◌ {A = ℕ} place p = cc in
          ap (λ (k : ℕ). refusal_line k place) x ∙ ap (refusal_line n) y
      go (done j) q =
          let a : done (length (compiled j)) ≡ r = ap (λ (d : Delivered). d.answer) (sym (written j q)) ∙ ap (λ (o : Outcome Job). (settles o).answer) (sym q) ∙ ap (λ (d : Delivered). d.answer) comes in
          absurd (let z : ◌≡◌ {A = ℕ} 0 1 = cc in omega arith)

  -- a result is its code
  pub coded : (n : ℕ) → r ≡ done n → Coded bytes output n
  coded n e = go (read_job bytes) refl
    where
      go : (o : Outcome Job) → read_job bytes ≡ o → Coded bytes output n
      go (refused m p) q =
          let a : refused m p ≡ r = ap (λ (o : Outcome Job). (settles o).answer) (sym q) ∙ ap (λ (d : Delivered). d.answer) comes in
          absurd (let z : ◌≡◌ {A = ℕ} 0 1 = cc in omega arith)
      go (done j) q =
          let d : ◌≡◌ {A = Delivered} (record { answer = done (length (compiled j)); output = onto (compiled j) before }) (record { answer = r; output = output }) = sym (written j q) ∙ ap settles (sym q) ∙ comes in
          let a : done (length (compiled j)) ≡ r = ap (λ (x : Delivered). x.answer) d in
          let l : length (compiled j) ≡ n = cc in
          record {
            job = j;
            accepted = q;
            size = sym l;
            front = ap (take n) (sym (ap (λ (x : Delivered). x.output) d)) ∙ ap (λ (k : ℕ). take k (onto (compiled j) before)) (sym l) ∙ take-append_seam (compiled j) (drop (length (compiled j)) before);
            read = own j q;
          }

-- the code is all there
pub code_within : {bytes output : List ℕ} {n : ℕ} → Coded bytes output n → n ≤ length output
code_within {output = output} {n = n} k = let l : length (take n output) ≡ n = ap length k.front ∙ sym k.size in let m : length (take n output) ≡ min n (length output) = length-take n output in omega (arith, l, m)

-- its run is the job's
pub coded_run : (bytes output picks : List ℕ) {n : ℕ} (k : Coded bytes output n) → printed (run_of (take n output) (fresh (take n output)) picks) ≡ printed (job_run bytes picks)
unfolding job_run
coded_run bytes output picks k = ap (λ (code : List ℕ). printed (run_of code (fresh code) picks)) k.front ∙ ap (λ (o : Outcome Job). printed (onward o (λ (j : Job). run_of (compiled j) (fresh (compiled j)) picks))) (sym k.accepted)

-- ---- an input: below two bytes, cut below its job's length, and with its job
pub too_few : (input : List ℕ) → length input < 2 → refusal_line 1 (length input) ≡ listed input
unfolding listed
too_few input h = rw (lt-ltb (length input) 2 h)

module _ (input : List ℕ) (n : ℕ) (two : 2 ≤ length input) (e : n ≡ number16 input 0) where
  pub cut : length input < n + 2 → refusal_line 1 (length input) ≡ listed input
  unfolding listed
  cut h = let k : length input < 2 + number16 input 0 = omega (arith, h, e) in rw (le-ltb (length input) 2 two, lt-ltb (length input) (2 + number16 input 0) k)

  pub with_job : n + 2 ≤ length input → printed (job_run (take (n + 2 - 2) (drop 2 input)) (take (length input - (n + 2)) (drop (n + 2) input))) ≡ listed input
  unfolding listed
  with_job h =
      let k : 2 + number16 input 0 ≤ length input = omega (arith, h, e) in
      rw (le-ltb (length input) 2 two, le-ltb (length input) (2 + number16 input 0) k)
      (ap (λ (m : ℕ). printed (job_run (take m (drop 2 input)) (take (length input - (n + 2)) (drop (n + 2) input)))) (let z : n + 2 - 2 ≡ number16 input 0 = omega (arith, e) in z)
      ∙ ap (λ (l : List ℕ). printed (job_run (take (number16 input 0) (drop 2 input)) l)) (take_all (length input - (n + 2)) (drop (n + 2) input) (let l : length (drop (n + 2) input) ≡ length input - (n + 2) = length-drop (n + 2) input in omega (arith, l))
      ∙ ap (λ (m : ℕ). drop m input) (let z : n + 2 ≡ 2 + number16 input 0 = omega (arith, e) in z)))
