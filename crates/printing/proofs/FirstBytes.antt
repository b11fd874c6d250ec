-- What the run program prints does not depend on what stands behind the first 65,537 bytes of its input: a job's own length is at most 65,535, and an accepted
-- job is so short that more than 32,768 picks are among them. Assumes nothing.
use Prim.Native.Nat.{ℕ, zero, suc, ◌+◌, ◌-◌, ◌*◌, ◌<◌, ◌≤◌, min}
use mathlib.Core.Bool.{Bool, true, false, not}
use mathlib.Core.Path.{◌≡◌, refl, sym, ap, subst, ◌∙◌}
use mathlib.Core.List.{List, [], ◌∷◌, ◌++◌}
use native.Mathlib.Omega.{arith}
use borrow.Author.Tests.{ltb-true, ltb-false, lt-ltb, le-ltb}
use lib.Dec.{ltb, lit<}
use lib.ListN.{length, take, drop, get_or, length-take, length-drop, length-append}
use lib.Seq.{take_all, take-take, get_or-take, length-take-le}
use Rattle.code.proofs.Foreign.{there_and_back}
use Rattle.code.proofs.Scans.{job_length}
use Rattle.code.specs.Bytes.{compiled}
use Rattle.machine.proofs.FitTests.{fits_exactly}
use Rattle.machine.proofs.Fresh.{fresh_typed, fresh_fits}
use Rattle.machine.specs.Answers.{sum_of, fitting, run_of}
use Rattle.machine.specs.Steps.{run, fresh}
use Rattle.script.proofs.Accepts.{accepted_is_job}
use Rattle.script.proofs.Numbers.{bytes_drop}
use Rattle.script.specs.Bytes.{Bytes, node_bytes, bytes32, bytes_t, bytes_p}
use Rattle.script.specs.Count.{nodes_t, nodes_p}
use Rattle.script.specs.Jobs.{Job, number16}
use Rattle.script.specs.Outcome.{Outcome, refused, done, onward, refuse}
use Rattle.script.specs.Reader.{read_job}
use Rattle.script.specs.Tree.{Proc, ValP, AddP, Atomic, Fork, Tran, ValT, AddT, Read, Write}
use Rattle.listing.specs.Listed.{printed, job_run, listed}

-- a node has at most five bytes
short_tran : (t : Tran) → length (bytes_t t) ≤ 5 * nodes_t t
unfolding bytes_t nodes_t node_bytes bytes32
short_tran (ValT n) = omega arith
short_tran (AddT a b) = let l : length (bytes_t a ++ bytes_t b) ≡ length (bytes_t a) + length (bytes_t b) = length-append (bytes_t a) (bytes_t b) in omega (arith, short_tran a, short_tran b, l)
short_tran (Read v) = omega arith
short_tran (Write v t) = omega (arith, short_tran t)

short_proc : (p : Proc) → length (bytes_p p) ≤ 5 * nodes_p p
unfolding bytes_p nodes_p node_bytes bytes32
short_proc (ValP n) = omega arith
short_proc (AddP a b) = let l : length (bytes_p a ++ bytes_p b) ≡ length (bytes_p a) + length (bytes_p b) = length-append (bytes_p a) (bytes_p b) in omega (arith, short_proc a, short_proc b, l)
short_proc (Atomic t) = omega (arith, short_tran t)
short_proc (Fork p) = omega (arith, short_proc p)

-- so an accepted job has at most 5,007
pub short_job : (job : List ℕ) (j : Job) → Bytes job → read_job job ≡ done j → length job ≤ 5007
short_job job j b e =
    let i = accepted_is_job job j b e in
    let l : length job ≡ 7 + length (bytes_p j.tree) = ap length i.text ∙ job_length j.version j.tree in
    omega (arith, l, short_proc j.tree, i.within.sized.few)

-- more than 32,768 picks are refused, whatever they are
pub refused_13 : (job picks : List ℕ) (j : Job) → Bytes job → read_job job ≡ done j → 32768 < length picks → run_of (compiled j) (fresh (compiled j)) picks ≡ refused 13 0
unfolding run_of
refused_13 job picks j b e h =
    ap (λ (o : Outcome Job). onward o (λ (k : Job). fitting (compiled j) (fresh (compiled j)) (refuse (ltb 32768 (length picks)) 13 0 (done (run (sum_of k) (compiled j) (fresh (compiled j)) picks))))) (there_and_back (accepted_is_job job j b e))
    ∙ ap (λ (t : Bool). refuse (not t) 12 0 (refuse (ltb 32768 (length picks)) 13 0 (done (run (sum_of j) (compiled j) (fresh (compiled j)) picks)))) ((fits_exactly (compiled j) (fresh (compiled j)) (fresh_typed (compiled j))).1 (fresh_fits (compiled j)))
    ∙ ap (λ (t : Bool). refuse t 13 0 (done (run (sum_of j) (compiled j) (fresh (compiled j)) picks))) (lt-ltb 32768 (length picks) h)

-- a job prints the same with any picks that are too many, if they are as many as that for every accepted job
same_print : (job picks more : List ℕ) → Bytes job → ((j : Job) → read_job job ≡ done j → (32768 < length picks) × (32768 < length more)) → printed (job_run job picks) ≡ printed (job_run job more)
unfolding job_run
same_print job picks more b many = go (read_job job) refl
  where
    go : (o : Outcome Job) → read_job job ≡ o
        → printed (onward o (λ (j : Job). run_of (compiled j) (fresh (compiled j)) picks)) ≡ printed (onward o (λ (j : Job). run_of (compiled j) (fresh (compiled j)) more))
    go (refused n p) e = refl
    go (done j) e = ap printed (refused_13 job picks j b e (many j e).0 ∙ sym (refused_13 job more j b e (many j e).1))

module _ {A : Type 0} where
  -- behind the first, of the first so many
  drop_first : (k m : ℕ) (l : List A) → drop k (take (k + m) l) ≡ take m (drop k l)
  drop_first zero m l = ap (λ (n : ℕ). take n l) (let z : 0 + m ≡ m = omega arith in z)
  drop_first (suc k) m [] = ap (λ (n : ℕ). drop (suc k) (take n [])) (let z : suc k + m ≡ suc (k + m) = omega arith in z) ∙ sym (take_none m)
    where
      take_none : (m : ℕ) → ◌≡◌ {A = List A} (take m []) []
      take_none zero = refl
      take_none (suc m) = refl
  drop_first (suc k) m (x ∷ xs) = ap (λ (n : ℕ). drop (suc k) (take n (x ∷ xs))) (let z : suc k + m ≡ suc (k + m) = omega arith in z) ∙ drop_first k m xs

-- the first of bytes are bytes
bytes_take : (m : ℕ) (bs : List ℕ) → Bytes bs → Bytes (take m bs)
bytes_take m bs b = record { small = λ i l. let k : length (take m bs) ≡ min m (length bs) = length-take m bs in subst (◌< 256) (sym (get_or-take m bs i 0 (omega (arith, l, k)))) (b.small i (omega (arith, l, k))) }

module _ (input : List ℕ) (small : Bytes input) (long : 65537 < length input) where
  -- the job's length
  abbrev n : ℕ
  n = number16 input 0

  -- the first bytes
  abbrev front : List ℕ
  front = take 65537 input

  bound : n ≤ 65535
  bound = omega (arith, small.small 0 (omega (arith, long)), small.small 1 (omega (arith, long)))

  size : length front ≡ 65537
  size = length-take-le 65537 input (omega (arith, long))

  same_number : number16 front 0 ≡ n
  same_number = ap (λ (a : ℕ). a * 256 + get_or front 1 0) (get_or-take 65537 input 0 0 (lit< tt)) ∙ ap (λ (b : ℕ). get_or input 0 0 * 256 + b) (get_or-take 65537 input 1 0 (lit< tt))

  same-job : take n (drop 2 front) ≡ take n (drop 2 input)
  same-job = ap (take n) (drop_first 2 65535 input) ∙ take-take n 65535 (drop 2 input) bound

  job-bytes : Bytes (take n (drop 2 input))
  job-bytes = bytes_take n (drop 2 input) (bytes_drop 2 small)

  many : (j : Job) → read_job (take n (drop 2 input)) ≡ done j → (32768 < length (drop (2 + n) front)) × (32768 < length (drop (2 + n) input))
  many j e =
      let l : length (take n (drop 2 input)) ≤ 5007 = short_job (take n (drop 2 input)) j job-bytes e in
      let k : length (take n (drop 2 input)) ≡ n = length-take-le n (drop 2 input) (let d : length (drop 2 input) ≡ length input - 2 = length-drop 2 input in omega (arith, d, bound, long)) in
      let a : length (drop (2 + n) front) ≡ length front - (2 + n) = length-drop (2 + n) front in
      let b : length (drop (2 + n) input) ≡ length input - (2 + n) = length-drop (2 + n) input in
      (omega (arith, l, k, a, size), omega (arith, l, k, b, long))

  listed_by : (i : List ℕ) → 65537 ≤ length i → number16 i 0 ≡ n → listed i ≡ printed (job_run (take n (drop 2 i)) (drop (2 + n) i))
  unfolding listed
  listed_by i h e =
      let p : 2 ≤ length i = omega (arith, h) in
      let q : 2 + number16 i 0 ≤ length i = omega (arith, h, e, bound) in
      rw (le-ltb (length i) 2 p, le-ltb (length i) (2 + number16 i 0) q) (ap (λ (m : ℕ). printed (job_run (take m (drop 2 i)) (drop (2 + m) i))) e)

  longer : listed front ≡ listed input
  longer =
      listed_by front (omega (arith, size)) same_number ∙ ap (λ (job : List ℕ). printed (job_run job (drop (2 + n) front))) same-job
      ∙ same_print (take n (drop 2 input)) (drop (2 + n) front) (drop (2 + n) input) job-bytes many ∙ sym (listed_by input (omega (arith, long)) refl)

-- the first 65,537 bytes decide
pub first_bytes : (input : List ℕ) → Bytes input → listed (take 65537 input) ≡ listed input
first_bytes input b = by_test (ltb 65537 (length input)) refl
  where
    by_test : (t : Bool) → ltb 65537 (length input) ≡ t → listed (take 65537 input) ≡ listed input
    by_test true e = longer input b (ltb-true 65537 (length input) e)
    by_test false e = ap listed (take_all 65537 input (ltb-false 65537 (length input) e))
