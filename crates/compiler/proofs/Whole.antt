-- What reading a job says of compiling it, and that the header and the root's code are the job's code. Assumes nothing.
use Prim.Native.Nat.{ℕ, ◌+◌, ◌≤◌, ◌<◌}
use mathlib.Core.Path.{◌≡◌, refl, sym, ap, ◌∙◌}
use mathlib.Core.List.{List, [], ◌++◌, append-nil}
use native.Mathlib.Omega.{arith}
use lib.ListN.{length, drop, get_or}
use borrow.Author.Tests.{lt-ltb, le-ltb}
use mir.Syntax.{w8}
use mir.Val.{Fits}
use Rattle.compiler.specs.declared.Part.{Part}
use Rattle.compiler.specs.CompileTo.{compile_to}
use Rattle.delivery.specs.Delivered.{onto, delivered}
use Rattle.compiler.specs.InnerEmit.{Emitted, Has, Emittable, tree_code, code_header}
use Rattle.compiler.proofs.Lists.{rest, rest_length, back, lent}
use Rattle.delivery.proofs.Places.{placed_onto, onto_length}
use Rattle.code.specs.Bytes.{code_mark, code_bytes, compiled}
use Rattle.code.proofs.Flat.{code-length}
use Rattle.job.specs.declared.Accepted.{Accepted}
use Rattle.job.specs.Answer.{answer}
use Rattle.script.specs.Tree.{process}
use Rattle.script.specs.Count.{code_length}
use Rattle.script.specs.Bytes.{Bytes, bytes16, bytes_p, job_mark, job_bytes}
use Rattle.script.specs.Outcome.{Outcome, refused, done}
use Rattle.script.specs.Jobs.{Job}
use Rattle.script.specs.Reader.{read_job}
use Rattle.script.proofs.Accepts.{accepted_is_job}

pub bytes_of : (job : List ℕ) → ((i : ℕ) → Fits w8 (get_or job i 0)) → Bytes job
bytes_of job h = record { small = λ i l. omega (arith, h i) }

-- the reader's answer, read back
refused_by : (o : Outcome Job) (n p : ℕ) → refused n p ≡ answer o → o ≡ refused n p
refused_by (refused m q) n p e = cc
refused_by (done j) n p e = cc

record AcceptedAs (o : Outcome Job) (v l : ℕ) : Type 0 where
  job : Job
  is : o ≡ done job
  version : v ≡ job.version
  size : l ≡ code_length job.tree

accepted_by : (o : Outcome Job) (a : Accepted) → done a ≡ answer o → AcceptedAs o a.version a.length
accepted_by (refused m q) a e = cc
accepted_by (done j) a e =
    let same : a ≡ record { version = j.version; length = code_length j.tree } = cc in
    record { job = j; is = refl; version = ap (λ (b : Accepted). b.version) same; size = ap (λ (b : Accepted). b.length) same }

-- an accepted job: its tree stands behind the header of 7 bytes, and its code is so long
pub record AcceptedJob (bs : List ℕ) (v l : ℕ) : Type 0 where
  pub job : Job
  pub is : read_job bs ≡ done job
  pub version : v ≡ job.version
  pub size : l ≡ length (compiled job)
  pub there : Has bs 7 process job.tree
  pub least : 5 ≤ l
  pub ready : (ys : List ℕ) → l ≤ length ys → Emittable bs 7 64 (length (rest 5 ys))

module _ (bs : List ℕ) where
  pub found : (small : Bytes bs) (r : Accepted) → done r ≡ answer (read_job bs) → AcceptedJob bs r.version r.length
  unfolding compiled code_bytes code_mark bytes16 job_bytes job_mark
  found small r e =
      let a = accepted_by (read_job bs) r e in
      let i = accepted_is_job bs a.job small a.is in
      let z : r.length ≡ length (compiled a.job) = a.size ∙ sym (code-length a.job) in
      let h : Has bs 7 process a.job.tree = record { rest = []; text = ap (drop 7) i.text ∙ sym (append-nil (bytes_p a.job.tree)) } in
      record {
        job = a.job;
        is = a.is;
        version = a.version;
        size = z;
        there = h;
        least = omega arith;
        ready = λ ys m. record { sort = process; tree = a.job.tree; there = h; flat = i.within.sized.flat; room = omega (arith, rest_length 5 ys) };
      }

  -- the three ends of compiling
  pub turned-down : (before : List ℕ) (n p : ℕ) → refused n p ≡ answer (read_job bs) → compile_to bs before ≡ record { answer = refused n p; output = before }
  unfolding compile_to delivered
  turned-down before n p e = rw (refused_by (read_job bs) n p e)

  pub short : (before : List ℕ) (v l : ℕ) → AcceptedJob bs v l → length before < l → compile_to bs before ≡ record { answer = refused 10 0; output = before }
  unfolding compile_to delivered
  short before v l f h = rw (f.is, lt-ltb (length before) (length (compiled f.job)) (omega (arith, f.size)))

  pub compiles : (before : List ℕ) (v l : ℕ) (r : Part) (ys us : List ℕ) (f : AcceptedJob bs v l) → l ≤ length before → ys ≡ onto (code_header v) before → Emitted 7 r (rest 5 ys) us process f.job.tree → compile_to bs before ≡ record { answer = done l; output = back 5 ys us }
  unfolding compile_to delivered compiled code_bytes code_mark bytes16
  compiles before v l r ys us f h e m =
      let c = tree_code process f.job.tree in
      let long : 5 + length c ≤ length before = omega (arith, f.size) in
      let k : length ys ≡ length before = ap length e ∙ onto_length (code_header v) before (omega arith) in
      let b : back 5 ys us ≡ onto (code_header v ++ c) before = ap (back 5 ys) m.output ∙ (lent 5 c ys (omega arith) ∙ (rw e (placed_onto 5 c (code_header v) before refl))) in
      rw (f.is, le-ltb (length before) (length (compiled f.job)) (omega (arith, f.size)), b, f.version, f.size)
