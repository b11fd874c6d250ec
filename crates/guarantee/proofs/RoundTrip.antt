-- Compiling and then reading back gives the job's own bytes; reading back and then compiling gives the code's own bytes. Assumes nothing.
use Prim.Native.Nat.{ℕ, ◌≤◌}
use mathlib.Core.Logic.{◌↔◌}
use mathlib.Core.Path.{◌≡◌, refl, sym, ap, ◌∙◌}
use mathlib.Core.List.{List}
use native.Mathlib.Omega.{arith}
use lib.ListN.{length, take, drop}
use lib.Seq.{take-append_seam}
use lib.Dec.{ltb}
use mathlib.Core.Bool.{Bool, true, false}
use Rattle.code.specs.Bytes.{compiled, IsCode}
use Rattle.code.specs.Reader.{read_code}
use Rattle.code.proofs.Foreign.{there_and_back, back_again}
use Rattle.code.proofs.ReadBack.{read_is_code}
use Rattle.compiler.specs.CompileTo.{compile_to}
use Rattle.decompiler.specs.ReadBackTo.{bytes_of, read_back_to}
use Rattle.delivery.proofs.Delivers.{delivers}
use Rattle.delivery.specs.Delivered.{onto, delivered}
use Rattle.script.specs.Bytes.{Bytes}
use Rattle.script.specs.Outcome.{Outcome, refused, done, mapped}
use Rattle.script.specs.Jobs.{Job}
use Rattle.script.specs.Reader.{read_job}
use Rattle.script.specs.Refusal.{IsJob}
use Rattle.script.proofs.Accepts.{accepted_is_job, job_is_accepted}

-- a result that was delivered
record Result (o : Outcome (List ℕ)) (before : List ℕ) (n : ℕ) : Type 0 where
  result : List ℕ
  was : o ≡ done result
  taken : take n (delivered o before).output ≡ result

result_of : (o : Outcome (List ℕ)) (before : List ℕ) (n : ℕ) → (delivered o before).answer ≡ done n → Result o before n
unfolding delivered
result_of (refused k p) before n e = absurd (let z : ◌≡◌ {A = ℕ} 0 1 = cc in omega arith)
result_of (done r) before n e = go (ltb (length before) (length r)) refl
  where
    go : (b : Bool) → ltb (length before) (length r) ≡ b → Result (done r) before n
    go true t = absurd (let f : refused 10 0 ≡ done n = rw t at e in let z : ◌≡◌ {A = ℕ} 0 1 = cc in omega arith)
    go false t =
        let f : done (length r) ≡ done n = rw t at e in
        let l : length r ≡ n = cc in
        record { result = r; was = refl; taken = rw (t, ← l) (take-append_seam r (drop (length r) before)) }

-- a result comes from one
pub mapped_done : {A B : Type 0} (f : A → B) (o : Outcome A) (b : B) → mapped f o ≡ done b → (a : A) × (o ≡ done a) × (f a ≡ b)
mapped_done f (refused n p) b e = absurd (let z : ◌≡◌ {A = ℕ} 0 1 = cc in omega arith)
mapped_done f (done a) b e = (a, refl, cc)

-- compile then read back: the job's own bytes, into any output that is long enough
pub compile_then_back : (job out out' : List ℕ) (n : ℕ) → Bytes job → (compile_to job out).answer ≡ done n → length job ≤ length out' → read_back_to (take n (compile_to job out).output) out' ≡ record { answer = done (length job); output = onto job out' }
unfolding compile_to read_back_to
compile_then_back job out out' n b e h =
    let r = result_of (mapped compiled (read_job job)) out n e in
    let m = mapped_done compiled (read_job job) r.result r.was in
    let i : IsJob job m.0 = accepted_is_job job m.0 b m.1 in
    let c : read_code (take n (delivered (mapped compiled (read_job job)) out).output) ≡ done m.0 = ap read_code (r.taken ∙ sym m.2) ∙ there_and_back i in
    let t : bytes_of m.0 ≡ job = sym i.text in
    ap (λ (o : Outcome Job). delivered (mapped bytes_of o) out') c ∙ (ap (λ (l : List ℕ). delivered (done l) out') t ∙ delivers job out' h)

-- read back then compile: the code's own bytes
pub back_then_compile : (code out out' : List ℕ) (n : ℕ) → Bytes code → (read_back_to code out).answer ≡ done n → length code ≤ length out' → compile_to (take n (read_back_to code out).output) out' ≡ record { answer = done (length code); output = onto code out' }
unfolding compile_to read_back_to
back_then_compile code out out' n b e h =
    let r = result_of (mapped bytes_of (read_code code)) out n e in
    let m = mapped_done bytes_of (read_code code) r.result r.was in
    let i : IsCode code m.0 = read_is_code code m.0 b m.1 in
    let j : IsJob (bytes_of m.0) m.0 = record { version = i.version; within = i.within; text = refl } in
    let c : read_job (take n (delivered (mapped bytes_of (read_code code)) out).output) ≡ done m.0 = ap read_job (r.taken ∙ sym m.2) ∙ job_is_accepted (bytes_of m.0) m.0 j in
    let t : compiled m.0 ≡ code = back_again code m.0 b m.1 in
    ap (λ (o : Outcome Job). delivered (mapped compiled o) out') c ∙ (ap (λ (l : List ℕ). delivered (done l) out') t ∙ delivers code out' h)

-- demand 2: code is read back exactly if some accepted job compiles to it, and to that job
pub read_back_exactly : (job code : List ℕ) → Bytes job → Bytes code → (mapped bytes_of (read_code code) ≡ done job) ↔ (mapped compiled (read_job job) ≡ done code)
read_back_exactly job code b b' = (there, back)
  where
    there : mapped bytes_of (read_code code) ≡ done job → mapped compiled (read_job job) ≡ done code
    there e =
        let m = mapped_done bytes_of (read_code code) job e in
        let i : IsCode code m.0 = read_is_code code m.0 b' m.1 in
        let j : IsJob (bytes_of m.0) m.0 = record { version = i.version; within = i.within; text = refl } in
        let c : read_job job ≡ done m.0 = ap read_job (sym m.2) ∙ job_is_accepted (bytes_of m.0) m.0 j in
        let t : compiled m.0 ≡ code = back_again code m.0 b' m.1 in
        ap (mapped compiled) c ∙ ap done t

    back : mapped compiled (read_job job) ≡ done code → mapped bytes_of (read_code code) ≡ done job
    back e =
        let m = mapped_done compiled (read_job job) code e in
        let i : IsJob job m.0 = accepted_is_job job m.0 b m.1 in
        let c : read_code code ≡ done m.0 = ap read_code (sym m.2) ∙ there_and_back i in
        ap (mapped bytes_of) c ∙ ap done (sym i.text)
