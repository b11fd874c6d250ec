-- The job reader, compiling and reading back return what one row says, and what a row says is what the call returns. Assumes nothing.
use Prim.Native.Nat.{ℕ, ◌<◌, ◌≤◌}
use mathlib.Core.Logic.{◌↔◌}
use mathlib.Core.Path.{◌≡◌, refl, sym, ap, subst, ◌∙◌}
use mathlib.Core.List.{List}
use native.Mathlib.Decide.{dec_lt}
use native.Mathlib.Omega.{arith}
use lib.ListN.{length}
use Rattle.guarantee.specs.Rows as rows
use Rattle.guarantee.specs.Rows.{JobAnswer, CompileAnswer, ReadBackAnswer}
use Rattle.code.specs.Bytes.{compiled, IsCode}
use Rattle.code.specs.Reader.{read_code}
use Rattle.code.proofs.Flat.{code-length}
use Rattle.code.proofs.Foreign.{only_foreign, foreign_exactly}
use Rattle.code.proofs.ReadBack.{code_read, read_is_code}
use Rattle.compiler.specs.CompileTo.{compile_to}
use Rattle.decompiler.specs.ReadBackTo.{bytes_of, read_back_to}
use Rattle.delivery.specs.Delivered.{Delivered, delivered}
use Rattle.script.specs.Outcome as answer
use Rattle.delivery.proofs.Delivers.{delivers, too_short}
use Rattle.job.specs.Answer as job-answer
use Rattle.job.specs.declared.Accepted.{Accepted}
use Rattle.script.specs.Bytes.{Bytes}
use Rattle.script.specs.Outcome.{Outcome, refused, done, mapped}
use Rattle.script.specs.Jobs.{Job}
use Rattle.script.specs.Reader.{read_job}
use Rattle.script.proofs.Accepts.{accepted_is_job, job_is_accepted}
use Rattle.script.proofs.Refuses.{refused_is_read, read_is_refused}

-- ---- the job reader
pub job_rows : (job : List ℕ) → Bytes job → (r : Outcome Accepted) → JobAnswer job r ↔ (r ≡ job-answer.answer (read_job job))
job_rows job b r = (there r, λ e. subst (JobAnswer job) (sym e) (back (read_job job) refl))
  where
    there : (r : Outcome Accepted) → JobAnswer job r → r ≡ job-answer.answer (read_job job)
    there r (rows.refused x) = sym (ap job-answer.answer (refused_is_read x))
    there r (rows.accepted {j} i) = ap (λ (n : ℕ). answer.done (record { version = j.version; length = n })) (code-length j) ∙ sym (ap job-answer.answer (job_is_accepted job j i))

    back : (o : Outcome Job) → read_job job ≡ o → JobAnswer job (job-answer.answer o)
    back (refused n p) e = rows.refused (read_is_refused job b n p e)
    back (done j) e = subst (λ (n : ℕ). JobAnswer job (answer.done (record { version = j.version; length = n }))) (code-length j) (rows.accepted (accepted_is_job job j b e))

-- ---- compiling
module _ (job before : List ℕ) where
  compile_reads : (o : Outcome Job) → read_job job ≡ o → compile_to job before ≡ delivered (mapped compiled o) before
  unfolding compile_to
  compile_reads o e = ap (λ (x : Outcome Job). delivered (mapped compiled x) before) e

  stays : (number place : ℕ) → delivered (refused number place) before ≡ record { answer = answer.refused number place; output = before }
  unfolding delivered
  stays number place = refl

  pub compile_rows : Bytes job → (d : Delivered) → CompileAnswer job before d ↔ (d ≡ compile_to job before)
  compile_rows b d = (there d, λ e. subst (CompileAnswer job before) (sym e) (back (read_job job) refl))
    where
      there : (d : Delivered) → CompileAnswer job before d → d ≡ compile_to job before
      there d (rows.refused {number} {place} x) = sym (compile_reads (refused number place) (refused_is_read x) ∙ stays number place)
      there d (rows.short_tray {j} i l) = sym (compile_reads (done j) (job_is_accepted job j i) ∙ too_short (compiled j) before l)
      there d (rows.written {j} i l) = sym (compile_reads (done j) (job_is_accepted job j i) ∙ delivers (compiled j) before l)

      back : (o : Outcome Job) → read_job job ≡ o → CompileAnswer job before (compile_to job before)
      back (refused n p) e = subst (CompileAnswer job before) (sym (compile_reads (refused n p) e ∙ stays n p)) (rows.refused (read_is_refused job b n p e))
      back (done j) e = go (dec_lt (length before) (length (compiled j)))
        where
          go : Dec (length before < length (compiled j)) → CompileAnswer job before (compile_to job before)
          go (yes l) = subst (CompileAnswer job before) (sym (compile_reads (done j) e ∙ too_short (compiled j) before l)) (rows.short_tray (accepted_is_job job j b e) l)
          go (no l) =
              let m : length (compiled j) ≤ length before = omega arith in
              subst (CompileAnswer job before) (sym (compile_reads (done j) e ∙ delivers (compiled j) before m)) (rows.written (accepted_is_job job j b e) m)

-- ---- reading back
module _ (code before : List ℕ) where
  back_reads : (o : Outcome Job) → read_code code ≡ o → read_back_to code before ≡ delivered (mapped bytes_of o) before
  unfolding read_back_to
  back_reads o e = ap (λ (x : Outcome Job). delivered (mapped bytes_of x) before) e

  eleven : (n p : ℕ) → read_code code ≡ refused n p → read_code code ≡ refused 11 0
  eleven n p e = let o = only_foreign code n p e in e ∙ (ap (λ (m : ℕ). refused m p) o.0 ∙ ap (λ (m : ℕ). refused 11 m) o.1)

  pub back_rows : Bytes code → (d : Delivered) → ReadBackAnswer code before d ↔ (d ≡ read_back_to code before)
  back_rows b d = (there d, λ e. subst (ReadBackAnswer code before) (sym e) (back (read_code code) refl))
    where
      reads : {j : Job} → IsCode code j → read_code code ≡ done j
      reads {j} c = ap read_code c.text ∙ code_read j c.version c.within

      there : (d : Delivered) → ReadBackAnswer code before d → d ≡ read_back_to code before
      there d (rows.foreign_code f) = sym (back_reads (refused 11 0) ((foreign_exactly code b).1 f) ∙ stays code before 11 0)
      there d (rows.short_tray {j} c l) = sym (back_reads (done j) (reads c) ∙ too_short (bytes_of j) before l)
      there d (rows.written {j} c l) = sym (back_reads (done j) (reads c) ∙ delivers (bytes_of j) before l)

      back : (o : Outcome Job) → read_code code ≡ o → ReadBackAnswer code before (read_back_to code before)
      back (refused n p) e =
          let f = eleven n p e in
          subst (ReadBackAnswer code before) (sym (back_reads (refused 11 0) f ∙ stays code before 11 0)) (rows.foreign_code ((foreign_exactly code b).0 f))
      back (done j) e = go (dec_lt (length before) (length (bytes_of j)))
        where
          go : Dec (length before < length (bytes_of j)) → ReadBackAnswer code before (read_back_to code before)
          go (yes l) = subst (ReadBackAnswer code before) (sym (back_reads (done j) e ∙ too_short (bytes_of j) before l)) (rows.short_tray (read_is_code code j b e) l)
          go (no l) =
              let m : length (bytes_of j) ≤ length before = omega arith in
              subst (ReadBackAnswer code before) (sym (back_reads (done j) e ∙ delivers (bytes_of j) before m)) (rows.written (read_is_code code j b e) m)
