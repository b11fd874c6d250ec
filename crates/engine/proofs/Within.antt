-- A call that is not refused has 16 records. Assumes nothing.
use Prim.Native.Nat.{ℕ, zero, suc}
use mathlib.Core.Path.{◌≡◌, refl, sym, ap, ◌∙◌}
use mathlib.Core.List.{List}
use lib.IntN.{ℤ}
use lib.ListN.{length}
use Rattle.code.specs.Reader.{read_code}
use Rattle.machine.specs.Fits.{Typed}
use Rattle.machine.specs.FitTest.{fits}
use Rattle.machine.specs.Steps.{State, state_from}
use Rattle.machine.proofs.FitTests.{fits_exactly}
use Rattle.thread.specs.declared.Thread.{Thread}
use Rattle.survey.specs.InnerRecords.{survey_of}
use Rattle.survey.specs.InnerWalk.{survey_fits}
use Rattle.survey.specs.declared.Survey.{Survey}
use Rattle.progress.specs.InnerProgress.{unless_refused, beginning, refusal_of, admitted_to}
use Rattle.progress.specs.declared.Progress.{Progress}
use Rattle.progress.proofs.Calls.{same_refusal}
use Rattle.progress.proofs.Drives.{admits}
use Rattle.script.specs.Bytes.{Bytes}
use Rattle.script.specs.Outcome.{done}

-- by the refusal
by_refusal : (cd : List ℕ) (s : State) (n : ℕ) (p q : Progress) → Typed s → unless_refused (refusal_of (read_code cd) (fits cd s) n) q ≡ done p → length s.threads ≡ 16
by_refusal cd s n p q y = go (refusal_of (read_code cd) (fits cd s) n) refl
  where
    go : (r : ℕ) → refusal_of (read_code cd) (fits cd s) n ≡ r → unless_refused r q ≡ done p → length s.threads ≡ 16
    go zero e f = ((fits_exactly cd s y).0 (admits cd s n e).fit).records
    go (suc r) e f = absurd (cc)

-- by the survey of the records
pub within : (cd : List ℕ) (rs : List ℤ) (ns : List ℕ) (ys : List Thread) (n : ℕ) (v : Survey) (p : Progress) → v ≡ survey_of ns ys → Bytes cd → Typed (state_from rs ns ys)
    → admitted_to (read_code cd) (survey_fits v cd (length rs) ns 0) v.count n ≡ done p → length ys ≡ 16
within cd rs ns ys n v p e b y f = by_refusal cd (state_from rs ns ys) n p (beginning (survey_of ns ys).count) y (sym same ∙ f)
  where
    same : admitted_to (read_code cd) (survey_fits v cd (length rs) ns 0) v.count n ≡ unless_refused (refusal_of (read_code cd) (fits cd (state_from rs ns ys)) n) (beginning (survey_of ns ys).count)
    same = ap (λ (u : Survey). admitted_to (read_code cd) (survey_fits u cd (length rs) ns 0) u.count n) e ∙ ap (λ (r : ℕ). unless_refused r (beginning (survey_of ns ys).count)) (same_refusal cd (state_from rs ns ys) n b)
