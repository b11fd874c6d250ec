-- Document 02 No. 7 holds. Assumes nothing.
use Prim.Native.Nat.{ℕ, ◌≤◌, ◌<◌}
use mathlib.Core.List.{List, [], ◌++◌}
use mathlib.Core.Logic.{◌↔◌, ◌⊎◌, inl, inr}
use mathlib.Core.Path.{◌≡◌, refl, sym, ap, subst, ◌∙◌}
use native.Mathlib.Decide.{dec_lt}
use native.Mathlib.Omega.{arith}
use lib.ListN.{length, drop}
use Rattle.code.proofs.Foreign.{job-bytes}
use Rattle.delivery.specs.Delivered.{Delivered, onto, delivered}
use Rattle.script.specs.Outcome as answer
use Rattle.delivery.proofs.Delivers.{delivers, too_short}
use Rattle.formula.specs.FormulaTo.{formula_of, formula_to}
use Rattle.grammar.specs.Grammar.{ShortScript, NoScript}
use Rattle.grammar.specs.Printed.{printed}
use Rattle.grammar.specs.Reader.{read_text}
use Rattle.grammar.proofs.Complete.{one_tree}
use Rattle.grammar.proofs.Exact.{Judged, script, no_script, text_judged, judged_once, text_exactly}
use Rattle.grammar.proofs.Prints.{printed_read}
use Rattle.grammar.proofs.Values.{script_valued, script_nodes}
use Rattle.guarantee.specs.Formulas.{Formulas}
use Rattle.guarantee.specs.Rows as rows
use Rattle.guarantee.proofs.Follows.{job_follows}
use Rattle.guarantee.specs.Rows.{FormulaAnswer}
use Rattle.script.specs.Bytes.{bytes16, bytes_p, job_mark, job_bytes}
use Rattle.script.specs.Jobs.{Job}
use Rattle.script.specs.Limits.{ValuedP, Within}
use Rattle.script.specs.Outcome.{Outcome, refused, done, mapped}
use Rattle.script.specs.Reader.{read_job}
use Rattle.script.specs.Refusal as refusal
use Rattle.script.specs.Refusal.{IsJob, Refused}
use Rattle.script.specs.Tree.{Proc}
use Rattle.script.proofs.Accepts.{accepted_is_job, job_is_accepted}
use Rattle.script.proofs.Prefix.{same_proc}
use Rattle.script.proofs.Refuses.{refused_is_read, read_is_refused}

-- ---- the texts
judged_done : {text : List ℕ} {p : Proc} → Judged text (done p) → ShortScript text p
judged_done (script h s) = record { short = h; script = s }

judged_refused : {text : List ℕ} {number place : ℕ} → Judged text (refused number place) → (number ≡ 15) × NoScript text place
judged_refused (no_script n) = (refl, n)

taken : (text : List ℕ) (p : Proc) → (read_text text ≡ done p) ↔ ShortScript text p
taken text p = (λ e. judged_done (subst (Judged text) e (text_judged text)), λ s. text_exactly text (done p) (script s.short s.script))

fifteen_read : (text : List ℕ) (i : ℕ) → NoScript text i → read_text text ≡ refused 15 i
fifteen_read text i n = text_exactly text (refused 15 i) (no_script n)

turned-down : (text : List ℕ) (number place : ℕ) → (read_text text ≡ refused number place) ↔ ((number ≡ 15) × NoScript text place)
turned-down text number place =
    (λ e. judged_refused (subst (Judged text) e (text_judged text)), λ n. fifteen_read text place n.1 ∙ ap (λ (m : ℕ). refused m place) (sym n.0))

decided : (text : List ℕ) → ((p : Proc) × ShortScript text p) ⊎ ((i : ℕ) × NoScript text i)
decided text = go (read_text text) (text_judged text)
  where
    go : (o : Outcome Proc) → Judged text o → ((p : Proc) × ShortScript text p) ⊎ ((i : ℕ) × NoScript text i)
    go _ (script {p = p} h s) = inl (p, record { short = h; script = s })
    go _ (no_script {i = i} n) = inr (i, n)

one_place : (text : List ℕ) (i k : ℕ) → NoScript text i → NoScript text k → i ≡ k
one_place text i k n m = let e : ◌≡◌ {A = Outcome Proc} (refused 15 i) (refused 15 k) = judged_once (no_script n) (no_script m) in cc

not_both : (text : List ℕ) (p : Proc) (i : ℕ) → ShortScript text p → NoScript text i → ⊥
not_both text p i s n =
    let e : done p ≡ refused 15 i = judged_once (script s.short s.script) (no_script n) in
    absurd (let z : ◌≡◌ {A = ℕ} 0 1 = cc in omega arith)

-- ---- the job of a script's tree
abbrev job_of : Proc → Job
job_of p = record { version = 1; tree = p }

own-job : (p : Proc) → Within p → IsJob (job_bytes 1 p) (job_of p)
own-job p w = record { version = refl; within = w; text = refl }

-- a tree whose job is accepted is within the limits
accepted_is_own : (p : Proc) → ValuedP p → (j : Job) → read_job (job_bytes 1 p) ≡ done j → Within p
unfolding job_bytes job_mark bytes16
accepted_is_own p v j e =
    let i = accepted_is_job (job_bytes 1 p) j (job-bytes 1 p v) e in
    let b : bytes_p p ≡ bytes_p j.tree = ap (drop 7) i.text in
    let s = same_proc p j.tree [] [] v i.within.sized.valued (ap (λ (l : List ℕ). l ++ []) b) in
    subst Within (sym s.0) i.within

-- no test of a job has the number 15
not_fifteen : {bs : List ℕ} {number place : ℕ} → Refused bs number place → number < 15
not_fifteen (refusal.cut_header h) = omega arith
not_fifteen (refusal.cut_node r) = omega arith
not_fifteen (refusal.cut_operand n a h) = omega arith
not_fifteen (refusal.mark h m) = omega arith
not_fifteen (refusal.version h m) = omega arith
not_fifteen (refusal.count h m) = omega arith
not_fifteen (refusal.kind n h) = omega arith
not_fifteen (refusal.register n a e m h) = omega arith
not_fifteen (refusal.depth n a h) = omega arith
not_fifteen (refusal.forks n a e h) = omega arith
not_fifteen (refusal.used_up r) = omega arith
not_fifteen (refusal.nodes_over r) = omega arith
not_fifteen (refusal.bytes_over r) = omega arith
not_fifteen (refusal.long t f) = omega arith

-- ---- the rows
module _ (text before : List ℕ) where
  not_a_script : (number place : ℕ) → read_text text ≡ refused number place → formula_to text before ≡ record { answer = answer.refused number place; output = before }
  unfolding formula_to formula_of delivered
  not_a_script number place e = rw (e)

  a_script : (p : Proc) (o : Outcome Job) → read_text text ≡ done p → read_job (job_bytes 1 p) ≡ o → formula_to text before ≡ delivered (mapped (λ (j : Job). job_bytes 1 p) o) before
  unfolding formula_to formula_of
  a_script p o e f = rw (e, f)

  turned : (p : Proc) (number place : ℕ) → read_text text ≡ done p → read_job (job_bytes 1 p) ≡ refused number place → formula_to text before ≡ record { answer = answer.refused number place; output = before }
  unfolding delivered
  turned p number place e f = a_script p (refused number place) e f

  there : (d : Delivered) → FormulaAnswer text before d → d ≡ formula_to text before
  there d (rows.no_script {i = i} n) = sym (not_a_script 15 i (fifteen_read text i n))
  there d (rows.refused {p = p} {number = number} {place = place} s r) = sym (turned p number place ((taken text p).1 s) (refused_is_read r))
  there d (rows.short_tray {p = p} s w l) = sym (a_script p (done (job_of p)) ((taken text p).1 s) (job_is_accepted _ _ (own-job p w)) ∙ too_short (job_bytes 1 p) before l)
  there d (rows.written {p = p} s w l) = sym (a_script p (done (job_of p)) ((taken text p).1 s) (job_is_accepted _ _ (own-job p w)) ∙ delivers (job_bytes 1 p) before l)

  back_script : (p : Proc) → read_text text ≡ done p → (o : Outcome Job) → read_job (job_bytes 1 p) ≡ o → FormulaAnswer text before (formula_to text before)
  back_script p e (refused n i) f =
      let s = (taken text p).0 e in
      subst (FormulaAnswer text before) (sym (turned p n i e f)) (rows.refused s (read_is_refused _ (job-bytes 1 p (script_valued s.script)) n i f))
  back_script p e (done j) f = go (dec_lt (length before) (length (job_bytes 1 p)))
    where
      go : Dec (length before < length (job_bytes 1 p)) → FormulaAnswer text before (formula_to text before)
      go (yes l) =
          let s = (taken text p).0 e in
          subst (FormulaAnswer text before) (sym (a_script p (done j) e f ∙ too_short (job_bytes 1 p) before l)) (rows.short_tray s (accepted_is_own p (script_valued s.script) j f) l)
      go (no l) =
          let s = (taken text p).0 e in
          let m : length (job_bytes 1 p) ≤ length before = omega arith in
          subst (FormulaAnswer text before) (sym (a_script p (done j) e f ∙ delivers (job_bytes 1 p) before m)) (rows.written s (accepted_is_own p (script_valued s.script) j f) m)

  back : (o : Outcome Proc) → read_text text ≡ o → FormulaAnswer text before (formula_to text before)
  back (refused n i) e =
      let k = (turned-down text n i).0 e in
      let f : read_text text ≡ refused 15 i = fifteen_read text i k.1 in
      subst (FormulaAnswer text before) (sym (not_a_script 15 i f)) (rows.no_script k.1)
  back (done p) e = back_script p e (read_job (job_bytes 1 p)) refl

  formula_rows : (d : Delivered) → FormulaAnswer text before d ↔ (d ≡ formula_to text before)
  formula_rows d = (there d, λ e. subst (FormulaAnswer text before) (sym e) (back (read_text text) refl))

  only_fifteen : (i : ℕ) → formula_to text before ≡ record { answer = answer.refused 15 i; output = before } → NoScript text i
  only_fifteen i e = go _ ((formula_rows _).1 refl) (ap (λ (d : Delivered). d.answer) e)
    where
      go : (d : Delivered) → FormulaAnswer text before d → d.answer ≡ answer.refused 15 i → NoScript text i
      go _ (rows.no_script {i = k} n) e = let z : k ≡ i = cc in subst (NoScript text) z n
      go _ (rows.refused {number = number} s r) e = absurd (let z : number ≡ 15 = cc in omega (arith, not_fifteen r))
      go _ (rows.short_tray s w l) e = absurd (let z : ◌≡◌ {A = ℕ} 10 15 = cc in omega arith)
      go _ (rows.written s w l) e = absurd (let z : ◌≡◌ {A = ℕ} 0 1 = cc in omega arith)

  written_so :
      (n : ℕ) → (formula_to text before).answer ≡ answer.done n →
      (job : List ℕ) × (j : Job) × ShortScript text j.tree × IsJob job j × (j.version ≡ 1) × (n ≡ length job) × (length job ≤ length before) × ((formula_to text before).output ≡ onto job before)
  written_so n e = go _ ((formula_rows _).1 refl) e refl
    where
      go : (d : Delivered) → FormulaAnswer text before d → d.answer ≡ answer.done n → d ≡ formula_to text before →
          (job : List ℕ) × (j : Job) × ShortScript text j.tree × IsJob job j × (j.version ≡ 1) × (n ≡ length job) × (length job ≤ length before) × ((formula_to text before).output ≡ onto job before)
      go _ (rows.no_script n) e f = absurd (let z : ◌≡◌ {A = ℕ} 0 1 = cc in omega arith)
      go _ (rows.refused s r) e f = absurd (let z : ◌≡◌ {A = ℕ} 0 1 = cc in omega arith)
      go _ (rows.short_tray s w l) e f = absurd (let z : ◌≡◌ {A = ℕ} 0 1 = cc in omega arith)
      go _ (rows.written {p = p} s w l) e f = (job_bytes 1 p, job_of p, s, own-job p w, refl, (let z : n ≡ length (job_bytes 1 p) = cc in z), l, ap (λ (d : Delivered). d.output) (sym f))

-- ---- every job is that of some text
typed :
    (job : List ℕ) (j : Job) → IsJob job j → j.version ≡ 1 →
    (text : List ℕ) × ShortScript text j.tree × ((before : List ℕ) → length job ≤ length before → formula_to text before ≡ record { answer = answer.done (length job); output = onto job before })
typed job j i v =
    let s = (taken (printed j.tree) j.tree).0 (printed_read j.tree i.within.sized) in
    let b : job ≡ job_bytes 1 j.tree = i.text ∙ ap (λ (n : ℕ). job_bytes n j.tree) v in (
      printed j.tree,
      s,
      subst (λ (job : List ℕ). (before : List ℕ) → length job ≤ length before → formula_to (printed j.tree) before ≡ record { answer = answer.done (length job); output = onto job before }) (sym b)
          (λ before l. sym ((formula_rows (printed j.tree) before _).0 (rows.written s i.within l))),
    )

pub formulas : Formulas
formulas =
    record {
      one_tree = λ text p q h k. one_tree h k;
      counted = λ text p k. script_nodes k;
      decided = decided;
      one_place = one_place;
      not_both = not_both;
      taken = taken;
      turned-down = turned-down;
      formula = formula_rows;
      follow = λ text p number place s r. job_follows p (script_valued s.script) (omega (arith, script_nodes s.script, s.short)) number place (refused_is_read r);
      fifteen = λ text before i. (λ n. not_a_script text before 15 i (fifteen_read text i n), only_fifteen text before i);
      written = written_so;
      typed = typed;
    }
