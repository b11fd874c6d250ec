-- What `fresh`, `step` and `run` come to is what document 01's rows 11, 12 and 13 say, in that order. Assumes nothing.
use Prim.Native.Nat.{ℕ}
use mathlib.Core.Bool.{Bool, true, false, not, ◌&&◌}
use mathlib.Core.Path.{◌≡◌, refl, sym, ap, subst, ◌∙◌}
use mathlib.Core.List.{List, [], ◌∷◌}
use mathlib.Core.Logic.{◌↔◌}
use native.Mathlib.Omega.{arith}
use borrow.Author.Tests.{eqb-true, eq-eqb, ltb-true, ltb-false, lt-ltb, le-ltb, not-false}
use lib.Dec.{eqb, ltb}
use lib.ListN.{length}
use Rattle.machine.specs.Steps.{State, Stepped, Ran, pick, fresh, run}
use Rattle.machine.specs.Fits.{Fits, Typed}
use Rattle.machine.specs.FitTest.{fits}
use Rattle.machine.specs.Answers as answers
use Rattle.machine.specs.declared.FreshReply.{FreshReply}
use Rattle.machine.specs.declared.StepReply.{StepReply}
use Rattle.machine.specs.declared.RunReply.{RunReply}
use Rattle.machine.specs.Answers.{sum_of, Told, right_lengths, fitting, fresh_of, step_of, run_of, fresh_reply, step_reply, run_reply, fresh_says, step_says, run_says, Returned, returned, fresh_call, step_call, run_call, FreshAnswer, StepAnswer, RunAnswer, step_counts, run_counts}
use Rattle.stm.specs.Events.{from_writes, from_reads, from_table, Event, idle, pushed, summed, forked, begun, looked, wrote, committed, sent_back, Counts, uncounted, tally, counts_of, event_number}
use Rattle.stm.proofs.Counts.{event-of, same_counts}
use Rattle.machine.proofs.Numbers.{never}
use Rattle.machine.proofs.FitTests.{fits_exactly}
use Rattle.machine.proofs.Fresh.{fresh_fits, fresh_typed}
use Rattle.machine.proofs.Agrees.{step_fits, run_fits}
use Rattle.code.specs.Bytes.{IsCode, Foreign}
use Rattle.code.specs.Reader.{read_code}
use Rattle.code.proofs.Foreign.{only_foreign, foreign_exactly}
use Rattle.code.proofs.ReadBack.{code_read, read_is_code}
use Rattle.script.specs.Bytes.{Bytes}
use Rattle.script.specs.Outcome.{Outcome, refused, done, refuse, onward, mapped}
use Rattle.script.specs.Jobs.{Job}
use Rattle.script.proofs.Accepts.{both, passed}
use Rattle.word.specs.Sum.{wrapping}

-- no code that is foreign is read, and it is refused with 11 at 0
eleven : (code : List ℕ) (n p : ℕ) → read_code code ≡ refused n p → read_code code ≡ refused 11 0
eleven code n p e =
    let o = only_foreign code n p e in
    e ∙ (ap (λ (m : ℕ). refused m p) o.0 ∙ ap (λ (m : ℕ). refused 11 m) o.1)

same_done : {A : Type 0} {x y : A} → ◌≡◌ {A = Outcome A} (done x) (done y) → x ≡ y
same_done e = cc

-- what goes on from a job came to it
passed_on : {A : Type 0} (o : Outcome Job) (f : Job → Outcome A) (a : A) → onward o f ≡ done a → (j : Job) × ((o ≡ done j) × (f j ≡ done a))
passed_on (refused n p) f a e = absurd (let z : ◌≡◌ {A = ℕ} 0 1 = cc in omega arith)
passed_on (done j) f a e = (j, (refl, e))

-- what holds of 11 at 0 holds of every refusal of code
eleventh : (P : ℕ → ℕ → Type 0) (code : List ℕ) (n p : ℕ) → read_code code ≡ refused n p → P 11 0 → P n p
eleventh P code n p e x =
    let o = only_foreign code n p e in
    subst (λ (m : ℕ). P m p) (sym o.0) (subst (λ (m : ℕ). P 11 m) (sym o.1) x)

-- ---- what the calls come to: 11, then 12, then 13
module _ (code : List ℕ) (s : State) where
  -- the three lengths of `fresh`
  abbrev sized : Bool
  sized = eqb (length s.threads) 16 && (eqb (length s.registers) 64 && eqb (length s.counts) 64)

  sized_true : length s.threads ≡ 16 → length s.registers ≡ 64 → length s.counts ≡ 64 → sized ≡ true
  sized_true k l m = rw (eq-eqb (length s.threads) 16 k, eq-eqb (length s.registers) 64 l, eq-eqb (length s.counts) 64 m)

  sized_false : ((length s.threads ≡ 16) × (length s.registers ≡ 64) × (length s.counts ≡ 64) → ⊥) → sized ≡ false
  sized_false n = go sized refl
    where
      go : (b : Bool) → sized ≡ b → b ≡ false
      go true e = let p = both (eqb (length s.threads) 16) (eqb (length s.registers) 64 && eqb (length s.counts) 64) e in let q = both (eqb (length s.registers) 64) (eqb (length s.counts) 64) p.1 in absurd (n (eqb-true _ _ p.0, eqb-true _ _ q.0, eqb-true _ _ q.1))
      go false e = refl

  unfit : Typed s → (Fits code s → ⊥) → fits code s ≡ false
  unfit y n = go (fits code s) refl
    where
      go : (b : Bool) → fits code s ≡ b → b ≡ false
      go true e = absurd (n ((fits_exactly code s y).0 e))
      go false e = refl

  fresh_11 : read_code code ≡ refused 11 0 → fresh_of code s ≡ refused 11 0
  unfolding fresh_of
  fresh_11 e = rw e

  fresh_12 : {j : Job} → read_code code ≡ done j → sized ≡ false → fresh_of code s ≡ refused 12 0
  unfolding fresh_of
  fresh_12 e z = rw (e, z)

  fresh_done : {j : Job} → read_code code ≡ done j → sized ≡ true → fresh_of code s ≡ done (fresh code)
  unfolding fresh_of
  fresh_done e z = rw (e, z)

  step_11 : (i : ℕ) → read_code code ≡ refused 11 0 → step_of code s i ≡ refused 11 0
  unfolding step_of
  step_11 i e = rw e

  pub step_12 : (i : ℕ) {j : Job} → read_code code ≡ done j → fits code s ≡ false → step_of code s i ≡ refused 12 0
  unfolding step_of
  step_12 i e z = rw (e, z)

  pub step_done : (i : ℕ) {j : Job} → read_code code ≡ done j → fits code s ≡ true → step_of code s i ≡ done (pick (sum_of j) code s i)
  unfolding step_of
  step_done i e z = rw (e, z)

  run_11 : (is : List ℕ) → read_code code ≡ refused 11 0 → run_of code s is ≡ refused 11 0
  unfolding run_of
  run_11 is e = rw e

  run_12 : (is : List ℕ) {j : Job} → read_code code ≡ done j → fits code s ≡ false → run_of code s is ≡ refused 12 0
  unfolding run_of
  run_12 is e z = rw (e, z)

  run_13 : (is : List ℕ) {j : Job} → read_code code ≡ done j → fits code s ≡ true → ltb 32768 (length is) ≡ true → run_of code s is ≡ refused 13 0
  unfolding run_of
  run_13 is e z l = rw (e, z, l)

  run_done : (is : List ℕ) {j : Job} → read_code code ≡ done j → fits code s ≡ true → ltb 32768 (length is) ≡ false → run_of code s is ≡ done (run (sum_of j) code s is)
  unfolding run_of
  run_done is e z l = rw (e, z, l)

-- ---- what the calls return
-- a refused call returns what it was lent: "A refusal returns its number and a place, and alters no lent memory"
pub fresh_refused : (code : List ℕ) (s : State) (n p : ℕ) → fresh_of code s ≡ refused n p → fresh_call code s ≡ record { state = s; reply = fresh_reply (refused n p) }
unfolding fresh_call
fresh_refused code s n p e = ap (λ (o : Outcome State). returned (λ (r : State). r) fresh_reply s o) e

pub step_refused : (code : List ℕ) (s : State) (i n p : ℕ) → step_of code s i ≡ refused n p → step_call code s i ≡ record { state = s; reply = step_reply (refused n p) }
unfolding step_call
step_refused code s i n p e = ap (λ (o : Outcome Stepped). returned (λ (r : Stepped). r.state) step_reply s o) e

pub run_refused : (code : List ℕ) (s : State) (is : List ℕ) (n p : ℕ) → run_of code s is ≡ refused n p → run_call code s is ≡ record { state = s; reply = run_reply (refused n p) }
unfolding run_call
run_refused code s is n p e = ap (λ (o : Outcome Ran). returned (λ (r : Ran). r.state) run_reply s o) e

-- a call that is not refused returns what it comes to
pub fresh_taken : (code : List ℕ) (s r : State) → fresh_of code s ≡ done r → fresh_call code s ≡ record { state = r; reply = fresh_reply (done r) }
unfolding fresh_call
fresh_taken code s r e = ap (λ (o : Outcome State). returned (λ (r : State). r) fresh_reply s o) e

pub step_taken : (code : List ℕ) (s : State) (i : ℕ) (r : Stepped) → step_of code s i ≡ done r → step_call code s i ≡ record { state = r.state; reply = step_reply (done r) }
unfolding step_call
step_taken code s i r e = ap (λ (o : Outcome Stepped). returned (λ (r : Stepped). r.state) step_reply s o) e

pub run_taken : (code : List ℕ) (s : State) (is : List ℕ) (r : Ran) → run_of code s is ≡ done r → run_call code s is ≡ record { state = r.state; reply = run_reply (done r) }
unfolding run_call
run_taken code s is r e = ap (λ (o : Outcome Ran). returned (λ (r : Ran). r.state) run_reply s o) e

-- ---- the rows, both ways: a call returns what one row says, and what a row says is what the call returns
-- the code is foreign, or some job's
data Known (code : List ℕ) : Type 0 where
  foreign : Foreign code → read_code code ≡ refused 11 0 → Known code
  known : {j : Job} → IsCode code j → read_code code ≡ done j → Known code

known_code : (code : List ℕ) → Bytes code → Known code
known_code code b = go (read_code code) refl
  where
    go : (o : Outcome Job) → read_code code ≡ o → Known code
    go (refused n p) e = foreign ((foreign_exactly code b).0 (eleven code n p e)) (eleven code n p e)
    go (done j) e = known (read_is_code code j b e) e

reads : {code : List ℕ} {j : Job} → IsCode code j → read_code code ≡ done j
reads {code} {j} c = ap read_code c.text ∙ code_read j c.version c.within

-- `fresh`: 11, then the three lengths
pub fresh_answers : (code : List ℕ) (s : State) → Bytes code → (r : Returned FreshReply) → FreshAnswer code s r ↔ (r ≡ fresh_call code s)
fresh_answers code s b r = (there r, λ e. subst (λ (x : Returned FreshReply). FreshAnswer code s x) (sym e) (back (known_code code b)))
  where
    there : (r : Returned FreshReply) → FreshAnswer code s r → r ≡ fresh_call code s
    there r (answers.foreign_code f) = sym (fresh_refused code s 11 0 (fresh_11 code s ((foreign_exactly code b).1 f)))
    there r (answers.foreign_state c n) = sym (fresh_refused code s 12 0 (fresh_12 code s (reads c) (sized_false code s n)))
    there r (answers.laid_down c k l m) = sym (fresh_taken code s (fresh code) (fresh_done code s (reads c) (sized_true code s k l m)))

    back : Known code → FreshAnswer code s (fresh_call code s)
    back (foreign f e) = subst (λ (x : Returned FreshReply). FreshAnswer code s x) (sym (fresh_refused code s 11 0 (fresh_11 code s e))) (answers.foreign_code f)
    back (known c e) = go (sized code s) refl
      where
        go : (t : Bool) → sized code s ≡ t → FreshAnswer code s (fresh_call code s)
        go true z =
            let p = both (eqb (length s.threads) 16) (eqb (length s.registers) 64 && eqb (length s.counts) 64) z in
            let q = both (eqb (length s.registers) 64) (eqb (length s.counts) 64) p.1 in
            subst (λ (x : Returned FreshReply). FreshAnswer code s x) (sym (fresh_taken code s (fresh code) (fresh_done code s e z))) (answers.laid_down c (eqb-true _ _ p.0) (eqb-true _ _ q.0) (eqb-true _ _ q.1))
        go false z = subst (λ (x : Returned FreshReply). FreshAnswer code s x) (sym (fresh_refused code s 12 0 (fresh_12 code s e z))) (answers.foreign_state c (λ l. never (sized_true code s l.0 l.1 l.2) z))

-- `step`: 11, then 12
pub step_answers : (code : List ℕ) (s : State) (i : ℕ) → Bytes code → Typed s → (r : Returned StepReply) → StepAnswer code s i r ↔ (r ≡ step_call code s i)
step_answers code s i b y r = (there r, λ e. subst (λ (x : Returned StepReply). StepAnswer code s i x) (sym e) (back (known_code code b)))
  where
    there : (r : Returned StepReply) → StepAnswer code s i r → r ≡ step_call code s i
    there r (answers.foreign_code f) = sym (step_refused code s i 11 0 (step_11 code s i ((foreign_exactly code b).1 f)))
    there r (answers.foreign_state c n) = sym (step_refused code s i 12 0 (step_12 code s i (reads c) (unfit code s y n)))
    there r (answers.picked {j} c f) = sym (step_taken code s i (pick (sum_of j) code s i) (step_done code s i (reads c) ((fits_exactly code s y).1 f)))

    back : Known code → StepAnswer code s i (step_call code s i)
    back (foreign f e) = subst (λ (x : Returned StepReply). StepAnswer code s i x) (sym (step_refused code s i 11 0 (step_11 code s i e))) (answers.foreign_code f)
    back (known {j} c e) = go (fits code s) refl
      where
        go : (t : Bool) → fits code s ≡ t → StepAnswer code s i (step_call code s i)
        go true z = subst (λ (x : Returned StepReply). StepAnswer code s i x) (sym (step_taken code s i (pick (sum_of j) code s i) (step_done code s i e z))) (answers.picked c ((fits_exactly code s y).0 z))
        go false z = subst (λ (x : Returned StepReply). StepAnswer code s i x) (sym (step_refused code s i 12 0 (step_12 code s i e z))) (answers.foreign_state c (λ f. never ((fits_exactly code s y).1 f) z))

-- `run`: 11, then 12, then 13
pub run_answers : (code : List ℕ) (s : State) (is : List ℕ) → Bytes code → Typed s → (r : Returned RunReply) → RunAnswer code s is r ↔ (r ≡ run_call code s is)
run_answers code s is b y r = (there r, λ e. subst (λ (x : Returned RunReply). RunAnswer code s is x) (sym e) (back (known_code code b)))
  where
    there : (r : Returned RunReply) → RunAnswer code s is r → r ≡ run_call code s is
    there r (answers.foreign_code f) = sym (run_refused code s is 11 0 (run_11 code s is ((foreign_exactly code b).1 f)))
    there r (answers.foreign_state c n) = sym (run_refused code s is 12 0 (run_12 code s is (reads c) (unfit code s y n)))
    there r (answers.long_list c f l) = sym (run_refused code s is 13 0 (run_13 code s is (reads c) ((fits_exactly code s y).1 f) (lt-ltb 32768 (length is) l)))
    there r (answers.ran {j} c f l) = sym (run_taken code s is (run (sum_of j) code s is) (run_done code s is (reads c) ((fits_exactly code s y).1 f) (le-ltb 32768 (length is) l)))

    back : Known code → RunAnswer code s is (run_call code s is)
    back (foreign f e) = subst (λ (x : Returned RunReply). RunAnswer code s is x) (sym (run_refused code s is 11 0 (run_11 code s is e))) (answers.foreign_code f)
    back (known {j} c e) = go (fits code s) refl (ltb 32768 (length is)) refl
      where
        go : (t : Bool) → fits code s ≡ t → (l : Bool) → ltb 32768 (length is) ≡ l → RunAnswer code s is (run_call code s is)
        go true z true l = subst (λ (x : Returned RunReply). RunAnswer code s is x) (sym (run_refused code s is 13 0 (run_13 code s is e z l))) (answers.long_list c ((fits_exactly code s y).0 z) (ltb-true 32768 (length is) l))
        go true z false l = subst (λ (x : Returned RunReply). RunAnswer code s is x) (sym (run_taken code s is (run (sum_of j) code s is) (run_done code s is e z l))) (answers.ran c ((fits_exactly code s y).0 z) (ltb-false 32768 (length is) l))
        go false z t l = subst (λ (x : Returned RunReply). RunAnswer code s is x) (sym (run_refused code s is 12 0 (run_12 code s is e z))) (answers.foreign_state c (λ f. never ((fits_exactly code s y).1 f) z))

-- ---- a call leaves a state that fits, or the one that was lent
-- `fresh` that is not refused leaves a state that fits
pub fresh_call_fits : (code : List ℕ) (s r : State) → fresh_of code s ≡ done r → Fits code r × Typed r
unfolding fresh_of
fresh_call_fits code s r e =
    let x = passed_on (read_code code) (λ (j : Job). right_lengths s (done (fresh code))) r e in
    let y : done (fresh code) ≡ done r = (passed (not (sized code s)) 12 0 (done (fresh code)) x.1.1).1 in
    subst (λ (y : State). Fits code y × Typed y) (same_done y) (fresh_fits code, fresh_typed code)

-- and so does a step
pub step_call_fits : (code : List ℕ) (s : State) (i : ℕ) (r : Stepped) → Bytes code → Typed s → step_of code s i ≡ done r → Fits code r.state × Typed r.state
unfolding step_of
step_call_fits code s i r b y e =
    let x = passed_on (read_code code) (λ (j : Job). fitting code s (done (pick (sum_of j) code s i))) r e in
    let f = passed (not (fits code s)) 12 0 (done (pick (sum_of x.0) code s i)) x.1.1 in
    let z : pick (sum_of x.0) code s i ≡ r = same_done f.1 in
    subst (λ (w : Stepped). Fits code w.state × Typed w.state) z
    (step_fits (read_is_code code x.0 b x.1.0) (sum_of x.0) s ((fits_exactly code s y).0 (not-false (fits code s) f.0)) y i)

-- and a run
pub run_call_fits : (code : List ℕ) (s : State) (is : List ℕ) (r : Ran) → Bytes code → Typed s → run_of code s is ≡ done r → Fits code r.state × Typed r.state
unfolding run_of
run_call_fits code s is r b y e =
    let x = passed_on (read_code code) (λ (j : Job). fitting code s (refuse (ltb 32768 (length is)) 13 0 (done (run (sum_of j) code s is)))) r e in
    let f = passed (not (fits code s)) 12 0 (refuse (ltb 32768 (length is)) 13 0 (done (run (sum_of x.0) code s is))) x.1.1 in
    let z : run (sum_of x.0) code s is ≡ r = same_done (passed (ltb 32768 (length is)) 13 0 (done (run (sum_of x.0) code s is)) f.1).1 in
    subst (λ (w : Ran). Fits code w.state × Typed w.state) z
    (run_fits (read_is_code code x.0 b x.1.0) (sum_of x.0) s ((fits_exactly code s y).0 (not-false (fits code s) f.0)) y is)

-- ---- each answer says what the call comes to: no refusal has number 0
pub fresh-says : (code : List ℕ) (s : State) → fresh_says (fresh_call code s).reply ≡ mapped (λ (r : State). tt) (fresh_of code s)
unfolding fresh_call fresh_of
fresh-says code s = by (read_code code) refl
  where
    by : (o : Outcome Job) → read_code code ≡ o → fresh_says (returned (λ (r : State). r) fresh_reply s (onward o (λ j. right_lengths s (done (fresh code))))).reply ≡ mapped (λ (r : State). tt) (onward o (λ j. right_lengths s (done (fresh code))))
    by (refused n p) e = eleventh (λ m q. fresh_says (fresh_reply (refused m q)) ≡ refused m q) code n p e refl
    by (done j) e = go (not (eqb (length s.threads) 16 && (eqb (length s.registers) 64 && eqb (length s.counts) 64)))
      where
        go : (b : Bool) → fresh_says (returned (λ (r : State). r) fresh_reply s (refuse b 12 0 (done (fresh code)))).reply ≡ mapped (λ (r : State). tt) (refuse b 12 0 (done (fresh code)))
        go true = refl
        go false = refl

pub step-says : (code : List ℕ) (s : State) (i : ℕ) → step_says (step_call code s i).reply ≡ mapped (λ (r : Stepped). record { event = r.event; over = r.over }) (step_of code s i)
unfolding step_call step_of
step-says code s i = by (read_code code) refl
  where
    by : (o : Outcome Job) → read_code code ≡ o → step_says (returned (λ (r : Stepped). r.state) step_reply s (onward o (λ j. fitting code s (done (pick (sum_of j) code s i))))).reply ≡ mapped (λ (r : Stepped). record { event = r.event; over = r.over }) (onward o (λ j. fitting code s (done (pick (sum_of j) code s i))))
    by (refused n p) e = eleventh (λ m q. step_says (step_reply (refused m q)) ≡ refused m q) code n p e refl
    by (done j) e = go (not (fits code s))
      where
        go : (b : Bool) → step_says (returned (λ (r : Stepped). r.state) step_reply s (refuse b 12 0 (done (pick (sum_of j) code s i)))).reply ≡ mapped (λ (r : Stepped). record { event = r.event; over = r.over }) (refuse b 12 0 (done (pick (sum_of j) code s i)))
        go true = refl
        go false = ap (λ (e : Event). done (record { event = e; over = (pick (sum_of j) code s i).over })) (event-of (pick (sum_of j) code s i).event)

pub run-says : (code : List ℕ) (s : State) (is : List ℕ) → run_says (run_call code s is).reply ≡ mapped (λ (r : Ran). counts_of r.events) (run_of code s is)
unfolding run_call run_of
run-says code s is = by (read_code code) refl
  where
    by : (o : Outcome Job) → read_code code ≡ o → run_says (returned (λ (r : Ran). r.state) run_reply s (onward o (λ j. fitting code s (refuse (ltb 32768 (length is)) 13 0 (done (run (sum_of j) code s is)))))).reply ≡ mapped (λ (r : Ran). counts_of r.events) (onward o (λ j. fitting code s (refuse (ltb 32768 (length is)) 13 0 (done (run (sum_of j) code s is)))))
    by (refused n p) e = eleventh (λ m q. run_says (run_reply (refused m q)) ≡ refused m q) code n p e refl
    by (done j) e = go (not (fits code s)) (ltb 32768 (length is))
      where
        go : (b c : Bool) → run_says (returned (λ (r : Ran). r.state) run_reply s (refuse b 12 0 (refuse c 13 0 (done (run (sum_of j) code s is))))).reply ≡ mapped (λ (r : Ran). counts_of r.events) (refuse b 12 0 (refuse c 13 0 (done (run (sum_of j) code s is))))
        go true c = refl
        go false true = refl
        go false false = refl

-- ---- the counts that an answer reports are those of its picks
pub step_reports : (r : Stepped) (i : ℕ) → step_counts (step_reply (done r)) ≡ counts_of (record { thread = i; event = r.event; over = r.over } ∷ [])
unfolding counts_of tally event_number
step_reports r i = by r.event
  where
    by : (e : Event) → step_counts (step_reply (done (record { state = r.state; event = e; over = r.over }))) ≡ counts_of (record { thread = i; event = e; over = r.over } ∷ [])
    by idle = same_counts refl refl refl refl (omega arith)
    by pushed = same_counts refl refl refl refl (omega arith)
    by (summed inside) = same_counts refl refl refl refl (omega arith)
    by forked = same_counts refl refl refl refl (omega arith)
    by begun = same_counts refl refl refl refl (omega arith)
    by (looked from_writes) = same_counts refl refl refl refl (omega arith)
    by (looked from_reads) = same_counts refl refl refl refl (omega arith)
    by (looked from_table) = same_counts refl refl refl refl (omega arith)
    by wrote = same_counts refl refl refl refl (omega arith)
    by committed = same_counts refl refl refl refl (omega arith)
    by (sent_back v) = same_counts refl refl refl refl (omega arith)

pub run_reports : (r : Ran) → run_counts (run_reply (done r)) ≡ counts_of r.events
run_reports r = refl

-- of a whole call: a refused one reports none
abbrev pub counting : {A : Type 0} → (A → Counts) → Outcome A → Counts
counting f (refused number place) = uncounted
counting f (done a) = f a

pub step_call_counts : (code : List ℕ) (s : State) (i : ℕ) → step_counts (step_call code s i).reply ≡ counting (λ (r : Stepped). counts_of (record { thread = i; event = r.event; over = r.over } ∷ [])) (step_of code s i)
unfolding step_call step_of
step_call_counts code s i = by (read_code code) refl
  where
    result : Outcome Stepped → Type 0
    result o = step_counts (returned (λ (r : Stepped). r.state) step_reply s o).reply ≡ counting (λ (r : Stepped). counts_of (record { thread = i; event = r.event; over = r.over } ∷ [])) o

    by : (o : Outcome Job) → read_code code ≡ o → result (onward o (λ j. fitting code s (done (pick (sum_of j) code s i))))
    by (refused n p) e = eleventh (λ m q. step_counts (step_reply (refused m q)) ≡ uncounted) code n p e refl
    by (done j) e = go (not (fits code s))
      where
        go : (b : Bool) → result (refuse b 12 0 (done (pick (sum_of j) code s i)))
        go true = refl
        go false = step_reports (pick (sum_of j) code s i) i

pub run_call_counts : (code : List ℕ) (s : State) (is : List ℕ) → run_counts (run_call code s is).reply ≡ counting (λ (r : Ran). counts_of r.events) (run_of code s is)
unfolding run_call run_of
run_call_counts code s is = by (read_code code) refl
  where
    result : Outcome Ran → Type 0
    result o = run_counts (returned (λ (r : Ran). r.state) run_reply s o).reply ≡ counting (λ (r : Ran). counts_of r.events) o

    by : (o : Outcome Job) → read_code code ≡ o → result (onward o (λ j. fitting code s (refuse (ltb 32768 (length is)) 13 0 (done (run (sum_of j) code s is)))))
    by (refused n p) e = eleventh (λ m q. run_counts (run_reply (refused m q)) ≡ uncounted) code n p e refl
    by (done j) e = go (not (fits code s)) (ltb 32768 (length is))
      where
        go : (b c : Bool) → result (refuse b 12 0 (refuse c 13 0 (done (run (sum_of j) code s is))))
        go true c = refl
        go false true = refl
        go false false = refl

-- the rule for sums of version 1 is wrapping
pub version_1_wraps : (j : Job) → j.version ≡ 1 → sum_of j ≡ wrapping
version_1_wraps j e = refl
