-- What a listing tells, and that different results have different listings. Assumes nothing.
use Prim.Native.Nat.{ℕ, ◌+◌, ◌*◌, ◌≤◌}
use mathlib.Core.Bool.{Bool, true, false, cond}
use mathlib.Core.Logic.{◌↔◌, ◌⊎◌, inl, inr}
use mathlib.Core.Path.{◌≡◌, refl, sym, ap, subst, ◌∙◌}
use mathlib.Core.List.{List, [], ◌∷◌, ◌++◌}
use native.Mathlib.Omega.{arith}
use borrow.Author.Tests.{eqb-true, eq-eqb, ne_eqb}
use lib.Dec.{eqb, lit<}
use lib.IntN.{ℤ, pos, negsuc}
use lib.ListN.{length, get_or}
use lib.Seq.{ext_get_or}
use Rattle.listing.specs.Listed.{ascii, decimal, integer, counts_line, thread_line, is_zero, register_line, listing, refusal_line, listed}
use Rattle.code.proofs.Foreign.{code-bytes}
use Rattle.code.specs.Bytes.{compiled}
use Rattle.guarantee.proofs.Agreement.{agreement}
use Rattle.guarantee.proofs.Histories.{is_code, sound}
use Rattle.guarantee.specs.Histories as call
use Rattle.guarantee.specs.Histories.{Ended, History, none, followed, Lent}
use Rattle.machine.proofs.Fresh.{fresh_typed}
use Rattle.machine.proofs.Ranges.{fresh_ranged}
use Rattle.machine.specs.Fits.{Exists, Fits}
use Rattle.machine.specs.Steps.{State, Ran, thread_at, fresh}
use Rattle.script.proofs.Accepts.{accepted_is_job}
use Rattle.script.specs.Bytes.{Bytes}
use Rattle.script.specs.Jobs.{Job}
use Rattle.script.specs.Outcome.{done}
use Rattle.script.specs.Reader.{read_job}
use Rattle.stm.specs.Events.{Counts, counts_of}
use Rattle.stm.proofs.Counts.{same_counts}
use Rattle.thread.specs.declared.Thread.{Thread}
use Rattle.printing.specs.Printing.{HasLine, done_line, open_line, Tells, SameResults, input_of, ran_of, RunProgram}
use Rattle.printing.proofs.FirstBytes.{first_bytes}
use Rattle.printing.proofs.Lines.{never, of_threads, of_registers, held_line, listing_lines, Among, split_first, first, later, split, in-front, behind, Thread's, of-threads, to_threads, Register's, of-registers, to_registers}
use Rattle.printing.proofs.Printed.{input_splits, cut_listed, refused_listed, long_listed, taken, accepted_input}
use Rattle.printing.proofs.Spelling.{decimal_told, integer_told, follows, precedes, decimal_free, apart}

-- ---- a line tells its numbers
-- a number in front of a space
number_told : (a b : ℕ) (x y : List ℕ) → decimal a ++ (32 ∷ x) ≡ decimal b ++ (32 ∷ y) → (a ≡ b) × (x ≡ y)
number_told a b x y e =
    let r = apart 32 (decimal a) (decimal b) x y (decimal_free 32 a (lit< tt)) (decimal_free 32 b (lit< tt)) e in
    (decimal_told a b r.0, r.1)

counts_told : (c d : Counts) → counts_line c ≡ counts_line d → c ≡ d
unfolding counts_line ascii
counts_told c d e =
    let p = number_told c.steps d.steps _ _ (follows (ascii "steps ") _ _ e) in
    let q = number_told c.idle d.idle _ _ (follows (ascii "idle ") _ _ p.1) in
    let r = number_told c.commits d.commits _ _ (follows (ascii "commits ") _ _ q.1) in
    let s = number_told c.back d.back _ _ (follows (ascii "back ") _ _ r.1) in
    let u : c.over ≡ d.over = decimal_told c.over d.over (precedes (decimal c.over) (decimal d.over) 10 (follows (ascii "over ") _ _ s.1)) in
    same_counts p.0 q.0 r.0 s.0 u

-- a refusal's line tells its number and place
pub refusal_told : (n p m q : ℕ) → refusal_line n p ≡ refusal_line m q → (n ≡ m) × (p ≡ q)
unfolding refusal_line ascii
refusal_told n p m q e =
    let r = number_told n m _ _ (follows (ascii "refused ") _ _ e) in
    (r.0, decimal_told p q (precedes (decimal p) (decimal q) 10 (follows (ascii "at ") _ _ r.1)))

done_told : (i k : ℕ) (n m : ℤ) → done_line i n ≡ done_line k m → (i ≡ k) × (n ≡ m)
unfolding ascii
done_told i k n m e =
    let r = number_told i k _ _ (follows (ascii "thread ") _ _ e) in
    (r.0, integer_told n m (precedes (integer n) (integer m) 10 (follows (ascii "done ") _ _ r.1)))

open_told : (i k : ℕ) → open_line i ≡ open_line k → i ≡ k
unfolding ascii
open_told i k e = (number_told i k _ _ (follows (ascii "thread ") _ _ e)).0

-- no thread is done and open
done_open : (i k : ℕ) (n : ℤ) → done_line i n ≡ open_line k → ⊥
unfolding ascii
done_open i k n e =
    let r = number_told i k _ _ (follows (ascii "thread ") _ _ e) in
    let z : ◌≡◌ {A = ℕ} 100 111 = ap (λ (l : List ℕ). get_or l 0 0) r.1 in
    omega (arith, z)

held_told : (v w : ℕ) (n m : ℤ) → held_line v n ≡ held_line w m → (v ≡ w) × (n ≡ m)
unfolding ascii
held_told v w n m e =
    let r = number_told v w _ _ (follows (ascii "register ") _ _ e) in
    (r.0, integer_told n m (precedes (integer n) (integer m) 10 r.1))

-- the first and the third byte of a line tell its form
abbrev opening : List ℕ → ℕ
opening l = get_or l 0 0 * 256 + get_or l 2 0

unlike : {x y : List ℕ} (a b : ℕ) → opening x ≡ a → opening y ≡ b → x ≡ y → (a ≡ b → ⊥) → ⊥
unlike a b p q e n = n (sym p ∙ ap opening e ∙ q)

counts_form : (c : Counts) → opening (counts_line c) ≡ 29541
unfolding counts_line ascii
counts_form c = refl

thread_form : (i : ℕ) (t : Thread) → opening (thread_line i t) ≡ 29810
unfolding thread_line ascii
thread_form i t = refl

done_form : (i : ℕ) (n : ℤ) → opening (done_line i n) ≡ 29810
unfolding ascii
done_form i n = refl

open_form : (i : ℕ) → opening (open_line i) ≡ 29810
unfolding ascii
open_form i = refl

held_form : (v : ℕ) (n : ℤ) → opening (held_line v n) ≡ 29287
unfolding ascii
held_form v n = refl

refusal_form : (n p : ℕ) → opening (refusal_line n p) ≡ 29286
unfolding refusal_line ascii
refusal_form n p = refl

-- ---- a thread's line
abbrev bottom : Thread → ℤ
bottom t = get_or t.cells 0 (pos 0)

ended_line : (i : ℕ) (t : Thread) → t.place ≡ t.end → thread_line i t ≡ done_line i (bottom t)
unfolding thread_line
ended_line i t e = rw (eq-eqb t.place t.end e) refl

open-line : (i : ℕ) (t : Thread) → (t.place ≡ t.end → ⊥) → thread_line i t ≡ open_line i
unfolding thread_line
open-line i t e = rw (ne_eqb t.place t.end e) refl

-- it has ended or not
ended_or : (t : Thread) → (t.place ≡ t.end) ⊎ (t.place ≡ t.end → ⊥)
ended_or t = by_test (eqb t.place t.end) refl
  where
    by_test : (b : Bool) → eqb t.place t.end ≡ b → (t.place ≡ t.end) ⊎ (t.place ≡ t.end → ⊥)
    by_test true e = inl (eqb-true t.place t.end e)
    by_test false e = inr (λ q. never (sym e ∙ eq-eqb t.place t.end q))

-- ---- the lines of a listing
-- whose a line is
data Whose (x : List ℕ) (c : Counts) (s : State) : Type 0 where
  counts's : x ≡ counts_line c → Whose x c s
  thread's : (i : ℕ) → Exists s i → x ≡ thread_line i (thread_at s i) → Whose x c s
  register's : (v : ℕ) → is_zero (get_or s.registers v (pos 0)) ≡ false → x ≡ held_line v (get_or s.registers v (pos 0)) → Whose x c s

module _ (c : Counts) (s : State) (one-left : (i : ℕ) → Exists s i → (thread_at s i).place ≡ (thread_at s i).end → (thread_at s i).height ≡ 1) where
  abbrev text : List ℕ
  text = listing c s

  abbrev lines : List (List ℕ)
  lines = counts_line c ∷ (of_threads 0 s.threads ++ of_registers 0 s.registers)

  whose : (x : List ℕ) → HasLine text x → Whose x c s
  whose x h = by_first (split_first x (counts_line c) _ (subst (Among x) (listing_lines c s) (record { at = h.number; below = h.below; its = h.its })))
    where
      of_thread : Thread's x 0 s.threads → Whose x c s
      of_thread r = thread's r.index r.there (r.its ∙ ap (λ (i : ℕ). thread_line i (thread_at s r.index)) (let z : 0 + r.index ≡ r.index = omega arith in z))

      of_register : Register's x 0 s.registers → Whose x c s
      of_register r = register's r.index r.held (r.its ∙ ap (λ (v : ℕ). held_line v (get_or s.registers r.index (pos 0))) (let z : 0 + r.index ≡ r.index = omega arith in z))

      by_rest : Among x (of_threads 0 s.threads) ⊎ Among x (of_registers 0 s.registers) → Whose x c s
      by_rest (inl m) = of_thread (of-threads x 0 s.threads m)
      by_rest (inr m) = of_register (of-registers x 0 s.registers m)

      by_first : (x ≡ counts_line c) ⊎ Among x (of_threads 0 s.threads ++ of_registers 0 s.registers) → Whose x c s
      by_first (inl e) = counts's e
      by_first (inr m) = by_rest (split x (of_threads 0 s.threads) (of_registers 0 s.registers) m)

  has : (x : List ℕ) → Among x lines → HasLine text x
  has x m = let n = subst (Among x) (sym (listing_lines c s)) m in record { number = n.at; below = n.below; its = n.its }

  has_thread : (i : ℕ) (x : List ℕ) → Exists s i → thread_line i (thread_at s i) ≡ x → HasLine text x
  has_thread i x e q =
      has x (later x (counts_line c) _ (in-front x (of_threads 0 s.threads) (of_registers 0 s.registers) (subst (λ (y : List ℕ). Among y (of_threads 0 s.threads)) (ap (λ (k : ℕ). thread_line k (thread_at s i)) (let z : 0 + i ≡ i = omega arith in z) ∙ q) (to_threads 0 i s.threads e))))

  counts_tell : (d : Counts) → HasLine text (counts_line d) ↔ (d ≡ c)
  counts_tell d = (λ h. by_whose (whose (counts_line d) h), λ e. has (counts_line d) (subst (λ (k : Counts). Among (counts_line d) (counts_line k ∷ (of_threads 0 s.threads ++ of_registers 0 s.registers))) e (first (counts_line d) (of_threads 0 s.threads ++ of_registers 0 s.registers))))
    where
      by_whose : Whose (counts_line d) c s → d ≡ c
      by_whose (counts's e) = counts_told d c e
      by_whose (thread's i t e) = absurd (unlike 29541 29810 (counts_form d) (thread_form i (thread_at s i)) e (λ q. omega (arith, q)))
      by_whose (register's v t e) = absurd (unlike 29541 29287 (counts_form d) (held_form v _) e (λ q. omega (arith, q)))

  done_tell : (i : ℕ) (n : ℤ) → HasLine text (done_line i n) ↔ Ended s i n
  done_tell i n = (λ h. by_whose (whose (done_line i n) h), λ e. has_thread i (done_line i n) e.there (ended_line i (thread_at s i) e.place ∙ ap (done_line i) e.result))
    where
      at : (k : ℕ) → Exists s k → (thread_at s k).place ≡ (thread_at s k).end → Ended s k (bottom (thread_at s k))
      at k t e = record { there = t; place = e; height = one-left k t e; result = refl }

      by_end : (k : ℕ) → Exists s k → done_line i n ≡ thread_line k (thread_at s k) → ((thread_at s k).place ≡ (thread_at s k).end) ⊎ ((thread_at s k).place ≡ (thread_at s k).end → ⊥) → Ended s i n
      by_end k t e (inl q) =
          let r = done_told i k n (bottom (thread_at s k)) (e ∙ ended_line k (thread_at s k) q) in
          subst (λ (m : ℕ). Ended s m n) (sym r.0) (subst (Ended s k) (sym r.1) (at k t q))
      by_end k t e (inr q) = absurd (done_open i k n (e ∙ open-line k (thread_at s k) q))

      by_whose : Whose (done_line i n) c s → Ended s i n
      by_whose (counts's e) = absurd (unlike 29810 29541 (done_form i n) (counts_form c) e (λ q. omega (arith, q)))
      by_whose (thread's k t e) = by_end k t e (ended_or (thread_at s k))
      by_whose (register's v t e) = absurd (unlike 29810 29287 (done_form i n) (held_form v _) e (λ q. omega (arith, q)))

  open_tell : (i : ℕ) → HasLine text (open_line i) ↔ (Exists s i × ((thread_at s i).place ≡ (thread_at s i).end → ⊥))
  open_tell i = (λ h. by_whose (whose (open_line i) h), λ e. has_thread i (open_line i) e.0 (open-line i (thread_at s i) e.1))
    where
      by_end : (k : ℕ) → Exists s k → open_line i ≡ thread_line k (thread_at s k) → ((thread_at s k).place ≡ (thread_at s k).end) ⊎ ((thread_at s k).place ≡ (thread_at s k).end → ⊥) → Exists s i × ((thread_at s i).place ≡ (thread_at s i).end → ⊥)
      by_end k t e (inl q) = absurd (done_open k i (bottom (thread_at s k)) (sym (e ∙ ended_line k (thread_at s k) q)))
      by_end k t e (inr q) = subst (λ (m : ℕ). Exists s m × ((thread_at s m).place ≡ (thread_at s m).end → ⊥)) (sym (open_told i k (e ∙ open-line k (thread_at s k) q))) (t, q)

      by_whose : Whose (open_line i) c s → Exists s i × ((thread_at s i).place ≡ (thread_at s i).end → ⊥)
      by_whose (counts's e) = absurd (unlike 29810 29541 (open_form i) (counts_form c) e (λ q. omega (arith, q)))
      by_whose (thread's k t e) = by_end k t e (ended_or (thread_at s k))
      by_whose (register's v t e) = absurd (unlike 29810 29287 (open_form i) (held_form v _) e (λ q. omega (arith, q)))

  register_tell : (v : ℕ) (n : ℤ) → HasLine text (register_line v n) ↔ ((get_or s.registers v (pos 0) ≡ n) × (is_zero n ≡ false))
  unfolding register_line
  register_tell v n = (λ h. there (is_zero n) refl h, λ e. back e.0 e.1)
    where
      by_whose : is_zero n ≡ false → Whose (held_line v n) c s → (get_or s.registers v (pos 0) ≡ n) × (is_zero n ≡ false)
      by_whose z (counts's e) = absurd (unlike 29287 29541 (held_form v n) (counts_form c) e (λ q. omega (arith, q)))
      by_whose z (thread's k t e) = absurd (unlike 29287 29810 (held_form v n) (thread_form k (thread_at s k)) e (λ q. omega (arith, q)))
      by_whose z (register's w t e) = let r = held_told v w n _ e in (ap (λ (k : ℕ). get_or s.registers k (pos 0)) r.0 ∙ sym r.1, z)

      -- no line is without a byte
      none : Whose [] c s → ⊥
      none (counts's e) = unlike 0 29541 refl (counts_form c) e (λ q. omega (arith, q))
      none (thread's k t e) = unlike 0 29810 refl (thread_form k (thread_at s k)) e (λ q. omega (arith, q))
      none (register's w t e) = unlike 0 29287 refl (held_form w _) e (λ q. omega (arith, q))

      there : (b : Bool) → is_zero n ≡ b → HasLine text (cond b [] (held_line v n)) → (get_or s.registers v (pos 0) ≡ n) × (is_zero n ≡ false)
      there true z h = absurd (none (whose [] h))
      there false z h = by_whose z (whose (held_line v n) h)

      back : get_or s.registers v (pos 0) ≡ n → is_zero n ≡ false → HasLine text (cond (is_zero n) [] (held_line v n))
      back e z =
          subst (λ (b : Bool). HasLine text (cond b [] (held_line v n))) (sym z)
          (has (held_line v n) (later (held_line v n) (counts_line c) _ (behind (held_line v n) (of_threads 0 s.threads) (of_registers 0 s.registers)
          (subst (λ (x : List ℕ). Among x (of_registers 0 s.registers)) (ap (λ (k : ℕ). held_line k (get_or s.registers v (pos 0))) (let o : 0 + v ≡ v = omega arith in o) ∙ ap (held_line v) e) (to_registers 0 v s.registers (ap is_zero e ∙ z))))))

  refusal_tells : (number place : ℕ) → HasLine text (refusal_line number place) → ⊥
  refusal_tells number place h = by_whose (whose (refusal_line number place) h)
    where
      by_whose : Whose (refusal_line number place) c s → ⊥
      by_whose (counts's e) = unlike 29286 29541 (refusal_form number place) (counts_form c) e (λ q. omega (arith, q))
      by_whose (thread's k t e) = unlike 29286 29810 (refusal_form number place) (thread_form k (thread_at s k)) e (λ q. omega (arith, q))
      by_whose (register's v t e) = unlike 29286 29287 (refusal_form number place) (held_form v _) e (λ q. omega (arith, q))

  pub listing_tells : Tells text c s
  listing_tells = record { counts = counts_tell; done = done_tell; unfinished = open_tell; register = register_tell; taken = refusal_tells }

-- ---- what the run program prints of an accepted job with at most 32,768 picks
module _ (job picks : List ℕ) (j : Job) (bytes : Bytes job) (small : Bytes picks) (accepted : read_job job ≡ done j) (few : length picks ≤ 32768) where
  abbrev ran : Ran
  ran = ran_of j picks

  -- the list of that one call
  history : History (compiled j) (record { code = compiled j; state = ran.state }) ([] ++ ran.events)
  history = followed none (call.run (compiled j) (fresh (compiled j)) picks) lent refl refl (taken job picks j bytes accepted few)
    where
      lent : Lent (call.run (compiled j) (fresh (compiled j)) picks)
      lent =
          record {
            code = code-bytes j (accepted_is_job job j bytes accepted).within.sized.valued;
            state = fresh_typed (compiled j);
            ranges = fresh_ranged (is_code job j bytes accepted);
            picks = small;
          }

  pub height : (i : ℕ) → Exists ran.state i → (thread_at ran.state i).place ≡ (thread_at ran.state i).end → (thread_at ran.state i).height ≡ 1
  height i t e = ((sound job j bytes accepted history).results i t e).ended.height

  pub fitting : Fits (compiled j) ran.state
  fitting = ((agreement job j bytes accepted).history_fits history).0

  -- an input that has the job and the picks prints a text that tells its run
  pub prints : Tells (listed (input_of job picks)) (counts_of ran.events) ran.state
  prints =
      subst (λ (l : List ℕ). Tells l (counts_of ran.events) ran.state) (sym (accepted_input job picks j bytes accepted few))
      (listing_tells (counts_of ran.events) ran.state height)

-- ---- the same text tells the same
module _ {text : List ℕ} {c c' : Counts} {s s' : State} (t : Tells text c s) (t' : Tells text c' s') where
  same_results : (i : ℕ) (n : ℤ) → Ended s i n ↔ Ended s' i n
  same_results i n = (λ e. (t'.done i n).0 ((t.done i n).1 e), λ e. (t.done i n).0 ((t'.done i n).1 e))

  same_register : (v : ℕ) → get_or s.registers v (pos 0) ≡ get_or s'.registers v (pos 0)
  same_register v = by_test (is_zero (get_or s.registers v (pos 0))) refl
    where
      zero_is : (n : ℤ) → is_zero n ≡ true → n ≡ pos 0
      zero_is (pos n) e = ap pos (eqb-true n 0 e)
      zero_is (negsuc n) e = absurd (never e)

      other : is_zero (get_or s.registers v (pos 0)) ≡ true → (b : Bool) → is_zero (get_or s'.registers v (pos 0)) ≡ b → get_or s.registers v (pos 0) ≡ get_or s'.registers v (pos 0)
      other e true f = zero_is (get_or s.registers v (pos 0)) e ∙ sym (zero_is (get_or s'.registers v (pos 0)) f)
      other e false f = ((t.register v (get_or s'.registers v (pos 0))).0 ((t'.register v (get_or s'.registers v (pos 0))).1 (refl, f))).0

      by_test : (b : Bool) → is_zero (get_or s.registers v (pos 0)) ≡ b → get_or s.registers v (pos 0) ≡ get_or s'.registers v (pos 0)
      by_test true e = other e (is_zero (get_or s'.registers v (pos 0))) refl
      by_test false e = sym ((t'.register v (get_or s.registers v (pos 0))).0 ((t.register v (get_or s.registers v (pos 0))).1 (refl, e))).0

module _ {text : List ℕ} {c c' : Counts} {s s' : State} (one-left : (i : ℕ) → Exists s i → (thread_at s i).place ≡ (thread_at s i).end → (thread_at s i).height ≡ 1) (t : Tells text c s) (t' : Tells text c' s') where
  same_thread : (i : ℕ) → Exists s i → Exists s' i
  same_thread i e = by_end (ended_or (thread_at s i))
    where
      by_end : ((thread_at s i).place ≡ (thread_at s i).end) ⊎ ((thread_at s i).place ≡ (thread_at s i).end → ⊥) → Exists s' i
      by_end (inl q) = ((t'.done i (bottom (thread_at s i))).0 ((t.done i (bottom (thread_at s i))).1 (record { there = e; place = q; height = one-left i e q; result = refl }))).there
      by_end (inr q) = ((t'.unfinished i).0 ((t.unfinished i).1 (e, q))).0

-- two inputs that print the same have the same results, so that those whose results differ print different listings
module _ (job picks : List ℕ) (j : Job) (bytes : Bytes job) (small : Bytes picks) (accepted : read_job job ≡ done j) (few : length picks ≤ 32768)
    (job' picks' : List ℕ) (j' : Job) (bytes' : Bytes job') (small' : Bytes picks') (accepted' : read_job job' ≡ done j') (few' : length picks' ≤ 32768) where
  abbrev one : Ran
  one = ran job picks j bytes small accepted few

  abbrev two : Ran
  two = ran job' picks' j' bytes' small' accepted' few'

  pub told_apart :
      listed (input_of job picks) ≡ listed (input_of job' picks') →
      SameResults (counts_of one.events) one.state (counts_of two.events) two.state
  told_apart e =
      record {
        counts = (b.counts (counts_of one.events)).0 ((a.counts (counts_of one.events)).1 refl);
        registers = ext_get_or (pos 0) one.state.registers two.state.registers (f.registers ∙ sym g.registers) (λ v l. same_register a b v);
        threads = λ i. (same_thread (height job picks j bytes small accepted few) a b i, same_thread (height job' picks' j' bytes' small' accepted' few') b a i);
        results = same_results a b;
      }
    where
      a : Tells (listed (input_of job picks)) (counts_of one.events) one.state
      a = prints job picks j bytes small accepted few

      b : Tells (listed (input_of job picks)) (counts_of two.events) two.state
      b = subst (λ (l : List ℕ). Tells l (counts_of two.events) two.state) (sym e) (prints job' picks' j' bytes' small' accepted' few')

      f : Fits (compiled j) one.state
      f = fitting job picks j bytes small accepted few

      g : Fits (compiled j') two.state
      g = fitting job' picks' j' bytes' small' accepted' few'

pub run_program : RunProgram
run_program =
    record {
      cut = cut_listed;
      splits = input_splits;
      refused_job = refused_listed;
      long_list = long_listed;
      accepted = accepted_input;
      tells = prints;
      refusal_told = refusal_told;
      told_apart = told_apart;
      first_bytes = first_bytes;
    }
