-- Document 02 No. 2's sentence on the count among the notes holds for every accepted job. Assumes nothing.
use Prim.Native.Nat.{ℕ, suc, ◌+◌, ◌≤◌, ◌<◌}
use mathlib.Core.Bool.{Bool, true, false, cond}
use mathlib.Core.Logic.{◌↔◌}
use mathlib.Core.Path.{◌≡◌, refl, sym, ap, subst, ◌∙◌}
use mathlib.Core.List.{List}
use mathlib.Core.Option.{Option, some}
use native.Mathlib.Omega.{arith}
use borrow.Author.Tests.{eqb-true, eqb-false, ne_eqb}
use lib.Dec.{eqb}
use lib.ListN.{drop, set}
use lib.Seq.{get_or-set_same, get_or-set_other}
use Rattle.guarantee.specs.Notes.{adds_past, AddsSince, begun, passed, CountsNoted}
use Rattle.guarantee.proofs.Histories.{is_code}
use Rattle.code.specs.Bytes.{code_mark, code_bytes, compiled, IsCode}
use Rattle.code.proofs.Foreign.{code-bytes}
use Rattle.code.specs.Ops.{Op, op_at}
use Rattle.code.specs.Ops as code
use Rattle.machine.specs.Answers.{step_reply, step_call, run_reply, run_call}
use Rattle.machine.specs.Answers as answers
use Rattle.machine.specs.Fits.{Walked, walk_op, next_place, Walks, starts, passes, Placed, Exists, Fits, TypedThread, Typed}
use Rattle.machine.specs.Steps.{State, thread_at}
use Rattle.machine.proofs.Agrees.{outer}
use Rattle.machine.proofs.Calls.{step_answers, run_answers}
use Rattle.machine.proofs.Keeps.{note_free}
use Rattle.machine.proofs.Numbers.{in_table}
use Rattle.machine.proofs.Walking.{next_after, same_op, walks_once, no_adds}
use Rattle.script.specs.Bytes.{Bytes}
use Rattle.script.specs.Jobs.{Job}
use Rattle.script.specs.Outcome.{refused, done}
use Rattle.script.specs.Reader.{read_job}
use Rattle.thread.specs.declared.Thread.{Thread}
use Rattle.thread.specs.Threads.{blank, exists, with_notes}

same_number : {a b : ℕ} → ◌≡◌ {A = Option ℕ} (some a) (some b) → a ≡ b
same_number e = cc

-- ---- the ADDs passed since a BEGIN are one number
module _ (bytes : List ℕ) where
  -- the same, told from the front
  data Ahead : (place adds last all : ℕ) → Type 0 where
    stop : {p n : ℕ} → Ahead p n p n
    go : {p n k q m : ℕ} {op : Op} → op_at (drop p bytes) ≡ done op → adds_past op n ≡ some k → Ahead (next_place op p) k q m → Ahead p n q m

  further : {p n q m k : ℕ} {op : Op} → Ahead p n q m → op_at (drop q bytes) ≡ done op → adds_past op m ≡ some k → Ahead p n (next_place op q) k
  further stop e x = go e x stop
  further (go d y a) e x = go d y (further a e x)

  ahead : {b q m : ℕ} → AddsSince bytes b q m → Ahead (b + 1) 0 q m
  ahead (begun e) = stop
  ahead (passed a e x) = further (ahead a) e x

  rises : {p n q m : ℕ} → Ahead p n q m → p ≤ q
  rises stop = omega arith
  rises (go {p} {op = op} e x a) = let r = rises a in let l = next_after op p in omega arith

  once_at : {p n q r m k : ℕ} → Ahead p n q m → Ahead p n r k → q ≡ r → m ≡ k
  once_at stop stop s = refl
  once_at {p} stop (go {op = op} e x a) s = absurd (let r = rises a in let l = next_after op p in omega arith)
  once_at {p} (go {op = op} e x a) stop s = absurd (let r = rises a in let l = next_after op p in omega arith)
  once_at {p} {n} {q} {r} {m} {k} (go {k = a''} {op = a'} e x a) (go {k = b''} {op = b'} d y b) w =
      let s : b' ≡ a' = same_op (sym d ∙ e) in
      let t : b'' ≡ a'' = same_number (sym y ∙ (ap (λ (o : Op). adds_past o n) s ∙ x)) in
      once_at a (subst (λ (z : ℕ). Ahead (next_place a' p) z r k) t (subst (λ (o : Op). Ahead (next_place o p) b'' r k) s b)) w

  once : {p n q m k : ℕ} → Ahead p n q m → Ahead p n q k → m ≡ k
  once a b = once_at a b refl

  since_once : {b q m k : ℕ} → AddsSince bytes b q m → AddsSince bytes b q k → m ≡ k
  since_once x y = once (ahead x) (ahead y)

  -- those that the walk counts are these
  since_walk : {start end p : ℕ} {w : Walked} → Walks bytes start end p w → (w.begin ≡ 0 → ⊥) → AddsSince bytes w.begin p w.adds
  unfolding walk_op next_place
  since_walk starts z = absurd (z refl)
  since_walk (passes {place} {w} {op} ws l e) z = one op e z (λ x. since_walk ws x)
    where
      Before : Type 0
      Before = (w.begin ≡ 0 → ⊥) → AddsSince bytes w.begin place w.adds

      one : (op : Op) → op_at (drop place bytes) ≡ done op → ((walk_op op place w).begin ≡ 0 → ⊥) → Before → AddsSince bytes (walk_op op place w).begin (next_place op place) (walk_op op place w).adds
      one (code.push n) e z f = passed (f z) e refl
      one code.add e z f = subst (AddsSince bytes w.begin (place + 1)) (sym (ap (λ (b : Bool). cond b 0 (suc w.adds)) (ne_eqb w.begin 0 z))) (passed (f z) e refl)
      one (code.fork size) e z f = passed (f z) e refl
      one code.begin e z f = begun e
      one (code.read v) e z f = passed (f z) e refl
      one (code.write v) e z f = passed (f z) e refl
      one code.commit e z f = absurd (z refl)

-- no BEGIN stands at 0, where the mark is
not_at_mark : (j : Job) {b q n : ℕ} → AddsSince (compiled j) b q n → b ≡ 0 → ⊥
unfolding compiled code_bytes code_mark op_at
not_at_mark j (begun e) z = absurd (let d = subst (λ (x : ℕ). op_at (drop x (compiled j)) ≡ done code.begin) z e in let y : ◌≡◌ {A = ℕ} 0 1 = cc in omega arith)
not_at_mark j (passed a e x) z = not_at_mark j a z

module _ (job : List ℕ) (j : Job) (b : Bytes job) (accepted : read_job job ≡ done j) where
  c : IsCode (compiled j) j
  c = is_code job j b accepted

  abbrev its : List ℕ
  its = compiled j

  abbrev with : State → ℕ → ℕ → Thread
  with s i over = with_notes (thread_at s i).begin (thread_at s i).base over (thread_at s i)

  abbrev noting : State → ℕ → ℕ → State
  noting s i over = record { registers = s.registers; counts = s.counts; threads = set s.threads i (with s i over) }

  abbrev Since : State → ℕ → ℕ → Type 0
  Since s i n = AddsSince its (thread_at s i).begin (thread_at s i).place n

  -- they are those that the walk to the thread's place counts
  walked : (s : State) (i n : ℕ) (p : Placed its (thread_at s i)) → Since s i n → p.walked.adds ≡ n
  walked s i n p x =
      since_once its
      (since_walk its p.walks (λ z. not_at_mark j x (p.begin ∙ z)))
      (subst (λ (m : ℕ). AddsSince its m (thread_at s i).place n) p.begin x)

  above : (s : State) (i n : ℕ) → Exists s i → Since s i n → n < (thread_at s i).over → Fits its s → ⊥
  above s i n e x l f =
      let p = f.placed i e in
      let a = walked s i n p x in
      let o = p.over in
      absurd (omega arith)

  module _ (s : State) (f : Fits its s) (y : Typed s) (i : ℕ) (e : Exists s i) (over : ℕ) where
    there : thread_at (noting s i over) i ≡ with s i over
    there = get_or-set_same s.threads i (with s i over) blank (in_table s i e)

    fits_low : Fits its (noting s i over) → over ≤ (f.placed i e).walked.adds
    fits_low g =
        let p = subst (Placed its) there (g.placed i (ap exists there ∙ e)) in
        let a = ap (λ (w : Walked). w.adds) (walks_once its (thread_at s i).start (thread_at s i).end p.walks (f.placed i e).walks) in
        let o = p.over in
        omega arith

    low_fits : over ≤ (f.placed i e).walked.adds → Fits its (noting s i over)
    low_fits l = note_free c (outer c) s f y i e over l

    typed : Typed (noting s i over)
    typed k = go (eqb k i) refl
      where
        go : (t : Bool) → eqb k i ≡ t → TypedThread (thread_at (noting s i over) k)
        go true z =
            subst (λ (m : ℕ). TypedThread (thread_at (noting s i over) m)) (sym (eqb-true k i z))
            (subst TypedThread (sym there) (record { cells = (y i).cells; readlog = (y i).readlog; readcounts = (y i).readcounts; writelog = (y i).writelog }))
        go false z = subst TypedThread (sym (get_or-set_other s.threads i k (with s i over) blank (eqb-false k i z))) (y k)

    any_count : (n : ℕ) → Since s i n → Fits its (noting s i over) ↔ (over ≤ n)
    any_count n x =
        let a = walked s i n (f.placed i e) x in
        (λ g. let l = fits_low g in omega arith, λ l. low_fits (omega arith))

    none_open : (thread_at s i).begin ≡ 0 → Fits its (noting s i over) ↔ (over ≡ 0)
    none_open z =
        let p = f.placed i e in
        let a = no_adds its (thread_at s i).start (thread_at s i).end p.walks (sym p.begin ∙ z) in
        (λ g. let l = fits_low g in omega arith, λ l. low_fits (omega arith))

    foreign : (n : ℕ) → Since s i n → n < over → Fits its (noting s i over) → ⊥
    foreign n x l g = let m = (any_count n x).0 g in absurd (omega arith)

    bytes : Bytes its
    bytes = code-bytes j c.within.sized.valued

    step_refused : (n : ℕ) → Since s i n → n < over → (pick : ℕ) → step_call its (noting s i over) pick ≡ record { state = noting s i over; reply = step_reply (refused 12 0) }
    step_refused n x l pick = sym ((step_answers its (noting s i over) pick bytes typed _).0 (answers.foreign_state c (foreign n x l)))

    run_refused : (n : ℕ) → Since s i n → n < over → (picks : List ℕ) → run_call its (noting s i over) picks ≡ record { state = noting s i over; reply = run_reply (refused 12 0) }
    run_refused n x l picks = sym ((run_answers its (noting s i over) picks bytes typed _).0 (answers.foreign_state c (foreign n x l)))

-- the count among the notes, for every accepted job
pub counts_noted : (job : List ℕ) (j : Job) → Bytes job → read_job job ≡ done j → CountsNoted j
counts_noted job j b accepted =
    record {
      some_number = λ s f i e o. let p = f.placed i e in (p.walked.adds, subst (λ (m : ℕ). AddsSince (compiled j) m (thread_at s i).place p.walked.adds) (sym p.begin) (since_walk (compiled j) p.walks (λ z. o (p.begin ∙ z))));
      one_number = λ s i m n x z. since_once (compiled j) x z;
      above = above job j b accepted;
      any_count = λ s f y i n e x over. any_count job j b accepted s f y i e over n x;
      none_open = λ s f y i e z over. none_open job j b accepted s f y i e over z;
      step_refused = λ s f y i n e x over. step_refused job j b accepted s f y i e over n x;
      run_refused = λ s f y i n e x over. run_refused job j b accepted s f y i e over n x;
    }
