-- The lines of a listing, and which line is whose. Assumes nothing.
use Prim.Native.Nat.{ℕ, zero, suc, ◌+◌, ◌<◌}
use mathlib.Core.Bool.{Bool, true, false, cond}
use mathlib.Core.Logic.{◌⊎◌, inl, inr}
use mathlib.Core.Path.{◌≡◌, refl, sym, ap, subst, ◌∙◌}
use mathlib.Core.List.{List, [], ◌∷◌, ◌++◌, append_assoc}
use native.Mathlib.Omega.{arith}
use lib.Dec.{eqb, lit<}
use lib.IntN.{ℤ, pos}
use lib.ListN.{length, get_or, length-append}
use Rattle.listing.specs.Listed.{ascii, decimal, integer, counts_line, thread_line, thread_lines, is_zero, register_line, register_lines, listing, refusal_line}
use Rattle.machine.specs.Steps.{State}
use Rattle.stm.specs.Events.{Counts}
use Rattle.thread.specs.Threads.{exists, blank}
use Rattle.thread.specs.declared.Thread.{Thread}
use Rattle.printing.specs.Printing.{before, lines_of, done_line, open_line}
use Rattle.printing.proofs.Spelling.{free, decimal_free, integer_free}

-- ---- one line at a time
abbrev empty : List ℕ → Bool
empty [] = true
empty (c ∷ l) = false

-- a text that ends in its only newline
unfoldable one_line : List ℕ → Bool
one_line [] = false
one_line (c ∷ l) = cond (eqb c 10) (empty l) (one_line l)

pub never : ◌≡◌ {A = Bool} false true → ⊥
never e = subst (λ (b : Bool). cond b ⊥ (Unit {0})) e tt

-- it is the first line of what it begins
first_line : (l r : List ℕ) → one_line l ≡ true → lines_of (l ++ r) ≡ l ∷ lines_of r
unfolding one_line lines_of
first_line [] r e = absurd (never e)
first_line (c ∷ l) r e = by_test (eqb c 10) e (first_line l r)
  where
    ended : (m : List ℕ) → empty m ≡ true → (c ∷ []) ∷ lines_of (m ++ r) ≡ (c ∷ m) ∷ lines_of r
    ended [] f = refl
    ended (d ∷ m) f = absurd (never f)

    by_test : (t : Bool) → cond t (empty l) (one_line l) ≡ true → (one_line l ≡ true → lines_of (l ++ r) ≡ l ∷ lines_of r) → cond t ((c ∷ []) ∷ lines_of (l ++ r)) (before c (lines_of (l ++ r))) ≡ (c ∷ l) ∷ lines_of r
    by_test true f k = ended l f
    by_test false f k = ap (before c) (k f)

-- what comes before the newline
free_line : (a b : List ℕ) → free 10 a ≡ true → one_line b ≡ true → one_line (a ++ b) ≡ true
unfolding free one_line
free_line [] b f e = e
free_line (c ∷ a) b f e = by_test (eqb c 10) f (λ g. free_line a b g e)
  where
    by_test : (t : Bool) → cond t false (free 10 a) ≡ true → (free 10 a ≡ true → one_line (a ++ b) ≡ true) → cond t (empty (a ++ b)) (one_line (a ++ b)) ≡ true
    by_test true g k = absurd (never g)
    by_test false g k = k g

number : (n : ℕ) (b : List ℕ) → one_line b ≡ true → one_line (decimal n ++ b) ≡ true
number n b e = free_line (decimal n) b (decimal_free 10 n (lit< tt)) e

-- each line of a listing is one
counts_one : (c : Counts) → one_line (counts_line c) ≡ true
unfolding counts_line ascii one_line
counts_one c = number c.steps _ (number c.idle _ (number c.commits _ (number c.back _ (number c.over _ refl))))

refusal_one : (n p : ℕ) → one_line (refusal_line n p) ≡ true
unfolding refusal_line ascii one_line
refusal_one n p = number n _ (number p _ refl)

done_one : (i : ℕ) (n : ℤ) → one_line (done_line i n) ≡ true
unfolding ascii one_line
done_one i n = number i _ (free_line (integer n) _ (integer_free n) refl)

open_one : (i : ℕ) → one_line (open_line i) ≡ true
unfolding ascii one_line
open_one i = number i _ refl

thread_one : (i : ℕ) (t : Thread) → one_line (thread_line i t) ≡ true
unfolding thread_line
thread_one i t = by_test (eqb t.place t.end)
  where
    by_test : (b : Bool) → one_line (ascii "thread " ++ (decimal i ++ cond b (ascii " done " ++ (integer (get_or t.cells 0 (pos 0)) ++ ascii "\n")) (ascii " open\n"))) ≡ true
    by_test true = done_one i (get_or t.cells 0 (pos 0))
    by_test false = open_one i

-- the line of a register that is not 0
abbrev pub held_line : ℕ → ℤ → List ℕ
held_line v n = ascii "register " ++ (decimal v ++ (ascii " " ++ (integer n ++ ascii "\n")))

held_one : (v : ℕ) (n : ℤ) → one_line (held_line v n) ≡ true
unfolding ascii one_line
held_one v n = number v _ (free_line (integer n) _ (integer_free n) refl)

-- ---- the lines of a listing, by their owners
unfoldable pub of_threads : ℕ → List Thread → List (List ℕ)
of_threads i [] = []
of_threads i (t ∷ ts) = cond (exists t) (thread_line i t ∷ of_threads (suc i) ts) (of_threads (suc i) ts)

unfoldable pub of_registers : ℕ → List ℤ → List (List ℕ)
of_registers v [] = []
of_registers v (n ∷ ns) = cond (is_zero n) (of_registers (suc v) ns) (held_line v n ∷ of_registers (suc v) ns)

register-lines : (v : ℕ) (ns : List ℤ) → lines_of (register_lines v ns) ≡ of_registers v ns
unfolding register_lines of_registers lines_of register_line
register-lines v [] = refl
register-lines v (n ∷ ns) = by_test (register-lines (suc v) ns) (is_zero n)
  where
    by_test : lines_of (register_lines (suc v) ns) ≡ of_registers (suc v) ns → (b : Bool) → lines_of (cond b [] (held_line v n) ++ register_lines (suc v) ns) ≡ cond b (of_registers (suc v) ns) (held_line v n ∷ of_registers (suc v) ns)
    by_test k true = k
    by_test k false = first_line (held_line v n) (register_lines (suc v) ns) (held_one v n) ∙ ap (held_line v n ∷◌) k

thread-lines : (i : ℕ) (ts : List Thread) (r : List ℕ) → lines_of (thread_lines i ts ++ r) ≡ of_threads i ts ++ lines_of r
unfolding thread_lines of_threads
thread-lines i [] r = refl
thread-lines i (t ∷ ts) r = by_test (thread-lines (suc i) ts r) (exists t)
  where
    by_test : lines_of (thread_lines (suc i) ts ++ r) ≡ of_threads (suc i) ts ++ lines_of r → (b : Bool) → lines_of ((cond b (thread_line i t) [] ++ thread_lines (suc i) ts) ++ r) ≡ cond b (thread_line i t ∷ of_threads (suc i) ts) (of_threads (suc i) ts) ++ lines_of r
    by_test k true =
        ap lines_of (append_assoc (thread_line i t) (thread_lines (suc i) ts) r) ∙ first_line (thread_line i t) (thread_lines (suc i) ts ++ r) (thread_one i t)
        ∙ ap (thread_line i t ∷◌) k
    by_test k false = k

pub listing_lines : (c : Counts) (s : State) → lines_of (listing c s) ≡ counts_line c ∷ (of_threads 0 s.threads ++ of_registers 0 s.registers)
unfolding listing
listing_lines c s =
    first_line (counts_line c) (thread_lines 0 s.threads ++ register_lines 0 s.registers) (counts_one c)
    ∙ ap (counts_line c ∷◌) (thread-lines 0 s.threads (register_lines 0 s.registers) ∙ ap (of_threads 0 s.threads ++◌) (register-lines 0 s.registers))

-- ---- whose a line is
-- a line among others
pub record Among (x : List ℕ) (ls : List (List ℕ)) : Type 0 where
  pub at : ℕ
  pub below : at < length ls
  pub its : get_or ls at [] ≡ x

nowhere : (x : List ℕ) → Among x [] → ⊥
nowhere x m = omega (arith, m.below)

-- the first one, or one behind it
pub split_first : (x y : List ℕ) (ls : List (List ℕ)) → Among x (y ∷ ls) → (x ≡ y) ⊎ Among x ls
split_first x y ls m = go m.at m.below m.its
  where
    go : (k : ℕ) → k < length (y ∷ ls) → get_or (y ∷ ls) k [] ≡ x → (x ≡ y) ⊎ Among x ls
    go zero b e = inl (sym e)
    go (suc k) b e = inr (record { at = k; below = omega (arith, b); its = e })

pub first : (x : List ℕ) (ls : List (List ℕ)) → Among x (x ∷ ls)
first x ls = record { at = 0; below = omega arith; its = refl }

pub later : (x y : List ℕ) (ls : List (List ℕ)) → Among x ls → Among x (y ∷ ls)
later x y ls m = record { at = suc m.at; below = omega (arith, m.below); its = m.its }

pub split : (x : List ℕ) (fs bs : List (List ℕ)) → Among x (fs ++ bs) → Among x fs ⊎ Among x bs
split x [] bs m = inr m
split x (a ∷ fs) bs m = go (split_first x a (fs ++ bs) m) (split x fs bs)
  where
    go : (x ≡ a) ⊎ Among x (fs ++ bs) → (Among x (fs ++ bs) → Among x fs ⊎ Among x bs) → Among x (a ∷ fs) ⊎ Among x bs
    go (inl e) r = inl (subst (λ (y : List ℕ). Among x (y ∷ fs)) e (first x fs))
    go (inr n) r = either (r n)
      where
        either : Among x fs ⊎ Among x bs → Among x (a ∷ fs) ⊎ Among x bs
        either (inl k) = inl (later x a fs k)
        either (inr k) = inr k

pub in-front : (x : List ℕ) (fs bs : List (List ℕ)) → Among x fs → Among x (fs ++ bs)
in-front x fs bs m =
    record {
      at = m.at;
      below = let l : length (fs ++ bs) ≡ length fs + length bs = length-append fs bs in omega (arith, l, m.below);
      its = at_front fs m.at m.below ∙ m.its;
    }
  where
    at_front : (fs : List (List ℕ)) (k : ℕ) → k < length fs → get_or (fs ++ bs) k [] ≡ get_or fs k []
    at_front [] k h = absurd (omega (arith, h))
    at_front (a ∷ fs) zero h = refl
    at_front (a ∷ fs) (suc k) h = at_front fs k (omega (arith, h))

pub behind : (x : List ℕ) (fs bs : List (List ℕ)) → Among x bs → Among x (fs ++ bs)
behind x [] bs m = m
behind x (a ∷ fs) bs m = later x a (fs ++ bs) (behind x fs bs m)

-- a thread's line is its own, the first record being that of thread k
pub record Thread's (x : List ℕ) (k : ℕ) (ts : List Thread) : Type 0 where
  pub index : ℕ
  pub there : exists (get_or ts index blank) ≡ true
  pub its : x ≡ thread_line (k + index) (get_or ts index blank)

pub of-threads : (x : List ℕ) (k : ℕ) (ts : List Thread) → Among x (of_threads k ts) → Thread's x k ts
unfolding of_threads
of-threads x k [] m = absurd (nowhere x m)
of-threads x k (t ∷ ts) m = by_test (exists t) refl m (of-threads x (suc k) ts)
  where
    further : Thread's x (suc k) ts → Thread's x k (t ∷ ts)
    further r = record { index = suc r.index; there = r.there; its = r.its ∙ ap (λ (i : ℕ). thread_line i (get_or ts r.index blank)) (let z : suc k + r.index ≡ k + suc r.index = omega arith in z) }

    either : exists t ≡ true → (x ≡ thread_line k t) ⊎ Among x (of_threads (suc k) ts) → (Among x (of_threads (suc k) ts) → Thread's x (suc k) ts) → Thread's x k (t ∷ ts)
    either e (inl q) r = record { index = 0; there = e; its = q ∙ ap (λ (i : ℕ). thread_line i t) (let z : k ≡ k + 0 = omega arith in z) }
    either e (inr n) r = further (r n)

    by_test : (b : Bool) → exists t ≡ b → Among x (cond b (thread_line k t ∷ of_threads (suc k) ts) (of_threads (suc k) ts)) → (Among x (of_threads (suc k) ts) → Thread's x (suc k) ts) → Thread's x k (t ∷ ts)
    by_test true e n r = either e (split_first x (thread_line k t) (of_threads (suc k) ts) n) r
    by_test false e n r = further (r n)

blank_none : (i : ℕ) → exists (get_or {A = Thread} [] i blank) ≡ true → ⊥
unfolding blank
blank_none i e = never e

pub to_threads : (k i : ℕ) (ts : List Thread) → exists (get_or ts i blank) ≡ true → Among (thread_line (k + i) (get_or ts i blank)) (of_threads k ts)
unfolding of_threads
to_threads k i [] e = absurd (blank_none i e)
to_threads k zero (t ∷ ts) e =
    subst (λ (b : Bool). Among (thread_line (k + 0) t) (cond b (thread_line k t ∷ of_threads (suc k) ts) (of_threads (suc k) ts))) (sym e)
    (subst (λ (i : ℕ). Among (thread_line i t) (thread_line k t ∷ of_threads (suc k) ts)) (let z : k ≡ k + 0 = omega arith in z) (first (thread_line k t) (of_threads (suc k) ts)))
to_threads k (suc i) (t ∷ ts) e = by_test (exists t) (subst (λ (n : ℕ). Among (thread_line n (get_or ts i blank)) (of_threads (suc k) ts)) (let z : suc k + i ≡ k + suc i = omega arith in z) (to_threads (suc k) i ts e))
  where
    by_test : (b : Bool) → Among (thread_line (k + suc i) (get_or ts i blank)) (of_threads (suc k) ts) → Among (thread_line (k + suc i) (get_or ts i blank)) (cond b (thread_line k t ∷ of_threads (suc k) ts) (of_threads (suc k) ts))
    by_test true m = later (thread_line (k + suc i) (get_or ts i blank)) (thread_line k t) (of_threads (suc k) ts) m
    by_test false m = m

-- a register's line is its own, the first one being register k
pub record Register's (x : List ℕ) (k : ℕ) (ns : List ℤ) : Type 0 where
  pub index : ℕ
  pub held : is_zero (get_or ns index (pos 0)) ≡ false
  pub its : x ≡ held_line (k + index) (get_or ns index (pos 0))

pub of-registers : (x : List ℕ) (k : ℕ) (ns : List ℤ) → Among x (of_registers k ns) → Register's x k ns
unfolding of_registers
of-registers x k [] m = absurd (nowhere x m)
of-registers x k (n ∷ ns) m = by_test (is_zero n) refl m (of-registers x (suc k) ns)
  where
    further : Register's x (suc k) ns → Register's x k (n ∷ ns)
    further r = record { index = suc r.index; held = r.held; its = r.its ∙ ap (λ (i : ℕ). held_line i (get_or ns r.index (pos 0))) (let z : suc k + r.index ≡ k + suc r.index = omega arith in z) }

    either : is_zero n ≡ false → (x ≡ held_line k n) ⊎ Among x (of_registers (suc k) ns) → (Among x (of_registers (suc k) ns) → Register's x (suc k) ns) → Register's x k (n ∷ ns)
    either e (inl q) r = record { index = 0; held = e; its = q ∙ ap (λ (i : ℕ). held_line i n) (let z : k ≡ k + 0 = omega arith in z) }
    either e (inr a) r = further (r a)

    by_test : (b : Bool) → is_zero n ≡ b → Among x (cond b (of_registers (suc k) ns) (held_line k n ∷ of_registers (suc k) ns)) → (Among x (of_registers (suc k) ns) → Register's x (suc k) ns) → Register's x k (n ∷ ns)
    by_test true e a r = further (r a)
    by_test false e a r = either e (split_first x (held_line k n) (of_registers (suc k) ns) a) r

pub to_registers : (k i : ℕ) (ns : List ℤ) → is_zero (get_or ns i (pos 0)) ≡ false → Among (held_line (k + i) (get_or ns i (pos 0))) (of_registers k ns)
unfolding of_registers
to_registers k i [] e = absurd (never (sym e))
to_registers k zero (n ∷ ns) e =
    subst (λ (b : Bool). Among (held_line (k + 0) n) (cond b (of_registers (suc k) ns) (held_line k n ∷ of_registers (suc k) ns))) (sym e)
    (subst (λ (i : ℕ). Among (held_line i n) (held_line k n ∷ of_registers (suc k) ns)) (let z : k ≡ k + 0 = omega arith in z) (first (held_line k n) (of_registers (suc k) ns)))
to_registers k (suc i) (n ∷ ns) e = by_test (is_zero n) (subst (λ (v : ℕ). Among (held_line v (get_or ns i (pos 0))) (of_registers (suc k) ns)) (let z : suc k + i ≡ k + suc i = omega arith in z) (to_registers (suc k) i ns e))
  where
    by_test : (b : Bool) → Among (held_line (k + suc i) (get_or ns i (pos 0))) (of_registers (suc k) ns) → Among (held_line (k + suc i) (get_or ns i (pos 0))) (cond b (of_registers (suc k) ns) (held_line k n ∷ of_registers (suc k) ns))
    by_test true m = m
    by_test false m = later (held_line (k + suc i) (get_or ns i (pos 0))) (held_line k n) (of_registers (suc k) ns) m
