-- What is read is a script, of the tree that is read. Assumes nothing.
use Prim.Native.Nat.{ℕ, suc, ◌+◌, ◌*◌, ◌-◌, ◌≤◌, ◌<◌}
use mathlib.Core.Path.{◌≡◌, refl, sym, subst}
use mathlib.Core.Bool.{Bool, true, false, cond}
use mathlib.Core.List.{List, [], ◌∷◌}
use mathlib.Core.Logic.{◌⊎◌, inl, inr, ⊎_elim}
use native.Mathlib.Omega.{arith}
use lib.Dec.{eqb, leb, ltb}
use lib.IntN.{ℤ}
use lib.ListN.{length}
use borrow.Author.Tests.{eqb-true, leb-true, ltb-true}
use Rattle.script.specs.Tree.{Tran, Read, Write, Proc, Atomic, Fork, Sort, process, transaction, Tree}
use Rattle.grammar.specs.Grammar.{is_blank, is_digit, minus, value, sum, Blanks, Spelled, Digits, Decimal, Number, Register, Around, Lexeme, Formula, Terms, Term, IsScript, most_negative, most_register, most_open}
use Rattle.grammar.specs.Reader.{SumIn, TermIn, text, bracket, atomic, write, first, added, forked, opens_s, opens_t, sum_in, grown, State, want, dash, number, word, unopened, letter_r, register, registered, after, Moved, stuck, on, most_size, signed_number, if_so, closed, step_after, step_registered, behind_register, step_number, step_register, step_letter, step_want, spelling, step, fails, reads, end_after, finish, read_from, begin}

-- ---- what is still to come in each state

-- terms, each behind a `+`, that take the sum a to t
data Joined (o : ℕ) (s : Sort) : (a t : Tree s) (bs rest : List ℕ) → Type 0 where
  none : {t : Tree s} {bs : List ℕ} → Joined o s t t bs bs
  more : {a b u t : Tree s} {bs b₁ b₂ rest : List ℕ} → Lexeme (43 ∷ []) bs b₁ → Term o s b b₁ b₂ → u ≡ sum s a b → Joined o s u t b₂ rest → Joined o s a t bs rest

abbrev mutual
  -- the process or transaction t is whole; the tree of the text is p
  Ended : {s : Sort} → SumIn s → Tree s → List ℕ → Proc → Type 0
  Ended text t bs p = (bs ≡ []) × (t ≡ p)
  Ended (bracket c) t bs p = (b₁ : List ℕ) × Lexeme (41 ∷ []) bs b₁ × Ongoing c t b₁ p
  Ended (atomic c) t bs p = (b₁ : List ℕ) × Lexeme (41 ∷ []) bs b₁ × Ongoing c (Atomic t) b₁ p
  Ended (write v c) t bs p = Ended c (Write v t) bs p

  -- the term t is
  Ongoing : {s : Sort} → TermIn s → Tree s → List ℕ → Proc → Type 0
  Ongoing (first {s = s} c) t bs p = (u : Tree s) × (b₁ : List ℕ) × Joined (opens_s c) s t u bs b₁ × Ended c u b₁ p
  Ongoing (added {s = s} a c) t bs p = (u : Tree s) × (b₁ : List ℕ) × Joined (opens_s c) s (sum s a t) u bs b₁ × Ended c u b₁ p
  Ongoing (forked c) t bs p = Ongoing c (Fork t) bs p

-- the sum so far is t
abbrev More : (s : Sort) → SumIn s → Tree s → List ℕ → Proc → Type 0
More s c t bs p = (u : Tree s) × (b₁ : List ℕ) × Joined (opens_s c) s t u bs b₁ × Ended c u b₁ p

more_term : {s : Sort} (c : TermIn s) (t : Tree s) (bs : List ℕ) (p : Proc) → Ongoing c t bs p → More s (sum_in c) (grown c t) bs p
unfolding sum_in grown
more_term (first c) t bs p m = m
more_term (added a c) t bs p m = m
more_term (forked c) t bs p m = more_term c (Fork t) bs p m

term_more : {s : Sort} (c : TermIn s) (t : Tree s) (bs : List ℕ) (p : Proc) → More s (sum_in c) (grown c t) bs p → Ongoing c t bs p
unfolding sum_in grown
term_more (first c) t bs p m = m
term_more (added a c) t bs p m = m
term_more (forked c) t bs p m = term_more c (Fork t) bs p m

abbrev Spaced : (s : Sort) → SumIn s → Tree s → List ℕ → Proc → Type 0
Spaced s c t bs p = (b₁ : List ℕ) × Blanks bs b₁ × More s c t b₁ p

abbrev Written : ℕ → SumIn transaction → List ℕ → Proc → Type 0
Written v c bs p = (t : Tran) × (b₁ : List ℕ) × (b₂ : List ℕ) × (opens_s c < most_open) × Lexeme (58 ∷ 61 ∷ []) bs b₁ × Formula (opens_s c + 1) transaction t b₁ b₂ × Ended c (Write v t) b₂ p

abbrev Registered : ℕ → SumIn transaction → List ℕ → Proc → Type 0
Registered v c bs p = Spaced transaction c (Read v) bs p ⊎ Written v c bs p

abbrev Behind : ℕ → TermIn transaction → List ℕ → Proc → Type 0
Behind v (first c) bs p = Registered v c bs p
Behind v (added a c) bs p = Spaced transaction c (sum transaction a (Read v)) bs p

abbrev Wanted : {s : Sort} → TermIn s → List ℕ → Proc → Type 0
Wanted (first {s = s} c) bs p = (t : Tree s) × (b₁ : List ℕ) × Formula (opens_s c) s t bs b₁ × Ended c t b₁ p
Wanted (added {s = s} a c) bs p = (t : Tree s) × (b₁ : List ℕ) × Term (opens_s c) s t bs b₁ × More s c (sum s a t) b₁ p
Wanted (forked c) bs p = (t : Proc) × (b₁ : List ℕ) × Term (opens_t c + 1) process t bs b₁ × More process (sum_in c) (grown c (Fork t)) b₁ p

abbrev Rest : State → List ℕ → Proc → Type 0
Rest (want c) bs p = Wanted c bs p
Rest (dash {s = s} c) bs p = (n : ℕ) × (b₁ : List ℕ) × Decimal n bs b₁ × (n ≤ most_negative) × Spaced s (sum_in c) (grown c (value s (minus n))) b₁ p
Rest (number {s = s} g m c) bs p = m ≤ most_size g → (n : ℕ) × (b₁ : List ℕ) × Digits m n bs b₁ × (n ≤ most_size g) × Spaced s (sum_in c) (grown c (value s (signed_number g n))) b₁ p
Rest (word x w y) bs p = (b₁ : List ℕ) × Spelled (x ∷ w) bs b₁ × Rest y b₁ p
Rest (unopened c) bs p = (t : Tran) × (b₁ : List ℕ) × (b₂ : List ℕ) × (b₃ : List ℕ) × Lexeme (40 ∷ []) bs b₁ × Formula (opens_t c + 2) transaction t b₁ b₂ × Lexeme (41 ∷ []) b₂ b₃ × More process (sum_in c) (grown c (Atomic t)) b₃ p
Rest (letter_r c) bs p = (v : ℕ) × (b₁ : List ℕ) × Decimal v bs b₁ × (v ≤ most_register) × Behind v c b₁ p
Rest (register m c) bs p = m ≤ most_register → (v : ℕ) × (b₁ : List ℕ) × Digits m v bs b₁ × (v ≤ most_register) × Behind v c b₁ p
Rest (registered v c) bs p = Registered v c bs p
Rest (after {s = s} t c) bs p = Spaced s c t bs p

abbrev RestM : Moved → List ℕ → Proc → Type 0
RestM stuck bs p = ⊥
RestM (on y) bs p = Rest y bs p

-- ---- a blank in front
around_blank : {I : List ℕ → List ℕ → Type 0} {b : ℕ} {bs rest : List ℕ} → is_blank b ≡ true → Around I bs rest → Around I (b ∷ bs) rest
around_blank e k = record { front = k.front; back = k.back; before = Blanks.blank e k.before; inside = k.inside; after = k.after }

term_blank : {o b : ℕ} {s : Sort} {t : Tree s} {bs rest : List ℕ} → is_blank b ≡ true → Term o s t bs rest → Term o s t (b ∷ bs) rest
term_blank e (Term.number k z) = Term.number (around_blank e k) z
term_blank e (Term.bracketed h l w r) = Term.bracketed h (around_blank e l) w r
term_blank e (Term.fork h l k) = Term.fork h (around_blank e l) k
term_blank e (Term.atomic h a l w r) = Term.atomic h (around_blank e a) l w r
term_blank e (Term.read k) = Term.read (around_blank e k)

terms_blank : {o b : ℕ} {s : Sort} {t : Tree s} {bs rest : List ℕ} → is_blank b ≡ true → Terms o s t bs rest → Terms o s t (b ∷ bs) rest
terms_blank e (Terms.one k) = Terms.one (term_blank e k)
terms_blank e (Terms.plus k l m z) = Terms.plus (terms_blank e k) l m z

whole_blank : {o b : ℕ} {s : Sort} {t : Tree s} {bs rest : List ℕ} → is_blank b ≡ true → Formula o s t bs rest → Formula o s t (b ∷ bs) rest
whole_blank e (Formula.terms k) = Formula.terms (terms_blank e k)
whole_blank e (Formula.write h r k w) = Formula.write h (around_blank e r) k w

-- terms behind a sum
join : {o : ℕ} {s : Sort} {a t : Tree s} {bs b₁ rest : List ℕ} → Terms o s a bs b₁ → Joined o s a t b₁ rest → Terms o s t bs rest
join k Joined.none = k
join k (Joined.more l m z j) = join (Terms.plus k l m z) j

-- a lexeme without blanks before it
plain : {I : List ℕ → List ℕ → Type 0} {bs back rest : List ℕ} → I bs back → Blanks back rest → Around I bs rest
plain k h = record { front = _; back = _; before = Blanks.none; inside = k; after = h }

-- a byte, and what is behind it
module _ (bs : List ℕ) (p : Proc) where
  -- a test
  split : (b : Bool) (u v : Moved) → RestM (cond b u v) bs p → (C : Type 0) → (b ≡ true → RestM u bs p → C) → (b ≡ false → RestM v bs p → C) → C
  split true u v r C f g = f refl r
  split false u v r C f g = g refl r

  granted : (b : Bool) (y : State) → RestM (if_so b y) bs p → (b ≡ true) × Rest y bs p
  granted true y r = (refl, r)
  granted false y r = absurd r

  -- a term and what follows
  wanted : {s : Sort} {t : Tree s} {b₁ : List ℕ} (c : TermIn s) → Term (opens_t c) s t bs b₁ → More s (sum_in c) (grown c t) b₁ p → Wanted c bs p
  unfolding opens_s sum_in grown
  wanted (first c) k m = (m.0, m.1, Formula.terms (join (Terms.one k) m.2), m.3)
  wanted (added a c) k m = (_, _, k, m)
  wanted (forked c) k m = (_, _, k, m)

  wanted_blank : {s : Sort} (b : ℕ) (c : TermIn s) → is_blank b ≡ true → Wanted c bs p → Wanted c (b ∷ bs) p
  wanted_blank b (first c) e r = (r.0, r.1, whole_blank e r.2, r.3)
  wanted_blank b (added a c) e r = (r.0, r.1, term_blank e r.2, r.3)
  wanted_blank b (forked c) e r = (r.0, r.1, term_blank e r.2, r.3)

  -- a `)`
  close_back : {s : Sort} (c : SumIn s) (t : Tree s) → RestM (closed c t) bs p → Ended c t (41 ∷ bs) p
  unfolding closed
  close_back text t r = absurd r
  close_back (bracket c) t r = (r.0, plain (Spelled.letter Spelled.spelled) r.1, term_more c t r.0 p r.2)
  close_back (atomic c) t r = (r.0, plain (Spelled.letter Spelled.spelled) r.1, term_more c (Atomic t) r.0 p r.2)
  close_back (write v c) t r = close_back c (Write v t) r

  after_back : {s : Sort} (t : Tree s) (c : SumIn s) (b : ℕ) → RestM (step_after t c b) bs p → Spaced s c t (b ∷ bs) p
  unfolding step_after opens_s sum_in grown
  after_back {s = s} t c b r =
      split (is_blank b) _ _ r (Spaced s c t (b ∷ bs) p) (λ e r. (r.0, Blanks.blank e r.1, r.2))
      (λ _ r. split (eqb b 43) _ _ r (Spaced s c t (b ∷ bs) p) (λ e r. subst (λ (b : ℕ). Spaced s c t (b ∷ bs) p) (sym (eqb-true b 43 e)) (plus r))
      (λ _ r. split (eqb b 41) _ _ r (Spaced s c t (b ∷ bs) p) (λ e r. subst (λ (b : ℕ). Spaced s c t (b ∷ bs) p) (sym (eqb-true b 41 e)) (_, Blanks.none, (t, 41 ∷ bs, none, close_back c t r)))
      (λ _ r. absurd r)))
    where
      plus : Wanted (added t c) bs p → Spaced s c t (43 ∷ bs) p
      plus r = (43 ∷ bs, Blanks.none, (r.3.0, r.3.1, more (plain (Spelled.letter Spelled.spelled) Blanks.none) r.2 refl r.3.2, r.3.3))

  registered_back : (v : ℕ) (c : SumIn transaction) (b : ℕ) → RestM (step_registered v c b) bs p → Registered v c (b ∷ bs) p
  unfolding step_registered opens_s
  registered_back v c b r =
      split (is_blank b) _ _ r (Registered v c (b ∷ bs) p)
      (λ e r. ⊎_elim (λ r. inl (r.0, Blanks.blank e r.1, r.2)) (λ r. inr (r.0, r.1, r.2, r.3, around_blank e r.4, r.5, r.6)) r)
      (λ _ r. split (eqb b 58) _ _ r (Registered v c (b ∷ bs) p) (λ e r. subst (λ (b : ℕ). Registered v c (b ∷ bs) p) (sym (eqb-true b 58 e)) (written r))
      (λ _ r. inl (after_back (Read v) c b r)))
    where
      written : RestM (if_so (ltb (opens_s c) most_open) (word 61 [] (want (first (write v c))))) bs p → Registered v c (58 ∷ bs) p
      written r =
          let q = granted (ltb (opens_s c) most_open) _ r in
          let w = q.1.2 in
          inr (w.0, q.1.0, w.1, ltb-true (opens_s c) most_open q.0, plain (Spelled.letter q.1.1) Blanks.none, w.2, w.3)

  behind_back : (v : ℕ) (c : TermIn transaction) (b : ℕ) → RestM (behind_register v c b) bs p → Behind v c (b ∷ bs) p
  unfolding behind_register
  behind_back v (first c) b r = registered_back v c b r
  behind_back v (added a c) b r = after_back (sum transaction a (Read v)) c b r

  number_back : {s : Sort} (g : Bool) (m : ℕ) (c : TermIn s) (b : ℕ) → is_digit b ≡ true → RestM (step_number g m c b) bs p → Rest (number g m c) (b ∷ bs) p
  unfolding step_number
  number_back g m c b e r = λ _.
      let q = granted (leb (m * 10 + (b - 48)) (most_size g)) _ r in
      let w = q.1 (leb-true (m * 10 + (b - 48)) (most_size g) q.0) in
      (w.0, w.1, Digits.digit e w.2, w.3, w.4)

  register_back : (m : ℕ) (c : TermIn transaction) (b : ℕ) → is_digit b ≡ true → RestM (step_register m c b) bs p → Rest (register m c) (b ∷ bs) p
  unfolding step_register
  register_back m c b e r = λ _.
      let q = granted (leb (m * 10 + (b - 48)) most_register) _ r in
      let w = q.1 (leb-true (m * 10 + (b - 48)) most_register q.0) in
      (w.0, w.1, Digits.digit e w.2, w.3, w.4)

  -- a number that begins here
  from_number : {s : Sort} {n : ℤ} {b₁ : List ℕ} (c : TermIn s) → Number n bs b₁ → Spaced s (sum_in c) (grown c (value s n)) b₁ p → Wanted c bs p
  from_number c k r = wanted c (Term.number (plain k r.1) refl) r.2

  from_register : {v : ℕ} {b₁ : List ℕ} (c : TermIn transaction) → Register v bs b₁ → Behind v c b₁ p → Wanted c bs p
  unfolding opens_s sum_in grown
  from_register (first c) k r =
      ⊎_elim (λ r. wanted (first c) (Term.read (plain k r.1)) r.2) (λ r. (Write _ r.0, r.2, Formula.write r.3 (plain k Blanks.none) r.4 r.5, r.6)) r
  from_register (added a c) k r = wanted (added a c) (Term.read (plain k r.1)) r.2

-- the letters of a word
word_back : (bs : List ℕ) (p : Proc) (x : ℕ) (w : List ℕ) (y : State) → Rest (spelling w y) bs p → (b₁ : List ℕ) × Spelled (x ∷ w) (x ∷ bs) b₁ × Rest y b₁ p
unfolding spelling
word_back bs p x [] y r = (bs, Spelled.letter Spelled.spelled, r)
word_back bs p x (d ∷ w) y r = (r.0, Spelled.letter r.1, r.2)

alike : (b : ℕ) → 0 * 10 + (b - 48) ≡ b - 48
alike b = omega arith

first_digit : {n b : ℕ} {bs rest : List ℕ} → is_digit b ≡ true → Digits (0 * 10 + (b - 48)) n bs rest → Decimal n (b ∷ bs) rest
first_digit {n = n} {b = b} {bs = bs} {rest = rest} e k = Decimal.decimal e (subst (λ (m : ℕ). Digits m n bs rest) (alike b) k)

-- a term begins with this byte
module _ (bs : List ℕ) (p : Proc) where
  letter_back : {s : Sort} (c : TermIn s) (b : ℕ) → RestM (step_letter c b) bs p → Wanted c (b ∷ bs) p
  unfolding step_letter opens_s sum_in grown
  letter_back {s = process} c b r =
      split bs p (eqb b 102) _ _ r (Wanted c (b ∷ bs) p) (λ e r. subst (λ (b : ℕ). Wanted c (b ∷ bs) p) (sym (eqb-true b 102 e)) (fork r))
      (λ _ r. split bs p (eqb b 97) _ _ r (Wanted c (b ∷ bs) p) (λ e r. subst (λ (b : ℕ). Wanted c (b ∷ bs) p) (sym (eqb-true b 97 e)) (begun r)) (λ _ r. absurd r))
    where
      fork : RestM (if_so (ltb (opens_t c) most_open) (word 111 (114 ∷ 107 ∷ []) (want (forked c)))) bs p → Wanted c (102 ∷ bs) p
      fork r =
          let q = granted bs p (ltb (opens_t c) most_open) _ r in
          let w = q.1.2 in
          wanted (102 ∷ bs) p c (Term.fork (ltb-true (opens_t c) most_open q.0) (plain (Spelled.letter q.1.1) Blanks.none) w.2) w.3

      begun : RestM (if_so (ltb (opens_t c + 1) most_open) (word 116 (111 ∷ 109 ∷ 105 ∷ 99 ∷ []) (unopened c))) bs p → Wanted c (97 ∷ bs) p
      begun r =
          let q = granted bs p (ltb (opens_t c + 1) most_open) _ r in
          let w = q.1.2 in
          wanted (97 ∷ bs) p c (Term.atomic (ltb-true (opens_t c + 1) most_open q.0) (plain (Spelled.letter q.1.1) Blanks.none) w.4 w.5 w.6) w.7
  letter_back {s = transaction} c b r =
      split bs p (eqb b 114) _ _ r (Wanted c (b ∷ bs) p) (λ e r. subst (λ (b : ℕ). Wanted c (b ∷ bs) p) (sym (eqb-true b 114 e)) (from_register (114 ∷ bs) p c (Register.register r.2 r.3) r.4)) (λ _ r. absurd r)

  want_back : {s : Sort} (c : TermIn s) (b : ℕ) → RestM (step_want c b) bs p → Wanted c (b ∷ bs) p
  unfolding step_want step_number opens_s sum_in grown most_size signed_number
  want_back {s = s} c b r =
      split bs p (is_blank b) _ _ r (Wanted c (b ∷ bs) p) (λ e r. wanted_blank bs p b c e r)
      (λ _ r. split bs p (is_digit b) _ _ r (Wanted c (b ∷ bs) p) (λ e r. digit e r)
      (λ _ r. split bs p (eqb b 45) _ _ r (Wanted c (b ∷ bs) p) (λ e r. subst (λ (b : ℕ). Wanted c (b ∷ bs) p) (sym (eqb-true b 45 e)) (from_number (45 ∷ bs) p c (Number.negative r.2 r.3) r.4))
      (λ _ r. split bs p (eqb b 40) _ _ r (Wanted c (b ∷ bs) p) (λ e r. subst (λ (b : ℕ). Wanted c (b ∷ bs) p) (sym (eqb-true b 40 e)) (opened r))
      (λ _ r. letter_back c b r))))
    where
      digit : is_digit b ≡ true → RestM (step_number false 0 c b) bs p → Wanted c (b ∷ bs) p
      digit e r =
          let q = granted bs p (leb (0 * 10 + (b - 48)) (most_size false)) _ r in
          let w = q.1 (leb-true (0 * 10 + (b - 48)) (most_size false) q.0) in
          from_number (b ∷ bs) p c (Number.plain (first_digit e w.2) w.3) w.4

      opened : RestM (if_so (ltb (opens_t c) most_open) (want (first (bracket c)))) bs p → Wanted c (40 ∷ bs) p
      opened r =
          let q = granted bs p (ltb (opens_t c) most_open) _ r in
          let w = q.1.3 in
          wanted (40 ∷ bs) p c (Term.bracketed (ltb-true (opens_t c) most_open q.0) (plain (Spelled.letter Spelled.spelled) Blanks.none) q.1.2 w.1) (more_term c q.1.0 w.0 p w.2)

  dash_back : {s : Sort} (c : TermIn s) (b : ℕ) → RestM (step (dash c) b) bs p → Rest (dash c) (b ∷ bs) p
  unfolding step step_number most_size signed_number
  dash_back c b r =
      split bs p (is_digit b) _ _ r (Rest (dash c) (b ∷ bs) p)
      (λ e r. let q = granted bs p (leb (0 * 10 + (b - 48)) (most_size true)) _ r in let w = q.1 (leb-true (0 * 10 + (b - 48)) (most_size true) q.0) in (w.0, w.1, first_digit e w.2, w.3, w.4)) (λ _ r. absurd r)

  letter_r_back : (c : TermIn transaction) (b : ℕ) → RestM (step (letter_r c) b) bs p → Rest (letter_r c) (b ∷ bs) p
  unfolding step step_register
  letter_r_back c b r =
      split bs p (is_digit b) _ _ r (Rest (letter_r c) (b ∷ bs) p)
      (λ e r. let q = granted bs p (leb (0 * 10 + (b - 48)) most_register) _ r in let w = q.1 (leb-true (0 * 10 + (b - 48)) most_register q.0) in (w.0, w.1, first_digit e w.2, w.3, w.4)) (λ _ r. absurd r)

  unopened_back : (c : TermIn process) (b : ℕ) → RestM (step (unopened c) b) bs p → Rest (unopened c) (b ∷ bs) p
  unfolding step opens_s
  unopened_back c b r =
      split bs p (is_blank b) _ _ r (Rest (unopened c) (b ∷ bs) p) (λ e r. (r.0, r.1, r.2, r.3, around_blank e r.4, r.5, r.6, r.7))
      (λ _ r. split bs p (eqb b 40) _ _ r (Rest (unopened c) (b ∷ bs) p) (λ e r. subst (λ (b : ℕ). Rest (unopened c) (b ∷ bs) p) (sym (eqb-true b 40 e)) (opened r)) (λ _ r. absurd r))
    where
      opened : Wanted (first (atomic c)) bs p → Rest (unopened c) (40 ∷ bs) p
      opened r = let w = r.3 in (r.0, bs, r.1, w.0, plain (Spelled.letter Spelled.spelled) Blanks.none, r.2, w.1, more_term c (Atomic r.0) w.0 p w.2)

  back : (x : State) (b : ℕ) → RestM (step x b) bs p → Rest x (b ∷ bs) p
  unfolding step
  back (want c) b r = want_back c b r
  back (dash c) b r = dash_back c b r
  back (number {s = s} g m c) b r =
      split bs p (is_digit b) _ _ r (Rest (number g m c) (b ∷ bs) p) (λ e r. number_back bs p g m c b e r)
      (λ _ r. λ h. (m, b ∷ bs, Digits.none, h, after_back bs p (grown c (value s (signed_number g m))) (sum_in c) b r))
  back (word x w y) b r = split bs p (eqb b x) _ _ r (Rest (word x w y) (b ∷ bs) p) (λ e r. subst (λ (b : ℕ). Rest (word x w y) (b ∷ bs) p) (sym (eqb-true b x e)) (word_back bs p x w y r)) (λ _ r. absurd r)
  back (unopened c) b r = unopened_back c b r
  back (letter_r c) b r = letter_r_back c b r
  back (register m c) b r =
      split bs p (is_digit b) _ _ r (Rest (register m c) (b ∷ bs) p) (λ e r. register_back bs p m c b e r) (λ _ r. λ h. (m, b ∷ bs, Digits.none, h, behind_back bs p m c b r))
  back (registered v c) b r = registered_back bs p v c b r
  back (after t c) b r = after_back bs p t c b r

-- ---- the end of the text
never : {A : Type 0} (left : ℕ) (p : Proc) → fails left ≡ reads p → A
never left p e = absurd (cc)

end_back : {s : Sort} (c : SumIn s) (t : Tree s) (p : Proc) → end_after t c ≡ reads p → Spaced s c t [] p
unfolding end_after
end_back text t p e = ([], Blanks.none, (t, [], none, (refl, (let z : reads t ≡ reads p = e in cc))))
end_back (bracket c) t p e = never 0 p e
end_back (atomic c) t p e = never 0 p e
end_back (write v c) t p e = never 0 p e

behind_end : (v : ℕ) (c : TermIn transaction) (p : Proc) → end_after (grown c (Read v)) (sum_in c) ≡ reads p → Behind v c [] p
unfolding grown sum_in
behind_end v (first c) p e = inl (end_back c (Read v) p e)
behind_end v (added a c) p e = end_back c (sum transaction a (Read v)) p e

finish_back : (x : State) (p : Proc) → finish x ≡ reads p → Rest x [] p
unfolding finish
finish_back (want c) p e = never 0 p e
finish_back (dash c) p e = never 0 p e
finish_back (number {s = s} g m c) p e = λ h. (m, [], Digits.none, h, end_back (sum_in c) (grown c (value s (signed_number g m))) p e)
finish_back (word x w y) p e = never 0 p e
finish_back (unopened c) p e = never 0 p e
finish_back (letter_r c) p e = never 0 p e
finish_back (register m c) p e = λ h. (m, [], Digits.none, h, behind_end m c p e)
finish_back (registered v c) p e = inl (end_back c (Read v) p e)
finish_back (after t c) p e = end_back c t p e

moved_back : (m : Moved) (bs : List ℕ) (p : Proc) → ((y : State) → read_from y bs ≡ reads p → Rest y bs p) → elim m [ stuck ↦ fails (suc (length bs)) | on y ↦ read_from y bs ] ≡ reads p → RestM m bs p
moved_back stuck bs p h e = never (suc (length bs)) p e
moved_back (on y) bs p h e = h y e

rest_read : (bs : List ℕ) (x : State) (p : Proc) → read_from x bs ≡ reads p → Rest x bs p
unfolding read_from
rest_read [] x p e = finish_back x p e
rest_read (b ∷ bs) x p e = back bs p x b (moved_back (step x b) bs p (λ y h. rest_read bs y p h) e)

-- what is read is a script
pub read_script : (bs : List ℕ) (p : Proc) → read_from begin bs ≡ reads p → IsScript bs p
unfolding opens_s
read_script bs p e =
    let r = rest_read bs begin p e in
    record { text = subst (λ (b₁ : List ℕ). Formula 0 process p bs b₁) r.3.0 (subst (λ (t : Proc). Formula 0 process t bs r.1) r.3.1 r.2) }
