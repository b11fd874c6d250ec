-- A script is read, and its tree is the one that is read. Assumes nothing.
use Prim.Native.Nat.{ℕ, ◌+◌, ◌*◌, ◌-◌, ◌≤◌, ◌<◌}
use mathlib.Core.Path.{◌≡◌, refl, sym, ap, ◌∙◌, subst}
use mathlib.Core.Bool.{Bool, true, false, ◌||◌}
use mathlib.Core.List.{List, [], ◌∷◌}
use mathlib.Core.Logic.{◌⊎◌, inl, inr, ⊎_elim}
use native.Mathlib.Omega.{arith}
use lib.Dec.{eqb, leb}
use lib.IntN.{ℤ}
use borrow.Author.Tests.{lt-ltb, le-leb, eq-eqb, ne_eqb, eqb-true, leb-true}
use Rattle.script.proofs.Accepts.{both}
use Rattle.script.specs.Tree.{Tran, Read, Write, Proc, Atomic, Sort, process, transaction, Tree}
use Rattle.grammar.specs.Grammar.{is_blank, is_digit, value, sum, most_open, Blanks, Spelled, Digits, Decimal, Number, Register, Around, Lexeme, Formula, Terms, Term, IsScript, most_plain, most_negative, most_register}
use Rattle.grammar.specs.Reader.{SumIn, TermIn, text, bracket, atomic, write, first, added, forked, opens_s, opens_t, sum_in, grown, State, want, dash, number, unopened, letter_r, register, registered, after, on, most_size, signed_number, closed, step_after, step_registered, behind_register, step_number, step_register, step_letter, step_want, spelling, step, fails, reads, end_after, finish, read_from, begin}

-- one byte
pub goes : (x y : State) (b : ℕ) (bs : List ℕ) → step x b ≡ on y → read_from x (b ∷ bs) ≡ read_from y bs
unfolding read_from
goes x y b bs e = rw (e, read_from)

-- a digit is no blank
pub digit_low : (b : ℕ) → is_digit b ≡ true → (48 ≤ b) × (b ≤ 57)
unfolding is_digit
digit_low b e = let h = both (leb 48 b) (leb b 57) e in (leb-true 48 b h.0, leb-true b 57 h.1)

pub digit_no_blank : (b : ℕ) → is_digit b ≡ true → is_blank b ≡ false
unfolding is_blank
digit_no_blank b e =
    let h = digit_low b e in
    rw (ne_eqb b 32 (omega (arith, h)), ne_eqb b 10 (omega (arith, h)), ne_eqb b 13 (omega (arith, h)))

either : (a b : Bool) → (a || b) ≡ true → (C : Type 0) → (a ≡ true → C) → (b ≡ true → C) → C
either true b e C f g = f refl
either false b e C f g = g e

pub blank_cases : (b : ℕ) → is_blank b ≡ true → (C : ℕ → Type 0) → C 32 → C 10 → C 13 → C b
unfolding is_blank
blank_cases b e C x y z =
    either (eqb b 32) _ e (C b) (λ h. subst C (sym (eqb-true b 32 h)) x)
    (λ h. either (eqb b 10) _ h (C b) (λ h. subst C (sym (eqb-true b 10 h)) y) (λ h. subst C (sym (eqb-true b 13 h)) z))

pub blank_no_digit : (b : ℕ) → is_blank b ≡ true → is_digit b ≡ false
unfolding is_digit
blank_no_digit b e = blank_cases b e (λ (b : ℕ). is_digit b ≡ false) refl refl refl

-- blanks pass where a state stays as it is
abbrev Stays : State → Type 0
Stays x = (b : ℕ) → is_blank b ≡ true → step x b ≡ on x

pub skip : (x : State) → Stays x → {bs rest : List ℕ} → Blanks bs rest → read_from x bs ≡ read_from x rest
skip x h Blanks.none = refl
skip x h (Blanks.blank {b = b} {bs = bs} e k) = goes x x b bs (h b e) ∙ skip x h k

pub want_stays : {s : Sort} (c : TermIn s) → Stays (want c)
unfolding step step_want
want_stays c b e = rw (e, step_want)

-- the letters of a word
pub spell : {w bs rest : List ℕ} (x : State) → Spelled w bs rest → read_from (spelling w x) bs ≡ read_from x rest
unfolding spelling step
spell x Spelled.spelled = refl
spell x (Spelled.letter {c = c} {word = w} {bs = bs} k) = goes _ _ c bs (rw (eq-eqb c c refl)) ∙ spell x k

one_letter : {c : ℕ} {bs rest : List ℕ} → Spelled (c ∷ []) bs rest → bs ≡ c ∷ rest
one_letter (Spelled.letter Spelled.spelled) = refl

-- ---- a state in which a term is complete: a number and a register may still go on
pub data Settles : (s : Sort) → State → Tree s → SumIn s → Type 0 where
  is_after : {s : Sort} {t : Tree s} {c : SumIn s} → Settles s (after t c) t c
  is_number : {s : Sort} {g : Bool} {n : ℕ} {c : TermIn s} → Settles s (number g n c) (grown c (value s (signed_number g n))) (sum_in c)
  is_register : {v : ℕ} {c : TermIn transaction} → Settles transaction (register v c) (grown c (Read v)) (sum_in c)
  is_registered : {v : ℕ} {c : SumIn transaction} → Settles transaction (registered v c) (Read v) c

register_plus : (v : ℕ) (c : TermIn transaction) → step (register v c) 43 ≡ on (want (added (grown c (Read v)) (sum_in c)))
unfolding step step_after step_registered behind_register is_blank is_digit grown sum_in
register_plus v (first c) = refl
register_plus v (added a c) = refl

pub settle_plus : {s : Sort} {y : State} {t : Tree s} {c : SumIn s} → Settles s y t c → step y 43 ≡ on (want (added t c))
unfolding step step_after step_registered is_blank is_digit
settle_plus is_after = refl
settle_plus is_number = refl
settle_plus (is_register {v = v} {c = c}) = register_plus v c
settle_plus is_registered = refl

register_close : (v : ℕ) (c : TermIn transaction) → step (register v c) 41 ≡ closed (sum_in c) (grown c (Read v))
unfolding step step_after step_registered behind_register is_blank is_digit grown sum_in
register_close v (first c) = refl
register_close v (added a c) = refl

pub settle_close : {s : Sort} {y : State} {t : Tree s} {c : SumIn s} → Settles s y t c → step y 41 ≡ closed c t
unfolding step step_after step_registered is_blank is_digit
settle_close is_after = refl
settle_close is_number = refl
settle_close (is_register {v = v} {c = c}) = register_close v c
settle_close is_registered = refl

pub settle_end : {s : Sort} {y : State} {t : Tree s} {c : SumIn s} → Settles s y t c → finish y ≡ end_after t c
unfolding finish
settle_end is_after = refl
settle_end is_number = refl
settle_end is_register = refl
settle_end is_registered = refl

-- a blank is passed
pub record Passes (x : State) (b : ℕ) {s : Sort} (t : Tree s) (c : SumIn s) : Type 0 where
  pub state : State
  pub moves : step x b ≡ on state
  pub settles : Settles s state t c

register_blank : (v : ℕ) (c : TermIn transaction) (b : ℕ) → is_blank b ≡ true → Passes (register v c) b (grown c (Read v)) (sum_in c)
unfolding step step_after step_registered behind_register grown sum_in
register_blank v (first c) b e = record { state = registered v c; moves = rw (blank_no_digit b e, e); settles = is_registered }
register_blank v (added a c) b e = record { state = after (sum transaction a (Read v)) c; moves = rw (blank_no_digit b e, e); settles = is_after }

pub settle_blank : {s : Sort} {y : State} {t : Tree s} {c : SumIn s} (b : ℕ) → is_blank b ≡ true → Settles s y t c → Passes y b t c
unfolding step step_after step_registered
settle_blank b e (is_after {t = t} {c = c}) = record { state = after t c; moves = rw (e); settles = is_after }
settle_blank b e (is_number {s = s} {g = g} {n = n} {c = c}) = record { state = after (grown c (value s (signed_number g n))) (sum_in c); moves = rw (blank_no_digit b e, e); settles = is_after }
settle_blank b e (is_register {v = v} {c = c}) = register_blank v c b e
settle_blank b e (is_registered {v = v} {c = c}) = record { state = registered v c; moves = rw (e); settles = is_registered }

-- from a state over a part of a text to one in which a term is complete
pub record Arrives (x : State) (bs rest : List ℕ) {s : Sort} (t : Tree s) (c : SumIn s) : Type 0 where
  pub state : State
  pub runs : read_from x bs ≡ read_from state rest
  pub settles : Settles s state t c

pub settle_blanks : {s : Sort} {y : State} {t : Tree s} {c : SumIn s} {bs rest : List ℕ} → Blanks bs rest → Settles s y t c → Arrives y bs rest t c
settle_blanks {y = y} Blanks.none h = record { state = _; runs = refl; settles = h }
settle_blanks {y = y} (Blanks.blank {b = b} {bs = bs} e k) h =
    let p = settle_blank b e h in
    let q = settle_blanks {y = p.state} k p.settles in
    record { state = q.state; runs = goes y p.state b bs p.moves ∙ q.runs; settles = q.settles }

-- ---- numbers and registers
pub digits_grow : {m n : ℕ} {bs rest : List ℕ} → Digits m n bs rest → m ≤ n
digits_grow Digits.none = omega arith
digits_grow (Digits.digit e k) = omega (arith, digits_grow k)

pub number_digits : {s : Sort} {m n : ℕ} {bs rest : List ℕ} (g : Bool) (c : TermIn s) → Digits m n bs rest → n ≤ most_size g → read_from (number g m c) bs ≡ read_from (number g n c) rest
unfolding step step_number
number_digits g c Digits.none h = refl
number_digits g c (Digits.digit {m = m} {n = n} {b = b} {bs = bs} e k) h =
    goes _ _ b bs (rw (e, le-leb (m * 10 + (b - 48)) (most_size g) (omega (arith, digits_grow k, h)))) ∙ number_digits g c k h

pub register_digits : {m n : ℕ} {bs rest : List ℕ} (c : TermIn transaction) → Digits m n bs rest → n ≤ most_register → read_from (register m c) bs ≡ read_from (register n c) rest
unfolding step step_register
register_digits c Digits.none h = refl
register_digits c (Digits.digit {m = m} {n = n} {b = b} {bs = bs} e k) h =
    goes _ _ b bs (rw (e, le-leb (m * 10 + (b - 48)) most_register (omega (arith, digits_grow k, h)))) ∙ register_digits c k h

pub alike : (b : ℕ) → 0 * 10 + (b - 48) ≡ b - 48
alike b = omega arith

want_number : {s : Sort} {n : ℤ} {bs rest : List ℕ} (c : TermIn s) → Number n bs rest → Arrives (want c) bs rest (grown c (value s n)) (sum_in c)
unfolding step step_want step_number is_blank is_digit most_size signed_number
want_number c (Number.plain {n = n} (Decimal.decimal {b = b} {bs = bs} e k) h) =
    record {
      state = number false n c;
      runs = goes (want c) (number false (b - 48) c) b bs (rw (digit_no_blank b e, e, alike b, le-leb (b - 48) most_plain (omega (arith, digits_grow k, h)))) ∙ number_digits false c k (omega (arith, h));
      settles = is_number;
    }
want_number c (Number.negative {n = n} (Decimal.decimal {b = b} {bs = bs} e k) h) =
    record {
      state = number true n c;
      runs = goes (want c) (dash c) 45 (b ∷ bs) refl ∙ (goes (dash c) (number true (b - 48) c) b bs (rw (e, alike b, le-leb (b - 48) most_negative (omega (arith, digits_grow k, h)))) ∙ number_digits true c k (omega (arith, h)));
      settles = is_number;
    }

want_register : {v : ℕ} {bs rest : List ℕ} (c : TermIn transaction) → Register v bs rest → read_from (want c) bs ≡ read_from (register v c) rest
unfolding step step_want step_letter step_register is_blank is_digit
want_register c (Register.register (Decimal.decimal {b = b} {bs = bs} e k) h) =
    goes (want c) (letter_r c) 114 (b ∷ bs) refl ∙ (goes (letter_r c) (register (b - 48) c) b bs (rw (e, alike b, le-leb (b - 48) most_register (omega (arith, digits_grow k, h)))) ∙ register_digits c k h)

-- with blanks behind it
settled_after : {s : Sort} {x : State} {bs back rest : List ℕ} {t : Tree s} {c : SumIn s} → Arrives x bs back t c → Blanks back rest → Arrives x bs rest t c
settled_after a k = let q = settle_blanks k a.settles in record { state = q.state; runs = a.runs ∙ q.runs; settles = q.settles }

-- and blanks before it
settled_before : {s r : Sort} {d : TermIn r} {bs front rest : List ℕ} {t : Tree s} {c : SumIn s} → Blanks bs front → Arrives (want d) front rest t c → Arrives (want d) bs rest t c
settled_before {d = d} k a = record { state = a.state; runs = skip (want d) (want_stays d) k ∙ a.runs; settles = a.settles }

-- ---- a whole process or transaction, behind which only a bracket or the end can come
pub record Ends (x : State) (bs rest : List ℕ) {s : Sort} (t : Tree s) (c : SumIn s) : Type 0 where
  pub sort : Sort
  pub tree : Tree sort
  pub within : SumIn sort
  pub arrives : Arrives x bs rest tree within
  pub closes : closed within tree ≡ closed c t
  pub finishes : end_after tree within ≡ end_after t c

pub no_end : (t : Tran) (c : SumIn transaction) → end_after t c ≡ fails 0
unfolding end_after
no_end t (bracket c) = refl
no_end t (atomic c) = refl
no_end t (write v c) = refl

-- a lexeme of one letter
letter_run : {c : ℕ} {bs rest : List ℕ} (x y : State) → step x c ≡ on y → Spelled (c ∷ []) bs rest → read_from x bs ≡ read_from y rest
letter_run {c = c} {rest = rest} x y e k = ap (read_from x) (one_letter k) ∙ goes x y c rest e

-- behind a whole, its bracket and blanks
shut : {s r : Sort} {x : State} {bs b₁ rest : List ℕ} {t : Tree s} {c : SumIn s} (u : Tree r) (d : SumIn r) → closed c t ≡ on (after u d) → Ends x bs b₁ t c → Lexeme (41 ∷ []) b₁ rest → Arrives x bs rest u d
shut u d e w k =
    let a = settled_after w.arrives k.before in
    let q = settle_blanks k.after (is_after {t = u} {c = d}) in
    record {
      state = q.state;
      runs = a.runs ∙ (letter_run a.state (after u d) (settle_close a.settles ∙ (w.closes ∙ e)) k.inside ∙ q.runs);
      settles = q.settles;
    }

-- a word, its letters and the blanks around it, between two states that stay
lexeme_run : {bs rest word : List ℕ} (x z : State) → Stays x → Stays z → (k : Lexeme word bs rest) → read_from x k.front ≡ read_from z k.back → read_from x bs ≡ read_from z rest
lexeme_run x z hx hz k e = skip x hx k.before ∙ (e ∙ skip z hz k.after)

pub unopened_stays : (c : TermIn process) → Stays (unopened c)
unfolding step
unopened_stays c b e = rw (e)

open_run : {s : Sort} {bs rest : List ℕ} (c : TermIn s) → opens_t c < most_open → Lexeme (40 ∷ []) bs rest → read_from (want c) bs ≡ read_from (want (first (bracket c))) rest
unfolding step step_want is_blank is_digit
open_run c h k = lexeme_run (want c) (want (first (bracket c))) (want_stays c) (want_stays (first (bracket c))) k (letter_run (want c) (want (first (bracket c))) (rw (lt-ltb (opens_t c) most_open h)) k.inside)

fork_run : {bs rest : List ℕ} (c : TermIn process) → opens_t c < most_open → Lexeme (102 ∷ 111 ∷ 114 ∷ 107 ∷ []) bs rest → read_from (want c) bs ≡ read_from (want (forked c)) rest
unfolding step step_want step_letter is_blank is_digit spelling
fork_run c h k = lexeme_run (want c) (want (forked c)) (want_stays c) (want_stays (forked c)) k (word_run k.inside)
  where
    word_run : {bs rest : List ℕ} → Spelled (102 ∷ 111 ∷ 114 ∷ 107 ∷ []) bs rest → read_from (want c) bs ≡ read_from (want (forked c)) rest
    word_run (Spelled.letter {bs = bs} k) = goes (want c) (spelling (111 ∷ 114 ∷ 107 ∷ []) (want (forked c))) 102 bs (rw (lt-ltb (opens_t c) most_open h)) ∙ spell (want (forked c)) k

atomic_run : {bs rest : List ℕ} (c : TermIn process) → opens_t c + 1 < most_open → Lexeme (97 ∷ 116 ∷ 111 ∷ 109 ∷ 105 ∷ 99 ∷ []) bs rest → read_from (want c) bs ≡ read_from (unopened c) rest
unfolding step step_want step_letter is_blank is_digit spelling
atomic_run c h k = lexeme_run (want c) (unopened c) (want_stays c) (unopened_stays c) k (word_run k.inside)
  where
    word_run : {bs rest : List ℕ} → Spelled (97 ∷ 116 ∷ 111 ∷ 109 ∷ 105 ∷ 99 ∷ []) bs rest → read_from (want c) bs ≡ read_from (unopened c) rest
    word_run (Spelled.letter {bs = bs} k) = goes (want c) (spelling (116 ∷ 111 ∷ 109 ∷ 105 ∷ 99 ∷ []) (unopened c)) 97 bs (rw (lt-ltb (opens_t c + 1) most_open h)) ∙ spell (unopened c) k

unopened_run : {bs rest : List ℕ} (c : TermIn process) → Lexeme (40 ∷ []) bs rest → read_from (unopened c) bs ≡ read_from (want (first (atomic c))) rest
unfolding step is_blank
unopened_run c k = lexeme_run (unopened c) (want (first (atomic c))) (unopened_stays c) (want_stays (first (atomic c))) k (letter_run (unopened c) (want (first (atomic c))) refl k.inside)

-- a first register and `:=`
pub registered_stays : (v : ℕ) (c : SumIn transaction) → Stays (registered v c)
unfolding step step_registered
registered_stays v c b e = rw (e)

register_blanks : (v : ℕ) (c : SumIn transaction) → {bs rest : List ℕ} → Blanks bs rest → (read_from (register v (first c)) bs ≡ read_from (register v (first c)) rest) ⊎ (read_from (register v (first c)) bs ≡ read_from (registered v c) rest)
unfolding step behind_register step_registered
register_blanks v c Blanks.none = inl refl
register_blanks v c (Blanks.blank {b = b} {bs = bs} e k) = inr (goes (register v (first c)) (registered v c) b bs (rw (blank_no_digit b e, e)) ∙ skip (registered v c) (registered_stays v c) k)

becomes_word : (v : ℕ) (c : SumIn transaction) → opens_s c < most_open → {bs rest : List ℕ} → Spelled (58 ∷ 61 ∷ []) bs rest → read_from (registered v c) bs ≡ read_from (want (first (write v c))) rest
unfolding step step_registered is_blank spelling
becomes_word v c h (Spelled.letter {bs = bs} k) = goes (registered v c) (spelling (61 ∷ []) (want (first (write v c)))) 58 bs (rw (lt-ltb (opens_s c) most_open h)) ∙ spell (want (first (write v c))) k

becomes_word' : (v : ℕ) (c : SumIn transaction) → opens_s c < most_open → {bs rest : List ℕ} → Spelled (58 ∷ 61 ∷ []) bs rest → read_from (register v (first c)) bs ≡ read_from (want (first (write v c))) rest
unfolding step behind_register step_registered is_blank is_digit spelling
becomes_word' v c h (Spelled.letter {bs = bs} k) = goes (register v (first c)) (spelling (61 ∷ []) (want (first (write v c)))) 58 bs (rw (lt-ltb (opens_s c) most_open h)) ∙ spell (want (first (write v c))) k

blanks_join : {bs cs ds : List ℕ} → Blanks bs cs → Blanks cs ds → Blanks bs ds
blanks_join Blanks.none k = k
blanks_join (Blanks.blank e h) k = Blanks.blank e (blanks_join h k)

write_run : (v : ℕ) (c : SumIn transaction) → opens_s c < most_open → {bs b₁ rest : List ℕ} → Around (Register v) bs b₁ → Lexeme (58 ∷ 61 ∷ []) b₁ rest → read_from (want (first c)) bs ≡ read_from (want (first (write v c))) rest
write_run v c h r k =
    skip (want (first c)) (want_stays (first c)) r.before ∙ (want_register (first c) r.inside ∙ (
    ⊎_elim (λ e. e ∙ becomes_word' v c h k.inside) (λ e. e ∙ becomes_word v c h k.inside) (register_blanks v c (blanks_join r.after k.before))
    ∙ skip (want (first (write v c))) (want_stays (first (write v c))) k.after))

plus_run : {s : Sort} {x : State} {bs b₁ rest : List ℕ} {t : Tree s} {c : SumIn s} → Arrives x bs b₁ t c → Lexeme (43 ∷ []) b₁ rest → read_from x bs ≡ read_from (want (added t c)) rest
plus_run {t = t} {c = c} a k =
    let q = settled_after a k.before in
    q.runs ∙ (letter_run q.state (want (added t c)) (settle_plus q.settles) k.inside ∙ skip (want (added t c)) (want_stays (added t c)) k.after)

from : {s : Sort} {x y : State} {bs b₁ rest : List ℕ} {t : Tree s} {c : SumIn s} → read_from x bs ≡ read_from y b₁ → Arrives y b₁ rest t c → Arrives x bs rest t c
from e a = record { state = a.state; runs = e ∙ a.runs; settles = a.settles }

from_ends : {s : Sort} {x y : State} {bs b₁ rest : List ℕ} {t : Tree s} {c : SumIn s} → read_from x bs ≡ read_from y b₁ → Ends y b₁ rest t c → Ends x bs rest t c
from_ends e w = record { sort = w.sort; tree = w.tree; within = w.within; arrives = from e w.arrives; closes = w.closes; finishes = w.finishes }

mutual
  unfolding opens_s grown sum_in closed

  pub whole_read : {o : ℕ} {s : Sort} {t : Tree s} {bs rest : List ℕ} → Formula o s t bs rest → (c : SumIn s) → opens_s c ≡ o → Ends (want (first c)) bs rest t c
  whole_read (Formula.terms k) c e = record { sort = _; tree = _; within = c; arrives = terms_read k c e; closes = refl; finishes = refl }
  whole_read (Formula.write {v = v} {t = t} h r k w) c e =
      let i = from_ends (write_run v c (omega arith) r k) (whole_read w (write v c) (ap (λ n. n + 1) e)) in
      record { sort = i.sort; tree = i.tree; within = i.within; arrives = i.arrives; closes = i.closes; finishes = i.finishes ∙ (no_end t (write v c) ∙ sym (no_end (Write v t) c)) }

  pub terms_read : {o : ℕ} {s : Sort} {t : Tree s} {bs rest : List ℕ} → Terms o s t bs rest → (c : SumIn s) → opens_s c ≡ o → Arrives (want (first c)) bs rest t c
  terms_read (Terms.one k) c e = term_read k (first c) e
  terms_read (Terms.plus {s = s} {a = a} {b = b} {bs = bs} {rest = rest} k p m z) c e = subst (λ (t : Tree s). Arrives (want (first c)) bs rest t c) (sym z) (from (plus_run (terms_read k c e) p) (term_read m (added a c) e))

  pub term_read : {o : ℕ} {s : Sort} {t : Tree s} {bs rest : List ℕ} → Term o s t bs rest → (c : TermIn s) → opens_t c ≡ o → Arrives (want c) bs rest (grown c t) (sum_in c)
  term_read (Term.number {s = s} {bs = bs} {rest = rest} k z) c e = subst (λ (t : Tree s). Arrives (want c) bs rest (grown c t) (sum_in c)) (sym z) (settled_before k.before (settled_after (want_number c k.inside) k.after))
  term_read (Term.bracketed {t = t} h l w r) c e = shut (grown c t) (sum_in c) refl (from_ends (open_run c (omega arith) l) (whole_read w (bracket c) (ap (λ n. n + 1) e))) r
  term_read (Term.fork h l k) c e = from (fork_run c (omega arith) l) (term_read k (forked c) (ap (λ n. n + 1) e))
  term_read (Term.atomic {t = t} h a l w r) c e = shut (grown c (Atomic t)) (sum_in c) refl (from_ends (atomic_run c (omega arith) a ∙ unopened_run c l) (whole_read w (atomic c) (ap (λ n. n + 2) e))) r
  term_read (Term.read {v = v} k) c e = settled_before k.before (settled_after (record { state = register v c; runs = want_register c k.inside; settles = is_register }) k.after)

-- a script is read as its tree
pub script_read : {bs : List ℕ} {p : Proc} → IsScript bs p → read_from begin bs ≡ reads p
unfolding read_from end_after opens_s
script_read k =
    let w = whole_read k.text text refl in
    w.arrives.runs ∙ (settle_end w.arrives.settles ∙ w.finishes)

-- "it has one tree"
pub one_tree : {bs : List ℕ} {p q : Proc} → IsScript bs p → IsScript bs q → p ≡ q
one_tree {p = p} {q = q} h k = let e : reads p ≡ reads q = sym (script_read h) ∙ script_read k in cc
