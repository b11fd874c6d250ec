-- Every tree within depth 64 prints as a script, and the script's tree is that tree. Assumes nothing.
use Prim.Native.Nat.{ℕ, zero, suc, ◌+◌, ◌*◌, ◌-◌, ◌/◌, ◌%◌, ◌^◌, ◌≤◌, ◌<◌}
use mathlib.Core.Path.{◌≡◌, refl, sym, subst}
use mathlib.Core.Bool.{Bool, true, false}
use mathlib.Core.List.{List, [], ◌∷◌}
use native.Mathlib.Omega.{arith}
use lib.ListN.{length}
use lib.Dec.{ltb}
use lib.IntN.{ℤ, pos, negsuc}
use borrow.Author.Tests.{le-leb, ltb-true}
use Rattle.word.specs.Sum.{InRange}
use Rattle.word.proofs.Sums.{range→fits}
use Rattle.script.specs.Tree.{Tran, ValT, AddT, Read, Write, Proc, ValP, AddP, Atomic, Fork, Sort, process, transaction, Tree}
use Rattle.script.specs.Count.{depth_t, depth_p, nodes_t, nodes_p}
use Rattle.script.specs.Limits.{ValuedT, ValuedP, most_depth, Sized}
use Rattle.script.specs.Outcome.{done}
use Rattle.grammar.specs.Grammar.{is_blank, is_digit, minus, value, sum, Blanks, Spelled, Digits, Decimal, Number, Register, Around, Lexeme, Formula, Terms, Term, IsScript, most_open}
use Rattle.grammar.specs.Printed.{decimal, number_text, register_text, Texts, bracketed, alone, plus, texts_t, texts_p, printed}
use Rattle.grammar.specs.Reader.{read_text}
use Rattle.grammar.proofs.Exact.{script, text_exactly}

-- ---- digits
digit_is : (d : ℕ) → d < 10 → is_digit (48 + d) ≡ true
unfolding is_digit
digit_is d h = rw (le-leb 48 (48 + d) (omega arith), le-leb (48 + d) 57 (omega arith))

one_digit : (n m : ℕ) (l rest : List ℕ) → n < 10 → Digits n m l rest → Decimal m ((48 + n % 10) ∷ l) rest
one_digit n m l rest h k =
    let e : 48 + n % 10 - 48 ≡ n = omega arith in
    Decimal.decimal (digit_is (n % 10) (omega arith)) (subst (λ (i : ℕ). Digits i m l rest) (sym e) k)

decimal_read : (f n m : ℕ) (l rest : List ℕ) → n < 10 ^ suc f → Digits n m l rest → Decimal m (decimal f n l) rest
unfolding decimal
decimal_read zero n m l rest h k = one_digit n m l rest (omega arith) k
decimal_read (suc f) n m l rest h k = go (λ l j g. decimal_read f (n / 10) m l rest j g) (ltb n 10) refl
  where
    go : ((l : List ℕ) → n / 10 < 10 ^ suc f → Digits (n / 10) m l rest → Decimal m (decimal f (n / 10) l) rest) → (b : Bool) → ltb n 10 ≡ b → Decimal m (elim b [ true ↦ (48 + n % 10) ∷ l | false ↦ decimal f (n / 10) ((48 + n % 10) ∷ l) ]) rest
    go ih true e = one_digit n m l rest (ltb-true n 10 e) k
    go ih false e =
        let z : n / 10 * 10 + (48 + n % 10 - 48) ≡ n = omega arith in
        ih ((48 + n % 10) ∷ l) (omega arith) (Digits.digit (digit_is (n % 10) (omega arith)) (subst (λ (i : ℕ). Digits i m l rest) (sym z) k))

number_read : (z : ℤ) (rest : List ℕ) → InRange z → Number z (number_text z rest) rest
unfolding number_text minus
number_read (pos n) rest h = let s = (range→fits h).sfits in Number.plain (decimal_read 9 n n rest rest (omega (arith, s)) Digits.none) (omega (arith, s))
number_read (negsuc n) rest h = let s = (range→fits h).sfits in Number.negative {n = suc n} (decimal_read 9 (suc n) (suc n) rest rest (omega (arith, s)) Digits.none) (omega (arith, s))

register_read : (v : ℕ) (rest : List ℕ) → v < 64 → Register v (register_text v rest) rest
unfolding register_text
register_read v rest h = Register.register (decimal_read 9 v v rest rest (omega arith) Digits.none) (omega arith)

plain : {I : List ℕ → List ℕ → Type 0} {bs rest : List ℕ} → I bs rest → Around I bs rest
plain k = record { front = _; back = _; before = Blanks.none; inside = k; after = Blanks.none }

-- ` + `, ` := `
spaced_plus : (rest : List ℕ) → Lexeme (43 ∷ []) (32 ∷ 43 ∷ 32 ∷ rest) rest
unfolding is_blank
spaced_plus rest = record { front = 43 ∷ 32 ∷ rest; back = 32 ∷ rest; before = Blanks.blank refl Blanks.none; inside = Spelled.letter Spelled.spelled; after = Blanks.blank refl Blanks.none }

spaced_becomes : (rest : List ℕ) → Lexeme (58 ∷ 61 ∷ []) (32 ∷ 58 ∷ 61 ∷ 32 ∷ rest) rest
unfolding is_blank
spaced_becomes rest = record { front = 58 ∷ 61 ∷ 32 ∷ rest; back = 32 ∷ rest; before = Blanks.blank refl Blanks.none; inside = Spelled.letter (Spelled.letter Spelled.spelled); after = Blanks.blank refl Blanks.none }

fork_spaced : (rest : List ℕ) → Lexeme (102 ∷ 111 ∷ 114 ∷ 107 ∷ []) (102 ∷ 111 ∷ 114 ∷ 107 ∷ 32 ∷ rest) rest
unfolding is_blank
fork_spaced rest = record { front = _; back = 32 ∷ rest; before = Blanks.none; inside = Spelled.letter (Spelled.letter (Spelled.letter (Spelled.letter Spelled.spelled))); after = Blanks.blank refl Blanks.none }

-- ---- a tree printed in each way, with d open around it at most 64
pub record Prints (s : Sort) (t : Tree s) (x : Texts) (whole terms term : ℕ) : Type 0 where
  pub as_whole : (o : ℕ) (rest : List ℕ) → o + whole ≤ most_open → Formula o s t (x.whole rest) rest
  pub as_terms : (o : ℕ) (rest : List ℕ) → o + terms ≤ most_open → Terms o s t (x.terms rest) rest
  pub as_term : (o : ℕ) (rest : List ℕ) → o + term ≤ most_open → Term o s t (x.term rest) rest

-- a term
from_term : (s : Sort) (t : Tree s) (text : List ℕ → List ℕ) (n : ℕ) → ((o : ℕ) (rest : List ℕ) → o + n ≤ most_open → Term o s t (text rest) rest) → Prints s t (alone text) n n n
from_term s t text n k = record { as_whole = λ o rest h. Formula.terms (Terms.one (k o rest h)); as_terms = λ o rest h. Terms.one (k o rest h); as_term = k }

in-brackets : (s : Sort) (t : Tree s) (text : List ℕ → List ℕ) (n : ℕ) → ((o : ℕ) (rest : List ℕ) → o + n ≤ most_open → Formula o s t (text rest) rest) → (o : ℕ) (rest : List ℕ) → o + suc n ≤ most_open → Term o s t (bracketed text rest) rest
in-brackets s t text n k o rest h = Term.bracketed {o = o} (omega arith) (plain (Spelled.letter Spelled.spelled)) (k (o + 1) (41 ∷ rest) (omega arith)) (plain (Spelled.letter Spelled.spelled))

from_sum : (s : Sort) (a b t : Tree s) (x y : Texts) (wa sa ta wb sb tb n : ℕ) → t ≡ sum s a b → sa ≤ n → tb ≤ n → Prints s a x wa sa ta → Prints s b y wb sb tb → Prints s t (plus x y) n n (suc n)
from_sum s a b t x y wa sa ta wb sb tb n e p q j k =
    record {
      as_whole = λ o rest h. Formula.terms (both o rest h);
      as_terms = both;
      as_term = in-brackets s t (λ rest. x.terms (32 ∷ 43 ∷ 32 ∷ y.term rest)) n (λ o rest h. Formula.terms (both o rest h));
    }
  where
    both : (o : ℕ) (rest : List ℕ) → o + n ≤ most_open → Terms o s t (x.terms (32 ∷ 43 ∷ 32 ∷ y.term rest)) rest
    both o rest h = Terms.plus (j.as_terms o (32 ∷ 43 ∷ 32 ∷ y.term rest) (omega arith)) (spaced_plus (y.term rest)) (k.as_term o rest (omega arith)) e

from_write : (i : ℕ) (t : Tran) (x : Texts) (n : ℕ) → i < 64 → Prints transaction t x n (suc n) (suc n) → Prints transaction (Write i t) (record { whole = λ rest. register_text i (32 ∷ 58 ∷ 61 ∷ 32 ∷ x.whole rest); terms = bracketed (λ rest. register_text i (32 ∷ 58 ∷ 61 ∷ 32 ∷ x.whole rest)); term = bracketed (λ rest. register_text i (32 ∷ 58 ∷ 61 ∷ 32 ∷ x.whole rest)) }) (suc n) (suc (suc n)) (suc (suc n))
from_write i t x n v k = record { as_whole = written; as_terms = λ o rest m. Terms.one (term o rest m); as_term = term }
  where
    written : (o : ℕ) (rest : List ℕ) → o + suc n ≤ most_open → Formula o transaction (Write i t) (register_text i (32 ∷ 58 ∷ 61 ∷ 32 ∷ x.whole rest)) rest
    written o rest m = Formula.write {o = o} (omega arith) (plain (register_read i (32 ∷ 58 ∷ 61 ∷ 32 ∷ x.whole rest) v)) (spaced_becomes (x.whole rest)) (k.as_whole (o + 1) rest (omega arith))

    term : (o : ℕ) (rest : List ℕ) → o + suc (suc n) ≤ most_open → Term o transaction (Write i t) (bracketed (λ rest. register_text i (32 ∷ 58 ∷ 61 ∷ 32 ∷ x.whole rest)) rest) rest
    term = in-brackets transaction (Write i t) (λ rest. register_text i (32 ∷ 58 ∷ 61 ∷ 32 ∷ x.whole rest)) (suc n) written

deep_tran : (t : Tran) → depth_t t ≤ 0 → ⊥
unfolding depth_t
deep_tran (ValT z) h = omega arith
deep_tran (AddT a b) h = omega arith
deep_tran (Read i) h = omega arith
deep_tran (Write i t) h = omega arith

-- how many are open in each way: never more than the depth
prints_tran : (t : Tran) → ValuedT t → (n : ℕ) → depth_t t ≤ suc n → Prints transaction t (texts_t t) n (suc n) (suc n)
unfolding depth_t texts_t value sum
prints_tran (ValT z) v n h =
    let k = from_term transaction (ValT z) (number_text z) 0 (λ o rest _. Term.number (plain (number_read z rest v)) refl) in
    record { as_whole = λ o rest m. k.as_whole o rest (omega arith); as_terms = λ o rest m. k.as_terms o rest (omega arith); as_term = λ o rest m. k.as_term o rest (omega arith) }
prints_tran (Read i) v n h =
    let k = from_term transaction (Read i) (register_text i) 0 (λ o rest _. Term.read (plain (register_read i rest v))) in
    record { as_whole = λ o rest m. k.as_whole o rest (omega arith); as_terms = λ o rest m. k.as_terms o rest (omega arith); as_term = λ o rest m. k.as_term o rest (omega arith) }
prints_tran (AddT a b) v zero h = absurd (deep_tran a (omega arith))
prints_tran (AddT a b) v (suc n) h =
    let k = from_sum transaction a b (AddT a b) (texts_t a) (texts_t b) n (suc n) (suc n) n (suc n) (suc n) (suc n) refl (omega arith) (omega arith) (prints_tran a v.0 n (omega arith)) (prints_tran b v.1 n (omega arith)) in
    record { as_whole = k.as_whole; as_terms = λ o rest m. k.as_terms o rest (omega arith); as_term = k.as_term }
prints_tran (Write i t) v zero h = absurd (deep_tran t (omega arith))
prints_tran (Write i t) v (suc n) h = from_write i t (texts_t t) n v.0 (prints_tran t v.1 n (omega arith))

shallow : (s : Sort) (t : Tree s) (text : List ℕ → List ℕ) (n : ℕ) → Prints s t (alone text) 0 0 0 → Prints s t (alone text) n n n
shallow s t text n k = record { as_whole = λ o rest m. k.as_whole o rest (omega arith); as_terms = λ o rest m. k.as_terms o rest (omega arith); as_term = λ o rest m. k.as_term o rest (omega arith) }

prints_proc : (p : Proc) → ValuedP p → (n : ℕ) → depth_p p ≤ n → Prints process p (texts_p p) n n n
unfolding depth_p texts_p value sum
prints_proc (ValP z) v n h = shallow process (ValP z) (number_text z) n (from_term process (ValP z) (number_text z) 0 (λ o rest _. Term.number (plain (number_read z rest v)) refl))
prints_proc (AddP a b) v zero h = absurd (omega arith)
prints_proc (AddP a b) v (suc n) h =
    let k = from_sum process a b (AddP a b) (texts_p a) (texts_p b) n n n n n n n refl (omega arith) (omega arith) (prints_proc a v.0 n (omega arith)) (prints_proc b v.1 n (omega arith)) in
    record { as_whole = λ o rest m. k.as_whole o rest (omega arith); as_terms = λ o rest m. k.as_terms o rest (omega arith); as_term = k.as_term }
prints_proc (Atomic t) v zero h = absurd (omega arith)
prints_proc (Atomic t) v (suc zero) h = absurd (deep_tran t (omega arith))
prints_proc (Atomic t) v (suc (suc n)) h =
    let k = prints_tran t v n (omega arith) in
    from_term process (Atomic t) (λ rest. 97 ∷ 116 ∷ 111 ∷ 109 ∷ 105 ∷ 99 ∷ 40 ∷ (texts_t t).whole (41 ∷ rest)) (suc (suc n))
    (λ o rest m. Term.atomic {o = o} (omega arith) (plain (Spelled.letter (Spelled.letter (Spelled.letter (Spelled.letter (Spelled.letter (Spelled.letter Spelled.spelled))))))) (plain (Spelled.letter Spelled.spelled)) (k.as_whole (o + 2) (41 ∷ rest) (omega arith)) (plain (Spelled.letter Spelled.spelled)))
prints_proc (Fork p) v zero h = absurd (omega arith)
prints_proc (Fork p) v (suc n) h =
    let k = prints_proc p v n (omega arith) in
    from_term process (Fork p) (λ rest. 102 ∷ 111 ∷ 114 ∷ 107 ∷ 32 ∷ (texts_p p).term rest) (suc n)
    (λ o rest m. Term.fork {o = o} (omega arith) (fork_spaced ((texts_p p).term rest)) (k.as_term (o + 1) rest (omega arith)))

-- every tree within depth 64 prints as a script of that tree
pub printed_script : (p : Proc) → ValuedP p → depth_p p ≤ most_depth → IsScript (printed p) p
unfolding printed
printed_script p v h = record { text = (prints_proc p v most_depth h).as_whole 0 [] (omega arith) }

-- ---- no longer than a text may be
decimal_length : (f n : ℕ) (l : List ℕ) → length (decimal f n l) ≤ suc f + length l
unfolding decimal
decimal_length zero n l = omega arith
decimal_length (suc f) n l = go (decimal_length f (n / 10) ((48 + n % 10) ∷ l)) (ltb n 10)
  where
    go : length (decimal f (n / 10) ((48 + n % 10) ∷ l)) ≤ suc f + suc (length l) → (b : Bool) → length {A = ℕ} (elim b [ true ↦ (48 + n % 10) ∷ l | false ↦ decimal f (n / 10) ((48 + n % 10) ∷ l) ]) ≤ suc (suc f) + length l
    go h true = omega arith
    go h false = omega arith

number_length : (z : ℤ) (l : List ℕ) → length (number_text z l) ≤ 11 + length l
unfolding number_text
number_length (pos n) l = omega (arith, decimal_length 9 n l)
number_length (negsuc n) l = omega (arith, decimal_length 9 (suc n) l)

record Short (x : Texts) (n : ℕ) : Type 0 where
  whole : (l : List ℕ) → length (x.whole l) ≤ n + length l
  terms : (l : List ℕ) → length (x.terms l) ≤ n + length l
  term : (l : List ℕ) → length (x.term l) ≤ n + length l

short_plus : (x y : Texts) (m n k : ℕ) → m + n + 5 ≤ k → Short x m → Short y n → Short (plus x y) k
short_plus x y m n k h a b =
    record {
      whole = λ l. omega (arith, a.terms (32 ∷ 43 ∷ 32 ∷ y.term l), b.term l);
      terms = λ l. omega (arith, a.terms (32 ∷ 43 ∷ 32 ∷ y.term l), b.term l);
      term = λ l. omega (arith, a.terms (32 ∷ 43 ∷ 32 ∷ y.term (41 ∷ l)), b.term (41 ∷ l));
    }

short_tran : (t : Tran) → Short (texts_t t) (20 * nodes_t t)
unfolding texts_t nodes_t register_text
short_tran (ValT z) = record { whole = λ l. omega (arith, number_length z l); terms = λ l. omega (arith, number_length z l); term = λ l. omega (arith, number_length z l) }
short_tran (AddT a b) = short_plus (texts_t a) (texts_t b) (20 * nodes_t a) (20 * nodes_t b) _ (omega arith) (short_tran a) (short_tran b)
short_tran (Read v) = record { whole = λ l. omega (arith, decimal_length 9 v l); terms = λ l. omega (arith, decimal_length 9 v l); term = λ l. omega (arith, decimal_length 9 v l) }
short_tran (Write v t) =
    let k = short_tran t in
    record {
      whole = λ l. omega (arith, decimal_length 9 v (32 ∷ 58 ∷ 61 ∷ 32 ∷ (texts_t t).whole l), k.whole l);
      terms = λ l. omega (arith, decimal_length 9 v (32 ∷ 58 ∷ 61 ∷ 32 ∷ (texts_t t).whole (41 ∷ l)), k.whole (41 ∷ l));
      term = λ l. omega (arith, decimal_length 9 v (32 ∷ 58 ∷ 61 ∷ 32 ∷ (texts_t t).whole (41 ∷ l)), k.whole (41 ∷ l));
    }

short_proc : (p : Proc) → Short (texts_p p) (20 * nodes_p p)
unfolding texts_p nodes_p
short_proc (ValP z) = record { whole = λ l. omega (arith, number_length z l); terms = λ l. omega (arith, number_length z l); term = λ l. omega (arith, number_length z l) }
short_proc (AddP a b) = short_plus (texts_p a) (texts_p b) (20 * nodes_p a) (20 * nodes_p b) _ (omega arith) (short_proc a) (short_proc b)
short_proc (Atomic t) = let k = short_tran t in record { whole = λ l. omega (arith, k.whole (41 ∷ l)); terms = λ l. omega (arith, k.whole (41 ∷ l)); term = λ l. omega (arith, k.whole (41 ∷ l)) }
short_proc (Fork p) = let k = short_proc p in record { whole = λ l. omega (arith, k.term l); terms = λ l. omega (arith, k.term l); term = λ l. omega (arith, k.term l) }

-- every tree within document 01's limits prints as a text that is read as that tree
pub printed_read : (p : Proc) → Sized p → read_text (printed p) ≡ done p
unfolding printed
printed_read p w = text_exactly (printed p) (done p) (script (omega (arith, (short_proc p).whole [], w.few)) (printed_script p w.valued w.flat))
