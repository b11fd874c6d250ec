-- The numbers and registers of a script's tree are such as a job has, and it has no more nodes than the text bytes. Assumes nothing.
use Prim.Native.Nat.{ℕ, zero, suc, ◌+◌, ◌<◌, ◌≤◌}
use mathlib.Core.Path.{◌≡◌, refl, sym, ap, subst}
use mathlib.Core.List.{List, ◌∷◌}
use native.Mathlib.Omega.{arith}
use lib.IntN.{ℤ}
use lib.ListN.{length}
use Rattle.word.specs.Sum.{InRange}
use Rattle.word.proofs.Sums.{fits→range}
use Rattle.script.specs.Count.{nodes_t, nodes_p}
use Rattle.script.specs.InnerTrees.{Valued, nodes}
use Rattle.script.specs.Limits.{ValuedP}
use Rattle.script.specs.Tree.{Proc, Sort, process, transaction, Tree}
use Rattle.grammar.specs.Grammar.{minus, value, sum, Blanks, Spelled, Digits, Decimal, Number, Register, Around, Lexeme, Formula, Terms, Term, IsScript}

number_in_range : {z : ℤ} {bs rest : List ℕ} → Number z bs rest → InRange z
unfolding minus
number_in_range (Number.plain {n = n} d h) = fits→range (record { sfits = omega arith })
number_in_range (Number.negative {n = zero} d h) = fits→range (record { sfits = omega arith })
number_in_range (Number.negative {n = suc n} d h) = fits→range (record { sfits = omega arith })

value_valued : (s : Sort) (z : ℤ) → InRange z → Valued s (value s z)
unfolding value
value_valued process z h = h
value_valued transaction z h = h

sum_valued : (s : Sort) (a b : Tree s) → Valued s a → Valued s b → Valued s (sum s a b)
unfolding sum
sum_valued process a b h k = (h, k)
sum_valued transaction a b h k = (h, k)

register_small : {v : ℕ} {bs rest : List ℕ} → Register v bs rest → v < 64
register_small (Register.register d h) = omega arith

mutual
  formula_valued : {o : ℕ} {s : Sort} {t : Tree s} {bs rest : List ℕ} → Formula o s t bs rest → Valued s t
  formula_valued (Formula.terms k) = terms_valued k
  formula_valued (Formula.write h r k w) = (register_small r.inside, formula_valued w)

  terms_valued : {o : ℕ} {s : Sort} {t : Tree s} {bs rest : List ℕ} → Terms o s t bs rest → Valued s t
  terms_valued (Terms.one k) = term_valued k
  terms_valued (Terms.plus {s = s} {a = a} {b = b} k p m e) = subst (Valued s) (sym e) (sum_valued s a b (terms_valued k) (term_valued m))

  term_valued : {o : ℕ} {s : Sort} {t : Tree s} {bs rest : List ℕ} → Term o s t bs rest → Valued s t
  term_valued (Term.number {s = s} {n = n} k e) = subst (Valued s) (sym e) (value_valued s n (number_in_range k.inside))
  term_valued (Term.bracketed h l w r) = formula_valued w
  term_valued (Term.fork h l k) = term_valued k
  term_valued (Term.atomic h a l w r) = formula_valued w
  term_valued (Term.read k) = register_small k.inside

pub script_valued : {bs : List ℕ} {p : Proc} → IsScript bs p → ValuedP p
script_valued k = formula_valued k.text

-- ---- each node has a byte of the text
blanks_ahead : {bs rest : List ℕ} → Blanks bs rest → length rest ≤ length bs
blanks_ahead Blanks.none = omega arith
blanks_ahead (Blanks.blank e k) = omega (arith, blanks_ahead k)

spelled_ahead : {w bs rest : List ℕ} → Spelled w bs rest → length w + length rest ≤ length bs
spelled_ahead Spelled.spelled = omega arith
spelled_ahead (Spelled.letter k) = omega (arith, spelled_ahead k)

digits_ahead : {m n : ℕ} {bs rest : List ℕ} → Digits m n bs rest → length rest ≤ length bs
digits_ahead Digits.none = omega arith
digits_ahead (Digits.digit e k) = omega (arith, digits_ahead k)

decimal_ahead : {n : ℕ} {bs rest : List ℕ} → Decimal n bs rest → 1 + length rest ≤ length bs
decimal_ahead (Decimal.decimal e k) = omega (arith, digits_ahead k)

number_ahead : {z : ℤ} {bs rest : List ℕ} → Number z bs rest → 1 + length rest ≤ length bs
number_ahead (Number.plain d h) = decimal_ahead d
number_ahead (Number.negative d h) = omega (arith, decimal_ahead d)

register_ahead : {v : ℕ} {bs rest : List ℕ} → Register v bs rest → 1 + length rest ≤ length bs
register_ahead (Register.register d h) = omega (arith, decimal_ahead d)

around_ahead : {I : List ℕ → List ℕ → Type 0} {bs rest : List ℕ} → ((bs rest : List ℕ) → I bs rest → 1 + length rest ≤ length bs) → Around I bs rest → 1 + length rest ≤ length bs
around_ahead h k = omega (arith, blanks_ahead k.before, h _ _ k.inside, blanks_ahead k.after)

lexeme_ahead : {c : ℕ} {w bs rest : List ℕ} → Lexeme (c ∷ w) bs rest → 1 + length rest ≤ length bs
lexeme_ahead k = around_ahead (λ _ _ i. omega (arith, spelled_ahead i)) k

value_nodes : (s : Sort) (z : ℤ) → nodes s (value s z) ≡ 1
unfolding value nodes_p nodes_t
value_nodes process z = refl
value_nodes transaction z = refl

sum_nodes : (s : Sort) (a b : Tree s) → nodes s (sum s a b) ≡ suc (nodes s a + nodes s b)
unfolding sum nodes_p nodes_t
sum_nodes process a b = refl
sum_nodes transaction a b = refl

mutual
  unfolding nodes_p nodes_t

  formula_nodes : {o : ℕ} {s : Sort} {t : Tree s} {bs rest : List ℕ} → Formula o s t bs rest → nodes s t + length rest ≤ length bs
  formula_nodes (Formula.terms k) = terms_nodes k
  formula_nodes (Formula.write h r k w) = omega (arith, around_ahead (λ _ _ i. register_ahead i) r, lexeme_ahead k, formula_nodes w)

  terms_nodes : {o : ℕ} {s : Sort} {t : Tree s} {bs rest : List ℕ} → Terms o s t bs rest → nodes s t + length rest ≤ length bs
  terms_nodes (Terms.one k) = term_nodes k
  terms_nodes (Terms.plus {s = s} {a = a} {b = b} k p m e) = omega (arith, ap (nodes s) e, sum_nodes s a b, terms_nodes k, lexeme_ahead p, term_nodes m)

  term_nodes : {o : ℕ} {s : Sort} {t : Tree s} {bs rest : List ℕ} → Term o s t bs rest → nodes s t + length rest ≤ length bs
  term_nodes (Term.number {s = s} {n = n} k e) = omega (arith, ap (nodes s) e, value_nodes s n, around_ahead (λ _ _ i. number_ahead i) k)
  term_nodes (Term.bracketed h l w r) = omega (arith, lexeme_ahead l, formula_nodes w, lexeme_ahead r)
  term_nodes (Term.fork h l k) = omega (arith, lexeme_ahead l, term_nodes k)
  term_nodes (Term.atomic h a l w r) = omega (arith, lexeme_ahead a, lexeme_ahead l, formula_nodes w, lexeme_ahead r)
  term_nodes (Term.read k) = around_ahead (λ _ _ i. register_ahead i) k

pub script_nodes : {bs : List ℕ} {p : Proc} → IsScript bs p → nodes_p p ≤ length bs
script_nodes k = omega (arith, formula_nodes k.text)
