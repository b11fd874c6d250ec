-- A tree printed as a formula: sums to the left without brackets, a sum or a write that stands for a term in brackets. Each text is put in front of what
-- follows. Nobody has to believe it: `printed_read` (proofs/Prints) says that every tree within document 01's limits is read again from it.
use Rattle.std.specs.Prelude.{ℕ, zero, suc, ◌+◌, ◌/◌, ◌%◌, true, false, List, [], ◌∷◌, ltb, ℤ, pos, negsuc}
use Rattle.script.specs.Tree.{Tran, ValT, AddT, Read, Write, Proc, ValP, AddP, Atomic, Fork}

-- a number's decimal digits, at most so many and one more
unfoldable pub decimal : (digits n : ℕ) → List ℕ → List ℕ
decimal zero n rest = (48 + n % 10) ∷ rest
decimal (suc digits) n rest = elim (ltb n 10) [ true ↦ (48 + n % 10) ∷ rest | false ↦ decimal digits (n / 10) ((48 + n % 10) ∷ rest) ]

-- a number
unfoldable pub number_text : ℤ → List ℕ → List ℕ
number_text (pos n) rest = decimal 9 n rest
number_text (negsuc n) rest = 45 ∷ decimal 9 (suc n) rest

-- a register
unfoldable pub register_text : ℕ → List ℕ → List ℕ
register_text v rest = 114 ∷ decimal 9 v rest

-- what a tree is printed as: a whole process or transaction, the terms of a sum, one term
pub record Texts : Type 0 where
  pub whole : List ℕ → List ℕ
  pub terms : List ℕ → List ℕ
  pub term : List ℕ → List ℕ

-- a text in brackets
abbrev pub bracketed : (List ℕ → List ℕ) → List ℕ → List ℕ
bracketed text rest = 40 ∷ text (41 ∷ rest)

-- one text for all three
abbrev pub alone : (List ℕ → List ℕ) → Texts
alone text = record { whole = text; terms = text; term = text }

-- a sum of two trees: terms of a sum, then ` + `, then a term
abbrev pub plus : Texts → Texts → Texts
plus a b =
    record {
      whole = λ rest. a.terms (32 ∷ 43 ∷ 32 ∷ b.term rest);
      terms = λ rest. a.terms (32 ∷ 43 ∷ 32 ∷ b.term rest);
      term = bracketed (λ rest. a.terms (32 ∷ 43 ∷ 32 ∷ b.term rest));
    }

-- the texts of a transaction
unfoldable pub texts_t : Tran → Texts
texts_t (ValT n) = alone (number_text n)
texts_t (AddT a b) = plus (texts_t a) (texts_t b)
texts_t (Read v) = alone (register_text v)
texts_t (Write v t) =
    record {
      whole = λ rest. register_text v (32 ∷ 58 ∷ 61 ∷ 32 ∷ (texts_t t).whole rest);
      terms = bracketed (λ rest. register_text v (32 ∷ 58 ∷ 61 ∷ 32 ∷ (texts_t t).whole rest));
      term = bracketed (λ rest. register_text v (32 ∷ 58 ∷ 61 ∷ 32 ∷ (texts_t t).whole rest));
    }

-- the texts of a process
unfoldable pub texts_p : Proc → Texts
texts_p (ValP n) = alone (number_text n)
texts_p (AddP a b) = plus (texts_p a) (texts_p b)
texts_p (Atomic t) = alone (λ rest. 97 ∷ 116 ∷ 111 ∷ 109 ∷ 105 ∷ 99 ∷ 40 ∷ (texts_t t).whole (41 ∷ rest))
texts_p (Fork p) = alone (λ rest. 102 ∷ 111 ∷ 114 ∷ 107 ∷ 32 ∷ (texts_p p).term rest)

-- the text of a script
unfoldable pub printed : Proc → List ℕ
printed p = (texts_p p).whole []
