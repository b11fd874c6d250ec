-- Document 02 No. 7, "Scripts typed as formulas": which texts are scripts, and of which tree. A text is a list of bytes, here by their ASCII numbers. Each
-- relation says what stands at the front of a text `bs`; `rest` is the text behind it.
use Rattle.std.specs.Prelude.{ℕ, zero, suc, ◌+◌, ◌*◌, ◌-◌, ◌≤◌, ◌<◌, ◌≡◌, Bool, true, ◌&&◌, ◌||◌, List, [], ◌∷◌, ◌++◌, eqb, leb, ℤ, pos, negsuc, length, take}
use Rattle.script.specs.Tree.{Tran, ValT, AddT, Read, Write, Proc, ValP, AddP, Atomic, Fork, Sort, process, transaction, Tree}

-- "Bytes 32, 10 and 13"
unfoldable pub is_blank : ℕ → Bool
is_blank b = eqb b 32 || (eqb b 10 || eqb b 13)

-- a decimal digit, `0` to `9`
unfoldable pub is_digit : ℕ → Bool
is_digit b = leb 48 b && leb b 57

-- blanks, none or some
pub data Blanks : (bs rest : List ℕ) → Type 0 where
  none : {bs : List ℕ} → Blanks bs bs
  blank : {b : ℕ} {bs rest : List ℕ} → is_blank b ≡ true → Blanks bs rest → Blanks (b ∷ bs) rest

-- the bytes of a word, one behind the other
pub data Spelled : (word bs rest : List ℕ) → Type 0 where
  spelled : {bs : List ℕ} → Spelled [] bs bs
  letter : {c : ℕ} {word bs rest : List ℕ} → Spelled word bs rest → Spelled (c ∷ word) (c ∷ bs) rest

-- decimal digits, none or some; n is the number that they and the digits before them make, which alone make m
pub data Digits : (m n : ℕ) (bs rest : List ℕ) → Type 0 where
  none : {m : ℕ} {bs : List ℕ} → Digits m m bs bs
  digit : {m n b : ℕ} {bs rest : List ℕ} → is_digit b ≡ true → Digits (m * 10 + (b - 48)) n bs rest → Digits m n (b ∷ bs) rest

-- decimal digits, one at least, and the number that they make; "leading zeros are allowed"
pub data Decimal (n : ℕ) : (bs rest : List ℕ) → Type 0 where
  decimal : {b : ℕ} {bs rest : List ℕ} → is_digit b ≡ true → Digits (b - 48) n bs rest → Decimal n (b ∷ bs) rest

-- the negative of a number
unfoldable pub minus : ℕ → ℤ
minus zero = pos 0
minus (suc n) = negsuc n

-- "signed 32-bit range": the greatest number without `-`
abbrev pub most_plain : ℕ
most_plain = 2147483647

-- the greatest one behind `-`
abbrev pub most_negative : ℕ
most_negative = 2147483648

-- "A number is an optional `-` and decimal digits, in signed 32-bit range"; 45 is `-`
pub data Number : ℤ → (bs rest : List ℕ) → Type 0 where
  plain : {n : ℕ} {bs rest : List ℕ} → Decimal n bs rest → n ≤ most_plain → Number (pos n) bs rest
  negative : {n : ℕ} {bs rest : List ℕ} → Decimal n bs rest → n ≤ most_negative → Number (minus n) (45 ∷ bs) rest

-- "registers are 0 to 63"
abbrev pub most_register : ℕ
most_register = 63

-- "a register such as `r5`"; 114 is `r`
pub data Register (v : ℕ) : (bs rest : List ℕ) → Type 0 where
  register : {bs rest : List ℕ} → Decimal v bs rest → v ≤ most_register → Register v (114 ∷ bs) rest

-- such a thing with blanks around it: they "may stand before or after a word, number, register, bracket, `+` or `:=`, never inside one, and are never needed"
pub record Around (Inside : List ℕ → List ℕ → Type 0) (bs rest : List ℕ) : Type 0 where
  pub front : List ℕ
  pub back : List ℕ
  pub before : Blanks bs front
  pub inside : Inside front back
  pub after : Blanks back rest

-- a word, a bracket, `+` or `:=` with blanks around it
abbrev pub Lexeme : (word bs rest : List ℕ) → Type 0
Lexeme word = Around (Spelled word)

-- `+`
abbrev pub plus_sign : List ℕ
plus_sign = 43 ∷ []

-- `(`, "Brackets are round"
abbrev pub opening : List ℕ
opening = 40 ∷ []

-- `)`
abbrev pub closing : List ℕ
closing = 41 ∷ []

-- `:=`
abbrev pub becomes : List ℕ
becomes = 58 ∷ 61 ∷ []

-- `fork`, "words small letters"
abbrev pub fork_word : List ℕ
fork_word = 102 ∷ 111 ∷ 114 ∷ 107 ∷ []

-- `atomic`
abbrev pub atomic_word : List ℕ
atomic_word = 97 ∷ 116 ∷ 111 ∷ 109 ∷ 105 ∷ 99 ∷ []

-- "Brackets, forks, atomics and writes open together number at most 64"
abbrev pub most_open : ℕ
most_open = 64

-- a number as a tree of each sort
unfoldable pub value : (s : Sort) → ℤ → Tree s
value process n = ValP n
value transaction n = ValT n

-- a sum as a tree of each sort
unfoldable pub sum : (s : Sort) → Tree s → Tree s → Tree s
sum process a b = AddP a b
sum transaction a b = AddT a b

mutual
  -- A process, or a transaction; `opened` brackets, forks, atomics and writes are open around it. "In a process, terms are joined by `+`"; "In a transaction,
  -- `r5 := t` writes the transaction t; otherwise terms are joined by `+`"
  pub data Formula : (opened : ℕ) (s : Sort) → Tree s → (bs rest : List ℕ) → Type 0 where
    terms : {o : ℕ} {s : Sort} {t : Tree s} {bs rest : List ℕ} → Terms o s t bs rest → Formula o s t bs rest
    write : {o v : ℕ} {t : Tran} {bs b₁ b₂ rest : List ℕ} →
        o < most_open →
        Around (Register v) bs b₁ →
        Lexeme becomes b₁ b₂ →
        Formula (o + 1) transaction t b₂ rest →
        Formula o transaction (Write v t) bs rest

  -- terms joined by `+`, which "groups to the left"
  pub data Terms : (opened : ℕ) (s : Sort) → Tree s → (bs rest : List ℕ) → Type 0 where
    one : {o : ℕ} {s : Sort} {t : Tree s} {bs rest : List ℕ} → Term o s t bs rest → Terms o s t bs rest
    plus : {o : ℕ} {s : Sort} {a b t : Tree s} {bs b₁ b₂ rest : List ℕ} →
        Terms o s a bs b₁ →
        Lexeme plus_sign b₁ b₂ →
        Term o s b b₂ rest →
        t ≡ sum s a b →
        Terms o s t bs rest

  -- a term: in a process "a number, a bracketed process, `fork` with a term, or `atomic` with a bracketed transaction"; in a transaction "a number, a
  -- register such as `r5`, or a bracketed transaction"; "an atomic and its bracket being two"
  pub data Term : (opened : ℕ) (s : Sort) → Tree s → (bs rest : List ℕ) → Type 0 where
    number : {o : ℕ} {s : Sort} {n : ℤ} {t : Tree s} {bs rest : List ℕ} → Around (Number n) bs rest → t ≡ value s n → Term o s t bs rest
    bracketed : {o : ℕ} {s : Sort} {t : Tree s} {bs b₁ b₂ rest : List ℕ} →
        o < most_open →
        Lexeme opening bs b₁ →
        Formula (o + 1) s t b₁ b₂ →
        Lexeme closing b₂ rest →
        Term o s t bs rest
    fork : {o : ℕ} {p : Proc} {bs b₁ rest : List ℕ} →
        o < most_open →
        Lexeme fork_word bs b₁ →
        Term (o + 1) process p b₁ rest →
        Term o process (Fork p) bs rest
    atomic : {o : ℕ} {t : Tran} {bs b₁ b₂ b₃ rest : List ℕ} →
        o + 1 < most_open →
        Lexeme atomic_word bs b₁ →
        Lexeme opening b₁ b₂ →
        Formula (o + 2) transaction t b₂ b₃ →
        Lexeme closing b₃ rest →
        Term o process (Atomic t) bs rest
    read : {o v : ℕ} {bs rest : List ℕ} → Around (Register v) bs rest → Term o transaction (Read v) bs rest

-- "The text is a script exactly if this grammar and these bounds have it": a text of any length, and its tree
pub record IsScript (bs : List ℕ) (p : Proc) : Type 0 where
  pub text : Formula 0 process p bs []

-- some script, "its length not limited", goes on as this text does
pub record Viable (bs : List ℕ) : Type 0 where
  pub rest : List ℕ
  pub tree : Proc
  pub script : IsScript (bs ++ rest) tree

-- "A text of at most 32,768 bytes"
abbrev pub most_text : ℕ
most_text = 32768

-- a script that is no longer than that, and its tree
pub record ShortScript (bs : List ℕ) (p : Proc) : Type 0 where
  pub short : length bs ≤ most_text
  pub script : IsScript bs p

-- Refusal 15 and its place. "a text above 32,768 bytes is always 15 at 32768"; "at the first offset where no script, its length not limited, could go on as
-- this one does": the bytes before it can go on to a script, and with the byte there they cannot; "an end too early counting at the text's length"
pub data NoScript (bs : List ℕ) : (place : ℕ) → Type 0 where
  long : most_text < length bs → NoScript bs most_text
  at_byte : {i : ℕ} → length bs ≤ most_text → i < length bs → Viable (take i bs) → (Viable (take (i + 1) bs) → ⊥) → NoScript bs i
  at-end : length bs ≤ most_text → Viable bs → ((p : Proc) → IsScript bs p → ⊥) → NoScript bs (length bs)
