-- A reader of such texts, byte by byte. Nobody has to believe it: the fields `taken` and `turned-down` of `Formulas` (guarantee/specs) say what it comes to.
use Rattle.std.specs.Prelude.{ℕ, suc, ◌+◌, ◌*◌, ◌-◌, Bool, true, false, cond, List, [], ◌∷◌, eqb, leb, ltb, ℤ, pos, length}
use Rattle.script.specs.Tree.{Read, Write, Proc, Atomic, Fork, Sort, process, transaction, Tree}
use Rattle.script.specs.Outcome.{Outcome, refused, done, refuse}
use Rattle.grammar.specs.Grammar.{is_blank, is_digit, minus, most_plain, most_negative, most_register, value, sum, most_open, most_text}

mutual
  -- what stands around a process or a transaction: nothing, a bracket, an atomic's bracket, a write
  pub data SumIn : Sort → Type 0 where
    text : SumIn process
    bracket : {s : Sort} → TermIn s → SumIn s
    atomic : TermIn process → SumIn transaction
    write : ℕ → SumIn transaction → SumIn transaction

  -- what stands around a term: it is the first one, or behind a sum so far and a `+`, or a fork's
  pub data TermIn : Sort → Type 0 where
    first : {s : Sort} → SumIn s → TermIn s
    added : {s : Sort} → Tree s → SumIn s → TermIn s
    forked : TermIn process → TermIn process

-- how many brackets, forks, atomics and writes are open
unfoldable mutual
  -- around a process or a transaction
  pub opens_s : {s : Sort} → SumIn s → ℕ
  opens_s text = 0
  opens_s (bracket c) = opens_t c + 1
  opens_s (atomic c) = opens_t c + 2
  opens_s (write v c) = opens_s c + 1

  -- around a term
  pub opens_t : {s : Sort} → TermIn s → ℕ
  opens_t (first c) = opens_s c
  opens_t (added a c) = opens_s c
  opens_t (forked c) = opens_t c + 1

-- the sum to which a term belongs
unfoldable pub sum_in : {s : Sort} → TermIn s → SumIn s
sum_in (first c) = c
sum_in (added a c) = c
sum_in (forked c) = sum_in c

-- and what that sum is so far, the term being t
unfoldable pub grown : {s : Sort} → TermIn s → Tree s → Tree s
grown (first c) t = t
grown (added {s = s} a c) t = sum s a t
grown (forked c) t = grown c (Fork t)

-- how far the reader is
pub data State : Type 0 where
  -- a term is due
  want : {s : Sort} → TermIn s → State
  -- a `-` was read, a digit is due; some digits of a number were read
  dash : {s : Sort} → TermIn s → State
  number : {s : Sort} → (negative : Bool) → ℕ → TermIn s → State
  -- this letter of a word is due, then these, then it goes on so
  word : ℕ → List ℕ → State → State
  -- behind `atomic` its bracket is due
  unopened : TermIn process → State
  -- an `r` was read, a digit is due; some digits of a register were read; a first register and a blank were read
  letter_r : TermIn transaction → State
  register : ℕ → TermIn transaction → State
  registered : ℕ → SumIn transaction → State
  -- a term is complete, and this is the sum so far
  after : {s : Sort} → Tree s → SumIn s → State

-- what a byte comes to: it does not fit, or the reader goes on
pub data Moved : Type 0 where
  stuck : Moved
  on : State → Moved

-- the greatest size of a number, with a `-` and without
unfoldable pub most_size : Bool → ℕ
most_size false = most_plain
most_size true = most_negative

-- the number, with its sign
unfoldable pub signed_number : Bool → ℕ → ℤ
signed_number false n = pos n
signed_number true n = minus n

-- a state, if it is permitted
abbrev pub if_so : Bool → State → Moved
if_so true s = on s
if_so false s = stuck

-- a `)` behind a process or a transaction
unfoldable pub closed : {s : Sort} → SumIn s → Tree s → Moved
closed text t = stuck
closed (bracket c) t = on (after (grown c t) (sum_in c))
closed (atomic c) t = on (after (grown c (Atomic t)) (sum_in c))
closed (write v c) t = closed c (Write v t)

-- the byte behind a term
unfoldable pub step_after : {s : Sort} → Tree s → SumIn s → ℕ → Moved
step_after t c b = cond (is_blank b) (on (after t c)) (cond (eqb b 43) (on (want (added t c))) (cond (eqb b 41) (closed c t) stuck))

-- the byte behind a first register and a blank: what may stand behind a term, or a `:`
unfoldable pub step_registered : ℕ → SumIn transaction → ℕ → Moved
step_registered v c b =
    cond
    (is_blank b)
    (on (registered v c))
    (cond (eqb b 58) (if_so (ltb (opens_s c) most_open) (word 61 [] (want (first (write v c))))) (step_after (Read v) c b))

-- the byte behind a register: only a first one may be written
unfoldable pub behind_register : ℕ → TermIn transaction → ℕ → Moved
behind_register v (first c) b = step_registered v c b
behind_register v (added a c) b = step_after (sum transaction a (Read v)) c b

-- a digit of a number
unfoldable pub step_number : {s : Sort} → Bool → ℕ → TermIn s → ℕ → Moved
step_number negative n c b = if_so (leb (n * 10 + (b - 48)) (most_size negative)) (number negative (n * 10 + (b - 48)) c)

-- a digit of a register
unfoldable pub step_register : ℕ → TermIn transaction → ℕ → Moved
step_register v c b = if_so (leb (v * 10 + (b - 48)) most_register) (register (v * 10 + (b - 48)) c)

-- the letters with which a term of each sort may begin
unfoldable pub step_letter : {s : Sort} → TermIn s → ℕ → Moved
step_letter {s = process} c b =
    cond
    (eqb b 102)
    (if_so (ltb (opens_t c) most_open) (word 111 (114 ∷ 107 ∷ []) (want (forked c))))
    (cond (eqb b 97) (if_so (ltb (opens_t c + 1) most_open) (word 116 (111 ∷ 109 ∷ 105 ∷ 99 ∷ []) (unopened c))) stuck)
step_letter {s = transaction} c b = cond (eqb b 114) (on (letter_r c)) stuck

-- the byte where a term is due
unfoldable pub step_want : {s : Sort} → TermIn s → ℕ → Moved
step_want c b =
    cond
    (is_blank b)
    (on (want c))
    (cond
    (is_digit b)
    (step_number false 0 c b)
    (cond (eqb b 45) (on (dash c)) (cond (eqb b 40) (if_so (ltb (opens_t c) most_open) (want (first (bracket c)))) (step_letter c b))))

-- the rest of a word
unfoldable pub spelling : List ℕ → State → State
spelling [] s = s
spelling (c ∷ w) s = word c w s

-- the byte at each state
unfoldable pub step : State → ℕ → Moved
step (want c) b = step_want c b
step (dash c) b = cond (is_digit b) (step_number true 0 c b) stuck
step (number {s = s} negative n c) b =
    cond (is_digit b) (step_number negative n c b) (step_after (grown c (value s (signed_number negative n))) (sum_in c) b)
step (word c w s) b = cond (eqb b c) (on (spelling w s)) stuck
step (unopened c) b = cond (is_blank b) (on (unopened c)) (cond (eqb b 40) (on (want (first (atomic c)))) stuck)
step (letter_r c) b = cond (is_digit b) (step_register 0 c b) stuck
step (register v c) b = cond (is_digit b) (step_register v c b) (behind_register v c b)
step (registered v c) b = step_registered v c b
step (after t c) b = step_after t c b

-- what reading comes to: a tree, or no script, so many bytes being left from the first one that does not fit
pub data Result : Type 0 where
  fails : (left : ℕ) → Result
  reads : Proc → Result

-- the text's end behind a term: it must be the whole text's
unfoldable pub end_after : {s : Sort} → Tree s → SumIn s → Result
end_after t text = reads t
end_after t (bracket c) = fails 0
end_after t (atomic c) = fails 0
end_after t (write v c) = fails 0

-- the text's end at each state
unfoldable pub finish : State → Result
finish (want c) = fails 0
finish (dash c) = fails 0
finish (number {s = s} negative n c) = end_after (grown c (value s (signed_number negative n))) (sum_in c)
finish (word c w s) = fails 0
finish (unopened c) = fails 0
finish (letter_r c) = fails 0
finish (register v c) = end_after (grown c (Read v)) (sum_in c)
finish (registered v c) = end_after (Read v) c
finish (after t c) = end_after t c

-- all bytes of a text, from a state on
unfoldable pub read_from : State → List ℕ → Result
read_from s [] = finish s
read_from s (b ∷ bs) = elim (step s b) [ stuck ↦ fails (suc (length bs)) | on s' ↦ read_from s' bs ]

-- where the reader begins
abbrev pub begin : State
begin = want (first text)

-- 15 at the first byte that does not fit, of a text of so many bytes
abbrev pub placed : ℕ → Result → Outcome Proc
placed size (fails left) = refused 15 (size - left)
placed size (reads p) = done p

-- a whole text: too long, or read from its beginning
unfoldable pub read_text : List ℕ → Outcome Proc
read_text bs = refuse (ltb most_text (length bs)) 15 most_text (placed (length bs) (read_from begin bs))
