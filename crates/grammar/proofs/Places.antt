-- The reader at a place of a text: what functions that go by places are proved with. Assumes nothing.
use Prim.Native.Nat.{ℕ, suc, ◌+◌, ◌*◌, ◌-◌, ◌≤◌, ◌<◌}
use mathlib.Core.Path.{◌≡◌, refl, sym, ap, ◌∙◌, subst}
use mathlib.Core.Bool.{Bool, true, false}
use mathlib.Core.List.{List, [], ◌∷◌}
use mathlib.Core.Logic.{◌⊎◌, inl, inr, ⊎_elim}
use native.Mathlib.Omega.{arith}
use native.Mathlib.Decide.{dec_lt}
use lib.Dec.{eqb}
use lib.ListN.{length, drop, get_or, length-drop}
use lib.Seq.{drop-cons}
use borrow.Author.Tests.{lt-ltb, le-ltb, le-leb, lt-leb, eq-eqb, ne_eqb}
use Rattle.script.specs.Tree.{Tran, Read, Write, Atomic, Sort, process, transaction, Tree}
use Rattle.grammar.specs.Grammar.{is_blank, is_digit, value, sum, Digits, most_plain, most_negative, most_register, most_open}
use Rattle.grammar.specs.Reader.{SumIn, TermIn, bracket, atomic, write, first, added, forked, opens_s, opens_t, sum_in, grown, State, want, dash, number, word, unopened, letter_r, register, registered, after, Moved, stuck, on, most_size, signed_number, closed, step_after, step_registered, behind_register, step_number, step_register, step_letter, step_want, spelling, step, Result, fails, end_after, finish, read_from}
use Rattle.grammar.proofs.Complete.{goes, digit_no_blank, blank_no_digit, digits_grow, number_digits, register_digits, alike, no_end, registered_stays}

head_digit : {n : ℕ} {xs rest : List ℕ} → Digits 0 n xs rest → length rest < length xs → (b : ℕ) (ys : List ℕ) → xs ≡ b ∷ ys → (is_digit b ≡ true) × Digits (b - 48) n ys rest
head_digit Digits.none h b ys p = absurd (omega arith)
head_digit {n = n} {rest = rest} (Digits.digit {b = b'} {bs = ys'} e k) h b ys p =
    let q : b' ≡ b = cc in
    let r : ys' ≡ ys = cc in
    (ap is_digit (sym q) ∙ e, subst (λ (l : List ℕ). Digits (b - 48) n l rest) r (subst (λ (m : ℕ). Digits m n ys' rest) (alike b' ∙ ap (λ (b : ℕ). b - 48) q) k))

module _ (bs : List ℕ) where
  pub here : (i : ℕ) → i < length bs → drop i bs ≡ get_or bs i 0 ∷ drop (i + 1) bs
  here i h = let n : suc i ≡ i + 1 = omega arith in drop-cons bs i 0 h ∙ ap (λ (n : ℕ). get_or bs i 0 ∷ drop n bs) n

  pub at-end : (x : State) (i : ℕ) → length bs ≤ i → read_from x (drop i bs) ≡ finish x
  unfolding read_from
  at-end x i h = ap (read_from x) (nothing (drop i bs) (omega (arith, length-drop i bs)))
    where
      nothing : (l : List ℕ) → length l ≡ 0 → l ≡ []
      nothing [] e = refl
      nothing (b ∷ l) e = absurd (omega arith)

  -- one byte on, or none
  pub advance : (x y : State) (i : ℕ) → i < length bs → step x (get_or bs i 0) ≡ on y → read_from x (drop i bs) ≡ read_from y (drop (i + 1) bs)
  advance x y i h e = ap (read_from x) (here i h) ∙ goes x y (get_or bs i 0) (drop (i + 1) bs) e

  pub halt : (x : State) (i : ℕ) → i < length bs → step x (get_or bs i 0) ≡ stuck → read_from x (drop i bs) ≡ fails (length bs - i)
  unfolding read_from
  halt x i h e =
      let n : suc (length (drop (i + 1) bs)) ≡ length bs - i = omega (arith, length-drop (i + 1) bs) in
      ap (read_from x) (here i h) ∙ rw (e, read_from) (ap fails n)

  pub early : (x : State) (i : ℕ) → i ≡ length bs → finish x ≡ fails 0 → read_from x (drop i bs) ≡ fails (length bs - i)
  early x i h e = let n : 0 ≡ length bs - i = omega arith in at-end x i (omega arith) ∙ (e ∙ ap fails n)

  -- a byte that is known
  pub advance_at : (x y : State) (i b : ℕ) → i < length bs → get_or bs i 0 ≡ b → step x b ≡ on y → read_from x (drop i bs) ≡ read_from y (drop (i + 1) bs)
  advance_at x y i b h g e = advance x y i h (ap (step x) g ∙ e)

  -- a letter of a word is not there
  pub no_letter : (c : ℕ) (w : List ℕ) (y : State) (i : ℕ) → i ≤ length bs → (i < length bs → get_or bs i 0 ≡ c → ⊥) → read_from (word c w y) (drop i bs) ≡ fails (length bs - i)
  unfolding step finish
  no_letter c w y i h n = go (dec_lt i (length bs))
    where
      go : Dec (i < length bs) → read_from (word c w y) (drop i bs) ≡ fails (length bs - i)
      go (yes l) = halt (word c w y) i l (rw (ne_eqb (get_or bs i 0) c (n l)))
      go (no l) = early (word c w y) i (omega arith) refl

  pub one_letter : (c : ℕ) (w : List ℕ) (y : State) (i : ℕ) → i < length bs → get_or bs i 0 ≡ c → read_from (word c w y) (drop i bs) ≡ read_from (spelling w y) (drop (i + 1) bs)
  unfolding step
  one_letter c w y i h e = advance (word c w y) (spelling w y) i h (rw (eq-eqb (get_or bs i 0) c e))

  -- two states that do the same with what stands there
  same_step : (x y : State) (i : ℕ) → i < length bs → step x (get_or bs i 0) ≡ step y (get_or bs i 0) → read_from x (drop i bs) ≡ read_from y (drop i bs)
  unfolding read_from
  same_step x y i h e =
      let l : List ℕ = drop (i + 1) bs in
      let f : Moved → Result = λ m. elim m [ stuck ↦ fails (suc (length (drop (i + 1) bs))) | on z ↦ read_from z (drop (i + 1) bs) ] in
      rw (here i h) (ap f e)

  pub same_on : (x y : State) (i : ℕ) → (i < length bs → step x (get_or bs i 0) ≡ step y (get_or bs i 0)) → finish x ≡ finish y → read_from x (drop i bs) ≡ read_from y (drop i bs)
  same_on x y i e f = go (dec_lt i (length bs))
    where
      go : Dec (i < length bs) → read_from x (drop i bs) ≡ read_from y (drop i bs)
      go (yes l) = same_step x y i l (e l)
      go (no l) = at-end x i (omega arith) ∙ (f ∙ sym (at-end y i (omega arith)))

  -- a state fails there
  pub fails_on : (x : State) (i : ℕ) → i ≤ length bs → (i < length bs → step x (get_or bs i 0) ≡ stuck) → finish x ≡ fails 0 → read_from x (drop i bs) ≡ fails (length bs - i)
  fails_on x i h e f = go (dec_lt i (length bs))
    where
      go : Dec (i < length bs) → read_from x (drop i bs) ≡ fails (length bs - i)
      go (yes l) = halt x i l (e l)
      go (no l) = early x i (omega arith) f

  -- ---- digits
  pub NoDigit : ℕ → Type 0
  NoDigit i = i < length bs → is_digit (get_or bs i 0) ≡ false

  pub digits_more : (m i from : ℕ) → Digits 0 m (drop from bs) (drop i bs) → i < length bs → is_digit (get_or bs i 0) ≡ true → Digits 0 (m * 10 + (get_or bs i 0 - 48)) (drop from bs) (drop (i + 1) bs)
  digits_more m i from k h e = snoc (drop from bs) 0 (subst (λ (l : List ℕ). Digits 0 m (drop from bs) l) (here i h) k) e
    where
      snoc : {n b : ℕ} {rest : List ℕ} (l : List ℕ) (o : ℕ) → Digits o n l (b ∷ rest) → is_digit b ≡ true → Digits o (n * 10 + (b - 48)) l rest
      snoc l o Digits.none e = Digits.digit e Digits.none
      snoc l o (Digits.digit {bs = l'} f k) e = Digits.digit f (snoc l' _ k e)

  -- a number that ends there
  pub number_settles : {s : Sort} (g : Bool) (n : ℕ) (c : TermIn s) (i : ℕ) → (i < length bs → is_digit (get_or bs i 0) ≡ false) → read_from (number g n c) (drop i bs) ≡ read_from (after (grown c (value s (signed_number g n))) (sum_in c)) (drop i bs)
  unfolding step finish
  number_settles {s = s} g n c i k = same_on (number g n c) (after (grown c (value s (signed_number g n))) (sum_in c)) i (λ l. rw (k l)) refl

  register_settles : (v : ℕ) (c : TermIn transaction) (i : ℕ) → (i < length bs → is_digit (get_or bs i 0) ≡ false) → (i < length bs → eqb (get_or bs i 0) 58 ≡ false) → (i < length bs → is_blank (get_or bs i 0) ≡ false) → read_from (register v c) (drop i bs) ≡ read_from (after (grown c (Read v)) (sum_in c)) (drop i bs)
  unfolding step finish behind_register step_registered grown sum_in
  register_settles v (first c) i k m b = same_on (register v (first c)) (after (Read v) c) i (λ l. rw (k l) (rw (b l, m l))) refl
  register_settles v (added a c) i k m b = same_on (register v (added a c)) (after (sum transaction a (Read v)) c) i (λ l. rw (k l)) refl

  -- the first digit of a number, and the others
  from_digits : (n from next : ℕ) → from < next → next ≤ length bs → Digits 0 n (drop from bs) (drop next bs) → (is_digit (get_or bs from 0) ≡ true) × Digits (get_or bs from 0 - 48) n (drop (from + 1) bs) (drop next bs)
  from_digits n from next l w k = head_digit k (omega (arith, length-drop from bs, length-drop next bs)) (get_or bs from 0) (drop (from + 1) bs) (here from (omega arith))

  module _ {s : Sort} (c : TermIn s) (n from next : ℕ) (l : from < next) (w : next ≤ length bs) (k : Digits 0 n (drop from bs) (drop next bs)) where
    first_small : (most : ℕ) → n ≤ most → get_or bs from 0 - 48 ≤ most
    first_small most h = omega (arith, digits_grow (from_digits n from next l w k).1, h)

    pub plain_run : n ≤ most_plain → read_from (want c) (drop from bs) ≡ read_from (number false n c) (drop next bs)
    unfolding step step_want step_number most_size
    plain_run h =
        let d = from_digits n from next l w k in
        let b = get_or bs from 0 in
        advance (want c) (number false (b - 48) c) from (omega arith) (rw (digit_no_blank b d.0, d.0, alike b, le-leb (b - 48) most_plain (first_small most_plain h))) ∙ number_digits false c d.1 h

    pub dash_run : n ≤ most_negative → read_from (dash c) (drop from bs) ≡ read_from (number true n c) (drop next bs)
    unfolding step step_number most_size
    dash_run h =
        let d = from_digits n from next l w k in
        let b = get_or bs from 0 in
        advance (dash c) (number true (b - 48) c) from (omega arith) (rw (d.0, alike b, le-leb (b - 48) most_negative (first_small most_negative h))) ∙ number_digits true c d.1 h

  pub letter_run : (c : TermIn transaction) (n from next : ℕ) → from < next → next ≤ length bs → Digits 0 n (drop from bs) (drop next bs) → n ≤ most_register → read_from (letter_r c) (drop from bs) ≡ read_from (register n c) (drop next bs)
  unfolding step step_register
  letter_run c n from next l w k h =
      let d = from_digits n from next l w k in
      let b = get_or bs from 0 in
      advance (letter_r c) (register (b - 48) c) from (omega arith) (rw (d.0, alike b, le-leb (b - 48) most_register (omega (arith, digits_grow d.1, h)))) ∙ register_digits c d.1 h

  -- a digit too many
  pub number_over : {s : Sort} (g : Bool) (n : ℕ) (c : TermIn s) (i : ℕ) → i < length bs → is_digit (get_or bs i 0) ≡ true → most_size g < n * 10 + (get_or bs i 0 - 48) → read_from (number g n c) (drop i bs) ≡ fails (length bs - i)
  unfolding step step_number
  number_over g n c i l e h = halt (number g n c) i l (rw (e, lt-leb (n * 10 + (get_or bs i 0 - 48)) (most_size g) h))

  pub register_over : (n : ℕ) (c : TermIn transaction) (i : ℕ) → i < length bs → is_digit (get_or bs i 0) ≡ true → most_register < n * 10 + (get_or bs i 0 - 48) → read_from (register n c) (drop i bs) ≡ fails (length bs - i)
  unfolding step step_register
  register_over n c i l e h = halt (register n c) i l (rw (e, lt-leb (n * 10 + (get_or bs i 0 - 48)) most_register h))

  -- no digit where one is due
  pub dash_fails : {s : Sort} (c : TermIn s) (i : ℕ) → i ≤ length bs → (i < length bs → is_digit (get_or bs i 0) ≡ false) → read_from (dash c) (drop i bs) ≡ fails (length bs - i)
  unfolding step finish
  dash_fails c i h k = fails_on (dash c) i h (λ l. rw (k l)) refl

  pub letter_fails : (c : TermIn transaction) (i : ℕ) → i ≤ length bs → (i < length bs → is_digit (get_or bs i 0) ≡ false) → read_from (letter_r c) (drop i bs) ≡ fails (length bs - i)
  unfolding step finish
  letter_fails c i h k = fails_on (letter_r c) i h (λ l. rw (k l)) refl

  -- ---- behind a sum: `+`, or something else
  pub plus_there : {s : Sort} (t : Tree s) (c : SumIn s) (i : ℕ) → i < length bs → get_or bs i 0 ≡ 43 → read_from (after t c) (drop i bs) ≡ read_from (want (added t c)) (drop (i + 1) bs)
  unfolding step step_after is_blank
  plus_there t c i h e = advance_at (after t c) (want (added t c)) i 43 h e refl

  pub write_whole : (v : ℕ) (t : Tran) (c : SumIn transaction) (i : ℕ) → (i < length bs → is_blank (get_or bs i 0) ≡ false) → (i < length bs → eqb (get_or bs i 0) 43 ≡ false) → read_from (after t (write v c)) (drop i bs) ≡ read_from (after (Write v t) c) (drop i bs)
  unfolding step step_after closed finish
  write_whole v t c i b p = same_on (after t (write v c)) (after (Write v t) c) i (λ l. rw (b l, p l)) (no_end t (write v c) ∙ sym (no_end (Write v t) c))

  pub close_there : {s : Sort} (t : Tree s) (c : TermIn s) (i : ℕ) → i < length bs → get_or bs i 0 ≡ 41 → read_from (after t (bracket c)) (drop i bs) ≡ read_from (after (grown c t) (sum_in c)) (drop (i + 1) bs)
  unfolding step step_after is_blank closed
  close_there t c i h e = advance_at (after t (bracket c)) (after (grown c t) (sum_in c)) i 41 h e refl

  pub atomic_there : (t : Tran) (c : TermIn process) (i : ℕ) → i < length bs → get_or bs i 0 ≡ 41 → read_from (after t (atomic c)) (drop i bs) ≡ read_from (after (grown c (Atomic t)) (sum_in c)) (drop (i + 1) bs)
  unfolding step step_after is_blank closed
  atomic_there t c i h e = advance_at (after t (atomic c)) (after (grown c (Atomic t)) (sum_in c)) i 41 h e refl

  -- a sum that is neither joined on nor shut
  pub no_close : {s : Sort} (t : Tree s) (c : SumIn s) (i : ℕ) → i ≤ length bs → (i < length bs → is_blank (get_or bs i 0) ≡ false) → (i < length bs → eqb (get_or bs i 0) 43 ≡ false) → (i < length bs → eqb (get_or bs i 0) 41 ≡ false) → end_after t c ≡ fails 0 → read_from (after t c) (drop i bs) ≡ fails (length bs - i)
  unfolding step step_after finish
  no_close t c i h b p q f = fails_on (after t c) i h (λ l. rw (b l, p l, q l)) f

  -- ---- what a term may begin with
  pub bracket_there : {s : Sort} (c : TermIn s) (i : ℕ) → i < length bs → get_or bs i 0 ≡ 40 → opens_t c < most_open → read_from (want c) (drop i bs) ≡ read_from (want (first (bracket c))) (drop (i + 1) bs)
  unfolding step step_want is_blank is_digit
  bracket_there c i h e o = advance_at (want c) (want (first (bracket c))) i 40 h e (rw (lt-ltb (opens_t c) most_open o))

  pub bracket_over : {s : Sort} (c : TermIn s) (i : ℕ) → i < length bs → get_or bs i 0 ≡ 40 → most_open ≤ opens_t c → read_from (want c) (drop i bs) ≡ fails (length bs - i)
  unfolding step step_want is_blank is_digit
  bracket_over c i h e o = halt (want c) i h (ap (step_want c) e ∙ rw (le-ltb (opens_t c) most_open o))

  pub dash_there : {s : Sort} (c : TermIn s) (i : ℕ) → i < length bs → get_or bs i 0 ≡ 45 → read_from (want c) (drop i bs) ≡ read_from (dash c) (drop (i + 1) bs)
  unfolding step step_want is_blank is_digit
  dash_there c i h e = advance_at (want c) (dash c) i 45 h e refl

  pub letter_there : (c : TermIn transaction) (i : ℕ) → i < length bs → get_or bs i 0 ≡ 114 → read_from (want c) (drop i bs) ≡ read_from (letter_r c) (drop (i + 1) bs)
  unfolding step step_want step_letter is_blank is_digit
  letter_there c i h e = advance_at (want c) (letter_r c) i 114 h e refl

  pub fork_there : (c : TermIn process) (i : ℕ) → i < length bs → get_or bs i 0 ≡ 102 → opens_t c < most_open → read_from (want c) (drop i bs) ≡ read_from (word 111 (114 ∷ 107 ∷ []) (want (forked c))) (drop (i + 1) bs)
  unfolding step step_want step_letter is_blank is_digit
  fork_there c i h e o = advance_at (want c) (word 111 (114 ∷ 107 ∷ []) (want (forked c))) i 102 h e (rw (lt-ltb (opens_t c) most_open o))

  pub fork_over : (c : TermIn process) (i : ℕ) → i < length bs → get_or bs i 0 ≡ 102 → most_open ≤ opens_t c → read_from (want c) (drop i bs) ≡ fails (length bs - i)
  unfolding step step_want step_letter is_blank is_digit
  fork_over c i h e o = halt (want c) i h (ap (step_want c) e ∙ rw (le-ltb (opens_t c) most_open o))

  pub begun_there : (c : TermIn process) (i : ℕ) → i < length bs → get_or bs i 0 ≡ 97 → opens_t c + 1 < most_open → read_from (want c) (drop i bs) ≡ read_from (word 116 (111 ∷ 109 ∷ 105 ∷ 99 ∷ []) (unopened c)) (drop (i + 1) bs)
  unfolding step step_want step_letter is_blank is_digit
  begun_there c i h e o = advance_at (want c) (word 116 (111 ∷ 109 ∷ 105 ∷ 99 ∷ []) (unopened c)) i 97 h e (rw (lt-ltb (opens_t c + 1) most_open o))

  pub begun_over : (c : TermIn process) (i : ℕ) → i < length bs → get_or bs i 0 ≡ 97 → most_open ≤ opens_t c + 1 → read_from (want c) (drop i bs) ≡ fails (length bs - i)
  unfolding step step_want step_letter is_blank is_digit
  begun_over c i h e o = halt (want c) i h (ap (step_want c) e ∙ rw (le-ltb (opens_t c + 1) most_open o))

  pub opened_there : (c : TermIn process) (i : ℕ) → i < length bs → get_or bs i 0 ≡ 40 → read_from (unopened c) (drop i bs) ≡ read_from (want (first (atomic c))) (drop (i + 1) bs)
  unfolding step is_blank
  opened_there c i h e = advance_at (unopened c) (want (first (atomic c))) i 40 h e refl

  pub unopened_fails : (c : TermIn process) (i : ℕ) → i ≤ length bs → (i < length bs → is_blank (get_or bs i 0) ≡ false) → (i < length bs → eqb (get_or bs i 0) 40 ≡ false) → read_from (unopened c) (drop i bs) ≡ fails (length bs - i)
  unfolding step finish
  unopened_fails c i h b e = fails_on (unopened c) i h (λ l. rw (b l, e l)) refl

  -- a byte with which no term begins
  pub no_process : (c : TermIn process) (i : ℕ) → i < length bs → is_blank (get_or bs i 0) ≡ false → is_digit (get_or bs i 0) ≡ false → eqb (get_or bs i 0) 45 ≡ false → eqb (get_or bs i 0) 40 ≡ false → eqb (get_or bs i 0) 102 ≡ false → eqb (get_or bs i 0) 97 ≡ false → read_from (want c) (drop i bs) ≡ fails (length bs - i)
  unfolding step step_want step_letter
  no_process c i h b d m o f a = halt (want c) i h (rw (b, d, m, o, f, a))

  pub no_transaction : (c : TermIn transaction) (i : ℕ) → i < length bs → is_blank (get_or bs i 0) ≡ false → is_digit (get_or bs i 0) ≡ false → eqb (get_or bs i 0) 45 ≡ false → eqb (get_or bs i 0) 40 ≡ false → eqb (get_or bs i 0) 114 ≡ false → read_from (want c) (drop i bs) ≡ fails (length bs - i)
  unfolding step step_want step_letter
  no_transaction c i h b d m o r = halt (want c) i h (rw (b, d, m, o, r))

  -- ---- a first register and `:=`
  colon_there : (v : ℕ) (c : SumIn transaction) (j i : ℕ) → i < length bs → get_or bs i 0 ≡ 58 → opens_s c < most_open → (x : State) → (x ≡ registered v c) ⊎ ((x ≡ register v (first c)) × (j ≡ i)) → read_from x (drop i bs) ≡ read_from (word 61 [] (want (first (write v c)))) (drop (i + 1) bs)
  unfolding step step_registered behind_register is_blank is_digit
  colon_there v c j i h e o x w =
      ⊎_elim
      (λ z. ap (λ (x : State). read_from x (drop i bs)) z ∙ advance_at (registered v c) (word 61 [] (want (first (write v c)))) i 58 h e (rw (lt-ltb (opens_s c) most_open o)))
      (λ z. ap (λ (x : State). read_from x (drop i bs)) z.0 ∙ advance_at (register v (first c)) (word 61 [] (want (first (write v c)))) i 58 h e (rw (lt-ltb (opens_s c) most_open o)))
      w

  colon_over : (v : ℕ) (c : SumIn transaction) (j i : ℕ) → i < length bs → get_or bs i 0 ≡ 58 → most_open ≤ opens_s c → (x : State) → (x ≡ registered v c) ⊎ ((x ≡ register v (first c)) × (j ≡ i)) → read_from x (drop i bs) ≡ fails (length bs - i)
  unfolding step step_registered behind_register is_blank is_digit
  colon_over v c j i h e o x w =
      ⊎_elim
      (λ z. ap (λ (x : State). read_from x (drop i bs)) z ∙ halt (registered v c) i h (ap (step_registered v c) e ∙ rw (le-ltb (opens_s c) most_open o)))
      (λ z. ap (λ (x : State). read_from x (drop i bs)) z.0 ∙ halt (register v (first c)) i h (ap (step (register v (first c))) e ∙ rw (le-ltb (opens_s c) most_open o)))
      w

  -- blanks behind a first register
  pub record Passed (v : ℕ) (c : SumIn transaction) (i j : ℕ) : Type 0 where
    pub state : State
    pub which : (state ≡ registered v c) ⊎ ((state ≡ register v (first c)) × (i ≡ j))
    pub runs : read_from (register v (first c)) (drop i bs) ≡ read_from state (drop j bs)

  pub register_blanks : (v : ℕ) (c : SumIn transaction) (i j : ℕ) → i ≤ j → j ≤ length bs → (i < j → is_blank (get_or bs i 0) ≡ true) → ((x : State) → ((b : ℕ) → is_blank b ≡ true → step x b ≡ on x) → read_from x (drop i bs) ≡ read_from x (drop j bs)) → Passed v c i j
  unfolding step step_registered behind_register
  register_blanks v c i j l w b r = go (dec_lt i j)
    where
      go : Dec (i < j) → Passed v c i j
      go (yes h) = record { state = registered v c; which = inl refl; runs = same_step (register v (first c)) (registered v c) i (omega arith) (rw (blank_no_digit (get_or bs i 0) (b h), b h)) ∙ r (registered v c) (registered_stays v c) }
      go (no h) = let e : i ≡ j = omega arith in record { state = register v (first c); which = inr (refl, e); runs = ap (λ (n : ℕ). read_from (register v (first c)) (drop n bs)) e }

  -- the whole of a write's target, from its `r` on
  module _ (v : ℕ) (c : SumIn transaction) (at from mid colon : ℕ) (h : at < length bs) (e : get_or bs at 0 ≡ 114) (f : from ≡ at + 1) (l : from < mid) (w : mid ≤ length bs) (k : Digits 0 v (drop from bs) (drop mid bs)) (m : v ≤ most_register) (p : Passed v c mid colon) (q : colon < length bs) (g : get_or bs colon 0 ≡ 58) where
    to_colon : read_from (want (first c)) (drop at bs) ≡ read_from p.state (drop colon bs)
    to_colon = letter_there (first c) at h e ∙ (ap (λ (n : ℕ). read_from (letter_r (first c)) (drop n bs)) (sym f) ∙ (letter_run (first c) v from mid l w k m ∙ p.runs))

    pub target_over : most_open ≤ opens_s c → read_from (want (first c)) (drop at bs) ≡ fails (length bs - colon)
    target_over o = to_colon ∙ colon_over v c mid colon q g o p.state p.which

    pub target_half : opens_s c < most_open → (colon + 1 < length bs → get_or bs (colon + 1) 0 ≡ 61 → ⊥) → read_from (want (first c)) (drop at bs) ≡ fails (length bs - (colon + 1))
    target_half o n = to_colon ∙ (colon_there v c mid colon q g o p.state p.which ∙ no_letter 61 [] (want (first (write v c))) (colon + 1) (omega arith) n)

    pub target_read : opens_s c < most_open → colon + 1 < length bs → get_or bs (colon + 1) 0 ≡ 61 → read_from (want (first c)) (drop at bs) ≡ read_from (want (first (write v c))) (drop (colon + 1 + 1) bs)
    unfolding spelling
    target_read o n z = to_colon ∙ (colon_there v c mid colon q g o p.state p.which ∙ one_letter 61 [] (want (first (write v c))) (colon + 1) n z)

  -- no `:` stands there
  pub no_colon : (v : ℕ) (c : SumIn transaction) (j i : ℕ) (p : Passed v c j i) → (j < length bs → is_digit (get_or bs j 0) ≡ false) → (i < length bs → is_blank (get_or bs i 0) ≡ false) → (i < length bs → eqb (get_or bs i 0) 58 ≡ false) → read_from p.state (drop i bs) ≡ read_from (after (Read v) c) (drop i bs)
  unfolding step finish step_registered behind_register grown sum_in
  no_colon v c j i p d b n = ⊎_elim one two p.which
    where
      one : p.state ≡ registered v c → read_from p.state (drop i bs) ≡ read_from (after (Read v) c) (drop i bs)
      one z = ap (λ (x : State). read_from x (drop i bs)) z ∙ same_on (registered v c) (after (Read v) c) i (λ l. rw (b l, n l)) refl

      two : (p.state ≡ register v (first c)) × (j ≡ i) → read_from p.state (drop i bs) ≡ read_from (after (Read v) c) (drop i bs)
      two z =
          let m : i < length bs → is_digit (get_or bs i 0) ≡ false = subst (λ (k : ℕ). k < length bs → is_digit (get_or bs k 0) ≡ false) z.1 d in
          ap (λ (x : State). read_from x (drop i bs)) z.0 ∙ same_on (register v (first c)) (after (Read v) c) i (λ l. rw (m l) (rw (b l, n l))) refl
