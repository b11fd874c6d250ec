-- What the functions' answers are put together from. Assumes nothing.
use Prim.Native.Nat.{ℕ, ◌+◌, ◌*◌, ◌-◌, ◌≤◌, ◌<◌}
use mathlib.Core.Path.{◌≡◌, refl, sym, ap, ◌∙◌}
use mathlib.Core.Bool.{Bool, true, false, cond}
use mathlib.Core.Logic.{inl, inr}
use Rattle.std.specs.Prelude.{Result, Ok, Err}
use Rattle.std.specs.Result.{IsErrAnd}
use mathlib.Core.List.{List}
use native.Mathlib.Omega.{arith}
use native.Mathlib.Decide.{dec_lt}
use lib.Dec.{eqb, ltb}
use lib.ListN.{length, drop, get_or}
use borrow.Author.Tests.{lt-ltb, eq-eqb, ne_eqb, ltb-true, eqb-true, eqb-false}
use Rattle.script.proofs.Accepts.{both}
use Rattle.grammar.specs.Grammar.{is_blank, is_digit, Digits}
use Rattle.grammar.specs.Reader.{State, read_from}
use Rattle.grammar.proofs.Places.{advance, digits_more}
use Rattle.grammar.proofs.Complete as G
use Rattle.parsing.specs.InnerParsing.{is_at, Stays, Skipped, Scanning, NoDigit, ScannedTo}

-- ---- a byte that stands there
pub is_at_lem : (bs : List ℕ) (i b : ℕ) → i < length bs → get_or bs i 0 ≡ b → is_at bs i b ≡ true
unfolding is_at
is_at_lem bs i b h e = rw (lt-ltb _ _ h, eq-eqb _ _ e)

pub not_at : (bs : List ℕ) (i b : ℕ) → i < length bs → (get_or bs i 0 ≡ b → ⊥) → is_at bs i b ≡ false
unfolding is_at
not_at bs i b h e = rw (lt-ltb _ _ h, ne_eqb _ _ e)

pub there : (bs : List ℕ) (i b : ℕ) → is_at bs i b ≡ true → (i < length bs) × (get_or bs i 0 ≡ b)
unfolding is_at
there bs i b e = let h = both (ltb i (length bs)) (eqb (get_or bs i 0) b) e in (ltb-true _ _ h.0, eqb-true _ _ h.1)

pub elsewhere : (bs : List ℕ) (i b : ℕ) → is_at bs i b ≡ false → i < length bs → get_or bs i 0 ≡ b → ⊥
elsewhere bs i b e h g = let z : true ≡ false = sym (is_at_lem bs i b h g) ∙ e in cc

-- ---- a failure that is handed on
pub err_as : {A E : Type 0} (r : Result A E) (e : E) → IsErrAnd r (λ y. y ≡ e) → r ≡ Err e
err_as (Ok x) e h = absurd h
err_as (Err y) e h = ap Err h

-- ---- blanks
pub record Skipping (bs : List ℕ) (from next : ℕ) : Type 0 where
  pub ahead : from ≤ next
  pub within : next ≤ length bs
  pub runs : (x : State) → Stays x → read_from x (drop from bs) ≡ read_from x (drop next bs)
  pub blank : from < next → is_blank (get_or bs from 0) ≡ true

pub skip_more : (bs : List ℕ) (from i : ℕ) → Skipping bs from i → i < length bs → is_blank (get_or bs i 0) ≡ true → Skipping bs from (i + 1)
skip_more bs from i k h e =
    record {
      ahead = omega (arith, k.ahead);
      within = omega arith;
      runs = λ x s. k.runs x s ∙ advance bs x x i h (s (get_or bs i 0) e);
      blank = λ _. first (dec_lt from i);
    }
  where
    first : Dec (from < i) → is_blank (get_or bs from 0) ≡ true
    first (yes l) = k.blank l
    first (no l) = let z : from ≡ i = omega (arith, k.ahead) in ap (λ (n : ℕ). is_blank (get_or bs n 0)) z ∙ e

pub skip_done : (bs : List ℕ) (from i : ℕ) → Skipping bs from i → (i < length bs → is_blank (get_or bs i 0) ≡ false) → Skipped bs from i
skip_done bs from i k h = record { ahead = k.ahead; within = k.within; runs = k.runs; blank = k.blank; stopped = h }

-- ---- digits
-- where no digit follows, all of them were read, or there is none
pub scan_end : (bs : List ℕ) (from most i value : ℕ) → Scanning bs from most i value → NoDigit bs i → ScannedTo bs from most (cond (eqb i from) (Err i) (Ok (record { at = i; value = value })))
scan_end bs from most i value k h = go (eqb i from) refl
  where
    go : (b : Bool) → eqb i from ≡ b → ScannedTo bs from most (cond b (Err i) (Ok (record { at = i; value = value })))
    go true e = (value, k, inl (eqb-true i from e, h))
    go false e = let n = eqb-false i from e in (k, omega (arith, k.ahead), h)

-- a digit that makes the number too large
pub scan_over : (bs : List ℕ) (from most i value : ℕ) → Scanning bs from most i value → i < length bs → is_digit (get_or bs i 0) ≡ true → most < value * 10 + (get_or bs i 0 - 48) → ScannedTo bs from most (Err i)
scan_over bs from most i value k h e l = (value, k, inr (h, e, l))

pub scan_start : (bs : List ℕ) (from most : ℕ) → from ≤ length bs → Scanning bs from most from 0
scan_start bs from most h = record { ahead = omega arith; within = h; digits = Digits.none; small = omega arith }

pub scan_more : (bs : List ℕ) (from most i value : ℕ) → Scanning bs from most i value → i < length bs → is_digit (get_or bs i 0) ≡ true → value * 10 + (get_or bs i 0 - 48) ≤ most → Scanning bs from most (i + 1) (value * 10 + (get_or bs i 0 - 48))
scan_more bs from most i value k h e l =
    record { ahead = omega (arith, k.ahead); within = omega arith; digits = digits_more bs value i from k.digits h e; small = l }

pub digit_low : (b : ℕ) → is_digit b ≡ true → (48 ≤ b) × (b ≤ 57)
digit_low b e = G.digit_low b e
