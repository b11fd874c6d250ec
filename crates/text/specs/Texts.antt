-- Texts as lists of bytes: their parts, and the numbers that they spell.
use Rattle.std.specs.Prelude.{ℕ, zero, suc, ◌+◌, ◌-◌, ◌*◌, Bool, true, false, cond, not, ◌&&◌, ◌||◌, List, [], ◌∷◌, length, replicate, Option, Some, None, ℤ, pos, negsuc, neg_ℤ, ◌==◌, nat_lt}
use Rattle.std.specs.List.{list_all, position_or_len, before_first, after_first}
use Rattle.std.specs.Char.{is_ascii_lowercase}
use Rattle.text.specs.declared.Number.{Number}
use Rattle.text.specs.declared.Refused.{Refused}

-- so many bytes, each 0
unfoldable pub zeros : ℕ → List ℕ
zeros n = replicate n 0

-- the first place of the byte in the text, or the text's length
abbrev pub place : ℕ → List ℕ → ℕ
place byte text = position_or_len (λ x. x == byte) text

-- what stands before the first such byte, or all of the text
abbrev pub ahead : ℕ → List ℕ → List ℕ
ahead byte text = before_first (λ x. x == byte) text

-- what stands behind the first such byte, or nothing
abbrev pub after : ℕ → List ℕ → List ℕ
after byte text = after_first (λ x. x == byte) text

-- part k, counted from 0, of a text whose parts stand between such bytes
abbrev pub piece : ℕ → ℕ → List ℕ → List ℕ
piece byte zero text = ahead byte text
piece byte (suc k) text = piece byte k (after byte text)

-- whether a line is to be run: not an empty one, and not one that starts with '#'
abbrev pub said : List ℕ → Bool
said [] = false
said (x ∷ xs) = not (x == 35)

-- whether the byte is a decimal digit, and the number has room for it behind, below 2 ^ 64
abbrev pub decimal : ℕ → ℕ → Bool
decimal value byte = (nat_lt 47 byte && nat_lt byte 58) && nat_lt (value * 10 + (byte - 48)) 18446744073709551616

-- the number that the digits behind `value` make of it; none where a byte is no digit or has no room
abbrev pub onward : ℕ → List ℕ → Option ℕ
onward value [] = Some value
onward value (x ∷ xs) = cond (decimal value x) (onward (value * 10 + (x - 48)) xs) None

-- the number that the text spells in decimal digits, one at least
abbrev pub digits_of : List ℕ → Option ℕ
digits_of [] = None
digits_of (x ∷ xs) = onward 0 (x ∷ xs)

-- a number with its sign, if it is one
abbrev pub with_sign : Bool → Option ℕ → Option Number
with_sign minus None = None
with_sign minus (Some value) = Some (record { minus = minus; value = value })

-- the number that the text spells in decimal digits, maybe with a minus in front
abbrev pub spelled : List ℕ → Option Number
spelled [] = None
spelled (x ∷ xs) = cond (x == 45) (with_sign true (digits_of xs)) (with_sign false (digits_of (x ∷ xs)))

-- the number as a size, if it is one up to `most`
abbrev pub size_of : Option Number → ℕ → Option ℕ
size_of None most = None
size_of (Some n) most = cond (n.minus || nat_lt most n.value) None (Some n.value)

-- the number of 32 bits that a number with its sign is, the nearest one if it is outside
abbrev pub nearest : Number → ℤ
nearest n = cond (nat_lt 2147483647 n.value) (cond n.minus (negsuc 2147483647) (pos 2147483647)) (cond n.minus (neg_ℤ (pos n.value)) (pos n.value))

-- the number of 32 bits from 0 up that a number with its sign is, the nearest one if it is outside
abbrev pub nearest_up : Number → ℕ
nearest_up n = cond n.minus 0 (cond (nat_lt 4294967295 n.value) 4294967295 n.value)

-- whether the text is a word: 1 to 12 small letters
abbrev pub is_word : List ℕ → Bool
is_word text = nat_lt 0 (length text) && (nat_lt (length text) 13 && list_all is_ascii_lowercase text)

-- the refusal with this number; 0 is none
abbrev pub told : (number place : ℕ) → Option Refused
told zero place = None
told (suc n) place = Some (record { number = suc n; place = place })
