-- A number of 64 bits as a set of registers: bit r says whether register r is in it.
use Rattle.std.specs.Prelude.{ℕ, ◌/◌, ◌%◌, ◌^◌, Bool, cond, ◌&&◌, List, eqb, ltb}
use Rattle.std.specs.Int.Bits.{bit_or}
use Rattle.std.specs.List.{filter, range_with_len}
use Rattle.word.specs.declared.Ascending.{Ascending}

-- the set with no register
unfoldable pub none : ℕ
none = 0

-- whether register r is in the set; no set has a register of 64 or above
unfoldable pub member : ℕ → ℕ → Bool
member set r = ltb r 64 && eqb (set / 2 ^ r % 2) 1

-- the set with register r besides; a register of 64 or above leaves it as it is
unfoldable pub with : ℕ → ℕ → ℕ
with set r = cond (ltb r 64) (bit_or set (2 ^ r)) set

-- the registers in the set, ascending: those of the 64 from 0 on that are in it
unfoldable pub members : ℕ → List ℕ
members set = filter (member set) (range_with_len 0 64)

-- what an iterator over a set has left
abbrev pub left : Ascending → List ℕ
left it = members it.set
