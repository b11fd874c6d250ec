-- For the proofs of functions that write to a lent output only: bytes at a place of it, a part of it moved on, bytes put in front of a part.
use Rattle.std.specs.Prelude.{ℕ, ◌+◌, ◌-◌, cond, ◌||◌, List, ◌++◌, ltb, length, take, drop}

-- these bytes at a place, instead of those that stood there
abbrev pub placed_at : (i : ℕ) (bytes before : List ℕ) → List ℕ
placed_at i bytes before = take i before ++ (bytes ++ drop (i + length bytes) before)

-- the part from i to e moved on
unfoldable pub shifted : (i e by : ℕ) → List ℕ → List ℕ
shifted i e by xs = take (i + by) xs ++ (take (e - i) (drop i xs) ++ drop (e + by) xs)

-- the same if there is such a part, and room for it; else the list as it was
unfoldable pub moved : (i e by : ℕ) → List ℕ → List ℕ
moved i e by xs = cond (ltb e i || ltb (length xs) (e + by)) xs (shifted i e by xs)

-- bytes put in front of the part from i to e
unfoldable pub inserted : (i e : ℕ) → List ℕ → List ℕ → List ℕ
inserted i e bs xs = take i xs ++ (bs ++ (take (e - i) (drop i xs) ++ drop (e + length bs) xs))
