-- What is written to the front of an output, at a place of it and in front of a part of it, and parts that are moved on. Assumes nothing.
use Prim.Native.Nat.{ℕ, ◌+◌, ◌-◌, ◌≤◌, ◌<◌}
use mathlib.Core.Bool.{Bool, true, false, cond, ◌||◌}
use mathlib.Core.Path.{◌≡◌, refl, sym, ap, ◌∙◌}
use mathlib.Core.List.{List, [], ◌++◌, append_assoc}
use native.Mathlib.Omega.{arith}
use borrow.Author.Tests.{le-ltb, lt-ltb}
use lib.Dec.{ltb}
use lib.ListN.{length, drop, take, length-append, length-drop, take-append-drop}
use lib.Seq.{drop-drop, drop_at, take_at, take-append-le, take-take, drop-append-add, length-take-le, paste}
use Rattle.delivery.specs.Delivered.{onto}
use Rattle.delivery.specs.InnerPlaces.{placed_at, shifted, moved, inserted}

pub onto_length : (xs ys : List ℕ) → length xs ≤ length ys → length (onto xs ys) ≡ length ys
onto_length xs ys h = simp (length-append, length-drop) (omega arith)

-- what lies behind the front, seen from within
pub behind : (a before : List ℕ) (n : ℕ) → drop (length a + n) (onto a before) ≡ drop (length a + n) before
behind a before n = drop-append-add a (drop (length a) before) n ∙ drop-drop n (length a) before

-- behind what stands at the front
pub placed_onto : (n : ℕ) (ys cs xs : List ℕ) → n ≡ length cs → placed_at n ys (onto cs xs) ≡ onto (cs ++ ys) xs
placed_onto n ys cs xs e =
    rw (e, take_at cs (drop (length cs) xs) (length cs) refl, behind cs xs (length ys), append_assoc cs ys, length-append cs ys)

-- in front of what stands at a place
pub onto_placed : (n : ℕ) (hs cs xs : List ℕ) → n ≡ length hs → n ≤ length xs → onto hs (placed_at n cs xs) ≡ onto (hs ++ cs) xs
onto_placed n hs cs xs e h =
    let d : drop (length hs) (placed_at n cs xs) ≡ cs ++ drop (n + length cs) xs = drop_at (take n xs) (cs ++ drop (n + length cs) xs) (length hs) (length-take-le n xs h ∙ e) in
    rw (d, length-append hs cs, e) (simp append_assoc)

-- behind what stands at a place
pub placed_placed : (i n : ℕ) (xs ys l : List ℕ) → n ≡ i + length xs → n + length ys ≤ length l → placed_at n ys (placed_at i xs l) ≡ placed_at i (xs ++ ys) l
placed_placed i n xs ys l e h =
    let b : n ≡ length (take i l ++ xs) = omega (arith, length-take-le i l (omega arith), length-append (take i l) xs) in
    let f : placed_at i xs l ≡ (take i l ++ xs) ++ drop (i + length xs) l = sym (append_assoc (take i l) xs (drop (i + length xs) l)) in
    let g : take n ((take i l ++ xs) ++ drop (i + length xs) l) ≡ take i l ++ xs = take_at (take i l ++ xs) (drop (i + length xs) l) n (sym b) in
    let m : n + length ys ≡ length (take i l ++ xs) + length ys = omega arith in
    let k : drop (n + length ys) ((take i l ++ xs) ++ drop (i + length xs) l) ≡ drop (i + length xs + length ys) l = rw m (drop-append-add (take i l ++ xs) (drop (i + length xs) l) (length ys) ∙ drop-drop (length ys) (i + length xs) l) in
    let q : i + length xs + length ys ≡ i + length (xs ++ ys) = omega (arith, length-append xs ys) in
    rw (f, g, k, q) (append_assoc (take i l) xs (ys ++ drop (i + length (xs ++ ys)) l) ∙ ap (λ (r : List ℕ). take i l ++ r) (sym (append_assoc xs ys (drop (i + length (xs ++ ys)) l))))

-- in place of the last bytes of a front part
placed_behind : (bs xs r : List ℕ) (i : ℕ) → i + length bs ≤ length xs → placed_at i bs (take (i + length bs) xs ++ r) ≡ take i xs ++ (bs ++ r)
placed_behind bs xs r i h =
    let n : length (take (i + length bs) xs) ≡ i + length bs = length-take-le (i + length bs) xs h in
    let front : take i (take (i + length bs) xs ++ r) ≡ take i xs = take-append-le i (take (i + length bs) xs) r (omega arith) ∙ take-take i (i + length bs) xs (omega arith) in
    let last : drop (i + length bs) (take (i + length bs) xs ++ r) ≡ r = drop_at (take (i + length bs) xs) r (i + length bs) n in
    rw (front, last)

-- over what stands at the front
pub onto_onto : (a b before : List ℕ) → onto (a ++ b) (onto a before) ≡ onto (a ++ b) before
onto_onto a b before = rw (length-append a b, behind a before (length b))

-- ---- a part moved on

pub moved_fits : (i e by : ℕ) (xs : List ℕ) → i ≤ e → e + by ≤ length xs → moved i e by xs ≡ shifted i e by xs
unfolding moved
moved_fits i e by xs p q = rw (le-ltb e i p, le-ltb (length xs) (e + by) q)

-- std's copy within a list is such a move
pub moved_within : (i e by : ℕ) (xs : List ℕ) → i ≤ e → e + by ≤ length xs → paste xs (i + by) (drop i xs) (e - i) ≡ moved i e by xs
unfolding shifted
moved_within i e by xs p q =
    let n : i + by + (e - i) ≡ e + by = omega arith in
    append_assoc (take (i + by) xs) (take (e - i) (drop i xs)) (drop (i + by + (e - i)) xs) ∙ ap (λ (k : ℕ). take (i + by) xs ++ (take (e - i) (drop i xs) ++ drop k xs)) n ∙ sym (moved_fits i e by xs p q)

pub moved_none : (i e by : ℕ) (xs : List ℕ) → e < i → xs ≡ moved i e by xs
unfolding moved
moved_none i e by xs p = rw (lt-ltb e i p)

pub moved_out : (i e by : ℕ) (xs : List ℕ) → length xs < e + by → xs ≡ moved i e by xs
unfolding moved
moved_out i e by xs q = rw (lt-ltb (length xs) (e + by) q) (either (ltb e i))
  where
    either : (b : Bool) → xs ≡ cond (b || true) xs (shifted i e by xs)
    either true = refl
    either false = refl

-- ---- bytes put in front of a part

-- they are put where the part was
pub placed_moved : (i e : ℕ) (bs xs : List ℕ) → i ≤ e → e + length bs ≤ length xs → placed_at i bs (moved i e (length bs) xs) ≡ inserted i e bs xs
unfolding shifted inserted
placed_moved i e bs xs p q =
    ap (placed_at i bs) (moved_fits i e (length bs) xs p q) ∙ placed_behind bs xs (take (e - i) (drop i xs) ++ drop (e + length bs) xs) i (omega arith)

-- none
pub inserted_none : (i e : ℕ) (xs : List ℕ) → i ≤ e → inserted i e [] xs ≡ xs
unfolding inserted
inserted_none i e xs h =
    let z : e + 0 ≡ i + (e - i) = omega arith in
    let d : drop (i + (e - i)) xs ≡ drop (e - i) (drop i xs) = sym (drop-drop (e - i) i xs) in
    rw (z, d, take-append-drop (e - i) (drop i xs)) (take-append-drop i xs)

-- the part being what stands at a place
pub inserted_placed : (i e : ℕ) (xs ys l : List ℕ) → e ≡ i + length ys → i ≤ length l → inserted i e xs (placed_at i ys l) ≡ placed_at i (xs ++ ys) l
unfolding inserted
inserted_placed i e xs ys l z h =
    let a : length (take i l) ≡ i = length-take-le i l h in
    let f : take i (placed_at i ys l) ≡ take i l = take_at (take i l) (ys ++ drop (i + length ys) l) i a in
    let g : drop i (placed_at i ys l) ≡ ys ++ drop (i + length ys) l = drop_at (take i l) (ys ++ drop (i + length ys) l) i a in
    let m : e - i ≡ length ys = omega arith in
    let k : take (length ys) (ys ++ drop (i + length ys) l) ≡ ys = take_at ys (drop (i + length ys) l) (length ys) refl in
    let n : e + length xs ≡ length (take i l ++ ys) + length xs = omega (arith, length-append (take i l) ys) in
    let q : drop (e + length xs) (placed_at i ys l) ≡ drop (i + length ys + length xs) l = rw (n, sym (append_assoc (take i l) ys (drop (i + length ys) l))) (drop-append-add (take i l ++ ys) (drop (i + length ys) l) (length xs) ∙ drop-drop (length xs) (i + length ys) l) in
    let r : i + length ys + length xs ≡ i + length (xs ++ ys) = omega (arith, length-append xs ys) in
    rw (f, g, m, k, q, r) (ap (λ (w : List ℕ). take i l ++ w) (sym (append_assoc xs ys (drop (i + length (xs ++ ys)) l))))

-- the part being the end of what stands at the front
pub inserted_onto : (a m bs before : List ℕ) (i e : ℕ) → i ≡ length a → e ≡ length a + length m → inserted i e bs (onto (a ++ m) before) ≡ onto (a ++ (bs ++ m)) before
inserted_onto a m bs before i e p q =
    let h : i ≤ length (onto a before) = omega (arith, length-append a (drop (length a) before)) in
    ap (inserted i e bs) (sym (placed_onto i m a before p)) ∙ inserted_placed i e bs m (onto a before) (omega arith) h ∙ placed_onto i (bs ++ m) a before p
