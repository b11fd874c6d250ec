-- Document 02 No. 3's test: which trees it turns down, and where. Assumes nothing.
use Prim.Native.Nat.{ℕ, suc, ◌+◌, ◌≤◌, ◌<◌}
use mathlib.Core.Path.{◌≡◌, refl, sym, ap, subst, ◌∙◌}
use mathlib.Core.List.{List, [], ◌∷◌, ◌++◌, append_assoc, append-nil}
use native.Mathlib.Decide.{dec_lt}
use native.Mathlib.Omega.{arith}
use lib.Dec.{ltb}
use lib.ListN.{length, length-append}
use borrow.Author.Tests.{lt-ltb, le-ltb}
use Rattle.script.specs.Tree.{Tran, Proc, ValP, AddP, Atomic, Fork}
use Rattle.script.specs.Count.{nodes_t, longest_nodes}
use Rattle.script.specs.Bytes.{node_bytes, bytes_p}
use Rattle.script.specs.Outcome.{Outcome, refused, done, refuse, onward}
use Rattle.script.specs.Reader.{short_from}
use Rattle.script.specs.Refusal.{AtomicAt, itself, in_left, in_right, in_child, FirstLong}

-- ---- `longest_nodes` is the greatest of the ATOMICs' that stand in the tree

pub atomic_most : {t : Tran} {p : Proc} {i : ℕ} → AtomicAt t p i → nodes_t t ≤ longest_nodes p
unfolding longest_nodes
atomic_most itself = omega arith
atomic_most (in_left a) = omega (arith, atomic_most a)
atomic_most (in_right a) = omega (arith, atomic_most a)
atomic_most (in_child a) = atomic_most a

pub atomics_short : (n : ℕ) (p : Proc) → ((t : Tran) (i : ℕ) → AtomicAt t p i → nodes_t t ≤ n) → longest_nodes p ≤ n
unfolding longest_nodes
atomics_short n (ValP z) all = omega arith
atomics_short n (AddP a b) all =
    omega (arith, atomics_short n a (λ t i s. all t (1 + i) (in_left s)), atomics_short n b (λ t i s. all t (1 + length (bytes_p a) + i) (in_right s)))
atomics_short n (Atomic t) all = all t 0 itself
atomics_short n (Fork p) all = atomics_short n p (λ t i s. all t (1 + i) (in_child s))

-- ---- where an ATOMIC is said to stand, there stand its bytes

pub record Stands (text : List ℕ) (i : ℕ) (whole : List ℕ) : Type 0 where
  pub before : List ℕ
  pub behind : List ℕ
  pub place : length before ≡ i
  pub whole_is : whole ≡ before ++ (text ++ behind)

stands_behind : (front : List ℕ) {text whole : List ℕ} {i : ℕ} → Stands text i whole → Stands text (length front + i) (front ++ whole)
stands_behind front {text} s =
    record {
      before = front ++ s.before;
      behind = s.behind;
      place = length-append front s.before ∙ ap (λ (n : ℕ). length front + n) s.place;
      whole_is = rw (s.whole_is, append_assoc front s.before (text ++ s.behind));
    }

stands_before : (back : List ℕ) {text whole : List ℕ} {i : ℕ} → Stands text i whole → Stands text i (whole ++ back)
stands_before back {text} s =
    record {
      before = s.before;
      behind = s.behind ++ back;
      place = s.place;
      whole_is = rw (s.whole_is, append_assoc s.before (text ++ s.behind) back, append_assoc text s.behind back);
    }

pub atomic_stands : {t : Tran} {p : Proc} {i : ℕ} → AtomicAt t p i → Stands (bytes_p (Atomic t)) i (bytes_p p)
unfolding bytes_p node_bytes
atomic_stands {t} itself = record { before = []; behind = []; place = refl; whole_is = sym (append-nil (bytes_p (Atomic t))) }
atomic_stands (in_left {a = a} {b = b} s) = stands_behind (2 ∷ []) (stands_before (bytes_p b) (atomic_stands s))
atomic_stands {t} (in_right {a = a} {b = b} {i = i} s) =
    let e : length (2 ∷ bytes_p a) + i ≡ 1 + length (bytes_p a) + i = omega arith in
    subst (λ (n : ℕ). Stands (bytes_p (Atomic t)) n (bytes_p (AddP a b))) e (stands_behind (2 ∷ bytes_p a) (atomic_stands s))
atomic_stands (in_child s) = stands_behind (4 ∷ []) (atomic_stands s)

stands_within : {t : Tran} {p : Proc} {i : ℕ} → AtomicAt t p i → i < length (bytes_p p)
unfolding bytes_p node_bytes
stands_within {t} {p} {i} s =
    let w = atomic_stands s in
    rw (w.whole_is, length-append w.before (bytes_p (Atomic t) ++ w.behind)) (omega (arith, w.place))

-- ---- what the test comes to

pub data Judged (place : ℕ) (p : Proc) : Outcome (Unit {0}) → Type 0 where
  short : longest_nodes p ≤ 200 → Judged place p (done tt)
  long : {i at : ℕ} → FirstLong p i → at ≡ place + i → Judged place p (refused 14 at)

-- of a sum: the left part's first one, else the right part's
sum_judged : (place : ℕ) (a b : Proc) (o r : Outcome (Unit {0})) → Judged (suc place) a o → Judged (suc place + length (bytes_p a)) b r → Judged place (AddP a b) (onward o (λ _. r))
unfolding longest_nodes
sum_judged place a b o r (long {i = i} {at = at} f e) right =
    long {at = at} (record { body = f.body; stands = in_left f.stands; long = f.long; first = first }) (omega (arith, e))
  where
    first : (t : Tran) (k : ℕ) → AtomicAt t (AddP a b) k → 200 < nodes_t t → 1 + i ≤ k
    first t _ (in_left {i = k} s) l = omega (arith, f.first t k s l)
    first t _ (in_right {i = k} s) l = omega (arith, stands_within f.stands)
sum_judged place a b o r (short h) (long {i = i} {at = at} f e) =
    long {at = at} (record { body = f.body; stands = in_right f.stands; long = f.long; first = first }) (omega (arith, e))
  where
    first : (t : Tran) (k : ℕ) → AtomicAt t (AddP a b) k → 200 < nodes_t t → 1 + length (bytes_p a) + i ≤ k
    first t _ (in_left s) l = absurd (omega (arith, atomic_most s))
    first t _ (in_right {i = k} s) l = omega (arith, f.first t k s l)
sum_judged place a b o r (short h) (short l) = short (omega arith)

fork_judged : (place : ℕ) (p : Proc) (o : Outcome (Unit {0})) → Judged (suc place) p o → Judged place (Fork p) o
unfolding longest_nodes
fork_judged place p o (short h) = short h
fork_judged place p o (long {i = i} {at = at} f e) =
    long {at = at} (record { body = f.body; stands = in_child f.stands; long = f.long; first = first }) (omega (arith, e))
  where
    first : (t : Tran) (k : ℕ) → AtomicAt t (Fork p) k → 200 < nodes_t t → 1 + i ≤ k
    first t _ (in_child {i = k} s) l = omega (arith, f.first t k s l)

atomic_judged : (place : ℕ) (t : Tran) → Dec (200 < nodes_t t) → Judged place (Atomic t) (refuse (ltb 200 (nodes_t t)) 14 place (done tt))
unfolding longest_nodes
atomic_judged place t (yes l) =
    rw (lt-ltb 200 (nodes_t t) l) (long {at = place} (record { body = t; stands = itself; long = l; first = λ t k s l. omega arith }) (omega arith))
atomic_judged place t (no h) = rw (le-ltb 200 (nodes_t t) (omega arith)) (short (omega arith))

-- a tree is within the limit, or has a first ATOMIC that is not
pub judged : (place : ℕ) (p : Proc) → Judged place p (short_from place p)
unfolding short_from longest_nodes
judged place (ValP n) = short (omega arith)
judged place (AddP a b) = sum_judged place a b (short_from (suc place) a) (short_from (suc place + length (bytes_p a)) b) (judged (suc place) a) (judged (suc place + length (bytes_p a)) b)
judged place (Atomic t) = atomic_judged place t (dec_lt 200 (nodes_t t))
judged place (Fork p) = fork_judged place p (short_from (suc place) p) (judged (suc place) p)

-- not both
pub not_both : {p : Proc} {i : ℕ} → FirstLong p i → longest_nodes p ≤ 200 → ⊥
not_both f h = absurd (omega (arith, atomic_most f.stands, f.long))

-- and there is one first
pub first_same : {p : Proc} {i k : ℕ} → FirstLong p i → FirstLong p k → i ≡ k
first_same {i = i} {k = k} f g = omega (arith, f.first g.body k g.stands g.long, g.first f.body i f.stands f.long)

-- the test passes exactly the trees within the limit
pub short_passes : (place : ℕ) (p : Proc) → longest_nodes p ≤ 200 → short_from place p ≡ done tt
short_passes place p h = go (short_from place p) (judged place p)
  where
    go : (o : Outcome (Unit {0})) → Judged place p o → o ≡ done tt
    go _ (short l) = refl
    go _ (long f e) = absurd (not_both f h)

pub passes_short : (place : ℕ) (p : Proc) (o : Outcome (Unit {0})) → Judged place p o → o ≡ done tt → longest_nodes p ≤ 200
passes_short place p o (short h) e = h
passes_short place p o (long f l) e = absurd (let z : ◌≡◌ {A = ℕ} 0 1 = cc in omega arith)

-- and it turns down the others, at the first ATOMIC concerned
pub long_fails : (place : ℕ) (p : Proc) (i : ℕ) → FirstLong p i → short_from place p ≡ refused 14 (place + i)
long_fails place p i f = go (short_from place p) (judged place p)
  where
    go : (o : Outcome (Unit {0})) → Judged place p o → o ≡ refused 14 (place + i)
    go _ (short h) = absurd (not_both f h)
    go _ (long g e) = ap (refused 14) (e ∙ ap (λ (n : ℕ). place + n) (first_same g f))
