-- The bytes of a tree tell it, whatever stands behind them. Assumes nothing.
use Prim.Native.Nat.{ℕ}
use mathlib.Core.Path.{◌≡◌, sym, ap, ◌∙◌}
use mathlib.Core.List.{List, ◌++◌, append_assoc}
use native.Mathlib.Omega.{arith}
use lib.IntN.{ℤ}
use lib.ListN.{drop}
use Rattle.word.specs.Sum.{InRange, residue, signed}
use Rattle.script.specs.Bytes.{bytes32, node_bytes, bytes_t, bytes_p}
use Rattle.script.specs.Jobs.{number32}
use Rattle.script.specs.Limits.{ValuedT, ValuedP}
use Rattle.script.specs.Tree.{Tran, ValT, AddT, Read, Write, Proc, ValP, AddP, Atomic, Fork}
use Rattle.script.proofs.Numbers.{number_read}

same_number : (m n : ℤ) (r s : List ℕ) → InRange m → InRange n → bytes32 (residue m) ++ r ≡ bytes32 (residue n) ++ s → m ≡ n
same_number m n r s h k e = sym (number_read m h r) ∙ (ap (λ (l : List ℕ). signed (number32 l)) e ∙ number_read n k s)

same_tran : (t u : Tran) (r s : List ℕ) → ValuedT t → ValuedT u → bytes_t t ++ r ≡ bytes_t u ++ s → (t ≡ u) × (r ≡ s)
unfolding bytes_t node_bytes bytes32
same_tran (ValT n) (ValT m) r s h k e =
    let z : n ≡ m = same_number n m r s h k (ap (drop 1) e) in
    let y : r ≡ s = ap (drop 5) e in
    (ap ValT z, y)
same_tran (ValT n) (AddT c d) r s h k e = absurd (let z : ◌≡◌ {A = ℕ} 5 6 = cc in omega arith)
same_tran (ValT n) (Read w) r s h k e = absurd (let z : ◌≡◌ {A = ℕ} 5 7 = cc in omega arith)
same_tran (ValT n) (Write w u) r s h k e = absurd (let z : ◌≡◌ {A = ℕ} 5 8 = cc in omega arith)
same_tran (AddT a b) (ValT m) r s h k e = absurd (let z : ◌≡◌ {A = ℕ} 6 5 = cc in omega arith)
same_tran (AddT a b) (AddT c d) r s h k e =
    let z = same_tran a c (bytes_t b ++ r) (bytes_t d ++ s) h.0 k.0 (sym (append_assoc (bytes_t a) (bytes_t b) r) ∙ (ap (drop 1) e ∙ append_assoc (bytes_t c) (bytes_t d) s)) in
    let y = same_tran b d r s h.1 k.1 z.1 in
    (rw (z.0, y.0), y.1)
same_tran (AddT a b) (Read w) r s h k e = absurd (let z : ◌≡◌ {A = ℕ} 6 7 = cc in omega arith)
same_tran (AddT a b) (Write w u) r s h k e = absurd (let z : ◌≡◌ {A = ℕ} 6 8 = cc in omega arith)
same_tran (Read v) (ValT m) r s h k e = absurd (let z : ◌≡◌ {A = ℕ} 7 5 = cc in omega arith)
same_tran (Read v) (AddT c d) r s h k e = absurd (let z : ◌≡◌ {A = ℕ} 7 6 = cc in omega arith)
same_tran (Read v) (Read w) r s h k e =
    let z : v ≡ w = cc in
    (ap Read z, ap (drop 2) e)
same_tran (Read v) (Write w u) r s h k e = absurd (let z : ◌≡◌ {A = ℕ} 7 8 = cc in omega arith)
same_tran (Write v t) (ValT m) r s h k e = absurd (let z : ◌≡◌ {A = ℕ} 8 5 = cc in omega arith)
same_tran (Write v t) (AddT c d) r s h k e = absurd (let z : ◌≡◌ {A = ℕ} 8 6 = cc in omega arith)
same_tran (Write v t) (Read w) r s h k e = absurd (let z : ◌≡◌ {A = ℕ} 8 7 = cc in omega arith)
same_tran (Write v t) (Write w u) r s h k e =
    let z : v ≡ w = cc in
    let y = same_tran t u r s h.1 k.1 (ap (drop 2) e) in
    (rw (z, y.0), y.1)

-- two trees whose bytes begin one text are one
pub same_proc : (p q : Proc) (r s : List ℕ) → ValuedP p → ValuedP q → bytes_p p ++ r ≡ bytes_p q ++ s → (p ≡ q) × (r ≡ s)
unfolding bytes_p node_bytes bytes32
same_proc (ValP n) (ValP m) r s h k e =
    let z : n ≡ m = same_number n m r s h k (ap (drop 1) e) in
    let y : r ≡ s = ap (drop 5) e in
    (ap ValP z, y)
same_proc (ValP n) (AddP c d) r s h k e = absurd (let z : ◌≡◌ {A = ℕ} 1 2 = cc in omega arith)
same_proc (ValP n) (Atomic u) r s h k e = absurd (let z : ◌≡◌ {A = ℕ} 1 3 = cc in omega arith)
same_proc (ValP n) (Fork q) r s h k e = absurd (let z : ◌≡◌ {A = ℕ} 1 4 = cc in omega arith)
same_proc (AddP a b) (ValP m) r s h k e = absurd (let z : ◌≡◌ {A = ℕ} 2 1 = cc in omega arith)
same_proc (AddP a b) (AddP c d) r s h k e =
    let z = same_proc a c (bytes_p b ++ r) (bytes_p d ++ s) h.0 k.0 (sym (append_assoc (bytes_p a) (bytes_p b) r) ∙ (ap (drop 1) e ∙ append_assoc (bytes_p c) (bytes_p d) s)) in
    let y = same_proc b d r s h.1 k.1 z.1 in
    (rw (z.0, y.0), y.1)
same_proc (AddP a b) (Atomic u) r s h k e = absurd (let z : ◌≡◌ {A = ℕ} 2 3 = cc in omega arith)
same_proc (AddP a b) (Fork q) r s h k e = absurd (let z : ◌≡◌ {A = ℕ} 2 4 = cc in omega arith)
same_proc (Atomic t) (ValP m) r s h k e = absurd (let z : ◌≡◌ {A = ℕ} 3 1 = cc in omega arith)
same_proc (Atomic t) (AddP c d) r s h k e = absurd (let z : ◌≡◌ {A = ℕ} 3 2 = cc in omega arith)
same_proc (Atomic t) (Atomic u) r s h k e =
    let y = same_tran t u r s h k (ap (drop 1) e) in
    (ap Atomic y.0, y.1)
same_proc (Atomic t) (Fork q) r s h k e = absurd (let z : ◌≡◌ {A = ℕ} 3 4 = cc in omega arith)
same_proc (Fork p) (ValP m) r s h k e = absurd (let z : ◌≡◌ {A = ℕ} 4 1 = cc in omega arith)
same_proc (Fork p) (AddP c d) r s h k e = absurd (let z : ◌≡◌ {A = ℕ} 4 2 = cc in omega arith)
same_proc (Fork p) (Atomic u) r s h k e = absurd (let z : ◌≡◌ {A = ℕ} 4 3 = cc in omega arith)
same_proc (Fork p) (Fork q) r s h k e =
    let y = same_proc p q r s h k (ap (drop 1) e) in
    (ap Fork y.0, y.1)
