-- Why the reader's loop finds the first long transaction: the nodes that it counts are the tree's. Assumes nothing.
use Prim.Native.Nat.{ℕ, suc, ◌+◌, ◌≤◌, ◌<◌}
use mathlib.Core.Path.{◌≡◌, refl, sym, ap, subst, ◌∙◌}
use mathlib.Core.Bool.{Bool, true, false, cond}
use mathlib.Core.List.{List, [], ◌∷◌, ◌++◌, append_assoc, append-nil}
use native.Mathlib.Decide.{dec_lt}
use native.Mathlib.Omega.{arith}
use lib.Dec.{ltb}
use lib.ListN.{length, drop, get_or, length-append, length-drop}
use lib.Seq.{drop-append_seam, drop-drop, get_or-drop}
use borrow.Author.Tests.{lt-ltb, le-ltb}
use Rattle.job.specs.declared.Transactions.{Transactions}
use Rattle.job.specs.InnerScan.{node_kind, no_transactions, long_with, with_kind}
use Rattle.std.specs.Prelude.{Option, Some, None}
use Rattle.terms.specs.Numbers.{kind_number}
use Rattle.terms.specs.declared.Kind.{Kind}
use Rattle.terms.specs.declared.Kind.TheVariants as kind
use Rattle.job.proofs.KindBytes.{same_kind}
use Rattle.job.proofs.Walk.{size, kind_first}
use Rattle.script.specs.Tree.{Tran, ValT, AddT, Read, Write, Proc, ValP, AddP, Atomic, Fork, Sort}
use Rattle.script.specs.Count.{nodes_t}
use Rattle.script.specs.Bytes.{Bytes, Node, VALP, ADDP, ATOMIC, FORK, VALT, ADDT, READ, WRITE, node_bytes, bytes_t, bytes_p}
use Rattle.script.specs.Outcome.{Outcome, refused, done, refuse, onward}
use Rattle.script.specs.Jobs.{Job, operand, root}
use Rattle.script.specs.Reader.{Forest, read_nodes, short_from, whole}
use Rattle.script.proofs.Long.{Judged, short, long as too-long, judged}
use Rattle.script.proofs.Numbers.{bytes_drop}
use Rattle.script.proofs.Reading.{both_ends, one_ends, read_sound, mapped_from}

-- ---- a tree's nodes as a list

-- a tree's nodes in job order, and then others
pub data AnyNode : Type 0 where
  node : {s : Sort} → Node s → AnyNode

abbrev pub kind_of : AnyNode → Kind
kind_of (node n) = node_kind n

abbrev pub text_of : AnyNode → List ℕ
text_of (node n) = node_bytes n

unfoldable pub nodes_of_t : Tran → List AnyNode → List AnyNode
nodes_of_t (ValT n) ns = node (VALT n) ∷ ns
nodes_of_t (AddT a b) ns = node ADDT ∷ nodes_of_t a (nodes_of_t b ns)
nodes_of_t (Read v) ns = node (READ v) ∷ ns
nodes_of_t (Write v t) ns = node (WRITE v) ∷ nodes_of_t t ns

unfoldable pub nodes_of_p : Proc → List AnyNode → List AnyNode
nodes_of_p (ValP n) ns = node (VALP n) ∷ ns
nodes_of_p (AddP a b) ns = node ADDP ∷ nodes_of_p a (nodes_of_p b ns)
nodes_of_p (Atomic t) ns = node ATOMIC ∷ nodes_of_t t ns
nodes_of_p (Fork p) ns = node FORK ∷ nodes_of_p p ns

unfoldable pub texts_of : List AnyNode → List ℕ
texts_of [] = []
texts_of (n ∷ ns) = text_of n ++ texts_of ns

-- the first long one with these nodes, the first of them standing there
unfoldable pub long_in : (place : ℕ) → Transactions → List AnyNode → Option ℕ
long_in place t [] = t.long
long_in place t (n ∷ ns) = long_in (place + length (text_of n)) (with_kind t (kind_of n) place) ns

-- ---- the nodes' bytes are the tree's

texts_tran : (t : Tran) (ns : List AnyNode) → texts_of (nodes_of_t t ns) ≡ bytes_t t ++ texts_of ns
unfolding texts_of nodes_of_t bytes_t node_bytes
texts_tran (ValT n) ns = refl
texts_tran (AddT a b) ns =
    rw (texts_tran a (nodes_of_t b ns), texts_tran b ns, append_assoc (bytes_t a) (bytes_t b) (texts_of ns))
texts_tran (Read v) ns = refl
texts_tran (Write v t) ns = rw (texts_tran t ns)

texts_proc : (p : Proc) (ns : List AnyNode) → texts_of (nodes_of_p p ns) ≡ bytes_p p ++ texts_of ns
unfolding texts_of nodes_of_p bytes_p node_bytes
texts_proc (ValP n) ns = refl
texts_proc (AddP a b) ns =
    rw (texts_proc a (nodes_of_p b ns), texts_proc b ns, append_assoc (bytes_p a) (bytes_p b) (texts_of ns))
texts_proc (Atomic t) ns = rw (texts_tran t ns)
texts_proc (Fork p) ns = rw (texts_proc p ns)

-- ---- the loop on them

abbrev hand : (atomic nodes : ℕ) (long : Option ℕ) → Transactions
hand atomic nodes long = record { atomic = atomic; nodes = nodes; long = long }

-- of two tests of the same transaction, the one of the greater number decides
tested_twice : (l : Option ℕ) (m n a : ℕ) → m ≤ n → long_with (long_with l m a) n a ≡ long_with l n a
tested_twice (Some l) m n a h = refl
tested_twice None m n a h = go (dec_lt 200 m)
  where
    go : Dec (200 < m) → long_with (long_with None m a) n a ≡ long_with None n a
    go (yes q) = rw (lt-ltb 200 m q, lt-ltb 200 n (omega arith))
    go (no q) = rw (le-ltb 200 m (omega arith))

-- a transaction's nodes are counted, one test of their sum standing for each node's
count_tran : (t : Tran) (place a n : ℕ) (l : Option ℕ) (ns : List AnyNode) → long_in place (hand a n l) (nodes_of_t t ns) ≡ long_in (place + length (bytes_t t)) (hand a (n + nodes_t t) (long_with l (n + nodes_t t) a)) ns
unfolding long_in nodes_of_t nodes_t bytes_t
count_tran (ValT z) place a n l ns = refl
count_tran (AddT x y) place a n l ns =
    let m : n + 1 + nodes_t x + nodes_t y ≡ n + suc (nodes_t x + nodes_t y) = omega arith in
    let e : place + length (node_bytes ADDT) + length (bytes_t x) + length (bytes_t y) ≡ place + length (bytes_t (AddT x y)) = both_ends place (node_bytes ADDT) (bytes_t x) (bytes_t y) in
    rw (
      count_tran x (place + length (node_bytes ADDT)) a (n + 1) (long_with l (n + 1) a) (nodes_of_t y ns),
      tested_twice l (n + 1) (n + 1 + nodes_t x) a (omega arith),
      count_tran y (place + length (node_bytes ADDT) + length (bytes_t x)) a (n + 1 + nodes_t x) (long_with l (n + 1 + nodes_t x) a) ns,
      tested_twice l (n + 1 + nodes_t x) (n + 1 + nodes_t x + nodes_t y) a (omega arith),
      e,
      m,
    )
count_tran (Read v) place a n l ns = refl
count_tran (Write v t) place a n l ns =
    let m : n + 1 + nodes_t t ≡ n + suc (nodes_t t) = omega arith in
    let e : place + length (node_bytes (WRITE v)) + length (bytes_t t) ≡ place + length (bytes_t (Write v t)) = one_ends place (node_bytes (WRITE v)) (bytes_t t) in
    rw (
      count_tran t (place + length (node_bytes (WRITE v))) a (n + 1) (long_with l (n + 1) a) ns,
      tested_twice l (n + 1) (n + 1 + nodes_t t) a (omega arith),
      e,
      m,
    )

-- the first long one, by the outcome of a test; one that is known stays
abbrev pub place_of : Outcome (Unit {0}) → Option ℕ
place_of (refused k p) = Some p
place_of (done u) = None

abbrev chosen : Option ℕ → Outcome (Unit {0}) → Option ℕ
chosen (Some l) o = Some l
chosen None o = place_of o

chosen_none : (l : Option ℕ) → chosen l (done tt) ≡ l
chosen_none (Some l) = refl
chosen_none None = refl

chosen_twice : (l : Option ℕ) (o r : Outcome (Unit {0})) → chosen (chosen l o) r ≡ chosen l (onward o (λ _. r))
chosen_twice (Some l) o r = refl
chosen_twice None (refused k p) r = refl
chosen_twice None (done u) r = refl

chosen_atomic : (l : Option ℕ) (n place : ℕ) → long_with l n place ≡ chosen l (refuse (ltb 200 n) 14 place (done tt))
chosen_atomic (Some l) n place = refl
chosen_atomic None n place = go (ltb 200 n)
  where
    go : (b : Bool) → cond b (Some place) None ≡ place_of (refuse b 14 place (done tt))
    go true = refl
    go false = refl

-- nodes whose first long one does not depend on the transaction before them
abbrev Apart : List AnyNode → Type 0
Apart ns = (place a n : ℕ) (l : Option ℕ) → long_in place (hand a n l) ns ≡ long_in place (hand 0 0 l) ns

sum_length : (place : ℕ) → place + length (node_bytes ADDP) ≡ suc place
unfolding node_bytes
sum_length place = omega arith

fork_length : (place : ℕ) → place + length (node_bytes FORK) ≡ suc place
unfolding node_bytes
fork_length place = omega arith

-- a process's nodes come to its own test
count_proc : (p : Proc) (place a n : ℕ) (l : Option ℕ) (ns : List AnyNode) → Apart ns → long_in place (hand a n l) (nodes_of_p p ns) ≡ long_in (place + length (bytes_p p)) (hand 0 0 (chosen l (short_from place p))) ns
unfolding long_in nodes_of_p bytes_p short_from
count_proc (ValP z) place a n l ns apart = rw (chosen_none l) (apart (place + length (bytes_p (ValP z))) a n l)
count_proc (AddP x y) place a n l ns apart =
    let s : place + length (node_bytes ADDP) ≡ suc place = sum_length place in
    let e : suc place + length (bytes_p x) + length (bytes_p y) ≡ place + length (bytes_p (AddP x y)) = rw (← s) (both_ends place (node_bytes ADDP) (bytes_p x) (bytes_p y)) in
    let next : Apart (nodes_of_p y ns) = λ q b m k. count_proc y q b m k ns apart ∙ sym (count_proc y q 0 0 k ns apart) in
    rw (
      count_proc x (place + length (node_bytes ADDP)) a n l (nodes_of_p y ns) next,
      count_proc y (place + length (node_bytes ADDP) + length (bytes_p x)) 0 0 (chosen l (short_from (place + length (node_bytes ADDP)) x)) ns apart,
      s,
      e,
      chosen_twice l (short_from (suc place) x) (short_from (suc place + length (bytes_p x)) y),
    )
count_proc (Atomic t) place a n l ns apart =
    let e : place + length (node_bytes ATOMIC) + length (bytes_t t) ≡ place + length (bytes_p (Atomic t)) = one_ends place (node_bytes ATOMIC) (bytes_t t) in
    let z : 0 + nodes_t t ≡ nodes_t t = omega arith in
    rw (count_tran t (place + length (node_bytes ATOMIC)) place 0 l ns, e, z, ← chosen_atomic l (nodes_t t) place) (apart (place + length (bytes_p (Atomic t))) place (nodes_t t) (long_with l (nodes_t t) place))
count_proc (Fork p) place a n l ns apart =
    let s : place + length (node_bytes FORK) ≡ suc place = fork_length place in
    let e : suc place + length (bytes_p p) ≡ place + length (bytes_p (Fork p)) = rw (← s) (one_ends place (node_bytes FORK) (bytes_p p)) in
    rw (count_proc p (place + length (node_bytes FORK)) a n l ns apart, s, e)

count_whole : (p : Proc) → long_in 7 no_transactions (nodes_of_p p []) ≡ place_of (short_from 7 p)
unfolding long_in
count_whole p = count_proc p 7 0 0 None [] (λ place a n l. refl)

-- the outcome of document 02 No. 3's test, by the place of the first long transaction
abbrev pub unless_long : Option ℕ → Outcome (Unit {0})
unless_long None = done tt
unless_long (Some n) = refused 14 n

-- the test's outcome is told by the place
told : (p : Proc) (o : Outcome (Unit {0})) → Judged 7 p o → o ≡ unless_long (place_of o)
told p _ (short h) = refl
told p _ (too-long f e) = refl

-- ---- where the loop stands

text_length : (n : AnyNode) → length (text_of n) ≡ 1 + operand (kind_number (kind_of n))
text_length (node n) = omega (arith, size n)

its_kind : (n : AnyNode) (rest : List ℕ) → get_or (text_of n ++ rest) 0 0 ≡ kind_number (kind_of n)
its_kind (node n) rest = kind_first n rest

-- the nodes behind it are the rest of the job, and the first long one with them is the tree's
pub record Stands (job : List ℕ) (p : Proc) (place : ℕ) (t : Transactions) : Type 0 where
  pub behind : List AnyNode
  pub text : drop place job ≡ texts_of behind
  pub ends : place + length (texts_of behind) ≡ length job
  pub same : long_in place t behind ≡ place_of (short_from 7 p)

stands_first : (job : List ℕ) (p : Proc) → 7 ≤ length job → drop 7 job ≡ bytes_p p → Stands job p 7 no_transactions
unfolding texts_of
stands_first job p h t =
    let e = texts_proc p [] ∙ append-nil (bytes_p p) in
    record {
      behind = nodes_of_p p [];
      text = t ∙ sym e;
      ends = omega (arith, ap length e, ap length t, length-drop 7 job, h);
      same = count_whole p;
    }

module _ (job : List ℕ) (p : Proc) (place : ℕ) (t : Transactions) (s : Stands job p place t) where
  at-end : length job ≤ place → t.long ≡ place_of (short_from 7 p)
  unfolding long_in texts_of
  at-end h = go s.behind s.ends ∙ s.same
    where
      go : (ns : List AnyNode) → place + length (texts_of ns) ≡ length job → t.long ≡ long_in place t ns
      go [] e = refl
      go (n ∷ ns) e = absurd (omega (arith, e, text_length n, length-append (text_of n) (texts_of ns)))

  stands_next : place < length job → (k : Kind) → get_or job place 0 ≡ kind_number k → Stands job p (place + (1 + operand (kind_number k))) (with_kind t k place)
  unfolding long_in texts_of
  stands_next h k is = go s.behind s.text s.ends s.same
    where
      go : (ns : List AnyNode) → drop place job ≡ texts_of ns → place + length (texts_of ns) ≡ length job → long_in place t ns ≡ place_of (short_from 7 p) → Stands job p (place + (1 + operand (kind_number k))) (with_kind t k place)
      go [] e l m = absurd (omega (arith, l))
      go (n ∷ ns) e l m =
          let z : place + 0 ≡ place = omega arith in
          let v : get_or job place 0 ≡ kind_number (kind_of n) = ap (λ (i : ℕ). get_or job i 0) (sym z) ∙ (sym (get_or-drop place job 0 0) ∙ (ap (λ (u : List ℕ). get_or u 0 0) e ∙ its_kind n (texts_of ns))) in
          let same : k ≡ kind_of n = same_kind k (kind_of n) (sym is ∙ v) in
          rw same (record {
            behind = ns;
            text = sym (drop-drop (1 + operand (kind_number (kind_of n))) place job) ∙ (ap (drop (1 + operand (kind_number (kind_of n)))) e ∙ (rw (← text_length n) (drop-append_seam (text_of n) (texts_of ns))));
            ends = omega (arith, l, text_length n, length-append (text_of n) (texts_of ns));
            same = (rw (← text_length n) refl) ∙ m;
          })

-- ---- the loop's count

with_low : (t : Transactions) (k : Kind) (place : ℕ) → t.nodes ≤ place → (with_kind t k place).nodes ≤ place + (1 + operand (kind_number k))
with_low t kind.Valp place h = omega arith
with_low t kind.Addp place h = omega arith
with_low t kind.Atomic place h = omega arith
with_low t kind.Fork place h = omega arith
with_low t kind.Valt place h = omega arith
with_low t kind.Addt place h = omega arith
with_low t kind.Read place h = omega arith
with_low t kind.Write place h = omega arith

-- the transactions before this place, if document 01's tests come to a job
pub record Counting (job : List ℕ) (o : Outcome Job) (place : ℕ) (t : Transactions) : Type 0 where
  pub low : t.nodes ≤ place
  pub stands : (j : Job) → o ≡ done j → Stands job j.tree place t

pub counting_first : (job : List ℕ) (version count : ℕ) → Bytes job → 7 ≤ length job → Counting job (whole version (read_nodes count root 0 7 (drop 7 job))) 7 no_transactions
counting_first job version count b h = record { low = omega arith; stands = first }
  where
    first : (j : Job) → whole version (read_nodes count root 0 7 (drop 7 job)) ≡ done j → Stands job j.tree 7 no_transactions
    first j e =
        let w = mapped_from (λ (ts : Forest root). record { version = version; tree = ts.0 }) (read_nodes count root 0 7 (drop 7 job)) j e in
        let r = read_sound count root 0 7 (drop 7 job) w.before (bytes_drop 7 b) (omega arith) w.was in
        subst (λ (k : Job). Stands job k.tree 7 no_transactions) w.becomes (stands_first job w.before.0 h (r.text ∙ append-nil (bytes_p w.before.0)))

module _ {job : List ℕ} {o : Outcome Job} {place : ℕ} {t : Transactions} (c : Counting job o place t) where
  pub counts_on : (k : Kind) → place < length job → get_or job place 0 ≡ kind_number k → Counting job o (place + (1 + operand (kind_number k))) (with_kind t k place)
  counts_on k h is = record { low = with_low t k place c.low; stands = λ j e. stands_next job j.tree place t (c.stands j e) h k is }

  pub counted : length job ≤ place → (j : Job) → o ≡ done j → short_from 7 j.tree ≡ unless_long t.long
  counted h j e = told j.tree (short_from 7 j.tree) (judged 7 j.tree) ∙ ap unless_long (sym (at-end job j.tree place t (c.stands j e) h))
