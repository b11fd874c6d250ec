-- The job reader's tests of the nodes pass exactly the bytes of trees within document 01's limits, and give that tree. Assumes nothing.
use Prim.Native.Nat.{ℕ, zero, suc, ◌+◌, ◌≤◌}
use mathlib.Core.Path.{◌≡◌, refl, sym, ap, subst, ◌∙◌}
use mathlib.Core.List.{List, [], ◌∷◌, ◌++◌, append_assoc}
use native.Mathlib.Omega.{arith}
use lib.Dec.{eqb, eqb-suc-zero}
use lib.ListN.{length, length-append}
use lib.Seq.{drop-append_seam}
use Rattle.script.specs.Tree.{Tran, ValT, AddT, Read, Write, Proc, ValP, AddP, Atomic, Fork, Sort, process, transaction, Tree}
use Rattle.script.specs.Count.{nodes_t, nodes_p, depth_t, depth_p, forks}
use Rattle.script.specs.Limits.{ValuedT, ValuedP}
use Rattle.script.specs.Bytes.{Bytes, Node, VALP, ADDP, ATOMIC, FORK, VALT, ADDT, READ, WRITE, node_bytes, bytes_t, bytes_p}
use Rattle.script.specs.InnerTrees.{nodes, depth, forks_in, Valued, bytes}
use Rattle.script.specs.Outcome.{Outcome, refused, done, mapped}
use Rattle.script.specs.Jobs.{Due, parts_then, fork_of}
use Rattle.script.specs.Reader.{Forest, grown, read_nodes}
use Rattle.script.specs.Refusal.{ValuedN}
use Rattle.script.proofs.Nodes.{Sees, good, node_reads, node_sees, seen}
use Rattle.script.proofs.Numbers.{bytes_drop}

-- one node is read: its parts are due next
pub read-one : {s : Sort} (node : Node s) (left depth forks place : ℕ) (ds : List Due) (rest : List ℕ) → ValuedN node → depth ≤ 64 → forks + fork_of node ≤ 15 → read_nodes (suc left) (record { sort = s; depth = depth } ∷ ds) forks place (node_bytes node ++ rest) ≡ mapped (grown node depth ds) (read_nodes left (parts_then node depth ds) (forks + fork_of node) (place + length (node_bytes node)) rest)
unfolding read_nodes
read-one node left depth forks place ds rest v h f =
    rw (node_reads node depth forks place rest v h f, drop-append_seam (node_bytes node) rest)

-- the tree that a node and its parts make, put in front of the others
module _ (ds : List Due) (n : ℕ) where
  joined_Add_t : (a b : Tran) (r : Outcome (Forest ds)) → mapped (grown ADDT n ds) (mapped (λ (ts : Tran × Forest ds). (a, ts)) (mapped (λ (ts : Forest ds). (b, ts)) r)) ≡ mapped (λ (ts : Forest ds). (AddT a b, ts)) r
  unfolding grown
  joined_Add_t a b (refused k p) = refl
  joined_Add_t a b (done ts) = refl

  joined_Write : (v : ℕ) (t : Tran) (r : Outcome (Forest ds)) → mapped (grown (WRITE v) n ds) (mapped (λ (ts : Forest ds). (t, ts)) r) ≡ mapped (λ (ts : Forest ds). (Write v t, ts)) r
  unfolding grown
  joined_Write v t (refused k p) = refl
  joined_Write v t (done ts) = refl

  joined_Add_p : (a b : Proc) (r : Outcome (Forest ds)) → mapped (grown ADDP n ds) (mapped (λ (ts : Proc × Forest ds). (a, ts)) (mapped (λ (ts : Forest ds). (b, ts)) r)) ≡ mapped (λ (ts : Forest ds). (AddP a b, ts)) r
  unfolding grown
  joined_Add_p a b (refused k p) = refl
  joined_Add_p a b (done ts) = refl

  joined_Atomic : (t : Tran) (r : Outcome (Forest ds)) → mapped (grown ATOMIC n ds) (mapped (λ (ts : Forest ds). (t, ts)) r) ≡ mapped (λ (ts : Forest ds). (Atomic t, ts)) r
  unfolding grown
  joined_Atomic t (refused k p) = refl
  joined_Atomic t (done ts) = refl

  joined_Fork : (p : Proc) (r : Outcome (Forest ds)) → mapped (grown FORK n ds) (mapped (λ (ts : Forest ds). (p, ts)) r) ≡ mapped (λ (ts : Forest ds). (Fork p, ts)) r
  unfolding grown
  joined_Fork p (refused k q) = refl
  joined_Fork p (done ts) = refl

-- the bytes of two parts behind a node, and where they end
regrouped : (x a b rest : List ℕ) → x ++ (a ++ b) ++ rest ≡ x ++ (a ++ (b ++ rest))
regrouped x a b rest = append_assoc x (a ++ b) rest ∙ ap (λ (l : List ℕ). x ++ l) (append_assoc a b rest)

pub both_ends : (p : ℕ) (x a b : List ℕ) → p + length x + length a + length b ≡ p + length (x ++ (a ++ b))
both_ends p x a b = simp length-append (omega arith)

pub one_ends : (p : ℕ) (x a : List ℕ) → p + length x + length a ≡ p + length (x ++ a)
one_ends p x a = simp length-append (omega arith)

-- a transaction's bytes are read: what is due behind it comes next
pub read_tran : (t : Tran) (k n f p : ℕ) (ds : List Due) (rest : List ℕ) → ValuedT t → n + depth_t t ≤ 65 → f ≤ 15 → read_nodes (nodes_t t + k) (record { sort = transaction; depth = n } ∷ ds) f p (bytes_t t ++ rest) ≡ mapped (λ (ts : Forest ds). (t, ts)) (read_nodes k ds f (p + length (bytes_t t)) rest)
unfolding nodes_t depth_t bytes_t grown fork_of
read_tran (ValT z) k n f p ds rest v h l =
    let e : 1 + k ≡ suc k = omega arith in
    let o : f + 0 ≡ f = omega arith in
    rw (e, read-one (VALT z) k n f p ds rest v (omega arith) (omega arith), o)
read_tran (AddT a b) k n f p ds rest v h l =
    let e : suc (nodes_t a + nodes_t b) + k ≡ suc (nodes_t a + (nodes_t b + k)) = omega arith in
    let o : f + 0 ≡ f = omega arith in
    rw (
      e,
      regrouped (node_bytes ADDT) (bytes_t a) (bytes_t b) rest,
      read-one ADDT (nodes_t a + (nodes_t b + k)) n f p ds (bytes_t a ++ (bytes_t b ++ rest)) tt (omega arith) (omega arith),
      o,
      read_tran a (nodes_t b + k) (suc n) f (p + length (node_bytes ADDT)) (record { sort = transaction; depth = suc n } ∷ ds) (bytes_t b ++ rest) v.0 (omega arith) l,
      read_tran b k (suc n) f (p + length (node_bytes ADDT) + length (bytes_t a)) ds rest v.1 (omega arith) l,
      both_ends p (node_bytes ADDT) (bytes_t a) (bytes_t b),
    ) (joined_Add_t ds n a b (read_nodes k ds f (p + length (bytes_t (AddT a b))) rest))
read_tran (Read r) k n f p ds rest v h l =
    let e : 1 + k ≡ suc k = omega arith in
    let o : f + 0 ≡ f = omega arith in
    rw (e, read-one (READ r) k n f p ds rest v (omega arith) (omega arith), o)
read_tran (Write r t) k n f p ds rest v h l =
    let e : suc (nodes_t t) + k ≡ suc (nodes_t t + k) = omega arith in
    let o : f + 0 ≡ f = omega arith in
    rw (
      e,
      append_assoc (node_bytes (WRITE r)) (bytes_t t) rest,
      read-one (WRITE r) (nodes_t t + k) n f p ds (bytes_t t ++ rest) v.0 (omega arith) (omega arith),
      o,
      read_tran t k (suc n) f (p + length (node_bytes (WRITE r))) ds rest v.1 (omega arith) l,
      one_ends p (node_bytes (WRITE r)) (bytes_t t),
    ) (joined_Write ds n r t (read_nodes k ds f (p + length (bytes_t (Write r t))) rest))

-- so are a process's
pub read_proc : (t : Proc) (k n f p : ℕ) (ds : List Due) (rest : List ℕ) → ValuedP t → n + depth_p t ≤ 65 → f + forks t ≤ 15 → read_nodes (nodes_p t + k) (record { sort = process; depth = n } ∷ ds) f p (bytes_p t ++ rest) ≡ mapped (λ (ts : Forest ds). (t, ts)) (read_nodes k ds (f + forks t) (p + length (bytes_p t)) rest)
unfolding nodes_p depth_p bytes_p grown fork_of forks
read_proc (ValP z) k n f p ds rest v h l =
    let e : 1 + k ≡ suc k = omega arith in
    rw (e, read-one (VALP z) k n f p ds rest v (omega arith) (omega arith))
read_proc (AddP a b) k n f p ds rest v h l =
    let e : suc (nodes_p a + nodes_p b) + k ≡ suc (nodes_p a + (nodes_p b + k)) = omega arith in
    let o : f + 0 ≡ f = omega arith in
    let g : f + forks a + forks b ≡ f + (forks a + forks b) = omega arith in
    rw (
      e,
      regrouped (node_bytes ADDP) (bytes_p a) (bytes_p b) rest,
      read-one ADDP (nodes_p a + (nodes_p b + k)) n f p ds (bytes_p a ++ (bytes_p b ++ rest)) tt (omega arith) (omega arith),
      o,
      read_proc a (nodes_p b + k) (suc n) f (p + length (node_bytes ADDP)) (record { sort = process; depth = suc n } ∷ ds) (bytes_p b ++ rest) v.0 (omega arith) (omega arith),
      read_proc b k (suc n) (f + forks a) (p + length (node_bytes ADDP) + length (bytes_p a)) ds rest v.1 (omega arith) (omega arith),
      both_ends p (node_bytes ADDP) (bytes_p a) (bytes_p b),
      g,
    ) (joined_Add_p ds n a b (read_nodes k ds (f + (forks a + forks b)) (p + length (bytes_p (AddP a b))) rest))
read_proc (Atomic t) k n f p ds rest v h l =
    let e : suc (nodes_t t) + k ≡ suc (nodes_t t + k) = omega arith in
    rw (
      e,
      append_assoc (node_bytes ATOMIC) (bytes_t t) rest,
      read-one ATOMIC (nodes_t t + k) n f p ds (bytes_t t ++ rest) tt (omega arith) (omega arith),
      read_tran t k (suc n) (f + 0) (p + length (node_bytes ATOMIC)) ds rest v (omega arith) (omega arith),
      one_ends p (node_bytes ATOMIC) (bytes_t t),
    ) (joined_Atomic ds n t (read_nodes k ds (f + 0) (p + length (bytes_p (Atomic t))) rest))
read_proc (Fork q) k n f p ds rest v h l =
    let e : suc (nodes_p q) + k ≡ suc (nodes_p q + k) = omega arith in
    let g : f + 1 + forks q ≡ f + suc (forks q) = omega arith in
    rw (
      e,
      append_assoc (node_bytes FORK) (bytes_p q) rest,
      read-one FORK (nodes_p q + k) n f p ds (bytes_p q ++ rest) tt (omega arith) (omega arith),
      read_proc q k (suc n) (f + 1) (p + length (node_bytes FORK)) ds rest v (omega arith) (omega arith),
      one_ends p (node_bytes FORK) (bytes_p q),
      g,
    ) (joined_Fork ds n q (read_nodes k ds (f + suc (forks q)) (p + length (bytes_p (Fork q))) rest))

-- what is counted in a tree for each part that is due
abbrev pub nodes_f : (ds : List Due) → Forest ds → ℕ
nodes_f [] ts = 0
nodes_f (d ∷ ds) ts = nodes d.sort ts.0 + nodes_f ds ts.1

abbrev pub forks_f : (ds : List Due) → Forest ds → ℕ
forks_f [] ts = 0
forks_f (d ∷ ds) ts = forks_in d.sort ts.0 + forks_f ds ts.1

abbrev pub bytes_f : (ds : List Due) → Forest ds → List ℕ
bytes_f [] ts = []
bytes_f (d ∷ ds) ts = bytes d.sort ts.0 ++ bytes_f ds ts.1

-- each tree has numbers in range and registers below 64, and no node below depth 64
abbrev pub Fine : (ds : List Due) → Forest ds → Type 0
Fine [] ts = Unit {0}
Fine (d ∷ ds) ts = Valued d.sort ts.0 × (d.depth + depth d.sort ts.0 ≤ 65) × Fine ds ts.1

-- each of these of a node's parts and the others, put together
module _ (n : ℕ) (ds : List Due) where
  grown_nodes : {s : Sort} (node : Node s) (ts : Forest (parts_then node n ds)) → nodes_f (record { sort = s; depth = n } ∷ ds) (grown node n ds ts) ≡ suc (nodes_f (parts_then node n ds) ts)
  unfolding grown nodes_p nodes_t
  grown_nodes (VALP z) ts = omega arith
  grown_nodes ADDP ts = omega arith
  grown_nodes ATOMIC ts = omega arith
  grown_nodes FORK ts = omega arith
  grown_nodes (VALT z) ts = omega arith
  grown_nodes ADDT ts = omega arith
  grown_nodes (READ v) ts = omega arith
  grown_nodes (WRITE v) ts = omega arith

  grown_forks : {s : Sort} (node : Node s) (ts : Forest (parts_then node n ds)) → forks_f (record { sort = s; depth = n } ∷ ds) (grown node n ds ts) ≡ fork_of node + forks_f (parts_then node n ds) ts
  unfolding grown forks fork_of
  grown_forks (VALP z) ts = omega arith
  grown_forks ADDP ts = omega arith
  grown_forks ATOMIC ts = omega arith
  grown_forks FORK ts = omega arith
  grown_forks (VALT z) ts = omega arith
  grown_forks ADDT ts = omega arith
  grown_forks (READ v) ts = omega arith
  grown_forks (WRITE v) ts = omega arith

  grown_bytes : {s : Sort} (node : Node s) (ts : Forest (parts_then node n ds)) → bytes_f (record { sort = s; depth = n } ∷ ds) (grown node n ds ts) ≡ node_bytes node ++ bytes_f (parts_then node n ds) ts
  unfolding grown bytes_p bytes_t
  grown_bytes (VALP z) ts = refl
  grown_bytes ADDP ts = regrouped (node_bytes ADDP) (bytes_p ts.0) (bytes_p ts.1.0) (bytes_f ds ts.1.1)
  grown_bytes ATOMIC ts = append_assoc (node_bytes ATOMIC) (bytes_t ts.0) (bytes_f ds ts.1)
  grown_bytes FORK ts = append_assoc (node_bytes FORK) (bytes_p ts.0) (bytes_f ds ts.1)
  grown_bytes (VALT z) ts = refl
  grown_bytes ADDT ts = regrouped (node_bytes ADDT) (bytes_t ts.0) (bytes_t ts.1.0) (bytes_f ds ts.1.1)
  grown_bytes (READ v) ts = refl
  grown_bytes (WRITE v) ts = append_assoc (node_bytes (WRITE v)) (bytes_t ts.0) (bytes_f ds ts.1)

  grown_fine : {s : Sort} (node : Node s) (ts : Forest (parts_then node n ds)) → ValuedN node → n ≤ 64 → Fine (parts_then node n ds) ts → Fine (record { sort = s; depth = n } ∷ ds) (grown node n ds ts)
  unfolding grown depth_p depth_t
  grown_fine (VALP z) ts v h g = (v, omega arith, g)
  grown_fine ADDP ts v h g = ((g.0, g.2.0), omega (arith, g.1, g.2.1), g.2.2)
  grown_fine ATOMIC ts v h g = (g.0, omega (arith, g.1), g.2)
  grown_fine FORK ts v h g = (g.0, omega (arith, g.1), g.2)
  grown_fine (VALT z) ts v h g = (v, omega arith, g)
  grown_fine ADDT ts v h g = ((g.0, g.2.0), omega (arith, g.1, g.2.1), g.2.2)
  grown_fine (READ r) ts v h g = (v, omega arith, g)
  grown_fine (WRITE r) ts v h g = ((v, g.0), omega (arith, g.1), g.2)

-- the trees were read from these bytes
pub record Read-as (left : ℕ) (ds : List Due) (f : ℕ) (bs : List ℕ) (ts : Forest ds) : Type 0 where
  pub count : left ≡ nodes_f ds ts
  pub text : bs ≡ bytes_f ds ts
  pub fine : Fine ds ts
  pub narrow : f + forks_f ds ts ≤ 15

-- an outcome that is done was mapped from one that is done
pub record From {A B : Type 0} (g : A → B) (o : Outcome A) (b : B) : Type 0 where
  pub before : A
  pub was : o ≡ done before
  pub becomes : g before ≡ b

pub mapped_from : {A B : Type 0} (g : A → B) (o : Outcome A) (b : B) → mapped g o ≡ done b → From g o b
mapped_from g (refused n p) b e = absurd (let z : ◌≡◌ {A = ℕ} 0 1 = cc in omega arith)
mapped_from g (done a) b e = record { before = a; was = refl; becomes = cc }

-- one node more in front of what was read
one_more : {s : Sort} (node : Node s) (left n f : ℕ) (ds : List Due) (rest : List ℕ) (ts : Forest (parts_then node n ds)) → ValuedN node → n ≤ 64 → Read-as left (parts_then node n ds) (f + fork_of node) rest ts → Read-as (suc left) (record { sort = s; depth = n } ∷ ds) f (node_bytes node ++ rest) (grown node n ds ts)
one_more node left n f ds rest ts v h r =
    record {
      count = ap suc r.count ∙ sym (grown_nodes n ds node ts);
      text = ap (λ (l : List ℕ). node_bytes node ++ l) r.text ∙ sym (grown_bytes n ds node ts);
      fine = grown_fine n ds node ts v h r.fine;
      narrow = omega (arith, grown_forks n ds node ts, r.narrow);
    }

pub bytes_behind : (x rest : List ℕ) → Bytes (x ++ rest) → Bytes rest
bytes_behind x rest b = rw (drop-append_seam x rest) at (bytes_drop (length x) b)

module _ (left : ℕ) (ih : (ds : List Due) (f p : ℕ) (bs : List ℕ) (ts : Forest ds) → Bytes bs → f ≤ 15 → read_nodes left ds f p bs ≡ done ts → Read-as left ds f bs ts) where
  node_sound : (s : Sort) (n : ℕ) (ds : List Due) (f p : ℕ) (bs : List ℕ) (ts : Tree s × Forest ds) (o : Outcome (Node s)) → Sees n f p bs o → Bytes bs → f ≤ 15 → read_nodes (suc left) (record { sort = s; depth = n } ∷ ds) f p bs ≡ done ts → Read-as (suc left) (record { sort = s; depth = n } ∷ ds) f bs ts
  unfolding read_nodes
  node_sound s n ds f p bs ts (refused k q) sees b l e =
      let e' : refused k q ≡ done ts = rw (node_sees sees) at e in
      absurd (let z : ◌≡◌ {A = ℕ} 0 1 = cc in omega arith)
  node_sound s n ds f p bs ts (done _) (good node rest v h g eq) b l e =
      let e₁ = rw (node_sees {place = p} (good node rest v h g eq)) at e in
      let e₂ : mapped (grown node n ds) (read_nodes left (parts_then node n ds) (f + fork_of node) (p + length (node_bytes node)) rest) ≡ done ts = rw (eq, drop-append_seam (node_bytes node) rest) at e₁ in
      let w = mapped_from (grown node n ds) _ ts e₂ in
      let b' : Bytes rest = bytes_behind (node_bytes node) rest (subst Bytes eq b) in
      let r = ih (parts_then node n ds) (f + fork_of node) (p + length (node_bytes node)) rest w.before b' g w.was in
      rw eq (subst (Read-as (suc left) (record { sort = s; depth = n } ∷ ds) f (node_bytes node ++ rest)) w.becomes (one_more node left n f ds rest w.before v h r))

-- what is read is the bytes of the trees that are given
pub read_sound : (left : ℕ) (ds : List Due) (f p : ℕ) (bs : List ℕ) (ts : Forest ds) → Bytes bs → f ≤ 15 → read_nodes left ds f p bs ≡ done ts → Read-as left ds f bs ts
unfolding read_nodes
read_sound zero [] f p [] ts b l e = record { count = refl; text = refl; fine = tt; narrow = omega arith }
read_sound zero [] f p (x ∷ bs) ts b l e =
    let e' : refused 9 p ≡ done ts = rw (eqb-suc-zero (length bs)) at e in
    absurd (let z : ◌≡◌ {A = ℕ} 0 1 = cc in omega arith)
read_sound zero (d ∷ ds) f p [] ts b l e = absurd (let z : ◌≡◌ {A = ℕ} 0 1 = cc in omega arith)
read_sound zero (d ∷ ds) f p (x ∷ bs) ts b l e =
    let both : (read_nodes zero (d ∷ ds) f p (x ∷ bs) ≡ done ts) × (eqb (suc (length bs)) 0 ≡ eqb (suc (length bs)) 0) = (e, refl) in
    let e' = (rw (eqb-suc-zero (length bs)) at both).0 in
    absurd (let z : ◌≡◌ {A = ℕ} 0 1 = cc in omega arith)
read_sound (suc left) [] f p bs ts b l e = absurd (let z : ◌≡◌ {A = ℕ} 0 1 = cc in omega arith)
read_sound (suc left) (d ∷ ds) f p bs ts b l e =
    let w = seen d.depth f p d.sort bs b l in
    node_sound left (λ ds f p bs ts b l e. read_sound left ds f p bs ts b l e) d.sort d.depth ds f p bs ts w.outcome w.sees b l e
