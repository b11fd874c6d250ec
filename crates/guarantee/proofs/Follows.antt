-- The job reader refuses the bytes of a tree only with 4, 7, 8 and 14. Assumes nothing.
use Prim.Native.Nat.{ℕ, suc, ◌+◌, ◌*◌, ◌/◌, ◌%◌, ◌≤◌, ◌<◌}
use mathlib.Core.List.{List, [], ◌∷◌, ◌++◌, append_assoc, append-nil}
use mathlib.Core.Logic.{◌⊎◌, ⊎_elim, inl, inr}
use mathlib.Core.Path.{◌≡◌, refl, sym, ap, subst, ◌∙◌}
use native.Mathlib.Decide.{dec_le}
use native.Mathlib.Omega.{arith}
use borrow.Author.Tests.{le-ltb, lt-ltb, le-leb, lt-leb}
use lib.ListN.{length}
use Rattle.script.specs.Bytes.{Node, VALP, ADDP, ATOMIC, FORK, VALT, ADDT, READ, WRITE, node_bytes, bytes16, bytes_t, bytes_p, job_mark, job_bytes}
use Rattle.script.specs.Count.{nodes_t, nodes_p}
use Rattle.script.specs.Jobs.{Job, Due, root, parts_then, operand, fork_of}
use Rattle.script.specs.Limits.{ValuedT, ValuedP}
use Rattle.script.specs.Outcome.{Outcome, refused, done, onward, mapped}
use Rattle.script.specs.Reader.{Forest, permitted, node_at, grown, read_nodes, job_marked, taken, whole, read_tree, short_from, short_only, read_job}
use Rattle.script.specs.Refusal.{ValuedN}
use Rattle.script.specs.Tree.{Tran, ValT, AddT, Read, Write, Proc, ValP, AddP, Atomic, Fork, Sort, process, transaction}
use Rattle.script.proofs.Long.{Judged, judged, short, long}
use Rattle.script.proofs.Reading.{read-one}

-- done, or refused with 7 or 8
abbrev DepthOrForks : {A : Type 0} → Outcome A → Type 0
DepthOrForks (refused number place) = (number ≡ 7) ⊎ (number ≡ 8)
DepthOrForks (done a) = Unit {0}

carried : {A B : Type 0} (g : A → B) (o : Outcome A) → DepthOrForks o → DepthOrForks (mapped g o)
carried g (refused number place) h = h
carried g (done a) h = tt

-- a node deeper than 64
too_deep : {s : Sort} (node : Node s) (left depth forks place : ℕ) (ds : List Due) (rest : List ℕ) → 64 < depth → read_nodes (suc left) (record { sort = s; depth = depth } ∷ ds) forks place (node_bytes node ++ rest) ≡ refused 7 place
unfolding read_nodes node_at node_bytes permitted
too_deep (VALP n) left depth forks place ds rest h = rw (lt-ltb 64 depth h)
too_deep ADDP left depth forks place ds rest h = rw (lt-ltb 64 depth h)
too_deep ATOMIC left depth forks place ds rest h = rw (lt-ltb 64 depth h)
too_deep FORK left depth forks place ds rest h = rw (lt-ltb 64 depth h)
too_deep (VALT n) left depth forks place ds rest h = rw (lt-ltb 64 depth h)
too_deep ADDT left depth forks place ds rest h = rw (lt-ltb 64 depth h)
too_deep (READ v) left depth forks place ds rest h = rw (lt-ltb 64 depth h)
too_deep (WRITE v) left depth forks place ds rest h = rw (lt-ltb 64 depth h)

-- a sixteenth FORK
too_many : (left depth forks place : ℕ) (ds : List Due) (rest : List ℕ) → depth ≤ 64 → 15 ≤ forks → read_nodes (suc left) (record { sort = process; depth = depth } ∷ ds) forks place (node_bytes FORK ++ rest) ≡ refused 8 place
unfolding read_nodes node_at node_bytes permitted operand
too_many left depth forks place ds rest h f = rw (le-ltb 64 depth h, le-ltb (length rest) 0 (omega arith), le-leb 15 forks f)

module _ (left depth forks place : ℕ) (ds : List Due) (rest : List ℕ) (f : forks ≤ 15) where
  -- a node within the limits is read, and what is due behind it decides
  goes-on :
      {s : Sort} (node : Node s) → ValuedN node → depth ≤ 64 → forks + fork_of node ≤ 15 →
      ((f p : ℕ) → f ≤ 15 → DepthOrForks (read_nodes left (parts_then node depth ds) f p rest)) →
      DepthOrForks (read_nodes (suc left) (record { sort = s; depth = depth } ∷ ds) forks place (node_bytes node ++ rest))
  goes-on node v h g next =
      subst DepthOrForks (sym (read-one node left depth forks place ds rest v h g)) (carried (grown node depth ds)
      (read_nodes left (parts_then node depth ds) (forks + fork_of node) (place + length (node_bytes node)) rest) (next (forks + fork_of node) (place + length (node_bytes node)) g))

  -- a node that is no FORK
  other_node :
      {s : Sort} (node : Node s) → ValuedN node → fork_of node ≡ 0 →
      ((f p : ℕ) → f ≤ 15 → DepthOrForks (read_nodes left (parts_then node depth ds) f p rest)) →
      DepthOrForks (read_nodes (suc left) (record { sort = s; depth = depth } ∷ ds) forks place (node_bytes node ++ rest))
  other_node {s = s} node v e next = go (dec_le depth 64)
    where
      go : Dec (depth ≤ 64) → DepthOrForks (read_nodes (suc left) (record { sort = s; depth = depth } ∷ ds) forks place (node_bytes node ++ rest))
      go (yes h) = goes-on node v h (omega (arith, e)) next
      go (no h) = subst DepthOrForks (sym (too_deep node left depth forks place ds rest (omega arith))) (inl refl)

  fork_node :
      ((f p : ℕ) → f ≤ 15 → DepthOrForks (read_nodes left (parts_then FORK depth ds) f p rest)) →
      DepthOrForks (read_nodes (suc left) (record { sort = process; depth = depth } ∷ ds) forks place (node_bytes FORK ++ rest))
  unfolding fork_of
  fork_node next = go (dec_le depth 64) (dec_le 15 forks)
    where
      go : Dec (depth ≤ 64) → Dec (15 ≤ forks) → DepthOrForks (read_nodes (suc left) (record { sort = process; depth = depth } ∷ ds) forks place (node_bytes FORK ++ rest))
      go (yes h) (yes g) = subst DepthOrForks (sym (too_many left depth forks place ds rest h g)) (inr refl)
      go (yes h) (no g) = goes-on FORK tt h (omega arith) next
      go (no h) _ = subst DepthOrForks (sym (too_deep FORK left depth forks place ds rest (omega arith))) (inl refl)

-- the bytes of a transaction, whatever is due behind them
tran_follows :
    (t : Tran) (k n f p : ℕ) (ds : List Due) (rest : List ℕ) → ValuedT t → f ≤ 15 →
    ((f p : ℕ) → f ≤ 15 → DepthOrForks (read_nodes k ds f p rest)) →
    DepthOrForks (read_nodes (nodes_t t + k) (record { sort = transaction; depth = n } ∷ ds) f p (bytes_t t ++ rest))
unfolding nodes_t bytes_t fork_of
tran_follows (ValT z) k n f p ds rest v h next = let e : 1 + k ≡ suc k = omega arith in rw (e) (other_node k n f p ds rest h (VALT z) v refl next)
tran_follows (AddT a b) k n f p ds rest v h next =
    let e : suc (nodes_t a + nodes_t b) + k ≡ suc (nodes_t a + (nodes_t b + k)) = omega arith in
    rw (e, append_assoc (node_bytes ADDT) (bytes_t a ++ bytes_t b) rest, append_assoc (bytes_t a) (bytes_t b) rest)
    (other_node (nodes_t a + (nodes_t b + k)) n f p ds (bytes_t a ++ (bytes_t b ++ rest)) h ADDT tt refl
    (λ f p h. tran_follows a (nodes_t b + k) (suc n) f p _ (bytes_t b ++ rest) v.0 h (λ f p h. tran_follows b k (suc n) f p ds rest v.1 h next)))
tran_follows (Read r) k n f p ds rest v h next = let e : 1 + k ≡ suc k = omega arith in rw (e) (other_node k n f p ds rest h (READ r) v refl next)
tran_follows (Write r t) k n f p ds rest v h next =
    let e : suc (nodes_t t) + k ≡ suc (nodes_t t + k) = omega arith in
    rw (e, append_assoc (node_bytes (WRITE r)) (bytes_t t) rest)
    (other_node (nodes_t t + k) n f p ds (bytes_t t ++ rest) h (WRITE r) v.0 refl (λ f p h. tran_follows t k (suc n) f p ds rest v.1 h next))

-- and of a process
proc_follows :
    (t : Proc) (k n f p : ℕ) (ds : List Due) (rest : List ℕ) → ValuedP t → f ≤ 15 →
    ((f p : ℕ) → f ≤ 15 → DepthOrForks (read_nodes k ds f p rest)) →
    DepthOrForks (read_nodes (nodes_p t + k) (record { sort = process; depth = n } ∷ ds) f p (bytes_p t ++ rest))
unfolding nodes_p bytes_p fork_of
proc_follows (ValP z) k n f p ds rest v h next = let e : 1 + k ≡ suc k = omega arith in rw (e) (other_node k n f p ds rest h (VALP z) v refl next)
proc_follows (AddP a b) k n f p ds rest v h next =
    let e : suc (nodes_p a + nodes_p b) + k ≡ suc (nodes_p a + (nodes_p b + k)) = omega arith in
    rw (e, append_assoc (node_bytes ADDP) (bytes_p a ++ bytes_p b) rest, append_assoc (bytes_p a) (bytes_p b) rest)
    (other_node (nodes_p a + (nodes_p b + k)) n f p ds (bytes_p a ++ (bytes_p b ++ rest)) h ADDP tt refl
    (λ f p h. proc_follows a (nodes_p b + k) (suc n) f p _ (bytes_p b ++ rest) v.0 h (λ f p h. proc_follows b k (suc n) f p ds rest v.1 h next)))
proc_follows (Atomic t) k n f p ds rest v h next =
    let e : suc (nodes_t t) + k ≡ suc (nodes_t t + k) = omega arith in
    rw (e, append_assoc (node_bytes ATOMIC) (bytes_t t) rest)
    (other_node (nodes_t t + k) n f p ds (bytes_t t ++ rest) h ATOMIC tt refl (λ f p h. tran_follows t k (suc n) f p ds rest v h next))
proc_follows (Fork q) k n f p ds rest v h next =
    let e : suc (nodes_p q) + k ≡ suc (nodes_p q + k) = omega arith in
    rw (e, append_assoc (node_bytes FORK) (bytes_p q) rest)
    (fork_node (nodes_p q + k) n f p ds (bytes_p q ++ rest) h (λ f p h. proc_follows q k (suc n) f p ds rest v h next))

nothing_left : (f p : ℕ) → f ≤ 15 → DepthOrForks (read_nodes 0 [] f p [])
unfolding read_nodes
nothing_left f p h = tt

-- the bytes of a whole tree
tree_follows : (t : Proc) → ValuedP t → DepthOrForks (read_nodes (nodes_p t) root 0 7 (bytes_p t))
tree_follows t v =
    let e : nodes_p t + 0 ≡ nodes_p t = omega arith in
    subst (λ (n : ℕ). DepthOrForks (read_nodes n root 0 7 (bytes_p t))) e
    (subst (λ (l : List ℕ). DepthOrForks (read_nodes (nodes_p t + 0) root 0 7 l)) (append-nil (bytes_p t)) (proc_follows t 0 1 0 7 [] [] v (omega arith) nothing_left))

-- ---- the whole job
nodes_some : (t : Proc) → 1 ≤ nodes_p t
unfolding nodes_p
nodes_some (ValP z) = omega arith
nodes_some (AddP a b) = omega arith
nodes_some (Atomic t) = omega arith
nodes_some (Fork p) = omega arith

module _ (p : Proc) (v : ValuedP p) (l : nodes_p p < 65536) where
  counted : nodes_p p / 256 % 256 * 256 + nodes_p p % 256 ≡ nodes_p p
  counted = omega arith

  over : 1000 < nodes_p p → read_job (job_bytes 1 p) ≡ refused 4 5
  unfolding read_job read_tree job_bytes job_mark bytes16 job_marked taken
  over h = rw (le-ltb (suc (suc (suc (suc (suc (suc (suc (length (bytes_p p))))))))) 7 (omega arith), counted, le-leb 1 (nodes_p p) (nodes_some p), lt-leb (nodes_p p) 1000 h)

  within : nodes_p p ≤ 1000 → read_tree (job_bytes 1 p) ≡ whole 1 (read_nodes (nodes_p p) root 0 7 (bytes_p p))
  unfolding read_tree job_bytes job_mark bytes16 job_marked taken
  within h = rw (le-ltb (suc (suc (suc (suc (suc (suc (suc (length (bytes_p p))))))))) 7 (omega arith), counted, le-leb 1 (nodes_p p) (nodes_some p), le-leb (nodes_p p) 1000 h)

  short_last : (place : ℕ) (t : Proc) (o : Outcome (Unit {0})) → Judged place t o → (j : Job) (number i : ℕ) → mapped (λ (u : Unit {0}). j) o ≡ refused number i → number ≡ 14
  short_last place t _ (short h) j number i e = absurd (let z : ◌≡◌ {A = ℕ} 0 1 = cc in omega arith)
  short_last place t _ (long f m) j number i e = let z : number ≡ 14 = cc in z

  tests_then : (o : Outcome (Forest root)) → DepthOrForks o → (number i : ℕ) → onward (whole 1 o) short_only ≡ refused number i → (number ≡ 7) ⊎ ((number ≡ 8) ⊎ (number ≡ 14))
  tests_then (refused n q) h number i e =
      let z : n ≡ number = cc in
      subst (λ (m : ℕ). (m ≡ 7) ⊎ ((m ≡ 8) ⊎ (m ≡ 14))) z (⊎_elim (λ k. inl k) (λ k. inr (inl k)) h)
  tests_then (done ts) h number i e = inr (inr (short_last 7 ts.0 (short_from 7 ts.0) (judged 7 ts.0) _ number i e))

  pub job_follows : (number i : ℕ) → read_job (job_bytes 1 p) ≡ refused number i → (number ≡ 4) ⊎ ((number ≡ 7) ⊎ ((number ≡ 8) ⊎ (number ≡ 14)))
  unfolding read_job
  job_follows number i e = go (dec_le (nodes_p p) 1000)
    where
      go : Dec (nodes_p p ≤ 1000) → (number ≡ 4) ⊎ ((number ≡ 7) ⊎ ((number ≡ 8) ⊎ (number ≡ 14)))
      go (yes h) = inr (tests_then (read_nodes (nodes_p p) root 0 7 (bytes_p p)) (tree_follows p v) number i (sym (ap (λ (o : Outcome Job). onward o short_only) (within h)) ∙ e))
      go (no h) = inl (let z : refused 4 5 ≡ refused number i = sym (over (omega arith)) ∙ e in let y : number ≡ 4 = cc in y)
