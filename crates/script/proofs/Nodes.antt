-- What `node_at` finds, told by cases of what stands there. Assumes nothing.
use Prim.Native.Nat.{ℕ, zero, suc, ◌+◌, ◌*◌, ◌≤◌, ◌<◌}
use mathlib.Core.Path.{◌≡◌, refl, sym, ap, ◌∙◌}
use mathlib.Core.Bool.{true, false, ◌&&◌}
use mathlib.Core.List.{List, [], ◌∷◌, ◌++◌}
use native.Mathlib.Decide.{dec_lt}
use native.Mathlib.Omega.{arith}
use lib.Dec.{leb, ltb}
use lib.IntN.{ℤ}
use lib.ListN.{length}
use borrow.Author.Tests.{lt-ltb, le-ltb, le-leb, lt-leb}
use Rattle.script.specs.Tree.{Sort, process, transaction}
use Rattle.script.specs.Bytes.{Bytes, bytes32, Node, VALP, ADDP, ATOMIC, FORK, VALT, ADDT, READ, WRITE, node_bytes}
use Rattle.script.specs.Outcome.{Outcome, refused, done}
use Rattle.script.specs.Jobs.{operand, fork_of}
use Rattle.script.specs.Reader.{permitted, node_of, node_at}
use Rattle.script.specs.Refusal.{Permitted, ValuedN}
use Rattle.script.proofs.Numbers.{number_read, number_written, small32, bytes_head, bytes_tail}
use Rattle.word.specs.Sum.{InRange, residue, signed}
use Rattle.word.proofs.Sums.{signed_in_range}

-- a kind byte where a sort is due
pub data Kind : Sort → ℕ → Type 0 where
  val_p : Kind process 1
  add_p : Kind process 2
  atomic : Kind process 3
  fork : Kind process 4
  val_t : Kind transaction 5
  add_t : Kind transaction 6
  read : Kind transaction 7
  write : Kind transaction 8
  other : {s : Sort} {k : ℕ} → (Permitted s k → ⊥) → Kind s k

pub kind_of : (s : Sort) (k : ℕ) → Kind s k
kind_of process zero = let n : Permitted process zero → ⊥ = omega arith in other n
kind_of process (suc zero) = val_p
kind_of process (suc (suc zero)) = add_p
kind_of process (suc (suc (suc zero))) = atomic
kind_of process (suc (suc (suc (suc zero)))) = fork
kind_of process (suc (suc (suc (suc (suc k))))) = let n : Permitted process (suc (suc (suc (suc (suc k))))) → ⊥ = omega arith in other n
kind_of transaction zero = let n : Permitted transaction zero → ⊥ = omega arith in other n
kind_of transaction (suc zero) = let n : Permitted transaction (suc zero) → ⊥ = omega arith in other n
kind_of transaction (suc (suc zero)) = let n : Permitted transaction (suc (suc zero)) → ⊥ = omega arith in other n
kind_of transaction (suc (suc (suc zero))) = let n : Permitted transaction (suc (suc (suc zero))) → ⊥ = omega arith in other n
kind_of transaction (suc (suc (suc (suc zero)))) = let n : Permitted transaction (suc (suc (suc (suc zero)))) → ⊥ = omega arith in other n
kind_of transaction (suc (suc (suc (suc (suc zero))))) = val_t
kind_of transaction (suc (suc (suc (suc (suc (suc zero)))))) = add_t
kind_of transaction (suc (suc (suc (suc (suc (suc (suc zero))))))) = read
kind_of transaction (suc (suc (suc (suc (suc (suc (suc (suc zero)))))))) = write
kind_of transaction (suc (suc (suc (suc (suc (suc (suc (suc (suc k))))))))) = let n : Permitted transaction (suc (suc (suc (suc (suc (suc (suc (suc (suc k))))))))) → ⊥ = omega arith in other n

pub permitted_yes : (s : Sort) (k : ℕ) → Permitted s k → permitted s k ≡ true
unfolding permitted
permitted_yes process k h = rw (le-leb 1 k h.0, le-leb k 4 h.1)
permitted_yes transaction k h = rw (le-leb 5 k h.0, le-leb k 8 h.1)

pub permitted_no : (s : Sort) (k : ℕ) → (Permitted s k → ⊥) → permitted s k ≡ false
unfolding permitted
permitted_no s k h = go s k (kind_of s k) h
  where
    low : (a b k : ℕ) → ((a ≤ k) × (k ≤ b) → ⊥) → Dec (k < a) → (leb a k && leb k b) ≡ false
    low a b k h (yes l) = rw (lt-leb a k l)
    low a b k h (no l) = go' (dec_lt b k)
      where
        go' : Dec (b < k) → (leb a k && leb k b) ≡ false
        go' (yes m) = rw (le-leb a k (omega arith), lt-leb k b m)
        go' (no m) = absurd (h (omega arith, omega arith))

    go : (s : Sort) (k : ℕ) → Kind s k → (Permitted s k → ⊥) → permitted s k ≡ false
    go process k v h = low 1 4 k h (dec_lt k 1)
    go transaction k v h = low 5 8 k h (dec_lt k 5)

-- what stands where a node is due, and what comes of it
pub data Sees {s : Sort} (depth forks place : ℕ) : List ℕ → Outcome (Node s) → Type 0 where
  no_byte : Sees depth forks place [] (refused 1 place)
  bad_kind : {k : ℕ} {rest : List ℕ} → (Permitted s k → ⊥) → Sees depth forks place (k ∷ rest) (refused 5 place)
  too_deep : {k : ℕ} {rest : List ℕ} → Permitted s k → 64 < depth → Sees depth forks place (k ∷ rest) (refused 7 place)
  cut : {k : ℕ} {rest : List ℕ} → Permitted s k → depth ≤ 64 → length rest < operand k → Sees depth forks place (k ∷ rest) (refused 1 (place + suc (length rest)))
  bad_register : {k v : ℕ} {rest : List ℕ} → Permitted s k → depth ≤ 64 → operand k ≡ 1 → 64 ≤ v → Sees depth forks place (k ∷ v ∷ rest) (refused 6 (place + 1))
  many_forks : {rest : List ℕ} → Permitted s 4 → depth ≤ 64 → 15 ≤ forks → Sees depth forks place (4 ∷ rest) (refused 8 place)
  good : (node : Node s) {bs : List ℕ} (rest : List ℕ) → ValuedN node → depth ≤ 64 → forks + fork_of node ≤ 15 → bs ≡ node_bytes node ++ rest → Sees depth forks place bs (done node)

four : (n : ℕ) (rest : List ℕ) → ltb (length (bytes32 n ++ rest)) 4 ≡ false
unfolding bytes32
four n rest = le-ltb (suc (suc (suc (suc (length rest))))) 4 (omega arith)

-- a node that passes its tests is the one that is read
pub node_reads : {s : Sort} (node : Node s) (depth forks place : ℕ) (rest : List ℕ) → ValuedN node → depth ≤ 64 → forks + fork_of node ≤ 15 → node_at (record { sort = s; depth = depth }) forks place (node_bytes node ++ rest) ≡ done node
unfolding node_at node_bytes permitted operand node_of fork_of
node_reads (VALP n) depth forks place rest v h f =
    let e : ltb (length (bytes32 (residue n) ++ rest)) 4 ≡ false = four (residue n) rest in
    rw (le-ltb 64 depth h, e, number_read n v rest)
node_reads ADDP depth forks place rest v h f = rw (le-ltb 64 depth h, le-ltb (length rest) 0 (omega arith))
node_reads ATOMIC depth forks place rest v h f = rw (le-ltb 64 depth h, le-ltb (length rest) 0 (omega arith))
node_reads FORK depth forks place rest v h f = rw (le-ltb 64 depth h, le-ltb (length rest) 0 (omega arith), lt-leb 15 forks (omega arith))
node_reads (VALT n) depth forks place rest v h f =
    let e : ltb (length (bytes32 (residue n) ++ rest)) 4 ≡ false = four (residue n) rest in
    rw (le-ltb 64 depth h, e, number_read n v rest)
node_reads ADDT depth forks place rest v h f = rw (le-ltb 64 depth h, le-ltb (length rest) 0 (omega arith))
node_reads (READ r) depth forks place rest v h f = rw (le-ltb 64 depth h, le-ltb (suc (length rest)) 1 (omega arith), lt-leb 64 r v)
node_reads (WRITE r) depth forks place rest v h f = rw (le-ltb 64 depth h, le-ltb (suc (length rest)) 1 (omega arith), lt-leb 64 r v)

four_has_none : operand 4 ≡ 0
unfolding operand
four_has_none = refl

-- what `node_at` answers is what is seen
pub node_sees : {s : Sort} {depth forks place : ℕ} {bs : List ℕ} {o : Outcome (Node s)} → Sees depth forks place bs o → node_at (record { sort = s; depth = depth }) forks place bs ≡ o
unfolding node_at
node_sees no_byte = refl
node_sees {s = s} (bad_kind {k = k} n) = rw (permitted_no s k n)
node_sees {s = s} {depth = depth} (too_deep {k = k} p h) = rw (permitted_yes s k p, lt-ltb 64 depth h)
node_sees {s = s} {depth = depth} (cut {k = k} {rest = rest} p h l) =
    rw (permitted_yes s k p, le-ltb 64 depth h, lt-ltb (length rest) (operand k) l)
node_sees {s = s} {depth = depth} (bad_register {k = k} {v = v} {rest = rest} p h e l) =
    rw (permitted_yes s k p, le-ltb 64 depth h, e, le-ltb (suc (length rest)) 1 (omega arith), le-leb 64 v l)
node_sees {s = s} {depth = depth} {forks = forks} (many_forks {rest = rest} p h l) =
    rw (permitted_yes s 4 p, le-ltb 64 depth h, four_has_none, le-ltb (length rest) 0 (omega arith), le-leb 15 forks l)
node_sees {depth = depth} {forks = forks} {place = place} (good node rest v h f e) = rw e (node_reads node depth forks place rest v h f)

-- what is seen where some sort is due
pub record Seen (s : Sort) (depth forks place : ℕ) (bs : List ℕ) : Type 0 where
  pub outcome : Outcome (Node s)
  pub sees : Sees depth forks place bs outcome

module _ (depth forks place : ℕ) where
  seen_flat : {s : Sort} (k : ℕ) (rest : List ℕ) → Permitted s k → (depth ≤ 64 → Seen s depth forks place (k ∷ rest)) → Seen s depth forks place (k ∷ rest)
  seen_flat {s} k rest p f = go (dec_lt 64 depth)
    where
      go : Dec (64 < depth) → Seen s depth forks place (k ∷ rest)
      go (yes h) = record { outcome = refused 7 place; sees = too_deep p h }
      go (no h) = f (omega arith)

  -- a node with no operand, or a FORK too many
  seen_bare : {s : Sort} (node : Node s) (k : ℕ) (rest : List ℕ) → Permitted s k → ValuedN node → forks + fork_of node ≤ 15 → k ∷ rest ≡ node_bytes node ++ rest → Seen s depth forks place (k ∷ rest)
  seen_bare node k rest p v f e = seen_flat k rest p (λ h. record { outcome = done node; sees = good node rest v h f e })

  -- a node with a number of four bytes
  seen_number : {s : Sort} (make : ℤ → Node s) (k : ℕ) (rest : List ℕ) → Bytes rest → Permitted s k → operand k ≡ 4 → ((z : ℤ) → InRange z → ValuedN (make z)) → ((z : ℤ) → forks + fork_of (make z) ≤ 15) → ((z : ℤ) → node_bytes (make z) ≡ k ∷ bytes32 (residue z)) → Seen s depth forks place (k ∷ rest)
  seen_number {s} make k rest b p o v f e = seen_flat k rest p (λ h. go rest b h)
    where
      short : (rest : List ℕ) → depth ≤ 64 → length rest < 4 → Seen s depth forks place (k ∷ rest)
      short rest h l = record { outcome = refused 1 (place + suc (length rest)); sees = cut {k = k} {rest = rest} p h (rw o l) }

      go : (rest : List ℕ) → Bytes rest → depth ≤ 64 → Seen s depth forks place (k ∷ rest)
      go [] b h = short [] h (omega arith)
      go (x ∷ []) b h = short (x ∷ []) h (omega arith)
      go (x ∷ y ∷ []) b h = short (x ∷ y ∷ []) h (omega arith)
      go (x ∷ y ∷ z ∷ []) b h = short (x ∷ y ∷ z ∷ []) h (omega arith)
      go (x ∷ y ∷ z ∷ w ∷ rest) b h =
          let px : x < 256 = bytes_head b in
          let py : y < 256 = bytes_head (bytes_tail b) in
          let pz : z < 256 = bytes_head (bytes_tail (bytes_tail b)) in
          let pw : w < 256 = bytes_head (bytes_tail (bytes_tail (bytes_tail b))) in
          let n : ℕ = ((x * 256 + y) * 256 + z) * 256 + w in
          let r : InRange (signed n) = signed_in_range n (small32 x y z w px py pz pw) in
          record {
            outcome = done (make (signed n));
            sees = good (make (signed n)) rest (v (signed n) r) h (f (signed n)) (sym (ap (λ (l : List ℕ). l ++ rest) (e (signed n) ∙ ap (λ (l : List ℕ). k ∷ l) (number_written x y z w px py pz pw))));
          }

  -- a node with a register
  seen_register : {s : Sort} (make : ℕ → Node s) (k : ℕ) (rest : List ℕ) → Permitted s k → operand k ≡ 1 → ((r : ℕ) → r < 64 → ValuedN (make r)) → ((r : ℕ) → forks + fork_of (make r) ≤ 15) → ((r : ℕ) → node_bytes (make r) ≡ k ∷ r ∷ []) → Seen s depth forks place (k ∷ rest)
  seen_register {s} make k rest p o v f e = seen_flat k rest p (λ h. go rest h)
    where
      go : (rest : List ℕ) → depth ≤ 64 → Seen s depth forks place (k ∷ rest)
      go [] h = record { outcome = refused 1 (place + suc 0); sees = cut {k = k} {rest = []} p h (rw o (omega arith)) }
      go (r ∷ rest) h = pick (dec_lt r 64)
        where
          pick : Dec (r < 64) → Seen s depth forks place (k ∷ r ∷ rest)
          pick (yes l) = record { outcome = done (make r); sees = good (make r) rest (v r l) h (f r) (sym (ap (λ (l : List ℕ). l ++ rest) (e r))) }
          pick (no l) = record { outcome = refused 6 (place + 1); sees = bad_register {k = k} {v = r} p h o (omega arith) }

  -- something is seen, whatever stands there
  pub seen : (s : Sort) (bs : List ℕ) → Bytes bs → forks ≤ 15 → Seen s depth forks place bs
  unfolding node_bytes operand fork_of
  seen s [] b f = record { outcome = refused 1 place; sees = no_byte }
  seen s (k ∷ rest) b f = go s k (kind_of s k)
    where
      go : (s : Sort) (k : ℕ) → Kind s k → Seen s depth forks place (k ∷ rest)
      go process k val_p = seen_number VALP 1 rest (bytes_tail b) (omega arith) refl (λ z h. h) (λ z. omega arith) (λ z. refl)
      go process k add_p = seen_bare ADDP 2 rest (omega arith) tt (omega arith) refl
      go process k atomic = seen_bare ATOMIC 3 rest (omega arith) tt (omega arith) refl
      go process k fork = pick (dec_lt forks 15)
        where
          pick : Dec (forks < 15) → Seen process depth forks place (4 ∷ rest)
          pick (yes l) = seen_bare FORK 4 rest (omega arith) tt (omega arith) refl
          pick (no l) = seen_flat 4 rest (omega arith) (λ h. record { outcome = refused 8 place; sees = many_forks (omega arith) h (omega arith) })
      go transaction k val_t = seen_number VALT 5 rest (bytes_tail b) (omega arith) refl (λ z h. h) (λ z. omega arith) (λ z. refl)
      go transaction k add_t = seen_bare ADDT 6 rest (omega arith) tt (omega arith) refl
      go transaction k read = seen_register READ 7 rest (omega arith) refl (λ r h. h) (λ r. omega arith) (λ r. refl)
      go transaction k write = seen_register WRITE 8 rest (omega arith) refl (λ r h. h) (λ r. omega arith) (λ r. refl)
      go s k (other n) = record { outcome = refused 5 place; sees = bad_kind n }
