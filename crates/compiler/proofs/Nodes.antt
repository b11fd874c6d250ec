-- What a job says of the tree that it has at a place, by its kind byte. Assumes nothing.
use Prim.Native.Nat.{ℕ, zero, suc, ◌+◌, ◌≤◌, ◌<◌, max}
use mathlib.Core.Bool.{Bool, true, false}
use mathlib.Core.Logic.{◌⊎◌, inl, inr}
use mathlib.Core.Path.{◌≡◌, refl, sym, ap, subst, ◌∙◌}
use mathlib.Core.List.{List, [], ◌∷◌, ◌++◌, append_assoc, append-nil}
use native.Mathlib.Nat.{add_assoc}
use native.Mathlib.Numerals.{add-one}
use native.Mathlib.Omega.{arith}
use lib.Dec.{eqb}
use lib.ListN.{length, drop, get_or, length-append}
use lib.Seq.{drop-drop, drop_at, drop-nil}
use borrow.Author.Tests.{ne_eqb}
use Rattle.compiler.specs.InnerEmit.{Has, tree_code, fork_bytes, push_bytes, read_bytes}
use Rattle.code.specs.Compile.{ε}
use Rattle.code.specs.Bytes.{instructions_bytes}
use Rattle.code.proofs.Flat.{flat_t, flat_p, flat_tran, flat_proc}
use Rattle.script.specs.Tree.{Tran, ValT, AddT, Read, Write, Proc, ValP, AddP, Atomic, Fork, Sort, process, transaction, Tree}
use Rattle.script.specs.Count.{depth_t, depth_p}
use Rattle.script.specs.InnerTrees.{depth, bytes}
use Rattle.script.specs.Bytes.{bytes_t, bytes_p, bytes32, node_bytes}
use Rattle.word.specs.Sum.{residue}

-- ---- what stands at a place
cons_at : (s : List ℕ) (i x : ℕ) (xs : List ℕ) → drop i s ≡ x ∷ xs → (i < length s) × (get_or s i 0 ≡ x) × (drop (i + 1) s ≡ xs)
cons_at [] i x xs e = absurd (omega (arith, ap length (sym (drop-nil i) ∙ e)))
cons_at (y ∷ s) zero x xs e = (omega arith, cc, cc)
cons_at (y ∷ s) (suc i) x xs e =
    let h = cons_at s i x xs e in
    (omega arith, h.1, rw (add-one (suc i)) (rw (add-one i) at h.2))

-- a text that has xs and then more at a place has the rest after them
after : (s : List ℕ) (i : ℕ) (xs ys : List ℕ) → drop i s ≡ xs ++ ys → drop (i + length xs) s ≡ ys
after s i xs ys e = sym (drop-drop (length xs) i s) ∙ (ap (drop (length xs)) e ∙ drop_at xs ys (length xs) refl)

-- ---- a tree's code
tran_code : (t : Tran) → tree_code transaction t ≡ flat_t t
unfolding instructions_bytes
tran_code t = flat_tran t ε ∙ append-nil (flat_t t)

proc_code : (p : Proc) → tree_code process p ≡ flat_p p
unfolding instructions_bytes
proc_code p = flat_proc p ε ∙ append-nil (flat_p p)

-- ---- the node at a place: VALP and VALT; READ; a node with one part, whose code stands between two others; a node with two parts
pub record PushAt (bs : List ℕ) (i : ℕ) (s : Sort) (t : Tree s) : Type 0 where
  pub within : i + 5 ≤ length bs
  pub text : length (bytes s t) ≡ 5
  pub runs : tree_code s t ≡ push_bytes bs i

pub record ReadAt (bs : List ℕ) (i : ℕ) (s : Sort) (t : Tree s) : Type 0 where
  pub within : i + 2 ≤ length bs
  pub text : length (bytes s t) ≡ 2
  pub runs : tree_code s t ≡ read_bytes bs i

pub record OneAt (bs : List ℕ) (i k : ℕ) (front : ℕ → List ℕ) (behind : List ℕ) (s : Sort) (t : Tree s) : Type 0 where
  pub sort : Sort
  pub tree : Tree sort
  pub within : i + k ≤ length bs
  pub there : Has bs (i + k) sort tree
  pub text : length (bytes s t) ≡ k + length (bytes sort tree)
  pub deep : depth s t ≡ suc (depth sort tree)
  pub runs : tree_code s t ≡ front (length (tree_code sort tree)) ++ (tree_code sort tree ++ behind)

pub record TwoAt (bs : List ℕ) (i : ℕ) (s : Sort) (t : Tree s) : Type 0 where
  pub left : Tree s
  pub right : Tree s
  pub within : i + 1 ≤ length bs
  pub first : Has bs (i + 1) s left
  pub second : Has bs (i + 1 + length (bytes s left)) s right
  pub text : length (bytes s t) ≡ 1 + length (bytes s left) + length (bytes s right)
  pub deep : depth s t ≡ suc (max (depth s left) (depth s right))
  pub runs : tree_code s t ≡ tree_code s left ++ (tree_code s right ++ (2 ∷ []))

abbrev pub AtomicAt : List ℕ → ℕ → (s : Sort) → Tree s → Type 0
AtomicAt bs i = OneAt bs i 1 (λ n. 5 ∷ []) (6 ∷ [])

abbrev pub ForkAt : List ℕ → ℕ → (s : Sort) → Tree s → Type 0
ForkAt bs i = OneAt bs i 1 fork_bytes []

abbrev pub WriteAt : List ℕ → ℕ → (s : Sort) → Tree s → Type 0
WriteAt bs i = OneAt bs i 2 (λ n. []) (4 ∷ get_or bs (i + 1) 0 ∷ [])

abbrev pick : Bool → Type 0 → Type 0 → Type 0
pick true a b = a
pick false a b = b

abbrev View : List ℕ → ℕ → (s : Sort) → Tree s → ℕ → Type 0
View bs i s t kind =
    pick
    (eqb kind 1)
    (PushAt bs i s t)
    (pick
    (eqb kind 5)
    (PushAt bs i s t)
    (pick
    (eqb kind 3)
    (AtomicAt bs i s t)
    (pick
    (eqb kind 4)
    (ForkAt bs i s t)
    (pick
    (eqb kind 7)
    (ReadAt bs i s t)
    (pick (eqb kind 8) (WriteAt bs i s t) (pick (eqb kind 2) (TwoAt bs i s t) (pick (eqb kind 6) (TwoAt bs i s t) ⊥)))))))

module _ (bs : List ℕ) (i : ℕ) where
  -- four bytes behind the kind byte
  record FourAt (a b c d : ℕ) : Type 0 where
    within : i + 5 ≤ length bs
    is₁ : get_or bs (i + 1) 0 ≡ a
    is₂ : get_or bs (i + 2) 0 ≡ b
    is₃ : get_or bs (i + 3) 0 ≡ c
    is₄ : get_or bs (i + 4) 0 ≡ d

  four_at : (a b c d : ℕ) (rest : List ℕ) → drop (i + 1) bs ≡ a ∷ b ∷ c ∷ d ∷ rest → FourAt a b c d
  four_at a b c d rest e =
      let p₁ = cons_at bs (i + 1) a (b ∷ c ∷ d ∷ rest) e in
      let p₂ = cons_at bs (i + 2) b (c ∷ d ∷ rest) (rw (add_assoc i 1 1) at p₁.2) in
      let p₃ = cons_at bs (i + 3) c (d ∷ rest) (rw (add_assoc i 2 1) at p₂.2) in
      let p₄ = cons_at bs (i + 4) d rest (rw (add_assoc i 3 1) at p₃.2) in
      record { within = omega arith; is₁ = p₁.1; is₂ = p₂.1; is₃ = p₃.1; is₄ = p₄.1 }

  view_tran : (t : Tran) → Has bs i transaction t → View bs i transaction t (get_or bs i 0)
  unfolding bytes_t node_bytes depth_t flat_t bytes32
  view_tran (ValT n) h =
      let k = cons_at bs i 5 (bytes32 (residue n) ++ h.rest) h.text in
      let f = four_at _ _ _ _ h.rest k.2 in
      subst (View bs i transaction (ValT n)) (sym k.1) (record {
        within = f.within;
        text = refl;
        runs = rw (tran_code (ValT n), f.is₁, f.is₂, f.is₃, f.is₄);
      })
  view_tran (AddT a b) h =
      let k = cons_at bs i 6 ((bytes_t a ++ bytes_t b) ++ h.rest) h.text in
      let e : drop (i + 1) bs ≡ bytes_t a ++ (bytes_t b ++ h.rest) = k.2 ∙ append_assoc (bytes_t a) (bytes_t b) h.rest in
      subst (View bs i transaction (AddT a b)) (sym k.1) (record {
        left = a;
        right = b;
        within = omega arith;
        first = record { rest = bytes_t b ++ h.rest; text = e };
        second = record { rest = h.rest; text = after bs (i + 1) (bytes_t a) (bytes_t b ++ h.rest) e };
        text = rw (length-append (bytes_t a) (bytes_t b)) (omega arith);
        deep = refl;
        runs = rw (tran_code (AddT a b), tran_code a, tran_code b);
      })
  view_tran (Read v) h =
      let k = cons_at bs i 7 (v ∷ h.rest) h.text in
      let l = cons_at bs (i + 1) v h.rest k.2 in
      subst (View bs i transaction (Read v)) (sym k.1) (record {
        within = omega arith;
        text = refl;
        runs = rw (tran_code (Read v), l.1);
      })
  view_tran (Write v t) h =
      let k = cons_at bs i 8 (v ∷ (bytes_t t ++ h.rest)) h.text in
      let l = cons_at bs (i + 1) v (bytes_t t ++ h.rest) k.2 in
      subst (View bs i transaction (Write v t)) (sym k.1) (record {
        sort = transaction;
        tree = t;
        within = omega arith;
        there = record { rest = h.rest; text = rw (add_assoc i 1 1) at l.2 };
        text = omega arith;
        deep = refl;
        runs = rw (tran_code (Write v t), tran_code t, l.1);
      })

  view_proc : (p : Proc) → Has bs i process p → View bs i process p (get_or bs i 0)
  unfolding bytes_p node_bytes depth_p flat_p bytes32
  view_proc (ValP n) h =
      let k = cons_at bs i 1 (bytes32 (residue n) ++ h.rest) h.text in
      let f = four_at _ _ _ _ h.rest k.2 in
      subst (View bs i process (ValP n)) (sym k.1) (record {
        within = f.within;
        text = refl;
        runs = rw (proc_code (ValP n), f.is₁, f.is₂, f.is₃, f.is₄);
      })
  view_proc (AddP a b) h =
      let k = cons_at bs i 2 ((bytes_p a ++ bytes_p b) ++ h.rest) h.text in
      let e : drop (i + 1) bs ≡ bytes_p a ++ (bytes_p b ++ h.rest) = k.2 ∙ append_assoc (bytes_p a) (bytes_p b) h.rest in
      subst (View bs i process (AddP a b)) (sym k.1) (record {
        left = a;
        right = b;
        within = omega arith;
        first = record { rest = bytes_p b ++ h.rest; text = e };
        second = record { rest = h.rest; text = after bs (i + 1) (bytes_p a) (bytes_p b ++ h.rest) e };
        text = rw (length-append (bytes_p a) (bytes_p b)) (omega arith);
        deep = refl;
        runs = rw (proc_code (AddP a b), proc_code a, proc_code b);
      })
  view_proc (Atomic t) h =
      let k = cons_at bs i 3 (bytes_t t ++ h.rest) h.text in
      subst (View bs i process (Atomic t)) (sym k.1) (record {
        sort = transaction;
        tree = t;
        within = omega arith;
        there = record { rest = h.rest; text = k.2 };
        text = omega arith;
        deep = refl;
        runs = rw (proc_code (Atomic t), tran_code t);
      })
  view_proc (Fork p) h =
      let k = cons_at bs i 4 (bytes_p p ++ h.rest) h.text in
      subst (View bs i process (Fork p)) (sym k.1) (record {
        sort = process;
        tree = p;
        within = omega arith;
        there = record { rest = h.rest; text = k.2 };
        text = omega arith;
        deep = refl;
        runs = rw (proc_code (Fork p), proc_code p, append-nil);
      })

  view : (s : Sort) (t : Tree s) → Has bs i s t → View bs i s t (get_or bs i 0)
  view process p h = view_proc p h
  view transaction t h = view_tran t h

  -- by the kind byte
  module _ (s : Sort) (t : Tree s) (h : Has bs i s t) where
    pub as_push : (get_or bs i 0 ≡ 1) ⊎ (get_or bs i 0 ≡ 5) → PushAt bs i s t
    as_push (inl e) = subst (View bs i s t) e (view s t h)
    as_push (inr e) = subst (View bs i s t) e (view s t h)

    pub as_atomic : get_or bs i 0 ≡ 3 → AtomicAt bs i s t
    as_atomic e = subst (View bs i s t) e (view s t h)

    pub as_fork : get_or bs i 0 ≡ 4 → ForkAt bs i s t
    as_fork e = subst (View bs i s t) e (view s t h)

    pub as_read : get_or bs i 0 ≡ 7 → ReadAt bs i s t
    as_read e = subst (View bs i s t) e (view s t h)

    pub as_write : get_or bs i 0 ≡ 8 → WriteAt bs i s t
    as_write e = subst (View bs i s t) e (view s t h)

    pub as_two : (get_or bs i 0 ≡ 2) ⊎ (get_or bs i 0 ≡ 6) → TwoAt bs i s t
    as_two (inl e) = subst (View bs i s t) e (view s t h)
    as_two (inr e) = subst (View bs i s t) e (view s t h)

    pub no_other : ((get_or bs i 0 ≡ 1) ⊎ (get_or bs i 0 ≡ 5) → ⊥) → (get_or bs i 0 ≡ 3 → ⊥) → (get_or bs i 0 ≡ 4 → ⊥) → (get_or bs i 0 ≡ 7 → ⊥) → (get_or bs i 0 ≡ 8 → ⊥) → ((get_or bs i 0 ≡ 2) ⊎ (get_or bs i 0 ≡ 6) → ⊥) → ⊥
    no_other a b c d e f =
        rw (ne_eqb _ _ (λ k. a (inl k)), ne_eqb _ _ (λ k. a (inr k)), ne_eqb _ _ b, ne_eqb _ _ c, ne_eqb _ _ d, ne_eqb _ _ e, ne_eqb _ _ (λ k. f (inl k)), ne_eqb _ _ (λ k. f (inr k))) at (view s t h)

-- a kind byte stands there
some_tran : (bs : List ℕ) (i : ℕ) (t : Tran) → Has bs i transaction t → i < length bs
unfolding bytes_t node_bytes
some_tran bs i (ValT n) h = (cons_at bs i 5 _ h.text).0
some_tran bs i (AddT a b) h = (cons_at bs i 6 _ h.text).0
some_tran bs i (Read v) h = (cons_at bs i 7 _ h.text).0
some_tran bs i (Write v t) h = (cons_at bs i 8 _ h.text).0

some_proc : (bs : List ℕ) (i : ℕ) (p : Proc) → Has bs i process p → i < length bs
unfolding bytes_p node_bytes
some_proc bs i (ValP n) h = (cons_at bs i 1 _ h.text).0
some_proc bs i (AddP a b) h = (cons_at bs i 2 _ h.text).0
some_proc bs i (Atomic t) h = (cons_at bs i 3 _ h.text).0
some_proc bs i (Fork p) h = (cons_at bs i 4 _ h.text).0

pub some : (bs : List ℕ) (i : ℕ) (s : Sort) (t : Tree s) → Has bs i s t → i < length bs
some bs i process p h = some_proc bs i p h
some bs i transaction t h = some_tran bs i t h
