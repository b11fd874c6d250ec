-- Reading code back gives the job that it was compiled from, and what is read back is the code of a job within the limits. Assumes nothing.
use Prim.Native.Nat.{ℕ, zero, suc, ◌+◌, ◌-◌, ◌*◌, ◌/◌, ◌%◌, ◌≤◌, ◌<◌}
use mathlib.Core.Path.{◌≡◌, refl, sym, ap, subst, ◌∙◌}
use mathlib.Core.Bool.{Bool, true, false, not}
use mathlib.Core.List.{List, [], ◌∷◌, ◌++◌, append_assoc, append-nil}
use native.Mathlib.Omega.{arith}
use lib.Dec.{eqb, leb, ltb, eqb-suc-zero}
use lib.IntN.{ℤ}
use lib.ListN.{length, length-append}
use lib.Seq.{drop_at}
use borrow.Author.Tests.{le-ltb, ltb-false, le-leb, eq-eqb, ne_eqb, eqb-true, leb-true, not-false}
use Rattle.code.specs.Bytes.{code_mark, compiled, IsCode}
use Rattle.code.specs.Ops.{Op, push, add, read, write, begin, commit, fork, size_of}
use Rattle.code.specs.Reader.{Item, proc, tran, begun, forked, value_item, sum_top, write_top, commit_top, child_ended, Done, done_with, do_op, ends_after, OpenParts, ended_at, ended, read_ops, sized, code_marked, read_code_tree, short_only, read_code}
use Rattle.code.proofs.Flat.{flat_t, flat_p, compiled_flat, flat_length_p}
use Rattle.code.proofs.Ops.{op_bytes, ValuedO, op_length, op_reads, Sees, good, bad, seen}
use Rattle.script.specs.Tree.{Tran, ValT, AddT, Read, Write, Proc, ValP, AddP, Atomic, Fork}
use Rattle.script.specs.Count.{nodes_t, nodes_p, depth_p, forks, atomics, instructions, longest_nodes, code_t, code_p}
use Rattle.script.specs.Limits.{ValuedT, ValuedP, Sized, Within}
use Rattle.script.specs.Bytes.{Bytes, bytes16, bytes32}
use Rattle.script.specs.Outcome.{Outcome, refused, done, onward}
use Rattle.script.specs.Jobs.{Job}
use Rattle.script.specs.Reader.{taken}
use Rattle.script.specs.Refusal.{Taken}
use Rattle.script.proofs.Numbers.{bytes16_number16, bytes_drop, bytes_head, bytes_tail}
use Rattle.script.proofs.Reading.{bytes_behind}
use Rattle.script.proofs.Accepts.{passed, both}
use Rattle.word.specs.Sum.{InRange, residue}

-- the innermost open child ends at this place or behind it
abbrev Ahead : ℕ → List ℕ → Type 0
Ahead q [] = Unit {0}
Ahead q (e ∷ es) = q ≤ e

ahead_less : (a b : ℕ) (es : List ℕ) → a ≤ b → Ahead b es → Ahead a es
ahead_less a b [] l h = tt
ahead_less a b (e ∷ es) l h = omega arith

none_closed : (q : ℕ) (es : List ℕ) (s : List Item) → Ahead (suc q) es → ended_at q es s ≡ done (record { ends = es; items = s })
unfolding ended_at
none_closed q [] s h = refl
none_closed q (e ∷ es) s h = rw (ne_eqb q e (omega arith), ended_at)

op_some : (op : Op) (rest : List ℕ) → eqb (length (op_bytes op ++ rest)) 0 ≡ false
unfolding op_bytes
op_some (push n) rest = eqb-suc-zero (length (bytes32 (residue n) ++ rest))
op_some add rest = eqb-suc-zero (length rest)
op_some (read v) rest = eqb-suc-zero (suc (length rest))
op_some (write v) rest = eqb-suc-zero (suc (length rest))
op_some begin rest = eqb-suc-zero (length rest)
op_some commit rest = eqb-suc-zero (length rest)
op_some (fork size) rest = eqb-suc-zero (length (bytes16 size ++ rest))

-- one instruction is read
one_op : (op : Op) (fuel : ℕ) (inside : Bool) (s : List Item) (es : List ℕ) (q : ℕ) (rest : List ℕ) (next : Done) → ValuedO op → Ahead (suc q) es → do_op op inside s ≡ done next → read_ops (suc fuel) inside s es q (op_bytes op ++ rest) ≡ read_ops fuel next.inside next.items (ends_after op q es) (q + size_of op) rest
unfolding read_ops
one_op op fuel inside s es q rest next v h e =
    rw (none_closed q es s h, op_some op rest, op_reads op rest v, e, drop_at (op_bytes op) rest (size_of op) (op_length op))

-- a child that ends here is closed when the next instruction is read, or at the end of the code
one_closed : (p : Proc) (n : ℕ) (s : List Item) (es : List ℕ) (q : ℕ) → ended_at q (q ∷ es) (proc p ∷ forked n ∷ s) ≡ ended_at q es (proc (Fork p) ∷ s)
unfolding ended_at
one_closed p n s es q = rw (eq-eqb q q refl, ended_at)

child_closes : (fuel : ℕ) (p : Proc) (n : ℕ) (s : List Item) (es : List ℕ) (q : ℕ) (rest : List ℕ) → read_ops fuel false (proc p ∷ forked n ∷ s) (q ∷ es) q rest ≡ read_ops fuel false (proc (Fork p) ∷ s) es q rest
unfolding read_ops
child_closes zero p n s es q rest = refl
child_closes (suc fuel) p n s es q rest = rw (one_closed p n s es q, read_ops)

two_parts : (a b c rest : List ℕ) → a ++ (b ++ c) ++ rest ≡ a ++ (b ++ (c ++ rest))
two_parts a b c rest = simp append_assoc

-- a transaction's code is read: it stands on the stack
read_tran : (t : Tran) (fuel : ℕ) (s : List Item) (es : List ℕ) (q : ℕ) (rest : List ℕ) → ValuedT t → Ahead (q + code_t t) es → read_ops (nodes_t t + fuel) true s es q (flat_t t ++ rest) ≡ read_ops fuel true (tran t ∷ s) es (q + code_t t) rest
unfolding nodes_t code_t flat_t op_bytes do_op
read_tran (ValT n) fuel s es q rest v h =
    let e : 1 + fuel ≡ suc fuel = omega arith in
    rw e (one_op (push n) fuel true s es q rest (record { items = tran (ValT n) ∷ s; inside = true }) v (ahead_less _ _ es (omega arith) h) refl)
read_tran (AddT a b) fuel s es q rest v h =
    let e : suc (nodes_t a + nodes_t b) + fuel ≡ nodes_t a + (nodes_t b + suc fuel) = omega arith in
    let place : q + code_t a + code_t b + 1 ≡ q + (code_t a + code_t b + 1) = omega arith in
    rw (
      e,
      two_parts (flat_t a) (flat_t b) (2 ∷ []) rest,
      read_tran a (nodes_t b + suc fuel) s es q (flat_t b ++ (2 ∷ rest)) v.0 (ahead_less _ _ es (omega arith) h),
      read_tran b (suc fuel) (tran a ∷ s) es (q + code_t a) (2 ∷ rest) v.1 (ahead_less _ _ es (omega arith) h),
      one_op add fuel true (tran b ∷ tran a ∷ s) es (q + code_t a + code_t b) rest (record { items = tran (AddT a b) ∷ s; inside = true }) tt (ahead_less _ _ es (omega arith) h) refl,
      place,
    )
read_tran (Read r) fuel s es q rest v h =
    let e : 1 + fuel ≡ suc fuel = omega arith in
    rw e (one_op (read r) fuel true s es q rest (record { items = tran (Read r) ∷ s; inside = true }) v (ahead_less _ _ es (omega arith) h) refl)
read_tran (Write r t) fuel s es q rest v h =
    let e : suc (nodes_t t) + fuel ≡ nodes_t t + suc fuel = omega arith in
    let place : q + code_t t + 2 ≡ q + (code_t t + 2) = omega arith in
    rw (
      e,
      append_assoc (flat_t t) (4 ∷ r ∷ []) rest,
      read_tran t (suc fuel) s es q (4 ∷ r ∷ rest) v.1 (ahead_less _ _ es (omega arith) h),
      one_op (write r) fuel true (tran t ∷ s) es (q + code_t t) rest (record { items = tran (Write r t) ∷ s; inside = true }) v.0 (ahead_less _ _ es (omega arith) h) refl,
      place,
    )

-- so is a process's
read_proc : (p : Proc) (fuel : ℕ) (s : List Item) (es : List ℕ) (q : ℕ) (rest : List ℕ) → ValuedP p → code_p p < 65536 → Ahead (q + code_p p) es → read_ops (instructions p + fuel) false s es q (flat_p p ++ rest) ≡ read_ops fuel false (proc p ∷ s) es (q + code_p p) rest
unfolding nodes_p atomics instructions code_p flat_p op_bytes do_op
read_proc (ValP n) fuel s es q rest v l h =
    let e : 1 + 0 + fuel ≡ suc fuel = omega arith in
    rw e (one_op (push n) fuel false s es q rest (record { items = proc (ValP n) ∷ s; inside = false }) v (ahead_less _ _ es (omega arith) h) refl)
read_proc (AddP a b) fuel s es q rest v l h =
    let e : suc (nodes_p a + nodes_p b) + (atomics a + atomics b) + fuel ≡ (nodes_p a + atomics a) + ((nodes_p b + atomics b) + suc fuel) = omega arith in
    let place : q + code_p a + code_p b + 1 ≡ q + (code_p a + code_p b + 1) = omega arith in
    rw (
      e,
      two_parts (flat_p a) (flat_p b) (2 ∷ []) rest,
      read_proc a (instructions b + suc fuel) s es q (flat_p b ++ (2 ∷ rest)) v.0 (omega arith) (ahead_less _ _ es (omega arith) h),
      read_proc b (suc fuel) (proc a ∷ s) es (q + code_p a) (2 ∷ rest) v.1 (omega arith) (ahead_less _ _ es (omega arith) h),
      one_op add fuel false (proc b ∷ proc a ∷ s) es (q + code_p a + code_p b) rest (record { items = proc (AddP a b) ∷ s; inside = false }) tt (ahead_less _ _ es (omega arith) h) refl,
      place,
    )
read_proc (Atomic t) fuel s es q rest v l h =
    let e : suc (nodes_t t) + 1 + fuel ≡ suc (nodes_t t + suc fuel) = omega arith in
    let place : q + 1 + code_t t + 1 ≡ q + (code_t t + 2) = omega arith in
    rw (
      e,
      append_assoc (flat_t t) (6 ∷ []) rest,
      one_op begin (nodes_t t + suc fuel) false s es q (flat_t t ++ (6 ∷ rest)) (record { items = begun ∷ s; inside = true }) tt (ahead_less _ _ es (omega arith) h) refl,
      read_tran t (suc fuel) (begun ∷ s) es (q + 1) (6 ∷ rest) v (ahead_less _ _ es (omega arith) h),
      one_op commit fuel true (tran t ∷ begun ∷ s) es (q + 1 + code_t t) rest (record { items = proc (Atomic t) ∷ s; inside = false }) tt (ahead_less _ _ es (omega arith) h) refl,
      place,
    )
read_proc (Fork p) fuel s es q rest v l h =
    let e : suc (nodes_p p) + atomics p + fuel ≡ suc ((nodes_p p + atomics p) + fuel) = omega arith in
    let place : q + 3 + code_p p ≡ q + (code_p p + 3) = omega arith in
    rw (
      e,
      flat_length_p p,
      append_assoc (bytes16 (code_p p)) (flat_p p) rest,
      one_op (fork (code_p p)) (instructions p + fuel) false s es q (flat_p p ++ rest) (record { items = forked (code_p p) ∷ s; inside = false }) (omega arith) (ahead_less _ _ es (omega arith) h) refl,
      read_proc p fuel (forked (code_p p) ∷ s) ((q + 3 + code_p p) ∷ es) (q + 3) rest v (omega arith) (omega arith),
      child_closes fuel p (code_p p) s es (q + 3 + code_p p) rest,
      place,
    )

-- a script's code is short, and has no more instructions than bytes
code_small_t : (t : Tran) → (nodes_t t ≤ code_t t) × (code_t t ≤ 5 * nodes_t t)
unfolding nodes_t code_t
code_small_t (ValT n) = omega arith
code_small_t (AddT a b) = omega (arith, code_small_t a, code_small_t b)
code_small_t (Read v) = omega arith
code_small_t (Write v t) = omega (arith, code_small_t t)

pub code_small : (p : Proc) → (instructions p ≤ code_p p) × (code_p p ≤ 5 * nodes_p p)
unfolding nodes_p atomics instructions code_p
code_small (ValP n) = omega arith
code_small (AddP a b) = omega (arith, code_small a, code_small b)
code_small (Atomic t) = omega (arith, code_small_t t)
code_small (Fork p) = omega (arith, code_small p)

at-end : (p : Proc) (fuel q : ℕ) → read_ops (suc fuel) false (proc p ∷ []) [] q [] ≡ done p
unfolding read_ops ended_at
at-end p fuel q = refl

tree_read : (p : Proc) → Sized p → read_ops (suc (5 + length (flat_p p))) false [] [] 5 (flat_p p) ≡ done p
tree_read p w =
    let small : (instructions p ≤ code_p p) × (code_p p ≤ 5 * nodes_p p) = code_small p in
    let few : nodes_p p ≤ 1000 = w.few in
    let k : ℕ = 5 + code_p p - instructions p in
    let e : suc (5 + code_p p) ≡ instructions p + suc k = omega arith in
    let r : read_ops (instructions p + suc k) false [] [] 5 (flat_p p ++ []) ≡ done p = read_proc p (suc k) [] [] 5 [] w.valued (omega arith) tt ∙ at-end p k (5 + code_p p) in
    rw (flat_length_p p, e) (rw (append-nil (flat_p p)) at r)

-- the limits, as they are tested
pub sized_yes : (p : Proc) → nodes_p p ≤ 1000 → depth_p p ≤ 64 → forks p ≤ 15 → sized p ≡ true
unfolding sized
sized_yes p few flat narrow = rw (le-leb (nodes_p p) 1000 few, le-leb (depth_p p) 64 flat, le-leb (forks p) 15 narrow)

-- what the test of the limits tells
pub sized_back : (p : Proc) → sized p ≡ true → (nodes_p p ≤ 1000) × (depth_p p ≤ 64) × (forks p ≤ 15)
unfolding sized
sized_back p e =
    let m = both (leb (nodes_p p) 1000) _ e in
    let n = both (leb (depth_p p) 64) _ m.1 in
    (leb-true _ _ m.0, leb-true _ _ n.0, leb-true _ _ n.1)

-- the code of a job within document 01's limits is read, and gives that job
pub code_tree_read : (j : Job) → Taken j.version → Sized j.tree → read_code_tree (compiled j) ≡ done j
unfolding read_code_tree code_mark bytes16 code_marked taken
code_tree_read j v w =
    let p = j.tree in
    let e : j.version / 256 % 256 * 256 + j.version % 256 ≡ j.version = omega arith in
    let r : read_ops (suc (5 + length (flat_p p))) false [] [] 5 (flat_p p) ≡ done p = tree_read p w in
    let l : suc (5 + length (flat_p p)) ≡ suc (suc (suc (suc (suc (suc (length (flat_p p))))))) = omega arith in
    rw (
      compiled_flat j,
      le-ltb (suc (suc (suc (suc (suc (length (flat_p p))))))) 5 (omega arith),
      e,
      eq-eqb j.version 1 v,
      rw l at r,
      sized_yes p w.few w.flat w.narrow,
    )

-- so is that of a job within all limits
pub code_read : (j : Job) → Taken j.version → Within j.tree → read_code (compiled j) ≡ done j
unfolding read_code
code_read j v w = rw (code_tree_read j v w.sized, le-ltb 200 (longest_nodes j.tree) w.short)

-- the result that an outcome came from
pub record From {A B : Type 0} (f : A → Outcome B) (o : Outcome A) (b : B) : Type 0 where
  pub before : A
  pub was : o ≡ done before
  pub becomes : f before ≡ done b

-- a refusal is no result
pub never : {A : Type 0} {x : A} {n p : ℕ} → refused n p ≡ done x → ⊥
never e = let z : ◌≡◌ {A = ℕ} 0 1 = cc in omega arith

-- what goes onward to a result has come from one
pub onward_from : {A B : Type 0} (f : A → Outcome B) (o : Outcome A) (b : B) → onward o f ≡ done b → From f o b
onward_from f (refused n p) b e = absurd (never e)
onward_from f (done a) b e = record { before = a; was = refl; becomes = e }

-- equal outcomes have equal results
pub same : {A : Type 0} {x y : A} → done x ≡ done y → x ≡ y
same e = cc

-- the bytes that a stack was read from, the lowest item first
text_of : List Item → List ℕ
text_of [] = []
text_of (proc p ∷ s) = text_of s ++ flat_p p
text_of (tran t ∷ s) = text_of s ++ flat_t t
text_of (begun ∷ s) = text_of s ++ op_bytes begin
text_of (forked n ∷ s) = text_of s ++ op_bytes (fork n)

-- the ends of its open children
ends_of : List Item → List ℕ
ends_of [] = []
ends_of (proc p ∷ s) = ends_of s
ends_of (tran t ∷ s) = ends_of s
ends_of (begun ∷ s) = ends_of s
ends_of (forked n ∷ s) = (5 + length (text_of s) + 3 + n) ∷ ends_of s

abbrev Fine : List Item → Type 0
Fine [] = Unit {0}
Fine (proc p ∷ s) = ValuedP p × Fine s
Fine (tran t ∷ s) = ValuedT t × Fine s
Fine (begun ∷ s) = Fine s
Fine (forked n ∷ s) = Fine s

-- how a stack fits the place that was reached and the ends that are kept
record FitsPlace (s : List Item) (es : List ℕ) (q : ℕ) : Type 0 where
  fine : Fine s
  ends : es ≡ ends_of s
  place : q ≡ 5 + length (text_of s)

-- a stack that comes of another where no byte is read
record Becomes (s s' : List Item) (es' : List ℕ) (q : ℕ) : Type 0 where
  fits : FitsPlace s' es' q
  text : text_of s' ≡ text_of s

child_sound : (s s' : List Item) (e : ℕ) (es : List ℕ) (q : ℕ) → FitsPlace s (e ∷ es) q → q ≡ e → child_ended s ≡ done s' → Becomes s s' es q
unfolding text_of ends_of flat_p op_bytes bytes16
child_sound [] s' e es q h i d = absurd (never d)
child_sound (proc p ∷ []) s' e es q h i d = absurd (never d)
child_sound (proc p ∷ proc r ∷ s) s' e es q h i d = absurd (never d)
child_sound (proc p ∷ tran t ∷ s) s' e es q h i d = absurd (never d)
child_sound (proc p ∷ begun ∷ s) s' e es q h i d = absurd (never d)
child_sound (proc p ∷ forked n ∷ s) s' e es q h i d =
    let ends : e ∷ es ≡ (5 + length (text_of s) + 3 + n) ∷ ends_of s = h.ends in
    let end : e ≡ 5 + length (text_of s) + 3 + n = cc in
    let place : q ≡ 5 + length ((text_of s ++ op_bytes (fork n)) ++ flat_p p) = h.place in
    let len = length-append (text_of s ++ op_bytes (fork n)) (flat_p p) in
    let len' = length-append (text_of s) (op_bytes (fork n)) in
    let size : n ≡ length (flat_p p) = omega arith in
    let text : text_of s ++ (7 ∷ (bytes16 (length (flat_p p)) ++ flat_p p)) ≡ (text_of s ++ op_bytes (fork n)) ++ flat_p p = rw (size, append_assoc (text_of s) (op_bytes (fork (length (flat_p p)))) (flat_p p)) in
    subst
    (λ (l : List Item). Becomes (proc p ∷ forked n ∷ s) l es q)
    (same d)
    (record { fits = record { fine = h.fine; ends = cc; place = rw text place }; text = text })
child_sound (tran t ∷ s) s' e es q h i d = absurd (never d)
child_sound (begun ∷ s) s' e es q h i d = absurd (never d)
child_sound (forked n ∷ s) s' e es q h i d = absurd (never d)

closed_sound : (es : List ℕ) (q : ℕ) (s : List Item) (now : OpenParts) → FitsPlace s es q → ended_at q es s ≡ done now → Becomes s now.items now.ends q
unfolding ended_at
closed_sound [] q s now h d = subst (λ (o : OpenParts). Becomes s o.items o.ends q) (same d) (record { fits = h; text = refl })
closed_sound (e ∷ es) q s now h d = go (eqb q e) refl (λ s' h' d'. closed_sound es q s' now h' d')
  where
    go : (b : Bool) → eqb q e ≡ b → ((s' : List Item) → FitsPlace s' es q → ended_at q es s' ≡ done now → Becomes s' now.items now.ends q) → Becomes s now.items now.ends q
    go true t ih =
        let d₁ : onward (child_ended s) (λ s'. ended_at q es s') ≡ done now = rw (t, ended_at) at d in
        let w = onward_from (λ s'. ended_at q es s') (child_ended s) now d₁ in
        let b = child_sound s w.before e es q h (eqb-true q e t) w.was in
        let r = ih w.before b.fits w.becomes in
        record { fits = r.fits; text = r.text ∙ b.text }
    go false t ih =
        let d₁ : done (record { ends = e ∷ es; items = s }) ≡ done now = rw (t, ended_at) at d in
        subst (λ (o : OpenParts). Becomes s o.items o.ends q) (same d₁) (record { fits = h; text = refl })

-- a stack that comes of another with an instruction done
record After (op : Op) (s s' : List Item) (es : List ℕ) (q : ℕ) : Type 0 where
  fits : FitsPlace s' (ends_after op q es) (q + size_of op)
  text : text_of s' ≡ text_of s ++ op_bytes op

after : (op : Op) (s s' : List Item) (es : List ℕ) (q : ℕ) → FitsPlace s es q → Fine s' → text_of s' ≡ text_of s ++ op_bytes op → ends_after op q es ≡ ends_of s' → After op s s' es q
after op s s' es q h f t e =
    let place : q + size_of op ≡ 5 + length (text_of s ++ op_bytes op) = omega (arith, h.place, length-append (text_of s) (op_bytes op), op_length op) in
    record { fits = record { fine = f; ends = e; place = rw t place }; text = t }

module _ (es : List ℕ) (q : ℕ) where
  sum_sound : (s s' : List Item) → FitsPlace s es q → sum_top s ≡ done s' → After add s s' es q
  unfolding text_of ends_of flat_p flat_t op_bytes
  sum_sound [] s' h d = absurd (never d)
  sum_sound (proc b ∷ []) s' h d = absurd (never d)
  sum_sound (proc b ∷ proc a ∷ s) s' h d =
      subst (λ (l : List Item). After add (proc b ∷ proc a ∷ s) l es q) (same d) (after add _ (proc (AddP a b) ∷ s) es q h ((h.fine.1.0, h.fine.0), h.fine.1.1) (simp append_assoc) h.ends)
  sum_sound (proc b ∷ tran t ∷ s) s' h d = absurd (never d)
  sum_sound (proc b ∷ begun ∷ s) s' h d = absurd (never d)
  sum_sound (proc b ∷ forked n ∷ s) s' h d = absurd (never d)
  sum_sound (tran b ∷ []) s' h d = absurd (never d)
  sum_sound (tran b ∷ proc p ∷ s) s' h d = absurd (never d)
  sum_sound (tran b ∷ tran a ∷ s) s' h d =
      subst (λ (l : List Item). After add (tran b ∷ tran a ∷ s) l es q) (same d) (after add _ (tran (AddT a b) ∷ s) es q h ((h.fine.1.0, h.fine.0), h.fine.1.1) (simp append_assoc) h.ends)
  sum_sound (tran b ∷ begun ∷ s) s' h d = absurd (never d)
  sum_sound (tran b ∷ forked n ∷ s) s' h d = absurd (never d)
  sum_sound (begun ∷ s) s' h d = absurd (never d)
  sum_sound (forked n ∷ s) s' h d = absurd (never d)

  written_sound : (v : ℕ) (s s' : List Item) → v < 64 → FitsPlace s es q → write_top v s ≡ done s' → After (write v) s s' es q
  unfolding text_of ends_of flat_t op_bytes
  written_sound v [] s' l h d = absurd (never d)
  written_sound v (proc p ∷ s) s' l h d = absurd (never d)
  written_sound v (tran t ∷ s) s' l h d =
      subst (λ (k : List Item). After (write v) (tran t ∷ s) k es q) (same d) (after (write v) _ (tran (Write v t) ∷ s) es q h ((l, h.fine.0), h.fine.1) (simp append_assoc) h.ends)
  written_sound v (begun ∷ s) s' l h d = absurd (never d)
  written_sound v (forked n ∷ s) s' l h d = absurd (never d)

  committed_sound : (s s' : List Item) → FitsPlace s es q → commit_top s ≡ done s' → After commit s s' es q
  unfolding text_of ends_of flat_p op_bytes
  committed_sound [] s' h d = absurd (never d)
  committed_sound (proc p ∷ s) s' h d = absurd (never d)
  committed_sound (tran t ∷ []) s' h d = absurd (never d)
  committed_sound (tran t ∷ proc p ∷ s) s' h d = absurd (never d)
  committed_sound (tran t ∷ tran u ∷ s) s' h d = absurd (never d)
  committed_sound (tran t ∷ begun ∷ s) s' h d =
      subst (λ (l : List Item). After commit (tran t ∷ begun ∷ s) l es q) (same d) (after commit _ (proc (Atomic t) ∷ s) es q h h.fine (simp append_assoc) h.ends)
  committed_sound (tran t ∷ forked n ∷ s) s' h d = absurd (never d)
  committed_sound (begun ∷ s) s' h d = absurd (never d)
  committed_sound (forked n ∷ s) s' h d = absurd (never d)

  value_sound : (n : ℤ) (inside : Bool) (s : List Item) → InRange n → FitsPlace s es q → After (push n) s (value_item inside n ∷ s) es q
  unfolding text_of ends_of flat_p flat_t op_bytes
  value_sound n true s v h = after (push n) s (tran (ValT n) ∷ s) es q h (v, h.fine) refl h.ends
  value_sound n false s v h = after (push n) s (proc (ValP n) ∷ s) es q h (v, h.fine) refl h.ends

  stays_from : (inside : Bool) (o : Outcome (List Item)) (next : Done) → done_with inside o ≡ done next → o ≡ done next.items
  stays_from inside (refused n p) next e = absurd (never e)
  stays_from inside (done s) next e = ap (λ (d : Done). done d.items) (same e)

  op_sound : (op : Op) (inside : Bool) (s : List Item) (next : Done) → ValuedO op → FitsPlace s es q → do_op op inside s ≡ done next → After op s next.items es q
  unfolding do_op text_of ends_of flat_t op_bytes
  op_sound (push n) inside s next v h d =
      subst (λ (l : List Item). After (push n) s l es q) (same (stays_from inside (done (value_item inside n ∷ s)) next d)) (value_sound n inside s v h)
  op_sound add inside s next v h d = sum_sound s next.items h (stays_from inside (sum_top s) next d)
  op_sound (read r) inside s next v h d =
      subst (λ (l : List Item). After (read r) s l es q) (same (stays_from true (done (tran (Read r) ∷ s)) next (passed (not inside) 11 0 _ d).1)) (after (read r) s (tran (Read r) ∷ s) es q h (v, h.fine) refl h.ends)
  op_sound (write r) inside s next v h d = written_sound r s next.items v h (stays_from true (write_top r s) next (passed (not inside) 11 0 _ d).1)
  op_sound begin inside s next v h d =
      subst (λ (l : List Item). After begin s l es q) (same (stays_from true (done (begun ∷ s)) next (passed inside 11 0 _ d).1)) (after begin s (begun ∷ s) es q h h.fine refl h.ends)
  op_sound commit inside s next v h d = committed_sound s next.items h (stays_from false (commit_top s) next (passed (not inside) 11 0 _ d).1)
  op_sound (fork n) inside s next v h d =
      subst (λ (l : List Item). After (fork n) s l es q) (same (stays_from false (done (forked n ∷ s)) next (passed inside 11 0 _ d).1)) (after (fork n) s (forked n ∷ s) es q h h.fine refl (rw (h.place, h.ends)))

-- at the end of the code one process is left
pub ended_sound : (es : List ℕ) (s : List Item) (p : Proc) → ended (record { ends = es; items = s }) ≡ done p → s ≡ proc p ∷ []
ended_sound [] [] p d = absurd (never d)
ended_sound [] (proc r ∷ []) p d = ap (λ (x : Proc). proc x ∷ []) (same d)
ended_sound [] (proc r ∷ i ∷ s) p d = absurd (never d)
ended_sound [] (tran t ∷ s) p d = absurd (never d)
ended_sound [] (begun ∷ s) p d = absurd (never d)
ended_sound [] (forked n ∷ s) p d = absurd (never d)
ended_sound (e ∷ es) s p d = absurd (never d)

-- what was read and what is still to be read is the process's code
record WholeText (s : List Item) (bs : List ℕ) (p : Proc) : Type 0 where
  text : text_of s ++ bs ≡ flat_p p
  valued : ValuedP p

end_sound : (s : List Item) (now : OpenParts) (q : ℕ) (p : Proc) → Becomes s now.items now.ends q → ended now ≡ done p → WholeText s [] p
unfolding text_of
end_sound s now q p b d =
    let i : now.items ≡ proc p ∷ [] = ended_sound now.ends now.items p d in
    let f : ValuedP p × Unit {0} = subst Fine i b.fits.fine in
    let t : flat_p p ≡ text_of s = sym (ap text_of i) ∙ b.text in
    record { text = append-nil (text_of s) ∙ sym t; valued = f.0 }

module _ (fuel : ℕ) (ih : (inside : Bool) (s : List Item) (es : List ℕ) (q : ℕ) (bs : List ℕ) (p : Proc) → Bytes bs → FitsPlace s es q → read_ops fuel inside s es q bs ≡ done p → WholeText s bs p) where
  next_sound : (inside : Bool) (s : List Item) (es : List ℕ) (q : ℕ) (x : ℕ) (bs : List ℕ) (p : Proc) → Bytes (x ∷ bs) → FitsPlace s es q → Sees (x ∷ bs) → read_ops (suc fuel) inside s es q (x ∷ bs) ≡ done p → WholeText s (x ∷ bs) p
  unfolding read_ops
  next_sound inside s es q x bs p b h (bad o) d =
      let w = onward_from _ (ended_at q es s) p d in
      let d₁ : refused 11 0 ≡ done p = rw (eqb-suc-zero (length bs), o) at w.becomes in
      absurd (never d₁)
  next_sound inside s es q x bs p b h (good op rest v eq) d =
      let d₀ : read_ops (suc fuel) inside s es q (op_bytes op ++ rest) ≡ done p = subst (λ (l : List ℕ). read_ops (suc fuel) inside s es q l ≡ done p) eq d in
      let w = onward_from _ (ended_at q es s) p d₀ in
      let now = w.before in
      let c = closed_sound es q s now h w.was in
      let d₁ : onward (do_op op inside now.items) (λ (next : Done). read_ops fuel next.inside next.items (ends_after op q now.ends) (q + size_of op) rest) ≡ done p = rw (op_some op rest, op_reads op rest v, drop_at (op_bytes op) rest (size_of op) (op_length op)) at w.becomes in
      let w₁ = onward_from _ (do_op op inside now.items) p d₁ in
      let a = op_sound now.ends q op inside now.items w₁.before v c.fits w₁.was in
      let b' : Bytes rest = bytes_behind (op_bytes op) rest (subst Bytes eq b) in
      let r = ih w₁.before.inside w₁.before.items (ends_after op q now.ends) (q + size_of op) rest p b' a.fits w₁.becomes in
      let t : text_of s ++ (op_bytes op ++ rest) ≡ flat_p p = rw (a.text, c.text, append_assoc (text_of s) (op_bytes op) rest) at r.text in
      record { text = rw eq t; valued = r.valued }

-- what is read is the code of the process that is given
ops_sound : (fuel : ℕ) (inside : Bool) (s : List Item) (es : List ℕ) (q : ℕ) (bs : List ℕ) (p : Proc) → Bytes bs → FitsPlace s es q → read_ops fuel inside s es q bs ≡ done p → WholeText s bs p
unfolding read_ops
ops_sound zero inside s es q bs p b h d = absurd (never d)
ops_sound (suc fuel) inside s es q [] p b h d =
    let w = onward_from _ (ended_at q es s) p d in
    end_sound s w.before q p (closed_sound es q s w.before h w.was) w.becomes
ops_sound (suc fuel) inside s es q (x ∷ bs) p b h d =
    next_sound fuel (λ inside s es q bs p b h d. ops_sound fuel inside s es q bs p b h d) inside s es q x bs p b h (seen (x ∷ bs) b) d

start_fits : FitsPlace [] [] 5
unfolding text_of ends_of
start_fits = record { fine = tt; ends = refl; place = refl }

start_whole : (bs : List ℕ) (p : Proc) → WholeText [] bs p → bs ≡ flat_p p
unfolding text_of
start_whole bs p w = w.text

-- the text of a header and a tree, from what its bytes hold
text_of_lem : (j : Job) (a b c d e : ℕ) (rest : List ℕ) → d < 256 → e < 256 → a ≡ 87 → b ≡ 83 → c ≡ 67 → d * 256 + e ≡ j.version → rest ≡ flat_p j.tree → a ∷ b ∷ c ∷ d ∷ e ∷ rest ≡ compiled j
unfolding code_mark
text_of_lem j a b c d e rest pd pe p q s v r = rw (compiled_flat j, p, q, s, ← v, bytes16_number16 d e pd pe, r)

-- the bytes are the code of a tree within document 01's limits, in a version taken
pub record IsCodeTree (bs : List ℕ) (j : Job) : Type 0 where
  pub version : Taken j.version
  pub sized : Sized j.tree
  pub text : bs ≡ compiled j

sound_long : (a b c d e : ℕ) (rest : List ℕ) (j : Job) → Bytes (a ∷ b ∷ c ∷ d ∷ e ∷ rest) → read_code_tree (a ∷ b ∷ c ∷ d ∷ e ∷ rest) ≡ done j → IsCodeTree (a ∷ b ∷ c ∷ d ∷ e ∷ rest) j
unfolding read_code_tree code_marked taken
sound_long a b c d e rest j small h =
    let bs : List ℕ = a ∷ b ∷ c ∷ d ∷ e ∷ rest in
    let t₁ = passed (ltb (length bs) 5) 11 0 _ h in
    let t₂ = passed (not (code_marked bs)) 11 0 _ t₁.1 in
    let t₃ = passed (not (taken (d * 256 + e))) 11 0 _ t₂.1 in
    let w = onward_from _ (read_ops (suc (length bs)) false [] [] 5 rest) j t₃.1 in
    let p = w.before in
    let t₄ = passed (not (sized p)) 11 0 _ w.becomes in
    let m = both (eqb a 87) _ (not-false _ t₂.0) in
    let m' = both (eqb b 83) _ m.1 in
    let small₃ : Bytes (d ∷ e ∷ rest) = bytes_drop 3 small in
    let r = ops_sound (suc (length bs)) false [] [] 5 rest p (bytes_drop 2 small₃) start_fits w.was in
    let l = sized_back p (not-false _ t₄.0) in
    let k : Job = record { version = d * 256 + e; tree = p } in
    subst
    (IsCodeTree bs)
    (same t₄.1)
    (record {
      version = eqb-true _ _ (not-false _ t₃.0);
      sized = record { valued = r.valued; few = l.0; flat = l.1; narrow = l.2 };
      text = text_of_lem k a b c d e rest (bytes_head small₃) (bytes_head (bytes_tail small₃)) (eqb-true a 87 m.0) (eqb-true b 83 m'.0) (eqb-true c 67 m'.1) refl (start_whole rest p r);
    })

-- what is read back is the code of the job that is given, and that job is within document 01's limits
pub read_is_code_tree : (bs : List ℕ) (j : Job) → Bytes bs → read_code_tree bs ≡ done j → IsCodeTree bs j
unfolding read_code_tree
read_is_code_tree [] j b e = absurd (never e)
read_is_code_tree (x₁ ∷ []) j b e = absurd (never e)
read_is_code_tree (x₁ ∷ x₂ ∷ []) j b e = absurd (never e)
read_is_code_tree (x₁ ∷ x₂ ∷ x₃ ∷ []) j b e = absurd (never e)
read_is_code_tree (x₁ ∷ x₂ ∷ x₃ ∷ x₄ ∷ []) j b e = absurd (never e)
read_is_code_tree (x₁ ∷ x₂ ∷ x₃ ∷ x₄ ∷ x₅ ∷ rest) j b e = sound_long x₁ x₂ x₃ x₄ x₅ rest j b e

-- what is not too long either is read by both
pub read_short : (bs : List ℕ) (j : Job) → read_code bs ≡ done j → (read_code_tree bs ≡ done j) × (longest_nodes j.tree ≤ 200)
unfolding read_code
read_short bs j e =
    let w = onward_from short_only (read_code_tree bs) j e in
    let t = passed (ltb 200 (longest_nodes w.before.tree)) 11 0 (done w.before) w.becomes in
    let k : w.before ≡ j = same t.1 in
    (w.was ∙ ap done k, subst (λ (l : Job). longest_nodes l.tree ≤ 200) k (ltb-false 200 (longest_nodes w.before.tree) t.0))

-- so it is within all limits
pub read_is_code : (bs : List ℕ) (j : Job) → Bytes bs → read_code bs ≡ done j → IsCode bs j
read_is_code bs j b e =
    let r = read_short bs j e in
    let i = read_is_code_tree bs j b r.0 in
    record { version = i.version; within = record { sized = i.sized; short = r.1 }; text = i.text }
