-- What the emitter may ask of the parts of a node, and what it has done when they are emitted. Assumes nothing.
use Prim.Native.Nat.{ℕ, ◌+◌, ◌-◌, ◌≤◌}
use mathlib.Core.Path.{◌≡◌, refl, sym, ap, ◌∙◌}
use mathlib.Core.List.{List, [], ◌∷◌, ◌++◌, append_assoc, append-nil}
use native.Mathlib.Omega.{arith}
use lib.ListN.{length, drop, get_or, length-append, length-drop, length-take}
use Rattle.compiler.specs.declared.Part.{Part}
use Rattle.delivery.specs.Delivered.{onto}
use Rattle.compiler.specs.InnerEmit.{Emitted, Has, Emittable, tree_code, fork_bytes, part, push_bytes, read_bytes}
use Rattle.delivery.specs.InnerPlaces.{placed_at}
use Rattle.compiler.proofs.Lists.{rest, rest_length, back, lent}
use Rattle.delivery.proofs.Places.{placed_onto, onto_placed, onto_length}
use Rattle.compiler.proofs.Nodes.{PushAt, ReadAt, OneAt, TwoAt, AtomicAt, ForkAt, WriteAt}
use Rattle.script.specs.Tree.{Sort, Tree}
use Rattle.script.specs.InnerTrees.{depth, bytes}
use Rattle.script.specs.Bytes.{bytes16}

-- ---- before: what a node that is ready says of its parts
pub record OnePart (bs : List ℕ) (i k d n : ℕ) (front : ℕ → List ℕ) (behind : List ℕ) : Type 0 where
  pub sort : Sort
  pub tree : Tree sort
  pub within : i + k ≤ length bs
  pub there : Has bs (i + k) sort tree
  pub some : 1 ≤ d
  pub flat : depth sort tree ≤ d - 1
  pub room : length (front (length (tree_code sort tree))) + length (tree_code sort tree) + length behind ≤ n

pub child : {bs : List ℕ} {i k d n : ℕ} {front : ℕ → List ℕ} {behind : List ℕ} (r : Emittable bs i d n) → OneAt bs i k front behind r.sort r.tree → OnePart bs i k d n front behind
child r o =
    let e = simp length-append at (ap length o.runs) in
    record {
      sort = o.sort;
      tree = o.tree;
      within = o.within;
      there = o.there;
      some = omega (arith, r.flat, o.deep);
      flat = omega (arith, r.flat, o.deep);
      room = omega (arith, r.room);
    }

pub record TwoParts (bs : List ℕ) (i d n : ℕ) : Type 0 where
  pub sort : Sort
  pub left : Tree sort
  pub right : Tree sort
  pub within : i + 1 ≤ length bs
  pub first : Has bs (i + 1) sort left
  pub second : Has bs (i + 1 + length (bytes sort left)) sort right
  pub some : 1 ≤ d
  pub flat_left : depth sort left ≤ d - 1
  pub flat_right : depth sort right ≤ d - 1
  pub room : length (tree_code sort left) + length (tree_code sort right) + 1 ≤ n

pub children : {bs : List ℕ} {i d n : ℕ} (r : Emittable bs i d n) → TwoAt bs i r.sort r.tree → TwoParts bs i d n
children r o =
    let e = simp length-append at (ap length o.runs) in
    record {
      sort = r.sort;
      left = o.left;
      right = o.right;
      within = o.within;
      first = o.first;
      second = o.second;
      some = omega (arith, r.flat, o.deep);
      flat_left = omega (arith, r.flat, o.deep);
      flat_right = omega (arith, r.flat, o.deep);
      room = omega (arith, r.room);
    }

-- a tree at a place that is written another way
pub moved : {bs : List ℕ} {i j : ℕ} {s : Sort} {t : Tree s} → Has bs i s t → i ≡ j → Has bs j s t
moved {bs} {i} {j} {s} {t} h e = record { rest = h.rest; text = ap (λ (k : ℕ). drop k bs) (sym e) ∙ h.text }

-- the output is as long as it was when the rest is back
pub back_length : (n : ℕ) (xs ys : List ℕ) → n ≤ length xs → length ys ≡ length (rest n xs) → length (back n xs ys) ≡ length xs
back_length n xs ys h e = simp (length-append, length-take, length-drop) (omega (arith, rest_length n xs))

-- ---- after: what is emitted
pub next_of : {i : ℕ} {r : Part} {before after : List ℕ} {s : Sort} {t : Tree s} → Emitted i r before after s t → r.next ≡ i + length (bytes s t)
next_of e = ap (λ (r : Part). r.next) e.answer

pub size_of : {i : ℕ} {r : Part} {before after : List ℕ} {s : Sort} {t : Tree s} → Emitted i r before after s t → r.size ≡ length (tree_code s t)
size_of e = ap (λ (r : Part). r.size) e.answer

part_is : {r : Part} {a a' b b' : ℕ} → r ≡ part a b → a ≡ a' → b ≡ b' → r ≡ part a' b'
part_is e p q = rw (← p, ← q) e

onto_is : {zs cs cs' : List ℕ} (xs : List ℕ) → zs ≡ onto cs xs → cs' ≡ cs → zs ≡ onto cs' xs
onto_is xs e p = rw p e

pub push_emitted : {bs : List ℕ} {i : ℕ} {s : Sort} {t : Tree s} {r : Part} {xs zs : List ℕ} → PushAt bs i s t → r ≡ part (i + 5) 5 → zs ≡ onto (push_bytes bs i) xs → Emitted i r xs zs s t
push_emitted {i = i} {xs = xs} o e z = record { answer = part_is e (ap (λ (n : ℕ). i + n) (sym o.text)) (ap length (sym o.runs)); output = onto_is xs z o.runs }

pub read_emitted : {bs : List ℕ} {i : ℕ} {s : Sort} {t : Tree s} {r : Part} {xs zs : List ℕ} → ReadAt bs i s t → r ≡ part (i + 2) 2 → zs ≡ onto (read_bytes bs i) xs → Emitted i r xs zs s t
read_emitted {i = i} {xs = xs} o e z = record { answer = part_is e (ap (λ (n : ℕ). i + n) (sym o.text)) (ap length (sym o.runs)); output = onto_is xs z o.runs }

-- a node with one part: the answer, where the code of the part has a bytes in front and b behind
one_answer : {bs : List ℕ} {i k : ℕ} {front : ℕ → List ℕ} {behind : List ℕ} {s : Sort} {t : Tree s} {r q : Part} {xs ys : List ℕ} (size : ℕ) (o : OneAt bs i k front behind s t) → Emitted (i + k) q xs ys o.sort o.tree → r ≡ part q.next size → size ≡ length (front (length (tree_code o.sort o.tree))) + length (tree_code o.sort o.tree) + length behind → r ≡ part (i + length (bytes s t)) (length (tree_code s t))
one_answer size o e a z =
    let l = simp length-append at (ap length o.runs) in
    part_is a (omega (arith, next_of e, o.text)) (omega arith)

pub atomic_emitted : {bs : List ℕ} {i : ℕ} {s : Sort} {t : Tree s} {r q : Part} {xs ys zs : List ℕ} (o : AtomicAt bs i s t) → 1 ≤ length xs → Emitted (i + 1) q (rest 1 xs) ys o.sort o.tree → r ≡ part q.next (1 + q.size + 1) → zs ≡ placed_at (1 + q.size) (6 ∷ []) (onto (5 ∷ []) (back 1 xs ys)) → Emitted i r xs zs s t
atomic_emitted {q = q} {xs = xs} {ys = ys} {zs = zs} o h e a z =
    let c = tree_code o.sort o.tree in
    let b : back 1 xs ys ≡ placed_at 1 c xs = ap (back 1 xs) e.output ∙ lent 1 c xs h in
    let n = size_of e in
    record {
      answer = one_answer _ o e a (omega arith);
      output = onto_is xs (z ∙ (rw (b, onto_placed 1 (5 ∷ []) c xs refl h) (placed_onto (1 + q.size) (6 ∷ []) (5 ∷ c) xs (omega arith)))) o.runs;
    }

pub fork_emitted : {bs : List ℕ} {i : ℕ} {s : Sort} {t : Tree s} {r q : Part} {xs ys zs : List ℕ} (o : ForkAt bs i s t) → 3 ≤ length xs → Emitted (i + 1) q (rest 3 xs) ys o.sort o.tree → r ≡ part q.next (q.size + 3) → zs ≡ onto (fork_bytes q.size) (back 3 xs ys) → Emitted i r xs zs s t
unfolding bytes16
fork_emitted {xs = xs} {ys = ys} {zs = zs} o h e a z =
    let c = tree_code o.sort o.tree in
    let b : back 3 xs ys ≡ placed_at 3 c xs = ap (back 3 xs) e.output ∙ lent 3 c xs h in
    let n = size_of e in
    record {
      answer = one_answer _ o e a (omega arith);
      output = onto_is xs (z ∙ (rw (b, n) (onto_placed 3 (fork_bytes (length c)) c xs refl h))) (rw append-nil at o.runs);
    }

pub write_emitted : {bs : List ℕ} {i : ℕ} {s : Sort} {t : Tree s} {r q : Part} {xs ys zs : List ℕ} (o : WriteAt bs i s t) → Emitted (i + 2) q xs ys o.sort o.tree → r ≡ part q.next (q.size + 2) → zs ≡ placed_at q.size (4 ∷ get_or bs (i + 1) 0 ∷ []) ys → Emitted i r xs zs s t
write_emitted {xs = xs} {ys = ys} {zs = zs} o e a z =
    record {
      answer = one_answer _ o e a (omega (arith, size_of e));
      output = onto_is xs (z ∙ (rw e.output (placed_onto _ _ (tree_code o.sort o.tree) xs (size_of e)))) o.runs;
    }

-- a sum: the right code behind the left, then ADD
pub sum_emitted : {bs : List ℕ} {i : ℕ} {s : Sort} {t : Tree s} {r p q : Part} {xs ys us zs : List ℕ} (o : TwoAt bs i s t) → length (tree_code s o.left) ≤ length xs → Emitted (i + 1) p xs ys s o.left → Emitted p.next q (rest p.size ys) us s o.right → r ≡ part q.next (p.size + q.size + 1) → zs ≡ placed_at (p.size + q.size) (2 ∷ []) (back p.size ys us) → Emitted i r xs zs s t
sum_emitted {s = s} {p = p} {q = q} {xs = xs} {ys = ys} {us = us} {zs = zs} o h e f a z =
    let cl = tree_code s o.left in
    let cr = tree_code s o.right in
    let n = size_of e in
    let m = size_of f in
    let k : length ys ≡ length xs = ap length e.output ∙ onto_length cl xs h in
    let b : back p.size ys us ≡ onto (cl ++ cr) xs = ap (back p.size ys) f.output ∙ (lent p.size cr ys (omega arith) ∙ (rw e.output (placed_onto p.size cr cl xs n))) in
    let l = simp length-append at (ap length o.runs) in
    let sum = length-append cl cr in
    record {
      answer = part_is a (omega (arith, next_of e, next_of f, o.text)) (omega arith);
      output = onto_is xs (z ∙ (rw b (placed_onto (p.size + q.size) (2 ∷ []) (cl ++ cr) xs (omega arith)))) (o.runs ∙ sym (append_assoc cl cr (2 ∷ [])));
    }
