-- What a stack of parts holds of the job that the code becomes: its bytes, nodes, FORKs and depth; that one instruction does the same
-- to the reader's stack and to the scan's stack; and that what a stack holds only grows until the tree is there. Assumes nothing.
use Prim.Native.Nat.{ℕ, zero, suc, ◌+◌, ◌≤◌, max}
use mathlib.Core.Path.{◌≡◌, refl, subst}
use mathlib.Core.Bool.{Bool, true, false}
use mathlib.Core.List.{List, [], ◌∷◌, ◌++◌}
use native.Mathlib.Omega.{arith}
use lib.Dec.{eqb, eqb-suc-zero}
use lib.IntN.{ℤ}
use lib.ListN.{length, drop, length-append}
use Rattle.code.specs.Ops.{foreign, Op, push, add, read, write, begin, commit, fork, op_at, size_of}
use Rattle.code.specs.Reader.{Item, proc, tran, begun, forked, Done, do_op, ends_after, OpenParts, ended_at, ended, read_ops}
use Rattle.code.specs.InnerParts.{item_kind, item_depth, item_nodes, item_forks, item_bytes, job_text, nodes_i, forks_i}
use Rattle.code.specs.InnerScan.{ScanItem, ListScan, bounded, topped, merged, scan_op, closes}
use Rattle.code.proofs.ReadBack.{onward_from, never, same, ended_sound}
use Rattle.script.specs.Tree.{Tran, ValT, AddT, Read, Write, Proc, ValP, AddP, Atomic, Fork}
use Rattle.script.specs.Count.{nodes_t, nodes_p, depth_t, depth_p, forks}
use Rattle.script.specs.Bytes.{bytes32, node_bytes, bytes_t, bytes_p}
use Rattle.script.specs.Outcome.{Outcome, done, onward}

-- the depth that the topmost item comes to at least, and the deepest
abbrev pub topmost : List Item → ℕ
topmost [] = 0
topmost (x ∷ s) = length s + item_depth x

unfoldable pub peak : List Item → ℕ
peak [] = 0
peak (x ∷ s) = max (topmost (x ∷ s)) (peak s)

-- the scan's stack of a stack, and its state
unfoldable pub stack_of : List Item → List ScanItem
stack_of [] = []
stack_of (x ∷ s) = record { kind = item_kind x; reach = topmost (x ∷ s) } ∷ stack_of s

abbrev pub state_of : (inside : Bool) → List Item → (ends : List ℕ) (place : ℕ) → ListScan
state_of inside s ends place =
    record {
      stack = stack_of s;
      inside = inside;
      ends = ends;
      place = place;
      nodes = nodes_i s;
      forks = forks_i s;
      size = 7 + length (job_text s);
    }

stack_length : (s : List Item) → length (stack_of s) ≡ length s
unfolding stack_of
stack_length [] = refl
stack_length (x ∷ s) = rw (stack_length s)

-- a part has at least its own node
deep_t : (t : Tran) → 1 ≤ depth_t t
unfolding depth_t
deep_t (ValT n) = omega arith
deep_t (AddT a b) = omega arith
deep_t (Read v) = omega arith
deep_t (Write v t) = omega arith

deep_p : (p : Proc) → 1 ≤ depth_p p
unfolding depth_p
deep_p (ValP n) = omega arith
deep_p (AddP a b) = omega arith
deep_p (Atomic t) = omega arith
deep_p (Fork p) = omega arith

deep : (x : Item) → 1 ≤ item_depth x
deep (proc p) = deep_p p
deep (tran t) = deep_t t
deep begun = omega arith
deep (forked n) = omega arith

-- a stack that holds no less than another
pub record Grown (s s' : List Item) : Type 0 where
  pub depth : peak s ≤ peak s'
  pub nodes : nodes_i s ≤ nodes_i s'
  pub forks : forks_i s ≤ forks_i s'
  pub text : length (job_text s) ≤ length (job_text s')

grown_then : {a b c : List Item} → Grown a b → Grown b c → Grown a c
grown_then g h = omega arith

-- the stack behind an instruction: it holds no less, and is no deeper than its topmost item and the stack before
pub record Step (s s' : List Item) : Type 0 where
  pub grown : Grown s s'
  pub near : peak s' ≤ max (topmost s') (peak s)

-- the same numbers: a child's end changes none of them
pub record SameNumbers (s s' : List Item) : Type 0 where
  pub depth : peak s ≡ peak s'
  pub nodes : nodes_i s ≡ nodes_i s'
  pub forks : forks_i s ≡ forks_i s'
  pub text : length (job_text s) ≡ length (job_text s')

kept : (s : List Item) → SameNumbers s s
kept s = omega arith

kept_then : {a b c : List Item} → SameNumbers a b → SameNumbers b c → SameNumbers a c
kept_then g h = omega arith

kept_grown : {s s' : List Item} → SameNumbers s s' → Grown s s'
kept_grown k = omega arith

-- an instruction in the scan and in the reader: both refuse, or both go on with the same stack if it is within the limits so far
pub data Both (s : List Item) (es : List ℕ) (q : ℕ) : Outcome ListScan → Outcome Done → Type 0 where
  fails : Both s es q foreign foreign
  goes : {inside : Bool} {s' : List Item} → Step s s' → Both s es q (bounded (state_of inside s' es q) (topmost s')) (done (record { items = s'; inside = inside }))

-- the topmost items of a stack have become one item: its reach, and the nodes and bytes of the job that came with it
record Merging (before : List Item) (x : Item) (s : List Item) (reach nodes size : ℕ) : Type 0 where
  reached : reach ≡ topmost (x ∷ s)
  noded : nodes_i before + nodes ≡ nodes_i (x ∷ s)
  forked' : forks_i before ≡ forks_i (x ∷ s)
  sized : length (job_text before) + size ≡ length (job_text (x ∷ s))
  over : peak s ≤ peak before
  under : peak before ≤ peak (x ∷ s)

module _ (es : List ℕ) (q : ℕ) where
  merges : (before : List Item) (x : Item) (s : List Item) (was inside : Bool) (r n z : ℕ) → Merging before x s r n z → Both before es q (merged (state_of was before es q) (item_kind x) r (stack_of s) inside n z) (done (record { items = x ∷ s; inside = inside }))
  unfolding stack_of peak
  merges before x s was inside r n z h =
      let size : 7 + length (job_text before) + z ≡ 7 + length (job_text (x ∷ s)) = omega arith in
      let step : Step before (x ∷ s) = omega arith in
      rw (h.reached, h.noded, h.forked', size) (goes step)

  tops : (x : Item) (s : List Item) (was inside : Bool) → item_depth x ≡ 1 → item_nodes x ≡ 1 → Both s es q (topped (state_of was s es q) (item_kind x) inside (item_forks x) (length (item_bytes x))) (done (record { items = x ∷ s; inside = inside }))
  unfolding stack_of peak nodes_i forks_i job_text
  tops x s was inside d n =
      let len = length-append (job_text s) (item_bytes x) in
      let many = stack_length s in
      let reach : suc (length (stack_of s)) ≡ topmost (x ∷ s) = omega arith in
      let nodes : nodes_i s + 1 ≡ nodes_i (x ∷ s) = omega arith in
      let size : 7 + length (job_text s) + length (item_bytes x) ≡ 7 + length (job_text (x ∷ s)) = omega arith in
      let step : Step s (x ∷ s) = omega arith in
      rw (reach, nodes, size) (goes step)

  push_both : (n : ℤ) (inside : Bool) (s : List Item) → Both s es q (scan_op (push n) (state_of inside s es q)) (do_op (push n) inside s)
  unfolding scan_op do_op depth_t depth_p nodes_t nodes_p forks bytes_t bytes_p node_bytes bytes32
  push_both n true s = tops (tran (ValT n)) s true true refl refl
  push_both n false s = tops (proc (ValP n)) s false false refl refl

  read_both : (v : ℕ) (inside : Bool) (s : List Item) → Both s es q (scan_op (read v) (state_of inside s es q)) (do_op (read v) inside s)
  unfolding scan_op do_op depth_t nodes_t bytes_t node_bytes
  read_both v true s = tops (tran (Read v)) s true true refl refl
  read_both v false s = fails

  begin_both : (inside : Bool) (s : List Item) → Both s es q (scan_op begin (state_of inside s es q)) (do_op begin inside s)
  unfolding scan_op do_op
  begin_both true s = fails
  begin_both false s = tops begun s false true refl refl

  fork_both : (n : ℕ) (inside : Bool) (s : List Item) → Both s es q (scan_op (fork n) (state_of inside s es q)) (do_op (fork n) inside s)
  unfolding scan_op do_op
  fork_both n true s = fails
  fork_both n false s = tops (forked n) s false false refl refl

  add_both : (inside : Bool) (s : List Item) → Both s es q (scan_op add (state_of inside s es q)) (do_op add inside s)
  unfolding scan_op do_op stack_of peak nodes_i forks_i job_text depth_t depth_p nodes_t nodes_p forks bytes_t bytes_p node_bytes
  add_both inside [] = fails
  add_both inside (proc b ∷ []) = fails
  add_both inside (proc b ∷ proc a ∷ s) =
      let before = length-append (job_text s ++ bytes_p a) (bytes_p b) in
      let first = length-append (job_text s) (bytes_p a) in
      let after = length-append (job_text s) (bytes_p (AddP a b)) in
      let parts = length-append (bytes_p a) (bytes_p b) in
      merges (proc b ∷ proc a ∷ s) (proc (AddP a b)) s inside inside (max (suc (topmost (proc a ∷ s))) (topmost (proc b ∷ proc a ∷ s))) 1 1 (omega arith)
  add_both inside (proc b ∷ tran t ∷ s) = fails
  add_both inside (proc b ∷ begun ∷ s) = fails
  add_both inside (proc b ∷ forked n ∷ s) = fails
  add_both inside (tran b ∷ []) = fails
  add_both inside (tran b ∷ proc p ∷ s) = fails
  add_both inside (tran b ∷ tran a ∷ s) =
      let before = length-append (job_text s ++ bytes_t a) (bytes_t b) in
      let first = length-append (job_text s) (bytes_t a) in
      let after = length-append (job_text s) (bytes_t (AddT a b)) in
      let parts = length-append (bytes_t a) (bytes_t b) in
      merges (tran b ∷ tran a ∷ s) (tran (AddT a b)) s inside inside (max (suc (topmost (tran a ∷ s))) (topmost (tran b ∷ tran a ∷ s))) 1 1 (omega arith)
  add_both inside (tran b ∷ begun ∷ s) = fails
  add_both inside (tran b ∷ forked n ∷ s) = fails
  add_both inside (begun ∷ []) = fails
  add_both inside (begun ∷ proc p ∷ s) = fails
  add_both inside (begun ∷ tran t ∷ s) = fails
  add_both inside (begun ∷ begun ∷ s) = fails
  add_both inside (begun ∷ forked n ∷ s) = fails
  add_both inside (forked m ∷ []) = fails
  add_both inside (forked m ∷ proc p ∷ s) = fails
  add_both inside (forked m ∷ tran t ∷ s) = fails
  add_both inside (forked m ∷ begun ∷ s) = fails
  add_both inside (forked m ∷ forked n ∷ s) = fails

  write_both : (v : ℕ) (inside : Bool) (s : List Item) → Both s es q (scan_op (write v) (state_of inside s es q)) (do_op (write v) inside s)
  unfolding scan_op do_op stack_of peak nodes_i forks_i job_text depth_t nodes_t bytes_t node_bytes
  write_both v false [] = fails
  write_both v false (x ∷ s) = fails
  write_both v true [] = fails
  write_both v true (proc p ∷ s) = fails
  write_both v true (tran t ∷ s) =
      let before = length-append (job_text s) (bytes_t t) in
      let after = length-append (job_text s) (bytes_t (Write v t)) in
      merges (tran t ∷ s) (tran (Write v t)) s true true (suc (topmost (tran t ∷ s))) 1 2 (omega arith)
  write_both v true (begun ∷ s) = fails
  write_both v true (forked n ∷ s) = fails

  commit_both : (inside : Bool) (s : List Item) → Both s es q (scan_op commit (state_of inside s es q)) (do_op commit inside s)
  unfolding scan_op do_op stack_of peak nodes_i forks_i job_text depth_p nodes_p forks bytes_p node_bytes
  commit_both false [] = fails
  commit_both false (x ∷ []) = fails
  commit_both false (x ∷ y ∷ s) = fails
  commit_both true [] = fails
  commit_both true (proc p ∷ []) = fails
  commit_both true (proc p ∷ y ∷ s) = fails
  commit_both true (tran t ∷ []) = fails
  commit_both true (tran t ∷ proc p ∷ s) = fails
  commit_both true (tran t ∷ tran u ∷ s) = fails
  commit_both true (tran t ∷ begun ∷ s) =
      let before = length-append (job_text s ++ (3 ∷ [])) (bytes_t t) in
      let first = length-append (job_text s) (3 ∷ []) in
      let after = length-append (job_text s) (bytes_p (Atomic t)) in
      merges (tran t ∷ begun ∷ s) (proc (Atomic t)) s true false (topmost (tran t ∷ begun ∷ s)) 0 0 (omega arith)
  commit_both true (tran t ∷ forked n ∷ s) = fails
  commit_both true (begun ∷ []) = fails
  commit_both true (begun ∷ y ∷ s) = fails
  commit_both true (forked n ∷ []) = fails
  commit_both true (forked n ∷ y ∷ s) = fails

  -- one instruction does the same to a stack and to its stack
  pub op_both : (op : Op) (inside : Bool) (s : List Item) → Both s es q (scan_op op (state_of inside s es q)) (do_op op inside s)
  op_both (push n) inside s = push_both n inside s
  op_both add inside s = add_both inside s
  op_both (read v) inside s = read_both v inside s
  op_both (write v) inside s = write_both v inside s
  op_both begin inside s = begin_both inside s
  op_both commit inside s = commit_both inside s
  op_both (fork n) inside s = fork_both n inside s

-- the children that end at a place, in the scan and in the reader: both refuse, or both go on with the same stack
pub data Closing (inside : Bool) (s : List Item) (q : ℕ) : Outcome ListScan → Outcome OpenParts → Type 0 where
  stops : Closing inside s q foreign foreign
  keeps : {es' : List ℕ} {s' : List Item} → SameNumbers s s' → Closing inside s q (done (state_of inside s' es' q)) (done (record { ends = es'; items = s' }))

closing_from : {inside : Bool} {a b : List Item} {q : ℕ} {x : Outcome ListScan} {y : Outcome OpenParts} → SameNumbers a b → Closing inside b q x y → Closing inside a q x y
closing_from k stops = stops
closing_from k (keeps h) = keeps (kept_then k h)

child_kept : (p : Proc) (n : ℕ) (s : List Item) → SameNumbers (proc p ∷ forked n ∷ s) (proc (Fork p) ∷ s)
unfolding peak nodes_i forks_i job_text depth_p nodes_p forks bytes_p node_bytes
child_kept p n s =
    let before = length-append (job_text s ++ (4 ∷ [])) (bytes_p p) in
    let first = length-append (job_text s) (4 ∷ []) in
    let after = length-append (job_text s) (bytes_p (Fork p)) in
    omega arith

fork_depth : (p : Proc) → depth_p (Fork p) ≡ suc (depth_p p)
unfolding depth_p
fork_depth p = refl

module _ (inside : Bool) (q e : ℕ) (es : List ℕ) (ih : (s : List Item) → Closing inside s q (closes es (state_of inside s es q)) (ended_at q es s)) where
  child_both : (s : List Item) → eqb q e ≡ true → Closing inside s q (closes (e ∷ es) (state_of inside s (e ∷ es) q)) (ended_at q (e ∷ es) s)
  unfolding closes ended_at stack_of
  child_both [] t = rw (t, closes, ended_at) stops
  child_both (proc p ∷ []) t = rw (t, closes, ended_at) stops
  child_both (proc p ∷ proc r ∷ s) t = rw (t, closes, ended_at) stops
  child_both (proc p ∷ tran u ∷ s) t = rw (t, closes, ended_at) stops
  child_both (proc p ∷ begun ∷ s) t = rw (t, closes, ended_at) stops
  child_both (proc p ∷ forked n ∷ s) t =
      let k = child_kept p n s in
      let depth = fork_depth p in
      let reach : suc (length s) + depth_p p ≡ length s + depth_p (Fork p) = omega arith in
      rw (t, closes, ended_at, reach, k.nodes, k.forks, k.text) (closing_from k (ih (proc (Fork p) ∷ s)))
  child_both (tran u ∷ []) t = rw (t, closes, ended_at) stops
  child_both (tran u ∷ y ∷ s) t = rw (t, closes, ended_at) stops
  child_both (begun ∷ []) t = rw (t, closes, ended_at) stops
  child_both (begun ∷ y ∷ s) t = rw (t, closes, ended_at) stops
  child_both (forked n ∷ []) t = rw (t, closes, ended_at) stops
  child_both (forked n ∷ y ∷ s) t = rw (t, closes, ended_at) stops

  end_both : (b : Bool) (s : List Item) → eqb q e ≡ b → Closing inside s q (closes (e ∷ es) (state_of inside s (e ∷ es) q)) (ended_at q (e ∷ es) s)
  unfolding closes ended_at
  end_both true s t = child_both s t
  end_both false s t = rw (t, closes, ended_at) (keeps (kept s))

-- the ends of children do the same to a stack and to its stack
pub closing_both : (inside : Bool) (q : ℕ) (es : List ℕ) (s : List Item) → Closing inside s q (closes es (state_of inside s es q)) (ended_at q es s)
unfolding closes ended_at
closing_both inside q [] s = keeps (kept s)
closing_both inside q (e ∷ es) s = end_both inside q e es (λ s'. closing_both inside q es s') (eqb q e) s refl

closed_kept : {inside : Bool} {s : List Item} {q : ℕ} {x : Outcome ListScan} {y : Outcome OpenParts} → Closing inside s q x y → (now : OpenParts) → y ≡ done now → SameNumbers s now.items
closed_kept stops now d = absurd (never d)
closed_kept {s = s} (keeps k) now d = subst (λ (o : OpenParts). SameNumbers s o.items) (same d) k

op_grown : {s : List Item} {es : List ℕ} {q : ℕ} {x : Outcome ListScan} {y : Outcome Done} → Both s es q x y → (next : Done) → y ≡ done next → Grown s next.items
op_grown fails next d = absurd (never d)
op_grown {s = s} (goes h) next d = subst (λ (o : Done). Grown s o.items) (same d) h.grown

-- what is read behind an instruction, and behind the children that end
abbrev pub reads_on : (fuel : ℕ) (bs es : List ℕ) (q : ℕ) → Op → Done → Outcome Proc
reads_on fuel bs es q op next = read_ops fuel next.inside next.items (ends_after op q es) (q + size_of op) (drop (size_of op) bs)

abbrev pub reads_next : (fuel : ℕ) (bs : List ℕ) (inside : Bool) (q : ℕ) → OpenParts → Outcome Proc
reads_next fuel bs inside q now = onward (op_at bs) (λ (op : Op). onward (do_op op inside now.items) (reads_on fuel bs now.ends q op))

next_grown : (fuel : ℕ) (ih : (inside : Bool) (s : List Item) (es : List ℕ) (q : ℕ) (bs : List ℕ) (p : Proc) → read_ops fuel inside s es q bs ≡ done p → Grown s (proc p ∷ [])) (bs : List ℕ) (inside : Bool) (q : ℕ) (now : OpenParts) (p : Proc) → reads_next fuel bs inside q now ≡ done p → Grown now.items (proc p ∷ [])
next_grown fuel ih bs inside q now p d =
    let w = onward_from (λ (op : Op). onward (do_op op inside now.items) (reads_on fuel bs now.ends q op)) (op_at bs) p d in
    let op = w.before in
    let w₁ = onward_from (reads_on fuel bs now.ends q op) (do_op op inside now.items) p w.becomes in
    let next = w₁.before in
    let g = op_grown (op_both now.ends q op inside now.items) next w₁.was in
    grown_then g (ih next.inside next.items (ends_after op q now.ends) (q + size_of op) (drop (size_of op) bs) p w₁.becomes)

-- until the tree is there, what a stack holds only grows
pub ops_grown : (fuel : ℕ) (inside : Bool) (s : List Item) (es : List ℕ) (q : ℕ) (bs : List ℕ) (p : Proc) → read_ops fuel inside s es q bs ≡ done p → Grown s (proc p ∷ [])
unfolding read_ops
ops_grown zero inside s es q bs p d = absurd (never d)
ops_grown (suc fuel) inside s es q [] p d =
    let w = onward_from ended (ended_at q es s) p d in
    let now = w.before in
    let k = closed_kept (closing_both inside q es s) now w.was in
    subst (Grown s) (ended_sound now.ends now.items p w.becomes) (kept_grown k)
ops_grown (suc fuel) inside s es q (x ∷ bs) p d =
    let d₁ : onward (ended_at q es s) (reads_next fuel (x ∷ bs) inside q) ≡ done p = rw (eqb-suc-zero (length bs)) at d in
    let w = onward_from (reads_next fuel (x ∷ bs) inside q) (ended_at q es s) p d₁ in
    let now = w.before in
    let k = closed_kept (closing_both inside q es s) now w.was in
    grown_then (kept_grown k) (next_grown fuel (λ inside s es q bs p d. ops_grown fuel inside s es q bs p d) (x ∷ bs) inside q now p w.becomes)

-- a stack's bytes are no more than the tree's
pub text_grows : (fuel : ℕ) (inside : Bool) (s : List Item) (es : List ℕ) (q : ℕ) (bs : List ℕ) (p : Proc) → read_ops fuel inside s es q bs ≡ done p → length (job_text s) ≤ length (bytes_p p)
unfolding job_text
text_grows fuel inside s es q bs p d = (ops_grown fuel inside s es q bs p d).text

low : (s : List Item) → length s ≤ peak s
unfolding peak
low [] = omega arith
low (x ∷ s) = omega (arith, deep x)

-- a stack's items are no more than the tree is deep
pub height_grows : (fuel : ℕ) (inside : Bool) (s : List Item) (es : List ℕ) (q : ℕ) (bs : List ℕ) (p : Proc) → read_ops fuel inside s es q bs ≡ done p → length s ≤ depth_p p
unfolding peak
height_grows fuel inside s es q bs p d =
    let g = ops_grown fuel inside s es q bs p d in
    let deepest : peak s ≤ max (0 + depth_p p) 0 = g.depth in
    omega (arith, low s)
