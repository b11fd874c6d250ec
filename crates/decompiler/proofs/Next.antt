-- What comes next where code is read that is a job's: the end of a child, or an instruction and what it does to the stack. Assumes nothing.
use Prim.Native.Nat.{ℕ, zero, suc, ◌+◌, ◌-◌, ◌≤◌, ◌<◌}
use mathlib.Core.Path.{◌≡◌, refl, sym, ap, subst, ◌∙◌}
use mathlib.Core.Bool.{Bool, true, false, not, ◌&&◌}
use mathlib.Core.List.{List, [], ◌∷◌, ◌++◌, append_assoc}
use native.Mathlib.Omega.{arith}
use lib.Dec.{eqb, leb, ltb, eqb-suc-zero}
use lib.ListN.{length, drop, get_or}
use lib.Seq.{drop-cons, drop-drop}
use borrow.Author.Tests.{lt-ltb, ltb-true, ltb-false, leb-true, eq-eqb, ne_eqb, eqb-true, eqb-false, not-false}
use Rattle.script.specs.InnerTrees.{kind_in}
use Rattle.decompiler.specs.InnerWalk.{Ends, OutsideItems, InsideItems, Sorted}
use Rattle.code.specs.Ops.{Op, opcode_operand, decoded, op_at, size_of}
use Rattle.code.specs.Reader.{Item, proc, tran, begun, forked, sum_top, write_top, commit_top, child_ended, Done, done_with, do_op, ends_after, OpenParts, ended_at, ended, read_ops}
use Rattle.code.specs.InnerScan.{ListScan}
use Rattle.code.proofs.ReadBack.{onward_from, never, same, ended_sound}
use Rattle.code.specs.InnerParts.{item_bytes, job_text, forks_i}
use Rattle.code.proofs.Texts.{Both, fails, goes, op_both, reads_on, reads_next}
use Rattle.script.specs.Tree.{Tran, AddT, Write, Proc, AddP, Atomic, Fork}
use Rattle.script.specs.Count.{forks}
use Rattle.script.specs.Bytes.{node_bytes, bytes_t, bytes_p}
use Rattle.script.specs.Outcome.{Outcome, refused, done, onward}
use Rattle.script.proofs.Accepts.{passed, both}

-- ---- the end of a child

module _ (a : List ℕ) (m q : ℕ) where
  -- no child ends here
  pub none_ends : (es : List ℕ) (s : List Item) → m ≡ length es → Ends a es → (ltb 0 m && eqb (get_or a (m - 1) 0) q) ≡ false → ended_at q es s ≡ done (record { ends = es; items = s })
  unfolding ended_at
  none_ends [] s n h t = refl
  none_ends (e ∷ es) s n h t =
      let z : m - 1 ≡ length es = omega arith in
      let t₁ : eqb e q ≡ false = rw (lt-ltb 0 m (omega arith), z, h.0) at t in
      rw (ne_eqb q e (λ x. eqb-false e q t₁ (sym x)), ended_at)

-- the ends that are open where one is here
pub record Ending (q : ℕ) (es : List ℕ) : Type 0 where
  pub others : List ℕ
  pub is : es ≡ q ∷ others

module _ (a : List ℕ) (m q : ℕ) where
  pub one_ends : (es : List ℕ) → m ≡ length es → Ends a es → (ltb 0 m && eqb (get_or a (m - 1) 0) q) ≡ true → Ending q es
  one_ends [] n h t = absurd (omega (arith, ltb-true 0 m (both (ltb 0 m) _ t).0))
  one_ends (e ∷ es) n h t =
      let z : m - 1 ≡ length es = omega arith in
      let t₁ : eqb e q ≡ true = rw (z, h.0) at (both (ltb 0 m) _ t).1 in
      record { others = es; is = ap (λ (x : ℕ). x ∷ es) (eqb-true e q t₁) }

-- the two topmost items have become one, whose bytes are theirs behind some others
pub record Merges (front : List ℕ) (s s' : List Item) : Type 0 where
  pub upper : Item
  pub lower : Item
  pub whole : Item
  pub rest : List Item
  pub was : s ≡ upper ∷ lower ∷ rest
  pub is : s' ≡ whole ∷ rest
  pub bytes : item_bytes whole ≡ front ++ (item_bytes lower ++ item_bytes upper)

pub child_merges : (s s' : List Item) → child_ended s ≡ done s' → Merges [] s s'
unfolding bytes_p node_bytes
child_merges [] s' d = absurd (never d)
child_merges (proc p ∷ []) s' d = absurd (never d)
child_merges (proc p ∷ proc r ∷ s) s' d = absurd (never d)
child_merges (proc p ∷ tran t ∷ s) s' d = absurd (never d)
child_merges (proc p ∷ begun ∷ s) s' d = absurd (never d)
child_merges (proc p ∷ forked n ∷ s) s' d =
    record { upper = proc p; lower = forked n; whole = proc (Fork p); rest = s; was = refl; is = sym (same d); bytes = refl }
child_merges (tran t ∷ s) s' d = absurd (never d)
child_merges (begun ∷ s) s' d = absurd (never d)
child_merges (forked n ∷ s) s' d = absurd (never d)

pub child_sorted : (inside : Bool) (s s' : List Item) → child_ended s ≡ done s' → Sorted inside s → Sorted inside s'
child_sorted inside [] s' d h = absurd (never d)
child_sorted inside (proc p ∷ []) s' d h = absurd (never d)
child_sorted inside (proc p ∷ proc r ∷ s) s' d h = absurd (never d)
child_sorted inside (proc p ∷ tran t ∷ s) s' d h = absurd (never d)
child_sorted inside (proc p ∷ begun ∷ s) s' d h = absurd (never d)
child_sorted true (proc p ∷ forked n ∷ s) s' d h = absurd h
child_sorted false (proc p ∷ forked n ∷ s) s' d h = subst (Sorted false) (same d) h
child_sorted inside (tran t ∷ s) s' d h = absurd (never d)
child_sorted inside (begun ∷ s) s' d h = absurd (never d)
child_sorted inside (forked n ∷ s) s' d h = absurd (never d)

pub child_forks : (s s' : List Item) → child_ended s ≡ done s' → forks_i s ≡ forks_i s'
unfolding forks_i forks
child_forks [] s' d = absurd (never d)
child_forks (proc p ∷ []) s' d = absurd (never d)
child_forks (proc p ∷ proc r ∷ s) s' d = absurd (never d)
child_forks (proc p ∷ tran t ∷ s) s' d = absurd (never d)
child_forks (proc p ∷ begun ∷ s) s' d = absurd (never d)
child_forks (proc p ∷ forked n ∷ s) s' d = let e : forks_i s + 1 + forks p ≡ forks_i s + suc (forks p) = omega arith in e ∙ ap forks_i (same d)
child_forks (tran t ∷ s) s' d = absurd (never d)
child_forks (begun ∷ s) s' d = absurd (never d)
child_forks (forked n ∷ s) s' d = absurd (never d)

-- the innermost child is closed, and the reading goes on at the same place
pub record Closes (fuel : ℕ) (inside : Bool) (s : List Item) (es : List ℕ) (q : ℕ) (bs : List ℕ) (p : Proc) : Type 0 where
  pub after : List Item
  pub ends : child_ended s ≡ done after
  pub reads : read_ops fuel inside after es q bs ≡ done p

close_one : (s : List Item) (es : List ℕ) (q : ℕ) → ended_at q (q ∷ es) s ≡ onward (child_ended s) (λ s'. ended_at q es s')
unfolding ended_at
close_one s es q = rw (eq-eqb q q refl, ended_at)

pub child_closes : (fuel : ℕ) (inside : Bool) (s : List Item) (es : List ℕ) (q : ℕ) (bs : List ℕ) (p : Proc) → read_ops fuel inside s (q ∷ es) q bs ≡ done p → Closes fuel inside s es q bs p
unfolding read_ops
child_closes zero inside s es q bs p d = absurd (never d)
child_closes (suc fuel) inside s es q bs p d =
    let w = onward_from _ (ended_at q (q ∷ es) s) p d in
    let c : onward (child_ended s) (λ s'. ended_at q es s') ≡ done w.before = sym (close_one s es q) ∙ w.was in
    let v = onward_from (λ s'. ended_at q es s') (child_ended s) w.before c in
    record { after = v.before; ends = v.was; reads = rw v.becomes w.becomes }

-- ---- the end of the code

-- parts that become one with no other bytes
pub merges_text : {s s' : List Item} → Merges [] s s' → job_text s ≡ job_text s'
unfolding job_text
merges_text m = rw (m.was, m.is, m.bytes, append_assoc)

closed_text : (es : List ℕ) (q : ℕ) (s : List Item) (now : OpenParts) → ended_at q es s ≡ done now → job_text s ≡ job_text now.items
unfolding ended_at
closed_text [] q s now d = ap (λ (o : OpenParts). job_text o.items) (same d)
closed_text (e ∷ es) q s now d = go (eqb q e) refl (λ s' d'. closed_text es q s' now d')
  where
    go : (b : Bool) → eqb q e ≡ b → ((s' : List Item) → ended_at q es s' ≡ done now → job_text s' ≡ job_text now.items) → job_text s ≡ job_text now.items
    go true t ih =
        let d₁ : onward (child_ended s) (λ s'. ended_at q es s') ≡ done now = rw (t, ended_at) at d in
        let w = onward_from (λ s'. ended_at q es s') (child_ended s) now d₁ in
        merges_text (child_merges s w.before w.was) ∙ ih w.before w.becomes
    go false t ih =
        let d₁ : done (record { ends = e ∷ es; items = s }) ≡ done now = rw (t, ended_at) at d in
        ap (λ (o : OpenParts). job_text o.items) (same d₁)

-- at the end of the code a stack's bytes are the tree's
pub text_at_end : (fuel : ℕ) (inside : Bool) (s : List Item) (es : List ℕ) (q : ℕ) (p : Proc) → read_ops fuel inside s es q [] ≡ done p → job_text s ≡ bytes_p p
unfolding read_ops job_text
text_at_end zero inside s es q p d = absurd (never d)
text_at_end (suc fuel) inside s es q p d =
    let w = onward_from ended (ended_at q es s) p d in
    let now = w.before in
    closed_text es q s now w.was ∙ ap job_text (ended_sound now.ends now.items p w.becomes)

-- ---- an instruction

-- what is read where an opcode stands: its instruction, what that does, and what is read behind it
pub record FoundOp (code : List ℕ) (p : Proc) (inside : Bool) (s : List Item) (es : List ℕ) (q k : ℕ) : Type 0 where
  pub low : 1 ≤ k
  pub high : k ≤ 7
  pub enough : opcode_operand k ≤ length (drop (suc q) code)
  pub next : Done
  pub fuel : ℕ
  pub does : do_op (decoded k (drop (suc q) code)) inside s ≡ done next
  pub reads : read_ops fuel next.inside next.items (ends_after (decoded k (drop (suc q) code)) q es) (q + size_of (decoded k (drop (suc q) code))) (drop (q + size_of (decoded k (drop (suc q) code))) code) ≡ done p

record Seen (k : ℕ) (rest : List ℕ) (op : Op) : Type 0 where
  low : 1 ≤ k
  high : k ≤ 7
  enough : opcode_operand k ≤ length rest
  is : decoded k rest ≡ op

op_seen : (k : ℕ) (rest : List ℕ) (op : Op) → op_at (k ∷ rest) ≡ done op → Seen k rest op
unfolding op_at
op_seen k rest op d =
    let t₁ = passed (not (leb 1 k && leb k 7)) 11 0 _ d in
    let t₂ = passed (ltb (length rest) (opcode_operand k)) 11 0 _ t₁.1 in
    let t₃ = passed (eqb (opcode_operand k) 1 && leb 64 (get_or rest 0 0)) 11 0 _ t₂.1 in
    let m = both (leb 1 k) _ (not-false _ t₁.0) in
    record {
      low = leb-true 1 k m.0;
      high = leb-true k 7 m.1;
      enough = ltb-false (length rest) (opcode_operand k) t₂.0;
      is = same t₃.1;
    }

pub next_found : (fuel : ℕ) (inside : Bool) (s : List Item) (es : List ℕ) (q : ℕ) (code : List ℕ) (p : Proc) → ended_at q es s ≡ done (record { ends = es; items = s }) → q < length code → read_ops fuel inside s es q (drop q code) ≡ done p → FoundOp code p inside s es q (get_or code q 0)
unfolding read_ops
next_found zero inside s es q code p c l d = absurd (never d)
next_found (suc fuel) inside s es q code p c l d =
    let k : ℕ = get_or code q 0 in
    let rest : List ℕ = drop (suc q) code in
    let cons : drop q code ≡ k ∷ rest = drop-cons code q 0 l in
    let d₀ : read_ops (suc fuel) inside s es q (k ∷ rest) ≡ done p = subst (λ (bs : List ℕ). read_ops (suc fuel) inside s es q bs ≡ done p) cons d in
    let d₁ : onward (ended_at q es s) (reads_next fuel (k ∷ rest) inside q) ≡ done p = rw (eqb-suc-zero (length rest)) at d₀ in
    let d₂ : reads_next fuel (k ∷ rest) inside q (record { ends = es; items = s }) ≡ done p = rw c at d₁ in
    let w = onward_from (λ (op : Op). onward (do_op op inside s) (reads_on fuel (k ∷ rest) es q op)) (op_at (k ∷ rest)) p d₂ in
    let seen = op_seen k rest w.before w.was in
    let d₃ : onward (do_op (decoded k rest) inside s) (reads_on fuel (k ∷ rest) es q (decoded k rest)) ≡ done p = subst (λ (op : Op). onward (do_op op inside s) (reads_on fuel (k ∷ rest) es q op) ≡ done p) (sym seen.is) w.becomes in
    let v = onward_from (reads_on fuel (k ∷ rest) es q (decoded k rest)) (do_op (decoded k rest) inside s) p d₃ in
    let n : ℕ = size_of (decoded k rest) in
    let place : drop n (k ∷ rest) ≡ drop (q + n) code = ap (drop n) (sym cons) ∙ drop-drop n q code in
    record {
      low = seen.low;
      high = seen.high;
      enough = seen.enough;
      next = v.before;
      fuel = fuel;
      does = v.was;
      reads = subst (λ (bs : List ℕ). read_ops fuel v.before.inside v.before.items (ends_after (decoded k rest) q es) (q + n) bs ≡ done p) place v.becomes;
    }

-- ---- what an instruction does to the stack

pub stays_from : (inside : Bool) (o : Outcome (List Item)) (next : Done) → done_with inside o ≡ done next → (o ≡ done next.items) × (next.inside ≡ inside)
stays_from inside (refused n p) next e = absurd (never e)
stays_from inside (done s) next e = (ap (λ (d : Done). done d.items) (same e), sym (ap (λ (d : Done). d.inside) (same e)))

pub sum_merges : (inside : Bool) (s s' : List Item) → Sorted inside s → sum_top s ≡ done s' → Merges (kind_in inside 2 ∷ []) s s'
unfolding bytes_p bytes_t node_bytes
sum_merges inside [] s' h d = absurd (never d)
sum_merges inside (proc b ∷ []) s' h d = absurd (never d)
sum_merges true (proc b ∷ proc a ∷ s) s' h d = absurd h
sum_merges false (proc b ∷ proc a ∷ s) s' h d =
    record { upper = proc b; lower = proc a; whole = proc (AddP a b); rest = s; was = refl; is = sym (same d); bytes = refl }
sum_merges inside (proc b ∷ tran t ∷ s) s' h d = absurd (never d)
sum_merges inside (proc b ∷ begun ∷ s) s' h d = absurd (never d)
sum_merges inside (proc b ∷ forked n ∷ s) s' h d = absurd (never d)
sum_merges inside (tran b ∷ []) s' h d = absurd (never d)
sum_merges inside (tran b ∷ proc p ∷ s) s' h d = absurd (never d)
sum_merges true (tran b ∷ tran a ∷ s) s' h d =
    record { upper = tran b; lower = tran a; whole = tran (AddT a b); rest = s; was = refl; is = sym (same d); bytes = refl }
sum_merges false (tran b ∷ tran a ∷ s) s' h d = absurd h
sum_merges inside (tran b ∷ begun ∷ s) s' h d = absurd (never d)
sum_merges inside (tran b ∷ forked n ∷ s) s' h d = absurd (never d)
sum_merges inside (begun ∷ s) s' h d = absurd (never d)
sum_merges inside (forked n ∷ s) s' h d = absurd (never d)

pub sum_sorted : (inside : Bool) (s s' : List Item) → Sorted inside s → sum_top s ≡ done s' → Sorted inside s'
sum_sorted inside [] s' h d = absurd (never d)
sum_sorted inside (proc b ∷ []) s' h d = absurd (never d)
sum_sorted true (proc b ∷ proc a ∷ s) s' h d = absurd h
sum_sorted false (proc b ∷ proc a ∷ s) s' h d = subst (Sorted false) (same d) h
sum_sorted inside (proc b ∷ tran t ∷ s) s' h d = absurd (never d)
sum_sorted inside (proc b ∷ begun ∷ s) s' h d = absurd (never d)
sum_sorted inside (proc b ∷ forked n ∷ s) s' h d = absurd (never d)
sum_sorted inside (tran b ∷ []) s' h d = absurd (never d)
sum_sorted inside (tran b ∷ proc p ∷ s) s' h d = absurd (never d)
sum_sorted true (tran b ∷ tran a ∷ s) s' h d = subst (Sorted true) (same d) h
sum_sorted false (tran b ∷ tran a ∷ s) s' h d = absurd h
sum_sorted inside (tran b ∷ begun ∷ s) s' h d = absurd (never d)
sum_sorted inside (tran b ∷ forked n ∷ s) s' h d = absurd (never d)
sum_sorted inside (begun ∷ s) s' h d = absurd (never d)
sum_sorted inside (forked n ∷ s) s' h d = absurd (never d)

pub commit_merges : (s s' : List Item) → commit_top s ≡ done s' → Merges [] s s'
unfolding bytes_p node_bytes
commit_merges [] s' d = absurd (never d)
commit_merges (proc p ∷ s) s' d = absurd (never d)
commit_merges (tran t ∷ []) s' d = absurd (never d)
commit_merges (tran t ∷ proc p ∷ s) s' d = absurd (never d)
commit_merges (tran t ∷ tran u ∷ s) s' d = absurd (never d)
commit_merges (tran t ∷ begun ∷ s) s' d =
    record { upper = tran t; lower = begun; whole = proc (Atomic t); rest = s; was = refl; is = sym (same d); bytes = refl }
commit_merges (tran t ∷ forked n ∷ s) s' d = absurd (never d)
commit_merges (begun ∷ s) s' d = absurd (never d)
commit_merges (forked n ∷ s) s' d = absurd (never d)

pub commit_sorted : (s s' : List Item) → InsideItems s → commit_top s ≡ done s' → OutsideItems s'
commit_sorted [] s' h d = absurd (never d)
commit_sorted (proc p ∷ s) s' h d = absurd (never d)
commit_sorted (tran t ∷ []) s' h d = absurd (never d)
commit_sorted (tran t ∷ proc p ∷ s) s' h d = absurd (never d)
commit_sorted (tran t ∷ tran u ∷ s) s' h d = absurd (never d)
commit_sorted (tran t ∷ begun ∷ s) s' h d = subst OutsideItems (same d) h
commit_sorted (tran t ∷ forked n ∷ s) s' h d = absurd (never d)
commit_sorted (begun ∷ s) s' h d = absurd (never d)
commit_sorted (forked n ∷ s) s' h d = absurd (never d)

-- WRITE: the topmost item is a transaction
pub record Writes (v : ℕ) (s s' : List Item) : Type 0 where
  pub part : Tran
  pub rest : List Item
  pub was : s ≡ tran part ∷ rest
  pub is : s' ≡ tran (Write v part) ∷ rest

pub write_writes : (v : ℕ) (s s' : List Item) → write_top v s ≡ done s' → Writes v s s'
write_writes v [] s' d = absurd (never d)
write_writes v (proc p ∷ s) s' d = absurd (never d)
write_writes v (tran t ∷ s) s' d = record { part = t; rest = s; was = refl; is = sym (same d) }
write_writes v (begun ∷ s) s' d = absurd (never d)
write_writes v (forked n ∷ s) s' d = absurd (never d)

op_forks : {s : List Item} {es : List ℕ} {q : ℕ} {x : Outcome ListScan} {y : Outcome Done} → Both s es q x y → (next : Done) → y ≡ done next → forks_i s ≤ forks_i next.items
op_forks fails next d = absurd (never d)
op_forks {s = s} (goes h) next d = subst (λ (o : Done). forks_i s ≤ forks_i o.items) (same d) h.grown.forks

-- no instruction takes a FORK away
pub forks_stay : (op : Op) (inside : Bool) (s : List Item) (next : Done) → do_op op inside s ≡ done next → forks_i s ≤ forks_i next.items
forks_stay op inside s next d = op_forks (op_both [] 0 op inside s) next d
