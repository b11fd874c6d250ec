-- The scan of code, which keeps of each finished part only its kind and its depth, is `read_code_tree`, the reading of code by document 01's limits: it refuses the same code, and
-- counts the nodes and the bytes of the job that is read. Assumes nothing.
use Prim.Native.Nat.{ℕ, zero, suc, ◌+◌, ◌≤◌}
use mathlib.Core.Path.{◌≡◌, refl, sym, subst, ◌∙◌}
use mathlib.Core.Bool.{Bool, true, false, not, ◌&&◌}
use mathlib.Core.List.{List, [], ◌∷◌}
use native.Mathlib.Omega.{arith}
use lib.Dec.{eqb, leb, ltb, eqb-suc-zero}
use lib.ListN.{length, drop}
use borrow.Author.Tests.{le-leb, leb-true}
use Rattle.code.specs.Ops.{Op, op_at, size_of}
use Rattle.code.specs.Reader.{Item, proc, tran, begun, forked, Done, do_op, ends_after, OpenParts, ended, read_ops, sized, code_marked, read_code_tree}
use Rattle.code.specs.InnerScan.{ListScan, scan_start, scan_op, moved_past, finished, scan_ops, Summary, summary, scan_code}
use Rattle.code.proofs.ReadBack.{sized_yes, sized_back}
use Rattle.code.proofs.Foreign.{Eleven, ops_eleven}
use Rattle.code.specs.InnerParts.{job_text, nodes_i, forks_i}
use Rattle.code.proofs.Texts.{topmost, peak, stack_of, state_of, Step, Both, fails, goes, op_both, Closing, stops, keeps, closing_both, reads_on, reads_next, ops_grown}
use Rattle.script.specs.Tree.{Proc}
use Rattle.script.specs.Count.{nodes_p, forks}
use Rattle.script.specs.Bytes.{bytes16, bytes_p, job_mark, job_bytes}
use Rattle.script.specs.Outcome.{Outcome, refused, done, refuse, onward, mapped}
use Rattle.script.specs.Jobs.{number16}
use Rattle.script.specs.Reader.{taken}
use Rattle.script.proofs.Accepts.{both}

-- a stack within the limits
record WithinLimits (s : List Item) : Type 0 where
  flat : peak s ≤ 64
  few : nodes_i s ≤ 1000
  narrow : forks_i s ≤ 15

-- the scan's test
abbrev fit : (reach nodes forks : ℕ) → Bool
fit reach nodes forks = leb reach 64 && (leb nodes 1000 && leb forks 15)

fit_yes : (r n f : ℕ) → r ≤ 64 → n ≤ 1000 → f ≤ 15 → fit r n f ≡ true
fit_yes r n f a b c = rw (le-leb r 64 a, le-leb n 1000 b, le-leb f 15 c)

fit_back : (r n f : ℕ) → fit r n f ≡ true → (r ≤ 64) × (n ≤ 1000) × (f ≤ 15)
fit_back r n f e =
    let m = both (leb r 64) _ e in
    let m' = both (leb n 1000) _ m.1 in
    (leb-true _ _ m.0, leb-true _ _ m'.0, leb-true _ _ m'.1)

top_peak : (s : List Item) → topmost s ≤ peak s
unfolding peak
top_peak [] = omega arith
top_peak (x ∷ s) = omega arith

-- a job's header has seven bytes
pub job_length : (version : ℕ) (p : Proc) → length (job_bytes version p) ≡ 7 + length (bytes_p p)
unfolding job_bytes job_mark bytes16
job_length version p = omega arith

-- what is scanned behind an instruction, and behind the children that end
abbrev scans_on : (fuel : ℕ) (bs : List ℕ) → Op → ListScan → Outcome ListScan
scans_on fuel bs op next = scan_ops fuel (moved_past op next) (drop (size_of op) bs)

abbrev scans_next : (fuel : ℕ) (bs : List ℕ) → ListScan → Outcome ListScan
scans_next fuel bs now = onward (op_at bs) (λ (op : Op). onward (scan_op op now) (scans_on fuel bs op))

module _ (version : ℕ) where
  -- what the scan and the reading of a version's code come to
  abbrev told : ListScan → Summary
  told s = record { version = version; nodes = s.nodes; size = s.size }

  abbrev judged : Proc → Outcome Summary
  judged p = mapped summary (refuse (not (sized p)) 11 0 (done (record { version = version; tree = p })))

  -- a stack beyond the limits comes to no tree within them
  module _ (fuel : ℕ) (inside : Bool) (s : List Item) (es : List ℕ) (q : ℕ) (bs : List ℕ) (over : fit (topmost s) (nodes_i s) (forks_i s) ≡ false) where
    too_large : (p : Proc) (b : Bool) → read_ops fuel inside s es q bs ≡ done p → sized p ≡ b → judged p ≡ refused 11 0
    unfolding peak nodes_i forks_i
    too_large p true d w =
        let g = ops_grown fuel inside s es q bs p d in
        let l = sized_back p w in
        let t = top_peak s in
        let yes = fit_yes (topmost s) (nodes_i s) (forks_i s) (omega arith) (omega arith) (omega arith) in
        let z : ◌≡◌ {A = ℕ} 0 1 = cc in
        absurd (omega arith)
    too_large p false d w = rw w

    none_fits : (o : Outcome Proc) → read_ops fuel inside s es q bs ≡ o → onward o judged ≡ refused 11 0
    none_fits (refused n p) d =
        let h : (n ≡ 11) × (p ≡ 0) = subst Eleven d (ops_eleven fuel inside s es q bs) in
        rw (h.0, h.1)
    none_fits (done p) d = too_large p (sized p) d refl

  last_same : (inside : Bool) (s : List Item) (es : List ℕ) (q : ℕ) → WithinLimits s → mapped told (finished (state_of inside s es q)) ≡ onward (ended (record { ends = es; items = s })) judged
  unfolding finished stack_of peak nodes_i forks_i job_text summary
  last_same inside [] [] q h = refl
  last_same inside (proc p ∷ []) [] q h =
      let flat : peak (proc p ∷ []) ≤ 64 = h.flat in
      let few : 0 + nodes_p p ≤ 1000 = h.few in
      let narrow : 0 + forks p ≤ 15 = h.narrow in
      let e : 0 + nodes_p p ≡ nodes_p p = omega arith in
      rw (sized_yes p (omega arith) (omega arith) (omega arith), job_length version p, e)
  last_same inside (proc p ∷ x ∷ s) [] q h = rw (eqb-suc-zero (length (stack_of s)))
  last_same inside (tran t ∷ s) [] q h = refl
  last_same inside (begun ∷ s) [] q h = refl
  last_same inside (forked n ∷ s) [] q h = refl
  last_same inside s (e ∷ es) q h = refl

  module _ (fuel : ℕ) (ih : (inside : Bool) (s : List Item) (es : List ℕ) (q : ℕ) (bs : List ℕ) → WithinLimits s → mapped told (scan_ops fuel (state_of inside s es q) bs) ≡ onward (read_ops fuel inside s es q bs) judged) (bs : List ℕ) where
    -- behind an instruction: within the limits both go on, beyond them the reading comes to no tree
    going : (op : Op) (inside : Bool) (s s' : List Item) (es : List ℕ) (q : ℕ) (b : Bool) → WithinLimits s → Step s s' → fit (topmost s') (nodes_i s') (forks_i s') ≡ b → mapped told (onward (refuse (not b) 11 0 (done (state_of inside s' es q))) (scans_on fuel bs op)) ≡ onward (read_ops fuel inside s' (ends_after op q es) (q + size_of op) (drop (size_of op) bs)) judged
    unfolding moved_past
    going op inside s s' es q true h step t =
        let l = fit_back (topmost s') (nodes_i s') (forks_i s') t in
        ih inside s' (ends_after op q es) (q + size_of op) (drop (size_of op) bs) (omega arith)
    going op inside s s' es q false h step t =
        sym (none_fits fuel inside s' (ends_after op q es) (q + size_of op) (drop (size_of op) bs) t (read_ops fuel inside s' (ends_after op q es) (q + size_of op) (drop (size_of op) bs)) refl)

    op_same : {s : List Item} {es : List ℕ} {q : ℕ} {x : Outcome ListScan} {y : Outcome Done} (op : Op) → WithinLimits s → Both s es q x y → mapped told (onward x (scans_on fuel bs op)) ≡ onward (onward y (reads_on fuel bs es q op)) judged
    op_same op h fails = refl
    op_same {s = s} {es = es} {q = q} op h (goes {inside = inside} {s' = s'} step) = going op inside s s' es q (fit (topmost s') (nodes_i s') (forks_i s')) h step refl

    next_same : (inside : Bool) (s : List Item) (es : List ℕ) (q : ℕ) (o : Outcome Op) → WithinLimits s → mapped told (onward o (λ (op : Op). onward (scan_op op (state_of inside s es q)) (scans_on fuel bs op))) ≡ onward (onward o (λ (op : Op). onward (do_op op inside s) (reads_on fuel bs es q op))) judged
    next_same inside s es q (refused n p) h = refl
    next_same inside s es q (done op) h = op_same op h (op_both es q op inside s)

    -- at the end of the code, and before it
    rest_same : (inside : Bool) (s : List Item) (es : List ℕ) (q : ℕ) (b : Bool) → WithinLimits s → mapped told (elim b as (λ z. Outcome ListScan) [ true ↦ finished (state_of inside s es q) | false ↦ scans_next fuel bs (state_of inside s es q) ]) ≡ onward (elim b as (λ z. Outcome Proc) [ true ↦ ended (record { ends = es; items = s }) | false ↦ reads_next fuel bs inside q (record { ends = es; items = s }) ]) judged
    rest_same inside s es q true h = last_same inside s es q h
    rest_same inside s es q false h = next_same inside s es q (op_at bs) h

    closing_same : {inside : Bool} {s : List Item} {q : ℕ} {x : Outcome ListScan} {y : Outcome OpenParts} → WithinLimits s → Closing inside s q x y → mapped told (onward x (λ (now : ListScan). elim (eqb (length bs) 0) as (λ z. Outcome ListScan) [ true ↦ finished now | false ↦ scans_next fuel bs now ])) ≡ onward (onward y (λ (now : OpenParts). elim (eqb (length bs) 0) as (λ z. Outcome Proc) [ true ↦ ended now | false ↦ reads_next fuel bs inside q now ])) judged
    closing_same h stops = refl
    closing_same {inside = inside} {s = s} {q = q} h (keeps {es' = es'} {s' = s'} k) = rest_same inside s' es' q (eqb (length bs) 0) (omega arith)

  -- from a stack within the limits the scan comes to what the reading comes to
  ops_same : (fuel : ℕ) (inside : Bool) (s : List Item) (es : List ℕ) (q : ℕ) (bs : List ℕ) → WithinLimits s → mapped told (scan_ops fuel (state_of inside s es q) bs) ≡ onward (read_ops fuel inside s es q bs) judged
  unfolding scan_ops read_ops
  ops_same zero inside s es q bs h = refl
  ops_same (suc fuel) inside s es q bs h = closing_same fuel (λ inside s es q bs h. ops_same fuel inside s es q bs h) bs h (closing_both inside q es s)

onward_mapped : {A B C : Type 0} (g : B → C) (f : A → Outcome B) (o : Outcome A) → onward o (λ (a : A). mapped g (f a)) ≡ mapped g (onward o f)
onward_mapped g f (refused n p) = refl
onward_mapped g f (done a) = refl

refuse_mapped : {A B : Type 0} (g : A → B) (b : Bool) (n p : ℕ) (x : Outcome B) (o : Outcome A) → x ≡ mapped g o → refuse b n p x ≡ mapped g (refuse b n p o)
refuse_mapped g true n p x o e = refl
refuse_mapped g false n p x o e = e

start_small : WithinLimits []
unfolding peak nodes_i forks_i
start_small = omega arith

-- the scan refuses the code that `read_code_tree` refuses, and else tells the version, the nodes and the bytes of the job that is read
pub scan_is_read : (bs : List ℕ) → scan_code bs ≡ mapped summary (read_code_tree bs)
unfolding scan_code read_code_tree scan_start stack_of nodes_i forks_i job_text
scan_is_read bs =
    let v = number16 bs 3 in
    refuse_mapped
    summary
    (ltb (length bs) 5)
    11
    0
    _
    _
    (refuse_mapped
    summary
    (not (code_marked bs))
    11
    0
    _
    _
    (refuse_mapped
    summary
    (not (taken v))
    11
    0
    _
    _
    (ops_same v (suc (length bs)) false [] [] 5 (drop 5 bs) start_small ∙ onward_mapped summary _ (read_ops (suc (length bs)) false [] [] 5 (drop 5 bs)))))
