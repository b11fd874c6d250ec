-- The test whether a state fits its code says yes exactly of the states that fit it. Assumes nothing.
use Prim.Native.Nat.{ℕ, zero, suc, ◌+◌, ◌≤◌, ◌<◌}
use mathlib.Core.Bool.{Bool, true, false, cond, not, ◌&&◌, ◌||◌}
use mathlib.Core.Logic.{◌↔◌}
use mathlib.Core.Path.{◌≡◌, refl, sym, ap, subst, ◌∙◌}
use mathlib.Core.List.{List, [], ◌∷◌, ◌++◌}
use mathlib.Core.Option.{Option, none, some}
use native.Mathlib.Decide.{dec_lt, ℕ_discrete}
use native.Mathlib.Omega.{arith}
use borrow.Author.Tests.{eqb-true, eq-eqb, lt-ltb, le-ltb, ltb-true, ltb-false, leb-true, le-leb}
use lib.Dec.{eqb, ltb, leb}
use lib.IntN.{ℤ, pos, negsuc}
use lib.ListN.{length, drop, get_or, get_or-replicate, length-replicate, get_or-eq_default}
use lib.Seq.{ext_get_or}
use Rattle.stm.specs.Counted.{Table}
use Rattle.thread.specs.declared.Thread.{Thread}
use Rattle.thread.specs.Threads.{zeros, blank, exists, first_stale, unwritten}
use Rattle.machine.specs.Steps.{State, thread_at, Child, table_in}
use Rattle.machine.specs.Fits.{Walked, unmoved, Walks, starts, In, here, there, own_code, Passed, Placed, Exists, Forked, OneThread, CommitsPassed, no_records, of_thread, of_none, BacksWithin, Fits, TypedThread, Typed, FitsBeside}
use Rattle.machine.specs.FitTest.{walk_to, is_zero, free_from, free, uncounted_from, uncounted, within_from, at_most_from, agrees_with, placed, all_zero, none_behind, in_front, same, children_of, passed_by, among, all_among, threads_of, one_each, commits_of, commits_passed, needs, all_tallied, fits_beside, fits}
use Rattle.machine.proofs.Passing.{passed_once}
use Rattle.machine.proofs.Stale.{found_stale, none_stale, stale_none, low_none}
use Rattle.machine.proofs.Walking.{walks_found, found_walks}
use Rattle.word.specs.Registers.{member}
use Rattle.word.specs.Registers as registers

-- ---- yes and no
never : {A : Type 0} → ◌≡◌ {A = Bool} true false → A
never e = absurd (let z : ◌≡◌ {A = ℕ} 0 1 = cc in omega arith)

first : (a b : Bool) → (a && b) ≡ true → a ≡ true
first true b e = refl
first false b e = e

second : (a b : Bool) → (a && b) ≡ true → b ≡ true
second true b e = e
second false b e = never (sym e)

both : (a b : Bool) → a ≡ true → b ≡ true → (a && b) ≡ true
both true b e f = f
both false b e f = e

-- ---- numbers that are 0
zero_is : (n : ℤ) → is_zero n ≡ true → n ≡ pos 0
zero_is (pos zero) e = refl
zero_is (pos (suc a)) e = never (sym (rw (le-ltb (suc a) 0 (omega arith), lt-ltb 0 (suc a) (omega arith)) at e))
zero_is (negsuc a) e = never (sym e)

is_zero_lem : (n : ℤ) → n ≡ pos 0 → is_zero n ≡ true
is_zero_lem n e = rw e

freed : (left v : ℕ) (marked : ℕ → Bool) (ns : List ℤ) → free_from left v marked ns ≡ true → (i : ℕ) → v ≤ i → i < v + left → marked i ≡ false → get_or ns i (pos 0) ≡ pos 0
unfolding free_from
freed zero v marked ns e i l h m = absurd (omega arith)
freed (suc left) v marked ns e i l h m =
    go (ℕ_discrete v i) (λ l'. freed left (suc v) marked ns (second (marked v || is_zero (get_or ns v (pos 0))) (free_from left (suc v) marked ns) e) i l' (omega arith) m)
  where
    go : Dec (v ≡ i) → (suc v ≤ i → get_or ns i (pos 0) ≡ pos 0) → get_or ns i (pos 0) ≡ pos 0
    go (no n) k = k (omega arith)
    go (yes p) k =
        let x = first (marked v || is_zero (get_or ns v (pos 0))) (free_from left (suc v) marked ns) e in
        let y : is_zero (get_or ns i (pos 0)) ≡ true = rw (p, m) at x in
        zero_is (get_or ns i (pos 0)) y

free-from : (left v : ℕ) (marked : ℕ → Bool) (ns : List ℤ) → ((i : ℕ) → marked i ≡ false → get_or ns i (pos 0) ≡ pos 0) → free_from left v marked ns ≡ true
unfolding free_from
free-from zero v marked ns f = refl
free-from (suc left) v marked ns f =
    both (marked v || is_zero (get_or ns v (pos 0))) (free_from left (suc v) marked ns) (go (marked v) refl) (free-from left (suc v) marked ns f)
  where
    go : (b : Bool) → marked v ≡ b → (b || is_zero (get_or ns v (pos 0))) ≡ true
    go true m = refl
    go false m = is_zero_lem (get_or ns v (pos 0)) (f v m)

all_freed : (marked : ℕ → Bool) (ns : List ℤ) → length ns ≡ 64 → free marked ns ≡ true → (i : ℕ) → marked i ≡ false → get_or ns i (pos 0) ≡ pos 0
all_freed marked ns n e i m = go (dec_lt i 64)
  where
    go : Dec (i < 64) → get_or ns i (pos 0) ≡ pos 0
    go (yes l) = freed 64 0 marked ns e i (omega arith) (omega arith) m
    go (no l) = get_or-eq_default ns (pos 0) (omega arith)

-- ---- counts that are 0, or not above others
counts_freed : (left v : ℕ) (marked : ℕ → Bool) (ns : List ℕ) → uncounted_from left v marked ns ≡ true → (i : ℕ) → v ≤ i → i < v + left → marked i ≡ false → get_or ns i 0 ≡ 0
unfolding uncounted_from
counts_freed zero v marked ns e i l h m = absurd (omega arith)
counts_freed (suc left) v marked ns e i l h m =
    go (ℕ_discrete v i) (λ l'. counts_freed left (suc v) marked ns (second (marked v || eqb (get_or ns v 0) 0) (uncounted_from left (suc v) marked ns) e) i l' (omega arith) m)
  where
    go : Dec (v ≡ i) → (suc v ≤ i → get_or ns i 0 ≡ 0) → get_or ns i 0 ≡ 0
    go (no n) k = k (omega arith)
    go (yes p) k =
        let x = first (marked v || eqb (get_or ns v 0) 0) (uncounted_from left (suc v) marked ns) e in
        let y : eqb (get_or ns i 0) 0 ≡ true = rw (p, m) at x in
        eqb-true (get_or ns i 0) 0 y

free_counts : (left v : ℕ) (marked : ℕ → Bool) (ns : List ℕ) → ((i : ℕ) → marked i ≡ false → get_or ns i 0 ≡ 0) → uncounted_from left v marked ns ≡ true
unfolding uncounted_from
free_counts zero v marked ns f = refl
free_counts (suc left) v marked ns f =
    both (marked v || eqb (get_or ns v 0) 0) (uncounted_from left (suc v) marked ns) (go (marked v) refl) (free_counts left (suc v) marked ns f)
  where
    go : (b : Bool) → marked v ≡ b → (b || eqb (get_or ns v 0) 0) ≡ true
    go true m = refl
    go false m = eq-eqb (get_or ns v 0) 0 (f v m)

all_uncounted : (marked : ℕ → Bool) (ns : List ℕ) → length ns ≡ 64 → uncounted marked ns ≡ true → (i : ℕ) → marked i ≡ false → get_or ns i 0 ≡ 0
all_uncounted marked ns n e i m = go (dec_lt i 64)
  where
    go : Dec (i < 64) → get_or ns i 0 ≡ 0
    go (yes l) = counts_freed 64 0 marked ns e i (omega arith) (omega arith) m
    go (no l) = get_or-eq_default ns 0 (omega arith)

within-at : (left v : ℕ) (ns ms : List ℕ) → within_from left v ns ms ≡ true → (i : ℕ) → v ≤ i → i < v + left → get_or ns i 0 ≤ get_or ms i 0
unfolding within_from
within-at zero v ns ms e i l h = absurd (omega arith)
within-at (suc left) v ns ms e i l h = go (ℕ_discrete v i) (λ l'. within-at left (suc v) ns ms (second (leb (get_or ns v 0) (get_or ms v 0)) (within_from left (suc v) ns ms) e) i l' (omega arith))
  where
    go : Dec (v ≡ i) → (suc v ≤ i → get_or ns i 0 ≤ get_or ms i 0) → get_or ns i 0 ≤ get_or ms i 0
    go (no n) k = k (omega arith)
    go (yes p) k = subst (λ (u : ℕ). get_or ns u 0 ≤ get_or ms u 0) p (leb-true (get_or ns v 0) (get_or ms v 0) (first (leb (get_or ns v 0) (get_or ms v 0)) (within_from left (suc v) ns ms) e))

at_within : (left v : ℕ) (ns ms : List ℕ) → ((i : ℕ) → get_or ns i 0 ≤ get_or ms i 0) → within_from left v ns ms ≡ true
unfolding within_from
at_within zero v ns ms f = refl
at_within (suc left) v ns ms f = both (leb (get_or ns v 0) (get_or ms v 0)) (within_from left (suc v) ns ms) (le-leb (get_or ns v 0) (get_or ms v 0) (f v)) (at_within left (suc v) ns ms f)

all_within : (ns ms : List ℕ) → length ns ≡ 64 → within_from 64 0 ns ms ≡ true → (i : ℕ) → get_or ns i 0 ≤ get_or ms i 0
all_within ns ms n e i = go (dec_lt i 64)
  where
    go : Dec (i < 64) → get_or ns i 0 ≤ get_or ms i 0
    go (yes l) = within-at 64 0 ns ms e i (omega arith) (omega arith)
    go (no l) = let z : get_or ns i 0 ≡ 0 = get_or-eq_default ns 0 (omega arith) in omega arith

most-at : (left v : ℕ) (ns : List ℕ) (m : ℕ) → at_most_from left v ns m ≡ true → (i : ℕ) → v ≤ i → i < v + left → get_or ns i 0 ≤ m
unfolding at_most_from
most-at zero v ns m e i l h = absurd (omega arith)
most-at (suc left) v ns m e i l h = go (ℕ_discrete v i) (λ l'. most-at left (suc v) ns m (second (leb (get_or ns v 0) m) (at_most_from left (suc v) ns m) e) i l' (omega arith))
  where
    go : Dec (v ≡ i) → (suc v ≤ i → get_or ns i 0 ≤ m) → get_or ns i 0 ≤ m
    go (no n) k = k (omega arith)
    go (yes p) k = subst (λ (u : ℕ). get_or ns u 0 ≤ m) p (leb-true (get_or ns v 0) m (first (leb (get_or ns v 0) m) (at_most_from left (suc v) ns m) e))

at_most : (left v : ℕ) (ns : List ℕ) (m : ℕ) → ((i : ℕ) → get_or ns i 0 ≤ m) → at_most_from left v ns m ≡ true
unfolding at_most_from
at_most zero v ns m f = refl
at_most (suc left) v ns m f = both (leb (get_or ns v 0) m) (at_most_from left (suc v) ns m) (le-leb (get_or ns v 0) m (f v)) (at_most left (suc v) ns m f)

all_most : (ns : List ℕ) (m : ℕ) → length ns ≡ 64 → at_most_from 64 0 ns m ≡ true → (i : ℕ) → get_or ns i 0 ≤ m
all_most ns m n e i = go (dec_lt i 64)
  where
    go : Dec (i < 64) → get_or ns i 0 ≤ m
    go (yes l) = most-at 64 0 ns m e i (omega arith) (omega arith)
    go (no l) = let z : get_or ns i 0 ≡ 0 = get_or-eq_default ns 0 (omega arith) in omega arith

-- ---- one record
record Agrees (t : Thread) (w : Walked) : Type 0 where
  height : t.height ≡ w.height
  begin : t.begin ≡ w.begin
  base : t.base ≡ w.base
  over : t.over ≤ w.adds
  no_reads : w.begin ≡ 0 → t.reads ≡ registers.none
  no_writes : w.begin ≡ 0 → t.writes ≡ registers.none

agrees : (t : Thread) (w : Walked) → agrees_with t (some w) ≡ true → Agrees t w
agrees t w e =
    let b1 = eqb t.height w.height in
    let b2 = eqb t.begin w.begin in
    let b3 = eqb t.base w.base in
    let b5 = eqb t.reads registers.none in
    let b6 = eqb t.writes registers.none in
    let b7 = leb t.over w.adds in
    let b4 = not (eqb w.begin 0) || (b5 && b6) in
    let r1 = second b1 (b2 && (b3 && (b7 && b4))) e in
    let r2 = second b2 (b3 && (b7 && b4)) r1 in
    let r3 = second b3 (b7 && b4) r2 in
    let r4 = second b7 b4 r3 in
    record {
      height = eqb-true t.height w.height (first b1 (b2 && (b3 && (b7 && b4))) e);
      begin = eqb-true t.begin w.begin (first b2 (b3 && (b7 && b4)) r1);
      base = eqb-true t.base w.base (first b3 (b7 && b4) r2);
      over = leb-true t.over w.adds (first b7 b4 r3);
      no_reads = λ z. eqb-true t.reads registers.none (first b5 b6 (rw (eq-eqb w.begin 0 z) at r4));
      no_writes = λ z. eqb-true t.writes registers.none (second b5 b6 (rw (eq-eqb w.begin 0 z) at r4));
    }

agree : (t : Thread) (w : Walked) → Agrees t w → agrees_with t (some w) ≡ true
agree t w a =
    rw (eq-eqb t.height w.height a.height, eq-eqb t.begin w.begin a.begin, eq-eqb t.base w.base a.base, le-leb t.over w.adds a.over)
    (go (eqb w.begin 0) refl)
  where
    go : (b : Bool) → eqb w.begin 0 ≡ b → (not b || (eqb t.reads registers.none && eqb t.writes registers.none)) ≡ true
    go true z =
        both (eqb t.reads registers.none) (eqb t.writes registers.none)
        (eq-eqb t.reads registers.none (a.no_reads (eqb-true w.begin 0 z)))
        (eq-eqb t.writes registers.none (a.no_writes (eqb-true w.begin 0 z)))
    go false z = refl

walked_found : (bytes : List ℕ) (t : Thread) (w : Walked) → Walks bytes t.start t.end t.place w → walk_to bytes t ≡ some w
unfolding walk_to
walked_found bytes t w ws = walks_found bytes t.start t.end ws

found_walked : (bytes : List ℕ) (t : Thread) (w : Walked) → walk_to bytes t ≡ some w → Walks bytes t.start t.end t.place w
unfolding walk_to
found_walked bytes t w e = found_walks bytes t.start t.end (suc t.place) t.place t.start unmoved w starts e

is_placed : (bytes : List ℕ) (t : Thread) → TypedThread t → placed bytes t ≡ true → Placed bytes t
unfolding placed
is_placed bytes t y e = go (walk_to bytes t) refl (first (agrees_with t (walk_to bytes t)) (free (member t.reads) t.readlog && (free (member t.writes) t.writelog && (free (λ n. ltb n t.height) t.cells && uncounted (member t.reads) t.readcounts))) e)
  where
    go : (o : Option Walked) → walk_to bytes t ≡ o → agrees_with t o ≡ true → Placed bytes t
    go none f x = never (sym x)
    go (some w) f x =
        let a = agrees t w x in
        let b1 = agrees_with t (walk_to bytes t) in
        let b2 = free (member t.reads) t.readlog in
        let b3 = free (member t.writes) t.writelog in
        let b5 = free (λ n. ltb n t.height) t.cells in
        let b6 = uncounted (member t.reads) t.readcounts in
        let b4 = b5 && b6 in
        let r1 = second b1 (b2 && (b3 && b4)) e in
        let r2 = second b2 (b3 && b4) r1 in
        let r3 = second b3 b4 r2 in
        record {
          walked = w;
          walks = found_walked bytes t w f;
          height = a.height;
          begin = a.begin;
          base = a.base;
          over = a.over;
          no_reads = a.no_reads;
          no_writes = a.no_writes;
          reads_free = all_freed (member t.reads) t.readlog y.readlog (first b2 (b3 && b4) r1);
          writes_free = all_freed (member t.writes) t.writelog y.writelog (first b3 b4 r2);
          cells_free = λ n l. all_freed (λ n. ltb n t.height) t.cells y.cells (first b5 b6 r3) n (le-ltb n t.height (omega arith));
          counts_free = all_uncounted (member t.reads) t.readcounts y.readcounts (second b5 b6 r3);
        }

place : (bytes : List ℕ) (t : Thread) → Placed bytes t → placed bytes t ≡ true
unfolding placed
place bytes t p =
    let b1 = agrees_with t (walk_to bytes t) in
    let b2 = free (member t.reads) t.readlog in
    let b3 = free (member t.writes) t.writelog in
    let b5 = free (λ n. ltb n t.height) t.cells in
    let b6 = uncounted (member t.reads) t.readcounts in
    let b4 = b5 && b6 in
    both b1 (b2 && (b3 && b4)) agreed
    (both b2 (b3 && b4) (free-from _ 0 (member t.reads) t.readlog p.reads_free)
    (both b3 b4 (free-from _ 0 (member t.writes) t.writelog p.writes_free)
    (both b5 b6 (free-from _ 0 (λ n. ltb n t.height) t.cells (λ n h. p.cells_free n (ltb-false n t.height h))) (free_counts _ 0 (member t.reads) t.readcounts p.counts_free))))
  where
    agreed : agrees_with t (walk_to bytes t) ≡ true
    agreed =
        rw (walked_found bytes t p.walked p.walks)
        (agree t p.walked (record { height = p.height; begin = p.begin; base = p.base; over = p.over; no_reads = p.no_reads; no_writes = p.no_writes }))

-- ---- a record of no thread
zeroed : (ns : List ℤ) → length ns ≡ 64 → free (λ n. false) ns ≡ true → ns ≡ zeros
zeroed ns n e =
    ext_get_or (pos 0) ns zeros (n ∙ sym (length-replicate 64 (pos 0)))
    (λ i l. all_freed (λ n. false) ns n e i refl ∙ sym (get_or-replicate 64 i (pos 0) (pos 0) (omega arith)))

unwritten_is : (ns : List ℕ) → length ns ≡ 64 → uncounted (λ n. false) ns ≡ true → ns ≡ unwritten
unwritten_is ns n e =
    ext_get_or 0 ns unwritten (n ∙ sym (length-replicate {A = ℕ} 64 0))
    (λ i l. all_uncounted (λ n. false) ns n e i refl ∙ sym (get_or-replicate 64 i 0 0 (omega arith)))

unwritten_free : uncounted (λ n. false) unwritten ≡ true
unwritten_free = free_counts _ 0 (λ n. false) unwritten (λ i m. let z = low_none i 0 in omega arith)

zeros_free : free (λ n. false) zeros ≡ true
zeros_free = free-from _ 0 (λ n. false) zeros (λ i m. go i (dec_lt i 64))
  where
    go : (i : ℕ) → Dec (i < 64) → get_or zeros i (pos 0) ≡ pos 0
    go i (yes l) = get_or-replicate 64 i (pos 0) (pos 0) l
    go i (no l) = get_or-eq_default zeros (pos 0) {n = i} (let n : length zeros ≡ 64 = length-replicate 64 (pos 0) in omega arith)

is-blank : (t : Thread) → TypedThread t → all_zero t ≡ true → t ≡ blank
unfolding all_zero blank registers.none
is-blank t y e =
    let b1 = eqb t.start 0 in
    let b2 = eqb t.end 0 in
    let b3 = eqb t.place 0 in
    let b4 = eqb t.height 0 in
    let b5 = eqb t.begin 0 in
    let b6 = eqb t.base 0 in
    let b0 = eqb t.over 0 in
    let b7 = eqb t.reads 0 in
    let b8 = eqb t.writes 0 in
    let bx = eqb t.rule 0 in
    let by = eqb t.backs 0 in
    let b9 = free (λ n. false) t.cells in
    let b10 = free (λ n. false) t.readlog in
    let b11 = free (λ n. false) t.writelog in
    let b12 = uncounted (λ n. false) t.readcounts in
    let r10 = b11 && b12 in
    let r9 = b10 && r10 in
    let r8 = b9 && r9 in
    let ry = by && r8 in
    let rx = bx && ry in
    let r7 = b8 && rx in
    let r6 = b7 && r7 in
    let r0 = b0 && r6 in
    let r5 = b6 && r0 in
    let r4 = b5 && r5 in
    let r3 = b4 && r4 in
    let r2 = b3 && r3 in
    let r1 = b2 && r2 in
    let e1 = second b1 r1 e in
    let e2 = second b2 r2 e1 in
    let e3 = second b3 r3 e2 in
    let e4 = second b4 r4 e3 in
    let e5 = second b5 r5 e4 in
    let e0 = second b6 r0 e5 in
    let e6 = second b0 r6 e0 in
    let e7 = second b7 r7 e6 in
    let ex = second b8 rx e7 in
    let ey = second bx ry ex in
    let e8 = second by r8 ey in
    let e9 = second b9 r9 e8 in
    let e10 = second b10 r10 e9 in
    λ i. record {
      start = eqb-true t.start 0 (first b1 r1 e) i;
      end = eqb-true t.end 0 (first b2 r2 e1) i;
      place = eqb-true t.place 0 (first b3 r3 e2) i;
      height = eqb-true t.height 0 (first b4 r4 e3) i;
      cells = zeroed t.cells y.cells (first b9 r9 e8) i;
      begin = eqb-true t.begin 0 (first b5 r5 e4) i;
      base = eqb-true t.base 0 (first b6 r0 e5) i;
      over = eqb-true t.over 0 (first b0 r6 e0) i;
      reads = eqb-true t.reads 0 (first b7 r7 e6) i;
      readlog = zeroed t.readlog y.readlog (first b10 r10 e9) i;
      readcounts = unwritten_is t.readcounts y.readcounts (second b11 b12 e10) i;
      writes = eqb-true t.writes 0 (first b8 rx e7) i;
      writelog = zeroed t.writelog y.writelog (first b11 b12 e10) i;
      rule = eqb-true t.rule 0 (first bx ry ex) i;
      backs = eqb-true t.backs 0 (first by r8 ey) i;
    }

blank_zero : all_zero blank ≡ true
unfolding all_zero blank registers.none
blank_zero = rw (zeros_free, unwritten_free)

blank_none : exists blank ≡ false
unfolding blank
blank_none = refl

-- ---- the records one after the other
abbrev at : List Thread → ℕ → Thread
at ts i = get_or ts i blank

record Front (bytes : List ℕ) (ts : List Thread) : Type 0 where
  placed : (i : ℕ) → exists (at ts i) ≡ true → Placed bytes (at ts i)
  no_gap : (i : ℕ) → exists (at ts (suc i)) ≡ true → exists (at ts i) ≡ true
  no_thread : (i : ℕ) → exists (at ts i) ≡ false → at ts i ≡ blank

all_blank : (ts : List Thread) → ((i : ℕ) → TypedThread (at ts i)) → none_behind ts ≡ true → (i : ℕ) → at ts i ≡ blank
unfolding none_behind
all_blank [] y e i = refl
all_blank (t ∷ ts) y e zero = is-blank t (y 0) (first (all_zero t) (none_behind ts) e)
all_blank (t ∷ ts) y e (suc i) = all_blank ts (λ j. y (suc j)) (second (all_zero t) (none_behind ts) e) i

none-behind : (ts : List Thread) → ((i : ℕ) → at ts i ≡ blank) → none_behind ts ≡ true
unfolding none_behind
none-behind [] f = refl
none-behind (t ∷ ts) f = both (all_zero t) (none_behind ts) (ap all_zero (f 0) ∙ blank_zero) (none-behind ts (λ i. f (suc i)))

no_front : (bytes : List ℕ) (ts : List Thread) → ((i : ℕ) → at ts i ≡ blank) → Front bytes ts
no_front bytes ts f =
    record {
      placed = λ i e. never (sym e ∙ (ap exists (f i) ∙ blank_none));
      no_gap = λ i e. never (sym e ∙ (ap exists (f (suc i)) ∙ blank_none));
      no_thread = λ i e. f i;
    }

is_front : (bytes : List ℕ) (ts : List Thread) → ((i : ℕ) → TypedThread (at ts i)) → in_front bytes ts ≡ true → Front bytes ts
unfolding in_front
is_front bytes [] y e = no_front bytes [] (λ i. refl)
is_front bytes (t ∷ ts) y e = go (λ f. is_front bytes ts (λ i. y (suc i)) f) (exists t) refl e
  where
    go : (in_front bytes ts ≡ true → Front bytes ts) → (b : Bool) → exists t ≡ b → elim b [ true ↦ placed bytes t && in_front bytes ts | false ↦ none_behind (t ∷ ts) ] ≡ true → Front bytes (t ∷ ts)
    go k true x f =
        let r = k (second (placed bytes t) (in_front bytes ts) f) in
        record {
          placed = elim [ zero ↦ λ z. is_placed bytes t (y 0) (first (placed bytes t) (in_front bytes ts) f) | suc i ↦ r.placed i ];
          no_gap = elim [ zero ↦ λ z. x | suc i ↦ r.no_gap i ];
          no_thread = elim [ zero ↦ λ z. never (sym x ∙ z) | suc i ↦ r.no_thread i ];
        }
    go k false x f = no_front bytes (t ∷ ts) (all_blank (t ∷ ts) y f)

none_after : (bytes : List ℕ) (ts : List Thread) → Front bytes ts → exists (at ts 0) ≡ false → (i : ℕ) → exists (at ts i) ≡ false
none_after bytes ts f e zero = e
none_after bytes ts f e (suc i) = go (exists (at ts (suc i))) refl (none_after bytes ts f e i)
  where
    go : (b : Bool) → exists (at ts (suc i)) ≡ b → exists (at ts i) ≡ false → exists (at ts (suc i)) ≡ false
    go true x n = never (sym (f.no_gap i x) ∙ n)
    go false x n = x

in-front : (bytes : List ℕ) (ts : List Thread) → Front bytes ts → in_front bytes ts ≡ true
unfolding in_front
in-front bytes [] f = refl
in-front bytes (t ∷ ts) f =
    go
    (in-front bytes ts (record { placed = λ i. f.placed (suc i); no_gap = λ i. f.no_gap (suc i); no_thread = λ i. f.no_thread (suc i) }))
    (exists t)
    refl
  where
    go : in_front bytes ts ≡ true → (b : Bool) → exists t ≡ b → elim b [ true ↦ placed bytes t && in_front bytes ts | false ↦ none_behind (t ∷ ts) ] ≡ true
    go k true x = both (placed bytes t) (in_front bytes ts) (place bytes t (f.placed 0 x)) k
    go k false x = none-behind (t ∷ ts) (λ i. f.no_thread i (none_after bytes (t ∷ ts) f x i))

-- ---- lists of child codes
is_same : (a b : Child) → same a b ≡ true → a ≡ b
is_same a b e =
    let x = eqb a.start b.start in
    let y = eqb a.end b.end in
    λ i. record { start = eqb-true a.start b.start (first x y e) i; end = eqb-true a.end b.end (second x y e) i }

the_same : (a b : Child) → a ≡ b → same a b ≡ true
the_same a b e =
    both (eqb a.start b.start) (eqb a.end b.end)
    (eq-eqb a.start b.start (ap {B = ℕ} (λ (c : Child). c.start) e))
    (eq-eqb a.end b.end (ap {B = ℕ} (λ (c : Child). c.end) e))

is_among : (c : Child) (cs : List Child) → among c cs ≡ true → In c cs
unfolding among
is_among c [] e = never (sym e)
is_among c (d ∷ ds) e = go (λ f. is_among c ds f) (same c d) refl e
  where
    go : (among c ds ≡ true → In c ds) → (b : Bool) → same c d ≡ b → (b || among c ds) ≡ true → In c (d ∷ ds)
    go k true x f = subst (λ (z : Child). In c (z ∷ ds)) (is_same c d x) here
    go k false x f = there (k f)

in_among : (c : Child) (cs : List Child) → In c cs → among c cs ≡ true
unfolding among
in_among c (d ∷ ds) here = rw (the_same c c refl)
in_among c (d ∷ ds) (there i) = go (same c d) (in_among c ds i)
  where
    go : (b : Bool) → among c ds ≡ true → (b || among c ds) ≡ true
    go true x = refl
    go false x = x
in_among c [] x' = elim x' [ ]

in_left : (c : Child) (xs ys : List Child) → In c xs → In c (xs ++ ys)
in_left c (x ∷ xs) ys here = here
in_left c (x ∷ xs) ys (there i) = there (in_left c xs ys i)
in_left c [] ys x' = elim x' [ ]

in_right : (c : Child) (xs ys : List Child) → In c ys → In c (xs ++ ys)
in_right c [] ys i = i
in_right c (x ∷ xs) ys i = there (in_right c xs ys i)

in_either : {A : Type 0} (c : Child) (xs ys : List Child) → In c (xs ++ ys) → (In c xs → A) → (In c ys → A) → A
in_either c [] ys i f g = g i
in_either c (x ∷ xs) ys here f g = f here
in_either c (x ∷ xs) ys (there i) f g = in_either c xs ys i (λ j. f (there j)) g

-- ---- the child codes of the FORKs that threads have passed
record Parent (bytes : List ℕ) (ts : List Thread) (c : Child) : Type 0 where
  parent : ℕ
  there : exists (at ts parent) ≡ true
  passed : Passed bytes (at ts parent) c

is_passed : (bytes : List ℕ) (t : Thread) (c : Child) → In c (children_of (walk_to bytes t)) → Passed bytes t c
is_passed bytes t c i = go (walk_to bytes t) refl i
  where
    go : (o : Option Walked) → walk_to bytes t ≡ o → In c (children_of o) → Passed bytes t c
    go (some w) e j = record { walked = w; walks = found_walked bytes t w e; one = j }
    go none e j = elim j [ ]

in_passed : (bytes : List ℕ) (t : Thread) (c : Child) → Passed bytes t c → In c (children_of (walk_to bytes t))
in_passed bytes t c p = subst (λ (o : Option Walked). In c (children_of o)) (sym (walked_found bytes t p.walked p.walks)) p.one

parent_of : (bytes : List ℕ) (ts : List Thread) (c : Child) → In c (passed_by bytes ts) → Parent bytes ts c
unfolding passed_by
parent_of bytes (t ∷ ts) c i = go (λ j. parent_of bytes ts c j) (exists t) refl i
  where
    later : Parent bytes ts c → Parent bytes (t ∷ ts) c
    later p = record { parent = suc p.parent; there = p.there; passed = p.passed }

    go : (In c (passed_by bytes ts) → Parent bytes ts c) → (b : Bool) → exists t ≡ b → In c (cond b (children_of (walk_to bytes t) ++ passed_by bytes ts) (passed_by bytes ts)) → Parent bytes (t ∷ ts) c
    go k true x j =
        in_either c (children_of (walk_to bytes t)) (passed_by bytes ts) j
        (λ l. record { parent = 0; there = x; passed = is_passed bytes t c l })
        (λ r. later (k r))
    go k false x j = later (k j)
parent_of bytes [] c i = elim i [ ]

of_parent : (bytes : List ℕ) (ts : List Thread) (c : Child) (i : ℕ) → exists (at ts i) ≡ true → Passed bytes (at ts i) c → In c (passed_by bytes ts)
unfolding passed_by
of_parent bytes [] c i e p = never (sym e ∙ blank_none)
of_parent bytes (t ∷ ts) c zero e p = rw e (in_left c (children_of (walk_to bytes t)) (passed_by bytes ts) (in_passed bytes t c p))
of_parent bytes (t ∷ ts) c (suc i) e p = go (exists t) (of_parent bytes ts c i e p)
  where
    go : (b : Bool) → In c (passed_by bytes ts) → In c (cond b (children_of (walk_to bytes t) ++ passed_by bytes ts) (passed_by bytes ts))
    go true j = in_right c (children_of (walk_to bytes t)) (passed_by bytes ts) j
    go false j = j

-- ---- each thread's own code is among these
all_in : (cs : List Child) (ts : List Thread) → all_among cs ts ≡ true → (i : ℕ) → exists (at ts i) ≡ true → In (own_code (at ts i)) cs
unfolding all_among
all_in cs [] e i x = never (sym x ∙ blank_none)
all_in cs (t ∷ ts) e zero x =
    let y = first (not (exists t) || among (own_code t) cs) (all_among cs ts) e in
    is_among (own_code t) cs (rw x at y)
all_in cs (t ∷ ts) e (suc i) x = all_in cs ts (second (not (exists t) || among (own_code t) cs) (all_among cs ts) e) i x

in_all : (cs : List Child) (ts : List Thread) → ((i : ℕ) → exists (at ts i) ≡ true → In (own_code (at ts i)) cs) → all_among cs ts ≡ true
unfolding all_among
in_all cs [] f = refl
in_all cs (t ∷ ts) f =
    both (not (exists t) || among (own_code t) cs) (all_among cs ts) (go (exists t) refl) (in_all cs ts (λ i. f (suc i)))
  where
    go : (b : Bool) → exists t ≡ b → (not b || among (own_code t) cs) ≡ true
    go true x = in_among (own_code t) cs (f 0 x)
    go false x = refl

at_drop : (ts : List Thread) (i : ℕ) → at (drop 1 ts) i ≡ at ts (suc i)
at_drop [] i = refl
at_drop (t ∷ ts) i = refl

-- ---- how many threads have a code
record Has (ts : List Thread) (c : Child) (i : ℕ) : Type 0 where
  there : exists (at ts i) ≡ true
  own : own_code (at ts i) ≡ c

record One (ts : List Thread) (c : Child) : Type 0 where
  thread : ℕ
  its : Has ts c thread
  alone : (i : ℕ) → Has ts c i → i ≡ thread

of_head : (c : Child) (t : Thread) (ts : List Thread) → Has (t ∷ ts) c 0 → (exists t && same c (own_code t)) ≡ true
of_head c t ts h = both (exists t) (same c (own_code t)) h.there (the_same c (own_code t) (sym h.own))

head_of : (c : Child) (t : Thread) (ts : List Thread) → (exists t && same c (own_code t)) ≡ true → Has (t ∷ ts) c 0
head_of c t ts e =
    record {
      there = first (exists t) (same c (own_code t)) e;
      own = sym (is_same c (own_code t) (second (exists t) (same c (own_code t)) e));
    }

later : (c : Child) (t : Thread) (ts : List Thread) (i : ℕ) → Has ts c i → Has (t ∷ ts) c (suc i)
later c t ts i h = record { there = h.there; own = h.own }

sooner : (c : Child) (t : Thread) (ts : List Thread) (i : ℕ) → Has (t ∷ ts) c (suc i) → Has ts c i
sooner c t ts i h = record { there = h.there; own = h.own }

none_has : (c : Child) (ts : List Thread) → threads_of c ts ≡ 0 → (i : ℕ) → Has ts c i → ⊥
unfolding threads_of
none_has c [] e i h = never (sym h.there ∙ blank_none)
none_has c (t ∷ ts) e zero h =
    let f : suc (threads_of c ts) ≡ 0 = rw (of_head c t ts h) at e in
    omega arith
none_has c (t ∷ ts) e (suc i) h = go (exists t && same c (own_code t)) e (λ f. none_has c ts f i (sooner c t ts i h))
  where
    go : (b : Bool) → cond b (suc (threads_of c ts)) (threads_of c ts) ≡ 0 → (threads_of c ts ≡ 0 → ⊥) → ⊥
    go true f k = omega arith
    go false f k = k f

has_none : (c : Child) (ts : List Thread) → ((i : ℕ) → Has ts c i → ⊥) → threads_of c ts ≡ 0
unfolding threads_of
has_none c [] f = refl
has_none c (t ∷ ts) f = go (exists t && same c (own_code t)) refl (has_none c ts (λ i h. f (suc i) (later c t ts i h)))
  where
    go : (b : Bool) → (exists t && same c (own_code t)) ≡ b → threads_of c ts ≡ 0 → cond b (suc (threads_of c ts)) (threads_of c ts) ≡ 0
    go true e k = absurd (f 0 (head_of c t ts e))
    go false e k = k

one_has : (c : Child) (ts : List Thread) → threads_of c ts ≡ 1 → One ts c
unfolding threads_of
one_has c [] e = absurd (omega arith)
one_has c (t ∷ ts) e = go (λ f. one_has c ts f) (exists t && same c (own_code t)) refl e
  where
    go : (threads_of c ts ≡ 1 → One ts c) → (b : Bool) → (exists t && same c (own_code t)) ≡ b → cond b (suc (threads_of c ts)) (threads_of c ts) ≡ 1 → One (t ∷ ts) c
    go k true x f =
        record {
          thread = 0;
          its = head_of c t ts x;
          alone = elim [ zero ↦ λ h. refl | suc i ↦ λ h. absurd (none_has c ts (omega arith) i (sooner c t ts i h)) ];
        }
    go k false x f =
        let o = k f in
        record {
          thread = suc o.thread;
          its = later c t ts o.thread o.its;
          alone = elim [ zero ↦ λ h. never (sym (of_head c t ts h) ∙ x) | suc i ↦ λ h. ap suc (o.alone i (sooner c t ts i h)) ];
        }

has_one : (c : Child) (ts : List Thread) → One ts c → threads_of c ts ≡ 1
unfolding threads_of
has_one c [] o = never (sym o.its.there ∙ blank_none)
has_one c (t ∷ ts) o = go (λ p. has_one c ts p) (exists t && same c (own_code t)) refl o.thread o.its o.alone
  where
    go : (One ts c → threads_of c ts ≡ 1) → (b : Bool) → (exists t && same c (own_code t)) ≡ b → (j : ℕ) → Has (t ∷ ts) c j → ((i : ℕ) → Has (t ∷ ts) c i → i ≡ j) → cond b (suc (threads_of c ts)) (threads_of c ts) ≡ 1
    go k true x j h a =
        let z : 0 ≡ j = a 0 (head_of c t ts x) in
        ap suc (has_none c ts (λ i g. let s : suc i ≡ j = a (suc i) (later c t ts i g) in omega arith))
    go k false x zero h a = never (sym (of_head c t ts h) ∙ x)
    go k false x (suc j) h a =
        k
        (record { thread = j; its = sooner c t ts j h; alone = λ i g. let s : suc i ≡ suc j = a (suc i) (later c t ts i g) in omega arith })

each_one : (cs : List Child) (ts : List Thread) → one_each cs ts ≡ true → (c : Child) → In c cs → One ts c
unfolding one_each
each_one (d ∷ ds) ts e c here = one_has c ts (eqb-true (threads_of d ts) 1 (first (eqb (threads_of d ts) 1) (one_each ds ts) e))
each_one (d ∷ ds) ts e c (there i) = each_one ds ts (second (eqb (threads_of d ts) 1) (one_each ds ts) e) c i
each_one [] ts e c x'' = elim x'' [ ]

one-each : (cs : List Child) (ts : List Thread) → ((c : Child) → In c cs → One ts c) → one_each cs ts ≡ true
unfolding one_each
one-each [] ts f = refl
one-each (c ∷ cs) ts f =
    rw (has_one c ts (f c here)) (one-each cs ts (λ d i. f d (there i)))

-- ---- the COMMITs passed by all threads, and the send-backs of each
passed_by_lem : (bytes : List ℕ) (ts : List Thread) → ((i : ℕ) → exists (at ts i) ≡ true → Placed bytes (at ts i)) → CommitsPassed bytes ts (commits_passed bytes ts)
unfolding commits_passed
passed_by_lem bytes [] f = no_records
passed_by_lem bytes (t ∷ ts) f = go (exists t) refl (passed_by_lem bytes ts (λ i. f (suc i)))
  where
    go : (b : Bool) → exists t ≡ b → CommitsPassed bytes ts (commits_passed bytes ts) → CommitsPassed bytes (t ∷ ts) (cond b (commits_of (walk_to bytes t)) 0 + commits_passed bytes ts)
    go true x p =
        let a : walk_to bytes t ≡ some (f 0 x).walked = walked_found bytes t (f 0 x).walked (f 0 x).walks in
        subst (λ (o : Option Walked). CommitsPassed bytes (t ∷ ts) (commits_of o + commits_passed bytes ts)) (sym a) (of_thread x (f 0 x).walks p)
    go false x p = subst (CommitsPassed bytes (t ∷ ts)) (let z : commits_passed bytes ts ≡ 0 + commits_passed bytes ts = omega arith in z) (of_none x p)

tallied_blank : (n : ℕ) (table : Table) → BacksWithin n table blank
unfolding blank
tallied_blank n table = record { not-above = omega arith; not_stale = λ q. stale_none blank table refl; not-ahead = λ v. low_none v (get_or table.counts v 0) }

is_tallied : (n : ℕ) (table : Table) (t : Thread) → TypedThread t → (leb (needs table t) n && within_from 64 0 t.readcounts table.counts) ≡ true → BacksWithin n table t
unfolding needs
is_tallied n table t y e = go (ltb (first_stale 64 0 t table) 64) refl (leb-true (needs table t) n (first (leb (needs table t) n) (within_from 64 0 t.readcounts table.counts) e))
  where
    ahead : (v : ℕ) → get_or t.readcounts v 0 ≤ get_or table.counts v 0
    ahead = all_within t.readcounts table.counts y.readcounts (second (leb (needs table t) n) (within_from 64 0 t.readcounts table.counts) e)

    go : (b : Bool) → ltb (first_stale 64 0 t table) 64 ≡ b → cond b (suc t.backs) t.backs ≤ n → BacksWithin n table t
    go true x l = record { not-above = omega arith; not_stale = λ q. absurd (omega arith); not-ahead = ahead }
    go false x l = record { not-above = l; not_stale = λ q. none_stale t table (ltb-false (first_stale 64 0 t table) 64 x); not-ahead = ahead }

tallied_is : (n : ℕ) (table : Table) (t : Thread) → BacksWithin n table t → (leb (needs table t) n && within_from 64 0 t.readcounts table.counts) ≡ true
unfolding needs
tallied_is n table t y = both (leb (needs table t) n) (within_from 64 0 t.readcounts table.counts) (le-leb (needs table t) n (go (ltb (first_stale 64 0 t table) 64) refl)) (at_within 64 0 t.readcounts table.counts y.not-ahead)
  where
    go : (b : Bool) → ltb (first_stale 64 0 t table) 64 ≡ b → cond b (suc t.backs) t.backs ≤ n
    go false x = y.not-above
    go true x = below (dec_lt t.backs n)
      where
        below : Dec (t.backs < n) → suc t.backs ≤ n
        below (yes l) = l
        below (no m) =
            let s = found_stale t table (ltb-true (first_stale 64 0 t table) 64 x) in
            never (sym s.its ∙ y.not_stale (let a = y.not-above in omega arith) (first_stale 64 0 t table))

all-tallied : (n : ℕ) (table : Table) (ts : List Thread) → ((i : ℕ) → TypedThread (at ts i)) → all_tallied n table ts ≡ true → (i : ℕ) → BacksWithin n table (at ts i)
unfolding all_tallied
all-tallied n table [] y e i = tallied_blank n table
all-tallied n table (t ∷ ts) y e zero = is_tallied n table t (y 0) (first (leb (needs table t) n && within_from 64 0 t.readcounts table.counts) (all_tallied n table ts) e)
all-tallied n table (t ∷ ts) y e (suc i) = all-tallied n table ts (λ k. y (suc k)) (second (leb (needs table t) n && within_from 64 0 t.readcounts table.counts) (all_tallied n table ts) e) i

tallied_all : (n : ℕ) (table : Table) (ts : List Thread) → ((i : ℕ) → BacksWithin n table (at ts i)) → all_tallied n table ts ≡ true
unfolding all_tallied
tallied_all n table [] f = refl
tallied_all n table (t ∷ ts) f = both (leb (needs table t) n && within_from 64 0 t.readcounts table.counts) (all_tallied n table ts) (tallied_is n table t (f 0)) (tallied_all n table ts (λ i. f (suc i)))

-- ---- the whole test
forked : (bytes : List ℕ) (s : State) (c : Child) → Parent bytes s.threads c → Forked bytes s c
forked bytes s c p = record { parent = p.parent; there = p.there; passed = p.passed }

is_fit : (others : ℕ) (bytes : List ℕ) (s : State) → Typed s → fits_beside others bytes s ≡ true → FitsBeside others bytes s
unfolding fits_beside
is_fit others bytes s y e =
    let ts = s.threads in
    let cs = passed_by bytes ts in
    let b1 = eqb (length ts) 16 in
    let b2 = eqb (length s.registers) 64 in
    let b3 = same (own_code (thread_at s 0)) (record { start = 5; end = length bytes }) in
    let b4 = in_front bytes ts in
    let b5 = all_among cs (drop 1 ts) in
    let b6 = one_each cs ts in
    let b8 = all_tallied (others + commits_passed bytes ts) (table_in s) ts in
    let b9 = at_most_from 64 0 s.counts (others + commits_passed bytes ts) in
    let b7 = b8 && b9 in
    let b0 = eqb (length s.counts) 64 in
    let e1 = second b1 (b2 && (b0 && (b3 && (b4 && (b5 && (b6 && b7)))))) e in
    let e0 = second b2 (b0 && (b3 && (b4 && (b5 && (b6 && b7))))) e1 in
    let e2 = second b0 (b3 && (b4 && (b5 && (b6 && b7)))) e0 in
    let e3 = second b3 (b4 && (b5 && (b6 && b7))) e2 in
    let e4 = second b4 (b5 && (b6 && b7)) e3 in
    let e5 = second b5 (b6 && b7) e4 in
    let f = is_front bytes ts y (first b4 (b5 && (b6 && b7)) e3) in
    record {
      records = eqb-true (length ts) 16 (first b1 (b2 && (b0 && (b3 && (b4 && (b5 && (b6 && b7)))))) e);
      registers = eqb-true (length s.registers) 64 (first b2 (b0 && (b3 && (b4 && (b5 && (b6 && b7))))) e1);
      counts = eqb-true (length s.counts) 64 (first b0 (b3 && (b4 && (b5 && (b6 && b7)))) e0);
      root = is_same (own_code (thread_at s 0)) (record { start = 5; end = length bytes }) (first b3 (b4 && (b5 && (b6 && b7))) e2);
      child = λ i x. forked bytes s (own_code (thread_at s (suc i))) (parent_of bytes ts (own_code (thread_at s (suc i))) (children (first b5 (b6 && b7) e4) i x));
      one = λ c p. one (each_one cs ts (first b6 b7 e5) c (of_parent bytes ts c p.parent p.there p.passed));
      placed = f.placed;
      no_gap = f.no_gap;
      no_thread = f.no_thread;
      commits = commits_passed bytes ts;
      passed = passed_by_lem bytes ts f.placed;
      tallied = λ i h. all-tallied (others + commits_passed bytes ts) (table_in s) ts y (first b8 b9 (second b6 b7 e5)) i;
      counted = all_most s.counts (others + commits_passed bytes ts) (eqb-true (length s.counts) 64 (first b0 (b3 && (b4 && (b5 && (b6 && b7)))) e0)) (second b8 b9 (second b6 b7 e5));
    }
  where
    one : {c : Child} → One s.threads c → OneThread s c
    one o =
        record {
          thread = o.thread;
          its = record { there = o.its.there; own = o.its.own };
          alone = λ i h. o.alone i (record { there = h.there; own = h.own });
        }

    children : all_among (passed_by bytes s.threads) (drop 1 s.threads) ≡ true → (i : ℕ) → Exists s (suc i) → In (own_code (thread_at s (suc i))) (passed_by bytes s.threads)
    children a i x =
        subst (λ (t : Thread). In (own_code t) (passed_by bytes s.threads)) (at_drop s.threads i)
        (all_in (passed_by bytes s.threads) (drop 1 s.threads) a i (ap exists (at_drop s.threads i) ∙ x))

fit : (others : ℕ) (bytes : List ℕ) (s : State) → FitsBeside others bytes s → fits_beside others bytes s ≡ true
unfolding fits_beside
fit others bytes s f =
    let ts = s.threads in
    let cs = passed_by bytes ts in
    let b1 = eqb (length ts) 16 in
    let b2 = eqb (length s.registers) 64 in
    let b3 = same (own_code (thread_at s 0)) (record { start = 5; end = length bytes }) in
    let b4 = in_front bytes ts in
    let b5 = all_among cs (drop 1 ts) in
    let b6 = one_each cs ts in
    let b8 = all_tallied (others + commits_passed bytes ts) (table_in s) ts in
    let b9 = at_most_from 64 0 s.counts (others + commits_passed bytes ts) in
    let b7 = b8 && b9 in
    let b0 = eqb (length s.counts) 64 in
    both b1 (b2 && (b0 && (b3 && (b4 && (b5 && (b6 && b7)))))) (eq-eqb (length ts) 16 f.records)
    (both b2 (b0 && (b3 && (b4 && (b5 && (b6 && b7))))) (eq-eqb (length s.registers) 64 f.registers)
    (both b0 (b3 && (b4 && (b5 && (b6 && b7)))) (eq-eqb (length s.counts) 64 f.counts)
    (both b3 (b4 && (b5 && (b6 && b7))) (the_same (own_code (thread_at s 0)) (record { start = 5; end = length bytes }) f.root)
    (both b4 (b5 && (b6 && b7)) (in-front bytes ts (record { placed = f.placed; no_gap = f.no_gap; no_thread = f.no_thread }))
    (both b5 (b6 && b7) (in_all cs (drop 1 ts) children)
    (both b6 b7 (one-each cs ts (λ c i. one c (f.one c (forked bytes s c (parent_of bytes ts c i))))) (both b8 b9 (tallied_all (others + commits_passed bytes ts) (table_in s) ts tallies) (at_most 64 0 s.counts (others + commits_passed bytes ts) most))))))))
  where
    one : (c : Child) → OneThread s c → One s.threads c
    one c o =
        record {
          thread = o.thread;
          its = record { there = o.its.there; own = o.its.own };
          alone = λ i h. o.alone i (record { there = h.there; own = h.own });
        }

    most : (v : ℕ) → get_or s.counts v 0 ≤ others + commits_passed bytes s.threads
    most v = subst (λ (n : ℕ). get_or s.counts v 0 ≤ others + n) (passed_once f.passed (passed_by_lem bytes s.threads f.placed)) (f.counted v)

    tallies : (i : ℕ) → BacksWithin (others + commits_passed bytes s.threads) (table_in s) (at s.threads i)
    tallies i = go (exists (at s.threads i)) refl
      where
        go : (b : Bool) → exists (at s.threads i) ≡ b → BacksWithin (others + commits_passed bytes s.threads) (table_in s) (at s.threads i)
        go true x = subst (λ (n : ℕ). BacksWithin (others + n) (table_in s) (at s.threads i)) (passed_once f.passed (passed_by_lem bytes s.threads f.placed)) (f.tallied i x)
        go false x = subst (BacksWithin (others + commits_passed bytes s.threads) (table_in s)) (sym (f.no_thread i x)) (tallied_blank (others + commits_passed bytes s.threads) (table_in s))

    children : (i : ℕ) → exists (at (drop 1 s.threads) i) ≡ true → In (own_code (at (drop 1 s.threads) i)) (passed_by bytes s.threads)
    children i x =
        let p = f.child i (ap exists (sym (at_drop s.threads i)) ∙ x) in
        subst (λ (t : Thread). In (own_code t) (passed_by bytes s.threads)) (sym (at_drop s.threads i))
        (of_parent bytes s.threads (own_code (thread_at s (suc i))) p.parent p.there p.passed)

-- the test says yes exactly of the states that fit their code, beside any number of COMMITs of another job, and alone
pub fits_beside_exactly : (others : ℕ) (bytes : List ℕ) (s : State) → Typed s → (fits_beside others bytes s ≡ true) ↔ FitsBeside others bytes s
fits_beside_exactly others bytes s y = (is_fit others bytes s y, fit others bytes s)

pub fits_exactly : (bytes : List ℕ) (s : State) → Typed s → (fits bytes s ≡ true) ↔ Fits bytes s
unfolding fits
fits_exactly bytes s y = fits_beside_exactly 0 bytes s y
