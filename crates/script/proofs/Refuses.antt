-- The job reader refuses n at p exactly if document 01's table, with document 02 No. 3's row, does. Assumes nothing.
use Prim.Native.Nat.{ℕ, zero, suc, ◌+◌, ◌≤◌, ◌<◌}
use mathlib.Core.Path.{◌≡◌, refl, sym, ap, subst, subst₂, ◌∙◌}
use mathlib.Core.Bool.{Bool, true, false}
use mathlib.Core.Logic.{inl, inr}
use mathlib.Core.List.{List, [], ◌∷◌}
use native.Mathlib.Decide.{dec_lt, ℕ_discrete}
use native.Mathlib.Omega.{arith}
use lib.Dec.{eqb, eqb-suc-zero}
use lib.ListN.{length, drop, take, length-append, length-drop}
use borrow.Author.Tests.{lt-ltb, le-ltb, le-leb, lt-leb, eq-eqb, ne_eqb, eqb-true}
use Rattle.script.specs.Tree.{Sort}
use Rattle.script.specs.Bytes.{Bytes, Node, node_bytes, job_mark}
use Rattle.script.specs.Outcome.{Outcome, refused, done, onward, mapped}
use Rattle.script.specs.Jobs.{Due, number16, parts_then, fork_of, root, Job}
use Rattle.script.specs.Reader.{Forest, grown, read_nodes, job_marked, taken, read_tree, short_from, short_only, read_job}
use Rattle.script.specs.Refusal.{Permitted, DueNode, Headed, Marked, Versioned, Counted, Reaches, start, next, Refused, cut_header, cut_node, cut_operand, mark, version, count, kind, register, depth, forks, used_up, nodes_over, bytes_over, long}
use Rattle.script.proofs.Numbers.{bytes_drop}
use Rattle.script.proofs.Nodes.{Sees, no_byte, bad_kind, too_deep, cut, bad_register, many_forks, good, node_sees, seen}
use Rattle.script.proofs.Reading.{read-one, bytes_behind}
use Rattle.script.proofs.Long.{Judged, short, long as too-long, judged, long_fails}
use Rattle.script.proofs.Accepts.{both, read_is_tree, tree_is_read}

-- what holds wherever the reader has come
module _ (bs : List ℕ) where
  place_is : {left : ℕ} {ds : List Due} {f p : ℕ} {rest : List ℕ} → Reaches bs left ds f p rest → p + length rest ≡ length bs
  place_is (start c) = rw (length-drop 7 bs) (omega (arith, c.before.before.before.enough))
  place_is (next {place = p} {rest = rest} node r v h g) =
      omega (arith, place_is r, length-append (node_bytes node) rest)

  forks_are : {left : ℕ} {ds : List Due} {f p : ℕ} {rest : List ℕ} → Reaches bs left ds f p rest → f ≤ 15
  forks_are (start c) = omega arith
  forks_are (next node r v h g) = g

  bytes_are : Bytes bs → {left : ℕ} {ds : List Due} {f p : ℕ} {rest : List ℕ} → Reaches bs left ds f p rest → Bytes rest
  bytes_are b (start c) = bytes_drop 7 b
  bytes_are b (next {rest = rest} node r v h g) = bytes_behind (node_bytes node) rest (bytes_are b r)

-- the header's tests, as equations of what the reader tests
mark_yes : (bs : List ℕ) → 3 ≤ length bs → job_marked bs ≡ true → take 3 bs ≡ job_mark
unfolding job_marked job_mark
mark_yes [] h e = absurd (omega arith)
mark_yes (a ∷ []) h e = absurd (omega arith)
mark_yes (a ∷ b ∷ []) h e = absurd (omega arith)
mark_yes (a ∷ b ∷ c ∷ bs) h e =
    let m = both (eqb a 87) _ e in
    let m' = both (eqb b 83) _ m.1 in
    rw (eqb-true a 87 m.0, eqb-true b 83 m'.0, eqb-true c 74 m'.1)

mark_back : (bs : List ℕ) → take 3 bs ≡ job_mark → job_marked bs ≡ true
unfolding job_marked job_mark
mark_back [] e = absurd (let z : ◌≡◌ {A = ℕ} 0 1 = cc in omega arith)
mark_back (a ∷ []) e = absurd (let z : ◌≡◌ {A = ℕ} 0 1 = cc in omega arith)
mark_back (a ∷ b ∷ []) e = absurd (let z : ◌≡◌ {A = ℕ} 0 1 = cc in omega arith)
mark_back (a ∷ b ∷ c ∷ bs) e =
    let p : a ≡ 87 = cc in
    let q : b ≡ 83 = cc in
    let r : c ≡ 74 = cc in
    rw (eq-eqb a 87 p, eq-eqb b 83 q, eq-eqb c 74 r)

-- past the header the nodes decide
header_passed : {bs : List ℕ} → Counted bs → read_tree bs ≡ mapped (λ (ts : Forest root). record { version = number16 bs 3; tree = ts.0 }) (read_nodes (number16 bs 5) root 0 7 (drop 7 bs))
unfolding read_tree taken
header_passed {bs} c =
    rw (
      le-ltb (length bs) 7 c.before.before.before.enough,
      mark_back bs c.before.before.mark,
      eq-eqb (number16 bs 3) 1 c.before.version,
      le-leb 1 (number16 bs 5) c.some,
      le-leb (number16 bs 5) 1000 c.few,
    )

-- what the reader refuses where it has come, it refuses
tree_reached : {bs : List ℕ} {left : ℕ} {ds : List Due} {f p n q : ℕ} {rest : List ℕ} → Reaches bs left ds f p rest → read_nodes left ds f p rest ≡ refused n q → read_tree bs ≡ refused n q
tree_reached {n = n} {q = q} (start c) e = header_passed c ∙ ap (mapped _) e
tree_reached {n = n} {q = q} (next {left = left} {d = d} {ds = ds} {forks = f} {place = p} {rest = rest} node r v h g) e =
    tree_reached r (read-one node left d.depth f p ds rest v h g ∙ ap (mapped (grown node d.depth ds)) e)

reached : {bs : List ℕ} {left : ℕ} {ds : List Due} {f p n q : ℕ} {rest : List ℕ} → Reaches bs left ds f p rest → read_nodes left ds f p rest ≡ refused n q → read_job bs ≡ refused n q
unfolding read_job
reached r e = ap (λ (o : Outcome Job). onward o short_only) (tree_reached r e)

-- a node that is refused
stuck : {s : Sort} {n f p k q : ℕ} {bs : List ℕ} (left : ℕ) (ds : List Due) → Sees {s = s} n f p bs (refused k q) → read_nodes (suc left) (record { sort = s; depth = n } ∷ ds) f p bs ≡ refused k q
unfolding read_nodes
stuck left ds sees = rw (node_sees sees)

stopped : {bs : List ℕ} {left : ℕ} {d : Due} {ds : List Due} {f p k q : ℕ} {rest : List ℕ} → Reaches bs (suc left) (d ∷ ds) f p rest → Sees {s = d.sort} d.depth f p rest (refused k q) → read_job bs ≡ refused k q
stopped {left = left} {ds = ds} r sees = reached r (stuck left ds sees)

-- what the table refuses, the reader refuses
pub refused_is_read : {bs : List ℕ} {n p : ℕ} → Refused bs n p → read_job bs ≡ refused n p
unfolding read_job read_tree read_nodes taken
refused_is_read {bs} (cut_header h) = rw (lt-ltb (length bs) 7 h)
refused_is_read {bs} (cut_node {place = p} r) =
    let e : p ≡ length bs = omega (arith, place_is bs r) in
    stopped r no_byte ∙ ap (refused 1) e
refused_is_read {bs} (cut_operand n a l) =
    let e : n.place + suc (length n.rest) ≡ length bs = place_is bs n.reached in
    stopped n.reached (cut a.permitted a.flat l) ∙ ap (refused 1) e
refused_is_read {bs} (mark l n) =
    rw (le-ltb (length bs) 7 l.enough, no_mark (job_marked bs) refl)
  where
    no_mark : (b : Bool) → job_marked bs ≡ b → job_marked bs ≡ false
    no_mark true e = absurd (n (mark_yes bs (omega (arith, l.enough)) e))
    no_mark false e = e
refused_is_read {bs} (version m n) =
    rw (le-ltb (length bs) 7 m.before.enough, mark_back bs m.mark, ne_eqb (number16 bs 3) 1 n)
refused_is_read {bs} (count v (inl e)) =
    rw (le-ltb (length bs) 7 v.before.before.enough, mark_back bs v.before.mark, eq-eqb (number16 bs 3) 1 v.version, e)
refused_is_read {bs} (count v (inr l)) =
    rw (
      le-ltb (length bs) 7 v.before.before.enough,
      mark_back bs v.before.mark,
      eq-eqb (number16 bs 3) 1 v.version,
      le-leb 1 (number16 bs 5) (omega arith),
      lt-leb (number16 bs 5) 1000 l,
    )
refused_is_read (kind n h) = stopped n.reached (bad_kind h)
refused_is_read {bs} (register n a o e l) =
    stopped (subst (λ (r : List ℕ). Reaches bs (suc n.left) (n.due ∷ n.others) n.forks n.place (n.kind ∷ r)) e n.reached) (bad_register a.permitted a.flat o l)
refused_is_read (depth n p h) = stopped n.reached (too_deep p h)
refused_is_read {bs} (forks n a e l) =
    stopped (subst (λ (k : ℕ). Reaches bs (suc n.left) (n.due ∷ n.others) n.forks n.place (k ∷ n.rest)) e n.reached) (many_forks (subst (Permitted n.due.sort) e a.permitted) a.flat l)
refused_is_read (used_up r) = reached r refl
refused_is_read (nodes_over r) = reached r refl
refused_is_read (bytes_over {left = zero} {rest = rest} r) = reached r (rw (eqb-suc-zero (length rest)))
refused_is_read (bytes_over {left = suc left} r) = reached r refl
refused_is_read {bs} (long {j = j} {i = i} t f) = rw (tree_is_read bs j t, long_fails 7 j.tree i f)

-- the header is turned down, or passes all its tests
data Header (bs : List ℕ) : Type 0 where
  turned-down : {number place : ℕ} → Refused bs number place → Header bs
  all_passed : Counted bs → Header bs

header : (bs : List ℕ) → Header bs
header bs = long (dec_lt (length bs) 7)
  where
    counted : Versioned bs → Dec (number16 bs 5 < 1) → Dec (1000 < number16 bs 5) → Header bs
    counted v (yes h) l = turned-down (count v (inl (omega arith)))
    counted v (no h) (yes l) = turned-down (count v (inr l))
    counted v (no h) (no l) = all_passed (record { before = v; some = omega arith; few = omega arith })

    versioned : Marked bs → Dec (number16 bs 3 ≡ 1) → Header bs
    versioned m (yes e) = counted (record { before = m; version = e }) (dec_lt (number16 bs 5) 1) (dec_lt 1000 (number16 bs 5))
    versioned m (no n) = turned-down (version m n)

    with-mark : Headed bs → (t : Bool) → job_marked bs ≡ t → Header bs
    with-mark l true e = versioned (record { before = l; mark = mark_yes bs (omega (arith, l.enough)) e }) (ℕ_discrete (number16 bs 3) 1)
    with-mark l false e = turned-down (mark l (λ m. let f = mark_back bs m in absurd (let z : ◌≡◌ {A = ℕ} 0 1 = cc in omega arith)))

    long : Dec (length bs < 7) → Header bs
    long (yes h) = turned-down (cut_header h)
    long (no h) = with-mark (record { enough = omega arith }) (job_marked bs) refl

mapped_refused : {A B : Type 0} {k q : ℕ} (g : A → B) (o : Outcome A) → mapped g o ≡ refused k q → o ≡ refused k q
mapped_refused g (refused n p) e = cc
mapped_refused g (done a) e = absurd (let z : ◌≡◌ {A = ℕ} 0 1 = cc in omega arith)

-- what the reader refuses, the table refuses
module _ (bs : List ℕ) (b : Bytes bs) where
  module _ (left : ℕ) (ih : (ds : List Due) (f p : ℕ) (rest : List ℕ) (k q : ℕ) → Reaches bs left ds f p rest → read_nodes left ds f p rest ≡ refused k q → Refused bs k q) where
    -- a node that is due where the reader has come
    module _ (s : Sort) (n : ℕ) (ds : List Due) (f p k q : ℕ) where
      node_stuck : (rest : List ℕ) (number place : ℕ) → Sees {s = s} n f p rest (refused number place) → read_nodes (suc left) (record { sort = s; depth = n } ∷ ds) f p rest ≡ refused k q → Refused bs number place → Refused bs k q
      node_stuck rest number place sees e r =
          let e' : refused number place ≡ refused k q = sym (stuck left ds sees) ∙ e in
          subst₂ (Refused bs) (cc) (cc) r

      abbrev due_at : {x : ℕ} {rest : List ℕ} → Reaches bs (suc left) (record { sort = s; depth = n } ∷ ds) f p (x ∷ rest) → DueNode bs
      due_at {x} {rest} r = record { left = left; due = record { sort = s; depth = n }; others = ds; forks = f; place = p; kind = x; rest = rest; reached = r }

      node_refused : (rest : List ℕ) (o : Outcome (Node s)) → Sees n f p rest o → Reaches bs (suc left) (record { sort = s; depth = n } ∷ ds) f p rest → read_nodes (suc left) (record { sort = s; depth = n } ∷ ds) f p rest ≡ refused k q → Refused bs k q
      node_refused _ o no_byte r e =
          let h : length bs ≡ p = omega (arith, place_is bs r) in
          node_stuck [] 1 p no_byte e (subst (Refused bs 1) h (cut_node r))
      node_refused _ o (bad_kind {k = x} {rest = rest} h) r e = node_stuck (x ∷ rest) 5 p (bad_kind h) e (kind (due_at r) h)
      node_refused _ o (too_deep {k = x} {rest = rest} h l) r e = node_stuck (x ∷ rest) 7 p (too_deep h l) e (depth (due_at r) h l)
      node_refused _ o (cut {k = x} {rest = rest} h l m) r e =
          node_stuck (x ∷ rest) 1 (p + suc (length rest)) (cut h l m) e (subst (Refused bs 1) (sym (place_is bs r)) (cut_operand (due_at r) (record { permitted = h; flat = l }) m))
      node_refused _ o (bad_register {k = x} {v = v} {rest = rest} h l m w) r e = node_stuck (x ∷ v ∷ rest) 6 (p + 1) (bad_register h l m w) e (register (due_at r) (record { permitted = h; flat = l }) m refl w)
      node_refused _ o (many_forks {rest = rest} h l m) r e = node_stuck (4 ∷ rest) 8 p (many_forks h l m) e (forks (due_at r) (record { permitted = h; flat = l }) refl m)
      node_refused rest o (good node behind v h g eq) r e =
          ih (parts_then node n ds) (f + fork_of node) (p + length (node_bytes node)) behind k q (next node (subst (Reaches bs (suc left) (record { sort = s; depth = n } ∷ ds) f p) eq r) v h g) (mapped_refused (grown node n ds) _ (sym (read-one node left n f p ds behind v h g) ∙ (rw eq at e)))

  nodes_refused : (left : ℕ) (ds : List Due) (f p : ℕ) (rest : List ℕ) (k q : ℕ) → Reaches bs left ds f p rest → read_nodes left ds f p rest ≡ refused k q → Refused bs k q
  unfolding read_nodes
  nodes_refused zero [] f p [] k q r e = absurd (let z : ◌≡◌ {A = ℕ} 0 1 = cc in omega arith)
  nodes_refused zero [] f p (x ∷ rest) k q r e =
      let e' : ◌≡◌ {A = Outcome (Forest [])} (refused 9 p) (refused k q) = rw (eqb-suc-zero (length rest)) at e in
      subst₂ (Refused bs) (cc) (cc) (bytes_over r)
  nodes_refused zero (d ∷ ds) f p rest k q r e = subst₂ (Refused bs) (cc) (cc) (used_up r)
  nodes_refused (suc left) [] f p rest k q r e = subst₂ (Refused bs) (cc) (cc) (nodes_over r)
  nodes_refused (suc left) (d ∷ ds) f p rest k q r e =
      let w = seen d.depth f p d.sort rest (bytes_are bs b r) (forks_are bs r) in
      node_refused left (λ ds f p rest k q r e. nodes_refused left ds f p rest k q r e) d.sort d.depth ds f p k q rest w.outcome w.sees r e

  -- what the reader refuses, the table refuses
  pub read_is_refused : (k q : ℕ) → read_job bs ≡ refused k q → Refused bs k q
  unfolding read_job
  read_is_refused k q e = go (header bs)
    where
      go : Header bs → Refused bs k q
      go (turned-down {number = n} {place = p} r) =
          let e' : read_job bs ≡ refused n p = refused_is_read r in
          subst₂ (Refused bs) (cc) (cc) r
      go (all_passed c) = read (read_tree bs) refl
        where
          -- the tree is too long, or was not read
          judge : (j : Job) → read_tree bs ≡ done j → (o : Outcome (Unit {0})) → Judged 7 j.tree o → mapped (λ (u : Unit {0}). j) o ≡ refused k q → Refused bs k q
          judge j t _ (short h) r = absurd (let z : ◌≡◌ {A = ℕ} 0 1 = cc in omega arith)
          judge j t _ (too-long {i = i} {at = at} f l) r = subst₂ (Refused bs) (cc) (cc) (long (read_is_tree bs j b t) f)

          read : (o : Outcome Job) → read_tree bs ≡ o → Refused bs k q
          read (refused n p) t =
              let r : refused n p ≡ refused k q = sym (ap (λ (o : Outcome Job). onward o short_only) t) ∙ e in
              nodes_refused (number16 bs 5) root 0 7 (drop 7 bs) k q (start c) (mapped_refused _ _ (sym (header_passed c) ∙ (t ∙ r)))
          read (done j) t = judge j t (short_from 7 j.tree) (judged 7 j.tree) (sym (ap (λ (o : Outcome Job). onward o short_only) t) ∙ e)
