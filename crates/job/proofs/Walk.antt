-- The reader's loop follows `read_nodes`: what is due, what it counts, and why it stays within its bounds. Assumes nothing.
use Prim.Native.Nat.{ℕ, suc, ◌+◌, ◌*◌, ◌-◌, ◌≤◌, ◌<◌}
use mathlib.Core.Path.{◌≡◌, refl, sym, ap, subst, ◌∙◌}
use mathlib.Core.Bool.{false}
use mathlib.Core.List.{List, [], ◌∷◌, ◌++◌, map, reverse}
use mathlib.Core.Logic.{◌⊎◌, inl, inr}
use native.Mathlib.Omega.{arith}
use lib.ListN.{length, drop, take, get_or, length-drop, length-append}
use lib.Seq.{drop-drop, get_or-drop}
use borrow.Author.Tests.{eq-eqb, ne_eqb}
use Rattle.std.proofs.lemmas.List.{take_more, reverse-append, map-append, length-reverse, length-map}
use Rattle.job.specs.declared.Accepted.{Accepted}
use Rattle.job.specs.declared.Due.{Due}
use Rattle.job.specs.Answer.{answer}
use Rattle.job.specs.InnerScan.{node_kind, tested, code_of_kind, forks_of_kind, parts_of, due_part, due_list, first_cursor, behind, Reader, CanAdvance}
use Rattle.script.specs.Tree.{Sort}
use Rattle.script.specs.Count.{code_t, code_p, code_length}
use Rattle.script.specs.InnerTrees.{code_size}
use Rattle.script.specs.Bytes.{Bytes, bytes32, Node, VALP, ADDP, ATOMIC, FORK, VALT, ADDT, READ, WRITE, node_bytes}
use Rattle.script.specs.Outcome.{Outcome, refused, done, mapped}
use Rattle.script.specs.Jobs.{Due as Part, operand, parts_then, fork_of, root}
use Rattle.script.specs.Reader.{Forest, node_at, grown, read_nodes, whole}
use Rattle.script.proofs.Nodes.{Sees, good, node_sees, seen}
use Rattle.script.proofs.Numbers.{bytes_drop}
use Rattle.terms.specs.Numbers.{kind_number}
use Rattle.terms.specs.declared.Kind.{Kind}

-- ---- what is due

pub due_more : (items more : List Due) → due_list (items ++ more) ≡ due_list more ++ due_list items
due_more items more = ap (map due_part) (reverse-append items more) ∙ map-append due_part (reverse more) (reverse items)

due_length : (items : List Due) → length (due_list items) ≡ length items
due_length items = length-map (reverse items) due_part ∙ length-reverse items

-- the last of so many values of an array
pub last_of : {A : Type 0} (xs : List A) (n : ℕ) (d : A) → 0 < n → n ≤ length xs → take n xs ≡ take (n - 1) xs ++ (get_or xs (n - 1) d ∷ [])
last_of xs n d some h = ap (λ (m : ℕ). take m xs) (let e : n ≡ n - 1 + 1 = omega (arith, some) in e) ∙ take_more xs (n - 1) d (omega (arith, some, h))

-- none of them
pub none_of : {A : Type 0} (xs : List A) (n : ℕ) → n ≤ 0 → take n xs ≡ []
none_of xs n h = let e : n ≡ 0 = omega (arith, h) in rw e refl

-- the parts of a node at depth n are due behind it
parts_due : {t : Sort} (node : Node t) (n depth : ℕ) (ds : List Part) → depth ≡ suc n → due_list (parts_of (node_kind node) depth) ++ ds ≡ parts_then node n ds
parts_due (VALP z) n depth ds e = refl
parts_due ADDP n depth ds e = rw e refl
parts_due ATOMIC n depth ds e = rw e refl
parts_due FORK n depth ds e = rw e refl
parts_due (VALT z) n depth ds e = refl
parts_due ADDT n depth ds e = rw e refl
parts_due (READ v) n depth ds e = refl
parts_due (WRITE v) n depth ds e = rw e refl

-- the depth of each part is above the number of those below it, and at most 65
abbrev pub Stairs : List Part → Type 0
Stairs [] = Unit {0}
Stairs (d ∷ ds) = (length ds < d.depth) × (d.depth ≤ 65) × Stairs ds

stairs_then : {t : Sort} (node : Node t) (n : ℕ) (ds : List Part) → Stairs ds → length ds < n → n ≤ 64 → Stairs (parts_then node n ds)
stairs_then (VALP z) n ds s l h = s
stairs_then ADDP n ds s l h = (omega (arith, l), omega (arith, h), (omega (arith, l), omega (arith, h), s))
stairs_then ATOMIC n ds s l h = (omega (arith, l), omega (arith, h), s)
stairs_then FORK n ds s l h = (omega (arith, l), omega (arith, h), s)
stairs_then (VALT z) n ds s l h = s
stairs_then ADDT n ds s l h = (omega (arith, l), omega (arith, h), (omega (arith, l), omega (arith, h), s))
stairs_then (READ v) n ds s l h = s
stairs_then (WRITE v) n ds s l h = (omega (arith, l), omega (arith, h), s)

-- ---- the bytes of code of a tree for each part that is due

abbrev code_f : (ds : List Part) → Forest ds → ℕ
code_f [] ts = 0
code_f (d ∷ ds) ts = code_size d.sort ts.0 + code_f ds ts.1

grown_code : {s : Sort} (node : Node s) (n : ℕ) (ds : List Part) (ts : Forest (parts_then node n ds)) → code_f (record { sort = s; depth = n } ∷ ds) (grown node n ds ts) ≡ code_of_kind (node_kind node) + code_f (parts_then node n ds) ts
unfolding grown code_p code_t
grown_code (VALP z) n ds ts = omega arith
grown_code ADDP n ds ts = omega arith
grown_code ATOMIC n ds ts = omega arith
grown_code FORK n ds ts = omega arith
grown_code (VALT z) n ds ts = omega arith
grown_code ADDT n ds ts = omega arith
grown_code (READ v) n ds ts = omega arith
grown_code (WRITE v) n ds ts = omega arith

-- an accepted job's answer
abbrev pub accepted_as : (version length : ℕ) → Accepted
accepted_as version length = record { version = version; length = length }

-- the answer, when so many bytes of code were counted before
abbrev told : (version before : ℕ) (ds : List Part) → Outcome (Forest ds) → Outcome Accepted
told version before ds (refused number place) = refused number place
told version before ds (done ts) = done (accepted_as version (before + code_f ds ts))

told_grown : {s : Sort} (version before : ℕ) (node : Node s) (n : ℕ) (ds : List Part) (o : Outcome (Forest (parts_then node n ds))) → told version before (record { sort = s; depth = n } ∷ ds) (mapped (grown node n ds) o) ≡ told version (before + code_of_kind (node_kind node)) (parts_then node n ds) o
told_grown version before node n ds (refused number place) = refl
told_grown {s} version before node n ds (done ts) =
    let e : before + code_f (record { sort = s; depth = n } ∷ ds) (grown node n ds ts) ≡ before + code_of_kind (node_kind node) + code_f (parts_then node n ds) ts = omega (arith, grown_code node n ds ts) in
    ap (λ (n : ℕ). done (accepted_as version n)) e

told_root : (version : ℕ) (o : Outcome (Forest root)) → told version 5 root o ≡ answer (whole version o)
unfolding code_length
told_root version (refused number place) = refl
told_root version (done ts) = let e : 5 + (code_p ts.0 + 0) ≡ 5 + code_p ts.0 = omega arith in ap (λ (n : ℕ). done (accepted_as version n)) e

-- the answer that the reader still comes to
comes : (version before left forks place : ℕ) → List Part → List ℕ → Outcome Accepted
comes version before left forks place ds bs = told version before ds (read_nodes left ds forks place bs)

pub ahead : (version : ℕ) → List ℕ → Reader → Outcome Accepted
ahead version job s = comes version s.at.code s.at.left s.at.forks s.at.place (due_list s.due) (drop s.at.place job)

-- before the first node: the root is due, at depth 1
abbrev pub first_reader : ℕ → Reader
first_reader count = record { due = record { depth = 1; transaction = false } ∷ []; at = first_cursor count }

ahead_start : (version : ℕ) (job : List ℕ) (count : ℕ) → ahead version job (first_reader count) ≡ answer (whole version (read_nodes count root 0 7 (drop 7 job)))
unfolding ahead comes
ahead_start version job count = told_root version (read_nodes count root 0 7 (drop 7 job))

-- ---- one node is read

pub size : {t : Sort} (node : Node t) → length (node_bytes node) ≡ suc (operand (kind_number (node_kind node)))
unfolding node_bytes bytes32 operand
size (VALP z) = refl
size ADDP = refl
size ATOMIC = refl
size FORK = refl
size (VALT z) = refl
size ADDT = refl
size (READ v) = refl
size (WRITE v) = refl

forks_same : {t : Sort} (node : Node t) → forks_of_kind (node_kind node) ≡ fork_of node
unfolding fork_of
forks_same (VALP z) = refl
forks_same ADDP = refl
forks_same ATOMIC = refl
forks_same FORK = refl
forks_same (VALT z) = refl
forks_same ADDT = refl
forks_same (READ v) = refl
forks_same (WRITE v) = refl

code_small : (k : Kind) → code_of_kind k ≤ 5
code_small k = grind arith

-- ---- the loop's invariant

pub record ReaderFits (job : List ℕ) (s : Reader) : Type 0 where
  pub stairs : Stairs (due_list s.due)
  pub few : s.at.forks ≤ 15
  pub inside : s.at.place ≤ length job
  pub short : s.at.code + 5 * s.at.left ≤ 5005

pub record ReaderInv (job : List ℕ) (version count : ℕ) (s : Reader) : Type 0 where
  pub fit : ReaderFits job s
  pub same : ahead version job s ≡ answer (whole version (read_nodes count root 0 7 (drop 7 job)))

pub inv_start : (job : List ℕ) (version count : ℕ) → 7 ≤ length job → count ≤ 1000 → ReaderInv job version count (first_reader count)
inv_start job version count h c =
    record {
      fit = record { stairs = (omega arith, omega arith, tt); few = omega arith; inside = h; short = omega arith };
      same = ahead_start version job count;
    }

-- ---- the answers

-- a node's first byte is its kind
pub kind_first : {t : Sort} (node : Node t) (rest : List ℕ) → get_or (node_bytes node ++ rest) 0 0 ≡ kind_number (node_kind node)
unfolding node_bytes
kind_first (VALP z) rest = refl
kind_first ADDP rest = refl
kind_first ATOMIC rest = refl
kind_first FORK rest = refl
kind_first (VALT z) rest = refl
kind_first ADDT rest = refl
kind_first (READ v) rest = refl
kind_first (WRITE v) rest = refl

-- a node that passed its tests
record PassedTests {t : Sort} (n f : ℕ) (bs : List ℕ) (node : Node t) : Type 0 where
  flat : n ≤ 64
  few : f + fork_of node ≤ 15
  fits : length (node_bytes node) ≤ length bs
  first : get_or bs 0 0 ≡ kind_number (node_kind node)

passed : (t : Sort) (n f p : ℕ) (bs : List ℕ) (node : Node t) → Bytes bs → f ≤ 15 → node_at (record { sort = t; depth = n }) f p bs ≡ done node → PassedTests n f bs node
passed t n f p bs node b l e = let w = seen n f p t bs b l in go bs w.outcome w.sees (sym (node_sees w.sees) ∙ e)
  where
    go : (bs : List ℕ) (o : Outcome (Node t)) → Sees n f p bs o → o ≡ done node → PassedTests n f bs node
    go bs (refused k q) sees e = absurd (let z : ◌≡◌ {A = ℕ} 0 1 = cc in omega arith)
    go bs (done _) (good node' rest v h g text) e =
        subst
        (PassedTests n f bs)
        (cc)
        (record { flat = h; few = g; fits = rw (text, length-append (node_bytes node') rest) (omega arith); first = ap (λ (l : List ℕ). get_or l 0 0) text ∙ kind_first node' rest })

comes_on : (version before left forks place : ℕ) (d : Part) (ds : List Part) (bs : List ℕ) (node : Node d.sort) → node_at d forks place bs ≡ done node → comes version before (suc left) forks place (d ∷ ds) bs ≡ comes version (before + code_of_kind (node_kind node)) left (forks + fork_of node) (place + length (node_bytes node)) (parts_then node d.depth ds) (drop (length (node_bytes node)) bs)
unfolding comes read_nodes
comes_on version before left forks place d ds bs node e =
    rw e (told_grown version before node d.depth ds (read_nodes left (parts_then node d.depth ds) (forks + fork_of node) (place + length (node_bytes node)) (drop (length (node_bytes node)) bs)))

comes_refused : (version before left forks place : ℕ) (d : Part) (ds : List Part) (bs : List ℕ) (number at' : ℕ) → node_at d forks place bs ≡ refused number at' → comes version before (suc left) forks place (d ∷ ds) bs ≡ refused number at'
unfolding comes read_nodes
comes_refused version before left forks place d ds bs number at' e = rw e

comes_used : (version before forks place : ℕ) (d : Part) (ds : List Part) (bs : List ℕ) → comes version before 0 forks place (d ∷ ds) bs ≡ refused 9 place
unfolding comes read_nodes
comes_used version before forks place d ds bs = refl

comes_over : (version before left forks place : ℕ) (bs : List ℕ) → comes version before (suc left) forks place [] bs ≡ refused 9 place
unfolding comes read_nodes
comes_over version before left forks place bs = refl

comes_longer : (version before forks place : ℕ) (bs : List ℕ) → 0 < length bs → comes version before 0 forks place [] bs ≡ refused 9 place
unfolding comes read_nodes
comes_longer version before forks place bs h = rw (ne_eqb (length bs) 0 (omega arith))

comes_end : (version before forks place : ℕ) (bs : List ℕ) → length bs ≡ 0 → comes version before 0 forks place [] bs ≡ done (accepted_as version before)
unfolding comes read_nodes
comes_end version before forks place bs h = let e : before + 0 ≡ before = omega arith in rw (eq-eqb (length bs) 0 h, e)

found_kind : {t : Sort} (o : Outcome (Node t)) (k : Kind) → tested o ≡ done k → (node : Node t) × (o ≡ done node) × (node_kind node ≡ k)
found_kind (refused n p) k e = absurd (let z : ◌≡◌ {A = ℕ} 0 1 = cc in omega arith)
found_kind (done node) k e = (node, refl, cc)

found_refused : {t : Sort} (o : Outcome (Node t)) (number at' : ℕ) → tested o ≡ refused number at' → o ≡ refused number at'
found_refused (refused n p) number at' e = cc
found_refused (done node) number at' e = absurd (let z : ◌≡◌ {A = ℕ} 0 1 = cc in omega arith)

module _ (job : List ℕ) (version count : ℕ) (s : Reader) (b : Bytes job) (inv : ReaderInv job version count s) where
  -- the answer of the whole job
  abbrev final : Outcome Accepted
  final = answer (whole version (read_nodes count root 0 7 (drop 7 job)))

  still : comes version s.at.code s.at.left s.at.forks s.at.place (due_list s.due) (drop s.at.place job) ≡ final
  unfolding ahead
  still = inv.same

  -- the tree ended
  module _ (none : s.due ≡ []) where
    nothing : due_list s.due ≡ []
    nothing = ap due_list none

    pub over : (0 < s.at.left) ⊎ ((s.at.left ≤ 0) × (s.at.place < length job)) → refused 9 s.at.place ≡ final
    over (inl l) =
        let n : s.at.left ≡ suc (s.at.left - 1) = omega arith in
        cc (still, nothing, comes_over version s.at.code (s.at.left - 1) s.at.forks s.at.place (drop s.at.place job))
    over (inr p) =
        let n : s.at.left ≡ 0 = omega (arith, p.0) in
        cc (still, nothing, comes_longer version s.at.code s.at.forks s.at.place (drop s.at.place job) (rw (length-drop s.at.place job) (omega (arith, p.1))))

    pub complete : s.at.left ≤ 0 → length job ≤ s.at.place → done (accepted_as version s.at.code) ≡ final
    complete l p =
        let n : s.at.left ≡ 0 = omega arith in
        cc (still, nothing, comes_end version s.at.code s.at.forks s.at.place (drop s.at.place job) (rw (length-drop s.at.place job) (omega arith)))

  -- a node is due, and others behind it
  module _ (due : Due) (rest : List Due) (is : s.due ≡ rest ++ (due ∷ [])) where
    abbrev others : List Part
    others = due_list rest

    -- the reader behind a node of this kind, whose parts are at this depth
    abbrev next : Kind → (depth : ℕ) → Reader
    next k depth = record { due = rest ++ parts_of k depth; at = behind s.at k }

    -- what stands there
    abbrev there : Outcome (Node (due_part due).sort)
    there = node_at (due_part due) s.at.forks s.at.place (drop s.at.place job)

    popped : due_list s.due ≡ due_part due ∷ others
    popped = ap due_list is ∙ due_more rest (due ∷ [])

    stairs : Stairs (due_part due ∷ others)
    stairs = subst Stairs popped inv.fit.stairs

    pub used_up : s.at.left ≡ 0 → refused 9 s.at.place ≡ final
    used_up l = cc (still, popped, comes_used version s.at.code s.at.forks s.at.place (due_part due) others (drop s.at.place job))

    pub node_refused : 1 ≤ s.at.left → (number at' : ℕ) → tested there ≡ refused number at' → refused number at' ≡ final
    node_refused l number at' e =
        let n : s.at.left ≡ suc (s.at.left - 1) = omega arith in
        cc (still, popped, comes_refused version s.at.code (s.at.left - 1) s.at.forks s.at.place (due_part due) others (drop s.at.place job) number at' (found_refused there number at' e))

    facts : (node : Node (due_part due).sort) → there ≡ done node → PassedTests due.depth s.at.forks (drop s.at.place job) node
    facts node e = passed (due_part due).sort due.depth s.at.forks s.at.place (drop s.at.place job) node (bytes_drop s.at.place b) inv.fit.few e

    -- what is due behind the node, and where
    due_behind : (node : Node (due_part due).sort) (depth : ℕ) → depth ≡ suc due.depth → due_list (rest ++ parts_of (node_kind node) depth) ≡ parts_then node due.depth others
    due_behind node depth e = due_more rest (parts_of (node_kind node) depth) ∙ parts_due node due.depth depth others e

    place_behind : (node : Node (due_part due).sort) → s.at.place + (1 + operand (kind_number (node_kind node))) ≡ s.at.place + length (node_bytes node)
    place_behind node = omega (arith, size node)

    follows : 1 ≤ s.at.left → (node : Node (due_part due).sort) → there ≡ done node → (depth : ℕ) → depth ≡ suc due.depth → ahead version job (next (node_kind node) depth) ≡ final
    unfolding ahead
    follows l node o depth d =
        let n : s.at.left ≡ suc (s.at.left - 1) = omega arith in
        let t : drop (s.at.place + (1 + operand (kind_number (node_kind node)))) job ≡ drop (length (node_bytes node)) (drop s.at.place job) = ap (λ (q : ℕ). drop q job) (place_behind node) ∙ sym (drop-drop (length (node_bytes node)) s.at.place job) in
        cc (still, popped, forks_same node, place_behind node, due_behind node depth d, t, comes_on version s.at.code (s.at.left - 1) s.at.forks s.at.place (due_part due) others (drop s.at.place job) node o)

    module _ (k : Kind) (found : tested there ≡ done k) where
      pub node_room : length rest ≤ 63
      node_room = let n = found_kind there k found in omega (arith, stairs.0, (facts n.0 n.1).flat, due_length rest)

      pub node_ready : length job < 18446744073709551616 → 1 ≤ s.at.left → CanAdvance s.at k
      node_ready small l =
          let n = found_kind there k found in
          let p = facts n.0 n.1 in
          record {
            uncounted = l;
            few = inv.fit.few;
            early = omega (arith, p.fits, length-drop s.at.place job, inv.fit.inside, size n.0, ap (λ (k : Kind). operand (kind_number k)) n.2);
            short = omega (arith, inv.fit.short);
          }

      -- its kind stands in the job
      pub node_stands : (s.at.place < length job) × (get_or job s.at.place 0 ≡ kind_number k)
      node_stands =
          let n = found_kind there k found in
          let p = facts n.0 n.1 in
          let z : s.at.place + 0 ≡ s.at.place = omega arith in (
            omega (arith, p.fits, length-drop s.at.place job, size n.0),
            ap (λ (i : ℕ). get_or job i 0) (sym z) ∙ (sym (get_or-drop s.at.place job 0 0) ∙ (p.first ∙ ap kind_number n.2)),
          )

      pub node_read : 1 ≤ s.at.left → (depth : ℕ) → depth ≡ suc due.depth → ReaderInv job version count (next k depth)
      node_read l depth d =
          let n = found_kind there k found in
          subst (λ (k : Kind). ReaderInv job version count (next k depth)) n.2 (read n.0 n.1 (facts n.0 n.1))
        where
          read : (node : Node (due_part due).sort) → there ≡ done node → PassedTests due.depth s.at.forks (drop s.at.place job) node → ReaderInv job version count (next (node_kind node) depth)
          read node o p =
              record {
                fit = record {
                  stairs = subst Stairs (sym (due_behind node depth d)) (stairs_then node due.depth others stairs.2 stairs.0 p.flat);
                  few = omega (arith, p.few, forks_same node);
                  inside = omega (arith, p.fits, place_behind node, length-drop s.at.place job, inv.fit.inside);
                  short = omega (arith, code_small (node_kind node), inv.fit.short);
                };
                same = follows l node o depth d;
              }
