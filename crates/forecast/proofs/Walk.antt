-- The loop walks the trees that are due, and stays within its bounds. Assumes untold.
use Prim.Native.Nat.{ℕ, suc, ◌+◌, ◌*◌, ◌≤◌, ◌<◌, max}
use mathlib.Core.Path.{◌≡◌, refl, sym, ap, subst₂, ◌∙◌}
use mathlib.Core.List.{List, [], ◌∷◌, ◌++◌, append_assoc, append-nil, map, reverse}
use native.Mathlib.Omega.{arith}
use lib.ListN.{length, drop, get_or, length-drop, length-append}
use lib.Seq.{get_or-drop, drop-drop, drop-append_seam}
use Rattle.std.proofs.lemmas.List.{reverse-append, length-map, length-reverse}
use Rattle.forecast.specs.declared.Due.{Due}
use Rattle.forecast.specs.InnerWalk.{counted, forked, begun, inside, with_read, with_write, counts_with, heights_with, parts_of, Small}
use Rattle.forecast.proofs.Fold.{Tally, on, pushed, untold, after_t, after_p}
use Rattle.job.proofs.KindBytes.{same_kind}
use Rattle.script.specs.Tree.{Tran, ValT, AddT, Read, Write, Proc, ValP, AddP, Atomic, Fork}
use Rattle.script.specs.Count.{nodes_t, nodes_p, depth_t, depth_p, forks as forks_of}
use Rattle.script.specs.Limits.{Within}
use Rattle.script.specs.Jobs.{operand}
use Rattle.script.specs.Bytes.{bytes16, bytes32, VALP, ADDP, ATOMIC, FORK, VALT, ADDT, READ, WRITE, node_bytes, bytes_t, bytes_p, job_mark, job_bytes}
use Rattle.terms.specs.Numbers.{kind_number}
use Rattle.terms.specs.declared.Kind.{Kind}
use Rattle.terms.specs.declared.Kind.TheVariants as kind

-- ---- the parts that are due, the topmost first

-- a tree, the height of the stack below it, its thread, and its depth in the job
pub data Part : Type 0 where
  proc : Proc → (base thread level : ℕ) → Part
  tran : Tran → (base thread level : ℕ) → Part

-- as the cursor holds it
abbrev key : Part → Due
key (proc p base thread level) = record { thread = thread; base = base }
key (tran t base thread level) = record { thread = thread; base = base }

-- the kind of its node
abbrev kind_on : Part → Kind
kind_on (proc (ValP z) base thread level) = kind.Valp
kind_on (proc (AddP a b) base thread level) = kind.Addp
kind_on (proc (Atomic t) base thread level) = kind.Atomic
kind_on (proc (Fork p) base thread level) = kind.Fork
kind_on (tran (ValT z) base thread level) = kind.Valt
kind_on (tran (AddT a b) base thread level) = kind.Addt
kind_on (tran (Read v) base thread level) = kind.Read
kind_on (tran (Write v t) base thread level) = kind.Write

abbrev bytes_due : List Part → List ℕ
bytes_due [] = []
bytes_due (proc p base thread level ∷ ps) = bytes_p p ++ bytes_due ps
bytes_due (tran t base thread level ∷ ps) = bytes_t t ++ bytes_due ps

abbrev nodes_due : List Part → ℕ
nodes_due [] = 0
nodes_due (proc p base thread level ∷ ps) = nodes_p p + nodes_due ps
nodes_due (tran t base thread level ∷ ps) = nodes_t t + nodes_due ps

abbrev forks_due : List Part → ℕ
forks_due [] = 0
forks_due (proc p base thread level ∷ ps) = forks_of p + forks_due ps
forks_due (tran t base thread level ∷ ps) = forks_due ps

-- the figures behind them all
abbrev after_all : List Part → Tally → Tally
after_all [] t = t
after_all (proc p base thread level ∷ ps) t = after_all ps (after_p p base thread t)
after_all (tran a base thread level ∷ ps) t = after_all ps (after_t a base thread t)

-- a part of this depth, above so many others that are due
pub record Fine (depth base thread level others : ℕ) : Type 0 where
  pub shallow : level + depth ≤ 65
  pub low : base < level
  pub known : thread ≤ 15
  pub stair : others < level

abbrev AllFine : List Part → Type 0
AllFine [] = Unit {0}
AllFine (proc p base thread level ∷ ps) = Fine (depth_p p) base thread level (length ps) × AllFine ps
AllFine (tran t base thread level ∷ ps) = Fine (depth_t t) base thread level (length ps) × AllFine ps

-- ---- the invariant

pub record Bounds (place : ℕ) (t : Tally) (ps : List Part) : Type 0 where
  pub early : place + 5 * nodes_due ps ≤ 5007
  pub few : t.counts.forks + forks_due ps ≤ 15
  pub transactions : t.counts.transactions + nodes_due ps ≤ 1000
  pub instructions : t.counts.instructions + 2 * nodes_due ps ≤ 2000
  pub current : t.counts.current + nodes_due ps ≤ 1002
  pub longest : t.counts.longest ≤ 1002

-- what is due, where the next node stands, and the figures so far
pub record State : Type 0 where
  pub due : List Due
  pub place : ℕ
  pub tally : Tally

pub record Walk (job : List ℕ) (tree : Proc) (s : State) (ps : List Part) : Type 0 where
  pub held : reverse s.due ≡ map key ps
  pub fine : AllFine ps
  pub bounds : Bounds s.place s.tally ps
  pub text : drop s.place job ≡ bytes_due ps
  pub same : after_all ps s.tally ≡ after_p tree 0 0 untold

pub record Inv (job : List ℕ) (tree : Proc) (s : State) : Type 0 where
  pub parts : List Part
  pub walk : Walk job tree s parts

-- the root is due
pub inv_start : (job : List ℕ) (version : ℕ) (tree : Proc) → job ≡ job_bytes version tree → Within tree → Inv job tree (record { due = record { thread = 0; base = 0 } ∷ []; place = 7; tally = untold })
unfolding job_bytes job_mark bytes16
inv_start job version tree e w =
    record {
      parts = proc tree 0 0 1 ∷ [];
      walk = record {
        held = refl;
        fine = (record { shallow = omega (arith, w.sized.flat); low = omega arith; known = omega arith; stair = omega arith }, tt);
        bounds = record {
          early = omega (arith, w.sized.few);
          few = omega (arith, w.sized.narrow);
          transactions = omega (arith, w.sized.few);
          instructions = omega (arith, w.sized.few);
          current = omega (arith, w.sized.few);
          longest = omega arith;
        };
        text = ap (drop 7) e ∙ sym (append-nil (bytes_p tree));
        same = refl;
      };
    }

-- ---- the bytes

module _ (job : List ℕ) (place : ℕ) where
  second_byte : (b v : ℕ) (rest : List ℕ) → drop place job ≡ b ∷ v ∷ rest → get_or job (place + 1) 0 ≡ v
  second_byte b v rest e = sym (get_or-drop place job 1 0) ∙ ap (λ (l : List ℕ). get_or l 1 0) e

  past : (xs rest : List ℕ) → drop place job ≡ xs ++ rest → drop (place + length xs) job ≡ rest
  past xs rest e = sym (drop-drop (length xs) place job) ∙ (ap (drop (length xs)) e ∙ drop-append_seam xs rest)

-- a byte follows a node's kind: its operand or its part
two_bytes_t : (t : Tran) → 2 ≤ length (bytes_t t)
unfolding bytes_t node_bytes bytes32
two_bytes_t (ValT n) = omega arith
two_bytes_t (AddT a b) = omega (arith, two_bytes_t a, length-append (bytes_t a) (bytes_t b))
two_bytes_t (Read v) = omega arith
two_bytes_t (Write v t) = omega (arith, two_bytes_t t)

two_bytes_p : (p : Proc) → 2 ≤ length (bytes_p p)
unfolding bytes_p node_bytes bytes32
two_bytes_p (ValP n) = omega arith
two_bytes_p (AddP a b) = omega (arith, two_bytes_p a, length-append (bytes_p a) (bytes_p b))
two_bytes_p (Atomic t) = omega (arith, two_bytes_t t)
two_bytes_p (Fork p) = omega (arith, two_bytes_p p)

deep_t : (t : Tran) → 1 ≤ depth_t t
unfolding depth_t
deep_t (ValT n) = omega arith
deep_t (AddT a b) = omega arith
deep_t (Read v) = omega arith
deep_t (Write v t) = omega arith

deep_p : (p : Proc) → 1 ≤ depth_p p
unfolding depth_p
deep_p (ValP n) = omega arith
deep_p (AddP a b) = omega arith
deep_p (Atomic t) = omega arith
deep_p (Fork p) = omega arith

-- its first byte is its kind
first_of : (p : Part) (ps : List Part) → get_or (bytes_due (p ∷ ps)) 0 0 ≡ kind_number (kind_on p)
unfolding bytes_p bytes_t node_bytes
first_of (proc (ValP z) base thread level) ps = refl
first_of (proc (AddP a b) base thread level) ps = refl
first_of (proc (Atomic t) base thread level) ps = refl
first_of (proc (Fork p) base thread level) ps = refl
first_of (tran (ValT z) base thread level) ps = refl
first_of (tran (AddT a b) base thread level) ps = refl
first_of (tran (Read v) base thread level) ps = refl
first_of (tran (Write v t) base thread level) ps = refl

-- ---- a part is due

-- the parts of a node are one deeper
part_fine : {d base thread level n : ℕ} → Fine d base thread level n → (d' base' n' : ℕ) → suc d' ≤ d → base' ≤ base + 1 → n' ≤ suc n → Fine d' base' thread (suc level) n'
part_fine f d' base' n' h k l =
    record { shallow = omega (arith, f.shallow); low = omega (arith, f.low); known = f.known; stair = omega (arith, f.stair) }

-- what one node may add to the figures
record Grown (f : ℕ) (t u : Tally) : Type 0 where
  forks : u.counts.forks ≡ t.counts.forks + f
  transactions : u.counts.transactions ≤ t.counts.transactions + 1
  instructions : u.counts.instructions ≤ t.counts.instructions + 2
  current : u.counts.current ≤ max 2 (t.counts.current + 1)
  longest : u.counts.longest ≤ max t.counts.longest u.counts.current

-- the bounds behind a node
bounds_on : (place : ℕ) (t : Tally) (top : Part) (ps qs : List Part) (place' : ℕ) (u : Tally) (f : ℕ) → Bounds place t (top ∷ ps) → place' ≤ place + 5 → suc (nodes_due qs) ≡ nodes_due (top ∷ ps) → f + forks_due qs ≡ forks_due (top ∷ ps) → Grown f t u → Bounds place' u qs
bounds_on place t top ps qs place' u f b p n k g =
    record {
      early = omega (arith, b.early, p, n);
      few = omega (arith, b.few, g.forks, k);
      transactions = omega (arith, b.transactions, g.transactions, n);
      instructions = omega (arith, b.instructions, g.instructions, n);
      current = omega (arith, b.current, b.transactions, g.current, n);
      longest = omega (arith, b.longest, b.current, b.transactions, g.longest, g.current, n);
    }

-- what the node on top needs
record Ready (job : List ℕ) (place : ℕ) (top : Part) (others : ℕ) : Type 0 where
  room : others ≤ 63
  thread : (key top).thread ≤ 15
  low : (key top).base ≤ 63
  here : place + 1 < length job

ready : (job : List ℕ) (place : ℕ) (top : Part) (ps : List Part) → AllFine (top ∷ ps) → drop place job ≡ bytes_due (top ∷ ps) → Ready job place top (length ps)
ready job place (proc p base thread level) ps f t =
    record {
      room = omega (arith, f.0.shallow, f.0.stair, deep_p p);
      thread = f.0.known;
      low = omega (arith, f.0.shallow, f.0.low, deep_p p);
      here = omega (arith, length-drop place job, ap length t, length-append (bytes_p p) (bytes_due ps), two_bytes_p p);
    }
ready job place (tran p base thread level) ps f t =
    record {
      room = omega (arith, f.0.shallow, f.0.stair, deep_t p);
      thread = f.0.known;
      low = omega (arith, f.0.shallow, f.0.low, deep_t p);
      here = omega (arith, length-drop place job, ap length t, length-append (bytes_t p) (bytes_due ps), two_bytes_t p);
    }

module _ (job : List ℕ) (tree : Proc) (s : State) where
  -- all trees are counted
  pub at-end : Inv job tree s → s.due ≡ [] → s.tally ≡ after_p tree 0 0 untold
  at-end inv none = go inv.parts inv.walk
    where
      go : (ps : List Part) → Walk job tree s ps → s.tally ≡ after_p tree 0 0 untold
      go [] w = w.same
      go (top ∷ ps) w = absurd (let e : ◌≡◌ {A = ℕ} 0 (suc (length (map key ps))) = ap (λ (ds : List Due). length (reverse ds)) (sym none) ∙ ap length w.held in omega arith)

  -- a part is due, and others behind it
  module _ (d : Due) (rest : List Due) (is : s.due ≡ rest ++ (d ∷ [])) where
    -- the state behind a node of this kind
    abbrev next : Kind → (register : ℕ) → Due → State
    next k register x =
        record {
          due = rest ++ parts_of k x (s.tally.counts.forks + 1);
          place = s.place + (1 + operand (kind_number k));
          tally = record { counts = counts_with s.tally.counts k register; heights = heights_with s.tally.heights k x };
        }

    popped : reverse s.due ≡ d ∷ reverse rest
    popped = ap reverse is ∙ reverse-append rest (d ∷ [])

    -- the part, and the others
    record Top : Type 0 where
      top : Part
      ps : List Part
      walk : Walk job tree s (top ∷ ps)
      first : d ≡ key top
      others : reverse rest ≡ map key ps

    top_of : Inv job tree s → Top
    top_of inv = go inv.parts inv.walk
      where
        go : (ps : List Part) → Walk job tree s ps → Top
        go [] w = absurd (let e : ◌≡◌ {A = ℕ} (suc (length (reverse rest))) 0 = ap length (sym popped ∙ w.held) in omega arith)
        go (top ∷ ps) w =
            let e : d ∷ reverse rest ≡ key top ∷ map key ps = sym popped ∙ w.held in
            record { top = top; ps = ps; walk = w; first = ap (λ (ds : List Due). get_or ds 0 d) e; others = ap (λ (ds : List Due). drop 1 ds) e }

    -- what counting the node needs
    pub record CanCount : Type 0 where
      pub small : Small s.tally.counts
      pub room : length rest ≤ 63
      pub early : s.place ≤ 5007
      pub thread : d.thread < 16
      pub low : d.base < 255

    pub can_count : Inv job tree s → CanCount
    can_count inv =
        let t = top_of inv in
        let r = ready job s.place t.top t.ps t.walk.fine t.walk.text in
        let b = t.walk.bounds in
        record {
          small = record {
            few = omega (arith, b.few);
            transactions = omega (arith, b.transactions);
            instructions = omega (arith, b.instructions);
            current = omega (arith, b.current);
          };
          room = omega (arith, r.room, length-reverse rest, ap length t.others, length-map t.ps key);
          early = omega (arith, b.early);
          thread = rw t.first (omega (arith, r.thread));
          low = rw t.first (omega (arith, r.low));
        }

    -- its kind stands in the job, and a byte behind it
    pub stands : Inv job tree s → (s.place + 1 < length job) × ((k : Kind) × (kind_number k ≡ get_or job s.place 0))
    stands inv =
        let t = top_of inv in (
          (ready job s.place t.top t.ps t.walk.fine t.walk.text).here,
          (kind_on t.top, sym (first_of t.top t.ps) ∙ (ap (λ (bs : List ℕ). get_or bs 0 0) (sym t.walk.text) ∙ (get_or-drop s.place job 0 0 ∙ ap (λ (i : ℕ). get_or job i 0) (let z : s.place + 0 ≡ s.place = omega arith in z)))),
        )

    -- the parts behind a node are due, so many bytes further on
    behind : (qs : List Part) (ps : List Part) (more : List Due) (place : ℕ) (u : Tally) → reverse rest ≡ map key ps → reverse more ++ map key ps ≡ map key qs → AllFine qs → Bounds place u qs → drop place job ≡ bytes_due qs → after_all qs u ≡ after_p tree 0 0 untold → Inv job tree (record { due = rest ++ more; place = place; tally = u })
    behind qs ps more place u o m fine b t e =
        record {
          parts = qs;
          walk = record { held = reverse-append rest more ∙ (ap (λ (ds : List Due). reverse more ++ ds) o ∙ m); fine = fine; bounds = b; text = t; same = e };
        }

    counted_grown : (heights : List ℕ) → Grown 0 s.tally (record { counts = counted s.tally.counts; heights = heights })
    counted_grown heights = record { forks = omega arith; transactions = omega arith; instructions = omega arith; current = omega arith; longest = omega arith }

    inside_grown : (reads writes : ℕ) (heights : List ℕ) → Grown 0 s.tally (record { counts = record { forks = s.tally.counts.forks; transactions = s.tally.counts.transactions; instructions = s.tally.counts.instructions + 1; current = s.tally.counts.current + 1; longest = max s.tally.counts.longest (s.tally.counts.current + 1); reads = reads; writes = writes }; heights = heights })
    inside_grown reads writes heights = record { forks = omega arith; transactions = omega arith; instructions = omega arith; current = omega arith; longest = omega arith }

    -- the node on top is counted
    node_of : (top : Part) (ps : List Part) → Walk job tree s (top ∷ ps) → reverse rest ≡ map key ps → Inv job tree (next (kind_on top) (get_or job (s.place + 1) 0) (key top))
    unfolding after_p after_t bytes_p bytes_t node_bytes bytes32 nodes_p nodes_t depth_p depth_t forks_of operand
    node_of (proc (ValP z) base thread level) ps w o =
        let top = proc (ValP z) base thread level in
        behind ps ps [] (s.place + 5) (on counted (pushed thread base s.tally)) o refl w.fine.1
        (bounds_on s.place s.tally top ps ps (s.place + 5) (on counted (pushed thread base s.tally)) 0 w.bounds (omega arith) (omega arith) (omega arith) (counted_grown _))
        (past job s.place (node_bytes (VALP z)) (bytes_due ps) w.text)
        w.same
    node_of (proc (AddP a b) base thread level) ps w o =
        let top = proc (AddP a b) base thread level in
        let qs = proc a base thread (suc level) ∷ proc b (base + 1) thread (suc level) ∷ ps in
        let f = w.fine.0 in
        behind qs ps (parts_of kind.Addp (key top) (s.tally.counts.forks + 1)) (s.place + 1) (on counted s.tally) o refl
        (part_fine f (depth_p a) base (suc (length ps)) (omega arith) (omega arith) (omega arith), (part_fine f (depth_p b) (base + 1) (length ps) (omega arith) (omega arith) (omega arith), w.fine.1))
        (bounds_on s.place s.tally top ps qs (s.place + 1) (on counted s.tally) 0 w.bounds (omega arith) (omega arith) (omega arith) (counted_grown _))
        (past job s.place (node_bytes ADDP) _ w.text ∙ append_assoc (bytes_p a) (bytes_p b) (bytes_due ps))
        w.same
    node_of (proc (Atomic t) base thread level) ps w o =
        let top = proc (Atomic t) base thread level in
        let q = tran t base thread (suc level) in
        behind (q ∷ ps) ps (key top ∷ []) (s.place + 1) (on begun s.tally) o refl
        (part_fine w.fine.0 (depth_t t) base (length ps) (omega arith) (omega arith) (omega arith), w.fine.1)
        (bounds_on s.place s.tally top ps (q ∷ ps) (s.place + 1) (on begun s.tally) 0 w.bounds (omega arith) (omega arith) (omega arith)
        (record { forks = omega arith; transactions = omega arith; instructions = omega arith; current = omega arith; longest = omega arith }))
        (past job s.place (node_bytes ATOMIC) _ w.text)
        w.same
    node_of (proc (Fork p) base thread level) ps w o =
        let top = proc (Fork p) base thread level in
        let q = proc p 0 (s.tally.counts.forks + 1) (suc level) in
        let f = w.fine.0 in
        let u = on forked (pushed thread base s.tally) in
        behind (q ∷ ps) ps (parts_of kind.Fork (key top) (s.tally.counts.forks + 1)) (s.place + 1) u o refl
        (record { shallow = omega (arith, f.shallow); low = omega arith; known = omega (arith, w.bounds.few); stair = omega (arith, f.stair) }, w.fine.1)
        (bounds_on s.place s.tally top ps (q ∷ ps) (s.place + 1) u 1 w.bounds (omega arith) (omega arith) (omega arith)
        (record { forks = omega arith; transactions = omega arith; instructions = omega arith; current = omega arith; longest = omega arith }))
        (past job s.place (node_bytes FORK) _ w.text)
        w.same
    node_of (tran (ValT z) base thread level) ps w o =
        let top = tran (ValT z) base thread level in
        let u = on inside (pushed thread base s.tally) in
        behind ps ps [] (s.place + 5) u o refl w.fine.1
        (bounds_on s.place s.tally top ps ps (s.place + 5) u 0 w.bounds (omega arith) (omega arith) (omega arith) (inside_grown _ _ _))
        (past job s.place (node_bytes (VALT z)) (bytes_due ps) w.text)
        w.same
    node_of (tran (AddT a b) base thread level) ps w o =
        let top = tran (AddT a b) base thread level in
        let qs = tran a base thread (suc level) ∷ tran b (base + 1) thread (suc level) ∷ ps in
        let f = w.fine.0 in
        behind qs ps (parts_of kind.Addt (key top) (s.tally.counts.forks + 1)) (s.place + 1) (on inside s.tally) o refl
        (part_fine f (depth_t a) base (suc (length ps)) (omega arith) (omega arith) (omega arith), (part_fine f (depth_t b) (base + 1) (length ps) (omega arith) (omega arith) (omega arith), w.fine.1))
        (bounds_on s.place s.tally top ps qs (s.place + 1) (on inside s.tally) 0 w.bounds (omega arith) (omega arith) (omega arith) (inside_grown _ _ _))
        (past job s.place (node_bytes ADDT) _ w.text ∙ append_assoc (bytes_t a) (bytes_t b) (bytes_due ps))
        w.same
    node_of (tran (Read v) base thread level) ps w o =
        let top = tran (Read v) base thread level in
        let u = on (with_read v) (on inside (pushed thread base s.tally)) in
        rw (second_byte job s.place 7 v _ w.text)
        (behind ps ps [] (s.place + 2) u o refl w.fine.1
        (bounds_on s.place s.tally top ps ps (s.place + 2) u 0 w.bounds (omega arith) (omega arith) (omega arith) (inside_grown _ _ _))
        (past job s.place (node_bytes (READ v)) (bytes_due ps) w.text)
        w.same)
    node_of (tran (Write v t) base thread level) ps w o =
        let top = tran (Write v t) base thread level in
        let q = tran t base thread (suc level) in
        let u = on (with_write v) (on inside s.tally) in
        rw (second_byte job s.place 8 v _ w.text)
        (behind (q ∷ ps) ps (key top ∷ []) (s.place + 2) u o refl
        (part_fine w.fine.0 (depth_t t) base (length ps) (omega arith) (omega arith) (omega arith), w.fine.1)
        (bounds_on s.place s.tally top ps (q ∷ ps) (s.place + 2) u 0 w.bounds (omega arith) (omega arith) (omega arith) (inside_grown _ _ _))
        (past job s.place (node_bytes (WRITE v)) _ w.text)
        w.same)

    pub node_counted : Inv job tree s → (k : Kind) → kind_number k ≡ get_or job s.place 0 → Inv job tree (next k (get_or job (s.place + 1) 0) d)
    node_counted inv k e =
        let t = top_of inv in
        let q = first_of t.top t.ps in
        let v : get_or job s.place 0 ≡ kind_number (kind_on t.top) = ap (λ (i : ℕ). get_or job i 0) (let z : s.place ≡ s.place + 0 = omega arith in z) ∙ (sym (get_or-drop s.place job 0 0) ∙ (ap (λ (bs : List ℕ). get_or bs 0 0) t.walk.text ∙ q)) in
        subst₂ (λ (k : Kind) (x : Due). Inv job tree (next k (get_or job (s.place + 1) 0) x)) (sym (same_kind k (kind_on t.top) (e ∙ v))) (sym t.first) (node_of t.top t.ps t.walk t.others)
