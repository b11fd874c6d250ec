-- The scan's stack and its open ends as the lists have them. Assumes nothing.
use Prim.Native.Nat.{ℕ, zero, suc, ◌+◌, ◌-◌, ◌≤◌, ◌<◌}
use mathlib.Core.Path.{◌≡◌, refl, sym, ap, ◌∙◌}
use mathlib.Core.Bool.{Bool, true, false, not, ◌&&◌}
use mathlib.Core.List.{List, [], ◌∷◌}
use native.Mathlib.Omega.{arith}
use denote.Enum.Bare.{sameb}
use lib.Dec.{eqb}
use lib.ListN.{length, get_or, set}
use lib.Seq.{get_or-set_same, get_or-set_other}
use borrow.Author.Tests.{le-leb, eq-eqb, eqb-true, ne_eqb}
use Rattle.std.specs.Prelude.{Option, Some, None}
use native.Mathlib.Decide.{dec_lt}
use Rattle.scan.specs.declared.pass.Item.{Item}
use Rattle.scan.specs.declared.pass.Kind.{Kind}
use Rattle.scan.specs.declared.pass.Kind.TheVariants as kind
use Rattle.scan.specs.declared.pass.Scan.{Scan}
use Rattle.scan.specs.contracts.pass.Kind.{the_type}
use Rattle.scan.specs.InnerView.{kind_number, listed_item, no_item, stack_of, ends_of, view, after, laid, closed, further}
use Rattle.code.specs.Ops.{foreign, Op, push, add, read, write, begin, commit, fork, size_of}
use Rattle.code.specs.InnerScan.{ScanItem, ListScan, bounded, topped, two_top, one_top, moved_past, closes, finished}
use Rattle.script.specs.Outcome.{Outcome, refused, done, refuse, onward, mapped}

-- ---- the stack

pub stack_set : (x : List Item) (n m : ℕ) (a : Item) → n ≤ m → stack_of (set x m a) n ≡ stack_of x n
unfolding stack_of
stack_set x zero m a h = refl
stack_set x (suc n) m a h = rw (get_or-set_other x m n a no_item (omega arith), stack_set x n m a (omega arith))

pub stack_push : (x : List Item) (n : ℕ) (a : Item) → n < length x → stack_of (set x n a) (n + 1) ≡ listed_item a ∷ stack_of x n
unfolding stack_of
stack_push x n a l =
    let e : n + 1 ≡ suc n = omega arith in
    rw (e, get_or-set_same x n a no_item l, stack_set x n n a (omega arith))

pub stack_length : (x : List Item) (n : ℕ) → length (stack_of x n) ≡ n
unfolding stack_of
stack_length x zero = refl
stack_length x (suc n) = ap suc (stack_length x n)

pub stack_none : (x : List Item) (n : ℕ) → n < 1 → stack_of x n ≡ []
unfolding stack_of
stack_none x zero h = refl
stack_none x (suc n) h = absurd (omega arith)

pub stack_one : (x : List Item) (n : ℕ) {a : Item} → a ≡ get_or x (n - 1) no_item → 1 ≤ n → stack_of x n ≡ listed_item a ∷ stack_of x (n - 1)
unfolding stack_of
stack_one x zero e h = absurd (omega arith)
stack_one x (suc n) e h = let i : suc n - 1 ≡ n = omega arith in rw (e, i)

pub stack_two : (x : List Item) (n : ℕ) {a b : Item} → b ≡ get_or x (n - 1) no_item → a ≡ get_or x (n - 2) no_item → 2 ≤ n → stack_of x n ≡ listed_item b ∷ listed_item a ∷ stack_of x (n - 2)
unfolding stack_of
stack_two x zero e f h = absurd (omega arith)
stack_two x (suc zero) e f h = absurd (omega arith)
stack_two x (suc (suc n)) e f h =
    let i : suc (suc n) - 1 ≡ suc n = omega arith in
    let j : suc (suc n) - 2 ≡ n = omega arith in
    rw (e, f, i, j)

-- ---- the open ends

pub ends_none : (e : List ℕ) (n : ℕ) → n ≡ 0 → ends_of e n ≡ []
unfolding ends_of
ends_none e n h = rw h

pub ends_one : (e : List ℕ) (n : ℕ) → 1 ≤ n → ends_of e n ≡ get_or e (n - 1) 0 ∷ ends_of e (n - 1)
unfolding ends_of
ends_one e zero h = absurd (omega arith)
ends_one e (suc n) h = let i : suc n - 1 ≡ n = omega arith in rw i

pub ends_set : (e : List ℕ) (n m v : ℕ) → n ≤ m → ends_of (set e m v) n ≡ ends_of e n
unfolding ends_of
ends_set e zero m v h = refl
ends_set e (suc n) m v h = rw (get_or-set_other e m n v 0 (omega arith), ends_set e n m v (omega arith))

pub ends_push : (e : List ℕ) (n v : ℕ) → n < length e → ends_of (set e n v) (n + 1) ≡ v ∷ ends_of e n
unfolding ends_of
ends_push e n v h =
    let i : n + 1 ≡ suc n = omega arith in
    rw (i, get_or-set_same e n v 0 h, ends_set e n n v (omega arith))

-- ---- tests

kinds_same : (a b : Kind) → sameb the_type a b ≡ eqb (kind_number a) (kind_number b)
kinds_same kind.Begun kind.Begun = refl
kinds_same kind.Begun kind.Forked = refl
kinds_same kind.Begun kind.Process = refl
kinds_same kind.Begun kind.Transaction = refl
kinds_same kind.Forked kind.Begun = refl
kinds_same kind.Forked kind.Forked = refl
kinds_same kind.Forked kind.Process = refl
kinds_same kind.Forked kind.Transaction = refl
kinds_same kind.Process kind.Begun = refl
kinds_same kind.Process kind.Forked = refl
kinds_same kind.Process kind.Process = refl
kinds_same kind.Process kind.Transaction = refl
kinds_same kind.Transaction kind.Begun = refl
kinds_same kind.Transaction kind.Forked = refl
kinds_same kind.Transaction kind.Process = refl
kinds_same kind.Transaction kind.Transaction = refl

not_is : (b : Bool) {c : Bool} → c ≡ not b → c ≡ true → b ≡ false
not_is true e h = cc
not_is false e h = refl

is_not : (b : Bool) {c : Bool} → c ≡ not b → c ≡ false → b ≡ true
is_not true e h = refl
is_not false e h = cc

-- what `!=` says of two kinds
pub kinds_differ : (a b : Kind) {c : Bool} → c ≡ not (sameb the_type a b) → c ≡ true → eqb (kind_number a) (kind_number b) ≡ false
kinds_differ a b e h = sym (kinds_same a b) ∙ not_is (sameb the_type a b) e h

pub kinds_agree : (a b : Kind) {c : Bool} → c ≡ not (sameb the_type a b) → c ≡ false → eqb (kind_number a) (kind_number b) ≡ true
kinds_agree a b e h = sym (kinds_same a b) ∙ is_not (sameb the_type a b) e h

-- ---- what is put is within the limits

pub put_done : (s : Scan) (h : ℕ) (a : Item) (i : Bool) (n f z : ℕ) → h < length s.items → a.reach ≤ 64 → s.nodes + n ≤ 1000 → s.forks + f ≤ 15 → ◌≡◌ {A = Outcome ListScan} (done (record { stack = stack_of (set s.items h a) (h + 1); inside = i; ends = ends_of s.ends s.forked; place = s.place; nodes = s.nodes + n; forks = s.forks + f; size = s.size + z })) (bounded (laid s h (kind_number a.kind) a.reach i n f z) a.reach)
put_done s h a i n f z l r m q = rw (le-leb a.reach 64 r, le-leb (s.nodes + n) 1000 m, le-leb (s.forks + f) 15 q, stack_push s.items h a l)

pub on_top : (s : Scan) (k : ℕ) (i : Bool) (f z : ℕ) → bounded (laid s s.height k (s.height + 1) i 1 f z) (s.height + 1) ≡ topped (view s) k i f z
on_top s k i f z =
    let e : s.height + 1 ≡ suc (length (stack_of s.items s.height)) = omega (arith, stack_length s.items s.height) in
    rw e

-- ---- the topmost items

pub two_low : (s : ListScan) (x : List Item) (n : ℕ) (f : ScanItem → ScanItem → List ScanItem → Outcome ListScan) → n < 2 → two_top s (stack_of x n) f ≡ foreign
unfolding stack_of
two_low s x zero f h = refl
two_low s x (suc zero) f h = refl
two_low s x (suc (suc n)) f h = absurd (omega arith)

-- a child that ended takes its FORK's place
pub close_done : (s : Scan) {fork child : Item} → child ≡ get_or s.items (s.height - 1) no_item → fork ≡ get_or s.items (s.height - 2) no_item → 2 ≤ s.height → s.height - 2 < length s.items → 1 ≤ s.forked → eqb (kind_number child.kind) 2 ≡ true → eqb (kind_number fork.kind) 1 ≡ true → ◌≡◌ {A = Outcome ListScan} (done (record { stack = stack_of (set s.items (s.height - 2) child) (s.height - 1); inside = s.inside; ends = ends_of s.ends (s.forked - 1); place = s.place; nodes = s.nodes; forks = s.forks; size = s.size })) (closed (view s))
close_done s {fork} {child} e f h l o p q =
    let i : s.height - 1 ≡ s.height - 2 + 1 = omega arith in
    let k : kind_number child.kind ≡ 2 = eqb-true (kind_number child.kind) 2 p in
    rw (stack_two s.items s.height e f h, p, q, ends_one s.ends s.forked o, i, stack_push s.items (s.height - 2) child l, k)

-- ---- what a step came to

pub none_came : {A : Type 0} (r : Option A) (n : Scan) {o : Outcome ListScan} → after r n ≡ o → r ≡ None → o ≡ foreign
none_came (Some a) n e f = cc
none_came None n e f = sym e

pub some_came : {A : Type 0} (r : Option A) (n : Scan) {o : Outcome ListScan} {a : A} → after r n ≡ o → r ≡ Some a → o ≡ done (view n)
some_came (Some b) n e f = sym e
some_came None n e f = cc

-- an instruction that opens no child
abbrev pub Plain : Op → Type 0
Plain (push n) = Unit {0}
Plain add = Unit {0}
Plain (read v) = Unit {0}
Plain (write v) = Unit {0}
Plain begin = Unit {0}
Plain commit = Unit {0}
Plain (fork n) = ⊥

moved_plain : (o : Op) → Plain o → (s : ListScan) → moved_past o s ≡ further (size_of o) s
unfolding moved_past
moved_plain (push n) p s = refl
moved_plain add p s = refl
moved_plain (read v) p s = refl
moved_plain (write v) p s = refl
moved_plain begin p s = refl
moved_plain commit p s = refl
moved_plain (fork n) p s = absurd p

pub mapped_plain : (o : Op) → Plain o → (x : Outcome ListScan) → mapped (further (size_of o)) x ≡ mapped (moved_past o) x
mapped_plain o p (refused n q) = refl
mapped_plain o p (done s) = ap done (sym (moved_plain o p s))

-- a FORK's child begins
pub fork_done : (s : Scan) (n : ℕ) → s.forked < length s.ends → ◌≡◌ {A = Outcome ListScan} (done (record { stack = stack_of s.items s.height; inside = s.inside; ends = ends_of (set s.ends s.forked (s.place + 3 + n)) (s.forked + 1); place = s.place + 3; nodes = s.nodes; forks = s.forks; size = s.size })) (done (moved_past (fork n) (view s)))
unfolding moved_past
fork_done s n h = rw (ends_push s.ends s.forked (s.place + 3 + n) h)

-- ---- the end of the code

pub not_zero : (n : ℕ) → (n ≡ 0 → ⊥) → 1 ≤ n
not_zero n h = omega arith

pub finish_open : (s : Scan) → (s.forked ≡ 0 → ⊥) → foreign ≡ finished (view s)
unfolding finished
finish_open s h = rw (ends_one s.ends s.forked (not_zero s.forked h))

refused_both : (b : Bool) (s : ListScan) → ◌≡◌ {A = Outcome ListScan} foreign (refuse (not (b && false)) 11 0 (done s))
refused_both true s = refl
refused_both false s = refl

pub finish_more : (s : Scan) → s.forked ≡ 0 → (s.height ≡ 1 → ⊥) → foreign ≡ finished (view s)
unfolding finished
finish_more s e n = rw (ends_none s.ends s.forked e) (go (dec_lt s.height 1))
  where
    go : Dec (s.height < 1) → foreign ≡ one_top (view s) (stack_of s.items s.height) (λ p below. refuse (not (eqb p.kind 2 && eqb (length below) 0)) 11 0 (done (record { stack = stack_of s.items s.height; inside = s.inside; ends = []; place = s.place; nodes = s.nodes; forks = s.forks; size = s.size })))
    go (yes h) = rw (stack_none s.items s.height h)
    go (no h) =
        let i : eqb (length (stack_of s.items (s.height - 1))) 0 ≡ false = ne_eqb (length (stack_of s.items (s.height - 1))) 0 (omega (arith, stack_length s.items (s.height - 1))) in
        rw (stack_one s.items s.height refl (omega arith), i) (refused_both (eqb (kind_number (get_or s.items (s.height - 1) no_item).kind) 2) _)

pub finish_other : (s : Scan) → s.forked ≡ 0 → s.height ≡ 1 → eqb (kind_number (get_or s.items 0 no_item).kind) 2 ≡ false → foreign ≡ finished (view s)
unfolding finished stack_of
finish_other s e h k = rw (ends_none s.ends s.forked e, h, k)

pub finish_done : (s : Scan) → s.forked ≡ 0 → s.height ≡ 1 → eqb (kind_number (get_or s.items 0 no_item).kind) 2 ≡ true → done (view s) ≡ finished (view s)
unfolding finished stack_of
finish_done s e h k = rw (ends_none s.ends s.forked e, h, k)

-- ---- the children that end at a place

-- what is still to be closed
unfoldable pub remaining : Scan → Outcome ListScan
remaining s = closes (view s).ends (view s)

pub none_open : (s : Scan) → s.forked ≡ 0 → done (view s) ≡ remaining s
unfolding remaining closes
none_open s h = rw (ends_none s.ends s.forked h)

pub not_here : (s : Scan) → 1 ≤ s.forked → (get_or s.ends (s.forked - 1) 0 ≡ s.place → ⊥) → done (view s) ≡ remaining s
unfolding remaining closes
not_here s h n =
    let t : eqb s.place (get_or s.ends (s.forked - 1) 0) ≡ false = ne_eqb s.place (get_or s.ends (s.forked - 1) 0) (λ e. n (sym e)) in
    rw (ends_one s.ends s.forked h, closes, t)

-- one is closed, and what is behind it comes next
closes_next : (s : ListScan) (end : ℕ) (ends : List ℕ) → s.ends ≡ end ∷ ends → eqb s.place end ≡ true → closes s.ends s ≡ onward (closed s) (λ (v : ListScan). closes v.ends v)
unfolding closes
closes_next s end ends e t = rw (e, closes, t) (go s.stack)
  where
    go : (x : List ScanItem) → two_top s x (λ p f below. refuse (not (eqb p.kind 2 && eqb f.kind 1)) 11 0 (closes ends (record { stack = record { kind = 2; reach = p.reach } ∷ below; inside = s.inside; ends = ends; place = s.place; nodes = s.nodes; forks = s.forks; size = s.size }))) ≡ onward (two_top s x (λ p f below. refuse (not (eqb p.kind 2 && eqb f.kind 1)) 11 0 (done (record { stack = record { kind = 2; reach = p.reach } ∷ below; inside = s.inside; ends = ends; place = s.place; nodes = s.nodes; forks = s.forks; size = s.size })))) (λ (v : ListScan). closes v.ends v)
    go [] = refl
    go (p ∷ []) = refl
    go (p ∷ f ∷ below) = either (eqb p.kind 2 && eqb f.kind 1)
      where
        either : (b : Bool) → refuse (not b) 11 0 (closes ends (record { stack = record { kind = 2; reach = p.reach } ∷ below; inside = s.inside; ends = ends; place = s.place; nodes = s.nodes; forks = s.forks; size = s.size })) ≡ onward (refuse (not b) 11 0 (done (record { stack = record { kind = 2; reach = p.reach } ∷ below; inside = s.inside; ends = ends; place = s.place; nodes = s.nodes; forks = s.forks; size = s.size }))) (λ (v : ListScan). closes v.ends v)
        either true = refl
        either false = refl

module _ {A : Type 0} (r : Option A) (s n : Scan) (e : after r n ≡ closed (view s)) (h : 1 ≤ s.forked) (here : get_or s.ends (s.forked - 1) 0 ≡ s.place) where
  closing : remaining s ≡ onward (after r n) (λ (v : ListScan). closes v.ends v)
  unfolding remaining
  closing =
      closes_next (view s) (get_or s.ends (s.forked - 1) 0) (ends_of s.ends (s.forked - 1)) (ends_one s.ends s.forked h) (eq-eqb s.place (get_or s.ends (s.forked - 1) 0) (sym here)) ∙ ap (λ (o : Outcome ListScan). onward o (λ (v : ListScan). closes v.ends v)) (sym e)

  pub closing_none : r ≡ None → foreign ≡ remaining s
  closing_none f = rw f at (sym closing)

  pub closing_some : {a : A} → r ≡ Some a → remaining n ≡ remaining s
  unfolding remaining
  closing_some f = rw f at (sym closing)
