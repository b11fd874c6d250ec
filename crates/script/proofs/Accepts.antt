-- A job is accepted exactly if it is the bytes of a tree within the limits, and that tree is the one that is read. Assumes nothing.
use Prim.Native.Nat.{ℕ, suc, ◌+◌, ◌*◌, ◌/◌, ◌%◌, ◌≤◌}
use mathlib.Core.Path.{◌≡◌, refl, ap, subst}
use mathlib.Core.Bool.{Bool, true, false, not, ◌&&◌}
use mathlib.Core.List.{List, [], ◌∷◌, ◌++◌, append-nil}
use native.Mathlib.Omega.{arith}
use lib.Dec.{eqb, leb, ltb}
use lib.ListN.{length}
use borrow.Author.Tests.{le-ltb, le-leb, eq-eqb, eqb-true, leb-true, not-false}
use Rattle.script.specs.Tree.{Proc, ValP, AddP, Atomic, Fork}
use Rattle.script.specs.Count.{nodes_p, forks, longest_nodes}
use Rattle.script.specs.Limits.{Sized}
use Rattle.script.specs.Bytes.{Bytes, bytes16, bytes_p, job_mark, job_bytes}
use Rattle.script.specs.Outcome.{Outcome, refused, done, refuse, onward, mapped}
use Rattle.script.specs.Jobs.{Job, root}
use Rattle.script.specs.Reader.{read_nodes, job_marked, taken, read_tree, short_from, short_only, read_job}
use Rattle.script.specs.Refusal.{Taken, IsJob, IsTree}
use Rattle.script.proofs.Numbers.{bytes16_number16, bytes_head, bytes_tail, bytes_drop}
use Rattle.script.proofs.Reading.{read_proc, read_sound, mapped_from}
use Rattle.script.proofs.Long.{judged, short_passes, passes_short}

nodes_some : (t : Proc) → 1 ≤ nodes_p t
unfolding nodes_p
nodes_some (ValP n) = omega arith
nodes_some (AddP a b) = omega arith
nodes_some (Atomic t) = omega arith
nodes_some (Fork p) = omega arith

tree_read : (t : Proc) → Sized t → read_nodes (nodes_p t) root 0 7 (bytes_p t) ≡ done (t, tt)
unfolding read_nodes
tree_read t w =
    let n : nodes_p t ≡ nodes_p t + 0 = omega arith in
    let f : 0 + forks t ≤ 15 = omega (arith, w.narrow) in
    let e : read_nodes (nodes_p t + 0) root 0 7 (bytes_p t ++ []) ≡ done (t, tt) = read_proc t 0 1 0 7 [] [] w.valued (omega (arith, w.flat)) f in
    rw (← n, append-nil) at e

-- the bytes of a tree within document 01's limits are read, and give that tree
tree_bytes_read : (j : Job) → Taken j.version → Sized j.tree → read_tree (job_bytes j.version j.tree) ≡ done j
unfolding read_tree job_bytes job_mark bytes16 job_marked taken
tree_bytes_read j v w =
    let t = j.tree in
    let few : nodes_p t ≤ 1000 = w.few in
    let e : j.version / 256 % 256 * 256 + j.version % 256 ≡ j.version = omega arith in
    let n : nodes_p t / 256 % 256 * 256 + nodes_p t % 256 ≡ nodes_p t = omega arith in
    rw (
      le-ltb (suc (suc (suc (suc (suc (suc (suc (length (bytes_p t))))))))) 7 (omega arith),
      e,
      eq-eqb j.version 1 v,
      n,
      le-leb 1 (nodes_p t) (nodes_some t),
      le-leb (nodes_p t) 1000 few,
    ) (ap (mapped (λ (ts : Proc × Unit {0}). record { version = j.version; tree = ts.0 })) (tree_read t w))

-- a test that was not met
pub passed : {A : Type 0} {x : A} (b : Bool) (n p : ℕ) (o : Outcome A) → refuse b n p o ≡ done x → (b ≡ false) × (o ≡ done x)
passed true n p o e = absurd (let z : ◌≡◌ {A = ℕ} 0 1 = cc in omega arith)
passed false n p o e = (refl, e)

pub both : (a b : Bool) → (a && b) ≡ true → (a ≡ true) × (b ≡ true)
both true b e = (refl, e)
both false b e = absurd (let z : ◌≡◌ {A = ℕ} 0 1 = cc in omega arith)

-- the text of a header and a tree, from what its bytes hold
text_of : (t : Proc) (a b c d e f g : ℕ) (rest : List ℕ) → Bytes (d ∷ e ∷ f ∷ g ∷ rest) → a ≡ 87 → b ≡ 83 → c ≡ 74 → f * 256 + g ≡ nodes_p t → rest ≡ bytes_p t → a ∷ b ∷ c ∷ d ∷ e ∷ f ∷ g ∷ rest ≡ job_bytes (d * 256 + e) t
unfolding job_bytes job_mark
text_of t a b c d e f g rest small p q s n r =
    let b₁ = bytes_tail small in
    let b₂ = bytes_tail b₁ in
    let b₃ = bytes_tail b₂ in
    rw (p, q, s, ← n, bytes16_number16 f g (bytes_head b₂) (bytes_head b₃), bytes16_number16 d e (bytes_head small) (bytes_head b₁), r)

sound_long : (a b c d e f g : ℕ) (rest : List ℕ) (j : Job) → Bytes (a ∷ b ∷ c ∷ d ∷ e ∷ f ∷ g ∷ rest) → read_tree (a ∷ b ∷ c ∷ d ∷ e ∷ f ∷ g ∷ rest) ≡ done j → IsTree (a ∷ b ∷ c ∷ d ∷ e ∷ f ∷ g ∷ rest) j
unfolding read_tree job_marked taken
sound_long a b c d e f g rest j small h =
    let bs : List ℕ = a ∷ b ∷ c ∷ d ∷ e ∷ f ∷ g ∷ rest in
    let t₁ = passed (ltb (length bs) 7) 1 (length bs) _ h in
    let t₂ = passed (not (job_marked bs)) 2 0 _ t₁.1 in
    let t₃ = passed (not (taken (d * 256 + e))) 3 3 _ t₂.1 in
    let t₄ = passed (not (leb 1 (f * 256 + g) && leb (f * 256 + g) 1000)) 4 5 _ t₃.1 in
    let w = mapped_from (λ (ts : Proc × Unit {0}). record { version = d * 256 + e; tree = ts.0 }) (read_nodes (f * 256 + g) root 0 7 rest) j t₄.1 in
    let m = both (eqb a 87) _ (not-false _ t₂.0) in
    let m' = both (eqb b 83) _ m.1 in
    let n = both (leb 1 (f * 256 + g)) _ (not-false _ t₄.0) in
    let few : f * 256 + g ≤ 1000 = leb-true _ _ n.1 in
    let small₃ : Bytes (d ∷ e ∷ f ∷ g ∷ rest) = bytes_drop 3 small in
    let r = read_sound (f * 256 + g) root 0 7 rest w.before (bytes_drop 4 small₃) (omega arith) w.was in
    let count : f * 256 + g ≡ nodes_p w.before.0 = omega (arith, r.count) in
    let text : rest ≡ bytes_p w.before.0 = rw append-nil at r.text in
    let sized : Sized w.before.0 = record { valued = r.fine.0; few = omega arith; flat = omega (arith, r.fine.1); narrow = omega (arith, r.narrow) } in
    subst
    (IsTree bs)
    w.becomes
    (record {
      version = eqb-true _ _ (not-false _ t₃.0);
      sized = sized;
      text = text_of w.before.0 a b c d e f g rest small₃ (eqb-true a 87 m.0) (eqb-true b 83 m'.0) (eqb-true c 74 m'.1) count text;
    })

-- what passes document 01's tests is the bytes of the tree that is given
pub read_is_tree : (bs : List ℕ) (j : Job) → Bytes bs → read_tree bs ≡ done j → IsTree bs j
unfolding read_tree
read_is_tree [] j b e = absurd (let z : ◌≡◌ {A = ℕ} 0 1 = cc in omega arith)
read_is_tree (x₁ ∷ []) j b e = absurd (let z : ◌≡◌ {A = ℕ} 0 1 = cc in omega arith)
read_is_tree (x₁ ∷ x₂ ∷ []) j b e = absurd (let z : ◌≡◌ {A = ℕ} 0 1 = cc in omega arith)
read_is_tree (x₁ ∷ x₂ ∷ x₃ ∷ []) j b e = absurd (let z : ◌≡◌ {A = ℕ} 0 1 = cc in omega arith)
read_is_tree (x₁ ∷ x₂ ∷ x₃ ∷ x₄ ∷ []) j b e = absurd (let z : ◌≡◌ {A = ℕ} 0 1 = cc in omega arith)
read_is_tree (x₁ ∷ x₂ ∷ x₃ ∷ x₄ ∷ x₅ ∷ []) j b e = absurd (let z : ◌≡◌ {A = ℕ} 0 1 = cc in omega arith)
read_is_tree (x₁ ∷ x₂ ∷ x₃ ∷ x₄ ∷ x₅ ∷ x₆ ∷ []) j b e = absurd (let z : ◌≡◌ {A = ℕ} 0 1 = cc in omega arith)
read_is_tree (x₁ ∷ x₂ ∷ x₃ ∷ x₄ ∷ x₅ ∷ x₆ ∷ x₇ ∷ rest) j b e = sound_long x₁ x₂ x₃ x₄ x₅ x₆ x₇ rest j b e

-- and such bytes pass them
pub tree_is_read : (bs : List ℕ) (j : Job) → IsTree bs j → read_tree bs ≡ done j
tree_is_read bs j i = rw i.text (tree_bytes_read j i.version i.sized)

-- what document 02 No. 3's test leaves is what it was given, and no longer
pub short-from : (o : Outcome Job) (j : Job) → onward o short_only ≡ done j → (o ≡ done j) × (longest_nodes j.tree ≤ 200)
short-from (refused n p) j e = absurd (let z : ◌≡◌ {A = ℕ} 0 1 = cc in omega arith)
short-from (done k) j e =
    let m = mapped_from (λ (u : Unit {0}). k) (short_from 7 k.tree) j e in
    (ap done m.becomes, subst (λ (l : Job). longest_nodes l.tree ≤ 200) m.becomes (passes_short 7 k.tree (short_from 7 k.tree) (judged 7 k.tree) m.was))

-- a job that is accepted is the bytes of the tree that is given
pub accepted_is_job : (bs : List ℕ) (j : Job) → Bytes bs → read_job bs ≡ done j → IsJob bs j
unfolding read_job
accepted_is_job bs j b e =
    let s = short-from (read_tree bs) j e in
    let i = read_is_tree bs j b s.0 in
    record { version = i.version; within = record { sized = i.sized; short = s.1 }; text = i.text }

-- and the bytes of a tree within the limits are accepted, with that tree
pub job_is_accepted : (bs : List ℕ) (j : Job) → IsJob bs j → read_job bs ≡ done j
unfolding read_job
job_is_accepted bs j i =
    rw (tree_is_read bs j (record { version = i.version; sized = i.within.sized; text = i.text }), short_passes 7 j.tree i.within.short)

-- so the tree is unique
pub job_unique : (bs : List ℕ) (j k : Job) → IsJob bs j → IsJob bs k → j ≡ k
job_unique bs j k i l =
    let e : read_job bs ≡ done j = job_is_accepted bs j i in
    let f : read_job bs ≡ done k = job_is_accepted bs k l in
    cc
