-- Every thread's own code is the root's or a FORK's child's, and where every thread has ended each of them has one thread. Assumes nothing.
use Prim.Native.Nat.{ℕ, zero, suc, ◌+◌, ◌≤◌, ◌<◌}
use mathlib.Core.Bool.{not}
use mathlib.Core.Path.{◌≡◌, refl, sym, ap, subst, ◌∙◌}
use mathlib.Core.List.{List, [], ◌∷◌, ◌++◌}
use native.Mathlib.Omega.{arith}
use borrow.Author.Tests.{ne_eqb}
use lib.ListN.{length, get_or, length-append}
use Rattle.code.specs.Compile.{Instruction, Code, ADD, WRITE, COMMIT, FORK, ε, ◌⨾◌, compile_t, compile_p}
use Rattle.code.specs.Bytes.{instructions_bytes, IsCode}
use Rattle.machine.specs.Fits.{Walked, unmoved, walk_op, next_place, Walks, starts, here, own_code, Exists, ThreadOf, OneThread, Fits}
use Rattle.machine.specs.InnerStands.{op_of, Ready}
use Rattle.machine.specs.Steps.{State, Child, thread_at}
use Rattle.machine.proofs.Codes.{ready_next, ready_child, code_ready, child_length}
use Rattle.machine.proofs.Regions.{child_at, Link, at_once, later, within, link_low, root_of, passed_link}
use Rattle.script.specs.Count.{code_t, code_p, code_length, forks, height_p, child_heights, heights}
use Rattle.script.specs.Jobs.{Job}
use Rattle.script.specs.Tree.{Tran, ValT, AddT, Read, Write, Proc, ValP, AddP, Atomic, Fork}
use Rattle.stm.specs.InnerMeaning.{Outside}
use Rattle.traces.specs.OwnCodes.{child_bodies, bodies, child_codes, own_codes, nowhere}
use Rattle.traces.specs.Traces.{Finished}
use Rattle.traces.proofs.Along.{next_walk, next_ready, to_end}

-- in code that stands at a place there is a FORK whose child's code is k, at x
pub data Child' : Code → ℕ → Child → Code → Type 0 where
  child_first : {k c : Code} {q : ℕ} → Child' (FORK k ⨾ c) q (child_at q k) k
  child_later : {i : Instruction} {c : Code} {q : ℕ} {x : Child} {k : Code} → Child' c (next_place (op_of i) q) x k → Child' (i ⨾ c) q x k
  child_within : {h c : Code} {q : ℕ} {x : Child} {k : Code} → Child' h (q + 3) x k → Child' (FORK h ⨾ c) q x k

child_ready : {bytes : List ℕ} {q e : ℕ} {c : Code} {h : ℕ} {x : Child} {k : Code} → Ready bytes q e c h → Child' c q x k → Ready bytes x.start x.end k 0
child_ready r child_first = ready_child r
child_ready r (child_later o) = child_ready (ready_next r) o
child_ready r (child_within o) = child_ready (ready_child r) o

link_child : {c : Code} {q : ℕ} {own a x : Child} → Link c q own a x → (k : Code) × Child' c q x k
link_child (at_once {k}) = (k, child_first)
link_child (later l) = let r = link_child l in (r.0, child_later r.1)
link_child (within l) = let r = link_child l in (r.0, child_within r.1)

-- own code of a job, and where it stands
pub data Part (bytes : List ℕ) (j : Job) : Child → Code → Type 0 where
  whole : Part bytes j (root_of bytes) (compile_p j.tree ε)
  child : {x : Child} {k : Code} → Child' (compile_p j.tree ε) 5 x k → Part bytes j x k

pub part_ready : {bytes : List ℕ} {j : Job} {x : Child} {k : Code} → IsCode bytes j → Part bytes j x k → Ready bytes x.start x.end k 0
part_ready c whole = code_ready c
part_ready c (child o) = child_ready (code_ready c) o

module _ {bytes : List ℕ} {j : Job} (c : IsCode bytes j) (o : Outside (compile_p j.tree ε) 0) (s : State) (f : Fits bytes s) where
  -- the own code of a thread is a part of the job
  pub thread_part : (i : ℕ) → Exists s i → (k : Code) × Part bytes j (own_code (thread_at s i)) k
  thread_part zero e = (compile_p j.tree ε, subst (λ (x : Child). Part bytes j x (compile_p j.tree ε)) (sym f.root) whole)
  thread_part (suc i) e =
      let k = f.child i e in
      let l = link_child (passed_link c o s f k.parent k.there k.passed.walks (own_code (thread_at s (suc i))) k.passed.one) in
      (l.0, child l.1)

  -- a child's code does not start where the root's does
  child_behind : (i : ℕ) → Exists s (suc i) → 8 ≤ (thread_at s (suc i)).start
  child_behind i e =
      let k = f.child i e in
      let l : 5 + 3 ≤ (thread_at s (suc i)).start = link_low (passed_link c o s f k.parent k.there k.passed.walks (own_code (thread_at s (suc i))) k.passed.one) in
      omega arith

  root_there : Exists s 0
  root_there =
      let r : (thread_at s 0).start ≡ 5 = ap (λ (x : Child). x.start) f.root in
      ap not (ne_eqb (thread_at s 0).start 0 (λ z. absurd (omega arith)))

  root_one : OneThread s (root_of bytes)
  root_one = record { thread = 0; its = record { there = root_there; own = f.root }; alone = alone' }
    where
      alone' : (i : ℕ) → ThreadOf s (root_of bytes) i → i ≡ 0
      alone' zero t = refl
      alone' (suc i) t =
          let b = child_behind i t.there in
          let z : (thread_at s (suc i)).start ≡ 5 = ap (λ (x : Child). x.start) t.own in
          absurd (omega arith)

  module _ (fin : Finished s) where
    -- a FORK in the own code of a thread that has ended
    passed_fork : (i : ℕ) (own : Child) → ThreadOf s own i → {q : ℕ} {w : Walked} {k h : Code} → Ready bytes q own.end (FORK k ⨾ h) w.height → Walks bytes own.start own.end q w → OneThread s (child_at q k)
    unfolding walk_op
    passed_fork i own t {q} {w} {k} {h} r ws =
        let e = to_end bytes own.start own.end h (next_ready bytes own.start own.end w r) (next_walk bytes own.start own.end r ws) in
        let p : (thread_at s i).place ≡ own.end = fin i t.there ∙ ap (λ (y : Child). y.end) t.own in
        f.one (child_at q k)
        (record {
          parent = i;
          there = t.there;
          passed = record {
            walked = e.walked;
            walks = subst (λ (y : Child). Walks bytes y.start y.end (thread_at s i).place e.walked) (sym t.own) (subst (λ (n : ℕ). Walks bytes own.start own.end n e.walked) (sym p) e.walks);
            one = e.kept (child_at q k) here;
          };
        })

    one_child : (i : ℕ) (own : Child) → ThreadOf s own i → {q : ℕ} {w : Walked} {h : Code} {x : Child} {k : Code} → Ready bytes q own.end h w.height → Walks bytes own.start own.end q w → Child' h q x k → OneThread s x
    one_child i own t r ws child_first = passed_fork i own t r ws
    one_child i own t {w = w} r ws (child_later o) = one_child i own t (next_ready bytes own.start own.end w r) (next_walk bytes own.start own.end r ws) o
    one_child i own t {q} r ws (child_within {h} o) =
        let k = passed_fork i own t r ws in
        one_child k.thread (child_at q h) k.its {w = unmoved} (ready_child r) starts o

    -- where every thread has ended, each part has exactly one thread
    pub one_thread : {x : Child} {k : Code} → Part bytes j x k → OneThread s x
    one_thread whole = root_one
    one_thread (child o') = one_child root_one.thread (root_of bytes) root_one.its {w = unmoved} (code_ready c) starts o'

-- ---- the parts in job order
-- two lists of one length, entry by entry
abbrev pub Pairwise : {A B : Type 0} → (A → B → Type 0) → List A → List B → Type 0
Pairwise P [] [] = Unit {0}
Pairwise P [] (y ∷ ys) = ⊥
Pairwise P (x ∷ xs) [] = ⊥
Pairwise P (x ∷ xs) (y ∷ ys) = P x y × Pairwise P xs ys

pairwise_append : {A B : Type 0} (P : A → B → Type 0) (xs : List A) (ys : List B) (us : List A) (vs : List B) → Pairwise P xs ys → Pairwise P us vs → Pairwise P (xs ++ us) (ys ++ vs)
pairwise_append P [] [] us vs a b = b
pairwise_append P [] (y ∷ ys) us vs a b = absurd a
pairwise_append P (x ∷ xs) [] us vs a b = absurd a
pairwise_append P (x ∷ xs) (y ∷ ys) us vs a b = (a.0, pairwise_append P xs ys us vs a.1 b)

pairwise_map : {A B : Type 0} (P Q : A → B → Type 0) (xs : List A) (ys : List B) → ((x : A) (y : B) → P x y → Q x y) → Pairwise P xs ys → Pairwise Q xs ys
pairwise_map P Q [] [] f a = tt
pairwise_map P Q [] (y ∷ ys) f a = absurd a
pairwise_map P Q (x ∷ xs) [] f a = absurd a
pairwise_map P Q (x ∷ xs) (y ∷ ys) f a = (f x y a.0, pairwise_map P Q xs ys f a.1)

pub pairwise_at : {A B : Type 0} (P : A → B → Type 0) (xs : List A) (ys : List B) (d : A) (e : B) → Pairwise P xs ys → (k : ℕ) → k < length ys → P (get_or xs k d) (get_or ys k e)
pairwise_at P [] [] d e a k l = absurd (omega arith)
pairwise_at P [] (y ∷ ys) d e a k l = absurd a
pairwise_at P (x ∷ xs) [] d e a k l = absurd a
pairwise_at P (x ∷ xs) (y ∷ ys) d e a zero l = a.0
pairwise_at P (x ∷ xs) (y ∷ ys) d e a (suc k) l = pairwise_at P xs ys d e a.1 k (omega arith)

pub pairwise_length : {A B : Type 0} (P : A → B → Type 0) (xs : List A) (ys : List B) → Pairwise P xs ys → length xs ≡ length ys
pairwise_length P [] [] a = refl
pairwise_length P [] (y ∷ ys) a = absurd a
pairwise_length P (x ∷ xs) [] a = absurd a
pairwise_length P (x ∷ xs) (y ∷ ys) a = ap suc (pairwise_length P xs ys a.1)

behind_t : (t : Tran) (c : Code) (q : ℕ) {x : Child} {k : Code} → Child' c (q + code_t t) x k → Child' (compile_t t c) q x k
unfolding compile_t code_t next_place
behind_t (ValT n) c q o = child_later o
behind_t (AddT a b) c q {x} {k} o =
    behind_t a (compile_t b (ADD ⨾ c)) q
    (behind_t b (ADD ⨾ c) (q + code_t a)
    (child_later (subst (λ (n : ℕ). Child' c n x k) (let z : q + (code_t a + code_t b + 1) ≡ q + code_t a + code_t b + 1 = omega arith in z) o)))
behind_t (Read v) c q o = child_later o
behind_t (Write v t) c q {x} {k} o =
    behind_t t (WRITE v ⨾ c) q (child_later (subst (λ (n : ℕ). Child' c n x k) (let z : q + (code_t t + 2) ≡ q + code_t t + 2 = omega arith in z) o))

pub behind_p : (p : Proc) (c : Code) (q : ℕ) {x : Child} {k : Code} → Child' c (q + code_p p) x k → Child' (compile_p p c) q x k
unfolding compile_p code_p next_place
behind_p (ValP n) c q o = child_later o
behind_p (AddP a b) c q {x} {k} o =
    behind_p a (compile_p b (ADD ⨾ c)) q
    (behind_p b (ADD ⨾ c) (q + code_p a)
    (child_later (subst (λ (n : ℕ). Child' c n x k) (let z : q + (code_p a + code_p b + 1) ≡ q + code_p a + code_p b + 1 = omega arith in z) o)))
behind_p (Atomic t) c q {x} {k} o =
    child_later (behind_t t (COMMIT ⨾ c) (q + 1) (child_later (subst (λ (n : ℕ). Child' c n x k) (let z : q + (code_t t + 2) ≡ q + 1 + code_t t + 1 = omega arith in z) o)))
behind_p (Fork p) c q {x} {k} o =
    child_later (subst (λ (n : ℕ). Child' c n x k) (let z : q + (code_p p + 3) ≡ q + 3 + length (instructions_bytes (compile_p p ε)) = omega (arith, child_length p) in z) o)

-- each FORK's child in job order
children_in : (p : Proc) (c : Code) (q : ℕ) → Pairwise (λ (x : Child) (b : Proc). Child' (compile_p p c) q x (compile_p b ε)) (child_codes q p) (child_bodies p)
unfolding compile_p child_codes child_bodies
children_in (ValP n) c q = tt
children_in (AddP a b) c q =
    pairwise_append
    (λ (x : Child) (d : Proc). Child' (compile_p a (compile_p b (ADD ⨾ c))) q x (compile_p d ε))
    (child_codes q a)
    (child_bodies a)
    (child_codes (q + code_p a) b)
    (child_bodies b)
    (children_in a (compile_p b (ADD ⨾ c)) q)
    (pairwise_map
    (λ (x : Child) (d : Proc). Child' (compile_p b (ADD ⨾ c)) (q + code_p a) x (compile_p d ε))
    (λ (x : Child) (d : Proc). Child' (compile_p a (compile_p b (ADD ⨾ c))) q x (compile_p d ε))
    (child_codes (q + code_p a) b)
    (child_bodies b)
    (λ x d o. behind_p a (compile_p b (ADD ⨾ c)) q o)
    (children_in b (ADD ⨾ c) (q + code_p a)))
children_in (Atomic t) c q = tt
children_in (Fork p) c q = (
  subst (λ (n : ℕ). Child' (FORK (compile_p p ε) ⨾ c) q (record { start = q + 3; end = q + 3 + n }) (compile_p p ε)) (child_length p) child_first,
  pairwise_map
      (λ (x : Child) (d : Proc). Child' (compile_p p ε) (q + 3) x (compile_p d ε))
      (λ (x : Child) (d : Proc). Child' (FORK (compile_p p ε) ⨾ c) q x (compile_p d ε))
      (child_codes (q + 3) p)
      (child_bodies p)
      (λ x d o. child_within o)
      (children_in p ε (q + 3)),
)

-- the root and each FORK's child are the parts of the job
pub parts_in : (bytes : List ℕ) (j : Job) → length bytes ≡ code_length j.tree → Pairwise (λ (x : Child) (b : Proc). Part bytes j x (compile_p b ε)) (own_codes j.tree) (bodies j.tree)
unfolding own_codes bodies
parts_in bytes j e = (
  subst (λ (n : ℕ). Part bytes j (record { start = 5; end = n }) (compile_p j.tree ε)) e whole,
  pairwise_map
      (λ (x : Child) (b : Proc). Child' (compile_p j.tree ε) 5 x (compile_p b ε))
      (λ (x : Child) (b : Proc). Part bytes j x (compile_p b ε))
      (child_codes 5 j.tree)
      (child_bodies j.tree)
      (λ x b o. child o)
      (children_in j.tree ε 5),
)

-- there are as many as FORKs, and their heights are the figures
pub bodies_count : (p : Proc) → length (child_bodies p) ≡ forks p
unfolding child_bodies forks
bodies_count (ValP n) = refl
bodies_count (AddP a b) = length-append (child_bodies a) (child_bodies b) ∙ (let x = bodies_count a in let y = bodies_count b in omega arith)
bodies_count (Atomic t) = refl
bodies_count (Fork p) = ap suc (bodies_count p)

body_heights : (p : Proc) → Pairwise (λ (b : Proc) (n : ℕ). height_p b ≡ n) (child_bodies p) (child_heights p)
unfolding child_bodies child_heights
body_heights (ValP n) = tt
body_heights (AddP a b) = pairwise_append (λ (d : Proc) (n : ℕ). height_p d ≡ n) (child_bodies a) (child_heights a) (child_bodies b) (child_heights b) (body_heights a) (body_heights b)
body_heights (Atomic t) = tt
body_heights (Fork p) = (refl, body_heights p)

pub all_heights : (p : Proc) → Pairwise (λ (b : Proc) (n : ℕ). height_p b ≡ n) (bodies p) (heights p)
unfolding bodies heights
all_heights p = (refl, body_heights p)

-- ---- they start one behind the other
-- each starts at n or behind it, and behind the one before
abbrev Ascends : ℕ → List Child → Type 0
Ascends n [] = Unit {0}
Ascends n (x ∷ xs) = (n ≤ x.start) × Ascends (suc x.start) xs

-- all start before n
abbrev Before : ℕ → List Child → Type 0
Before n [] = Unit {0}
Before n (x ∷ xs) = (x.start < n) × Before n xs

ascends_from : (m n : ℕ) (xs : List Child) → m ≤ n → Ascends n xs → Ascends m xs
ascends_from m n [] l a = tt
ascends_from m n (x ∷ xs) l a = (let b : n ≤ x.start = a.0 in omega arith, a.1)

before_more : (m n : ℕ) (xs : List Child) → m ≤ n → Before m xs → Before n xs
before_more m n [] l a = tt
before_more m n (x ∷ xs) l a = (let b : x.start < m = a.0 in omega arith, before_more m n xs l a.1)

before_append : (n : ℕ) (xs ys : List Child) → Before n xs → Before n ys → Before n (xs ++ ys)
before_append n [] ys a b = b
before_append n (x ∷ xs) ys a b = (a.0, before_append n xs ys a.1 b)

ascends_append : (m n : ℕ) (xs ys : List Child) → m ≤ n → Ascends m xs → Before n xs → Ascends n ys → Ascends m (xs ++ ys)
ascends_append m n [] ys l a b c = ascends_from m n ys l c
ascends_append m n (x ∷ xs) ys l a b c = (a.0, ascends_append (suc x.start) n xs ys (let z : x.start < n = b.0 in omega arith) a.1 b.1 c)

some_code : (p : Proc) → 1 ≤ code_p p
unfolding code_p
some_code (ValP n) = omega arith
some_code (AddP a b) = omega arith
some_code (Atomic t) = omega arith
some_code (Fork p) = omega arith

children_ascend : (p : Proc) (q : ℕ) → Ascends (q + 1) (child_codes q p) × Before (q + code_p p) (child_codes q p)
unfolding child_codes code_p
children_ascend (ValP n) q = (tt, tt)
children_ascend (AddP a b) q =
    let l = children_ascend a q in
    let r = children_ascend b (q + code_p a) in (
      ascends_append (q + 1) (q + code_p a) (child_codes q a) (child_codes (q + code_p a) b) (let z = some_code a in omega arith) l.0 l.1 (ascends_from (q + code_p a) (q + code_p a + 1) (child_codes (q + code_p a) b) (omega arith) r.0),
      before_append (q + (code_p a + code_p b + 1)) (child_codes q a) (child_codes (q + code_p a) b) (before_more (q + code_p a) (q + (code_p a + code_p b + 1)) (child_codes q a) (omega arith) l.1) (before_more (q + code_p a + code_p b) (q + (code_p a + code_p b + 1)) (child_codes (q + code_p a) b) (omega arith) r.1),
    )
children_ascend (Atomic t) q = (tt, tt)
children_ascend (Fork p) q =
    let r = children_ascend p (q + 3) in (
      (omega arith, ascends_from (suc (q + 3)) (q + 3 + 1) (child_codes (q + 3) p) (omega arith) r.0),
      (let z = some_code p in omega arith, before_more (q + 3 + code_p p) (q + (code_p p + 3)) (child_codes (q + 3) p) (omega arith) r.1),
    )

ascends_at : (n : ℕ) (xs : List Child) → Ascends n xs → (k : ℕ) → suc k < length xs → (get_or xs k nowhere).start < (get_or xs (suc k) nowhere).start
ascends_at n [] a k l = absurd (omega arith)
ascends_at n (x ∷ []) a k l = absurd (omega arith)
ascends_at n (x ∷ y ∷ xs) a zero l = let b : suc x.start ≤ y.start = a.1.0 in omega arith
ascends_at n (x ∷ y ∷ xs) a (suc k) l = ascends_at (suc x.start) (y ∷ xs) a.1 k (omega arith)

pub codes_ascend : (p : Proc) (k : ℕ) → suc k < length (own_codes p) → (get_or (own_codes p) k nowhere).start < (get_or (own_codes p) (suc k) nowhere).start
unfolding own_codes
codes_ascend p k l = ascends_at 5 (record { start = 5; end = code_length p } ∷ child_codes 5 p) (omega arith, ascends_from 6 (5 + 1) (child_codes 5 p) (omega arith) (children_ascend p 5).0) k l
