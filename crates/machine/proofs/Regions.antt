-- Whose code each FORK of a job's code is in, and that every thread's own code is code of the job. Assumes nothing.
use Prim.Native.Nat.{ℕ, zero, suc, ◌+◌, ◌-◌, ◌≤◌, ◌<◌}
use mathlib.Core.Bool.{true, not}
use mathlib.Core.Path.{◌≡◌, refl, sym, ap, subst, ◌∙◌}
use mathlib.Core.List.{List, [], ◌∷◌, ◌++◌}
use native.Mathlib.Omega.{arith}
use lib.Dec.{eqb}
use lib.ListN.{length, drop, length-append}
use Rattle.code.specs.Compile.{Instruction, Code, PUSH, ADD, READ, WRITE, BEGIN, COMMIT, FORK, ε, ◌⨾◌, compile_p}
use Rattle.code.specs.Bytes.{instruction_bytes, instructions_bytes, IsCode}
use Rattle.code.specs.InnerHeights.{height_after}
use Rattle.code.specs.Ops.{Op, op_at}
use Rattle.code.specs.Ops as code
use Rattle.script.specs.Bytes.{bytes16}
use Rattle.script.specs.Outcome.{done}
use Rattle.script.specs.Jobs.{Job}
use Rattle.machine.specs.Steps.{State, thread_at, Child}
use Rattle.machine.specs.Fits.{Walked, walk_op, next_place, Walks, starts, passes, In, here, there, own_code, Exists, Forked, FitsBeside, Typed}
use Rattle.machine.proofs.Walking.{same_op, not_before}
use Rattle.machine.specs.InnerStands.{op_of, Ready}
use Rattle.machine.proofs.Codes.{next-place, stands_end, ready_op, ready_next, ready_child, code_ready}
use Rattle.machine.proofs.Shapes.{taking_less, taking_one}
use Rattle.machine.proofs.Simulates.{Held}
use Rattle.stm.specs.InnerMeaning.{TakesOutside, TakesInside, Outside, Inside, forks_in, forks_of}

-- ---- the FORKs of code
-- the child code of a FORK at a place
abbrev pub child_at : ℕ → Code → Child
child_at q k = record { start = q + 3; end = q + 3 + length (instructions_bytes k) }

-- in code that stands at a place and is part of the code `own`, there is a FORK in the code `a` whose child code is x
pub data Link : Code → ℕ → (own a x : Child) → Type 0 where
  at_once : {k c : Code} {q : ℕ} {own : Child} → Link (FORK k ⨾ c) q own own (child_at q k)
  later : {i : Instruction} {c : Code} {q : ℕ} {own a x : Child} → Link c (next_place (op_of i) q) own a x → Link (i ⨾ c) q own a x
  within : {k c : Code} {q : ℕ} {own a x : Child} → Link k (q + 3) (child_at q k) a x → Link (FORK k ⨾ c) q own a x

code_long : (i : Instruction) (c : Code) → length (instructions_bytes (i ⨾ c)) ≡ length (instruction_bytes i) + length (instructions_bytes c)
unfolding instructions_bytes
code_long i c = length-append (instruction_bytes i) (instructions_bytes c)

fork_long : (k : Code) → length (instruction_bytes (FORK k)) ≡ 3 + length (instructions_bytes k)
unfolding instruction_bytes bytes16
fork_long k = omega arith

-- a child's code starts behind its FORK's opcode and operand
pub link_low : {c : Code} {q : ℕ} {own a x : Child} → Link c q own a x → q + 3 ≤ x.start
link_low at_once = omega arith
link_low (later {i} {c} {q} {own} {a} {x} l) = let r : next_place (op_of i) q + 3 ≤ x.start = link_low l in let n = next-place i q in omega arith
link_low (within {k} {c} {q} {own} {a} {x} l) = let r : q + 3 + 3 ≤ x.start = link_low l in omega arith

-- no child's code starts behind the end of the code
pub link_high : {c : Code} {q : ℕ} {own a x : Child} → Link c q own a x → x.start ≤ q + length (instructions_bytes c)
link_high (at_once {k} {c} {q}) = let m = code_long (FORK k) c in let n = fork_long k in omega arith
link_high (later {i} {c} {q} {own} {a} {x} l) =
    let r : x.start ≤ next_place (op_of i) q + length (instructions_bytes c) = link_high l in
    let n = next-place i q in
    let m = code_long i c in
    omega arith
link_high (within {k} {c} {q} {own} {a} {x} l) =
    let r : x.start ≤ q + 3 + length (instructions_bytes k) = link_high l in
    let m = code_long (FORK k) c in
    let n = fork_long k in
    omega arith

-- a child's start says which FORK it is of, and whose FORK that is
pub link_once : {c : Code} {q : ℕ} {own a b x y : Child} → Link c q own a x → Link c q own b y → x.start ≡ y.start → (a ≡ b) × (x ≡ y)
link_once at_once at_once e = (refl, refl)
link_once {y = y} (at_once {k} {c} {q}) (later l) e = absurd (let r : next_place (op_of (FORK k)) q + 3 ≤ y.start = link_low l in let n = next-place (FORK k) q in let f = fork_long k in omega arith)
link_once {y = y} (at_once {k} {c} {q}) (within l) e = absurd (let r : q + 3 + 3 ≤ y.start = link_low l in omega arith)
link_once {q = q} {x = x} (later l) (at_once {k}) e = absurd (let r : next_place (op_of (FORK k)) q + 3 ≤ x.start = link_low l in let n = next-place (FORK k) q in let f = fork_long k in omega arith)
link_once (later l) (later m) e = link_once l m e
link_once {q = q} {x = x} {y = y} (later l) (within {k} m) e =
    absurd (let r : next_place (op_of (FORK k)) q + 3 ≤ x.start = link_low l in let n = next-place (FORK k) q in let f = fork_long k in let g : y.start ≤ q + 3 + length (instructions_bytes k) = link_high m in omega arith)
link_once {q = q} {x = x} (within l) at_once e = absurd (let r : q + 3 + 3 ≤ x.start = link_low l in omega arith)
link_once {q = q} {x = x} {y = y} (within {k} m) (later l) e =
    absurd (let r : next_place (op_of (FORK k)) q + 3 ≤ y.start = link_low l in let n = next-place (FORK k) q in let f = fork_long k in let g : x.start ≤ q + 3 + length (instructions_bytes k) = link_high m in omega arith)
link_once (within l) (within m) e = link_once l m e

-- ---- the FORKs that a walk has passed
-- nothing is one of an empty list
pub none_in : {x : Child} → In x [] → ⊥
none_in = elim [ ]

-- the first of a list, or one of the others
pub data FirstOr (x y : Child) (ys : List Child) : Type 0 where
  first : x ≡ y → FirstOr x y ys
  other : In x ys → FirstOr x y ys

-- one of a list is its first or one of the others
pub first_or : (x y : Child) (ys : List Child) → In x (y ∷ ys) → FirstOr x y ys
first_or x y ys here = first refl
first_or x y ys (there i) = other i

-- a child whose FORK was passed starts behind the thread's start and not behind its place
pub kids_after : {bytes : List ℕ} {start end place : ℕ} {w : Walked} → Walks bytes start end place w → (x : Child) → In x w.children → (start + 3 ≤ x.start) × (x.start ≤ place)
unfolding walk_op next_place
kids_after starts x i = absurd (none_in i)
kids_after {bytes} {start} {end} (passes {place} {w} {op} ws l e) x i = go op (λ j. kids_after ws x j) i
  where
    go : (op : Op) → (In x w.children → (start + 3 ≤ x.start) × (x.start ≤ place)) → In x (walk_op op place w).children → (start + 3 ≤ x.start) × (x.start ≤ next_place op place)
    go (code.push n) f i = let r = f i in let a = r.0 in let b = r.1 in (a, omega arith)
    go code.add f i = let r = f i in let a = r.0 in let b = r.1 in (a, omega arith)
    go (code.read v) f i = let r = f i in let a = r.0 in let b = r.1 in (a, omega arith)
    go (code.write v) f i = let r = f i in let a = r.0 in let b = r.1 in (a, omega arith)
    go code.begin f i = let r = f i in let a = r.0 in let b = r.1 in (a, omega arith)
    go code.commit f i = let r = f i in let a = r.0 in let b = r.1 in (a, omega arith)
    go (code.fork size) f i = which (first_or x (record { start = place + 3; end = place + 3 + size }) w.children i)
      where
        which : FirstOr x (record { start = place + 3; end = place + 3 + size }) w.children → (start + 3 ≤ x.start) × (x.start ≤ place + 3 + size)
        which (first e) = let n = not_before bytes start end ws in let s : x.start ≡ place + 3 = ap (λ (y : Child). y.start) e in (omega arith, omega arith)
        which (other i) = let r = f i in let a = r.0 in let b = r.1 in (a, omega arith)

-- the first of a list is none of the others
abbrev pub LastOnce : List Child → Type 0
LastOnce [] = Unit {0}
LastOnce (x ∷ xs) = In x xs → ⊥

-- the last FORK passed was not passed before
pub last_once : {bytes : List ℕ} {start end place : ℕ} {w : Walked} → Walks bytes start end place w → LastOnce w.children
unfolding walk_op
last_once starts = tt
last_once {bytes} {start} {end} (passes {place} {w} {op} ws l e) = go op (last_once ws)
  where
    go : (op : Op) → LastOnce w.children → LastOnce (walk_op op place w).children
    go (code.push n) r = r
    go code.add r = r
    go (code.read v) r = r
    go (code.write v) r = r
    go code.begin r = r
    go code.commit r = r
    go (code.fork size) r = λ i. let k : place + 3 ≤ place = (kids_after ws _ i).1 in absurd (omega arith)

-- ---- code that a walk comes to
data Good : Code → Type 0 where
  out : {c : Code} (h : ℕ) → Outside c h → Good c
  in' : {c : Code} (h b : ℕ) → Inside c h b → Good c

good_next : (i : Instruction) (c : Code) → Good (i ⨾ c) → Good c
unfolding Outside Inside TakesOutside TakesInside
good_next (PUSH n) c (out h o) = out (suc h) o
good_next ADD c (out h o) = out (h - 1) (taking_less (λ (x : ℕ). Outside c x) h o)
good_next (READ v) c (out h o) = absurd o
good_next (WRITE v) c (out h o) = absurd o
good_next BEGIN c (out h o) = in' 0 h o
good_next COMMIT c (out h o) = absurd o
good_next (FORK k) c (out h o) = out (suc h) o.1
good_next (PUSH n) c (in' h b o) = in' (suc h) b o
good_next ADD c (in' h b o) = in' (h - 1) b (taking_less (λ (x : ℕ). Inside c x b) h o)
good_next (READ v) c (in' h b o) = in' (suc h) b o.1
good_next (WRITE v) c (in' h b o) = in' h b (taking_one (λ (x : ℕ). Inside c x b) h o.1)
good_next BEGIN c (in' h b o) = absurd o
good_next COMMIT c (in' h b o) = out (suc b) o.1
good_next (FORK k) c (in' h b o) = absurd o

good_child : (k c : Code) → Good (FORK k ⨾ c) → Outside k 0
unfolding Outside Inside TakesOutside TakesInside
good_child k c (out h o) = o.0
good_child k c (in' h b o) = absurd o

-- own code of the whole: it can be run, and its FORKs are FORKs of the whole
pub record Part (bytes : List ℕ) (whole : Code) (at : ℕ) (root x : Child) : Type 0 where
  pub code : Code
  pub ready : Ready bytes x.start x.end code 0
  pub outer : Outside code 0
  pub links : (a y : Child) → Link code x.start x a y → Link whole at root a y

module _ (bytes : List ℕ) (whole : Code) (at : ℕ) (root own : Child) where
  -- own code of the whole whose FORK is in the code `own`
  abbrev Kid : Child → Type 0
  Kid x = Link whole at root own x × Part bytes whole at root x

  record Reached (place : ℕ) (w : Walked) : Type 0 where
    code : Code
    height : ℕ
    ready : Ready bytes place own.end code height
    good : Good code
    links : (a y : Child) → Link code place own a y → Link whole at root a y
    kids : (x : Child) → In x w.children → Kid x

  module _ (place : ℕ) (w : Walked) (r : Reached place w) where
    abbrev After : Op → Type 0
    After op = Reached (next_place op place) (walk_op op place w)

    step_kids : (i : Instruction) (c : Code) (h : ℕ) → Ready bytes place own.end (i ⨾ c) h → Good (i ⨾ c) → ((a y : Child) → Link (i ⨾ c) place own a y → Link whole at root a y) → (x : Child) → In x (walk_op (op_of i) place w).children → Kid x
    unfolding walk_op
    step_kids (PUSH n) c h y g f x j = r.kids x j
    step_kids ADD c h y g f x j = r.kids x j
    step_kids (READ v) c h y g f x j = r.kids x j
    step_kids (WRITE v) c h y g f x j = r.kids x j
    step_kids BEGIN c h y g f x j = r.kids x j
    step_kids COMMIT c h y g f x j = r.kids x j
    step_kids (FORK k) c h y g f x j = which (first_or x (child_at place k) w.children j)
      where
        which : FirstOr x (child_at place k) w.children → Kid x
        which (first e) =
            subst Kid (sym e)
            (f own (child_at place k) at_once, record { code = k; ready = ready_child y; outer = good_child k c g; links = λ a z l. f a z (within l) })
        which (other i) = r.kids x i

    step : (i : Instruction) (c : Code) (h : ℕ) → Ready bytes place own.end (i ⨾ c) h → Good (i ⨾ c) → ((a y : Child) → Link (i ⨾ c) place own a y → Link whole at root a y) → After (op_of i)
    step i c h y g f =
        record {
          code = c;
          height = height_after i h;
          ready = ready_next y;
          good = good_next i c g;
          links = λ a x l. f a x (later l);
          kids = step_kids i c h y g f;
        }

    onward : (op : Op) → place < own.end → op_at (drop place bytes) ≡ done op → After op
    onward op l e = go r.code r.ready r.good r.links
      where
        go : (c : Code) → Ready bytes place own.end c r.height → Good c → ((a y : Child) → Link c place own a y → Link whole at root a y) → After op
        go ε y g f = absurd (let x = stands_end y.stands in omega arith)
        go (i ⨾ c) y g f = subst After (same_op (sym (ready_op y) ∙ e)) (step i c r.height y g f)

  reached : Part bytes whole at root own → {place : ℕ} {w : Walked} → Walks bytes own.start own.end place w → Reached place w
  reached p starts = record { code = p.code; height = 0; ready = p.ready; good = out 0 p.outer; links = p.links; kids = λ x i. absurd (none_in i) }
  reached p (passes {place} {w} {op} ws l e) = onward place w (reached p ws) op l e

  -- a FORK passed in own code of the whole is a FORK of the whole, and so is its child's code
  pub kid_part : Part bytes whole at root own → {place : ℕ} {w : Walked} → Walks bytes own.start own.end place w → (x : Child) → In x w.children → Link whole at root own x × Part bytes whole at root x
  kid_part p ws x i = (reached p ws).kids x i

-- ---- every thread's own code is code of the job
abbrev pub root_of : List ℕ → Child
root_of bytes = record { start = 5; end = length bytes }

-- own code of a job
abbrev pub PartOf : List ℕ → Job → Child → Type 0
PartOf bytes j x = Part bytes (compile_p j.tree ε) 5 (root_of bytes) x

-- a FORK of a job's code
abbrev pub LinkOf : List ℕ → Job → (a x : Child) → Type 0
LinkOf bytes j a x = Link (compile_p j.tree ε) 5 (root_of bytes) a x

module _ {bytes : List ℕ} {j : Job} {beside : ℕ} (c : IsCode bytes j) (o : Outside (compile_p j.tree ε) 0) (s : State) (f : FitsBeside beside bytes s) where
  root_part : PartOf bytes j (root_of bytes)
  root_part = record { code = compile_p j.tree ε; ready = code_ready c; outer = o; links = λ a y l. l }

  parts : (fuel i : ℕ) → Exists s i → (thread_at s i).start < fuel → PartOf bytes j (own_code (thread_at s i))
  parts zero i e l = absurd (omega arith)
  parts (suc fuel) zero e l = subst (PartOf bytes j) (sym f.root) root_part
  parts (suc fuel) (suc i) e l = go (f.child i e) (λ k x m. parts fuel k x m)
    where
      go : Forked bytes s (own_code (thread_at s (suc i))) → ((k : ℕ) → Exists s k → (thread_at s k).start < fuel → PartOf bytes j (own_code (thread_at s k))) → PartOf bytes j (own_code (thread_at s (suc i)))
      go k again =
          let p = k.passed in
          let own = own_code (thread_at s k.parent) in
          let b : (thread_at s k.parent).start + 3 ≤ (thread_at s (suc i)).start = (kids_after p.walks (own_code (thread_at s (suc i))) p.one).0 in
          (kid_part bytes (compile_p j.tree ε) 5 (root_of bytes) own (again k.parent k.there (omega arith)) p.walks (own_code (thread_at s (suc i))) p.one).1

  -- the own code of a thread is code of the job
  pub thread_part : (i : ℕ) → Exists s i → PartOf bytes j (own_code (thread_at s i))
  thread_part i e = parts (suc (thread_at s i).start) i e (omega arith)

  -- a FORK that a walk along a thread's own code passes is a FORK of the job
  pub passed_link : (i : ℕ) → Exists s i → {place : ℕ} {w : Walked} → Walks bytes (thread_at s i).start (thread_at s i).end place w → (x : Child) → In x w.children → LinkOf bytes j (own_code (thread_at s i)) x
  passed_link i e ws x k = (kid_part bytes (compile_p j.tree ε) 5 (root_of bytes) (own_code (thread_at s i)) (thread_part i e) ws x k).0

  -- every thread has its own code, which can be run
  pub held : Typed s → (i : ℕ) → Exists s i → Held bytes (thread_at s i)
  held y i e =
      let p = thread_part i e in
      record { typed = y i; placed = f.placed i e; somewhere = started (thread_at s i).start e; code = p.code; region = p.ready; outer = p.outer }
    where
      started : (n : ℕ) → not (eqb n 0) ≡ true → 1 ≤ n
      started zero e = absurd (let z : ◌≡◌ {A = ℕ} 0 1 = cc in omega arith)
      started (suc n) e = omega arith

-- ---- there are no more children than FORKs
-- one of a list of numbers
data Among (n : ℕ) : List ℕ → Type 0 where
  head : {ns : List ℕ} → Among n (n ∷ ns)
  tail : {m : ℕ} {ns : List ℕ} → Among n ns → Among n (m ∷ ns)

among_left : {n : ℕ} {ns : List ℕ} (ms : List ℕ) → Among n ns → Among n (ns ++ ms)
among_left ms head = head
among_left ms (tail a) = tail (among_left ms a)

among_right : {n : ℕ} (ns : List ℕ) {ms : List ℕ} → Among n ms → Among n (ns ++ ms)
among_right [] a = a
among_right (m ∷ ns) a = tail (among_right ns a)

-- a list without one of its members
abbrev without : {n : ℕ} (ns : List ℕ) → Among n ns → List ℕ
without (m ∷ ns) head = ns
without (m ∷ ns) (tail a) = m ∷ without ns a
without {n = n} [] x' = elim x' [ ]

without_long : {n : ℕ} (ns : List ℕ) (a : Among n ns) → length ns ≡ suc (length (without ns a))
without_long (m ∷ ns) head = refl
without_long (m ∷ ns) (tail a) = ap suc (without_long ns a)
without_long {n = n} [] a = elim a [ ]

still : {n k : ℕ} (ns : List ℕ) (a : Among n ns) → Among k ns → (k ≡ n → ⊥) → Among k (without ns a)
still (m ∷ ns) head head d = absurd (d refl)
still (m ∷ ns) head (tail b) d = b
still (m ∷ ns) (tail a) head d = head
still (m ∷ ns) (tail a) (tail b) d = tail (still ns a b d)
still {n = n} {k = k} [] a _ d = elim a [ ]

-- no number twice
abbrev Apart : List ℕ → Type 0
Apart [] = Unit {0}
Apart (n ∷ ns) = (Among n ns → ⊥) × Apart ns

-- numbers that are all different and all among others are no more than these
fewer : (ns ms : List ℕ) → Apart ns → ((n : ℕ) → Among n ns → Among n ms) → length ns ≤ length ms
fewer [] ms a f = omega arith
fewer (n ∷ ns) ms a f =
    let i = f n head in
    let r = fewer ns (without ms i) a.1 (λ k b. still ms i (f k (tail b)) (λ e. a.0 (subst (λ (z : ℕ). Among z ns) e b))) in
    let l = without_long ms i in
    omega arith

-- where the children of code start
unfoldable mutual
  starts_in : Instruction → ℕ → List ℕ
  starts_in (PUSH n) q = []
  starts_in ADD q = []
  starts_in (READ v) q = []
  starts_in (WRITE v) q = []
  starts_in BEGIN q = []
  starts_in COMMIT q = []
  starts_in (FORK k) q = (q + 3) ∷ starts_of k (q + 3)

  starts_of : Code → ℕ → List ℕ
  starts_of ε q = []
  starts_of (i ⨾ c) q = starts_in i q ++ starts_of c (next_place (op_of i) q)

mutual
  unfolding starts_in forks_in

  starts_in_i : (i : Instruction) (q : ℕ) → length (starts_in i q) ≡ forks_in i
  starts_in_i (PUSH n) q = refl
  starts_in_i ADD q = refl
  starts_in_i (READ v) q = refl
  starts_in_i (WRITE v) q = refl
  starts_in_i BEGIN q = refl
  starts_in_i COMMIT q = refl
  starts_in_i (FORK k) q = ap suc (starts_count k (q + 3))

  starts_count : (c : Code) (q : ℕ) → length (starts_of c q) ≡ forks_of c
  starts_count ε q = refl
  starts_count (i ⨾ c) q =
      let a = length-append (starts_in i q) (starts_of c (next_place (op_of i) q)) in
      let b = starts_in_i i q in
      let d = starts_count c (next_place (op_of i) q) in
      omega arith

link_starts : {c : Code} {q : ℕ} {own a x : Child} → Link c q own a x → Among x.start (starts_of c q)
unfolding starts_of starts_in
link_starts at_once = head
link_starts (later {i} {c} {q} l) = among_right (starts_in i q) (link_starts l)
link_starts (within {k} {c} {q} l) = tail (among_left (starts_of c (next_place (op_of (FORK k)) q)) (link_starts l))

-- the starts of the first m children of a row
abbrev up_to : (ℕ → Child) → ℕ → List ℕ
up_to g zero = []
up_to g (suc m) = (g m).start ∷ up_to g m

up_to_long : (g : ℕ → Child) (m : ℕ) → length (up_to g m) ≡ m
up_to_long g zero = refl
up_to_long g (suc m) = ap suc (up_to_long g m)

-- which child of a row it is
record Which (g : ℕ → Child) (m n : ℕ) : Type 0 where
  number : ℕ
  below : number < m
  same : n ≡ (g number).start

which : (g : ℕ → Child) (m n : ℕ) → Among n (up_to g m) → Which g m n
which g (suc m) n a = go n (g m).start (up_to g m) a refl refl (λ b. which g m n b)
  where
    go : (n k : ℕ) (ks : List ℕ) → Among n (k ∷ ks) → k ≡ (g m).start → ks ≡ up_to g m → (Among n (up_to g m) → Which g m n) → Which g (suc m) n
    go n k ks head e d again = record { number = m; below = omega arith; same = e }
    go n k ks (tail b) e d again =
        let r = again (subst (λ (l : List ℕ). Among n l) d b) in
        let l = r.below in
        record { number = r.number; below = omega arith; same = r.same }
which g zero n a = elim a [ ]

-- children of different FORKs of code are no more than its FORKs
pub no_more : {c : Code} {q : ℕ} {own : Child} (m : ℕ) (g : ℕ → Child) → ((k : ℕ) → k < m → (a : Child) × Link c q own a (g k)) → ((k l : ℕ) → k < l → l < m → (g k).start ≡ (g l).start → ⊥) → m ≤ forks_of c
no_more {c} {q} {own} m g f d =
    let x = fewer (up_to g m) (starts_of c q) (apart m (λ k l e i. d k l e i)) (λ n a. let w = which g m n a in subst (λ (z : ℕ). Among z (starts_of c q)) (sym w.same) (link_starts (f w.number w.below).1)) in
    let y = starts_count c q in
    let z = up_to_long g m in
    omega arith
  where
    apart : (m : ℕ) → ((k l : ℕ) → k < l → l < m → (g k).start ≡ (g l).start → ⊥) → Apart (up_to g m)
    apart zero d = tt
    apart (suc m) d = (λ a. let w = which g m (g m).start a in d w.number m w.below (omega arith) (sym w.same), apart m (λ k l e i. d k l e (omega arith)))
