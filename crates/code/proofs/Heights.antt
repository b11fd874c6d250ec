-- What is counted in a job's code is what is counted in its tree: instructions, the longest transaction, and stack heights, which depth 64 keeps to 64.
-- Assumes nothing.
use Prim.Native.Nat.{ℕ, suc, ◌+◌, ◌-◌, ◌≤◌, max}
use mathlib.Core.Path.{◌≡◌, refl}
use mathlib.Core.List.{List, [], ◌∷◌, ◌++◌}
use native.Mathlib.Omega.{arith}
use lib.IntN.{ℤ}
use Rattle.code.specs.Compile.{Code, PUSH, ADD, READ, WRITE, BEGIN, COMMIT, FORK, ε, ◌⨾◌, compile_t, compile_p}
use Rattle.code.specs.Counts.{instruction_count, code_count, until_commit, longest_at, longest_in}
use Rattle.code.specs.InnerHeights.{end_height, greatest, Takes, RunsIn}
use Rattle.script.specs.Tree.{Tran, ValT, AddT, Read, Write, Proc, ValP, AddP, Atomic, Fork}
use Rattle.script.specs.Count.{nodes_t, nodes_p, depth_t, depth_p, atomics, instructions, longest, height_t, height_p, child_heights, heights}
use Rattle.script.specs.Limits.{Within}

count_tran : (t : Tran) (c : Code) → code_count (compile_t t c) ≡ nodes_t t + code_count c
unfolding compile_t code_count instruction_count nodes_t
count_tran (ValT n) c = refl
count_tran (AddT a b) c = rw (count_tran a (compile_t b (ADD ⨾ c)), count_tran b (ADD ⨾ c)) (omega arith)
count_tran (Read v) c = refl
count_tran (Write v t) c = rw (count_tran t (WRITE v ⨾ c)) (omega arith)

count_then : (p : Proc) (c : Code) → code_count (compile_p p c) ≡ instructions p + code_count c
unfolding compile_p code_count instruction_count nodes_p atomics instructions
count_then (ValP n) c = omega arith
count_then (AddP a b) c = rw (count_then a (compile_p b (ADD ⨾ c)), count_then b (ADD ⨾ c)) (omega arith)
count_then (Atomic t) c = rw (count_tran t (COMMIT ⨾ c)) (omega arith)
count_then (Fork p) c = rw (count_then p ε) (omega arith)

-- L is the number of instructions
pub count_proc : (p : Proc) → code_count (compile_p p ε) ≡ instructions p
unfolding code_count
count_proc p = rw (count_then p ε) (omega arith)

until_tran : (t : Tran) (c : Code) → until_commit (compile_t t c) ≡ nodes_t t + until_commit c
unfolding compile_t until_commit nodes_t
until_tran (ValT n) c = omega arith
until_tran (AddT a b) c = rw (until_tran a (compile_t b (ADD ⨾ c)), until_tran b (ADD ⨾ c)) (omega arith)
until_tran (Read v) c = omega arith
until_tran (Write v t) c = rw (until_tran t (WRITE v ⨾ c)) (omega arith)

longest_tran : (t : Tran) (c : Code) → longest_in (compile_t t c) ≡ longest_in c
unfolding compile_t longest_in longest_at
longest_tran (ValT n) c = omega arith
longest_tran (AddT a b) c = rw (longest_tran a (compile_t b (ADD ⨾ c)), longest_tran b (ADD ⨾ c)) (omega arith)
longest_tran (Read v) c = omega arith
longest_tran (Write v t) c = rw (longest_tran t (WRITE v ⨾ c)) (omega arith)

longest_then : (p : Proc) (c : Code) → longest_in (compile_p p c) ≡ max (longest p) (longest_in c)
unfolding compile_p longest_in longest_at longest until_commit
longest_then (ValP n) c = omega arith
longest_then (AddP a b) c = rw (longest_then a (compile_p b (ADD ⨾ c)), longest_then b (ADD ⨾ c)) (omega arith)
longest_then (Atomic t) c = rw (until_tran t (COMMIT ⨾ c), longest_tran t (COMMIT ⨾ c)) (omega arith)
longest_then (Fork p) c = rw (longest_then p ε) (omega arith)

-- M is the longest transaction's number of instructions
pub longest_proc : (p : Proc) → longest_in (compile_p p ε) ≡ longest p
unfolding longest_in
longest_proc p = rw (longest_then p ε) (omega arith)

less_one : (h : ℕ) → suc (suc h) - 1 ≡ suc h
less_one h = omega arith

end_tran : (t : Tran) (c : Code) (h : ℕ) → end_height (compile_t t c) h ≡ end_height c (suc h)
unfolding compile_t end_height
end_tran (ValT n) c h = refl
end_tran (AddT a b) c h = rw (end_tran a (compile_t b (ADD ⨾ c)) h, end_tran b (ADD ⨾ c) (suc h), less_one h)
end_tran (Read v) c h = refl
end_tran (Write v t) c h = rw (end_tran t (WRITE v ⨾ c) h)

-- a process's code leaves its stack one higher
pub end-height : (p : Proc) (c : Code) (h : ℕ) → end_height (compile_p p c) h ≡ end_height c (suc h)
unfolding compile_p end_height
end-height (ValP n) c h = refl
end-height (AddP a b) c h = rw (end-height a (compile_p b (ADD ⨾ c)) h, end-height b (ADD ⨾ c) (suc h), less_one h)
end-height (Atomic t) c h = rw (end_tran t (COMMIT ⨾ c) h)
end-height (Fork p) c h = refl

-- "its result is the one number left on its stack"
pub one-left : (p : Proc) → end_height (compile_p p ε) 0 ≡ 1
unfolding end_height
one-left p = end-height p ε 0

height_some_t : (t : Tran) → 1 ≤ height_t t
unfolding height_t
height_some_t (ValT n) = omega arith
height_some_t (AddT a b) = omega arith
height_some_t (Read v) = omega arith
height_some_t (Write v t) = height_some_t t

height_some : (p : Proc) → 1 ≤ height_p p
unfolding height_p
height_some (ValP n) = omega arith
height_some (AddP a b) = omega arith
height_some (Atomic t) = height_some_t t
height_some (Fork p) = omega arith

pub greatest_least : (c : Code) (h : ℕ) → h ≤ greatest c h
unfolding greatest
greatest_least ε h = omega arith
greatest_least (i ⨾ c) h = omega arith

greatest_tran : (t : Tran) (c : Code) (h : ℕ) → greatest (compile_t t c) h ≡ max (h + height_t t) (greatest c (suc h))
unfolding compile_t greatest height_t
greatest_tran (ValT n) c h = omega (arith, greatest_least c (suc h))
greatest_tran (AddT a b) c h =
    rw (greatest_tran a (compile_t b (ADD ⨾ c)) h, greatest_tran b (ADD ⨾ c) (suc h), less_one h) (omega (arith, height_some_t b))
greatest_tran (Read v) c h = omega (arith, greatest_least c (suc h))
greatest_tran (Write v t) c h = rw (greatest_tran t (WRITE v ⨾ c) h) (omega (arith, height_some_t t))

greatest_then : (p : Proc) (c : Code) (h : ℕ) → greatest (compile_p p c) h ≡ max (h + height_p p) (greatest c (suc h))
unfolding compile_p greatest height_p
greatest_then (ValP n) c h = omega (arith, greatest_least c (suc h))
greatest_then (AddP a b) c h =
    rw (greatest_then a (compile_p b (ADD ⨾ c)) h, greatest_then b (ADD ⨾ c) (suc h), less_one h) (omega (arith, height_some b))
greatest_then (Atomic t) c h = rw (greatest_tran t (COMMIT ⨾ c) h) (omega (arith, height_some_t t))
greatest_then (Fork p) c h = omega (arith, greatest_least c (suc h))

-- the greatest height of a thread's own code is the tree's
pub greatest_height : (p : Proc) → greatest (compile_p p ε) 0 ≡ height_p p
unfolding greatest
greatest_height p = rw (greatest_then p ε 0) (omega (arith, height_some p))

height_depth_t : (t : Tran) → height_t t ≤ depth_t t
unfolding height_t depth_t
height_depth_t (ValT n) = omega arith
height_depth_t (AddT a b) = omega (arith, height_depth_t a, height_depth_t b)
height_depth_t (Read v) = omega arith
height_depth_t (Write v t) = omega (arith, height_depth_t t)

-- no stack is higher than its tree is deep
pub height_depth : (p : Proc) → height_p p ≤ depth_p p
unfolding height_p depth_p
height_depth (ValP n) = omega arith
height_depth (AddP a b) = omega (arith, height_depth a, height_depth b)
height_depth (Atomic t) = omega (arith, height_depth_t t)
height_depth (Fork p) = omega arith

-- none of the numbers is above n
abbrev pub AtMost : ℕ → List ℕ → Type 0
AtMost n [] = Unit {0}
AtMost n (h ∷ hs) = (h ≤ n) × AtMost n hs

at_most_append : (n : ℕ) (xs ys : List ℕ) → AtMost n xs → AtMost n ys → AtMost n (xs ++ ys)
at_most_append n [] ys p q = q
at_most_append n (x ∷ xs) ys p q = (p.0, at_most_append n xs ys p.1 q)

-- nor is a child's
pub child-heights : (p : Proc) (n : ℕ) → depth_p p ≤ n → AtMost n (child_heights p)
unfolding child_heights depth_p
child-heights (ValP z) n h = tt
child-heights (AddP a b) n h =
    at_most_append n (child_heights a) (child_heights b) (child-heights a n (omega arith)) (child-heights b n (omega arith))
child-heights (Atomic t) n h = tt
child-heights (Fork p) n h = (omega (arith, height_depth p), child-heights p n (omega arith))

-- a stack of 64 is enough for a script within the limits
pub height_fits : {p : Proc} → Within p → height_p p ≤ 64
height_fits {p} w = omega (arith, height_depth p, w.sized.flat)

-- and for each FORK's child in it
pub heights_fit : {p : Proc} → Within p → AtMost 64 (heights p)
unfolding heights
heights_fit {p} w = (height_fits w, child-heights p 64 w.sized.flat)

runs_tran : (n : ℕ) (t : Tran) (c : Code) (h : ℕ) → h + height_t t ≤ n → RunsIn n c (suc h) → RunsIn n (compile_t t c) h
unfolding compile_t height_t Takes RunsIn
runs_tran n (ValT z) c h l r = (omega arith, r)
runs_tran n (AddT a b) c h l r =
    runs_tran n a (compile_t b (ADD ⨾ c)) h (omega arith) (runs_tran n b (ADD ⨾ c) (suc h) (omega arith) (omega arith, rw (less_one h) r))
runs_tran n (Read v) c h l r = (omega arith, r)
runs_tran n (Write v t) c h l r = runs_tran n t (WRITE v ⨾ c) h l (omega arith, r)

runs_proc : (n : ℕ) (p : Proc) (c : Code) (h : ℕ) → depth_p p ≤ n → h + height_p p ≤ n → RunsIn n c (suc h) → RunsIn n (compile_p p c) h
unfolding compile_p height_p depth_p Takes RunsIn
runs_proc n (ValP z) c h d l r = (omega arith, r)
runs_proc n (AddP a b) c h d l r =
    runs_proc n a (compile_p b (ADD ⨾ c)) h (omega arith) (omega arith) (runs_proc n b (ADD ⨾ c) (suc h) (omega arith) (omega arith) (omega arith, rw (less_one h) r))
runs_proc n (Atomic t) c h d l r = (omega arith, runs_tran n t (COMMIT ⨾ c) h l (omega arith, r))
runs_proc n (Fork p) c h d l r = ((omega arith, runs_proc n p ε 0 (omega arith) (omega (arith, height_depth p)) refl), r)

-- the code of a script within the limits, and each FORK's child in it, runs in a stack of 64 and ends with one number on it
pub runs_in_64 : {p : Proc} → Within p → RunsIn 64 (compile_p p ε) 0
unfolding RunsIn
runs_in_64 {p} w = runs_proc 64 p ε 0 w.sized.flat (omega (arith, height_fits w)) refl

-- ---- what code that runs from a height in n cells has: each instruction finds what it takes, no height is above n, one number is left
module _ (n h : ℕ) (c : Code) where
  pub runs_push : (z : ℤ) → RunsIn n (PUSH z ⨾ c) h → (suc h ≤ n) × RunsIn n c (suc h)
  unfolding RunsIn Takes
  runs_push z r = r

  pub runs_add : RunsIn n (ADD ⨾ c) h → (2 ≤ h) × RunsIn n c (h - 1)
  unfolding RunsIn Takes
  runs_add r = r

  pub runs_read : (v : ℕ) → RunsIn n (READ v ⨾ c) h → (suc h ≤ n) × RunsIn n c (suc h)
  unfolding RunsIn Takes
  runs_read v r = r

  pub runs_write : (v : ℕ) → RunsIn n (WRITE v ⨾ c) h → (1 ≤ h) × RunsIn n c h
  unfolding RunsIn Takes
  runs_write v r = r

  pub runs_begin : RunsIn n (BEGIN ⨾ c) h → (h ≤ n) × RunsIn n c h
  unfolding RunsIn Takes
  runs_begin r = r

  pub runs_commit : RunsIn n (COMMIT ⨾ c) h → (1 ≤ h) × RunsIn n c h
  unfolding RunsIn Takes
  runs_commit r = r

  pub runs_fork : (k : Code) → RunsIn n (FORK k ⨾ c) h → ((suc h ≤ n) × RunsIn n k 0) × RunsIn n c (suc h)
  unfolding RunsIn Takes
  runs_fork k r = r

pub runs_end : (n h : ℕ) → RunsIn n ε h → h ≡ 1
unfolding RunsIn
runs_end n h r = r
