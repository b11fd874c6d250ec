-- For the proofs, nobody has to believe it: the stack heights along a thread's own code. `runs_in_64`, `end-height` and `greatest_height` (proofs/Heights) say
-- what they are of a job's code. The heights of the papers are `walk_op` (machine/specs/Fits) and `heights` (script/specs/Count).
use Rattle.std.specs.Prelude.{ℕ, suc, ◌-◌, ◌≤◌, max, ◌≡◌}
use Rattle.code.specs.Compile.{Instruction, Code, PUSH, ADD, READ, WRITE, BEGIN, COMMIT, FORK, ε, ◌⨾◌}

-- the height that an instruction leaves
abbrev pub height_after : Instruction → ℕ → ℕ
height_after (PUSH n) h = suc h
height_after ADD h = h - 1
height_after (READ v) h = suc h
height_after (WRITE v) h = h
height_after BEGIN h = h
height_after COMMIT h = h
height_after (FORK c) h = suc h

-- the height that a thread's own code leaves, and the greatest on the way
unfoldable pub end_height : Code → ℕ → ℕ
end_height ε h = h
end_height (i ⨾ c) h = end_height c (height_after i h)

-- the greatest height on the way
unfoldable pub greatest : Code → ℕ → ℕ
greatest ε h = h
greatest (i ⨾ c) h = max h (greatest c (height_after i h))

-- a thread's code runs from this height, n at most, within a stack of n cells: each instruction finds what it takes, no height is above n, one
-- number is left at the end ("its result is the one number left on its stack"); and so does each FORK's child from its empty stack
unfoldable mutual
  pub Takes : (n : ℕ) → Instruction → (height : ℕ) → Type 0
  Takes n (PUSH z) h = suc h ≤ n
  Takes n ADD h = 2 ≤ h
  Takes n (READ v) h = suc h ≤ n
  Takes n (WRITE v) h = 1 ≤ h
  Takes n BEGIN h = h ≤ n
  Takes n COMMIT h = 1 ≤ h
  Takes n (FORK c) h = (suc h ≤ n) × RunsIn n c 0

  pub RunsIn : (n : ℕ) → Code → (height : ℕ) → Type 0
  RunsIn n ε h = h ≡ 1
  RunsIn n (i ⨾ c) h = Takes n i h × RunsIn n c (height_after i h)
