-- What is counted in code.
use Rattle.std.specs.Prelude.{ℕ, suc, ◌+◌, max}
use Rattle.code.specs.Compile.{Instruction, Code, PUSH, ADD, READ, WRITE, BEGIN, COMMIT, FORK, ε, ◌⨾◌}

-- instructions, each FORK's child included
unfoldable mutual
  pub instruction_count : Instruction → ℕ
  instruction_count (PUSH n) = 1
  instruction_count ADD = 1
  instruction_count (READ v) = 1
  instruction_count (WRITE v) = 1
  instruction_count BEGIN = 1
  instruction_count COMMIT = 1
  instruction_count (FORK c) = suc (code_count c)

  pub code_count : Code → ℕ
  code_count ε = 0
  code_count (i ⨾ c) = instruction_count i + code_count c

-- the instructions up to the first COMMIT, that COMMIT included
unfoldable pub until_commit : Code → ℕ
until_commit ε = 0
until_commit (PUSH n ⨾ c) = suc (until_commit c)
until_commit (ADD ⨾ c) = suc (until_commit c)
until_commit (READ v ⨾ c) = suc (until_commit c)
until_commit (WRITE v ⨾ c) = suc (until_commit c)
until_commit (BEGIN ⨾ c) = suc (until_commit c)
until_commit (COMMIT ⨾ c) = 1
until_commit (FORK k ⨾ c) = suc (until_commit c)

-- the longest transaction's instructions, BEGIN and COMMIT included, each FORK's child included; 0 if there is none
unfoldable mutual
  pub longest_at : Instruction → (behind : Code) → ℕ
  longest_at (PUSH n) behind = 0
  longest_at ADD behind = 0
  longest_at (READ v) behind = 0
  longest_at (WRITE v) behind = 0
  longest_at BEGIN behind = suc (until_commit behind)
  longest_at COMMIT behind = 0
  longest_at (FORK c) behind = longest_in c

  pub longest_in : Code → ℕ
  longest_in ε = 0
  longest_in (i ⨾ c) = max (longest_at i c) (longest_in c)
