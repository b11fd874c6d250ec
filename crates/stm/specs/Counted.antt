-- Document 02 No. 6: "The register table carries, beside each value, how often commits have written it."
use Rattle.std.specs.Prelude.{ℕ, List, ℤ}

-- a register of the table, or of a read log: its value, and how often commits have written it
pub record Counted : Type 0 where
  pub value : ℤ
  pub count : ℕ

-- the register table, as it is lent: the values, and the counts beside them
pub record Table : Type 0 where
  pub registers : List ℤ
  pub counts : List ℕ
