-- For the proofs, nobody has to believe it: what a register's cell may be, and when a logged cell is stale.
use Rattle.std.specs.Prelude.{ℕ, suc, ◌≤◌, Bool, true, false, not, ◌≡◌, refl, eqb, ℤ, pos}
use Rattle.std.proofs.Common.{arith, eqb-true, eq-eqb}
use Rattle.stm.specs.Counted.{Counted}

-- A cell of the table, and what makes one stale that was logged. `Past l c`: l is c, or was c before commits wrote it.
pub record Cells : Type 1 where
  pub Cell : Type 0
  pub value : Cell → ℤ
  pub blank : Cell
  pub written : Cell → ℤ → Cell
  pub stale : (logged now : Cell) → Bool
  pub Past : (logged now : Cell) → Type 0
  pub blank_value : value blank ≡ pos 0
  pub written_value : (c : Cell) (n : ℤ) → value (written c n) ≡ n
  -- a register just read is not stale
  pub just_read : (c : Cell) → stale c c ≡ false
  -- along a history, not stale implies that the logged value is the table's
  pub past_now : (c : Cell) → Past c c
  pub past_written : (l c : Cell) (n : ℤ) → Past l c → Past l (written c n)
  pub not_stale : (l c : Cell) → Past l c → stale l c ≡ false → value l ≡ value c

-- a test whose negation fails holds
pub not_not : (b : Bool) → not b ≡ false → b ≡ true
not_not true e = refl
not_not false e = absurd (let z : ◌≡◌ {A = ℕ} 0 1 = cc in omega arith)

-- document 02 No. 6: "stale if a commit wrote it after it entered the read log, even with an equal value"; a commit's write raises the count
abbrev pub by_count : Cells
by_count =
    record {
      Cell = Counted;
      value = λ c. c.value;
      blank = record { value = pos 0; count = 0 };
      written = λ c n. record { value = n; count = suc c.count };
      stale = λ l c. not (eqb l.count c.count);
      Past = λ l c. (l.count ≤ c.count) × (l.count ≡ c.count → l.value ≡ c.value);
      blank_value = refl;
      written_value = λ c n. refl;
      just_read = λ c. rw (eq-eqb c.count c.count refl);
      past_now = λ c. (omega arith, λ e. refl);
      past_written = λ l c n p. let q : l.count ≤ c.count = p.0 in (omega arith, λ e. absurd (omega arith));
      not_stale = λ l c p e. p.1 (eqb-true l.count c.count (not_not (eqb l.count c.count) e));
    }

-- staleness that is exact: a register that was written is stale, with whatever value; by count it is (`by_count_exact`, proofs/Exact)
pub record Exact (K : Cells) : Type 0 where
  pub written_stale : (l c : K.Cell) (n : ℤ) → K.Past l c → K.stale l (K.written c n) ≡ true
