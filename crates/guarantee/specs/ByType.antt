-- What every slice that is lent has by its type, each entry being a value of it (Values): so what the demands ask of bytes and states shuts nothing out.
-- The theorem `by_type` (guarantee/proofs/Lending) says that it holds.
use Rattle.std.specs.Prelude.{ℕ, List, ℤ}
use Rattle.std.specs.Borrow.{u8, u32, i32}
use Rattle.guarantee.specs.Histories.{Lent, step, run}
use Rattle.guarantee.specs.Values.{Valued, AllValued}
use Rattle.machine.specs.Answers.{fresh_call, step_call, run_call, FreshAnswer, StepAnswer, RunAnswer}
use Rattle.machine.specs.Steps.{state_from}
use Rattle.script.specs.Bytes.{Bytes}
use Rattle.thread.specs.contracts.Thread as declared
use Rattle.thread.specs.declared.Thread.{Thread}

-- code, registers, counts and records as a call is lent them: `&[u8]`, `&mut [i32]`, `&mut [u32]`, `&mut [Thread]`. (`declared.the_row` is the type
-- `Thread`, a struct of thread/src/lib.rt, as the checker makes it, as `u8`, `i32` and `u32` are the kit's.)
pub record LentByType (code : List ℕ) (rs : List ℤ) (ns : List ℕ) (ts : List Thread) : Type 0 where
  pub bytes : AllValued u8 code
  pub registers : AllValued i32 rs
  pub counts : AllValued u32 ns
  pub records : AllValued declared.the_row ts

-- what such slices have
pub record ByType : Type 0 where
  -- any slice of bytes
  pub bytes : (bs : List ℕ) → AllValued u8 bs → Bytes bs
  -- any call
  pub step :
      (code : List ℕ) (rs : List ℤ) (ns : List ℕ) (ts : List Thread) → LentByType code rs ns ts →
      (pick : ℕ) → Valued u8 pick → Lent (step code (state_from rs ns ts) pick)
  pub run :
      (code : List ℕ) (rs : List ℤ) (ns : List ℕ) (ts : List Thread) → LentByType code rs ns ts →
      (picks : List ℕ) → AllValued u8 picks → Lent (run code (state_from rs ns ts) picks)
  -- what each call returns is what one row of document 01's table says
  pub fresh_row :
      (code : List ℕ) (rs : List ℤ) (ns : List ℕ) (ts : List Thread) → LentByType code rs ns ts →
      FreshAnswer code (state_from rs ns ts) (fresh_call code (state_from rs ns ts))
  pub step_row :
      (code : List ℕ) (rs : List ℤ) (ns : List ℕ) (ts : List Thread) → LentByType code rs ns ts →
      (pick : ℕ) → StepAnswer code (state_from rs ns ts) pick (step_call code (state_from rs ns ts) pick)
  pub run_row :
      (code : List ℕ) (rs : List ℤ) (ns : List ℕ) (ts : List Thread) → LentByType code rs ns ts →
      (picks : List ℕ) → RunAnswer code (state_from rs ns ts) picks (run_call code (state_from rs ns ts) picks)
