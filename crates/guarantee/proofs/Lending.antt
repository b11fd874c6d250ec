-- Whatever slices the types of the calls allow meet `Lent`, and are answered by a row of document 01's table: each entry of a slice is a value of the slice's type, and
-- no more is asked. Assumes nothing.
use Prim.Native.Nat.{ℕ, zero, suc, ◌<◌, ◌^◌}
use mathlib.Core.Path.{refl}
use mathlib.Core.List.{List, [], ◌∷◌}
use native.Mathlib.Omega.{arith}
use lib.Dec.{lit<}
use lib.IntN.{ℤ, pos}
use lib.ListN.{length, get_or}
use denote.Builtin.{u8, u32, i32}
use Rattle.engine.proofs.Rows.{ThreadR, Known, known_thread, known_blank, small}
use Rattle.guarantee.specs.ByType.{LentByType, ByType}
use Rattle.guarantee.specs.Histories.{Lent, step, run}
use Rattle.guarantee.specs.Values.{Valued, AllValued}
use Rattle.machine.proofs.Calls.{fresh_answers, step_answers, run_answers}
use Rattle.machine.specs.Answers.{fresh_call, step_call, run_call, FreshAnswer, StepAnswer, RunAnswer}
use Rattle.machine.specs.Fits.{Typed, Ranged}
use Rattle.machine.specs.Steps.{state_from}
use Rattle.script.specs.Bytes.{Bytes}
use Rattle.thread.specs.Threads.{blank}
use Rattle.thread.specs.declared.Thread.{Thread}
use Rattle.word.specs.Sum.{InRange}

byte : (b : ℕ) → Valued u8 b → b < 256
byte b v = let h : b < 2 ^ 8 = v.1.1 in h

bytes_small : (bs : List ℕ) → AllValued u8 bs → (i : ℕ) → i < length bs → get_or bs i 0 < 256
unfolding AllValued
bytes_small [] v i h = absurd (omega (arith, h))
bytes_small (b ∷ bs) v zero h = byte b v.0
bytes_small (b ∷ bs) v (suc i) h = bytes_small bs v.1 i (omega (arith, h))

-- a slice of bytes
bytes_by_type : (bs : List ℕ) → AllValued u8 bs → Bytes bs
bytes_by_type bs v = record { small = bytes_small bs v }

-- registers
registers_by_type : (rs : List ℤ) → AllValued i32 rs → (v : ℕ) → InRange (get_or rs v (pos 0))
unfolding AllValued
registers_by_type [] a v = small (pos 0) (lit< tt)
registers_by_type (r ∷ rs) a zero = small r a.0.1.1
registers_by_type (r ∷ rs) a (suc v) = registers_by_type rs a.1 v

-- counts
counts_by_type : (ns : List ℕ) → AllValued u32 ns → (v : ℕ) → get_or ns v 0 < 2 ^ 32
unfolding AllValued
counts_by_type [] a v = lit< tt
counts_by_type (n ∷ ns) a zero = a.0.1.1
counts_by_type (n ∷ ns) a (suc v) = counts_by_type ns a.1 v

-- records
threads_by_type : (ts : List Thread) → AllValued ThreadR ts → (i : ℕ) → Known (get_or ts i blank)
unfolding AllValued
threads_by_type [] a i = known_blank
threads_by_type (t ∷ ts) a zero = known_thread t a.0.0 a.0.1
threads_by_type (t ∷ ts) a (suc i) = threads_by_type ts a.1 i

module _ (code : List ℕ) (rs : List ℤ) (ns : List ℕ) (ts : List Thread) (l : LentByType code rs ns ts) where
  state_typed : Typed (state_from rs ns ts)
  state_typed i = (threads_by_type ts l.records i).typed

  state_ranged : Ranged (state_from rs ns ts)
  state_ranged = record { registers = registers_by_type rs l.registers; counts = counts_by_type ns l.counts; threads = λ i. (threads_by_type ts l.records i).ranged }

  code-bytes : Bytes code
  code-bytes = bytes_by_type code l.bytes

  step_by_type : (pick : ℕ) → Valued u8 pick → Lent (step code (state_from rs ns ts) pick)
  unfolding AllValued
  step_by_type pick v = record { code = code-bytes; state = state_typed; ranges = state_ranged; picks = bytes_by_type (pick ∷ []) (v, tt) }

  run_by_type : (picks : List ℕ) → AllValued u8 picks → Lent (run code (state_from rs ns ts) picks)
  run_by_type picks v = record { code = code-bytes; state = state_typed; ranges = state_ranged; picks = bytes_by_type picks v }

  fresh_row : FreshAnswer code (state_from rs ns ts) (fresh_call code (state_from rs ns ts))
  fresh_row = (fresh_answers code (state_from rs ns ts) code-bytes (fresh_call code (state_from rs ns ts))).1 refl

  step_row : (pick : ℕ) → StepAnswer code (state_from rs ns ts) pick (step_call code (state_from rs ns ts) pick)
  step_row pick = (step_answers code (state_from rs ns ts) pick code-bytes state_typed (step_call code (state_from rs ns ts) pick)).1 refl

  run_row : (picks : List ℕ) → RunAnswer code (state_from rs ns ts) picks (run_call code (state_from rs ns ts) picks)
  run_row picks = (run_answers code (state_from rs ns ts) picks code-bytes state_typed (run_call code (state_from rs ns ts) picks)).1 refl

pub by_type : ByType
by_type = record { bytes = bytes_by_type; step = step_by_type; run = run_by_type; fresh_row = fresh_row; step_row = step_row; run_row = run_row }
