-- Source 5.1.1, `data Tran` and `data Proc`; document 01, "The script".
use Rattle.std.specs.Prelude.{ℕ, ℤ}

-- a transaction: VALT n, ADDT a b, READ v, WRITE v t
pub data Tran : Type 0 where
  ValT : ℤ → Tran
  AddT : Tran → Tran → Tran
  Read : ℕ → Tran
  Write : ℕ → Tran → Tran

-- a process: VALP n, ADDP a b, ATOMIC t, FORK p
pub data Proc : Type 0 where
  ValP : ℤ → Proc
  AddP : Proc → Proc → Proc
  Atomic : Tran → Proc
  Fork : Proc → Proc

-- the two sorts of tree
pub data Sort : Type 0 where
  process transaction : Sort

-- a tree of a sort
abbrev pub Tree : Sort → Type 0
Tree process = Proc
Tree transaction = Tran
