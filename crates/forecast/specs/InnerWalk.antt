-- For the proof of `forecast` only: what counting one node does to the parts that are due and to the figures.
use Rattle.std.specs.Prelude.{ℕ, ◌+◌, ◌≤◌, max, ◌≡◌, List, [], ◌∷◌, get_or, set}
use Rattle.forecast.specs.declared.Due.{Due}
use Rattle.forecast.specs.declared.Totals.{Totals}
use Rattle.script.specs.Count.{code_length}
use Rattle.script.specs.Jobs.{Job}
use Rattle.script.specs.Outcome.{done}
use Rattle.script.specs.Reader.{read_job}
use Rattle.terms.specs.declared.Kind.{Kind}
use Rattle.terms.specs.declared.Kind.TheVariants as kind
use Rattle.word.specs.Registers.{none, with}

-- the bytes are an accepted job whose code has this length
pub record Accepts (bs : List ℕ) (length : ℕ) : Type 0 where
  pub job : Job
  pub read : read_job bs ≡ done job
  pub long : length ≡ code_length job.tree

-- before the first node
abbrev pub nothing : Totals
nothing =
    record {
      forks = 0;
      transactions = 0;
      instructions = 0;
      current = 0;
      longest = 0;
      reads = none;
      writes = none;
    }

-- a thread's stack reaches a height
unfoldable pub raised : List ℕ → (thread height : ℕ) → List ℕ
raised heights thread height = set heights thread (max (get_or heights thread 0) height)

-- ---- the counts with one node more

-- a node of a process
abbrev pub counted : Totals → Totals
counted t =
    record {
      forks = t.forks;
      transactions = t.transactions;
      instructions = t.instructions + 1;
      current = t.current;
      longest = t.longest;
      reads = t.reads;
      writes = t.writes;
    }

-- a FORK
abbrev pub forked : Totals → Totals
forked t =
    record {
      forks = t.forks + 1;
      transactions = t.transactions;
      instructions = t.instructions + 1;
      current = t.current;
      longest = t.longest;
      reads = t.reads;
      writes = t.writes;
    }

-- an ATOMIC: BEGIN and COMMIT
abbrev pub begun : Totals → Totals
begun t =
    record {
      forks = t.forks;
      transactions = t.transactions + 1;
      instructions = t.instructions + 2;
      current = 2;
      longest = t.longest;
      reads = t.reads;
      writes = t.writes;
    }

-- a node of a transaction
abbrev pub inside : Totals → Totals
inside t =
    record {
      forks = t.forks;
      transactions = t.transactions;
      instructions = t.instructions + 1;
      current = t.current + 1;
      longest = max t.longest (t.current + 1);
      reads = t.reads;
      writes = t.writes;
    }

-- a READ or a WRITE names a register
abbrev pub with_read : ℕ → Totals → Totals
with_read register t =
    record {
      forks = t.forks;
      transactions = t.transactions;
      instructions = t.instructions;
      current = t.current;
      longest = t.longest;
      reads = with t.reads register;
      writes = t.writes;
    }

-- a WRITE names a register
abbrev pub with_write : ℕ → Totals → Totals
with_write register t =
    record {
      forks = t.forks;
      transactions = t.transactions;
      instructions = t.instructions;
      current = t.current;
      longest = t.longest;
      reads = t.reads;
      writes = with t.writes register;
    }

-- a node of this kind, by the byte behind it
abbrev pub counts_with : Totals → Kind → (register : ℕ) → Totals
counts_with t kind.Valp register = counted t
counts_with t kind.Addp register = counted t
counts_with t kind.Atomic register = begun t
counts_with t kind.Fork register = forked t
counts_with t kind.Valt register = inside t
counts_with t kind.Addt register = inside t
counts_with t kind.Read register = with_read register (inside t)
counts_with t kind.Write register = with_write register (inside t)

-- what counting a node needs of the counts
pub record Small (t : Totals) : Type 0 where
  pub few : t.forks ≤ 15
  pub transactions : t.transactions ≤ 1000
  pub instructions : t.instructions ≤ 2000
  pub current : t.current ≤ 1002

-- ---- the heights and the parts behind a node, by the part as which it was due

-- a value is put on its thread's stack
abbrev pub pushed : List ℕ → Due → List ℕ
pushed heights d = raised heights d.thread (d.base + 1)

abbrev pub heights_with : List ℕ → Kind → Due → List ℕ
heights_with heights kind.Valp d = pushed heights d
heights_with heights kind.Addp d = heights
heights_with heights kind.Atomic d = heights
heights_with heights kind.Fork d = pushed heights d
heights_with heights kind.Valt d = pushed heights d
heights_with heights kind.Addt d = heights
heights_with heights kind.Read d = pushed heights d
heights_with heights kind.Write d = heights

-- its parts, the one on top last: of a sum the right one is above one value more, and a FORK's is the child of a new thread
abbrev pub parts_of : Kind → Due → (child : ℕ) → List Due
parts_of kind.Valp d child = []
parts_of kind.Addp d child = record { thread = d.thread; base = d.base + 1 } ∷ d ∷ []
parts_of kind.Atomic d child = d ∷ []
parts_of kind.Fork d child = record { thread = child; base = 0 } ∷ []
parts_of kind.Valt d child = []
parts_of kind.Addt d child = record { thread = d.thread; base = d.base + 1 } ∷ d ∷ []
parts_of kind.Read d child = []
parts_of kind.Write d child = d ∷ []
