-- For the proof of `scan_code` only: its scan as the lists of code/specs/InnerScan.antt.
use Rattle.std.specs.Prelude.{ℕ, zero, suc, ◌+◌, ◌≤◌, ◌≡◌, ◌⊎◌, Bool, true, false, cond, not, ◌&&◌, Option, Some, None, List, [], ◌∷◌, eqb, ltb, length, drop, get_or}
use Rattle.ops.specs.declared.Op.{Op}
use Rattle.ops.specs.declared.Op.TheVariants as op
use Rattle.scan.specs.declared.pass.Item.{Item}
use Rattle.scan.specs.declared.pass.Kind.{Kind}
use Rattle.scan.specs.declared.pass.Kind.TheVariants as kind
use Rattle.scan.specs.declared.pass.Scan.{Scan}
use Rattle.code.specs.Ops.{foreign}
use Rattle.code.specs.Ops as list
use Rattle.code.specs.InnerScan.{ScanItem, ListScan, two_top, scan_op, moved_past, scan_start, scan_ops}
use Rattle.code.specs.Reader.{read_code_tree}
use Rattle.script.specs.Count.{longest_nodes}
use Rattle.script.specs.Jobs.{Job}
use Rattle.script.specs.Limits.{most_transaction}
use Rattle.script.specs.Outcome.{Outcome, done, refuse, mapped}

-- an item's kind, as the lists have it
abbrev pub kind_number : Kind → ℕ
kind_number kind.Begun = 0
kind_number kind.Forked = 1
kind_number kind.Process = 2
kind_number kind.Transaction = 3

-- an item
abbrev pub listed_item : Item → ScanItem
listed_item i = record { kind = kind_number i.kind; reach = i.reach }

-- what stands where there is no item
abbrev pub no_item : Item
no_item = record { kind = kind.Begun; reach = 0 }

-- the stack, the topmost item first
unfoldable pub stack_of : List Item → ℕ → List ScanItem
stack_of items zero = []
stack_of items (suc n) = listed_item (get_or items n no_item) ∷ stack_of items n

-- the ends of the open FORKs' children, the innermost first
unfoldable pub ends_of : List ℕ → ℕ → List ℕ
ends_of ends zero = []
ends_of ends (suc n) = get_or ends n 0 ∷ ends_of ends n

-- a scan as the lists have it
abbrev pub view : Scan → ListScan
view s =
    record {
      stack = stack_of s.items s.height;
      inside = s.inside;
      ends = ends_of s.ends s.forked;
      place = s.place;
      nodes = s.nodes;
      forks = s.forks;
      size = s.size;
    }

-- what a step comes to: the scan that it leaves, or foreign code
abbrev pub after : {A : Type 0} → Option A → Scan → Outcome ListScan
after (Some a) s = done (view s)
after None s = foreign

-- a scan with one item in place of those from a height on
abbrev pub laid : Scan → (height kind reach : ℕ) → Bool → (nodes forks size : ℕ) → ListScan
laid s height kind reach inside nodes forks size =
    record {
      stack = record { kind = kind; reach = reach } ∷ stack_of s.items height;
      inside = inside;
      ends = ends_of s.ends s.forked;
      place = s.place;
      nodes = s.nodes + nodes;
      forks = s.forks + forks;
      size = s.size + size;
    }

-- the innermost FORK's child ends
abbrev pub closed : ListScan → Outcome ListScan
closed s =
    two_top
    s
    s.stack
    (λ p f below. refuse
    (not (eqb p.kind 2 && eqb f.kind 1))
    11
    0
    (done
    (record {
      stack = record { kind = 2; reach = p.reach } ∷ below;
      inside = s.inside;
      ends = drop 1 s.ends;
      place = s.place;
      nodes = s.nodes;
      forks = s.forks;
      size = s.size;
    })))

-- so many bytes of code further
abbrev pub further : ℕ → ListScan → ListScan
further size s =
    record {
      stack = s.stack;
      inside = s.inside;
      ends = s.ends;
      place = s.place + size;
      nodes = s.nodes;
      forks = s.forks;
      size = s.size;
    }

-- an instruction, and what is read next
abbrev pub stepped : list.Op → ListScan → Outcome ListScan
stepped o s = mapped (moved_past o) (scan_op o s)

-- the same of an instruction as the code has it
abbrev pub op_stepped : Op → ListScan → Outcome ListScan
op_stepped (op.Push n) s = stepped (list.push n) s
op_stepped op.Add s = stepped list.add s
op_stepped (op.Read v) s = stepped (list.read v) s
op_stepped (op.Write v) s = stepped (list.write v) s
op_stepped op.Begin s = stepped list.begin s
op_stepped op.Commit s = stepped list.commit s
op_stepped (op.Fork size) s = stepped (list.fork size) s
op_stepped op.Foreign s = foreign

-- how many bytes of code an instruction has
abbrev pub op_length : Op → ℕ
op_length (op.Push n) = 5
op_length op.Add = 1
op_length (op.Read v) = 2
op_length (op.Write v) = 2
op_length op.Begin = 1
op_length op.Commit = 1
op_length (op.Fork size) = 3
op_length op.Foreign = 0

-- a FORK's length is one of 16 bits
abbrev pub ShortFork : Op → Type 0
ShortFork (op.Push n) = Unit {0}
ShortFork op.Add = Unit {0}
ShortFork (op.Read v) = Unit {0}
ShortFork (op.Write v) = Unit {0}
ShortFork op.Begin = Unit {0}
ShortFork op.Commit = Unit {0}
ShortFork (op.Fork size) = size ≤ 65535
ShortFork op.Foreign = Unit {0}

-- ---- the nodes of a transaction

-- an instruction's first byte in code
abbrev pub opcode_of : Op → ℕ
opcode_of (op.Push n) = 1
opcode_of op.Add = 2
opcode_of (op.Read v) = 3
opcode_of (op.Write v) = 4
opcode_of op.Begin = 5
opcode_of op.Commit = 6
opcode_of (op.Fork size) = 7
opcode_of op.Foreign = 0

-- the COMMIT of a transaction that is too long, so many instructions being behind its BEGIN
unfoldable pub ends_long : (opcode since : ℕ) → Bool
ends_long opcode since = eqb opcode 6 && ltb 200 since

-- the instructions behind the last BEGIN, with one more
unfoldable pub counted_to : (opcode since : ℕ) → ℕ
counted_to opcode since = cond (eqb opcode 5) 0 (since + 1)

-- the job's longest transaction is too long, or is not, if the code is that of a job within document 01's limits
abbrev pub IfRead : (code : List ℕ) (long : Bool) → Type 0
IfRead code long = (j : Job) → read_code_tree code ≡ done j → ltb most_transaction (longest_nodes j.tree) ≡ long

-- what the instructions of code come to, as the lists have it
abbrev pub all_scanned : List ℕ → Outcome ListScan
all_scanned code = scan_ops (suc (length (drop 5 code))) scan_start (drop 5 code)

-- what `instructions` makes of code: what the lists come to, and no transaction is too long; or the lists come to foreign code, or one is too long
abbrev pub Followed : (code : List ℕ) → Option Scan → Type 0
Followed code (Some s) = (all_scanned code ≡ done (view s)) × IfRead code false
Followed code None = (all_scanned code ≡ foreign) ⊎ IfRead code true
