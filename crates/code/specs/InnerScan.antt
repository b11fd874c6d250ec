-- For the proof of `scan_code` only: reading code back without building its tree, of each finished part only what document 01's limits need.
-- `scan_is_read` (proofs/Scans.antt): it is `read_code_tree`, and what it counts is what the tree has.
use Rattle.std.specs.Prelude.{ℕ, zero, suc, ◌+◌, max, Bool, true, false, cond, not, ◌&&◌, List, [], ◌∷◌, eqb, leb, ltb, length, drop}
use Rattle.code.specs.Ops.{foreign, Op, push, add, read, write, begin, commit, fork, op_at, size_of}
use Rattle.code.specs.Reader.{ends_after, code_marked}
use Rattle.script.specs.Count.{nodes_p}
use Rattle.script.specs.Bytes.{job_bytes}
use Rattle.script.specs.Limits.{most_nodes, most_depth, most_forks}
use Rattle.script.specs.Outcome.{Outcome, done, refuse, onward, mapped}
use Rattle.script.specs.Jobs.{Job, number16}
use Rattle.script.specs.Reader.{taken}

-- an item of the stack. Its kind is no node's kind: 0 for a BEGIN, 1 for a FORK, 2 for a process, 3 for a transaction; and the depth
-- that its deepest node has at least in any tree that the code can become: its place on the stack, counted from 0 at the bottom, and
-- its own depth
pub record ScanItem : Type 0 where
  pub kind : ℕ
  pub reach : ℕ

-- how far the scan has come: the stack, the topmost first, whether a transaction is open, the ends of the open FORKs' children, the
-- place in the code, the nodes and FORKs so far, and the bytes of the job so far
pub record ListScan : Type 0 where
  pub stack : List ScanItem
  pub inside : Bool
  pub ends : List ℕ
  pub place : ℕ
  pub nodes : ℕ
  pub forks : ℕ
  pub size : ℕ

-- before the first instruction
unfoldable pub scan_start : ListScan
scan_start = record { stack = []; inside = false; ends = []; place = 5; nodes = 0; forks = 0; size = 7 }

-- within the limits so far
abbrev pub bounded : ListScan → ℕ → Outcome ListScan
bounded s reach =
    refuse (not (leb reach most_depth && (leb s.nodes most_nodes && leb s.forks most_forks))) 11 0 (done s)

-- a new item on top: its node, so many bytes of the job, and as many FORKs
abbrev pub topped : ListScan → (kind : ℕ) (inside : Bool) (forks size : ℕ) → Outcome ListScan
topped s kind inside forks size =
    bounded
    (record {
      stack = record { kind = kind; reach = suc (length s.stack) } ∷ s.stack;
      inside = inside;
      ends = s.ends;
      place = s.place;
      nodes = s.nodes + 1;
      forks = s.forks + forks;
      size = s.size + size;
    })
    (suc (length s.stack))

-- the topmost items become one, with a node and bytes of the job more
abbrev pub merged : ListScan → (kind reach : ℕ) → List ScanItem → (inside : Bool) (nodes size : ℕ) → Outcome ListScan
merged s kind reach below inside nodes size =
    bounded
    (record {
      stack = record { kind = kind; reach = reach } ∷ below;
      inside = inside;
      ends = s.ends;
      place = s.place;
      nodes = s.nodes + nodes;
      forks = s.forks;
      size = s.size + size;
    })
    reach

-- the two topmost items, or 11
abbrev pub two_top : ListScan → List ScanItem → (ScanItem → ScanItem → List ScanItem → Outcome ListScan) → Outcome ListScan
two_top s [] f = foreign
two_top s (b ∷ []) f = foreign
two_top s (b ∷ a ∷ below) f = f b a below

-- the topmost item, or 11
abbrev pub one_top : ListScan → List ScanItem → (ScanItem → List ScanItem → Outcome ListScan) → Outcome ListScan
one_top s [] f = foreign
one_top s (a ∷ below) f = f a below

-- an instruction, without its place
unfoldable pub scan_op : Op → ListScan → Outcome ListScan
scan_op (push n) s = topped s (cond s.inside 3 2) s.inside 0 5
scan_op add s =
    two_top
    s
    s.stack
    (λ b a below. refuse
    (not (leb 2 a.kind && eqb b.kind a.kind))
    11
    0
    (merged s a.kind (max (suc a.reach) b.reach) below s.inside 1 1))
scan_op (read v) s = refuse (not s.inside) 11 0 (topped s 3 true 0 2)
scan_op (write v) s =
    one_top
    s
    s.stack
    (λ a below. refuse
    (not (s.inside && eqb a.kind 3))
    11
    0
    (merged s 3 (suc a.reach) below true 1 2))
scan_op begin s = refuse s.inside 11 0 (topped s 0 true 0 1)
scan_op commit s =
    two_top
    s
    s.stack
    (λ t b below. refuse
    (not (s.inside && (eqb t.kind 3 && eqb b.kind 0)))
    11
    0
    (merged s 2 t.reach below false 0 0))
scan_op (fork size) s = refuse s.inside 11 0 (topped s 1 false 1 1)

-- an instruction, and what is read next
unfoldable pub moved_past : Op → ListScan → ListScan
moved_past op s =
    record {
      stack = s.stack;
      inside = s.inside;
      ends = ends_after op s.place s.ends;
      place = s.place + size_of op;
      nodes = s.nodes;
      forks = s.forks;
      size = s.size;
    }

-- the children that end at this place
unfoldable pub closes : List ℕ → ListScan → Outcome ListScan
closes [] s =
    done (record { stack = s.stack; inside = s.inside; ends = []; place = s.place; nodes = s.nodes; forks = s.forks; size = s.size })
closes (end ∷ ends) s =
    elim (eqb s.place end) [
      | true ↦ two_top
          s
          s.stack
          (λ p f below. refuse
          (not (eqb p.kind 2 && eqb f.kind 1))
          11
          0
          (closes
          ends
          (record {
            stack = record { kind = 2; reach = p.reach } ∷ below;
            inside = s.inside;
            ends = ends;
            place = s.place;
            nodes = s.nodes;
            forks = s.forks;
            size = s.size;
          })))
      | false ↦ done (record {
        stack = s.stack;
        inside = s.inside;
        ends = end ∷ ends;
        place = s.place;
        nodes = s.nodes;
        forks = s.forks;
        size = s.size;
      })
    ]

-- the end of the code: no FORK is open, and one process is left
unfoldable pub finished : ListScan → Outcome ListScan
finished s =
    elim s.ends [
      | [] ↦ one_top
          s
          s.stack
          (λ p below. refuse (not (eqb p.kind 2 && eqb (length below) 0)) 11 0 (done s))
      | end ∷ ends ↦ foreign
    ]

-- the instructions from the scan's place on, `bs` being the bytes there
unfoldable pub scan_ops : (fuel : ℕ) → ListScan → List ℕ → Outcome ListScan
scan_ops zero s bs = foreign
scan_ops (suc fuel) s bs =
    onward
    (closes s.ends s)
    (λ now. elim (eqb (length bs) 0) [
      | true ↦ finished now
      | false ↦ onward (op_at bs) (λ op. onward (scan_op op now) (λ next. scan_ops fuel (moved_past op next) (drop (size_of op) bs)))
    ])

-- what reading back needs to know of the job before it writes its first byte: its version, its nodes, its bytes
pub record Summary : Type 0 where
  pub version : ℕ
  pub nodes : ℕ
  pub size : ℕ

-- of a job
unfoldable pub summary : Job → Summary
summary j = record { version = j.version; nodes = nodes_p j.tree; size = length (job_bytes j.version j.tree) }

-- what the scan of code comes to
unfoldable pub scan_code : List ℕ → Outcome Summary
scan_code bs =
    refuse
    (ltb (length bs) 5)
    11
    0
    (refuse
    (not (code_marked bs))
    11
    0
    (refuse
    (not (taken (number16 bs 3)))
    11
    0
    (mapped
    (λ (s : ListScan). record { version = number16 bs 3; nodes = s.nodes; size = s.size })
    (scan_ops (suc (length bs)) scan_start (drop 5 bs)))))
