-- The thread record, and what each instruction makes of it: document 01, "One pick, one step". What a step frees is 0.
use Rattle.std.specs.Prelude.{ℕ, zero, suc, ◌+◌, ◌-◌, Bool, true, false, cond, not, ◌&&◌, List, ◌++◌, eqb, ℤ, pos, get_or, set, take, replicate}
use Rattle.std.proofs.Math.Option.{Option, none, some}
use Rattle.thread.specs.declared.Thread.{Thread}
use Rattle.stm.specs.Counted.{Counted, Table}
use Rattle.stm.specs.Events.{Source, from_writes, from_reads, from_table}
use Rattle.word.specs.Registers as registers
use Rattle.word.specs.Registers.{member, with}
use Rattle.word.specs.Sum.{Rule, over_of}

-- 64 numbers, all 0
abbrev pub zeros : List ℤ
zeros = replicate 64 (pos 0)

-- 64 counts, all 0
abbrev pub unwritten : List ℕ
unwritten = replicate 64 0

-- a record of no thread
unfoldable pub blank : Thread
blank =
    record {
      start = 0;
      end = 0;
      place = 0;
      height = 0;
      cells = zeros;
      begin = 0;
      base = 0;
      over = 0;
      reads = registers.none;
      readlog = zeros;
      readcounts = unwritten;
      writes = registers.none;
      writelog = zeros;
      rule = 0;
      backs = 0;
    }

-- a record of a thread has a start
abbrev pub exists : Thread → Bool
exists t = not (eqb t.start 0)

-- a log: the values of the registers that its set marks
unfoldable pub log_of : (set : ℕ) (values : List ℤ) → ℕ → Option ℤ
log_of set values v = cond (member set v) (some (get_or values v (pos 0))) none

-- document 02 No. 6: a read log also holds how often commits had written each register when it entered
unfoldable pub counted_log : (set : ℕ) (values : List ℤ) (counts : List ℕ) → ℕ → Option Counted
counted_log set values counts v = cond (member set v) (some (record { value = get_or values v (pos 0); count = get_or counts v 0 })) none

-- the read log of a record
abbrev pub read_log : Thread → ℕ → Option Counted
read_log t = counted_log t.reads t.readlog t.readcounts

-- the write log of a record
abbrev pub write_log : Thread → ℕ → Option ℤ
write_log t = log_of t.writes t.writelog

-- ---- a record with another place, another stack, other notes, other logs, another last rule and number of send-backs
-- a record with another place
abbrev pub with_place : ℕ → Thread → Thread
with_place place t =
    record {
      start = t.start;
      end = t.end;
      place = place;
      height = t.height;
      cells = t.cells;
      begin = t.begin;
      base = t.base;
      over = t.over;
      reads = t.reads;
      readlog = t.readlog;
      readcounts = t.readcounts;
      writes = t.writes;
      writelog = t.writelog;
      rule = t.rule;
      backs = t.backs;
    }

-- a record with another stack
abbrev pub with_stack : (height : ℕ) (cells : List ℤ) → Thread → Thread
with_stack height cells t =
    record {
      start = t.start;
      end = t.end;
      place = t.place;
      height = height;
      cells = cells;
      begin = t.begin;
      base = t.base;
      over = t.over;
      reads = t.reads;
      readlog = t.readlog;
      readcounts = t.readcounts;
      writes = t.writes;
      writelog = t.writelog;
      rule = t.rule;
      backs = t.backs;
    }

-- a record with other notes
abbrev pub with_notes : (begin base over : ℕ) → Thread → Thread
with_notes begin base over t =
    record {
      start = t.start;
      end = t.end;
      place = t.place;
      height = t.height;
      cells = t.cells;
      begin = begin;
      base = base;
      over = over;
      reads = t.reads;
      readlog = t.readlog;
      readcounts = t.readcounts;
      writes = t.writes;
      writelog = t.writelog;
      rule = t.rule;
      backs = t.backs;
    }

-- a record with other logs
abbrev pub with_logs : (reads : ℕ) (readlog : List ℤ) (readcounts : List ℕ) (writes : ℕ) (writelog : List ℤ) → Thread → Thread
with_logs reads readlog readcounts writes writelog t =
    record {
      start = t.start;
      end = t.end;
      place = t.place;
      height = t.height;
      cells = t.cells;
      begin = t.begin;
      base = t.base;
      over = t.over;
      reads = reads;
      readlog = readlog;
      readcounts = readcounts;
      writes = writes;
      writelog = writelog;
      rule = t.rule;
      backs = t.backs;
    }

-- a record with another last rule and another number of send-backs
abbrev pub with_rule : (rule backs : ℕ) → Thread → Thread
with_rule rule backs t =
    record {
      start = t.start;
      end = t.end;
      place = t.place;
      height = t.height;
      cells = t.cells;
      begin = t.begin;
      base = t.base;
      over = t.over;
      reads = t.reads;
      readlog = t.readlog;
      readcounts = t.readcounts;
      writes = t.writes;
      writelog = t.writelog;
      rule = rule;
      backs = backs;
    }

-- both logs empty
abbrev pub without_logs : Thread → Thread
without_logs t = with_logs registers.none zeros unwritten registers.none zeros t

-- a thread at the start of its own code
unfoldable pub spawned : (start end : ℕ) → Thread
spawned start end =
    record {
      start = start;
      end = end;
      place = start;
      height = 0;
      cells = zeros;
      begin = 0;
      base = 0;
      over = 0;
      reads = registers.none;
      readlog = zeros;
      readcounts = unwritten;
      writes = registers.none;
      writelog = zeros;
      rule = 0;
      backs = 0;
    }

-- the number so many below the top of the stack, the topmost being 1 below
abbrev pub below : Thread → ℕ → ℤ
below t i = get_or t.cells (t.height - i) (pos 0)

-- a number on top of the stack, and the next place
unfoldable pub push : ℤ → ℕ → Thread → Thread
push n next t = with_place next (with_stack (suc t.height) (set t.cells t.height n) t)

-- document 02 No. 2: "An open attempt's count is one of its notes": after ADD, one more if the exact sum falls outside the range and a
-- transaction is open, else as it was
abbrev pub sum_noted : Thread → ℕ
sum_noted t = cond (eqb t.begin 0) t.over (t.over + over_of (below t 2) (below t 1))

-- "such sums outside transactions": 1 if this one is, else 0
abbrev pub sum_told : Thread → ℕ
sum_told t = cond (eqb t.begin 0) (over_of (below t 2) (below t 1)) 0

-- a record with another place, whose two topmost numbers become one, and another count
abbrev pub adding : (over : ℕ) (n : ℤ) → Thread → Thread
adding over n t =
    with_place (t.place + 1)
    (with_stack (t.height - 1) (set (set t.cells (t.height - 2) n) (t.height - 1) (pos 0)) (with_notes t.begin t.base over t))

-- ADD: the two topmost numbers become their sum
unfoldable pub add : Rule → Thread → Thread
add sum t = adding (sum_noted t) (sum (below t 2) (below t 1)) t

-- "BEGIN: notes its place and the stack height, and empties both logs"; no sum is counted yet
unfoldable pub begin : Thread → Thread
begin t = with_place (t.place + 1) (with_notes t.place t.height 0 (without_logs t))

-- READ: "the value in the write log if there, else in the read log if there, else the table's"
unfoldable pub source_of : Thread → ℕ → Source
source_of t v = cond (member t.writes v) from_writes (cond (member t.reads v) from_reads from_table)

-- the value that READ of v finds there
abbrev pub read_from : Source → List ℤ → Thread → ℕ → ℤ
read_from from_writes table t v = get_or t.writelog v (pos 0)
read_from from_reads table t v = get_or t.readlog v (pos 0)
read_from from_table table t v = get_or table v (pos 0)

-- the table's value "enters the read log", and with it how often commits have written the register
abbrev pub noted : Source → ℕ → ℤ → (count : ℕ) → Thread → Thread
noted from_writes v n k t = t
noted from_reads v n k t = t
noted from_table v n k t = with_logs (with t.reads v) (set t.readlog v n) (set t.readcounts v k) t.writes t.writelog t

-- READ of v: the value is pushed, and from the table it "enters the read log"
unfoldable pub read : Table → ℕ → Thread → Thread
read table v t =
    let source = source_of t v in
    let n = read_from source table.registers t v in
    push n (t.place + 2) (noted source v n (get_or table.counts v 0) t)

-- "WRITE: puts the top of the stack in the write log; the top stays"
unfoldable pub write : ℕ → Thread → Thread
write v t =
    with_place (t.place + 2)
    (with_logs t.reads t.readlog t.readcounts (with t.writes v) (set t.writelog v (below t 1)) t)

-- the thread at a place with a height, no transaction being open: "logs and notes emptied", the cells above the height 0
unfoldable pub closed : (place height : ℕ) → Thread → Thread
closed place height t =
    with_place place
    (with_stack height (take height t.cells ++ replicate (64 - height) (pos 0)) (with_notes 0 0 0 (without_logs t)))

-- document 02 No. 6: "A register is now stale if a commit wrote it after it entered the read log, even with an equal value": its count in the
-- table is no longer the one that was logged
unfoldable pub stale : Thread → Table → ℕ → Bool
stale t table v = member t.reads v && not (eqb (get_or t.readcounts v 0) (get_or table.counts v 0))

-- "walks the registers from 0 up and stops at the first stale one": that register, or 64
unfoldable pub first_stale : (left v : ℕ) → Thread → Table → ℕ
first_stale zero v t table = v
first_stale (suc left) v t table = elim (stale t table v) [ true ↦ v | false ↦ first_stale left (suc v) t table ]

-- "the write log goes into the table"
unfoldable pub overlaid : (left v : ℕ) → Thread → List ℤ → List ℤ
overlaid zero v t rs = rs
overlaid (suc left) v t rs =
    overlaid left (suc v) t (cond (member t.writes v) (set rs v (get_or t.writelog v (pos 0))) rs)

-- "how often commits have written it": once more each register of the write log
unfoldable pub recounted : (left v : ℕ) → Thread → List ℕ → List ℕ
recounted zero v t ns = ns
recounted (suc left) v t ns = recounted left (suc v) t (cond (member t.writes v) (set ns v (suc (get_or ns v 0))) ns)

-- the table with a thread's write log in it, its registers written once more
abbrev pub with_writes : Thread → Table → Table
with_writes t table = record { registers = overlaid 64 0 t table.registers; counts = recounted 64 0 t table.counts }
