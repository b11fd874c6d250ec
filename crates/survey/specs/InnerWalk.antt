-- For the proof of `Survey::fits` only: the walks, and what they ask for. Nobody has to believe it: `survey-fits` (proofs/Exact) ties it to `fits`.
use Rattle.std.specs.Prelude.{ℕ, zero, suc, ◌+◌, ◌-◌, Bool, true, false, cond, ◌&&◌, ◌||◌, List, [], ◌∷◌, eqb, leb, ltb, length, get_or}
use Rattle.std.proofs.Math.Option.{Option, none, some}
use Rattle.std.specs.Prelude as std
use Rattle.survey.specs.declared.Survey.{Survey}
use Rattle.survey.specs.InnerRecords.{no_row, starts_of, ends_of, needs_of}
use Rattle.survey.specs.declared.Row.{Row}
use Rattle.survey.specs.declared.Asked.{Asked}
use Rattle.survey.specs.declared.Walk.{Walk}
use Rattle.survey.specs.declared.Verdict.{Verdict}
use Rattle.ops.specs.declared.Op.{Op}
use Rattle.ops.specs.declared.Op.TheVariants as op
use Rattle.machine.specs.Steps.{Child}
use Rattle.machine.specs.Fits.{Walked, unmoved}
use Rattle.machine.specs.FitTest.{walk, same, at_most_from}
use Rattle.word.specs.InnerCount.{saturated}
use Rattle.word.specs.Registers.{member, with}

-- ---- a FORK that was passed

-- record i's own code
abbrev pub own_at : (starts ends : List ℕ) → ℕ → Child
own_at starts ends i = record { start = get_or starts i 0; end = get_or ends i 0 }

-- record i is one that is asked for, or not
unfoldable pub noted : Asked → (i : ℕ) (hit : Bool) → Asked
noted a i hit = cond hit (record { number = a.number + 1; asked = with a.asked i }) a

-- the records from i on
unfoldable pub asks : (left i : ℕ) (starts ends : List ℕ) → Child → Asked → Asked
asks zero i starts ends c a = a
asks (suc left) i starts ends c a = asks left (suc i) starts ends c (noted a i (same (own_at starts ends i) c))

-- the records whose own code this is
unfoldable pub asked_for : (starts ends : List ℕ) → Child → (asked : ℕ) → Asked
asked_for starts ends c asked = asks 16 0 starts ends c (record { number = 0; asked = asked })

-- ---- one instruction of a walk

-- a walk, and whether it has come to the thread's place so far, each FORK passed having exactly one thread
pub record Trail : Type 0 where
  pub place : ℕ
  pub height : ℕ
  pub begin : ℕ
  pub base : ℕ
  pub adds : ℕ
  pub commits : ℕ
  pub asked : ℕ
  pub good : Bool

-- a walk that has come so far
abbrev pub going : Walk → Trail
going w =
    record { place = w.place; height = w.height; begin = w.begin; base = w.base; adds = w.adds; commits = w.commits; asked = w.asked; good = true }

-- the walk, if it has come so far
abbrev pub walk_in : Trail → std.Option Walk
walk_in t =
    cond
    t.good
    (std.Some (record { place = t.place; height = t.height; begin = t.begin; base = t.base; adds = t.adds; commits = t.commits; asked = t.asked }))
    std.None

-- the thread's place is not reached
unfoldable pub lost_walk : Trail
lost_walk = record { place = 0; height = 0; begin = 0; base = 0; adds = 0; commits = 0; asked = 0; good = false }

-- what goes on at a place, unless that is behind the target
abbrev pub up_to : (target place : ℕ) → Trail → Trail
up_to target place w = cond (ltb target place) lost_walk w

-- PUSH and READ: so many bytes further, and one number more on the stack
unfoldable pub rose : Trail → (size : ℕ) → Trail
rose w size =
    record { place = w.place + size; height = w.height + 1; begin = w.begin; base = w.base; adds = w.adds; commits = w.commits; asked = w.asked; good = true }

-- the same, if that is not behind the target
unfoldable pub rise_to : Trail → (target size : ℕ) → Trail
rise_to w target size = up_to target (w.place + size) (rose w size)

-- the ADDs since the BEGIN of an open transaction, one more; 0 if none is open
unfoldable pub adds_after : (begin adds : ℕ) → ℕ
adds_after begin adds = cond (eqb begin 0) 0 (adds + 1)

-- ADD
unfoldable pub fall_to : Trail → Trail
fall_to w =
    record {
      place = w.place + 1;
      height = w.height - 1;
      begin = w.begin;
      base = w.base;
      adds = adds_after w.begin w.adds;
      commits = w.commits;
      asked = w.asked;
      good = true;
    }

-- WRITE
unfoldable pub stay_to : Trail → (target : ℕ) → Trail
stay_to w target =
    up_to target (w.place + 2)
    (record { place = w.place + 2; height = w.height; begin = w.begin; base = w.base; adds = w.adds; commits = w.commits; asked = w.asked; good = true })

-- BEGIN and COMMIT: other notes, and so many COMMITs passed
unfoldable pub note_to : Trail → (begin base commits : ℕ) → Trail
note_to w begin base commits =
    record { place = w.place + 1; height = w.height; begin = begin; base = base; adds = 0; commits = commits; asked = w.asked; good = true }

-- FORK: exactly one record has its child code
unfoldable pub forked : Trail → (size : ℕ) → Asked → Trail
forked w size a =
    cond
    (eqb a.number 1)
    (record { place = w.place + 3 + size; height = w.height + 1; begin = w.begin; base = w.base; adds = w.adds; commits = w.commits; asked = a.asked; good = true })
    lost_walk

-- the same, with the records whose own code it is, if the parent does not go on behind the target
unfoldable pub fork_to : (starts ends : List ℕ) → Trail → (target size : ℕ) → Trail
fork_to starts ends w target size =
    up_to target (w.place + 3 + size)
    (forked w size (asked_for starts ends (record { start = w.place + 3; end = w.place + 3 + size }) w.asked))

-- the instruction at the walk's place, which is before the target
unfoldable pub step_to : (starts ends : List ℕ) (target : ℕ) → Trail → Op → Trail
step_to starts ends target w (op.Push n) = rise_to w target 5
step_to starts ends target w op.Add = fall_to w
step_to starts ends target w (op.Read v) = rise_to w target 2
step_to starts ends target w (op.Write v) = stay_to w target
step_to starts ends target w op.Begin = note_to w w.place w.height w.commits
step_to starts ends target w op.Commit = note_to w 0 0 (w.commits + 1)
step_to starts ends target w (op.Fork size) = fork_to starts ends w target size
step_to starts ends target w op.Foreign = lost_walk

-- ---- a whole walk, told by what the definition finds

-- the records that the FORKs passed ask for, the last FORK first
unfoldable pub marks : (starts ends : List ℕ) → List Child → (asked : ℕ) → ℕ
marks starts ends [] asked = asked
marks starts ends (c ∷ cs) asked = (asked_for starts ends c (marks starts ends cs asked)).asked

-- each of these FORKs has exactly one thread
unfoldable pub ones : (starts ends : List ℕ) → List Child → (asked : ℕ) → Bool
ones starts ends [] asked = true
ones starts ends (c ∷ cs) asked =
    eqb (asked_for starts ends c (marks starts ends cs asked)).number 1 && ones starts ends cs asked

-- where a walk stands that the definition finds at a place
unfoldable pub walk_of : (starts ends : List ℕ) (asked place : ℕ) → Walked → Trail
walk_of starts ends asked place w =
    record {
      place = place;
      height = w.height;
      begin = w.begin;
      base = w.base;
      adds = w.adds;
      commits = w.commits;
      asked = marks starts ends w.children asked;
      good = true;
    }

-- what the definition finds: the thread's place with each FORK passed having its thread, or not
unfoldable pub told : (starts ends : List ℕ) (asked target : ℕ) → Option Walked → Trail
told starts ends asked target none = lost_walk
told starts ends asked target (some w) =
    cond (ones starts ends w.children asked) (walk_of starts ends asked target w) lost_walk

-- from a thread's start to its place
unfoldable pub walk_from : (bytes starts ends : List ℕ) (start end target asked : ℕ) → Trail
walk_from bytes starts ends start end target asked =
    told starts ends asked target (walk (suc target) bytes end target start unmoved)

-- ---- the threads

-- what the threads so far ask for and have passed, and whether they fit the code
pub record Finding : Type 0 where
  pub asked : ℕ
  pub commits : ℕ
  pub good : Bool

-- of threads that fit
abbrev pub known : Verdict → Finding
known v = record { asked = v.asked; commits = v.commits; good = true }

-- the verdict, if they fit
abbrev pub verdict_in : Finding → std.Option Verdict
verdict_in v = cond v.good (std.Some (record { asked = v.asked; commits = v.commits })) std.None

-- the record has what the walk comes to
unfoldable pub agreeing : Trail → Row → Bool
agreeing w r = w.good && (eqb w.height r.height && (eqb w.begin r.begin && (eqb w.base r.base && leb r.over w.adds)))

-- no thread was judged yet
unfoldable pub first_verdict : Finding
first_verdict = record { asked = 0; commits = 0; good = true }

-- a thread does not fit the code
unfoldable pub unfit : Finding
unfit = record { asked = 0; commits = 0; good = false }

-- a thread whose walk this is, so many COMMITs being passed by those before it
unfoldable pub judged_by : (commits : ℕ) → Row → Trail → Finding
judged_by commits r w = cond (agreeing w r) (record { asked = w.asked; commits = saturated commits w.commits; good = true }) unfit

-- one record more: a record of no thread changes nothing, nor does any behind a thread that does not fit
unfoldable pub judge_to : (bytes starts ends : List ℕ) → Row → Finding → Finding
judge_to bytes starts ends r v =
    cond
    v.good
    (cond
    (eqb r.start 0)
    v
    (judged_by v.commits r (walk_from bytes starts ends r.start r.end r.place v.asked)))
    v

-- the numbers of record i
abbrev pub row_at : Survey → ℕ → Row
row_at s i = get_or s.rows i no_row

-- the records from i on
unfoldable pub judge_from : (bytes starts ends : List ℕ) (rows : ℕ → Row) (left i : ℕ) → Finding → Finding
judge_from bytes starts ends rows zero i v = v
judge_from bytes starts ends rows (suc left) i v = judge_from bytes starts ends rows left (suc i) (judge_to bytes starts ends (rows i) v)

-- all of them
unfoldable pub judge_all : (bytes : List ℕ) → Survey → Finding
judge_all bytes s = judge_from bytes (starts_of s.rows) (ends_of s.rows) (row_at s) 16 0 first_verdict

-- each thread from i on was asked for
unfoldable pub all_asked : (left i : ℕ) (starts : List ℕ) (asked : ℕ) → Bool
all_asked zero i starts asked = true
all_asked (suc left) i starts asked = (eqb (get_or starts i 0) 0 || member asked i) && all_asked left (suc i) starts asked

-- each thread fits, and each but the first was asked for
abbrev pub all_judged : Finding → (starts : List ℕ) → Bool
all_judged v starts = v.good && all_asked 15 1 starts v.asked

-- so many COMMITs passed are enough for each record from i on
unfoldable pub all_met : (left i : ℕ) (needs : List ℕ) (commits : ℕ) → Bool
all_met zero i needs commits = true
all_met (suc left) i needs commits = leb (get_or needs i 0) commits && all_met left (suc i) needs commits

-- the whole test: 16 records, 64 registers, thread 0 with the whole code, and the threads, beside so many COMMITs passed by another job's threads
unfoldable pub survey_fits : Survey → (bytes : List ℕ) (registers : ℕ) (counts : List ℕ) (others : ℕ) → Bool
survey_fits s bytes registers counts others =
    s.good
    && (eqb s.seen 16
    && (eqb registers 64
    && (eqb (length counts) 64
    && (same (own_at (starts_of s.rows) (ends_of s.rows) 0) (record { start = 5; end = length bytes })
    && (all_judged (judge_all bytes s) (starts_of s.rows)
    && (all_met 16 0 (needs_of s.rows) (saturated others (judge_all bytes s).commits) && at_most_from 64 0 counts (saturated others (judge_all bytes s).commits)))))))
