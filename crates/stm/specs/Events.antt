-- What a pick does, and what is counted of it: document 01, "One pick, one step" and "Runs and turns".
use Rattle.std.specs.Prelude.{ℕ, suc, ◌+◌, Bool, true, false, cond, not, ◌&&◌, List, [], ◌∷◌, eqb}

-- where READ finds its value: "in the write log if there, else in the read log if there, else the table's"
pub data Source : Type 0 where
  from_writes from_reads from_table : Source

-- what a pick did; a sum says whether a transaction was open, a send-back its first stale register
pub data Event : Type 0 where
  idle : Event
  pushed : Event
  summed : (inside : Bool) → Event
  forked : Event
  begun : Event
  looked : Source → Event
  wrote : Event
  committed : Event
  sent_back : (register : ℕ) → Event

-- an event, its thread, and how many sums it tells of that fell outside the range: document 02 No. 2, "such sums outside transactions and, as
-- noted, in attempts that took effect"
pub record Happened : Type 0 where
  pub thread : ℕ
  pub event : Event
  pub over : ℕ

-- every count is a count over the events
unfoldable pub counted : (Event → Bool) → List Happened → ℕ
counted f [] = 0
counted f (h ∷ hs) = cond (f h.event) (suc (counted f hs)) (counted f hs)

-- what is known of an event by its kind: whether it is idle, a commit, a send-back, a FORK, a turn; its number, in the order of document 02, No. 4,
-- 0 idle, 1 to 9 from push to commit, 10 sent back; and the first stale register of a send-back, else 0. "A pick takes a turn if .. it does an
-- ADD outside a transaction, a FORK, or a COMMIT that takes effect"
pub record Kind : Type 0 where
  pub idle : Bool
  pub commit : Bool
  pub back : Bool
  pub fork : Bool
  pub turn : Bool
  pub number : ℕ
  pub register : ℕ

-- the kind of an event that is not idle
abbrev kind : (commit back fork turn : Bool) (number register : ℕ) → Kind
kind c b f t n r = record { idle = false; commit = c; back = b; fork = f; turn = t; number = n; register = r }

-- the number of a READ, by where it found its value
abbrev read_number : Source → ℕ
read_number from_writes = 5
read_number from_reads = 6
read_number from_table = 7

-- the one table of events; its columns behind idle: commit, back, fork, turn, number, register
abbrev pub kind_of : Event → Kind
kind_of idle = record { idle = true; commit = false; back = false; fork = false; turn = false; number = 0; register = 0 }
kind_of pushed = kind false false false false 1 0
kind_of (summed inside) = kind false false false (not inside) 2 0
kind_of forked = kind false false true true 3 0
kind_of begun = kind false false false false 4 0
kind_of (looked source) = kind false false false false (read_number source) 0
kind_of wrote = kind false false false false 8 0
kind_of committed = kind true false false true 9 0
kind_of (sent_back v) = kind false true false false 10 v

-- the table's columns, one by one: whether an event is idle
abbrev pub is_idle : Event → Bool
is_idle e = (kind_of e).idle

-- whether it is a COMMIT that took effect
abbrev pub is_commit : Event → Bool
is_commit e = (kind_of e).commit

-- whether it is a send-back
abbrev pub is_back : Event → Bool
is_back e = (kind_of e).back

-- whether it is a FORK
abbrev pub is_fork : Event → Bool
is_fork e = (kind_of e).fork

-- whether it is a turn
abbrev pub is_turn : Event → Bool
is_turn e = (kind_of e).turn

-- the order: "the numbers of the threads that took turns in it, pick after pick"
unfoldable pub order : List Happened → List ℕ
order [] = []
order (h ∷ hs) = cond (is_turn h.event) (h.thread ∷ order hs) (order hs)

-- how often thread i was sent back
unfoldable pub backs : ℕ → List Happened → ℕ
backs i [] = 0
backs i (h ∷ hs) = cond (eqb h.thread i && is_back h.event) (suc (backs i hs)) (backs i hs)

-- ---- "`steps` are picks not idle, `commits` those that took effect, `back` those sent back"; "The run reports `over`"
pub record Counts : Type 0 where
  pub steps : ℕ
  pub idle : ℕ
  pub commits : ℕ
  pub back : ℕ
  pub over : ℕ

-- no pick
abbrev pub uncounted : Counts
uncounted = record { steps = 0; idle = 0; commits = 0; back = 0; over = 0 }

-- what one pick adds to the counts
abbrev pub more : Bool → ℕ → ℕ
more b n = cond b (suc n) n

-- the counts with one event more
unfoldable pub tally : Event → (over : ℕ) → Counts → Counts
tally e over c =
    record {
      steps = more (not (is_idle e)) c.steps;
      idle = more (is_idle e) c.idle;
      commits = more (is_commit e) c.commits;
      back = more (is_back e) c.back;
      over = c.over + over;
    }

-- the counts of a list of events
unfoldable pub counts_of : List Happened → Counts
counts_of [] = uncounted
counts_of (h ∷ hs) = tally h.event h.over (counts_of hs)

-- the counts of two lists of picks together
abbrev pub together : Counts → Counts → Counts
together a b =
    record {
      steps = a.steps + b.steps;
      idle = a.idle + b.idle;
      commits = a.commits + b.commits;
      back = a.back + b.back;
      over = a.over + b.over;
    }

-- ---- events as numbers
-- document 02 No. 4's order: 0 idle, 1 to 9 from push to commit, 10 sent back
unfoldable pub event_number : Event → ℕ
event_number e = (kind_of e).number

-- the first stale register of a send-back, else 0
unfoldable pub event_register : Event → ℕ
event_register e = (kind_of e).register

-- 1 if the pick took a turn, else 0
unfoldable pub turn_number : Event → ℕ
turn_number e = more (is_turn e) 0

-- the event of these numbers
unfoldable pub event_of : (number register turn : ℕ) → Event
event_of number register turn =
    cond (eqb number 1) pushed
    (cond (eqb number 2) (summed (eqb turn 0))
    (cond (eqb number 3) forked
    (cond (eqb number 4) begun
    (cond (eqb number 5) (looked from_writes)
    (cond (eqb number 6) (looked from_reads)
    (cond (eqb number 7) (looked from_table)
    (cond (eqb number 8) wrote
    (cond (eqb number 9) committed
    (cond (eqb number 10) (sent_back register) idle)))))))))
