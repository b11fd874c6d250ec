-- For the proof of `Survey::with` only: what a survey keeps of each record. Nobody has to believe it: `survey-fits` (proofs/Exact) ties it to `fits`.
use Rattle.std.specs.Prelude.{ℕ, zero, suc, ◌+◌, Bool, true, false, cond, not, ◌&&◌, ◌||◌, List, [], ◌∷◌, eqb, ltb, ℤ, length, set, replicate, map}
use Rattle.survey.specs.declared.Row.{Row}
use Rattle.survey.specs.declared.Survey.{Survey}
use Rattle.thread.specs.declared.Thread.{Thread}
use Rattle.thread.specs.InnerStep.{stale_read}
use Rattle.machine.specs.FitTest.{free, uncounted, within_from, all_zero}
use Rattle.word.specs.InnerCount.{saturated}
use Rattle.word.specs.Registers.{member}

-- the numbers of a thread's record, which needs so many COMMITs passed
abbrev pub row_of : Thread → (need : ℕ) → Row
row_of t need = record { start = t.start; end = t.end; place = t.place; height = t.height; begin = t.begin; base = t.base; over = t.over; need = need }

-- no record's
abbrev pub no_row : Row
no_row = record { start = 0; end = 0; place = 0; height = 0; begin = 0; base = 0; over = 0; need = 0 }

-- where each thread's own code starts and ends, and how many COMMITs each record needs
abbrev pub starts_of : List Row → List ℕ
starts_of rows = map (λ (r : Row). r.start) rows

abbrev pub ends_of : List Row → List ℕ
ends_of rows = map (λ (r : Row). r.end) rows

abbrev pub needs_of : List Row → List ℕ
needs_of rows = map (λ (r : Row). r.need) rows

-- no record came yet
unfoldable pub empty_survey : Survey
empty_survey = record { rows = replicate 16 no_row; count = 0; seen = 0; good = true }

-- no state with these records fits any code
unfoldable pub unfit_to : Survey → Survey
unfit_to s = record { rows = s.rows; count = s.count; seen = s.seen; good = false }

-- a record of no thread came
unfoldable pub pass_to : Survey → Survey
pass_to s = record { rows = s.rows; count = s.count; seen = s.seen + 1; good = s.good }

-- a thread's record came, which needs so many COMMITs passed
unfoldable pub put_to : Survey → Thread → (need : ℕ) → Survey
put_to s t need = record { rows = set s.rows s.seen (row_of t need); count = s.count + 1; seen = s.seen + 1; good = s.good }

-- a test holds at each place from v on, `left` of them being left
unfoldable pub every : (left v : ℕ) → (ℕ → Bool) → Bool
every zero v good = true
every (suc left) v good = good v && every left (suc v) good

-- the numbers from a height on are 0
unfoldable pub zero_from : (height : ℕ) → List ℤ → Bool
zero_from height ns = free (λ n. ltb n height) ns

-- the logs are empty outside a transaction, and what is not in use is 0
unfoldable pub tidy : Thread → Bool
tidy t =
    (not (eqb t.begin 0) || (eqb t.reads 0 && eqb t.writes 0))
    && (free (member t.reads) t.readlog
    && (free (member t.writes) t.writelog
    && (zero_from t.height t.cells && uncounted (member t.reads) t.readcounts)))

-- the greatest number of 64 bits
abbrev pub greatest : ℕ
greatest = 18446744073709551615

-- the fewest COMMITs passed with which a record fits, by whether its logged counts are not above the table's, and whether a read is stale; the greatest
-- number where none is enough
unfoldable pub needed_in : (low stale : Bool) (backs : ℕ) → ℕ
needed_in low stale backs = cond low (cond stale (saturated backs 1) backs) greatest

-- the same of a record
unfoldable pub need_in : (counts : List ℕ) → Thread → ℕ
need_in counts t =
    cond (eqb (length counts) 64)
    (needed_in (within_from 64 0 t.readcounts counts) (stale_read counts t) t.backs)
    t.backs

-- the next record
unfoldable pub with_to : Survey → (counts : List ℕ) → Thread → Survey
with_to s counts t =
    cond
    s.good
    (cond
    (ltb s.seen 16)
    (cond
    (eqb t.start 0)
    (cond (all_zero t) (pass_to s) (unfit_to s))
    (cond (eqb s.count s.seen) (cond (tidy t) (put_to s t (need_in counts t)) (unfit_to s)) (unfit_to s)))
    (unfit_to s))
    s

-- more records, one after the other
unfoldable pub survey_from : Survey → (counts : List ℕ) → List Thread → Survey
survey_from s counts [] = s
survey_from s counts (t ∷ ts) = survey_from (with_to s counts t) counts ts

-- the survey of these records, with these counts
unfoldable pub survey_of : (counts : List ℕ) → List Thread → Survey
survey_of counts ts = survey_from empty_survey counts ts
