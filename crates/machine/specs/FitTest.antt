-- The test that decides whether a state fits its code. Nobody has to believe it: `fits_beside_exactly` says that it decides `FitsBeside`, and
-- `fits_exactly` that `fits` decides `Fits`.
use Rattle.std.specs.Prelude.{ℕ, zero, suc, ◌+◌, Bool, true, false, cond, not, ◌&&◌, ◌||◌, List, [], ◌∷◌, ◌++◌, eqb, leb, ltb, ℤ, pos, length, drop, get_or}
use Rattle.std.proofs.Math.Option.{Option, none, some}
use Rattle.std.specs.Int.Signed.{lt_z}
use Rattle.thread.specs.declared.Thread.{Thread}
use Rattle.thread.specs.Threads.{exists, first_stale}
use Rattle.machine.specs.Steps.{State, table_in, thread_at, Child}
use Rattle.machine.specs.Fits.{Walked, unmoved, walk_op, next_place, own_code}
use Rattle.stm.specs.Counted.{Table}
use Rattle.code.specs.Ops.{Op, op_at}
use Rattle.script.specs.Outcome.{Outcome, refused, done}
use Rattle.word.specs.Registers.{member}
use Rattle.word.specs.Registers as registers

-- on with the instruction that is found, or nothing
abbrev pub going_on : Outcome Op → (Op → Option Walked) → Option Walked
going_on (refused number place) f = none
going_on (done op) f = f op

-- along a thread's own code from a place up to a target; `fuel` is more than the places between
unfoldable pub walk : (fuel : ℕ) (bytes : List ℕ) (end target place : ℕ) → Walked → Option Walked
walk zero bytes end target place w = none
walk (suc fuel) bytes end target place w =
    elim (eqb place target) [
      | true ↦ some w
      | false ↦ elim (ltb place end) [
        | true ↦ going_on (op_at (drop place bytes)) (λ op. walk fuel bytes end target (next_place op place) (walk_op op place w))
        | false ↦ none
      ]
    ]

-- along a thread's own code up to its place
unfoldable pub walk_to : List ℕ → Thread → Option Walked
walk_to bytes t = walk (suc t.place) bytes t.end t.place t.start unmoved

-- whether a number is 0
abbrev pub is_zero : ℤ → Bool
is_zero n = not (lt_z n (pos 0) || lt_z (pos 0) n)

-- the numbers from v on for which the test is false are 0, `left` of them being left
unfoldable pub free_from : (left v : ℕ) → (ℕ → Bool) → List ℤ → Bool
free_from zero v marked ns = true
free_from (suc left) v marked ns = (marked v || is_zero (get_or ns v (pos 0))) && free_from left (suc v) marked ns

-- so of all 64
abbrev pub free : (ℕ → Bool) → List ℤ → Bool
free marked ns = free_from 64 0 marked ns

-- a count that is not marked is 0, from v on, `left` of them being left
unfoldable pub uncounted_from : (left v : ℕ) → (ℕ → Bool) → List ℕ → Bool
uncounted_from zero v marked ns = true
uncounted_from (suc left) v marked ns = (marked v || eqb (get_or ns v 0) 0) && uncounted_from left (suc v) marked ns

-- the same of all 64 counts
abbrev pub uncounted : (ℕ → Bool) → List ℕ → Bool
uncounted marked ns = uncounted_from 64 0 marked ns

-- no count is above the other list's, from v on, `left` of them being left
unfoldable pub within_from : (left v : ℕ) → List ℕ → List ℕ → Bool
within_from zero v ns ms = true
within_from (suc left) v ns ms = leb (get_or ns v 0) (get_or ms v 0) && within_from left (suc v) ns ms

-- no count is above a number, from v on, `left` of them being left
unfoldable pub at_most_from : (left v : ℕ) → List ℕ → (most : ℕ) → Bool
at_most_from zero v ns most = true
at_most_from (suc left) v ns most = leb (get_or ns v 0) most && at_most_from left (suc v) ns most

-- whether height, notes and logs are such as the walk leaves
abbrev pub agrees_with : Thread → Option Walked → Bool
agrees_with t none = false
agrees_with t (some w) =
    eqb t.height w.height
    && (eqb t.begin w.begin
    && (eqb t.base w.base && (leb t.over w.adds && (not (eqb w.begin 0) || (eqb t.reads registers.none && eqb t.writes registers.none)))))

-- a thread's record
unfoldable pub placed : List ℕ → Thread → Bool
placed bytes t =
    agrees_with t (walk_to bytes t)
    && (free (member t.reads) t.readlog
    && (free (member t.writes) t.writelog
    && (free (λ n. ltb n t.height) t.cells && uncounted (member t.reads) t.readcounts)))

-- a record of no thread
unfoldable pub all_zero : Thread → Bool
all_zero t =
    eqb t.start 0
    && (eqb t.end 0
    && (eqb t.place 0
    && (eqb t.height 0
    && (eqb t.begin 0
    && (eqb t.base 0
    && (eqb t.over 0
    && (eqb t.reads 0
    && (eqb t.writes 0
    && (eqb t.rule 0
    && (eqb t.backs 0
    && (free (λ n. false) t.cells
    && (free (λ n. false) t.readlog
    && (free (λ n. false) t.writelog && uncounted (λ v. false) t.readcounts)))))))))))))

-- threads first, each placed; then records of no thread only
unfoldable pub none_behind : List Thread → Bool
none_behind [] = true
none_behind (t ∷ ts) = all_zero t && none_behind ts

-- the records from one on: a thread is placed and goes before the others, else no thread is behind
unfoldable pub in_front : List ℕ → List Thread → Bool
in_front bytes [] = true
in_front bytes (t ∷ ts) = elim (exists t) [ true ↦ placed bytes t && in_front bytes ts | false ↦ none_behind (t ∷ ts) ]

-- whether two child codes are the same
abbrev pub same : Child → Child → Bool
same a b = eqb a.start b.start && eqb a.end b.end

-- the child codes of the FORKs that threads have passed
abbrev pub children_of : Option Walked → List Child
children_of none = []
children_of (some w) = w.children

-- of all threads
unfoldable pub passed_by : List ℕ → List Thread → List Child
passed_by bytes [] = []
passed_by bytes (t ∷ ts) = cond (exists t) (children_of (walk_to bytes t) ++ passed_by bytes ts) (passed_by bytes ts)

-- whether a child code is one of a list
unfoldable pub among : Child → List Child → Bool
among c [] = false
among c (d ∷ ds) = same c d || among c ds

-- each thread's own code is among these
unfoldable pub all_among : List Child → List Thread → Bool
all_among cs [] = true
all_among cs (t ∷ ts) = (not (exists t) || among (own_code t) cs) && all_among cs ts

-- how many threads have this code
unfoldable pub threads_of : Child → List Thread → ℕ
threads_of c [] = 0
threads_of c (t ∷ ts) = cond (exists t && same c (own_code t)) (suc (threads_of c ts)) (threads_of c ts)

-- each of these child codes has one thread
unfoldable pub one_each : List Child → List Thread → Bool
one_each [] ts = true
one_each (c ∷ cs) ts = eqb (threads_of c ts) 1 && one_each cs ts

-- the COMMITs passed by all threads
abbrev pub commits_of : Option Walked → ℕ
commits_of none = 0
commits_of (some w) = w.commits

-- the COMMITs passed by all threads of a list
unfoldable pub commits_passed : List ℕ → List Thread → ℕ
commits_passed bytes [] = 0
commits_passed bytes (t ∷ ts) = cond (exists t) (commits_of (walk_to bytes t)) 0 + commits_passed bytes ts

-- the fewest COMMITs passed with which a record fits: its number of send-backs, and one more if it has a stale read
unfoldable pub needs : Table → Thread → ℕ
needs table t = cond (ltb (first_stale 64 0 t table) 64) (suc t.backs) t.backs

-- so many COMMITs passed are enough for every record
unfoldable pub all_tallied : (passed : ℕ) → Table → List Thread → Bool
all_tallied passed table [] = true
all_tallied passed table (t ∷ ts) = (leb (needs table t) passed && within_from 64 0 t.readcounts table.counts) && all_tallied passed table ts

-- beside so many COMMITs passed by another job's threads
unfoldable pub fits_beside : (others : ℕ) → List ℕ → State → Bool
fits_beside others bytes s =
    eqb (length s.threads) 16
    && (eqb (length s.registers) 64
    && (eqb (length s.counts) 64
    && (same (own_code (thread_at s 0)) (record { start = 5; end = length bytes })
    && (in_front bytes s.threads
    && (all_among (passed_by bytes s.threads) (drop 1 s.threads)
    && (one_each (passed_by bytes s.threads) s.threads
    && (all_tallied (others + commits_passed bytes s.threads) (table_in s) s.threads
    && at_most_from 64 0 s.counts (others + commits_passed bytes s.threads))))))))

-- alone
unfoldable pub fits : List ℕ → State → Bool
fits bytes s = fits_beside 0 bytes s
