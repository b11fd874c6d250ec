-- What the run program prints for its input, as bytes: document 01, "The run program".
use Rattle.std.specs.Prelude.{ℕ, zero, suc, ◌+◌, ◌/◌, ◌%◌, Bool, true, false, cond, ◌||◌, List, [], ◌∷◌, ◌++◌, eqb, ltb, ℤ, pos, negsuc, length, take, drop, get_or}
use Prim.Native.Char.{code}
use Prim.Native.String.{String, [] as none, ◌∷◌ as ◌then◌}
use Rattle.code.specs.Bytes.{compiled}
use Rattle.machine.specs.Answers.{run_of}
use Rattle.machine.specs.Steps.{State, Ran, fresh}
use Rattle.script.specs.Jobs.{Job, number16}
use Rattle.script.specs.Outcome.{Outcome, refused, done, onward}
use Rattle.script.specs.Reader.{read_job}
use Rattle.stm.specs.Events.{Counts, counts_of}
use Rattle.thread.specs.Threads.{exists}
use Rattle.thread.specs.declared.Thread.{Thread}

-- a text's bytes
unfoldable pub ascii : String → List ℕ
ascii none = []
ascii (c then s) = code c ∷ ascii s

-- a number in decimal, of at most so many digits
unfoldable pub digits : (most n : ℕ) → List ℕ
digits zero n = []
digits (suc most) n =
    elim (ltb n 10) [
      | true ↦ (48 + n) ∷ []
      | false ↦ digits most (n / 10) ++ ((48 + n % 10) ∷ [])
    ]

-- a number n has at most n + 1 digits
unfoldable pub decimal : ℕ → List ℕ
decimal n = digits (suc n) n

-- a signed number
unfoldable pub integer : ℤ → List ℕ
integer (pos n) = decimal n
integer (negsuc n) = 45 ∷ decimal (suc n)

-- "`steps` are picks not idle, `commits` those that took effect, `back` those sent back"; document 02 No. 2: "From now on the listing's first
-- line ends in ` over N`"
unfoldable pub counts_line : Counts → List ℕ
counts_line c =
    ascii "steps " ++
    (decimal c.steps ++
    (ascii " idle " ++
    (decimal c.idle ++
    (ascii " commits " ++
    (decimal c.commits ++
    (ascii " back " ++
    (decimal c.back ++
    (ascii " over " ++
    (decimal c.over ++ ascii "\n")))))))))

-- "`done` is followed by the result, and an unfinished one prints `thread N open`"; "its result is the one number left on its stack"
unfoldable pub thread_line : ℕ → Thread → List ℕ
thread_line i t =
    ascii "thread " ++
    (decimal i ++
    cond (eqb t.place t.end) (ascii " done " ++ (integer (get_or t.cells 0 (pos 0)) ++ ascii "\n")) (ascii " open\n"))

-- "Threads ascend": the threads that exist, the first record being that of thread i
unfoldable pub thread_lines : ℕ → List Thread → List ℕ
thread_lines i [] = []
thread_lines i (t ∷ ts) = cond (exists t) (thread_line i t) [] ++ thread_lines (suc i) ts

-- whether a number is 0
abbrev pub is_zero : ℤ → Bool
is_zero (pos n) = eqb n 0
is_zero (negsuc n) = false

-- the line of register v with the value n, none if that is 0
unfoldable pub register_line : ℕ → ℤ → List ℕ
register_line v n = cond (is_zero n) [] (ascii "register " ++ (decimal v ++ (ascii " " ++ (integer n ++ ascii "\n"))))

-- "Registers not 0 follow, ascending": the first one being register v
unfoldable pub register_lines : ℕ → List ℤ → List ℕ
register_lines v [] = []
register_lines v (n ∷ ns) = register_line v n ++ register_lines (suc v) ns

-- the listing of a run
unfoldable pub listing : Counts → State → List ℕ
listing c s = counts_line c ++ (thread_lines 0 s.threads ++ register_lines 0 s.registers)

-- "a refusal prints `refused N at P`"
unfoldable pub refusal_line : (number place : ℕ) → List ℕ
refusal_line number place = ascii "refused " ++ (decimal number ++ (ascii " at " ++ (decimal place ++ ascii "\n")))

-- the listing of a run, or the line of its refusal
unfoldable pub printed : Outcome Ran → List ℕ
printed (refused number place) = refusal_line number place
printed (done r) = listing (counts_of r.events) r.state

-- a job's code run from a fresh state: the job's refusal, then the run's
unfoldable pub job_run : (job picks : List ℕ) → Outcome Ran
job_run job picks = onward (read_job job) (λ (j : Job). run_of (compiled j) (fresh (compiled j)) picks)

-- "Standard input: 16-bit job length, the job, then picks. Input below 2 bytes or shorter than that length prints `refused 1 at` and the
-- input's length." (That length and its own two bytes.)
unfoldable pub listed : List ℕ → List ℕ
listed input =
    let n = number16 input 0 in
    cond
    (ltb (length input) 2 || ltb (length input) (2 + n))
    (refusal_line 1 (length input))
    (printed (job_run (take n (drop 2 input)) (drop (2 + n) input)))
