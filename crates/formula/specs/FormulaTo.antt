-- What a formula comes to: the answer, and the whole output.
use Rattle.std.specs.Prelude.{ℕ, List}
use Rattle.delivery.specs.Delivered.{Delivered, delivered}
use Rattle.script.specs.Bytes.{job_bytes}
use Rattle.script.specs.Outcome.{Outcome, onward, mapped}
use Rattle.script.specs.Reader.{read_job}
use Rattle.grammar.specs.Reader.{read_text}

-- a job that the job reader accepts, or its refusal
abbrev pub if_accepted : List ℕ → Outcome (List ℕ)
if_accepted job = mapped (λ _. job) (read_job job)

-- document 02 No. 7: "15, not a script, before all others", then "The job refusals follow with places in the job it would make"; "the bytes are that tree's
-- job". Its 16-bit count is the tree's: a text of at most 32,768 bytes has no more nodes than bytes
unfoldable pub formula_of : List ℕ → Outcome (List ℕ)
formula_of text = onward (read_text text) (λ p. if_accepted (job_bytes 1 p))

-- the answer, and the whole output
unfoldable pub formula_to : (text before : List ℕ) → Delivered
formula_to text before = delivered (formula_of text) before
