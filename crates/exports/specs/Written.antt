-- The answer of a call that writes to a lent output, in numbers, as the answers of `fresh`, `step` and `run` are: refusal 0 is none.
use Rattle.std.specs.Prelude.{ℕ, List}
use Rattle.delivery.specs.Delivered.{Delivered}
use Rattle.exports.specs.declared.Written as numbers
use Rattle.script.specs.Outcome.{Outcome, refused, done}

-- the papers' number and place, or the length of the result
abbrev pub writing : Outcome ℕ → numbers.Written
writing (done length) = record { refusal = 0; place = 0; length = length }
writing (refused number place) = record { refusal = number; place = place; length = 0 }

-- what such a call returns: its answer, and the output
pub record Returned : Type 0 where
  pub reply : numbers.Written
  pub output : List ℕ

-- the answer in numbers, and the output, of what such a call came to
abbrev pub written : Delivered → Returned
written d = record { reply = writing d.answer; output = d.output }
