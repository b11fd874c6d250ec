-- `word::insert` meets its contract. Assumes nothing.
use mathlib.Core.Path.{sym, ap, ◌∙◌}
use native.Mathlib.Omega.{arith}
use lib.Bits.{bit_or}
use Rattle.word.proofs.Sets.{mask, with_low, with_high}
use Rattle.word.proofs.insert.Goals as goal

pub returns-then-register-lt64 : goal.returns-then-register-lt64
returns-then-register-lt64 c = ap (bit_or c.args.set) (mask c.args.register (omega arith)) ∙ sym (with_low _ _ (omega arith))

pub returns-else-register-lt64 : goal.returns-else-register-lt64
returns-else-register-lt64 c = sym (with_high _ _ (omega arith))
