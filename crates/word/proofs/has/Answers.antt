-- `word::has` meets its contract. Assumes nothing.
use Rattle.std.proofs.Common.{arith, sym}
use borrow.Author.Tests.{le-ltb}
use lib.Bits.{and_mask}
use Rattle.word.proofs.Sets.{member_low, member_high}
use Rattle.word.proofs.has.Goals as goal

pub returns-then-register-lt64 : goal.returns-then-register-lt64
returns-then-register-lt64 c = rw (and_mask _ 1) (sym (member_low _ _ (omega arith)))

pub returns-else-register-lt64 : goal.returns-else-register-lt64
returns-else-register-lt64 c = rw (member_high c.args.set _ c.if-register-lt64.false) (le-ltb _ _ c.if-register-lt64.false)
