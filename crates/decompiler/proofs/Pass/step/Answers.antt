-- `decompiler::Pass::step` meets its contract: by the instruction. Assumes nothing.
use Prim.Native.Nat.{ℕ}
use mathlib.Core.Path.{◌≡◌, refl, sym, ap, ◌∙◌}
use Rattle.decompiler.specs.declared.Opcode.{Opcode}
use Rattle.decompiler.specs.Opcodes.{opcode_number}
use native.Mathlib.Omega.{arith}
use Rattle.decompiler.proofs.Turns.{open_few, found_at, no_other, push_fits, push_turn, add_fits, add_turn, read_fits, read_turn, write_fits, write_turn, begin_fits, begin_turn, commit_fits, commit_turn, fork_fits, fork_turn, close_fits, close_turn, walked_as}
use Rattle.decompiler.proofs.Pass.step.Goals as goal

byte_is : {b : ℕ} {k l : Opcode} → opcode_number k ≡ b → k ≡ l → b ≡ opcode_number l
byte_is e f = sym e ∙ ap opcode_number f

pub is_at_end-requires : goal.is_at_end-requires
is_at_end-requires c = open_few c.requires.walk.stands

pub close-requires : goal.close-requires
close-requires c = close_fits c.requires.walk.stands (sym c.is_at_end.ensures ∙ c.if-is_at_end.true)

pub returns-then-is_at_end : goal.returns-then-is_at_end
returns-then-is_at_end c = λ head before p w. walked_as (close_turn w.stands (sym c.is_at_end.ensures ∙ c.if-is_at_end.true)) c.close.ensures refl

pub push-requires : goal.push-requires
push-requires c = push_fits c.requires.walk.stands (found_at c.requires.walk.stands (sym c.is_at_end.ensures ∙ c.if-is_at_end.false) c.requires.more 1 (byte_is c.in-Ok.ensures c.in-Push.is))

pub add-requires : goal.add-requires
add-requires c = add_fits c.requires.walk.stands (found_at c.requires.walk.stands (sym c.is_at_end.ensures ∙ c.if-is_at_end.false) c.requires.more 2 (byte_is c.in-Ok.ensures c.in-Add.is)) c.requires.more

pub read-requires : goal.read-requires
read-requires c = read_fits c.requires.walk.stands (found_at c.requires.walk.stands (sym c.is_at_end.ensures ∙ c.if-is_at_end.false) c.requires.more 3 (byte_is c.in-Ok.ensures c.in-Read.is))

pub write-requires : goal.write-requires
write-requires c = write_fits c.requires.walk.stands (found_at c.requires.walk.stands (sym c.is_at_end.ensures ∙ c.if-is_at_end.false) c.requires.more 4 (byte_is c.in-Ok.ensures c.in-Write.is))

pub begin-requires : goal.begin-requires
begin-requires c = begin_fits c.requires.walk.stands (found_at c.requires.walk.stands (sym c.is_at_end.ensures ∙ c.if-is_at_end.false) c.requires.more 5 (byte_is c.in-Ok.ensures c.in-Begin.is)) c.requires.more

pub merge-requires : goal.merge-requires
merge-requires c = let m = commit_fits c.requires.walk.stands (found_at c.requires.walk.stands (sym c.is_at_end.ensures ∙ c.if-is_at_end.false) c.requires.more 6 (byte_is c.in-Ok.ensures c.in-Commit.is)) c.requires.more in omega arith

pub fork-requires-clause-room : goal.fork-requires-clause-room
fork-requires-clause-room c = (fork_fits c.requires.walk.stands (found_at c.requires.walk.stands (sym c.is_at_end.ensures ∙ c.if-is_at_end.false) c.requires.more 7 (byte_is c.in-Ok.ensures c.in-Fork.is))).0

pub fork-requires-clause-few : goal.fork-requires-clause-few
fork-requires-clause-few c = (fork_fits c.requires.walk.stands (found_at c.requires.walk.stands (sym c.is_at_end.ensures ∙ c.if-is_at_end.false) c.requires.more 7 (byte_is c.in-Ok.ensures c.in-Fork.is))).1

pub returns-in-Push : goal.returns-in-Push
returns-in-Push c = λ head before p w. walked_as (push_turn w.stands (found_at w.stands (sym c.is_at_end.ensures ∙ c.if-is_at_end.false) c.requires.more 1 (byte_is c.in-Ok.ensures c.in-Push.is))) c.push.ensures.state c.push.ensures.output

pub returns-in-Add : goal.returns-in-Add
returns-in-Add c = λ head before p w. walked_as (add_turn w.stands (found_at w.stands (sym c.is_at_end.ensures ∙ c.if-is_at_end.false) c.requires.more 2 (byte_is c.in-Ok.ensures c.in-Add.is)) c.requires.more) c.add.ensures.state c.add.ensures.output

pub returns-in-Read : goal.returns-in-Read
returns-in-Read c = λ head before p w. walked_as (read_turn w.stands (found_at w.stands (sym c.is_at_end.ensures ∙ c.if-is_at_end.false) c.requires.more 3 (byte_is c.in-Ok.ensures c.in-Read.is))) c.read.ensures.state c.read.ensures.output

pub returns-in-Write : goal.returns-in-Write
returns-in-Write c = λ head before p w. walked_as (write_turn w.stands (found_at w.stands (sym c.is_at_end.ensures ∙ c.if-is_at_end.false) c.requires.more 4 (byte_is c.in-Ok.ensures c.in-Write.is))) c.write.ensures.state c.write.ensures.output

pub returns-in-Begin : goal.returns-in-Begin
returns-in-Begin c = λ head before p w. walked_as (begin_turn w.stands (found_at w.stands (sym c.is_at_end.ensures ∙ c.if-is_at_end.false) c.requires.more 5 (byte_is c.in-Ok.ensures c.in-Begin.is)) c.requires.more) c.begin.ensures.state c.begin.ensures.output

pub returns-in-Commit : goal.returns-in-Commit
returns-in-Commit c = λ head before p w. walked_as (commit_turn w.stands (found_at w.stands (sym c.is_at_end.ensures ∙ c.if-is_at_end.false) c.requires.more 6 (byte_is c.in-Ok.ensures c.in-Commit.is)) c.requires.more) c.merge.ensures refl

pub returns-in-Fork : goal.returns-in-Fork
returns-in-Fork c = λ head before p w. walked_as (fork_turn w.stands (found_at w.stands (sym c.is_at_end.ensures ∙ c.if-is_at_end.false) c.requires.more 7 (byte_is c.in-Ok.ensures c.in-Fork.is))) c.fork.ensures.state c.fork.ensures.output

pub returns-in_default : goal.returns-in_default
returns-in_default c = λ head before p w.
    let k = c.in_default.ensures in
    absurd (no_other w.stands (sym c.is_at_end.ensures ∙ c.if-is_at_end.false) c.requires.more (omega (arith, k)) (omega (arith, k)) (omega (arith, k)) (omega (arith, k)) (omega (arith, k)) (omega (arith, k)) (omega (arith, k)))
