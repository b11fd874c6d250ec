-- The answer of `op_at`.
use Rattle.ops.specs.declared.Op.{Op}
use Rattle.ops.specs.declared.Op.TheVariants as op
use Rattle.code.specs.Ops as code
use Rattle.script.specs.Outcome.{Outcome, refused, done}

-- an instruction of the definitions as the one that is declared
abbrev pub show_op : code.Op → Op
show_op (code.push n) = op.Push n
show_op code.add = op.Add
show_op (code.read v) = op.Read v
show_op (code.write v) = op.Write v
show_op code.begin = op.Begin
show_op code.commit = op.Commit
show_op (code.fork size) = op.Fork size

-- where there is no instruction, `Foreign`
abbrev pub shown_op : Outcome code.Op → Op
shown_op (refused number place) = op.Foreign
shown_op (done o) = show_op o
