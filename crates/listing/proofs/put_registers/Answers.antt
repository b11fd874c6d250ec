-- `listing::put_registers` meets its contract. Assumes nothing.
use Rattle.std.proofs.Common.{◌++◌, sym, ap, ◌∙◌, append-nil, arith, rules, to_z-of_z, w32}
use Rattle.listing.proofs.Lines.{registers_end, register_step}
use Rattle.listing.proofs.put_registers.Goals as goal

pub loop-v-preserved : goal.loop-v-preserved
loop-v-preserved c = (
  omega (arith, c.put_register.ensures.bound, c.loop-v.invariant.0),
  register_step c.args.page.now c.loop-v.page _ c.loop-v.v c.args.registers.now _ _ c.loop-v-test.true c.told-registers (to_z-of_z {w = w32} (search rules)) c.put_register.ensures.text c.loop-v.invariant.1,
)

pub returns : goal.returns
returns c = sym (append-nil c.loop-v.page) ∙ ap (c.loop-v.page ++◌) (sym (registers_end c.loop-v.v c.args.registers.now (omega arith))) ∙ c.loop-v.invariant.1
