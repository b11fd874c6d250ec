-- `listing::put_threads` meets its contract. Assumes nothing.
use Rattle.std.proofs.Common.{◌++◌, sym, ap, ◌∙◌, append-nil, arith}
use Rattle.listing.proofs.Lines.{threads_end, thread_step}
use Rattle.listing.proofs.put_threads.Goals as goal

pub loop-i-preserved : goal.loop-i-preserved
loop-i-preserved c = (
  omega (arith, c.put_record.ensures.bound, c.loop-i.invariant.0),
  thread_step c.args.page.now c.loop-i.page _ c.loop-i.i c.args.threads.now _ c.loop-i-test.true c.told-threads c.put_record.ensures.text c.loop-i.invariant.1,
)

pub returns-clause-text : goal.returns-clause-text
returns-clause-text c = sym (append-nil c.loop-i.page) ∙ ap (c.loop-i.page ++◌) (sym (threads_end c.loop-i.i c.args.threads.now (omega arith))) ∙ c.loop-i.invariant.1
