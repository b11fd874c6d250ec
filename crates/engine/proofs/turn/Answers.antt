-- `engine::turn` meets its contract: a pick that changes the stack alone is any pick. Assumes nothing.
use mathlib.Core.Path.{◌≡◌, sym, ap, ◌∙◌}
use mathlib.Core.List.{[]}
use Prim.Native.Nat.{ℕ}
use lib.ListN.{get_or}
use Rattle.std.proofs.lemmas.List.{get_or_default}
use Rattle.machine.specs.Steps.{state_from}
use Rattle.thread.specs.InnerStep.{table_from}
use Rattle.thread.specs.Threads.{blank}
use Rattle.thread.specs.declared.Thread.{Thread}
use Rattle.progress.specs.InnerProgress.{driven_by, plain_pick, which_of}
use Rattle.progress.proofs.Performs.{plained}
use Rattle.engine.proofs.turn.Goals as goal

-- what a read past the end would give
abbrev hollow : Thread
hollow = record { start = 0; end = 0; place = 0; height = 0; cells = []; begin = 0; base = 0; over = 0; reads = 0; readlog = []; readcounts = []; writes = 0; writelog = []; rule = 0; backs = 0 }

pub returns-then-is_plain : goal.returns-then-is_plain
returns-then-is_plain c =
    let code = c.args.code.now in
    let rs = c.args.registers.now in
    let ns = c.args.counts.now in
    let ts = c.args.threads.now in
    let k = c.args.pick in
    let taken : get_or ts c.which-who.result hollow ≡ get_or ts (which_of k) blank = ap (λ (w : ℕ). get_or ts w hollow) c.which-who.ensures ∙ get_or_default ts (which_of k) hollow blank c.requires in
    c.brief.ensures
    ∙ ap (driven_by (state_from rs ns ts) (which_of k)) (plained code (table_from rs ns) k (get_or ts (which_of k) blank) c.args.p (sym (ap (plain_pick code k) taken) ∙ (sym c.is_plain.ensures ∙ c.if-is_plain.true)))
