-- `survey::ask` meets its contract. Assumes nothing.
use mathlib.Core.Path.{refl, sym, ◌∙◌}
use native.Mathlib.Omega.{arith}
use Rattle.survey.specs.InnerWalk.{asked_for}
use Rattle.survey.specs.InnerRecords.{starts_of, ends_of, no_row}
use Rattle.survey.specs.declared.Row.{Row}
use mathlib.Core.Bool.{◌&&◌}
use lib.Dec.{eqb}
use lib.ListN.{get_or-map}
use Rattle.survey.proofs.Loops.{asks_done, asks_turn}
use Rattle.survey.proofs.ask.Goals as goal

pub loop-i-init : goal.loop-i-init
loop-i-init c = (omega arith, refl)

pub note-a-requires : goal.note-a-requires
note-a-requires c = (c.loop-i-test.true, c.loop-i.invariant.0)

pub loop-i-preserved : goal.loop-i-preserved
loop-i-preserved c = asks_turn (starts_of c.args.rows.now) (ends_of c.args.rows.now) (record { start = c.args.start; end = c.args.end }) c.loop-i.i _ c.loop-i.a c.note-a.result c.is_same.result c.loop-i-test.true (c.is_same.ensures ∙ (λ j. eqb (sym (get_or-map (λ (r : Row). r.start) c.args.rows.now c.loop-i.i no_row) j) c.args.start && eqb (sym (get_or-map (λ (r : Row). r.end) c.args.rows.now c.loop-i.i no_row) j) c.args.end)) c.note-a.ensures c.loop-i.invariant.0 c.loop-i.invariant.1

pub returns : goal.returns
unfolding asked_for
returns c = sym (asks_done (starts_of c.args.rows.now) (ends_of c.args.rows.now) (record { start = c.args.start; end = c.args.end }) c.loop-i.i c.loop-i.a c.loop-i-test.false) ∙ c.loop-i.invariant.1
