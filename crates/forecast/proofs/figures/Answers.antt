-- `forecast::figures` meets its contract: the loop walks the job's tree, and what is left of the bytes falls. Assumes nothing.
use Prim.Native.Nat.{ℕ, ◌-◌, ◌≤◌, ◌<◌}
use mathlib.Core.Path.{◌≡◌, refl, sym, ap, subst, ◌∙◌}
use mathlib.Core.List.{List, [], ◌∷◌, ◌++◌}
use lib.ListN.{take, get_or, length}
use Rattle.std.proofs.lemmas.List.{length-take-le}
use Rattle.forecast.specs.declared.Due.{Due}
use native.Mathlib.Omega.{arith}
use Rattle.script.proofs.Accepts.{accepted_is_job}
use Rattle.script.proofs.Numbers.{bytes_of}
use Rattle.forecast.specs.Figures.{forecast_of}
use Rattle.forecast.proofs.Fold.{Told, told}
use Rattle.forecast.proofs.Walk.{inv_start, can_count, stands, node_counted, at-end}
use Rattle.forecast.proofs.Answers.{figures_told}
use Rattle.job.proofs.KindBytes.{decoded, decoded_as, operand_small}
use Rattle.job.proofs.Walk.{last_of, none_of}
use Rattle.forecast.proofs.figures.Goals as goal

-- the array's topmost part, and how many are below it
popped : (parts : List Due) (n : ℕ) → 0 < n → n ≤ 65 → length parts ≡ 65 → take n parts ≡ take (n - 1) parts ++ (get_or parts (n - 1) (record { thread = 0; base = 0 }) ∷ [])
popped parts n some h l = last_of parts n (record { thread = 0; base = 0 }) some (omega (arith, h, l))

few : (parts : List Due) (n : ℕ) → 0 < n → n ≤ 65 → length parts ≡ 65 → length (take (n - 1) parts) ≤ 63 → n - 1 ≤ 63
few parts n some h l r = omega (arith, r, length-take-le (n - 1) parts (omega (arith, some, h, l)))

pub loop-waiting-init : goal.loop-waiting-init
loop-waiting-init c = rw c.none-totals.ensures (omega arith, refl, (λ a. let i = accepted_is_job c.args.job.now a.job (bytes_of c.args.job.now c.type_inv.job) a.read in inv_start c.args.job.now a.job.version a.job.tree i.text i.within))

pub bounds-job-place : goal.bounds-job-place
bounds-job-place c = omega (arith, (stands c.args.job.now c.requires.job.tree (record { due = take c.loop-waiting.waiting c.loop-waiting.parts; place = c.loop-waiting.place; tally = record { counts = c.loop-waiting.totals; heights = c.loop-waiting.heights } }) (get_or c.loop-waiting.parts (c.loop-waiting.waiting - 1) (record { thread = 0; base = 0 })) (take (c.loop-waiting.waiting - 1) c.loop-waiting.parts) (popped c.loop-waiting.parts c.loop-waiting.waiting c.loop-waiting-test.true c.loop-waiting.invariant.0 c.loop-waiting.invariant.1) (c.loop-waiting.invariant.2 c.requires)).0)

pub unwrap-kind-requires : goal.unwrap-kind-requires
unwrap-kind-requires c = let s = (stands c.args.job.now c.requires.job.tree (record { due = take c.loop-waiting.waiting c.loop-waiting.parts; place = c.loop-waiting.place; tally = record { counts = c.loop-waiting.totals; heights = c.loop-waiting.heights } }) (get_or c.loop-waiting.parts (c.loop-waiting.waiting - 1) (record { thread = 0; base = 0 })) (take (c.loop-waiting.waiting - 1) c.loop-waiting.parts) (popped c.loop-waiting.parts c.loop-waiting.waiting c.loop-waiting-test.true c.loop-waiting.invariant.0 c.loop-waiting.invariant.1) (c.loop-waiting.invariant.2 c.requires)).1 in decoded _ c.try_from.result c.try_from.ensures s.0 s.1

pub bounds-job-place-in-loop-waiting : goal.bounds-job-place-in-loop-waiting
bounds-job-place-in-loop-waiting c = (stands c.args.job.now c.requires.job.tree (record { due = take c.loop-waiting.waiting c.loop-waiting.parts; place = c.loop-waiting.place; tally = record { counts = c.loop-waiting.totals; heights = c.loop-waiting.heights } }) (get_or c.loop-waiting.parts (c.loop-waiting.waiting - 1) (record { thread = 0; base = 0 })) (take (c.loop-waiting.waiting - 1) c.loop-waiting.parts) (popped c.loop-waiting.parts c.loop-waiting.waiting c.loop-waiting-test.true c.loop-waiting.invariant.0 c.loop-waiting.invariant.1) (c.loop-waiting.invariant.2 c.requires)).0

pub count-waiting-requires : goal.count-waiting-requires
count-waiting-requires c = let r = can_count c.args.job.now c.requires.job.tree (record { due = take c.loop-waiting.waiting c.loop-waiting.parts; place = c.loop-waiting.place; tally = record { counts = c.loop-waiting.totals; heights = c.loop-waiting.heights } }) (get_or c.loop-waiting.parts (c.loop-waiting.waiting - 1) (record { thread = 0; base = 0 })) (take (c.loop-waiting.waiting - 1) c.loop-waiting.parts) (popped c.loop-waiting.parts c.loop-waiting.waiting c.loop-waiting-test.true c.loop-waiting.invariant.0 c.loop-waiting.invariant.1) (c.loop-waiting.invariant.2 c.requires) in (r.small, few c.loop-waiting.parts c.loop-waiting.waiting c.loop-waiting-test.true c.loop-waiting.invariant.0 c.loop-waiting.invariant.1 (r.room), r.thread, r.low)

pub overflow_add-place-in-loop-waiting : goal.overflow_add-place-in-loop-waiting
overflow_add-place-in-loop-waiting c = omega (arith, operand_small c.unwrap-kind.result, c.operand.ensures)

pub overflow_add-place-in-loop-waiting-2 : goal.overflow_add-place-in-loop-waiting-2
overflow_add-place-in-loop-waiting-2 c = omega (arith, operand_small c.unwrap-kind.result, c.operand.ensures, (can_count c.args.job.now c.requires.job.tree (record { due = take c.loop-waiting.waiting c.loop-waiting.parts; place = c.loop-waiting.place; tally = record { counts = c.loop-waiting.totals; heights = c.loop-waiting.heights } }) (get_or c.loop-waiting.parts (c.loop-waiting.waiting - 1) (record { thread = 0; base = 0 })) (take (c.loop-waiting.waiting - 1) c.loop-waiting.parts) (popped c.loop-waiting.parts c.loop-waiting.waiting c.loop-waiting-test.true c.loop-waiting.invariant.0 c.loop-waiting.invariant.1) (c.loop-waiting.invariant.2 c.requires)).early)

pub loop-waiting-smaller : goal.loop-waiting-smaller
loop-waiting-smaller c = let p = (stands c.args.job.now c.requires.job.tree (record { due = take c.loop-waiting.waiting c.loop-waiting.parts; place = c.loop-waiting.place; tally = record { counts = c.loop-waiting.totals; heights = c.loop-waiting.heights } }) (get_or c.loop-waiting.parts (c.loop-waiting.waiting - 1) (record { thread = 0; base = 0 })) (take (c.loop-waiting.waiting - 1) c.loop-waiting.parts) (popped c.loop-waiting.parts c.loop-waiting.waiting c.loop-waiting-test.true c.loop-waiting.invariant.0 c.loop-waiting.invariant.1) (c.loop-waiting.invariant.2 c.requires)).0 in omega (arith, p)

pub loop-waiting-preserved : goal.loop-waiting-preserved
loop-waiting-preserved c =
    let room = few c.loop-waiting.parts c.loop-waiting.waiting c.loop-waiting-test.true c.loop-waiting.invariant.0 c.loop-waiting.invariant.1 ((can_count c.args.job.now c.requires.job.tree (record { due = take c.loop-waiting.waiting c.loop-waiting.parts; place = c.loop-waiting.place; tally = record { counts = c.loop-waiting.totals; heights = c.loop-waiting.heights } }) (get_or c.loop-waiting.parts (c.loop-waiting.waiting - 1) (record { thread = 0; base = 0 })) (take (c.loop-waiting.waiting - 1) c.loop-waiting.parts) (popped c.loop-waiting.parts c.loop-waiting.waiting c.loop-waiting-test.true c.loop-waiting.invariant.0 c.loop-waiting.invariant.1) (c.loop-waiting.invariant.2 c.requires)).room) in
    (omega (arith, c.count-waiting.ensures.count, room), c.count-waiting.ensures.long, (λ a. rw (c.count-waiting.ensures.counts, c.count-waiting.ensures.parts, c.count-waiting.ensures.heights, c.operand.ensures) (node_counted c.args.job.now a.job.tree (record { due = take c.loop-waiting.waiting c.loop-waiting.parts; place = c.loop-waiting.place; tally = record { counts = c.loop-waiting.totals; heights = c.loop-waiting.heights } }) (get_or c.loop-waiting.parts (c.loop-waiting.waiting - 1) (record { thread = 0; base = 0 })) (take (c.loop-waiting.waiting - 1) c.loop-waiting.parts) (popped c.loop-waiting.parts c.loop-waiting.waiting c.loop-waiting-test.true c.loop-waiting.invariant.0 c.loop-waiting.invariant.1) (c.loop-waiting.invariant.2 a) c.unwrap-kind.result (decoded_as _ c.try_from.result c.unwrap-kind.result c.try_from.ensures c.unwrap-kind.ensures))))

pub overflow_add-result : goal.overflow_add-result
overflow_add-result c = omega (arith, (c.loop-waiting.invariant.2 c.requires).walk.bounds.few)

pub bound-requires : goal.bound-requires
bound-requires c = let b = (c.loop-waiting.invariant.2 c.requires).walk.bounds in (omega (arith, b.transactions), omega (arith, b.few), omega (arith, b.instructions), b.longest)

pub returns : goal.returns
returns c = let a = c.requires in let i = accepted_is_job c.args.job.now a.job (bytes_of c.args.job.now c.type_inv.job) a.read in let e = at-end c.args.job.now a.job.tree (record { due = take c.loop-waiting.waiting c.loop-waiting.parts; place = c.loop-waiting.place; tally = record { counts = c.loop-waiting.totals; heights = c.loop-waiting.heights } }) (c.loop-waiting.invariant.2 a) (none_of c.loop-waiting.parts c.loop-waiting.waiting c.loop-waiting-test.false) in figures_told a.job.tree (record { counts = c.loop-waiting.totals; heights = c.loop-waiting.heights }) _ _ (subst (Told a.job.tree) (sym e) (told a.job.tree i.within.sized.narrow)) a.long c.bound.ensures ∙ ap forecast_of (sym a.read)
