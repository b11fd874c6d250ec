-- `job::nodes` meets its contract: the loop follows `read_nodes` and counts each transaction's nodes, and what is left of the count falls. Assumes nothing.
use Prim.Native.Nat.{ℕ, ◌+◌, ◌-◌, ◌≤◌, ◌<◌}
use mathlib.Core.Path.{◌≡◌, refl, sym}
use mathlib.Core.List.{List, [], ◌∷◌, ◌++◌}
use Rattle.std.proofs.lemmas.List.{length-take-le}
use Rattle.job.specs.declared.Due.{Due}
use mathlib.Core.Bool.{false}
use native.Mathlib.Omega.{arith}
use lib.ListN.{drop, take, length, get_or}
use Rattle.std.proofs.lemmas.Result.{err_from_is_err_and}
use Rattle.script.specs.Jobs.{root}
use Rattle.script.specs.Reader.{read_nodes, whole}
use Rattle.script.proofs.Numbers.{bytes_of}
use Rattle.job.proofs.Walk.{inv_start, used_up, node_refused, node_room, node_ready, node_stands, node_read, none_of, last_of, over, complete}
use Rattle.job.proofs.Header.{refused_at_once, long_answer, short_answer}
use Rattle.job.proofs.Long.{counting_first, counts_on, counted}
use Rattle.job.proofs.nodes.Goals as goal
use Rattle.job.proofs.nodes.Goals.{then-cursor-gt0-via-then-cursor-gt0, then-cursor-gt0-via-else-cursor-gt0+then-end-job}

-- the array's topmost part, and how many are below it
popped : (due : List Due) (height : ℕ) → 0 < height → height ≤ 65 → length due ≡ 65 → take height due ≡ take (height - 1) due ++ (get_or due (height - 1) (record { depth = 0; transaction = false }) ∷ [])
popped due height some h l = last_of due height (record { depth = 0; transaction = false }) some (omega (arith, h, l))

few : (due : List Due) (height : ℕ) → 0 < height → height ≤ 65 → length due ≡ 65 → length (take (height - 1) due) ≤ 63 → height - 1 ≤ 63
few due height some h l r = omega (arith, r, length-take-le (height - 1) due (omega (arith, some, h, l)))

pub loop-height-init : goal.loop-height-init
loop-height-init c = rw (c.start-cursor.ensures, c.none-transactions.ensures) (omega arith, refl, inv_start c.args.job.now c.args.version c.args.count c.requires.0 c.requires.1, counting_first c.args.job.now c.args.version c.args.count (bytes_of c.args.job.now c.type_inv.job) c.requires.0)

pub returns-then-cursor-eq0 : goal.returns-then-cursor-eq0
returns-then-cursor-eq0 c = rw c.at.ensures (refused_at_once (whole c.args.version (read_nodes c.args.count root 0 7 (drop 7 c.args.job.now))) _ _ (used_up c.args.job.now c.args.version c.args.count (record { due = take c.loop-height.height c.loop-height.due; at = c.loop-height.cursor }) (bytes_of c.args.job.now c.type_inv.job) c.loop-height.invariant.2 (get_or c.loop-height.due (c.loop-height.height - 1) (record { depth = 0; transaction = false })) (take (c.loop-height.height - 1) c.loop-height.due) (popped c.loop-height.due c.loop-height.height c.loop-height-test.true c.loop-height.invariant.0 c.loop-height.invariant.1) c.if-cursor-eq0.true))

pub returns-in_err-kind : goal.returns-in_err-kind
returns-in_err-kind c = let p = err_from_is_err_and c.from_residual.result c.from_residual.ensures.1 in rw (p.1, p.2) (refused_at_once (whole c.args.version (read_nodes c.args.count root 0 7 (drop 7 c.args.job.now))) _ _ (node_refused c.args.job.now c.args.version c.args.count (record { due = take c.loop-height.height c.loop-height.due; at = c.loop-height.cursor }) (bytes_of c.args.job.now c.type_inv.job) c.loop-height.invariant.2 (get_or c.loop-height.due (c.loop-height.height - 1) (record { depth = 0; transaction = false })) (take (c.loop-height.height - 1) c.loop-height.due) (popped c.loop-height.due c.loop-height.height c.loop-height-test.true c.loop-height.invariant.0 c.loop-height.invariant.1) (omega arith) _ _ (sym c.in_err-kind.ensures)))

pub advance-height-requires : goal.advance-height-requires
advance-height-requires c = (node_ready c.args.job.now c.args.version c.args.count (record { due = take c.loop-height.height c.loop-height.due; at = c.loop-height.cursor }) (bytes_of c.args.job.now c.type_inv.job) c.loop-height.invariant.2 (get_or c.loop-height.due (c.loop-height.height - 1) (record { depth = 0; transaction = false })) (take (c.loop-height.height - 1) c.loop-height.due) (popped c.loop-height.due c.loop-height.height c.loop-height-test.true c.loop-height.invariant.0 c.loop-height.invariant.1) c.in_ok-kind.kind (sym c.in_ok-kind.ensures) (omega arith) (omega arith), few c.loop-height.due c.loop-height.height c.loop-height-test.true c.loop-height.invariant.0 c.loop-height.invariant.1 (node_room c.args.job.now c.args.version c.args.count (record { due = take c.loop-height.height c.loop-height.due; at = c.loop-height.cursor }) (bytes_of c.args.job.now c.type_inv.job) c.loop-height.invariant.2 (get_or c.loop-height.due (c.loop-height.height - 1) (record { depth = 0; transaction = false })) (take (c.loop-height.height - 1) c.loop-height.due) (popped c.loop-height.due c.loop-height.height c.loop-height-test.true c.loop-height.invariant.0 c.loop-height.invariant.1) c.in_ok-kind.kind (sym c.in_ok-kind.ensures)))

pub loop-height-preserved : goal.loop-height-preserved
loop-height-preserved c =
    let room = few c.loop-height.due c.loop-height.height c.loop-height-test.true c.loop-height.invariant.0 c.loop-height.invariant.1 (node_room c.args.job.now c.args.version c.args.count (record { due = take c.loop-height.height c.loop-height.due; at = c.loop-height.cursor }) (bytes_of c.args.job.now c.type_inv.job) c.loop-height.invariant.2 (get_or c.loop-height.due (c.loop-height.height - 1) (record { depth = 0; transaction = false })) (take (c.loop-height.height - 1) c.loop-height.due) (popped c.loop-height.due c.loop-height.height c.loop-height-test.true c.loop-height.invariant.0 c.loop-height.invariant.1) c.in_ok-kind.kind (sym c.in_ok-kind.ensures)) in
    let k = node_stands c.args.job.now c.args.version c.args.count (record { due = take c.loop-height.height c.loop-height.due; at = c.loop-height.cursor }) (bytes_of c.args.job.now c.type_inv.job) c.loop-height.invariant.2 (get_or c.loop-height.due (c.loop-height.height - 1) (record { depth = 0; transaction = false })) (take (c.loop-height.height - 1) c.loop-height.due) (popped c.loop-height.due c.loop-height.height c.loop-height-test.true c.loop-height.invariant.0 c.loop-height.invariant.1) c.in_ok-kind.kind (sym c.in_ok-kind.ensures) in
    rw (c.advance-height.ensures.cursor, c.count.ensures, c.advance-height.ensures.parts) (
      omega (arith, c.advance-height.ensures.count, room),
      c.advance-height.ensures.long,
      node_read c.args.job.now c.args.version c.args.count (record { due = take c.loop-height.height c.loop-height.due; at = c.loop-height.cursor }) (bytes_of c.args.job.now c.type_inv.job) c.loop-height.invariant.2 (get_or c.loop-height.due (c.loop-height.height - 1) (record { depth = 0; transaction = false })) (take (c.loop-height.height - 1) c.loop-height.due) (popped c.loop-height.due c.loop-height.height c.loop-height-test.true c.loop-height.invariant.0 c.loop-height.invariant.1) c.in_ok-kind.kind (sym c.in_ok-kind.ensures) (omega arith) ((get_or c.loop-height.due (c.loop-height.height - 1) (record { depth = 0; transaction = false })).depth + 1) (omega arith),
      counts_on c.loop-height.invariant.3 c.in_ok-kind.kind k.0 k.1,
    )

pub returns-then-cursor-gt0 : goal.returns-then-cursor-gt0
returns-then-cursor-gt0 c = rw c.at-then-cursor-gt0.ensures (refused_at_once (whole c.args.version (read_nodes c.args.count root 0 7 (drop 7 c.args.job.now))) _ _ (over c.args.job.now c.args.version c.args.count (record { due = take c.loop-height.height c.loop-height.due; at = c.loop-height.cursor }) (bytes_of c.args.job.now c.type_inv.job) c.loop-height.invariant.2 (none_of c.loop-height.due c.loop-height.height c.loop-height-test.false) c.then-cursor-gt0.either))

pub returns-in-Some : goal.returns-in-Some
returns-in-Some c = rw c.at-in-Some.ensures (long_answer (whole c.args.version (read_nodes c.args.count root 0 7 (drop 7 c.args.job.now))) c.args.version c.loop-height.cursor.code c.loop-height.transactions.long (complete c.args.job.now c.args.version c.args.count (record { due = take c.loop-height.height c.loop-height.due; at = c.loop-height.cursor }) (bytes_of c.args.job.now c.type_inv.job) c.loop-height.invariant.2 (none_of c.loop-height.due c.loop-height.height c.loop-height-test.false) c.if-cursor-gt0.false c.if-end-job.false) (counted c.loop-height.invariant.3 c.if-end-job.false) c.in-Some.atomic c.in-Some.is)

pub returns : goal.returns
returns c = short_answer (whole c.args.version (read_nodes c.args.count root 0 7 (drop 7 c.args.job.now))) c.args.version c.loop-height.cursor.code c.loop-height.transactions.long (complete c.args.job.now c.args.version c.args.count (record { due = take c.loop-height.height c.loop-height.due; at = c.loop-height.cursor }) (bytes_of c.args.job.now c.type_inv.job) c.loop-height.invariant.2 (none_of c.loop-height.due c.loop-height.height c.loop-height-test.false) c.if-cursor-gt0.false c.if-end-job.false) (counted c.loop-height.invariant.3 c.if-end-job.false) c.in_default.is
