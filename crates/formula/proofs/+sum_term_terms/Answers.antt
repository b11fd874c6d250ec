-- `formula::sum`, `formula::term` and `formula::terms` meet their contracts. Assumes nothing.
use Rattle.std.specs.Prelude.{Ok}
use Rattle.parsing.specs.InnerParsing.{OpeningTo}
use Rattle.script.specs.InnerTrees.{sort_of}
use Rattle.script.specs.Tree as T
use native.Mathlib.Omega.{arith}
use mathlib.Core.Path.{refl, sym, ap, ◌∙◌, subst}
use mathlib.Core.Bool.{true, false}
use Rattle.parsing.proofs.Laws as L
use Rattle.parsing.proofs.Ways as W
use Prim.Native.Nat.{ℕ}
use Rattle.formula.proofs.+sum_term_terms.Goals as goal
use Rattle.formula.proofs.+sum_term_terms.Goals.{sum-Joined-opens, sum-then-opens+in_ok-end+in_ok-head, sum-else-opens+then-digit_at+in_ok-head-2, sum-else-opens+else-digit_at+then-inside+in_ok-next+in-Read, sum-else-opens+else-digit_at+then-inside+in_ok-next+in-Other+in_ok-head-in-Other, sum-else-opens+else-digit_at+else-inside+in_ok-head-3, term-then-b-ne97-via-then-b-ne97, term-then-b-ne97-via-else-b-ne97+then-opened-ge-MOST_AROUND_ATOMIC}

-- the first term, which comes by five ways
sum-headed : (t : ℕ) (c : sum-Joined-opens t) → W.Headed c.args.inside c.args.text.now c.args.from c.args.job.now.size c.args.job.now.nodes c.args.opened (record { at = c.if-opens.head; size = c.if-opens.job.size; nodes = c.if-opens.job.nodes }) c.args.job.now.bytes c.if-opens.job.bytes
sum-headed t c =
    elim c.if-opens.branch [
      | sum-then-opens+in_ok-end+in_ok-head w ↦ let o = c.opens.ensures w.if-opens.true in let q = L.there _ _ _ o.1 in rw (w.head-is, w.job-is) (W.headed_term c.args.inside _ _ c.skip-at.result _ _ _ _ _ c.skip-at.ensures (W.begins_bracket c.args.inside _ _ _ c.skip-at.ensures o.1) _ c.requires (W.term_bracket (sort_of c.args.inside) _ c.skip-at.result _ _ _ _ _ q.0 q.1 o.0 (record { at = w.in_ok-end.end; size = w.sum.new.job.size; nodes = w.sum.new.job.nodes }) _ w.in_ok-end.ensures w.in_ok-head.ensures))
      | sum-else-opens+then-digit_at+in_ok-head-2 w ↦ let d = w.digit_at.ensures w.if-digit_at.true in rw (w.head-is, w.job-is) (W.headed_term c.args.inside _ _ c.skip-at.result _ _ _ _ _ c.skip-at.ensures (W.begins_number c.args.inside _ _ _ c.skip-at.ensures d.0 d.1) _ c.requires (w.in_ok-head-2.ensures c.args.opened))
      | sum-else-opens+else-digit_at+then-inside+in_ok-next+in-Read w ↦ let o = subst (OpeningTo c.args.text.now c.args.from c.args.opened) (ap Ok w.in-Read.is) w.in_ok-next.ensures in rw (w.head-is, w.job-is, w.node-in-Read.ensures.size, w.node-in-Read.ensures.nodes) (W.headed_as c.args.inside true _ _ _ _ _ _ _ _ _ _ w.if-inside.true refl refl (W.headed_register _ _ _ w.in-Read.register _ _ _ _ _ c.requires o.0 o.1 o.3 (rw w.byte-in-Read.ensures at w.node-in-Read.ensures.written) w.node-in-Read.ensures.kept))
      | sum-else-opens+else-digit_at+then-inside+in_ok-next+in-Other+in_ok-head-in-Other w ↦ let o = subst (OpeningTo c.args.text.now c.args.from c.args.opened) (ap Ok w.in-Other.is) w.in_ok-next.ensures in rw (w.head-is, w.job-is) (W.headed_as c.args.inside true _ _ _ _ _ _ _ _ _ _ w.if-inside.true refl refl (W.headed_term true _ _ w.in-Other.next _ _ _ _ _ o.0 (W.begins_other c.args.text.now w.in-Other.next o.1) _ c.requires w.in_ok-head-in-Other.ensures))
      | sum-else-opens+else-digit_at+else-inside+in_ok-head-3 w ↦ rw (w.head-is, w.job-is) (W.headed_as c.args.inside false _ _ _ _ _ _ _ _ _ _ w.if-inside.false refl refl (W.headed_term false _ _ c.skip-at.result _ _ _ _ _ c.skip-at.ensures (W.begins_process c.args.text.now c.skip-at.result) _ c.requires w.in_ok-head-3.ensures))
    ]

pub sum-sum-requires : goal.sum-sum-requires
sum-sum-requires t c = let o = c.opens.ensures c.if-opens.true in let q = L.there _ _ _ o.1 in let k = c.skip-at.ensures in (omega (arith, c.decreases, k.ahead, q.0), W.ready_same _ c.args.from _ _ _ _ _ c.requires (omega (arith, k.ahead)) (omega (arith, q.0)) (omega (arith, o.0)))

pub sum-returns-in_err-end : goal.sum-returns-in_err-end
sum-returns-in_err-end t c = let o = c.opens.ensures c.if-opens.true in let q = L.there _ _ _ o.1 in rw (L.err_as _ _ c.from_residual.ensures.1) (W.headed_broken c.args.inside _ _ c.skip-at.result _ _ _ _ _ c.skip-at.ensures (W.begins_bracket c.args.inside _ _ _ c.skip-at.ensures o.1) _ (W.bracket_broken (sort_of c.args.inside) _ c.skip-at.result _ _ _ _ _ q.0 q.1 o.0 _ c.in_err-end.ensures))

pub sum-returns-in_err-head : goal.sum-returns-in_err-head
sum-returns-in_err-head t c = let o = c.opens.ensures c.if-opens.true in let q = L.there _ _ _ o.1 in rw (L.err_as _ _ c.from_residual-in_err-head.ensures.1) (W.headed_broken c.args.inside _ _ c.skip-at.result _ _ _ _ _ c.skip-at.ensures (W.begins_bracket c.args.inside _ _ _ c.skip-at.ensures o.1) _ (W.term_bracket (sort_of c.args.inside) _ c.skip-at.result _ _ _ _ _ q.0 q.1 o.0 (record { at = c.in_ok-end.end; size = c.sum.new.job.size; nodes = c.sum.new.job.nodes }) _ c.in_ok-end.ensures c.in_err-head.ensures))

pub sum-returns-in_err-head-2 : goal.sum-returns-in_err-head-2
sum-returns-in_err-head-2 t c = let d = c.digit_at.ensures c.if-digit_at.true in rw (L.err_as _ _ c.from_residual-in_err-head-2.ensures.1) (W.headed_broken c.args.inside _ _ c.skip-at.result _ _ _ _ _ c.skip-at.ensures (W.begins_number c.args.inside _ _ _ c.skip-at.ensures d.0 d.1) _ (c.in_err-head-2.ensures c.args.opened))

pub sum-returns-in_err-next : goal.sum-returns-in_err-next
sum-returns-in_err-next t c = rw (L.err_as _ _ c.from_residual-in_err-next.ensures.1) (W.sum_as c.args.inside true _ _ _ _ _ _ _ _ c.if-inside.true (W.sum_broken _ T.transaction _ _ _ _ _ _ _ c.in_err-next.ensures.0 c.in_err-next.ensures.1 refl))

pub sum-returns-in-Write : goal.sum-returns-in-Write
sum-returns-in-Write t c =
    let w = subst (OpeningTo c.args.text.now c.args.from c.args.opened) (ap Ok c.in-Write.is) c.in_ok-next.ensures in
    W.sum_as c.args.inside true _ _ _ _ _ _ _ _ c.if-inside.true (W.sum_write _ _ _ c.in-Write.register _ _ _ _ c.node.new.self.bytes _ _ w.0 w.4 c.node.ensures.kept (rw c.byte.ensures at c.node.ensures.written) (rw (c.node.ensures.size, c.node.ensures.nodes) at c.sum-in-Write.ensures))

pub sum-returns-in_err-head-in-Other : goal.sum-returns-in_err-head-in-Other
sum-returns-in_err-head-in-Other t c =
    let o = subst (OpeningTo c.args.text.now c.args.from c.args.opened) (ap Ok c.in-Other.is) c.in_ok-next.ensures in
    rw (L.err_as _ _ c.from_residual-in_err-head-in-Other.ensures.1) (W.sum_as c.args.inside true _ _ _ _ _ _ _ _ c.if-inside.true (W.headed_broken true _ _ c.in-Other.next _ _ _ _ _ o.0 (W.begins_other c.args.text.now c.in-Other.next o.1) _ c.in_err-head-in-Other.ensures))

pub sum-returns-in_err-head-3 : goal.sum-returns-in_err-head-3
sum-returns-in_err-head-3 t c = rw (L.err_as _ _ c.from_residual-in_err-head-3.ensures.1) (W.sum_as c.args.inside false _ _ _ _ _ _ _ _ c.if-inside.false (W.headed_broken false _ _ c.skip-at.result _ _ _ _ _ c.skip-at.ensures (W.begins_process c.args.text.now c.skip-at.result) _ c.in_err-head-3.ensures))

pub sum-terms-requires : goal.sum-terms-requires
sum-terms-requires t c = let h = sum-headed t (goal.at.sum-terms-requires t c).Joined-opens in (omega (arith, c.decreases, h.ahead, h.ready.within), h.ready)

pub sum-returns : goal.sum-returns
sum-returns t c = c.terms.ensures _ _ _ (sum-headed t (goal.at.sum-returns t c).Joined-opens).joining

pub term-returns-then-at-text : goal.term-returns-then-at-text
term-returns-then-at-text t c = W.broken_end _ c.args.from c.skip-at.result _ _ _ _ _ c.skip-at.ensures refl (sort_of c.args.inside) c.if-at-text.true

pub term-returns-then-is_digit : goal.term-returns-then-is_digit
term-returns-then-is_digit t c = W.term_skip (sort_of c.args.inside) _ _ c.skip-at.result _ _ _ _ _ _ c.skip-at.ensures (c.number.ensures _)

pub term-returns-then-b-eq45 : goal.term-returns-then-b-eq45
term-returns-then-b-eq45 t c = W.term_skip (sort_of c.args.inside) _ _ c.skip-at.result _ _ _ _ _ _ c.skip-at.ensures (c.negative.ensures _)

pub term-returns-then-opened-ge-MOST_OPEN : goal.term-returns-then-opened-ge-MOST_OPEN
term-returns-then-opened-ge-MOST_OPEN t c = W.broken_bracket _ c.args.from c.skip-at.result _ _ _ _ _ c.skip-at.ensures refl c.if-at-text.false (sort_of c.args.inside) c.if-b-eq40.true c.if-opened-ge-MOST_OPEN.true

pub term-returns-in_err-end : goal.term-returns-in_err-end
term-returns-in_err-end t c = rw (L.err_as _ _ c.from_residual.ensures.1) (W.term_skip (sort_of c.args.inside) _ _ c.skip-at.result _ _ _ _ _ _ c.skip-at.ensures (W.bracket_broken (sort_of c.args.inside) _ c.skip-at.result _ _ _ _ _ c.if-at-text.false c.if-b-eq40.true c.if-opened-ge-MOST_OPEN.false _ c.in_err-end.ensures))

pub term-returns-then-b-eq40 : goal.term-returns-then-b-eq40
term-returns-then-b-eq40 t c = W.term_skip (sort_of c.args.inside) _ _ c.skip-at.result _ _ _ _ _ _ c.skip-at.ensures (W.term_bracket (sort_of c.args.inside) _ c.skip-at.result _ _ _ _ _ c.if-at-text.false c.if-b-eq40.true c.if-opened-ge-MOST_OPEN.false (record { at = c.in_ok-end.end; size = c.sum.new.job.size; nodes = c.sum.new.job.nodes }) _ c.in_ok-end.ensures c.shut.ensures)

pub term-returns-then-b-eq114 : goal.term-returns-then-b-eq114
term-returns-then-b-eq114 t c = W.term_as c.args.inside true _ _ _ _ _ _ _ _ c.if-inside.true (W.term_skip T.transaction _ _ c.skip-at.result _ _ _ _ _ _ c.skip-at.ensures (c.register.ensures _))

pub term-returns-then-inside : goal.term-returns-then-inside
term-returns-then-inside t c = W.term_as c.args.inside true _ _ _ _ _ _ _ _ c.if-inside.true (W.broken_transaction _ c.args.from c.skip-at.result _ _ _ _ _ c.skip-at.ensures refl c.if-at-text.false (sym c.is_digit.ensures ∙ c.if-is_digit.false) c.if-b-eq45.false c.if-b-eq40.false c.if-b-eq114.false)

pub term-returns-then-opened-ge-MOST_OPEN-2 : goal.term-returns-then-opened-ge-MOST_OPEN-2
term-returns-then-opened-ge-MOST_OPEN-2 t c = W.term_as c.args.inside false _ _ _ _ _ _ _ _ c.if-inside.false (W.broken_fork _ c.args.from c.skip-at.result _ _ _ _ _ c.skip-at.ensures refl c.if-at-text.false c.if-b-eq102.true c.if-opened-ge-MOST_OPEN-2.true)

pub term-returns-in_err-next : goal.term-returns-in_err-next
term-returns-in_err-next t c = rw (L.err_as _ _ c.from_residual-in_err-next.ensures.1) (W.term_as c.args.inside false _ _ _ _ _ _ _ _ c.if-inside.false (W.broken_fork_word _ c.args.from c.skip-at.result _ _ _ _ _ c.skip-at.ensures refl c.if-at-text.false _ c.if-b-eq102.true c.if-opened-ge-MOST_OPEN-2.false c.in_err-next.ensures))

pub term-returns-then-b-eq102 : goal.term-returns-then-b-eq102
term-returns-then-b-eq102 t c = W.term_as c.args.inside false _ _ _ _ _ _ _ _ c.if-inside.false (W.term_skip T.process _ _ c.skip-at.result _ _ _ _ _ _ c.skip-at.ensures (W.term_fork _ c.skip-at.result c.in_ok-next.next _ _ _ _ c.node.new.self.bytes _ _ c.if-at-text.false c.if-b-eq102.true c.if-opened-ge-MOST_OPEN-2.false c.in_ok-next.ensures c.node.ensures.kept (rw c.byte.ensures at c.node.ensures.written) (rw (c.node.ensures.size, c.node.ensures.nodes) at c.term.ensures)))

pub term-returns-then-b-ne97 : goal.term-returns-then-b-ne97
term-returns-then-b-ne97 t c =
    W.term_as c.args.inside false _ _ _ _ _ _ _ _ c.if-inside.false
    (elim c.then-b-ne97.branch [
      | term-then-b-ne97-via-then-b-ne97 w ↦ W.broken_process _ c.args.from c.skip-at.result _ _ _ _ _ c.skip-at.ensures refl c.if-at-text.false (sym c.is_digit.ensures ∙ c.if-is_digit.false) c.if-b-eq45.false c.if-b-eq40.false c.if-b-eq102.false w.if-b-ne97.true
      | term-then-b-ne97-via-else-b-ne97+then-opened-ge-MOST_AROUND_ATOMIC w ↦ W.broken_atomic _ c.args.from c.skip-at.result _ _ _ _ _ c.skip-at.ensures refl c.if-at-text.false w.if-b-ne97.false w.if-opened-ge-MOST_AROUND_ATOMIC.true
    ])

pub term-returns-in_err-next-2 : goal.term-returns-in_err-next-2
term-returns-in_err-next-2 t c = rw (L.err_as _ _ c.from_residual-in_err-next-2.ensures.1) (W.term_as c.args.inside false _ _ _ _ _ _ _ _ c.if-inside.false (W.broken_atomic_word _ c.args.from c.skip-at.result _ _ _ _ _ c.skip-at.ensures refl c.if-at-text.false _ c.if-b-ne97.false (omega (arith, c.if-opened-ge-MOST_AROUND_ATOMIC.false)) c.in_err-next-2.ensures))

pub term-returns-then-not-is_at : goal.term-returns-then-not-is_at
term-returns-then-not-is_at t c = W.term_as c.args.inside false _ _ _ _ _ _ _ _ c.if-inside.false (W.broken_opening _ c.args.from c.skip-at.result _ _ _ _ _ c.skip-at.ensures refl c.if-at-text.false c.in_ok-next-2.next _ c.if-b-ne97.false (omega (arith, c.if-opened-ge-MOST_AROUND_ATOMIC.false)) c.in_ok-next-2.ensures c.skip-bracket.ensures (sym c.is_at.ensures ∙ c.if-not-is_at.true))

pub term-sum-requires-2 : goal.term-sum-requires-2
term-sum-requires-2 t c =
    let b = L.there _ _ _ (sym c.is_at.ensures ∙ c.if-not-is_at.false) in (
      omega (arith, c.decreases, c.skip-at.ensures.ahead, c.in_ok-next-2.ensures.0, c.skip-bracket.ensures.ahead, b.0),
      rw (c.node-2.ensures.size, c.node-2.ensures.nodes) (W.ready_at _ c.args.from _ _ _ c.args.opened 1 1 2 c.requires (omega (arith, c.skip-at.ensures.ahead, c.in_ok-next-2.ensures.0, c.skip-bracket.ensures.ahead)) (omega (arith, c.skip-at.ensures.ahead, c.in_ok-next-2.ensures.0, c.skip-bracket.ensures.ahead)) (omega (arith, b.0)) (omega (arith, c.if-opened-ge-MOST_AROUND_ATOMIC.false))),
    )

pub term-returns-in_err-end-2 : goal.term-returns-in_err-end-2
term-returns-in_err-end-2 t c = rw (L.err_as _ _ c.from_residual-in_err-end-2.ensures.1) (W.term_as c.args.inside false _ _ _ _ _ _ _ _ c.if-inside.false (W.term_skip T.process _ _ c.skip-at.result _ _ _ _ _ _ c.skip-at.ensures (W.atomic_broken _ c.skip-at.result c.in_ok-next-2.next c.skip-bracket.result _ _ _ _ c.node-2.new.self.bytes _ c.if-at-text.false c.if-b-ne97.false (omega (arith, c.if-opened-ge-MOST_AROUND_ATOMIC.false)) c.in_ok-next-2.ensures c.skip-bracket.ensures (sym c.is_at.ensures ∙ c.if-not-is_at.false) c.node-2.ensures.kept _ (rw (c.node-2.ensures.size, c.node-2.ensures.nodes) at c.in_err-end-2.ensures))))

pub term-returns : goal.term-returns
term-returns t c = W.term_as c.args.inside false _ _ _ _ _ _ _ _ c.if-inside.false (W.term_skip T.process _ _ c.skip-at.result _ _ _ _ _ _ c.skip-at.ensures (W.term_atomic _ c.skip-at.result c.in_ok-next-2.next c.skip-bracket.result _ _ _ _ c.node-2.new.self.bytes _ c.if-at-text.false c.if-b-ne97.false (omega (arith, c.if-opened-ge-MOST_AROUND_ATOMIC.false)) c.in_ok-next-2.ensures c.skip-bracket.ensures (sym c.is_at.ensures ∙ c.if-not-is_at.false) c.node-2.ensures.kept (record { at = c.in_ok-end-2.end; size = c.sum-2.new.job.size; nodes = c.sum-2.new.job.nodes }) _ (rw c.byte-2.ensures at c.node-2.ensures.written) (rw (c.node-2.ensures.size, c.node-2.ensures.nodes) at c.in_ok-end-2.ensures) c.shut-2.ensures))

pub terms-returns-then-not-is_at : goal.terms-returns-then-not-is_at
terms-returns-then-not-is_at t c = λ from nodes before j. rw (c.join.ensures.size, c.join.ensures.nodes) (W.joining_end c.args.inside _ from _ nodes _ (record { at = c.loop-job.last; size = c.loop-job.job.size; nodes = c.loop-job.job.nodes }) c.loop-job.adds before c.loop-job.job.bytes (c.loop-job.invariant.so from nodes before j) c.skip-at.result c.skip-at.ensures _ (sym c.is_at.ensures ∙ c.if-not-is_at.true) c.join.ensures.kept c.join.ensures.written)

pub terms-skip-next-requires : goal.terms-skip-next-requires
terms-skip-next-requires t c = omega (arith, (L.there _ _ _ (sym c.is_at.ensures ∙ c.if-not-is_at.false)).0)

pub terms-returns-in_err-last : goal.terms-returns-in_err-last
terms-returns-in_err-last t c = λ from nodes before j. rw (L.err_as _ _ c.from_residual.ensures.1) (W.joining_broken c.args.inside _ from _ nodes _ (record { at = c.loop-job.last; size = c.loop-job.job.size; nodes = c.loop-job.job.nodes }) c.loop-job.adds before c.loop-job.job.bytes (c.loop-job.invariant.so from nodes before j) c.skip-at.result c.skip-at.ensures (sym c.is_at.ensures ∙ c.if-not-is_at.false) _ _ (W.term_skip _ _ _ c.skip-next.result _ _ _ _ _ _ c.skip-next.ensures (c.in_err-last.ensures c.args.opened)))

pub terms-loop-job-smaller-then-digit_at : goal.terms-loop-job-smaller-then-digit_at
terms-loop-job-smaller-then-digit_at t c = let n = c.in_ok-last.ensures c.args.opened in omega (arith, n.within, W.term_ahead _ _ _ _ _ _ _ _ _ n, c.skip-next.ensures.ahead, c.skip-at.ensures.ahead)

pub terms-loop-job-preserved-then-digit_at : goal.terms-loop-job-preserved-then-digit_at
terms-loop-job-preserved-then-digit_at t c = W.going_more c.args.inside _ _ _ _ (record { at = c.loop-job.last; size = c.loop-job.job.size; nodes = c.loop-job.job.nodes }) _ c.loop-job.adds c.skip-at.result _ c.loop-job.job.bytes _ c.loop-job.invariant c.skip-at.ensures (sym c.is_at.ensures ∙ c.if-not-is_at.false) (W.term_skip _ _ _ c.skip-next.result _ _ _ _ _ _ c.skip-next.ensures (c.in_ok-last.ensures c.args.opened))

pub terms-returns-in_err-last-2 : goal.terms-returns-in_err-last-2
terms-returns-in_err-last-2 t c = λ from nodes before j. rw (L.err_as _ _ c.from_residual-in_err-last-2.ensures.1) (W.joining_broken c.args.inside _ from _ nodes _ (record { at = c.loop-job.last; size = c.loop-job.job.size; nodes = c.loop-job.job.nodes }) c.loop-job.adds before c.loop-job.job.bytes (c.loop-job.invariant.so from nodes before j) c.skip-at.result c.skip-at.ensures (sym c.is_at.ensures ∙ c.if-not-is_at.false) _ _ (W.term_skip _ _ _ c.skip-next.result _ _ _ _ _ _ c.skip-next.ensures c.in_err-last-2.ensures))

pub terms-loop-job-preserved : goal.terms-loop-job-preserved
terms-loop-job-preserved t c = W.going_more c.args.inside _ _ _ _ (record { at = c.loop-job.last; size = c.loop-job.job.size; nodes = c.loop-job.job.nodes }) _ c.loop-job.adds c.skip-at.result _ c.loop-job.job.bytes _ c.loop-job.invariant c.skip-at.ensures (sym c.is_at.ensures ∙ c.if-not-is_at.false) (W.term_skip _ _ _ c.skip-next.result _ _ _ _ _ _ c.skip-next.ensures c.in_ok-last-2.ensures)
