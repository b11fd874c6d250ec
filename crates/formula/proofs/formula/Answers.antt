-- `formula::formula` meets its contract. Assumes nothing.
use native.Mathlib.Omega.{arith}
use Prim.Native.Nat.{ℕ}
use Rattle.formula.proofs.Entry as N
use mathlib.Core.Path.{◌≡◌, refl, ap}
use Rattle.std.specs.Prelude.{Result, Ok, Err, MatchResult}
use Rattle.terms.specs.declared.Reason.TheVariants as reason
use Rattle.terms.specs.declared.Refusal.{Refusal}
use Rattle.parsing.proofs.Laws as L
use lib.ListN.{length-replicate}
use Rattle.formula.proofs.formula.Goals as goal

-- what the sum answered, from what `map_err` made of it
ok_as : (r : Result ℕ ℕ) (at : ℕ) → MatchResult r (λ x. ◌≡◌ {A = Result ℕ Refusal} (Ok at) (Ok x)) (λ _. ⊥) → r ≡ Ok at
ok_as (Ok x) at h = let z : x ≡ at = cc in ap Ok z
ok_as (Err e) at h = absurd h

err_as : (r : Result ℕ ℕ) (w : Refusal) → MatchResult r (λ x. ◌≡◌ {A = Result ℕ Refusal} (Err w) (Ok x)) (λ e. w ≡ record { reason = reason.NoScript; place = e }) → (e : ℕ) × (r ≡ Err e) × (w ≡ record { reason = reason.NoScript; place = e })
err_as (Ok x) w h = cc
err_as (Err e) w h = (e, refl, h)

pub returns-then-text-gt-MOST_TEXT : goal.returns-then-text-gt-MOST_TEXT
returns-then-text-gt-MOST_TEXT c = rw c.no_script.ensures (N.entry_long _ _ c.if-text-gt-MOST_TEXT.true)

pub returns-in_err-end : goal.returns-in_err-end
returns-in_err-end c =
    let f = err_as _ _ c.in_err-end.ensures.cases in
    rw (L.err_as _ _ c.from_residual.ensures.1, f.2) (N.entry_failed _ _ c.if-text-gt-MOST_TEXT.false f.0 _ _ (rw f.1 at c.sum.ensures))

pub returns-then-end-text : goal.returns-then-end-text
returns-then-end-text c = rw c.no_script-then-end-text.ensures (N.entry_left _ _ c.if-text-gt-MOST_TEXT.false (record { at = c.in_ok-end.end; size = c.sum.new.job.size; nodes = c.sum.new.job.nodes }) _ _ (rw (ok_as _ _ c.in_ok-end.ensures.cases) at c.sum.ensures) c.if-end-text.true)

pub returns-then-job-gt-MOST_NODES : goal.returns-then-job-gt-MOST_NODES
returns-then-job-gt-MOST_NODES c = rw c.at.ensures (N.entry_count _ c.args.out.now c.if-text-gt-MOST_TEXT.false (record { at = c.in_ok-end.end; size = c.sum.new.job.size; nodes = c.sum.new.job.nodes }) _ _ (rw (ok_as _ _ c.in_ok-end.ensures.cases) at c.sum.ensures) c.if-end-text.false c.if-job-gt-MOST_NODES.true)

pub shared_ref_as_front-made : goal.shared_ref_as_front-made
shared_ref_as_front-made c = omega (arith, N.entry_fits _ c.args.out.now c.if-text-gt-MOST_TEXT.false (record { at = c.in_ok-end.end; size = c.sum.new.job.size; nodes = c.sum.new.job.nodes }) _ _ (rw (ok_as _ _ c.in_ok-end.ensures.cases) at c.sum.ensures) c.if-end-text.false c.if-job-gt-MOST_NODES.false, c.sum.ensures.kept, c.head.ensures.kept, c.head.ensures.size, length-replicate {A = ℕ} 3009 0)

pub returns : goal.returns
returns c = N.entry_done _ c.args.out.now c.if-text-gt-MOST_TEXT.false (record { at = c.in_ok-end.end; size = c.sum.new.job.size; nodes = c.sum.new.job.nodes }) _ _ (rw (ok_as _ _ c.in_ok-end.ensures.cases) at c.sum.ensures) c.if-end-text.false c.head.new.self.bytes _ (length-replicate {A = ℕ} 3009 0) c.if-job-gt-MOST_NODES.false c.head.ensures.written (rw c.head.ensures.size at c.hand_out.ensures)
