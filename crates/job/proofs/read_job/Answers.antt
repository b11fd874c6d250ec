-- `job::read_job` meets its contract: the header's tests, then the nodes. Assumes nothing.
use Prim.Native.Nat.{ℕ}
use mathlib.Core.Bool.{Bool, ◌&&◌}
use lib.Dec.{leb}
use mathlib.Core.Path.{◌≡◌, refl, sym, ◌∙◌}
use borrow.Author.Tests.{leb-true}
use Rattle.std.specs.Ordering.{nat_cmp, is_le}
use Rattle.script.proofs.Accepts.{both}
use Rattle.job.proofs.Header.{cut, bad_mark, bad_version, bad_count, passed, marked, order_le}
use Rattle.job.proofs.read_job.Goals as goal

-- the count's test, as `contains` makes it
counted : (n m : ℕ) → n ≡ m → (t : Bool) → {r : Bool} → r ≡ (is_le (nat_cmp 1 n) && is_le (nat_cmp n 1000)) → r ≡ t → (leb 1 m && leb m 1000) ≡ t
counted n m e t f g = rw (← e, ← order_le 1 n, ← order_le n 1000) (sym f ∙ g)

pub returns-then-job-lt7 : goal.returns-then-job-lt7
returns-then-job-lt7 c = rw c.at.ensures (cut c.args.job.now c.if-job-lt7.true)

pub returns-then-not-starts_with : goal.returns-then-not-starts_with
returns-then-not-starts_with c = rw c.at-then-not-starts_with.ensures (bad_mark c.args.job.now c.if-job-lt7.false (sym (marked c.args.job.now c.if-job-lt7.false) ∙ sym c.if-not-starts_with.ensures.value))

pub returns-then-version-ne1 : goal.returns-then-version-ne1
returns-then-version-ne1 c = rw c.at-then-version-ne1.ensures (bad_version c.args.job.now c.if-job-lt7.false (sym (marked c.args.job.now c.if-job-lt7.false) ∙ sym c.if-not-starts_with.ensures.value) (λ e. c.if-version-ne1.true (c.number16-version.ensures ∙ e)))

pub returns-then-not-contains : goal.returns-then-not-contains
returns-then-not-contains c =
    let r : c.contains.result ≡ (is_le (nat_cmp 1 c.number16-count.result) && is_le (nat_cmp c.number16-count.result 1000)) = rw (c.new.ensures.start, c.new.ensures.end, c.new.ensures.exhausted) at c.contains.ensures.value in
    rw c.at-then-not-contains.ensures (bad_count c.args.job.now c.if-job-lt7.false (sym (marked c.args.job.now c.if-job-lt7.false) ∙ sym c.if-not-starts_with.ensures.value) (sym c.number16-version.ensures ∙ c.if-version-ne1.false) (counted _ _ c.number16-count.ensures _ r c.if-not-contains.true))

pub nodes-requires : goal.nodes-requires
nodes-requires c =
    let r : c.contains.result ≡ (is_le (nat_cmp 1 c.number16-count.result) && is_le (nat_cmp c.number16-count.result 1000)) = rw (c.new.ensures.start, c.new.ensures.end, c.new.ensures.exhausted) at c.contains.ensures.value in
    (c.if-job-lt7.false, rw c.from.ensures (leb-true _ 1000 (both (leb 1 c.number16-count.result) (leb c.number16-count.result 1000) (counted c.number16-count.result c.number16-count.result refl _ r c.if-not-contains.false)).1))

pub returns : goal.returns
returns c =
    let r : c.contains.result ≡ (is_le (nat_cmp 1 c.number16-count.result) && is_le (nat_cmp c.number16-count.result 1000)) = rw (c.new.ensures.start, c.new.ensures.end, c.new.ensures.exhausted) at c.contains.ensures.value in
    c.nodes.ensures ∙ (rw (c.from.ensures, c.number16-version.ensures, c.number16-count.ensures) (passed c.args.job.now c.if-job-lt7.false (sym (marked c.args.job.now c.if-job-lt7.false) ∙ sym c.if-not-starts_with.ensures.value) (sym c.number16-version.ensures ∙ c.if-version-ne1.false) (counted _ _ c.number16-count.ensures _ r c.if-not-contains.false)))
