-- `survey::is_blank` meets its contract. Assumes nothing.
use Rattle.std.proofs.Common.{rules, ◌≡◌, ◌∙◌, ℕ, Bool, false}
use Rattle.std.proofs.Math.Bool.{and_assoc}
use Rattle.std.proofs.lemmas.Int.{ints}
use Rattle.machine.specs.FitTest.{all_zero, free, uncounted}
use Rattle.survey.proofs.Loops.{kept, every_kept, count_kept, every_counted}
use Rattle.survey.proofs.is_blank.Goals as goal

abbrev unused : ℕ → Bool
unused n = false

pub returns : goal.returns
unfolding all_zero
returns c =
    let cells : c.holds_everywhere-cells.result ≡ free unused c.args.t.cells = c.holds_everywhere-cells.ensures (kept unused c.args.t.cells) (λ v b h p. search (rules, ints)) ∙ every_kept unused c.args.t.cells in
    let readlog : c.holds_everywhere-readlog.result ≡ free unused c.args.t.readlog = c.holds_everywhere-readlog.ensures (kept unused c.args.t.readlog) (λ v b h p. search (rules, ints)) ∙ every_kept unused c.args.t.readlog in
    let writelog : c.holds_everywhere-writelog.result ≡ free unused c.args.t.writelog = c.holds_everywhere-writelog.ensures (kept unused c.args.t.writelog) (λ v b h p. search rules) ∙ every_kept unused c.args.t.writelog in
    let readcounts : c.holds_everywhere-readcounts.result ≡ uncounted unused c.args.t.readcounts = c.holds_everywhere-readcounts.ensures (count_kept unused c.args.t.readcounts) (λ v b h p. search rules) ∙ every_counted unused c.args.t.readcounts in
    rw (cells, readlog, writelog, readcounts) (simp and_assoc)
