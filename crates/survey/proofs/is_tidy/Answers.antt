-- `survey::is_tidy` meets its contract. Assumes nothing.
use Rattle.std.proofs.Common.{rules, ◌≡◌, ◌∙◌, ℕ, Bool}
use Rattle.std.proofs.Math.Bool.{and_assoc}
use Rattle.std.proofs.lemmas.Int.{ints}
use lib.Dec.{ltb}
use Rattle.machine.specs.FitTest.{free, uncounted}
use Rattle.survey.specs.InnerRecords.{zero_from, tidy}
use Rattle.survey.proofs.Loops.{kept, every_kept, count_kept, every_counted}
use Rattle.word.specs.Registers.{member}
use Rattle.survey.proofs.is_tidy.Goals as goal

pub returns : goal.returns
unfolding tidy zero_from
returns c =
    let t = c.args.t in
    let below : ℕ → Bool = λ n. ltb n t.height in
    let readlog : c.holds_everywhere-readlog.result ≡ free (member t.reads) t.readlog = c.holds_everywhere-readlog.ensures (kept (member t.reads) t.readlog) (λ v b h p. search (rules, ints)) ∙ every_kept (member t.reads) t.readlog in
    let writelog : c.holds_everywhere-writelog.result ≡ free (member t.writes) t.writelog = c.holds_everywhere-writelog.ensures (kept (member t.writes) t.writelog) (λ v b h p. search (rules, ints)) ∙ every_kept (member t.writes) t.writelog in
    let cells : c.holds_everywhere-cells.result ≡ free below t.cells = c.holds_everywhere-cells.ensures (kept below t.cells) (λ v b h p. search (rules, ints)) ∙ every_kept below t.cells in
    let counts : c.holds_everywhere-counts.result ≡ uncounted (member t.reads) t.readcounts = c.holds_everywhere-counts.ensures (count_kept (member t.reads) t.readcounts) (λ v b h p. search rules) ∙ every_counted (member t.reads) t.readcounts in
    rw (readlog, writelog, cells, counts) (simp and_assoc)
