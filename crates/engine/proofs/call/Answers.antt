-- `engine::call` meets its contract: the progress that it begins with, and the survey, are as their definitions have them. Assumes nothing.
use Prim.Native.Nat.{ℕ}
use mathlib.Core.Path.{◌≡◌, sym, ap, ◌∙◌}
use mathlib.Core.List.{List}
use lib.IntN.{ℤ}
use lib.ListN.{length}
use Rattle.std.proofs.Common.{rules, Err}
use Rattle.code.specs.Reader.{read_code}
use Rattle.thread.specs.declared.Thread.{Thread}
use Rattle.machine.specs.Steps.{state_from}
use Rattle.survey.specs.declared.Survey.{Survey}
use Rattle.survey.specs.InnerWalk.{survey_fits}
use Rattle.progress.specs.declared.Progress.{Progress}
use Rattle.progress.specs.InnerProgress.{Driven, admitted_to, admitting, going_on, undergone}
use Rattle.engine.specs.InnerEngine.{Gathered, underwent}
use Rattle.engine.proofs.Within.{within}
use Rattle.script.proofs.Numbers.{bytes_of}
use Rattle.script.specs.Outcome.{Outcome, done}
use Rattle.terms.specs.Numbers.{outcome}
use Rattle.engine.proofs.call.Goals as goal

-- on from what the call is admitted with
goes : (code : List ℕ) (rs : List ℤ) (ns : List ℕ) (ts : List Thread) (picks : List ℕ) (v : Survey) → Gathered ns ts v → (o : Outcome Progress) → o ≡ admitted_to (read_code code) (survey_fits v code (length rs) ns 0) v.count (length picks)
    → going_on code (state_from rs ns ts) picks o ≡ undergone code (state_from rs ns ts) picks
unfolding undergone admitting
goes code rs ns ts picks v g o e =
    ap (going_on code (state_from rs ns ts) picks) (e ∙ ap (λ (u : Survey). admitted_to (read_code code) (survey_fits u code (length rs) ns 0) u.count (length picks)) g.survey)

pub returns-in_err-progress : goal.returns-in_err-progress
returns-in_err-progress c =
    let rs = c.args.registers.now in
    let ns = c.args.counts.now in
    let ts = c.args.threads.now in
    let a = c.in_err-progress.ensures in
    let r : c.from_residual.result ≡ Err c.in_err-progress.field-0.0 = search rules in
    record {
      went = ap (λ (o : Outcome Progress). underwent rs ns ts o) (ap outcome r) ∙ goes c.args.code.now rs ns ts c.args.picks.now a.survey a.gathered (outcome (Err c.in_err-progress.field-0.0)) a.admitted;
      typed = a.gathered.typed;
    }

pub drive-requires : goal.drive-requires
drive-requires c =
    let a = c.in_ok-progress.ensures in
    within c.args.code.now c.args.registers.now c.args.counts.now c.args.threads.now (length c.args.picks.now) a.survey c.in_ok-progress.progress a.gathered.survey (bytes_of _ c.type_inv.code) a.gathered.typed (sym a.admitted)

pub returns : goal.returns
returns c =
    let a = c.in_ok-progress.ensures in
    record {
      went = ap (λ (d : Driven). record { state = d.state; progress = done d.progress }) c.drive.ensures ∙ goes c.args.code.now c.args.registers.now c.args.counts.now c.args.threads.now c.args.picks.now a.survey a.gathered (done c.in_ok-progress.progress) a.admitted;
      typed = a.gathered.typed;
    }
