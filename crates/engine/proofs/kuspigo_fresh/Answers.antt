-- `kuspigo_fresh` meets its contract. Assumes nothing.
use Prim.Native.Nat.{ℕ}
use mathlib.Core.Bool.{true, false}
use mathlib.Core.Path.{◌≡◌, refl, sym, ap, ◌∙◌}
use mathlib.Core.List.{List, ◌∷◌}
use native.Mathlib.Omega.{arith}
use lib.IntN.{ℤ, pos}
use lib.ListN.{length, set, replicate}
use Rattle.std.proofs.Common.{rules, Result, Ok, Err, is_ok}
use Rattle.code.specs.Reader.{read_code}
use Rattle.thread.specs.declared.Thread.{Thread}
use Rattle.thread.specs.Threads.{spawned}
use Rattle.machine.specs.Answers.{answered}
use Rattle.progress.specs.InnerProgress.{fresh_admitted_to, fresh_reply_of}
use Rattle.progress.proofs.Refusals.{laid_lengths}
use Rattle.script.specs.Jobs.{Job}
use Rattle.script.specs.Outcome.{Outcome, done}
use Rattle.terms.specs.Numbers.{outcome}
use Rattle.terms.specs.declared.Refusal.{Refusal}
use Rattle.engine.specs.InnerEngine.{cleared, forgotten, laid}
use Rattle.engine.proofs.Laying.{unspawned, cleared_all, forgotten_all, laid_all, by, fresh_by_value}
use Rattle.engine.proofs.kuspigo_fresh.Goals.{then-is_ok, else-is_ok}
use Rattle.engine.proofs.kuspigo_fresh.Goals as goal

-- admitted, or not
admitted : (a : Result (Unit {0}) Refusal) → is_ok a ≡ true → outcome a ≡ done tt
admitted (Ok u) e = refl
admitted (Err r) e = absurd (cc)

unaltered : (code : List ℕ) (rs : List ℤ) (ns : List ℕ) (ts : List Thread) (a : Result (Unit {0}) Refusal) → is_ok a ≡ false → answered rs ns ts (fresh_reply_of (outcome a)) ≡ by code rs ns ts (outcome a)
unaltered code rs ns ts (Ok u) e = absurd (cc)
unaltered code rs ns ts (Err r) e = refl

lengths : (o : Outcome Job) (a : Result (Unit {0}) Refusal) (rs ns ts : ℕ) → is_ok a ≡ true → outcome a ≡ fresh_admitted_to o rs ns ts → (ts ≡ 16) × (rs ≡ 64) × (ns ≡ 64)
lengths o a rs ns ts e f = laid_lengths rs ns ts o (sym (admitted a e) ∙ f)

-- the records, all of no thread, with the first of the whole code
first_laid : (end n : ℕ) (ts : List Thread) → n ≡ 16 → length ts ≡ 16 → set (replicate n (spawned 0 0)) 0 (spawned 5 end) ≡ laid end 16 ts
first_laid end n ts e f =
    ap (λ (k : ℕ). set (replicate k (spawned 0 0)) 0 (spawned 5 end)) e
    ∙ (ap (λ (t : Thread). spawned 5 end ∷ replicate 15 t) unspawned ∙ sym (laid_all end ts f))

pub bounds-threads-0 : goal.bounds-threads-0
bounds-threads-0 c =
    let l = lengths (read_code c.args.code.now) c.fresh_admitted-admitted.result (length c.args.registers.now) (length c.args.counts.now) (length c.args.threads.now) (sym c.is_ok.ensures.value ∙ c.if-is_ok.true) c.fresh_admitted-admitted.ensures in
    omega (arith, l.0, c.fill-then-is_ok-2.ensures.len)

pub returns : goal.returns
returns c =
    let code = c.args.code.now in
    let rs = c.args.registers.now in
    let ns = c.args.counts.now in
    let ts = c.args.threads.now in
    let a = c.fresh_admitted-admitted.result in
    let f = c.fresh_admitted-admitted.ensures in
    elim c.if-is_ok.branch [
      | then-is_ok w ↦
          let k = sym c.is_ok.ensures.value ∙ w.if-is_ok.true in
          let l = lengths (read_code code) a (length rs) (length ns) (length ts) k f in
          let registers : c.if-is_ok.registers ≡ cleared 64 rs = w.registers-is ∙ (w.fill.ensures.after (λ y e. search rules) ∙ (ap (λ (n : ℕ). replicate n (pos 0)) l.1 ∙ sym (cleared_all rs l.1))) in
          let counts : c.if-is_ok.counts ≡ forgotten 64 ns = w.counts-is ∙ (w.fill-then-is_ok.ensures.after (λ y e. search rules) ∙ (ap (λ (n : ℕ). replicate n 0) l.2 ∙ sym (forgotten_all ns l.2))) in
          let threads : c.if-is_ok.threads ≡ laid (length code) 16 ts =
          w.threads-is
          ∙ ((λ i. set ((w.fill-then-is_ok-2.ensures.after (λ y e. search rules) ∙ ap (replicate (length ts)) w.spawned.ensures) i) 0 (w.spawned-then-is_ok.ensures i))
          ∙ first_laid (length code) (length ts) ts l.0 l.0)
          in
          rw (c.fresh_reply.ensures, registers, counts, threads, admitted a k) (ap (by code rs ns ts) (sym (admitted a k) ∙ f) ∙ fresh_by_value code rs ns ts)
      | else-is_ok w ↦
          let k = sym c.is_ok.ensures.value ∙ w.if-is_ok.false in
          rw (c.fresh_reply.ensures, w.registers-is, w.counts-is, w.threads-is) (unaltered code rs ns ts a k ∙ (ap (by code rs ns ts) f ∙ fresh_by_value code rs ns ts))
    ]
