-- What a call comes to, by whether an accepted job compiles to its code. Assumes nothing.
use Prim.Native.Nat.{ℕ, ◌<◌, ◌≤◌}
use mathlib.Core.Bool.{Bool, true, false, cond}
use mathlib.Core.Path.{◌≡◌, refl}
use borrow.Author.Tests.{eqb-true, eq-eqb, ne_eqb, lt-ltb, le-ltb}
use lib.Dec.{eqb}
use Rattle.progress.specs.InnerProgress.{unless_refused, refusal_of, fresh_refusal_of, accepted_to, admitted_to, fresh_admitted_to, beginning}
use Rattle.progress.specs.declared.Progress.{Progress}
use Rattle.script.specs.Jobs.{Job}
use Rattle.script.specs.Outcome.{Outcome, refused, done}

-- foreign code
module _ (n p : ℕ) where
  pub foreign : (o : Outcome Job) → ◌≡◌ {A = Outcome (Unit {0})} (refused n p) (accepted_to o) → (fit : Bool) (threads picks : ℕ) → ◌≡◌ {A = Outcome Progress} (refused n p) (admitted_to o fit threads picks)
  unfolding refusal_of
  foreign (refused m q) e fit threads picks =
      let a : n ≡ 11 = cc in
      let b : p ≡ 0 = cc in
      λ i. refused (a i) (b i)
  foreign (done j) e fit threads picks = absurd (cc)

  pub fresh_foreign : (o : Outcome Job) → ◌≡◌ {A = Outcome (Unit {0})} (refused n p) (accepted_to o) → (registers counts records : ℕ) → ◌≡◌ {A = Outcome (Unit {0})} (refused n p) (fresh_admitted_to o registers counts records)
  unfolding fresh_refusal_of
  fresh_foreign (refused m q) e registers counts records =
      let a : n ≡ 11 = cc in
      let b : p ≡ 0 = cc in
      λ i. refused (a i) (b i)
  fresh_foreign (done j) e registers counts records = absurd (cc)

module _ {u : Unit {0}} where
  -- an accepted job's code, with a state and picks
  module _ (fit : Bool) (threads picks : ℕ) where
    pub unfit : (o : Outcome Job) → done u ≡ accepted_to o → fit ≡ false → ◌≡◌ {A = Outcome Progress} (refused 12 0) (admitted_to o fit threads picks)
    unfolding refusal_of
    unfit (refused m q) e f = absurd (cc)
    unfit (done j) e f = rw f

    pub long : (o : Outcome Job) → done u ≡ accepted_to o → fit ≡ true → 32768 < picks → ◌≡◌ {A = Outcome Progress} (refused 13 0) (admitted_to o fit threads picks)
    unfolding refusal_of
    long (refused m q) e f l = absurd (cc)
    long (done j) e f l = rw (f, lt-ltb 32768 picks l)

    pub begins : (o : Outcome Job) → done u ≡ accepted_to o → fit ≡ true → picks ≤ 32768 → ◌≡◌ {A = Outcome Progress} (done (beginning threads)) (admitted_to o fit threads picks)
    unfolding refusal_of
    begins (refused m q) e f l = absurd (cc)
    begins (done j) e f l = rw (f, le-ltb 32768 picks l)

  -- and where a fresh state is to be laid down
  pub laid : (registers counts records : ℕ) (o : Outcome Job) → done u ≡ accepted_to o → records ≡ 16 → registers ≡ 64 → counts ≡ 64 → done tt ≡ fresh_admitted_to o registers counts records
  unfolding fresh_refusal_of
  laid registers counts records (refused m q) e a b c = absurd (cc)
  laid registers counts records (done j) e a b c = rw (eq-eqb records 16 a, eq-eqb registers 64 b, eq-eqb counts 64 c)

  pub laid_lengths : (registers counts records : ℕ) (o : Outcome Job) → done u ≡ fresh_admitted_to o registers counts records → (records ≡ 16) × (registers ≡ 64) × (counts ≡ 64)
  unfolding fresh_refusal_of
  laid_lengths registers counts records (refused m q) e = absurd (cc)
  laid_lengths registers counts records (done j) e = go (eqb records 16) refl (eqb registers 64) refl (eqb counts 64) refl e
    where
      go : (a : Bool) → eqb records 16 ≡ a → (b : Bool) → eqb registers 64 ≡ b → (c : Bool) → eqb counts 64 ≡ c → done u ≡ unless_refused (cond a (cond b (cond c 0 12) 12) 12) tt → (records ≡ 16) × (registers ≡ 64) × (counts ≡ 64)
      go true x true y true z e = (eqb-true records 16 x, eqb-true registers 64 y, eqb-true counts 64 z)
      go true x true y false z e = absurd (cc)
      go true x false y c z e = absurd (cc)
      go false x b y c z e = absurd (cc)

  pub not_laid : (registers counts records : ℕ) (o : Outcome Job) → done u ≡ accepted_to o → ◌≡◌ {A = ℕ} (cond (eqb records 16) (cond (eqb registers 64) (cond (eqb counts 64) 0 12) 12) 12) 12 → refused 12 0 ≡ fresh_admitted_to o registers counts records
  unfolding fresh_refusal_of
  not_laid registers counts records (refused m q) e f = absurd (cc)
  not_laid registers counts records (done j) e f = rw f

module _ (registers counts records : ℕ) where
  abbrev lengths : ℕ
  lengths = cond (eqb records 16) (cond (eqb registers 64) (cond (eqb counts 64) 0 12) 12) 12

  pub other_records : (records ≡ 16 → ⊥) → lengths ≡ 12
  other_records n = rw (ne_eqb records 16 n)

  pub other_registers : records ≡ 16 → (registers ≡ 64 → ⊥) → lengths ≡ 12
  other_registers a n = rw (eq-eqb records 16 a, ne_eqb registers 64 n)

  pub other_counts : records ≡ 16 → registers ≡ 64 → (counts ≡ 64 → ⊥) → lengths ≡ 12
  other_counts a b n = rw (eq-eqb records 16 a, eq-eqb registers 64 b, ne_eqb counts 64 n)
