-- The source's rules: which thread steps, and that its step is the only one. Assumes nothing.
use Prim.Native.Nat.{ℕ}
use mathlib.Core.Path.{◌≡◌, refl, ap, subst}
use mathlib.Core.Bool.{false}
use mathlib.Core.List.{List, [], ◌∷◌, ◌++◌}
use native.Mathlib.Omega.{arith}
use Rattle.stm.specs.Counted.{Table}
use Rattle.code.specs.Compile.{COMMIT, ◌⨾◌}
use Rattle.source.specs.Source.{SThread, thread, consistent, StepM, Preempt, ForkM, PushM, AddM, BeginM, ReadM, WriteM, Committed, Failed}
use Rattle.source.specs.Soup.{Name, First, rule_of, IsFor, ByRule}
use Rattle.stm.specs.Events.{Event}
use Rattle.word.specs.Sum.{Rule}

-- a step, its front taken off
pub record Peeled (sum : Rule) (h : Table) (soup : List SThread) (h' : Table) (soup' : List SThread) (name : Name) : Type 0 where
  pub front : List SThread
  pub m : SThread
  pub behind : List SThread
  pub left : List SThread
  pub was : soup ≡ front ++ (m ∷ behind)
  pub becomes : soup' ≡ front ++ left
  pub step : StepM sum h (m ∷ behind) h' left
  pub first : First step
  pub rule : rule_of step ≡ name

-- a thread's own step is one beside any other threads
pub record Own (sum : Rule) (h : Table) (m : SThread) (h' : Table) (behind left : List SThread) (name : Name) : Type 0 where
  pub m' : SThread
  pub new : List SThread
  pub leaves : left ≡ m' ∷ (new ++ behind)
  pub step : (others : List SThread) → StepM sum h (m ∷ others) h' (m' ∷ (new ++ others))
  pub rule : (others : List SThread) → rule_of (step others) ≡ name

module _ {sum : Rule} where
  later : {h h' : Table} (t : SThread) {s s' : List SThread} {name : Name} → Peeled sum h s h' s' name → Peeled sum h (t ∷ s) h' (t ∷ s') name
  later t p =
      record { front = t ∷ p.front; m = p.m; behind = p.behind; left = p.left; was = ap (λ (l : List SThread). t ∷ l) p.was; becomes = ap (λ (l : List SThread). t ∷ l) p.becomes; step = p.step; first = p.first; rule = p.rule }

  -- the rest of the soup makes progress
  pub preempted : {h h' : Table} (front : List SThread) {s s' : List SThread} → StepM sum h s h' s' → StepM sum h (front ++ s) h' (front ++ s')
  preempted [] x = x
  preempted (t ∷ front) x = Preempt (preempted front x)

  pub preempted_rule : {h h' : Table} (front : List SThread) {s s' : List SThread} (x : StepM sum h s h' s') → rule_of (preempted front x) ≡ rule_of x
  unfolding preempted rule_of
  preempted_rule [] x = refl
  preempted_rule (t ∷ front) x = preempted_rule front x

  -- the same step, its soup named otherwise
  pub named_same : {h h' : Table} {s t s' t' : List SThread} (e : Event) → s ≡ t → s' ≡ t' → ByRule sum h s h' s' e → ByRule sum h t h' t' e
  named_same {h} {h'} {s} {t} {s'} {t'} e a b x = subst (λ (l : List SThread). ByRule sum h t h' l e) b (subst (λ (l : List SThread). ByRule sum h l h' s' e) a x)

  pub renamed : {h h' : Table} {s t s' : List SThread} → s ≡ t → (x : StepM sum h s h' s') → (y : StepM sum h t h' s') × (rule_of y ≡ rule_of x)
  renamed {h} {h'} {s} {t} {s'} e x = subst (λ (l : List SThread). (y : StepM sum h l h' s') × (rule_of y ≡ rule_of x)) e (x, refl)

  -- every step is one of some thread
  pub peel : {h h' : Table} {s s' : List SThread} → (x : StepM sum h s h' s') → Peeled sum h s h' s' (rule_of x)
  unfolding First rule_of
  peel (Preempt {h} {h'} {t} x) = later t (peel x)
  peel ForkM = record { front = []; m = _; behind = _; left = _; was = refl; becomes = refl; step = ForkM; first = tt; rule = refl }
  peel PushM = record { front = []; m = _; behind = _; left = _; was = refl; becomes = refl; step = PushM; first = tt; rule = refl }
  peel AddM = record { front = []; m = _; behind = _; left = _; was = refl; becomes = refl; step = AddM; first = tt; rule = refl }
  peel BeginM = record { front = []; m = _; behind = _; left = _; was = refl; becomes = refl; step = BeginM; first = tt; rule = refl }
  peel ReadM = record { front = []; m = _; behind = _; left = _; was = refl; becomes = refl; step = ReadM; first = tt; rule = refl }
  peel WriteM = record { front = []; m = _; behind = _; left = _; was = refl; becomes = refl; step = WriteM; first = tt; rule = refl }
  peel (Committed e) = record { front = []; m = _; behind = _; left = _; was = refl; becomes = refl; step = Committed e; first = tt; rule = refl }
  peel (Failed e) = record { front = []; m = _; behind = _; left = _; was = refl; becomes = refl; step = Failed e; first = tt; rule = refl }

  -- a thread has one step
  pub only : {h h₁ h₂ : Table} {s s₁ s₂ : List SThread} → (x : StepM sum h s h₁ s₁) → First x → (y : StepM sum h s h₂ s₂) → First y → (h₁ ≡ h₂) × ((s₁ ≡ s₂) × (rule_of x ≡ rule_of y))
  unfolding First rule_of
  only (Preempt x) a y b = absurd a
  only ForkM a ForkM b = (refl, (refl, refl))
  only ForkM a (Preempt y) b = absurd b
  only PushM a PushM b = (refl, (refl, refl))
  only PushM a (Preempt y) b = absurd b
  only AddM a AddM b = (refl, (refl, refl))
  only AddM a (Preempt y) b = absurd b
  only BeginM a BeginM b = (refl, (refl, refl))
  only BeginM a (Preempt y) b = absurd b
  only ReadM a ReadM b = (refl, (refl, refl))
  only ReadM a (Preempt y) b = absurd b
  only WriteM a WriteM b = (refl, (refl, refl))
  only WriteM a (Preempt y) b = absurd b
  only (Committed e) a (Preempt y) b = absurd b
  only (Committed e) a (Committed f) b = (refl, (refl, refl))
  only (Committed e) a (Failed f) b = absurd (let z : ◌≡◌ {A = ℕ} 0 1 = cc in omega arith)
  only {h = h} (Failed {n = n} {c = c} {f = f} {σ = σ} {r = r} {w = w} {s = s} e) a y b = go y b e
    where
      go : {h' : Table} {s' : List SThread} (y : StepM sum h (thread (COMMIT ⨾ c) (n ∷ σ) f r w ∷ s) h' s') → First y → (e : consistent 64 0 r h.counts ≡ false) → (h ≡ h') × ((thread f σ f r w ∷ s ≡ s') × (rule_of {sum = sum} (Failed {h = h} {n = n} {c = c} {f = f} {σ = σ} {r = r} {w = w} {s = s} e) ≡ rule_of y))
      go (Preempt y) b e = absurd b
      go (Committed f) b e = absurd (let z : ◌≡◌ {A = ℕ} 0 1 = cc in omega arith)
      go (Failed f) b e = (refl, (refl, refl))

  pub own : {h h' : Table} {m : SThread} {behind left : List SThread} → (x : StepM sum h (m ∷ behind) h' left) → First x → Own sum h m h' behind left (rule_of x)
  unfolding First rule_of
  own (Preempt x) f = absurd f
  own ForkM f = record { m' = _; new = _ ∷ []; leaves = refl; step = λ others. ForkM; rule = λ others. refl }
  own PushM f = record { m' = _; new = []; leaves = refl; step = λ others. PushM; rule = λ others. refl }
  own AddM f = record { m' = _; new = []; leaves = refl; step = λ others. AddM; rule = λ others. refl }
  own BeginM f = record { m' = _; new = []; leaves = refl; step = λ others. BeginM; rule = λ others. refl }
  own ReadM f = record { m' = _; new = []; leaves = refl; step = λ others. ReadM; rule = λ others. refl }
  own WriteM f = record { m' = _; new = []; leaves = refl; step = λ others. WriteM; rule = λ others. refl }
  own (Committed e) f = record { m' = _; new = []; leaves = refl; step = λ others. Committed e; rule = λ others. refl }
  own (Failed e) f = record { m' = _; new = []; leaves = refl; step = λ others. Failed e; rule = λ others. refl }

-- the name of a rule says what it is for, so that rules for different instructions have different names
pub rule_is_for : {sum : Rule} {h h' : Table} {m : SThread} {behind left : List SThread} → (x : StepM sum h (m ∷ behind) h' left) → First x → IsFor (rule_of x) h m
unfolding First rule_of IsFor
rule_is_for (Preempt x) f = absurd f
rule_is_for ForkM f = (_, (_, refl))
rule_is_for PushM f = (_, (_, refl))
rule_is_for AddM f = (_, refl)
rule_is_for BeginM f = (_, refl)
rule_is_for ReadM f = (_, (_, refl))
rule_is_for WriteM f = (_, (_, refl))
rule_is_for (Committed e) f = (_, (refl, e))
rule_is_for (Failed e) f = (_, (refl, e))
