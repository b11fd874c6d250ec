-- Source 5.1.2 and 5.1.3: the reduction rules for transactions and for the soup of processes, as printed there.
-- Changed are only the sum, which is the rule's, and the heap, which is the table of 64 registers.
use Rattle.std.specs.Prelude.{ℕ, List, ◌∷◌, ℤ, pos, get_or, set}
use Rattle.script.specs.Tree.{Tran, ValT, AddT, Read, Write, Proc, ValP, AddP, Atomic, Fork}
use Rattle.script.specs.Turns.{Registers}
use Rattle.word.specs.Sum.{Rule}

-- `h ? v`
abbrev pub lookup : Registers → ℕ → ℤ
lookup h v = get_or h v (pos 0)

-- `h ⊎ {v ↦ n}`
abbrev pub update : Registers → ℕ → ℤ → Registers
update h v n = set h v n

-- ⟨h, e⟩ ↦T ⟨h', e'⟩
pub data StepT (sum : Rule) : Registers → Tran → Registers → Tran → Type 0 where
  ReadT : {h : Registers} {v : ℕ} → StepT sum h (Read v) h (ValT (lookup h v))
  WriteZ : {h : Registers} {v : ℕ} {n : ℤ} → StepT sum h (Write v (ValT n)) (update h v n) (ValT n)
  WriteT : {h h' : Registers} {v : ℕ} {e e' : Tran} → StepT sum h e h' e' → StepT sum h (Write v e) h' (Write v e')
  AddZT : {h : Registers} {m n : ℤ} → StepT sum h (AddT (ValT m) (ValT n)) h (ValT (sum m n))
  AddRT : {h h' : Registers} {m : ℤ} {b b' : Tran} → StepT sum h b h' b' → StepT sum h (AddT (ValT m) b) h' (AddT (ValT m) b')
  AddLT : {h h' : Registers} {a a' b : Tran} → StepT sum h a h' a' → StepT sum h (AddT a b) h' (AddT a' b)

-- ↦T*, "the reflexive, transitive closure"
pub data StepsT (sum : Rule) : Registers → Tran → Registers → Tran → Type 0 where
  stop : {h : Registers} {e : Tran} → StepsT sum h e h e
  then : {h h' h'' : Registers} {e e' e'' : Tran} → StepT sum h e h' e' → StepsT sum h' e' h'' e'' → StepsT sum h e h'' e''

-- ⟨h, s⟩ ↦P ⟨h', s'⟩
pub data StepP (sum : Rule) : Registers → List Proc → Registers → List Proc → Type 0 where
  Preempt : {h h' : Registers} {p : Proc} {s s' : List Proc} → StepP sum h s h' s' → StepP sum h (p ∷ s) h' (p ∷ s')
  ForkP : {h : Registers} {p : Proc} {s : List Proc} → StepP sum h (Fork p ∷ s) h (ValP (pos 0) ∷ p ∷ s)
  AtomicP : {h h' : Registers} {e : Tran} {n : ℤ} {s : List Proc} → StepsT sum h e h' (ValT n) → StepP sum h (Atomic e ∷ s) h' (ValP n ∷ s)
  AddZP : {h : Registers} {m n : ℤ} {s : List Proc} → StepP sum h (AddP (ValP m) (ValP n) ∷ s) h (ValP (sum m n) ∷ s)
  AddRP : {h h' : Registers} {m : ℤ} {b b' : Proc} {s s' : List Proc} →
      StepP sum h (b ∷ s) h' (b' ∷ s') →
      StepP sum h (AddP (ValP m) b ∷ s) h' (AddP (ValP m) b' ∷ s')
  AddLP : {h h' : Registers} {a a' b : Proc} {s s' : List Proc} →
      StepP sum h (a ∷ s) h' (a' ∷ s') →
      StepP sum h (AddP a b ∷ s) h' (AddP a' b ∷ s')
