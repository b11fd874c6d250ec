-- Source 5.2.4: the virtual machine, on threads that carry their code. Changed are the sum, which is the rule's; the heap, which is the table of
-- 64 registers with a count beside each value; the logs, which are functions in place of finite maps, a read log's integers having the counts of
-- then beside them; and, since document 02 No. 6 "replaces document 01's test by value", one premise: where COMMIT is printed with `r ⊆ h`, it is
-- asked that the counts of r are the heap's. Everything else is as printed. What of `r ⊆ h` holds of every run, guarantee/specs/Staleness says.
use Rattle.std.specs.Prelude.{ℕ, zero, suc, ◌≡◌, Bool, true, false, cond, ◌&&◌, List, [], ◌∷◌, eqb, ℤ, pos, get_or, set}
use Rattle.std.proofs.Math.Option.{Option, none, some}
use Rattle.code.specs.Compile.{Code, PUSH, ADD, READ, WRITE, BEGIN, COMMIT, FORK, ε, ◌⨾◌}
use Rattle.script.specs.Turns.{Registers}
use Rattle.stm.specs.Counted.{Counted, Table}
use Rattle.word.specs.Sum.{Rule}

-- `type Log = Map Var Integer`; the read log's integers have their counts beside them
abbrev pub Log : Type 0 → Type 0
Log A = ℕ → Option A

-- the empty log
abbrev pub empty : {A : Type 0} → Log A
empty v = none

-- `r ⊎ {v ↦ n}`
abbrev pub updated : {A : Type 0} → Log A → ℕ → A → Log A
updated log v n u = cond (eqb u v) (some n) (log u)

-- `type Thread = (Code, Stack, Code, Log, Log)`
pub record SThread : Type 0 where
  pub code : Code
  pub stack : List ℤ
  pub again : Code
  pub reads : Log Counted
  pub writes : Log ℤ

-- `(c, σ, f, r, w)`
abbrev pub thread : Code → List ℤ → Code → Log Counted → Log ℤ → SThread
thread c σ f r w = record { code = c; stack = σ; again = f; reads = r; writes = w }

-- `halted ([], n : [], _, _, _) = Just n`
pub record Halted (m : SThread) (n : ℤ) : Type 0 where
  pub code : m.code ≡ ε
  pub stack : m.stack ≡ n ∷ []

-- READ: the value, and the read log after it
pub record Looked : Type 0 where
  pub value : ℤ
  pub reads : Log Counted

-- the value in the write log if there, else in the read log if there, else the table's, which enters the read log
abbrev pub looked_up : (written : Option ℤ) (logged : Option Counted) (now : Counted) → Log Counted → ℕ → Looked
looked_up (some n) logged h r v = record { value = n; reads = r }
looked_up none (some c) h r v = record { value = c.value; reads = r }
looked_up none none h r v = record { value = h.value; reads = updated r v h }

-- a register of the heap
abbrev pub register_at : Table → ℕ → Counted
register_at h v = record { value = get_or h.registers v (pos 0); count = get_or h.counts v 0 }

-- READ of v, with the heap and both logs
unfoldable pub look_up : Table → ℕ → Log Counted → Log ℤ → Looked
look_up h v r w = looked_up (w v) (r v) (register_at h v) r v

-- in place of `r ⊆ h`, by which a logged register would have its value in the heap: it has its count there, so no commit has written it since
abbrev pub agrees : Option Counted → (count : ℕ) → Bool
agrees none n = true
agrees (some c) n = eqb c.count n

-- so of every register from v on, `left` of them being left
unfoldable pub consistent : (left v : ℕ) → Log Counted → (counts : List ℕ) → Bool
consistent zero v r ns = true
consistent (suc left) v r ns = agrees (r v) (get_or ns v 0) && consistent left (suc v) r ns

-- `h ⊎ w`, of one register
abbrev pub entered : Option ℤ → ℕ → Registers → Registers
entered none v h = h
entered (some n) v h = set h v n

-- the write log goes into the table, from register v on, `left` of them being left
unfoldable pub overridden : (left v : ℕ) → Registers → Log ℤ → Registers
overridden zero v h w = h
overridden (suc left) v h w = overridden left (suc v) (entered (w v) v h) w

-- a register of w is written once more
abbrev pub raised : Option ℤ → ℕ → List ℕ → List ℕ
raised none v ns = ns
raised (some n) v ns = set ns v (suc (get_or ns v 0))

-- so of every register from v on, `left` of them being left
unfoldable pub counted : (left v : ℕ) → List ℕ → Log ℤ → List ℕ
counted zero v ns w = ns
counted (suc left) v ns w = counted left (suc v) (raised (w v) v ns) w

-- `h ⊎ w`, the registers of w being written once more
abbrev pub united : Table → Log ℤ → Table
united h w = record { registers = overridden 64 0 h.registers w; counts = counted 64 0 h.counts w }

-- ⟨h, s⟩ ↦M ⟨h', s'⟩, rule by rule, in the source's order; COMMIT is two constructors, one for each case
pub data StepM (sum : Rule) : Table → List SThread → Table → List SThread → Type 0 where
  Preempt :
      {h h' : Table} {t : SThread} {s s' : List SThread} →
      StepM sum h s h' s' →
      StepM sum h (t ∷ s) h' (t ∷ s')
  ForkM :
      {h : Table} {c' c f : Code} {σ : List ℤ} {r : Log Counted} {w : Log ℤ} {s : List SThread} →
      StepM sum h (thread (FORK c' ⨾ c) σ f r w ∷ s) h (thread c (pos 0 ∷ σ) f r w ∷ thread c' [] ε empty empty ∷ s)
  PushM :
      {h : Table} {n : ℤ} {c f : Code} {σ : List ℤ} {r : Log Counted} {w : Log ℤ} {s : List SThread} →
      StepM sum h (thread (PUSH n ⨾ c) σ f r w ∷ s) h (thread c (n ∷ σ) f r w ∷ s)
  AddM :
      {h : Table} {m n : ℤ} {c f : Code} {σ : List ℤ} {r : Log Counted} {w : Log ℤ} {s : List SThread} →
      StepM sum h (thread (ADD ⨾ c) (n ∷ m ∷ σ) f r w ∷ s) h (thread c (sum m n ∷ σ) f r w ∷ s)
  BeginM :
      {h : Table} {c f : Code} {σ : List ℤ} {r : Log Counted} {w : Log ℤ} {s : List SThread} →
      StepM sum h (thread (BEGIN ⨾ c) σ f r w ∷ s) h (thread c σ (BEGIN ⨾ c) empty empty ∷ s)
  ReadM :
      {h : Table} {v : ℕ} {c f : Code} {σ : List ℤ} {r : Log Counted} {w : Log ℤ} {s : List SThread} →
      StepM sum h (thread (READ v ⨾ c) σ f r w ∷ s) h (thread c ((look_up h v r w).value ∷ σ) f (look_up h v r w).reads w ∷ s)
  WriteM :
      {h : Table} {v : ℕ} {n : ℤ} {c f : Code} {σ : List ℤ} {r : Log Counted} {w : Log ℤ} {s : List SThread} →
      StepM sum h (thread (WRITE v ⨾ c) (n ∷ σ) f r w ∷ s) h (thread c (n ∷ σ) f r (updated w v n) ∷ s)
  Committed :
      {h : Table} {n : ℤ} {c f : Code} {σ : List ℤ} {r : Log Counted} {w : Log ℤ} {s : List SThread} →
      consistent 64 0 r h.counts ≡ true →
      StepM sum h (thread (COMMIT ⨾ c) (n ∷ σ) f r w ∷ s) (united h w) (thread c (n ∷ σ) f r w ∷ s)
  Failed :
      {h : Table} {n : ℤ} {c f : Code} {σ : List ℤ} {r : Log Counted} {w : Log ℤ} {s : List SThread} →
      consistent 64 0 r h.counts ≡ false →
      StepM sum h (thread (COMMIT ⨾ c) (n ∷ σ) f r w ∷ s) h (thread f σ f r w ∷ s)

-- ↦M*, any number of steps
pub data StepsM (sum : Rule) : Table → List SThread → Table → List SThread → Type 0 where
  stop : {h : Table} {s : List SThread} → StepsM sum h s h s
  then : {h h' h'' : Table} {s s' s'' : List SThread} → StepM sum h s h' s' → StepsM sum h' s' h'' s'' → StepsM sum h s h'' s''
