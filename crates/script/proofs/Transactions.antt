-- The value of a transaction is the one that the source's small steps reach, and no other. Assumes nothing.
use Prim.Native.Nat.{ℕ}
use mathlib.Core.Path.{◌≡◌, refl, ◌∙◌}
use lib.IntN.{ℤ}
use Rattle.script.specs.Tree.{Tran, ValT, AddT, Read, Write}
use Rattle.script.specs.Turns.{Registers, work}
use Rattle.script.specs.Source.{StepT, ReadT, WriteZ, WriteT, AddZT, AddRT, AddLT, StepsT, stop, then}
use Rattle.word.specs.Sum.{Rule}

module _ (sum : Rule) where
  -- ---- steps of a part are steps of the whole, and steps go on
  append : {h h' h'' : Registers} {e e' e'' : Tran} → StepsT sum h e h' e' → StepsT sum h' e' h'' e'' → StepsT sum h e h'' e''
  append stop more = more
  append (then s ss) more = then s (append ss more)

  under_write : {h h' : Registers} {e e' : Tran} (v : ℕ) → StepsT sum h e h' e' → StepsT sum h (Write v e) h' (Write v e')
  under_write v stop = stop
  under_write v (then s ss) = then (WriteT s) (under_write v ss)

  under_left : {h h' : Registers} {a a' : Tran} (b : Tran) → StepsT sum h a h' a' → StepsT sum h (AddT a b) h' (AddT a' b)
  under_left b stop = stop
  under_left b (then s ss) = then (AddLT s) (under_left b ss)

  under_right : {h h' : Registers} {b b' : Tran} (m : ℤ) → StepsT sum h b h' b' → StepsT sum h (AddT (ValT m) b) h' (AddT (ValT m) b')
  under_right m stop = stop
  under_right m (then s ss) = then (AddRT s) (under_right m ss)

  -- the source's steps reach what a transaction works out to
  pub work_reached : (t : Tran) (h : Registers) → StepsT sum h t (work sum t h).registers (ValT (work sum t h).value)
  unfolding work
  work_reached (ValT n) h = stop
  work_reached (AddT a b) h =
      let left = work sum a h in
      append (under_left b (work_reached a h))
      (append (under_right left.value (work_reached b left.registers)) (then AddZT stop))
  work_reached (Read v) h = then ReadT stop
  work_reached (Write v t) h = append (under_write v (work_reached t h)) (then WriteZ stop)

  -- a step keeps what a transaction works out to
  step_keeps : {h h' : Registers} {e e' : Tran} → StepT sum h e h' e' → work sum e h ≡ work sum e' h'
  unfolding work
  step_keeps ReadT = refl
  step_keeps WriteZ = refl
  step_keeps (WriteT s) = rw (step_keeps s)
  step_keeps AddZT = refl
  step_keeps (AddRT s) = rw (step_keeps s)
  step_keeps (AddLT s) = rw (step_keeps s)

  steps_keep : {h h' : Registers} {e e' : Tran} → StepsT sum h e h' e' → work sum e h ≡ work sum e' h'
  steps_keep stop = refl
  steps_keep (then s ss) = step_keeps s ∙ steps_keep ss

  -- the source's steps reach no other value and no other registers
  pub work_only : {h h' : Registers} {t : Tran} {n : ℤ} → StepsT sum h t h' (ValT n) → work sum t h ≡ record { value = n; registers = h' }
  unfolding work
  work_only ss = steps_keep ss
