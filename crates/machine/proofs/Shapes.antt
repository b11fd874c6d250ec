-- At each place of a thread's own code stands code that can be run from there: what the walk leaves is what that code needs. Assumes nothing.
use Prim.Native.Nat.{ℕ, zero, suc, ◌+◌, ◌-◌, ◌≤◌, ◌<◌}
use mathlib.Core.Path.{◌≡◌, refl, sym, subst, ◌∙◌}
use mathlib.Core.List.{List}
use native.Mathlib.Omega.{arith}
use lib.ListN.{drop}
use Rattle.code.specs.Compile.{Instruction, Code, PUSH, ADD, READ, WRITE, BEGIN, COMMIT, FORK, ε, ◌⨾◌}
use Rattle.code.specs.Ops.{Op, op_at}
use Rattle.script.specs.Outcome.{done}
use Rattle.machine.specs.Fits.{Walked, shut, walk_op, next_place, Walks, starts, passes}
use Rattle.machine.proofs.Walking.{same_op, not_before, no_adds}
use Rattle.machine.specs.InnerStands.{op_of, Ready, undone}
use Rattle.machine.proofs.Codes.{stands_end, ready_op, ready_next}
use Rattle.stm.specs.InnerMeaning.{taking1, taking2, TakesOutside, TakesInside, Outside, Inside, behind}

pub taking_two : (P : ℕ → Type 0) (h : ℕ) → taking2 P h → 2 ≤ h
taking_two P zero t = absurd t
taking_two P (suc zero) t = absurd t
taking_two P (suc (suc h)) t = omega arith

pub taking_less : (P : ℕ → Type 0) (h : ℕ) → taking2 P h → P (h - 1)
taking_less P zero t = absurd t
taking_less P (suc zero) t = absurd t
taking_less P (suc (suc h)) t = subst P (let e : suc h ≡ suc (suc h) - 1 = omega arith in e) t

pub taking_one : (P : ℕ → Type 0) (h : ℕ) → taking1 P h → P h
taking_one P zero t = absurd t
taking_one P (suc h) t = t

-- an open transaction: its BEGIN is at the place noted
pub record Begun (bytes : List ℕ) (start end : ℕ) (w : Walked) (body c : Code) : Type 0 where
  pub somewhere : 1 ≤ w.begin
  pub again : Ready bytes w.begin end (BEGIN ⨾ body) w.base
  pub outside : Outside (BEGIN ⨾ body) w.base
  pub walks : Walks bytes start end w.begin (undone w)
  pub same : behind c ≡ behind body

pub data Shape (bytes : List ℕ) (start end place : ℕ) (w : Walked) : Type 0 where
  out : (c : Code) → Ready bytes place end c w.height → Outside c w.height → w.begin ≡ 0 → w.base ≡ 0 → Shape bytes start end place w
  open' : (body c : Code) (k : ℕ) → Ready bytes place end c w.height → Inside c k w.base → w.height ≡ k + w.base → Begun bytes start end w body c → Shape bytes start end place w

shut_same : (w : Walked) → w.begin ≡ 0 → w.base ≡ 0 → w.adds ≡ 0 → shut w ≡ w
shut_same w b c a = λ i. record { height = w.height; begin = sym b i; base = sym c i; adds = sym a i; commits = w.commits; children = w.children }

module _ {bytes : List ℕ} {start end : ℕ} where
  -- where no transaction is open
  shut_walk : {place : ℕ} (w : Walked) → w.begin ≡ 0 → w.base ≡ 0 → Walks bytes start end place w → Walks bytes start end place (shut w)
  shut_walk {place} w b c ws = subst (λ (x : Walked). Walks bytes start end place x) (sym (shut_same w b c (no_adds bytes start end ws b))) ws

  module _ (place : ℕ) (w : Walked) (started : 1 ≤ place) (ws : Walks bytes start end place w) where
    abbrev After : Op → Type 0
    After op = Shape bytes start end (next_place op place) (walk_op op place w)

    from_outside : (i : Instruction) (c : Code) → Ready bytes place end (i ⨾ c) w.height → Outside (i ⨾ c) w.height → w.begin ≡ 0 → w.base ≡ 0 → After (op_of i)
    unfolding walk_op Outside TakesOutside
    from_outside (PUSH n) c r o b z = out c (ready_next r) o b z
    from_outside ADD c r o b z = out c (ready_next r) (taking_less (λ (x : ℕ). Outside c x) w.height o) b z
    from_outside (READ v) c r o b z = absurd o
    from_outside (WRITE v) c r o b z = absurd o
    from_outside BEGIN c r o b z =
        open' c c 0 (ready_next r) o (omega arith) (record { somewhere = started; again = r; outside = o; walks = shut_walk w b z ws; same = refl })
    from_outside COMMIT c r o b z = absurd o
    from_outside (FORK k) c r o b z = out c (ready_next r) o.1 b z

    from_inside : (i : Instruction) (body c : Code) (k : ℕ) → Ready bytes place end (i ⨾ c) w.height → Inside (i ⨾ c) k w.base → w.height ≡ k + w.base → Begun bytes start end w body (i ⨾ c) → After (op_of i)
    unfolding walk_op Inside TakesInside behind
    from_inside (PUSH n) body c k r o e g =
        open' body c (suc k) (ready_next r) o (let f : w.height ≡ k + w.base = e in omega arith) (record { somewhere = g.somewhere; again = g.again; outside = g.outside; walks = g.walks; same = g.same })
    from_inside ADD body c k r o e g =
        let two = taking_two (λ (x : ℕ). Inside c x w.base) k o in
        open' body c (k - 1) (ready_next r) (taking_less (λ (x : ℕ). Inside c x w.base) k o) (let f : w.height ≡ k + w.base = e in omega arith) (record { somewhere = g.somewhere; again = g.again; outside = g.outside; walks = g.walks; same = g.same })
    from_inside (READ v) body c k r o e g =
        open' body c (suc k) (ready_next r) o.1 (let f : w.height ≡ k + w.base = e in omega arith) (record { somewhere = g.somewhere; again = g.again; outside = g.outside; walks = g.walks; same = g.same })
    from_inside (WRITE v) body c k r o e g =
        open' body c k (ready_next r) (taking_one (λ (x : ℕ). Inside c x w.base) k o.1) e (record { somewhere = g.somewhere; again = g.again; outside = g.outside; walks = g.walks; same = g.same })
    from_inside BEGIN body c k r o e g = absurd o
    from_inside COMMIT body c k r o e g =
        let one : k ≡ 1 = o.0 in
        let f : w.height ≡ k + w.base = e in
        out c (ready_next r) (subst (λ (x : ℕ). Outside c x) (let h : suc w.base ≡ w.height = omega arith in h) o.1) refl refl
    from_inside (FORK m) body c k r o e g = absurd o

    onward : (op : Op) → place < end → op_at (drop place bytes) ≡ done op → Shape bytes start end place w → After op
    onward op l e (out ε r o b z) = absurd (let x = stands_end r.stands in omega arith)
    onward op l e (out (i ⨾ c) r o b z) = subst After (same_op (sym (ready_op r) ∙ e)) (from_outside i c r o b z)
    onward op l e (open' body ε k r o h g) = absurd (let x = stands_end r.stands in omega arith)
    onward op l e (open' body (i ⨾ c) k r o h g) = subst After (same_op (sym (ready_op r) ∙ e)) (from_inside i body c k r o h g)

  -- every place of a thread's own code has its shape
  pub shape : {k : Code} → Ready bytes start end k 0 → Outside k 0 → 1 ≤ start → {place : ℕ} {w : Walked} → Walks bytes start end place w → Shape bytes start end place w
  shape {k} r o s starts = out k r o refl refl
  shape {k} r o s (passes {place} {w} {op} ws l e) =
      let n = not_before bytes start end ws in
      onward place w (omega arith) ws op l e (shape r o s ws)
