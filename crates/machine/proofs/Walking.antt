-- The walk along a thread's own code: the function finds what the relation has, which is one for each place. Assumes nothing.
use Prim.Native.Nat.{ℕ, zero, suc, ◌+◌, ◌≤◌, ◌<◌}
use mathlib.Core.Bool.{Bool, true, false, cond}
use mathlib.Core.Path.{◌≡◌, refl, sym, subst, ◌∙◌}
use mathlib.Core.List.{List}
use mathlib.Core.Option.{Option, none, some}
use native.Mathlib.Omega.{arith}
use borrow.Author.Tests.{eqb-true, eq-eqb, ne_eqb, lt-ltb, ltb-true}
use lib.Dec.{eqb, ltb}
use lib.ListN.{drop}
use Rattle.machine.specs.Fits.{Walked, unmoved, walk_op, next_place, Walks, starts, passes}
use Rattle.machine.specs.FitTest.{going_on, walk}
use Rattle.code.specs.Ops.{Op, op_at}
use Rattle.code.specs.Ops as code
use Rattle.script.specs.Outcome.{Outcome, refused, done}

pub next_after : (op : Op) (q : ℕ) → q < next_place op q
unfolding next_place
next_after (code.push n) q = omega arith
next_after code.add q = omega arith
next_after (code.read v) q = omega arith
next_after (code.write v) q = omega arith
next_after code.begin q = omega arith
next_after code.commit q = omega arith
next_after (code.fork size) q = omega arith

-- two instructions read at one place are one
pub same_op : {a b : Op} → ◌≡◌ {A = Outcome Op} (done a) (done b) → a ≡ b
same_op e = cc

module _ (bytes : List ℕ) (start end : ℕ) where
  -- the same, told from the front
  data Ahead : ℕ → Walked → ℕ → Walked → Type 0 where
    stop : {p : ℕ} {w : Walked} → Ahead p w p w
    go : {p q : ℕ} {w v : Walked} {op : Op} → p < end → op_at (drop p bytes) ≡ done op → Ahead (next_place op p) (walk_op op p w) q v → Ahead p w q v

  further : {p q : ℕ} {w v : Walked} {op : Op} → Ahead p w q v → q < end → op_at (drop q bytes) ≡ done op → Ahead p w (next_place op q) (walk_op op q v)
  further stop l e = go l e stop
  further (go l e a) l' e' = go l e (further a l' e')

  ahead : {p : ℕ} {w : Walked} → Walks bytes start end p w → Ahead start unmoved p w
  ahead starts = stop
  ahead (passes ws l e) = further (ahead ws) l e

  rises : {p q : ℕ} {w v : Walked} → Ahead p w q v → p ≤ q
  rises stop = omega arith
  rises (go {p} {q} {op = op} l e a) = let r = rises a in let n = next_after op p in omega arith

  -- no place is before the start
  pub not_before : {p : ℕ} {w : Walked} → Walks bytes start end p w → start ≤ p
  not_before ws = rises (ahead ws)

  between : {p q r : ℕ} {u w v : Walked} {op : Op} → Ahead r u p w → Ahead r u q v → op_at (drop p bytes) ≡ done op → p < q → next_place op p ≤ q
  between stop stop o l = absurd (omega arith)
  between {p} {q} {op = op} stop (go {op = op'} lt e a) o l =
      let s : op' ≡ op = same_op (sym e ∙ o) in
      subst (λ (x : Op). next_place x p ≤ q) s (rises a)
  between {p} {q} (go {op = op'} lt e a) stop o l = absurd (let r = rises a in let n = next_after op' q in omega arith)
  between {q = q} {r = r} {u = u} {v = v} (go {op = a'} lt e a) (go {op = b'} lt' e' b) o l =
      let s : b' ≡ a' = same_op (sym e' ∙ e) in
      between a (subst (λ (x : Op). Ahead (next_place x r) (walk_op x r u) q v) s b) o l

  -- no place lies between one and the next
  pub none_between : {p q : ℕ} {w v : Walked} {op : Op} → Walks bytes start end p w → op_at (drop p bytes) ≡ done op → Walks bytes start end q v → p < q → next_place op p ≤ q
  none_between a o b l = between (ahead a) (ahead b) o l

  finds : {p q : ℕ} {w v : Walked} → Ahead p w q v → (fuel : ℕ) → q < p + fuel → walk fuel bytes end q p w ≡ some v
  unfolding walk
  finds {p} stop zero l = absurd (omega arith)
  finds {p} stop (suc fuel) l = rw (walk, eq-eqb p p refl)
  finds {p} {q} (go {op = op} lt e a) zero l = absurd (let r = rises a in let n = next_after op p in omega arith)
  finds {p} {q} {w} {v} (go {op = op} lt e a) (suc fuel) l =
      let r = rises a in
      let n = next_after op p in
      rw (walk, ne_eqb p q (λ x. absurd (omega arith)), lt-ltb p end lt, e) (finds a fuel (omega arith))

  pub walks_found : {p : ℕ} {w : Walked} → Walks bytes start end p w → walk (suc p) bytes end p start unmoved ≡ some w
  walks_found {p} ws = finds (ahead ws) (suc p) (omega arith)

  -- what the instructions before a place leave is one
  pub walks_once : {p : ℕ} {w v : Walked} → Walks bytes start end p w → Walks bytes start end p v → w ≡ v
  walks_once {p} {w} {v} a b = some_same (sym (walks_found a) ∙ walks_found b)
    where
      some_same : ◌≡◌ {A = Option Walked} (some w) (some v) → w ≡ v
      some_same e = cc

  -- ADDs are counted in open transactions only, and each takes a byte
  pub no_adds : {p : ℕ} {w : Walked} → Walks bytes start end p w → w.begin ≡ 0 → w.adds ≡ 0
  unfolding walk_op
  no_adds starts z = refl
  no_adds (passes {place} {w} {op} ws l e) z = one op w z (λ y. no_adds ws y)
    where
      one : (op : Op) (w : Walked) → (walk_op op place w).begin ≡ 0 → (w.begin ≡ 0 → w.adds ≡ 0) → (walk_op op place w).adds ≡ 0
      one (code.push n) w z f = f z
      one code.add w z f = rw (eq-eqb w.begin 0 z)
      one (code.fork size) w z f = f z
      one code.begin w z f = refl
      one (code.read v) w z f = f z
      one (code.write v) w z f = f z
      one code.commit w z f = refl

  pub adds_low : {p : ℕ} {w : Walked} → Walks bytes start end p w → w.adds + start ≤ p
  unfolding walk_op next_place
  adds_low starts = omega arith
  adds_low (passes {place} {w} {op} ws l e) = one op w (adds_low ws)
    where
      one : (op : Op) (w : Walked) → w.adds + start ≤ place → (walk_op op place w).adds + start ≤ next_place op place
      one (code.push n) w f = omega arith
      one code.add w f = go (eqb w.begin 0)
        where
          go : (b : Bool) → cond b 0 (suc w.adds) + start ≤ place + 1
          go true = omega arith
          go false = omega arith
      one (code.fork size) w f = omega arith
      one code.begin w f = let n = not_before ws in omega arith
      one (code.read v) w f = omega arith
      one (code.write v) w f = omega arith
      one code.commit w f = let n = not_before ws in omega arith

  -- what the function finds is walked
  pub found_walks : (fuel q p : ℕ) (w v : Walked) → Walks bytes start end p w → walk fuel bytes end q p w ≡ some v → Walks bytes start end q v
  unfolding walk
  found_walks zero q p w v ws e = absurd (let z : ◌≡◌ {A = ℕ} 0 1 = cc in omega arith)
  found_walks (suc fuel) q p w v ws e = one (λ op x. found_walks fuel q (next_place op p) (walk_op op p w) v x) (eqb p q) refl e
    where
      Again : Type 0
      Again = (op : Op) → Walks bytes start end (next_place op p) (walk_op op p w) → walk fuel bytes end q (next_place op p) (walk_op op p w) ≡ some v → Walks bytes start end q v

      three : Again → (o : Outcome Op) → op_at (drop p bytes) ≡ o → ltb p end ≡ true → going_on o (λ op. walk fuel bytes end q (next_place op p) (walk_op op p w)) ≡ some v → Walks bytes start end q v
      three k (refused n m) t l x = absurd (let z : ◌≡◌ {A = ℕ} 0 1 = cc in omega arith)
      three k (done op) t l x = k op (passes ws (ltb-true p end l) t) x

      two : Again → (b : Bool) → ltb p end ≡ b → elim b [
        | true ↦ going_on (op_at (drop p bytes)) (λ op. walk fuel bytes end q (next_place op p) (walk_op op p w))
        | false ↦ none
      ] ≡ some v → Walks bytes start end q v
      two k true t x = three k (op_at (drop p bytes)) refl t x
      two k false t x = absurd (let z : ◌≡◌ {A = ℕ} 0 1 = cc in omega arith)

      one : Again → (b : Bool) → eqb p q ≡ b → elim b [
        | true ↦ some w
        | false ↦ elim (ltb p end) [
          | true ↦ going_on (op_at (drop p bytes)) (λ op. walk fuel bytes end q (next_place op p) (walk_op op p w))
          | false ↦ none
        ]
      ] ≡ some v → Walks bytes start end q v
      one k true t x = let y : w ≡ v = cc in subst (λ (z : Walked). Walks bytes start end q z) y (subst (λ (z : ℕ). Walks bytes start end z w) (eqb-true p q t) ws)
      one k false t x = two k (ltb p end) refl x
