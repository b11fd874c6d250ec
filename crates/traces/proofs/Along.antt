-- A walk along a thread's own code passes each of its instructions, and no other; its heights are those of the code. Assumes nothing.
use Prim.Native.Nat.{ℕ, ◌≤◌, ◌<◌, max}
use mathlib.Core.Path.{◌≡◌, refl, sym, subst, ap, ◌∙◌}
use mathlib.Core.List.{List}
use native.Mathlib.Omega.{arith}
use native.Mathlib.Decide.{dec_lt}
use lib.ListN.{drop}
use Rattle.code.specs.Compile.{Instruction, Code, PUSH, ADD, READ, WRITE, BEGIN, COMMIT, FORK, ε, ◌⨾◌, compile_p}
use Rattle.code.specs.InnerHeights.{height_after, end_height, greatest}
use Rattle.code.specs.Ops.{Op, op_at}
use Rattle.code.specs.Ops as code
use Rattle.code.proofs.Heights.{one-left, greatest_least}
use Rattle.machine.specs.Fits.{Walked, unmoved, walk_op, next_place, Walks, starts, passes, In, there}
use Rattle.machine.specs.InnerStands.{op_of, Ready}
use Rattle.machine.specs.Steps.{Child}
use Rattle.machine.proofs.Codes.{stands_end, stands_inside, ready_op, ready_next}
use Rattle.machine.proofs.Walking.{same_op, not_before, walks_once}
use Rattle.script.specs.Outcome.{done}
use Rattle.script.specs.Tree.{Proc}

-- an instruction of own code, not of a FORK's child
pub data Own (x : Instruction) : Code → Type 0 where
  own_first : {c : Code} → Own x (x ⨾ c)
  own_later : {i : Instruction} {c : Code} → Own x c → Own x (i ⨾ c)

walk_height : (i : Instruction) (q : ℕ) (w : Walked) → (walk_op (op_of i) q w).height ≡ height_after i w.height
unfolding walk_op
walk_height (PUSH n) q w = refl
walk_height ADD q w = refl
walk_height (READ v) q w = refl
walk_height (WRITE v) q w = refl
walk_height BEGIN q w = refl
walk_height COMMIT q w = refl
walk_height (FORK k) q w = refl

-- children stay passed
walk_children : (op : Op) (q : ℕ) (w : Walked) (x : Child) → In x w.children → In x (walk_op op q w).children
unfolding walk_op
walk_children (code.push n) q w x i = i
walk_children code.add q w x i = i
walk_children (code.read v) q w x i = i
walk_children (code.write v) q w x i = i
walk_children code.begin q w x i = i
walk_children code.commit q w x i = i
walk_children (code.fork n) q w x i = there i

end_greatest : (c : Code) (h : ℕ) → end_height c h ≤ greatest c h
unfolding end_height greatest
end_greatest ε h = omega arith
end_greatest (i ⨾ c) h = omega (arith, end_greatest c (height_after i h))

-- a process's code leaves a number
pub some_height : (p : Proc) → 1 ≤ greatest (compile_p p ε) 0
some_height p = omega (arith, one-left p, end_greatest (compile_p p ε) 0)

-- the open transaction's BEGIN is behind nothing that is not passed
pub begin_below : {bytes : List ℕ} {start end p : ℕ} {w : Walked} → Walks bytes start end p w → w.begin ≤ p
unfolding walk_op next_place
begin_below starts = omega arith
begin_below (passes {place} {w} {op} ws l e) = go op (begin_below ws)
  where
    go : (op : Op) → w.begin ≤ place → (walk_op op place w).begin ≤ next_place op place
    go (code.push n) b = omega arith
    go code.add b = omega arith
    go (code.read v) b = omega arith
    go (code.write v) b = omega arith
    go code.begin b = omega arith
    go code.commit b = omega arith
    go (code.fork n) b = omega arith

module _ (bytes : List ℕ) (start end : ℕ) where
  -- ---- from the code to places
  -- code that is ready where a walk has come to: its first instruction is passed next
  pub next_walk : {q : ℕ} {w : Walked} {i : Instruction} {c : Code} → Ready bytes q end (i ⨾ c) w.height → Walks bytes start end q w → Walks bytes start end (next_place (op_of i) q) (walk_op (op_of i) q w)
  next_walk r ws = passes ws (stands_inside r.stands) (ready_op r)

  pub next_ready : {q : ℕ} (w : Walked) {i : Instruction} {c : Code} → Ready bytes q end (i ⨾ c) w.height → Ready bytes (next_place (op_of i) q) end c (walk_op (op_of i) q w).height
  next_ready {q} w {i} {c} r = subst (λ (h : ℕ). Ready bytes (next_place (op_of i) q) end c h) (sym (walk_height i q w)) (ready_next r)

  -- a place where this instruction stands
  pub record Place (i : Instruction) : Type 0 where
    pub place : ℕ
    pub walked : Walked
    pub walks : Walks bytes start end place walked
    pub inside : place < end
    pub stands : op_at (drop place bytes) ≡ done (op_of i)

  pub place_of : (x : Instruction) {q : ℕ} {w : Walked} {c : Code} → Own x c → Ready bytes q end c w.height → Walks bytes start end q w → Place x
  place_of x {q} {w} own_first r ws = record { place = q; walked = w; walks = ws; inside = stands_inside r.stands; stands = ready_op r }
  place_of x {q} {w} (own_later {i = i} o) r ws = place_of x {q = next_place (op_of i) q} {w = walk_op (op_of i) q w} o (next_ready w r) (next_walk r ws)

  -- a place where the height is the greatest of the code
  pub record Highest (n : ℕ) : Type 0 where
    pub place : ℕ
    pub walked : Walked
    pub walks : Walks bytes start end place walked
    pub height : walked.height ≡ n

  pub highest : {q : ℕ} {w : Walked} (c : Code) → Ready bytes q end c w.height → Walks bytes start end q w → Highest (greatest c w.height)
  unfolding greatest
  highest {q} {w} ε r ws = record { place = q; walked = w; walks = ws; height = refl }
  highest {q} {w} (i ⨾ c) r ws = go (highest {q = next_place (op_of i) q} {w = walk_op (op_of i) q w} c (next_ready w r) (next_walk r ws)) (dec_lt w.height (greatest c (height_after i w.height)))
    where
      same : greatest c (walk_op (op_of i) q w).height ≡ greatest c (height_after i w.height)
      same = ap (greatest c) (walk_height i q w)

      go : Highest (greatest c (walk_op (op_of i) q w).height) → Dec (w.height < greatest c (height_after i w.height)) → Highest (max w.height (greatest c (height_after i w.height)))
      go h (yes l) = record { place = h.place; walked = h.walked; walks = h.walks; height = h.height ∙ (same ∙ omega arith) }
      go h (no l) = record { place = q; walked = w; walks = ws; height = omega arith }

  -- what was passed up to the end
  pub record Whole (w : Walked) : Type 0 where
    pub walked : Walked
    pub walks : Walks bytes start end end walked
    pub kept : (x : Child) → In x w.children → In x walked.children

  pub to_end : {q : ℕ} {w : Walked} (c : Code) → Ready bytes q end c w.height → Walks bytes start end q w → Whole w
  to_end {q} {w} ε r ws = record { walked = w; walks = subst (λ (n : ℕ). Walks bytes start end n w) (stands_end r.stands) ws; kept = λ x i. i }
  to_end {q} {w} (i ⨾ c) r ws =
      let e = to_end {q = next_place (op_of i) q} {w = walk_op (op_of i) q w} c (next_ready w r) (next_walk r ws) in
      record { walked = e.walked; walks = e.walks; kept = λ x k. e.kept x (walk_children (op_of i) q w x k) }

  -- ---- from places to the code
  module _ (c₀ : Code) (r₀ : Ready bytes start end c₀ 0) where
    record At (q : ℕ) (w : Walked) : Type 0 where
      code : Code
      ready : Ready bytes q end code w.height
      lower : greatest code w.height ≤ greatest c₀ 0
      own : (x : Instruction) → Own x code → Own x c₀

    next : {q : ℕ} {w : Walked} (op : Op) → q < end → op_at (drop q bytes) ≡ done op → At q w → At (next_place op q) (walk_op op q w)
    unfolding greatest
    next {q} {w} op l e a = go a.code a.ready a.lower a.own
      where
        go : (c : Code) → Ready bytes q end c w.height → greatest c w.height ≤ greatest c₀ 0 → ((x : Instruction) → Own x c → Own x c₀) → At (next_place op q) (walk_op op q w)
        go ε r g f = absurd (let z = stands_end r.stands in omega arith)
        go (i ⨾ c) r g f =
            subst (λ (o : Op). At (next_place o q) (walk_op o q w)) (same_op (sym (ready_op r) ∙ e))
            (record { code = c; ready = next_ready w r; lower = rw (walk_height i q w) (omega arith); own = λ x o. f x (own_later o) })

    at : {q : ℕ} {w : Walked} → Walks bytes start end q w → At q w
    at starts = record { code = c₀; ready = r₀; lower = omega arith; own = λ x o. o }
    at (passes {op = op} ws l e) = next op l e (at ws)

    -- no height on the way is above the code's greatest
    pub none_above : {q : ℕ} {w : Walked} → Walks bytes start end q w → w.height ≤ greatest c₀ 0
    none_above {q} {w} ws = let a = at ws in omega (arith, greatest_least a.code w.height, a.lower)

    -- and no place is behind the end
    pub not_behind : {q : ℕ} {w : Walked} → Walks bytes start end q w → q ≤ end
    not_behind ws = let a = at ws in let u = a.ready.stands.until in omega arith

    -- an instruction that stands at a place is one of the code
    pub record OwnOp (op : Op) : Type 0 where
      pub instruction : Instruction
      pub shown : op_of instruction ≡ op
      pub own : Own instruction c₀

    pub own_op : {q : ℕ} {w : Walked} (op : Op) → Walks bytes start end q w → q < end → op_at (drop q bytes) ≡ done op → OwnOp op
    own_op {q} {w} op ws l e = go (at ws).code (at ws).ready (at ws).own
      where
        go : (c : Code) → Ready bytes q end c w.height → ((x : Instruction) → Own x c → Own x c₀) → OwnOp op
        go ε r f = absurd (let z = stands_end r.stands in omega arith)
        go (i ⨾ c) r f = record { instruction = i; shown = same_op (sym (ready_op r) ∙ e); own = f i own_first }

    -- the greatest height is not at the start, if it is above 0
    pub top : 1 ≤ greatest c₀ 0 → (h : Highest (greatest c₀ 0)) → start < h.place
    top p h = go (dec_lt start h.place)
      where
        go : Dec (start < h.place) → start < h.place
        go (yes l) = l
        go (no l) =
            let b = not_before bytes start end h.walks in
            let s : h.place ≡ start = omega arith in
            let u : h.walked ≡ unmoved = walks_once bytes start end h.walks (subst (λ (n : ℕ). Walks bytes start end n unmoved) (sym s) starts) in
            let z : h.walked.height ≡ 0 = ap (λ (w : Walked). w.height) u in
            absurd (let g = h.height in omega arith)
