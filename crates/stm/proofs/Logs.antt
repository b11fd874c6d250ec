-- Write logs over registers, and the values of a table's cells. Assumes nothing.
use Prim.Native.Nat.{ℕ, zero, suc, ◌+◌, ◌<◌, ◌≤◌}
use mathlib.Core.Bool.{Bool, true, false}
use mathlib.Core.Path.{◌≡◌, refl, sym, ap, subst, ◌∙◌}
use mathlib.Core.List.{List, [], ◌∷◌}
use mathlib.Core.Option.{Option, none, some}
use native.Mathlib.Omega.{arith}
use borrow.Author.Tests.{eqb-true, eqb-false, eq-eqb, ne_eqb}
use lib.Dec.{eqb}
use lib.IntN.{ℤ, pos}
use lib.ListN.{length, get_or, set, replicate, length-set}
use lib.Seq.{get_or-set_same, get_or-set_other, ext_get_or}
use Rattle.stm.specs.InnerCells.{Cells}
use Rattle.stm.specs.InnerTasks.{Log, nothing, logged, cell_at, stale_in, first_stale, entered, overwritten}
use Rattle.stm.specs.InnerMeaning.{values_of, enter, overlay}
use Rattle.script.specs.Turns.{Registers}

-- ---- logs
pub logged_same : {A : Type 0} (log : Log A) (v : ℕ) (a : A) → logged log v a v ≡ some a
logged_same log v a = rw (eq-eqb v v refl)

pub logged_other : {A : Type 0} (log : Log A) (v u : ℕ) (a : A) → (u ≡ v → ⊥) → logged log v a u ≡ log u
logged_other log v u a n = rw (ne_eqb u v n)

-- ---- what a register has with a write log over it
abbrev pub seen : Option ℤ → ℤ → ℤ
seen none m = m
seen (some n) m = n

pub overlay_nothing : (left v : ℕ) (rs : Registers) → overlay left v nothing rs ≡ rs
unfolding overlay
overlay_nothing zero v rs = refl
overlay_nothing (suc left) v rs = overlay_nothing left (suc v) rs

enter_length : (o : Option ℤ) (v : ℕ) (rs : Registers) → length (enter o v rs) ≡ length rs
enter_length none v rs = refl
enter_length (some n) v rs = length-set rs v n

pub overlay_length : (left v : ℕ) (w : Log ℤ) (rs : Registers) → length (overlay left v w rs) ≡ length rs
unfolding overlay
overlay_length zero v w rs = refl
overlay_length (suc left) v w rs = overlay_length left (suc v) w (enter (w v) v rs) ∙ enter_length (w v) v rs

enter_other : (o : Option ℤ) (v u : ℕ) (rs : Registers) → (u ≡ v → ⊥) → get_or (enter o v rs) u (pos 0) ≡ get_or rs u (pos 0)
enter_other none v u rs n = refl
enter_other (some m) v u rs n = get_or-set_other rs v u m (pos 0) n

enter_same : (o : Option ℤ) (v : ℕ) (rs : Registers) → v < length rs → get_or (enter o v rs) v (pos 0) ≡ seen o (get_or rs v (pos 0))
enter_same none v rs l = refl
enter_same (some n) v rs l = get_or-set_same rs v n (pos 0) l

overlay_before : (left v u : ℕ) (w : Log ℤ) (rs : Registers) → u < v → get_or (overlay left v w rs) u (pos 0) ≡ get_or rs u (pos 0)
unfolding overlay
overlay_before zero v u w rs l = refl
overlay_before (suc left) v u w rs l = overlay_before left (suc v) u w (enter (w v) v rs) (omega arith) ∙ enter_other (w v) v u rs (λ e. omega arith)

overlay_from : (left v u : ℕ) (w : Log ℤ) (rs : Registers) → v ≤ u → u < v + left → u < length rs → get_or (overlay left v w rs) u (pos 0) ≡ seen (w u) (get_or rs u (pos 0))
unfolding overlay
overlay_from zero v u w rs a b l = absurd (omega arith)
overlay_from (suc left) v u w rs a b l = go (eqb u v) refl (λ k. overlay_from left (suc v) u w (enter (w v) v rs) k (omega arith) (rw (enter_length (w v) v rs) l))
  where
    go : (t : Bool) → eqb u v ≡ t → (suc v ≤ u → get_or (overlay left (suc v) w (enter (w v) v rs)) u (pos 0) ≡ seen (w u) (get_or (enter (w v) v rs) u (pos 0))) → get_or (overlay left (suc v) w (enter (w v) v rs)) u (pos 0) ≡ seen (w u) (get_or rs u (pos 0))
    go true e rec =
        subst (λ (x : ℕ). get_or (overlay left (suc v) w (enter (w v) v rs)) x (pos 0) ≡ seen (w x) (get_or rs x (pos 0))) (sym (eqb-true u v e))
        (overlay_before left (suc v) v w (enter (w v) v rs) (omega arith) ∙ enter_same (w v) v rs (let x = eqb-true u v e in omega arith))
    go false e rec =
        let n : u ≡ v → ⊥ = eqb-false u v e in
        rec (omega arith) ∙ ap {B = ℤ} (λ (m : ℤ). seen (w u) m) (enter_other (w v) v u rs n)

pub overlay_at : (w : Log ℤ) (rs : Registers) (u : ℕ) → u < 64 → length rs ≡ 64 → get_or (overlay 64 0 w rs) u (pos 0) ≡ seen (w u) (get_or rs u (pos 0))
overlay_at w rs u l e = overlay_from 64 0 u w rs (omega arith) (omega arith) (omega arith)

-- a write logged is the register set
pub overlay_logged : (w : Log ℤ) (v : ℕ) (n : ℤ) (rs : Registers) → v < 64 → length rs ≡ 64 → overlay 64 0 (logged w v n) rs ≡ set (overlay 64 0 w rs) v n
overlay_logged w v n rs l e =
    ext_get_or (pos 0) (overlay 64 0 (logged w v n) rs) (set (overlay 64 0 w rs) v n)
    (overlay_length 64 0 (logged w v n) rs ∙ sym (length-set (overlay 64 0 w rs) v n ∙ overlay_length 64 0 w rs))
    at
  where
    long : length (overlay 64 0 w rs) ≡ 64
    long = overlay_length 64 0 w rs ∙ e

    at : (u : ℕ) → u < length (overlay 64 0 (logged w v n) rs) → get_or (overlay 64 0 (logged w v n) rs) u (pos 0) ≡ get_or (set (overlay 64 0 w rs) v n) u (pos 0)
    at u k = go (eqb u v) refl
      where
        small : u < 64
        small = let x = overlay_length 64 0 (logged w v n) rs in omega arith

        go : (t : Bool) → eqb u v ≡ t → get_or (overlay 64 0 (logged w v n) rs) u (pos 0) ≡ get_or (set (overlay 64 0 w rs) v n) u (pos 0)
        go true f =
            subst (λ (x : ℕ). get_or (overlay 64 0 (logged w v n) rs) x (pos 0) ≡ get_or (set (overlay 64 0 w rs) v n) x (pos 0)) (sym (eqb-true u v f))
            (overlay_at (logged w v n) rs v l e ∙ ap {B = ℤ} (λ (o : Option ℤ). seen o (get_or rs v (pos 0))) (logged_same w v n) ∙ sym (get_or-set_same (overlay 64 0 w rs) v n (pos 0) (rw long l)))
        go false f =
            let d : u ≡ v → ⊥ = eqb-false u v f in
            overlay_at (logged w v n) rs u small e ∙ ap {B = ℤ} (λ (o : Option ℤ). seen o (get_or rs u (pos 0))) (logged_other w v u n d) ∙ sym (get_or-set_other (overlay 64 0 w rs) v u n (pos 0) d ∙ overlay_at w rs u small e)

-- ---- the values of cells
module _ (K : Cells) where
  pub value_at : (h : List K.Cell) (v : ℕ) → get_or (values_of K h) v (pos 0) ≡ K.value (cell_at K h v)
  value_at [] v = sym K.blank_value
  value_at (c ∷ h) zero = refl
  value_at (c ∷ h) (suc v) = value_at h v

  pub values_length : (h : List K.Cell) → length (values_of K h) ≡ length h
  values_length [] = refl
  values_length (c ∷ h) = ap suc (values_length h)

  pub values_blank : (n : ℕ) → values_of K (replicate n K.blank) ≡ replicate n (pos 0)
  values_blank zero = refl
  values_blank (suc n) = rw (K.blank_value, values_blank n)

  values_set : (h : List K.Cell) (v : ℕ) (c : K.Cell) (n : ℤ) → K.value c ≡ n → values_of K (set h v c) ≡ set (values_of K h) v n
  values_set [] v c n e = refl
  values_set (d ∷ h) zero c n e = rw e
  values_set (d ∷ h) (suc v) c n e = rw (values_set h v c n e)

  values_entered : (o : Option ℤ) (v : ℕ) (h : List K.Cell) → values_of K (entered K o v h) ≡ enter o v (values_of K h)
  values_entered none v h = refl
  values_entered (some n) v h = values_set h v (K.written (cell_at K h v) n) n (K.written_value (cell_at K h v) n)

  -- the table with a write log in it has the values with the write log over them
  pub values_overwritten : (left v : ℕ) (w : Log ℤ) (h : List K.Cell) → values_of K (overwritten K left v w h) ≡ overlay left v w (values_of K h)
  unfolding overwritten overlay
  values_overwritten zero v w h = refl
  values_overwritten (suc left) v w h = values_overwritten left (suc v) w (entered K (w v) v h) ∙ ap {B = Registers} (λ (rs : Registers). overlay left (suc v) w rs) (values_entered (w v) v h)

  entered_length : (o : Option ℤ) (v : ℕ) (h : List K.Cell) → length (entered K o v h) ≡ length h
  entered_length none v h = refl
  entered_length (some n) v h = length-set h v (K.written (cell_at K h v) n)

  pub overwritten_length : (left v : ℕ) (w : Log ℤ) (h : List K.Cell) → length (overwritten K left v w h) ≡ length h
  unfolding overwritten
  overwritten_length zero v w h = refl
  overwritten_length (suc left) v w h = overwritten_length left (suc v) w (entered K (w v) v h) ∙ entered_length (w v) v h

  -- what was a cell before a commit was it also behind the commit
  set_past : (h : List K.Cell) (v u : ℕ) (n : ℤ) (l : K.Cell) → K.Past l (cell_at K h u) → K.Past l (cell_at K (set h v (K.written (cell_at K h v) n)) u)
  set_past [] v u n l p = p
  set_past (c ∷ h) zero zero n l p = K.past_written l c n p
  set_past (c ∷ h) zero (suc u) n l p = p
  set_past (c ∷ h) (suc v) zero n l p = p
  set_past (c ∷ h) (suc v) (suc u) n l p = set_past h v u n l p

  entered_past : (o : Option ℤ) (v : ℕ) (h : List K.Cell) (u : ℕ) (l : K.Cell) → K.Past l (cell_at K h u) → K.Past l (cell_at K (entered K o v h) u)
  entered_past none v h u l p = p
  entered_past (some n) v h u l p = set_past h v u n l p

  pub overwritten_past : (left v : ℕ) (w : Log ℤ) (h : List K.Cell) (u : ℕ) (l : K.Cell) → K.Past l (cell_at K h u) → K.Past l (cell_at K (overwritten K left v w h) u)
  unfolding overwritten
  overwritten_past zero v w h u l p = p
  overwritten_past (suc left) v w h u l p = overwritten_past left (suc v) w (entered K (w v) v h) u l (entered_past (w v) v h u l p)

  -- a commit leaves the cells of the registers that it does not write, so only a commit that writes a register can make it stale
  entered_other : (w : Log ℤ) (v : ℕ) (h : List K.Cell) (u : ℕ) → w u ≡ none → cell_at K (entered K (w v) v h) u ≡ cell_at K h u
  entered_other w v h u e = go (eqb u v) refl (w v) refl
    where
      go : (b : Bool) → eqb u v ≡ b → (o : Option ℤ) → w v ≡ o → cell_at K (entered K o v h) u ≡ cell_at K h u
      go b g none f = refl
      go true g (some n) f = absurd (let q : w u ≡ some n = subst (λ (x : ℕ). w x ≡ some n) (sym (eqb-true u v g)) f in let z : ◌≡◌ {A = ℕ} 0 1 = cc in omega arith)
      go false g (some n) f = get_or-set_other h v u (K.written (cell_at K h v) n) K.blank (eqb-false u v g)

  pub unwritten : (left v : ℕ) (w : Log ℤ) (h : List K.Cell) (u : ℕ) → w u ≡ none → cell_at K (overwritten K left v w h) u ≡ cell_at K h u
  unfolding overwritten
  unwritten zero v w h u e = refl
  unwritten (suc left) v w h u e = unwritten left (suc v) w (entered K (w v) v h) u e ∙ entered_other w v h u e

  -- ---- stale registers
  -- where none is found, none is stale
  pub none_stale : (left v : ℕ) (r : Log K.Cell) (h : List K.Cell) → v + left ≤ first_stale K left v r h → (u : ℕ) → v ≤ u → u < v + left → stale_in K (r u) (cell_at K h u) ≡ false
  unfolding first_stale
  none_stale zero v r h e u a b = absurd (omega arith)
  none_stale (suc left) v r h e u a b = go (stale_in K (r v) (cell_at K h v)) refl e (λ e' k. none_stale left (suc v) r h e' u k (omega arith))
    where
      go : (t : Bool) → stale_in K (r v) (cell_at K h v) ≡ t → v + suc left ≤ (elim t [ true ↦ v | false ↦ first_stale K left (suc v) r h ]) → (suc v + left ≤ first_stale K left (suc v) r h → suc v ≤ u → stale_in K (r u) (cell_at K h u) ≡ false) → stale_in K (r u) (cell_at K h u) ≡ false
      go true f e' rec = absurd (omega arith)
      go false f e' rec = which (eqb u v) refl
        where
          which : (t : Bool) → eqb u v ≡ t → stale_in K (r u) (cell_at K h u) ≡ false
          which true g = subst (λ (x : ℕ). stale_in K (r x) (cell_at K h x) ≡ false) (sym (eqb-true u v g)) f
          which false g = let d : u ≡ v → ⊥ = eqb-false u v g in rec (omega arith) (omega arith)

  -- where none is stale, none is found
  pub none_found : (left v : ℕ) (r : Log K.Cell) (h : List K.Cell) → ((u : ℕ) → u < v + left → stale_in K (r u) (cell_at K h u) ≡ false) → first_stale K left v r h ≡ v + left
  unfolding first_stale
  none_found zero v r h c = omega arith
  none_found (suc left) v r h c = rw (first_stale, c v (omega arith)) (none_found left (suc v) r h (λ u l. c u (omega arith)) ∙ omega arith)
