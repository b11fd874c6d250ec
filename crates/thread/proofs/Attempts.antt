-- What a step comes to, by its tests. Assumes nothing.
use Prim.Native.Nat.{ℕ, ◌-◌}
use mathlib.Core.Bool.{Bool, true, false, not, ◌||◌}
use mathlib.Core.Path.{◌≡◌, refl, ◌∙◌}
use mathlib.Core.List.{List}
use native.Mathlib.Omega.{arith}
use lib.Dec.{eqb}
use lib.ListN.{length, drop}
use Rattle.stm.specs.Counted.{Table}
use Rattle.thread.specs.declared.Thread.{Thread}
use Rattle.thread.specs.InnerStep.{handed, unacted, takes_op, performed, able_op, due_op, attempted, stepped, stacked_op, stack_event, plain_in, stack_only, plain_op, sized_by}
use Rattle.code.specs.Ops.{op_at}
use Rattle.ops.specs.Shown.{shown_op}
use Rattle.ops.specs.declared.Op.{Op}
use Rattle.ops.specs.declared.Op.TheVariants as op
use Rattle.word.specs.Sum.{wrapping}

never : {A : Type 0} → ◌≡◌ {A = Bool} false true → A
never e = absurd (let z : ◌≡◌ {A = ℕ} 0 1 = cc in omega arith)

-- ---- what is due
-- a step is what is due
pub due_step : (bytes : List ℕ) (table : Table) (t : Thread) → performed wrapping table t (due_op bytes (sized_by (length table.registers) (length table.counts)) t) ≡ stepped wrapping bytes table t
unfolding due_op able_op performed attempted stepped
due_step bytes table t = go (eqb t.start 0 || eqb t.place t.end)
  where
    able : Op
    able = shown_op (op_at (drop t.place bytes))

    none : performed wrapping table t op.Foreign ≡ handed (unacted t) table
    none = refl

    tried : performed wrapping table t (able_op bytes (sized_by (length table.registers) (length table.counts)) t able) ≡ attempted wrapping bytes table t able
    tried = by (takes_op able t.height t.base (sized_by (length table.registers) (length table.counts)) (length bytes - t.place))
      where
        by : (b : Bool) → performed wrapping table t (elim b [ true ↦ able | false ↦ op.Foreign ]) ≡ (elim b [ true ↦ performed wrapping table t able | false ↦ handed (unacted t) table ])
        by true = refl
        by false = none

    go : (b : Bool) → performed wrapping table t (elim b [ true ↦ op.Foreign | false ↦ able_op bytes (sized_by (length table.registers) (length table.counts)) t able ]) ≡ (elim b [ true ↦ handed (unacted t) table | false ↦ attempted wrapping bytes table t able ])
    go true = none
    go false = tried

-- ---- PUSH and ADD
module _ (bytes : List ℕ) (t : Thread) where
  -- what is plain is taken
  pub plain_taken : (table : Table) → plain_in bytes t ≡ true → performed wrapping table t (plain_op bytes t) ≡ stepped wrapping bytes table t
  unfolding plain_in plain_op stack_only stack_event stepped attempted stacked_op takes_op performed
  plain_taken table e = go (eqb t.start 0 || eqb t.place t.end) (joined (eqb t.start 0) (eqb t.place t.end) _ ∙ e)
    where
      joined : (a b c : Bool) → ((a || b) || c) ≡ (a || (b || c))
      joined true b c = refl
      joined false b c = refl

      able : Op
      able = shown_op (op_at (drop t.place bytes))

      left : ℕ
      left = length bytes - t.place

      taken : (u : Op) → stacked_op u t.height left ≡ true → takes_op u t.height t.base (sized_by (length table.registers) (length table.counts)) left ≡ true
      taken (op.Push n) q = q
      taken op.Add q = q
      taken (op.Read v) q = never q
      taken (op.Write v) q = never q
      taken op.Begin q = never q
      taken op.Commit q = never q
      taken (op.Fork size) q = never q
      taken op.Foreign q = never q

      tried : (c : Bool) → c ≡ true → performed wrapping table t able ≡ (elim c [ true ↦ performed wrapping table t able | false ↦ handed (unacted t) table ])
      tried true f = refl
      tried false f = never f

      some : (b : Bool) → stacked_op able t.height left ≡ b → not (eqb (stack_event (elim b [ true ↦ able | false ↦ op.Foreign ])) 0) ≡ true → performed wrapping table t (elim b [ true ↦ able | false ↦ op.Foreign ]) ≡ attempted wrapping bytes table t able
      some true q f = tried (takes_op able t.height t.base (sized_by (length table.registers) (length table.counts)) left) (taken able q)
      some false q f = never f

      go : (b : Bool) → (b || not (eqb (stack_event (elim b [ true ↦ op.Foreign | false ↦ stack_only bytes t able ])) 0)) ≡ true → performed wrapping table t (elim b [ true ↦ op.Foreign | false ↦ stack_only bytes t able ]) ≡ (elim b [ true ↦ handed (unacted t) table | false ↦ attempted wrapping bytes table t able ])
      go true f = refl
      go false f = some (stacked_op able t.height left) refl f
