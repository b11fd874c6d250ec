-- The sums that a pick tells of, and those that it leaves noted, by what it did. Assumes nothing.
use Prim.Native.Nat.{ℕ, suc, ◌+◌, ◌<◌}
use mathlib.Core.Bool.{Bool, true, false, cond, not}
use mathlib.Core.Path.{◌≡◌, refl, sym, ap, subst, ◌∙◌}
use mathlib.Core.List.{List, [], ◌∷◌}
use native.Mathlib.Omega.{arith}
use borrow.Author.Tests.{eqb-true, eqb-false}
use lib.Dec.{eqb, ltb}
use lib.IntN.{ℤ}
use lib.ListN.{length, drop, get_or, set}
use lib.Seq.{get_or-set_same, get_or-set_other}
use Rattle.stm.specs.Counted.{Table}
use Rattle.code.specs.Bytes.{IsCode}
use Rattle.code.specs.Ops.{Op, op_at}
use Rattle.code.specs.Ops as code
use Rattle.machine.specs.Fits.{Placed, Exists, Fits, Typed}
use Rattle.machine.specs.Steps.{State, Stepped, Acted, Child, thread_at, number_of, committing, commit, act, perform, seated, settle, doing, pick_among, pick, told_by, noted_by, table_in}
use Rattle.machine.proofs.Agrees.{does_one}
use Rattle.machine.proofs.Numbers.{exists_below, in_table}
use Rattle.machine.proofs.Picks.{no_record, missing_idle, ended_idle, busy}
use Rattle.machine.proofs.Walking.{no_adds}
use Rattle.script.specs.Jobs.{Job}
use Rattle.script.specs.Outcome.{Outcome, refused, done}
use Rattle.stm.specs.Events.{Source, from_writes, from_reads, from_table, summed}
use Rattle.thread.specs.declared.Thread.{Thread}
use Rattle.thread.specs.Threads.{exists, blank, spawned, below, push, add, begin, source_of, read_from, noted, read, write, closed, first_stale}
use Rattle.word.specs.Sum.{Rule, over_of}

-- ---- one instruction
module _ (sum : Rule) (table : Table) (t : Thread) where
  act_told : (op : Op) → (act sum table t op).over ≡ told_by (act sum table t op).event t
  unfolding act perform commit
  act_told (code.push n) = refl
  act_told code.add = go (eqb t.begin 0)
    where
      go : (b : Bool) → cond b (over_of (below t 2) (below t 1)) 0 ≡ told_by (summed (not b)) t
      go true = refl
      go false = refl
  act_told (code.fork size) = refl
  act_told code.begin = refl
  act_told (code.read v) = refl
  act_told (code.write v) = refl
  act_told code.commit = go (ltb (first_stale 64 0 t table) 64)
    where
      go : (b : Bool) → (committing b table t (first_stale 64 0 t table)).over ≡ told_by (committing b table t (first_stale 64 0 t table)).event t
      go true = refl
      go false = refl

  act_noted : (op : Op) → (act sum table t op).thread.over ≡ noted_by (act sum table t op).event t
  unfolding act perform commit push add begin read write closed
  act_noted (code.push n) = refl
  act_noted code.add = go (eqb t.begin 0)
    where
      go : (b : Bool) → cond b t.over (t.over + over_of (below t 2) (below t 1)) ≡ noted_by (summed (not b)) t
      go true = refl
      go false = refl
  act_noted (code.fork size) = refl
  act_noted code.begin = refl
  act_noted (code.read v) = go (source_of t v) (read_from (source_of t v) table.registers t v) (get_or table.counts v 0)
    where
      go : (from : Source) (n : ℤ) (k : ℕ) → (noted from v n k t).over ≡ t.over
      go from_writes n k = refl
      go from_reads n k = refl
      go from_table n k = refl
  act_noted (code.write v) = refl
  act_noted code.commit = go (ltb (first_stale 64 0 t table) 64)
    where
      go : (b : Bool) → (committing b table t (first_stale 64 0 t table)).thread.over ≡ noted_by (committing b table t (first_stale 64 0 t table)).event t
      go true = refl
      go false = refl

-- ---- a pick, of any state
pub pick_told : (sum : Rule) (bytes : List ℕ) (count : ℕ) (s : State) (i : ℕ) → (pick_among sum bytes count s i).over ≡ told_by (pick_among sum bytes count s i).event (thread_at s i)
unfolding settle
pick_told sum bytes count s i = go (ltb i (length s.threads)) refl (exists (thread_at s i)) refl (eqb (thread_at s i).place (thread_at s i).end) refl
  where
    Told : Stepped → Type 0
    Told r = r.over ≡ told_by r.event (thread_at s i)

    at_place : (o : Outcome Op) → Told (doing sum count s i (thread_at s i) o)
    at_place (refused n p) = refl
    at_place (done op) = act_told sum (table_in s) (thread_at s i) op

    go : (a : Bool) → ltb i (length s.threads) ≡ a → (b : Bool) → exists (thread_at s i) ≡ b → (c : Bool) → eqb (thread_at s i).place (thread_at s i).end ≡ c → Told (pick_among sum bytes count s i)
    go false l b e c z = subst Told (sym (no_record sum bytes count s i l)) refl
    go true l false e c z = subst Told (sym (missing_idle sum bytes count s i e)) refl
    go true l true e true z = subst Told (sym (ended_idle sum bytes count s i (eqb-true (thread_at s i).place (thread_at s i).end z))) refl
    go true l true e false z =
        subst Told (sym (busy sum bytes count s i l e (eqb-false (thread_at s i).place (thread_at s i).end z)))
        (at_place (op_at (drop (thread_at s i).place bytes)))

-- the picked thread, put back, and a child behind it
put_back : (ts : List Thread) (n i : ℕ) (t : Thread) (cs : List Child) → i < length ts → i < n → get_or (seated n cs (set ts i t)) i blank ≡ t
put_back ts n i t cs l k = seated_keeps n cs (set ts i t) k ∙ get_or-set_same ts i t blank l
  where
    seated_keeps : (n : ℕ) (cs : List Child) (us : List Thread) → i < n → get_or (seated n cs us) i blank ≡ get_or us i blank
    seated_keeps n [] us k = refl
    seated_keeps n (c ∷ cs) us k = seated_keeps (suc n) cs (set us n (spawned c.start c.end)) (omega arith) ∙ get_or-set_other us n i (spawned c.start c.end) blank (λ e. absurd (omega arith))

module _ {bytes : List ℕ} {j : Job} (c : IsCode bytes j) (sum : Rule) where
  pub pick_noted : (s : State) → Fits bytes s → Typed s → (i : ℕ) → Exists s i → (thread_at (pick sum bytes s i).state i).over ≡ noted_by (pick sum bytes s i).event (thread_at s i)
  unfolding settle
  pick_noted s f y i e = go (eqb (thread_at s i).place (thread_at s i).end) refl
    where
      Noted : Stepped → Type 0
      Noted r = (thread_at r.state i).over ≡ noted_by r.event (thread_at s i)

      go : (b : Bool) → eqb (thread_at s i).place (thread_at s i).end ≡ b → Noted (pick sum bytes s i)
      go true z = subst Noted (sym (ended_idle sum bytes (number_of s.threads) s i (eqb-true (thread_at s i).place (thread_at s i).end z))) refl
      go false z =
          let d = does_one c sum s f y i e (eqb-false (thread_at s i).place (thread_at s i).end z) in
          let a : Acted = act sum (table_in s) (thread_at s i) d.op in
          subst Noted (sym d.does)
          (ap (λ (t : Thread). t.over) (put_back s.threads (number_of s.threads) i a.thread a.children (in_table s i e) (exists_below s f.no_gap i e))
          ∙ act_noted sum (table_in s) (thread_at s i) d.op)

-- ---- where no transaction is open
pub none_noted : {bytes : List ℕ} {t : Thread} → Placed bytes t → t.begin ≡ 0 → t.over ≡ 0
none_noted {bytes} {t} p z =
    let a = no_adds bytes t.start t.end p.walks (sym p.begin ∙ z) in
    let b = p.over in
    omega arith
