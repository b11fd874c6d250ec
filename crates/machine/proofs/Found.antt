-- A send-back tells the lowest stale register, a commit found none, and READ tells where it found its value. Assumes nothing.
use Prim.Native.Nat.{ℕ, ◌≤◌, ◌<◌}
use mathlib.Core.Bool.{Bool, true, false, cond}
use mathlib.Core.Path.{◌≡◌, refl, sym, ap, subst, ◌∙◌}
use mathlib.Core.List.{List}
use native.Mathlib.Omega.{arith}
use borrow.Author.Tests.{eqb-true, eqb-false, ltb-true, ltb-false}
use lib.Dec.{eqb, ltb}
use lib.ListN.{length, drop}
use Rattle.thread.specs.declared.Thread.{Thread}
use Rattle.thread.specs.Threads.{exists, source_of, stale, first_stale}
use Rattle.machine.specs.Steps.{State, Stepped, thread_at, committing, commit, act, perform, settle, doing, pick_among, FirstStale, FoundIn, in_writes, in_reads, in_table, table_in}
use Rattle.machine.proofs.Picks.{no_record, missing_idle, ended_idle, busy}
use Rattle.machine.proofs.Stale.{found_stale, found_none}
use Rattle.code.specs.Ops.{Op, op_at}
use Rattle.code.specs.Ops as code
use Rattle.script.specs.Outcome.{Outcome, refused, done}
use Rattle.stm.specs.Events.{Source, from_writes, from_reads, from_table, Event, idle, pushed, summed, forked, begun, looked, wrote, committed, sent_back}
use Rattle.word.specs.Registers.{member}
use Rattle.word.specs.Sum.{Rule}

-- ---- what a pick tells
-- a pick is idle or does the instruction at its thread's place
data Does (sum : Rule) (bytes : List ℕ) (s : State) (i : ℕ) : Event → Type 0 where
  nothing : Does sum bytes s i idle
  one : (op : Op) → op_at (drop (thread_at s i).place bytes) ≡ done op → Does sum bytes s i (act sum (table_in s) (thread_at s i) op).event

module _ (sum : Rule) (bytes : List ℕ) (count : ℕ) (s : State) (i : ℕ) where
  pick_does : Does sum bytes s i (pick_among sum bytes count s i).event
  unfolding settle
  pick_does = go (ltb i (length s.threads)) refl (exists (thread_at s i)) refl (eqb (thread_at s i).place (thread_at s i).end) refl
    where
      still : pick_among sum bytes count s i ≡ record { state = s; event = idle; over = 0 } → Does sum bytes s i (pick_among sum bytes count s i).event
      still e = subst (λ (r : Stepped). Does sum bytes s i r.event) (sym e) nothing

      at_place : (o : Outcome Op) → op_at (drop (thread_at s i).place bytes) ≡ o → Does sum bytes s i (doing sum count s i (thread_at s i) o).event
      at_place (refused n p) e = nothing
      at_place (done op) e = one op e

      go : (a : Bool) → ltb i (length s.threads) ≡ a → (b : Bool) → exists (thread_at s i) ≡ b → (c : Bool) → eqb (thread_at s i).place (thread_at s i).end ≡ c → Does sum bytes s i (pick_among sum bytes count s i).event
      go false l b e c z = still (no_record sum bytes count s i l)
      go true l false e c z = still (missing_idle sum bytes count s i e)
      go true l true e true z = still (ended_idle sum bytes count s i (eqb-true (thread_at s i).place (thread_at s i).end z))
      go true l true e false z =
          subst (λ (r : Stepped). Does sum bytes s i r.event) (sym (busy sum bytes count s i l e (eqb-false (thread_at s i).place (thread_at s i).end z)))
          (at_place (op_at (drop (thread_at s i).place bytes)) refl)

-- what an instruction's event tells
record Tells (bytes : List ℕ) (s : State) (t : Thread) (e : Event) : Type 0 where
  back : (v : ℕ) → e ≡ sent_back v → FirstStale t (table_in s) v
  effect : e ≡ committed → (u : ℕ) → u < 64 → stale t (table_in s) u ≡ false
  source : (from : Source) → e ≡ looked from → (v : ℕ) × ((op_at (drop t.place bytes) ≡ done (code.read v)) × FoundIn t v from)

found-in : (t : Thread) (v : ℕ) → FoundIn t v (source_of t v)
unfolding source_of
found-in t v = go (member t.writes v) refl (member t.reads v) refl
  where
    go : (a : Bool) → member t.writes v ≡ a → (b : Bool) → member t.reads v ≡ b → FoundIn t v (cond a from_writes (cond b from_reads from_table))
    go true e b f = in_writes e
    go false e true f = in_reads e f
    go false e false f = in_table e f

-- neither a READ nor a COMMIT
abbrev quiet : Event → Bool
quiet idle = true
quiet pushed = true
quiet (summed inside) = true
quiet forked = true
quiet begun = true
quiet (looked from) = false
quiet wrote = true
quiet committed = false
quiet (sent_back v) = false

never : {A : Type 0} → ◌≡◌ {A = Bool} true false → A
never e = absurd (let z : ◌≡◌ {A = ℕ} 0 1 = cc in omega arith)

module _ {bytes : List ℕ} {s : State} {t : Thread} where
  silent : {e : Event} → quiet e ≡ true → Tells bytes s t e
  silent q =
      record {
        back = λ v p. never (sym q ∙ ap quiet p);
        effect = λ p. never (sym q ∙ ap quiet p);
        source = λ from p. never (sym q ∙ ap quiet p);
      }

  commit_tells : (v : ℕ) → v ≡ first_stale 64 0 t (table_in s) → Tells bytes s t (commit (table_in s) t v).event
  unfolding commit
  commit_tells v q = go (ltb v 64) refl
    where
      go : (b : Bool) → ltb v 64 ≡ b → Tells bytes s t (committing b (table_in s) t v).event
      go true l =
          record {
            back = λ w e. let x : v ≡ w = cc in subst (FirstStale t (table_in s)) (sym q ∙ x) (found_stale t (table_in s) (subst (λ (n : ℕ). n < 64) q (ltb-true v 64 l)));
            effect = λ e. absurd (let z : ◌≡◌ {A = ℕ} 0 1 = cc in omega arith);
            source = λ from e. absurd (let z : ◌≡◌ {A = ℕ} 0 1 = cc in omega arith);
          }
      go false l =
          record {
            back = λ w e. absurd (let z : ◌≡◌ {A = ℕ} 0 1 = cc in omega arith);
            effect = λ e. found_none t (table_in s) (subst (λ (n : ℕ). 64 ≤ n) q (ltb-false v 64 l));
            source = λ from e. absurd (let z : ◌≡◌ {A = ℕ} 0 1 = cc in omega arith);
          }

  act_tells : (sum : Rule) (op : Op) → op_at (drop t.place bytes) ≡ done op → Tells bytes s t (act sum (table_in s) t op).event
  unfolding act perform
  act_tells sum (code.push n) o = silent refl
  act_tells sum code.add o = silent refl
  act_tells sum (code.fork size) o = silent refl
  act_tells sum code.begin o = silent refl
  act_tells sum (code.write v) o = silent refl
  act_tells sum (code.read v) o =
      record {
        back = λ w e. absurd (let z : ◌≡◌ {A = ℕ} 0 1 = cc in omega arith);
        effect = λ e. absurd (let z : ◌≡◌ {A = ℕ} 0 1 = cc in omega arith);
        source = λ from e. let x : source_of t v ≡ from = cc in (v, (o, subst (FoundIn t v) x (found-in t v)));
      }
  act_tells sum code.commit o = commit_tells _ refl

pick_tells : (sum : Rule) (bytes : List ℕ) (count : ℕ) (s : State) (i : ℕ) → Tells bytes s (thread_at s i) (pick_among sum bytes count s i).event
pick_tells sum bytes count s i = by (pick_does sum bytes count s i)
  where
    by : {e : Event} → Does sum bytes s i e → Tells bytes s (thread_at s i) e
    by nothing = silent refl
    by (one op o) = act_tells sum op o

-- a send-back tells the lowest stale register
pub sent_back_first : (sum : Rule) (bytes : List ℕ) (count : ℕ) (s : State) (i v : ℕ) → (pick_among sum bytes count s i).event ≡ sent_back v → FirstStale (thread_at s i) (table_in s) v
sent_back_first sum bytes count s i v e = (pick_tells sum bytes count s i).back v e

-- a commit takes effect only if no register is stale
pub committed_none : (sum : Rule) (bytes : List ℕ) (count : ℕ) (s : State) (i : ℕ) → (pick_among sum bytes count s i).event ≡ committed → (u : ℕ) → u < 64 → stale (thread_at s i) (table_in s) u ≡ false
committed_none sum bytes count s i e = (pick_tells sum bytes count s i).effect e

-- READ tells where it found its value
pub looked_found : (sum : Rule) (bytes : List ℕ) (count : ℕ) (s : State) (i : ℕ) (from : Source) → (pick_among sum bytes count s i).event ≡ looked from → (v : ℕ) × ((op_at (drop (thread_at s i).place bytes) ≡ done (code.read v)) × FoundIn (thread_at s i) v from)
looked_found sum bytes count s i from e = (pick_tells sum bytes count s i).source from e
