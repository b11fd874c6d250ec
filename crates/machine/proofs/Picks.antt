-- Which picks are idle; an idle pick changes nothing, only a COMMIT that takes effect changes the registers, runs follow one another, and each
-- pick is counted once. Assumes nothing.
use Prim.Native.Nat.{ℕ, suc, ◌+◌}
use mathlib.Core.Bool.{Bool, true, false, not, ◌||◌}
use mathlib.Core.Path.{◌≡◌, refl, sym, ap, subst, ◌∙◌}
use mathlib.Core.List.{List, [], ◌∷◌, ◌++◌}
use native.Mathlib.Omega.{arith}
use borrow.Author.Tests.{eqb-true, eqb-false, eq-eqb, ne_eqb}
use lib.Dec.{eqb, ltb}
use lib.ListN.{length, drop}
use Rattle.stm.specs.Counted.{Table}
use Rattle.thread.specs.declared.Thread.{Thread}
use Rattle.thread.specs.Threads.{exists}
use Rattle.machine.specs.Steps.{State, Acted, committing, commit, act, perform, ruled, Stepped, number_of, thread_at, settle, doing, pick_among, pick, Ran, run, table_in}
use Rattle.stm.specs.Events.{idle, is_idle, is_fork, is_commit, Counts, more, tally, counts_of}
use Rattle.code.specs.Ops.{Op, op_at}
use Rattle.code.specs.Ops as code
use Rattle.script.specs.Outcome.{Outcome, refused, done}
use Rattle.word.specs.Sum.{Rule}

never : {A : Type 0} {x y : A} → ◌≡◌ {A = Bool} false true → x ≡ y
never e = absurd (let z : ◌≡◌ {A = ℕ} 0 1 = cc in omega arith)

never' : {A : Type 0} {x y : A} → ◌≡◌ {A = Bool} true false → x ≡ y
never' e = absurd (let z : ◌≡◌ {A = ℕ} 0 1 = cc in omega arith)

-- an instruction is never idle, only a COMMIT that takes effect changes the table, and only a FORK has a child
pub record ActLawful (h : Table) (a : Acted) : Type 0 where
  pub busy : is_idle a.event ≡ false
  pub table : is_commit a.event ≡ false → a.table ≡ h
  pub childless : is_fork a.event ≡ false → a.children ≡ []

commit_lawful : (table : Table) (t : Thread) (v : ℕ) → ActLawful table (commit table t v)
unfolding commit
commit_lawful table t v = go (ltb v 64)
  where
    go : (b : Bool) → ActLawful table (committing b table t v)
    go true = record { busy = refl; table = λ e. refl; childless = λ e. refl }
    go false = record { busy = refl; table = never'; childless = λ e. refl }

ruled_lawful : {table : Table} {a : Acted} → ActLawful table a → ActLawful table (ruled a)
ruled_lawful l = record { busy = l.busy; table = l.table; childless = l.childless }

pub act_lawful : (sum : Rule) (table : Table) (t : Thread) (op : Op) → ActLawful table (act sum table t op)
unfolding act perform
act_lawful sum table t (code.push n) = record { busy = refl; table = λ e. refl; childless = λ e. refl }
act_lawful sum table t code.add = record { busy = refl; table = λ e. refl; childless = λ e. refl }
act_lawful sum table t (code.read v) = record { busy = refl; table = λ e. refl; childless = λ e. refl }
act_lawful sum table t (code.write v) = record { busy = refl; table = λ e. refl; childless = λ e. refl }
act_lawful sum table t code.begin = record { busy = refl; table = λ e. refl; childless = λ e. refl }
act_lawful sum table t code.commit = ruled_lawful (commit_lawful table t _)
act_lawful sum table t (code.fork size) = record { busy = refl; table = λ e. refl; childless = never' }

pub never_idle : (sum : Rule) (table : Table) (t : Thread) (op : Op) → is_idle (act sum table t op).event ≡ false
never_idle sum table t op = (act_lawful sum table t op).busy

-- what holds of a pick that is no commit, and of one that is idle
record PickLawful (s : State) (r : Stepped) : Type 0 where
  still : is_idle r.event ≡ true → r.state ≡ s
  table : is_commit r.event ≡ false → table_in r.state ≡ table_in s

doing_lawful : (sum : Rule) (count : ℕ) (s : State) (i : ℕ) (t : Thread) (o : Outcome Op) → PickLawful s (doing sum count s i t o)
unfolding settle
doing_lawful sum count s i t (refused number place) = record { still = λ e. refl; table = λ e. refl }
doing_lawful sum count s i t (done op) =
    let a = act_lawful sum (table_in s) t op in
    record { still = λ e. never (sym a.busy ∙ e); table = a.table }

or_true : (b : Bool) → (b || true) ≡ true
or_true true = refl
or_true false = refl

module _ (sum : Rule) (bytes : List ℕ) (count : ℕ) (s : State) (i : ℕ) where
  pub no_record : ltb i (length s.threads) ≡ false → pick_among sum bytes count s i ≡ record { state = s; event = idle; over = 0 }
  unfolding pick_among
  no_record e = rw (pick_among, e)

  -- "A pick of a thread that does not exist .. is idle"
  pub missing_idle : exists (thread_at s i) ≡ false → pick_among sum bytes count s i ≡ record { state = s; event = idle; over = 0 }
  unfolding pick_among
  missing_idle e = rw (pick_among, e, or_true (not (ltb i (length s.threads))))

  -- "or has ended"
  pub ended_idle : (thread_at s i).place ≡ (thread_at s i).end → pick_among sum bytes count s i ≡ record { state = s; event = idle; over = 0 }
  unfolding pick_among
  ended_idle z = go (ltb i (length s.threads)) refl (exists (thread_at s i)) refl
    where
      go : (a : Bool) → ltb i (length s.threads) ≡ a → (b : Bool) → exists (thread_at s i) ≡ b → pick_among sum bytes count s i ≡ record { state = s; event = idle; over = 0 }
      go false l b e = no_record l
      go true l false e = missing_idle e
      go true l true e = rw (pick_among, l, e, z, eq-eqb (thread_at s i).end (thread_at s i).end refl)

  -- "Each other pick does one instruction": the one at the thread's place
  pub busy : ltb i (length s.threads) ≡ true → exists (thread_at s i) ≡ true → ((thread_at s i).place ≡ (thread_at s i).end → ⊥) → pick_among sum bytes count s i ≡ doing sum count s i (thread_at s i) (op_at (drop (thread_at s i).place bytes))
  unfolding pick_among
  busy l e z = rw (pick_among, l, e, ne_eqb (thread_at s i).place (thread_at s i).end z)

  pub does : (op : Op) → ltb i (length s.threads) ≡ true → exists (thread_at s i) ≡ true → ((thread_at s i).place ≡ (thread_at s i).end → ⊥) → op_at (drop (thread_at s i).place bytes) ≡ done op → pick_among sum bytes count s i ≡ settle count s i (act sum (table_in s) (thread_at s i) op)
  does op l e z f = busy l e z ∙ ap (λ (o : Outcome Op). doing sum count s i (thread_at s i) o) f

  idle_lawful : pick_among sum bytes count s i ≡ record { state = s; event = idle; over = 0 } → PickLawful s (pick_among sum bytes count s i)
  idle_lawful e = subst (λ (r : Stepped). PickLawful s r) (sym e) (record { still = λ x. refl; table = λ x. refl })

  pick_lawful : PickLawful s (pick_among sum bytes count s i)
  pick_lawful = go (ltb i (length s.threads)) refl (exists (thread_at s i)) refl (eqb (thread_at s i).place (thread_at s i).end) refl
    where
      go : (a : Bool) → ltb i (length s.threads) ≡ a → (b : Bool) → exists (thread_at s i) ≡ b → (c : Bool) → eqb (thread_at s i).place (thread_at s i).end ≡ c → PickLawful s (pick_among sum bytes count s i)
      go false l b e c z = idle_lawful (no_record l)
      go true l false e c z = idle_lawful (missing_idle e)
      go true l true e true z = idle_lawful (ended_idle (eqb-true (thread_at s i).place (thread_at s i).end z))
      go true l true e false z =
          subst (λ (r : Stepped). PickLawful s r) (sym (busy l e (eqb-false (thread_at s i).place (thread_at s i).end z)))
          (doing_lawful sum count s i (thread_at s i) (op_at (drop (thread_at s i).place bytes)))

-- an idle pick "changes nothing"
pub idle_keeps : (sum : Rule) (bytes : List ℕ) (s : State) (i : ℕ) → is_idle (pick sum bytes s i).event ≡ true → (pick sum bytes s i).state ≡ s
idle_keeps sum bytes s i = (pick_lawful sum bytes (number_of s.threads) s i).still

-- no pick but a COMMIT that takes effect changes a register
pub only_commit_writes : (sum : Rule) (bytes : List ℕ) (s : State) (i : ℕ) → is_commit (pick sum bytes s i).event ≡ false → table_in (pick sum bytes s i).state ≡ table_in s
only_commit_writes sum bytes s i = (pick_lawful sum bytes (number_of s.threads) s i).table

-- ---- runs
-- picks behind picks: a run goes on where the first one ended, and its events come behind
abbrev pub goes_on : Rule → (bytes : List ℕ) → Ran → List ℕ → Ran
goes_on sum bytes r is = record { state = (run sum bytes r.state is).state; events = r.events ++ (run sum bytes r.state is).events }

pub run_append : (sum : Rule) (bytes : List ℕ) (s : State) (is js : List ℕ) → run sum bytes s (is ++ js) ≡ goes_on sum bytes (run sum bytes s is) js
unfolding run
run_append sum bytes s [] js = refl
run_append sum bytes s (i ∷ is) js =
    rw (run_append sum bytes (pick sum bytes s i).state is js)

-- each pick is a step or idle, and is counted once
pub each_counted : (sum : Rule) (bytes : List ℕ) (s : State) (is : List ℕ) → (counts_of (run sum bytes s is).events).steps + (counts_of (run sum bytes s is).events).idle ≡ length is
unfolding run counts_of tally
each_counted sum bytes s [] = refl
each_counted sum bytes s (i ∷ is) = go (is_idle (pick sum bytes s i).event) (each_counted sum bytes (pick sum bytes s i).state is)
  where
    rest : Counts
    rest = counts_of (run sum bytes (pick sum bytes s i).state is).events

    go : (b : Bool) → (counts_of (run sum bytes (pick sum bytes s i).state is).events).steps + (counts_of (run sum bytes (pick sum bytes s i).state is).events).idle ≡ length is → more (not b) rest.steps + more b rest.idle ≡ suc (length is)
    go true e = let f : rest.steps + rest.idle ≡ length is = e in omega arith
    go false e = let f : rest.steps + rest.idle ≡ length is = e in omega arith
