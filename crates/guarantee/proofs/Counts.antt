-- Document 02 No. 6: which counts fit. Assumes nothing.
use Prim.Native.Nat.{ℕ, suc, ◌+◌, ◌≤◌, ◌<◌}
use mathlib.Core.Bool.{Bool, true, false, not, ◌&&◌}
use mathlib.Core.Logic.{◌↔◌}
use mathlib.Core.Path.{◌≡◌, refl, sym, ap, subst, ◌∙◌}
use mathlib.Core.List.{List}
use native.Mathlib.Omega.{arith}
use borrow.Author.Tests.{eqb-true, eqb-false, eq-eqb}
use lib.Dec.{eqb}
use lib.IntN.{ℤ, pos}
use lib.ListN.{length, get_or, set, length-set}
use lib.Seq.{get_or-set_same, get_or-set_other}
use Rattle.guarantee.specs.Staleness.{with_registers, with_count, with_logged}
use Rattle.code.specs.Bytes.{IsCode}
use Rattle.machine.specs.Fits.{own_code, CommitsPassed, BacksWithin, Placed, Exists, ThreadOf, Forked, OneThread, Fits, Typed}
use Rattle.machine.specs.Steps.{State, Child, table_in, thread_at}
use Rattle.machine.proofs.Agrees.{outer}
use Rattle.machine.proofs.Keeps.{log_free}
use Rattle.machine.proofs.Numbers.{in_table}
use Rattle.machine.proofs.Passing.{passed_once, passed_set}
use Rattle.script.specs.Jobs.{Job}
use Rattle.stm.specs.Counted.{Table}
use Rattle.thread.specs.declared.Thread.{Thread}
use Rattle.thread.specs.Threads.{blank, exists, with_logs, stale}
use Rattle.word.specs.Registers.{member}

never : {A : Type 0} → ◌≡◌ {A = Bool} true false → A
never e = absurd (let z : ◌≡◌ {A = ℕ} 0 1 = cc in omega arith)

-- ---- one entry of a list
module _ {A : Type 0} (xs : List A) (v : ℕ) (x d : A) (l : v < length xs) where
  -- each entry has what the new one has and the old ones had
  each_entry : (P : ℕ → A → Type 0) → P v x → ((u : ℕ) → (u ≡ v → ⊥) → P u (get_or xs u d)) → (u : ℕ) → P u (get_or (set xs v x) u d)
  each_entry P new old u = go (eqb u v) refl
    where
      go : (b : Bool) → eqb u v ≡ b → P u (get_or (set xs v x) u d)
      go true e = subst (λ (w : ℕ). P w (get_or (set xs v x) w d)) (sym (eqb-true u v e)) (subst (P v) (sym (get_or-set_same xs v x d l)) new)
      go false e = subst (P u) (sym (get_or-set_other xs v u x d (eqb-false u v e))) (old u (eqb-false u v e))

-- ---- staleness by both counts
-- whether a register is stale, of the mark and both counts
abbrev differs : Bool → (logged now : ℕ) → Bool
differs marked logged n = marked && not (eqb logged n)

same_calm : (marked : Bool) (m n : ℕ) → m ≡ n → differs marked m n ≡ false
same_calm true m n e = ap not (eq-eqb m n e)
same_calm false m n e = refl

calm_same : (m n : ℕ) → differs true m n ≡ false → m ≡ n
calm_same m n e = go (eqb m n) refl e
  where
    go : (b : Bool) → eqb m n ≡ b → not b ≡ false → m ≡ n
    go true q z = eqb-true m n q
    go false q z = never z

stale_is : (t : Thread) (table : Table) (v : ℕ) → stale t table v ≡ differs (member t.reads v) (get_or t.readcounts v 0) (get_or table.counts v 0)
unfolding stale
stale_is t table v = refl

-- ---- the same threads over another table
module _ (bytes : List ℕ) (s : State) (f : Fits bytes s) (rs : List ℤ) (ns : List ℕ) where
  -- the state
  abbrev over : State
  over = record { registers = rs; counts = ns; threads = s.threads }

  forked_in : (c : Child) → Forked bytes s c → Forked bytes over c
  forked_in c x = record { parent = x.parent; there = x.there; passed = x.passed }

  forked_out : (c : Child) → Forked bytes over c → Forked bytes s c
  forked_out c x = record { parent = x.parent; there = x.there; passed = x.passed }

  thread_in : (c : Child) (i : ℕ) → ThreadOf s c i → ThreadOf over c i
  thread_in c i x = record { there = x.there; own = x.own }

  thread_out : (c : Child) (i : ℕ) → ThreadOf over c i → ThreadOf s c i
  thread_out c i x = record { there = x.there; own = x.own }

  one_in : (c : Child) → OneThread s c → OneThread over c
  one_in c o = record { thread = o.thread; its = thread_in c o.thread o.its; alone = λ i x. o.alone i (thread_out c i x) }

  over_fits : length rs ≡ 64 → length ns ≡ 64 → ((i : ℕ) → Exists s i → BacksWithin (0 + f.commits) (table_in over) (thread_at s i)) → ((v : ℕ) → get_or ns v 0 ≤ 0 + f.commits) → Fits bytes over
  over_fits lr ln tallied counted =
      record {
        records = f.records;
        registers = lr;
        counts = ln;
        root = f.root;
        child = λ i e. forked_in (own_code (thread_at s (suc i))) (f.child i e);
        one = λ c x. one_in c (f.one c (forked_out c x));
        placed = f.placed;
        no_gap = f.no_gap;
        no_thread = f.no_thread;
        commits = f.commits;
        passed = f.passed;
        tallied = tallied;
        counted = counted;
      }

-- the table's values are free
pub any_values : (bytes : List ℕ) (s : State) → Fits bytes s → (rs : List ℤ) → length rs ≡ 64 → Fits bytes (with_registers s rs)
any_values bytes s f rs l =
    over_fits bytes s f rs s.counts l f.counts
    (λ i e. let x = f.tallied i e in record { not-above = x.not-above; not_stale = λ q v. stale_is (thread_at s i) (table_in (with_registers s rs)) v ∙ (sym (stale_is (thread_at s i) (table_in s) v) ∙ x.not_stale q v); not-ahead = x.not-ahead })
    f.counted

-- ---- another count in the table
module _ (bytes : List ℕ) (s : State) (f : Fits bytes s) (n v : ℕ) (passed : CommitsPassed bytes s.threads n) (l : v < 64) (m : ℕ) where
  -- what is asked of thread i
  abbrev Allows : ℕ → Type 0
  Allows i = (get_or (thread_at s i).readcounts v 0 ≤ m) × ((thread_at s i).backs ≡ n → stale (thread_at s i) (table_in (with_count s v m)) v ≡ false)

  all : f.commits ≡ n
  all = passed_once f.passed passed

  inside : v < length s.counts
  inside = let z = f.counts in omega arith

  at_v : get_or (set s.counts v m) v 0 ≡ m
  at_v = get_or-set_same s.counts v m 0 inside

  within : m ≤ n → ((i : ℕ) → Exists s i → Allows i) → (i : ℕ) → Exists s i → BacksWithin (0 + f.commits) (table_in (with_count s v m)) (thread_at s i)
  within low allows i e =
      let x = f.tallied i e in
      record {
        not-above = x.not-above;
        not_stale = λ q u.
            let b : (thread_at s i).backs ≡ n = (let a = all in omega arith) in
            stale_is (thread_at s i) (table_in (with_count s v m)) u
            ∙ each_entry s.counts v m 0 inside (λ w k. differs (member (thread_at s i).reads w) (get_or (thread_at s i).readcounts w 0) k ≡ false)
            (sym (ap (differs (member (thread_at s i).reads v) (get_or (thread_at s i).readcounts v 0)) at_v) ∙ (sym (stale_is (thread_at s i) (table_in (with_count s v m)) v) ∙ (allows i e).1 b))
            (λ w d. sym (stale_is (thread_at s i) (table_in s) w) ∙ x.not_stale q w) u;
        not-ahead = each_entry s.counts v m 0 inside (λ w k. get_or (thread_at s i).readcounts w 0 ≤ k) (allows i e).0 (λ w d. x.not-ahead w);
      }

  pub any_count : Fits bytes (with_count s v m) ↔ ((m ≤ n) × ((i : ℕ) → Exists s i → Allows i))
  any_count = (there, back)
    where
      there : Fits bytes (with_count s v m) → (m ≤ n) × ((i : ℕ) → Exists s i → Allows i)
      there g =
          let q : g.commits ≡ n = passed_once g.passed passed in (
            let z = g.counted v in let a = at_v in omega arith,
            λ i e. let x = g.tallied i e in (let z = x.not-ahead v in let a = at_v in omega arith, λ b. x.not_stale (omega arith) v),
          )

      back : (m ≤ n) × ((i : ℕ) → Exists s i → Allows i) → Fits bytes (with_count s v m)
      back (low, allows) =
          over_fits bytes s f s.registers (set s.counts v m) f.registers (length-set s.counts v m ∙ f.counts) (within low allows)
          (each_entry s.counts v m 0 inside (λ w k. k ≤ 0 + f.commits) (let a = all in omega arith) (λ w d. f.counted w))

-- ---- another entry of a read log
module _ {bytes : List ℕ} {j : Job} (c : IsCode bytes j) (s : State) (f : Fits bytes s) (y : Typed s) (i v : ℕ) (e : Exists s i) (l : v < 64) (x : ℤ) (m : ℕ) where
  -- the thread, and its record with the other entry
  abbrev t : Thread
  t = thread_at s i

  -- its record with the other entry
  abbrev u : Thread
  u = with_logs t.reads (set t.readlog v x) (set t.readcounts v m) t.writes t.writelog t

  inside_log : v < length t.readlog
  inside_log = let z = (y i).readlog in omega arith

  inside_counts : v < length t.readcounts
  inside_counts = let z = (y i).readcounts in omega arith

  there : thread_at (with_logged s i v x m) i ≡ u
  there = get_or-set_same s.threads i u blank (in_table s i e)

  count_there : get_or u.readcounts v 0 ≡ m
  count_there = get_or-set_same t.readcounts v m 0 inside_counts

  value_there : get_or u.readlog v (pos 0) ≡ x
  value_there = get_or-set_same t.readlog v x (pos 0) inside_log

  fits_with : ((w : ℕ) → member t.reads w ≡ false → (get_or u.readlog w (pos 0) ≡ pos 0) × (get_or u.readcounts w 0 ≡ 0)) → BacksWithin (0 + f.commits) (table_in s) u → Fits bytes (with_logged s i v x m)
  fits_with free b = log_free c (outer c) s f y i e u.readlog u.readcounts (length-set t.readlog v x ∙ (y i).readlog) (length-set t.readcounts v m ∙ (y i).readcounts) free b

  -- what a state that fits with it says of the record
  placed_with : Fits bytes (with_logged s i v x m) → Placed bytes u
  placed_with g = subst (Placed bytes) there (g.placed i (ap exists there ∙ e))

  tallied_with : (g : Fits bytes (with_logged s i v x m)) → BacksWithin (0 + g.commits) (table_in s) u
  tallied_with g = subst (BacksWithin (0 + g.commits) (table_in s)) there (g.tallied i (ap exists there ∙ e))

  commits_with : (g : Fits bytes (with_logged s i v x m)) → g.commits ≡ f.commits
  commits_with g = let z = passed_once g.passed (passed_set i 0 u f.passed (in_table s i e) e (f.placed i e).walks e (f.placed i e).walks (omega arith)) in omega arith

  pub any_logged : (n : ℕ) → CommitsPassed bytes s.threads n → member t.reads v ≡ true → Fits bytes (with_logged s i v x m) ↔ ((m ≤ get_or s.counts v 0) × (t.backs ≡ n → m ≡ get_or s.counts v 0))
  any_logged n passed k = (to, from)
    where
      all : f.commits ≡ n
      all = passed_once f.passed passed

      to : Fits bytes (with_logged s i v x m) → (m ≤ get_or s.counts v 0) × (t.backs ≡ n → m ≡ get_or s.counts v 0)
      to g =
          let b = tallied_with g in (
            let z = b.not-ahead v in let a = count_there in omega arith,
            λ q. calm_same m (get_or s.counts v 0)
                (sym (stale_is u (table_in s) v ∙ (ap (λ (r : Bool). differs r (get_or u.readcounts v 0) (get_or s.counts v 0)) k ∙ ap (λ (w : ℕ). differs true w (get_or s.counts v 0)) count_there))
                ∙ b.not_stale (let a = all in let w = commits_with g in omega arith) v),
          )

      from : (m ≤ get_or s.counts v 0) × (t.backs ≡ n → m ≡ get_or s.counts v 0) → Fits bytes (with_logged s i v x m)
      from (low, even) =
          fits_with free
          (record {
            not-above = b.not-above;
            not_stale = λ q w.
                stale_is u (table_in s) w
                ∙ each_entry t.readcounts v m 0 inside_counts (λ z p. differs (member t.reads z) p (get_or s.counts z 0) ≡ false)
                (same_calm (member t.reads v) m (get_or s.counts v 0) (even (let a = all in omega arith)))
                (λ z d. sym (stale_is t (table_in s) z) ∙ b.not_stale q z) w;
            not-ahead = each_entry t.readcounts v m 0 inside_counts (λ w p. p ≤ get_or s.counts w 0) low (λ w d. b.not-ahead w);
          })
        where
          b : BacksWithin (0 + f.commits) (table_in s) t
          b = f.tallied i e

          free : (w : ℕ) → member t.reads w ≡ false → (get_or u.readlog w (pos 0) ≡ pos 0) × (get_or u.readcounts w 0 ≡ 0)
          free w q =
              let d : w ≡ v → ⊥ = λ z. never (sym k ∙ (ap (member t.reads) (sym z) ∙ q)) in
              (get_or-set_other t.readlog v w x (pos 0) d ∙ (f.placed i e).reads_free w q, get_or-set_other t.readcounts v w m 0 d ∙ (f.placed i e).counts_free w q)

  pub none_logged : member t.reads v ≡ false → Fits bytes (with_logged s i v x m) ↔ ((x ≡ pos 0) × (m ≡ 0))
  none_logged k = (to, from)
    where
      to : Fits bytes (with_logged s i v x m) → (x ≡ pos 0) × (m ≡ 0)
      to g = let p = placed_with g in (sym value_there ∙ p.reads_free v k, sym count_there ∙ p.counts_free v k)

      from : (x ≡ pos 0) × (m ≡ 0) → Fits bytes (with_logged s i v x m)
      from (zx, zm) =
          fits_with
          (λ w q. (
            each_entry t.readlog v x (pos 0) inside_log (λ z p. member t.reads z ≡ false → p ≡ pos 0) (λ r. zx) (λ z d r. (f.placed i e).reads_free z r) w q,
            each_entry t.readcounts v m 0 inside_counts (λ z p. member t.reads z ≡ false → p ≡ 0) (λ r. zm) (λ z d r. (f.placed i e).counts_free z r) w q,
          ))
          (record {
            not-above = b.not-above;
            not_stale = λ q w.
                stale_is u (table_in s) w
                ∙ each_entry t.readcounts v m 0 inside_counts (λ z p. differs (member t.reads z) p (get_or s.counts z 0) ≡ false)
                (ap (λ (r : Bool). differs r m (get_or s.counts v 0)) k)
                (λ z d. sym (stale_is t (table_in s) z) ∙ b.not_stale q z) w;
            not-ahead = each_entry t.readcounts v m 0 inside_counts (λ w p. p ≤ get_or s.counts w 0) (omega arith) (λ w d. b.not-ahead w);
          })
        where
          b : BacksWithin (0 + f.commits) (table_in s) t
          b = f.tallied i e
