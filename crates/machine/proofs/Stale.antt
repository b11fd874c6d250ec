-- Which registers are stale: what the walk over them finds, and that no instruction but a COMMIT makes a register of its thread's read log
-- stale. Assumes nothing.
use Prim.Native.Nat.{ℕ, zero, suc, ◌+◌, ◌≤◌, ◌<◌}
use mathlib.Core.Bool.{Bool, true, false, cond, not, ◌&&◌}
use mathlib.Core.Path.{◌≡◌, refl, sym, ap, subst, ◌∙◌}
use mathlib.Core.List.{List, [], ◌∷◌}
use native.Mathlib.Omega.{arith}
use native.Mathlib.Decide.{dec_lt}
use borrow.Author.Tests.{eqb-true, eqb-false, eq-eqb}
use lib.Dec.{eqb}
use lib.IntN.{ℤ, pos}
use lib.ListN.{length, get_or, set, replicate, length-set, get_or-eq_default}
use lib.Seq.{get_or-set_same, get_or-set_other}
use Rattle.stm.specs.Counted.{Table}
use Rattle.machine.specs.Steps.{FirstStale}
use Rattle.stm.specs.Events.{Source, from_writes, from_reads, from_table, more}
use Rattle.thread.specs.declared.Thread.{Thread}
use Rattle.thread.specs.Threads.{unwritten, push, source_of, read_from, noted, read, stale, first_stale, overlaid, recounted}
use Rattle.word.specs.Registers.{member, with}
use Rattle.word.specs.Registers as registers
use Rattle.word.proofs.Sets.{member_high, member_none, member_other}

-- two counts of a register, one logged and one in the table
abbrev differ : ℕ → ℕ → Bool
differ a b = not (eqb a b)

-- ---- the walk over the registers
-- what it stops at: the first stale register from v on, or the end
record Stops (t : Thread) (table : Table) (v end w : ℕ) : Type 0 where
  from : v ≤ w
  most : w ≤ end
  its : w < end → stale t table w ≡ true
  before : (u : ℕ) → v ≤ u → u < w → stale t table u ≡ false

stops : (left v : ℕ) (t : Thread) (table : Table) → Stops t table v (left + v) (first_stale left v t table)
unfolding first_stale
stops zero v t table = record { from = omega arith; most = omega arith; its = λ l. absurd (omega arith); before = λ u l m. absurd (omega arith) }
stops (suc left) v t table = go (stale t table v) refl (stops left (suc v) t table)
  where
    go : (b : Bool) → stale t table v ≡ b → Stops t table (suc v) (left + suc v) (first_stale left (suc v) t table) → Stops t table v (suc left + v) (elim b [ true ↦ v | false ↦ first_stale left (suc v) t table ])
    go true e r = record { from = omega arith; most = omega arith; its = λ l. e; before = λ u l m. absurd (omega arith) }
    go false e r =
        let f = r.from in
        let m = r.most in
        record { from = omega arith; most = omega arith; its = λ l. r.its (omega arith); before = λ u l k. below u l k (dec_lt v u) }
      where
        below : (u : ℕ) → v ≤ u → u < first_stale left (suc v) t table → Dec (v < u) → stale t table u ≡ false
        below u l k (yes x) = r.before u (omega arith) k
        below u l k (no x) = subst (λ (n : ℕ). stale t table n ≡ false) (let z : v ≡ u = omega arith in z) e

module _ (t : Thread) (table : Table) where
  pub found_stale : first_stale 64 0 t table < 64 → FirstStale t table (first_stale 64 0 t table)
  found_stale l = let r = stops 64 0 t table in record { small = l; its = r.its (omega arith); before = λ u k. r.before u (omega arith) k }

  pub found_none : 64 ≤ first_stale 64 0 t table → (u : ℕ) → u < 64 → stale t table u ≡ false
  found_none l u k = (stops 64 0 t table).before u (omega arith) (omega arith)

  -- nor is any other number
  pub none_stale : 64 ≤ first_stale 64 0 t table → (u : ℕ) → stale t table u ≡ false
  unfolding stale
  none_stale l u = go (dec_lt u 64)
    where
      go : Dec (u < 64) → stale t table u ≡ false
      go (yes k) = found_none l u k
      go (no k) = ap (λ (b : Bool). b && differ (get_or t.readcounts u 0) (get_or table.counts u 0)) (member_high t.reads u (omega arith))

-- ---- records that have the same read log, none, or one more register as it is in the table
pub never_back : {A : Type 0} → ◌≡◌ {A = Bool} false true → A
never_back e = absurd (let z : ◌≡◌ {A = ℕ} 0 1 = cc in omega arith)

pub stale_by : (t u : Thread) (table : Table) → u.reads ≡ t.reads → u.readcounts ≡ t.readcounts → (v : ℕ) → stale t table v ≡ false → stale u table v ≡ false
unfolding stale
stale_by t u table e f v z =
    ap (λ (r : ℕ). member r v && differ (get_or u.readcounts v 0) (get_or table.counts v 0)) e
    ∙ (ap (λ (l : List ℕ). member t.reads v && differ (get_or l v 0) (get_or table.counts v 0)) f ∙ z)

pub stale_none : (u : Thread) (table : Table) → u.reads ≡ registers.none → (v : ℕ) → stale u table v ≡ false
unfolding stale
stale_none u table e v =
    ap (λ (r : ℕ). member r v && differ (get_or u.readcounts v 0) (get_or table.counts v 0)) e
    ∙ ap (λ (b : Bool). b && differ (get_or u.readcounts v 0) (get_or table.counts v 0)) (member_none v)

pub stale-read : (table : Table) (v : ℕ) (t : Thread) → v < 64 → length t.readcounts ≡ 64 → (u : ℕ) → stale t table u ≡ false → stale (read table v t) table u ≡ false
unfolding stale read push
stale-read table v t small long u z = go (source_of t v)
  where
    and_no : (b : Bool) → (b && false) ≡ false
    and_no true = refl
    and_no false = refl

    now : ℕ
    now = get_or table.counts v 0

    just : u ≡ v → (member (with t.reads v) u && differ (get_or (set t.readcounts v now) u 0) (get_or table.counts u 0)) ≡ false
    just e =
        let a : get_or (set t.readcounts v now) u 0 ≡ get_or table.counts u 0 = ap (λ (k : ℕ). get_or (set t.readcounts v now) k 0) e ∙ (get_or-set_same t.readcounts v now 0 (omega arith) ∙ ap (λ (k : ℕ). get_or table.counts k 0) (sym e)) in
        ap (λ (n : ℕ). member (with t.reads v) u && differ n (get_or table.counts u 0)) a
        ∙ (ap (λ (b : Bool). member (with t.reads v) u && not b) (eq-eqb (get_or table.counts u 0) (get_or table.counts u 0) refl) ∙ and_no (member (with t.reads v) u))

    other : (u ≡ v → ⊥) → (member (with t.reads v) u && differ (get_or (set t.readcounts v now) u 0) (get_or table.counts u 0)) ≡ false
    other e =
        ap (λ (b : Bool). b && differ (get_or (set t.readcounts v now) u 0) (get_or table.counts u 0)) (member_other t.reads v u e)
        ∙ (ap (λ (n : ℕ). member t.reads u && differ n (get_or table.counts u 0)) (get_or-set_other t.readcounts v u now 0 e) ∙ z)

    entered : (b : Bool) → eqb u v ≡ b → (member (with t.reads v) u && differ (get_or (set t.readcounts v now) u 0) (get_or table.counts u 0)) ≡ false
    entered true e = just (eqb-true u v e)
    entered false e = other (eqb-false u v e)

    go : (from : Source) → (member (noted from v (read_from from table.registers t v) now t).reads u && differ (get_or (noted from v (read_from from table.registers t v) now t).readcounts u 0) (get_or table.counts u 0)) ≡ false
    go from_writes = z
    go from_reads = z
    go from_table = entered (eqb u v) refl

-- ---- document 02 No. 6: the counts
-- what a step makes of a register's count: it is as it was, or one higher if a commit takes effect
abbrev pub Grown : Bool → ℕ → ℕ → Type 0
Grown commits was now = (was ≤ now) × (now ≤ more commits was)

pub same_grown : (n : ℕ) → Grown false n n
same_grown n = (omega arith, omega arith)

get_d_set_grown : (ns : List ℕ) (v u : ℕ) → Grown true (get_or ns u 0) (get_or (set ns v (suc (get_or ns v 0))) u 0)
get_d_set_grown [] v u = (omega arith, omega arith)
get_d_set_grown (n ∷ ns) zero zero = (omega arith, omega arith)
get_d_set_grown (n ∷ ns) zero (suc u) = (omega arith, omega arith)
get_d_set_grown (n ∷ ns) (suc v) zero = (omega arith, omega arith)
get_d_set_grown (n ∷ ns) (suc v) (suc u) = get_d_set_grown ns v u

-- those before v are as they were
recounted_before : (left v : ℕ) (t : Thread) (ns : List ℕ) (u : ℕ) → u < v → get_or (recounted left v t ns) u 0 ≡ get_or ns u 0
unfolding recounted
recounted_before zero v t ns u l = refl
recounted_before (suc left) v t ns u l = go (member t.writes v) (λ ns'. recounted_before left (suc v) t ns' u (omega arith))
  where
    go : (b : Bool) → ((ns' : List ℕ) → get_or (recounted left (suc v) t ns') u 0 ≡ get_or ns' u 0) → get_or (recounted left (suc v) t (cond b (set ns v (suc (get_or ns v 0))) ns)) u 0 ≡ get_or ns u 0
    go true f = f (set ns v (suc (get_or ns v 0))) ∙ get_or-set_other ns v u (suc (get_or ns v 0)) 0 (λ e. absurd (omega arith))
    go false f = f ns

-- "how often commits have written it": a commit adds one to each register of its write log, and nothing to the others
pub recounted_at : (left v : ℕ) (t : Thread) (ns : List ℕ) (u : ℕ) → v ≤ u → u < v + left → u < length ns → get_or (recounted left v t ns) u 0 ≡ more (member t.writes u) (get_or ns u 0)
unfolding recounted
recounted_at zero v t ns u a b l = absurd (omega arith)
recounted_at (suc left) v t ns u a b l = at (eqb u v) refl (λ ns' x y z. recounted_at left (suc v) t ns' u x y z)
  where
    at : (x : Bool) → eqb u v ≡ x → ((ns' : List ℕ) → suc v ≤ u → u < suc v + left → u < length ns' → get_or (recounted left (suc v) t ns') u 0 ≡ more (member t.writes u) (get_or ns' u 0)) → get_or (recounted left (suc v) t (cond (member t.writes v) (set ns v (suc (get_or ns v 0))) ns)) u 0 ≡ more (member t.writes u) (get_or ns u 0)
    at true e rec =
        let q : u ≡ v = eqb-true u v e in
        subst (λ (k : ℕ). get_or (recounted left (suc v) t (cond (member t.writes v) (set ns v (suc (get_or ns v 0))) ns)) k 0 ≡ more (member t.writes k) (get_or ns k 0)) (sym q)
        (recounted_before left (suc v) t (cond (member t.writes v) (set ns v (suc (get_or ns v 0))) ns) v (omega arith) ∙ go (member t.writes v))
      where
        go : (b : Bool) → get_or (cond b (set ns v (suc (get_or ns v 0))) ns) v 0 ≡ more b (get_or ns v 0)
        go true = get_or-set_same ns v (suc (get_or ns v 0)) 0 (let q : u ≡ v = eqb-true u v e in omega arith)
        go false = refl
    at false e rec = let q : u ≡ v → ⊥ = eqb-false u v e in go q (member t.writes v)
      where
        go : (u ≡ v → ⊥) → (b : Bool) → get_or (recounted left (suc v) t (cond b (set ns v (suc (get_or ns v 0))) ns)) u 0 ≡ more (member t.writes u) (get_or ns u 0)
        go q true = rec (set ns v (suc (get_or ns v 0))) (omega arith) (omega arith) (let z = length-set ns v (suc (get_or ns v 0)) in omega arith) ∙ ap (more (member t.writes u)) (get_or-set_other ns v u (suc (get_or ns v 0)) 0 q)
        go q false = rec ns (omega arith) (omega arith) l

pub recounted_length : (left v : ℕ) (t : Thread) (ns : List ℕ) → length (recounted left v t ns) ≡ length ns
unfolding recounted
recounted_length zero v t ns = refl
recounted_length (suc left) v t ns = recounted_length left (suc v) t (cond (member t.writes v) (set ns v (suc (get_or ns v 0))) ns) ∙ go (member t.writes v)
  where
    go : (b : Bool) → length (cond b (set ns v (suc (get_or ns v 0))) ns) ≡ length ns
    go true = length-set ns v (suc (get_or ns v 0))
    go false = refl

pub overlaid_length : (left v : ℕ) (t : Thread) (rs : List ℤ) → length (overlaid left v t rs) ≡ length rs
unfolding overlaid
overlaid_length zero v t rs = refl
overlaid_length (suc left) v t rs = overlaid_length left (suc v) t (cond (member t.writes v) (set rs v (get_or t.writelog v (pos 0))) rs) ∙ go (member t.writes v)
  where
    go : (b : Bool) → length (cond b (set rs v (get_or t.writelog v (pos 0))) rs) ≡ length rs
    go true = length-set rs v (get_or t.writelog v (pos 0))
    go false = refl

pub recounted_grown : (t : Thread) (ns : List ℕ) → length ns ≡ 64 → (u : ℕ) → Grown true (get_or ns u 0) (get_or (recounted 64 0 t ns) u 0)
recounted_grown t ns e u = go (dec_lt u 64)
  where
    step : (b : Bool) → Grown true (get_or ns u 0) (more b (get_or ns u 0))
    step true = (omega arith, omega arith)
    step false = (omega arith, omega arith)

    go : Dec (u < 64) → Grown true (get_or ns u 0) (get_or (recounted 64 0 t ns) u 0)
    go (yes l) = subst (Grown true (get_or ns u 0)) (sym (recounted_at 64 0 t ns u (omega arith) (omega arith) (omega arith))) (step (member t.writes u))
    go (no l) =
        let a : get_or ns u 0 ≡ 0 = get_or-eq_default ns 0 (omega arith) in
        let b : get_or (recounted 64 0 t ns) u 0 ≡ 0 = get_or-eq_default (recounted 64 0 t ns) 0 (let z = recounted_length 64 0 t ns in omega arith) in
        (omega arith, omega arith)

-- no count of an empty read log is above another, nor is one just read
pub low_none : (u : ℕ) (n : ℕ) → get_or unwritten u 0 ≤ n
low_none u n = let z = zeros_at 64 u in omega arith
  where
    zeros_at : (k n : ℕ) → ◌≡◌ {A = ℕ} (get_or (replicate k 0) n 0) 0
    zeros_at zero n = refl
    zeros_at (suc k) zero = refl
    zeros_at (suc k) (suc n) = zeros_at k n

pub low_read : (table : Table) (v : ℕ) (t : Thread) → ((u : ℕ) → get_or t.readcounts u 0 ≤ get_or table.counts u 0) → (u : ℕ) → get_or (read table v t).readcounts u 0 ≤ get_or table.counts u 0
unfolding read push
low_read table v t f u = go (source_of t v)
  where
    set_low : (ns ms : List ℕ) (v u : ℕ) → get_or ns u 0 ≤ get_or ms u 0 → get_or (set ns v (get_or ms v 0)) u 0 ≤ get_or ms u 0
    set_low [] ms v u l = l
    set_low (n ∷ ns) [] zero zero l = omega arith
    set_low (n ∷ ns) (m ∷ ms) zero zero l = omega arith
    set_low (n ∷ ns) ms zero (suc u) l = l
    set_low (n ∷ ns) ms (suc v) zero l = l
    set_low (n ∷ ns) [] (suc v) (suc u) l = set_low ns [] v u l
    set_low (n ∷ ns) (m ∷ ms) (suc v) (suc u) l = set_low ns ms v u l

    go : (from : Source) → get_or (noted from v (read_from from table.registers t v) (get_or table.counts v 0) t).readcounts u 0 ≤ get_or table.counts u 0
    go from_writes = f u
    go from_reads = f u
    go from_table = set_low t.readcounts table.counts v u (f u)
