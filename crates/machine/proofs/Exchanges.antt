-- Document 02 No. 8: picks of different threads that do neither a FORK nor a commit that takes effect may be exchanged, in every state and whatever the
-- code; and which lists come out of one another so. Assumes nothing.
use Prim.Native.Nat.{ℕ, suc}
use mathlib.Core.Bool.{Bool, true, false, cond, not, ◌||◌}
use mathlib.Core.Logic.{◌↔◌}
use mathlib.Core.Path.{◌≡◌, refl, sym, ap, subst, ◌∙◌}
use mathlib.Core.List.{List, [], ◌∷◌, ◌++◌}
use native.Mathlib.Omega.{arith}
use borrow.Author.Tests.{eqb-true, eqb-false, eq-eqb}
use lib.Dec.{eqb, ltb}
use lib.ListN.{length, drop, set, length-set}
use lib.Seq.{set-get_or, set_comm, get_or-set_other}
use Rattle.code.specs.Bytes.{IsCode}
use Rattle.code.specs.Ops.{Op, op_at}
use Rattle.code.specs.Reader.{read_code}
use Rattle.code.proofs.ReadBack.{read_is_code}
use Rattle.machine.specs.Answers.{sum_of, Told, tells, step_of, run_of, step_reply, Returned, step_call, run_call}
use Rattle.machine.specs.declared.StepReply.{StepReply}
use Rattle.machine.specs.Exchange.{fixed, Free, FreeReply, Exchanged, here, later, Exchanges, none, then, seen_by}
use Rattle.machine.specs.Fits.{Fits, Typed}
use Rattle.machine.specs.FitTest.{fits}
use Rattle.machine.specs.Steps.{State, Acted, act, Stepped, number_of, thread_at, settle, doing, pick_among, pick, run, table_in}
use Rattle.machine.proofs.Agrees.{step_fits}
use Rattle.machine.proofs.Calls.{step_12, step_done, step_refused, step_taken}
use Rattle.machine.proofs.FitTests.{fits_exactly}
use Rattle.machine.proofs.Numbers.{never}
use Rattle.machine.proofs.Picks.{act_lawful}
use Rattle.script.specs.Bytes.{Bytes}
use Rattle.script.specs.Jobs.{Job}
use Rattle.script.specs.Outcome.{Outcome, refused, done}
use Rattle.stm.specs.Counted.{Table}
use Rattle.stm.specs.Events.{from_writes, from_reads, from_table, Event, idle, pushed, summed, forked, begun, looked, wrote, committed, sent_back, is_fork, is_commit}
use Rattle.stm.specs.Events.{Happened, tally, counts_of, event_number, event_register, turn_number}
use Rattle.stm.proofs.Counts.{tally_swap}
use Rattle.thread.specs.declared.Thread.{Thread}
use Rattle.thread.specs.Threads.{blank, exists}
use Rattle.word.specs.Sum.{Rule}

-- ---- lists of what picks did
-- one that is not fixed is no FORK, and no commit that took effect
not_or : (a b : Bool) → (a || b) ≡ false → (a ≡ false) × (b ≡ false)
not_or true b e = never refl e
not_or false b e = (refl, e)

-- a FORK or a commit is seen by every number, and each pick by its own; nothing else is
fixed_seen : (x : ℕ) (h : Happened) (hs : List Happened) → fixed h.event ≡ true → seen_by x (h ∷ hs) ≡ h ∷ seen_by x hs
unfolding seen_by
fixed_seen x h hs e = go (eqb h.thread x) (fixed h.event) e
  where
    go : (a b : Bool) → b ≡ true → cond (a || b) (h ∷ seen_by x hs) (seen_by x hs) ≡ h ∷ seen_by x hs
    go true b e = refl
    go false true e = refl
    go false false e = never e refl

own_seen : (x : ℕ) (h : Happened) (hs : List Happened) → h.thread ≡ x → seen_by x (h ∷ hs) ≡ h ∷ seen_by x hs
unfolding seen_by
own_seen x h hs e = rw (eq-eqb h.thread x e)

other_seen : (x : ℕ) (h : Happened) (hs : List Happened) → eqb h.thread x ≡ false → fixed h.event ≡ false → seen_by x (h ∷ hs) ≡ seen_by x hs
unfolding seen_by
other_seen x h hs d e = rw (d, e)

-- two that are free, of different threads, are seen alike in either order
seen_swap : (x : ℕ) (a b : Happened) (hs : List Happened) → (a.thread ≡ b.thread → ⊥) → fixed a.event ≡ false → fixed b.event ≡ false → seen_by x (a ∷ b ∷ hs) ≡ seen_by x (b ∷ a ∷ hs)
unfolding seen_by
seen_swap x a b hs n f g = go (eqb a.thread x) refl (eqb b.thread x) refl
  where
    go : (p : Bool) → eqb a.thread x ≡ p → (q : Bool) → eqb b.thread x ≡ q → seen_by x (a ∷ b ∷ hs) ≡ seen_by x (b ∷ a ∷ hs)
    go true d true e = absurd (n (eqb-true a.thread x d ∙ sym (eqb-true b.thread x e)))
    go true d false e = rw (d, e, g)
    go false d true e = rw (d, e, f)
    go false d false e = rw (d, e, f, g)

same_first : {h g : Happened} {hs gs : List Happened} → h ∷ hs ≡ g ∷ gs → h ≡ g
same_first e = cc

same_rest : {h g : Happened} {hs gs : List Happened} → h ∷ hs ≡ g ∷ gs → hs ≡ gs
same_rest e = cc

not_empty : {A : Type 0} {h : Happened} {hs : List Happened} → ◌≡◌ {A = List Happened} [] (h ∷ hs) → A
not_empty e = absurd (let z : ◌≡◌ {A = ℕ} 0 1 = cc in omega arith)

-- with the same first one the same is seen, and behind it
seen_more : (x : ℕ) (h : Happened) (hs gs : List Happened) → seen_by x hs ≡ seen_by x gs → seen_by x (h ∷ hs) ≡ seen_by x (h ∷ gs)
unfolding seen_by
seen_more x h hs gs e = ap (λ (l : List Happened). cond (eqb h.thread x || fixed h.event) (h ∷ l) l) e

seen_rest : (x : ℕ) (h : Happened) (hs gs : List Happened) → seen_by x (h ∷ hs) ≡ seen_by x (h ∷ gs) → seen_by x hs ≡ seen_by x gs
unfolding seen_by
seen_rest x h hs gs e = go (eqb h.thread x || fixed h.event) e
  where
    go : (b : Bool) → cond b (h ∷ seen_by x hs) (seen_by x hs) ≡ cond b (h ∷ seen_by x gs) (seen_by x gs) → seen_by x hs ≡ seen_by x gs
    go true q = same_rest q
    go false q = q

module _ (sum : Rule) (bytes : List ℕ) where
  -- ---- one pick
  -- what a pick does to its thread's record: of the state it sees the table, the record, and whether there is one
  abbrev nothing : Table → Thread → Acted
  nothing table t = record { thread = t; table = table; children = []; event = idle; over = 0 }

  abbrev by_op : Table → Thread → Outcome Op → Acted
  by_op table t (refused number place) = nothing table t
  by_op table t (done op) = act sum table t op

  abbrev idly : Bool → Table → Thread → Acted
  idly true table t = nothing table t
  idly false table t = by_op table t (op_at (drop t.place bytes))

  own : Table → Bool → Thread → Acted
  own table there t = idly (not there || (not (exists t) || eqb t.place t.end)) table t

  -- what one that is neither a FORK nor a commit leaves of the table and the other records
  record Alone (h : Table) (a : Acted) : Type 0 where
    table : is_commit a.event ≡ false → a.table ≡ h
    childless : is_fork a.event ≡ false → a.children ≡ []

  own_alone : (table : Table) (there : Bool) (t : Thread) → Alone table (own table there t)
  unfolding own
  own_alone table there t = which (not there || (not (exists t) || eqb t.place t.end))
    where
      by : (o : Outcome Op) → Alone table (by_op table t o)
      by (refused number place) = record { table = λ e. refl; childless = λ e. refl }
      by (done op) = let l = act_lawful sum table t op in record { table = l.table; childless = l.childless }

      which : (b : Bool) → Alone table (idly b table t)
      which true = record { table = λ e. refl; childless = λ e. refl }
      which false = by (op_at (drop t.place bytes))

  abbrev its : State → ℕ → Acted
  its s i = own (table_in s) (ltb i (length s.threads)) (thread_at s i)

  pick_own : (s : State) (i : ℕ) → pick sum bytes s i ≡ settle (number_of s.threads) s i (its s i)
  unfolding pick_among settle own
  pick_own s i = which (not (ltb i (length s.threads)) || (not (exists (thread_at s i)) || eqb (thread_at s i).place (thread_at s i).end))
    where
      count : ℕ
      count = number_of s.threads

      same : record { state = s; event = idle; over = 0 } ≡ settle count s i (nothing (table_in s) (thread_at s i))
      same = ap (λ (ts : List Thread). record { state = record { registers = s.registers; counts = s.counts; threads = ts }; event = idle; over = 0 }) (sym (set-get_or s.threads i blank))

      by : (o : Outcome Op) → doing sum count s i (thread_at s i) o ≡ settle count s i (by_op (table_in s) (thread_at s i) o)
      by (refused number place) = same
      by (done op) = refl

      which : (b : Bool) → ◌≡◌ {A = Stepped} (elim b [ true ↦ record { state = s; event = idle; over = 0 } | false ↦ doing sum count s i (thread_at s i) (op_at (drop (thread_at s i).place bytes)) ])
          (settle count s i (idly b (table_in s) (thread_at s i)))
      which true = same
      which false = by (op_at (drop (thread_at s i).place bytes))

  -- the state with another record of thread i
  abbrev put : State → ℕ → Thread → State
  put s i t = record { registers = s.registers; counts = s.counts; threads = set s.threads i t }

  settled : (s : State) (i count : ℕ) (a : Acted) → Alone (table_in s) a → fixed a.event ≡ false → settle count s i a ≡ record { state = put s i a.thread; event = a.event; over = a.over }
  unfolding settle
  settled s i count a l f = let n = not_or (is_fork a.event) (is_commit a.event) f in rw (l.table n.1, l.childless n.0)

  -- a pick that is neither changes its record alone
  free_pick : (s : State) (i : ℕ) → Free (pick sum bytes s i) → (pick sum bytes s i).state ≡ put s i (its s i).thread
  unfolding settle
  free_pick s i f =
      let e = pick_own s i in
      ap (λ (r : Stepped). r.state)
      (e ∙ settled s i (number_of s.threads) (its s i) (own_alone (table_in s) (ltb i (length s.threads)) (thread_at s i)) (sym (ap (λ (r : Stepped). fixed r.event) e) ∙ f))

  tells_own : (s : State) (i : ℕ) → tells (pick sum bytes s i) ≡ record { event = (its s i).event; over = (its s i).over }
  unfolding settle
  tells_own s i = ap tells (pick_own s i)

  -- and of another thread's record nothing is seen
  unseen : (s : State) (i k : ℕ) (t : Thread) → (i ≡ k → ⊥) → its (put s i t) k ≡ its s k
  unseen s i k t n = rw (length-set s.threads i t, get_or-set_other s.threads i k t blank (λ e. n (sym e)))

  -- behind a free pick another thread's does what it did before it
  its_behind : (s : State) (i k : ℕ) → (i ≡ k → ⊥) → Free (pick sum bytes s i) → its (pick sum bytes s i).state k ≡ its s k
  its_behind s i k n f = ap (λ (x : State). its x k) (free_pick s i f) ∙ unseen s i k (its s i).thread n

  tells_behind : (s : State) (i k : ℕ) → (i ≡ k → ⊥) → Free (pick sum bytes s i) → tells (pick sum bytes (pick sum bytes s i).state k) ≡ tells (pick sum bytes s k)
  tells_behind s i k n f = tells_own (pick sum bytes s i).state k ∙ (ap (λ (a : Acted). record { event = a.event; over = a.over }) (its_behind s i k n f) ∙ sym (tells_own s k))

  -- ---- two picks, in either order
  pub record Swapped (s : State) (i k : ℕ) : Type 0 where
    pub first : Free (pick sum bytes s k)
    pub second : Free (pick sum bytes (pick sum bytes s k).state i)
    pub tells_i : tells (pick sum bytes (pick sum bytes s k).state i) ≡ tells (pick sum bytes s i)
    pub tells_k : tells (pick sum bytes (pick sum bytes s i).state k) ≡ tells (pick sum bytes s k)
    pub state : (pick sum bytes (pick sum bytes s i).state k).state ≡ (pick sum bytes (pick sum bytes s k).state i).state

  pub swapped : (s : State) (i k : ℕ) → (i ≡ k → ⊥) → Free (pick sum bytes s i) → Free (pick sum bytes (pick sum bytes s i).state k) → Swapped s i k
  swapped s i k n f g = record { first = free_k; second = free_i; tells_i = told_i; tells_k = told_k; state = whole }
    where
      m : k ≡ i → ⊥
      m e = n (sym e)

      told_k : tells (pick sum bytes (pick sum bytes s i).state k) ≡ tells (pick sum bytes s k)
      told_k = tells_behind s i k n f

      free_k : Free (pick sum bytes s k)
      free_k = sym (ap (λ (t : Told). fixed t.event) told_k) ∙ g

      told_i : tells (pick sum bytes (pick sum bytes s k).state i) ≡ tells (pick sum bytes s i)
      told_i = tells_behind s k i m free_k

      free_i : Free (pick sum bytes (pick sum bytes s k).state i)
      free_i = ap (λ (t : Told). fixed t.event) told_i ∙ f

      -- the state behind both, i being first
      both : (i k : ℕ) → (i ≡ k → ⊥) → Free (pick sum bytes s i) → Free (pick sum bytes (pick sum bytes s i).state k) → (pick sum bytes (pick sum bytes s i).state k).state ≡ put (put s i (its s i).thread) k (its s k).thread
      both i k n f g =
          free_pick (pick sum bytes s i).state k g
          ∙ (ap (λ (a : Acted). put (pick sum bytes s i).state k a.thread) (its_behind s i k n f)
          ∙ ap (λ (x : State). put x k (its s k).thread) (free_pick s i f))

      whole : (pick sum bytes (pick sum bytes s i).state k).state ≡ (pick sum bytes (pick sum bytes s k).state i).state
      whole =
          both i k n f g
          ∙ (ap (λ (ts : List Thread). record { registers = s.registers; counts = s.counts; threads = ts }) (set_comm s.threads i k (its s i).thread (its s k).thread n)
          ∙ sym (both k i m free_k free_i))

  -- ---- lists
  -- an exchange may be taken back
  exchanged_back : {s : State} {is ks : List ℕ} → Exchanged sum bytes s is ks → Exchanged sum bytes s ks is
  exchanged_back {s} (here {i = i} {k = k} n f g) = let w = swapped s i k n f g in here (λ e. n (sym e)) w.first w.second
  exchanged_back (later x) = later (exchanged_back x)

  exchanges_more : {s : State} {is ks ls : List ℕ} → Exchanges sum bytes s is ks → Exchanges sum bytes s ks ls → Exchanges sum bytes s is ls
  exchanges_more none y = y
  exchanges_more (then x xs) y = then x (exchanges_more xs y)

  pub exchanges_back : {s : State} {is ks : List ℕ} → Exchanges sum bytes s is ks → Exchanges sum bytes s ks is
  exchanges_back none = none
  exchanges_back (then x xs) = exchanges_more (exchanges_back xs) (then (exchanged_back x) none)

  exchanges_later : {s : State} {i : ℕ} {is ks : List ℕ} → Exchanges sum bytes (pick sum bytes s i).state is ks → Exchanges sum bytes s (i ∷ is) (i ∷ ks)
  exchanges_later none = none
  exchanges_later (then x xs) = then (later x) (exchanges_later xs)

  -- the same picks before both
  pub exchanges_behind : (before : List ℕ) (s : State) {is ks : List ℕ} → Exchanges sum bytes (run sum bytes s before).state is ks → Exchanges sum bytes s (before ++ is) (before ++ ks)
  unfolding run
  exchanges_behind [] s x = x
  exchanges_behind (i ∷ before) s x = exchanges_later (exchanges_behind before (pick sum bytes s i).state x)

  -- what a pick of a list did
  abbrev happened : State → ℕ → Happened
  happened s i = record { thread = i; event = (pick sum bytes s i).event; over = (pick sum bytes s i).over }

  abbrev seen : ℕ → State → List ℕ → List Happened
  seen x s is = seen_by x (run sum bytes s is).events

  -- "the full states and all counts at the end are equal", the lists are as long, and each thread sees the same
  pub record SameEnd (s : State) (is ks : List ℕ) : Type 0 where
    pub state : (run sum bytes s is).state ≡ (run sum bytes s ks).state
    pub counts : counts_of (run sum bytes s is).events ≡ counts_of (run sum bytes s ks).events
    pub number : length is ≡ length ks
    pub sees : (x : ℕ) → seen_by x (run sum bytes s is).events ≡ seen_by x (run sum bytes s ks).events

  exchanged_same : {s : State} {is ks : List ℕ} → Exchanged sum bytes s is ks → SameEnd s is ks
  unfolding run counts_of
  exchanged_same {s} (here {i = i} {k = k} {is = is} n f g) =
      record {
        state = ap (λ (x : State). (run sum bytes x is).state) w.state;
        counts = ap counts_of first ∙ (tally_swap (pick sum bytes s i).event (pick sum bytes s k).event (pick sum bytes s i).over (pick sum bytes s k).over (counts_of behind) ∙ sym (ap counts_of second));
        number = refl;
        sees = λ x. ap (seen_by x) first ∙ (seen_swap x (happened s i) (happened s k) behind n f w.first ∙ sym (ap (seen_by x) second));
      }
    where
      w : Swapped s i k
      w = swapped s i k n f g

      behind : List Happened
      behind = (run sum bytes (pick sum bytes (pick sum bytes s k).state i).state is).events

      first : (run sum bytes s (i ∷ k ∷ is)).events ≡ happened s i ∷ happened s k ∷ behind
      first =
          ap (λ (x : State). happened s i ∷ happened (pick sum bytes s i).state k ∷ (run sum bytes x is).events) w.state
          ∙ ap (λ (t : Told). happened s i ∷ record { thread = k; event = t.event; over = t.over } ∷ behind) w.tells_k

      second : (run sum bytes s (k ∷ i ∷ is)).events ≡ happened s k ∷ happened s i ∷ behind
      second = ap (λ (t : Told). happened s k ∷ record { thread = i; event = t.event; over = t.over } ∷ behind) w.tells_i
  exchanged_same {s} (later {i = i} {is = is} {ks = ks} x) =
      let r = exchanged_same x in
      record {
        state = r.state;
        counts = ap (tally (pick sum bytes s i).event (pick sum bytes s i).over) r.counts;
        number = ap suc r.number;
        sees = λ y. seen_more y (happened s i) (run sum bytes (pick sum bytes s i).state is).events (run sum bytes (pick sum bytes s i).state ks).events (r.sees y);
      }

  pub exchanges_same : {s : State} {is ks : List ℕ} → Exchanges sum bytes s is ks → SameEnd s is ks
  exchanges_same none = record { state = refl; counts = refl; number = refl; sees = λ x. refl }
  exchanges_same (then x xs) =
      let a = exchanged_same x in
      let b = exchanges_same xs in
      record { state = a.state ∙ b.state; counts = a.counts ∙ b.counts; number = a.number ∙ b.number; sees = λ y. a.sees y ∙ b.sees y }

  -- ---- which lists come out of one another
  -- a list in which the first that thread k sees is a free pick of its own comes out as one that begins with k
  record Fetched (k : ℕ) (s : State) (is : List ℕ) : Type 0 where
    rest : List ℕ
    way : Exchanges sum bytes s is (k ∷ rest)

  fetched : (k : ℕ) (is : List ℕ) (s : State) (h : Happened) (hs : List Happened) → seen_by k (run sum bytes s is).events ≡ h ∷ hs → fixed h.event ≡ false → Fetched k s is
  unfolding run seen_by
  fetched k [] s h hs e f = not_empty e
  fetched k (i ∷ is) s h hs e f = go (λ q. fetched k is (pick sum bytes s i).state h hs q f) (eqb i k) refl (fixed (pick sum bytes s i).event) refl
    where
      s' : State
      s' = (pick sum bytes s i).state

      go : (seen k (pick sum bytes s i).state is ≡ h ∷ hs → Fetched k (pick sum bytes s i).state is) → (b : Bool) → eqb i k ≡ b → (c : Bool) → fixed (pick sum bytes s i).event ≡ c → Fetched k s (i ∷ is)
      go behind true d c z = record { rest = is; way = subst (λ (n : ℕ). Exchanges sum bytes s (i ∷ is) (n ∷ is)) (eqb-true i k d) none }
      go behind false d true z =
          let first : happened s i ≡ h = same_first (sym (fixed_seen k (happened s i) (run sum bytes s' is).events z) ∙ e) in
          never z (ap (λ (x : Happened). fixed x.event) first ∙ f)
      go behind false d false z =
          let on : seen k s' is ≡ h ∷ hs = sym (other_seen k (happened s i) (run sum bytes s' is).events d z) ∙ e in
          let r = behind on in
          let first : happened s' k ≡ h = same_first (sym (own_seen k (happened s' k) (run sum bytes (pick sum bytes s' k).state r.rest).events refl) ∙ (sym ((exchanges_same r.way).sees k) ∙ on)) in
          record {
            rest = i ∷ r.rest;
            way =
                exchanges_more (exchanges_later r.way)
                (then (here (eqb-false i k d) z (ap (λ (x : Happened). fixed x.event) first ∙ f)) none);
          }

  sees_exchanges : (ks is : List ℕ) (s : State) → ((x : ℕ) → seen_by x (run sum bytes s is).events ≡ seen_by x (run sum bytes s ks).events) → Exchanges sum bytes s is ks
  unfolding run seen_by
  sees_exchanges [] [] s e = none
  sees_exchanges [] (i ∷ is) s e = not_empty (sym (e i) ∙ own_seen i (happened s i) (run sum bytes (pick sum bytes s i).state is).events refl)
  sees_exchanges (k ∷ ks) is s e = go (λ rest q. sees_exchanges ks rest (pick sum bytes s k).state q) (fixed (pick sum bytes s k).event) refl
    where
      s' : State
      s' = (pick sum bytes s k).state

      -- what is claimed of the picks behind k
      Behind : Type 0
      Behind = (rest : List ℕ) → ((x : ℕ) → seen x (pick sum bytes s k).state rest ≡ seen x (pick sum bytes s k).state ks) → Exchanges sum bytes (pick sum bytes s k).state rest ks

      -- a list that begins with k and sees the same
      from : Behind → (rest : List ℕ) → ((x : ℕ) → seen x s (k ∷ rest) ≡ seen x s (k ∷ ks)) → Exchanges sum bytes s (k ∷ rest) (k ∷ ks)
      from behind rest q = exchanges_later (behind rest (λ x. seen_rest x (happened s k) (run sum bytes s' rest).events (run sum bytes s' ks).events (q x)))

      -- a FORK or a commit comes first in both
      at_once : Behind → (is : List ℕ) → fixed (pick sum bytes s k).event ≡ true → ((x : ℕ) → seen x s is ≡ seen x s (k ∷ ks)) → Exchanges sum bytes s is (k ∷ ks)
      at_once behind [] z q = not_empty (q k ∙ own_seen k (happened s k) (run sum bytes s' ks).events refl)
      at_once behind (i ∷ is) z q =
          let first : happened s i ≡ happened s k = same_first (sym (own_seen i (happened s i) (run sum bytes (pick sum bytes s i).state is).events refl) ∙ (q i ∙ fixed_seen i (happened s k) (run sum bytes s' ks).events z)) in
          let same : i ≡ k = ap (λ (x : Happened). x.thread) first in
          subst (λ (n : ℕ). Exchanges sum bytes s (n ∷ is) (k ∷ ks)) (sym same) (from behind is (subst (λ (n : ℕ). (x : ℕ) → seen x s (n ∷ is) ≡ seen x s (k ∷ ks)) same q))

      go : Behind → (b : Bool) → fixed (pick sum bytes s k).event ≡ b → Exchanges sum bytes s is (k ∷ ks)
      go behind true z = at_once behind is z e
      go behind false z =
          let r = fetched k is s (happened s k) (seen k s' ks) (e k ∙ own_seen k (happened s k) (run sum bytes s' ks).events refl) z in
          exchanges_more r.way (from behind r.rest (λ x. sym ((exchanges_same r.way).sees x) ∙ e x))

  -- those in which each thread sees the same, and no others
  pub exchanges_exactly : (s : State) (is ks : List ℕ) → Exchanges sum bytes s is ks ↔ ((x : ℕ) → seen_by x (run sum bytes s is).events ≡ seen_by x (run sum bytes s ks).events)
  exchanges_exactly s is ks = (λ x. (exchanges_same x).sees, sees_exchanges ks is s)

-- ---- the calls: state and answer of a run
pub exchanged_call : (bytes : List ℕ) (s : State) (is ks : List ℕ) → ((j : Job) → read_code bytes ≡ done j → Exchanges (sum_of j) bytes s is ks) → run_call bytes s is ≡ run_call bytes s ks
unfolding run_call run_of
exchanged_call bytes s is ks f = by (read_code bytes) refl
  where
    by : (o : Outcome Job) → read_code bytes ≡ o → run_call bytes s is ≡ run_call bytes s ks
    by (refused n p) e = rw e
    by (done j) e = fit (fits bytes s) refl
      where
        r : SameEnd (sum_of j) bytes s is ks
        r = exchanges_same (sum_of j) bytes (f j e)

        size : (b : Bool) → ltb 32768 (length is) ≡ b → fits bytes s ≡ true → run_call bytes s is ≡ run_call bytes s ks
        size true l t = rw (e, t, l, ← r.number, l)
        size false l t = rw (e, t, l, ← r.number, l, r.state, r.counts)

        fit : (b : Bool) → fits bytes s ≡ b → run_call bytes s is ≡ run_call bytes s ks
        fit true t = size (ltb 32768 (length is)) refl t
        fit false t = rw (e, t)

-- ---- and of two steps
event_free : (e : Event) → (event_number e ≡ event_number forked → ⊥) → (event_number e ≡ event_number committed → ⊥) → fixed e ≡ false
unfolding event_number
event_free idle f c = refl
event_free pushed f c = refl
event_free (summed inside) f c = refl
event_free forked f c = absurd (f refl)
event_free begun f c = refl
event_free (looked source) f c = refl
event_free wrote f c = refl
event_free committed f c = absurd (c refl)
event_free (sent_back v) f c = refl

-- the only events of these two numbers
only_fork : (e : Event) → event_number e ≡ event_number forked → fixed e ≡ true
unfolding event_number
only_fork idle q = absurd (omega arith)
only_fork pushed q = absurd (omega arith)
only_fork (summed inside) q = absurd (omega arith)
only_fork forked q = refl
only_fork begun q = absurd (omega arith)
only_fork (looked from_writes) q = absurd (omega arith)
only_fork (looked from_reads) q = absurd (omega arith)
only_fork (looked from_table) q = absurd (omega arith)
only_fork wrote q = absurd (omega arith)
only_fork committed q = refl
only_fork (sent_back v) q = absurd (omega arith)

only_commit : (e : Event) → event_number e ≡ event_number committed → fixed e ≡ true
unfolding event_number
only_commit idle q = absurd (omega arith)
only_commit pushed q = absurd (omega arith)
only_commit (summed inside) q = absurd (omega arith)
only_commit forked q = refl
only_commit begun q = absurd (omega arith)
only_commit (looked from_writes) q = absurd (omega arith)
only_commit (looked from_reads) q = absurd (omega arith)
only_commit (looked from_table) q = absurd (omega arith)
only_commit wrote q = absurd (omega arith)
only_commit committed q = refl
only_commit (sent_back v) q = absurd (omega arith)

pub by_answer : (r : Stepped) → FreeReply (step_reply (done r)) ↔ Free r
by_answer r = (λ f. event_free r.event f.no_fork f.no_commit, λ f. record { no_fork = λ q. never (only_fork r.event q) f; no_commit = λ q. never (only_commit r.event q) f })

module _ (bytes : List ℕ) (s : State) (i k : ℕ) where
  -- the two steps in either order: the same state, and each one's answer the same
  pub record SwappedSteps : Type 0 where
    pub state : (step_call bytes (step_call bytes s i).state k).state ≡ (step_call bytes (step_call bytes s k).state i).state
    pub reply_i : (step_call bytes s i).reply ≡ (step_call bytes (step_call bytes s k).state i).reply
    pub reply_k : (step_call bytes (step_call bytes s i).state k).reply ≡ (step_call bytes s k).reply

  -- where each is refused alike
  refused_alike : (r : StepReply) → ((a : ℕ) → step_call bytes s a ≡ record { state = s; reply = r }) → SwappedSteps
  refused_alike r f =
      record {
        state =
            ap (λ (x : Returned StepReply). (step_call bytes x.state k).state) (f i)
            ∙ (ap (λ (x : Returned StepReply). x.state) (f k)
            ∙ (sym (ap (λ (x : Returned StepReply). x.state) (f i))
            ∙ sym (ap (λ (x : Returned StepReply). (step_call bytes x.state i).state) (f k))));
        reply_i = sym (ap (λ (x : Returned StepReply). (step_call bytes x.state i).reply) (f k));
        reply_k = ap (λ (x : Returned StepReply). (step_call bytes x.state k).reply) (f i);
      }

  -- where each is taken
  module _ (j : Job) (c : IsCode bytes j) (read : read_code bytes ≡ done j) (y : Typed s) (fit : Fits bytes s) (n : i ≡ k → ⊥) where
    taken : (x : State) → Fits bytes x → Typed x → (a : ℕ) → step_call bytes x a ≡ record { state = (pick (sum_of j) bytes x a).state; reply = step_reply (done (pick (sum_of j) bytes x a)) }
    taken x f z a = step_taken bytes x a (pick (sum_of j) bytes x a) (step_done bytes x a read ((fits_exactly bytes x z).1 f))

    -- behind a step
    again : (a b : ℕ) → step_call bytes (step_call bytes s a).state b ≡ record { state = (pick (sum_of j) bytes (pick (sum_of j) bytes s a).state b).state; reply = step_reply (done (pick (sum_of j) bytes (pick (sum_of j) bytes s a).state b)) }
    again a b =
        let g = step_fits c (sum_of j) s fit y a in
        ap (λ (x : Returned StepReply). step_call bytes x.state b) (taken s fit y a) ∙ taken (pick (sum_of j) bytes s a).state g.0 g.1 b

    free : (r : Stepped) (a : StepReply) → FreeReply a → a ≡ step_reply (done r) → Free r
    free r a f e = (by_answer r).0 (subst FreeReply e f)

    taken_alike : FreeReply (step_call bytes s i).reply → FreeReply (step_call bytes (step_call bytes s i).state k).reply → SwappedSteps
    taken_alike f g =
        record {
          state = ap (λ (x : Returned StepReply). x.state) (again i k) ∙ (w.state ∙ sym (ap (λ (x : Returned StepReply). x.state) (again k i)));
          reply_i = ap (λ (x : Returned StepReply). x.reply) (taken s fit y i) ∙ (sym (ap answers w.tells_i) ∙ sym (ap (λ (x : Returned StepReply). x.reply) (again k i)));
          reply_k = ap (λ (x : Returned StepReply). x.reply) (again i k) ∙ (ap answers w.tells_k ∙ sym (ap (λ (x : Returned StepReply). x.reply) (taken s fit y k)));
        }
      where
        w : Swapped (sum_of j) bytes s i k
        w =
            swapped (sum_of j) bytes s i k n
            (free (pick (sum_of j) bytes s i) (step_call bytes s i).reply f (ap (λ (x : Returned StepReply). x.reply) (taken s fit y i)))
            (free (pick (sum_of j) bytes (pick (sum_of j) bytes s i).state k) (step_call bytes (step_call bytes s i).state k).reply g (ap (λ (x : Returned StepReply). x.reply) (again i k)))

        answers : Told → StepReply
        answers t = record { refusal = 0; place = 0; event = event_number t.event; register = event_register t.event; turn = turn_number t.event; over = t.over }

  pub exchanged_steps : Bytes bytes → Typed s → (i ≡ k → ⊥) → FreeReply (step_call bytes s i).reply → FreeReply (step_call bytes (step_call bytes s i).state k).reply → SwappedSteps
  unfolding step_of
  exchanged_steps b y n f g = by (read_code bytes) refl
    where
      by : (o : Outcome Job) → read_code bytes ≡ o → SwappedSteps
      by (refused m p) e = refused_alike (step_reply (refused m p)) (λ a. let q : step_of bytes s a ≡ refused m p = rw e in step_refused bytes s a m p q)
      by (done j) e = go (fits bytes s) refl
        where
          go : (t : Bool) → fits bytes s ≡ t → SwappedSteps
          go true t = taken_alike j (read_is_code bytes j b e) e y ((fits_exactly bytes s y).0 t) n f g
          go false t = refused_alike (step_reply (refused 12 0)) (λ a. step_refused bytes s a 12 0 (step_12 bytes s a e t))
