-- A thread has done each instruction of its own code before its place, and has stood at each place behind its start. Assumes nothing.
use Prim.Native.Nat.{ℕ, zero, suc, ◌≤◌, ◌<◌}
use mathlib.Core.Bool.{Bool, true, false}
use mathlib.Core.Logic.{◌⊎◌, inl, inr}
use mathlib.Core.Path.{◌≡◌, refl, sym, ap, subst, ◌∙◌}
use mathlib.Core.List.{List, [], ◌∷◌, ◌++◌, append-nil, append_assoc}
use native.Mathlib.Omega.{arith}
use native.Mathlib.Decide.{dec_lt}
use borrow.Author.Tests.{eqb-true, eqb-false}
use lib.Dec.{eqb, ltb}
use lib.ListN.{length, get_or, set, get_or-eq_default, length-set}
use lib.Seq.{get_or-set_same, get_or-set_other}
use Rattle.stm.specs.Counted.{Table}
use Rattle.code.specs.Bytes.{IsCode}
use Rattle.code.specs.Ops.{Op}
use Rattle.code.specs.Ops as code
use Rattle.machine.specs.Fits.{Walked, next_place, Walks, own_code, Exists, ThreadOf, Fits, Typed}
use Rattle.machine.specs.Steps.{State, Stepped, Acted, Child, thread_at, number_of, committing, commit, moved_by, ruled, act, perform, seated, settle, instruction, pick, fresh, run, DoesOne, table_in}
use Rattle.machine.proofs.Agrees.{step_fits, does_one}
use Rattle.machine.proofs.Fresh.{no_record}
use Rattle.machine.proofs.Picks.{missing_idle, ended_idle}
use Rattle.machine.proofs.Walking.{not_before, none_between}
use Rattle.script.specs.Jobs.{Job}
use Rattle.stm.specs.Events.{Source, from_writes, from_reads, from_table, idle}
use Rattle.thread.specs.declared.Thread.{Thread}
use Rattle.thread.specs.Threads.{first_stale, blank, spawned, exists, push, add, begin, source_of, read, write, closed}
use Rattle.traces.specs.Traces.{Moment, moments, Chained, happened, Among, first, later}
use Rattle.traces.proofs.Along.{begin_below}
use Rattle.word.specs.Sum.{Rule}

-- ---- what an instruction does to the place
-- the same own code, at the next place or back at the BEGIN
record Moved (t : Thread) (op : Op) (t' : Thread) : Type 0 where
  own : own_code t' ≡ own_code t
  place : (t'.place ≡ next_place op t.place) ⊎ (t'.place ≡ t.begin)

acts : (sum : Rule) (table : Table) (t : Thread) (op : Op) → Moved t op (act sum table t op).thread
unfolding act perform push add begin read write commit closed next_place
acts sum table t (code.push n) = record { own = refl; place = inl refl }
acts sum table t code.add = record { own = refl; place = inl refl }
acts sum table t (code.fork size) = record { own = refl; place = inl refl }
acts sum table t code.begin = record { own = refl; place = inl refl }
acts sum table t (code.read v) = looked (source_of t v) refl
  where
    looked : (o : Source) → source_of t v ≡ o → Moved t (code.read v) (moved_by (perform sum table t (code.read v)).event (read table v t))
    looked from_writes e = record { own = rw e; place = inl refl }
    looked from_reads e = record { own = rw e; place = inl refl }
    looked from_table e = record { own = rw e; place = inl refl }
acts sum table t (code.write v) = record { own = refl; place = inl refl }
acts sum table t code.commit = tried (first_stale 64 0 t table)
  where
    tried : (v : ℕ) → Moved t code.commit (ruled (commit table t v)).thread
    tried v = go (ltb v 64)
      where
        go : (b : Bool) → Moved t code.commit (ruled (committing b table t v)).thread
        go true = record { own = refl; place = inr refl }
        go false = record { own = refl; place = inl refl }

-- ---- what it does to the records
set_either : (ts : List Thread) (n : ℕ) (x : Thread) (k : ℕ) → ((k ≡ n) × (get_or (set ts n x) k blank ≡ x)) ⊎ (get_or (set ts n x) k blank ≡ get_or ts k blank)
set_either ts n x k = go (eqb k n) refl (dec_lt n (length ts))
  where
    go : (b : Bool) → eqb k n ≡ b → Dec (n < length ts) → ((k ≡ n) × (get_or (set ts n x) k blank ≡ x)) ⊎ (get_or (set ts n x) k blank ≡ get_or ts k blank)
    go true e (yes l) = let q = eqb-true k n e in inl (q, subst (λ (m : ℕ). get_or (set ts n x) m blank ≡ x) (sym q) (get_or-set_same ts n x blank l))
    go true e (no l) =
        let q = eqb-true k n e in
        inr (get_or-eq_default (set ts n x) blank (let m = length-set ts n x in omega arith) ∙ sym (get_or-eq_default ts blank (omega arith)))
    go false e d = inr (get_or-set_other ts n k x blank (eqb-false k n e))

spawned_start : (a b : ℕ) → (spawned a b).place ≡ (spawned a b).start
unfolding spawned
spawned_start a b = refl

seated_either : (n : ℕ) (cs : List Child) (ts : List Thread) (k : ℕ) → (get_or (seated n cs ts) k blank ≡ get_or ts k blank) ⊎ ((get_or (seated n cs ts) k blank).place ≡ (get_or (seated n cs ts) k blank).start)
seated_either n [] ts k = inl refl
seated_either n (c ∷ cs) ts k = go (seated_either (suc n) cs (set ts n (spawned c.start c.end)) k) (set_either ts n (spawned c.start c.end) k)
  where
    go : {all one : Thread} → (all ≡ one) ⊎ (all.place ≡ all.start) → ((k ≡ n) × (one ≡ spawned c.start c.end)) ⊎ (one ≡ get_or ts k blank) → (all ≡ get_or ts k blank) ⊎ (all.place ≡ all.start)
    go (inr p) e = inr p
    go (inl p) (inr e) = inl (p ∙ e)
    go {all} (inl p) (inl e) =
        let q : all ≡ spawned c.start c.end = p ∙ e.1 in
        inr (ap (λ (t : Thread). t.place) q ∙ (spawned_start c.start c.end ∙ sym (ap (λ (t : Thread). t.start) q)))

-- thread k after an instruction of thread i
data Left (s : State) (i : ℕ) (op : Op) (s' : State) (k : ℕ) : Type 0 where
  same : thread_at s' k ≡ thread_at s k → Left s i op s' k
  went : k ≡ i → Moved (thread_at s i) op (thread_at s' k) → Left s i op s' k
  new : (thread_at s' k).place ≡ (thread_at s' k).start → Left s i op s' k

leaves : (sum : Rule) (s : State) (i : ℕ) (op : Op) (k : ℕ) → Left s i op (instruction sum s i (thread_at s i) op).state k
unfolding settle
leaves sum s i op k = go (act sum (table_in s) (thread_at s i) op) (acts sum (table_in s) (thread_at s i) op)
  where
    go : (a : Acted) → Moved (thread_at s i) op a.thread → Left s i op (settle (number_of s.threads) s i a).state k
    go a m = which (seated_either (number_of s.threads) a.children (set s.threads i a.thread) k) (set_either s.threads i a.thread k)
      where
        which : (thread_at (settle (number_of s.threads) s i a).state k ≡ get_or (set s.threads i a.thread) k blank) ⊎ ((thread_at (settle (number_of s.threads) s i a).state k).place ≡ (thread_at (settle (number_of s.threads) s i a).state k).start) → ((k ≡ i) × (get_or (set s.threads i a.thread) k blank ≡ a.thread)) ⊎ (get_or (set s.threads i a.thread) k blank ≡ thread_at s k) → Left s i op (settle (number_of s.threads) s i a).state k
        which (inr p) e = new p
        which (inl p) (inr e) = same (p ∙ e)
        which (inl p) (inl e) = went e.0 (subst (Moved (thread_at s i) op) (sym (p ∙ e.1)) m)

-- ---- what the picks so far have visited
-- a pick of the thread with this own code, which stood at this place
pub record PickedAt (ms : List Moment) (own : Child) (q : ℕ) : Type 0 where
  pub moment : Moment
  pub made : Among moment ms
  pub its : ThreadOf moment.before own moment.thread
  pub place : (thread_at moment.before moment.thread).place ≡ q

-- a pick after which it stood there
pub record StoodAt (ms : List Moment) (own : Child) (q : ℕ) : Type 0 where
  pub moment : Moment
  pub made : Among moment ms
  pub thread : ℕ
  pub its : ThreadOf moment.after own thread
  pub place : (thread_at moment.after thread).place ≡ q

among_front : {m : Moment} {ms : List Moment} (ns : List Moment) → Among m ms → Among m (ms ++ ns)
among_front ns first = first
among_front ns (later a) = later (among_front ns a)

among_last : {m : Moment} (ms : List Moment) → Among m (ms ++ (m ∷ []))
among_last [] = first
among_last (x ∷ ms) = later (among_last ms)

picked_more : {ms : List Moment} (ns : List Moment) {own : Child} {q : ℕ} → PickedAt ms own q → PickedAt (ms ++ ns) own q
picked_more ns p = record { moment = p.moment; made = among_front ns p.made; its = p.its; place = p.place }

stood_more : {ms : List Moment} (ns : List Moment) {own : Child} {q : ℕ} → StoodAt ms own q → StoodAt (ms ++ ns) own q
stood_more ns p = record { moment = p.moment; made = among_front ns p.made; thread = p.thread; its = p.its; place = p.place }

-- of a thread's record: each place before its place was picked, and it stood at each place behind its start and not behind its place
pub record PassedBy (bytes : List ℕ) (ms : List Moment) (t : Thread) : Type 0 where
  pub picked : (q : ℕ) (w : Walked) → Walks bytes t.start t.end q w → q < t.place → PickedAt ms (own_code t) q
  pub stood : (q : ℕ) (w : Walked) → Walks bytes t.start t.end q w → t.start < q → q ≤ t.place → StoodAt ms (own_code t) q

abbrev pub Visited : List ℕ → List Moment → State → Type 0
Visited bytes ms s = (i : ℕ) → Exists s i → PassedBy bytes ms (thread_at s i)

passed_more : {bytes : List ℕ} {ms : List Moment} (ns : List Moment) {t : Thread} → PassedBy bytes ms t → PassedBy bytes (ms ++ ns) t
passed_more ns p = record { picked = λ q w ws l. picked_more ns (p.picked q w ws l); stood = λ q w ws l m. stood_more ns (p.stood q w ws l m) }

-- a thread at its start has passed nothing
passed_new : {bytes : List ℕ} {ms : List Moment} {t : Thread} → t.place ≡ t.start → PassedBy bytes ms t
passed_new {bytes} {ms} {t} e =
    record {
      picked = λ q w ws l. absurd (let b = not_before bytes t.start t.end ws in omega arith);
      stood = λ q w ws l m. absurd (omega arith);
    }

module _ {bytes : List ℕ} {j : Job} (c : IsCode bytes j) (sum : Rule) where
  -- ---- one pick
  module _ (ms : List Moment) (s : State) (f : Fits bytes s) (y : Typed s) (v : Visited bytes ms s) (i : ℕ) where
    abbrev s' : State
    s' = (pick sum bytes s i).state

    abbrev now : List Moment
    now = record { before = s; thread = i; after = (pick sum bytes s i).state } ∷ []

    idle_visited : pick sum bytes s i ≡ record { state = s; event = idle; over = 0 } → Visited bytes (ms ++ now) s'
    idle_visited e k x =
        let q : s' ≡ s = ap (λ (r : Stepped). r.state) e in
        subst (λ (z : State). PassedBy bytes (ms ++ now) (thread_at z k)) (sym q) (passed_more now (v k (subst (λ (z : State). Exists z k) q x)))

    module _ (e : Exists s i) (d : DoesOne sum bytes s i) where
      abbrev t : Thread
      t = thread_at s i

      old : PassedBy bytes (ms ++ now) t
      old = passed_more now (v i e)

      begin_low : t.begin ≤ t.place
      begin_low = let b = begin_below (f.placed i e).walks in let g = (f.placed i e).begin in omega arith

      -- thread i moved on: the place before was picked, and it stands at the one behind
      went_on : (k : ℕ) → k ≡ i → Exists s' k → Moved t d.op (thread_at s' k) → PassedBy bytes (ms ++ now) (thread_at s' k)
      went_on k q x m = record { picked = picked'; stood = stood' }
        where
          t' : Thread
          t' = thread_at (pick sum bytes s i).state k

          own : own_code (thread_at (pick sum bytes s i).state k) ≡ own_code t
          own = m.own

          walks : {p : ℕ} {w : Walked} → Walks bytes (thread_at (pick sum bytes s i).state k).start (thread_at (pick sum bytes s i).state k).end p w → Walks bytes t.start t.end p w
          walks {p} {w} ws = subst (λ (z : Child). Walks bytes z.start z.end p w) m.own ws

          here' : (p : ℕ) → p ≡ t.place → PickedAt (ms ++ now) (own_code t) p
          here' p z = record { moment = record { before = s; thread = i; after = (pick sum bytes s i).state }; made = among_last ms; its = record { there = e; own = refl }; place = sym z }

          picked' : (p : ℕ) (w : Walked) → Walks bytes (thread_at (pick sum bytes s i).state k).start (thread_at (pick sum bytes s i).state k).end p w → p < (thread_at (pick sum bytes s i).state k).place → PickedAt (ms ++ now) (own_code (thread_at (pick sum bytes s i).state k)) p
          picked' p w ws l = subst (λ (z : Child). PickedAt (ms ++ now) z p) (sym m.own) (go m.place (dec_lt p t.place) (dec_lt t.place p))
            where
              go : ((thread_at (pick sum bytes s i).state k).place ≡ next_place d.op t.place) ⊎ ((thread_at (pick sum bytes s i).state k).place ≡ t.begin) → Dec (p < t.place) → Dec (t.place < p) → PickedAt (ms ++ now) (own_code t) p
              go z (yes b) g = old.picked p w (walks ws) b
              go (inl z) (no b) (yes g) = absurd (let n = none_between bytes t.start t.end (f.placed i e).walks d.at_place (walks ws) g in omega arith)
              go (inr z) (no b) (yes g) = absurd (let n = begin_low in omega arith)
              go z (no b) (no g) = here' p (omega arith)

          stood' : (p : ℕ) (w : Walked) → Walks bytes (thread_at (pick sum bytes s i).state k).start (thread_at (pick sum bytes s i).state k).end p w → (thread_at (pick sum bytes s i).state k).start < p → p ≤ (thread_at (pick sum bytes s i).state k).place → StoodAt (ms ++ now) (own_code (thread_at (pick sum bytes s i).state k)) p
          stood' p w ws b l = go m.place (dec_lt t.place p)
            where
              start : (thread_at (pick sum bytes s i).state k).start ≡ t.start
              start = ap (λ (z : Child). z.start) m.own

              before : p ≤ t.place → StoodAt (ms ++ now) (own_code (thread_at (pick sum bytes s i).state k)) p
              before g = subst (λ (z : Child). StoodAt (ms ++ now) z p) (sym m.own) (old.stood p w (walks ws) (let z = start in omega arith) g)

              go : ((thread_at (pick sum bytes s i).state k).place ≡ next_place d.op t.place) ⊎ ((thread_at (pick sum bytes s i).state k).place ≡ t.begin) → Dec (t.place < p) → StoodAt (ms ++ now) (own_code (thread_at (pick sum bytes s i).state k)) p
              go z (no g) = before (omega arith)
              go (inr z) (yes g) = absurd (let n = begin_low in omega arith)
              go (inl z) (yes g) =
                  let n = none_between bytes t.start t.end (f.placed i e).walks d.at_place (walks ws) g in
                  record {
                    moment = record { before = s; thread = i; after = (pick sum bytes s i).state };
                    made = among_last ms;
                    thread = k;
                    its = record { there = x; own = refl };
                    place = omega arith;
                  }

      busy_visited : Visited bytes (ms ++ now) s'
      busy_visited k x = go (subst (λ (r : Stepped). Left s i d.op r.state k) (sym d.does) (leaves sum s i d.op k))
        where
          go : Left s i d.op (pick sum bytes s i).state k → PassedBy bytes (ms ++ now) (thread_at (pick sum bytes s i).state k)
          go (same z) = subst (PassedBy bytes (ms ++ now)) (sym z) (passed_more now (v k (sym (ap exists z) ∙ x)))
          go (went q m) = went_on k q x m
          go (new z) = passed_new z

    pick_visited : Visited bytes (ms ++ (record { before = s; thread = i; after = (pick sum bytes s i).state } ∷ [])) (pick sum bytes s i).state
    pick_visited = go (exists (thread_at s i)) refl (eqb (thread_at s i).place (thread_at s i).end) refl
      where
        go : (a : Bool) → exists (thread_at s i) ≡ a → (b : Bool) → eqb (thread_at s i).place (thread_at s i).end ≡ b → Visited bytes (ms ++ (record { before = s; thread = i; after = (pick sum bytes s i).state } ∷ [])) (pick sum bytes s i).state
        go false e b z = idle_visited (missing_idle sum bytes (number_of s.threads) s i e)
        go true e true z = idle_visited (ended_idle sum bytes (number_of s.threads) s i (eqb-true (thread_at s i).place (thread_at s i).end z))
        go true e false z = busy_visited e (does_one c sum s f y i e (eqb-false (thread_at s i).place (thread_at s i).end z))

  -- ---- a run of picks
  run_visited : (is : List ℕ) (ms : List Moment) (s : State) → Fits bytes s → Typed s → Visited bytes ms s → Visited bytes (ms ++ moments sum bytes s is) (run sum bytes s is).state
  unfolding moments run
  run_visited [] ms s f y v = subst (λ (l : List Moment). Visited bytes l s) (sym (append-nil ms)) v
  run_visited (i ∷ is) ms s f y v =
      let k = step_fits c sum s f y i in
      let now : List Moment = record { before = s; thread = i; after = (pick sum bytes s i).state } ∷ [] in
      subst (λ (l : List Moment). Visited bytes l (run sum bytes (pick sum bytes s i).state is).state) (append_assoc ms now (moments sum bytes (pick sum bytes s i).state is))
      (run_visited is (ms ++ now) (pick sum bytes s i).state k.0 k.1 (pick_visited ms s f y v i))

  fresh_start : (i : ℕ) → (thread_at (fresh bytes) i).place ≡ (thread_at (fresh bytes) i).start
  unfolding fresh spawned blank
  fresh_start zero = refl
  fresh_start (suc i) = let e = no_record 15 i in ap (λ (t : Thread). t.place) e ∙ sym (ap (λ (t : Thread). t.start) e)

  -- from a fresh state
  pub fresh_visited : (is : List ℕ) → Fits bytes (fresh bytes) → Typed (fresh bytes) → Visited bytes (moments sum bytes (fresh bytes) is) (run sum bytes (fresh bytes) is).state
  fresh_visited is f y = run_visited is [] (fresh bytes) f y (λ i e. passed_new (fresh_start i))

  -- ---- every state on the way fits
  pub record Fitting (m : Moment) : Type 0 where
    pub before : Fits bytes m.before
    pub typed_before : Typed m.before
    pub after : Fits bytes m.after

  pub all_fit : (is : List ℕ) (s : State) → Fits bytes s → Typed s → (m : Moment) → Among m (moments sum bytes s is) → Fitting m
  unfolding moments
  all_fit (i ∷ is) s f y m a = go (step_fits c sum s f y i) m (record { before = s; thread = i; after = (pick sum bytes s i).state } ∷ moments sum bytes (pick sum bytes s i).state is) refl a (λ b k n x. all_fit is (pick sum bytes s i).state b k n x)
    where
      same_head : {x z : Moment} {xs zs : List Moment} → x ∷ xs ≡ z ∷ zs → (x ≡ z) × (xs ≡ zs)
      same_head e = (cc, cc)

      go : Fits bytes (pick sum bytes s i).state × Typed (pick sum bytes s i).state → (m : Moment) (l : List Moment) → l ≡ record { before = s; thread = i; after = (pick sum bytes s i).state } ∷ moments sum bytes (pick sum bytes s i).state is → Among m l → (Fits bytes (pick sum bytes s i).state → Typed (pick sum bytes s i).state → (n : Moment) → Among n (moments sum bytes (pick sum bytes s i).state is) → Fitting n) → Fitting m
      go k m l e first again = subst Fitting (sym (same_head e).0) (record { before = f; typed_before = y; after = k.0 })
      go k m l e (later x) again = again k.0 k.1 m (subst (λ (r : List Moment). Among m r) (same_head e).1 x)
  all_fit [] s f y m a = go [] refl a
    where
      go : (l : List Moment) → l ≡ [] → Among m l → Fitting m
      go l e first = absurd (let z : ◌≡◌ {A = ℕ} 0 1 = cc in omega arith)
      go l e (later x) = absurd (let z : ◌≡◌ {A = ℕ} 0 1 = cc in omega arith)

-- ---- the picks of a run are chained, and happened as the run says
pub moments_chained : (sum : Rule) (bytes : List ℕ) (s : State) (is : List ℕ) → Chained sum bytes s (moments sum bytes s is) (run sum bytes s is).state
unfolding moments run
moments_chained sum bytes s [] = refl
moments_chained sum bytes s (i ∷ is) = (refl, refl, moments_chained sum bytes (pick sum bytes s i).state is)

pub moments_happened : (sum : Rule) (bytes : List ℕ) (s : State) (is : List ℕ) → happened sum bytes (moments sum bytes s is) ≡ (run sum bytes s is).events
unfolding moments run happened
moments_happened sum bytes s [] = refl
moments_happened sum bytes s (i ∷ is) = rw (moments_happened sum bytes (pick sum bytes s i).state is)
