-- What an instruction leaves fits the code again. Assumes nothing.
use Prim.Native.Nat.{ℕ, zero, suc, ◌+◌, ◌≤◌, ◌<◌}
use mathlib.Core.Bool.{Bool, true, false, not}
use mathlib.Core.Path.{◌≡◌, refl, sym, ap, subst, ◌∙◌}
use mathlib.Core.List.{List, [], ◌∷◌, ◌++◌}
use native.Mathlib.Decide.{dec_lt}
use native.Mathlib.Omega.{arith}
use borrow.Author.Tests.{eqb-true, eqb-false, ne_eqb}
use lib.Dec.{eqb}
use lib.IntN.{ℤ, pos}
use lib.ListN.{length, get_or, set, length-set}
use lib.Seq.{get_or-set_same, get_or-set_other}
use Rattle.stm.specs.Counted.{Table}
use Rattle.code.specs.Compile.{Code, ε, compile_p}
use Rattle.code.specs.Bytes.{IsCode}
use Rattle.script.specs.Jobs.{Job}
use Rattle.thread.specs.declared.Thread.{Thread}
use Rattle.thread.specs.Threads.{blank, with_notes, with_logs, with_rule, spawned, exists, stale}
use Rattle.machine.specs.InnerStands.{register_cells, cells_from}
use Rattle.machine.specs.Steps.{State, Stepped, number_of, thread_at, Child, moved_by, table_in}
use Rattle.word.specs.Registers.{member}
use Rattle.machine.specs.Fits.{Walked, Walks, starts, In, here, there, own_code, Passed, Placed, Exists, ThreadOf, Forked, OneThread, CommitsPassed, BacksWithin, FitsBeside, TypedThread, Typed}
use Rattle.machine.proofs.Numbers.{before_end, at-end, never, exists_below, in_table}
use Rattle.machine.proofs.Walking.{walks_once}
use Rattle.machine.proofs.Placings.{typed_spawned, placed_spawned, typed_moved, placed_moved}
use Rattle.machine.proofs.Mirrors.{spawned_exists}
use Rattle.machine.proofs.Passing.{passed_set, passed_new}
use Rattle.machine.proofs.Stale.{stale_by, stale_none, low_none}
use Rattle.machine.proofs.Regions.{link_low, link_once, none_in, FirstOr, first, other, first_or, LastOnce, last_once, LinkOf, passed_link, no_more}
use Rattle.machine.proofs.Showings.{cells_length}
use Rattle.machine.proofs.Simulates.{Born, nobody, child, WasStale, Simulated}
use Rattle.stm.specs.Events.{Event, idle, pushed, summed, forked, begun, looked, wrote, committed, sent_back, is_commit, is_back, more as oneMore}
use Rattle.stm.specs.Rules.{backs_after}
use Rattle.stm.specs.InnerTasks.{Did}
use Rattle.stm.specs.InnerMeaning.{Outside}
use Rattle.stm.proofs.Bound.{forks_proc}

-- a new thread was never sent back
pub tallied_spawned : (m : ℕ) (table : Table) (a b : ℕ) → BacksWithin m table (spawned a b)
unfolding spawned
tallied_spawned m table a b = record { not-above = omega arith; not_stale = λ q. stale_none (spawned a b) table refl; not-ahead = λ v. low_none v (get_or table.counts v 0) }

-- a table of 64 registers and 64 counts
pub record Sized (table : Table) : Type 0 where
  pub registers : length table.registers ≡ 64
  pub counts : length table.counts ≡ 64

-- the threads of a state that fits are those with lower numbers
below_number : {bytes : List ℕ} {beside : ℕ} (s : State) → FitsBeside beside bytes s → (k : ℕ) → Exists s k → k < number_of s.threads
below_number s f k e = exists_below s f.no_gap k e

-- the thread of a code is one
pub same_thread : {bytes : List ℕ} {beside : ℕ} (s : State) → FitsBeside beside bytes s → (a b : ℕ) → Exists s a → Exists s b → own_code (thread_at s a) ≡ own_code (thread_at s b) → a ≡ b
same_thread s f zero zero x y e = refl
same_thread s f (suc a) b x y e =
    let r = f.one (own_code (thread_at s (suc a))) (f.child a x) in
    r.alone (suc a) (record { there = x; own = refl }) ∙ sym (r.alone b (record { there = y; own = sym e }))
same_thread s f zero (suc b) x y e =
    let r = f.one (own_code (thread_at s (suc b))) (f.child b y) in
    r.alone zero (record { there = x; own = e }) ∙ sym (r.alone (suc b) (record { there = y; own = refl }))

module _ {bytes : List ℕ} {j : Job} {beside : ℕ} (c : IsCode bytes j) (o : Outside (compile_p j.tree ε) 0) (s : State) (f : FitsBeside beside bytes s) (y : Typed s) (i : ℕ) (e : Exists s i) (t : Thread) (ty : TypedThread t) (p : Placed bytes t) (st : t.start ≡ (thread_at s i).start) (en : t.end ≡ (thread_at s i).end) where
  abbrev n : ℕ
  n = number_of s.threads

  -- the FORKs that the thread had passed
  abbrev old : List Child
  old = (f.placed i e).walked.children

  i_below : i < n
  i_below = below_number s f i e

  own_t : own_code t ≡ own_code (thread_at s i)
  own_t = ap (λ (x : ℕ). record { start = x; end = t.end }) st ∙ ap (λ (x : ℕ). record { start = (thread_at s i).start; end = x }) en

  -- what the thread had passed
  passed_old : (x : Child) → Passed bytes (thread_at s i) x → In x old
  passed_old x k = subst (λ (w : Walked). In x w.children) (walks_once bytes (thread_at s i).start (thread_at s i).end k.walks (f.placed i e).walks) k.one

  passed_now : (x : Child) → Passed bytes t x → In x p.walked.children
  passed_now x k = subst (λ (w : Walked). In x w.children) (walks_once bytes t.start t.end k.walks p.walks) k.one

  -- ---- a FORK is done once
  now_walks : Walks bytes (thread_at s i).start (thread_at s i).end t.place p.walked
  now_walks = subst (λ (a : Child). Walks bytes a.start a.end t.place p.walked) own_t p.walks

  new_link : (x : Child) → p.walked.children ≡ x ∷ old → LinkOf bytes j (own_code (thread_at s i)) x
  new_link x k = passed_link c o s f i e now_walks x (subst (λ (l : List Child). In x l) (sym k) here)

  unborn : (x : Child) → p.walked.children ≡ x ∷ old → Forked bytes s x → ⊥
  unborn x k h =
      let its : LinkOf bytes j (own_code (thread_at s h.parent)) x = passed_link c o s f h.parent h.there h.passed.walks x h.passed.one in
      let q : h.parent ≡ i = same_thread s f h.parent i h.there e (link_once its (new_link x k) refl).0 in
      subst LastOnce k (last_once p.walks) (passed_old x (subst (λ (m : ℕ). Passed bytes (thread_at s m) x) q h.passed))

  -- no thread has the code of a child that is new
  unowned : (x : Child) → p.walked.children ≡ x ∷ old → (m : ℕ) → ThreadOf s x m → ⊥
  unowned x k zero h =
      let l : 5 + 3 ≤ x.start = link_low (new_link x k) in
      let a : x.start ≡ 5 = ap (λ (z : Child). z.start) (sym h.own ∙ f.root) in
      absurd (omega arith)
  unowned x k (suc m) h = unborn x k (subst (Forked bytes s) h.own (f.child m h.there))

  -- ---- there is room for a child
  abbrev row : Child → ℕ → Child
  row x zero = x
  row x (suc m) = own_code (thread_at s (suc m))

  abbrev Parent : Child → Type 0
  Parent x = (a : Child) × LinkOf bytes j a x

  parent : (m : ℕ) → Exists s (suc m) → Parent (own_code (thread_at s (suc m)))
  parent m h =
      let k = f.child m h in
      (own_code (thread_at s k.parent), passed_link c o s f k.parent k.there k.passed.walks (own_code (thread_at s (suc m))) k.passed.one)

  room : (x : Child) → p.walked.children ≡ x ∷ old → n < 16
  room x k =
      let a = no_more n (row x) links apart in
      let b = forks_proc j.tree in
      let d = c.within.sized.narrow in
      omega arith
    where
      links : (m : ℕ) → m < n → Parent (row x m)
      links zero l = (own_code (thread_at s i), new_link x k)
      links (suc m) l = parent m (before_end s.threads (suc m) l)

      apart : (a b : ℕ) → a < b → b < n → (row x a).start ≡ (row x b).start → ⊥
      apart a zero l m q = absurd (omega arith)
      apart zero (suc b) l m q =
          let h = before_end s.threads (suc b) m in
          unowned x k (suc b) (record { there = h; own = sym (link_once (new_link x k) (parent b h).1 q).1 })
      apart (suc a) (suc b) l m q =
          let g = before_end s.threads (suc a) (omega arith) in
          let h = before_end s.threads (suc b) m in
          let z = same_thread s f (suc a) (suc b) g h (link_once (parent a g).1 (parent b h).1 q).1 in
          absurd (omega arith)

  -- ---- a state whose first threads are these
  module _ (s' : State) (at_i : thread_at s' i ≡ t) (at_other : (k : ℕ) → k < n → (k ≡ i → ⊥) → thread_at s' k ≡ thread_at s k) (born : List Child) (kids : p.walked.children ≡ born ++ old) where
    -- thread k is the one that did the step, or as it was
    each : (P : ℕ → Type 0) → P i → ((k : ℕ) → k < n → thread_at s' k ≡ thread_at s k → P k) → (k : ℕ) → k < n → P k
    each P a b k l = go (eqb k i) refl
      where
        go : (x : Bool) → eqb k i ≡ x → P k
        go true q = subst P (sym (eqb-true k i q)) a
        go false q = b k l (at_other k l (eqb-false k i q))

    own' : (k : ℕ) → k < n → own_code (thread_at s' k) ≡ own_code (thread_at s k)
    own' = each (λ (k : ℕ). own_code (thread_at s' k) ≡ own_code (thread_at s k)) (ap own_code at_i ∙ own_t) (λ k l q. ap own_code q)

    there' : (k : ℕ) → k < n → Exists s' k
    there' k l = ap (λ (x : Child). not (eqb x.start 0)) (own' k l) ∙ before_end s.threads k l

    placed' : (k : ℕ) → k < n → Placed bytes (thread_at s' k)
    placed' = each (λ (k : ℕ). Placed bytes (thread_at s' k)) (subst (Placed bytes) (sym at_i) p) (λ k l q. subst (Placed bytes) (sym q) (f.placed k (before_end s.threads k l)))

    typed' : (k : ℕ) → k < n → TypedThread (thread_at s' k)
    typed' = each (λ (k : ℕ). TypedThread (thread_at s' k)) (subst TypedThread (sym at_i) ty) (λ k l q. subst TypedThread (sym q) (y k))

    tallied' : (table : Table) (m : ℕ) → ((k : ℕ) → Exists s k → BacksWithin m table (thread_at s k)) → BacksWithin m table t → (k : ℕ) → k < n → BacksWithin m table (thread_at s' k)
    tallied' table m others its = each (λ (k : ℕ). BacksWithin m table (thread_at s' k)) (subst (BacksWithin m table) (sym at_i) its) (λ k l q. subst (BacksWithin m table) (sym q) (others k (before_end s.threads k l)))

    in_right : (x : Child) (bs : List Child) → In x old → In x (bs ++ old)
    in_right x [] k = k
    in_right x (b ∷ bs) k = there (in_right x bs k)

    passed_to : (x : Child) (k : ℕ) → k < n → Passed bytes (thread_at s k) x → Passed bytes (thread_at s' k) x
    passed_to x = each (λ (k : ℕ). Passed bytes (thread_at s k) x → Passed bytes (thread_at s' k) x)
        (λ h. subst (λ (u : Thread). Passed bytes u x) (sym at_i) (record { walked = p.walked; walks = p.walks; one = subst (λ (l : List Child). In x l) (sym kids) (in_right x born (passed_old x h)) }))
        (λ k l q h. subst (λ (u : Thread). Passed bytes u x) (sym q) h)

    forked_to : (x : Child) → Forked bytes s x → Forked bytes s' x
    forked_to x h =
        let l = below_number s f h.parent h.there in
        record { parent = h.parent; there = there' h.parent l; passed = passed_to x h.parent l h.passed }

    thread_to : (x : Child) (k : ℕ) → ThreadOf s x k → ThreadOf s' x k
    thread_to x k h =
        let l = below_number s f k h.there in
        record { there = there' k l; own = own' k l ∙ h.own }

    thread_from : (x : Child) (k : ℕ) → k < n → ThreadOf s' x k → ThreadOf s x k
    thread_from x k l h = record { there = before_end s.threads k l; own = sym (own' k l) ∙ h.own }

    -- a FORK passed now was passed before, or is the one done
    data Was (x : Child) : Type 0 where
      before : Forked bytes s x → Was x
      now : In x born → Was x

    either : (x : Child) (bs : List Child) → In x (bs ++ old) → (In x bs → Was x) → Was x
    either x [] k g = before (record { parent = i; there = e; passed = record { walked = (f.placed i e).walked; walks = (f.placed i e).walks; one = k } })
    either x (b ∷ bs) k g = go (first_or x b (bs ++ old) k) (λ z. either x bs z (λ w. g (there w)))
      where
        go : FirstOr x b (bs ++ old) → (In x (bs ++ old) → Was x) → Was x
        go (first q) r = g (subst (λ (z : Child). In x (z ∷ bs)) q here)
        go (other z) r = r z

    was : (x : Child) (k : ℕ) → k < n → Passed bytes (thread_at s' k) x → Was x
    was x = each (λ (k : ℕ). Passed bytes (thread_at s' k) x → Was x)
        (λ h. either x born (subst (λ (l : List Child). In x l) kids (passed_now x (subst (λ (u : Thread). Passed bytes u x) at_i h))) (λ z. now z))
        (λ k l q h. before (record { parent = k; there = before_end s.threads k l; passed = subst (λ (u : Thread). Passed bytes u x) q h }))

    child' : (k : ℕ) → suc k < n → Forked bytes s' (own_code (thread_at s' (suc k)))
    child' k l = subst (Forked bytes s') (sym (own' (suc k) l)) (forked_to (own_code (thread_at s (suc k))) (f.child k (before_end s.threads (suc k) l)))

  i_in : i < length s.threads
  i_in = in_table s i e

  -- the COMMITs passed, this thread having passed so many more
  passed_on : (d : ℕ) → p.walked.commits ≡ d + (f.placed i e).walked.commits → CommitsPassed bytes (set s.threads i t) (d + f.commits)
  passed_on d q = passed_set i d t f.passed i_in e (f.placed i e).walks (ap (λ (x : ℕ). not (eqb x 0)) st ∙ e) p.walks q

  -- ---- a step that is no FORK
  module _ (table : Table) (sized : Sized table) (kids : p.walked.children ≡ [] ++ old) (d : ℕ) (ahead : p.walked.commits ≡ d + (f.placed i e).walked.commits) (tallies : (k : ℕ) → Exists s k → BacksWithin (beside + (d + f.commits)) table (thread_at s k)) (its : BacksWithin (beside + (d + f.commits)) table t) (most : (v : ℕ) → get_or table.counts v 0 ≤ beside + (d + f.commits)) where
    abbrev quiet : State
    quiet = record { registers = table.registers; counts = table.counts; threads = set s.threads i t }

    quiet_i : thread_at quiet i ≡ t
    quiet_i = get_or-set_same s.threads i t blank i_in

    quiet_other : (k : ℕ) → k < n → (k ≡ i → ⊥) → thread_at quiet k ≡ thread_at s k
    quiet_other k l d = get_or-set_other s.threads i k t blank d

    quiet_above : (k : ℕ) → (k < n → ⊥) → thread_at quiet k ≡ thread_at s k
    quiet_above k m = get_or-set_other s.threads i k t blank (λ q. m (let l = i_below in omega arith))

    quiet_below : (k : ℕ) → Exists quiet k → k < n
    quiet_below k h = go (dec_lt k n)
      where
        go : Dec (k < n) → k < n
        go (yes l) = l
        go (no m) = below_number s f k (sym (ap exists (quiet_above k m)) ∙ h)

    quiet_one : (x : Child) → Forked bytes quiet x → OneThread quiet x
    quiet_one x h = go (was quiet quiet_i quiet_other [] kids x h.parent (quiet_below h.parent h.there) h.passed)
      where
        go : Was quiet quiet_i quiet_other [] kids x → OneThread quiet x
        go (now k) = absurd (none_in k)
        go (before k) =
            let r = f.one x k in
            record {
              thread = r.thread;
              its = thread_to quiet quiet_i quiet_other [] kids x r.thread r.its;
              alone = λ m a. r.alone m (thread_from quiet quiet_i quiet_other [] kids x m (quiet_below m a.there) a);
            }

    quiet_no : (k : ℕ) → exists (thread_at quiet k) ≡ false → thread_at quiet k ≡ blank
    quiet_no k h = go (dec_lt k n)
      where
        go : Dec (k < n) → thread_at quiet k ≡ blank
        go (yes l) = never (there' quiet quiet_i quiet_other [] kids k l) h
        go (no m) = quiet_above k m ∙ f.no_thread k (sym (ap exists (quiet_above k m)) ∙ h)

    quiet_typed : Typed quiet
    quiet_typed k = go (dec_lt k n)
      where
        go : Dec (k < n) → TypedThread (thread_at quiet k)
        go (yes l) = typed' quiet quiet_i quiet_other [] kids k l
        go (no m) = subst TypedThread (sym (quiet_above k m)) (y k)

    quiet_fits : FitsBeside beside bytes quiet
    quiet_fits =
        let l = i_below in
        record {
          records = length-set s.threads i t ∙ f.records;
          registers = sized.registers;
          counts = sized.counts;
          root = own' quiet quiet_i quiet_other [] kids 0 (omega arith) ∙ f.root;
          child = λ k h. child' quiet quiet_i quiet_other [] kids k (quiet_below (suc k) h);
          one = quiet_one;
          placed = λ k h. placed' quiet quiet_i quiet_other [] kids k (quiet_below k h);
          no_gap = λ k h. there' quiet quiet_i quiet_other [] kids k (let m = quiet_below (suc k) h in omega arith);
          no_thread = quiet_no;
          commits = d + f.commits;
          passed = passed_on d ahead;
          tallied = λ k h. tallied' quiet quiet_i quiet_other [] kids table (beside + (d + f.commits)) tallies its k (quiet_below k h);
          counted = most;
        }

  -- ---- a FORK
  module _ (table : Table) (sized : Sized table) (a b : ℕ) (some : 1 ≤ a) (kids : p.walked.children ≡ record { start = a; end = b } ∷ old) (d : ℕ) (ahead : p.walked.commits ≡ d + (f.placed i e).walked.commits) (tallies : (k : ℕ) → Exists s k → BacksWithin (beside + (d + f.commits)) table (thread_at s k)) (its : BacksWithin (beside + (d + f.commits)) table t) (most : (v : ℕ) → get_or table.counts v 0 ≤ beside + (d + f.commits)) where
    abbrev new : Child
    new = record { start = a; end = b }

    abbrev more : State
    more = record { registers = table.registers; counts = table.counts; threads = set (set s.threads i t) n (spawned a b) }

    n_room : n < 16
    n_room = room new kids

    more_new : thread_at more n ≡ spawned a b
    more_new = get_or-set_same (set s.threads i t) n (spawned a b) blank (let l = length-set s.threads i t in let r = f.records in let k = n_room in omega arith)

    more_same : (k : ℕ) → (k ≡ n → ⊥) → thread_at more k ≡ get_or (set s.threads i t) k blank
    more_same k d = get_or-set_other (set s.threads i t) n k (spawned a b) blank d

    more_i : thread_at more i ≡ t
    more_i = more_same i (λ q. let l = i_below in absurd (omega arith)) ∙ get_or-set_same s.threads i t blank i_in

    more_other : (k : ℕ) → k < n → (k ≡ i → ⊥) → thread_at more k ≡ thread_at s k
    more_other k l d = more_same k (λ q. absurd (omega arith)) ∙ get_or-set_other s.threads i k t blank d

    more_above : (k : ℕ) → n < k → thread_at more k ≡ thread_at s k
    more_above k m = more_same k (λ q. absurd (omega arith)) ∙ get_or-set_other s.threads i k t blank (λ q. let l = i_below in absurd (omega arith))

    -- an old thread, the new one, or none
    data Place (k : ℕ) : Type 0 where
      older : k < n → Place k
      newest : k ≡ n → Place k
      above : n < k → Place k

    place : (k : ℕ) → Place k
    place k = go (dec_lt k n) (dec_lt n k)
      where
        go : Dec (k < n) → Dec (n < k) → Place k
        go (yes l) d = older l
        go (no l) (yes m) = above m
        go (no l) (no m) = newest (omega arith)

    born_exists : exists (spawned a b) ≡ true
    unfolding spawned
    born_exists = ap not (ne_eqb a 0 (λ q. absurd (omega arith)))

    born_own : own_code (spawned a b) ≡ new
    unfolding spawned
    born_own = refl

    not-above : {A : Type 0} (k : ℕ) → Exists more k → n < k → A
    not-above k h m = absurd (let l = below_number s f k (sym (ap exists (more_above k m)) ∙ h) in omega arith)

    -- a new thread has passed nothing
    born_passed : (x : Child) → Passed bytes (spawned a b) x → ⊥
    unfolding spawned
    born_passed x h = none_in (subst (λ (w : Walked). In x w.children) (walks_once bytes a b h.walks starts) h.one)

    more_one : (x : Child) → Forked bytes more x → OneThread more x
    more_one x h = go (place h.parent)
      where
        old_one : Forked bytes s x → OneThread more x
        old_one k =
            let r = f.one x k in
            record { thread = r.thread; its = thread_to more more_i more_other (new ∷ []) kids x r.thread r.its; alone = λ m u. alone r m u (place m) }
          where
            alone : (r : OneThread s x) (m : ℕ) → ThreadOf more x m → Place m → m ≡ r.thread
            alone r m u (older l) = r.alone m (thread_from more more_i more_other (new ∷ []) kids x m l u)
            alone r m u (newest q) =
                let z : new ≡ x = sym (ap own_code (ap (thread_at more) q ∙ more_new) ∙ born_own) ∙ u.own in
                absurd (unborn new kids (subst (Forked bytes s) (sym z) k))
            alone r m u (above l) = not-above m u.there l

        new_one : x ≡ new → OneThread more x
        new_one q =
            record {
              thread = n;
              its = record { there = ap exists more_new ∙ born_exists; own = ap own_code more_new ∙ (born_own ∙ sym q) };
              alone = λ m u. alone m u (place m);
            }
          where
            alone : (m : ℕ) → ThreadOf more x m → Place m → m ≡ n
            alone m u (older l) = absurd (unowned new kids m (subst (λ (z : Child). ThreadOf s z m) q (thread_from more more_i more_other (new ∷ []) kids x m l u)))
            alone m u (newest z) = z
            alone m u (above l) = not-above m u.there l

        which : Was more more_i more_other (new ∷ []) kids x → OneThread more x
        which (before k) = old_one k
        which (now k) = first_of (first_or x new [] k)
          where
            first_of : FirstOr x new [] → OneThread more x
            first_of (first q) = new_one q
            first_of (other z) = absurd (none_in z)

        go : Place h.parent → OneThread more x
        go (older l) = which (was more more_i more_other (new ∷ []) kids x h.parent l h.passed)
        go (newest q) = absurd (born_passed x (subst (λ (u : Thread). Passed bytes u x) (ap (thread_at more) q ∙ more_new) h.passed))
        go (above l) = not-above h.parent h.there l

    more_typed : Typed more
    more_typed k = go (place k)
      where
        go : Place k → TypedThread (thread_at more k)
        go (older l) = typed' more more_i more_other (new ∷ []) kids k l
        go (newest q) = subst TypedThread (sym (ap (thread_at more) q ∙ more_new)) (typed_spawned a b)
        go (above m) = subst TypedThread (sym (more_above k m)) (y k)

    more_placed : (k : ℕ) → Exists more k → Placed bytes (thread_at more k)
    more_placed k h = go (place k)
      where
        go : Place k → Placed bytes (thread_at more k)
        go (older l) = placed' more more_i more_other (new ∷ []) kids k l
        go (newest q) = subst (Placed bytes) (sym (ap (thread_at more) q ∙ more_new)) (placed_spawned bytes a b)
        go (above m) = not-above k h m

    more_child : (k : ℕ) → Exists more (suc k) → Forked bytes more (own_code (thread_at more (suc k)))
    more_child k h = go (place (suc k))
      where
        go : Place (suc k) → Forked bytes more (own_code (thread_at more (suc k)))
        go (older l) = child' more more_i more_other (new ∷ []) kids k l
        go (newest q) =
            let z : own_code (thread_at more (suc k)) ≡ new = ap own_code (ap (thread_at more) q ∙ more_new) ∙ born_own in
            subst (Forked bytes more) (sym z)
            (record {
              parent = i;
              there = there' more more_i more_other (new ∷ []) kids i i_below;
              passed = subst (λ (u : Thread). Passed bytes u new) (sym more_i) (record { walked = p.walked; walks = p.walks; one = subst (λ (l : List Child). In new l) (sym kids) here });
            })
        go (above m) = not-above (suc k) h m

    more_gap : (k : ℕ) → Exists more (suc k) → Exists more k
    more_gap k h = go (place (suc k))
      where
        go : Place (suc k) → Exists more k
        go (older l) = there' more more_i more_other (new ∷ []) kids k (omega arith)
        go (newest q) = there' more more_i more_other (new ∷ []) kids k (omega arith)
        go (above m) = not-above (suc k) h m

    more_no : (k : ℕ) → exists (thread_at more k) ≡ false → thread_at more k ≡ blank
    more_no k h = go (place k)
      where
        go : Place k → thread_at more k ≡ blank
        go (older l) = never (there' more more_i more_other (new ∷ []) kids k l) h
        go (newest q) = never (ap exists (ap (thread_at more) q ∙ more_new) ∙ born_exists) h
        go (above m) = more_above k m ∙ f.no_thread k (sym (ap exists (more_above k m)) ∙ h)

    more_passed : CommitsPassed bytes more.threads (d + f.commits)
    more_passed =
        passed_new n a b (passed_on d ahead) (ap exists (get_or-set_other s.threads i n t blank (λ q. let l = i_below in absurd (omega arith))) ∙ at-end s.threads) some born_exists

    more_tallied : (k : ℕ) → Exists more k → BacksWithin (beside + (d + f.commits)) table (thread_at more k)
    more_tallied k h = go (place k)
      where
        go : Place k → BacksWithin (beside + (d + f.commits)) table (thread_at more k)
        go (older l) = tallied' more more_i more_other (new ∷ []) kids table (beside + (d + f.commits)) tallies its k l
        go (newest q) = subst (BacksWithin (beside + (d + f.commits)) table) (sym (ap (thread_at more) q ∙ more_new)) (tallied_spawned (beside + (d + f.commits)) table a b)
        go (above m) = not-above k h m

    more_fits : FitsBeside beside bytes more
    more_fits =
        let l = i_below in
        record {
          records = length-set (set s.threads i t) n (spawned a b) ∙ (length-set s.threads i t ∙ f.records);
          registers = sized.registers;
          counts = sized.counts;
          root = own' more more_i more_other (new ∷ []) kids 0 (omega arith) ∙ f.root;
          child = more_child;
          one = more_one;
          placed = more_placed;
          no_gap = more_gap;
          no_thread = more_no;
          commits = d + f.commits;
          passed = more_passed;
          tallied = more_tallied;
          counted = most;
        }

  born_keeps : (table : Table) → Sized table → (d : ℕ) → p.walked.commits ≡ d + (f.placed i e).walked.commits → ((k : ℕ) → Exists s k → BacksWithin (beside + (d + f.commits)) table (thread_at s k)) → BacksWithin (beside + (d + f.commits)) table t → ((v : ℕ) → get_or table.counts v 0 ≤ beside + (d + f.commits)) → (ks : List Code) (born : List Child) (ts : List Thread) → p.walked.children ≡ born ++ old → Born bytes (set s.threads i t) n ks born ts → FitsBeside beside bytes (record { registers = table.registers; counts = table.counts; threads = ts }) × Typed (record { registers = table.registers; counts = table.counts; threads = ts })
  born_keeps table sized d ahead tallies its most ks born ts kids nobody = (quiet_fits table sized kids d ahead tallies its most, quiet_typed table sized kids d ahead tallies its most)
  born_keeps table sized d ahead tallies its most ks born ts kids (child a b r q l) = (more_fits table sized a b l kids d ahead tallies its most, more_typed table sized a b l kids d ahead tallies its most)

  -- so many more COMMITs are passed
  born_commits : (d : ℕ) → p.walked.commits ≡ d + (f.placed i e).walked.commits → (ks : List Code) (born : List Child) (ts : List Thread) → Born bytes (set s.threads i t) n ks born ts → CommitsPassed bytes ts (d + f.commits)
  born_commits d ahead ks born ts nobody = passed_on d ahead
  born_commits d ahead ks born ts (child a b r q l) =
      passed_new n a b (passed_on d ahead) (ap exists (get_or-set_other s.threads i n t blank (λ q. let l = i_below in absurd (omega arith))) ∙ at-end s.threads) l (spawned_exists a b l)

-- ---- the send-backs
-- what an event makes of the COMMITs passed, the table, a thread's record and its own
module _ (table table' : Table) (n : ℕ) (grows : (v : ℕ) → get_or table.counts v 0 ≤ get_or table'.counts v 0) where
  same_tally : (e : table' ≡ table) (t : Thread) → BacksWithin n table t → BacksWithin (0 + n) table' t
  same_tally e t y =
      subst (λ (x : Table). BacksWithin (0 + n) x t) (sym e)
      (record { not-above = let a = y.not-above in omega arith; not_stale = λ q. y.not_stale (omega arith); not-ahead = y.not-ahead })

  more_tally : (t : Thread) → BacksWithin n table t → BacksWithin (1 + n) table' t
  more_tally t y = let a = y.not-above in record { not-above = omega arith; not_stale = λ q. absurd (omega arith); not-ahead = λ v. let b = y.not-ahead v in let c = grows v in omega arith }

  abbrev Still : Event → Type 0
  Still e = is_commit e ≡ false → table' ≡ table

  others_tally : (e : Event) → Still e → (t : Thread) → BacksWithin n table t → BacksWithin (oneMore (is_commit e) 0 + n) table' t
  others_tally idle s = same_tally (s refl)
  others_tally pushed s = same_tally (s refl)
  others_tally (summed inside) s = same_tally (s refl)
  others_tally forked s = same_tally (s refl)
  others_tally begun s = same_tally (s refl)
  others_tally (looked from) s = same_tally (s refl)
  others_tally wrote s = same_tally (s refl)
  others_tally committed s = more_tally
  others_tally (sent_back v) s = same_tally (s refl)

  module _ (t u : Thread) (y : BacksWithin n table t) (same : u.backs ≡ t.backs) (calm : (v : ℕ) → stale t table v ≡ false → stale u table v ≡ false) (low : (v : ℕ) → get_or u.readcounts v 0 ≤ get_or table.counts v 0) where
    calm_tally : table' ≡ table → (rule : ℕ) → BacksWithin (0 + n) table' (with_rule rule u.backs u)
    calm_tally e rule =
        subst (λ (x : Table). BacksWithin (0 + n) x (with_rule rule u.backs u)) (sym e)
        (record {
          not-above = let a = y.not-above in omega arith;
          not_stale = λ q v. stale_by u (with_rule rule u.backs u) table refl refl v (calm v (y.not_stale (omega arith) v));
          not-ahead = low;
        })

    back_tally : table' ≡ table → WasStale t u table → (rule : ℕ) → BacksWithin (0 + n) table' (with_rule rule (suc u.backs) u)
    back_tally e w rule =
        subst (λ (x : Table). BacksWithin (0 + n) x (with_rule rule (suc u.backs) u)) (sym e)
        (record {
          not-above = lower;
          not_stale = λ q v. stale_by u (with_rule rule (suc u.backs) u) table refl refl v (w.none_now v);
          not-ahead = low;
        })
      where
        below : t.backs < n
        below = go (dec_lt t.backs n)
          where
            go : Dec (t.backs < n) → t.backs < n
            go (yes l) = l
            go (no m) = never w.was (y.not_stale (let a = y.not-above in omega arith) w.register)

        lower : suc u.backs ≤ 0 + n
        lower = let l = below in omega arith

    its_tally : (e : Event) → Still e → (is_back e ≡ true → WasStale t u table) → BacksWithin (oneMore (is_commit e) 0 + n) table' (moved_by e u)
    unfolding backs_after
    its_tally idle s b = calm_tally (s refl) _
    its_tally pushed s b = calm_tally (s refl) _
    its_tally (summed inside) s b = calm_tally (s refl) _
    its_tally forked s b = calm_tally (s refl) _
    its_tally begun s b = calm_tally (s refl) _
    its_tally (looked from) s b = calm_tally (s refl) _
    its_tally wrote s b = calm_tally (s refl) _
    its_tally committed s b =
        let a = y.not-above in
        record { not-above = omega arith; not_stale = λ q. absurd (omega arith); not-ahead = λ v. let b = low v in let c = grows v in omega arith }
    its_tally (sent_back v) s b = back_tally (s refl) (b refl) _

more_plus : (b : Bool) (n : ℕ) → oneMore b n ≡ oneMore b 0 + n
more_plus true n = omega arith
more_plus false n = omega arith

-- so many more are passed beside the others' too
past_others : (a b n : ℕ) {table : Table} {t : Thread} → BacksWithin (a + (b + n)) table t → BacksWithin (b + (a + n)) table t
past_others a b n {table} {t} = subst (λ (m : ℕ). BacksWithin m table t) (let z : a + (b + n) ≡ b + (a + n) = omega arith in z)

-- what an instruction of a thread leaves fits the code again
pub keeps : {bytes : List ℕ} {j : Job} {beside : ℕ} → IsCode bytes j → Outside (compile_p j.tree ε) 0 → (s : State) → FitsBeside beside bytes s → Typed s → (i : ℕ) → Exists s i → (q : Placed bytes (thread_at s i)) (r : Stepped) (d : Did register_cells) → length d.table ≡ 64 → Simulated bytes s i (thread_at s i) q.walked r d → FitsBeside beside bytes r.state × Typed r.state
unfolding placed_moved
keeps {bytes} {j} {beside} c o s f y i e q r d sized x =
    let w : q.walked ≡ (f.placed i e).walked = walks_once bytes (thread_at s i).start (thread_at s i).end q.walks (f.placed i e).walks in
    let k : x.placed.walked.children ≡ x.born ++ (f.placed i e).walked.children = subst (λ (v : Walked). x.placed.walked.children ≡ x.born ++ v.children) w x.kids in
    let a : x.placed.walked.commits ≡ oneMore (is_commit r.event) 0 + (f.placed i e).walked.commits = x.commits ∙ (more_plus (is_commit r.event) q.walked.commits ∙ ap (λ (v : Walked). oneMore (is_commit r.event) 0 + v.commits) w) in
    born_keeps c o s f y i e (moved_by r.event x.thread) (typed_moved _ _ x.thread x.typed) (placed_moved _ _ x.thread x.placed) x.start x.end (table_in r.state) long
    (oneMore (is_commit r.event) 0) a
    (λ m h. past_others (oneMore (is_commit r.event) 0) beside f.commits (others_tally (table_in s) (table_in r.state) (beside + f.commits) grows r.event x.still (thread_at s m) (f.tallied m h)))
    (past_others (oneMore (is_commit r.event) 0) beside f.commits (its_tally (table_in s) (table_in r.state) (beside + f.commits) grows (thread_at s i) x.thread (f.tallied i e) x.backs x.calm (x.low (f.tallied i e).not-ahead) r.event x.still x.sent-back))
    most d.children x.born r.state.threads k x.threads
  where
    grows : (v : ℕ) → get_or s.counts v 0 ≤ get_or r.state.counts v 0
    grows v = (x.grown f.counts v).0

    more_plus' : (b : Bool) (m n k : ℕ) → m ≤ oneMore b n → n ≤ k → m ≤ oneMore b 0 + k
    more_plus' true m n k l q = omega arith
    more_plus' false m n k l q = omega arith

    sum : (k : ℕ) → k + (beside + f.commits) ≡ beside + (k + f.commits)
    sum k = omega arith

    most : (v : ℕ) → get_or r.state.counts v 0 ≤ beside + (oneMore (is_commit r.event) 0 + f.commits)
    most v = subst (λ (n : ℕ). get_or r.state.counts v 0 ≤ n) (sum (oneMore (is_commit r.event) 0)) (more_plus' (is_commit r.event) (get_or r.state.counts v 0) (get_or s.counts v 0) (beside + f.commits) (x.grown f.counts v).1 (f.counted v))

    long : Sized (table_in r.state)
    long =
        let a : length (cells_from r.state.registers r.state.counts) ≡ 64 = ap length x.registers ∙ sized in
        let b = cells_length r.state.registers r.state.counts x.even in
        let c = x.even in
        record { registers = omega arith; counts = omega arith }

-- and passes a COMMIT if that takes effect
pub keeps_passed : {bytes : List ℕ} {j : Job} {beside : ℕ} → IsCode bytes j → Outside (compile_p j.tree ε) 0 → (s : State) → (f : FitsBeside beside bytes s) → Typed s → (i : ℕ) → Exists s i → (q : Placed bytes (thread_at s i)) (r : Stepped) (d : Did register_cells) → Simulated bytes s i (thread_at s i) q.walked r d → CommitsPassed bytes r.state.threads (oneMore (is_commit r.event) f.commits)
unfolding placed_moved
keeps_passed {bytes} c o s f y i e q r d x =
    let w : q.walked ≡ (f.placed i e).walked = walks_once bytes (thread_at s i).start (thread_at s i).end q.walks (f.placed i e).walks in
    let a : x.placed.walked.commits ≡ oneMore (is_commit r.event) 0 + (f.placed i e).walked.commits = x.commits ∙ (more_plus (is_commit r.event) q.walked.commits ∙ ap (λ (v : Walked). oneMore (is_commit r.event) 0 + v.commits) w) in
    subst (CommitsPassed bytes r.state.threads) (sym (more_plus (is_commit r.event) f.commits))
    (born_commits c o s f y i e (moved_by r.event x.thread) (typed_moved _ _ x.thread x.typed) (placed_moved _ _ x.thread x.placed) x.start x.end (oneMore (is_commit r.event) 0) a d.children x.born r.state.threads x.threads)

-- no COMMIT more is passed
none_more : (beside n : ℕ) {table : Table} {t : Thread} → BacksWithin (beside + n) table t → BacksWithin (beside + (0 + n)) table t
none_more beside n {table} {t} = subst (λ (m : ℕ). BacksWithin m table t) (let z : beside + n ≡ beside + (0 + n) = omega arith in z)

-- a thread's last rule is free, and its number of send-backs as far as the COMMITs passed allow
pub numbers_free : {bytes : List ℕ} {j : Job} {beside : ℕ} → IsCode bytes j → Outside (compile_p j.tree ε) 0 → (s : State) → (f : FitsBeside beside bytes s) → Typed s → (i : ℕ) → Exists s i → (rule backs : ℕ) → BacksWithin (beside + f.commits) (table_in s) (with_rule rule backs (thread_at s i)) → FitsBeside beside bytes (record { registers = s.registers; counts = s.counts; threads = set s.threads i (with_rule rule backs (thread_at s i)) })
unfolding placed_moved
numbers_free {bytes} {j} {beside} c o s f y i e rule backs x =
    quiet_fits c o s f y i e (with_rule rule backs (thread_at s i)) (typed_moved rule backs (thread_at s i) (y i)) (placed_moved rule backs (thread_at s i) (f.placed i e)) refl refl (table_in s) (record { registers = f.registers; counts = f.counts }) refl
    0 (omega arith) (λ k h. none_more beside f.commits (f.tallied k h)) (none_more beside f.commits x) (λ v. let z = f.counted v in omega arith)

-- document 02 No. 2: its count is free as far as the ADDs passed since its BEGIN allow
pub note_free : {bytes : List ℕ} {j : Job} {beside : ℕ} → IsCode bytes j → Outside (compile_p j.tree ε) 0 → (s : State) (f : FitsBeside beside bytes s) → Typed s → (i : ℕ) (e : Exists s i) (over : ℕ) → over ≤ (f.placed i e).walked.adds
    → FitsBeside beside bytes (record { registers = s.registers; counts = s.counts; threads = set s.threads i (with_notes (thread_at s i).begin (thread_at s i).base over (thread_at s i)) })
note_free {bytes} {j} {beside} c o s f y i e over low =
    quiet_fits c o s f y i e t (record { cells = (y i).cells; readlog = (y i).readlog; readcounts = (y i).readcounts; writelog = (y i).writelog })
    (record {
      walked = p.walked;
      walks = p.walks;
      height = p.height;
      begin = p.begin;
      base = p.base;
      over = low;
      no_reads = p.no_reads;
      no_writes = p.no_writes;
      reads_free = p.reads_free;
      counts_free = p.counts_free;
      writes_free = p.writes_free;
      cells_free = p.cells_free;
    })
    refl refl (table_in s) (record { registers = f.registers; counts = f.counts }) refl 0 (omega arith) (λ k h. none_more beside f.commits (f.tallied k h))
    (none_more beside f.commits (record { not-above = (f.tallied i e).not-above; not_stale = λ q v. stale_by (thread_at s i) t (table_in s) refl refl v ((f.tallied i e).not_stale q v); not-ahead = (f.tallied i e).not-ahead }))
    (λ v. let z = f.counted v in omega arith)
  where
    t : Thread
    t = with_notes (thread_at s i).begin (thread_at s i).base over (thread_at s i)

    p : Placed bytes (thread_at s i)
    p = f.placed i e

-- document 02 No. 6: its read log is free, values and counts, as far as unmarked registers have 0 and the COMMITs passed and the table's counts allow
pub log_free : {bytes : List ℕ} {j : Job} {beside : ℕ} → IsCode bytes j → Outside (compile_p j.tree ε) 0 → (s : State) (f : FitsBeside beside bytes s) → Typed s → (i : ℕ) (e : Exists s i) (values : List ℤ) (ns : List ℕ) → length values ≡ 64 → length ns ≡ 64
    → ((v : ℕ) → member (thread_at s i).reads v ≡ false → (get_or values v (pos 0) ≡ pos 0) × (get_or ns v 0 ≡ 0))
    → BacksWithin (beside + f.commits) (table_in s) (with_logs (thread_at s i).reads values ns (thread_at s i).writes (thread_at s i).writelog (thread_at s i))
    → FitsBeside beside bytes (record { registers = s.registers; counts = s.counts; threads = set s.threads i (with_logs (thread_at s i).reads values ns (thread_at s i).writes (thread_at s i).writelog (thread_at s i)) })
log_free {bytes} {j} {beside} c o s f y i e values ns lv ln free x =
    quiet_fits c o s f y i e t (record { cells = (y i).cells; readlog = lv; readcounts = ln; writelog = (y i).writelog })
    (record {
      walked = p.walked;
      walks = p.walks;
      height = p.height;
      begin = p.begin;
      base = p.base;
      over = p.over;
      no_reads = p.no_reads;
      no_writes = p.no_writes;
      reads_free = λ v m. (free v m).0;
      counts_free = λ v m. (free v m).1;
      writes_free = p.writes_free;
      cells_free = p.cells_free;
    })
    refl refl (table_in s) (record { registers = f.registers; counts = f.counts }) refl 0 (omega arith) (λ k h. none_more beside f.commits (f.tallied k h))
    (none_more beside f.commits x) (λ v. let z = f.counted v in omega arith)
  where
    t : Thread
    t = with_logs (thread_at s i).reads values ns (thread_at s i).writes (thread_at s i).writelog (thread_at s i)

    p : Placed bytes (thread_at s i)
    p = f.placed i e

-- and where it forks a child, there is a record for it
pub has_room : {bytes : List ℕ} {j : Job} {beside : ℕ} → IsCode bytes j → Outside (compile_p j.tree ε) 0 → (s : State) → FitsBeside beside bytes s → Typed s → (i : ℕ) → Exists s i → (q : Placed bytes (thread_at s i)) (r : Stepped) (d : Did register_cells) → Simulated bytes s i (thread_at s i) q.walked r d → (k : Code) → d.children ≡ k ∷ [] → number_of s.threads < 16
unfolding placed_moved
has_room {bytes} c o s f y i e q r d x k z = go d.children x.born r.state.threads x.threads x.kids z
  where
    w : q.walked ≡ (f.placed i e).walked
    w = walks_once bytes (thread_at s i).start (thread_at s i).end q.walks (f.placed i e).walks

    go : (ks : List Code) (born : List Child) (ts : List Thread) → Born bytes (set s.threads i (moved_by r.event x.thread)) (number_of s.threads) ks born ts → x.placed.walked.children ≡ born ++ q.walked.children → ks ≡ k ∷ [] → number_of s.threads < 16
    go ks born ts nobody m n = absurd (let z : ◌≡◌ {A = ℕ} 0 1 = cc in omega arith)
    go ks born ts (child a b g h l) m n = room c o s f y i e (moved_by r.event x.thread) (typed_moved _ _ x.thread x.typed) (placed_moved _ _ x.thread x.placed) x.start x.end (record { start = a; end = b }) (subst (λ (v : Walked). x.placed.walked.children ≡ record { start = a; end = b } ∷ v.children) w m)
