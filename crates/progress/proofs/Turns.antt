-- One pick by value is one turn of the run that is told forward. Assumes nothing.
use Prim.Native.Nat.{ℕ, ◌<◌, ◌≤◌}
use mathlib.Core.Bool.{Bool, true, false, cond, not}
use mathlib.Core.Logic.{◌⊎◌, inl, inr}
use mathlib.Core.Path.{◌≡◌, refl, sym, ap, ap₂, subst, ◌∙◌}
use mathlib.Core.List.{List, [], ◌∷◌}
use native.Mathlib.Omega.{arith}
use borrow.Author.Tests.{le-ltb, eqb-true, eqb-false, ltb-true, ltb-false}
use lib.Dec.{eqb, ltb}
use lib.ListN.{length, set}
use lib.Seq.{set-get_or}
use Rattle.code.specs.Bytes.{IsCode}
use Rattle.progress.specs.InnerProgress.{more_to, child_of, seated_in, advanced_to, which_of, picked_of, picked_by, Low, shown, settled_by}
use Rattle.std.specs.Prelude as std
use Rattle.progress.specs.declared.Progress.{Progress}
use Rattle.machine.specs.Steps.{State, table_in, Stepped, Acted, seated, settle, thread_at, pick_among}
use Rattle.machine.specs.Fits.{Fits, Typed}
use Rattle.machine.specs.InnerTally as tally
use Rattle.machine.specs.InnerTurn.{children_as, acted_as, handed_as}
use Rattle.machine.proofs.Actings.{step_acts, idle_step, step_picks, act_low}
use Rattle.machine.proofs.Ranges.{low_fits}
use Rattle.machine.proofs.Agrees.{does_one}
use Rattle.script.specs.Jobs.{Job}
use Rattle.stm.specs.Events.{Source, from_writes, from_reads, from_table, Event, idle, pushed, summed, forked, begun, looked, wrote, committed, sent_back, is_idle, is_fork, is_commit, is_back, more, Counts, event_number, event_register, turn_number, event_of}
use Rattle.stm.specs.Events as events
use Rattle.stm.proofs.Counts.{event-of}
use Rattle.thread.specs.declared.Thread.{Thread}
use Rattle.thread.specs.InnerStep.{Handed, handed, unacted, stepped}
use Rattle.thread.specs.Threads.{exists, blank}
use Rattle.word.specs.Sum.{wrapping}
use Rattle.word.proofs.Counting.{saturated_exact}

-- what an event's number says of it
fork_number : (e : Event) → eqb (event_number e) 3 ≡ is_fork e
unfolding event_number
fork_number idle = refl
fork_number pushed = refl
fork_number (summed inside) = refl
fork_number forked = refl
fork_number begun = refl
fork_number (looked from_writes) = refl
fork_number (looked from_reads) = refl
fork_number (looked from_table) = refl
fork_number wrote = refl
fork_number committed = refl
fork_number (sent_back v) = refl

idle_number : (e : Event) → eqb (event_number e) 0 ≡ is_idle e
unfolding event_number
idle_number idle = refl
idle_number pushed = refl
idle_number (summed inside) = refl
idle_number forked = refl
idle_number begun = refl
idle_number (looked from_writes) = refl
idle_number (looked from_reads) = refl
idle_number (looked from_table) = refl
idle_number wrote = refl
idle_number committed = refl
idle_number (sent_back v) = refl

commit_number : (e : Event) → eqb (event_number e) 9 ≡ is_commit e
unfolding event_number
commit_number idle = refl
commit_number pushed = refl
commit_number (summed inside) = refl
commit_number forked = refl
commit_number begun = refl
commit_number (looked from_writes) = refl
commit_number (looked from_reads) = refl
commit_number (looked from_table) = refl
commit_number wrote = refl
commit_number committed = refl
commit_number (sent_back v) = refl

back_number : (e : Event) → eqb (event_number e) 10 ≡ is_back e
unfolding event_number
back_number idle = refl
back_number pushed = refl
back_number (summed inside) = refl
back_number forked = refl
back_number begun = refl
back_number (looked from_writes) = refl
back_number (looked from_reads) = refl
back_number (looked from_table) = refl
back_number wrote = refl
back_number committed = refl
back_number (sent_back v) = refl

-- a number that is not the greatest
low_more : (b : Bool) (n : ℕ) → n < 18446744073709551615 → more_to b n ≡ more b n
unfolding more_to
low_more false n l = refl
low_more true n l = saturated_exact n 1 (omega arith) ∙ omega arith

-- the progress after an event that tells of so many sums
advances : (e : Event) (over : ℕ) (p : Progress) → Low p → over < 6000 → shown (advanced_to (event_number e) (event_register e) (turn_number e) over p) ≡ tally.advanced e over (shown p)
unfolding advanced_to events.tally
advances e over p l few =
    let most = l.over in
    rw
    (saturated_exact p.over over (omega arith), fork_number e, idle_number e, commit_number e, back_number e, low_more (is_fork e) p.threads l.threads, low_more (not (is_idle e)) p.steps l.steps, low_more (is_idle e) p.idle l.idle, low_more (is_commit e) p.commits l.commits, low_more (is_back e) p.back l.back)

-- numbers that are an event's
record Numbered (h : Handed) : Type 0 where
  what : Event
  event : h.acted.event ≡ event_number what
  register : h.acted.register ≡ event_register what
  turn : h.acted.turn ≡ turn_number what
  few : h.acted.over < 6000

by_handed : (h : Handed) (a : Acted) → h ≡ handed_as a → a.over < 6000 → Numbered h
unfolding handed_as
by_handed h a e few =
    record {
      what = a.event;
      event = ap (λ (x : Handed). x.acted.event) e;
      register = ap (λ (x : Handed). x.acted.register) e;
      turn = ap (λ (x : Handed). x.acted.turn) e;
      few = subst (λ (n : ℕ). n < 6000) (sym (ap (λ (x : Handed). x.acted.over) e)) few;
    }

-- the progress by the numbers of an event
tells : (event register turn over : ℕ) (e : Event) → event ≡ event_number e → register ≡ event_register e → turn ≡ turn_number e → over < 6000 → (p : Progress) → Low p → shown (advanced_to event register turn over p) ≡ tally.advanced (event_of event register turn) over (shown p)
tells event register turn over e a b c few p l =
    rw (a, b, c) (advances e over p l few ∙ ap (λ (x : Event). tally.advanced x over (shown p)) (sym (event-of e)))

nothing : (p : Progress) → Low p → shown (advanced_to 0 0 0 0 p) ≡ tally.advanced idle 0 (shown p)
unfolding event_number event_register turn_number
nothing p l = advances idle 0 p l (omega arith)

-- the child at its seat
seats : (ts : List Thread) (count event start end : ℕ) → seated_in (child_of event count start end) ts ≡ seated count (children_as event start end) ts
unfolding child_of
seats ts count event start end = go (eqb event 3)
  where
    go : (b : Bool) → seated_in (cond b (std.Some (record { seat = count; start = start; end = end })) std.None) ts ≡ seated count (cond b (record { start = start; end = end } ∷ []) []) ts
    go true = refl
    go false = refl

-- a progress that tells an event
pub record Tells (e : Event) (p : Progress) : Type 0 where
  pub event : p.event ≡ event_number e
  pub register : p.register ≡ event_register e
  pub turn : p.turn ≡ turn_number e

by_numbers : (event register turn : ℕ) (e : Event) → event ≡ event_number e → register ≡ event_register e → turn ≡ turn_number e → event_of event register turn ≡ e
by_numbers event register turn e a b c = rw (a, b, c) (event-of e)

module _ {bytes : List ℕ} {j : Job} (c : IsCode bytes j) where
  numbered : (s : State) → Fits bytes s → Typed s → (i : ℕ) → Numbered (stepped wrapping bytes (table_in s) (thread_at s i))
  numbered s f y i = go (eqb (thread_at s i).start 0) refl (eqb (thread_at s i).place (thread_at s i).end) refl
    where
      idly : (((thread_at s i).start ≡ 0) ⊎ ((thread_at s i).place ≡ (thread_at s i).end)) → Numbered (stepped wrapping bytes (table_in s) (thread_at s i))
      idly w = by_handed _ _ (idle_step c wrapping (table_in s) (thread_at s i) w) (omega arith)

      go : (b : Bool) → eqb (thread_at s i).start 0 ≡ b → (d : Bool) → eqb (thread_at s i).place (thread_at s i).end ≡ d → Numbered (stepped wrapping bytes (table_in s) (thread_at s i))
      go true e d z = idly (inl (eqb-true (thread_at s i).start 0 e))
      go false e true z = idly (inr (eqb-true (thread_at s i).place (thread_at s i).end z))
      go false e false z =
          let ne = eqb-false (thread_at s i).place (thread_at s i).end z in
          let there : exists (thread_at s i) ≡ true = ap not e in
          let d = does_one c wrapping s f y i there ne in
          by_handed _ _ (step_acts c wrapping s f y i there ne d.op d.at_place) (act_low wrapping (table_in s) (thread_at s i) (low_fits c s f y i).over d.op)

  -- a step tells of few sums
  pub few_told : (s : State) → Fits bytes s → Typed s → (i : ℕ) → (stepped wrapping bytes (table_in s) (thread_at s i)).acted.over < 6000
  few_told s f y i = (numbered s f y i).few

  -- a record that is there
  settles : (s : State) → Fits bytes s → Typed s → (i : ℕ) (p : Progress) → Low p → i < 16 → settled_by s i (picked_of (stepped wrapping bytes (table_in s) (thread_at s i)) p) ≡ tally.turned wrapping bytes s (shown p) i
  unfolding tally.turned settle acted_as
  settles s f y i p l q =
      let h : Handed = stepped wrapping bytes (table_in s) (thread_at s i) in
      let n = numbered s f y i in
      let k = step_picks c wrapping s f y p.threads i (subst (λ (m : ℕ). i < m) (sym f.records) q) in
      let a = seats (set s.threads i h.acted.thread) p.threads h.acted.event h.acted.start h.acted.end in
      let b = tells h.acted.event h.acted.register h.acted.turn h.acted.over n.what n.event n.register n.turn n.few p l in
      ap₂ (λ (ts : List Thread) (r : tally.Progress). record { state = record { registers = h.table.registers; counts = h.table.counts; threads = ts }; progress = r }) a b
      ∙ ap (λ (x : Stepped). record { state = x.state; progress = tally.advanced x.event x.over (shown p) }) (sym k)

  -- none
  stays : (s : State) → Fits bytes s → (i : ℕ) (p : Progress) → Low p → 16 ≤ i → settled_by s 0 (picked_of (handed (unacted (thread_at s 0)) (table_in s)) p) ≡ tally.turned wrapping bytes s (shown p) i
  unfolding tally.turned pick_among child_of
  stays s f i p l q =
      let k : pick_among wrapping bytes p.threads s i ≡ record { state = s; event = idle; over = 0 } = rw (pick_among, le-ltb i (length s.threads) (subst (λ (m : ℕ). m ≤ i) (sym f.records) q)) in
      let a : set s.threads 0 (thread_at s 0) ≡ s.threads = set-get_or s.threads 0 blank in
      ap₂ (λ (ts : List Thread) (r : tally.Progress). record { state = record { registers = s.registers; counts = s.counts; threads = ts }; progress = r }) a (nothing p l)
      ∙ ap (λ (x : Stepped). record { state = x.state; progress = tally.advanced x.event x.over (shown p) }) (sym k)

  -- a pick by value, the record put back and a child at its seat, is a turn
  pub perform_turns : (s : State) → Fits bytes s → Typed s → (i : ℕ) (p : Progress) → Low p → settled_by s (which_of i) (picked_by bytes (table_in s) i (thread_at s (which_of i)) p) ≡ tally.turned wrapping bytes s (shown p) i
  unfolding picked_by which_of
  perform_turns s f y i p l = go (ltb i 16) refl
    where
      go : (b : Bool) → ltb i 16 ≡ b → settled_by s (cond (ltb i 16) i 0) (cond (ltb i 16) (picked_of (stepped wrapping bytes (table_in s) (thread_at s (cond (ltb i 16) i 0))) p) (picked_of (handed (unacted (thread_at s (cond (ltb i 16) i 0))) (table_in s)) p)) ≡ tally.turned wrapping bytes s (shown p) i
      go true e = rw e (settles s f y i p l (ltb-true i 16 e))
      go false e = rw e (stays s f i p l (ltb-false i 16 e))

  -- and its numbers are those of the pick's event
  tells_some : (s : State) → Fits bytes s → Typed s → (i : ℕ) (p : Progress) → i < 16 → Tells (pick_among wrapping bytes p.threads s i).event (picked_of (stepped wrapping bytes (table_in s) (thread_at s i)) p).picked.progress
  unfolding settle acted_as advanced_to
  tells_some s f y i p q =
      let n = numbered s f y i in
      let k = step_picks c wrapping s f y p.threads i (subst (λ (m : ℕ). i < m) (sym f.records) q) in
      let h : Handed = stepped wrapping bytes (table_in s) (thread_at s i) in
      let e : (pick_among wrapping bytes p.threads s i).event ≡ n.what =
      ap (λ (x : Stepped). x.event) k ∙ (by_numbers h.acted.event h.acted.register h.acted.turn n.what n.event n.register n.turn)
      in
      record {
        event = n.event ∙ ap event_number (sym e);
        register = n.register ∙ ap event_register (sym e);
        turn = n.turn ∙ ap turn_number (sym e);
      }

  tells_none : (s : State) → Fits bytes s → (i : ℕ) (p : Progress) → 16 ≤ i → Tells (pick_among wrapping bytes p.threads s i).event (picked_of (handed (unacted (thread_at s 0)) (table_in s)) p).picked.progress
  unfolding pick_among advanced_to event_number event_register turn_number
  tells_none s f i p q =
      let e : (pick_among wrapping bytes p.threads s i).event ≡ idle = ap (λ (x : Stepped). x.event) (let k : pick_among wrapping bytes p.threads s i ≡ record { state = s; event = idle; over = 0 } = rw (pick_among, le-ltb i (length s.threads) (subst (λ (m : ℕ). m ≤ i) (sym f.records) q)) in k) in
      record { event = ap event_number (sym e); register = ap event_register (sym e); turn = ap turn_number (sym e) }

  pub perform_tells : (s : State) → Fits bytes s → Typed s → (i : ℕ) (p : Progress) → Tells (pick_among wrapping bytes p.threads s i).event (picked_by bytes (table_in s) i (thread_at s (which_of i)) p).picked.progress
  unfolding picked_by which_of
  perform_tells s f y i p = go (ltb i 16) refl
    where
      go : (b : Bool) → ltb i 16 ≡ b → Tells (pick_among wrapping bytes p.threads s i).event (cond (ltb i 16) (picked_of (stepped wrapping bytes (table_in s) (thread_at s (cond (ltb i 16) i 0))) p) (picked_of (handed (unacted (thread_at s (cond (ltb i 16) i 0))) (table_in s)) p)).picked.progress
      go true e = rw e (tells_some s f y i p (ltb-true i 16 e))
      go false e = rw e (tells_none s f i p (ltb-false i 16 e))
