-- Document 02 No. 4: the rule that a pick used, and what it makes of each record's last rule and number of send-backs. Assumes nothing.
use Prim.Native.Nat.{ℕ, zero, suc, ◌+◌, ◌≤◌, ◌<◌}
use mathlib.Core.Bool.{Bool, true, false, cond, ◌&&◌}
use mathlib.Core.Path.{◌≡◌, refl, sym, ap, subst, ◌∙◌}
use mathlib.Core.List.{List, [], ◌∷◌}
use mathlib.Core.Option.{Option, none, some}
use native.Mathlib.Decide.{dec_lt}
use native.Mathlib.Omega.{arith}
use borrow.Author.Tests.{eqb-true, eqb-false}
use lib.Dec.{eqb, ltb}
use lib.IntN.{ℤ}
use lib.ListN.{length, get_or, set, length-set, get_or-eq_default}
use lib.Seq.{get_or-set_same, get_or-set_other}
use Rattle.stm.specs.Counted.{Table}
use Rattle.code.specs.Bytes.{IsCode}
use Rattle.code.specs.Ops.{Op}
use Rattle.code.specs.Ops as code
use Rattle.machine.specs.Answers.{backs_of}
use Rattle.machine.specs.Fits.{CommitsPassed, Exists, Fits, Typed}
use Rattle.machine.specs.Steps.{State, Stepped, Acted, Child, thread_at, number_of, committing, commit, perform, act, seated, settle, instruction, pick, run, table_in}
use Rattle.machine.proofs.Agrees.{outer, does_one, step_fits}
use Rattle.machine.proofs.Runs.{mirror, pick_keeps}
use Rattle.machine.proofs.Numbers.{exists_below, in_table}
use Rattle.machine.proofs.Picks.{missing_idle, ended_idle}
use Rattle.script.specs.Jobs.{Job}
use Rattle.stm.specs.Events.{Source, from_writes, from_reads, from_table, Event, idle, pushed, summed, forked, begun, looked, wrote, committed, sent_back, is_commit, is_back, Happened, backs, more, counts_of, tally}
use Rattle.stm.specs.Rules.{MachineRule, sent_back_with, read_rule, used_by, held, rule_after, backs_after, lastly, last_rule}
use Rattle.thread.specs.declared.Thread.{Thread}
use Rattle.thread.specs.Threads.{blank, exists, spawned, push, add, begin, source_of, read_from, noted, read, write, closed, first_stale}
use Rattle.word.specs.Sum.{Rule}

-- ---- events by their rules
never_some : {A : Type 0} {m : MachineRule} → ◌≡◌ {A = Option MachineRule} none (some m) → A
never_some e = absurd (let z : ◌≡◌ {A = ℕ} 0 1 = cc in omega arith)

same_rule : {a b : MachineRule} → ◌≡◌ {A = Option MachineRule} (some a) (some b) → a ≡ b
same_rule e = cc

-- a send-back's rule is of no other event, nor is a READ's
pub back_used : (e : Event) (v : ℕ) → used_by e ≡ some (sent_back_with v) → e ≡ sent_back v
unfolding used_by
back_used idle v q = never_some q
back_used pushed v q = absurd (let z : ◌≡◌ {A = ℕ} 0 1 = cc in omega arith)
back_used (summed inside) v q = absurd (let z : ◌≡◌ {A = ℕ} 0 1 = cc in omega arith)
back_used forked v q = absurd (let z : ◌≡◌ {A = ℕ} 0 1 = cc in omega arith)
back_used begun v q = absurd (let z : ◌≡◌ {A = ℕ} 0 1 = cc in omega arith)
back_used (looked from_writes) v q = absurd (let z : ◌≡◌ {A = ℕ} 0 1 = cc in omega arith)
back_used (looked from_reads) v q = absurd (let z : ◌≡◌ {A = ℕ} 0 1 = cc in omega arith)
back_used (looked from_table) v q = absurd (let z : ◌≡◌ {A = ℕ} 0 1 = cc in omega arith)
back_used wrote v q = absurd (let z : ◌≡◌ {A = ℕ} 0 1 = cc in omega arith)
back_used committed v q = absurd (let z : ◌≡◌ {A = ℕ} 0 1 = cc in omega arith)
back_used (sent_back u) v q = ap sent_back (let z : u ≡ v = cc in z)

pub read_used : (e : Event) (from : Source) → used_by e ≡ some (read_rule from) → e ≡ looked from
unfolding used_by
read_used (looked from_writes) from_writes q = refl
read_used (looked from_reads) from_reads q = refl
read_used (looked from_table) from_table q = refl
read_used idle from_writes q = never_some q
read_used idle from_reads q = never_some q
read_used idle from_table q = never_some q
read_used pushed from_writes q = absurd (let z : ◌≡◌ {A = ℕ} 0 1 = cc in omega arith)
read_used pushed from_reads q = absurd (let z : ◌≡◌ {A = ℕ} 0 1 = cc in omega arith)
read_used pushed from_table q = absurd (let z : ◌≡◌ {A = ℕ} 0 1 = cc in omega arith)
read_used (summed inside) from_writes q = absurd (let z : ◌≡◌ {A = ℕ} 0 1 = cc in omega arith)
read_used (summed inside) from_reads q = absurd (let z : ◌≡◌ {A = ℕ} 0 1 = cc in omega arith)
read_used (summed inside) from_table q = absurd (let z : ◌≡◌ {A = ℕ} 0 1 = cc in omega arith)
read_used forked from_writes q = absurd (let z : ◌≡◌ {A = ℕ} 0 1 = cc in omega arith)
read_used forked from_reads q = absurd (let z : ◌≡◌ {A = ℕ} 0 1 = cc in omega arith)
read_used forked from_table q = absurd (let z : ◌≡◌ {A = ℕ} 0 1 = cc in omega arith)
read_used begun from_writes q = absurd (let z : ◌≡◌ {A = ℕ} 0 1 = cc in omega arith)
read_used begun from_reads q = absurd (let z : ◌≡◌ {A = ℕ} 0 1 = cc in omega arith)
read_used begun from_table q = absurd (let z : ◌≡◌ {A = ℕ} 0 1 = cc in omega arith)
read_used (looked from_writes) from_reads q = absurd (let z : ◌≡◌ {A = ℕ} 0 1 = cc in omega arith)
read_used (looked from_writes) from_table q = absurd (let z : ◌≡◌ {A = ℕ} 0 1 = cc in omega arith)
read_used (looked from_reads) from_writes q = absurd (let z : ◌≡◌ {A = ℕ} 0 1 = cc in omega arith)
read_used (looked from_reads) from_table q = absurd (let z : ◌≡◌ {A = ℕ} 0 1 = cc in omega arith)
read_used (looked from_table) from_writes q = absurd (let z : ◌≡◌ {A = ℕ} 0 1 = cc in omega arith)
read_used (looked from_table) from_reads q = absurd (let z : ◌≡◌ {A = ℕ} 0 1 = cc in omega arith)
read_used wrote from_writes q = absurd (let z : ◌≡◌ {A = ℕ} 0 1 = cc in omega arith)
read_used wrote from_reads q = absurd (let z : ◌≡◌ {A = ℕ} 0 1 = cc in omega arith)
read_used wrote from_table q = absurd (let z : ◌≡◌ {A = ℕ} 0 1 = cc in omega arith)
read_used committed from_writes q = absurd (let z : ◌≡◌ {A = ℕ} 0 1 = cc in omega arith)
read_used committed from_reads q = absurd (let z : ◌≡◌ {A = ℕ} 0 1 = cc in omega arith)
read_used committed from_table q = absurd (let z : ◌≡◌ {A = ℕ} 0 1 = cc in omega arith)
read_used (sent_back v) from_writes q = absurd (let z : ◌≡◌ {A = ℕ} 0 1 = cc in omega arith)
read_used (sent_back v) from_reads q = absurd (let z : ◌≡◌ {A = ℕ} 0 1 = cc in omega arith)
read_used (sent_back v) from_table q = absurd (let z : ◌≡◌ {A = ℕ} 0 1 = cc in omega arith)

-- ---- one instruction leaves both as they were, and then the rule is held
record Leaves (t u : Thread) : Type 0 where
  rule : u.rule ≡ t.rule
  backs : u.backs ≡ t.backs

perform_leaves : (sum : Rule) (table : Table) (t : Thread) (op : Op) → Leaves t (perform sum table t op).thread
unfolding perform commit push add begin read write closed
perform_leaves sum table t (code.push n) = record { rule = refl; backs = refl }
perform_leaves sum table t code.add = record { rule = refl; backs = refl }
perform_leaves sum table t (code.fork size) = record { rule = refl; backs = refl }
perform_leaves sum table t code.begin = record { rule = refl; backs = refl }
perform_leaves sum table t (code.read v) = go (source_of t v) (read_from (source_of t v) table.registers t v) (get_or table.counts v 0)
  where
    go : (from : Source) (n : ℤ) (k : ℕ) → Leaves t (push n (t.place + 2) (noted from v n k t))
    go from_writes n k = record { rule = refl; backs = refl }
    go from_reads n k = record { rule = refl; backs = refl }
    go from_table n k = record { rule = refl; backs = refl }
perform_leaves sum table t (code.write v) = record { rule = refl; backs = refl }
perform_leaves sum table t code.commit = go (ltb (first_stale 64 0 t table) 64)
  where
    go : (b : Bool) → Leaves t (committing b table t (first_stale 64 0 t table)).thread
    go true = record { rule = refl; backs = refl }
    go false = record { rule = refl; backs = refl }

-- what a pick with this event makes of a thread's two numbers
record Marked (e : Event) (t u : Thread) : Type 0 where
  rule : u.rule ≡ rule_after e t.rule
  backs : u.backs ≡ backs_after e t.backs

act_marks : (sum : Rule) (table : Table) (t : Thread) (op : Op) → Marked (act sum table t op).event t (act sum table t op).thread
unfolding act
act_marks sum table t op =
    let l = perform_leaves sum table t op in
    record { rule = ap (rule_after (perform sum table t op).event) l.rule; backs = ap (backs_after (perform sum table t op).event) l.backs }

idle_marks : (t : Thread) → Marked idle t t
unfolding rule_after backs_after used_by
idle_marks t = record { rule = refl; backs = refl }

-- ---- a child's record holds 0 of both, as the record before it did
record None (t : Thread) : Type 0 where
  rule : t.rule ≡ 0
  backs : t.backs ≡ 0

none_blank : None blank
unfolding blank
none_blank = record { rule = refl; backs = refl }

none_spawned : (a b : ℕ) → None (spawned a b)
unfolding spawned
none_spawned a b = record { rule = refl; backs = refl }

-- record k after one more record is set: that one, or as it was
one_set : (P : Thread → Type 0) (ts : List Thread) (n : ℕ) (x : Thread) (k : ℕ) → (k ≡ n → P x) → P (get_or ts k blank) → P (get_or (set ts n x) k blank)
one_set P ts n x k f p = go (eqb k n) refl (dec_lt n (length ts))
  where
    go : (b : Bool) → eqb k n ≡ b → Dec (n < length ts) → P (get_or (set ts n x) k blank)
    go true e (yes l) =
        let q = eqb-true k n e in
        subst P (sym (ap (λ (m : ℕ). get_or (set ts n x) m blank) q ∙ get_or-set_same ts n x blank l)) (f q)
    go true e (no l) =
        let q = eqb-true k n e in
        subst P (sym (get_or-eq_default (set ts n x) blank {n = k} (let m = length-set ts n x in omega arith) ∙ sym (get_or-eq_default ts blank {n = k} (omega arith)))) p
    go false e d = subst P (sym (get_or-set_other ts n k x blank (eqb-false k n e))) p

-- both numbers of record k are as in u
record Same (u t : Thread) : Type 0 where
  rule : t.rule ≡ u.rule
  backs : t.backs ≡ u.backs

same_none : (u t : Thread) → None u → None t → Same u t
same_none u t a b = record { rule = b.rule ∙ sym a.rule; backs = b.backs ∙ sym a.backs }

seated_same : (n : ℕ) (cs : List Child) (ts : List Thread) → ((k : ℕ) → n ≤ k → None (get_or ts k blank)) → (k : ℕ) → Same (get_or ts k blank) (get_or (seated n cs ts) k blank)
seated_same n [] ts f k = record { rule = refl; backs = refl }
seated_same n (c ∷ cs) ts f k =
    let here : Same (get_or ts k blank) (get_or (set ts n (spawned c.start c.end)) k blank) = one_set (Same (get_or ts k blank)) ts n (spawned c.start c.end) k (λ q. same_none (get_or ts k blank) (spawned c.start c.end) (f k (omega arith)) (none_spawned c.start c.end)) (record { rule = refl; backs = refl }) in
    let rest = seated_same (suc n) cs (set ts n (spawned c.start c.end)) (λ m l. one_set None ts n (spawned c.start c.end) m (λ q. none_spawned c.start c.end) (f m (omega arith))) k in
    record { rule = rest.rule ∙ here.rule; backs = rest.backs ∙ here.backs }

-- ---- the send-backs of all records
sum_set : (ts : List Thread) (i : ℕ) (t : Thread) → i < length ts → backs_of (set ts i t) + (get_or ts i blank).backs ≡ backs_of ts + t.backs
unfolding backs_of
sum_set [] i t l = absurd (omega arith)
sum_set (u ∷ us) zero t l = let a : t.backs + backs_of us + u.backs ≡ u.backs + backs_of us + t.backs = omega arith in a
sum_set (u ∷ us) (suc i) t l =
    let a = sum_set us i t (omega arith) in
    let b : u.backs + backs_of (set us i t) + (get_or us i blank).backs ≡ u.backs + backs_of us + t.backs = omega arith in
    b

sum_none : (ts : List Thread) (n : ℕ) (t : Thread) → None (get_or ts n blank) → None t → backs_of (set ts n t) ≡ backs_of ts
sum_none ts n t a b = go (dec_lt n (length ts))
  where
    go : Dec (n < length ts) → backs_of (set ts n t) ≡ backs_of ts
    go (yes l) = let x = sum_set ts n t l in let y = a.backs in let z = b.backs in omega arith
    go (no l) = ap backs_of (past ts n t (omega arith))
      where
        past : (ts : List Thread) (n : ℕ) (t : Thread) → length ts ≤ n → set ts n t ≡ ts
        past [] n t l = refl
        past (u ∷ us) zero t l = absurd (omega arith)
        past (u ∷ us) (suc n) t l = ap (λ (r : List Thread). u ∷ r) (past us n t (omega arith))

seated_sum : (n : ℕ) (cs : List Child) (ts : List Thread) → ((k : ℕ) → n ≤ k → None (get_or ts k blank)) → backs_of (seated n cs ts) ≡ backs_of ts
seated_sum n [] ts f = refl
seated_sum n (c ∷ cs) ts f =
    seated_sum (suc n) cs (set ts n (spawned c.start c.end)) (λ m l. one_set None ts n (spawned c.start c.end) m (λ q. none_spawned c.start c.end) (f m (omega arith)))
    ∙ sum_none ts n (spawned c.start c.end) (f n (omega arith)) (none_spawned c.start c.end)

-- ---- a pick, of a state that fits
-- both numbers of record k, and the send-backs of all records, after a pick of thread i
pub record After (s : State) (i : ℕ) (r : Stepped) : Type 0 where
  pub rule : (k : ℕ) → (thread_at r.state k).rule ≡ cond (eqb i k) (rule_after r.event (thread_at s k).rule) (thread_at s k).rule
  pub backs : (k : ℕ) → (thread_at r.state k).backs ≡ cond (eqb i k) (backs_after r.event (thread_at s k).backs) (thread_at s k).backs
  pub all : backs_of r.state.threads ≡ more (is_back r.event) (backs_of s.threads)

stands : (s : State) (i : ℕ) → After s i (record { state = s; event = idle; over = 0 })
unfolding rule_after backs_after used_by
stands s i = record { rule = λ k. same (eqb i k) (thread_at s k).rule; backs = λ k. same (eqb i k) (thread_at s k).backs; all = refl }
  where
    same : (b : Bool) (n : ℕ) → n ≡ cond b n n
    same true n = refl
    same false n = refl

module _ {bytes : List ℕ} {j : Job} (c : IsCode bytes j) (sum : Rule) where
  module _ (s : State) (f : Fits bytes s) (y : Typed s) (i : ℕ) where
    abbrev n : ℕ
    n = number_of s.threads

    moved : Exists s i → (op : Op) → After s i (instruction sum s i (thread_at s i) op)
    unfolding settle backs_after
    moved e op =
        record {
          rule = λ k. (seat k).rule ∙ own_rule k (eqb i k) refl;
          backs = λ k. (seat k).backs ∙ own_backs k (eqb i k) refl;
          all = seated_sum n a.children ts free ∙ one_more (is_back a.event) refl;
        }
      where
        a : Acted
        a = act sum (table_in s) (thread_at s i) op

        ts : List Thread
        ts = set s.threads i a.thread

        below : i < n
        below = exists_below s f.no_gap i e

        none_above : (k : ℕ) → n ≤ k → None (thread_at s k)
        none_above k l = go (exists (thread_at s k)) refl
          where
            go : (b : Bool) → exists (thread_at s k) ≡ b → None (thread_at s k)
            go true x = absurd (let m = exists_below s f.no_gap k x in omega arith)
            go false x = subst None (sym (f.no_thread k x)) none_blank

        free : (k : ℕ) → n ≤ k → None (get_or ts k blank)
        free k l = subst None (sym (get_or-set_other s.threads i k a.thread blank (λ q. let m = below in absurd (omega arith)))) (none_above k l)

        seat : (k : ℕ) → Same (get_or ts k blank) (get_or (seated n a.children ts) k blank)
        seat k = seated_same n a.children ts free k

        marks : Marked a.event (thread_at s i) a.thread
        marks = act_marks sum (table_in s) (thread_at s i) op

        mine : (k : ℕ) → eqb i k ≡ true → get_or ts k blank ≡ a.thread
        mine k q = ap (λ (m : ℕ). get_or ts m blank) (sym (eqb-true i k q)) ∙ get_or-set_same s.threads i a.thread blank (in_table s i e)

        other : (k : ℕ) → eqb i k ≡ false → get_or ts k blank ≡ thread_at s k
        other k q = get_or-set_other s.threads i k a.thread blank (λ z. eqb-false i k q (sym z))

        own_rule : (k : ℕ) (b : Bool) → eqb i k ≡ b → (get_or ts k blank).rule ≡ cond b (rule_after a.event (thread_at s k).rule) (thread_at s k).rule
        own_rule k true q = ap (λ (t : Thread). t.rule) (mine k q) ∙ (marks.rule ∙ ap (λ (m : ℕ). rule_after a.event (thread_at s m).rule) (eqb-true i k q))
        own_rule k false q = ap (λ (t : Thread). t.rule) (other k q)

        own_backs : (k : ℕ) (b : Bool) → eqb i k ≡ b → (get_or ts k blank).backs ≡ cond b (backs_after a.event (thread_at s k).backs) (thread_at s k).backs
        own_backs k true q = ap (λ (t : Thread). t.backs) (mine k q) ∙ (marks.backs ∙ ap (λ (m : ℕ). backs_after a.event (thread_at s m).backs) (eqb-true i k q))
        own_backs k false q = ap (λ (t : Thread). t.backs) (other k q)

        one_more : (b : Bool) → is_back a.event ≡ b → backs_of ts ≡ more b (backs_of s.threads)
        one_more b q =
            let x = sum_set s.threads i a.thread (in_table s i e) in
            let m : a.thread.backs ≡ more b (thread_at s i).backs = marks.backs ∙ counted b q in
            go b m x
          where
            counted : (b : Bool) → is_back a.event ≡ b → backs_after a.event (thread_at s i).backs ≡ more b (thread_at s i).backs
            counted b q = ap (λ (z : Bool). more z (thread_at s i).backs) q

            go : (b : Bool) → a.thread.backs ≡ more b (thread_at s i).backs → backs_of ts + (thread_at s i).backs ≡ backs_of s.threads + a.thread.backs → backs_of ts ≡ more b (backs_of s.threads)
            go true m x = omega arith
            go false m x = omega arith

    pub pick_marks : After s i (pick sum bytes s i)
    pick_marks = go (exists (thread_at s i)) refl (eqb (thread_at s i).place (thread_at s i).end) refl
      where
        go : (b : Bool) → exists (thread_at s i) ≡ b → (d : Bool) → eqb (thread_at s i).place (thread_at s i).end ≡ d → After s i (pick sum bytes s i)
        go false e d z = subst (After s i) (sym (missing_idle sum bytes n s i e)) (stands s i)
        go true e true z = subst (After s i) (sym (ended_idle sum bytes n s i (eqb-true (thread_at s i).place (thread_at s i).end z))) (stands s i)
        go true e false z =
            let o = does_one c sum s f y i e (eqb-false (thread_at s i).place (thread_at s i).end z) in
            subst (After s i) (sym o.does) (moved e o.op)

  -- ---- a run
  held_lastly : (later earlier : Option MachineRule) (rule : ℕ) → held later (held earlier rule) ≡ held (lastly later earlier) rule
  held_lastly none earlier rule = refl
  held_lastly (some r) earlier rule = refl

  pub run_rule : (s : State) → Fits bytes s → Typed s → (is : List ℕ) (k : ℕ) → (thread_at (run sum bytes s is).state k).rule ≡ held (last_rule k (run sum bytes s is).events) (thread_at s k).rule
  unfolding run last_rule rule_after
  run_rule s f y [] k = refl
  run_rule s f y (i ∷ is) k =
      let m = step_fits c sum s f y i in
      run_rule (pick sum bytes s i).state m.0 m.1 is k
      ∙ (ap (held (last_rule k rest)) ((pick_marks s f y i).rule k ∙ own (eqb i k) (used_by (pick sum bytes s i).event))
      ∙ held_lastly (last_rule k rest) (cond (eqb i k) (used_by (pick sum bytes s i).event) none) (thread_at s k).rule)
    where
      rest : List Happened
      rest = (run sum bytes (pick sum bytes s i).state is).events

      own : (b : Bool) (o : Option MachineRule) → cond b (held o (thread_at s k).rule) (thread_at s k).rule ≡ held (cond b o none) (thread_at s k).rule
      own true o = refl
      own false o = refl

  pub run_backs : (s : State) → Fits bytes s → Typed s → (is : List ℕ) (k : ℕ) → (thread_at (run sum bytes s is).state k).backs ≡ backs k (run sum bytes s is).events + (thread_at s k).backs
  unfolding run backs backs_after
  run_backs s f y [] k = omega arith
  run_backs s f y (i ∷ is) k =
      let m = step_fits c sum s f y i in
      let a = run_backs (pick sum bytes s i).state m.0 m.1 is k in
      a ∙ (ap (λ (n : ℕ). backs k rest + n) ((pick_marks s f y i).backs k) ∙ one (eqb i k) (is_back (pick sum bytes s i).event) (backs k rest) (thread_at s k).backs)
    where
      rest : List Happened
      rest = (run sum bytes (pick sum bytes s i).state is).events

      one : (b d : Bool) (m n : ℕ) → m + cond b (more d n) n ≡ cond (b && d) (suc m) m + n
      one true true m n = omega arith
      one true false m n = refl
      one false d m n = refl

  pub run_sum : (s : State) → Fits bytes s → Typed s → (is : List ℕ) → backs_of (run sum bytes s is).state.threads ≡ (counts_of (run sum bytes s is).events).back + backs_of s.threads
  unfolding run counts_of tally
  run_sum s f y [] = omega arith
  run_sum s f y (i ∷ is) =
      let m = step_fits c sum s f y i in
      let a = run_sum (pick sum bytes s i).state m.0 m.1 is in
      a ∙ (ap (λ (n : ℕ). (counts_of rest).back + n) (pick_marks s f y i).all ∙ one (is_back (pick sum bytes s i).event) (counts_of rest).back (backs_of s.threads))
    where
      rest : List Happened
      rest = (run sum bytes (pick sum bytes s i).state is).events

      one : (d : Bool) (m n : ℕ) → m + more d n ≡ more d m + n
      one true m n = omega arith
      one false m n = refl

  -- ---- the COMMITs passed: one more by each that takes effect
  pub pick_passes : (s : State) → Fits bytes s → Typed s → (i n : ℕ) → CommitsPassed bytes s.threads n → CommitsPassed bytes (pick sum bytes s i).state.threads (more (is_commit (pick sum bytes s i).event) n)
  pick_passes s f y i n p =
      let m = mirror c (outer c) s f y in
      (pick_keeps c (outer c) sum s m.0 f y m.1 i).passed n p

  pub run_passes : (s : State) → Fits bytes s → Typed s → (is : List ℕ) (n : ℕ) → CommitsPassed bytes s.threads n → CommitsPassed bytes (run sum bytes s is).state.threads ((counts_of (run sum bytes s is).events).commits + n)
  unfolding run counts_of tally
  run_passes s f y [] n p = subst (CommitsPassed bytes s.threads) (let z : n ≡ 0 + n = omega arith in z) p
  run_passes s f y (i ∷ is) n p =
      let m = step_fits c sum s f y i in
      subst (CommitsPassed bytes (run sum bytes (pick sum bytes s i).state is).state.threads) (one (is_commit (pick sum bytes s i).event) (counts_of rest).commits n)
      (run_passes (pick sum bytes s i).state m.0 m.1 is (more (is_commit (pick sum bytes s i).event) n) (pick_passes s f y i n p))
    where
      rest : List Happened
      rest = (run sum bytes (pick sum bytes s i).state is).events

      one : (d : Bool) (m n : ℕ) → m + more d n ≡ more d m + n
      one true m n = omega arith
      one false m n = refl

-- ---- "or idle": no rule is used exactly where nothing is done
pub none_used : (e : Event) → used_by e ≡ none → e ≡ idle
unfolding used_by
none_used idle q = refl
none_used pushed q = absurd (let z : ◌≡◌ {A = ℕ} 0 1 = cc in omega arith)
none_used (summed inside) q = absurd (let z : ◌≡◌ {A = ℕ} 0 1 = cc in omega arith)
none_used forked q = absurd (let z : ◌≡◌ {A = ℕ} 0 1 = cc in omega arith)
none_used begun q = absurd (let z : ◌≡◌ {A = ℕ} 0 1 = cc in omega arith)
none_used (looked from_writes) q = absurd (let z : ◌≡◌ {A = ℕ} 0 1 = cc in omega arith)
none_used (looked from_reads) q = absurd (let z : ◌≡◌ {A = ℕ} 0 1 = cc in omega arith)
none_used (looked from_table) q = absurd (let z : ◌≡◌ {A = ℕ} 0 1 = cc in omega arith)
none_used wrote q = absurd (let z : ◌≡◌ {A = ℕ} 0 1 = cc in omega arith)
none_used committed q = absurd (let z : ◌≡◌ {A = ℕ} 0 1 = cc in omega arith)
none_used (sent_back v) q = absurd (let z : ◌≡◌ {A = ℕ} 0 1 = cc in omega arith)
