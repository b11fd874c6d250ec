-- The by-value step of a record is `act` in a state that fits, and picks go through it. Assumes nothing.
use Prim.Native.Nat.{ℕ, zero, suc, ◌+◌, ◌-◌, ◌≤◌, ◌<◌}
use mathlib.Core.Bool.{Bool, true, false, cond, not}
use mathlib.Core.Logic.{◌⊎◌, inl, inr}
use mathlib.Core.Path.{◌≡◌, refl, sym, ap, subst, ◌∙◌}
use mathlib.Core.List.{List, ◌++◌}
use native.Mathlib.Omega.{arith}
use borrow.Author.Tests.{le-ltb, lt-ltb, le-leb, eq-eqb, ne_eqb, eqb-true, eqb-false}
use lib.Dec.{eqb, ltb}
use lib.IntN.{ℤ}
use lib.ListN.{length, drop, get_or, set, length-append}
use lib.Seq.{set-get_or, get_or-set_other}
use Rattle.stm.specs.Counted.{Table}
use Rattle.code.specs.Compile.{Instruction, Code, PUSH, ADD, READ, WRITE, BEGIN, COMMIT, FORK, ε, ◌⨾◌}
use Rattle.code.specs.Bytes.{instruction_bytes, instructions_bytes, IsCode}
use Rattle.code.specs.InnerHeights.{Takes}
use Rattle.code.specs.Ops.{Op, op_at}
use Rattle.code.specs.Ops as code
use Rattle.ops.specs.Shown.{show_op, shown_op}
use Rattle.script.specs.Bytes.{bytes16, bytes32}
use Rattle.script.specs.Jobs.{Job}
use Rattle.script.specs.Outcome.{Outcome, done}
use Rattle.thread.specs.declared.Thread.{Thread}
use Rattle.thread.specs.Threads.{exists, blank, with_rule, below, sum_told, adding, push, add, begin, read, write, closed, source_of, first_stale, overlaid, recounted}
use Rattle.thread.specs.InnerStep.{rule_at, enough_for, takes_op, source_number, outside_turn, Numbered, Handed, handed, unacted, acting, note_after, over_at_once, summing, committed, committed_by, performed, attempted, stepped, recounted_in, risen_by, sized_by, table_from}
use Rattle.machine.specs.Steps.{State, Acted, alters, committing, commit, ruled, act, perform, settle, thread_at, pick_among, DoesOne, table_in}
use Rattle.machine.specs.Fits.{Exists, Fits, Typed}
use Rattle.machine.specs.InnerStands.{register_cells, op_of, Ready}
use Rattle.machine.specs.InnerTurn.{children_as, acted_as, handed_as}
use Rattle.machine.specs.Stands.{Stands, ValuedI, ValuedC}
use Rattle.machine.proofs.Codes.{stands_end, ready_op, ready_takes}
use Rattle.machine.proofs.Mirrors.{no_inside}
use Rattle.machine.proofs.Picks.{missing_idle, ended_idle, does}
use Rattle.machine.proofs.Regions.{held}
use Rattle.machine.proofs.Simulates.{Held}
use Rattle.machine.proofs.Walking.{same_op}
use Rattle.machine.proofs.Shapes.{Shape, out, open' as shape-open, shape}
use Rattle.machine.proofs.Runs.{shows_of}
use Rattle.machine.proofs.Showings.{Shows, shut, open'}
use Rattle.machine.proofs.Ranges.{low_fits, counts_low}
use Rattle.machine.proofs.Agrees.{outer, does_one}
use Rattle.stm.specs.Events.{from_writes, from_reads, from_table, looked, idle, summed, event_number, event_register, turn_number, event_of}
use Rattle.stm.specs.Rules.{used_by, rule_number, rule_after, backs_after}
use Rattle.stm.specs.InnerTasks.{Task}
use Rattle.word.specs.InnerCount.{saturated}
use Rattle.word.specs.Registers.{member}
use Rattle.word.specs.Sum.{Rule, overflows, added}
use Rattle.word.proofs.Counting.{saturated_exact}

-- ---- a record has what its instruction takes
enough_yes : (low h high size left : ℕ) → low ≤ h → h ≤ high → size ≤ left → enough_for low h high size left ≡ true
unfolding enough_for
enough_yes low h high size left a b c = rw (le-ltb h low a, le-ltb high h b, le-leb size left c)

-- the bytes of an instruction stand behind its place
own_bytes : (bytes : List ℕ) (place end : ℕ) (i : Instruction) (c : Code) → Stands bytes place end (i ⨾ c) → length (instruction_bytes i) ≤ length bytes - place
unfolding instructions_bytes
own_bytes bytes place end i c s =
    let a : length bytes ≡ length s.front + length (instructions_bytes (i ⨾ c) ++ s.rest) = ap length s.text ∙ length-append s.front (instructions_bytes (i ⨾ c) ++ s.rest) in
    let b : length (instructions_bytes (i ⨾ c) ++ s.rest) ≡ length (instruction_bytes i ++ instructions_bytes c) + length s.rest = length-append (instruction_bytes i ++ instructions_bytes c) s.rest in
    let d = length-append (instruction_bytes i) (instructions_bytes c) in
    let f = s.from in
    omega arith

fork-bytes : (k : Code) → length (instruction_bytes (FORK k)) ≡ 3 + length (instructions_bytes k)
unfolding instruction_bytes bytes16
fork-bytes k = omega arith

push-bytes : (n : ℤ) → length (instruction_bytes (PUSH n)) ≡ 5
unfolding instruction_bytes bytes32
push-bytes n = refl

-- in code that is there to be run
ready_able : {bytes : List ℕ} {place end h : ℕ} (i : Instruction) {c : Code} (base : ℕ) → base ≤ 64 → Ready bytes place end (i ⨾ c) h → takes_op (show_op (op_of i)) h base 64 (length bytes - place) ≡ true
unfolding takes_op Takes ValuedC ValuedI instruction_bytes
ready_able {bytes} {place} {end} {h} (PUSH n) {c} base b r =
    let l = own_bytes bytes place end (PUSH n) c r.stands in
    let s = push-bytes n in
    let t : suc h ≤ 64 = ready_takes r in
    enough_yes 0 h 63 5 (length bytes - place) (omega arith) (omega arith) (omega arith)
ready_able {bytes} {place} {end} {h} ADD {c} base b r =
    let l = own_bytes bytes place end ADD c r.stands in
    enough_yes 2 h 64 1 (length bytes - place) (ready_takes r) r.low (omega arith)
ready_able {bytes} {place} {end} {h} (READ v) {c} base b r =
    let l = own_bytes bytes place end (READ v) c r.stands in
    let t : suc h ≤ 64 = ready_takes r in
    let w : v < 64 = r.valued.0 in
    rw (le-ltb 63 v (omega arith)) (enough_yes 0 h 63 2 (length bytes - place) (omega arith) (omega arith) (omega arith))
ready_able {bytes} {place} {end} {h} (WRITE v) {c} base b r =
    let l = own_bytes bytes place end (WRITE v) c r.stands in
    let w : v < 64 = r.valued.0 in
    rw (le-ltb 63 v (omega arith)) (enough_yes 1 h 64 2 (length bytes - place) (ready_takes r) r.low (omega arith))
ready_able {bytes} {place} {end} {h} BEGIN {c} base b r =
    let l = own_bytes bytes place end BEGIN c r.stands in
    enough_yes 0 h 64 1 (length bytes - place) (omega arith) r.low (omega arith)
ready_able {bytes} {place} {end} {h} COMMIT {c} base b r =
    let l = own_bytes bytes place end COMMIT c r.stands in
    rw (le-ltb 64 base b) (enough_yes 0 h 64 1 (length bytes - place) (omega arith) r.low (omega arith))
ready_able {bytes} {place} {end} {h} (FORK k) {c} base b r =
    let l = own_bytes bytes place end (FORK k) c r.stands in
    let s = fork-bytes k in
    let t : suc h ≤ 64 = (ready_takes r).0 in
    rw (le-ltb (length bytes - place) 3 (omega arith)) (enough_yes 0 h 63 (length (instructions_bytes k)) (length bytes - place - 3) (omega arith) (omega arith) (omega arith))

-- ---- counts that are raised by one
risen_exact : (n : ℕ) → n < 4294967295 → risen_by n ≡ suc n
unfolding risen_by
risen_exact n l = rw (lt-ltb n 4294967295 l) (omega arith)

recounted_same : (left v : ℕ) (t : Thread) (ns : List ℕ) → ((u : ℕ) → v ≤ u → get_or ns u 0 < 4294967295) → recounted_in left v t.writes ns ≡ recounted left v t ns
unfolding recounted_in recounted
recounted_same zero v t ns f = refl
recounted_same (suc left) v t ns f = go (member t.writes v) (λ ns' g. recounted_same left (suc v) t ns' g)
  where
    raised : risen_by (get_or ns v 0) ≡ suc (get_or ns v 0)
    raised = one (get_or ns v 0) (f v (omega arith))
      where
        one : (n : ℕ) → n < 4294967295 → risen_by n ≡ suc n
        one n l = risen_exact n l

    go : (b : Bool) → ((ns' : List ℕ) → ((u : ℕ) → suc v ≤ u → get_or ns' u 0 < 4294967295) → recounted_in left (suc v) t.writes ns' ≡ recounted left (suc v) t ns') → recounted_in left (suc v) t.writes (cond b (set ns v (risen_by (get_or ns v 0))) ns) ≡ recounted left (suc v) t (cond b (set ns v (suc (get_or ns v 0))) ns)
    go true rec = ap (λ (n : ℕ). recounted_in left (suc v) t.writes (set ns v n)) raised ∙ rec (set ns v (suc (get_or ns v 0))) (λ u l. subst (λ (n : ℕ). n < 4294967295) (sym (get_or-set_other ns v u (suc (get_or ns v 0)) 0 (λ e. absurd (omega arith)))) (f u (omega arith)))
    go false rec = rec ns (λ u l. f u (omega arith))

-- ---- what is done then is what the instruction does
module _ (sum : Rule) (table : Table) (t : Thread) where
  -- the note and the send-backs are below the greatest number
  record Small : Type 0 where
    over : t.over < 18446744073709551615
    backs : t.backs < 18446744073709551615
    counts : (v : ℕ) → get_or table.counts v 0 < 4294967295

  noted_exact : t.over < 18446744073709551615 → (b so : Bool) → cond b t.over (cond so (saturated t.over 1) t.over) ≡ cond b t.over (t.over + cond so 1 0)
  noted_exact l true so = refl
  noted_exact l false true = saturated_exact t.over 1 (omega arith)
  noted_exact l false false = omega arith

  sums : Small → summing sum t ≡ acting 2 (outside_turn t.begin) (sum_told t) (add sum t)
  unfolding summing note_after over_at_once added add
  sums l =
      ap (λ (n : ℕ). acting 2 (outside_turn t.begin) (sum_told t) (adding n (sum (below t 2) (below t 1)) t))
      (noted_exact l.over (eqb t.begin 0) (overflows (below t 2) (below t 1)))

  performs_add : Small → acted_as (performed sum table t (show_op code.add)) ≡ act sum table t code.add
  unfolding acted_as performed act perform event_of outside_turn rule_at rule_after used_by rule_number backs_after add
  performs_add l = ap (λ (a : Numbered). acted_as (handed a table)) (sums l) ∙ go (eqb t.begin 0) (sum_told t)
    where
      go : (b : Bool) (n : ℕ) → ruled (alters (add sum t) table (summed (eqb (cond b 1 0) 0)) n) ≡ ruled (alters (add sum t) table (summed (not b)) n)
      go true n = refl
      go false n = refl

  performs_read : (v : ℕ) → acted_as (performed sum table t (show_op (code.read v))) ≡ act sum table t (code.read v)
  unfolding acted_as performed act perform event_of source_number source_of rule_at rule_after used_by rule_number backs_after
  performs_read v = go (member t.writes v) (member t.reads v)
    where
      go : (a b : Bool) → ◌≡◌ {A = Acted} (record { thread = with_rule (rule_at (cond a 5 (cond b 6 7)) (read table v t).rule) (read table v t).backs (read table v t); table = table; children = children_as (cond a 5 (cond b 6 7)) 0 0; event = event_of (cond a 5 (cond b 6 7)) 0 0; over = 0 }) (ruled (alters (read table v t) table (looked (cond a from_writes (cond b from_reads from_table))) 0))
      go true b = refl
      go false true = refl
      go false false = refl

  -- a send-back
  backed_exact : t.backs < 18446744073709551615 → saturated t.backs 1 ≡ suc t.backs
  backed_exact l = saturated_exact t.backs 1 (omega arith) ∙ (let z : t.backs + 1 ≡ suc t.backs = omega arith in z)

  performs_commit : Small → acted_as (performed sum table t (show_op code.commit)) ≡ act sum table t code.commit
  unfolding acted_as performed act perform event_of committed commit closed rule_at rule_after used_by rule_number backs_after
  performs_commit l = go (ltb (first_stale 64 0 t table) 64)
    where
      go : (b : Bool) → acted_as (committed_by b (first_stale 64 0 t table) table t) ≡ ruled (committing b table t (first_stale 64 0 t table))
      go true = rw (backed_exact l.backs)
      go false = ap (λ (ns : List ℕ). acted_as (handed (acting 9 1 t.over (closed (t.place + 1) t.height t)) (table_from (overlaid 64 0 t table.registers) ns))) (recounted_same 64 0 t table.counts (λ u k. l.counts u))

  performs_acts : Small → (op : Op) → acted_as (performed sum table t (show_op op)) ≡ act sum table t op
  unfolding acted_as performed act perform event_of push begin write rule_at rule_after used_by rule_number backs_after
  performs_acts l (code.push n) = refl
  performs_acts l (code.fork size) = refl
  performs_acts l code.begin = refl
  performs_acts l (code.write v) = refl
  performs_acts l code.add = performs_add l
  performs_acts l (code.read v) = performs_read v
  performs_acts l code.commit = performs_commit l

  -- and the other way: every number that is handed back is the event's
  hands_add : Small → performed sum table t (show_op code.add) ≡ handed_as (act sum table t code.add)
  unfolding handed_as performed act perform event_number event_register turn_number outside_turn add rule_at rule_after used_by rule_number backs_after
  hands_add l = ap (λ (a : Numbered). handed a table) (sums l) ∙ go (eqb t.begin 0) (sum_told t)
    where
      go : (b : Bool) (n : ℕ) → handed (acting 2 (cond b 1 0) n (add sum t)) table ≡ handed_as (ruled (alters (add sum t) table (summed (not b)) n))
      go true n = refl
      go false n = refl

  hands_read : (v : ℕ) → performed sum table t (show_op (code.read v)) ≡ handed_as (act sum table t (code.read v))
  unfolding handed_as performed act perform event_number event_register turn_number source_number source_of rule_at rule_after used_by rule_number backs_after
  hands_read v = go (member t.writes v) (member t.reads v)
    where
      go : (a b : Bool) → handed (record { thread = with_rule (rule_at (cond a 5 (cond b 6 7)) (read table v t).rule) (read table v t).backs (read table v t); event = cond a 5 (cond b 6 7); register = 0; turn = 0; over = 0; start = 0; end = 0 }) table ≡ handed_as (ruled (alters (read table v t) table (looked (cond a from_writes (cond b from_reads from_table))) 0))
      go true b = refl
      go false true = refl
      go false false = refl

  hands_commit : Small → performed sum table t (show_op code.commit) ≡ handed_as (act sum table t code.commit)
  unfolding handed_as performed act perform event_number event_register turn_number committed commit closed rule_at rule_after used_by rule_number backs_after
  hands_commit l = go (ltb (first_stale 64 0 t table) 64)
    where
      go : (b : Bool) → committed_by b (first_stale 64 0 t table) table t ≡ handed_as (ruled (committing b table t (first_stale 64 0 t table)))
      go true = rw (backed_exact l.backs)
      go false = ap (λ (ns : List ℕ). handed (acting 9 1 t.over (closed (t.place + 1) t.height t)) (table_from (overlaid 64 0 t table.registers) ns)) (recounted_same 64 0 t table.counts (λ u k. l.counts u))

  performs_hands : Small → (op : Op) → performed sum table t (show_op op) ≡ handed_as (act sum table t op)
  unfolding handed_as performed act perform event_number event_register turn_number push begin write rule_at rule_after used_by rule_number backs_after
  performs_hands l (code.push n) = refl
  performs_hands l (code.fork size) = refl
  performs_hands l code.begin = refl
  performs_hands l (code.write v) = refl
  performs_hands l code.add = hands_add l
  performs_hands l (code.read v) = hands_read v
  performs_hands l code.commit = hands_commit l

  -- nothing done
  idle_acts : acted_as (handed (unacted t) table) ≡ alters t table idle 0
  unfolding acted_as event_of
  idle_acts = refl

  module _ (bytes : List ℕ) where
    no_thread_stays : t.start ≡ 0 → stepped sum bytes table t ≡ handed (unacted t) table
    unfolding stepped
    no_thread_stays e = rw (stepped, eq-eqb t.start 0 e)

    ended_stays : t.place ≡ t.end → stepped sum bytes table t ≡ handed (unacted t) table
    unfolding stepped
    ended_stays e = go (eqb t.start 0) refl
      where
        go : (b : Bool) → eqb t.start 0 ≡ b → stepped sum bytes table t ≡ handed (unacted t) table
        go true q = rw (stepped, q)
        go false q = rw (stepped, q, eq-eqb t.place t.end e)

    -- a record that has what its instruction takes does it
    takes_performs : (t.start ≡ 0 → ⊥) → (t.place ≡ t.end → ⊥) → (op : Op) → op_at (drop t.place bytes) ≡ done op → takes_op (show_op op) t.height t.base (sized_by (length table.registers) (length table.counts)) (length bytes - t.place) ≡ true → stepped sum bytes table t ≡ performed sum table t (show_op op)
    unfolding stepped attempted
    takes_performs s p op o k =
        let a : stepped sum bytes table t ≡ attempted sum bytes table t (shown_op (op_at (drop t.place bytes))) = rw (stepped, ne_eqb t.start 0 s, ne_eqb t.place t.end p) in
        let b : attempted sum bytes table t (show_op op) ≡ performed sum table t (show_op op) = rw (attempted, k) in
        a ∙ (ap (λ (x : Outcome Op). attempted sum bytes table t (shown_op x)) o ∙ b)

-- ---- no more sums are told than are noted, or one
pub act_low : (sum : Rule) (table : Table) (t : Thread) → t.over < 6000 → (op : Op) → (act sum table t op).over < 6000
unfolding act perform commit
act_low sum table t l (code.push n) = omega arith
act_low sum table t l code.add = go (eqb t.begin 0) (overflows (below t 2) (below t 1))
  where
    go : (b o : Bool) → cond b (cond o 1 0) 0 < 6000
    go true true = omega arith
    go true false = omega arith
    go false o = omega arith
act_low sum table t l (code.fork size) = omega arith
act_low sum table t l code.begin = omega arith
act_low sum table t l (code.read v) = omega arith
act_low sum table t l (code.write v) = omega arith
act_low sum table t l code.commit = go (ltb (first_stale 64 0 t table) 64)
  where
    go : (b : Bool) → (committing b table t (first_stale 64 0 t table)).over < 6000
    go true = omega arith
    go false = l

-- ---- in a state that fits
both_sized : {a b : ℕ} → a ≡ 64 → b ≡ 64 → sized_by a b ≡ 64
unfolding sized_by
both_sized {a} {b} e f = rw (eq-eqb b 64 f) e

there : (t : Thread) → exists t ≡ true → t.start ≡ 0 → ⊥
there t e z = never (sym (ap (λ (n : ℕ). not (eqb n 0)) z) ∙ e)
  where
    never : ◌≡◌ {A = Bool} false true → ⊥
    never e = let z : ◌≡◌ {A = ℕ} 0 1 = cc in absurd (omega arith)

base_low : {bytes : List ℕ} {t : Thread} → Held bytes t → t.base ≤ 64
base_low {bytes} {t} h = go (shape h.region h.outer h.somewhere h.placed.walks)
  where
    go : Shape bytes t.start t.end t.place h.placed.walked → t.base ≤ 64
    go (out c r o b z) = let q = h.placed.base in omega arith
    go (shape-open body c k r i e g) = let q = h.placed.base in let l = g.again.low in omega arith

module _ {bytes : List ℕ} {j : Job} (c : IsCode bytes j) (sum : Rule) where
  small : (s : State) → Fits bytes s → Typed s → (i : ℕ) → Small sum (table_in s) (thread_at s i)
  small s f y i = let l = low_fits c s f y i in let a = l.over in let b = l.backs in record { over = omega arith; backs = omega arith; counts = λ v. (let z = counts_low c s f v in omega arith) }

  step_performs : (s : State) → Fits bytes s → Typed s → (i : ℕ) → Exists s i → ((thread_at s i).place ≡ (thread_at s i).end → ⊥) → (op : Op) → op_at (drop (thread_at s i).place bytes) ≡ done op → stepped sum bytes (table_in s) (thread_at s i) ≡ performed sum (table_in s) (thread_at s i) (show_op op)
  step_performs s f y i e ne op o = go (shows_of (held c (outer c) s f y i e))
    where
      low : (thread_at s i).base ≤ 64
      low = base_low (held c (outer c) s f y i e)

      one : {ins : Instruction} {k : Code} → (thread_at s i).base ≤ 64 → Ready bytes (thread_at s i).place (thread_at s i).end (ins ⨾ k) (thread_at s i).height → stepped sum bytes (table_in s) (thread_at s i) ≡ performed sum (table_in s) (thread_at s i) (show_op op)
      one {ins} b r =
          let q : op_of ins ≡ op = same_op (sym (ready_op r) ∙ o) in
          let k : takes_op (show_op (op_of ins)) (thread_at s i).height (thread_at s i).base (sized_by (length s.registers) (length s.counts)) (length bytes - (thread_at s i).place) ≡ true = ap (λ (n : ℕ). takes_op (show_op (op_of ins)) (thread_at s i).height (thread_at s i).base n (length bytes - (thread_at s i).place)) (both_sized f.registers f.counts) ∙ ready_able ins (thread_at s i).base b r in
          takes_performs sum (table_in s) (thread_at s i) bytes (there (thread_at s i) e) ne op o (subst (λ (x : Op). takes_op (show_op x) (thread_at s i).height (thread_at s i).base (sized_by (length s.registers) (length s.counts)) (length bytes - (thread_at s i).place) ≡ true) q k)

      go : (task : Task register_cells) × Shows bytes (thread_at s i) task → stepped sum bytes (table_in s) (thread_at s i) ≡ performed sum (table_in s) (thread_at s i) (show_op op)
      go (task, shut ε r o z) = absurd (ne (stands_end r.stands))
      go (task, shut (ins ⨾ k) r o z) = one low r
      go (task, open' body ε k r o h w g x q) = absurd (no_inside k (thread_at s i).base o)
      go (task, open' body (ins ⨾ k) n r o h w g x q) = one low r

  -- the step on a thread's record is the instruction at its place, and each number that it hands back is that instruction's
  pub step_acts : (s : State) → Fits bytes s → Typed s → (i : ℕ) → Exists s i → ((thread_at s i).place ≡ (thread_at s i).end → ⊥) → (op : Op) → op_at (drop (thread_at s i).place bytes) ≡ done op → stepped sum bytes (table_in s) (thread_at s i) ≡ handed_as (act sum (table_in s) (thread_at s i) op)
  step_acts s f y i e ne op o = step_performs s f y i e ne op o ∙ performs_hands sum (table_in s) (thread_at s i) (small s f y i) op

  acted-as : (s : State) → Fits bytes s → Typed s → (i : ℕ) → Exists s i → ((thread_at s i).place ≡ (thread_at s i).end → ⊥) → (op : Op) → op_at (drop (thread_at s i).place bytes) ≡ done op → acted_as (stepped sum bytes (table_in s) (thread_at s i)) ≡ act sum (table_in s) (thread_at s i) op
  acted-as s f y i e ne op o = ap acted_as (step_performs s f y i e ne op o) ∙ performs_acts sum (table_in s) (thread_at s i) (small s f y i) op

  -- a pick that no instruction follows hands the record back idle
  pub idle_step : (table : Table) (t : Thread) → ((t.start ≡ 0) ⊎ (t.place ≡ t.end)) → stepped sum bytes table t ≡ handed_as (alters t table idle 0)
  unfolding handed_as event_number event_register turn_number
  idle_step table t (inl e) = no_thread_stays sum table t bytes e
  idle_step table t (inr e) = ended_stays sum table t bytes e

  -- a pick of any record goes through the step on it
  pub step_picks : (s : State) → Fits bytes s → Typed s → (count i : ℕ) → i < length s.threads → pick_among sum bytes count s i ≡ settle count s i (acted_as (stepped sum bytes (table_in s) (thread_at s i)))
  unfolding settle
  step_picks s f y count i l = go (exists (thread_at s i)) refl (eqb (thread_at s i).place (thread_at s i).end) refl
    where
      still : stepped sum bytes (table_in s) (thread_at s i) ≡ handed (unacted (thread_at s i)) (table_in s) → record { state = s; event = idle; over = 0 } ≡ settle count s i (acted_as (stepped sum bytes (table_in s) (thread_at s i)))
      still e =
          sym
          (ap (λ (h : Handed). settle count s i (acted_as h)) e
          ∙ (ap (settle count s i) (idle_acts sum (table_in s) (thread_at s i))
          ∙ ap (λ (ts : List Thread). record { state = record { registers = s.registers; counts = s.counts; threads = ts }; event = idle; over = 0 }) (set-get_or s.threads i blank)))

      no_start : (b : Bool) → eqb (thread_at s i).start 0 ≡ b → not b ≡ false → (thread_at s i).start ≡ 0
      no_start true e f = eqb-true (thread_at s i).start 0 e
      no_start false e f = absurd (let z : ◌≡◌ {A = ℕ} 0 1 = cc in omega arith)

      one : (e : exists (thread_at s i) ≡ true) (ne : (thread_at s i).place ≡ (thread_at s i).end → ⊥) → DoesOne sum bytes s i → pick_among sum bytes count s i ≡ settle count s i (acted_as (stepped sum bytes (table_in s) (thread_at s i)))
      one e ne d =
          does sum bytes count s i d.op (lt-ltb i (length s.threads) l) e ne d.at_place
          ∙ sym (ap (settle count s i) (acted-as s f y i e ne d.op d.at_place))

      go : (b : Bool) → exists (thread_at s i) ≡ b → (d : Bool) → eqb (thread_at s i).place (thread_at s i).end ≡ d → pick_among sum bytes count s i ≡ settle count s i (acted_as (stepped sum bytes (table_in s) (thread_at s i)))
      go false e d z = missing_idle sum bytes count s i e ∙ still (no_thread_stays sum (table_in s) (thread_at s i) bytes (no_start (eqb (thread_at s i).start 0) refl e))
      go true e true z =
          let q = eqb-true (thread_at s i).place (thread_at s i).end z in
          ended_idle sum bytes count s i q ∙ still (ended_stays sum (table_in s) (thread_at s i) bytes q)
      go true e false z =
          let ne = eqb-false (thread_at s i).place (thread_at s i).end z in
          one e ne (does_one c sum s f y i e ne)
