-- One instruction of a thread's record is one rule of the source on the thread that the record stands for. Assumes nothing.
use Prim.Native.Nat.{ℕ, zero, suc, ◌+◌, ◌-◌, ◌≤◌, ◌<◌}
use mathlib.Core.Bool.{Bool, true, false, cond, not, ◌&&◌}
use mathlib.Core.Path.{◌≡◌, refl, sym, ap, subst, ◌∙◌}
use mathlib.Core.List.{List, [], ◌∷◌, ◌++◌}
use mathlib.Core.Option.{Option, none, some}
use native.Mathlib.Omega.{arith}
use borrow.Author.Tests.{lt-ltb, le-ltb}
use lib.Dec.{eqb, ltb}
use lib.IntN.{ℤ, pos}
use lib.ListN.{length, get_or, set}
use Rattle.stm.specs.Counted.{Table, Counted}
use Rattle.code.specs.Compile.{Instruction, Code, PUSH, ADD, READ, WRITE, BEGIN, COMMIT, FORK, ε, ◌⨾◌}
use Rattle.code.specs.Bytes.{instructions_bytes}
use Rattle.code.specs.Ops.{Op}
use Rattle.code.specs.Ops as code
use Rattle.thread.specs.declared.Thread.{Thread}
use Rattle.thread.specs.Threads as threads
use Rattle.thread.specs.Threads.{with_rule, zeros, unwritten, spawned, push, add, begin, below, source_of, read_from, noted, read, write, closed, stale, first_stale, overlaid, recounted, log_of, counted_log, read_log, write_log}
use Rattle.stm.specs.Events.{Source, from_writes, from_reads, from_table}
use Rattle.machine.specs.Steps.{State, Stepped, number_of, committing, commit, instruction, moved_by, ruled, act, perform, settle, table_in}
use Rattle.machine.specs.Fits.{next_place, TypedThread}
use Rattle.source.specs.Source.{Log, empty, updated, SThread, Looked, looked_up, look_up, register_at, agrees, consistent, entered, raised, overridden, counted, united, StepM, ForkM, PushM, AddM, BeginM, ReadM, WriteM, Committed, Failed}
use Rattle.source.specs.Soup.{Carries, rule_of, named, First}
use Rattle.machine.specs.InnerStands.{op_of}
use Rattle.machine.specs.Stands.{ValuedI, ValuedC, stack_from}
use Rattle.machine.proofs.Codes.{stands_next, stands_child}
use Rattle.machine.proofs.Showings.{stack_suc, stack_push, stack_add, stack_closed, log_none, log_with, counted_none, counted_with}
use Rattle.word.specs.Registers.{member, with}
use Rattle.word.specs.Sum.{Rule}

-- a forked child
abbrev pub newborn : Code → SThread
newborn k = record { code = k; stack = []; again = ε; reads = empty; writes = empty }

-- a forked child's record is the next one
pub data Forks (bytes : List ℕ) (ts : List Thread) (n : ℕ) : List SThread → List Thread → Type 0 where
  nobody : Forks bytes ts n [] ts
  child : (k : Code) (start end : ℕ) → 1 ≤ start → n < 16 → Carries bytes (spawned start end) (newborn k) → Forks bytes ts n (newborn k ∷ []) (set ts n (spawned start end))

-- a record that has another last rule and number of send-backs stands for the same thread
pub carries_moved : {bytes : List ℕ} (rule backs : ℕ) (t : Thread) {m : SThread} → Carries bytes t m → Carries bytes (with_rule rule backs t) m
unfolding log_of counted_log
carries_moved rule backs t x = record { code = x.code; valued = x.valued; stack = x.stack; again = x.again; reads = x.reads; writes = x.writes }

-- a step of thread i, which was t, and the rule that does it to the thread m of the source; `thread` is its record but for its rule and
-- number of send-backs
pub record Follows (bytes : List ℕ) (sum : Rule) (s : State) (i : ℕ) (t : Thread) (m : SThread) (r : Stepped) : Type 0 where
  pub thread : Thread
  pub m' : SThread
  pub new : List SThread
  pub heap : Table
  pub carries : Carries bytes thread m'
  pub start : thread.start ≡ t.start
  pub threads : Forks bytes (set s.threads i (moved_by r.event thread)) (number_of s.threads) new r.state.threads
  pub registers : table_in r.state ≡ heap
  pub step : (behind : List SThread) → StepM sum (table_in s) (m ∷ behind) heap (m' ∷ (new ++ behind))
  pub first : (behind : List SThread) → First (step behind)
  pub rule : (behind : List SThread) → named r.event ≡ some (rule_of (step behind))

-- what an instruction needs of the state and of its thread's record
unfoldable pub Fine : State → Thread → Op → Type 0
Fine s t (code.push n) = t.height < 64
Fine s t code.add = 2 ≤ t.height
Fine s t (code.read v) = (v < 64) × ((t.height < 64) × (1 ≤ t.begin))
Fine s t (code.write v) = (v < 64) × ((1 ≤ t.height) × (1 ≤ t.begin))
Fine s t code.begin = Unit {0}
Fine s t code.commit = (t.height ≡ suc t.base) × (1 ≤ t.begin)
Fine s t (code.fork size) = (t.height < 64) × (number_of s.threads < 16)

-- ---- stacks
stack_one : (cells : List ℤ) (h : ℕ) → 1 ≤ h → stack_from cells 0 h ≡ get_or cells (h - 1) (pos 0) ∷ stack_from cells 0 (h - 1)
stack_one cells zero l = absurd (omega arith)
stack_one cells (suc h) l =
    let a : suc h - 1 ≡ h = omega arith in
    let b : h + 0 ≡ h = omega arith in
    stack_suc cells 0 h ∙ (ap (λ (k : ℕ). get_or cells k (pos 0) ∷ stack_from cells 0 h) b ∙ sym (ap (λ (k : ℕ). get_or cells k (pos 0) ∷ stack_from cells 0 k) a))

stack_two : (cells : List ℤ) (h : ℕ) → 2 ≤ h → stack_from cells 0 h ≡ get_or cells (h - 1) (pos 0) ∷ get_or cells (h - 2) (pos 0) ∷ stack_from cells 0 (h - 2)
stack_two cells h l =
    let a : h - 1 - 1 ≡ h - 2 = omega arith in
    stack_one cells h (omega arith) ∙ (ap (λ (y : List ℤ). get_or cells (h - 1) (pos 0) ∷ y) (stack_one cells (h - 1) (omega arith)) ∙ ap (λ (k : ℕ). get_or cells (h - 1) (pos 0) ∷ get_or cells k (pos 0) ∷ stack_from cells 0 k) a)

-- ---- logs
log_updated : (set' : ℕ) (ns : List ℤ) (r : Log ℤ) (v : ℕ) (n : ℤ) → v < 64 → length ns ≡ 64 → ((u : ℕ) → r u ≡ log_of set' ns u) → (u : ℕ) → updated r v n u ≡ log_of (with set' v) (set ns v n) u
log_updated set' ns r v n l e f u =
    ap (λ (y : Option ℤ). cond (eqb u v) (some n) y) (f u) ∙ sym (ap (λ (g : ℕ → Option ℤ). g u) (log_with set' ns v n l e))

counted_updated : (set' : ℕ) (ns : List ℤ) (ks : List ℕ) (r : Log Counted) (v : ℕ) (n : ℤ) (k : ℕ) → v < 64 → length ns ≡ 64 → length ks ≡ 64 → ((u : ℕ) → r u ≡ counted_log set' ns ks u) → (u : ℕ) → updated r v (record { value = n; count = k }) u ≡ counted_log (with set' v) (set ns v n) (set ks v k) u
counted_updated set' ns ks r v n k l e g f u =
    ap (λ (y : Option Counted). cond (eqb u v) (some (record { value = n; count = k })) y) (f u) ∙ sym (ap (λ (g : ℕ → Option Counted). g u) (counted_with set' ns ks v n k l e g))

agrees_stale : (t : Thread) (table : Table) (v : ℕ) → agrees (read_log t v) (get_or table.counts v 0) ≡ not (stale t table v)
unfolding stale counted_log
agrees_stale t table v = go (member t.reads v)
  where
    not_not : (b : Bool) → b ≡ not (not b)
    not_not true = refl
    not_not false = refl

    go : (b : Bool) → agrees (cond b (some (record { value = get_or t.readlog v (pos 0); count = get_or t.readcounts v 0 })) none) (get_or table.counts v 0) ≡ not (b && not (eqb (get_or t.readcounts v 0) (get_or table.counts v 0)))
    go true = not_not (eqb (get_or t.readcounts v 0) (get_or table.counts v 0))
    go false = refl

-- the read log agrees with the table exactly if no register is stale
consistent_fresh : (t : Thread) (r : Log Counted) (table : Table) → ((v : ℕ) → r v ≡ read_log t v) → (left v : ℕ) → ltb (first_stale left v t table) (left + v) ≡ not (consistent left v r table.counts)
unfolding first_stale consistent
consistent_fresh t r table f zero v = le-ltb v (0 + v) (omega arith)
consistent_fresh t r table f (suc left) v = go (stale t table v) (agrees (r v) (get_or table.counts v 0)) (ap (λ (y : Option Counted). agrees y (get_or table.counts v 0)) (f v) ∙ agrees_stale t table v) (consistent_fresh t r table f left (suc v))
  where
    go : (a b : Bool) → b ≡ not a → ltb (first_stale left (suc v) t table) (left + suc v) ≡ not (consistent left (suc v) r table.counts) → ltb (elim a [ true ↦ v | false ↦ first_stale left (suc v) t table ]) (suc left + v) ≡ not (b && consistent left (suc v) r table.counts)
    go true true e h = absurd (let z : ◌≡◌ {A = ℕ} 0 1 = cc in omega arith)
    go true false e h = lt-ltb v (suc left + v) (omega arith)
    go false true e h = ap (λ (n : ℕ). ltb (first_stale left (suc v) t table) n) (let z : suc left + v ≡ left + suc v = omega arith in z) ∙ h
    go false false e h = absurd (let z : ◌≡◌ {A = ℕ} 0 1 = cc in omega arith)

overlaid_overridden : (t : Thread) (w : Log ℤ) → ((v : ℕ) → w v ≡ write_log t v) → (left v : ℕ) (rs : List ℤ) → overlaid left v t rs ≡ overridden left v rs w
unfolding overlaid overridden log_of
overlaid_overridden t w f zero v rs = refl
overlaid_overridden t w f (suc left) v rs = overlaid_overridden t w f left (suc v) (cond (member t.writes v) (set rs v (get_or t.writelog v (pos 0))) rs) ∙ ap (λ (y : List ℤ). overridden left (suc v) y w) (go (member t.writes v) (w v) (f v))
  where
    go : (b : Bool) (o : Option ℤ) → o ≡ cond b (some (get_or t.writelog v (pos 0))) none → cond b (set rs v (get_or t.writelog v (pos 0))) rs ≡ entered o v rs
    go true o e = sym (ap (λ (y : Option ℤ). entered y v rs) e)
    go false o e = sym (ap (λ (y : Option ℤ). entered y v rs) e)

recounted_counted : (t : Thread) (w : Log ℤ) → ((v : ℕ) → w v ≡ write_log t v) → (left v : ℕ) (ns : List ℕ) → recounted left v t ns ≡ counted left v ns w
unfolding recounted counted log_of
recounted_counted t w f zero v ns = refl
recounted_counted t w f (suc left) v ns = recounted_counted t w f left (suc v) (cond (member t.writes v) (set ns v (suc (get_or ns v 0))) ns) ∙ ap (λ (y : List ℕ). counted left (suc v) y w) (go (member t.writes v) (w v) (f v))
  where
    go : (b : Bool) (o : Option ℤ) → o ≡ cond b (some (get_or t.writelog v (pos 0))) none → cond b (set ns v (suc (get_or ns v 0))) ns ≡ raised o v ns
    go true o e = sym (ap (λ (y : Option ℤ). raised y v ns) e)
    go false o e = sym (ap (λ (y : Option ℤ). raised y v ns) e)

entered_united : (t : Thread) (w : Log ℤ) → ((v : ℕ) → w v ≡ write_log t v) → (h : Table) → threads.with_writes t h ≡ united h w
entered_united t w f h = λ i. record { registers = overlaid_overridden t w f 64 0 h.registers i; counts = recounted_counted t w f 64 0 h.counts i }

-- ---- one instruction
module _ (bytes : List ℕ) (sum : Rule) (s : State) (j : ℕ) (t : Thread) (y : TypedThread t) (low : t.height ≤ 64) where
  abbrev Thus : SThread → Stepped → Type 0
  Thus m r = Follows bytes sum s j t m r

  module _ (c f : Code) (σ : List ℤ) (r : Log Counted) (w : Log ℤ) where
    abbrev at : Instruction → SThread
    at i = record { code = i ⨾ c; stack = σ; again = f; reads = r; writes = w }

    -- a number is pushed
    pushes : (i : Instruction) (n : ℤ) → Carries bytes t (at i) → t.height < 64 → Carries bytes (push n (next_place (op_of i) t.place) t) (record { code = c; stack = n ∷ σ; again = f; reads = r; writes = w })
    unfolding push ValuedC
    pushes i n x l =
        record {
          code = stands_next x.code;
          valued = x.valued.1;
          stack = ap (λ (z : List ℤ). n ∷ z) x.stack ∙ sym (stack_push t.cells 0 t.height t.height n (omega arith) (let z = y.cells in omega arith));
          again = x.again;
          reads = x.reads;
          writes = x.writes;
        }

    follows_push : (n : ℤ) → Carries bytes t (at (PUSH n)) → Fine s t (code.push n) → Thus (at (PUSH n)) (instruction sum s j t (code.push n))
    unfolding act perform settle Fine next_place rule_of First push
    follows_push n x l =
        record {
          thread = push n (t.place + 5) t;
          m' = record { code = c; stack = n ∷ σ; again = f; reads = r; writes = w };
          new = [];
          heap = table_in s;
          carries = pushes (PUSH n) n x l;
          start = refl;
          threads = nobody;
          registers = refl;
          step = λ behind. PushM;
          first = λ behind. tt;
          rule = λ behind. refl;
        }

    born : (k : Code) → Carries bytes t (at (FORK k)) → Carries bytes (spawned (t.place + 3) (t.place + 3 + length (instructions_bytes k))) (newborn k)
    unfolding spawned stack_from ValuedC ValuedI
    born k x =
        record {
          code = stands_child x.code;
          valued = x.valued.0.1;
          stack = refl;
          again = λ l. absurd (omega arith);
          reads = λ l. absurd (omega arith);
          writes = λ l. absurd (omega arith);
        }

    follows_fork : (k : Code) → Carries bytes t (at (FORK k)) → Fine s t (code.fork (length (instructions_bytes k))) → Thus (at (FORK k)) (instruction sum s j t (code.fork (length (instructions_bytes k))))
    unfolding act perform settle Fine next_place rule_of First push
    follows_fork k x l =
        record {
          thread = push (pos 0) (t.place + 3 + length (instructions_bytes k)) t;
          m' = record { code = c; stack = pos 0 ∷ σ; again = f; reads = r; writes = w };
          new = newborn k ∷ [];
          heap = table_in s;
          carries = pushes (FORK k) (pos 0) x l.0;
          start = refl;
          threads = child k (t.place + 3) (t.place + 3 + length (instructions_bytes k)) (omega arith) l.1 (born k x);
          registers = refl;
          step = λ behind. ForkM;
          first = λ behind. tt;
          rule = λ behind. refl;
        }

    follows_begin : Carries bytes t (at BEGIN) → Thus (at BEGIN) (instruction sum s j t code.begin)
    unfolding act perform settle next_place rule_of First begin ValuedC
    follows_begin x =
        record {
          thread = begin t;
          m' = record { code = c; stack = σ; again = BEGIN ⨾ c; reads = empty; writes = empty };
          new = [];
          heap = table_in s;
          carries = record {
            code = stands_next x.code;
            valued = x.valued.1;
            stack = x.stack;
            again = λ l. (x.code, x.valued);
            reads = λ l v. sym (ap (λ (g : ℕ → Option Counted). g v) (counted_none zeros unwritten));
            writes = λ l v. sym (ap (λ (g : ℕ → Option ℤ). g v) (log_none zeros));
          };
          start = refl;
          threads = nobody;
          registers = refl;
          step = λ behind. BeginM;
          first = λ behind. tt;
          rule = λ behind. refl;
        }

    -- READ finds in the thread's logs what it finds in the record's
    looks : (v : ℕ) → Carries bytes t (at (READ v)) → v < 64 → t.height < 64 → 1 ≤ t.begin → Carries bytes (read (table_in s) v t) (record { code = c; stack = (look_up (table_in s) v r w).value ∷ σ; again = f; reads = (look_up (table_in s) v r w).reads; writes = w })
    unfolding read source_of look_up push log_of counted_log next_place
    looks v x small l open' =
        subst (λ (o : Option ℤ). Carries bytes (found (member t.writes v) (member t.reads v)) (after (looked_up o (r v) table r v))) (sym (x.writes open' v))
        (subst (λ (o : Option Counted). Carries bytes (found (member t.writes v) (member t.reads v)) (after (looked_up (cond (member t.writes v) (some (get_or t.writelog v (pos 0))) none) o table r v))) (sym (x.reads open' v))
        (go (member t.writes v) (member t.reads v)))
      where
        table : Counted
        table = register_at (table_in s) v

        logged : Counted
        logged = record { value = get_or t.readlog v (pos 0); count = get_or t.readcounts v 0 }

        after : Looked → SThread
        after k = record { code = c; stack = k.value ∷ σ; again = f; reads = k.reads; writes = w }

        from : Bool → Bool → Source
        from a b = cond a from_writes (cond b from_reads from_table)

        found : Bool → Bool → Thread
        found a b = push (read_from (from a b) s.registers t v) (t.place + 2) (noted (from a b) v (read_from (from a b) s.registers t v) (get_or s.counts v 0) t)

        go : (a b : Bool) → Carries bytes (found a b) (after (looked_up (cond a (some (get_or t.writelog v (pos 0))) none) (cond b (some (record { value = get_or t.readlog v (pos 0); count = get_or t.readcounts v 0 })) none) table r v))
        go true b = pushes (READ v) (get_or t.writelog v (pos 0)) x l
        go false true = pushes (READ v) (get_or t.readlog v (pos 0)) x l
        go false false =
            let p = pushes (READ v) table.value x l in
            record {
              code = p.code;
              valued = p.valued;
              stack = p.stack;
              again = p.again;
              reads = λ o. counted_updated t.reads t.readlog t.readcounts r v table.value table.count small y.readlog y.readcounts (x.reads o);
              writes = p.writes;
            }

    follows_read : (v : ℕ) → Carries bytes t (at (READ v)) → Fine s t (code.read v) → Thus (at (READ v)) (instruction sum s j t (code.read v))
    unfolding act perform settle Fine rule_of First read push
    follows_read v x l =
        record {
          thread = read (table_in s) v t;
          m' = record { code = c; stack = (look_up (table_in s) v r w).value ∷ σ; again = f; reads = (look_up (table_in s) v r w).reads; writes = w };
          new = [];
          heap = table_in s;
          carries = looks v x l.0 l.1.0 l.1.1;
          start = same_start v;
          threads = nobody;
          registers = refl;
          step = λ behind. ReadM;
          first = λ behind. tt;
          rule = λ behind. refl;
        }
      where
        same_start : (v : ℕ) → (read (table_in s) v t).start ≡ t.start
        same_start v = go (source_of t v)
          where
            go : (from : Source) → (noted from v (read_from from s.registers t v) (get_or s.counts v 0) t).start ≡ t.start
            go from_writes = refl
            go from_reads = refl
            go from_table = refl

  module _ (c f : Code) (r : Log Counted) (w : Log ℤ) where
    abbrev with-stack : Instruction → List ℤ → SThread
    with-stack i σ = record { code = i ⨾ c; stack = σ; again = f; reads = r; writes = w }

    follows_add : Carries bytes t (with-stack ADD (below t 1 ∷ below t 2 ∷ stack_from t.cells 0 (t.height - 2))) → Fine s t code.add → Thus (with-stack ADD (below t 1 ∷ below t 2 ∷ stack_from t.cells 0 (t.height - 2))) (instruction sum s j t code.add)
    unfolding act perform settle Fine next_place rule_of First add ValuedC
    follows_add x l =
        record {
          thread = add sum t;
          m' = record { code = c; stack = sum (below t 2) (below t 1) ∷ stack_from t.cells 0 (t.height - 2); again = f; reads = r; writes = w };
          new = [];
          heap = table_in s;
          carries = record {
            code = stands_next x.code;
            valued = x.valued.1;
            stack = sym (stack_add t.cells 0 (t.height - 2) t.height (sum (below t 2) (below t 1)) _ (omega arith) (let z = y.cells in omega arith)) ∙ ap (λ (n : ℕ). stack_from (add sum t).cells 0 n) (let z : suc (t.height - 2) ≡ t.height - 1 = omega arith in z);
            again = x.again;
            reads = x.reads;
            writes = x.writes;
          };
          start = refl;
          threads = nobody;
          registers = refl;
          step = λ behind. AddM;
          first = λ behind. tt;
          rule = λ behind. refl;
        }

    follows_write : (v : ℕ) → Carries bytes t (with-stack (WRITE v) (below t 1 ∷ stack_from t.cells 0 (t.height - 1))) → Fine s t (code.write v) → Thus (with-stack (WRITE v) (below t 1 ∷ stack_from t.cells 0 (t.height - 1))) (instruction sum s j t (code.write v))
    unfolding act perform settle Fine next_place rule_of First write ValuedC
    follows_write v x l =
        record {
          thread = write v t;
          m' = record { code = c; stack = below t 1 ∷ stack_from t.cells 0 (t.height - 1); again = f; reads = r; writes = updated w v (below t 1) };
          new = [];
          heap = table_in s;
          carries = record {
            code = stands_next x.code;
            valued = x.valued.1;
            stack = x.stack;
            again = x.again;
            reads = x.reads;
            writes = λ o. log_updated t.writes t.writelog w v (below t 1) l.0 y.writelog (x.writes o);
          };
          start = refl;
          threads = nobody;
          registers = refl;
          step = λ behind. WriteM;
          first = λ behind. tt;
          rule = λ behind. refl;
        }

    follows_commit : Carries bytes t (with-stack COMMIT (below t 1 ∷ stack_from t.cells 0 (t.height - 1))) → Fine s t code.commit → Thus (with-stack COMMIT (below t 1 ∷ stack_from t.cells 0 (t.height - 1))) (instruction sum s j t code.commit)
    unfolding act perform settle commit Fine next_place rule_of First closed ValuedC
    follows_commit x l = go (consistent 64 0 r s.counts) refl (ltb (first_stale 64 0 t (table_in s)) 64) (consistent_fresh t r (table_in s) (x.reads l.1) 64 0)
      where
        v : ℕ
        v = first_stale 64 0 t (table_in s)

        go : (b : Bool) → consistent 64 0 r s.counts ≡ b → (a : Bool) → a ≡ not (consistent 64 0 r s.counts) → Thus (with-stack COMMIT (below t 1 ∷ stack_from t.cells 0 (t.height - 1))) (settle (number_of s.threads) s j (ruled (committing a (table_in s) t v)))
        go true e true q = absurd (let z : ◌≡◌ {A = ℕ} 0 1 = cc in omega arith)
        go true e false q =
            record {
              thread = closed (t.place + 1) t.height t;
              m' = record { code = c; stack = below t 1 ∷ stack_from t.cells 0 (t.height - 1); again = f; reads = r; writes = w };
              new = [];
              heap = united (table_in s) w;
              carries = record {
                code = stands_next x.code;
                valued = x.valued.1;
                stack = x.stack ∙ sym (stack_closed t.cells 0 t.height t.height _ (omega arith) (let z = y.cells in omega arith));
                again = λ o. absurd (omega arith);
                reads = λ o. absurd (omega arith);
                writes = λ o. absurd (omega arith);
              };
              start = refl;
              threads = nobody;
              registers = entered_united t w (x.writes l.1) (table_in s);
              step = λ behind. Committed e;
              first = λ behind. tt;
              rule = λ behind. refl;
            }
        go false e true q =
            record {
              thread = closed t.begin t.base t;
              m' = record { code = f; stack = stack_from t.cells 0 (t.height - 1); again = f; reads = r; writes = w };
              new = [];
              heap = table_in s;
              carries = record {
                code = (x.again l.1).0;
                valued = (x.again l.1).1;
                stack = let g : t.height ≡ suc t.base = l.0 in ap (λ (n : ℕ). stack_from t.cells 0 n) (let z : t.height - 1 ≡ t.base = omega arith in z) ∙ sym (stack_closed t.cells 0 t.base t.base _ (omega arith) (let z = y.cells in omega arith));
                again = λ o. absurd (omega arith);
                reads = λ o. absurd (omega arith);
                writes = λ o. absurd (omega arith);
              };
              start = refl;
              threads = nobody;
              registers = refl;
              step = λ behind. Failed e;
              first = λ behind. tt;
              rule = λ behind. refl;
            }
        go false e false q = absurd (let z : ◌≡◌ {A = ℕ} 0 1 = cc in omega arith)

  -- each instruction, by its rule
  pub follows : (i : Instruction) (c f : Code) (σ : List ℤ) (r : Log Counted) (w : Log ℤ) → Carries bytes t (record { code = i ⨾ c; stack = σ; again = f; reads = r; writes = w }) → Fine s t (op_of i) → Follows bytes sum s j t (record { code = i ⨾ c; stack = σ; again = f; reads = r; writes = w }) (instruction sum s j t (op_of i))
  unfolding Fine
  follows (PUSH n) c f σ r w x l = follows_push c f σ r w n x l
  follows ADD c f σ r w x l =
      let e : σ ≡ below t 1 ∷ below t 2 ∷ stack_from t.cells 0 (t.height - 2) = x.stack ∙ stack_two t.cells t.height l in
      subst (λ (z : List ℤ). Follows bytes sum s j t (record { code = ADD ⨾ c; stack = z; again = f; reads = r; writes = w }) (instruction sum s j t code.add)) (sym e)
      (follows_add c f r w (subst (λ (z : List ℤ). Carries bytes t (record { code = ADD ⨾ c; stack = z; again = f; reads = r; writes = w })) e x) l)
  follows (READ v) c f σ r w x l = follows_read c f σ r w v x l
  follows (WRITE v) c f σ r w x l =
      let e : σ ≡ below t 1 ∷ stack_from t.cells 0 (t.height - 1) = x.stack ∙ stack_one t.cells t.height l.1.0 in
      subst (λ (z : List ℤ). Follows bytes sum s j t (record { code = WRITE v ⨾ c; stack = z; again = f; reads = r; writes = w }) (instruction sum s j t (code.write v))) (sym e)
      (follows_write c f r w v (subst (λ (z : List ℤ). Carries bytes t (record { code = WRITE v ⨾ c; stack = z; again = f; reads = r; writes = w })) e x) l)
  follows BEGIN c f σ r w x l = follows_begin c f σ r w x
  follows COMMIT c f σ r w x l =
      let g : t.height ≡ suc t.base = l.0 in
      let e : σ ≡ below t 1 ∷ stack_from t.cells 0 (t.height - 1) = x.stack ∙ stack_one t.cells t.height (omega arith) in
      subst (λ (z : List ℤ). Follows bytes sum s j t (record { code = COMMIT ⨾ c; stack = z; again = f; reads = r; writes = w }) (instruction sum s j t code.commit)) (sym e)
      (follows_commit c f r w (subst (λ (z : List ℤ). Carries bytes t (record { code = COMMIT ⨾ c; stack = z; again = f; reads = r; writes = w })) e x) l)
  follows (FORK k) c f σ r w x l = follows_fork c f σ r w k x l
