-- What an instruction does to a thread's record, it does to the task that the record shows: the same event, the same table, the same child.
-- Assumes nothing.
use Prim.Native.Nat.{ℕ, zero, suc, ◌+◌, ◌-◌, ◌≤◌, ◌<◌}
use mathlib.Core.Bool.{Bool, true, false, cond, not}
use mathlib.Core.Path.{◌≡◌, refl, sym, ap, subst, ◌∙◌}
use mathlib.Core.List.{List, [], ◌∷◌, ◌++◌}
use mathlib.Core.Option.{none, some}
use native.Mathlib.Omega.{arith}
use borrow.Author.Tests.{eq-eqb, ne_eqb, ltb-true}
use lib.Dec.{ltb}
use lib.IntN.{ℤ, pos}
use lib.ListN.{length, get_or, set}
use Rattle.stm.specs.Counted.{Table, Counted}
use Rattle.code.specs.Compile.{Instruction, Code, PUSH, ADD, READ, WRITE, BEGIN, COMMIT, FORK, ◌⨾◌}
use Rattle.code.specs.Bytes.{instructions_bytes}
use Rattle.code.specs.InnerHeights.{Takes}
use Rattle.code.specs.Ops as code
use Rattle.thread.specs.declared.Thread.{Thread}
use Rattle.thread.specs.Threads.{zeros, unwritten, spawned, push, add, begin, below, sum_told, sum_noted, source_of, read_from, noted, read, write, closed, stale, first_stale, log_of, counted_log, read_log, write_log}
use Rattle.stm.specs.Events.{Source, from_writes, from_reads, from_table, summed, looked, sent_back, committed, is_commit, is_back, more}
use Rattle.machine.specs.Steps.{State, Stepped, number_of, committing, commit, instruction, Child, moved_by, ruled, act, perform, settle, table_in}
use Rattle.machine.specs.Fits.{Walked, walk_op, next_place, Walks, Placed, TypedThread}
use Rattle.machine.proofs.Walking.{not_before}
use Rattle.machine.specs.InnerStands.{register_cells, table_of, op_of, Ready, undone}
use Rattle.machine.specs.Stands.{stack_from}
use Rattle.machine.proofs.Codes.{stands_inside, ready_op, ready_next, ready_child, ready_takes}
use Rattle.machine.proofs.Shapes.{taking_two, taking_less, Shape, out, open' as shape-open, shape}
use Rattle.machine.proofs.Placings.{typed_push, typed_add, typed_begin, typed_read, typed_write, typed_closed, placed_push, placed_add, placed_read, read_kids, read_commits, placed_write, placed_begin, placed_commit, commit_kids, commit_commits, placed_back, back_kids, back_commits}
use Rattle.machine.proofs.Stale.{found_stale, stale_by, stale_none, stale-read, never_back, Grown, same_grown, recounted_grown, recounted_length, overlaid_length, low_none, low_read}
use Rattle.machine.proofs.Showings.{Shows, shut, open', stack_suc, stack_set, stack_push, stack_add, stack_closed, log_none, log_with, counted_none, counted_with, cell_at_lem, first_same, writes_same}
use Rattle.stm.specs.InnerTasks.{Log, outside, inside, Did, Found, logged, goes, found, found_in, overwritten, commits, step_outside, step_inside}
use Rattle.stm.specs.InnerMeaning.{TakesOutside, TakesInside, Outside, Inside, behind}
use Rattle.word.specs.Registers.{member}
use Rattle.word.specs.Sum.{Rule, over_of}

-- a thread's record that fits, and its own code
pub record Held (bytes : List ℕ) (t : Thread) : Type 0 where
  pub typed : TypedThread t
  pub placed : Placed bytes t
  pub somewhere : 1 ≤ t.start
  pub code : Code
  pub region : Ready bytes t.start t.end code 0
  pub outer : Outside code 0

-- a forked child's record is the next one
pub data Born (bytes : List ℕ) (ts : List Thread) (n : ℕ) : List Code → List Child → List Thread → Type 0 where
  nobody : Born bytes ts n [] [] ts
  child : {k : Code} (start end : ℕ) → Ready bytes start end k 0 → Outside k 0 → 1 ≤ start → Born bytes ts n (k ∷ []) (record { start = start; end = end } ∷ []) (set ts n (spawned start end))

-- a thread that is sent back had a stale read, and has none
pub record WasStale (t thread : Thread) (table : Table) : Type 0 where
  pub register : ℕ
  pub was : stale t table register ≡ true
  pub none_now : (v : ℕ) → stale thread table v ≡ false

-- a step of thread i, which was t and had walked so far, and the step of its task; `thread` is its record but for its rule and number of
-- send-backs
pub record Simulated (bytes : List ℕ) (s : State) (i : ℕ) (t : Thread) (old : Walked) (r : Stepped) (d : Did register_cells) : Type 0 where
  pub event : r.event ≡ d.event
  pub over : r.over ≡ d.over
  pub registers : table_of r.state ≡ d.table
  pub thread : Thread
  pub born : List Child
  pub threads : Born bytes (set s.threads i (moved_by r.event thread)) (number_of s.threads) d.children born r.state.threads
  pub typed : TypedThread thread
  pub placed : Placed bytes thread
  pub kids : placed.walked.children ≡ born ++ old.children
  pub commits : placed.walked.commits ≡ more (is_commit r.event) old.commits
  pub backs : thread.backs ≡ t.backs
  pub calm : (v : ℕ) → stale t (table_in s) v ≡ false → stale thread (table_in s) v ≡ false
  pub low : ((v : ℕ) → get_or t.readcounts v 0 ≤ get_or s.counts v 0) → (v : ℕ) → get_or thread.readcounts v 0 ≤ get_or s.counts v 0
  pub even : length r.state.registers ≡ length r.state.counts
  pub grown : length s.counts ≡ 64 → (v : ℕ) → Grown (is_commit r.event) (get_or s.counts v 0) (get_or r.state.counts v 0)
  pub sent-back : is_back r.event ≡ true → WasStale t thread (table_in s)
  pub still : is_commit r.event ≡ false → table_in r.state ≡ table_in s
  pub shows : Shows bytes thread d.task
  pub start : thread.start ≡ t.start
  pub end : thread.end ≡ t.end

shown_inside : {bytes : List ℕ} {t : Thread} {body c : Code} {b b' σ σ' : List ℤ} {r r' : Log register_cells.Cell} {w w' : Log ℤ} {o o' : ℕ} → Shows bytes t (inside body b c σ r w o) → b ≡ b' → σ ≡ σ' → r ≡ r' → w ≡ w' → o ≡ o' → Shows bytes t (inside body b' c σ' r' w' o')
shown_inside {bytes} {t} {body} {c} {b} {b'} {σ} {σ'} {r} {r'} {w} {w'} {o} {o'} s e f g h k =
    subst (λ (x : ℕ). Shows bytes t (inside body b' c σ' r' w' x)) k
    (subst (λ (x : Log ℤ). Shows bytes t (inside body b' c σ' r' x o)) h
    (subst (λ (x : Log register_cells.Cell). Shows bytes t (inside body b' c σ' x w o)) g
    (subst (λ (x : List ℤ). Shows bytes t (inside body b' c x r w o)) f
    (subst (λ (x : List ℤ). Shows bytes t (inside body x c σ r w o)) e s))))

shown_outside : {bytes : List ℕ} {t : Thread} {c : Code} {σ σ' : List ℤ} → Shows bytes t (outside c σ) → σ ≡ σ' → Shows bytes t (outside c σ')
shown_outside {bytes} {t} {c} s e = subst (λ (x : List ℤ). Shows bytes t (outside c x)) e s

-- where the BEGIN of an open transaction was
back_walks : {bytes : List ℕ} {t : Thread} (h : Held bytes t) → 1 ≤ t.begin → Walks bytes t.start t.end t.begin (undone h.placed.walked)
back_walks {bytes} {t} h l = go (shape h.region h.outer h.somewhere h.placed.walks)
  where
    go : Shape bytes t.start t.end t.place h.placed.walked → Walks bytes t.start t.end t.begin (undone h.placed.walked)
    go (out c r o z y) = absurd (let b = h.placed.begin in omega arith)
    go (shape-open body c k r o e g) =
        subst (λ (n : ℕ). Walks bytes t.start t.end n (undone h.placed.walked)) (sym h.placed.begin) g.walks

module _ {bytes : List ℕ} (sum : Rule) (s : State) (j : ℕ) (t : Thread) (h : Held bytes t) (even : length s.registers ≡ length s.counts) where
  abbrev pub Sim : Stepped → Did register_cells → Type 0
  Sim r d = Simulated bytes s j t h.placed.walked r d

  -- ---- outside a transaction
  pub from_outside : (i : Instruction) (c : Code) → Ready bytes t.place t.end (i ⨾ c) t.height → Outside (i ⨾ c) t.height → t.begin ≡ 0 → Sim (instruction sum s j t (op_of i)) (step_outside register_cells sum (table_of s) (i ⨾ c) (stack_from t.cells 0 t.height))
  unfolding act perform settle step_outside Outside TakesOutside Takes next_place walk_op push begin placed_push placed_begin placed_add add stack_from
  from_outside (PUSH n) c r o z =
      let l = stands_inside r.stands in
      let y = h.typed.cells in
      let k : suc t.height ≤ 64 = ready_takes r in
      record {
        event = refl;
        over = refl;
        registers = refl;
        thread = push n (t.place + 5) t;
        born = [];
        threads = nobody;
        typed = typed_push n (t.place + 5) t h.typed;
        placed = placed_push t h.placed l (code.push n) n (ready_op r) refl refl refl refl;
        kids = refl;
        commits = refl;
        backs = refl;
        calm = stale_by _ _ _ refl refl;
        low = λ f. f;
        even = even;
        grown = λ z v. same_grown (get_or s.counts v 0);
        sent-back = λ q. never_back q;
        still = λ q. refl;
        shows = shown_outside (shut c (ready_next r) o z) (stack_push t.cells 0 t.height t.height n (omega arith) (omega arith));
        start = refl;
        end = refl;
      }
  from_outside (FORK m) c r o z =
      let l = stands_inside r.stands in
      let y = h.typed.cells in
      let k : suc t.height ≤ 64 = (ready_takes r).0 in
      record {
        event = refl;
        over = refl;
        registers = refl;
        thread = push (pos 0) (t.place + 3 + length (instructions_bytes m)) t;
        born = record { start = t.place + 3; end = t.place + 3 + length (instructions_bytes m) } ∷ [];
        threads = child (t.place + 3) (t.place + 3 + length (instructions_bytes m)) (ready_child r) o.0 (omega arith);
        typed = typed_push (pos 0) (t.place + 3 + length (instructions_bytes m)) t h.typed;
        placed = placed_push t h.placed l (code.fork (length (instructions_bytes m))) (pos 0) (ready_op r) refl refl refl refl;
        kids = refl;
        commits = refl;
        backs = refl;
        calm = stale_by _ _ _ refl refl;
        low = λ f. f;
        even = even;
        grown = λ z v. same_grown (get_or s.counts v 0);
        sent-back = λ q. never_back q;
        still = λ q. refl;
        shows = shown_outside (shut c (ready_next r) o.1 z) (stack_push t.cells 0 t.height t.height (pos 0) (omega arith) (omega arith));
        start = refl;
        end = refl;
      }
  from_outside (READ v) c r o z = absurd o
  from_outside (WRITE v) c r o z = absurd o
  from_outside COMMIT c r o z = absurd o
  from_outside BEGIN c r o z =
      let l = stands_inside r.stands in
      let n = not_before bytes t.start t.end h.placed.walks in
      let w = h.somewhere in
      record {
        event = refl;
        over = refl;
        registers = refl;
        thread = begin t;
        born = [];
        threads = nobody;
        typed = typed_begin t h.typed;
        placed = placed_begin t h.placed l (ready_op r) (omega arith);
        kids = refl;
        commits = refl;
        backs = refl;
        calm = λ v z. stale_none _ _ refl v;
        low = λ f v. low_none v (get_or s.counts v 0);
        even = even;
        grown = λ z v. same_grown (get_or s.counts v 0);
        sent-back = λ q. never_back q;
        still = λ q. refl;
        shows = shown_inside (open' c c 0 (ready_next r) o (omega arith) (omega arith) r o refl) refl nothing_above (counted_none zeros unwritten) (log_none zeros) refl;
        start = refl;
        end = refl;
      }
    where
      nothing_above : stack_from t.cells t.height 0 ≡ []
      nothing_above = refl
  from_outside ADD c r o z = add_outside (t.height - 2) (let two = taking_two (λ (x : ℕ). Outside c x) t.height o in let e : t.height ≡ suc (suc (t.height - 2)) = omega arith in e)
    where
      simulated : (k : ℕ) → t.height ≡ suc (suc k) → Sim (instruction sum s j t code.add) (step_outside register_cells sum (table_of s) (ADD ⨾ c) (stack_from t.cells 0 (suc (suc k))))
      simulated k e =
          let l = stands_inside r.stands in
          let y = h.typed.cells in
          let room : t.height ≤ 64 = r.low in
          record {
            event = ap (λ (b : Bool). summed (not b)) (eq-eqb t.begin 0 z);
            over = told k e;
            registers = refl;
            thread = add sum t;
            born = [];
            threads = nobody;
            typed = typed_add sum t h.typed;
            placed = placed_add t h.placed l sum (ready_op r) (omega arith) (omega arith);
            kids = refl;
            commits = refl;
            backs = refl;
            calm = stale_by _ _ _ refl refl;
            low = λ f. f;
            even = even;
            grown = λ z v. same_grown (get_or s.counts v 0);
            sent-back = λ q. never_back q;
            still = λ q. refl;
            shows = shown_outside (shut c (ready_next r) (taking_less (λ (x : ℕ). Outside c x) t.height o) z) (added k e room);
            start = refl;
            end = refl;
          }
        where
          told : (k : ℕ) → t.height ≡ suc (suc k) → sum_told t ≡ over_of (get_or t.cells (k + 0) (pos 0)) (get_or t.cells (suc k + 0) (pos 0))
          told k e =
              let a : t.height - 2 ≡ k + 0 = omega arith in
              let b : t.height - 1 ≡ suc k + 0 = omega arith in
              rw (eq-eqb t.begin 0 z, a, b)

          added : (k : ℕ) → t.height ≡ suc (suc k) → t.height ≤ 64 → stack_from (add sum t).cells 0 (t.height - 1) ≡ sum (get_or t.cells (k + 0) (pos 0)) (get_or t.cells (suc k + 0) (pos 0)) ∷ stack_from t.cells 0 k
          added k e room =
              let y = h.typed.cells in
              let x : t.height - 1 ≡ suc k = omega arith in
              let a : t.height - 2 ≡ k + 0 = omega arith in
              let b : t.height - 1 ≡ suc k + 0 = omega arith in
              rw (ap (λ (m : ℕ). stack_from (add sum t).cells 0 m) x, stack_add t.cells 0 k t.height (sum (below t 2) (below t 1)) (pos 0) (omega arith) (omega arith), a, b)

      add_outside : (k : ℕ) → t.height ≡ suc (suc k) → Sim (instruction sum s j t code.add) (step_outside register_cells sum (table_of s) (ADD ⨾ c) (stack_from t.cells 0 t.height))
      add_outside k e = subst (λ (x : ℕ). Sim (instruction sum s j t code.add) (step_outside register_cells sum (table_of s) (ADD ⨾ c) (stack_from t.cells 0 x))) (sym e) (simulated k e)

  -- ---- inside a transaction
  pub record Inner (i : Instruction) (body c : Code) (k : ℕ) : Type 0 where
    pub ready : Ready bytes t.place t.end (i ⨾ c) t.height
    pub goes-on : Inside (i ⨾ c) k t.base
    pub height : t.height ≡ k + t.base
    pub somewhere : 1 ≤ t.begin
    pub again : Ready bytes t.begin t.end (BEGIN ⨾ body) t.base
    pub outer : Outside (BEGIN ⨾ body) t.base
    pub same : behind (i ⨾ c) ≡ behind body

  abbrev pub reads : Log register_cells.Cell
  reads = read_log t

  abbrev pub writes : Log ℤ
  writes = write_log t

  abbrev pub below_base : List ℤ
  below_base = stack_from t.cells 0 t.base

  inner_push : (n : ℤ) (body c : Code) (k : ℕ) → Inner (PUSH n) body c k → Sim (instruction sum s j t (code.push n)) (step_inside register_cells sum (table_of s) body below_base (PUSH n ⨾ c) (stack_from t.cells t.base k) reads writes t.over)
  unfolding act perform settle step_inside Inside TakesInside Takes next_place walk_op push placed_push behind
  inner_push n body c k x =
      let l = stands_inside x.ready.stands in
      let y = h.typed.cells in
      let e = x.height in
      let m : suc t.height ≤ 64 = ready_takes x.ready in
      record {
        event = refl;
        over = refl;
        registers = refl;
        thread = push n (t.place + 5) t;
        born = [];
        threads = nobody;
        typed = typed_push n (t.place + 5) t h.typed;
        placed = placed_push t h.placed l (code.push n) n (ready_op x.ready) refl refl refl refl;
        kids = refl;
        commits = refl;
        backs = refl;
        calm = stale_by _ _ _ refl refl;
        low = λ f. f;
        even = even;
        grown = λ z v. same_grown (get_or s.counts v 0);
        sent-back = λ q. never_back q;
        still = λ q. refl;
        shows = shown_inside (open' body c (suc k) (ready_next x.ready) x.goes-on (omega arith) x.somewhere x.again x.outer x.same) (stack_set t.cells 0 t.base t.height n (omega arith)) (stack_push t.cells t.base k t.height n e (omega arith)) refl refl refl;
        start = refl;
        end = refl;
      }

  inner_add : (body c : Code) (k : ℕ) → Inner ADD body c (suc (suc k)) → Sim (instruction sum s j t code.add) (step_inside register_cells sum (table_of s) body below_base (ADD ⨾ c) (stack_from t.cells t.base (suc (suc k))) reads writes t.over)
  unfolding act perform settle step_inside Inside TakesInside next_place walk_op add placed_add behind stack_from
  inner_add body c k x =
      let l = stands_inside x.ready.stands in
      let y = h.typed.cells in
      let e = x.height in
      let room = x.ready.low in
      record {
        event = ap (λ (b : Bool). summed (not b)) (ne_eqb t.begin 0 not_shut);
        over = ap (λ (b : Bool). cond b (over_of (below t 2) (below t 1)) 0) (ne_eqb t.begin 0 not_shut);
        registers = refl;
        thread = add sum t;
        born = [];
        threads = nobody;
        typed = typed_add sum t h.typed;
        placed = placed_add t h.placed l sum (ready_op x.ready) (omega arith) (omega arith);
        kids = refl;
        commits = refl;
        backs = refl;
        calm = stale_by _ _ _ refl refl;
        low = λ f. f;
        even = even;
        grown = λ z v. same_grown (get_or s.counts v 0);
        sent-back = λ q. never_back q;
        still = λ q. refl;
        shows = shown_inside (open' body c (suc k) (ready_next x.ready) x.goes-on (omega arith) x.somewhere x.again x.outer x.same) lower upper refl refl counted;
        start = refl;
        end = refl;
      }
    where
      not_shut : t.begin ≡ 0 → ⊥
      not_shut z = absurd (let w = x.somewhere in omega arith)

      counted : sum_noted t ≡ t.over + over_of (get_or t.cells (k + t.base) (pos 0)) (get_or t.cells (suc k + t.base) (pos 0))
      counted =
          let e = x.height in
          let a : t.height - 2 ≡ k + t.base = omega arith in
          let b : t.height - 1 ≡ suc k + t.base = omega arith in
          rw (ne_eqb t.begin 0 not_shut, a, b)

      lower : stack_from (set (set t.cells (t.height - 2) (sum (below t 2) (below t 1))) (t.height - 1) (pos 0)) 0 t.base ≡ below_base
      lower =
          let e = x.height in
          stack_set (set t.cells (t.height - 2) (sum (below t 2) (below t 1))) 0 t.base (t.height - 1) (pos 0) (omega arith) ∙ stack_set t.cells 0 t.base (t.height - 2) (sum (below t 2) (below t 1)) (omega arith)

      upper : stack_from (set (set t.cells (t.height - 2) (sum (below t 2) (below t 1))) (t.height - 1) (pos 0)) t.base (suc k) ≡ sum (get_or t.cells (k + t.base) (pos 0)) (get_or t.cells (suc k + t.base) (pos 0)) ∷ stack_from t.cells t.base k
      upper =
          let e = x.height in
          let y = h.typed.cells in
          let room = x.ready.low in
          let a : t.height - 2 ≡ k + t.base = omega arith in
          let b : t.height - 1 ≡ suc k + t.base = omega arith in
          stack_add t.cells t.base k t.height (sum (below t 2) (below t 1)) (pos 0) e (omega arith) ∙ ap (λ (n : ℤ). n ∷ stack_from t.cells t.base k) (ap (λ (p : ℕ). sum (get_or t.cells p (pos 0)) (below t 1)) a ∙ ap (λ (p : ℕ). sum (get_or t.cells (k + t.base) (pos 0)) (get_or t.cells p (pos 0))) b)

  -- READ finds in the logs and the table what it finds in the record's
  abbrev from : Bool → Bool → Source
  from a b = cond a from_writes (cond b from_reads from_table)

  found_same : (v : ℕ) → v < 64 → (a b : Bool) → found_in register_cells (cond a (some (get_or t.writelog v (pos 0))) none) (cond b (some (record { value = get_or t.readlog v (pos 0); count = get_or t.readcounts v 0 })) none) (record { value = get_or s.registers v (pos 0); count = get_or s.counts v 0 }) reads v ≡ record {
    value = read_from (from a b) s.registers t v;
    source = from a b;
    reads = read_log (noted (from a b) v (read_from (from a b) s.registers t v) (get_or s.counts v 0) t);
  }
  found_same v l true b = refl
  found_same v l false true = refl
  found_same v l false false = ap (λ (r : Log Counted). record { value = get_or s.registers v (pos 0); source = from_table; reads = r }) (sym (counted_with t.reads t.readlog t.readcounts v (get_or s.registers v (pos 0)) (get_or s.counts v 0) l h.typed.readlog h.typed.readcounts))

  found_cell : (v : ℕ) → v < 64 → found register_cells (table_of s) reads writes v ≡ record {
    value = read_from (source_of t v) s.registers t v;
    source = source_of t v;
    reads = read_log (noted (source_of t v) v (read_from (source_of t v) s.registers t v) (get_or s.counts v 0) t);
  }
  unfolding found source_of log_of counted_log
  found_cell v l = rw (cell_at_lem s.registers s.counts v) (found_same v l (member t.writes v) (member t.reads v))

  inner_read : (v : ℕ) (body c : Code) (k : ℕ) → Inner (READ v) body c k → Sim (instruction sum s j t (code.read v)) (step_inside register_cells sum (table_of s) body below_base (READ v ⨾ c) (stack_from t.cells t.base k) reads writes t.over)
  unfolding act perform settle step_inside Inside TakesInside Takes next_place walk_op behind read push
  inner_read v body c k x =
      subst (λ (f : Found register_cells). Sim (instruction sum s j t (code.read v)) (goes register_cells (inside body below_base c (f.value ∷ stack_from t.cells t.base k) f.reads writes t.over) (table_of s) (looked f.source)))
      (sym (found_cell v x.goes-on.0))
      (record {
        event = refl;
        over = refl;
        registers = refl;
        thread = read (table_in s) v t;
        born = [];
        threads = nobody;
        typed = typed_read (table_in s) v t h.typed;
        placed = placed_read t h.placed l (table_in s) v x.goes-on.0 (ready_op x.ready) x.somewhere;
        kids = placed_read_kids;
        commits = placed_read_commits;
        backs = backs' (source_of t v);
        calm = read_calm;
        low = low_read (table_in s) v t;
        even = even;
        grown = λ z v. same_grown (get_or s.counts v 0);
        sent-back = λ q. never_back q;
        still = λ q. refl;
        shows = shown (source_of t v) (read_from (source_of t v) s.registers t v) (get_or s.counts v 0);
        start = start' (source_of t v);
        end = end' (source_of t v);
      })
    where
      l : t.place < t.end
      l = stands_inside x.ready.stands

      placed_read_kids : (placed_read t h.placed l (table_in s) v x.goes-on.0 (ready_op x.ready) x.somewhere).walked.children ≡ h.placed.walked.children
      placed_read_kids = read_kids t h.placed l (table_in s) v x.goes-on.0 (ready_op x.ready) x.somewhere

      placed_read_commits : (placed_read t h.placed l (table_in s) v x.goes-on.0 (ready_op x.ready) x.somewhere).walked.commits ≡ h.placed.walked.commits
      placed_read_commits = read_commits t h.placed l (table_in s) v x.goes-on.0 (ready_op x.ready) x.somewhere

      backs' : (from : Source) → (noted from v (read_from from s.registers t v) (get_or s.counts v 0) t).backs ≡ t.backs
      backs' from_writes = refl
      backs' from_reads = refl
      backs' from_table = refl

      read_calm : (u : ℕ) → stale t (table_in s) u ≡ false → stale (read (table_in s) v t) (table_in s) u ≡ false
      read_calm = stale-read (table_in s) v t x.goes-on.0 h.typed.readcounts

      shown : (from : Source) (n : ℤ) (count : ℕ) → Shows bytes (push n (t.place + 2) (noted from v n count t)) (inside body below_base c (n ∷ stack_from t.cells t.base k) (read_log (noted from v n count t)) writes t.over)
      shown from_writes n count =
          let y = h.typed.cells in
          let e = x.height in
          let m : suc t.height ≤ 64 = ready_takes x.ready in
          shown_inside (open' body c (suc k) (ready_next x.ready) x.goes-on.1 (omega arith) x.somewhere x.again x.outer x.same) (stack_set t.cells 0 t.base t.height n (omega arith)) (stack_push t.cells t.base k t.height n e (omega arith)) refl refl refl
      shown from_reads n count =
          let y = h.typed.cells in
          let e = x.height in
          let m : suc t.height ≤ 64 = ready_takes x.ready in
          shown_inside (open' body c (suc k) (ready_next x.ready) x.goes-on.1 (omega arith) x.somewhere x.again x.outer x.same) (stack_set t.cells 0 t.base t.height n (omega arith)) (stack_push t.cells t.base k t.height n e (omega arith)) refl refl refl
      shown from_table n count =
          let y = h.typed.cells in
          let e = x.height in
          let m : suc t.height ≤ 64 = ready_takes x.ready in
          shown_inside (open' body c (suc k) (ready_next x.ready) x.goes-on.1 (omega arith) x.somewhere x.again x.outer x.same) (stack_set t.cells 0 t.base t.height n (omega arith)) (stack_push t.cells t.base k t.height n e (omega arith)) refl refl refl

      start' : (from : Source) → (noted from v (read_from from s.registers t v) (get_or s.counts v 0) t).start ≡ t.start
      start' from_writes = refl
      start' from_reads = refl
      start' from_table = refl

      end' : (from : Source) → (noted from v (read_from from s.registers t v) (get_or s.counts v 0) t).end ≡ t.end
      end' from_writes = refl
      end' from_reads = refl
      end' from_table = refl

  inner_write : (v : ℕ) (body c : Code) (k : ℕ) → Inner (WRITE v) body c (suc k) → Sim (instruction sum s j t (code.write v)) (step_inside register_cells sum (table_of s) body below_base (WRITE v ⨾ c) (stack_from t.cells t.base (suc k)) reads writes t.over)
  unfolding act perform settle step_inside Inside TakesInside next_place walk_op write placed_write behind stack_from
  inner_write v body c k x =
      let l = stands_inside x.ready.stands in
      let e = x.height in
      let a : t.height - 1 ≡ k + t.base = omega arith in
      record {
        event = refl;
        over = refl;
        registers = refl;
        thread = write v t;
        born = [];
        threads = nobody;
        typed = typed_write v t h.typed;
        placed = placed_write t h.placed l v x.goes-on.0 (ready_op x.ready) x.somewhere;
        kids = refl;
        commits = refl;
        backs = refl;
        calm = stale_by _ _ _ refl refl;
        low = λ f. f;
        even = even;
        grown = λ z v. same_grown (get_or s.counts v 0);
        sent-back = λ q. never_back q;
        still = λ q. refl;
        shows = shown_inside (open' body c (suc k) (ready_next x.ready) x.goes-on.1 e x.somewhere x.again x.outer x.same) refl refl refl (log_with t.writes t.writelog v (below t 1) x.goes-on.0 h.typed.writelog ∙ ap (λ (p : ℕ). logged writes v (get_or t.cells p (pos 0))) a) refl;
        start = refl;
        end = refl;
      }

  -- COMMIT: both find the same first stale register
  inner_commit : (body c : Code) → Inner COMMIT body c 1 → (v : ℕ) → (ltb v 64 ≡ true → stale t (table_in s) v ≡ true) → Sim (settle (number_of s.threads) s j (ruled (commit (table_in s) t v))) (commits register_cells (table_of s) body below_base c (get_or t.cells (0 + t.base) (pos 0)) writes t.over v)
  unfolding commit settle Inside TakesInside behind closed next_place
  inner_commit body c x v found = go (ltb v 64) found
    where
      l : t.place < t.end
      l = stands_inside x.ready.stands

      go : (b : Bool) → (b ≡ true → stale t (table_in s) v ≡ true) → Sim (settle (number_of s.threads) s j (ruled (committing b (table_in s) t v))) (elim b [
        | true ↦ record { task = outside (BEGIN ⨾ body) below_base; table = table_of s; children = []; event = sent_back v; over = 0 }
        | false ↦ record { task = outside c (get_or t.cells (0 + t.base) (pos 0) ∷ below_base); table = overwritten register_cells 64 0 writes (table_of s); children = []; event = committed; over = t.over }
      ])
      go true sv =
          let y = h.typed.cells in
          let z = x.again.low in
          record {
            event = refl;
            over = refl;
            registers = refl;
            thread = closed t.begin t.base t;
            born = [];
            threads = nobody;
            typed = typed_closed t.begin t.base t z h.typed;
            placed = placed_back t h.placed.walked h.placed.base (back_walks h x.somewhere);
            kids = back_kids t h.placed.walked h.placed.base (back_walks h x.somewhere);
            commits = back_commits t h.placed.walked h.placed.base (back_walks h x.somewhere);
            backs = refl;
            calm = λ v z. stale_none _ _ refl v;
            low = λ f v. low_none v (get_or s.counts v 0);
            even = even;
            grown = λ z v. same_grown (get_or s.counts v 0);
            sent-back = λ q. record { register = v; was = sv refl; none_now = stale_none _ _ refl };
            still = λ q. refl;
            shows = shown_outside (shut (BEGIN ⨾ body) x.again x.outer refl) (stack_closed t.cells 0 t.base t.base _ (omega arith) (omega arith));
            start = refl;
            end = refl;
          }
      go false sv =
          let y = h.typed.cells in
          let z = x.ready.low in
          let e : t.height ≡ 1 + t.base = x.height in
          let f : suc t.base ≡ t.height = omega arith in
          record {
            event = refl;
            over = refl;
            registers = writes_same t (table_in s) even;
            thread = closed (t.place + 1) t.height t;
            born = [];
            threads = nobody;
            typed = typed_closed (t.place + 1) t.height t z h.typed;
            placed = placed_commit t h.placed l (ready_op x.ready);
            kids = commit_kids t h.placed l (ready_op x.ready);
            commits = commit_commits t h.placed l (ready_op x.ready);
            backs = refl;
            calm = λ v z. stale_none _ _ refl v;
            low = λ f v. low_none v (get_or s.counts v 0);
            even = overlaid_length 64 0 t s.registers ∙ (even ∙ sym (recounted_length 64 0 t s.counts));
            grown = recounted_grown t s.counts;
            sent-back = λ q. never_back q;
            still = λ q. never_back (sym q);
            shows = shown_outside (shut c (ready_next x.ready) (subst (λ (n : ℕ). Outside c n) f x.goes-on.1) refl) (stack_closed t.cells 0 t.height t.height _ (omega arith) (omega arith) ∙ (ap (λ (n : ℕ). stack_from t.cells 0 n) (sym f) ∙ one_above));
            start = refl;
            end = refl;
          }
        where
          one_above : stack_from t.cells 0 (suc t.base) ≡ get_or t.cells (0 + t.base) (pos 0) ∷ below_base
          one_above = stack_suc t.cells 0 t.base ∙ ap (λ (p : ℕ). get_or t.cells p (pos 0) ∷ below_base) (let e : t.base + 0 ≡ 0 + t.base = omega arith in e)

  commit_found : (body c : Code) → Inner COMMIT body c 1 → Sim (instruction sum s j t code.commit) (step_inside register_cells sum (table_of s) body below_base (COMMIT ⨾ c) (stack_from t.cells t.base 1) reads writes t.over)
  unfolding act perform settle step_inside stack_from
  commit_found body c x =
      subst (λ (v : ℕ). Sim (instruction sum s j t code.commit) (commits register_cells (table_of s) body below_base c (get_or t.cells (0 + t.base) (pos 0)) writes t.over v)) (first_same 64 0 t (table_in s)) (inner_commit body c x (first_stale 64 0 t (table_in s)) (λ q. (found_stale t (table_in s) (ltb-true (first_stale 64 0 t (table_in s)) 64 q)).its))

  -- any instruction inside
  pub from_inside : (i : Instruction) (body c : Code) (k : ℕ) → Inner i body c k → Sim (instruction sum s j t (op_of i)) (step_inside register_cells sum (table_of s) body below_base (i ⨾ c) (stack_from t.cells t.base k) reads writes t.over)
  unfolding act perform settle Inside TakesInside
  from_inside (PUSH n) body c k x = inner_push n body c k x
  from_inside ADD body c zero x = absurd x.goes-on
  from_inside ADD body c (suc zero) x = absurd x.goes-on
  from_inside ADD body c (suc (suc k)) x = inner_add body c k x
  from_inside (READ v) body c k x = inner_read v body c k x
  from_inside (WRITE v) body c zero x = absurd x.goes-on.1
  from_inside (WRITE v) body c (suc k) x = inner_write v body c k x
  from_inside BEGIN body c k x = absurd x.goes-on
  from_inside COMMIT body c zero x = absurd (let e = x.goes-on.0 in omega arith)
  from_inside COMMIT body c (suc zero) x = commit_found body c x
  from_inside COMMIT body c (suc (suc k)) x = absurd (let e = x.goes-on.0 in omega arith)
  from_inside (FORK m) body c k x = absurd x.goes-on
