-- Every number of a state stays one that its field can hold: in a fresh state, after a pick, and after a run. Assumes nothing.
use Prim.Native.Nat.{ℕ, zero, suc, ◌+◌, ◌-◌, ◌*◌, ◌≤◌, ◌<◌, ◌^◌}
use mathlib.Core.Bool.{Bool, true, false, cond}
use mathlib.Core.Path.{◌≡◌, refl, sym, ap, subst, ◌∙◌}
use mathlib.Core.List.{List, [], ◌∷◌, ◌++◌}
use native.Mathlib.Omega.{arith}
use borrow.Author.Tests.{lt-ltb, ltb-true}
use lib.Dec.{ltb}
use lib.IntN.{ℤ, pos}
use lib.ListN.{length, get_or, set, take, replicate, length-append}
use Rattle.stm.specs.Counted.{Table}
use Rattle.code.specs.Compile.{Instruction, Code, PUSH, ADD, READ, WRITE, BEGIN, COMMIT, FORK, ε, ◌⨾◌}
use Rattle.code.specs.Bytes.{instructions_bytes, IsCode}
use Rattle.code.proofs.Flat.{code-length}
use Rattle.code.proofs.ReadBack.{code_small}
use Rattle.script.specs.Count.{code_length}
use Rattle.script.specs.Jobs.{Job}
use Rattle.thread.specs.declared.Thread.{Thread}
use Rattle.thread.specs.Threads.{blank, spawned, push, add, begin, below, source_of, read_from, noted, read, write, closed, overlaid, exists}
use Rattle.machine.specs.Steps.{State, Stepped, number_of, thread_at, instruction, pick, fresh, run, ruled, act, perform, settle, committing, commit, seated, Acted, Child, table_in}
use Rattle.machine.specs.Fits.{Walked, Exists, Fits, Typed, RangedThread, Ranged}
use Rattle.machine.specs.InnerStands.{op_of, Ready, InRangeRule}
use Rattle.machine.specs.Stands.{Stands, ValuedI, ValuedC}
use Rattle.machine.proofs.Numbers.{never, in_table}
use Rattle.machine.proofs.Passing.{passed_low}
use Rattle.machine.proofs.Walking.{adds_low}
use Rattle.machine.proofs.Codes.{stands_end, stands_inside, ready_op}
use Rattle.machine.proofs.Shapes.{Shape, out, open' as shape-open, shape}
use Rattle.machine.proofs.Placings.{get_d_zeros}
use Rattle.machine.proofs.Simulates.{Held}
use Rattle.machine.proofs.Stale.{low_none}
use Rattle.machine.proofs.Picks.{missing_idle, ended_idle, does}
use Rattle.machine.proofs.Regions.{held}
use Rattle.machine.proofs.Fresh.{no_record, fresh_typed, fresh_fits}
use Rattle.machine.proofs.Agrees.{outer, step_fits}
use Rattle.stm.specs.Events.{Event, idle, pushed, summed, forked, begun, looked, wrote, Source, from_writes, from_reads, from_table, committed, sent_back, is_back}
use Rattle.stm.specs.Rules.{used_by, rule_number, rule_after}
use Rattle.word.specs.Registers.{none, member}
use Rattle.word.specs.Sum.{InRange, Rule, wrapping}
use Rattle.word.proofs.Sets.{with_small}
use Rattle.word.proofs.Sums.{fits→range}
use Rattle.word.proofs.Sums as sums

-- sums that wrap are in range
pub wrapping_in_range : InRangeRule wrapping
wrapping_in_range a b x y = sums.wrapping_in_range a b

-- ---- lists
-- what holds of every element holds of every element after one is set
set_keeps : {A : Type 0} (P : A → Type 0) (l : List A) (i : ℕ) (x d : A) → P x → ((n : ℕ) → P (get_or l n d)) → (n : ℕ) → P (get_or (set l i x) n d)
set_keeps P [] i x d p f n = f n
set_keeps P (a ∷ l) zero x d p f zero = p
set_keeps P (a ∷ l) zero x d p f (suc n) = f (suc n)
set_keeps P (a ∷ l) (suc i) x d p f zero = f zero
set_keeps P (a ∷ l) (suc i) x d p f (suc n) = set_keeps P l i x d p (λ k. f (suc k)) n

-- every number of a list
abbrev AllInRange : List ℤ → Type 0
AllInRange ns = (n : ℕ) → InRange (get_or ns n (pos 0))

zero_in_range : InRange (pos 0)
zero_in_range = fits→range (record { sfits = omega arith })

zeros_in_range : (m : ℕ) → AllInRange (replicate m (pos 0))
zeros_in_range m n = subst InRange (sym (get_d_zeros m n)) zero_in_range

set_in_range : (ns : List ℤ) (i : ℕ) (x : ℤ) → InRange x → AllInRange ns → AllInRange (set ns i x)
set_in_range ns i x p f = set_keeps InRange ns i x (pos 0) p f

closed_in_range : (h : ℕ) (cells : List ℤ) (m : ℕ) → AllInRange cells → AllInRange (take h cells ++ replicate m (pos 0))
closed_in_range zero cells m f n = zeros_in_range m n
closed_in_range (suc h) [] m f n = zeros_in_range m n
closed_in_range (suc h) (c ∷ cs) m f zero = f zero
closed_in_range (suc h) (c ∷ cs) m f (suc n) = closed_in_range h cs m (λ k. f (suc k)) n

overlaid_in_range : (left v : ℕ) (t : Thread) (table : List ℤ) → AllInRange t.writelog → AllInRange table → AllInRange (overlaid left v t table)
unfolding overlaid
overlaid_in_range zero v t table k f = f
overlaid_in_range (suc left) v t table k f =
    overlaid_in_range left (suc v) t (cond (member t.writes v) (set table v (get_or t.writelog v (pos 0))) table) k (go (member t.writes v))
  where
    go : (b : Bool) → AllInRange (cond b (set table v (get_or t.writelog v (pos 0))) table)
    go true = set_in_range table v (get_or t.writelog v (pos 0)) (k v) f
    go false = f

-- ---- the numbers and the sets of a record
record Values (t : Thread) : Type 0 where
  cells : AllInRange t.cells
  readlog : AllInRange t.readlog
  writelog : AllInRange t.writelog
  reads : t.reads < 2 ^ 64
  writes : t.writes < 2 ^ 64
  rule : t.rule < 2 ^ 64

record AllValues (s : State) : Type 0 where
  registers : AllInRange s.registers
  threads : (i : ℕ) → Values (thread_at s i)

none_small : none < 2 ^ 64
unfolding none
none_small = omega arith

values_spawned : (start end : ℕ) → Values (spawned start end)
unfolding spawned
values_spawned start end = record { cells = zeros_in_range 64; readlog = zeros_in_range 64; writelog = zeros_in_range 64; reads = none_small; writes = none_small; rule = omega arith }

values_push : (n : ℤ) (next : ℕ) (t : Thread) → InRange n → Values t → Values (push n next t)
unfolding push
values_push n next t r v = record { cells = set_in_range t.cells t.height n r v.cells; readlog = v.readlog; writelog = v.writelog; reads = v.reads; writes = v.writes; rule = v.rule }

values_add : (sum : Rule) → InRangeRule sum → (t : Thread) → Values t → Values (add sum t)
unfolding add
values_add sum f t v =
    let a = sum (below t 2) (below t 1) in
    let r : InRange (sum (below t 2) (below t 1)) = f (below t 2) (below t 1) (v.cells (t.height - 2)) (v.cells (t.height - 1)) in
    record {
      cells = set_in_range (set t.cells (t.height - 2) a) (t.height - 1) (pos 0) zero_in_range (set_in_range t.cells (t.height - 2) a r v.cells);
      readlog = v.readlog;
      writelog = v.writelog;
      reads = v.reads;
      writes = v.writes;
      rule = v.rule;
    }

values_begin : (t : Thread) → Values t → Values (begin t)
unfolding begin
values_begin t v = record { cells = v.cells; readlog = zeros_in_range 64; writelog = zeros_in_range 64; reads = none_small; writes = none_small; rule = v.rule }

read_in_range : (from : Source) (table : List ℤ) (t : Thread) (r : ℕ) → AllInRange table → Values t → InRange (read_from from table t r)
read_in_range from_writes table t r f v = v.writelog r
read_in_range from_reads table t r f v = v.readlog r
read_in_range from_table table t r f v = f r

values_noted : (from : Source) (r : ℕ) (n : ℤ) (k : ℕ) (t : Thread) → InRange n → Values t → Values (noted from r n k t)
values_noted from_writes r n k t i v = v
values_noted from_reads r n k t i v = v
values_noted from_table r n k t i v = record { cells = v.cells; readlog = set_in_range t.readlog r n i v.readlog; writelog = v.writelog; reads = with_small t.reads r v.reads; writes = v.writes; rule = v.rule }

values_read : (table : Table) (r : ℕ) (t : Thread) → AllInRange table.registers → Values t → Values (read table r t)
unfolding read
values_read table r t f v =
    let from = source_of t r in
    let i : InRange (read_from (source_of t r) table.registers t r) = read_in_range (source_of t r) table.registers t r f v in
    values_push (read_from from table.registers t r) (t.place + 2) (noted from r (read_from from table.registers t r) (get_or table.counts r 0) t) i (values_noted from r (read_from from table.registers t r) (get_or table.counts r 0) t i v)

values_write : (r : ℕ) (t : Thread) → Values t → Values (write r t)
unfolding write
values_write r t v = record { cells = v.cells; readlog = v.readlog; writelog = set_in_range t.writelog r (below t 1) (v.cells (t.height - 1)) v.writelog; reads = v.reads; writes = with_small t.writes r v.writes; rule = v.rule }

values_closed : (place height : ℕ) (t : Thread) → Values t → Values (closed place height t)
unfolding closed
values_closed place height t v = record { cells = closed_in_range height t.cells (64 - height) v.cells; readlog = zeros_in_range 64; writelog = zeros_in_range 64; reads = none_small; writes = none_small; rule = v.rule }

-- ---- the numbers and the sets of a state
record ActedValues (a : Acted) : Type 0 where
  thread : Values a.thread
  table : AllInRange a.table.registers
  register : (v : ℕ) → a.event ≡ sent_back v → v < 64

not_back : {A : Type 0} {e : Event} {v : ℕ} → is_back e ≡ false → e ≡ sent_back v → A
not_back f q = never (ap is_back q) f

values_commit : (table : Table) (t : Thread) (r : ℕ) → Values t → AllInRange table.registers → ActedValues (commit table t r)
unfolding commit
values_commit table t r v a = go (ltb r 64) refl
  where
    go : (b : Bool) → ltb r 64 ≡ b → ActedValues (committing b table t r)
    go true e = record { thread = values_closed t.begin t.base t v; table = a; register = λ u q. let x : r ≡ u = cc in subst (λ (n : ℕ). n < 64) x (ltb-true r 64 e) }
    go false e = record { thread = values_closed (t.place + 1) t.height t v; table = overlaid_in_range 64 0 t table.registers v.writelog a; register = λ u q. not_back refl q }

values_perform : (sum : Rule) → InRangeRule sum → (table : Table) (t : Thread) (ins : Instruction) → ValuedI ins → Values t → AllInRange table.registers → ActedValues (perform sum table t (op_of ins))
unfolding perform ValuedI
values_perform sum f table t (PUSH n) o v a = record { thread = values_push n (t.place + 5) t o v; table = a; register = λ u q. not_back refl q }
values_perform sum f table t ADD o v a = record { thread = values_add sum f t v; table = a; register = λ u q. not_back refl q }
values_perform sum f table t (READ r) o v a = record { thread = values_read table r t a v; table = a; register = λ u q. not_back refl q }
values_perform sum f table t (WRITE r) o v a = record { thread = values_write r t v; table = a; register = λ u q. not_back refl q }
values_perform sum f table t BEGIN o v a = record { thread = values_begin t v; table = a; register = λ u q. not_back refl q }
values_perform sum f table t COMMIT o v a = values_commit table t _ v a
values_perform sum f table t (FORK k) o v a = record { thread = values_push (pos 0) (t.place + 3 + length (instructions_bytes k)) t zero_in_range v; table = a; register = λ u q. not_back refl q }

-- the number of a rule is below 74
rule_small : (e : Event) (rule : ℕ) → rule < 2 ^ 64 → ((v : ℕ) → e ≡ sent_back v → v < 64) → rule_after e rule < 2 ^ 64
unfolding rule_after used_by rule_number
rule_small idle rule l f = l
rule_small pushed rule l f = omega arith
rule_small (summed inside) rule l f = omega arith
rule_small forked rule l f = omega arith
rule_small begun rule l f = omega arith
rule_small (looked from_writes) rule l f = omega arith
rule_small (looked from_reads) rule l f = omega arith
rule_small (looked from_table) rule l f = omega arith
rule_small wrote rule l f = omega arith
rule_small committed rule l f = omega arith
rule_small (sent_back v) rule l f = let k = f v refl in omega arith

values_ruled : (a : Acted) → ActedValues a → ActedValues (ruled a)
values_ruled a x =
    let v = x.thread in
    record {
      thread = record { cells = v.cells; readlog = v.readlog; writelog = v.writelog; reads = v.reads; writes = v.writes; rule = rule_small a.event a.thread.rule v.rule x.register };
      table = x.table;
      register = x.register;
    }

values_act : (sum : Rule) → InRangeRule sum → (table : Table) (t : Thread) (ins : Instruction) → ValuedI ins → Values t → AllInRange table.registers → ActedValues (act sum table t (op_of ins))
unfolding act
values_act sum f table t ins o v a = values_ruled (perform sum table t (op_of ins)) (values_perform sum f table t ins o v a)

values_seated : (count : ℕ) (cs : List Child) (ts : List Thread) → ((i : ℕ) → Values (get_or ts i blank)) → (i : ℕ) → Values (get_or (seated count cs ts) i blank)
values_seated count [] ts f = f
values_seated count (c ∷ cs) ts f = values_seated (suc count) cs (set ts count (spawned c.start c.end)) (set_keeps Values ts count (spawned c.start c.end) blank (values_spawned c.start c.end) f)

values_settle : (count : ℕ) (s : State) (i : ℕ) (a : Acted) → ActedValues a → AllValues s → AllValues (settle count s i a).state
unfolding settle
values_settle count s i a v w =
    record {
      registers = v.table;
      threads = values_seated count a.children (set s.threads i a.thread) (set_keeps Values s.threads i a.thread blank v.thread w.threads);
    }

values_instruction : (sum : Rule) → InRangeRule sum → (s : State) (i : ℕ) (t : Thread) (ins : Instruction) → ValuedI ins → Values t → AllValues s → AllValues (instruction sum s i t (op_of ins)).state
values_instruction sum f s i t ins o v a = values_settle (number_of s.threads) s i (act sum (table_in s) t (op_of ins)) (values_act sum f (table_in s) t ins o v a.registers) a

-- ---- the places, the heights and the notes of a record, and its send-backs
-- all far below 2 ^ 64
pub record Low (t : Thread) : Type 0 where
  pub start : t.start < 6000
  pub end : t.end < 6000
  pub place : t.place < 6000
  pub height : t.height < 6000
  pub begin : t.begin < 6000
  pub base : t.base < 6000
  pub over : t.over < 6000
  pub backs : t.backs < 96000
  pub readcounts : (v : ℕ) → get_or t.readcounts v 0 < 96000

fits_64 : (n : ℕ) → n < 6000 → n < 2 ^ 64
fits_64 n l = omega arith

both : (t : Thread) → Low t → Values t → RangedThread t
both t l v =
    record {
      cells = v.cells;
      readlog = v.readlog;
      readcounts = λ v. let b = l.readcounts v in omega arith;
      writelog = v.writelog;
      reads = v.reads;
      writes = v.writes;
      start = fits_64 t.start l.start;
      end = fits_64 t.end l.end;
      place = fits_64 t.place l.place;
      height = fits_64 t.height l.height;
      begin = fits_64 t.begin l.begin;
      base = fits_64 t.base l.base;
      over = fits_64 t.over l.over;
      rule = v.rule;
      backs = let b = l.backs in omega arith;
    }

values_of : (s : State) → Ranged s → AllValues s
values_of s r =
    record {
      registers = r.registers;
      threads = λ i. let t = r.threads i in record { cells = t.cells; readlog = t.readlog; writelog = t.writelog; reads = t.reads; writes = t.writes; rule = t.rule };
    }

low_blank : Low blank
unfolding blank
low_blank = record { start = omega arith; end = omega arith; place = omega arith; height = omega arith; begin = omega arith; base = omega arith; over = omega arith; backs = omega arith; readcounts = λ v. let z = low_none v 0 in omega arith }

-- code that stands in the bytes is within them
stands_within : {bytes : List ℕ} {place end : ℕ} {c : Code} → Stands bytes place end c → (place ≤ end) × (end ≤ length bytes)
stands_within {bytes} {place} {end} {c} s =
    let a : length bytes ≡ length s.front + length (instructions_bytes c ++ s.rest) = ap length s.text ∙ length-append s.front (instructions_bytes c ++ s.rest) in
    let b = length-append (instructions_bytes c) s.rest in
    let f = s.from in
    let u = s.until in
    (omega arith, omega arith)

-- the places of a thread that fits are within its code, and its heights at most 64
low_held : {bytes : List ℕ} {t : Thread} → length bytes < 6000 → t.backs < 96000 → ((v : ℕ) → get_or t.readcounts v 0 < 96000) → Held bytes t → Low t
low_held {bytes} {t} short few counts h = go (shape h.region h.outer h.somewhere h.placed.walks)
  where
    height : t.height ≡ h.placed.walked.height
    height = h.placed.height

    begin' : t.begin ≡ h.placed.walked.begin
    begin' = h.placed.begin

    base : t.base ≡ h.placed.walked.base
    base = h.placed.base

    region : (t.start ≤ t.end) × (t.end ≤ length bytes)
    region = stands_within h.region.stands

    here : (b e : ℕ) {c : Code} → h.placed.walked.begin ≡ b → b < 6000 → h.placed.walked.base ≡ e → e ≤ 64 → Ready bytes t.place t.end c h.placed.walked.height → Low t
    here b e bq bl eq el r =
        let p = stands_within r.stands in
        let p0 = p.0 in
        let p1 = p.1 in
        let g0 = region.0 in
        let low = r.low in
        let hq = height in
        let bq' = begin' in
        let eq' = base in
        let a = adds_low bytes t.start t.end h.placed.walks in
        let o = h.placed.over in
        record { start = omega arith; end = omega arith; place = omega arith; height = omega arith; begin = omega arith; base = omega arith; over = omega arith; backs = omega arith; readcounts = counts }

    go : Shape bytes t.start t.end t.place h.placed.walked → Low t
    go (out c r o b z) = here 0 0 b (omega arith) z (omega arith) r
    go (shape-open body c k r i e g) =
        let p = stands_within g.again.stands in
        let p0 = p.0 in
        let p1 = p.1 in
        here h.placed.walked.begin h.placed.walked.base refl (omega arith) refl g.again.low r

-- ---- states
values_blank : Values blank
unfolding blank
values_blank = record { cells = zeros_in_range 64; readlog = zeros_in_range 64; writelog = zeros_in_range 64; reads = none_small; writes = none_small; rule = omega arith }

values_fresh : (bytes : List ℕ) → AllValues (fresh bytes)
unfolding fresh
values_fresh bytes = record { registers = zeros_in_range 64; threads = each }
  where
    each : (i : ℕ) → Values (get_or (spawned 5 (length bytes) ∷ replicate 15 blank) i blank)
    each zero = values_spawned 5 (length bytes)
    each (suc i) = subst Values (sym (no_record 15 i)) values_blank

module _ {code : List ℕ} {j : Job} (c : IsCode code j) where
  -- a job's code has at most 5 bytes for each of 1,000 nodes, and 5 more
  pub code_short : length code < 6000
  unfolding code_length
  code_short =
      let a : length code ≡ code_length j.tree = ap length c.text ∙ code-length j in
      let b = (code_small j.tree).1 in
      let d = c.within.sized.few in
      omega arith

  pub counts_low : (s : State) → Fits code s → (v : ℕ) → get_or s.counts v 0 < 96000
  counts_low s f v =
      let a = f.counted v in
      let b : f.commits ≤ 16 * length code = subst (λ (n : ℕ). f.commits ≤ n * length code) f.records (passed_low f.passed) in
      let d = code_short in
      omega arith

  pub low_fits : (s : State) → Fits code s → Typed s → (i : ℕ) → Low (thread_at s i)
  low_fits s f y i = go (exists (thread_at s i)) refl
    where
      go : (b : Bool) → exists (thread_at s i) ≡ b → Low (thread_at s i)
      go true e = low_held code_short few counts (held c (outer c) s f y i e)
        where
          counts : (v : ℕ) → get_or (thread_at s i).readcounts v 0 < 96000
          counts v = let a = (f.tallied i e).not-ahead v in let b = counts_low s f v in omega arith

          few : (thread_at s i).backs < 96000
          few =
              let a = (f.tallied i e).not-above in
              let b : f.commits ≤ 16 * length code = subst (λ (n : ℕ). f.commits ≤ n * length code) f.records (passed_low f.passed) in
              let d = code_short in
              omega arith
      go false e = subst Low (sym (f.no_thread i e)) low_blank

  ranged : (s : State) → Fits code s → Typed s → AllValues s → Ranged s
  ranged s f y a = record { registers = a.registers; counts = λ v. (let b = counts_low s f v in omega arith); threads = λ i. both (thread_at s i) (low_fits s f y i) (a.threads i) }

  -- the numbers of a fresh state are such as their fields can hold
  pub fresh_ranged : Ranged (fresh code)
  fresh_ranged = ranged (fresh code) (fresh_fits code) (fresh_typed code) (values_fresh code)

  module _ (sum : Rule) (g : InRangeRule sum) where
    pick_values : (s : State) → Fits code s → Typed s → AllValues s → (i : ℕ) → AllValues (pick sum code s i).state
    unfolding ValuedC
    pick_values s f y a i = go (exists (thread_at s i)) refl
      where
        stays : pick sum code s i ≡ record { state = s; event = idle; over = 0 } → AllValues (pick sum code s i).state
        stays e = subst (λ (r : Stepped). AllValues r.state) (sym e) a

        by : Exists s i → (k : Code) {h : ℕ} → Ready code (thread_at s i).place (thread_at s i).end k h → AllValues (pick sum code s i).state
        by e ε r =
            stays (ended_idle sum code (number_of s.threads) s i (stands_end r.stands))
        by e (ins ⨾ k) r =
            let small : ltb i (length s.threads) ≡ true = lt-ltb i (length s.threads) (in_table s i e) in
            let l = stands_inside r.stands in
            subst (λ (x : Stepped). AllValues x.state) (sym (does sum code (number_of s.threads) s i (op_of ins) small e (λ z. absurd (omega arith)) (ready_op r)))
            (values_instruction sum g s i (thread_at s i) ins r.valued.0 (a.threads i) a)

        at_shape : Exists s i → {w : Walked} → Shape code (thread_at s i).start (thread_at s i).end (thread_at s i).place w → AllValues (pick sum code s i).state
        at_shape e (out k r o b z) = by e k r
        at_shape e (shape-open body k n r o q b) = by e k r

        go : (b : Bool) → exists (thread_at s i) ≡ b → AllValues (pick sum code s i).state
        go true e = let h = held c (outer c) s f y i e in at_shape e (shape h.region h.outer h.somewhere h.placed.walks)
        go false e = stays (missing_idle sum code (number_of s.threads) s i e)

    -- a pick leaves the numbers of a state such as their fields can hold
    pub pick_ranged : (s : State) → Fits code s → Typed s → Ranged s → (i : ℕ) → Ranged (pick sum code s i).state
    pick_ranged s f y r i =
        let k = step_fits c sum s f y i in
        ranged (pick sum code s i).state k.0 k.1 (pick_values s f y (values_of s r) i)

    -- and so does a run
    pub run_ranged : (s : State) → Fits code s → Typed s → Ranged s → (is : List ℕ) → Ranged (run sum code s is).state
    unfolding run
    run_ranged s f y r [] = r
    run_ranged s f y r (i ∷ is) =
        let k = step_fits c sum s f y i in
        run_ranged (pick sum code s i).state k.0 k.1 (pick_ranged s f y r i) is
