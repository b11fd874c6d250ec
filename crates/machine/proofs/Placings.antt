-- Each instruction leaves a thread's record as one that fits, and of its type. Assumes nothing.
use Prim.Native.Nat.{ℕ, zero, suc, ◌+◌, ◌-◌, ◌≤◌, ◌<◌}
use mathlib.Core.Bool.{Bool, true, false, cond}
use mathlib.Core.Path.{◌≡◌, refl, sym, ap, subst, ◌∙◌}
use mathlib.Core.List.{List, [], ◌∷◌, ◌++◌}
use native.Mathlib.Omega.{arith}
use native.Mathlib.Decide.{dec_lt}
use borrow.Author.Tests.{eqb-true}
use lib.Dec.{eqb}
use lib.IntN.{ℤ, pos}
use lib.ListN.{length, drop, get_or, set, take, replicate, length-set, length-append, length-replicate}
use lib.Seq.{get_or-set_same, get_or-set_other, length-take-le}
use Rattle.stm.specs.Counted.{Table}
use Rattle.thread.specs.declared.Thread.{Thread}
use Rattle.thread.specs.Threads.{with_rule, sum_noted, zeros, spawned, push, add, begin, below, source_of, read_from, noted, read, write, closed}
use Rattle.stm.specs.Events.{Source, from_writes, from_reads, from_table}
use Rattle.machine.specs.Fits.{Walked, unmoved, walk_op, next_place, Walks, starts, passes, Placed, TypedThread}
use Rattle.machine.specs.InnerStands.{undone}
use Rattle.code.specs.Ops.{Op, op_at}
use Rattle.code.specs.Ops as code
use Rattle.script.specs.Outcome.{done}
use Rattle.word.specs.Registers.{member, with}
use Rattle.word.specs.Sum.{Rule, overflows, over_of}
use Rattle.machine.proofs.Walking.{no_adds}
use Rattle.word.proofs.Sets.{member_same, member_other}

-- ---- lists of 64 numbers
pub get_d_zeros : (n i : ℕ) → get_or (replicate n (pos 0)) i (pos 0) ≡ pos 0
get_d_zeros zero i = refl
get_d_zeros (suc n) zero = refl
get_d_zeros (suc n) (suc i) = get_d_zeros n i

-- the cells of `closed`: those below the height stay, whatever comes above; the others are 0
pub closed_below : (h : ℕ) (cells : List ℤ) (i : ℕ) (above : List ℤ) → i < h → h ≤ length cells → get_or (take h cells ++ above) i (pos 0) ≡ get_or cells i (pos 0)
closed_below zero cells i above l m = absurd (omega arith)
closed_below (suc h) [] i above l m = absurd (omega arith)
closed_below (suc h) (c ∷ cs) zero above l m = refl
closed_below (suc h) (c ∷ cs) (suc i) above l m = closed_below h cs i above (omega arith) (omega arith)

pub closed_above : (h : ℕ) (cells : List ℤ) (n i : ℕ) → h ≤ i → get_or (take h cells ++ replicate n (pos 0)) i (pos 0) ≡ pos 0
closed_above zero cells n i l = get_d_zeros n i
closed_above (suc h) [] n i l = get_d_zeros n i
closed_above (suc h) (c ∷ cs) n zero l = absurd (omega arith)
closed_above (suc h) (c ∷ cs) n (suc i) l = closed_above h cs n i (omega arith)

pub get_d_unwritten : (k n : ℕ) → ◌≡◌ {A = ℕ} (get_or (replicate k 0) n 0) 0
get_d_unwritten zero n = refl
get_d_unwritten (suc k) zero = refl
get_d_unwritten (suc k) (suc n) = get_d_unwritten k n

zeros_long : length zeros ≡ 64
zeros_long = refl

-- ---- types
pub typed_push : (n : ℤ) (next : ℕ) (t : Thread) → TypedThread t → TypedThread (push n next t)
unfolding push
typed_push n next t y = record { cells = length-set t.cells t.height n ∙ y.cells; readlog = y.readlog; writelog = y.writelog; readcounts = y.readcounts }

pub typed_add : (sum : Rule) (t : Thread) → TypedThread t → TypedThread (add sum t)
unfolding add
typed_add sum t y =
    record {
      cells = length-set (set t.cells (t.height - 2) _) (t.height - 1) _ ∙ (length-set t.cells (t.height - 2) _ ∙ y.cells);
      readlog = y.readlog;
      readcounts = y.readcounts;
      writelog = y.writelog;
    }

pub typed_begin : (t : Thread) → TypedThread t → TypedThread (begin t)
unfolding begin
typed_begin t y = record { cells = y.cells; readlog = zeros_long; writelog = zeros_long; readcounts = refl }

typed_noted : (from : Source) (v : ℕ) (n : ℤ) (k : ℕ) (t : Thread) → TypedThread t → TypedThread (noted from v n k t)
typed_noted from_writes v n k t y = y
typed_noted from_reads v n k t y = y
typed_noted from_table v n k t y = record { cells = y.cells; readlog = length-set t.readlog v _ ∙ y.readlog; writelog = y.writelog; readcounts = length-set t.readcounts v k ∙ y.readcounts }

pub typed_read : (table : Table) (v : ℕ) (t : Thread) → TypedThread t → TypedThread (read table v t)
unfolding read
typed_read table v t y = typed_push _ _ _ (typed_noted (source_of t v) v (read_from (source_of t v) table.registers t v) (get_or table.counts v 0) t y)

pub typed_write : (v : ℕ) (t : Thread) → TypedThread t → TypedThread (write v t)
unfolding write
typed_write v t y = record { cells = y.cells; readlog = y.readlog; writelog = length-set t.writelog v (below t 1) ∙ y.writelog; readcounts = y.readcounts }

pub typed_closed : (place height : ℕ) (t : Thread) → height ≤ 64 → TypedThread t → TypedThread (closed place height t)
unfolding closed
typed_closed place height t l y =
    let c = y.cells in
    let a : length (take height t.cells) ≡ height = length-take-le height t.cells (omega arith) in
    record {
      cells = filled (take height t.cells) (64 - height) _ (omega arith);
      readlog = zeros_long;
      readcounts = refl;
      writelog = zeros_long;
    }
  where
    filled : (ns : List ℤ) (k : ℕ) (n : ℤ) → length ns + k ≡ 64 → length (ns ++ replicate k n) ≡ 64
    filled ns k n e = length-append ns (replicate k n) ∙ (let b = length-replicate k n in omega arith)

pub typed_spawned : (start end : ℕ) → TypedThread (spawned start end)
unfolding spawned
typed_spawned start end = record { cells = zeros_long; readlog = zeros_long; writelog = zeros_long; readcounts = refl }

-- another last rule and number of send-backs
pub typed_moved : (rule backs : ℕ) (t : Thread) → TypedThread t → TypedThread (with_rule rule backs t)
typed_moved rule backs t y = record { cells = y.cells; readlog = y.readlog; writelog = y.writelog; readcounts = y.readcounts }

unfoldable pub placed_moved : {bytes : List ℕ} (rule backs : ℕ) (t : Thread) → Placed bytes t → Placed bytes (with_rule rule backs t)
placed_moved rule backs t p =
    record {
      walked = p.walked;
      walks = p.walks;
      height = p.height;
      begin = p.begin;
      base = p.base;
      over = p.over;
      no_reads = p.no_reads;
      no_writes = p.no_writes;
      reads_free = p.reads_free;
      writes_free = p.writes_free;
      cells_free = p.cells_free;
      counts_free = p.counts_free;
    }

-- ---- places
module _ {bytes : List ℕ} (t : Thread) (p : Placed bytes t) (inside : t.place < t.end) where
  -- a cell above the new top is as it was
  pub pushed_free : (n : ℤ) (i : ℕ) → t.height < i → get_or t.cells i (pos 0) ≡ pos 0 → get_or (set t.cells t.height n) i (pos 0) ≡ pos 0
  pushed_free n i l f = get_or-set_other t.cells t.height i n (pos 0) (λ e. absurd (omega arith)) ∙ f

  -- PUSH, and FORK's 0
  unfoldable pub placed_push : (op : Op) (n : ℤ) → op_at (drop t.place bytes) ≡ done op → (walk_op op t.place p.walked).height ≡ suc p.walked.height → (walk_op op t.place p.walked).begin ≡ p.walked.begin → (walk_op op t.place p.walked).base ≡ p.walked.base → (walk_op op t.place p.walked).adds ≡ p.walked.adds → Placed bytes (push n (next_place op t.place) t)
  unfolding push
  placed_push op n e h b c a =
      record {
        walked = walk_op op t.place p.walked;
        walks = passes p.walks inside e;
        height = ap suc p.height ∙ sym h;
        begin = p.begin ∙ sym b;
        base = p.base ∙ sym c;
        over = let o = p.over in omega arith;
        no_reads = λ z. p.no_reads (sym b ∙ z);
        no_writes = λ z. p.no_writes (sym b ∙ z);
        reads_free = p.reads_free;
        writes_free = p.writes_free;
        cells_free = λ i l. pushed_free n i (omega arith) (p.cells_free i (omega arith));
        counts_free = p.counts_free;
      }

  unfoldable pub placed_add : (sum : Rule) → op_at (drop t.place bytes) ≡ done code.add → 2 ≤ t.height → t.height ≤ length t.cells → Placed bytes (add sum t)
  unfolding add walk_op next_place
  placed_add sum e two room =
      record {
        walked = walk_op code.add t.place p.walked;
        walks = passes p.walks inside e;
        height = ap (λ (h : ℕ). h - 1) p.height;
        begin = p.begin;
        base = p.base;
        over = noted_low;
        no_reads = p.no_reads;
        no_writes = p.no_writes;
        reads_free = p.reads_free;
        writes_free = p.writes_free;
        cells_free = above;
        counts_free = p.counts_free;
      }
    where
      most_one : (b : Bool) → cond b 1 0 ≤ 1
      most_one true = omega arith
      most_one false = omega arith

      counts : (b : Bool) (over adds n : ℕ) → n ≤ 1 → over ≤ adds → (b ≡ true → adds ≡ 0) → cond b over (over + n) ≤ cond b 0 (suc adds)
      counts true over adds n l o z = let y = z refl in omega arith
      counts false over adds n l o z = omega arith

      noted_low : sum_noted t ≤ cond (eqb p.walked.begin 0) 0 (suc p.walked.adds)
      noted_low =
          subst (λ (k : ℕ). cond (eqb k 0) t.over (t.over + over_of (below t 2) (below t 1)) ≤ cond (eqb p.walked.begin 0) 0 (suc p.walked.adds)) (sym p.begin)
          (counts (eqb p.walked.begin 0) t.over p.walked.adds (over_of (below t 2) (below t 1)) (most_one (overflows (below t 2) (below t 1))) p.over (λ z. no_adds bytes t.start t.end p.walks (eqb-true p.walked.begin 0 z)))

      once : List ℤ
      once = set t.cells (t.height - 2) (sum (below t 2) (below t 1))

      above : (i : ℕ) → t.height - 1 ≤ i → get_or (set (set t.cells (t.height - 2) (sum (below t 2) (below t 1))) (t.height - 1) (pos 0)) i (pos 0) ≡ pos 0
      above i l = at (dec_lt (t.height - 1) i)
        where
          at : Dec (t.height - 1 < i) → get_or (set once (t.height - 1) (pos 0)) i (pos 0) ≡ pos 0
          at (yes less) = get_or-set_other once (t.height - 1) i (pos 0) (pos 0) (λ x. absurd (omega arith)) ∙ (get_or-set_other t.cells (t.height - 2) i (sum (below t 2) (below t 1)) (pos 0) (λ x. absurd (omega arith)) ∙ p.cells_free i (omega arith))
          at (no more) =
              let x : i ≡ t.height - 1 = omega arith in
              let s = length-set t.cells (t.height - 2) (sum (below t 2) (below t 1)) in
              ap (λ (n : ℕ). get_or (set once (t.height - 1) (pos 0)) n (pos 0)) x ∙ get_or-set_same once (t.height - 1) (pos 0) (pos 0) (omega arith)

  not_closed : {A : Type 0} → 1 ≤ t.begin → p.walked.begin ≡ 0 → A
  not_closed open' z = absurd (let b = p.begin in omega arith)

  noted_free : (v : ℕ) → v < 64 → (n : ℤ) (u : ℕ) → member (with t.reads v) u ≡ false → get_or (set t.readlog v n) u (pos 0) ≡ pos 0
  noted_free v small n u m =
      let ne : u ≡ v → ⊥ = λ x. let f : member (with t.reads v) v ≡ false = subst (λ (k : ℕ). member (with t.reads v) k ≡ false) x m in absurd (let g = member_same t.reads v small in let z : ◌≡◌ {A = ℕ} 0 1 = cc in omega arith) in
      get_or-set_other t.readlog v u n (pos 0) ne ∙ p.reads_free u (sym (member_other t.reads v u ne) ∙ m)

  counted_free : (v : ℕ) → v < 64 → (k : ℕ) (u : ℕ) → member (with t.reads v) u ≡ false → get_or (set t.readcounts v k) u 0 ≡ 0
  counted_free v small k u m =
      let ne : u ≡ v → ⊥ = λ x. let f : member (with t.reads v) v ≡ false = subst (λ (k : ℕ). member (with t.reads v) k ≡ false) x m in absurd (let g = member_same t.reads v small in let z : ◌≡◌ {A = ℕ} 0 1 = cc in omega arith) in
      get_or-set_other t.readcounts v u k 0 ne ∙ p.counts_free u (sym (member_other t.reads v u ne) ∙ m)

  -- READ, a transaction being open
  placed_noted : (v : ℕ) → v < 64 → op_at (drop t.place bytes) ≡ done (code.read v) → 1 ≤ t.begin → (from : Source) (n : ℤ) (k : ℕ) → Placed bytes (push n (t.place + 2) (noted from v n k t))
  unfolding push walk_op next_place
  placed_noted v small e open' from_writes n k =
      record {
        walked = walk_op (code.read v) t.place p.walked;
        walks = passes p.walks inside e;
        height = ap suc p.height;
        begin = p.begin;
        base = p.base;
        over = p.over;
        no_reads = not_closed open';
        no_writes = not_closed open';
        reads_free = p.reads_free;
        writes_free = p.writes_free;
        cells_free = λ i l. pushed_free n i (omega arith) (p.cells_free i (omega arith));
        counts_free = p.counts_free;
      }
  placed_noted v small e open' from_reads n k =
      record {
        walked = walk_op (code.read v) t.place p.walked;
        walks = passes p.walks inside e;
        height = ap suc p.height;
        begin = p.begin;
        base = p.base;
        over = p.over;
        no_reads = not_closed open';
        no_writes = not_closed open';
        reads_free = p.reads_free;
        writes_free = p.writes_free;
        cells_free = λ i l. pushed_free n i (omega arith) (p.cells_free i (omega arith));
        counts_free = p.counts_free;
      }
  placed_noted v small e open' from_table n k =
      record {
        walked = walk_op (code.read v) t.place p.walked;
        walks = passes p.walks inside e;
        height = ap suc p.height;
        begin = p.begin;
        base = p.base;
        over = p.over;
        no_reads = not_closed open';
        no_writes = not_closed open';
        reads_free = noted_free v small _;
        writes_free = p.writes_free;
        cells_free = λ i l. pushed_free n i (omega arith) (p.cells_free i (omega arith));
        counts_free = counted_free v small _;
      }

  pub placed_read : (table : Table) (v : ℕ) → v < 64 → op_at (drop t.place bytes) ≡ done (code.read v) → 1 ≤ t.begin → Placed bytes (read table v t)
  unfolding read
  placed_read table v small e open' = placed_noted v small e open' (source_of t v) (read_from (source_of t v) table.registers t v) (get_or table.counts v 0)

  -- READ, COMMIT and a send-back pass no FORK, and of these only COMMIT passes a COMMIT
  pub read_kids : (table : Table) (v : ℕ) (small : v < 64) (e : op_at (drop t.place bytes) ≡ done (code.read v)) (open' : 1 ≤ t.begin) → (placed_read table v small e open').walked.children ≡ p.walked.children
  unfolding placed_read read placed_noted walk_op
  read_kids table v small e open' = go (source_of t v) (read_from (source_of t v) table.registers t v) (get_or table.counts v 0)
    where
      go : (from : Source) (n : ℤ) (k : ℕ) → (placed_noted v small e open' from n k).walked.children ≡ p.walked.children
      go from_writes n k = refl
      go from_reads n k = refl
      go from_table n k = refl

  pub read_commits : (table : Table) (v : ℕ) (small : v < 64) (e : op_at (drop t.place bytes) ≡ done (code.read v)) (open' : 1 ≤ t.begin) → (placed_read table v small e open').walked.commits ≡ p.walked.commits
  unfolding placed_read read placed_noted walk_op
  read_commits table v small e open' = go (source_of t v) (read_from (source_of t v) table.registers t v) (get_or table.counts v 0)
    where
      go : (from : Source) (n : ℤ) (k : ℕ) → (placed_noted v small e open' from n k).walked.commits ≡ p.walked.commits
      go from_writes n k = refl
      go from_reads n k = refl
      go from_table n k = refl

  unfoldable pub placed_write : (v : ℕ) → v < 64 → op_at (drop t.place bytes) ≡ done (code.write v) → 1 ≤ t.begin → Placed bytes (write v t)
  unfolding write walk_op next_place
  placed_write v small e open' =
      record {
        walked = walk_op (code.write v) t.place p.walked;
        walks = passes p.walks inside e;
        height = p.height;
        begin = p.begin;
        base = p.base;
        over = p.over;
        no_reads = not_closed;
        no_writes = not_closed;
        reads_free = p.reads_free;
        writes_free = written_free;
        cells_free = p.cells_free;
        counts_free = p.counts_free;
      }
    where
      not_closed : {A : Type 0} → p.walked.begin ≡ 0 → A
      not_closed z = absurd (let b = p.begin in omega arith)

      written_free : (u : ℕ) → member (with t.writes v) u ≡ false → get_or (set t.writelog v (below t 1)) u (pos 0) ≡ pos 0
      written_free u m =
          let ne : u ≡ v → ⊥ = λ x. let f : member (with t.writes v) v ≡ false = subst (λ (k : ℕ). member (with t.writes v) k ≡ false) x m in absurd (let g = member_same t.writes v small in let z : ◌≡◌ {A = ℕ} 0 1 = cc in omega arith) in
          get_or-set_other t.writelog v u (below t 1) (pos 0) ne ∙ p.writes_free u (sym (member_other t.writes v u ne) ∙ m)

  unfoldable pub placed_begin : op_at (drop t.place bytes) ≡ done code.begin → 1 ≤ t.place → Placed bytes (begin t)
  unfolding begin walk_op next_place
  placed_begin e there =
      record {
        walked = walk_op code.begin t.place p.walked;
        walks = passes p.walks inside e;
        height = p.height;
        begin = refl;
        base = p.height;
        over = omega arith;
        no_reads = λ z. refl;
        no_writes = λ z. refl;
        reads_free = λ v m. get_d_zeros 64 v;
        writes_free = λ v m. get_d_zeros 64 v;
        cells_free = p.cells_free;
        counts_free = λ v m. get_d_unwritten 64 v;
      }

  -- a COMMIT that takes effect
  unfoldable pub placed_commit : op_at (drop t.place bytes) ≡ done code.commit → Placed bytes (closed (t.place + 1) t.height t)
  unfolding closed walk_op next_place
  placed_commit e =
      record {
        walked = walk_op code.commit t.place p.walked;
        walks = passes p.walks inside e;
        height = p.height;
        begin = refl;
        base = refl;
        over = omega arith;
        no_reads = λ z. refl;
        no_writes = λ z. refl;
        reads_free = λ v m. get_d_zeros 64 v;
        writes_free = λ v m. get_d_zeros 64 v;
        cells_free = λ n l. closed_above t.height t.cells (64 - t.height) n (omega arith);
        counts_free = λ v m. get_d_unwritten 64 v;
      }

  pub commit_kids : (e : op_at (drop t.place bytes) ≡ done code.commit) → (placed_commit e).walked.children ≡ p.walked.children
  unfolding placed_commit walk_op
  commit_kids e = refl

  pub commit_commits : (e : op_at (drop t.place bytes) ≡ done code.commit) → (placed_commit e).walked.commits ≡ suc p.walked.commits
  unfolding placed_commit walk_op
  commit_commits e = refl

-- a send-back
unfoldable pub placed_back : {bytes : List ℕ} (t : Thread) (w : Walked) → t.base ≡ w.base → Walks bytes t.start t.end t.begin (undone w) → Placed bytes (closed t.begin t.base t)
unfolding closed
placed_back t w e ws =
    record {
      walked = undone w;
      walks = ws;
      height = e;
      begin = refl;
      base = refl;
      over = omega arith;
      no_reads = λ z. refl;
      no_writes = λ z. refl;
      reads_free = λ v m. get_d_zeros 64 v;
      writes_free = λ v m. get_d_zeros 64 v;
      cells_free = λ n l. closed_above t.base t.cells (64 - t.base) n (omega arith);
      counts_free = λ v m. get_d_unwritten 64 v;
    }

pub back_kids : {bytes : List ℕ} (t : Thread) (w : Walked) (e : t.base ≡ w.base) (ws : Walks bytes t.start t.end t.begin (undone w)) → (placed_back t w e ws).walked.children ≡ w.children
unfolding placed_back
back_kids t w e ws = refl

pub back_commits : {bytes : List ℕ} (t : Thread) (w : Walked) (e : t.base ≡ w.base) (ws : Walks bytes t.start t.end t.begin (undone w)) → (placed_back t w e ws).walked.commits ≡ w.commits
unfolding placed_back
back_commits t w e ws = refl

-- a new thread
unfoldable pub placed_spawned : (bytes : List ℕ) (start end : ℕ) → Placed bytes (spawned start end)
unfolding spawned
placed_spawned bytes start end =
    record {
      walked = unmoved;
      walks = starts;
      height = refl;
      begin = refl;
      base = refl;
      over = omega arith;
      no_reads = λ z. refl;
      no_writes = λ z. refl;
      reads_free = λ v m. get_d_zeros 64 v;
      writes_free = λ v m. get_d_zeros 64 v;
      cells_free = λ n l. get_d_zeros 64 n;
      counts_free = λ v m. get_d_unwritten 64 v;
    }
