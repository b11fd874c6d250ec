-- The COMMITs passed by a list of threads: one number, which a step of a thread raises by what that thread passes, and which is low. Assumes
-- nothing.
use Prim.Native.Nat.{ℕ, zero, suc, ◌+◌, ◌*◌, ◌≤◌, ◌<◌}
use mathlib.Core.Bool.{Bool, true, false, cond}
use mathlib.Core.Path.{◌≡◌, refl, sym, ap, subst, ◌∙◌}
use mathlib.Core.List.{List, [], ◌∷◌}
use mathlib.Core.Option.{Option, none, some}
use native.Mathlib.Omega.{arith}
use native.Mathlib.Decide.{dec_lt}
use lib.ListN.{length, drop, get_or, set, replicate, drop_of_length-le}
use Rattle.code.specs.Ops.{Op, op_at}
use Rattle.code.specs.Ops as code
use Rattle.script.specs.Outcome.{done}
use Rattle.thread.specs.declared.Thread.{Thread}
use Rattle.thread.specs.Threads.{blank, exists, spawned}
use Rattle.machine.specs.Fits.{Walked, unmoved, walk_op, next_place, Walks, starts, passes, CommitsPassed, no_records, of_thread, of_none}
use Rattle.machine.specs.FitTest.{walk_to, commits_of, commits_passed}
use Rattle.machine.proofs.Numbers.{never, blank_absent}
use Rattle.machine.proofs.Walking.{walks_once, next_after, found_walks}

-- an instruction stands at a place of the code
in_code : (bytes : List ℕ) (q : ℕ) {op : Op} → op_at (drop q bytes) ≡ done op → q < length bytes
unfolding op_at
in_code bytes q {op} e = go (dec_lt q (length bytes))
  where
    go : Dec (q < length bytes) → q < length bytes
    go (yes l) = l
    go (no m) =
        let a : drop q bytes ≡ [] = drop_of_length-le bytes {i = q} (omega arith) in
        let b : op_at [] ≡ done op = sym (ap op_at a) ∙ e in
        absurd (let z : ◌≡◌ {A = ℕ} 0 1 = cc in omega arith)

module _ {bytes : List ℕ} where
  -- ---- one number
  pub passed_once : {ts : List Thread} {m n : ℕ} → CommitsPassed bytes ts m → CommitsPassed bytes ts n → m ≡ n
  passed_once no_records no_records = refl
  passed_once (of_thread {t} {ts} {w} {n} e ws p) (of_thread {w = v} {n = k} f vs q) =
      let a : w.commits ≡ v.commits = ap (λ (x : Walked). x.commits) (walks_once bytes t.start t.end ws vs) in
      let b : n ≡ k = passed_once p q in
      omega arith
  passed_once (of_thread e ws p) (of_none f q) = never e f
  passed_once (of_none e p) (of_thread f vs q) = never f e
  passed_once (of_none e p) (of_none f q) = passed_once p q

  another : {ts : List Thread} {m n : ℕ} → m ≡ n → CommitsPassed bytes ts m → CommitsPassed bytes ts n
  another {ts} e p = subst (CommitsPassed bytes ts) e p

  -- ---- a thread goes on, and passes so many more
  pub passed_set :
      {ts : List Thread} {n : ℕ} (i d : ℕ) (t : Thread) {w v : Walked} → CommitsPassed bytes ts n → i < length ts →
      exists (get_or ts i blank) ≡ true → Walks bytes (get_or ts i blank).start (get_or ts i blank).end (get_or ts i blank).place w →
      exists t ≡ true → Walks bytes t.start t.end t.place v → v.commits ≡ d + w.commits → CommitsPassed bytes (set ts i t) (d + n)
  passed_set i d t no_records l e ws f vs q = absurd (omega arith)
  passed_set zero d t {w} {v} (of_thread {t = u} {ts = ts} {w = x} {n = n} g xs p) l e ws f vs q =
      let a : x.commits ≡ w.commits = ap (λ (y : Walked). y.commits) (walks_once bytes u.start u.end xs ws) in
      another (let z : v.commits + n ≡ d + (x.commits + n) = omega arith in z) (of_thread f vs p)
  passed_set zero d t (of_none g p) l e ws f vs q = never e g
  passed_set (suc i) d t (of_thread {t = u} {ts = ts} {w = x} {n = n} g xs p) l e ws f vs q =
      another (let z : x.commits + (d + n) ≡ d + (x.commits + n) = omega arith in z) (of_thread g xs (passed_set i d t p (omega arith) e ws f vs q))
  passed_set (suc i) d t (of_none g p) l e ws f vs q = of_none g (passed_set i d t p (omega arith) e ws f vs q)

  -- ---- a new thread has passed none
  born : (a b : ℕ) → 1 ≤ a → exists (spawned a b) ≡ true → {ts : List Thread} {n : ℕ} → CommitsPassed bytes ts n → CommitsPassed bytes (spawned a b ∷ ts) n
  unfolding spawned
  born a b l e {n = n} p = another (let z : 0 + n ≡ n = omega arith in z) (of_thread e starts p)

  pub passed_new : {ts : List Thread} {n : ℕ} (k a b : ℕ) → CommitsPassed bytes ts n → exists (get_or ts k blank) ≡ false → 1 ≤ a → exists (spawned a b) ≡ true → CommitsPassed bytes (set ts k (spawned a b)) n
  passed_new k a b no_records e l f = no_records
  passed_new zero a b (of_thread g xs p) e l f = never g e
  passed_new zero a b (of_none g p) e l f = born a b l f p
  passed_new (suc k) a b (of_thread g xs p) e l f = of_thread g xs (passed_new k a b p e l f)
  passed_new (suc k) a b (of_none g p) e l f = of_none g (passed_new k a b p e l f)

  pub passed_blanks : (k : ℕ) → CommitsPassed bytes (replicate k blank) 0
  passed_blanks zero = no_records
  passed_blanks (suc k) = of_none blank_absent (passed_blanks k)

  pub passed_root : (a b k : ℕ) → 1 ≤ a → exists (spawned a b) ≡ true → CommitsPassed bytes (spawned a b ∷ replicate k blank) 0
  passed_root a b k l e = born a b l e (passed_blanks k)

  -- ---- each COMMIT is a byte of the code
  commits_low : (start end : ℕ) {p : ℕ} {w : Walked} → Walks bytes start end p w → (w.commits ≤ p) × (w.commits ≤ length bytes)
  unfolding walk_op
  commits_low start end starts = (omega arith, omega arith)
  commits_low start end (passes {place} {w} {op} ws l e) = one op (next_after op place) (in_code bytes place e) (commits_low start end ws)
    where
      one : (op : Op) → place < next_place op place → place < length bytes → (w.commits ≤ place) × (w.commits ≤ length bytes) → ((walk_op op place w).commits ≤ next_place op place) × ((walk_op op place w).commits ≤ length bytes)
      one (code.push n) a b f = let g = f.0 in (omega arith, f.1)
      one code.add a b f = let g = f.0 in (omega arith, f.1)
      one (code.fork size) a b f = let g = f.0 in (omega arith, f.1)
      one code.begin a b f = let g = f.0 in (omega arith, f.1)
      one (code.read v) a b f = let g = f.0 in (omega arith, f.1)
      one (code.write v) a b f = let g = f.0 in (omega arith, f.1)
      one code.commit a b f = let g = f.0 in (omega arith, omega arith)

  pub passed_low : {ts : List Thread} {n : ℕ} → CommitsPassed bytes ts n → n ≤ length ts * length bytes
  passed_low no_records = omega arith
  passed_low (of_thread {t} {ts} {w} {n} e ws p) =
      let a = passed_low p in
      let b = (commits_low t.start t.end ws).1 in
      more (length ts) (length bytes) n w.commits a b
    where
      more : (k m n c : ℕ) → n ≤ k * m → c ≤ m → c + n ≤ suc k * m
      more k m n c l h = let z : suc k * m ≡ m + k * m = suc_times k m in omega arith
        where
          suc_times : (k m : ℕ) → suc k * m ≡ m + k * m
          suc_times k m = omega arith
  passed_low (of_none {t} {ts} {n} e p) =
      let a = passed_low p in
      let z : suc (length ts) * length bytes ≡ length bytes + length ts * length bytes = omega arith in
      omega arith

found_walked : (bytes : List ℕ) (t : Thread) (w : Walked) → walk_to bytes t ≡ some w → Walks bytes t.start t.end t.place w
unfolding walk_to
found_walked bytes t w e = found_walks bytes t.start t.end (suc t.place) t.place t.start unmoved w starts e

-- the number that the test finds is as low
pub found_low : (bytes : List ℕ) (ts : List Thread) → commits_passed bytes ts ≤ length ts * length bytes
unfolding commits_passed
found_low bytes [] = omega arith
found_low bytes (t ∷ ts) = go (exists t) (walk_to bytes t) refl (found_low bytes ts)
  where
    all : suc (length ts) * length bytes ≡ length bytes + length ts * length bytes
    all = omega arith

    go : (b : Bool) (o : Option Walked) → walk_to bytes t ≡ o → commits_passed bytes ts ≤ length ts * length bytes → cond b (commits_of o) 0 + commits_passed bytes ts ≤ suc (length ts) * length bytes
    go false o e l = let z = all in omega arith
    go true none e l = let z = all in omega arith
    go true (some w) e l =
        let z = all in
        let m = (commits_low t.start t.end (found_walked bytes t w e)).1 in
        omega arith
