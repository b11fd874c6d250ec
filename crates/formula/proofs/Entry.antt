-- What `formula` answers. Assumes nothing.
use Prim.Native.Nat.{ℕ, suc, ◌+◌, ◌*◌, ◌-◌, ◌/◌, ◌%◌, ◌≤◌, ◌<◌}
use mathlib.Core.Path.{◌≡◌, refl, sym, ap, ◌∙◌}
use mathlib.Core.Bool.{Bool, true, false, cond}
use mathlib.Core.List.{List, ◌∷◌, ◌++◌}
use native.Mathlib.Omega.{arith}
use Rattle.std.specs.Prelude.{Ok, Err}
use lib.Dec.{eqb}
use lib.ListN.{length, drop, take, get_or, length-append}
use lib.Seq.{take_at}
use borrow.Author.Tests.{lt-ltb, le-ltb, le-leb, lt-leb}
use Rattle.delivery.specs.Delivered.{Delivered, delivered, onto}
use Rattle.delivery.specs.InnerPlaces.{placed_at}
use Rattle.delivery.proofs.Places.{onto_placed}
use Rattle.script.specs.Tree.{Tran, ValT, AddT, Read, Write, Proc, ValP, AddP, Atomic, Fork, process}
use Rattle.script.specs.Count.{nodes_p, nodes_t}
use Rattle.script.specs.Bytes.{bytes_p, bytes_t, node_bytes, bytes16, bytes32, job_mark, job_bytes}
use Rattle.script.specs.Outcome.{refused, done}
use Rattle.script.specs.Reader.{read_job, read_tree, job_marked, taken}
use Rattle.grammar.specs.Reader.{text, opens_s, after, stuck, step, step_after, closed, finish, end_after, fails, read_from, begin, placed, read_text}
use Rattle.grammar.proofs.Places
use Rattle.parsing.specs.InnerParsing.{Cursor, SumSo, SumTo}
use Rattle.formula.specs.FormulaTo.{if_accepted, formula_of, formula_to}

-- ---- what is no script
pub refused_text : (bs before : List ℕ) (i : ℕ) → read_text bs ≡ refused 15 i → formula_to bs before ≡ record { answer = refused 15 i; output = before }
unfolding formula_to formula_of delivered
refused_text bs before i e = rw (e)

pub entry_long : (bs before : List ℕ) → 32768 < length bs → formula_to bs before ≡ record { answer = refused 15 32768; output = before }
unfolding read_text
entry_long bs before h = refused_text bs before 32768 (rw (lt-ltb 32768 (length bs) h))

short_text : (bs : List ℕ) → length bs ≤ 32768 → read_text bs ≡ placed (length bs) (read_from begin bs)
unfolding read_text
short_text bs h = rw (le-ltb 32768 (length bs) h)

fails_text : (bs : List ℕ) (i : ℕ) → length bs ≤ 32768 → i ≤ length bs → read_from begin bs ≡ fails (length bs - i) → read_text bs ≡ refused 15 i
fails_text bs i h l e =
    let n : length bs - (length bs - i) ≡ i = omega arith in
    short_text bs h ∙ (ap (placed (length bs)) e ∙ ap (refused 15) n)

pub entry_failed : (bs before : List ℕ) (h : length bs ≤ 32768) (at : ℕ) (job out : List ℕ) → SumTo process bs 0 7 0 0 (Err at) job out → formula_to bs before ≡ record { answer = refused 15 at; output = before }
unfolding opens_s
entry_failed bs before h at job out s = refused_text bs before at (fails_text bs at h s.within (s.so text refl))

module _ (bs before : List ℕ) (h : length bs ≤ 32768) (r : Cursor) (job out : List ℕ) (s : SumTo process bs 0 7 0 0 (Ok r) job out) where
  pub so : SumSo process bs 0 7 0 0 (Ok r) job out
  so = s.so

  to_end : read_from begin bs ≡ read_from (after so.0 text) (drop r.at bs)
  unfolding opens_s
  to_end = so.1 text refl

  pub entry_left : r.at < length bs → formula_to bs before ≡ record { answer = refused 15 r.at; output = before }
  unfolding step step_after closed
  entry_left l = refused_text bs before r.at (fails_text bs r.at h s.within (to_end ∙ Places.halt bs (after so.0 text) r.at l (rw (so.2.no_blank l, so.2.no_plus l) (nothing (eqb (get_or bs r.at 0) 41)))))
    where
      nothing : (b : Bool) → cond b stuck stuck ≡ stuck
      nothing true = refl
      nothing false = refl

  whole_text : length bs ≤ r.at → read_text bs ≡ done so.0
  unfolding finish end_after
  whole_text l = short_text bs h ∙ ap (placed (length bs)) (to_end ∙ Places.at-end bs (after so.0 text) r.at l)

  pub entry_whole : length bs ≤ r.at → formula_to bs before ≡ delivered (if_accepted (job_bytes 1 so.0)) before
  unfolding formula_to formula_of
  entry_whole l = rw (whole_text l)

  pub entry_few : r.nodes ≡ nodes_p so.0
  entry_few = so.4.counted ∙ (let n : 0 + nodes_p so.0 ≡ nodes_p so.0 = omega arith in n)

  pub entry_small : nodes_p so.0 ≤ 32768
  entry_small = omega (arith, entry_few, so.4.few, s.within)

-- ---- too many nodes
pub too_many : (p : Proc) (before : List ℕ) → 1000 < nodes_p p → nodes_p p ≤ 32768 → delivered (if_accepted (job_bytes 1 p)) before ≡ record { answer = refused 4 5; output = before }
unfolding delivered read_job read_tree job_bytes job_mark bytes16 job_marked taken
too_many p before h l =
    let n : nodes_p p / 256 % 256 * 256 + nodes_p p % 256 ≡ nodes_p p = omega arith in
    rw (le-ltb (suc (suc (suc (suc (suc (suc (suc (length (bytes_p p))))))))) 7 (omega arith), n, le-leb 1 (nodes_p p) (omega arith), lt-leb (nodes_p p) 1000 h)

-- ---- how long a job is
long_tran : (t : Tran) → length (bytes_t t) ≤ 3 * nodes_t t + 2
unfolding bytes_t node_bytes bytes32 nodes_t
long_tran (ValT n) = omega arith
long_tran (AddT a b) = omega (arith, length-append (bytes_t a) (bytes_t b), long_tran a, long_tran b)
long_tran (Read v) = omega arith
long_tran (Write v t) = omega (arith, long_tran t)

pub long_proc : (p : Proc) → length (bytes_p p) ≤ 3 * nodes_p p + 2
unfolding bytes_p node_bytes bytes32 nodes_p
long_proc (ValP n) = omega arith
long_proc (AddP a b) = omega (arith, length-append (bytes_p a) (bytes_p b), long_proc a, long_proc b)
long_proc (Atomic t) = omega (arith, long_tran t)
long_proc (Fork p) = omega (arith, long_proc p)

-- the job that is built
pub built_job : (p : Proc) (job out last : List ℕ) (size : ℕ) → length job ≡ 3009 → size ≡ 7 + length (bytes_p p) → nodes_p p ≤ 1000 → out ≡ placed_at 7 (bytes_p p) job → last ≡ onto (0x57 ∷ 0x53 ∷ 0x4A ∷ 0 ∷ 1 ∷ bytes16 (nodes_p p)) out → take size last ≡ job_bytes 1 p
unfolding job_bytes job_mark bytes16
built_job p job out last size l z n e f =
    let hs : List ℕ = 0x57 ∷ 0x53 ∷ 0x4A ∷ 0 ∷ 1 ∷ bytes16 (nodes_p p) in
    let g : last ≡ onto (0x57 ∷ 0x53 ∷ 0x4A ∷ 0 ∷ 1 ∷ bytes16 (nodes_p p)) (placed_at 7 (bytes_p p) job) = f ∙ ap (onto (0x57 ∷ 0x53 ∷ 0x4A ∷ 0 ∷ 1 ∷ bytes16 (nodes_p p))) e in
    let w : last ≡ onto ((0x57 ∷ 0x53 ∷ 0x4A ∷ 0 ∷ 1 ∷ bytes16 (nodes_p p)) ++ bytes_p p) job = g ∙ onto_placed 7 (0x57 ∷ 0x53 ∷ 0x4A ∷ 0 ∷ 1 ∷ bytes16 (nodes_p p)) (bytes_p p) job refl (omega arith) in
    ap (take size) w ∙ take_at ((0x57 ∷ 0x53 ∷ 0x4A ∷ 0 ∷ 1 ∷ bytes16 (nodes_p p)) ++ bytes_p p) (drop (length ((0x57 ∷ 0x53 ∷ 0x4A ∷ 0 ∷ 1 ∷ bytes16 (nodes_p p)) ++ bytes_p p)) job) size (omega arith)

-- ---- the ends of `formula` behind a whole text
module _ (bs before : List ℕ) (h : length bs ≤ 32768) (r : Cursor) (job out : List ℕ) (s : SumTo process bs 0 7 0 0 (Ok r) job out) (l : length bs ≤ r.at) where
  pub entry_count : 1000 < r.nodes → formula_to bs before ≡ record { answer = refused 4 5; output = before }
  entry_count n =
      entry_whole bs before h r job out s l ∙ too_many (so bs before h r job out s).0 before (omega (arith, entry_few bs before h r job out s)) (entry_small bs before h r job out s)

  pub entry_fits : r.nodes ≤ 1000 → r.size ≤ 3009
  entry_fits n =
      let w = so bs before h r job out s in
      omega (arith, w.4.sized, long_proc w.0, entry_few bs before h r job out s)

  pub entry_done : (last : List ℕ) (a : Delivered) → length job ≡ 3009 → r.nodes ≤ 1000 → last ≡ onto (0x57 ∷ 0x53 ∷ 0x4A ∷ 0 ∷ 1 ∷ bytes16 r.nodes) out → delivered (if_accepted (take r.size last)) before ≡ a → formula_to bs before ≡ a
  entry_done last a e n z k =
      let w = so bs before h r job out s in
      let q = entry_few bs before h r job out s in
      let b : take r.size last ≡ job_bytes 1 w.0 = built_job w.0 job out last r.size e w.4.sized (omega (arith, q)) (w.4.written (omega (arith, entry_fits n))) (z ∙ ap (λ (n : ℕ). onto (0x57 ∷ 0x53 ∷ 0x4A ∷ 0 ∷ 1 ∷ bytes16 n) out) q) in
      entry_whole bs before h r job out s l ∙ (ap (λ (j : List ℕ). delivered (if_accepted j) before) (sym b) ∙ k)
