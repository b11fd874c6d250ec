-- The whole pass: what is known before its loop, and what is written behind it. Assumes nothing.
use Prim.Native.Nat.{ℕ, suc, ◌+◌, ◌*◌, ◌≤◌}
use mathlib.Core.Path.{◌≡◌, refl, sym, ap, subst, ◌∙◌}
use mathlib.Core.Bool.{false, not}
use mathlib.Core.List.{List, [], ◌++◌, append-nil}
use native.Mathlib.Omega.{arith}
use lib.Dec.{ltb}
use lib.ListN.{length, drop, get_or, length-append, drop_of_length-le}
use borrow.Author.Tests.{ltb-false, not-false}
use Rattle.decompiler.specs.InnerParts.{job_header}
use Rattle.delivery.specs.Delivered.{onto}
use Rattle.decompiler.specs.declared.Pass.{Pass}
use Rattle.decompiler.specs.InnerState.{first_state}
use Rattle.decompiler.specs.InnerWalk.{Walk, Restorable}
use Rattle.delivery.proofs.Places.{onto_length, onto_onto}
use Rattle.decompiler.proofs.Next.{text_at_end}
use Rattle.decompiler.proofs.Follow.{small, out_length}
use Rattle.code.specs.Reader.{read_ops, sized, code_marked, read_code_tree, read_code}
use Rattle.code.proofs.Flat.{code-length}
use Rattle.code.proofs.ReadBack.{onward_from, same, sized_back, read_short, read_is_code}
use Rattle.code.specs.InnerParts.{job_text, forks_i}
use Rattle.script.specs.Tree.{Tran, ValT, AddT, Read, Write, Proc, ValP, AddP, Atomic, Fork}
use Rattle.script.specs.Count.{nodes_t, nodes_p, depth_p, forks, code_t, code_p, code_length}
use Rattle.script.specs.Bytes.{Bytes, bytes16, bytes_p, job_mark, job_bytes}
use Rattle.script.specs.Outcome.{done}
use Rattle.script.specs.Jobs.{Job, number16}
use Rattle.script.specs.Reader.{taken}
use Rattle.script.proofs.Accepts.{passed}
use Rattle.script.proofs.Numbers.{bytes16_number16}

code_small_t : (t : Tran) → code_t t ≤ 5 * nodes_t t
unfolding nodes_t code_t
code_small_t (ValT n) = omega arith
code_small_t (AddT a b) = omega (arith, code_small_t a, code_small_t b)
code_small_t (Read v) = omega arith
code_small_t (Write v t) = omega (arith, code_small_t t)

code_small_p : (p : Proc) → code_p p ≤ 5 * nodes_p p
unfolding nodes_p code_p
code_small_p (ValP n) = omega arith
code_small_p (AddP a b) = omega (arith, code_small_p a, code_small_p b)
code_small_p (Atomic t) = omega (arith, code_small_t t)
code_small_p (Fork p) = omega (arith, code_small_p p)

-- what reading the code has found
pub record Reads (code : List ℕ) (j : Job) : Type 0 where
  pub long : 5 ≤ length code
  pub version : j.version ≡ number16 code 3
  pub reads : read_ops (suc (length code)) false [] [] 5 (drop 5 code) ≡ done j.tree
  pub few : nodes_p j.tree ≤ 1000
  pub flat : depth_p j.tree ≤ 64
  pub narrow : forks j.tree ≤ 15

pub code_reads : (code : List ℕ) (j : Job) → read_code code ≡ done j → Reads code j
unfolding read_code_tree
code_reads code j e =
    let t₁ = passed (ltb (length code) 5) 11 0 _ (read_short code j e).0 in
    let t₂ = passed (not (code_marked code)) 11 0 _ t₁.1 in
    let t₃ = passed (not (taken (number16 code 3))) 11 0 _ t₂.1 in
    let w = onward_from _ (read_ops (suc (length code)) false [] [] 5 (drop 5 code)) j t₃.1 in
    let p = w.before in
    let t₄ = passed (not (sized p)) 11 0 _ w.becomes in
    let l = sized_back p (not-false _ t₄.0) in
    subst
    (Reads code)
    (same t₄.1)
    (record {
      long = ltb-false (length code) 5 t₁.0;
      version = refl;
      reads = w.was;
      few = l.0;
      flat = l.1;
      narrow = l.2;
    })

header_length : (code : List ℕ) (nodes : ℕ) → length (job_header code nodes) ≡ 7
unfolding job_header job_mark bytes16
header_length code nodes = refl

-- the header and the nodes are the job
header_job : (code : List ℕ) (j : Job) (nodes : ℕ) → Bytes code → Reads code j → nodes ≡ nodes_p j.tree → job_header code nodes ++ bytes_p j.tree ≡ job_bytes j.version j.tree
unfolding job_header job_bytes job_mark
header_job code j nodes b r n =
    rw (n, r.version, bytes16_number16 (get_or code 3 0) (get_or code 4 0) (b.small 3 (omega (arith, r.long))) (b.small 4 (omega (arith, r.long))))

-- the loop's invariant: the job that is read, and how far the pass has come
pub record PassInv (code : List ℕ) (nodes : ℕ) (before out : List ℕ) (s : Pass) : Type 0 where
  pub job : Job
  pub read : read_code code ≡ done job
  pub count : nodes ≡ nodes_p job.tree
  pub walk : Walk code (job_header code nodes) before job.tree out s

module _ (code : List ℕ) (nodes : ℕ) (before : List ℕ) (bytes : Bytes code) (r : Restorable code nodes before) where
  reading : Reads code r.job
  reading = code_reads code r.job r.read

  room : 7 + length (bytes_p r.job.tree) ≤ length before
  room = omega (arith, r.room, ap length (header_job code r.job nodes bytes reading r.count), length-append (job_header code nodes) (bytes_p r.job.tree), header_length code nodes)

  pub header_fits : (5 ≤ length code) × (7 ≤ length before)
  header_fits = (reading.long, omega (arith, room))

  short : length code ≤ 65536
  unfolding code_length
  short =
      let c = read_is_code code r.job bytes r.read in
      let n : length code ≡ 5 + code_p r.job.tree = ap length c.text ∙ code-length r.job in
      omega (arith, code_small_p r.job.tree, reading.few)

  pub inv_start : (out : List ℕ) → out ≡ onto (job_header code nodes) before → (s : Pass) → s ≡ first_state → PassInv code nodes out out s
  unfolding job_text forks_i
  inv_start out t s e =
      let long : length out ≡ length before = ap length t ∙ onto_length (job_header code nodes) before (omega (arith, header_length code nodes, room)) in
      record {
        job = r.job;
        read = r.read;
        count = r.count;
        walk = subst (Walk code (job_header code nodes) out r.job.tree out) (sym e) (record {
          items = [];
          open' = [];
          fuel = suc (length code);
          stands = record {
            known = record {
              bytes = bytes;
              short = short;
              seven = header_length code nodes;
              flat = reading.flat;
              narrow = reading.narrow;
              room = omega (arith, room);
            };
            reads = reading.reads;
            sorted = tt;
            high = refl;
            starts = tt;
            many = refl;
            ends = tt;
            few = omega arith;
            size = refl;
            text = front out t;
            wide = refl;
            narrow = refl;
          };
        });
      }
    where
      front : (l : List ℕ) → l ≡ onto (job_header code nodes) before → l ≡ onto (job_header code nodes ++ []) l
      front l q =
          let a = onto_onto (job_header code nodes) [] before in
          let b : onto (job_header code nodes ++ []) before ≡ onto (job_header code nodes) before = ap (λ (x : List ℕ). onto x before) (append-nil (job_header code nodes)) in
          q ∙ sym (ap (onto (job_header code nodes ++ [])) q ∙ a ∙ b)

  -- the output keeps its length
  pub inv_length : (first out : List ℕ) (s : Pass) → first ≡ onto (job_header code nodes) before → PassInv code nodes first out s → length out ≡ length before
  inv_length first out s t inv =
      let w = inv.walk in
      let h = w.stands in
      let now = small h.known w.fuel s.inside w.items w.open' s.place (drop s.place code) h.reads h.few in
      out_length h.known w.items w.open' out now h.text ∙ ap length t ∙ onto_length (job_header code nodes) before (omega (arith, header_length code nodes, room))

  -- the output behind the loop
  pub inv_end : (first out : List ℕ) (s : Pass) → first ≡ onto (job_header code nodes) before → PassInv code nodes first out s → length code ≤ s.place → (j : Job) → read_code code ≡ done j → out ≡ onto (job_bytes j.version j.tree) before
  inv_end first out s t inv l j e =
      let k : inv.job ≡ j = same (sym inv.read ∙ e) in
      let w = inv.walk in
      let none : drop s.place code ≡ [] = drop_of_length-le code l in
      let d : read_ops w.fuel s.inside w.items w.open' s.place [] ≡ done inv.job.tree = rw none at w.stands.reads in
      let text : job_text w.items ≡ bytes_p inv.job.tree = text_at_end w.fuel s.inside w.items w.open' s.place inv.job.tree d in
      let whole : job_header code nodes ++ bytes_p inv.job.tree ≡ job_bytes inv.job.version inv.job.tree = header_job code inv.job nodes bytes (code_reads code inv.job inv.read) inv.count in
      let e₁ : out ≡ onto (job_header code nodes ++ bytes_p inv.job.tree) first = w.stands.text ∙ ap (λ (x : List ℕ). onto (job_header code nodes ++ x) first) text in
      let e₂ : onto (job_header code nodes ++ bytes_p inv.job.tree) first ≡ onto (job_header code nodes ++ bytes_p inv.job.tree) before = ap (onto (job_header code nodes ++ bytes_p inv.job.tree)) t ∙ onto_onto (job_header code nodes) (bytes_p inv.job.tree) before in
      let e₃ : onto (job_header code nodes ++ bytes_p inv.job.tree) before ≡ onto (job_bytes inv.job.version inv.job.tree) before = ap (λ (x : List ℕ). onto x before) whole in
      e₁ ∙ e₂ ∙ e₃ ∙ ap (λ (x : Job). onto (job_bytes x.version x.tree) before) k
