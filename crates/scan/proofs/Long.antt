-- Why the scan tests the longest transaction: the instructions that its loop counts are those of the tree's code. Assumes nothing.
use Prim.Native.Nat.{ℕ, suc, ◌+◌, ◌≤◌, ◌<◌, max}
use mathlib.Core.Path.{◌≡◌, refl, sym, ap, subst, ◌∙◌}
use mathlib.Core.Bool.{Bool, true, false, cond, ◌||◌}
use mathlib.Core.List.{List, [], ◌∷◌, ◌++◌, append_assoc, append-nil}
use native.Mathlib.Decide.{dec_lt}
use native.Mathlib.Omega.{arith}
use lib.Dec.{eqb, ltb}
use lib.ListN.{length, drop, get_or, length-append}
use lib.Seq.{drop-append_seam, drop-drop, get_or-drop}
use borrow.Author.Tests.{lt-ltb, le-ltb}
use Rattle.scan.specs.InnerView.{ends_long, counted_to, IfRead}
use Rattle.code.specs.Bytes.{code_mark}
use Rattle.code.specs.Ops.{opcode_operand, Op, push, add, read, write, begin, commit, fork}
use Rattle.code.proofs.Ops.{op_bytes}
use Rattle.code.proofs.Flat.{flat_t, flat_p, flat_length_p, compiled_flat}
use Rattle.code.specs.Reader.{read_code_tree}
use Rattle.code.proofs.ReadBack.{IsCodeTree, read_is_code_tree}
use Rattle.script.specs.Tree.{Tran, ValT, AddT, Read, Write, Proc, ValP, AddP, Atomic, Fork}
use Rattle.script.specs.Count.{nodes_t, longest_nodes, code_p}
use Rattle.script.specs.Bytes.{Bytes, bytes16, bytes32}
use Rattle.script.specs.Jobs.{Job}
use Rattle.script.specs.Outcome.{done}

-- ---- a tree's code as a list of instructions

abbrev pub opcode_of : Op → ℕ
opcode_of (push n) = 1
opcode_of add = 2
opcode_of (read v) = 3
opcode_of (write v) = 4
opcode_of begin = 5
opcode_of commit = 6
opcode_of (fork size) = 7

-- the instructions of a tree's code, and then others
unfoldable pub ops_of_t : Tran → List Op → List Op
ops_of_t (ValT n) os = push n ∷ os
ops_of_t (AddT a b) os = ops_of_t a (ops_of_t b (add ∷ os))
ops_of_t (Read v) os = read v ∷ os
ops_of_t (Write v t) os = ops_of_t t (write v ∷ os)

unfoldable pub ops_of_p : Proc → List Op → List Op
ops_of_p (ValP n) os = push n ∷ os
ops_of_p (AddP a b) os = ops_of_p a (ops_of_p b (add ∷ os))
ops_of_p (Atomic t) os = begin ∷ ops_of_t t (commit ∷ os)
ops_of_p (Fork p) os = fork (code_p p) ∷ ops_of_p p os

-- whether one of the transactions in these instructions is too long, so many instructions being behind the last BEGIN
unfoldable pub long_in : (nodes : ℕ) → List Op → Bool
long_in nodes [] = false
long_in nodes (o ∷ os) = ends_long (opcode_of o) nodes || long_in (counted_to (opcode_of o) nodes) os

unfoldable pub texts_of : List Op → List ℕ
texts_of [] = []
texts_of (o ∷ os) = op_bytes o ++ texts_of os

-- ---- the instructions' bytes are the code's

texts_tran : (t : Tran) (os : List Op) → texts_of (ops_of_t t os) ≡ flat_t t ++ texts_of os
unfolding texts_of ops_of_t flat_t op_bytes
texts_tran (ValT n) os = refl
texts_tran (AddT a b) os =
    rw (texts_tran a (ops_of_t b (add ∷ os)), texts_tran b (add ∷ os), append_assoc (flat_t a) (flat_t b ++ (2 ∷ [])) (texts_of os), append_assoc (flat_t b) (2 ∷ []) (texts_of os))
texts_tran (Read v) os = refl
texts_tran (Write v t) os = rw (texts_tran t (write v ∷ os), append_assoc (flat_t t) (4 ∷ v ∷ []) (texts_of os))

texts_proc : (p : Proc) (os : List Op) → texts_of (ops_of_p p os) ≡ flat_p p ++ texts_of os
unfolding texts_of ops_of_p flat_p op_bytes
texts_proc (ValP n) os = refl
texts_proc (AddP a b) os =
    rw (texts_proc a (ops_of_p b (add ∷ os)), texts_proc b (add ∷ os), append_assoc (flat_p a) (flat_p b ++ (2 ∷ [])) (texts_of os), append_assoc (flat_p b) (2 ∷ []) (texts_of os))
texts_proc (Atomic t) os = rw (texts_tran t (commit ∷ os), append_assoc (flat_t t) (6 ∷ []) (texts_of os))
texts_proc (Fork p) os = rw (texts_proc p os, ← flat_length_p p, append_assoc (bytes16 (length (flat_p p))) (flat_p p) (texts_of os))

-- ---- the loop on them

-- a transaction's nodes are counted
long_tran : (t : Tran) (n : ℕ) (os : List Op) → long_in n (ops_of_t t os) ≡ long_in (n + nodes_t t) os
unfolding long_in ops_of_t ends_long counted_to nodes_t
long_tran (ValT z) n os = refl
long_tran (AddT a b) n os =
    let m : n + nodes_t a + nodes_t b + 1 ≡ n + suc (nodes_t a + nodes_t b) = omega arith in
    rw (long_tran a n (ops_of_t b (add ∷ os)), long_tran b (n + nodes_t a) (add ∷ os), m)
long_tran (Read v) n os = refl
long_tran (Write v t) n os =
    let m : n + nodes_t t + 1 ≡ n + suc (nodes_t t) = omega arith in
    rw (long_tran t n (write v ∷ os), m)

-- instructions to which the nodes before them do not matter
abbrev Apart : List Op → Type 0
Apart os = (n : ℕ) → long_in n os ≡ long_in 0 os

add_apart : (os : List Op) → Apart os → Apart (add ∷ os)
unfolding long_in ends_long counted_to
add_apart os apart n = apart (n + 1) ∙ sym (apart (0 + 1))

longer : (a b : ℕ) → ltb 200 (max a b) ≡ ltb 200 a || ltb 200 b
longer a b = go (dec_lt 200 a) (dec_lt 200 b)
  where
    go : Dec (200 < a) → Dec (200 < b) → ltb 200 (max a b) ≡ ltb 200 a || ltb 200 b
    go (yes h) r = rw (lt-ltb 200 a h, lt-ltb 200 (max a b) (omega arith))
    go (no h) (yes l) = rw (le-ltb 200 a (omega arith), lt-ltb 200 b l, lt-ltb 200 (max a b) (omega arith))
    go (no h) (no l) = rw (le-ltb 200 a (omega arith), le-ltb 200 b (omega arith), le-ltb 200 (max a b) (omega arith))

or_assoc : (a b c : Bool) → a || (b || c) ≡ (a || b) || c
or_assoc true b c = refl
or_assoc false b c = refl

-- a process's instructions come to its own test, or to what is behind them
long_proc : (p : Proc) (n : ℕ) (os : List Op) → Apart os → long_in n (ops_of_p p os) ≡ ltb 200 (longest_nodes p) || long_in 0 os
unfolding long_in ops_of_p ends_long counted_to longest_nodes
long_proc (ValP z) n os apart = apart (n + 1)
long_proc (AddP a b) n os apart =
    let next : Apart (ops_of_p b (add ∷ os)) = λ m. long_proc b m (add ∷ os) (add_apart os apart) ∙ sym (long_proc b 0 (add ∷ os) (add_apart os apart)) in
    rw (
      long_proc a n (ops_of_p b (add ∷ os)) next,
      long_proc b 0 (add ∷ os) (add_apart os apart),
      apart (0 + 1),
      longer (longest_nodes a) (longest_nodes b),
    ) (or_assoc (ltb 200 (longest_nodes a)) (ltb 200 (longest_nodes b)) (long_in 0 os))
long_proc (Atomic t) n os apart =
    let e : 0 + nodes_t t ≡ nodes_t t = omega arith in
    rw (long_tran t 0 (commit ∷ os), e, apart (nodes_t t + 1))
long_proc (Fork p) n os apart = long_proc p (n + 1) os apart

whole_long : (p : Proc) → ltb 200 (longest_nodes p) ≡ long_in 0 (ops_of_p p [])
unfolding long_in
whole_long p = sym (long_proc p 0 [] (λ n. refl) ∙ last (ltb 200 (longest_nodes p)))
  where
    last : (b : Bool) → b || false ≡ b
    last true = refl
    last false = refl

-- ---- where the loop stands

-- an instruction's bytes are its opcode and that one's operand
pub first_byte : (o : Op) (rest : List ℕ) → get_or (op_bytes o ++ rest) 0 0 ≡ opcode_of o
unfolding op_bytes
first_byte (push n) rest = refl
first_byte add rest = refl
first_byte (read v) rest = refl
first_byte (write v) rest = refl
first_byte begin rest = refl
first_byte commit rest = refl
first_byte (fork size) rest = refl

pub text_length : (o : Op) → length (op_bytes o) ≡ 1 + opcode_operand (opcode_of o)
unfolding op_bytes opcode_operand bytes16 bytes32
text_length (push n) = refl
text_length add = refl
text_length (read v) = refl
text_length (write v) = refl
text_length begin = refl
text_length commit = refl
text_length (fork size) = refl

-- the instructions behind it are the rest of the code, and come to what the tree comes to
pub record Stands (code : List ℕ) (p : Proc) (place nodes : ℕ) : Type 0 where
  pub behind : List Op
  pub text : drop place code ≡ texts_of behind
  pub ends : place + length (texts_of behind) ≡ length code
  pub same : ltb 200 (longest_nodes p) ≡ long_in nodes behind

stands_first : (code : List ℕ) (j : Job) → IsCodeTree code j → Stands code j.tree 5 0
unfolding code_mark bytes16 texts_of
stands_first code j i =
    let e = texts_proc j.tree [] ∙ append-nil (flat_p j.tree) in
    let c = i.text ∙ compiled_flat j in
    record {
      behind = ops_of_p j.tree [];
      text = ap (drop 5) c ∙ sym e;
      ends = omega (arith, ap length e, ap length c);
      same = whole_long j.tree;
    }

module _ (code : List ℕ) (p : Proc) (place nodes : ℕ) (s : Stands code p place nodes) where
  ends_short : length code ≤ place → ltb 200 (longest_nodes p) ≡ false
  unfolding long_in texts_of
  ends_short h = s.same ∙ go s.behind s.ends
    where
      go : (os : List Op) → place + length (texts_of os) ≡ length code → long_in nodes os ≡ false
      go [] e = refl
      go (o ∷ os) e = absurd (omega (arith, e, text_length o, length-append (op_bytes o) (texts_of os)))

  -- what stands there is the opcode of the first one
  its_opcode : (o : Op) (os : List Op) → drop place code ≡ texts_of (o ∷ os) → get_or code place 0 ≡ opcode_of o
  unfolding texts_of
  its_opcode o os e =
      let z : place + 0 ≡ place = omega arith in
      ap (λ (i : ℕ). get_or code i 0) (sym z) ∙ (sym (get_or-drop place code 0 0) ∙ (ap (λ (l : List ℕ). get_or l 0 0) e ∙ first_byte o (texts_of os)))

  too-long : place < length code → ends_long (get_or code place 0) nodes ≡ true → ltb 200 (longest_nodes p) ≡ true
  unfolding long_in texts_of
  too-long h l = s.same ∙ go s.behind s.text s.ends
    where
      go : (os : List Op) → drop place code ≡ texts_of os → place + length (texts_of os) ≡ length code → long_in nodes os ≡ true
      go [] e m = absurd (omega (arith, m))
      go (o ∷ os) e m = let k : ends_long (opcode_of o) nodes ≡ true = rw (its_opcode o os e) at l in rw k refl

  stands_next : place < length code → ends_long (get_or code place 0) nodes ≡ false → Stands code p (place + (1 + opcode_operand (get_or code place 0))) (counted_to (get_or code place 0) nodes)
  unfolding long_in texts_of
  stands_next h l = go s.behind s.text s.ends s.same
    where
      go : (os : List Op) → drop place code ≡ texts_of os → place + length (texts_of os) ≡ length code → ltb 200 (longest_nodes p) ≡ long_in nodes os → Stands code p (place + (1 + opcode_operand (get_or code place 0))) (counted_to (get_or code place 0) nodes)
      go [] e m n = absurd (omega (arith, m))
      go (o ∷ os) e m n =
          let k = its_opcode o os e in
          let l' : ends_long (opcode_of o) nodes ≡ false = rw k at l in
          rw k (record {
            behind = os;
            text = sym (drop-drop (1 + opcode_operand (opcode_of o)) place code) ∙ (ap (drop (1 + opcode_operand (opcode_of o))) e ∙ (rw (← text_length o) (drop-append_seam (op_bytes o) (texts_of os))));
            ends = omega (arith, m, text_length o, length-append (op_bytes o) (texts_of os));
            same = n ∙ (rw l' refl);
          })

-- ---- the loop's count

counted_low : (opcode nodes place : ℕ) → nodes ≤ place → counted_to opcode nodes ≤ place + (1 + opcode_operand opcode)
unfolding counted_to
counted_low opcode nodes place h = go (eqb opcode 5)
  where
    go : (b : Bool) → cond b 0 (nodes + 1) ≤ place + (1 + opcode_operand opcode)
    go true = omega arith
    go false = omega arith

-- so many instructions are behind the last BEGIN before this place
pub record Counting (code : List ℕ) (place nodes : ℕ) : Type 0 where
  pub low : nodes ≤ place
  pub stands : (j : Job) → read_code_tree code ≡ done j → Stands code j.tree place nodes

pub counting_first : (code : List ℕ) → Bytes code → Counting code 5 0
counting_first code b = record { low = omega arith; stands = λ j e. stands_first code j (read_is_code_tree code j b e) }

module _ {code : List ℕ} {place nodes : ℕ} (c : Counting code place nodes) where
  pub counts_short : length code ≤ place → IfRead code false
  counts_short h j e = ends_short code j.tree place nodes (c.stands j e) h

  module _ (h : place < length code) where
    pub counts_long : ends_long (get_or code place 0) nodes ≡ true → IfRead code true
    counts_long l j e = too-long code j.tree place nodes (c.stands j e) h l

    pub counts_on : {next : ℕ} → ends_long (get_or code place 0) nodes ≡ false → next ≡ place + (1 + opcode_operand (get_or code place 0)) → Counting code next (counted_to (get_or code place 0) nodes)
    counts_on {next} l n =
        subst (λ (m : ℕ). Counting code m (counted_to (get_or code place 0) nodes)) (sym n) (record { low = counted_low (get_or code place 0) nodes place c.low; stands = λ j e. stands_next code j.tree place nodes (c.stands j e) h l })
