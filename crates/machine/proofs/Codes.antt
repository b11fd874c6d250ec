-- Code in the bytes: its first instruction is the one that is read, the rest stands behind it, a child's code inside. Assumes nothing.
use Prim.Native.Nat.{ℕ, ◌+◌, ◌/◌, ◌%◌, ◌≤◌, ◌<◌}
use mathlib.Core.Path.{◌≡◌, refl, sym, ap, ◌∙◌}
use mathlib.Core.List.{List, [], ◌∷◌, ◌++◌, append_assoc, append-nil}
use native.Mathlib.Omega.{arith}
use lib.ListN.{length, drop, length-append}
use lib.Seq.{drop_at}
use Rattle.code.specs.Compile.{Instruction, Code, PUSH, ADD, READ, WRITE, BEGIN, COMMIT, FORK, ε, ◌⨾◌, compile_t, compile_p}
use Rattle.code.specs.Bytes.{instruction_bytes, instructions_bytes, code_mark, code_bytes, compiled, IsCode}
use Rattle.code.specs.InnerHeights.{RunsIn, Takes, height_after}
use Rattle.code.specs.Ops.{op_at}
use Rattle.code.proofs.Ops.{op_bytes, ValuedO, op_reads}
use Rattle.code.proofs.Flat.{flat_p, flat_proc, flat_length_p}
use Rattle.code.proofs.Heights.{runs_in_64}
use Rattle.code.proofs.ReadBack.{code_small}
use Rattle.script.specs.Tree.{Tran, ValT, AddT, Read, Write, Proc, ValP, AddP, Atomic, Fork}
use Rattle.script.specs.Count.{nodes_p, code_p}
use Rattle.script.specs.Limits.{ValuedT, ValuedP}
use Rattle.script.specs.Jobs.{Job}
use Rattle.script.specs.Bytes.{bytes16, bytes32}
use Rattle.script.specs.Outcome.{done}
use Rattle.machine.specs.Fits.{next_place}
use Rattle.machine.specs.InnerStands.{op_of, Ready}
use Rattle.machine.specs.Stands.{Stands, ValuedI, ValuedC}

-- what follows an instruction's opcode and operand: a child's code
abbrev child_bytes : Instruction → List ℕ
child_bytes (PUSH n) = []
child_bytes ADD = []
child_bytes (READ v) = []
child_bytes (WRITE v) = []
child_bytes BEGIN = []
child_bytes COMMIT = []
child_bytes (FORK k) = instructions_bytes k

op_then_child : (i : Instruction) → instruction_bytes i ≡ op_bytes (op_of i) ++ child_bytes i
unfolding instruction_bytes op_bytes bytes32 bytes16
op_then_child (PUSH n) = refl
op_then_child ADD = refl
op_then_child (READ v) = refl
op_then_child (WRITE v) = refl
op_then_child BEGIN = refl
op_then_child COMMIT = refl
op_then_child (FORK k) = refl

valued_op : (i : Instruction) → ValuedI i → ValuedO (op_of i)
unfolding ValuedI
valued_op (PUSH n) v = v
valued_op ADD v = tt
valued_op (READ r) v = v
valued_op (WRITE r) v = v
valued_op BEGIN v = tt
valued_op COMMIT v = tt
valued_op (FORK k) v = v.0

-- an instruction's bytes take it to the next place
pub next-place : (i : Instruction) (q : ℕ) → next_place (op_of i) q ≡ q + length (instruction_bytes i)
unfolding next_place instruction_bytes bytes16 bytes32
next-place (PUSH n) q = refl
next-place ADD q = refl
next-place (READ v) q = refl
next-place (WRITE v) q = refl
next-place BEGIN q = refl
next-place COMMIT q = refl
next-place (FORK k) q = omega arith

some_bytes : (i : Instruction) → 1 ≤ length (instruction_bytes i)
unfolding instruction_bytes bytes16 bytes32
some_bytes (PUSH n) = omega arith
some_bytes ADD = omega arith
some_bytes (READ v) = omega arith
some_bytes (WRITE v) = omega arith
some_bytes BEGIN = omega arith
some_bytes COMMIT = omega arith
some_bytes (FORK k) = omega arith

low_after : (i : Instruction) (h : ℕ) → h ≤ 64 → Takes 64 i h → height_after i h ≤ 64
unfolding Takes
low_after (PUSH n) h l t = t
low_after ADD h l t = omega arith
low_after (READ v) h l t = t
low_after (WRITE v) h l t = l
low_after BEGIN h l t = l
low_after COMMIT h l t = l
low_after (FORK k) h l t = t.0

module _ {bytes : List ℕ} {place end : ℕ} where
  -- the first instruction is the one that is read
  pub stands_op : {i : Instruction} {c : Code} → Stands bytes place end (i ⨾ c) → ValuedI i → op_at (drop place bytes) ≡ done (op_of i)
  unfolding instructions_bytes
  stands_op {i} {c} s v =
      let e : drop place bytes ≡ (instruction_bytes i ++ instructions_bytes c) ++ s.rest = ap (drop place) s.text ∙ drop_at s.front ((instruction_bytes i ++ instructions_bytes c) ++ s.rest) place s.from in
      let a : (instruction_bytes i ++ instructions_bytes c) ++ s.rest ≡ op_bytes (op_of i) ++ (child_bytes i ++ (instructions_bytes c ++ s.rest)) = append_assoc (instruction_bytes i) (instructions_bytes c) s.rest ∙ (ap (λ (l : List ℕ). l ++ (instructions_bytes c ++ s.rest)) (op_then_child i) ∙ append_assoc (op_bytes (op_of i)) (child_bytes i) (instructions_bytes c ++ s.rest)) in
      ap op_at (e ∙ a) ∙ op_reads (op_of i) (child_bytes i ++ (instructions_bytes c ++ s.rest)) (valued_op i v)

  -- the rest stands behind it
  pub stands_next : {i : Instruction} {c : Code} → Stands bytes place end (i ⨾ c) → Stands bytes (next_place (op_of i) place) end c
  unfolding instructions_bytes
  stands_next {i} {c} s =
      record {
        front = s.front ++ instruction_bytes i;
        rest = s.rest;
        text = s.text ∙ (ap (λ (l : List ℕ). s.front ++ l) (append_assoc (instruction_bytes i) (instructions_bytes c) s.rest) ∙ sym (append_assoc s.front (instruction_bytes i) (instructions_bytes c ++ s.rest)));
        from = length-append s.front (instruction_bytes i) ∙ (ap (λ (n : ℕ). n + length (instruction_bytes i)) s.from ∙ sym (next-place i place));
        until = ap (λ (n : ℕ). n + length (instructions_bytes c)) (next-place i place) ∙ (let l = length-append (instruction_bytes i) (instructions_bytes c) in let u = s.until in omega arith);
      }

  pub stands_child : {k c : Code} → Stands bytes place end (FORK k ⨾ c) → Stands bytes (place + 3) (place + 3 + length (instructions_bytes k)) k
  unfolding instructions_bytes instruction_bytes bytes16
  stands_child {k} {c} s =
      let size = bytes16 (length (instructions_bytes k)) in
      record {
        front = s.front ++ (7 ∷ size);
        rest = instructions_bytes c ++ s.rest;
        text = s.text ∙ (ap (λ (l : List ℕ). s.front ++ l) (append_assoc (7 ∷ (size ++ instructions_bytes k)) (instructions_bytes c) s.rest) ∙ sym (append_assoc s.front (7 ∷ size) (instructions_bytes k ++ (instructions_bytes c ++ s.rest))));
        from = length-append s.front (7 ∷ size) ∙ (let f = s.from in omega arith);
        until = refl;
      }

  pub stands_end : Stands bytes place end ε → place ≡ end
  unfolding instructions_bytes
  stands_end s = let u = s.until in omega arith

  pub stands_inside : {i : Instruction} {c : Code} → Stands bytes place end (i ⨾ c) → place < end
  unfolding instructions_bytes
  stands_inside {i} {c} s = let u = s.until in let l = length-append (instruction_bytes i) (instructions_bytes c) in let o = some_bytes i in omega arith

  -- the same of code that is ready
  pub ready_op : {i : Instruction} {c : Code} {h : ℕ} → Ready bytes place end (i ⨾ c) h → op_at (drop place bytes) ≡ done (op_of i)
  unfolding ValuedC
  ready_op r = stands_op r.stands r.valued.0

  pub ready_next : {i : Instruction} {c : Code} {h : ℕ} → Ready bytes place end (i ⨾ c) h → Ready bytes (next_place (op_of i) place) end c (height_after i h)
  unfolding ValuedC RunsIn
  ready_next {i} {c} {h} r = record { stands = stands_next r.stands; runs = r.runs.1; valued = r.valued.1; low = low_after i h r.low r.runs.0 }

  pub ready_child : {k c : Code} {h : ℕ} → Ready bytes place end (FORK k ⨾ c) h → Ready bytes (place + 3) (place + 3 + length (instructions_bytes k)) k 0
  unfolding ValuedC ValuedI RunsIn Takes
  ready_child r = record { stands = stands_child r.stands; runs = r.runs.0.1; valued = r.valued.0.1; low = omega arith }

  pub ready_takes : {i : Instruction} {c : Code} {h : ℕ} → Ready bytes place end (i ⨾ c) h → Takes 64 i h
  unfolding RunsIn
  ready_takes r = r.runs.0

-- ---- compiled code
valued_tran : (t : Tran) (c : Code) → ValuedT t → ValuedC c → ValuedC (compile_t t c)
unfolding compile_t ValuedC ValuedI
valued_tran (ValT n) c v k = (v, k)
valued_tran (AddT a b) c v k = valued_tran a (compile_t b (ADD ⨾ c)) v.0 (valued_tran b (ADD ⨾ c) v.1 (tt, k))
valued_tran (Read r) c v k = (v, k)
valued_tran (Write r t) c v k = valued_tran t (WRITE r ⨾ c) v.1 (v.0, k)

pub child_length : (p : Proc) → length (instructions_bytes (compile_p p ε)) ≡ code_p p
unfolding instructions_bytes
child_length p = rw (flat_proc p ε, append-nil (flat_p p)) (flat_length_p p)

valued_proc : (p : Proc) (c : Code) → ValuedP p → nodes_p p ≤ 1000 → ValuedC c → ValuedC (compile_p p c)
unfolding compile_p ValuedC ValuedI nodes_p
valued_proc (ValP n) c v l k = (v, k)
valued_proc (AddP a b) c v l k = valued_proc a (compile_p b (ADD ⨾ c)) v.0 (omega arith) (valued_proc b (ADD ⨾ c) v.1 (omega arith) (tt, k))
valued_proc (Atomic t) c v l k = (tt, valued_tran t (COMMIT ⨾ c) v (tt, k))
valued_proc (Fork p) c v l k =
    let s = code_small p in
    let e = child_length p in
    ((omega arith, valued_proc p ε v (omega arith) tt), k)

-- a job's code is ready from its fifth byte on
pub code_ready : {bytes : List ℕ} {j : Job} → IsCode bytes j → Ready bytes 5 (length bytes) (compile_p j.tree ε) 0
unfolding compiled code_bytes code_mark bytes16 ValuedC
code_ready {bytes} {j} i =
    let p = j.tree in
    let v = j.version in
    let c = instructions_bytes (compile_p p ε) in
    let t : bytes ≡ (0x57 ∷ 0x53 ∷ 0x43 ∷ v / 256 % 256 ∷ v % 256 ∷ []) ++ (c ++ []) = i.text ∙ ap (λ (l : List ℕ). 0x57 ∷ 0x53 ∷ 0x43 ∷ v / 256 % 256 ∷ v % 256 ∷ l) (sym (append-nil c)) in
    record {
      stands = record {
        front = 0x57 ∷ 0x53 ∷ 0x43 ∷ v / 256 % 256 ∷ v % 256 ∷ [];
        rest = [];
        text = t;
        from = refl;
        until = let l : length bytes ≡ 5 + length c = ap length i.text ∙ omega arith in omega arith;
      };
      runs = runs_in_64 i.within;
      valued = valued_proc p ε i.within.sized.valued i.within.sized.few tt;
      low = omega arith;
    }
