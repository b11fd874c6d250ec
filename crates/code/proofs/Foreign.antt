-- Reading code back refuses 11 at 0 exactly the bytes to which no accepted job compiles, and nothing else; so compiling and reading back undo each other.
-- Assumes nothing.
use Prim.Native.Nat.{ℕ, zero, suc, ◌+◌, ◌<◌}
use mathlib.Core.Path.{◌≡◌, refl, sym, subst}
use mathlib.Core.Bool.{Bool, true, false, not, ◌&&◌}
use mathlib.Core.Logic.{◌↔◌}
use mathlib.Core.List.{List, [], ◌∷◌, ◌++◌}
use native.Mathlib.Omega.{arith}
use lib.Dec.{eqb, leb, ltb}
use lib.ListN.{length, drop, get_or}
use Rattle.code.specs.Bytes.{code_mark, compiled, Foreign}
use borrow.Author.Tests.{lt-ltb}
use Rattle.code.specs.Ops.{Op, push, add, read, write, begin, commit, fork, opcode_operand, decoded, op_at, size_of}
use Rattle.code.specs.Reader.{Item, proc, tran, begun, forked, sum_top, write_top, commit_top, child_ended, done_with, do_op, ends_after, ended_at, ended, read_ops, sized, code_marked, read_code_tree, short_only, read_code}
use Rattle.code.proofs.Flat.{flat_t, flat_p, compiled_flat}
use Rattle.code.proofs.ReadBack.{code_tree_read, code_read, read_is_code}
use Rattle.script.specs.Tree.{Tran, ValT, AddT, Read, Write, Proc, ValP, AddP, Atomic, Fork}
use Rattle.script.specs.Count.{nodes_p, longest_nodes}
use Rattle.script.specs.Limits.{ValuedT, ValuedP, Sized, Within}
use Rattle.script.specs.Bytes.{Bytes, bytes16, bytes32, node_bytes, bytes_t, bytes_p, job_mark, job_bytes}
use Rattle.script.specs.Outcome.{Outcome, refused, done, refuse, onward}
use Rattle.script.specs.Jobs.{Job, number16}
use Rattle.script.specs.Reader.{taken}
use Rattle.script.specs.Refusal.{Taken, IsJob}
use Rattle.script.proofs.Numbers.{bytes_head, bytes_tail}
use Rattle.script.proofs.Accepts.{accepted_is_job, job_is_accepted}
use Rattle.word.specs.Sum.{residue}

-- an outcome that is no refusal but 11 at 0
abbrev pub Eleven : {A : Type 0} → Outcome A → Type 0
Eleven (refused n p) = (n ≡ 11) × (p ≡ 0)
Eleven (done a) = Unit {0}

refuse_eleven : {A : Type 0} (b : Bool) (o : Outcome A) → Eleven o → Eleven (refuse b 11 0 o)
refuse_eleven true o h = (refl, refl)
refuse_eleven false o h = h

onward_eleven : {A B : Type 0} (o : Outcome A) (f : A → Outcome B) → Eleven o → ((a : A) → Eleven (f a)) → Eleven (onward o f)
onward_eleven (refused n p) f h g = h
onward_eleven (done a) f h g = g a

either_eleven : {A : Type 0} (b : Bool) (x y : Outcome A) → Eleven x → Eleven y → Eleven {A = A} (elim b as (λ z. Outcome A) [ true ↦ x | false ↦ y ])
either_eleven true x y h k = h
either_eleven false x y h k = k

sum_eleven : (s : List Item) → Eleven (sum_top s)
sum_eleven [] = (refl, refl)
sum_eleven (proc b ∷ []) = (refl, refl)
sum_eleven (proc b ∷ proc a ∷ s) = tt
sum_eleven (proc b ∷ tran t ∷ s) = (refl, refl)
sum_eleven (proc b ∷ begun ∷ s) = (refl, refl)
sum_eleven (proc b ∷ forked n ∷ s) = (refl, refl)
sum_eleven (tran b ∷ []) = (refl, refl)
sum_eleven (tran b ∷ proc p ∷ s) = (refl, refl)
sum_eleven (tran b ∷ tran a ∷ s) = tt
sum_eleven (tran b ∷ begun ∷ s) = (refl, refl)
sum_eleven (tran b ∷ forked n ∷ s) = (refl, refl)
sum_eleven (begun ∷ s) = (refl, refl)
sum_eleven (forked n ∷ s) = (refl, refl)

written_eleven : (v : ℕ) (s : List Item) → Eleven (write_top v s)
written_eleven v [] = (refl, refl)
written_eleven v (proc p ∷ s) = (refl, refl)
written_eleven v (tran t ∷ s) = tt
written_eleven v (begun ∷ s) = (refl, refl)
written_eleven v (forked n ∷ s) = (refl, refl)

committed_eleven : (s : List Item) → Eleven (commit_top s)
committed_eleven [] = (refl, refl)
committed_eleven (proc p ∷ s) = (refl, refl)
committed_eleven (tran t ∷ []) = (refl, refl)
committed_eleven (tran t ∷ proc p ∷ s) = (refl, refl)
committed_eleven (tran t ∷ tran u ∷ s) = (refl, refl)
committed_eleven (tran t ∷ begun ∷ s) = tt
committed_eleven (tran t ∷ forked n ∷ s) = (refl, refl)
committed_eleven (begun ∷ s) = (refl, refl)
committed_eleven (forked n ∷ s) = (refl, refl)

child_eleven : (s : List Item) → Eleven (child_ended s)
child_eleven [] = (refl, refl)
child_eleven (proc p ∷ []) = (refl, refl)
child_eleven (proc p ∷ proc r ∷ s) = (refl, refl)
child_eleven (proc p ∷ tran t ∷ s) = (refl, refl)
child_eleven (proc p ∷ begun ∷ s) = (refl, refl)
child_eleven (proc p ∷ forked n ∷ s) = tt
child_eleven (tran t ∷ s) = (refl, refl)
child_eleven (begun ∷ s) = (refl, refl)
child_eleven (forked n ∷ s) = (refl, refl)

ended_eleven : (es : List ℕ) (s : List Item) → Eleven (ended (record { ends = es; items = s }))
ended_eleven [] [] = (refl, refl)
ended_eleven [] (proc p ∷ []) = tt
ended_eleven [] (proc p ∷ i ∷ s) = (refl, refl)
ended_eleven [] (tran t ∷ s) = (refl, refl)
ended_eleven [] (begun ∷ s) = (refl, refl)
ended_eleven [] (forked n ∷ s) = (refl, refl)
ended_eleven (e ∷ es) s = (refl, refl)

stays_eleven : (inside : Bool) (o : Outcome (List Item)) → Eleven o → Eleven (done_with inside o)
stays_eleven inside o h = onward_eleven o _ h (λ s. tt)

do_eleven : (op : Op) (inside : Bool) (s : List Item) → Eleven (do_op op inside s)
unfolding do_op
do_eleven (push n) inside s = tt
do_eleven add inside s = stays_eleven inside (sum_top s) (sum_eleven s)
do_eleven (read v) inside s = refuse_eleven (not inside) _ tt
do_eleven (write v) inside s = refuse_eleven (not inside) _ (stays_eleven true (write_top v s) (written_eleven v s))
do_eleven begin inside s = refuse_eleven inside _ tt
do_eleven commit inside s = refuse_eleven (not inside) _ (stays_eleven false (commit_top s) (committed_eleven s))
do_eleven (fork n) inside s = refuse_eleven inside _ tt

pub op_eleven : (bs : List ℕ) → Eleven (op_at bs)
unfolding op_at
op_eleven [] = (refl, refl)
op_eleven (k ∷ rest) =
    refuse_eleven (not (leb 1 k && leb k 7)) _ (refuse_eleven (ltb (length rest) (opcode_operand k)) _ (refuse_eleven (eqb (opcode_operand k) 1 && leb 64 (get_or rest 0 0)) (done (decoded k rest)) tt))

closed_eleven : (q : ℕ) (es : List ℕ) (s : List Item) → Eleven (ended_at q es s)
unfolding ended_at
closed_eleven q [] s = tt
closed_eleven q (e ∷ es) s =
    either_eleven (eqb q e) _ (done (record { ends = e ∷ es; items = s })) (onward_eleven (child_ended s) (λ s'. ended_at q es s') (child_eleven s) (λ s'. closed_eleven q es s')) tt

-- reading instructions refuses by 11 at 0 alone
pub ops_eleven : (fuel : ℕ) (inside : Bool) (s : List Item) (es : List ℕ) (q : ℕ) (bs : List ℕ) → Eleven (read_ops fuel inside s es q bs)
unfolding read_ops
ops_eleven zero inside s es q bs = (refl, refl)
ops_eleven (suc fuel) inside s es q bs =
    onward_eleven
    (ended_at q es s)
    _
    (closed_eleven q es s)
    (λ now. either_eleven
    (eqb (length bs) 0)
    (ended now)
    _
    (ended_eleven now.ends now.items)
    (onward_eleven
    (op_at bs)
    _
    (op_eleven bs)
    (λ op. onward_eleven
    (do_op op inside now.items)
    _
    (do_eleven op inside now.items)
    (λ next. ops_eleven fuel next.inside next.items (ends_after op q now.ends) (q + size_of op) (drop (size_of op) bs)))))

code_tree_eleven : (bs : List ℕ) → Eleven (read_code_tree bs)
unfolding read_code_tree
code_tree_eleven bs =
    refuse_eleven
    (ltb (length bs) 5)
    _
    (refuse_eleven
    (not (code_marked bs))
    _
    (refuse_eleven
    (not (taken (number16 bs 3)))
    _
    (onward_eleven
    (read_ops (suc (length bs)) false [] [] 5 (drop 5 bs))
    _
    (ops_eleven (suc (length bs)) false [] [] 5 (drop 5 bs))
    (λ p. refuse_eleven (not (sized p)) (done (record { version = number16 bs 3; tree = p })) tt))))

code_eleven : (bs : List ℕ) → Eleven (read_code bs)
unfolding read_code
code_eleven bs = onward_eleven (read_code_tree bs) short_only (code_tree_eleven bs) (λ j. refuse_eleven (ltb 200 (longest_nodes j.tree)) (done j) tt)

-- code is refused by number 11 alone, and at place 0
pub only_foreign : (bs : List ℕ) (n p : ℕ) → read_code bs ≡ refused n p → (n ≡ 11) × (p ≡ 0)
only_foreign bs n p e = subst Eleven e (code_eleven bs)

bytes_none : Bytes []
bytes_none = record { small = λ i l. absurd (omega arith) }

bytes_cons : {b : ℕ} {bs : List ℕ} → b < 256 → Bytes bs → Bytes (b ∷ bs)
bytes_cons {b} {bs} l h = record { small = go }
  where
    go : (i : ℕ) → i < suc (length bs) → get_or (b ∷ bs) i 0 < 256
    go zero k = l
    go (suc i) k = h.small i (omega arith)

bytes_append : {ys : List ℕ} (xs : List ℕ) → Bytes xs → Bytes ys → Bytes (xs ++ ys)
bytes_append [] h k = k
bytes_append (x ∷ xs) h k = bytes_cons (bytes_head h) (bytes_append xs (bytes_tail h) k)

bytes16_bytes : (n : ℕ) → Bytes (bytes16 n)
unfolding bytes16
bytes16_bytes n = bytes_cons (omega arith) (bytes_cons (omega arith) bytes_none)

bytes32_bytes : (n : ℕ) → Bytes (bytes32 n)
unfolding bytes32
bytes32_bytes n = bytes_cons (omega arith) (bytes_cons (omega arith) (bytes_cons (omega arith) (bytes_cons (omega arith) bytes_none)))

tran_bytes : (t : Tran) → ValuedT t → Bytes (bytes_t t)
unfolding bytes_t node_bytes
tran_bytes (ValT n) v = bytes_cons (omega arith) (bytes32_bytes (residue n))
tran_bytes (AddT a b) v = bytes_cons (omega arith) (bytes_append (bytes_t a) (tran_bytes a v.0) (tran_bytes b v.1))
tran_bytes (Read r) v = bytes_cons (omega arith) (bytes_cons (omega arith) bytes_none)
tran_bytes (Write r t) v = bytes_cons (omega arith) (bytes_cons (omega arith) (tran_bytes t v.1))

proc_bytes : (p : Proc) → ValuedP p → Bytes (bytes_p p)
unfolding bytes_p node_bytes
proc_bytes (ValP n) v = bytes_cons (omega arith) (bytes32_bytes (residue n))
proc_bytes (AddP a b) v = bytes_cons (omega arith) (bytes_append (bytes_p a) (proc_bytes a v.0) (proc_bytes b v.1))
proc_bytes (Atomic t) v = bytes_cons (omega arith) (tran_bytes t v)
proc_bytes (Fork p) v = bytes_cons (omega arith) (proc_bytes p v)

-- a job's bytes are bytes
pub job-bytes : (version : ℕ) (p : Proc) → ValuedP p → Bytes (job_bytes version p)
unfolding job_bytes job_mark
job-bytes version p v =
    bytes_cons (omega arith) (bytes_cons (omega arith) (bytes_cons (omega arith) (bytes_append (bytes16 version) (bytes16_bytes version) (bytes_append (bytes16 (nodes_p p)) (bytes16_bytes (nodes_p p)) (proc_bytes p v)))))

flat_bytes_t : (t : Tran) → ValuedT t → Bytes (flat_t t)
unfolding flat_t
flat_bytes_t (ValT n) v = bytes_cons (omega arith) (bytes32_bytes (residue n))
flat_bytes_t (AddT a b) v = bytes_append (flat_t a) (flat_bytes_t a v.0) (bytes_append (flat_t b) (flat_bytes_t b v.1) (bytes_cons (omega arith) bytes_none))
flat_bytes_t (Read r) v = bytes_cons (omega arith) (bytes_cons (omega arith) bytes_none)
flat_bytes_t (Write r t) v = bytes_append (flat_t t) (flat_bytes_t t v.1) (bytes_cons (omega arith) (bytes_cons (omega arith) bytes_none))

flat_bytes_p : (p : Proc) → ValuedP p → Bytes (flat_p p)
unfolding flat_p
flat_bytes_p (ValP n) v = bytes_cons (omega arith) (bytes32_bytes (residue n))
flat_bytes_p (AddP a b) v = bytes_append (flat_p a) (flat_bytes_p a v.0) (bytes_append (flat_p b) (flat_bytes_p b v.1) (bytes_cons (omega arith) bytes_none))
flat_bytes_p (Atomic t) v = bytes_cons (omega arith) (bytes_append (flat_t t) (flat_bytes_t t v) (bytes_cons (omega arith) bytes_none))
flat_bytes_p (Fork p) v = bytes_cons (omega arith) (bytes_append (bytes16 (length (flat_p p))) (bytes16_bytes (length (flat_p p))) (flat_bytes_p p v))

-- a job's code is bytes
pub code-bytes : (j : Job) → ValuedP j.tree → Bytes (compiled j)
unfolding code_mark
code-bytes j v =
    subst Bytes (sym (compiled_flat j))
    (bytes_cons (omega arith) (bytes_cons (omega arith) (bytes_cons (omega arith) (bytes_append (bytes16 j.version) (bytes16_bytes j.version) (flat_bytes_p j.tree v)))))

-- an accepted job's code is read back as that job
pub there_and_back : {job : List ℕ} {j : Job} → IsJob job j → read_code (compiled j) ≡ done j
there_and_back {j = j} i = code_read j i.version i.within

-- what is read back compiles to the code again
pub back_again : (bs : List ℕ) (j : Job) → Bytes bs → read_code bs ≡ done j → compiled j ≡ bs
back_again bs j b e = sym (read_is_code bs j b e).text

-- two jobs within the limits have the same code only if they are the same job
pub code_unique : (j k : Job) → Taken j.version → Within j.tree → Taken k.version → Within k.tree → compiled j ≡ compiled k → j ≡ k
code_unique j k v w v' w' e =
    let r : read_code (compiled j) ≡ done j = code_read j v w in
    let r' : read_code (compiled k) ≡ done k = code_read k v' w' in
    cc

-- code is refused exactly if no accepted job compiles to it
pub foreign_exactly : (bs : List ℕ) → Bytes bs → (read_code bs ≡ refused 11 0) ↔ Foreign bs
foreign_exactly bs b = (there, back (read_code bs) refl)
  where
    there : read_code bs ≡ refused 11 0 → Foreign bs
    there e job j small a c =
        let r : read_code (compiled j) ≡ done j = there_and_back (accepted_is_job job j small a) in
        let z : ◌≡◌ {A = ℕ} 0 1 = cc in
        omega arith

    back : (o : Outcome Job) → read_code bs ≡ o → Foreign bs → read_code bs ≡ refused 11 0
    back (refused n p) e f = let h = only_foreign bs n p e in cc
    back (done j) e f =
        let i = read_is_code bs j b e in
        absurd (f (job_bytes j.version j.tree) j (job-bytes j.version j.tree i.within.sized.valued) (job_is_accepted _ j (record { version = i.version; within = i.within; text = refl })) (sym i.text))

-- the code of a tree within document 01's limits is foreign if a transaction is too long
pub long_is_foreign : (j : Job) → Taken j.version → Sized j.tree → 200 < longest_nodes j.tree → Foreign (compiled j)
unfolding read_code
long_is_foreign j v w l =
    (foreign_exactly (compiled j) (code-bytes j w.valued)).0 (rw (code_tree_read j v w, lt-ltb 200 (longest_nodes j.tree) l))
