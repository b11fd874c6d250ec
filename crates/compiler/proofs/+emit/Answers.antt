-- `compiler::emit` meets its contract: a node's code from the code of its parts, the depth falling. Assumes nothing.
use Prim.Native.Nat.{ℕ, ◌+◌, ◌≤◌}
use mathlib.Core.Logic.{◌⊎◌, inl, inr}
use mathlib.Core.List.{List, [], ◌∷◌}
use mathlib.Core.Path.{◌≡◌, sym, ap, ◌∙◌}
use native.Mathlib.Omega.{arith}
use lib.ListN.{length, get_or}
use Rattle.script.specs.Bytes.{bytes16}
use Rattle.compiler.specs.declared.Part.{Part}
use Rattle.compiler.specs.InnerEmit.{Emitted, Emittable, tree_code, fork_bytes}
use Rattle.compiler.proofs.Lists.{rest_length}
use Rattle.compiler.proofs.Nodes.{some, as_push, as_atomic, as_fork, as_read, as_write, as_two, no_other}
use Rattle.compiler.proofs.Emits.{OnePart, child, TwoParts, children, moved, back_length, next_of, size_of, push_emitted, read_emitted, atomic_emitted, fork_emitted, write_emitted, sum_emitted}
use Rattle.terms.specs.declared.Kind.{Kind}
use Rattle.terms.specs.Numbers.{kind_number}
use Rattle.compiler.proofs.+emit.Goals as goal

-- ---- the kind byte
byte_is : {b : ℕ} {k l : Kind} → kind_number k ≡ b → k ≡ l → b ≡ kind_number l
byte_is e f = sym e ∙ ap kind_number f

byte_in : {b : ℕ} {k l m : Kind} → kind_number k ≡ b → (k ≡ l) ⊎ (k ≡ m) → (b ≡ kind_number l) ⊎ (b ≡ kind_number m)
byte_in e (inl f) = inl (byte_is e f)
byte_in e (inr f) = inr (byte_is e f)

pub bounds-job-at : goal.bounds-job-at
bounds-job-at t c = some _ _ _ _ c.requires.there

-- ---- VALP and VALT
pub put_push-requires : goal.put_push-requires
put_push-requires t c = let h = as_push _ _ _ _ c.requires.there (byte_in c.in-Ok.ensures c.in-Valp.is) in (h.within, omega (arith, c.requires.room, ap length h.runs))

pub returns-in-Valp : goal.returns-in-Valp
returns-in-Valp t c = λ s u h. push_emitted (as_push _ _ s u h (byte_in c.in-Ok.ensures c.in-Valp.is)) c.put_push.ensures.0 c.put_push.ensures.1

-- ---- READ
pub put_read-requires : goal.put_read-requires
put_read-requires t c = let h = as_read _ _ _ _ c.requires.there (byte_is c.in-Ok.ensures c.in-Read.is) in (h.within, omega (arith, c.requires.room, ap length h.runs))

pub returns-in-Read : goal.returns-in-Read
returns-in-Read t c = λ s u h. read_emitted (as_read _ _ s u h (byte_is c.in-Ok.ensures c.in-Read.is)) c.put_read.ensures.0 c.put_read.ensures.1

-- ---- ATOMIC
atomic : {bs : List ℕ} {i d n : ℕ} → Emittable bs i d n → get_or bs i 0 ≡ 3 → OnePart bs i 1 d n (λ n. 5 ∷ []) (6 ∷ [])
atomic r e = child r (as_atomic _ _ _ _ r.there e)

pub overflow_sub-depth : goal.overflow_sub-depth
overflow_sub-depth t c = (atomic c.requires (byte_is c.in-Ok.ensures c.in-Atomic.is)).some

pub slice_bounds-emit-count : goal.slice_bounds-emit-count
slice_bounds-emit-count t c = omega (arith, (atomic c.requires (byte_is c.in-Ok.ensures c.in-Atomic.is)).room)

pub slice_bounds-emit-start : goal.slice_bounds-emit-start
slice_bounds-emit-start t c = slice_bounds-emit-count t c

pub emit-part-requires : goal.emit-part-requires
emit-part-requires t c =
    let v = atomic c.requires (byte_is c.in-Ok.ensures c.in-Atomic.is) in
    (omega (arith, v.some, c.decreases), record { sort = v.sort; tree = v.tree; there = v.there; flat = v.flat; room = omega (arith, v.room, rest_length 1 c.args.out.now) })

pub put_atomic-requires : goal.put_atomic-requires
put_atomic-requires t c =
    let v = atomic c.requires (byte_is c.in-Ok.ensures c.in-Atomic.is) in
    omega (arith, v.room, size_of (c.emit-part.ensures v.sort v.tree v.there), back_length 1 c.args.out.now c.emit-part.new.out (omega (arith, v.room)) c.emit-part.auto.out)

pub returns-in-Atomic : goal.returns-in-Atomic
returns-in-Atomic t c = λ s u h.
    let o = as_atomic _ _ s u h (byte_is c.in-Ok.ensures c.in-Atomic.is) in
    atomic_emitted o (omega (arith, (atomic c.requires (byte_is c.in-Ok.ensures c.in-Atomic.is)).room)) (c.emit-part.ensures o.sort o.tree o.there) c.put_atomic.ensures.0 c.put_atomic.ensures.1

-- ---- FORK
fork : {bs : List ℕ} {i d n : ℕ} → Emittable bs i d n → get_or bs i 0 ≡ 4 → OnePart bs i 1 d n fork_bytes []
fork r e = child r (as_fork _ _ _ _ r.there e)

fork_room : {bs : List ℕ} {i d n : ℕ} (v : OnePart bs i 1 d n fork_bytes []) → length (tree_code v.sort v.tree) + 3 ≤ n
unfolding bytes16
fork_room v = omega (arith, v.room)

pub overflow_sub-depth-in-Fork : goal.overflow_sub-depth-in-Fork
overflow_sub-depth-in-Fork t c = (fork c.requires (byte_is c.in-Ok.ensures c.in-Fork.is)).some

pub slice_bounds-emit-count-in-Fork : goal.slice_bounds-emit-count-in-Fork
slice_bounds-emit-count-in-Fork t c = omega (arith, fork_room (fork c.requires (byte_is c.in-Ok.ensures c.in-Fork.is)))

pub slice_bounds-emit-start-in-Fork : goal.slice_bounds-emit-start-in-Fork
slice_bounds-emit-start-in-Fork t c = slice_bounds-emit-count-in-Fork t c

pub emit-child-requires : goal.emit-child-requires
emit-child-requires t c =
    let v = fork c.requires (byte_is c.in-Ok.ensures c.in-Fork.is) in
    (omega (arith, v.some, c.decreases), record { sort = v.sort; tree = v.tree; there = v.there; flat = v.flat; room = omega (arith, fork_room v, rest_length 3 c.args.out.now) })

pub put_fork-requires : goal.put_fork-requires
put_fork-requires t c =
    let v = fork c.requires (byte_is c.in-Ok.ensures c.in-Fork.is) in
    omega (arith, fork_room v, size_of (c.emit-child.ensures v.sort v.tree v.there), back_length 3 c.args.out.now c.emit-child.new.out (omega (arith, fork_room v)) c.emit-child.auto.out)

pub returns-in-Fork : goal.returns-in-Fork
returns-in-Fork t c = λ s u h.
    let o = as_fork _ _ s u h (byte_is c.in-Ok.ensures c.in-Fork.is) in
    fork_emitted o (omega (arith, fork_room (fork c.requires (byte_is c.in-Ok.ensures c.in-Fork.is)))) (c.emit-child.ensures o.sort o.tree o.there) c.put_fork.ensures.0 c.put_fork.ensures.1

-- ---- WRITE
write : {bs : List ℕ} {i d n : ℕ} → Emittable bs i d n → get_or bs i 0 ≡ 8 → OnePart bs i 2 d n (λ n. []) (4 ∷ get_or bs (i + 1) 0 ∷ [])
write r e = child r (as_write _ _ _ _ r.there e)

pub overflow_sub-depth-in-Write : goal.overflow_sub-depth-in-Write
overflow_sub-depth-in-Write t c = (write c.requires (byte_is c.in-Ok.ensures c.in-Write.is)).some

pub emit-part-requires-in-Write : goal.emit-part-requires-in-Write
emit-part-requires-in-Write t c =
    let v = write c.requires (byte_is c.in-Ok.ensures c.in-Write.is) in
    (omega (arith, v.some, c.decreases), record { sort = v.sort; tree = v.tree; there = v.there; flat = v.flat; room = omega (arith, v.room) })

pub bounds-job-at-in-Write : goal.bounds-job-at-in-Write
bounds-job-at-in-Write t c = omega (arith, (write c.requires (byte_is c.in-Ok.ensures c.in-Write.is)).within)

pub then-requires : goal.then-requires
then-requires t c =
    let v = write c.requires (byte_is c.in-Ok.ensures c.in-Write.is) in
    omega (arith, v.room, size_of (c.emit-part-in-Write.ensures v.sort v.tree v.there), c.emit-part-in-Write.auto.out)

pub returns-in-Write : goal.returns-in-Write
returns-in-Write t c = λ s u h.
    let o = as_write _ _ s u h (byte_is c.in-Ok.ensures c.in-Write.is) in
    write_emitted o (c.emit-part-in-Write.ensures o.sort o.tree o.there) c.then.ensures.0 (c.then.ensures.1 ∙ rw c.byte.ensures)

-- ---- ADDP and ADDT
sum : {bs : List ℕ} {i d n : ℕ} → Emittable bs i d n → (get_or bs i 0 ≡ 2) ⊎ (get_or bs i 0 ≡ 6) → TwoParts bs i d n
sum r e = children r (as_two _ _ _ _ r.there e)

-- the left part is written, and the room behind it is lent
left_room : {bs : List ℕ} {i d n : ℕ} {r : Part} {before after : List ℕ} (v : TwoParts bs i d n) → Emitted (i + 1) r before after v.sort v.left → length after ≡ n → r.size ≤ length after
left_room v e k = omega (arith, size_of e, v.room)

pub overflow_sub-depth-in-Addp : goal.overflow_sub-depth-in-Addp
overflow_sub-depth-in-Addp t c = (sum c.requires (byte_in c.in-Ok.ensures c.in-Addp.is)).some

pub emit-left-requires : goal.emit-left-requires
emit-left-requires t c =
    let v = sum c.requires (byte_in c.in-Ok.ensures c.in-Addp.is) in
    (omega (arith, v.some, c.decreases), record { sort = v.sort; tree = v.left; there = v.first; flat = v.flat_left; room = omega (arith, v.room) })

pub overflow_sub-depth-in-Addp-2 : goal.overflow_sub-depth-in-Addp-2
overflow_sub-depth-in-Addp-2 t c = (sum c.requires (byte_in c.in-Ok.ensures c.in-Addp.is)).some

pub slice_bounds-emit-count-in-Addp : goal.slice_bounds-emit-count-in-Addp
slice_bounds-emit-count-in-Addp t c =
    let v = sum c.requires (byte_in c.in-Ok.ensures c.in-Addp.is) in
    left_room v (c.emit-left.ensures v.sort v.left v.first) c.emit-left.auto.out

pub slice_bounds-emit-start-in-Addp : goal.slice_bounds-emit-start-in-Addp
slice_bounds-emit-start-in-Addp t c = slice_bounds-emit-count-in-Addp t c

pub emit-right-requires : goal.emit-right-requires
emit-right-requires t c =
    let v = sum c.requires (byte_in c.in-Ok.ensures c.in-Addp.is) in
    let l = c.emit-left.ensures v.sort v.left v.first in
    (omega (arith, v.some, c.decreases), record { sort = v.sort; tree = v.right; there = moved v.second (sym (next_of l)); flat = v.flat_right; room = omega (arith, v.room, size_of l, c.emit-left.auto.out, rest_length c.emit-left.result.size c.emit-left.new.out) })

pub put_add-requires : goal.put_add-requires
put_add-requires t c =
    let v = sum c.requires (byte_in c.in-Ok.ensures c.in-Addp.is) in
    let l = c.emit-left.ensures v.sort v.left v.first in
    let r = c.emit-right.ensures v.sort v.right (moved v.second (sym (next_of l))) in
    omega (arith, v.room, size_of l, size_of r, c.emit-left.auto.out, back_length c.emit-left.result.size c.emit-left.new.out c.emit-right.new.out (left_room v l c.emit-left.auto.out) c.emit-right.auto.out)

pub returns-in-Addp : goal.returns-in-Addp
returns-in-Addp t c = λ s u h.
    let o = as_two _ _ s u h (byte_in c.in-Ok.ensures c.in-Addp.is) in
    let l = c.emit-left.ensures s o.left o.first in
    let v = sum c.requires (byte_in c.in-Ok.ensures c.in-Addp.is) in
    sum_emitted o (omega (arith, size_of l, left_room v (c.emit-left.ensures v.sort v.left v.first) c.emit-left.auto.out, c.emit-left.auto.out)) l (c.emit-right.ensures s o.right (moved o.second (sym (next_of l)))) c.put_add.ensures.0 c.put_add.ensures.1

-- ---- no other kind
pub returns-in_default : goal.returns-in_default
returns-in_default t c = λ s u h.
    let k = c.in_default.ensures in
    absurd (no_other _ _ s u h (omega (arith, k)) (omega (arith, k)) (omega (arith, k)) (omega (arith, k)) (omega (arith, k)) (omega (arith, k)))
