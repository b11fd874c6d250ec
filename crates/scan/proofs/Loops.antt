-- The loop over the instructions follows `scan_ops`. Assumes nothing.
use Prim.Native.Nat.{ℕ, zero, suc, ◌+◌, ◌-◌, ◌≤◌, ◌<◌}
use mathlib.Core.Path.{◌≡◌, refl, sym, ap, ap₂, subst, fun_ext, ◌∙◌}
use mathlib.Core.Bool.{Bool, true, false}
use mathlib.Core.List.{List, ◌++◌}
use native.Mathlib.Omega.{arith}
use lib.Dec.{eqb}
use lib.ListN.{length, drop, get_or, length-drop, length-append}
use lib.Seq.{drop-drop, get_or-drop}
use borrow.Author.Tests.{eq-eqb, ne_eqb, eqb-false}
use Rattle.std.specs.Prelude.{Option, Some, None, OnSome}
use Rattle.ops.specs.declared.Op.{Op as Instruction}
use Rattle.scan.specs.declared.pass.Scan.{Scan}
use Rattle.scan.specs.InnerView.{view, after, stepped, op_stepped, op_length, ShortFork, all_scanned, opcode_of, ends_long}
use Rattle.ops.specs.Shown.{show_op, shown_op}
use Rattle.code.specs.Ops.{foreign, Op, push, add, read, write, begin, commit, fork, opcode_operand, op_at, size_of}
use Rattle.code.specs.InnerScan.{ListScan, scan_op, moved_past, closes, finished, scan_ops, scan_start}
use Rattle.code.proofs.Ops.{op_bytes, ValuedO, op_length as bytes_length, op_reads, Sees, good, bad, seen}
use Rattle.code.proofs.Foreign.{Eleven, op_eleven}
use Rattle.script.proofs.Numbers.{bytes_drop}
use Rattle.script.specs.Bytes.{Bytes}
use Rattle.script.specs.Outcome.{Outcome, refused, done, onward, mapped}
use Rattle.scan.proofs.Long.{first_byte, text_length, opcode_of as list_opcode}

-- ---- fuel does not matter

size_some : (o : Op) → 1 ≤ size_of o
size_some (push n) = omega arith
size_some add = omega arith
size_some (read v) = omega arith
size_some (write v) = omega arith
size_some begin = omega arith
size_some commit = omega arith
size_some (fork n) = omega arith

onward_mapped : {A B C : Type 0} (f : A → B) (o : Outcome A) (k : B → Outcome C) → onward (mapped f o) k ≡ onward o (λ a. k (f a))
onward_mapped f (refused n p) k = refl
onward_mapped f (done a) k = refl

-- no instruction is refused but as foreign
op_foreign : (bs : List ℕ) (n p : ℕ) → op_at bs ≡ refused n p → ◌≡◌ {A = Outcome ListScan} foreign (refused n p)
op_foreign bs n p e = let h = subst Eleven e (op_eleven bs) in sym (ap₂ refused h.0 h.1)

-- what comes of the code once the children that end here are closed
abbrev behind : ℕ → List ℕ → ListScan → Outcome ListScan
behind fuel bs now =
    elim (eqb (length bs) 0) [
      | true ↦ finished now
      | false ↦ onward (op_at bs) (λ op. onward (scan_op op now) (λ next. scan_ops fuel (moved_past op next) (drop (size_of op) bs)))
    ]

pub scan_fuel : (f k : ℕ) (v : ListScan) (bs : List ℕ) → length bs < f → length bs < k → scan_ops f v bs ≡ scan_ops k v bs
unfolding scan_ops
scan_fuel zero k v bs p q = absurd (omega arith)
scan_fuel (suc f) zero v bs p q = absurd (omega arith)
scan_fuel (suc f) (suc k) v bs p q = ap (onward (closes v.ends v)) (fun_ext (λ now. go now (eqb (length bs) 0) refl (λ w cs a b. scan_fuel f k w cs a b)))
  where
    go : (now : ListScan) (b : Bool) → eqb (length bs) 0 ≡ b → ((w : ListScan) (cs : List ℕ) → length cs < f → length cs < k → scan_ops f w cs ≡ scan_ops k w cs) → behind f bs now ≡ behind k bs now
    go now true e ih = rw (e, behind)
    go now false e ih =
        let some : length bs ≡ 0 → ⊥ = eqb-false (length bs) 0 e in
        rw (e, behind) (ap (onward (op_at bs)) (fun_ext (λ op. ap (onward (scan_op op now)) (fun_ext (λ next. ih (moved_past op next) (drop (size_of op) bs) (rw (length-drop (size_of op) bs) (omega (arith, size_some op))) (rw (length-drop (size_of op) bs) (omega (arith, size_some op))))))))

-- ---- the instructions

op_fits : (bs : List ℕ) → Bytes bs → (o : Op) → op_at bs ≡ done o → size_of o ≤ length bs
op_fits bs b o e = go (seen bs b)
  where
    go : Sees bs → size_of o ≤ length bs
    go (good op rest v t) =
        let f : op_at bs ≡ done op = rw t (op_reads op rest v) in
        let g : op ≡ o = cc in
        let n : length bs ≡ length (op_bytes op) + length rest = ap length t ∙ length-append (op_bytes op) rest in
        omega (arith, bytes_length op, ap size_of g)
    go (bad f) = absurd (let z : ◌≡◌ {A = ℕ} 0 1 = cc in omega arith)

-- an instruction's bytes are its opcode and that one's operand
own_size : (op : Op) (rest : List ℕ) → size_of op ≡ 1 + opcode_operand (get_or (op_bytes op ++ rest) 0 0)
own_size op rest = sym (bytes_length op) ∙ (text_length op ∙ ap (λ (k : ℕ). 1 + opcode_operand k) (sym (first_byte op rest)))

op_size : (bs : List ℕ) → Bytes bs → (o : Op) → op_at bs ≡ done o → size_of o ≡ 1 + opcode_operand (get_or bs 0 0)
op_size bs b o e = go (seen bs b)
  where
    go : Sees bs → size_of o ≡ 1 + opcode_operand (get_or bs 0 0)
    go (good op rest v t) =
        let f : op_at bs ≡ done op = rw t (op_reads op rest v) in
        let g : op ≡ o = cc in
        subst (λ (u : Op). size_of u ≡ 1 + opcode_operand (get_or bs 0 0)) g (subst (λ (l : List ℕ). size_of op ≡ 1 + opcode_operand (get_or l 0 0)) (sym t) (own_size op rest))
    go (bad f) = absurd (let z : ◌≡◌ {A = ℕ} 0 1 = cc in omega arith)

-- ---- an instruction as the code has it

same_code : (o : Op) → opcode_of (show_op o) ≡ list_opcode o
same_code (push n) = refl
same_code add = refl
same_code (read v) = refl
same_code (write v) = refl
same_code begin = refl
same_code commit = refl
same_code (fork n) = refl

op_code : (bs : List ℕ) → Bytes bs → (o : Op) → op_at bs ≡ done o → opcode_of (show_op o) ≡ get_or bs 0 0
op_code bs b o e = go (seen bs b)
  where
    go : Sees bs → opcode_of (show_op o) ≡ get_or bs 0 0
    go (good op rest v t) =
        let f : op_at bs ≡ done op = rw t (op_reads op rest v) in
        let g : o ≡ op = cc in
        ap (λ (u : Op). opcode_of (show_op u)) g ∙ (same_code op ∙ (sym (first_byte op rest) ∙ ap (λ (l : List ℕ). get_or l 0 0) (sym t)))
    go (bad f) = cc

-- the COMMIT of a long transaction is there
pub long_here : (code : List ℕ) → Bytes code → (n nodes : ℕ) (i : Instruction) → i ≡ shown_op (op_at (drop n code)) → ends_long (opcode_of i) nodes ≡ true → ends_long (get_or code n 0) nodes ≡ true
unfolding ends_long
long_here code b n nodes i is l = go (op_at (drop n code)) refl
  where
    go : (o : Outcome Op) → op_at (drop n code) ≡ o → ends_long (get_or code n 0) nodes ≡ true
    go (refused x p) a = let f : opcode_of i ≡ 0 = ap opcode_of (is ∙ ap shown_op a) in let g : false ≡ true = rw f at l in cc
    go (done o) a =
        let z : n + 0 ≡ n = omega arith in
        let f : opcode_of i ≡ get_or code n 0 = ap opcode_of (is ∙ ap shown_op a) ∙ (op_code (drop n code) (bytes_drop n b) o a ∙ (get_or-drop n code 0 0 ∙ ap (λ (x : ℕ). get_or code x 0) z)) in
        rw f at l

same_length : (o : Op) → op_length (show_op o) ≡ size_of o
same_length (push n) = refl
same_length add = refl
same_length (read v) = refl
same_length (write v) = refl
same_length begin = refl
same_length commit = refl
same_length (fork n) = refl

same_step : (o : Op) (v : ListScan) → op_stepped (show_op o) v ≡ stepped o v
same_step (push n) v = refl
same_step add v = refl
same_step (read r) v = refl
same_step (write r) v = refl
same_step begin v = refl
same_step commit v = refl
same_step (fork n) v = refl

-- it fits the code that is left
pub op_within : (bs : List ℕ) → Bytes bs → op_length (shown_op (op_at bs)) ≤ length bs
op_within bs b = go (op_at bs) refl
  where
    go : (o : Outcome Op) → op_at bs ≡ o → op_length (shown_op o) ≤ length bs
    go (refused n p) e = omega arith
    go (done o) e = omega (arith, same_length o, op_fits bs b o e)

-- ---- the loop

-- what the scan still comes to
unfoldable pub ahead : List ℕ → ListScan → Outcome ListScan
ahead bs v = scan_ops (suc (length bs)) v bs

-- what holds at the loop's head
pub record Loop (code : List ℕ) (s : Scan) : Type 0 where
  pub within : s.place ≤ length code
  pub same : ahead (drop s.place code) (view s) ≡ all_scanned code

pub loop_start : (code : List ℕ) (s : Scan) → view s ≡ scan_start → s.place ≡ 5 → 5 ≤ length code → Loop code s
unfolding ahead
loop_start code s e p h = record { within = omega arith; same = rw (e, p) refl }

module _ (code : List ℕ) (bytes : Bytes code) {s : Scan} (loop : Loop code s) where
  abbrev bs : List ℕ
  bs = drop s.place code

  bytes-bs : Bytes bs
  bytes-bs = bytes_drop s.place bytes

  module _ (n : Scan) (place : n.place ≡ s.place) {A : Type 0} (r : Option A) (e : after r n ≡ closes (view s).ends (view s)) where
    settled : onward (after r n) (behind (length bs) bs) ≡ all_scanned code
    unfolding ahead scan_ops
    settled = ap (λ (o : Outcome ListScan). onward o (behind (length bs) bs)) e ∙ loop.same

    -- the code is foreign where a child ends
    pub settle_none : r ≡ None → all_scanned code ≡ foreign
    settle_none f = sym (rw f at settled)

    module _ {a : A} (f : r ≡ Some a) where
      behind_is : behind (length bs) bs (view n) ≡ all_scanned code
      behind_is = rw f at settled

      -- the code ends
      at_end : length code ≤ n.place → finished (view n) ≡ all_scanned code
      at_end h =
          let z : length bs ≡ 0 = omega (arith, length-drop s.place code) in
          let b : behind (length bs) bs (view n) ≡ finished (view n) = rw (eq-eqb (length bs) 0 z, behind) in
          sym b ∙ behind_is

      pub end_none : {B : Type 0} (q : Option B) → length code ≤ n.place → after q n ≡ finished (view n) → q ≡ None → all_scanned code ≡ foreign
      end_none q h g k = sym (at_end h) ∙ (sym g ∙ (rw k refl))

      pub end_some : {B : Type 0} (q : Option B) {b : B} → length code ≤ n.place → after q n ≡ finished (view n) → q ≡ Some b → all_scanned code ≡ done (view n)
      end_some q h g k = sym (at_end h) ∙ (sym g ∙ (rw k refl))

      -- an instruction
      module _ (h : n.place < length code) {B : Type 0} (q : Option B) (m : Scan) (i : Instruction) (is : i ≡ shown_op (op_at (drop n.place code))) (step : after q m ≡ op_stepped i (view n)) where
        opens : onward (op_at bs) (λ op. onward (scan_op op (view n)) (λ next. scan_ops (length bs) (moved_past op next) (drop (size_of op) bs))) ≡ all_scanned code
        opens =
            let some : length bs ≡ 0 → ⊥ = λ z. omega (arith, length-drop s.place code) in
            let b : behind (length bs) bs (view n) ≡ onward (op_at bs) (λ op. onward (scan_op op (view n)) (λ next. scan_ops (length bs) (moved_past op next) (drop (size_of op) bs))) = rw (ne_eqb (length bs) 0 some, behind) in
            sym b ∙ behind_is

        is_here : i ≡ shown_op (op_at bs)
        is_here = is ∙ ap (λ (k : ℕ). shown_op (op_at (drop k code))) place

        came : after q m ≡ op_stepped (shown_op (op_at bs)) (view n)
        came = step ∙ ap (λ (j : Instruction). op_stepped j (view n)) is_here

        -- what comes of an instruction that is there
        one_op : (o : Op) → op_at bs ≡ done o → onward (after q m) (λ v. scan_ops (length bs) v (drop (size_of o) bs)) ≡ all_scanned code
        one_op o e =
            ap (λ (x : Outcome ListScan). onward x (λ v. scan_ops (length bs) v (drop (size_of o) bs))) (came ∙ (rw e (same_step o (view n))))
            ∙ (onward_mapped (moved_past o) (scan_op o (view n)) (λ v. scan_ops (length bs) v (drop (size_of o) bs))
            ∙ (ap (λ (x : Outcome Op). onward x (λ op. onward (scan_op op (view n)) (λ next. scan_ops (length bs) (moved_past op next) (drop (size_of op) bs)))) (sym e) ∙ opens))

        -- the code is foreign there
        pub step_none : q ≡ None → all_scanned code ≡ foreign
        step_none k = go (op_at bs) refl
          where
            go : (o : Outcome Op) → op_at bs ≡ o → all_scanned code ≡ foreign
            go (refused x p) a = sym opens ∙ (rw a (sym (op_foreign bs x p a)))
            go (done o) a = sym (rw k at (one_op o a))

        -- or the loop goes on behind it
        module _ {b : B} (k : q ≡ Some b) (moved : OnSome q (m.place ≡ n.place + op_length i)) where
          moved_by : m.place ≡ n.place + op_length i
          moved_by = rw k at moved

          goes-on : (o : Op) → op_at bs ≡ done o → Loop code m
          unfolding ahead
          goes-on o a =
              let z : op_length i ≡ size_of o = ap op_length (is_here ∙ ap shown_op a) ∙ same_length o in
              let fits : size_of o ≤ length bs = op_fits bs bytes-bs o a in
              let l : length bs ≡ length code - s.place = length-drop s.place code in
              let p : m.place ≡ s.place + size_of o = omega (arith, moved_by) in
              let t : drop m.place code ≡ drop (size_of o) bs = ap (λ (x : ℕ). drop x code) p ∙ sym (drop-drop (size_of o) s.place code) in
              let u : scan_ops (length bs) (view m) (drop (size_of o) bs) ≡ all_scanned code = rw k at (one_op o a) in
              let d : length (drop (size_of o) bs) ≡ length bs - size_of o = length-drop (size_of o) bs in
              record {
                within = omega arith;
                same = ap (λ (cs : List ℕ). scan_ops (suc (length cs)) (view m) cs) t ∙ (scan_fuel (suc (length (drop (size_of o) bs))) (length bs) (view m) (drop (size_of o) bs) (omega arith) (omega (arith, size_some o)) ∙ u);
              }

          no_op : (x p : ℕ) → op_at bs ≡ refused x p → ⊥
          no_op x p a =
              let c : ◌≡◌ {A = Outcome ListScan} (done (view m)) foreign = rw (k, a) at came in
              let z : ◌≡◌ {A = ℕ} 0 1 = cc in
              omega arith

          pub step_some : Loop code m
          step_some = go (op_at bs) refl
            where
              go : (o : Outcome Op) → op_at bs ≡ o → Loop code m
              go (refused x p) a = absurd (no_op x p a)
              go (done o) a = goes-on o a

          pub number_is : opcode_of i ≡ get_or code n.place 0
          number_is = go (op_at bs) refl
            where
              go : (o : Outcome Op) → op_at bs ≡ o → opcode_of i ≡ get_or code n.place 0
              go (refused x p) a = absurd (no_op x p a)
              go (done o) a =
                  let y : s.place + 0 ≡ n.place = omega arith in
                  ap opcode_of (is_here ∙ ap shown_op a) ∙ (op_code bs bytes-bs o a ∙ (get_or-drop s.place code 0 0 ∙ ap (λ (x : ℕ). get_or code x 0) y))

          pub onward_by : m.place ≡ n.place + (1 + opcode_operand (get_or code n.place 0))
          onward_by = go (op_at bs) refl
            where
              go : (o : Outcome Op) → op_at bs ≡ o → m.place ≡ n.place + (1 + opcode_operand (get_or code n.place 0))
              go (refused x p) a = absurd (no_op x p a)
              go (done o) a =
                  let z : op_length i ≡ size_of o = ap op_length (is_here ∙ ap shown_op a) ∙ same_length o in
                  let w : size_of o ≡ 1 + opcode_operand (get_or bs 0 0) = op_size bs bytes-bs o a in
                  let y : s.place + 0 ≡ n.place = omega arith in
                  let f : get_or bs 0 0 ≡ get_or code n.place 0 = get_or-drop s.place code 0 0 ∙ ap (λ (x : ℕ). get_or code x 0) y in
                  moved_by ∙ ap (λ (x : ℕ). n.place + x) (z ∙ (w ∙ ap (λ (x : ℕ). 1 + opcode_operand x) f))

-- a FORK's length is one of 16 bits
pub op_small : (bs : List ℕ) → Bytes bs → ShortFork (shown_op (op_at bs))
op_small bs b = go (seen bs b)
  where
    small : (o : Op) → ValuedO o → ShortFork (show_op o)
    small (push n) v = tt
    small add v = tt
    small (read r) v = tt
    small (write r) v = tt
    small begin v = tt
    small commit v = tt
    small (fork n) v = omega arith

    go : Sees bs → ShortFork (shown_op (op_at bs))
    go (good op rest v t) = rw (t, op_reads op rest v) (small op v)
    go (bad f) = rw f tt
