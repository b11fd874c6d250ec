-- One turn of the pass, for each instruction and for the end of a child: that it can be done, and that it goes on as the reading does. Assumes nothing.
use Prim.Native.Nat.{ℕ, suc, ◌+◌, ◌-◌, ◌*◌, ◌≤◌, ◌<◌}
use mathlib.Core.Path.{◌≡◌, refl, sym, ap, subst, ◌∙◌}
use mathlib.Core.Bool.{Bool, true, false, not}
use mathlib.Core.List.{List, [], ◌∷◌, ◌++◌}
use native.Mathlib.Omega.{arith}
use lib.IntN.{ℤ}
use lib.ListN.{length, drop, get_or, length-drop}
use lib.Seq.{get_or-drop}
use borrow.Author.Tests.{not-false}
use Rattle.script.specs.InnerTrees.{kind_in}
use Rattle.delivery.specs.Delivered.{onto}
use Rattle.delivery.specs.InnerPlaces.{inserted, placed_at}
use Rattle.decompiler.specs.declared.Pass.{Pass}
use Rattle.decompiler.specs.InnerState.{part_pushed, parts_merged, part_grown, child_opened, child_shut, at_end, Room, CanMove}
use Rattle.decompiler.specs.InnerWalk.{OutsideItems, InsideItems, Sorted, Follows, TurnTaken}
use Rattle.decompiler.proofs.Next.{none_ends, Ending, one_ends, Merges, child_merges, child_sorted, child_forks, merges_text, Closes, child_closes, FoundOp, next_found, stays_from, sum_merges, sum_sorted, commit_merges, commit_sorted, Writes, write_writes, forks_stay}
use Rattle.decompiler.proofs.Follow.{StackRoom, small, push_stands, push_room, fork_stands, fork_room, merge_text, merge_stands, merge_moves, grow_stands, grow_moves, shut_stands}
use Rattle.code.specs.Ops.{add, commit, opcode_operand, decoded}
use Rattle.code.specs.Reader.{Item, tran, begun, forked, value_item, sum_top, write_top, commit_top, Done, done_with, do_op, read_ops}
use Rattle.code.proofs.ReadBack.{same}
use Rattle.code.specs.InnerParts.{item_bytes, job_text, forks_i}
use Rattle.script.specs.Tree.{Tran, Read, Write, Proc}
use Rattle.script.specs.Bytes.{Bytes, node_bytes, bytes_t, bytes_p}
use Rattle.script.specs.Outcome.{done}
use Rattle.script.specs.Jobs.{number16, number32}
use Rattle.script.proofs.Accepts.{passed}
use Rattle.script.proofs.Numbers.{number_written, bytes_drop}
use Rattle.word.specs.Sum.{signed}

-- the operand's bytes, from the place of the opcode
operand_at : (code : List ℕ) (q i : ℕ) → get_or (drop (suc q) code) i 0 ≡ get_or code (q + suc i) 0
operand_at code q i = let e : suc q + i ≡ q + suc i = omega arith in get_or-drop (suc q) code i 0 ∙ ap (λ (n : ℕ). get_or code n 0) e

-- a value's node
value_bytes : (inside : Bool) (a b c d : ℕ) → a < 256 → b < 256 → c < 256 → d < 256 → item_bytes (value_item inside (signed (((a * 256 + b) * 256 + c) * 256 + d))) ≡ kind_in inside 1 ∷ a ∷ b ∷ c ∷ d ∷ []
unfolding bytes_t bytes_p node_bytes
value_bytes true a b c d pa pb pc pd = ap (λ (l : List ℕ). 5 ∷ l) (number_written a b c d pa pb pc pd)
value_bytes false a b c d pa pb pc pd = ap (λ (l : List ℕ). 1 ∷ l) (number_written a b c d pa pb pc pd)

value_sorted : (inside : Bool) (n : ℤ) (s : List Item) → Sorted inside s → Sorted inside (value_item inside n ∷ s)
value_sorted true n s h = h
value_sorted false n s h = h

write_sorted : (inside : Bool) (t u : Tran) (s : List Item) → Sorted inside (tran t ∷ s) → Sorted inside (tran u ∷ s)
write_sorted true t u s h = h
write_sorted false t u s h = h

-- the reading goes on from what an instruction has done
reads-on : (fuel q : ℕ) (code es : List ℕ) (p : Proc) (next : Done) (inside : Bool) (s : List Item) → next.inside ≡ inside → next.items ≡ s → read_ops fuel next.inside next.items es q (drop q code) ≡ done p → read_ops fuel inside s es q (drop q code) ≡ done p
reads-on fuel q code es p next inside s i e d =
    subst (λ (b : Bool). read_ops fuel b s es q (drop q code) ≡ done p) i (subst (λ (l : List Item). read_ops fuel next.inside l es q (drop q code) ≡ done p) e d)

module _ {code head before : List ℕ} {p : Proc} {out : List ℕ} {s : Pass} {items : List Item} {es : List ℕ} {fuel : ℕ} (h : Follows code head before p out s items es fuel) where
  now : StackRoom before items es
  now = small h.known fuel s.inside items es s.place (drop s.place code) h.reads h.few

  pub open_few : s.forked ≤ 15
  open_few = omega (arith, h.many, now.few)

  -- what an opcode's place says
  found : at_end s ≡ false → s.place < length code → FoundOp code p s.inside items es s.place (get_or code s.place 0)
  unfolding at_end
  found t l = next_found fuel s.inside items es s.place code p (none_ends s.ends s.forked s.place es items h.many h.ends t) l h.reads

  pub found_at : at_end s ≡ false → s.place < length code → (k : ℕ) → get_or code s.place 0 ≡ k → FoundOp code p s.inside items es s.place k
  found_at t l k e = subst (FoundOp code p s.inside items es s.place) e (found t l)

  -- there is no other opcode
  module _ (t : at_end s ≡ false) (l : s.place < length code) where
    seventh : (get_or code s.place 0 ≡ 1 → ⊥) → (get_or code s.place 0 ≡ 2 → ⊥) → (get_or code s.place 0 ≡ 3 → ⊥) → (get_or code s.place 0 ≡ 4 → ⊥) → (get_or code s.place 0 ≡ 5 → ⊥) → (get_or code s.place 0 ≡ 6 → ⊥) → get_or code s.place 0 ≡ 7
    seventh n₁ n₂ n₃ n₄ n₅ n₆ = omega (arith, (found t l).low, (found t l).high)

    pub no_other : (get_or code s.place 0 ≡ 1 → ⊥) → (get_or code s.place 0 ≡ 2 → ⊥) → (get_or code s.place 0 ≡ 3 → ⊥) → (get_or code s.place 0 ≡ 4 → ⊥) → (get_or code s.place 0 ≡ 5 → ⊥) → (get_or code s.place 0 ≡ 6 → ⊥) → (get_or code s.place 0 ≡ 7 → ⊥) → ⊥
    no_other n₁ n₂ n₃ n₄ n₅ n₆ n₇ = n₇ (seventh n₁ n₂ n₃ n₄ n₅ n₆)

  -- ---- PUSH
  module _ (f : FoundOp code p s.inside items es s.place 1) where
    push_long : s.place + 5 ≤ length code
    unfolding opcode_operand
    push_long = omega (arith, f.enough, length-drop (suc s.place) code)

    push-bytes : item_bytes (value_item s.inside (signed (number32 (drop (suc s.place) code)))) ≡ kind_in s.inside 1 ∷ get_or code (s.place + 1) 0 ∷ get_or code (s.place + 2) 0 ∷ get_or code (s.place + 3) 0 ∷ get_or code (s.place + 4) 0 ∷ []
    push-bytes =
        let c = drop (suc s.place) code in
        let l = length-drop (suc s.place) code in
        let n = push_long in
        let b : Bytes c = bytes_drop (suc s.place) h.known.bytes in
        let v = value_bytes s.inside (get_or c 0 0) (get_or c 1 0) (get_or c 2 0) (get_or c 3 0) (b.small 0 (omega arith)) (b.small 1 (omega arith)) (b.small 2 (omega arith)) (b.small 3 (omega arith)) in
        rw (← operand_at code s.place 0, ← operand_at code s.place 1, ← operand_at code s.place 2, ← operand_at code s.place 3) v

    push_reads : read_ops f.fuel s.inside (value_item s.inside (signed (number32 (drop (suc s.place) code))) ∷ items) es (s.place + 5) (drop (s.place + 5) code) ≡ done p
    unfolding decoded do_op
    push_reads =
        let d = stays_from s.inside (done (value_item s.inside (signed (number32 (drop (suc s.place) code))) ∷ items)) f.next f.does in
        reads-on f.fuel (s.place + 5) code es p f.next s.inside _ d.1 (sym (same d.0)) f.reads

    pub push_fits : Room s.height s.place s.size 5 5 (length code) (length out)
    push_fits = push_room h _ _ push-bytes 5 f.fuel s.inside (value_sorted s.inside _ items h.sorted) push_reads (length code) push_long

    pub push_turn : TurnTaken code head before p (placed_at s.size (kind_in s.inside 1 ∷ get_or code (s.place + 1) 0 ∷ get_or code (s.place + 2) 0 ∷ get_or code (s.place + 3) 0 ∷ get_or code (s.place + 4) 0 ∷ []) out) s (part_pushed s 5 5 s.inside)
    unfolding part_pushed
    push_turn =
        record {
          walk = record { items = _; open' = es; fuel = f.fuel; stands = push_stands h _ _ push-bytes 5 f.fuel s.inside (value_sorted s.inside _ items h.sorted) push_reads };
          less = omega (arith, push_long);
        }

  -- ---- ADD
  module _ (f : FoundOp code p s.inside items es s.place 2) where
    add_did : (sum_top items ≡ done f.next.items) × (f.next.inside ≡ s.inside)
    unfolding decoded do_op
    add_did = stays_from s.inside (sum_top items) f.next f.does

    add_merges : Merges (kind_in s.inside 2 ∷ []) items f.next.items
    add_merges = sum_merges s.inside items f.next.items h.sorted add_did.0

    add_stands : Follows code head before p out s (add_merges.upper ∷ add_merges.lower ∷ add_merges.rest) es fuel
    add_stands = subst (λ (l : List Item). Follows code head before p out s l es fuel) add_merges.was h

    add_sorted : Sorted s.inside (add_merges.whole ∷ add_merges.rest)
    add_sorted = subst (Sorted s.inside) add_merges.is (sum_sorted s.inside items f.next.items h.sorted add_did.0)

    add_forks : forks_i (add_merges.upper ∷ add_merges.lower ∷ add_merges.rest) ≤ forks_i (add_merges.whole ∷ add_merges.rest)
    unfolding decoded
    add_forks =
        let g : forks_i items ≤ forks_i f.next.items = forks_stay add s.inside items f.next f.does in
        omega (arith, ap forks_i add_merges.was, ap forks_i add_merges.is)

    add_reads : read_ops f.fuel s.inside (add_merges.whole ∷ add_merges.rest) es (s.place + 1) (drop (s.place + 1) code) ≡ done p
    unfolding decoded
    add_reads = reads-on f.fuel (s.place + 1) code es p f.next s.inside _ add_did.1 add_merges.is f.reads

    module _ (l : s.place < length code) where
      pub add_fits : CanMove s.starts s.height s.place s.size 2 1 1 65536 (length out)
      add_fits =
          let m = add_merges in
          merge_moves m.upper m.lower m.whole m.rest (kind_in s.inside 2 ∷ []) m.bytes add_stands 1 f.fuel s.inside add_sorted add_forks add_reads 65536 (omega (arith, h.known.short))

      pub add_turn : TurnTaken code head before p (inserted (get_or s.starts (s.height - 2) 0) s.size (kind_in s.inside 2 ∷ []) out) s (parts_merged s 1 1 s.inside)
      unfolding parts_merged
      add_turn =
          let m = add_merges in
          let t = merge_text m.upper m.lower m.whole m.rest (kind_in s.inside 2 ∷ []) m.bytes add_stands in
          record {
            walk = record { items = m.whole ∷ m.rest; open' = es; fuel = f.fuel; stands = merge_stands m.upper m.lower m.whole m.rest (kind_in s.inside 2 ∷ []) m.bytes add_stands 1 f.fuel s.inside add_sorted add_forks add_reads _ t };
            less = omega arith;
          }

  -- ---- READ
  module _ (f : FoundOp code p s.inside items es s.place 3) where
    read_long : s.place + 2 ≤ length code
    unfolding opcode_operand
    read_long = omega (arith, f.enough, length-drop (suc s.place) code)

    read_did : (not s.inside ≡ false) × (done_with true (done (tran (Read (get_or (drop (suc s.place) code) 0 0)) ∷ items)) ≡ done f.next)
    unfolding decoded do_op
    read_did = passed (not s.inside) 11 0 (done_with true (done (tran (Read (get_or (drop (suc s.place) code) 0 0)) ∷ items))) f.does

    read_sorted : InsideItems items
    read_sorted = subst (λ (b : Bool). Sorted b items) (not-false s.inside read_did.0) h.sorted

    read-bytes : item_bytes (tran (Read (get_or (drop (suc s.place) code) 0 0))) ≡ 7 ∷ get_or code (s.place + 1) 0 ∷ []
    unfolding bytes_t node_bytes
    read-bytes = ap (λ (v : ℕ). 7 ∷ v ∷ []) (operand_at code s.place 0)

    read_reads : read_ops f.fuel true (tran (Read (get_or (drop (suc s.place) code) 0 0)) ∷ items) es (s.place + 2) (drop (s.place + 2) code) ≡ done p
    unfolding decoded
    read_reads =
        let d = stays_from true (done (tran (Read (get_or (drop (suc s.place) code) 0 0)) ∷ items)) f.next read_did.1 in
        reads-on f.fuel (s.place + 2) code es p f.next true _ d.1 (sym (same d.0)) f.reads

    pub read_fits : Room s.height s.place s.size 2 2 (length code) (length out)
    read_fits = push_room h _ _ read-bytes 2 f.fuel true read_sorted read_reads (length code) read_long

    pub read_turn : TurnTaken code head before p (placed_at s.size (7 ∷ get_or code (s.place + 1) 0 ∷ []) out) s (part_pushed s 2 2 true)
    unfolding part_pushed
    read_turn =
        record {
          walk = record { items = _; open' = es; fuel = f.fuel; stands = push_stands h _ _ read-bytes 2 f.fuel true read_sorted read_reads };
          less = omega (arith, read_long);
        }

  -- ---- WRITE
  module _ (f : FoundOp code p s.inside items es s.place 4) where
    write_long : s.place + 2 ≤ length code
    unfolding opcode_operand
    write_long = omega (arith, f.enough, length-drop (suc s.place) code)

    write_did : (not s.inside ≡ false) × (done_with true (write_top (get_or (drop (suc s.place) code) 0 0) items) ≡ done f.next)
    unfolding decoded do_op
    write_did = passed (not s.inside) 11 0 (done_with true (write_top (get_or (drop (suc s.place) code) 0 0) items)) f.does

    write_done : (write_top (get_or (drop (suc s.place) code) 0 0) items ≡ done f.next.items) × (f.next.inside ≡ true)
    write_done = stays_from true (write_top (get_or (drop (suc s.place) code) 0 0) items) f.next write_did.1

    write_part : Writes (get_or (drop (suc s.place) code) 0 0) items f.next.items
    write_part = write_writes (get_or (drop (suc s.place) code) 0 0) items f.next.items write_done.0

    write_stands : Follows code head before p out s (tran write_part.part ∷ write_part.rest) es fuel
    write_stands = subst (λ (l : List Item). Follows code head before p out s l es fuel) write_part.was h

    write_bytes : item_bytes (tran (Write (get_or (drop (suc s.place) code) 0 0) write_part.part)) ≡ (8 ∷ get_or code (s.place + 1) 0 ∷ []) ++ item_bytes (tran write_part.part)
    unfolding bytes_t node_bytes
    write_bytes = ap (λ (v : ℕ). 8 ∷ v ∷ bytes_t write_part.part) (operand_at code s.place 0)

    write_forks : forks_i (tran write_part.part ∷ write_part.rest) ≤ forks_i (tran (Write (get_or (drop (suc s.place) code) 0 0) write_part.part) ∷ write_part.rest)
    unfolding forks_i
    write_forks = omega arith

    write_reads : read_ops f.fuel s.inside (tran (Write (get_or (drop (suc s.place) code) 0 0) write_part.part) ∷ write_part.rest) es (s.place + 2) (drop (s.place + 2) code) ≡ done p
    unfolding decoded
    write_reads = reads-on f.fuel (s.place + 2) code es p f.next s.inside _ (write_done.1 ∙ sym (not-false s.inside write_did.0)) write_part.is f.reads

    pub write_fits : CanMove s.starts s.height s.place s.size 1 2 2 (length code) (length out)
    write_fits =
        let w = write_part in
        grow_moves (tran w.part) (tran (Write (get_or (drop (suc s.place) code) 0 0) w.part)) w.rest (8 ∷ get_or code (s.place + 1) 0 ∷ []) write_bytes write_stands 2 f.fuel (write_sorted s.inside w.part _ w.rest write_stands.sorted) write_forks write_reads (length code) write_long

    pub write_turn : TurnTaken code head before p (inserted (get_or s.starts (s.height - 1) 0) s.size (8 ∷ get_or code (s.place + 1) 0 ∷ []) out) s (part_grown s 2 2)
    unfolding part_grown
    write_turn =
        let w = write_part in
        record {
          walk = record { items = _; open' = es; fuel = f.fuel; stands = grow_stands (tran w.part) (tran (Write (get_or (drop (suc s.place) code) 0 0) w.part)) w.rest (8 ∷ get_or code (s.place + 1) 0 ∷ []) write_bytes write_stands 2 f.fuel (write_sorted s.inside w.part _ w.rest write_stands.sorted) write_forks write_reads };
          less = omega (arith, write_long);
        }

  -- ---- BEGIN
  module _ (f : FoundOp code p s.inside items es s.place 5) where
    begin_did : (s.inside ≡ false) × (done_with true (done (begun ∷ items)) ≡ done f.next)
    unfolding decoded do_op
    begin_did = passed s.inside 11 0 (done_with true (done (begun ∷ items))) f.does

    begin_sorted : OutsideItems items
    begin_sorted = subst (λ (b : Bool). Sorted b items) begin_did.0 h.sorted

    begin_reads : read_ops f.fuel true (begun ∷ items) es (s.place + 1) (drop (s.place + 1) code) ≡ done p
    unfolding decoded
    begin_reads =
        let d = stays_from true (done (begun ∷ items)) f.next begin_did.1 in
        reads-on f.fuel (s.place + 1) code es p f.next true _ d.1 (sym (same d.0)) f.reads

    module _ (l : s.place < length code) where
      pub begin_fits : Room s.height s.place s.size 1 1 65536 (length out)
      begin_fits = push_room h begun (3 ∷ []) refl 1 f.fuel true begin_sorted begin_reads 65536 (omega (arith, h.known.short))

      pub begin_turn : TurnTaken code head before p (placed_at s.size (3 ∷ []) out) s (part_pushed s 1 1 true)
      unfolding part_pushed
      begin_turn =
          record {
            walk = record { items = _; open' = es; fuel = f.fuel; stands = push_stands h begun (3 ∷ []) refl 1 f.fuel true begin_sorted begin_reads };
            less = omega arith;
          }

  -- ---- COMMIT
  module _ (f : FoundOp code p s.inside items es s.place 6) where
    commit_did : (not s.inside ≡ false) × (done_with false (commit_top items) ≡ done f.next)
    unfolding decoded do_op
    commit_did = passed (not s.inside) 11 0 (done_with false (commit_top items)) f.does

    commit_done : (commit_top items ≡ done f.next.items) × (f.next.inside ≡ false)
    commit_done = stays_from false (commit_top items) f.next commit_did.1

    commit_parts : Merges [] items f.next.items
    commit_parts = commit_merges items f.next.items commit_done.0

    commit_stands : Follows code head before p out s (commit_parts.upper ∷ commit_parts.lower ∷ commit_parts.rest) es fuel
    commit_stands = subst (λ (l : List Item). Follows code head before p out s l es fuel) commit_parts.was h

    commit_outside : OutsideItems (commit_parts.whole ∷ commit_parts.rest)
    commit_outside = subst OutsideItems commit_parts.is (commit_sorted items f.next.items (subst (λ (b : Bool). Sorted b items) (not-false s.inside commit_did.0) h.sorted) commit_done.0)

    commit_forks : forks_i (commit_parts.upper ∷ commit_parts.lower ∷ commit_parts.rest) ≤ forks_i (commit_parts.whole ∷ commit_parts.rest)
    unfolding decoded
    commit_forks =
        let g : forks_i items ≤ forks_i f.next.items = forks_stay commit s.inside items f.next f.does in
        omega (arith, ap forks_i commit_parts.was, ap forks_i commit_parts.is)

    commit_reads : read_ops f.fuel false (commit_parts.whole ∷ commit_parts.rest) es (s.place + 1) (drop (s.place + 1) code) ≡ done p
    unfolding decoded
    commit_reads = reads-on f.fuel (s.place + 1) code es p f.next false _ commit_done.1 commit_parts.is f.reads

    commit_text : out ≡ onto (head ++ job_text (commit_parts.whole ∷ commit_parts.rest)) before
    commit_text = h.text ∙ ap (λ (l : List ℕ). onto (head ++ l) before) (merges_text commit_parts ∙ ap job_text commit_parts.is)

    module _ (l : s.place < length code) where
      pub commit_fits : CanMove s.starts s.height s.place s.size 2 1 0 65536 (length out)
      commit_fits =
          let m = commit_parts in
          merge_moves m.upper m.lower m.whole m.rest [] m.bytes commit_stands 1 f.fuel false commit_outside commit_forks commit_reads 65536 (omega (arith, h.known.short))

      pub commit_turn : TurnTaken code head before p out s (parts_merged s 1 0 false)
      unfolding parts_merged
      commit_turn =
          let m = commit_parts in
          record {
            walk = record { items = m.whole ∷ m.rest; open' = es; fuel = f.fuel; stands = merge_stands m.upper m.lower m.whole m.rest [] m.bytes commit_stands 1 f.fuel false commit_outside commit_forks commit_reads out commit_text };
            less = omega arith;
          }

  -- ---- FORK
  module _ (f : FoundOp code p s.inside items es s.place 7) where
    fork_long : s.place + 3 ≤ length code
    unfolding opcode_operand
    fork_long = omega (arith, f.enough, length-drop (suc s.place) code)

    fork_did : (s.inside ≡ false) × (done_with false (done (forked (number16 (drop (suc s.place) code) 0) ∷ items)) ≡ done f.next)
    unfolding decoded do_op
    fork_did = passed s.inside 11 0 (done_with false (done (forked (number16 (drop (suc s.place) code) 0) ∷ items))) f.does

    fork_sorted : OutsideItems items
    fork_sorted = subst (λ (b : Bool). Sorted b items) fork_did.0 h.sorted

    fork_reads : read_ops f.fuel false (forked (number16 (drop (suc s.place) code) 0) ∷ items) ((s.place + 3 + (get_or code (s.place + 1) 0 * 256 + get_or code (s.place + 2) 0)) ∷ es) (s.place + 3) (drop (s.place + 3) code) ≡ done p
    unfolding decoded
    fork_reads =
        let d = stays_from false (done (forked (number16 (drop (suc s.place) code) 0) ∷ items)) f.next fork_did.1 in
        let r = reads-on f.fuel (s.place + 3) code ((s.place + 3 + number16 (drop (suc s.place) code) 0) ∷ es) p f.next false _ d.1 (sym (same d.0)) f.reads in
        rw (← operand_at code s.place 0, ← operand_at code s.place 1) r

    pub fork_fits : (Room s.height s.place s.size 3 1 (length code) (length out)) × (s.forked < 15) × (length code ≤ 65536)
    fork_fits = fork_room h _ _ f.fuel fork_sorted fork_reads fork_long

    pub fork_turn : TurnTaken code head before p (placed_at s.size (4 ∷ []) out) s (child_opened (part_pushed s 3 1 false) (s.place + 3 + (get_or code (s.place + 1) 0 * 256 + get_or code (s.place + 2) 0)))
    unfolding child_opened part_pushed
    fork_turn =
        record {
          walk = record { items = _; open' = _; fuel = f.fuel; stands = fork_stands h _ _ f.fuel fork_sorted fork_reads };
          less = omega (arith, fork_long);
        }

  -- ---- the end of a child
  module _ (t : at_end s ≡ true) where
    ending : Ending s.place es
    unfolding at_end
    ending = one_ends s.ends s.forked s.place es h.many h.ends t

    end_stands : Follows code head before p out s items (s.place ∷ ending.others) fuel
    end_stands = subst (λ (l : List ℕ). Follows code head before p out s items l fuel) ending.is h

    closes : Closes fuel s.inside items ending.others s.place (drop s.place code) p
    closes = child_closes fuel s.inside items ending.others s.place (drop s.place code) p end_stands.reads

    end_parts : Merges [] items closes.after
    end_parts = child_merges items closes.after closes.ends

    both_stands : Follows code head before p out s (end_parts.upper ∷ end_parts.lower ∷ end_parts.rest) (s.place ∷ ending.others) fuel
    both_stands = subst (λ (l : List Item). Follows code head before p out s l (s.place ∷ ending.others) fuel) end_parts.was end_stands

    pub close_fits : (1 ≤ s.forked) × (1 ≤ s.height)
    close_fits = (omega (arith, both_stands.many), omega (arith, both_stands.high))

    pub close_turn : TurnTaken code head before p out s (child_shut s)
    unfolding child_shut
    close_turn =
        let m = end_parts in
        let text : job_text (m.upper ∷ m.lower ∷ m.rest) ≡ job_text (m.whole ∷ m.rest) = sym (ap job_text m.was) ∙ merges_text m ∙ ap job_text m.is in
        let sorted : Sorted s.inside (m.whole ∷ m.rest) = subst (Sorted s.inside) m.is (child_sorted s.inside items closes.after closes.ends h.sorted) in
        let forks : forks_i (m.upper ∷ m.lower ∷ m.rest) ≡ forks_i (m.whole ∷ m.rest) = sym (ap forks_i m.was) ∙ child_forks items closes.after closes.ends ∙ ap forks_i m.is in
        let reads : read_ops fuel s.inside (m.whole ∷ m.rest) ending.others s.place (drop s.place code) ≡ done p = subst (λ (l : List Item). read_ops fuel s.inside l ending.others s.place (drop s.place code) ≡ done p) m.is closes.reads in
        record {
          walk = record { items = m.whole ∷ m.rest; open' = ending.others; fuel = fuel; stands = shut_stands m.upper m.lower m.whole m.rest text both_stands sorted forks reads };
          less = omega (arith, close_fits);
        }

-- a turn, at what the code came to
pub walked_as : {code head before : List ℕ} {p : Proc} {out out' : List ℕ} {s r r' : Pass} → TurnTaken code head before p out' s r' → r ≡ r' → out ≡ out' → TurnTaken code head before p out s r
walked_as {code} {head} {before} {p} {out} {out'} {s} {r} {r'} w e t =
    subst (λ (o : List ℕ). TurnTaken code head before p o s r) (sym t) (subst (TurnTaken code head before p out' s) (sym e) w)
