-- The pass follows the reading: what each instruction does to the state and the output is what it does to the stack, and the bounds hold
-- since the tree that is read in the end is within the limits. Assumes nothing.
use Prim.Native.Nat.{ℕ, suc, ◌+◌, ◌-◌, ◌≤◌, ◌<◌}
use mathlib.Core.Path.{◌≡◌, refl, sym, ap, subst, ◌∙◌}
use mathlib.Core.Bool.{Bool, false}
use mathlib.Core.List.{List, [], ◌∷◌, ◌++◌, append_assoc}
use native.Mathlib.Omega.{arith}
use lib.ListN.{length, drop, get_or, set, length-append, length-set}
use lib.Seq.{get_or-set_same, get_or-set_other}
use Rattle.delivery.specs.Delivered.{onto}
use Rattle.delivery.specs.InnerPlaces.{inserted, placed_at}
use Rattle.decompiler.specs.declared.Pass.{Pass}
use Rattle.decompiler.specs.InnerState.{part_pushed, parts_merged, part_grown, child_opened, child_shut, Room, CanMove}
use Rattle.decompiler.specs.InnerWalk.{Starts, Ends, Sorted, Setting, Follows}
use Rattle.delivery.proofs.Places.{inserted_onto, onto_length, placed_onto}
use Rattle.code.specs.Reader.{Item, forked, read_ops}
use Rattle.code.specs.InnerParts.{item_forks, item_bytes, job_text, forks_i}
use Rattle.code.proofs.Texts.{ops_grown, height_grows}
use Rattle.script.specs.Tree.{Proc}
use Rattle.script.specs.Count.{forks}
use Rattle.script.specs.Bytes.{bytes_p}
use Rattle.script.specs.Outcome.{done}

-- ---- the arrays

starts_set : (a : List ℕ) (s : List Item) (n v : ℕ) → length s ≤ n → Starts a s → Starts (set a n v) s
starts_set a [] n v h k = tt
starts_set a (x ∷ s) n v h k = (rw (get_or-set_other a n (length s) v 0 (omega arith)) k.0, starts_set a s n v (omega arith) k.1)

starts_push : (a : List ℕ) (x : Item) (s : List Item) (n v : ℕ) → n ≡ length s → n < length a → v ≡ 7 + length (job_text s) → Starts a s → Starts (set a n v) (x ∷ s)
starts_push a x s n v e l q k =
    (subst (λ (m : ℕ). get_or (set a n v) m 0 ≡ 7 + length (job_text s)) e (get_or-set_same a n v 0 l ∙ q), starts_set a s n v (omega arith) k)

ends_set : (a es : List ℕ) (n v : ℕ) → length es ≤ n → Ends a es → Ends (set a n v) es
ends_set a [] n v h k = tt
ends_set a (e ∷ es) n v h k = (rw (get_or-set_other a n (length es) v 0 (omega arith)) k.0, ends_set a es n v (omega arith) k.1)

ends_push : (a es : List ℕ) (n v : ℕ) → n ≡ length es → n < length a → Ends a es → Ends (set a n v) (v ∷ es)
ends_push a es n v e l k =
    (subst (λ (m : ℕ). get_or (set a n v) m 0 ≡ v) e (get_or-set_same a n v 0 l), ends_set a es n v (omega arith) k)

-- ---- the bounds

-- what a stack from which the tree is read is within
pub record StackRoom (before : List ℕ) (s : List Item) (es : List ℕ) : Type 0 where
  pub low : length s ≤ 64
  pub few : length es ≤ 15
  pub text : 7 + length (job_text s) ≤ length before

module _ {code head before : List ℕ} {p : Proc} (known : Setting code head before p) where
  pub small : (fuel : ℕ) (inside : Bool) (s : List Item) (es : List ℕ) (q : ℕ) (bs : List ℕ) → read_ops fuel inside s es q bs ≡ done p → length es ≤ forks_i s → StackRoom before s es
  unfolding forks_i job_text
  small fuel inside s es q bs d f =
      let g = ops_grown fuel inside s es q bs p d in
      let most : forks_i s ≤ 0 + forks p = g.forks in
      let text : length (job_text s) ≤ length (bytes_p p) = g.text in
      record {
        low = omega (arith, height_grows fuel inside s es q bs p d, known.flat);
        few = omega (arith, known.narrow);
        text = omega (arith, known.room);
      }

  -- the output is as long as before
  pub out_length : (s : List Item) (es out : List ℕ) → StackRoom before s es → out ≡ onto (head ++ job_text s) before → length out ≡ length before
  out_length s es out h t =
      ap length t ∙ onto_length (head ++ job_text s) before (omega (arith, h.text, length-append head (job_text s), known.seven))

-- ---- the output

module _ (head before : List ℕ) (seven : length head ≡ 7) where
  -- a part behind the others
  text_push : (x : Item) (s : List Item) (bs out : List ℕ) (i : ℕ) → item_bytes x ≡ bs → i ≡ 7 + length (job_text s) → out ≡ onto (head ++ job_text s) before → placed_at i bs out ≡ onto (head ++ job_text (x ∷ s)) before
  unfolding job_text
  text_push x s bs out i b e t =
      let n : i ≡ length (head ++ job_text s) = omega (arith, length-append head (job_text s)) in
      rw (t, b, ← append_assoc head (job_text s) bs) (placed_onto i bs (head ++ job_text s) before n)

  -- bytes in front of a part
  text_grow : (x y : Item) (s : List Item) (front out : List ℕ) (i e : ℕ) → item_bytes y ≡ front ++ item_bytes x → i ≡ 7 + length (job_text s) → e ≡ 7 + length (job_text (x ∷ s)) → out ≡ onto (head ++ job_text (x ∷ s)) before → inserted i e front out ≡ onto (head ++ job_text (y ∷ s)) before
  unfolding job_text
  text_grow x y s front out i e b p q t =
      let n : i ≡ length (head ++ job_text s) = omega (arith, length-append head (job_text s)) in
      let m : e ≡ length (head ++ job_text s) + length (item_bytes x) = omega (arith, length-append head (job_text s), length-append (job_text s) (item_bytes x)) in
      rw (t, b, ← append_assoc head (job_text s) (front ++ item_bytes x), ← append_assoc head (job_text s) (item_bytes x))
      (inserted_onto (head ++ job_text s) (item_bytes x) front before i e n m)

  -- bytes in front of two parts, which become one
  text_merge : (x y z : Item) (s : List Item) (front out : List ℕ) (i e : ℕ) → item_bytes z ≡ front ++ (item_bytes y ++ item_bytes x) → i ≡ 7 + length (job_text s) → e ≡ 7 + length (job_text (x ∷ y ∷ s)) → out ≡ onto (head ++ job_text (x ∷ y ∷ s)) before → inserted i e front out ≡ onto (head ++ job_text (z ∷ s)) before
  unfolding job_text
  text_merge x y z s front out i e b p q t =
      let n : i ≡ length (head ++ job_text s) = omega (arith, length-append head (job_text s)) in
      let parts : List ℕ = item_bytes y ++ item_bytes x in
      let one : (job_text s ++ item_bytes y) ++ item_bytes x ≡ job_text s ++ parts = append_assoc (job_text s) (item_bytes y) (item_bytes x) in
      let long : length ((job_text s ++ item_bytes y) ++ item_bytes x) ≡ length (job_text s) + length parts = ap length one ∙ length-append (job_text s) parts in
      let m : e ≡ length (head ++ job_text s) + length parts = omega (arith, length-append head (job_text s)) in
      let t₁ : out ≡ onto ((head ++ job_text s) ++ parts) before = t ∙ ap (λ (l : List ℕ). onto l before) (ap (λ (l : List ℕ). head ++ l) one ∙ sym (append_assoc head (job_text s) parts)) in
      rw (t₁, b, ← append_assoc head (job_text s) (front ++ parts))
      (inserted_onto (head ++ job_text s) parts front before i e n m)

-- ---- the state

module _ {code head before : List ℕ} {p : Proc} {out : List ℕ} {s : Pass} {items : List Item} {es : List ℕ} {fuel : ℕ} (h : Follows code head before p out s items es fuel) where
  -- a part is pushed
  module _ (x : Item) (bs : List ℕ) (bytes : item_bytes x ≡ bs) (n fuel' : ℕ) (inside : Bool) (sorted : Sorted inside (x ∷ items)) where
    pub push_stands : read_ops fuel' inside (x ∷ items) es (s.place + n) (drop (s.place + n) code) ≡ done p → Follows code head before p (placed_at s.size bs out) (part_pushed s n (length bs) inside) (x ∷ items) es fuel'
    unfolding part_pushed job_text forks_i
    push_stands d =
        let few : length es ≤ forks_i items + item_forks x = omega (arith, h.few) in
        let small' = small h.known fuel' inside (x ∷ items) es _ _ d few in
        let low : suc (length items) ≤ 64 = small'.low in
        record {
          known = h.known;
          reads = d;
          sorted = sorted;
          high = omega (arith, h.high);
          starts = starts_push s.starts x items s.height s.size h.high (omega (arith, h.high, h.wide)) h.size h.starts;
          many = h.many;
          ends = h.ends;
          few = few;
          size = omega (arith, h.size, length-append (job_text items) (item_bytes x), ap length bytes);
          text = text_push head before h.known.seven x items bs out s.size bytes h.size h.text;
          wide = length-set s.starts s.height s.size ∙ h.wide;
          narrow = h.narrow;
        }

    pub push_room : read_ops fuel' inside (x ∷ items) es (s.place + n) (drop (s.place + n) code) ≡ done p → (most : ℕ) → s.place + n ≤ most → Room s.height s.place s.size n (length bs) most (length out)
    unfolding job_text forks_i
    push_room d most l =
        let few : length es ≤ forks_i items + item_forks x = omega (arith, h.few) in
        let small' = small h.known fuel' inside (x ∷ items) es _ _ d few in
        let now = small h.known fuel s.inside items es _ _ h.reads h.few in
        let low : suc (length items) ≤ 64 = small'.low in
        let text : 7 + length (job_text items ++ item_bytes x) ≤ length before = small'.text in
        record {
          low = omega (arith, h.high);
          early = l;
          short = omega (arith, h.size, length-append (job_text items) (item_bytes x), ap length bytes, out_length h.known items es out now h.text);
        }

  -- a FORK
  module _ (end size fuel' : ℕ) (sorted : Sorted false (forked size ∷ items)) (d : read_ops fuel' false (forked size ∷ items) (end ∷ es) (s.place + 3) (drop (s.place + 3) code) ≡ done p) where
    fork_small : StackRoom before (forked size ∷ items) (end ∷ es)
    unfolding forks_i
    fork_small = let few : suc (length es) ≤ forks_i items + 1 = omega (arith, h.few) in small h.known fuel' false (forked size ∷ items) (end ∷ es) _ _ d few

    pub fork_stands : Follows code head before p (placed_at s.size (4 ∷ []) out) (child_opened (part_pushed s 3 1 false) end) (forked size ∷ items) (end ∷ es) fuel'
    unfolding child_opened part_pushed job_text forks_i
    fork_stands =
        let low : suc (length items) ≤ 64 = fork_small.low in
        let few : suc (length es) ≤ 15 = fork_small.few in
        record {
          known = h.known;
          reads = d;
          sorted = sorted;
          high = omega (arith, h.high);
          starts = starts_push s.starts (forked size) items s.height s.size h.high (omega (arith, h.high, h.wide)) h.size h.starts;
          many = omega (arith, h.many);
          ends = ends_push s.ends es s.forked end h.many (omega (arith, h.many, h.narrow)) h.ends;
          few = omega (arith, h.few);
          size = omega (arith, h.size, length-append (job_text items) (4 ∷ []));
          text = text_push head before h.known.seven (forked size) items (4 ∷ []) out s.size refl h.size h.text;
          wide = length-set s.starts s.height s.size ∙ h.wide;
          narrow = length-set s.ends s.forked end ∙ h.narrow;
        }

    pub fork_room : s.place + 3 ≤ length code → (Room s.height s.place s.size 3 1 (length code) (length out)) × (s.forked < 15) × (length code ≤ 65536)
    unfolding job_text
    fork_room l =
        let now = small h.known fuel s.inside items es _ _ h.reads h.few in
        let low : suc (length items) ≤ 64 = fork_small.low in
        let few : suc (length es) ≤ 15 = fork_small.few in
        let text : 7 + length (job_text items ++ (4 ∷ [])) ≤ length before = fork_small.text in (
          record {
            low = omega (arith, h.high);
            early = l;
            short = omega (arith, h.size, length-append (job_text items) (4 ∷ []), out_length h.known items es out now h.text);
          },
          omega (arith, h.many),
          h.known.short,
        )

-- the two topmost parts become one
module _ {code head before : List ℕ} {p : Proc} {out : List ℕ} {s : Pass} {es : List ℕ} {fuel : ℕ} (x y z : Item) (rest : List Item) (front : List ℕ) (bytes : item_bytes z ≡ front ++ (item_bytes y ++ item_bytes x)) (h : Follows code head before p out s (x ∷ y ∷ rest) es fuel) where
  merge_start : get_or s.starts (s.height - 2) 0 ≡ 7 + length (job_text rest)
  merge_start =
      let n : s.height - 2 ≡ length rest = omega (arith, h.high) in
      rw n h.starts.1.0

  pub merge_text : inserted (get_or s.starts (s.height - 2) 0) s.size front out ≡ onto (head ++ job_text (z ∷ rest)) before
  merge_text = text_merge head before h.known.seven x y z rest front out _ s.size bytes merge_start h.size h.text

  merge_size : 7 + length (job_text (x ∷ y ∷ rest)) + length front ≡ 7 + length (job_text (z ∷ rest))
  unfolding job_text
  merge_size =
      omega (
        arith,
        length-append (job_text rest ++ item_bytes y) (item_bytes x),
        length-append (job_text rest) (item_bytes y),
        length-append (job_text rest) (item_bytes z),
        ap length bytes,
        length-append front (item_bytes y ++ item_bytes x),
        length-append (item_bytes y) (item_bytes x),
      )

  merge_longer : length (job_text rest) ≤ length (job_text (x ∷ y ∷ rest))
  unfolding job_text
  merge_longer = omega (arith, length-append (job_text rest ++ item_bytes y) (item_bytes x), length-append (job_text rest) (item_bytes y))

  module _ (n fuel' : ℕ) (inside : Bool) (sorted : Sorted inside (z ∷ rest)) (grows : forks_i (x ∷ y ∷ rest) ≤ forks_i (z ∷ rest)) (d : read_ops fuel' inside (z ∷ rest) es (s.place + n) (drop (s.place + n) code) ≡ done p) where
    pub merge_stands : (out' : List ℕ) → out' ≡ onto (head ++ job_text (z ∷ rest)) before → Follows code head before p out' (parts_merged s n (length front) inside) (z ∷ rest) es fuel'
    unfolding parts_merged
    merge_stands out' t =
        record {
          known = h.known;
          reads = d;
          sorted = sorted;
          high = omega (arith, h.high);
          starts = h.starts.1;
          many = h.many;
          ends = h.ends;
          few = omega (arith, h.few);
          size = omega (arith, h.size, merge_size);
          text = t;
          wide = h.wide;
          narrow = h.narrow;
        }

    pub merge_moves : (most : ℕ) → s.place + n ≤ most → CanMove s.starts s.height s.place s.size 2 n (length front) most (length out)
    merge_moves most l =
        let now = small h.known fuel s.inside (x ∷ y ∷ rest) es _ _ h.reads h.few in
        let next = small h.known fuel' inside (z ∷ rest) es _ _ d (omega (arith, h.few)) in
        record {
          some = omega (arith, h.high);
          low = omega (arith, h.high, now.low);
          start = omega (arith, merge_start, h.size, merge_longer);
          early = l;
          short = omega (arith, h.size, merge_size, next.text, out_length h.known (x ∷ y ∷ rest) es out now h.text);
        }

-- the topmost part grows
module _ {code head before : List ℕ} {p : Proc} {out : List ℕ} {s : Pass} {es : List ℕ} {fuel : ℕ} (x z : Item) (rest : List Item) (front : List ℕ) (bytes : item_bytes z ≡ front ++ item_bytes x) (h : Follows code head before p out s (x ∷ rest) es fuel) where
  grow_start : get_or s.starts (s.height - 1) 0 ≡ 7 + length (job_text rest)
  grow_start = let n : s.height - 1 ≡ length rest = omega (arith, h.high) in rw n h.starts.0

  grow_size : (7 + length (job_text (x ∷ rest)) + length front ≡ 7 + length (job_text (z ∷ rest))) × (length (job_text rest) ≤ length (job_text (x ∷ rest)))
  unfolding job_text
  grow_size =
      omega (
        arith,
        length-append (job_text rest) (item_bytes x),
        length-append (job_text rest) (item_bytes z),
        ap length bytes,
        length-append front (item_bytes x),
      )

  module _ (n fuel' : ℕ) (sorted : Sorted s.inside (z ∷ rest)) (grows : forks_i (x ∷ rest) ≤ forks_i (z ∷ rest)) (d : read_ops fuel' s.inside (z ∷ rest) es (s.place + n) (drop (s.place + n) code) ≡ done p) where
    pub grow_stands : Follows code head before p (inserted (get_or s.starts (s.height - 1) 0) s.size front out) (part_grown s n (length front)) (z ∷ rest) es fuel'
    unfolding part_grown
    grow_stands =
        record {
          known = h.known;
          reads = d;
          sorted = sorted;
          high = h.high;
          starts = h.starts;
          many = h.many;
          ends = h.ends;
          few = omega (arith, h.few);
          size = omega (arith, h.size, grow_size);
          text = text_grow head before h.known.seven x z rest front out _ s.size bytes grow_start h.size h.text;
          wide = h.wide;
          narrow = h.narrow;
        }

    pub grow_moves : (most : ℕ) → s.place + n ≤ most → CanMove s.starts s.height s.place s.size 1 n (length front) most (length out)
    grow_moves most l =
        let now = small h.known fuel s.inside (x ∷ rest) es _ _ h.reads h.few in
        let next = small h.known fuel' s.inside (z ∷ rest) es _ _ d (omega (arith, h.few)) in
        record {
          some = omega (arith, h.high);
          low = omega (arith, h.high, now.low);
          start = omega (arith, grow_start, h.size, grow_size);
          early = l;
          short = omega (arith, h.size, grow_size, next.text, out_length h.known (x ∷ rest) es out now h.text);
        }

-- the innermost child ends: it becomes part of its FORK
module _ {code head before : List ℕ} {p : Proc} {out : List ℕ} {s : Pass} {e : ℕ} {es : List ℕ} {fuel : ℕ} (x y z : Item) (rest : List Item) (same_text : job_text (x ∷ y ∷ rest) ≡ job_text (z ∷ rest)) (h : Follows code head before p out s (x ∷ y ∷ rest) (e ∷ es) fuel) where
  pub shut_stands : Sorted s.inside (z ∷ rest) → forks_i (x ∷ y ∷ rest) ≡ forks_i (z ∷ rest) → read_ops fuel s.inside (z ∷ rest) es s.place (drop s.place code) ≡ done p → Follows code head before p out (child_shut s) (z ∷ rest) es fuel
  unfolding child_shut
  shut_stands sorted forks d =
      record {
        known = h.known;
        reads = d;
        sorted = sorted;
        high = omega (arith, h.high);
        starts = h.starts.1;
        many = omega (arith, h.many);
        ends = h.ends.1;
        few = omega (arith, h.few);
        size = h.size ∙ ap (λ (l : List ℕ). 7 + length l) same_text;
        text = h.text ∙ ap (λ (l : List ℕ). onto (head ++ l) before) same_text;
        wide = h.wide;
        narrow = h.narrow;
      }
