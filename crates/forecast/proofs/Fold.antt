-- The nodes of a tree, counted one by one, come to the figures of the tree. Assumes nothing.
use Prim.Native.Nat.{ℕ, suc, ◌+◌, ◌-◌, ◌≤◌, ◌<◌, max}
use mathlib.Core.Path.{◌≡◌, refl, sym, ap, ◌∙◌}
use mathlib.Core.List.{List, [], ◌∷◌, ◌++◌, append_assoc}
use native.Mathlib.Omega.{arith}
use lib.ListN.{length, get_or, replicate, length-append, length-set, get_or-append}
use lib.Seq.{get_or-set_same, set-set, set-append_left, set_at, get_or_at}
use Rattle.forecast.specs.Figures.{sixteen}
use Rattle.forecast.specs.declared.Totals.{Totals}
use Rattle.forecast.specs.InnerWalk.{nothing, raised, counted, forked, begun, inside, with_read, with_write}
use Rattle.script.specs.Tree.{Tran, ValT, AddT, Read, Write, Proc, ValP, AddP, Atomic, Fork}
use Rattle.script.specs.Count.{nodes_t, nodes_p, forks as forks_of, atomics, instructions as instructionsOf, longest as longestOf, height_t, height_p, child_heights, heights as heightsOf, with_reads_t, with_reads, with_writes_t, with_writes, read_set, write_set}

-- ---- the counts with the heights

pub record Tally : Type 0 where
  pub counts : Totals
  pub heights : List ℕ

abbrev pub on : (Totals → Totals) → Tally → Tally
on f t = record { counts = f t.counts; heights = t.heights }

-- a value is put on a thread's stack
abbrev pub pushed : (thread base : ℕ) → Tally → Tally
pushed thread base t = record { counts = t.counts; heights = raised t.heights thread (base + 1) }

-- before the first node
abbrev pub untold : Tally
untold = record { counts = nothing; heights = replicate 16 0 }

-- ---- the figures behind a tree, at a height of a thread's stack

unfoldable pub after_t : Tran → (base thread : ℕ) → Tally → Tally
after_t (ValT n) base thread t = on inside (pushed thread base t)
after_t (AddT a b) base thread t = after_t b (base + 1) thread (after_t a base thread (on inside t))
after_t (Read v) base thread t = on (with_read v) (on inside (pushed thread base t))
after_t (Write v a) base thread t = after_t a base thread (on (with_write v) (on inside t))

unfoldable pub after_p : Proc → (base thread : ℕ) → Tally → Tally
after_p (ValP n) base thread t = on counted (pushed thread base t)
after_p (AddP a b) base thread t = after_p b (base + 1) thread (after_p a base thread (on counted t))
after_p (Atomic a) base thread t = after_t a base thread (on begun t)
after_p (Fork p) base thread t = after_p p 0 (t.counts.forks + 1) (on forked (pushed thread base t))

-- ---- greatest heights

raised_length : (xs : List ℕ) (i h : ℕ) → length (raised xs i h) ≡ length xs
unfolding raised
raised_length xs i h = length-set xs i (max (get_or xs i 0) h)

raised_twice : (xs : List ℕ) (i h k : ℕ) → i < length xs → raised (raised xs i h) i k ≡ raised xs i (max h k)
unfolding raised
raised_twice xs i h k l =
    let e : max (max (get_or xs i 0) h) k ≡ max (get_or xs i 0) (max h k) = omega arith in
    rw (get_or-set_same xs i (max (get_or xs i 0) h) 0 l, set-set xs i (max (get_or xs i 0) h) (max (max (get_or xs i 0) h) k), e)

raised_left : (xs ys : List ℕ) (i h : ℕ) → i < length xs → raised (xs ++ ys) i h ≡ raised xs i h ++ ys
unfolding raised
raised_left xs ys i h l = rw (get_or-append xs ys 0 i l, set-append_left xs ys i (max (get_or xs i 0) h) l)

raised_new : (xs : List ℕ) (i h : ℕ) → length xs ≡ i → raised (xs ++ (0 ∷ [])) i h ≡ xs ++ (h ∷ [])
unfolding raised
raised_new xs i h l =
    let e : max 0 h ≡ h = omega arith in
    rw (get_or_at xs 0 [] 0 i l, set_at xs 0 [] (max 0 h) i l, e)

-- ---- a transaction

record CountedT (t : Tran) (base thread : ℕ) (s r : Tally) : Type 0 where
  forks : r.counts.forks ≡ s.counts.forks
  transactions : r.counts.transactions ≡ s.counts.transactions
  instructions : r.counts.instructions ≡ s.counts.instructions + nodes_t t
  current : r.counts.current ≡ s.counts.current + nodes_t t
  longest : r.counts.longest ≡ max s.counts.longest (s.counts.current + nodes_t t)
  reads : r.counts.reads ≡ with_reads_t t s.counts.reads
  writes : r.counts.writes ≡ with_writes_t t s.counts.writes
  heights : thread < length s.heights → r.heights ≡ raised s.heights thread (base + height_t t)

counted_t : (t : Tran) (base thread : ℕ) (s : Tally) → CountedT t base thread s (after_t t base thread s)
unfolding after_t nodes_t with_reads_t with_writes_t height_t
counted_t (ValT n) base thread s = record { forks = refl; transactions = refl; instructions = refl; current = refl; longest = refl; reads = refl; writes = refl; heights = λ l. refl }
counted_t (AddT a b) base thread s =
    let s₁ = after_t a base thread (on inside s) in
    let p = counted_t a base thread (on inside s) in
    let q = counted_t b (base + 1) thread s₁ in
    record {
      forks = q.forks ∙ p.forks;
      transactions = q.transactions ∙ p.transactions;
      instructions = omega (arith, q.instructions, p.instructions);
      current = omega (arith, q.current, p.current);
      longest = omega (arith, q.longest, p.longest, p.current);
      reads = q.reads ∙ ap (with_reads_t b) p.reads;
      writes = q.writes ∙ ap (with_writes_t b) p.writes;
      heights = λ l. two s.heights s₁.heights l (p.heights l) q.heights;
    }
  where
    two : (xs ys : List ℕ) → thread < length xs → ys ≡ raised xs thread (base + height_t a) → {zs : List ℕ} → (thread < length ys → zs ≡ raised ys thread (base + 1 + height_t b)) → zs ≡ raised xs thread (base + max (height_t a) (suc (height_t b)))
    two xs ys l e f =
        let h : max (base + height_t a) (base + 1 + height_t b) ≡ base + max (height_t a) (suc (height_t b)) = omega arith in
        f (omega (arith, ap length e, raised_length xs thread (base + height_t a), l))
        ∙ (ap (λ (ys : List ℕ). raised ys thread (base + 1 + height_t b)) e
        ∙ (raised_twice xs thread (base + height_t a) (base + 1 + height_t b) l ∙ ap (raised xs thread) h))
counted_t (Read v) base thread s = record { forks = refl; transactions = refl; instructions = refl; current = refl; longest = refl; reads = refl; writes = refl; heights = λ l. refl }
counted_t (Write v a) base thread s =
    let p = counted_t a base thread (on (with_write v) (on inside s)) in
    record {
      forks = p.forks;
      transactions = p.transactions;
      instructions = omega (arith, p.instructions);
      current = omega (arith, p.current);
      longest = omega (arith, p.longest);
      reads = p.reads;
      writes = p.writes;
      heights = p.heights;
    }

-- ---- a process

record CountedP (p : Proc) (s r : Tally) : Type 0 where
  forks : r.counts.forks ≡ s.counts.forks + forks_of p
  transactions : r.counts.transactions ≡ s.counts.transactions + atomics p
  instructions : r.counts.instructions ≡ s.counts.instructions + instructionsOf p
  longest : r.counts.longest ≡ max s.counts.longest (longestOf p)
  reads : r.counts.reads ≡ with_reads p s.counts.reads
  writes : r.counts.writes ≡ with_writes p s.counts.writes

counted_p : (p : Proc) (base thread : ℕ) (s : Tally) → CountedP p s (after_p p base thread s)
unfolding after_p nodes_p forks_of atomics instructionsOf longestOf with_reads with_writes
counted_p (ValP n) base thread s = record { forks = omega arith; transactions = omega arith; instructions = omega arith; longest = omega arith; reads = refl; writes = refl }
counted_p (AddP a b) base thread s =
    let p = counted_p a base thread (on counted s) in
    let q = counted_p b (base + 1) thread (after_p a base thread (on counted s)) in
    record {
      forks = omega (arith, q.forks, p.forks);
      transactions = omega (arith, q.transactions, p.transactions);
      instructions = omega (arith, q.instructions, p.instructions);
      longest = omega (arith, q.longest, p.longest);
      reads = q.reads ∙ ap (with_reads b) p.reads;
      writes = q.writes ∙ ap (with_writes b) p.writes;
    }
counted_p (Atomic t) base thread s =
    let p = counted_t t base thread (on begun s) in
    record {
      forks = omega (arith, p.forks);
      transactions = p.transactions;
      instructions = omega (arith, p.instructions);
      longest = omega (arith, p.longest);
      reads = p.reads;
      writes = p.writes;
    }
counted_p (Fork a) base thread s =
    let p = counted_p a 0 (s.counts.forks + 1) (on forked (pushed thread base s)) in
    record {
      forks = omega (arith, p.forks);
      transactions = p.transactions;
      instructions = omega (arith, p.instructions);
      longest = p.longest;
      reads = p.reads;
      writes = p.writes;
    }

children_are : (p : Proc) → length (child_heights p) ≡ forks_of p
unfolding child_heights forks_of
children_are (ValP n) = refl
children_are (AddP a b) = omega (arith, length-append (child_heights a) (child_heights b), children_are a, children_are b)
children_are (Atomic t) = refl
children_are (Fork p) = ap suc (children_are p)

-- the zeros behind the heights, of which some are taken
zeros : (xs : List ℕ) (m n : ℕ) → m ≡ n → {ys : List ℕ} → ys ≡ xs ++ replicate m 0 → ys ≡ xs ++ replicate n 0
zeros xs m n e f = f ∙ ap (λ (n : ℕ). xs ++ replicate n 0) e

-- the heights of the threads so far, then 0 for each thread to come
heights_p : (p : Proc) (base thread k : ℕ) (s : Tally) (xs : List ℕ) → s.heights ≡ xs ++ replicate (forks_of p + k) 0 → thread < length xs → length xs ≡ suc s.counts.forks → (after_p p base thread s).heights ≡ raised xs thread (base + height_p p) ++ (child_heights p ++ replicate k 0)
unfolding after_p height_p child_heights forks_of
heights_p (ValP n) base thread k s xs e l m =
    let z : 0 + k ≡ k = omega arith in
    ap (λ (hs : List ℕ). raised hs thread (base + 1)) (zeros xs (0 + k) k z e) ∙ raised_left xs (replicate k 0) thread (base + 1) l
heights_p (AddP a b) base thread k s xs e l m =
    let z : forks_of a + forks_of b + k ≡ forks_of a + (forks_of b + k) = omega arith in
    let s₁ = after_p a base thread (on counted s) in
    let high = raised xs thread (base + height_p a) in
    let first = heights_p a base thread (forks_of b + k) (on counted s) xs (zeros xs (forks_of a + forks_of b + k) (forks_of a + (forks_of b + k)) z e) l m in
    let second =
    heights_p b (base + 1) thread k s₁ (high ++ child_heights a)
    (first ∙ sym (append_assoc high (child_heights a) (replicate (forks_of b + k) 0)))
    (omega (arith, length-append high (child_heights a), raised_length xs thread (base + height_p a)))
    (omega (arith, length-append high (child_heights a), raised_length xs thread (base + height_p a), children_are a, (counted_p a base thread (on counted s)).forks)) in
    let h : max (base + height_p a) (base + 1 + height_p b) ≡ base + max (height_p a) (suc (height_p b)) = omega arith in
    second
    ∙ (ap (λ (hs : List ℕ). hs ++ (child_heights b ++ replicate k 0)) (raised_left high (child_heights a) thread (base + 1 + height_p b) (omega (arith, raised_length xs thread (base + height_p a))))
    ∙ (rw (raised_twice xs thread (base + height_p a) (base + 1 + height_p b) l, h) (simp append_assoc)))
heights_p (Atomic t) base thread k s xs e l m =
    let z : 0 + k ≡ k = omega arith in
    let e' = zeros xs (0 + k) k z e in
    (counted_t t base thread (on begun s)).heights (omega (arith, ap length e', length-append xs (replicate k 0)))
    ∙ (ap (λ (hs : List ℕ). raised hs thread (base + height_t t)) e' ∙ raised_left xs (replicate k 0) thread (base + height_t t) l)
heights_p (Fork p) base thread k s xs e l m =
    let z : suc (forks_of p) + k ≡ suc (forks_of p + k) = omega arith in
    let high = raised xs thread (base + 1) in
    let e' = zeros xs (suc (forks_of p) + k) (suc (forks_of p + k)) z e in
    let child =
    heights_p p 0 (s.counts.forks + 1) k (on forked (pushed thread base s)) (high ++ (0 ∷ []))
    (ap (λ (hs : List ℕ). raised hs thread (base + 1)) e'
    ∙ (raised_left xs (0 ∷ replicate (forks_of p + k) 0) thread (base + 1) l
    ∙ sym (append_assoc high (0 ∷ []) (replicate (forks_of p + k) 0))))
    (omega (arith, length-append high (0 ∷ []), raised_length xs thread (base + 1)))
    (omega (arith, length-append high (0 ∷ []), raised_length xs thread (base + 1))) in
    let h : 0 + height_p p ≡ height_p p = omega arith in
    child
    ∙ (ap (λ (hs : List ℕ). hs ++ (child_heights p ++ replicate k 0)) (raised_new high (s.counts.forks + 1) (0 + height_p p) (omega (arith, raised_length xs thread (base + 1))))
    ∙ (rw h (append_assoc high (height_p p ∷ []) (child_heights p ++ replicate k 0))))

-- ---- the whole tree

-- the figures of a tree
pub record Told (p : Proc) (r : Tally) : Type 0 where
  pub forks : r.counts.forks ≡ forks_of p
  pub transactions : r.counts.transactions ≡ atomics p
  pub instructions : r.counts.instructions ≡ instructionsOf p
  pub longest : r.counts.longest ≡ longestOf p
  pub reads : r.counts.reads ≡ read_set p
  pub writes : r.counts.writes ≡ write_set p
  pub heights : r.heights ≡ sixteen p

pub told : (p : Proc) → forks_of p ≤ 15 → Told p (after_p p 0 0 untold)
unfolding read_set write_set sixteen heightsOf raised
told p narrow =
    let c = counted_p p 0 0 untold in
    let z : 15 ≡ forks_of p + (15 - forks_of p) = omega arith in
    let h : max 0 (0 + height_p p) ≡ height_p p = omega arith in
    record {
      forks = omega (arith, c.forks);
      transactions = omega (arith, c.transactions);
      instructions = omega (arith, c.instructions);
      longest = omega (arith, c.longest);
      reads = c.reads;
      writes = c.writes;
      heights =
          heights_p p 0 0 (15 - forks_of p) untold (0 ∷ []) (zeros (0 ∷ []) 15 (forks_of p + (15 - forks_of p)) z refl) (omega arith) refl
          ∙ ap (λ (n : ℕ). n ∷ (child_heights p ++ replicate (15 - forks_of p) 0)) h;
    }
