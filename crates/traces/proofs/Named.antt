-- A register is in the set of those named by READ exactly if READ of it stands in the code; likewise WRITE. Assumes nothing.
use Prim.Native.Nat.{ℕ, ◌+◌, ◌<◌}
use mathlib.Core.Bool.{Bool, true, false}
use mathlib.Core.Logic.{◌⊎◌, inl, inr}
use mathlib.Core.Path.{◌≡◌, refl, sym, ap, subst, ◌∙◌}
use native.Mathlib.Omega.{arith}
use borrow.Author.Tests.{eqb-true, eqb-false}
use lib.Dec.{eqb}
use lib.IntN.{ℤ}
use lib.ListN.{length}
use Rattle.code.specs.Compile.{Instruction, Code, PUSH, ADD, READ, WRITE, BEGIN, COMMIT, FORK, ε, ◌⨾◌, compile_t, compile_p}
use Rattle.code.specs.Bytes.{instructions_bytes, OccursIn}
use Rattle.code.specs.Bytes as occurs
use Rattle.machine.specs.Fits.{next_place}
use Rattle.machine.specs.InnerStands.{op_of}
use Rattle.machine.specs.Steps.{Child}
use Rattle.machine.proofs.Codes.{child_length}
use Rattle.script.specs.Count.{code_t, code_p, with_reads_t, with_reads, with_writes_t, with_writes, read_set, write_set}
use Rattle.script.specs.Limits.{ValuedT, ValuedP}
use Rattle.script.specs.Tree.{Tran, ValT, AddT, Read, Write, Proc, ValP, AddP, Atomic, Fork}
use Rattle.traces.proofs.Along.{Own, own_first, own_later}
use Rattle.traces.proofs.Parts.{behind_p, Child', child_first, child_later, child_within}
use Rattle.word.specs.Registers.{member, none, with}
use Rattle.word.proofs.Sets.{member_same, member_other, member_none}

no : {A : Type 0} → ◌≡◌ {A = Bool} false true → A
no e = absurd (let z : ◌≡◌ {A = ℕ} 0 1 = cc in omega arith)

-- ---- the instructions of READ and WRITE nodes
abbrev NamesT : Instruction → Tran → Type 0
NamesT x (ValT n) = ⊥
NamesT x (AddT a b) = ◌⊎◌ (NamesT x a) (NamesT x b)
NamesT x (Read v) = x ≡ READ v
NamesT x (Write v t) = ◌⊎◌ (x ≡ WRITE v) (NamesT x t)

abbrev NamesP : Instruction → Proc → Type 0
NamesP x (ValP n) = ⊥
NamesP x (AddP a b) = ◌⊎◌ (NamesP x a) (NamesP x b)
NamesP x (Atomic t) = NamesT x t
NamesP x (Fork p) = NamesP x p

-- ---- sets
with_is : (s u v : ℕ) → member (with s u) v ≡ true → ◌⊎◌ (member s v ≡ true) (v ≡ u)
with_is s u v e = go (eqb v u) refl
  where
    go : (b : Bool) → eqb v u ≡ b → ◌⊎◌ (member s v ≡ true) (v ≡ u)
    go true f = inr (eqb-true v u f)
    go false f = inl (sym (member_other s u v (eqb-false v u f)) ∙ e)

with_kept : (s u v : ℕ) → u < 64 → member s v ≡ true → member (with s u) v ≡ true
with_kept s u v l e = go (eqb v u) refl
  where
    go : (b : Bool) → eqb v u ≡ b → member (with s u) v ≡ true
    go true f = subst (λ (r : ℕ). member (with s u) r ≡ true) (sym (eqb-true v u f)) (member_same s u l)
    go false f = member_other s u v (eqb-false v u f) ∙ e

same_read : {u v : ℕ} → READ u ≡ READ v → u ≡ v
same_read e = cc

same_write : {u v : ℕ} → WRITE u ≡ WRITE v → u ≡ v
same_write e = cc

read_write : {A : Type 0} {u v : ℕ} → READ u ≡ WRITE v → A
read_write e = absurd (let z : ◌≡◌ {A = ℕ} 0 1 = cc in omega arith)

reads_kept_t : (t : Tran) (s v : ℕ) → ValuedT t → member s v ≡ true → member (with_reads_t t s) v ≡ true
unfolding with_reads_t
reads_kept_t (ValT n) s v k e = e
reads_kept_t (AddT a b) s v k e = reads_kept_t b (with_reads_t a s) v k.1 (reads_kept_t a s v k.0 e)
reads_kept_t (Read u) s v k e = with_kept s u v k e
reads_kept_t (Write u t) s v k e = reads_kept_t t s v k.1 e

reads_in_t : (t : Tran) (s v : ℕ) → ValuedT t → NamesT (READ v) t → member (with_reads_t t s) v ≡ true
unfolding with_reads_t
reads_in_t (ValT n) s v k x = absurd x
reads_in_t (AddT a b) s v k (inl x) = reads_kept_t b (with_reads_t a s) v k.1 (reads_in_t a s v k.0 x)
reads_in_t (AddT a b) s v k (inr x) = reads_in_t b (with_reads_t a s) v k.1 x
reads_in_t (Read u) s v k x = subst (λ (r : ℕ). member (with s u) r ≡ true) (sym (same_read x)) (member_same s u k)
reads_in_t (Write u t) s v k (inl x) = read_write x
reads_in_t (Write u t) s v k (inr x) = reads_in_t t s v k.1 x

reads_from_t : (t : Tran) (s v : ℕ) → member (with_reads_t t s) v ≡ true → ◌⊎◌ (member s v ≡ true) (NamesT (READ v) t)
unfolding with_reads_t
reads_from_t (ValT n) s v e = inl e
reads_from_t (AddT a b) s v e = second (reads_from_t b (with_reads_t a s) v e) (λ f. reads_from_t a s v f)
  where
    second : ◌⊎◌ (member (with_reads_t a s) v ≡ true) (NamesT (READ v) b) → (member (with_reads_t a s) v ≡ true → ◌⊎◌ (member s v ≡ true) (NamesT (READ v) a)) → ◌⊎◌ (member s v ≡ true) (◌⊎◌ (NamesT (READ v) a) (NamesT (READ v) b))
    second (inr x) f = inr (inr x)
    second (inl m) f = first (f m)
      where
        first : ◌⊎◌ (member s v ≡ true) (NamesT (READ v) a) → ◌⊎◌ (member s v ≡ true) (◌⊎◌ (NamesT (READ v) a) (NamesT (READ v) b))
        first (inl m) = inl m
        first (inr x) = inr (inl x)
reads_from_t (Read u) s v e = go (with_is s u v e)
  where
    go : ◌⊎◌ (member s v ≡ true) (v ≡ u) → ◌⊎◌ (member s v ≡ true) (READ v ≡ READ u)
    go (inl m) = inl m
    go (inr q) = inr (ap READ q)
reads_from_t (Write u t) s v e = go (reads_from_t t s v e)
  where
    go : ◌⊎◌ (member s v ≡ true) (NamesT (READ v) t) → ◌⊎◌ (member s v ≡ true) (◌⊎◌ (READ v ≡ WRITE u) (NamesT (READ v) t))
    go (inl m) = inl m
    go (inr x) = inr (inr x)

writes_kept_t : (t : Tran) (s v : ℕ) → ValuedT t → member s v ≡ true → member (with_writes_t t s) v ≡ true
unfolding with_writes_t
writes_kept_t (ValT n) s v k e = e
writes_kept_t (AddT a b) s v k e = writes_kept_t b (with_writes_t a s) v k.1 (writes_kept_t a s v k.0 e)
writes_kept_t (Read u) s v k e = e
writes_kept_t (Write u t) s v k e = writes_kept_t t (with s u) v k.1 (with_kept s u v k.0 e)

writes_in_t : (t : Tran) (s v : ℕ) → ValuedT t → NamesT (WRITE v) t → member (with_writes_t t s) v ≡ true
unfolding with_writes_t
writes_in_t (ValT n) s v k x = absurd x
writes_in_t (AddT a b) s v k (inl x) = writes_kept_t b (with_writes_t a s) v k.1 (writes_in_t a s v k.0 x)
writes_in_t (AddT a b) s v k (inr x) = writes_in_t b (with_writes_t a s) v k.1 x
writes_in_t (Read u) s v k x = read_write (sym x)
writes_in_t (Write u t) s v k (inl x) = writes_kept_t t (with s u) v k.1 (subst (λ (r : ℕ). member (with s u) r ≡ true) (sym (same_write x)) (member_same s u k.0))
writes_in_t (Write u t) s v k (inr x) = writes_in_t t (with s u) v k.1 x

writes_from_t : (t : Tran) (s v : ℕ) → member (with_writes_t t s) v ≡ true → ◌⊎◌ (member s v ≡ true) (NamesT (WRITE v) t)
unfolding with_writes_t
writes_from_t (ValT n) s v e = inl e
writes_from_t (AddT a b) s v e = second (writes_from_t b (with_writes_t a s) v e) (λ f. writes_from_t a s v f)
  where
    second : ◌⊎◌ (member (with_writes_t a s) v ≡ true) (NamesT (WRITE v) b) → (member (with_writes_t a s) v ≡ true → ◌⊎◌ (member s v ≡ true) (NamesT (WRITE v) a)) → ◌⊎◌ (member s v ≡ true) (◌⊎◌ (NamesT (WRITE v) a) (NamesT (WRITE v) b))
    second (inr x) f = inr (inr x)
    second (inl m) f = first (f m)
      where
        first : ◌⊎◌ (member s v ≡ true) (NamesT (WRITE v) a) → ◌⊎◌ (member s v ≡ true) (◌⊎◌ (NamesT (WRITE v) a) (NamesT (WRITE v) b))
        first (inl m) = inl m
        first (inr x) = inr (inl x)
writes_from_t (Read u) s v e = inl e
writes_from_t (Write u t) s v e = go (writes_from_t t (with s u) v e)
  where
    also : ◌⊎◌ (member s v ≡ true) (v ≡ u) → ◌⊎◌ (member s v ≡ true) (◌⊎◌ (WRITE v ≡ WRITE u) (NamesT (WRITE v) t))
    also (inl m) = inl m
    also (inr q) = inr (inl (ap WRITE q))

    go : ◌⊎◌ (member (with s u) v ≡ true) (NamesT (WRITE v) t) → ◌⊎◌ (member s v ≡ true) (◌⊎◌ (WRITE v ≡ WRITE u) (NamesT (WRITE v) t))
    go (inl m) = also (with_is s u v m)
    go (inr x) = inr (inr x)

-- of processes: the same for both, over what is done to a transaction
module _ (x : Instruction) (fold : Tran → ℕ → ℕ) (foldP : Proc → ℕ → ℕ) (v : ℕ)
    (value : (n : ℤ) (s : ℕ) → foldP (ValP n) s ≡ s)
    (sum : (a b : Proc) (s : ℕ) → foldP (AddP a b) s ≡ foldP b (foldP a s))
    (atomic : (t : Tran) (s : ℕ) → foldP (Atomic t) s ≡ fold t s)
    (fork : (p : Proc) (s : ℕ) → foldP (Fork p) s ≡ foldP p s)
    (keptT : (t : Tran) (s : ℕ) → ValuedT t → member s v ≡ true → member (fold t s) v ≡ true)
    (inT : (t : Tran) (s : ℕ) → ValuedT t → NamesT x t → member (fold t s) v ≡ true)
    (fromT : (t : Tran) (s : ℕ) → member (fold t s) v ≡ true → ◌⊎◌ (member s v ≡ true) (NamesT x t)) where
  abbrev Has : ℕ → Type 0
  Has s = member s v ≡ true

  kept_p : (p : Proc) (s : ℕ) → ValuedP p → member s v ≡ true → member (foldP p s) v ≡ true
  kept_p (ValP n) s k e = subst Has (sym (value n s)) e
  kept_p (AddP a b) s k e = subst Has (sym (sum a b s)) (kept_p b (foldP a s) k.1 (kept_p a s k.0 e))
  kept_p (Atomic t) s k e = subst Has (sym (atomic t s)) (keptT t s k e)
  kept_p (Fork p) s k e = subst Has (sym (fork p s)) (kept_p p s k e)

  in_p : (p : Proc) (s : ℕ) → ValuedP p → NamesP x p → member (foldP p s) v ≡ true
  in_p (ValP n) s k y = absurd y
  in_p (AddP a b) s k (inl y) = subst Has (sym (sum a b s)) (kept_p b (foldP a s) k.1 (in_p a s k.0 y))
  in_p (AddP a b) s k (inr y) = subst Has (sym (sum a b s)) (in_p b (foldP a s) k.1 y)
  in_p (Atomic t) s k y = subst Has (sym (atomic t s)) (inT t s k y)
  in_p (Fork p) s k y = subst Has (sym (fork p s)) (in_p p s k y)

  from_p : (p : Proc) (s : ℕ) → member (foldP p s) v ≡ true → ◌⊎◌ (member s v ≡ true) (NamesP x p)
  from_p (ValP n) s e = inl (subst Has (value n s) e)
  from_p (AddP a b) s e = second (from_p b (foldP a s) (subst Has (sum a b s) e)) (λ f. from_p a s f)
    where
      second : ◌⊎◌ (member (foldP a s) v ≡ true) (NamesP x b) → (member (foldP a s) v ≡ true → ◌⊎◌ (member s v ≡ true) (NamesP x a)) → ◌⊎◌ (member s v ≡ true) (◌⊎◌ (NamesP x a) (NamesP x b))
      second (inr y) f = inr (inr y)
      second (inl m) f = first (f m)
        where
          first : ◌⊎◌ (member s v ≡ true) (NamesP x a) → ◌⊎◌ (member s v ≡ true) (◌⊎◌ (NamesP x a) (NamesP x b))
          first (inl m) = inl m
          first (inr y) = inr (inl y)
  from_p (Atomic t) s e = fromT t s (subst Has (atomic t s) e)
  from_p (Fork p) s e = from_p p s (subst Has (fork p s) e)

read_named : (p : Proc) (v : ℕ) → ValuedP p → NamesP (READ v) p → member (read_set p) v ≡ true
unfolding read_set with_reads
read_named p v k y = in_p (READ v) with_reads_t with_reads v (λ n s. refl) (λ a b s. refl) (λ t s. refl) (λ q s. refl) (λ t s. reads_kept_t t s v) (λ t s. reads_in_t t s v) (λ t s. reads_from_t t s v) p none k y

named_read : (p : Proc) (v : ℕ) → member (read_set p) v ≡ true → NamesP (READ v) p
unfolding read_set with_reads
named_read p v e = go (from_p (READ v) with_reads_t with_reads v (λ n s. refl) (λ a b s. refl) (λ t s. refl) (λ q s. refl) (λ t s. reads_kept_t t s v) (λ t s. reads_in_t t s v) (λ t s. reads_from_t t s v) p none e)
  where
    go : ◌⊎◌ (member none v ≡ true) (NamesP (READ v) p) → NamesP (READ v) p
    go (inl m) = no (sym (member_none v) ∙ m)
    go (inr y) = y

write_named : (p : Proc) (v : ℕ) → ValuedP p → NamesP (WRITE v) p → member (write_set p) v ≡ true
unfolding write_set with_writes
write_named p v k y = in_p (WRITE v) with_writes_t with_writes v (λ n s. refl) (λ a b s. refl) (λ t s. refl) (λ q s. refl) (λ t s. writes_kept_t t s v) (λ t s. writes_in_t t s v) (λ t s. writes_from_t t s v) p none k y

named_write : (p : Proc) (v : ℕ) → member (write_set p) v ≡ true → NamesP (WRITE v) p
unfolding write_set with_writes
named_write p v e = go (from_p (WRITE v) with_writes_t with_writes v (λ n s. refl) (λ a b s. refl) (λ t s. refl) (λ q s. refl) (λ t s. writes_kept_t t s v) (λ t s. writes_in_t t s v) (λ t s. writes_from_t t s v) p none e)
  where
    go : ◌⊎◌ (member none v ≡ true) (NamesP (WRITE v) p) → NamesP (WRITE v) p
    go (inl m) = no (sym (member_none v) ∙ m)
    go (inr y) = y

-- ---- in the code: own code, or the own code of a FORK's child
pub data Anywhere (x : Instruction) (c : Code) (q : ℕ) : Type 0 where
  own : Own x c → Anywhere x c q
  in_child : {y : Child} {k : Code} → Child' c q y k → Own x k → Anywhere x c q

-- an instruction of a READ or WRITE node
pub record Access (x : Instruction) : Type 0 where
  pub no_push : (n : ℤ) → x ≡ PUSH n → ⊥
  pub no_add : x ≡ ADD → ⊥
  pub no_begin : x ≡ BEGIN → ⊥
  pub no_commit : x ≡ COMMIT → ⊥
  pub no_fork : (k : Code) → x ≡ FORK k → ⊥

read_access : (v : ℕ) → Access (READ v)
read_access v =
    record {
      no_push = λ n e. absurd (let z : ◌≡◌ {A = ℕ} 0 1 = cc in omega arith);
      no_add = λ e. absurd (let z : ◌≡◌ {A = ℕ} 0 1 = cc in omega arith);
      no_begin = λ e. absurd (let z : ◌≡◌ {A = ℕ} 0 1 = cc in omega arith);
      no_commit = λ e. absurd (let z : ◌≡◌ {A = ℕ} 0 1 = cc in omega arith);
      no_fork = λ k e. absurd (let z : ◌≡◌ {A = ℕ} 0 1 = cc in omega arith);
    }

write_access : (v : ℕ) → Access (WRITE v)
write_access v =
    record {
      no_push = λ n e. absurd (let z : ◌≡◌ {A = ℕ} 0 1 = cc in omega arith);
      no_add = λ e. absurd (let z : ◌≡◌ {A = ℕ} 0 1 = cc in omega arith);
      no_begin = λ e. absurd (let z : ◌≡◌ {A = ℕ} 0 1 = cc in omega arith);
      no_commit = λ e. absurd (let z : ◌≡◌ {A = ℕ} 0 1 = cc in omega arith);
      no_fork = λ k e. absurd (let z : ◌≡◌ {A = ℕ} 0 1 = cc in omega arith);
    }

-- own code: from the tree and back
own_split : {x i : Instruction} {c : Code} → Own x (i ⨾ c) → ◌⊎◌ (x ≡ i) (Own x c)
own_split own_first = inl refl
own_split (own_later o) = inr o

-- a FORK's child: the first one's, one of the rest, or one within
data Children (i : Instruction) (c : Code) (q : ℕ) (y : Child) (k : Code) : Type 0 where
  rest : Child' c (next_place (op_of i) q) y k → Children i c q y k
  its : (h : Code) → i ≡ FORK h → ◌⊎◌ (k ≡ h) (Child' h (q + 3) y k) → Children i c q y k

children_split : {i : Instruction} {c : Code} {q : ℕ} {y : Child} {k : Code} → Child' (i ⨾ c) q y k → Children i c q y k
children_split (child_first {k}) = its k refl (inl refl)
children_split (child_later o) = rest o
children_split (child_within {h} o) = its h refl (inr o)

-- x is no FORK
module _ (x : Instruction) (a : Access x) where
  split : {i : Instruction} {c : Code} {q : ℕ} → ((h : Code) → i ≡ FORK h → ⊥) → Anywhere x (i ⨾ c) q → ◌⊎◌ (x ≡ i) (Anywhere x c (next_place (op_of i) q))
  split {i} {c} {q} f (own o) = go (own_split o)
    where
      go : ◌⊎◌ (x ≡ i) (Own x c) → ◌⊎◌ (x ≡ i) (Anywhere x c (next_place (op_of i) q))
      go (inl e) = inl e
      go (inr r) = inr (own r)
  split {i} {c} {q} f (in_child {y} {k} z o) = go (children_split z)
    where
      go : Children i c q y k → ◌⊎◌ (x ≡ i) (Anywhere x c (next_place (op_of i) q))
      go (rest r) = inr (in_child r o)
      go (its h e r) = absurd (f h e)

  -- behind an instruction that it is not
  past : {i : Instruction} {c : Code} {q : ℕ} → (x ≡ i → ⊥) → ((h : Code) → i ≡ FORK h → ⊥) → Anywhere x (i ⨾ c) q → Anywhere x c (next_place (op_of i) q)
  past {i} {c} {q} n f w = go (split f w)
    where
      go : ◌⊎◌ (x ≡ i) (Anywhere x c (next_place (op_of i) q)) → Anywhere x c (next_place (op_of i) q)
      go (inl e) = absurd (n e)
      go (inr r) = r

  no_push_fork : {n : ℤ} (h : Code) → PUSH n ≡ FORK h → ⊥
  no_push_fork h e = absurd (let z : ◌≡◌ {A = ℕ} 0 1 = cc in omega arith)

  no_add_fork : (h : Code) → ADD ≡ FORK h → ⊥
  no_add_fork h e = absurd (let z : ◌≡◌ {A = ℕ} 0 1 = cc in omega arith)

  no_read_fork : {v : ℕ} (h : Code) → READ v ≡ FORK h → ⊥
  no_read_fork h e = absurd (let z : ◌≡◌ {A = ℕ} 0 1 = cc in omega arith)

  no_write_fork : {v : ℕ} (h : Code) → WRITE v ≡ FORK h → ⊥
  no_write_fork h e = absurd (let z : ◌≡◌ {A = ℕ} 0 1 = cc in omega arith)

  no_begin_fork : (h : Code) → BEGIN ≡ FORK h → ⊥
  no_begin_fork h e = absurd (let z : ◌≡◌ {A = ℕ} 0 1 = cc in omega arith)

  no_commit_fork : (h : Code) → COMMIT ≡ FORK h → ⊥
  no_commit_fork h e = absurd (let z : ◌≡◌ {A = ℕ} 0 1 = cc in omega arith)

  same_fork : {h k : Code} → FORK h ≡ FORK k → h ≡ k
  same_fork e = cc

  moved : {c : Code} {q r : ℕ} → q ≡ r → Anywhere x c q → Anywhere x c r
  moved {c} e w = subst (λ (n : ℕ). Anywhere x c n) e w

  -- from the code to the tree
  code_tran : (t : Tran) (c : Code) (q : ℕ) → Anywhere x (compile_t t c) q → ◌⊎◌ (NamesT x t) (Anywhere x c (q + code_t t))
  unfolding compile_t code_t next_place
  code_tran (ValT n) c q w = inr (past (a.no_push n) no_push_fork w)
  code_tran (AddT l r) c q w = first (code_tran l (compile_t r (ADD ⨾ c)) q w) (λ z. code_tran r (ADD ⨾ c) (q + code_t l) z)
    where
      second : ◌⊎◌ (NamesT x r) (Anywhere x (ADD ⨾ c) (q + code_t l + code_t r)) → ◌⊎◌ (◌⊎◌ (NamesT x l) (NamesT x r)) (Anywhere x c (q + (code_t l + code_t r + 1)))
      second (inl y) = inl (inr y)
      second (inr z) = inr (moved (let e : q + code_t l + code_t r + 1 ≡ q + (code_t l + code_t r + 1) = omega arith in e) (past a.no_add no_add_fork z))

      first : ◌⊎◌ (NamesT x l) (Anywhere x (compile_t r (ADD ⨾ c)) (q + code_t l)) → (Anywhere x (compile_t r (ADD ⨾ c)) (q + code_t l) → ◌⊎◌ (NamesT x r) (Anywhere x (ADD ⨾ c) (q + code_t l + code_t r))) → ◌⊎◌ (◌⊎◌ (NamesT x l) (NamesT x r)) (Anywhere x c (q + (code_t l + code_t r + 1)))
      first (inl y) f = inl (inl y)
      first (inr z) f = second (f z)
  code_tran (Read v) c q w = split no_read_fork w
  code_tran (Write v t) c q w = go (code_tran t (WRITE v ⨾ c) q w)
    where
      also : ◌⊎◌ (x ≡ WRITE v) (Anywhere x c (q + code_t t + 2)) → ◌⊎◌ (◌⊎◌ (x ≡ WRITE v) (NamesT x t)) (Anywhere x c (q + (code_t t + 2)))
      also (inl e) = inl (inl e)
      also (inr z) = inr (moved (let e : q + code_t t + 2 ≡ q + (code_t t + 2) = omega arith in e) z)

      go : ◌⊎◌ (NamesT x t) (Anywhere x (WRITE v ⨾ c) (q + code_t t)) → ◌⊎◌ (◌⊎◌ (x ≡ WRITE v) (NamesT x t)) (Anywhere x c (q + (code_t t + 2)))
      go (inl y) = inl (inr y)
      go (inr z) = also (split no_write_fork z)

  -- a FORK: behind it, or in its child
  fork_split : (k c : Code) (q r : ℕ) → next_place (op_of (FORK k)) q ≡ r → Anywhere x (FORK k ⨾ c) q → ◌⊎◌ (Anywhere x k (q + 3)) (Anywhere x c r)
  fork_split k c q r e (own o) = go (own_split o)
    where
      go : ◌⊎◌ (x ≡ FORK k) (Own x c) → ◌⊎◌ (Anywhere x k (q + 3)) (Anywhere x c r)
      go (inl f) = absurd (a.no_fork k f)
      go (inr o) = inr (own o)
  fork_split k c q r e (in_child {y} {k = d} z o) = go (children_split z)
    where
      go : Children (FORK k) c q y d → ◌⊎◌ (Anywhere x k (q + 3)) (Anywhere x c r)
      go (rest w) = inr (moved e (in_child w o))
      go (its h f (inl g)) = inl (own (subst (Own x) (g ∙ sym (same_fork f)) o))
      go (its h f (inr w)) = inl (in_child (subst (λ (n : Code). Child' n (q + 3) y d) (sym (same_fork f)) w) o)

  none_there : {A : Type 0} (q : ℕ) → Anywhere x ε q → A
  none_there {A = A} q w = go ε refl w
    where
      end_own : {c : Code} → c ≡ ε → Own x c → ⊥
      end_own e own_first = absurd (let z : ◌≡◌ {A = ℕ} 0 1 = cc in omega arith)
      end_own e (own_later o) = absurd (let z : ◌≡◌ {A = ℕ} 0 1 = cc in omega arith)

      end_child : {c : Code} {q : ℕ} {y : Child} {k : Code} → c ≡ ε → Child' c q y k → ⊥
      end_child e child_first = absurd (let z : ◌≡◌ {A = ℕ} 0 1 = cc in omega arith)
      end_child e (child_later o) = absurd (let z : ◌≡◌ {A = ℕ} 0 1 = cc in omega arith)
      end_child e (child_within o) = absurd (let z : ◌≡◌ {A = ℕ} 0 1 = cc in omega arith)

      go : (c : Code) → c ≡ ε → Anywhere x c q → A
      go c e (own o) = absurd (end_own e o)
      go c e (in_child z o) = absurd (end_child e z)

  code_proc : (p : Proc) (c : Code) (q : ℕ) → Anywhere x (compile_p p c) q → ◌⊎◌ (NamesP x p) (Anywhere x c (q + code_p p))
  unfolding compile_p code_p next_place
  code_proc (ValP n) c q w = inr (past (a.no_push n) no_push_fork w)
  code_proc (AddP l r) c q w = first (code_proc l (compile_p r (ADD ⨾ c)) q w) (λ z. code_proc r (ADD ⨾ c) (q + code_p l) z)
    where
      second : ◌⊎◌ (NamesP x r) (Anywhere x (ADD ⨾ c) (q + code_p l + code_p r)) → ◌⊎◌ (◌⊎◌ (NamesP x l) (NamesP x r)) (Anywhere x c (q + (code_p l + code_p r + 1)))
      second (inl y) = inl (inr y)
      second (inr z) = inr (moved (let e : q + code_p l + code_p r + 1 ≡ q + (code_p l + code_p r + 1) = omega arith in e) (past a.no_add no_add_fork z))

      first : ◌⊎◌ (NamesP x l) (Anywhere x (compile_p r (ADD ⨾ c)) (q + code_p l)) → (Anywhere x (compile_p r (ADD ⨾ c)) (q + code_p l) → ◌⊎◌ (NamesP x r) (Anywhere x (ADD ⨾ c) (q + code_p l + code_p r))) → ◌⊎◌ (◌⊎◌ (NamesP x l) (NamesP x r)) (Anywhere x c (q + (code_p l + code_p r + 1)))
      first (inl y) f = inl (inl y)
      first (inr z) f = second (f z)
  code_proc (Atomic t) c q w = go (code_tran t (COMMIT ⨾ c) (q + 1) (past a.no_begin no_begin_fork w))
    where
      go : ◌⊎◌ (NamesT x t) (Anywhere x (COMMIT ⨾ c) (q + 1 + code_t t)) → ◌⊎◌ (NamesT x t) (Anywhere x c (q + (code_t t + 2)))
      go (inl y) = inl y
      go (inr z) = inr (moved (let e : q + 1 + code_t t + 1 ≡ q + (code_t t + 2) = omega arith in e) (past a.no_commit no_commit_fork z))
  code_proc (Fork p) c q w = go (fork_split (compile_p p ε) c q (q + (code_p p + 3)) (let e : q + 3 + length (instructions_bytes (compile_p p ε)) ≡ q + (code_p p + 3) = omega (arith, child_length p) in e) w) (λ z. code_proc p ε (q + 3) z)
    where
      within : ◌⊎◌ (NamesP x p) (Anywhere x ε (q + 3 + code_p p)) → NamesP x p
      within (inl y) = y
      within (inr z) = none_there (q + 3 + code_p p) z

      go : ◌⊎◌ (Anywhere x (compile_p p ε) (q + 3)) (Anywhere x c (q + (code_p p + 3))) → (Anywhere x (compile_p p ε) (q + 3) → ◌⊎◌ (NamesP x p) (Anywhere x ε (q + 3 + code_p p))) → ◌⊎◌ (NamesP x p) (Anywhere x c (q + (code_p p + 3)))
      go (inl z) f = inl (within (f z))
      go (inr z) f = inr z

-- from the tree to the code
own_behind_t : (x : Instruction) (t : Tran) (c : Code) → Own x c → Own x (compile_t t c)
unfolding compile_t
own_behind_t x (ValT n) c o = own_later o
own_behind_t x (AddT l r) c o = own_behind_t x l (compile_t r (ADD ⨾ c)) (own_behind_t x r (ADD ⨾ c) (own_later o))
own_behind_t x (Read v) c o = own_later o
own_behind_t x (Write v t) c o = own_behind_t x t (WRITE v ⨾ c) (own_later o)

own_behind_p : (x : Instruction) (p : Proc) (c : Code) → Own x c → Own x (compile_p p c)
unfolding compile_p
own_behind_p x (ValP n) c o = own_later o
own_behind_p x (AddP l r) c o = own_behind_p x l (compile_p r (ADD ⨾ c)) (own_behind_p x r (ADD ⨾ c) (own_later o))
own_behind_p x (Atomic t) c o = own_later (own_behind_t x t (COMMIT ⨾ c) (own_later o))
own_behind_p x (Fork p) c o = own_later o

tran_code : (x : Instruction) (t : Tran) (c : Code) → NamesT x t → Own x (compile_t t c)
unfolding compile_t
tran_code x (ValT n) c y = absurd y
tran_code x (AddT l r) c (inl y) = tran_code x l (compile_t r (ADD ⨾ c)) y
tran_code x (AddT l r) c (inr y) = own_behind_t x l (compile_t r (ADD ⨾ c)) (tran_code x r (ADD ⨾ c) y)
tran_code x (Read v) c y = subst (λ (i : Instruction). Own x (i ⨾ c)) y own_first
tran_code x (Write v t) c (inl y) = own_behind_t x t (WRITE v ⨾ c) (subst (λ (i : Instruction). Own x (i ⨾ c)) y own_first)
tran_code x (Write v t) c (inr y) = tran_code x t (WRITE v ⨾ c) y

proc_code : (x : Instruction) (p : Proc) (c : Code) (q : ℕ) → NamesP x p → Anywhere x (compile_p p c) q
unfolding compile_p
proc_code x (ValP n) c q y = absurd y
proc_code x (AddP l r) c q (inl y) = proc_code x l (compile_p r (ADD ⨾ c)) q y
proc_code x (AddP l r) c q (inr y) = go (proc_code x r (ADD ⨾ c) (q + code_p l) y)
  where
    go : Anywhere x (compile_p r (ADD ⨾ c)) (q + code_p l) → Anywhere x (compile_p l (compile_p r (ADD ⨾ c))) q
    go (own o) = own (own_behind_p x l (compile_p r (ADD ⨾ c)) o)
    go (in_child z o) = in_child (behind_p l (compile_p r (ADD ⨾ c)) q z) o
proc_code x (Atomic t) c q y = own (own_later (tran_code x t (COMMIT ⨾ c) y))
proc_code x (Fork p) c q y = go (proc_code x p ε (q + 3) y)
  where
    go : Anywhere x (compile_p p ε) (q + 3) → Anywhere x (FORK (compile_p p ε) ⨾ c) q
    go (own o) = in_child child_first o
    go (in_child z o) = in_child (child_within z) o

-- ---- somewhere in the code, as code/specs/Bytes has it
own_occurs : {x : Instruction} {c : Code} → Own x c → OccursIn x c
own_occurs own_first = occurs.first
own_occurs (own_later o) = occurs.later (own_occurs o)

child_occurs : {x : Instruction} {c : Code} {q : ℕ} {y : Child} {k : Code} → Child' c q y k → OccursIn x k → OccursIn x c
child_occurs child_first o = occurs.inside o
child_occurs (child_later z) o = occurs.later (child_occurs z o)
child_occurs (child_within z) o = occurs.inside (child_occurs z o)

pub anywhere_occurs : {x : Instruction} {c : Code} {q : ℕ} → Anywhere x c q → OccursIn x c
anywhere_occurs (own o) = own_occurs o
anywhere_occurs (in_child z o) = child_occurs z (own_occurs o)

pub occurs_anywhere : {x : Instruction} {c : Code} (q : ℕ) → OccursIn x c → Anywhere x c q
occurs_anywhere q occurs.first = own own_first
occurs_anywhere {x} q (occurs.later {k} {c} o) = go (occurs_anywhere (next_place (op_of k) q) o)
  where
    go : Anywhere x c (next_place (op_of k) q) → Anywhere x (k ⨾ c) q
    go (own o) = own (own_later o)
    go (in_child z o) = in_child (child_later z) o
occurs_anywhere {x} q (occurs.inside {child} {c} o) = go (occurs_anywhere (q + 3) o)
  where
    go : Anywhere x child (q + 3) → Anywhere x (FORK child ⨾ c) q
    go (own o) = in_child child_first o
    go (in_child z o) = in_child (child_within z) o

-- ---- a register is in the set exactly if the instruction stands in the code
module _ (p : Proc) (v : ℕ) where
  named : (x : Instruction) → Access x → Anywhere x (compile_p p ε) 5 → NamesP x p
  named x a w = go (code_proc x a p ε 5 w)
    where
      go : ◌⊎◌ (NamesP x p) (Anywhere x ε (5 + code_p p)) → NamesP x p
      go (inl y) = y
      go (inr z) = none_there x a (5 + code_p p) z

  pub read_stands : member (read_set p) v ≡ true → Anywhere (READ v) (compile_p p ε) 5
  read_stands e = proc_code (READ v) p ε 5 (named_read p v e)

  pub stands_read : ValuedP p → Anywhere (READ v) (compile_p p ε) 5 → member (read_set p) v ≡ true
  stands_read k w = read_named p v k (named (READ v) (read_access v) w)

  pub write_stands : member (write_set p) v ≡ true → Anywhere (WRITE v) (compile_p p ε) 5
  write_stands e = proc_code (WRITE v) p ε 5 (named_write p v e)

  pub stands_write : ValuedP p → Anywhere (WRITE v) (compile_p p ε) 5 → member (write_set p) v ≡ true
  stands_write k w = write_named p v k (named (WRITE v) (write_access v) w)
