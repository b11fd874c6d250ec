-- The tests of one node, on the job and the place. Assumes nothing.
use Prim.Native.Nat.{ℕ, suc, ◌+◌, ◌-◌, ◌≤◌, ◌<◌}
use mathlib.Core.Path.{◌≡◌, refl, sym, ap, ◌∙◌}
use mathlib.Core.Bool.{Bool, true, false, beq, ◌&&◌, and-false}
use mathlib.Core.List.{List}
use mathlib.Core.Logic.{◌⊎◌, inl, inr}
use native.Mathlib.Omega.{arith}
use lib.Dec.{eqb, leb}
use lib.ListN.{length, drop, get_or, length-drop, drop_of_length-le}
use lib.Seq.{drop-cons, get_or-drop}
use borrow.Author.Tests.{lt-ltb, le-ltb, le-leb, lt-leb, eq-eqb, ne_eqb}
use denote.Enum.Bare.{sameb}
use Rattle.terms.specs.contracts.Kind.{the_type}
use Rattle.job.specs.declared.Due.{Due}
use Rattle.job.specs.InnerScan.{node_kind, tested, of_transactions, due_part}
use Rattle.script.specs.InnerTrees.{sort_of}
use Rattle.script.specs.Jobs.{operand}
use Rattle.script.specs.Outcome.{Outcome, refused, done}
use Rattle.script.specs.Reader.{permitted, node_of, node_at}
use Rattle.terms.specs.Numbers.{kind_number}
use Rattle.terms.specs.declared.Kind.{Kind}
use Rattle.terms.specs.declared.Kind.TheVariants as kind

-- where a kind may stand
pub placed : (k : Kind) (t : Bool) → permitted (sort_of t) (kind_number k) ≡ beq (of_transactions k) t
unfolding permitted
placed kind.Valp true = refl
placed kind.Valp false = refl
placed kind.Addp true = refl
placed kind.Addp false = refl
placed kind.Atomic true = refl
placed kind.Atomic false = refl
placed kind.Fork true = refl
placed kind.Fork false = refl
placed kind.Valt true = refl
placed kind.Valt false = refl
placed kind.Addt true = refl
placed kind.Addt false = refl
placed kind.Read true = refl
placed kind.Read false = refl
placed kind.Write true = refl
placed kind.Write false = refl

-- no other byte may stand anywhere
nowhere : (byte : ℕ) (t : Bool) → (byte ≡ 0) ⊎ (8 < byte) → permitted (sort_of t) byte ≡ false
unfolding permitted
nowhere byte true (inl e) = rw e refl
nowhere byte false (inl e) = rw e refl
nowhere byte true (inr h) = rw (le-leb 5 byte (omega arith), lt-leb byte 8 h) refl
nowhere byte false (inr h) = rw (le-leb 1 byte (omega arith), lt-leb byte 4 (omega arith)) refl

-- the node of a kind that may stand there has that kind
kind_is : (k : Kind) (t : Bool) (rest : List ℕ) → beq (of_transactions k) t ≡ true → node_kind (node_of (sort_of t) (kind_number k) rest) ≡ k
unfolding node_of
kind_is kind.Valp false rest e = refl
kind_is kind.Addp false rest e = refl
kind_is kind.Atomic false rest e = refl
kind_is kind.Fork false rest e = refl
kind_is kind.Valt true rest e = refl
kind_is kind.Addt true rest e = refl
kind_is kind.Read true rest e = refl
kind_is kind.Write true rest e = refl
kind_is kind.Valp true rest e = absurd (let z : ◌≡◌ {A = ℕ} 0 1 = cc in omega arith)
kind_is kind.Addp true rest e = absurd (let z : ◌≡◌ {A = ℕ} 0 1 = cc in omega arith)
kind_is kind.Atomic true rest e = absurd (let z : ◌≡◌ {A = ℕ} 0 1 = cc in omega arith)
kind_is kind.Fork true rest e = absurd (let z : ◌≡◌ {A = ℕ} 0 1 = cc in omega arith)
kind_is kind.Valt false rest e = absurd (let z : ◌≡◌ {A = ℕ} 0 1 = cc in omega arith)
kind_is kind.Addt false rest e = absurd (let z : ◌≡◌ {A = ℕ} 0 1 = cc in omega arith)
kind_is kind.Read false rest e = absurd (let z : ◌≡◌ {A = ℕ} 0 1 = cc in omega arith)
kind_is kind.Write false rest e = absurd (let z : ◌≡◌ {A = ℕ} 0 1 = cc in omega arith)

-- the tests of an operand and of a FORK, by what the code asks
pub no_register : (size byte : ℕ) → (size ≡ 1 → ⊥) → (eqb size 1 && leb 64 byte) ≡ false
no_register size byte n = rw (ne_eqb size 1 n) refl

pub low_register : (size byte : ℕ) → byte < 64 → (eqb size 1 && leb 64 byte) ≡ false
low_register size byte h = rw (lt-leb 64 byte h) (and-false (eqb size 1))

pub few_forks : (n forks : ℕ) → forks < 15 → (eqb n 4 && leb 15 forks) ≡ false
few_forks n forks h = rw (lt-leb 15 forks h) (and-false (eqb n 4))

pub not_fork : (n forks : ℕ) → eqb n 4 ≡ false → (eqb n 4 && leb 15 forks) ≡ false
not_fork n forks e = rw e refl

-- a kind is FORK if its byte is
pub same_fork : (k : Kind) → sameb the_type k kind.Fork ≡ eqb (kind_number k) 4
same_fork kind.Valp = refl
same_fork kind.Addp = refl
same_fork kind.Atomic = refl
same_fork kind.Fork = refl
same_fork kind.Valt = refl
same_fork kind.Addt = refl
same_fork kind.Read = refl
same_fork kind.Write = refl

module _ (job : List ℕ) (place : ℕ) (d : Due) (forks : ℕ) where
  abbrev answered : Outcome Kind
  answered = tested (node_at (due_part d) forks place (drop place job))

  pub no_byte : length job ≤ place → refused 1 place ≡ answered
  unfolding node_at
  no_byte h = rw (drop_of_length-le job h)

  module _ (h : place < length job) where
    pub unknown : (get_or job place 0 ≡ 0) ⊎ (8 < get_or job place 0) → refused 5 place ≡ answered
    unfolding node_at
    unknown e = rw (drop-cons job place 0 h, nowhere (get_or job place 0) d.transaction e)

    pub elsewhere : permitted (sort_of d.transaction) (get_or job place 0) ≡ false → refused 5 place ≡ answered
    unfolding node_at
    elsewhere e = rw (drop-cons job place 0 h, e)

    module _ (k : Kind) (is : kind_number k ≡ get_or job place 0) where
      pub may_stand : permitted (sort_of d.transaction) (get_or job place 0) ≡ true → beq (of_transactions k) d.transaction ≡ true
      may_stand e = sym (placed k d.transaction) ∙ (ap (permitted (sort_of d.transaction)) is ∙ e)

      module _ (may : beq (of_transactions k) d.transaction ≡ true) where
        abbrev rest : List ℕ
        rest = drop (suc place) job

        pub too_deep : 64 < d.depth → refused 7 place ≡ answered
        unfolding node_at
        too_deep g = rw (drop-cons job place 0 h, ← is, placed k d.transaction, may, lt-ltb 64 d.depth g)

        module _ (flat : d.depth ≤ 64) where
          pub cut : length job - place - 1 < operand (kind_number k) → refused 1 (length job) ≡ answered
          unfolding node_at
          cut l =
              let n : length rest ≡ length job - place - 1 = omega (arith, length-drop (suc place) job) in
              let e : place + suc (length job - place - 1) ≡ length job = omega arith in
              rw (drop-cons job place 0 h, ← is, placed k d.transaction, may, le-ltb 64 d.depth flat, n, lt-ltb (length job - place - 1) (operand (kind_number k)) l, e)

          module _ (whole : operand (kind_number k) ≤ length job - place - 1) where
            behind : length rest ≡ length job - place - 1
            behind = omega (arith, length-drop (suc place) job)

            first : get_or rest 0 0 ≡ get_or job (place + 1) 0
            first = let e : suc place + 0 ≡ place + 1 = omega arith in get_or-drop (suc place) job 0 0 ∙ ap (λ (i : ℕ). get_or job i 0) e

            pub bad_register : operand (kind_number k) ≡ 1 → 64 ≤ get_or job (place + 1) 0 → refused 6 (place + 1) ≡ answered
            unfolding node_at
            bad_register o r =
                rw (
                  drop-cons job place 0 h,
                  ← is,
                  placed k d.transaction,
                  may,
                  le-ltb 64 d.depth flat,
                  behind,
                  le-ltb (length job - place - 1) (operand (kind_number k)) whole,
                  o,
                  first,
                  le-leb 64 (get_or job (place + 1) 0) r,
                )

            module _ (named : (eqb (operand (kind_number k)) 1 && leb 64 (get_or job (place + 1) 0)) ≡ false) where
              pub many_forks : kind_number k ≡ 4 → 15 ≤ forks → refused 8 place ≡ answered
              unfolding node_at
              many_forks e f =
                  rw (
                    drop-cons job place 0 h,
                    ← is,
                    placed k d.transaction,
                    may,
                    le-ltb 64 d.depth flat,
                    behind,
                    le-ltb (length job - place - 1) (operand (kind_number k)) whole,
                    first,
                    named,
                    eq-eqb (kind_number k) 4 e,
                    le-leb 15 forks f,
                  )

              pub good : (eqb (kind_number k) 4 && leb 15 forks) ≡ false → done k ≡ answered
              unfolding node_at
              good f =
                  rw (
                    drop-cons job place 0 h,
                    ← is,
                    placed k d.transaction,
                    may,
                    le-ltb 64 d.depth flat,
                    behind,
                    le-ltb (length job - place - 1) (operand (kind_number k)) whole,
                    first,
                    named,
                    f,
                    kind_is k d.transaction rest may,
                  )
