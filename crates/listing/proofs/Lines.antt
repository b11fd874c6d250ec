-- The lines of a listing from their words and numbers. Assumes nothing.
use Prim.Native.Nat.{ℕ, suc, ◌+◌, ◌<◌, ◌≤◌}
use mathlib.Core.Bool.{false, cond}
use mathlib.Core.Path.{◌≡◌, refl, sym, ap, ◌∙◌}
use mathlib.Core.List.{List, [], ◌++◌, append_assoc}
use native.Mathlib.Omega.{arith}
use borrow.Author.Tests.{eq-eqb, ne_eqb}
use lib.IntN.{ℤ, pos, negsuc, nat_abs}
use lib.ListN.{length, drop, get_or, drop_of_length-le}
use lib.Seq.{drop-cons}
use Rattle.listing.specs.InnerPage.{sign_of}
use Rattle.listing.specs.Listed.{ascii, decimal, integer, counts_line, thread_line, thread_lines, register_line, register_lines, is_zero}
use Rattle.stm.specs.Events.{Counts}
use Rattle.thread.specs.Threads.{exists}
use Rattle.thread.specs.declared.Thread.{Thread}

-- a signed number is its sign and its digits
pub signed_digits : (n : ℤ) (rest : List ℕ) → sign_of n ++ (decimal (nat_abs n) ++ rest) ≡ integer n ++ rest
unfolding integer
signed_digits (pos n) rest = refl
signed_digits (negsuc n) rest = refl

pub done-line : (i : ℕ) (t : Thread) → t.place ≡ t.end → ((ascii "thread " ++ decimal i) ++ (ascii " done " ++ (integer (get_or t.cells 0 (pos 0)) ++ ascii "\n"))) ≡ thread_line i t
unfolding thread_line
done-line i t e = rw (eq-eqb t.place t.end e) (append_assoc (ascii "thread ") (decimal i) _)

pub open-line : (i : ℕ) (t : Thread) → (t.place ≡ t.end → ⊥) → ((ascii "thread " ++ decimal i) ++ ascii " open\n") ≡ thread_line i t
unfolding thread_line
open-line i t e = rw (ne_eqb t.place t.end e) (append_assoc (ascii "thread ") (decimal i) _)

pub register-line : (v : ℕ) (n : ℤ) → is_zero n ≡ false → ((ascii "register " ++ decimal v) ++ (ascii " " ++ (integer n ++ ascii "\n"))) ≡ register_line v n
unfolding register_line
register-line v n e = rw e (append_assoc (ascii "register ") (decimal v) _)

-- no line for a register that is 0
pub no_line : (v : ℕ) (n : ℤ) → n ≡ pos 0 → [] ≡ register_line v n
unfolding register_line
no_line v n e = ap (λ (z : ℤ). cond (is_zero z) [] (ascii "register " ++ (decimal v ++ (ascii " " ++ (integer z ++ ascii "\n"))))) (sym e)

pub not_zero : (n : ℤ) → (n ≡ pos 0 → ⊥) → is_zero n ≡ false
not_zero (pos n) h = ne_eqb n 0 (λ (e : n ≡ 0). h (ap pos e))
not_zero (negsuc n) h = refl

-- what is to come from a record on, and from a register on
pub thread_next : (i : ℕ) (ts : List Thread) → i < 17 → length ts ≡ 17 → (t : Thread) → cond (exists (get_or ts i t)) (thread_line i (get_or ts i t)) [] ++ thread_lines (i + 1) (drop (i + 1) ts) ≡ thread_lines i (drop i ts)
unfolding thread_lines
thread_next i ts h e t = ap (λ (k : ℕ). cond (exists (get_or ts i t)) (thread_line i (get_or ts i t)) [] ++ thread_lines k (drop k ts)) (let z : i + 1 ≡ suc i = omega arith in z) ∙ ap (thread_lines i) (sym (drop-cons ts i t (omega (arith, h, e))))

pub register_next : (v : ℕ) (ns : List ℤ) → v < 65 → length ns ≡ 65 → (n : ℤ) → register_line v (get_or ns v n) ++ register_lines (v + 1) (drop (v + 1) ns) ≡ register_lines v (drop v ns)
unfolding register_lines
register_next v ns h e n = ap (λ (k : ℕ). register_line v (get_or ns v n) ++ register_lines k (drop k ns)) (let z : v + 1 ≡ suc v = omega arith in z) ∙ ap (register_lines v) (sym (drop-cons ns v n (omega (arith, h, e))))

-- and at the end nothing
pub threads_end : (i : ℕ) (ts : List Thread) → length ts ≤ i → thread_lines i (drop i ts) ≡ []
unfolding thread_lines
threads_end i ts h = ap (thread_lines i) (drop_of_length-le ts {i = i} h)

pub registers_end : (v : ℕ) (ns : List ℤ) → length ns ≤ v → register_lines v (drop v ns) ≡ []
unfolding register_lines
registers_end v ns h = ap (register_lines v) (drop_of_length-le ns {i = v} h)

-- a line put on a page, behind what stands there
module _ (page m x : List ℕ) where
  pub done : (i : ℕ) (t : Thread) (z : ℤ) → t.place ≡ t.end → z ≡ get_or t.cells 0 (pos 0) → m ≡ page ++ (ascii "thread " ++ decimal i) → x ≡ m ++ (ascii " done " ++ (integer z ++ ascii "\n")) → x ≡ page ++ thread_line i t
  done i t z e f g h =
      h ∙ ap (λ (l : List ℕ). l ++ (ascii " done " ++ (integer z ++ ascii "\n"))) g ∙ append_assoc page (ascii "thread " ++ decimal i) (ascii " done " ++ (integer z ++ ascii "\n"))
      ∙ ap (λ (y : ℤ). page ++ ((ascii "thread " ++ decimal i) ++ (ascii " done " ++ (integer y ++ ascii "\n")))) f ∙ ap (page ++◌) (done-line i t e)

  pub open-thread : (i : ℕ) (t : Thread) → (t.place ≡ t.end → ⊥) → m ≡ page ++ (ascii "thread " ++ decimal i) → x ≡ m ++ ascii " open\n" → x ≡ page ++ thread_line i t
  open-thread i t e g h = h ∙ ap (λ (l : List ℕ). l ++ ascii " open\n") g ∙ append_assoc page (ascii "thread " ++ decimal i) (ascii " open\n") ∙ ap (page ++◌) (open-line i t e)

  pub registered : (v : ℕ) (n z : ℤ) → (n ≡ pos 0 → ⊥) → z ≡ n → m ≡ page ++ (ascii "register " ++ decimal v) → x ≡ m ++ (ascii " " ++ (integer z ++ ascii "\n")) → x ≡ page ++ register_line v n
  registered v n z e f g h =
      h ∙ ap (λ (l : List ℕ). l ++ (ascii " " ++ (integer z ++ ascii "\n"))) g ∙ append_assoc page (ascii "register " ++ decimal v) (ascii " " ++ (integer z ++ ascii "\n"))
      ∙ ap (λ (y : ℤ). page ++ ((ascii "register " ++ decimal v) ++ (ascii " " ++ (integer y ++ ascii "\n")))) f ∙ ap (page ++◌) (register-line v n (not_zero n e))

-- one line more of the lines that are to come
module _ (initial page new : List ℕ) where
  pub thread_step : (i : ℕ) (ts : List Thread) (t : Thread) → i < 17 → length ts ≡ 17 → new ≡ page ++ cond (exists (get_or ts i t)) (thread_line i (get_or ts i t)) [] → page ++ thread_lines i (drop i ts) ≡ initial ++ thread_lines 0 ts
      → new ++ thread_lines (i + 1) (drop (i + 1) ts) ≡ initial ++ thread_lines 0 ts
  thread_step i ts t h e f g =
      ap (λ (l : List ℕ). l ++ thread_lines (i + 1) (drop (i + 1) ts)) f ∙ append_assoc page (cond (exists (get_or ts i t)) (thread_line i (get_or ts i t)) []) (thread_lines (i + 1) (drop (i + 1) ts)) ∙ ap (page ++◌) (thread_next i ts h e t) ∙ g

  pub register_step : (v : ℕ) (ns : List ℤ) (n z : ℤ) → v < 65 → length ns ≡ 65 → z ≡ get_or ns v n → new ≡ page ++ register_line v z → page ++ register_lines v (drop v ns) ≡ initial ++ register_lines 0 ns
      → new ++ register_lines (v + 1) (drop (v + 1) ns) ≡ initial ++ register_lines 0 ns
  register_step v ns n z h e w f g =
      ap (λ (l : List ℕ). l ++ register_lines (v + 1) (drop (v + 1) ns)) (f ∙ ap (λ (y : ℤ). page ++ register_line v y) w) ∙ append_assoc page (register_line v (get_or ns v n)) (register_lines (v + 1) (drop (v + 1) ns)) ∙ ap (page ++◌) (register_next v ns h e n) ∙ g

-- the first line, from its words and numbers put one behind the other on an empty page
pub counts_put : (p a b d e f x : List ℕ) (c : Counts) → p ≡ [] → a ≡ p ++ (ascii "steps " ++ decimal c.steps) → b ≡ a ++ (ascii " idle " ++ decimal c.idle) → d ≡ b ++ (ascii " commits " ++ decimal c.commits)
    → e ≡ d ++ (ascii " back " ++ decimal c.back) → f ≡ e ++ (ascii " over " ++ decimal c.over) → x ≡ f ++ ascii "\n" → x ≡ counts_line c
unfolding counts_line
counts_put p a b d e f x c h0 h1 h2 h3 h4 h5 h6 = rw (h6, h5, h4, h3, h2, h1, h0) (simp append_assoc)
