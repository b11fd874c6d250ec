-- Refusal 15's place is the one that document 02 No. 7 gives: every state of the reader has a text behind it that makes a script. Assumes nothing.
use Prim.Native.Nat.{ℕ, zero, suc, ◌+◌, ◌-◌, ◌≤◌}
use mathlib.Core.Path.{◌≡◌, refl, sym, ap, ◌∙◌, subst}
use mathlib.Core.Bool.{Bool, true, false}
use mathlib.Core.List.{List, [], ◌∷◌, ◌++◌, append_assoc, append-nil}
use native.Mathlib.Omega.{arith}
use native.Mathlib.Decide.{dec_le}
use lib.Dec.{ltb}
use lib.ListN.{length, take, drop, take-append-drop}
use borrow.Author.Tests.{eq-eqb, ltb-true, ltb-false}
use Rattle.script.specs.Tree.{Tran, Read, Write, Proc, Atomic, Fork, Sort, transaction, Tree}
use Rattle.script.specs.Outcome.{Outcome, refused, done, refuse}
use Rattle.grammar.specs.Grammar.{is_blank, is_digit, value, sum, IsScript, Viable, NoScript, most_text}
use Rattle.grammar.specs.Grammar.NoScript.{long, at_byte, at-end}
use Rattle.grammar.specs.Reader.{SumIn, TermIn, text, bracket, atomic, write, first, added, forked, sum_in, grown, State, want, dash, number, word, unopened, letter_r, register, registered, after, Moved, stuck, on, most_size, signed_number, closed, step_number, step_register, step_want, spelling, step, Result, fails, reads, end_after, finish, read_from, begin, placed, read_text}
use Rattle.grammar.proofs.Complete.{goes, Settles, is_after, is_number, is_register, is_registered, settle_close, settle_end, no_end, script_read, one_tree}
use Rattle.grammar.proofs.Sound.{read_script}

-- ---- every state has a completion
pub record Completes (x : State) : Type 0 where
  pub rest : List ℕ
  pub tree : Proc
  pub reads-on : read_from x rest ≡ reads tree

-- a process or a transaction that is whole: the text may end there, or a `)` leads on
data Way {s : Sort} (c : SumIn s) (t : Tree s) : Type 0 where
  ends : (p : Proc) → end_after t c ≡ reads p → Way c t
  shuts : (y : State) → closed c t ≡ on y → Completes y → Way c t

never : {A : Type 0} (left : ℕ) (p : Proc) → fails left ≡ reads p → A
never left p e = absurd (cc)

settled : {s : Sort} {y : State} {t : Tree s} {c : SumIn s} → Settles s y t c → Way c t → Completes y
unfolding read_from
settled h (ends p e) = record { rest = []; tree = p; reads-on = settle_end h ∙ e }
settled {y = y} h (shuts z e k) = record { rest = 41 ∷ k.rest; tree = k.tree; reads-on = goes y z 41 k.rest (settle_close h ∙ e) ∙ k.reads-on }

written : (v : ℕ) (c : SumIn transaction) (t : Tran) → Way c (Write v t) → Way (write v c) t
unfolding closed
written v c t (ends p e) = never 0 p (sym (no_end (Write v t) c) ∙ e)
written v c t (shuts y e k) = shuts y e k

mutual
  unfolding closed grown sum_in end_after

  way : {s : Sort} (c : SumIn s) (t : Tree s) → Way c t
  way text t = ends t refl
  way (bracket c) t = shuts (after (grown c t) (sum_in c)) refl (settled is_after (way_term c t))
  way (atomic c) t = shuts (after (grown c (Atomic t)) (sum_in c)) refl (settled is_after (way_term c (Atomic t)))
  way (write v c) t = written v c t (way c (Write v t))

  way_term : {s : Sort} (c : TermIn s) (t : Tree s) → Way (sum_in c) (grown c t)
  way_term (first c) t = way c t
  way_term (added {s = s} a c) t = way c (sum s a t)
  way_term (forked c) t = way_term c (Fork t)

ahead : {y : State} (x : State) (b : ℕ) → step x b ≡ on y → Completes y → Completes x
ahead {y = y} x b e k = record { rest = b ∷ k.rest; tree = k.tree; reads-on = goes x y b k.rest e ∙ k.reads-on }

spelled_out : (w : List ℕ) (y : State) → Completes y → Completes (spelling w y)
unfolding spelling step
spelled_out [] y k = k
spelled_out (c ∷ w) y k = ahead {y = spelling w y} (word c w y) c (rw (eq-eqb c c refl)) (spelled_out w y k)

begun : {s : Sort} (c : TermIn s) → Completes (want c)
unfolding step step_want step_number is_blank is_digit most_size
begun {s = s} c = ahead {y = number false 0 c} (want c) 48 refl (settled is_number (way_term c (value s (signed_number false 0))))

pub completes : (x : State) → Completes x
unfolding step step_number step_register is_blank is_digit spelling most_size
completes (want c) = begun c
completes (dash {s = s} c) = ahead {y = number true 0 c} (dash c) 48 refl (settled is_number (way_term c (value s (signed_number true 0))))
completes (number {s = s} g n c) = settled is_number (way_term c (value s (signed_number g n)))
completes (word x w y) = spelled_out (x ∷ w) y (completes y)
completes (unopened c) = ahead {y = want (first (atomic c))} (unopened c) 40 refl (begun (first (atomic c)))
completes (letter_r c) = ahead {y = register 0 c} (letter_r c) 48 refl (settled is_register (way_term c (Read 0)))
completes (register v c) = settled is_register (way_term c (Read v))
completes (registered v c) = settled is_registered (way c (Read v))
completes (after t c) = settled is_after (way c t)

-- ---- where reading fails
record Stops (x : State) (bs : List ℕ) (left : ℕ) : Type 0 where
  place : ℕ
  all : place + left ≡ length bs
  state : State
  reach : (rest : List ℕ) → read_from x (take place bs ++ rest) ≡ read_from state rest
  breaks : 1 ≤ left → (rest : List ℕ) → read_from x (take (place + 1) bs ++ rest) ≡ fails (suc (length rest))

fails_same : {m n : ℕ} → fails m ≡ fails n → m ≡ n
fails_same e = cc

end_zero : {s : Sort} (c : SumIn s) (t : Tree s) (left : ℕ) → end_after t c ≡ fails left → left ≡ 0
unfolding end_after
end_zero text t left e = cc
end_zero (bracket c) t left e = sym (fails_same e)
end_zero (atomic c) t left e = sym (fails_same e)
end_zero (write v c) t left e = sym (fails_same e)

finish_zero : (x : State) (left : ℕ) → finish x ≡ fails left → left ≡ 0
unfolding finish
finish_zero (want c) left e = sym (fails_same e)
finish_zero (dash c) left e = sym (fails_same e)
finish_zero (number {s = s} g n c) left e = end_zero (sum_in c) _ left e
finish_zero (word x w y) left e = sym (fails_same e)
finish_zero (unopened c) left e = sym (fails_same e)
finish_zero (letter_r c) left e = sym (fails_same e)
finish_zero (register v c) left e = end_zero (sum_in c) _ left e
finish_zero (registered v c) left e = end_zero c _ left e
finish_zero (after t c) left e = end_zero c t left e

stops_at : (b : ℕ) (bs : List ℕ) (x : State) (left : ℕ) (m : Moved) → step x b ≡ m → ((y : State) → read_from y bs ≡ fails left → Stops y bs left) → elim m [ stuck ↦ fails (suc (length bs)) | on y ↦ read_from y bs ] ≡ fails left → Stops x (b ∷ bs) left
unfolding read_from
stops_at b bs x left stuck e h k =
    record { place = 0; all = omega (arith, fails_same k); state = x; reach = λ rest. refl; breaks = λ _ rest. rw (e, read_from) }
stops_at b bs x left (on y) e h k =
    let i = h y k in
    let n : suc i.place + 1 ≡ suc (i.place + 1) = omega arith in
    record {
      place = suc i.place;
      all = omega (arith, i.all);
      state = i.state;
      reach = λ rest. goes x y b (take i.place bs ++ rest) e ∙ i.reach rest;
      breaks = λ l rest. ap (λ (n : ℕ). read_from x (take n (b ∷ bs) ++ rest)) n ∙ (goes x y b (take (i.place + 1) bs ++ rest) e ∙ i.breaks l rest);
    }

stops : (bs : List ℕ) (x : State) (left : ℕ) → read_from x bs ≡ fails left → Stops x bs left
unfolding read_from
stops [] x left e =
    let z = finish_zero x left e in
    record { place = 0; all = omega arith; state = x; reach = λ rest. refl; breaks = λ l. absurd (omega arith) }
stops (b ∷ bs) x left e = stops_at b bs x left (step x b) refl (λ y h. stops bs y left h) e

-- ---- the place
viable_there : (bs : List ℕ) (left : ℕ) (k : Stops begin bs left) → Viable (take k.place bs)
viable_there bs left k =
    let c = completes k.state in
    record { rest = c.rest; tree = c.tree; script = read_script _ _ (k.reach c.rest ∙ c.reads-on) }

not_further : (bs : List ℕ) (left : ℕ) (k : Stops begin bs left) → 1 ≤ left → Viable (take (k.place + 1) bs) → ⊥
not_further bs left k l v = never _ _ (sym (k.breaks l v.rest) ∙ script_read v.script)

take_all : (n : ℕ) (bs : List ℕ) → n ≡ length bs → take n bs ≡ bs
take_all zero [] e = refl
take_all zero (b ∷ bs) e = absurd (omega arith)
take_all (suc n) [] e = refl
take_all (suc n) (b ∷ bs) e = ap (λ (r : List ℕ). b ∷ r) (take_all n bs (omega arith))

failed : (bs : List ℕ) (left : ℕ) → length bs ≤ most_text → read_from begin bs ≡ fails left → NoScript bs (length bs - left)
failed bs left h e = go left refl
  where
    k : Stops begin bs left
    k = stops bs begin left e

    go : (n : ℕ) → left ≡ n → NoScript bs (length bs - left)
    go zero z =
        let a : length bs - left ≡ length bs = omega arith in
        subst (NoScript bs) (sym a) (at-end h (subst Viable (take_all k.place bs (omega (arith, k.all, z))) (viable_there bs left k)) (λ p s. never _ _ (sym e ∙ script_read s)))
    go (suc n) z =
        let a : length bs - left ≡ k.place = omega (arith, k.all, z) in
        subst (NoScript bs) (sym a) (at_byte h (omega (arith, k.all, z)) (viable_there bs left k) (not_further bs left k (omega (arith, z))))

-- ---- what `read_text` answers, both ways
pub data Judged (bs : List ℕ) : Outcome Proc → Type 0 where
  script : {p : Proc} → length bs ≤ most_text → IsScript bs p → Judged bs (done p)
  no_script : {i : ℕ} → NoScript bs i → Judged bs (refused 15 i)

judge_short : (bs : List ℕ) → length bs ≤ most_text → (r : Result) → read_from begin bs ≡ r → Judged bs (placed (length bs) r)
judge_short bs h (fails left) e = no_script (failed bs left h e)
judge_short bs h (reads p) e = script h (read_script bs p e)

judge : (bs : List ℕ) (b : Bool) → ltb most_text (length bs) ≡ b → Judged bs (refuse b 15 most_text (placed (length bs) (read_from begin bs)))
judge bs true e = no_script (long (ltb-true most_text (length bs) e))
judge bs false e = judge_short bs (ltb-false most_text (length bs) e) (read_from begin bs) refl

-- every text is answered, and rightly
pub text_judged : (bs : List ℕ) → Judged bs (read_text bs)
unfolding read_text
text_judged bs = judge bs (ltb most_text (length bs)) refl

-- ---- and nothing else is right
viable_part : (i : ℕ) (bs : List ℕ) → Viable bs → Viable (take i bs)
viable_part i bs v =
    let e : bs ++ v.rest ≡ take i bs ++ (drop i bs ++ v.rest) = ap (λ (l : List ℕ). l ++ v.rest) (sym (take-append-drop i bs)) ∙ append_assoc (take i bs) (drop i bs) v.rest in
    record { rest = drop i bs ++ v.rest; tree = v.tree; script = subst (λ (l : List ℕ). IsScript l v.tree) e v.script }

take_take : (i j : ℕ) (bs : List ℕ) → i ≤ j → take i (take j bs) ≡ take i bs
take_take zero j bs h = refl
take_take (suc i) zero bs h = absurd (omega arith)
take_take (suc i) (suc j) [] h = refl
take_take (suc i) (suc j) (b ∷ bs) h = ap (λ (r : List ℕ). b ∷ r) (take_take i j bs (omega arith))

viable_before : (i j : ℕ) (bs : List ℕ) → i ≤ j → Viable (take j bs) → Viable (take i bs)
viable_before i j bs h v = subst Viable (take_take i j bs h) (viable_part i (take j bs) v)

script_viable : (bs : List ℕ) (p : Proc) → IsScript bs p → Viable bs
script_viable bs p s = record { rest = []; tree = p; script = subst (λ (l : List ℕ). IsScript l p) (sym (append-nil bs)) s }

no_and_script : {bs : List ℕ} {i : ℕ} (p : Proc) → length bs ≤ most_text → IsScript bs p → NoScript bs i → ⊥
no_and_script p h s (long l) = omega arith
no_and_script {bs = bs} p h s (at_byte {i = i} l m v n) = n (viable_part (i + 1) bs (script_viable bs p s))
no_and_script p h s (at-end l v n) = n p s

same_place : {bs : List ℕ} {i j : ℕ} → NoScript bs i → NoScript bs j → i ≤ j
same_place (long l) (long m) = omega arith
same_place (long l) (at_byte m k v n) = absurd (omega arith)
same_place (long l) (at-end m v n) = absurd (omega arith)
same_place (at_byte l k v n) (long m) = absurd (omega arith)
same_place {bs = bs} (at_byte {i = i} l k v n) (at_byte {i = j} m q w o) = go (dec_le i j)
  where
    go : Dec (i ≤ j) → i ≤ j
    go (yes h) = h
    go (no h) = absurd (o (viable_before (j + 1) i bs (omega arith) v))
same_place (at_byte l k v n) (at-end m w o) = omega arith
same_place (at-end l v n) (long m) = absurd (omega arith)
same_place {bs = bs} (at-end l v n) (at_byte {i = j} m k w o) = absurd (o (viable_part (j + 1) bs v))
same_place (at-end l v n) (at-end m w o) = omega arith

pub judged_once : {bs : List ℕ} {x y : Outcome Proc} → Judged bs x → Judged bs y → x ≡ y
judged_once (script h s) (script k t) = ap done (one_tree s t)
judged_once (script {p = p} h s) (no_script n) = absurd (no_and_script p h s n)
judged_once (no_script n) (script {p = p} h s) = absurd (no_and_script p h s n)
judged_once (no_script {i = i} n) (no_script {i = j} m) =
    let e : i ≡ j = omega (arith, same_place n m, same_place m n) in
    ap (refused 15) e

-- a text of at most 32,768 bytes that is a script gives its tree, every other text 15 at the one place that document 02 gives
pub text_exactly : (bs : List ℕ) (x : Outcome Proc) → Judged bs x → read_text bs ≡ x
text_exactly bs x h = judged_once (text_judged bs) h
