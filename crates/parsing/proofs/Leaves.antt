-- What numbers, registers, words and targets of writes are answered with. Assumes nothing.
use Prim.Native.Nat.{ℕ, zero, suc, ◌+◌, ◌*◌, ◌-◌, ◌%◌, ◌≤◌, ◌<◌}
use mathlib.Core.Path.{◌≡◌, refl, sym, ap, ◌∙◌}
use mathlib.Core.Bool.{Bool, true, false}
use mathlib.Core.List.{List, [], ◌∷◌}
use mathlib.Core.Logic.{⊎_elim}
use native.Mathlib.Omega.{arith}
use native.Mathlib.Decide.{dec_lt}
use lib.IntN.{ℤ, pos}
use lib.ListN.{length, drop, get_or, length-drop}
use Rattle.std.proofs.Math.Seq.{drop-cons, drop-length}
use borrow.Author.Tests.{ne_eqb}
use Rattle.word.specs.Sum.{residue}
use Rattle.delivery.specs.InnerPlaces.{placed_at}
use Rattle.script.specs.Tree.{Read, transaction}
use Rattle.script.specs.Count.{nodes_p, nodes_t}
use Rattle.script.specs.InnerTrees.{sort_of, nodes as nodesOf, bytes, kind_in}
use Rattle.script.specs.Bytes.{bytes_p, bytes_t, node_bytes, bytes32}
use Rattle.grammar.specs.Grammar.{is_digit, minus, value, sum, Digits}
use Rattle.grammar.specs.Reader.{SumIn, TermIn, first, added, write, sum_in, grown, State, want, dash, word, letter_r, register, after, most_size, signed_number, spelling, step, finish, behind_register, fails, read_from}
use Rattle.grammar.proofs.Complete.{want_stays, digit_low}
use Rattle.grammar.proofs.Places
use Rattle.parsing.specs.declared.Scanned.{Scanned}
use Rattle.parsing.specs.declared.Opening.TheVariants as O
use Rattle.parsing.specs.InnerParsing.{Cursor, is_at, Skipped, Scanning, NoDigit, ScannedTo, Later, Built, TermTo, WordTo, OpeningTo}
use Rattle.parsing.proofs.Laws as L
use Rattle.std.specs.Prelude.{Result, Ok, Err}

-- no digit: nothing is added
zero_digits : {m n : ℕ} {xs rest : List ℕ} → Digits m n xs rest → length xs ≤ length rest → m ≡ n
zero_digits Digits.none h = refl
zero_digits (Digits.digit e k) h = absurd (longer k h)
  where
    longer : {m n : ℕ} {xs rest : List ℕ} → Digits m n xs rest → suc (length xs) ≤ length rest → ⊥
    longer Digits.none h = omega arith
    longer (Digits.digit e k) h = longer k (omega arith)

-- one digit alone is never too large
over_later : (bs : List ℕ) (from most value at : ℕ) → Scanning bs from most at value → 9 ≤ most → is_digit (get_or bs at 0) ≡ true → most < value * 10 + (get_or bs at 0 - 48) → from < at
over_later bs from most value at k m e o = go (dec_lt from at)
  where
    go : Dec (from < at) → from < at
    go (yes h) = h
    go (no h) =
        let z : from ≡ at = omega (arith, k.ahead) in
        let v : 0 ≡ value = zero_digits k.digits (omega (arith, length-drop from bs, length-drop at bs)) in
        absurd (omega (arith, digit_low _ e, o, v))

-- ---- a number's four bytes
plain_residue : (n : ℕ) → n ≤ 2147483647 → residue (pos n) ≡ n
unfolding residue
plain_residue n h = omega arith

minus_residue : (n : ℕ) → n ≤ 2147483648 → residue (minus n) ≡ (4294967296 - n) % 4294967296
unfolding residue minus
minus_residue zero h = refl
minus_residue (suc n) h = omega arith

value_bytes : (inside : Bool) (z : ℤ) → bytes (sort_of inside) (value (sort_of inside) z) ≡ kind_in inside 1 ∷ bytes32 (residue z)
unfolding value bytes_p bytes_t node_bytes
value_bytes false z = refl
value_bytes true z = refl

value_nodes : (inside : Bool) (z : ℤ) → nodesOf (sort_of inside) (value (sort_of inside) z) ≡ 1
unfolding value nodes_p nodes_t
value_nodes false z = refl
value_nodes true z = refl

built_number : (inside : Bool) (z : ℤ) (r at next size nodes : ℕ) (kind : ℕ) (before out : List ℕ) → residue z ≡ r → kind ≡ kind_in inside 1 → at < next → (size + 5 ≤ length before → out ≡ placed_at size (kind ∷ bytes32 r) before) → Built (sort_of inside) (value (sort_of inside) z) at size nodes next (size + 5) (nodes + 1) before out
unfolding bytes32
built_number inside z r at next size nodes kind before out e q l w =
    let b = value_bytes inside z in
    record {
      sized = ap (λ (n : ℕ). size + n) (sym (ap length b));
      counted = ap (λ (n : ℕ). nodes + n) (sym (value_nodes inside z));
      small = omega arith;
      few = omega arith;
      written = λ h. w h ∙ ap (λ (l : List ℕ). placed_at size l before) (ap (λ (k : ℕ). k ∷ bytes32 r) q ∙ (ap (λ (r : ℕ). kind_in inside 1 ∷ bytes32 r) (sym e) ∙ sym b));
    }

abbrev read_to : (next size nodes : ℕ) → Result Cursor ℕ
read_to next size nodes = Ok (record { at = next; size = size; nodes = nodes })

module _ (inside : Bool) (bs : List ℕ) (at size nodes opened : ℕ) (before out : List ℕ) (h : at < length bs) where
  -- without a sign
  pub plain_broken : (i : ℕ) → is_digit (get_or bs at 0) ≡ true → ScannedTo bs at 2147483647 (Err i) → length out ≡ length before → TermTo (sort_of inside) bs at size nodes opened (Err i) before out
  unfolding most_size
  plain_broken i e k l =
      record {
        kept = l;
        within = k.1.within;
        so = λ c q _. ⊎_elim
            (λ w. (let t : true ≡ false = sym e ∙ (ap (λ (n : ℕ). is_digit (get_or bs n 0)) (sym w.0) ∙ w.1 (omega (arith, w.0))) in cc))
            (λ w. Places.plain_run bs c k.0 at i (over_later bs at 2147483647 k.0 i k.1 (omega arith) w.1 w.2) k.1.within k.1.digits k.1.small ∙ Places.number_over bs false k.0 c i w.0 w.1 w.2)
            k.2;
      }

  pub plain_read : (d : Scanned) (kind : ℕ) → ScannedTo bs at 2147483647 (Ok d) → kind ≡ kind_in inside 1 → (size + 5 ≤ length before → out ≡ placed_at size (kind ∷ bytes32 d.value) before) → length out ≡ length before → TermTo (sort_of inside) bs at size nodes opened (read_to d.at (size + 5) (nodes + 1)) before out
  unfolding signed_number
  plain_read d kind k q w l =
      record {
        kept = l;
        within = k.0.within;
        so = (
          value (sort_of inside) (pos d.value),
          λ c o _. Places.plain_run bs c d.value at d.at k.1 k.0.within k.0.digits k.0.small ∙ Places.number_settles bs false d.value c d.at k.2,
          k.1,
          built_number inside (pos d.value) d.value at d.at size nodes kind before out (plain_residue d.value k.0.small) q k.1 w,
        );
      }

  -- with a `-`
  pub minus_broken : (i : ℕ) → get_or bs at 0 ≡ 45 → ScannedTo bs (at + 1) 2147483648 (Err i) → length out ≡ length before → TermTo (sort_of inside) bs at size nodes opened (Err i) before out
  unfolding most_size
  minus_broken i e k l =
      record {
        kept = l;
        within = k.1.within;
        so = λ c q _. Places.dash_there bs c at h e ∙ ⊎_elim
            (λ w. ap (λ (n : ℕ). read_from (dash c) (drop n bs)) (sym w.0) ∙ Places.dash_fails bs c i k.1.within w.1)
            (λ w. Places.dash_run bs c k.0 (at + 1) i (over_later bs (at + 1) 2147483648 k.0 i k.1 (omega arith) w.1 w.2) k.1.within k.1.digits k.1.small ∙ Places.number_over bs true k.0 c i w.0 w.1 w.2)
            k.2;
      }

  pub minus_read : (d : Scanned) (kind r : ℕ) → get_or bs at 0 ≡ 45 → ScannedTo bs (at + 1) 2147483648 (Ok d) → kind ≡ kind_in inside 1 → r ≡ (4294967296 - d.value) % 4294967296 → (size + 5 ≤ length before → out ≡ placed_at size (kind ∷ bytes32 r) before) → length out ≡ length before → TermTo (sort_of inside) bs at size nodes opened (read_to d.at (size + 5) (nodes + 1)) before out
  unfolding signed_number
  minus_read d kind r e k q g w l =
      record {
        kept = l;
        within = k.0.within;
        so = (
          value (sort_of inside) (minus d.value),
          λ c o _. Places.dash_there bs c at h e ∙ (Places.dash_run bs c d.value (at + 1) d.at k.1 k.0.within k.0.digits k.0.small ∙ Places.number_settles bs true d.value c d.at k.2),
          omega (arith, k.1),
          built_number inside (minus d.value) r at d.at size nodes kind before out (minus_residue d.value k.0.small ∙ sym g) q (omega (arith, k.1)) w,
        );
      }

-- ---- a register behind a `+`
register_settles : (bs : List ℕ) (v : ℕ) (c : TermIn transaction) (i j : ℕ) → i < length bs → get_or bs i 0 ≡ 114 → Later bs i c → NoDigit bs j → read_from (register v c) (drop j bs) ≡ read_from (after (grown c (Read v)) (sum_in c)) (drop j bs)
unfolding step finish behind_register grown sum_in
register_settles bs v (first c) i j h e l k = (let z : true ≡ false = sym (L.is_at_lem bs i 114 h e) ∙ l.no_letter in cc)
register_settles bs v (added a c) i j h e l k = Places.same_on bs (register v (added a c)) (after (sum transaction a (Read v)) c) j (λ m. rw (k m)) refl

module _ (bs : List ℕ) (at size nodes opened : ℕ) (before out : List ℕ) (h : at < length bs) (e : get_or bs at 0 ≡ 114) where
  letter_broken : (i : ℕ) → ScannedTo bs (at + 1) 63 (Err i) → (c : TermIn transaction) → read_from (want c) (drop at bs) ≡ fails (length bs - i)
  letter_broken i k c =
      Places.letter_there bs c at h e ∙ ⊎_elim
      (λ w. ap (λ (n : ℕ). read_from (letter_r c) (drop n bs)) (sym w.0) ∙ Places.letter_fails bs c i k.1.within w.1)
      (λ w. Places.letter_run bs c k.0 (at + 1) i (over_later bs (at + 1) 63 k.0 i k.1 (omega arith) w.1 w.2) k.1.within k.1.digits k.1.small ∙ Places.register_over bs k.0 c i w.0 w.1 w.2)
      k.2

  pub register_broken : (i : ℕ) → ScannedTo bs (at + 1) 63 (Err i) → length out ≡ length before → TermTo transaction bs at size nodes opened (Err i) before out
  register_broken i k l = record { kept = l; within = k.1.within; so = λ c q _. letter_broken i k c }

  pub register_read : (d : Scanned) → ScannedTo bs (at + 1) 63 (Ok d) → (size + 2 ≤ length before → out ≡ placed_at size (7 ∷ d.value ∷ []) before) → length out ≡ length before → TermTo transaction bs at size nodes opened (read_to d.at (size + 2) (nodes + 1)) before out
  unfolding bytes_t node_bytes nodes_t
  register_read d k w l =
      record {
        kept = l;
        within = k.0.within;
        so = (
          Read d.value,
          λ c o n. Places.letter_there bs c at h e ∙ (Places.letter_run bs c d.value (at + 1) d.at k.1 k.0.within k.0.digits k.0.small ∙ register_settles bs d.value c at d.at h e n k.2),
          omega (arith, k.1),
          record { sized = refl; counted = refl; small = omega (arith, k.1); few = omega (arith, k.1); written = w },
        );
      }

-- ---- what begins a transaction
module _ (bs : List ℕ) (from at colon opened : ℕ) (k : Skipped bs from at) (a : is_at bs at 114 ≡ true) where
  pub target_broken : (i : ℕ) → ScannedTo bs (at + 1) 63 (Err i) → OpeningTo bs from opened (Err i)
  target_broken i s = (s.1.within, λ c q. k.runs (want (first c)) (want_stays (first c)) ∙ letter_broken bs at 0 0 0 [] [] (L.there bs at 114 a).0 (L.there bs at 114 a).1 i s (first c))

  module _ (d : Scanned) (s : ScannedTo bs (at + 1) 63 (Ok d)) (w : Skipped bs d.at colon) where
    passed : (c : SumIn transaction) → Places.Passed bs d.value c d.at colon
    passed c = Places.register_blanks bs d.value c d.at colon w.ahead w.within w.blank w.runs

    start : (c : SumIn transaction) → read_from (want (first c)) (drop from bs) ≡ read_from (want (first c)) (drop at bs)
    start c = k.runs (want (first c)) (want_stays (first c))

    to_there : (c : SumIn transaction) → read_from (want (first c)) (drop at bs) ≡ read_from (passed c).state (drop colon bs)
    to_there c = let q = L.there bs at 114 a in Places.letter_there bs (first c) at q.0 q.1 ∙ (Places.letter_run bs (first c) d.value (at + 1) d.at s.1 s.0.within s.0.digits s.0.small ∙ (passed c).runs)

    pub target_plain : is_at bs colon 58 ≡ false → OpeningTo bs from opened (Ok (O.Read colon d.value))
    target_plain n =
        (omega (arith, s.1, w.ahead, k.ahead), w.within, omega (arith, s.0.small), λ c. start c ∙ (to_there c ∙ Places.no_colon bs d.value c d.at colon (passed c) s.2 w.stopped (λ l. ne_eqb _ _ (L.elsewhere bs colon 58 n l))))

    module _ (b : is_at bs colon 58 ≡ true) where
      pub target_over : 64 ≤ opened → OpeningTo bs from opened (Err colon)
      target_over o =
          let q = L.there bs at 114 a in
          let g = L.there bs colon 58 b in
          (w.within, λ c e. start c ∙ Places.target_over bs d.value c at (at + 1) d.at colon q.0 q.1 refl s.1 s.0.within s.0.digits s.0.small (passed c) g.0 g.1 (omega arith))

      pub target_half : opened < 64 → is_at bs (colon + 1) 61 ≡ false → OpeningTo bs from opened (Err (colon + 1))
      target_half o n =
          let q = L.there bs at 114 a in
          let g = L.there bs colon 58 b in
          (omega (arith, g.0), λ c e. start c ∙ Places.target_half bs d.value c at (at + 1) d.at colon q.0 q.1 refl s.1 s.0.within s.0.digits s.0.small (passed c) g.0 g.1 (omega arith) (L.elsewhere bs (colon + 1) 61 n))

      pub target_write : opened < 64 → is_at bs (colon + 1) 61 ≡ true → OpeningTo bs from opened (Ok (O.Write (colon + 2) d.value))
      target_write o n =
          let q = L.there bs at 114 a in
          let g = L.there bs colon 58 b in
          let x = L.there bs (colon + 1) 61 n in
          let z : colon + 1 + 1 ≡ colon + 2 = omega arith in (
            omega (arith, s.1, w.ahead, k.ahead),
            omega (arith, x.0),
            o,
            omega (arith, s.0.small),
            λ c e.
                start c ∙ (Places.target_read bs d.value c at (at + 1) d.at colon q.0 q.1 refl s.1 s.0.within s.0.digits s.0.small (passed c) g.0 g.1 (omega arith) x.0 x.1
                ∙ ap (λ (n : ℕ). read_from (want (first (write d.value c))) (drop n bs)) z),
          )

-- ---- the letters of a word: so many of them stand there
pub record Spelling (bs : List ℕ) (from : ℕ) (letters : List ℕ) (i : ℕ) : Type 0 where
  pub within : from + i ≤ length bs
  pub runs : (x : State) → read_from (spelling letters x) (drop from bs) ≡ read_from (spelling (drop i letters) x) (drop (from + i) bs)

module _ (bs : List ℕ) (from : ℕ) (letters : List ℕ) (i : ℕ) (k : Spelling bs from letters i) where
  module _ (l : i < length letters) where
    next : (x : State) → read_from (spelling letters x) (drop from bs) ≡ read_from (word (get_or letters i 0) (drop (suc i) letters) x) (drop (from + i) bs)
    unfolding spelling
    next x = k.runs x ∙ ap (λ (w : List ℕ). read_from (spelling w x) (drop (from + i) bs)) (drop-cons letters i 0 l)

    pub spell_more : is_at bs (from + i) (get_or letters i 0) ≡ true → Spelling bs from letters (i + 1)
    spell_more e =
        let q = L.there bs (from + i) (get_or letters i 0) e in
        let m : suc i ≡ i + 1 = omega arith in
        let n : from + i + 1 ≡ from + (i + 1) = omega arith in
        record {
          within = omega (arith, q.0);
          runs = λ x. next x ∙ (Places.one_letter bs (get_or letters i 0) (drop (suc i) letters) x (from + i) q.0 q.1 ∙ (ap (λ (m : ℕ). read_from (spelling (drop m letters) x) (drop (from + i + 1) bs)) m ∙ ap (λ (n : ℕ). read_from (spelling (drop (i + 1) letters) x) (drop n bs)) n));
        }

    pub spell_fails : is_at bs (from + i) (get_or letters i 0) ≡ false → WordTo bs from letters (Err (from + i))
    spell_fails e = (omega arith, k.within, λ x. next x ∙ Places.no_letter bs (get_or letters i 0) (drop (suc i) letters) x (from + i) k.within (L.elsewhere bs (from + i) (get_or letters i 0) e))

  pub spell_whole : i ≡ length letters → WordTo bs from letters (Ok (from + length letters))
  unfolding spelling
  spell_whole e =
      let d : drop i letters ≡ [] = ap (λ (n : ℕ). drop n letters) e ∙ drop-length letters in
      (refl, omega (arith, k.within), λ x. k.runs x ∙ (ap (λ (w : List ℕ). read_from (spelling w x) (drop (from + i) bs)) d ∙ ap (λ (n : ℕ). read_from x (drop (from + n) bs)) e))
