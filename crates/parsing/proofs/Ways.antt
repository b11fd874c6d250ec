-- What each way through `term`, `terms` and `sum` answers. Assumes nothing.
use Prim.Native.Nat.{ℕ, suc, ◌+◌, ◌*◌, ◌-◌, ◌≤◌, ◌<◌}
use mathlib.Core.Path.{◌≡◌, refl, sym, ap, ◌∙◌, subst}
use mathlib.Core.Bool.{Bool, true, false, cond}
use mathlib.Core.List.{List, [], ◌∷◌, ◌++◌, append_assoc}
use native.Mathlib.Omega.{arith}
use native.Mathlib.Decide.{dec_lt}
use lib.ListN.{length, drop, get_or, length-append, replicate, length-replicate}
use borrow.Author.Tests.{ne_eqb}
use Rattle.delivery.specs.InnerPlaces.{inserted, placed_at}
use Rattle.delivery.proofs.Places.{placed_placed, inserted_placed}
use Rattle.script.specs.Tree.{Read, Write, Atomic, Fork, Sort, process, transaction, Tree}
use Rattle.script.specs.Count.{nodes_p, nodes_t}
use Rattle.script.specs.InnerTrees.{sort_of, nodes as nodesOf, bytes, kind_in}
use Rattle.script.specs.Bytes.{bytes_p, bytes_t, node_bytes}
use Rattle.grammar.specs.Grammar.{is_blank, is_digit, sum}
use Rattle.grammar.specs.Reader.{SumIn, TermIn, bracket, atomic, write, first, added, forked, opens_s, opens_t, sum_in, grown, want, unopened, after, on, spelling, step, step_after, fails, end_after, finish, read_from}
use Rattle.grammar.proofs.Complete.{want_stays, unopened_stays, no_end}
use Rattle.grammar.proofs.Places
use Rattle.std.specs.Prelude.{Result, Ok, Err}
use Rattle.parsing.specs.InnerParsing.{Cursor, handed, is_at, Skipped, NoRegister, Later, Built, TermSo, TermTo, SumSo, SumTo, WordTo, shut_to, joined_to, Joining, TermsReady, Ready}
use Rattle.parsing.proofs.Laws as L

built_later : (s : Sort) (t : Tree s) (from from' size nodes n m size' nodes' : ℕ) (before out : List ℕ) → from' ≤ from → n ≤ m → Built s t from size nodes n size' nodes' before out → Built s t from' size nodes m size' nodes' before out
built_later s t from from' size nodes n m size' nodes' before out g h b = record { sized = b.sized; counted = b.counted; small = omega (arith, b.small); few = omega (arith, b.few); written = b.written }

later_on : {s : Sort} (bs : List ℕ) (from i : ℕ) (c : TermIn s) → Skipped bs from i → Later bs from c → Later bs i c
later_on {s = process} bs from i c k l = tt
later_on {s = transaction} bs from i (first c) k l = go (dec_lt from i)
  where
    go : Dec (from < i) → NoRegister bs i
    go (yes h) = (let z : true ≡ false = sym (k.blank h) ∙ l.no_blank (omega (arith, k.within)) in cc)
    go (no h) = let e : from ≡ i = omega (arith, k.ahead) in subst (NoRegister bs) e l
later_on {s = transaction} bs from i (added a c) k l = tt

later_added : (s : Sort) (bs : List ℕ) (i : ℕ) (t : Tree s) (c : SumIn s) → Later bs i (added t c)
later_added process bs i t c = tt
later_added transaction bs i t c = tt

-- ---- with blanks before it
pub term_skip : (s : Sort) (bs : List ℕ) (from i size nodes opened : ℕ) (r : Result Cursor ℕ) (before out : List ℕ) → Skipped bs from i → TermTo s bs i size nodes opened r before out → TermTo s bs from size nodes opened r before out
term_skip s bs from i size nodes opened r before out k h = record { kept = h.kept; within = h.within; so = go r h.so }
  where
    go : (r : Result Cursor ℕ) → TermSo s bs i size nodes opened r before out → TermSo s bs from size nodes opened r before out
    go (Ok r) w = (w.0, λ c e l. k.runs (want c) (want_stays c) ∙ w.1 c e (later_on bs from i c k l), omega (arith, k.ahead, w.2), built_later s w.0 i from size nodes r.at r.at r.size r.nodes before out k.ahead (omega arith) w.3)
    go (Err at) w = λ c e l. k.runs (want c) (want_stays c) ∙ w c e (later_on bs from i c k l)

-- ---- a failure there
pub term_broken : (s : Sort) (bs : List ℕ) (i size nodes opened at : ℕ) (before : List ℕ) → at ≤ length bs → ((c : TermIn s) → opens_t c ≡ opened → Later bs i c → read_from (want c) (drop i bs) ≡ fails (length bs - at)) → (out : List ℕ) → length out ≡ length before → TermTo s bs i size nodes opened (Err at) before out
term_broken s bs i size nodes opened at before h k out l = record { kept = l; within = h; so = k }

-- a node of some bytes, and behind it its part
built_on : (s r : Sort) (t : Tree s) (u : Tree r) (hs : List ℕ) (from from' size nodes next size' nodes' : ℕ) (before mid out : List ℕ) → bytes r u ≡ hs ++ bytes s t → nodesOf r u ≡ suc (nodesOf s t) → length mid ≡ length before → (size + length hs ≤ length before → mid ≡ placed_at size hs before) → from + length hs ≤ from' → 1 ≤ length hs → Built s t from' (size + length hs) (nodes + 1) next size' nodes' mid out → Built r u from size nodes next size' nodes' before out
built_on s r t u hs from from' size nodes next size' nodes' before mid out e f l k g g' b =
    record {
      sized = omega (arith, b.sized, ap length e, length-append hs (bytes s t));
      counted = omega (arith, b.counted, f);
      small = omega (arith, b.small);
      few = omega (arith, b.few);
      written = λ h.
          let w = b.written (omega (arith, l)) in
          let a : mid ≡ placed_at size hs before = k (omega (arith, b.sized)) in
          w ∙ (ap (λ (m : List ℕ). placed_at (size + length hs) (bytes s t) m) a ∙ (placed_placed size (size + length hs) hs (bytes s t) before refl (omega (arith, b.sized)) ∙ ap (λ (x : List ℕ). placed_at size x before) (sym e)));
    }

-- ---- a bracket
module _ (s : Sort) (bs : List ℕ) (i size nodes opened : ℕ) (before out : List ℕ) (l : i < length bs) (e : get_or bs i 0 ≡ 40) (o : opened < 64) where
  pub bracket_broken : (at : ℕ) → SumTo s bs (i + 1) size nodes (opened + 1) (Err at) before out → TermTo s bs i size nodes opened (Err at) before out
  unfolding opens_s
  bracket_broken at h = record { kept = h.kept; within = h.within; so = λ c k _. Places.bracket_there bs c i l e (omega arith) ∙ h.so (bracket c) (ap (λ n. n + 1) k) }

  pub term_bracket : (r' : Cursor) (r : Result ℕ ℕ) → SumTo s bs (i + 1) size nodes (opened + 1) (Ok r') before out → r ≡ shut_to bs r'.at → TermTo s bs i size nodes opened (handed r r'.size r'.nodes) before out
  unfolding shut_to opens_s end_after
  term_bracket r' r h z = subst (λ (r : Result ℕ ℕ). TermTo s bs i size nodes opened (handed r r'.size r'.nodes) before out) (sym z) (go (is_at bs r'.at 41) refl)
    where
      w : SumSo s bs (i + 1) size nodes (opened + 1) (Ok r') before out
      w = h.so

      go : (a : Bool) → is_at bs r'.at 41 ≡ a → TermTo s bs i size nodes opened (handed (cond a (Ok (r'.at + 1)) (Err r'.at)) r'.size r'.nodes) before out
      go true y =
          let q = L.there bs r'.at 41 y in
          record { kept = h.kept; within = omega (arith, q.0); so = (w.0, λ c k _. Places.bracket_there bs c i l e (omega arith) ∙ (w.1 (bracket c) (ap (λ n. n + 1) k) ∙ Places.close_there bs w.0 c r'.at q.0 q.1), omega (arith, w.3), built_later s w.0 (i + 1) i size nodes r'.at (r'.at + 1) r'.size r'.nodes before out (omega arith) (omega arith) w.4) }
      go false y =
          record { kept = h.kept; within = h.within; so = λ c k _. Places.bracket_there bs c i l e (omega arith) ∙ (w.1 (bracket c) (ap (λ n. n + 1) k) ∙ Places.no_close bs w.0 (bracket c) r'.at h.within w.2.no_blank w.2.no_plus (λ m. ne_eqb _ _ (L.elsewhere bs r'.at 41 y m)) refl) }

-- ---- `fork` and a term
module _ (bs : List ℕ) (i next size nodes opened : ℕ) (before mid out : List ℕ) where
  pub term_fork : (r : Result Cursor ℕ) → i < length bs → get_or bs i 0 ≡ 102 → opened < 64 → WordTo bs (i + 1) (111 ∷ 114 ∷ 107 ∷ []) (Ok next) → length mid ≡ length before → (size + 1 ≤ length before → mid ≡ placed_at size (4 ∷ []) before) → TermTo process bs next (size + 1) (nodes + 1) (opened + 1) r mid out → TermTo process bs i size nodes opened r before out
  unfolding opens_s grown sum_in spelling bytes_p node_bytes nodes_p
  term_fork r l e o w m k h = record { kept = h.kept ∙ m; within = h.within; so = go r h.so }
    where
      run : (c : TermIn process) → opens_t c ≡ opened → read_from (want c) (drop i bs) ≡ read_from (want (forked c)) (drop next bs)
      run c q = Places.fork_there bs c i l e (omega arith) ∙ w.2 (want (forked c))

      go : (r : Result Cursor ℕ) → TermSo process bs next (size + 1) (nodes + 1) (opened + 1) r mid out → TermSo process bs i size nodes opened r before out
      go (Ok r) b = (
        Fork b.0,
        λ c q _. run c q ∙ b.1 (forked c) (ap (λ n. n + 1) q) tt,
        omega (arith, b.2, w.0),
        built_on process process b.0 (Fork b.0) (4 ∷ []) i next size nodes r.at r.size r.nodes before mid out refl refl m k (omega (arith, w.0)) (omega arith) b.3,
      )
      go (Err at) b = λ c q _. run c q ∙ b (forked c) (ap (λ n. n + 1) q) tt

-- ---- `atomic` and a transaction in brackets
module _ (bs : List ℕ) (i next j size nodes opened : ℕ) (before mid out : List ℕ) (l : i < length bs) (e : get_or bs i 0 ≡ 97) (o : opened + 1 < 64) (w : WordTo bs (i + 1) (116 ∷ 111 ∷ 109 ∷ 105 ∷ 99 ∷ []) (Ok next)) (k : Skipped bs next j) where
  pub atomic_run : (c : TermIn process) → opens_t c ≡ opened → read_from (want c) (drop i bs) ≡ read_from (unopened c) (drop j bs)
  unfolding spelling
  atomic_run c q = Places.begun_there bs c i l e (omega arith) ∙ (w.2 (unopened c) ∙ k.runs (unopened c) (unopened_stays c))

  module _ (a : is_at bs j 40 ≡ true) (m : length mid ≡ length before) where
    opened_run : (c : TermIn process) → opens_t c ≡ opened → read_from (want c) (drop i bs) ≡ read_from (want (first (atomic c))) (drop (j + 1) bs)
    opened_run c q = let b = L.there bs j 40 a in atomic_run c q ∙ Places.opened_there bs c j b.0 b.1

    pub atomic_broken : (at : ℕ) → SumTo transaction bs (j + 1) (size + 1) (nodes + 1) (opened + 2) (Err at) mid out → TermTo process bs i size nodes opened (Err at) before out
    unfolding opens_s
    atomic_broken at h = record { kept = h.kept ∙ m; within = h.within; so = λ c q _. opened_run c q ∙ h.so (atomic c) (ap (λ n. n + 2) q) }

    pub term_atomic : (r' : Cursor) (r : Result ℕ ℕ) → (size + 1 ≤ length before → mid ≡ placed_at size (3 ∷ []) before) → SumTo transaction bs (j + 1) (size + 1) (nodes + 1) (opened + 2) (Ok r') mid out → r ≡ shut_to bs r'.at → TermTo process bs i size nodes opened (handed r r'.size r'.nodes) before out
    unfolding shut_to opens_s bytes_p node_bytes nodes_p
    term_atomic r' r p h z = subst (λ (r : Result ℕ ℕ). TermTo process bs i size nodes opened (handed r r'.size r'.nodes) before out) (sym z) (go (is_at bs r'.at 41) refl)
      where
        b : SumSo transaction bs (j + 1) (size + 1) (nodes + 1) (opened + 2) (Ok r') mid out
        b = h.so

        go : (a : Bool) → is_at bs r'.at 41 ≡ a → TermTo process bs i size nodes opened (handed (cond a (Ok (r'.at + 1)) (Err r'.at)) r'.size r'.nodes) before out
        go true y =
            let d = L.there bs r'.at 41 y in
            record {
              kept = h.kept ∙ m;
              within = omega (arith, d.0);
              so = (
                Atomic b.0,
                λ c q _. opened_run c q ∙ (b.1 (atomic c) (ap (λ n. n + 2) q) ∙ Places.atomic_there bs b.0 c r'.at d.0 d.1),
                omega (arith, b.3, w.0, k.ahead),
                built_on transaction process b.0 (Atomic b.0) (3 ∷ []) i (j + 1) size nodes (r'.at + 1) r'.size r'.nodes before mid out refl refl m p (omega (arith, w.0, k.ahead)) (omega arith) (built_later transaction b.0 (j + 1) (j + 1) (size + 1) (nodes + 1) r'.at (r'.at + 1) r'.size r'.nodes mid out (omega arith) (omega arith) b.4),
              );
            }
        go false y =
            record { kept = h.kept ∙ m; within = h.within; so = λ c q _. opened_run c q ∙ (b.1 (atomic c) (ap (λ n. n + 2) q) ∙ Places.no_close bs b.0 (atomic c) r'.at h.within b.2.no_blank b.2.no_plus (λ d. ne_eqb _ _ (L.elsewhere bs r'.at 41 y d)) (no_end b.0 (atomic c))) }

-- ---- terms joined by `+`
sum_bytes : (inside : Bool) (a b : Tree (sort_of inside)) → bytes (sort_of inside) (sum (sort_of inside) a b) ≡ kind_in inside 2 ∷ (bytes (sort_of inside) a ++ bytes (sort_of inside) b)
unfolding sum bytes_p bytes_t node_bytes
sum_bytes false a b = refl
sum_bytes true a b = refl

sum_nodes : (inside : Bool) (a b : Tree (sort_of inside)) → nodesOf (sort_of inside) (sum (sort_of inside) a b) ≡ suc (nodesOf (sort_of inside) a + nodesOf (sort_of inside) b)
unfolding sum nodes_p nodes_t
sum_nodes false a b = refl
sum_nodes true a b = refl

pub joining_start : (inside : Bool) (bs : List ℕ) (from start nodes opened : ℕ) (last : Cursor) (before out : List ℕ) → ((c : SumIn (sort_of inside)) → Later bs from (first c)) → TermTo (sort_of inside) bs from start nodes opened (Ok last) before out → Joining inside bs from start nodes opened last 0 before out
unfolding opens_s grown sum_in
joining_start inside bs from start nodes opened last before out y h =
    let w : TermSo (sort_of inside) bs from start nodes opened (Ok last) before out = h.so in
    record {
      kept = h.kept;
      within = h.within;
      t = w.0;
      body = bytes (sort_of inside) w.0;
      runs = λ c q. w.1 (first c) q (y c);
      ahead = w.2;
      adding = refl;
      sized = w.3.sized;
      counted = omega (arith, w.3.counted);
      small = omega (arith, w.3.small);
      few = omega (arith, w.3.few);
      written = w.3.written;
    }

module _ (inside : Bool) (bs : List ℕ) (from start nodes opened : ℕ) (last : Cursor) (adds : ℕ) (before out : List ℕ) (h : Joining inside bs from start nodes opened last adds before out) where
  after_stays : {s : Sort} (t : Tree s) (c : SumIn s) (b : ℕ) → is_blank b ≡ true → step (after t c) b ≡ on (after t c)
  unfolding step step_after
  after_stays t c b e = rw (e)

  module _ (i : ℕ) (k : Skipped bs last.at i) where
    module _ (a : is_at bs i 43 ≡ true) (out' : List ℕ) where
      run : (c : SumIn (sort_of inside)) → opens_s c ≡ opened → read_from (want (first c)) (drop from bs) ≡ read_from (want (added h.t c)) (drop (i + 1) bs)
      run c e = let q = L.there bs i 43 a in h.runs c e ∙ (k.runs (after h.t c) (after_stays h.t c) ∙ Places.plus_there bs h.t c i q.0 q.1)

      pub joining_broken : (at : ℕ) → TermTo (sort_of inside) bs (i + 1) last.size last.nodes opened (Err at) out out' → SumTo (sort_of inside) bs from start nodes opened (Err at) before out'
      unfolding opens_s grown sum_in
      joining_broken at m = record { kept = m.kept ∙ h.kept; within = m.within; so = λ c e. run c e ∙ m.so (added h.t c) e (later_added (sort_of inside) bs (i + 1) h.t c) }

      pub joining_more : (r : Cursor) → TermTo (sort_of inside) bs (i + 1) last.size last.nodes opened (Ok r) out out' → Joining inside bs from start nodes opened r (adds + 1) before out'
      unfolding opens_s grown sum_in
      joining_more r m =
          let g : TermSo (sort_of inside) bs (i + 1) last.size last.nodes opened (Ok r) out out' = m.so in
          record {
            kept = m.kept ∙ h.kept;
            within = m.within;
            t = sum (sort_of inside) h.t g.0;
            body = h.body ++ bytes (sort_of inside) g.0;
            runs = λ c e. run c e ∙ g.1 (added h.t c) e (later_added (sort_of inside) bs (i + 1) h.t c);
            ahead = omega (arith, h.ahead, g.2, k.ahead);
            adding = (let n : adds + 1 ≡ suc adds = omega arith in
                sum_bytes inside h.t g.0 ∙ rw (h.adding, n) (ap (λ (l : List ℕ). kind_in inside 2 ∷ l) (append_assoc (replicate adds (kind_in inside 2)) h.body (bytes (sort_of inside) g.0))));
            sized = omega (arith, h.sized, g.3.sized, length-append h.body (bytes (sort_of inside) g.0));
            counted = omega (arith, h.counted, g.3.counted, sum_nodes inside h.t g.0);
            small = omega (arith, h.small, g.3.small, k.ahead);
            few = omega (arith, h.few, g.3.few, k.ahead);
            written = λ l.
                let o : out ≡ placed_at start h.body before = h.written (omega (arith, g.3.sized)) in
                g.3.written (omega (arith, h.kept)) ∙ (ap (λ (x : List ℕ). placed_at last.size (bytes (sort_of inside) g.0) x) o ∙ placed_placed start last.size h.body (bytes (sort_of inside) g.0) before h.sized (omega (arith, g.3.sized)));
          }

    pub joining_end : (out' : List ℕ) → is_at bs i 43 ≡ false → length out' ≡ length out → (last.size + adds ≤ length out → out' ≡ inserted start last.size (replicate adds (kind_in inside 2)) out) → SumTo (sort_of inside) bs from start nodes opened (Ok (joined_to last i adds)) before out'
    joining_end out' a m p =
        let reps : List ℕ = replicate adds (kind_in inside 2) in
        let n : length (replicate adds (kind_in inside 2)) ≡ adds = length-replicate adds (kind_in inside 2) in
        record {
          kept = m ∙ h.kept;
          within = k.within;
          so = (
            h.t,
            λ c e. h.runs c e ∙ k.runs (after h.t c) (after_stays h.t c),
            record { no_blank = k.stopped; no_plus = λ l. ne_eqb _ _ (L.elsewhere bs i 43 a l) },
            omega (arith, h.ahead, k.ahead),
            record {
              sized = omega (arith, h.sized, ap length h.adding, length-append (replicate adds (kind_in inside 2)) h.body, n);
              counted = h.counted;
              small = omega (arith, h.small, k.ahead);
              few = omega (arith, h.few, k.ahead);
              written = λ l.
                  let o : out ≡ placed_at start h.body before = h.written (omega arith) in
                  p (omega (arith, h.kept)) ∙ (ap (λ (x : List ℕ). inserted start last.size (replicate adds (kind_in inside 2)) x) o ∙ (inserted_placed start last.size (replicate adds (kind_in inside 2)) h.body before h.sized (omega (arith, n)) ∙ ap (λ (x : List ℕ). placed_at start x before) (sym h.adding)));
            },
          );
        }

-- ---- a write
module _ (bs : List ℕ) (from next v size nodes opened : ℕ) (before mid out : List ℕ) where
  pub sum_write : (r : Result Cursor ℕ) → from + 3 < next → ((c : SumIn transaction) → opens_s c ≡ opened → read_from (want (first c)) (drop from bs) ≡ read_from (want (first (write v c))) (drop next bs)) → length mid ≡ length before → (size + 2 ≤ length before → mid ≡ placed_at size (8 ∷ v ∷ []) before) → SumTo transaction bs next (size + 2) (nodes + 1) (opened + 1) r mid out → SumTo transaction bs from size nodes opened r before out
  unfolding opens_s bytes_t node_bytes nodes_t
  sum_write r n run m k h = record { kept = h.kept ∙ m; within = h.within; so = go r h.so }
    where
      go : (r : Result Cursor ℕ) → SumSo transaction bs next (size + 2) (nodes + 1) (opened + 1) r mid out → SumSo transaction bs from size nodes opened r before out
      go (Ok r) w = (
        Write v w.0,
        λ c q. run c q ∙ (w.1 (write v c) (ap (λ n. n + 1) q) ∙ Places.write_whole bs v w.0 c r.at w.2.no_blank w.2.no_plus),
        w.2,
        omega (arith, w.3),
        built_on transaction transaction w.0 (Write v w.0) (8 ∷ v ∷ []) from next size nodes r.at r.size r.nodes before mid out refl refl m k (omega arith) (omega arith) w.4,
      )
      go (Err at) w = λ c q. run c q ∙ w (write v c) (ap (λ n. n + 1) q)

pub sum_broken : (bs : List ℕ) (s : Sort) (from size nodes opened at : ℕ) (before out : List ℕ) → at ≤ length bs → ((c : SumIn s) → opens_s c ≡ opened → read_from (want (first c)) (drop from bs) ≡ fails (length bs - at)) → length out ≡ length before → SumTo s bs from size nodes opened (Err at) before out
sum_broken bs s from size nodes opened at before out h k l = record { kept = l; within = h; so = k }

-- a transaction that begins with a register
joining_register : (bs : List ℕ) (from next v start nodes opened : ℕ) (before out : List ℕ) → from + 1 < next → next ≤ length bs → ((c : SumIn transaction) → read_from (want (first c)) (drop from bs) ≡ read_from (after (Read v) c) (drop next bs)) → (start + 2 ≤ length before → out ≡ placed_at start (7 ∷ v ∷ []) before) → length out ≡ length before → Joining true bs from start nodes opened (record { at = next; size = start + 2; nodes = nodes + 1 }) 0 before out
unfolding bytes_t node_bytes nodes_t
joining_register bs from next v start nodes opened before out h w run k l =
    record { kept = l; within = w; t = Read v; body = 7 ∷ v ∷ []; runs = λ c _. run c; ahead = omega arith; adding = refl; sized = refl; counted = omega arith; small = omega arith; few = omega arith; written = k }

-- blanks before the first term
joining_skip : (inside : Bool) (bs : List ℕ) (from i start nodes opened : ℕ) (last : Cursor) (adds : ℕ) (before out : List ℕ) → Skipped bs from i → Joining inside bs i start nodes opened last adds before out → Joining inside bs from start nodes opened last adds before out
joining_skip inside bs from i start nodes opened last adds before out k h =
    record {
      kept = h.kept;
      within = h.within;
      t = h.t;
      body = h.body;
      runs = λ c q. k.runs (want (first c)) (want_stays (first c)) ∙ h.runs c q;
      ahead = omega (arith, k.ahead, h.ahead);
      adding = h.adding;
      sized = h.sized;
      counted = h.counted;
      small = omega (arith, k.ahead, h.small);
      few = omega (arith, k.ahead, h.few);
      written = h.written;
    }

-- ---- the loop of `terms`
pub record Going (inside : Bool) (bs : List ℕ) (start opened : ℕ) (head last : Cursor) (adds : ℕ) (out₀ out : List ℕ) : Type 0 where
  pub within : last.at ≤ length bs
  pub ahead : head.at ≤ last.at
  pub behind : start ≤ last.size
  pub small : last.size + adds ≤ 7 + 6 * last.at
  pub few : last.nodes + adds ≤ last.at
  pub kept : length out ≡ length out₀
  pub so : (from nodes : ℕ) (before : List ℕ) → Joining inside bs from start nodes opened head 0 before out₀ → Joining inside bs from start nodes opened last adds before out

pub going_more : (inside : Bool) (bs : List ℕ) (start opened : ℕ) (head last r : Cursor) (adds i : ℕ) (out₀ out out' : List ℕ) → Going inside bs start opened head last adds out₀ out → Skipped bs last.at i → is_at bs i 43 ≡ true → TermTo (sort_of inside) bs (i + 1) last.size last.nodes opened (Ok r) out out' → Going inside bs start opened head r (adds + 1) out₀ out'
going_more inside bs start opened head last r adds i out₀ out out' g k a m =
    let w : TermSo (sort_of inside) bs (i + 1) last.size last.nodes opened (Ok r) out out' = m.so in
    record {
      within = m.within;
      ahead = omega (arith, g.ahead, k.ahead, w.2);
      behind = omega (arith, g.behind, w.3.sized);
      small = omega (arith, g.small, w.3.small, k.ahead);
      few = omega (arith, g.few, w.3.few, k.ahead);
      kept = m.kept ∙ g.kept;
      so = λ from nodes before j. joining_more inside bs from start nodes opened last adds before out (g.so from nodes before j) i k a out' r m;
    }

-- where a term ends
pub term_ahead : (s : Sort) (bs : List ℕ) (from start nodes opened : ℕ) (r : Cursor) (before out : List ℕ) → TermTo s bs from start nodes opened (Ok r) before out → from < r.at
term_ahead s bs from start nodes opened r before out h = let w : TermSo s bs from start nodes opened (Ok r) before out = h.so in w.2

-- ---- a bracket behind a sum
pub shut_there : (bs : List ℕ) (i : ℕ) → is_at bs i 41 ≡ true → Ok (i + 1) ≡ shut_to bs i
unfolding shut_to
shut_there bs i a = rw (a)

pub shut_not : (bs : List ℕ) (i : ℕ) → is_at bs i 41 ≡ false → Err i ≡ shut_to bs i
unfolding shut_to
shut_not bs i a = rw (a)

-- ---- of which sort
pub sum_as : (inside b : Bool) (bs : List ℕ) (from start nodes opened : ℕ) (r : Result Cursor ℕ) (before out : List ℕ) → inside ≡ b → SumTo (sort_of b) bs from start nodes opened r before out → SumTo (sort_of inside) bs from start nodes opened r before out
sum_as inside b bs from start nodes opened r before out e h = subst (λ (b : Bool). SumTo (sort_of b) bs from start nodes opened r before out) (sym e) h

pub term_as : (inside b : Bool) (bs : List ℕ) (from start nodes opened : ℕ) (r : Result Cursor ℕ) (before out : List ℕ) → inside ≡ b → TermTo (sort_of b) bs from start nodes opened r before out → TermTo (sort_of inside) bs from start nodes opened r before out
term_as inside b bs from start nodes opened r before out e h = subst (λ (b : Bool). TermTo (sort_of b) bs from start nodes opened r before out) (sym e) h

-- ---- a sum's first term
pub record Headed (inside : Bool) (bs : List ℕ) (from start nodes opened : ℕ) (head : Cursor) (before out : List ℕ) : Type 0 where
  pub ready : TermsReady bs start opened head
  pub ahead : from < head.at
  pub joining : Joining inside bs from start nodes opened head 0 before out

pub headed_register : (bs : List ℕ) (from next v start nodes opened : ℕ) (before out : List ℕ) → Ready bs from start nodes opened → from + 1 < next → next ≤ length bs → ((c : SumIn transaction) → read_from (want (first c)) (drop from bs) ≡ read_from (after (Read v) c) (drop next bs)) → (start + 2 ≤ length before → out ≡ placed_at start (7 ∷ v ∷ []) before) → length out ≡ length before → Headed true bs from start nodes opened (record { at = next; size = start + 2; nodes = nodes + 1 }) before out
headed_register bs from next v start nodes opened before out y h w run k l =
    record {
      ready = record { short = y.short; flat = y.flat; within = w; behind = omega arith; small = omega (arith, y.small); few = omega (arith, y.few) };
      ahead = omega arith;
      joining = joining_register bs from next v start nodes opened before out h w run k l;
    }

-- a term begins a sum where no register begins
abbrev pub Begins : (inside : Bool) (bs : List ℕ) (i : ℕ) → Type 0
Begins inside bs i = (c : SumIn (sort_of inside)) → Later bs i (first c)

pub begins_process : (bs : List ℕ) (i : ℕ) → Begins false bs i
begins_process bs i c = tt

pub begins_other : (bs : List ℕ) (i : ℕ) → NoRegister bs i → Begins true bs i
begins_other bs i n c = n

pub begins_first : (inside : Bool) (bs : List ℕ) (from i : ℕ) → Skipped bs from i → i < length bs → (get_or bs i 0 ≡ 114 → ⊥) → Begins inside bs i
begins_first false bs from i k l n c = tt
begins_first true bs from i k l n c = record { no_blank = k.stopped; no_letter = L.not_at bs i 114 l n }

pub begins_number : (inside : Bool) (bs : List ℕ) (from i : ℕ) → Skipped bs from i → i < length bs → is_digit (get_or bs i 0) ≡ true → Begins inside bs i
begins_number inside bs from i k l d = begins_first inside bs from i k l (λ g. omega (arith, g, L.digit_low (get_or bs i 0) d))

pub begins_bracket : (inside : Bool) (bs : List ℕ) (from i : ℕ) → Skipped bs from i → is_at bs i 40 ≡ true → Begins inside bs i
begins_bracket inside bs from i k a = let q = L.there bs i 40 a in begins_first inside bs from i k q.0 (λ g. omega (arith, g, q.1))

-- it is the head of its sum, or fails as the sum does
module _ (inside : Bool) (bs : List ℕ) (from i start nodes opened : ℕ) (before out : List ℕ) (k : Skipped bs from i) (b : Begins inside bs i) where
  pub headed_term : (r : Cursor) → Ready bs from start nodes opened → TermTo (sort_of inside) bs i start nodes opened (Ok r) before out → Headed inside bs from start nodes opened r before out
  headed_term r y h =
      let w : TermSo (sort_of inside) bs i start nodes opened (Ok r) before out = h.so in
      record {
        ready = record { short = y.short; flat = y.flat; within = h.within; behind = omega (arith, w.3.sized); small = omega (arith, w.3.small, y.small, k.ahead); few = omega (arith, w.3.few, y.few, k.ahead) };
        ahead = omega (arith, k.ahead, w.2);
        joining = joining_skip inside bs from i start nodes opened r 0 before out k (joining_start inside bs i start nodes opened r before out b h);
      }

  pub headed_broken : (at : ℕ) → TermTo (sort_of inside) bs i start nodes opened (Err at) before out → SumTo (sort_of inside) bs from start nodes opened (Err at) before out
  unfolding opens_s grown sum_in
  headed_broken at h = record { kept = h.kept; within = h.within; so = λ c q. k.runs (want (first c)) (want_stays (first c)) ∙ h.so (first c) q (b c) }

pub headed_as : (inside b : Bool) (bs : List ℕ) (from start nodes opened : ℕ) (head r : Cursor) (before out out' : List ℕ) → inside ≡ b → head ≡ r → out ≡ out' → Headed b bs from start nodes opened r before out' → Headed inside bs from start nodes opened head before out
headed_as inside b bs from start nodes opened head r before out out' e z o h =
    subst (λ (b : Bool). Headed b bs from start nodes opened head before out) (sym e)
    (subst (λ (n : Cursor). Headed b bs from start nodes opened n before out) (sym z) (subst (λ (l : List ℕ). Headed b bs from start nodes opened r before l) (sym o) h))

-- ---- the ways in which `term` fails
module _ (bs : List ℕ) (from i size nodes opened : ℕ) (before out : List ℕ) (k : Skipped bs from i) (m : length out ≡ length before) where
  pub broken_end : (s : Sort) → length bs ≤ i → TermTo s bs from size nodes opened (Err i) before out
  unfolding finish
  broken_end s h = term_skip s bs from i size nodes opened (Err i) before out k (term_broken s bs i size nodes opened i before k.within (λ c _ _. Places.early bs (want c) i (omega (arith, k.within)) refl) out m)

  module _ (l : i < length bs) where
    pub broken_bracket : (s : Sort) → get_or bs i 0 ≡ 40 → 64 ≤ opened → TermTo s bs from size nodes opened (Err i) before out
    broken_bracket s e o = term_skip s bs from i size nodes opened (Err i) before out k (term_broken s bs i size nodes opened i before k.within (λ c q _. Places.bracket_over bs c i l e (omega arith)) out m)

    module _ (d : is_digit (get_or bs i 0) ≡ false) (n : get_or bs i 0 ≡ 45 → ⊥) (p : get_or bs i 0 ≡ 40 → ⊥) where
      pub broken_transaction : (get_or bs i 0 ≡ 114 → ⊥) → TermTo transaction bs from size nodes opened (Err i) before out
      broken_transaction a = term_skip transaction bs from i size nodes opened (Err i) before out k (term_broken transaction bs i size nodes opened i before k.within (λ c q _. Places.no_transaction bs c i l (k.stopped l) d (ne_eqb _ _ n) (ne_eqb _ _ p) (ne_eqb _ _ a)) out m)

      pub broken_process : (get_or bs i 0 ≡ 102 → ⊥) → (get_or bs i 0 ≡ 97 → ⊥) → TermTo process bs from size nodes opened (Err i) before out
      broken_process a b = term_skip process bs from i size nodes opened (Err i) before out k (term_broken process bs i size nodes opened i before k.within (λ c q _. Places.no_process bs c i l (k.stopped l) d (ne_eqb _ _ n) (ne_eqb _ _ p) (ne_eqb _ _ a) (ne_eqb _ _ b)) out m)

    pub broken_fork : get_or bs i 0 ≡ 102 → 64 ≤ opened → TermTo process bs from size nodes opened (Err i) before out
    broken_fork e o = term_skip process bs from i size nodes opened (Err i) before out k (term_broken process bs i size nodes opened i before k.within (λ c q _. Places.fork_over bs c i l e (omega arith)) out m)

    pub broken_fork_word : (at : ℕ) → get_or bs i 0 ≡ 102 → opened < 64 → WordTo bs (i + 1) (111 ∷ 114 ∷ 107 ∷ []) (Err at) → TermTo process bs from size nodes opened (Err at) before out
    unfolding spelling
    broken_fork_word at e o w = term_skip process bs from i size nodes opened (Err at) before out k (term_broken process bs i size nodes opened at before w.1 (λ c q _. Places.fork_there bs c i l e (omega arith) ∙ w.2 (want (forked c))) out m)

    pub broken_atomic : get_or bs i 0 ≡ 97 → 63 ≤ opened → TermTo process bs from size nodes opened (Err i) before out
    broken_atomic e o = term_skip process bs from i size nodes opened (Err i) before out k (term_broken process bs i size nodes opened i before k.within (λ c q _. Places.begun_over bs c i l e (omega arith)) out m)

    pub broken_atomic_word : (at : ℕ) → get_or bs i 0 ≡ 97 → opened + 1 < 64 → WordTo bs (i + 1) (116 ∷ 111 ∷ 109 ∷ 105 ∷ 99 ∷ []) (Err at) → TermTo process bs from size nodes opened (Err at) before out
    unfolding spelling
    broken_atomic_word at e o w = term_skip process bs from i size nodes opened (Err at) before out k (term_broken process bs i size nodes opened at before w.1 (λ c q _. Places.begun_there bs c i l e (omega arith) ∙ w.2 (unopened c)) out m)

    pub broken_opening : (next j : ℕ) → get_or bs i 0 ≡ 97 → opened + 1 < 64 → WordTo bs (i + 1) (116 ∷ 111 ∷ 109 ∷ 105 ∷ 99 ∷ []) (Ok next) → Skipped bs next j → is_at bs j 40 ≡ false → TermTo process bs from size nodes opened (Err j) before out
    broken_opening next j e o w y a = term_skip process bs from i size nodes opened (Err j) before out k (term_broken process bs i size nodes opened j before y.within (λ c q _. atomic_run bs i next j size nodes opened before before out l e o w y c q ∙ Places.unopened_fails bs c j y.within y.stopped (λ n. ne_eqb _ _ (L.elsewhere bs j 40 a n))) out m)

-- ---- a call's numbers
pub ready_at : (bs : List ℕ) (from i size nodes opened more parts deeper : ℕ) → Ready bs from size nodes opened → from + more ≤ i → from + parts ≤ i → i ≤ length bs → opened + deeper ≤ 64 → Ready bs i (size + more) (nodes + parts) (opened + deeper)
ready_at bs from i size nodes opened more parts deeper h a b c d = record { short = h.short; within = c; small = omega (arith, h.small); few = omega (arith, h.few); flat = d }

pub ready_same : (bs : List ℕ) (from i size nodes opened deeper : ℕ) → Ready bs from size nodes opened → from ≤ i → i ≤ length bs → deeper ≤ 64 → Ready bs i size nodes deeper
ready_same bs from i size nodes opened deeper h a c d = record { short = h.short; within = c; small = omega (arith, h.small); few = omega (arith, h.few); flat = d }
