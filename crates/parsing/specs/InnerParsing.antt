-- For the proofs of the functions that read formulas only: what each of them reads, by the reader that goes byte by byte, and what it writes.
use Rattle.std.specs.Prelude.{ℕ, ◌+◌, ◌*◌, ◌-◌, ◌≤◌, ◌<◌, ◌≡◌, Bool, true, false, cond, ◌&&◌, List, ◌++◌, ◌⊎◌, eqb, ltb, length, drop, get_or, replicate, Result, Ok, Err}
use Rattle.delivery.specs.InnerPlaces.{placed_at}
use Rattle.script.specs.Tree.{Sort, process, transaction, Tree}
use Rattle.script.specs.Tree as T
use Rattle.script.specs.InnerTrees.{sort_of, nodes as nodesOf, bytes, kind_in}
use Rattle.grammar.specs.Grammar.{is_blank, is_digit, Digits}
use Rattle.grammar.specs.Reader.{SumIn, TermIn, first, added, write, opens_s, opens_t, sum_in, grown}
use Rattle.grammar.specs.Reader.{State, want, spelling, after, on, step, fails, read_from}
use Rattle.parsing.specs.declared.Scanned.{Scanned}
use Rattle.parsing.specs.declared.Opening.{Opening}
use Rattle.parsing.specs.declared.Opening.TheVariants.{Write, Read, Other}

-- how far reading has come: the next byte of the text, the bytes of the job so far and its nodes
pub record Cursor : Type 0 where
  pub at : ℕ
  pub size : ℕ
  pub nodes : ℕ

-- where reading stopped: behind what was read, or where that is no script
abbrev pub place : Result Cursor ℕ → ℕ
place (Ok r) = r.at
place (Err at) = at

-- the same from what a function answers, and the job that it leaves
abbrev pub handed : Result ℕ ℕ → (size nodes : ℕ) → Result Cursor ℕ
handed (Ok at) size nodes = Ok (record { at = at; size = size; nodes = nodes })
handed (Err at) size nodes = Err at

-- this byte stands there
unfoldable pub is_at : List ℕ → ℕ → ℕ → Bool
is_at bs i b = ltb i (length bs) && eqb (get_or bs i 0) b

-- a state that blanks do not change
abbrev pub Stays : State → Type 0
Stays x = (b : ℕ) → is_blank b ≡ true → step x b ≡ on x

-- blanks were passed
pub record Skipped (bs : List ℕ) (from next : ℕ) : Type 0 where
  pub ahead : from ≤ next
  pub within : next ≤ length bs
  pub runs : (x : State) → Stays x → read_from x (drop from bs) ≡ read_from x (drop next bs)
  pub blank : from < next → is_blank (get_or bs from 0) ≡ true
  pub stopped : next < length bs → is_blank (get_or bs next 0) ≡ false

-- digits were read up to there, and make that number
pub record Scanning (bs : List ℕ) (from most next value : ℕ) : Type 0 where
  pub ahead : from ≤ next
  pub within : next ≤ length bs
  pub digits : Digits 0 value (drop from bs) (drop next bs)
  pub small : value ≤ most

-- no digit stands there
abbrev pub NoDigit : (bs : List ℕ) (i : ℕ) → Type 0
NoDigit bs i = i < length bs → is_digit (get_or bs i 0) ≡ false

-- all the digits were read, one at least; or there is none, or one that makes the number too large
abbrev pub ScannedTo : (bs : List ℕ) (from most : ℕ) → Result Scanned ℕ → Type 0
ScannedTo bs from most (Ok r) = Scanning bs from most r.at r.value × (from < r.at) × NoDigit bs r.at
ScannedTo bs from most (Err at) =
    (value : ℕ)
    × Scanning bs from most at value
    × (((at ≡ from) × NoDigit bs at) ⊎ ((at < length bs) × (is_digit (get_or bs at 0) ≡ true) × (most < value * 10 + (get_or bs at 0 - 48))))

-- the numbers of a call are small enough
pub record Ready (bs : List ℕ) (from size nodes opened : ℕ) : Type 0 where
  pub short : length bs ≤ 32768
  pub within : from ≤ length bs
  pub small : size ≤ 7 + 6 * from
  pub few : nodes ≤ from
  pub flat : opened ≤ 64

-- nothing more of a sum stands there
pub record Stopped (bs : List ℕ) (i : ℕ) : Type 0 where
  pub no_blank : i < length bs → is_blank (get_or bs i 0) ≡ false
  pub no_plus : i < length bs → eqb (get_or bs i 0) 43 ≡ false

-- the bytes of a tree were written
pub record Built (s : Sort) (t : Tree s) (from size nodes next size' nodes' : ℕ) (before after : List ℕ) : Type 0 where
  pub sized : size' ≡ size + length (bytes s t)
  pub counted : nodes' ≡ nodes + nodesOf s t
  pub small : size' + 6 * from ≤ size + 6 * next
  pub few : nodes' + from ≤ nodes + next
  pub written : size' ≤ length before → after ≡ placed_at size (bytes s t) before

-- no register begins there, and no blank
pub record NoRegister (bs : List ℕ) (i : ℕ) : Type 0 where
  pub no_blank : i < length bs → is_blank (get_or bs i 0) ≡ false
  pub no_letter : is_at bs i 114 ≡ false

-- a transaction's first term is no register: `sum` reads that itself, since it may be written
abbrev pub Later : {s : Sort} → List ℕ → ℕ → TermIn s → Type 0
Later {s = process} bs i c = Unit {0}
Later {s = transaction} bs i (first c) = NoRegister bs i
Later {s = transaction} bs i (added a c) = Unit {0}

-- a term was read, or fails
abbrev pub TermSo : (s : Sort) (bs : List ℕ) (from size nodes opened : ℕ) → Result Cursor ℕ → (before after : List ℕ) → Type 0
TermSo s bs from size nodes opened (Ok r) before out =
    (t : Tree s)
    × ((c : TermIn s) → opens_t c ≡ opened → Later bs from c → read_from (want c) (drop from bs) ≡ read_from (after (grown c t) (sum_in c)) (drop r.at bs))
    × (from < r.at)
    × Built s t from size nodes r.at r.size r.nodes before out
TermSo s bs from size nodes opened (Err at) before out = (c : TermIn s) → opens_t c ≡ opened → Later bs from c → read_from (want c) (drop from bs) ≡ fails (length bs - at)

-- what `term` comes to, and what it leaves of the job
pub record TermTo (s : Sort) (bs : List ℕ) (from size nodes opened : ℕ) (r : Result Cursor ℕ) (before after : List ℕ) : Type 0 where
  pub kept : length after ≡ length before
  pub within : place r ≤ length bs
  pub so : TermSo s bs from size nodes opened r before after

-- a sum was read, or fails
abbrev pub SumSo : (s : Sort) (bs : List ℕ) (from size nodes opened : ℕ) → Result Cursor ℕ → (before after : List ℕ) → Type 0
SumSo s bs from size nodes opened (Ok r) before out =
    (t : Tree s)
    × ((c : SumIn s) → opens_s c ≡ opened → read_from (want (first c)) (drop from bs) ≡ read_from (after t c) (drop r.at bs))
    × Stopped bs r.at
    × (from < r.at)
    × Built s t from size nodes r.at r.size r.nodes before out
SumSo s bs from size nodes opened (Err at) before out = (c : SumIn s) → opens_s c ≡ opened → read_from (want (first c)) (drop from bs) ≡ fails (length bs - at)

-- what `sum` comes to, and what it leaves of the job
pub record SumTo (s : Sort) (bs : List ℕ) (from size nodes opened : ℕ) (r : Result Cursor ℕ) (before after : List ℕ) : Type 0 where
  pub kept : length after ≡ length before
  pub within : place r ≤ length bs
  pub so : SumSo s bs from size nodes opened r before after

-- what begins a transaction
abbrev pub OpeningTo : (bs : List ℕ) (from opened : ℕ) → Result Opening ℕ → Type 0
OpeningTo bs from opened (Ok (Write next v)) =
    (from + 3 < next)
    × (next ≤ length bs)
    × (opened < 64)
    × (v < 64)
    × ((c : SumIn transaction) → opens_s c ≡ opened → read_from (want (first c)) (drop from bs) ≡ read_from (want (first (write v c))) (drop next bs))
OpeningTo bs from opened (Ok (Read next v)) =
    (from + 1 < next)
    × (next ≤ length bs)
    × (v < 64)
    × ((c : SumIn transaction) → read_from (want (first c)) (drop from bs) ≡ read_from (after (T.Read v) c) (drop next bs))
OpeningTo bs from opened (Ok (Other next)) = Skipped bs from next × NoRegister bs next
OpeningTo bs from opened (Err at) = (at ≤ length bs) × ((c : SumIn transaction) → opens_s c ≡ opened → read_from (want (first c)) (drop from bs) ≡ fails (length bs - at))

-- the letters of a word behind its first: all stand there and are passed, or the first one that does not is named
abbrev pub WordTo : (bs : List ℕ) (from : ℕ) (letters : List ℕ) → Result ℕ ℕ → Type 0
WordTo bs from letters (Ok next) = (next ≡ from + length letters) × (next ≤ length bs) × ((x : State) → read_from (spelling letters x) (drop from bs) ≡ read_from x (drop next bs))
WordTo bs from letters (Err at) = (from ≤ at) × (at ≤ length bs) × ((x : State) → read_from (spelling letters x) (drop from bs) ≡ fails (length bs - at))

-- behind a `)` that stands there
unfoldable pub shut_to : List ℕ → ℕ → Result ℕ ℕ
shut_to bs i = cond (is_at bs i 41) (Ok (i + 1)) (Err i)

-- a sum's last cursor, with its sums' kind bytes counted
abbrev pub joined_to : Cursor → (at adds : ℕ) → Cursor
joined_to last at adds = record { at = at; size = last.size + adds; nodes = last.nodes + adds }

-- what `terms` has read so far: a sum t, of whose bytes those behind its own first kind bytes are written
pub record Joining (inside : Bool) (bs : List ℕ) (from start nodes opened : ℕ) (last : Cursor) (adds : ℕ) (before out : List ℕ) : Type 0 where
  pub kept : length out ≡ length before
  pub within : last.at ≤ length bs
  pub t : Tree (sort_of inside)
  pub body : List ℕ
  pub runs : (c : SumIn (sort_of inside)) → opens_s c ≡ opened → read_from (want (first c)) (drop from bs) ≡ read_from (after t c) (drop last.at bs)
  pub ahead : from < last.at
  pub adding : bytes (sort_of inside) t ≡ replicate adds (kind_in inside 2) ++ body
  pub sized : last.size ≡ start + length body
  pub counted : last.nodes + adds ≡ nodes + nodesOf (sort_of inside) t
  pub small : last.size + adds + 6 * from ≤ start + 6 * last.at
  pub few : last.nodes + adds + from ≤ nodes + last.at
  pub written : last.size ≤ length before → out ≡ placed_at start body before

-- what `terms` asks of its first term
pub record TermsReady (bs : List ℕ) (start opened : ℕ) (head : Cursor) : Type 0 where
  pub short : length bs ≤ 32768
  pub flat : opened ≤ 64
  pub within : head.at ≤ length bs
  pub behind : start ≤ head.size
  pub small : head.size ≤ 7 + 6 * head.at
  pub few : head.nodes ≤ head.at
