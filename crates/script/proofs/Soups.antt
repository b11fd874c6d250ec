-- A turn that is not idle is a step of the source's soup on that process, and each step of the soup is such a turn. Assumes nothing.
use Prim.Native.Nat.{ℕ, suc, ◌≤◌, ◌<◌}
use mathlib.Core.Path.{◌≡◌, refl, sym, ap, ◌∙◌, subst⁻¹}
use mathlib.Core.List.{List, [], ◌∷◌, ◌++◌, append_assoc}
use native.Mathlib.Decide.{dec_lt}
use native.Mathlib.Omega.{arith}
use lib.IntN.{ℤ, pos}
use lib.ListN.{length, get_or, take, drop, set, length-append}
use lib.Seq.{length-take-le, split_at, set_split, get_or-append_seam, set-append_seam}
use borrow.Author.Tests.{lt-ltb, le-ltb}
use Rattle.script.specs.Tree.{Proc, ValP, AddP, Atomic, Fork}
use Rattle.script.specs.Turns.{Registers, Reduced, value, moved, reduce_sum, reduce, Script, idle, turned, after, turn}
use Rattle.script.specs.Source.{StepP, Preempt, ForkP, AtomicP, AddZP, AddRP, AddLP}
use Rattle.script.specs.Soup.{Same, StepOn}
use Rattle.word.specs.Sum.{Rule}
use Rattle.script.proofs.Transactions.{work_reached, work_only}
use Rattle.script.proofs.Same.{cut, picks_at, same_sym, take_both, same_left}

-- ---- a process asked for a turn
module _ (sum : Rule) (h : Registers) where
  -- what the source says of what a process is reduced to
  abbrev Reduces : Proc → Reduced → Type 0
  Reduces p (value n) = p ≡ ValP n
  Reduces p (moved p' h' new) = (s : List Proc) → StepP sum h (p ∷ s) h' (p' ∷ (new ++ s))

  sum_reduces : (a b : Proc) (x y : Reduced) → Reduces a x → Reduces b y → Reduces (AddP a b) (reduce_sum sum h a b x y)
  sum_reduces a b (moved a' h' new) y left right = λ s. AddLP (left s)
  sum_reduces a b (value m) (moved b' h' new) left right = λ s. rw left (AddRP (right s))
  sum_reduces a b (value m) (value n) left right = λ s. rw (left, right) AddZP

  reduces : (p : Proc) → Reduces p (reduce sum h p)
  unfolding reduce
  reduces (ValP n) = refl
  reduces (AddP a b) = sum_reduces a b (reduce sum h a) (reduce sum h b) (reduces a) (reduces b)
  reduces (Atomic t) = λ s. AtomicP (work_reached sum t h)
  reduces (Fork p) = λ s. ForkP

  -- a process that moves makes a step of the source, whatever stands behind it
  pub reduce_steps : (p : Proc) {p' : Proc} {h' : Registers} {new : List Proc} → reduce sum h p ≡ moved p' h' new → (s : List Proc) → StepP sum h (p ∷ s) h' (p' ∷ (new ++ s))
  reduce_steps p e = rw e at (reduces p)

-- ---- a move: the process p, which stands behind `front`, is reduced
record Move (sum : Rule) (h h' : Registers) : Type 0 where
  front : List Proc
  p : Proc
  p' : Proc
  behind : List Proc
  new : List Proc
  moves : reduce sum h p ≡ moved p' h' new

module _ {sum : Rule} {h h' : Registers} where
  -- the soup before it, the soup that the source leaves, and the threads that the script leaves
  abbrev before : Move sum h h' → List Proc
  before m = m.front ++ (m.p ∷ m.behind)

  abbrev in_soup : Move sum h h' → List Proc
  in_soup m = m.front ++ (m.p' ∷ (m.new ++ m.behind))

  abbrev in_script : Move sum h h' → List Proc
  in_script m = m.front ++ (m.p' ∷ (m.behind ++ m.new))

  -- the same move at another place
  abbrev placed : Move sum h h' → List Proc → List Proc → Move sum h h'
  placed m front behind = record { front = front; p = m.p; p' = m.p'; behind = behind; new = m.new; moves = m.moves }

-- ---- a move is a step of the soup, and a step of the soup is a move
module _ (sum : Rule) where
  -- a step goes on behind any front
  preempts : {h h' : Registers} {s s' : List Proc} (front : List Proc) → StepP sum h s h' s' → StepP sum h (front ++ s) h' (front ++ s')
  preempts [] st = st
  preempts (q ∷ front) st = Preempt (preempts front st)

  move_steps : {h h' : Registers} (m : Move sum h h') {soup soup' : List Proc} → soup ≡ before m → soup' ≡ in_soup m → StepP sum h soup h' soup'
  move_steps {h} m from to = rw (from, to) (preempts m.front (reduce_steps sum h m.p m.moves m.behind))

  -- the first process moves, or one behind it
  data Moves (h h' : Registers) : List Proc → List Proc → Type 0 where
    first : {s : List Proc} (p p' : Proc) (new : List Proc) → reduce sum h p ≡ moved p' h' new → Moves h h' (p ∷ s) (p' ∷ (new ++ s))
    later : {q : Proc} {s s' : List Proc} → Moves h h' s s' → Moves h h' (q ∷ s) (q ∷ s')

  -- the sum whose part moves, or whose part stays while one behind it moves
  left_moves : {h h' : Registers} {a a' : Proc} {s s' : List Proc} (b : Proc) → Moves h h' (a ∷ s) (a' ∷ s') → Moves h h' (AddP a b ∷ s) (AddP a' b ∷ s')
  unfolding reduce
  left_moves b (first a a' new e) = first (AddP a b) (AddP a' b) new (rw e)
  left_moves b (later m) = later m

  right_moves : {h h' : Registers} {b b' : Proc} {s s' : List Proc} (m : ℤ) → Moves h h' (b ∷ s) (b' ∷ s') → Moves h h' (AddP (ValP m) b ∷ s) (AddP (ValP m) b' ∷ s')
  unfolding reduce
  right_moves m (first b b' new e) = first (AddP (ValP m) b) (AddP (ValP m) b') new (rw e)
  right_moves m (later x) = later x

  step_moves : {h h' : Registers} {soup soup' : List Proc} → StepP sum h soup h' soup' → Moves h h' soup soup'
  unfolding reduce
  step_moves (Preempt st) = later (step_moves st)
  step_moves (ForkP {p = p}) = first (Fork p) (ValP (pos 0)) (p ∷ []) refl
  step_moves (AtomicP {e = e} {n = n} ts) = first (Atomic e) (ValP n) [] (rw (work_only sum ts))
  step_moves (AddZP {m = m} {n = n}) = first (AddP (ValP m) (ValP n)) (ValP (sum m n)) [] refl
  step_moves (AddRP {m = m} st) = right_moves m (step_moves st)
  step_moves (AddLP {b = b} st) = left_moves b (step_moves st)

  -- the move that a step makes
  record Made (h h' : Registers) (soup soup' : List Proc) : Type 0 where
    move : Move sum h h'
    from : soup ≡ before move
    to : soup' ≡ in_soup move

  made : {h h' : Registers} {soup soup' : List Proc} → Moves h h' soup soup' → Made h h' soup soup'
  made (first {s = s} p p' new e) = record { move = record { front = []; p = p; p' = p'; behind = s; new = new; moves = e }; from = refl; to = refl }
  made (later {q = q} x) =
      let d = made x in
      record { move = placed d.move (q ∷ d.move.front) d.move.behind; from = ap (λ l. q ∷ l) d.from; to = ap (λ l. q ∷ l) d.to }

-- ---- a move is a turn, and a turn that is not idle is a move
module _ (sum : Rule) (s : Script) where
  -- a thread that exists is asked, and one that does not is idle
  asked : (i : ℕ) → i < length s.threads → turn sum s i ≡ after s i (reduce sum s.registers (get_or s.threads i (ValP (pos 0))))
  unfolding turn
  asked i small = rw (turn, lt-ltb i (length s.threads) small)

  unasked : (i : ℕ) → length s.threads ≤ i → turn sum s i ≡ idle
  unfolding turn
  unasked i large = rw (turn, le-ltb i (length s.threads) large)

  -- a move of the threads is a turn
  move_turn : {h' : Registers} (m : Move sum s.registers h') → s.threads ≡ before m → turn sum s (length m.front) ≡ turned (record { registers = h'; threads = in_script m })
  move_turn m e =
      let small : length m.front < length s.threads = rw (e, length-append) (omega arith) in
      rw (asked (length m.front) small, e, get_or-append_seam, m.moves, set-append_seam, append_assoc)

  -- the move that a turn makes
  record Turning (i : ℕ) (s' : Script) : Type 0 where
    move : Move sum s.registers s'.registers
    number : length move.front ≡ i
    from : s.threads ≡ before move
    to : s'.threads ≡ in_script move

  turning : {s' : Script} (i : ℕ) → turn sum s i ≡ turned s' → Turning i s'
  turning {s'} i e = go (dec_lt i (length s.threads))
    where
      here : i < length s.threads → (r : Reduced) → reduce sum s.registers (get_or s.threads i (ValP (pos 0))) ≡ r → after s i r ≡ turned s' → Turning i s'
      here small (value n) f g = let z : ◌≡◌ {A = ℕ} 0 1 = cc in absurd (omega arith)
      here small (moved p' h' new) f g =
          let hs : h' ≡ s'.registers = cc in
          let ts : set s.threads i p' ++ new ≡ s'.threads = cc in
          record {
            move = record { front = take i s.threads; p = get_or s.threads i (ValP (pos 0)); p' = p'; behind = drop (suc i) s.threads; new = new; moves = rw hs at f };
            number = length-take-le i s.threads (omega arith);
            from = split_at s.threads i (ValP (pos 0)) small;
            to = rw (← ts, set_split, append_assoc);
          }

      go : Dec (i < length s.threads) → Turning i s'
      go (yes small) = here small (reduce sum s.registers (get_or s.threads i (ValP (pos 0)))) refl (sym (asked i small) ∙ e)
      go (no large) = let f = unasked i (omega arith) in let z : ◌≡◌ {A = ℕ} 0 1 = cc in absurd (omega arith)

-- ---- turns and steps
move_on : (sum : Rule) (s s' : Script) (m : Move sum s.registers s'.registers) {i : ℕ} {soup' : List Proc} → length m.front ≡ i → s.threads ≡ before m → soup' ≡ in_soup m → s'.threads ≡ in_script m → StepOn sum s i s' soup'
move_on sum s s' m number from soup to =
    record {
      front = m.front;
      p = m.p;
      p' = m.p';
      behind = m.behind;
      new = m.new;
      number = number;
      threads = from;
      moves = m.moves;
      step = reduce_steps sum s.registers m.p m.moves m.behind;
      soup = soup;
      left = to;
    }

-- a turn that is not idle is a step of the soup on that process
pub turn_steps : (sum : Rule) (s s' : Script) (i : ℕ) → turn sum s i ≡ turned s' → (soup' : List Proc) × StepOn sum s i s' soup'
turn_steps sum s s' i e = let t = turning sum s i e in (in_soup t.move, move_on sum s s' t.move t.number t.from refl t.to)

-- each step of the soup is a turn of some thread
pub step_turns : (sum : Rule) (s : Script) {h' : Registers} {soup' : List Proc} → StepP sum s.registers s.threads h' soup' → (i : ℕ) × (s' : Script) × (turn sum s i ≡ turned s') × (s'.registers ≡ h') × StepOn sum s i s' soup'
step_turns sum s {h'} st =
    let d = made sum (step_moves sum st) in
    let m = d.move in
    let s' : Script = record { registers = h'; threads = in_script m } in
    (length m.front, s', move_turn sum s m d.from, refl, move_on sum s s' m refl d.from d.to refl)

-- a step on a thread's process is a step of the whole soup
pub step_on_steps : {sum : Rule} {s : Script} {i : ℕ} {s' : Script} {soup' : List Proc} → StepOn sum s i s' soup' → StepP sum s.registers s.threads s'.registers soup'
step_on_steps {sum} on = rw (on.threads, on.soup) (preempts sum on.front on.step)

-- ---- up to the order in the soup

-- the same move in another soup of the same processes: what either leaves in the source is what the other leaves in the script
record Beside (sum : Rule) {h h' : Registers} (m : Move sum h h') (soup : List Proc) : Type 0 where
  move : Move sum h h'
  from : soup ≡ before move
  here_there : Same (in_soup m) (in_script move)
  there_here : Same (in_soup move) (in_script m)

beside : (sum : Rule) {h h' : Registers} (m : Move sum h h') {soup : List Proc} → Same (before m) soup → Beside sum m soup
beside sum m same =
    let k = take_both same (picks_at m.front m.p m.behind) in
    let c = cut k.picks in
    let rests : Same (m.front ++ m.behind) (c.front ++ c.behind) = rw c.rest at k.same in
    record {
      move = placed m c.front c.behind;
      from = c.whole;
      here_there = same_left m.p' m.new m.front m.behind c.front c.behind rests;
      there_here = same_left m.p' m.new c.front c.behind m.front m.behind (same_sym rests);
    }

-- a turn that is not idle is a step of any soup of the threads' processes, and what it leaves is a soup of the processes of the threads left
pub turn_steps_same : (sum : Rule) (s s' : Script) (i : ℕ) (soup : List Proc) → Same soup s.threads → turn sum s i ≡ turned s' → (soup' : List Proc) × StepP sum s.registers soup s'.registers soup' × Same soup' s'.threads
turn_steps_same sum s s' i soup same e =
    let t = turning sum s i e in
    let b = beside sum t.move (rw t.from at (same_sym same)) in
    (in_soup b.move, move_steps sum b.move b.from refl, subst⁻¹ (λ l. Same (in_soup b.move) l) t.to b.there_here)

-- a step of any soup of the threads' processes is a turn of some thread, and what it leaves is a soup of the processes of the threads left
pub step_turns_same : (sum : Rule) (s : Script) (soup : List Proc) {h' : Registers} {soup' : List Proc} → Same soup s.threads → StepP sum s.registers soup h' soup' → (i : ℕ) × (s' : Script) × (turn sum s i ≡ turned s') × (s'.registers ≡ h') × Same soup' s'.threads
step_turns_same sum s soup {h'} same st =
    let d = made sum (step_moves sum st) in
    let b = beside sum d.move (rw d.from at same) in
    let s' : Script = record { registers = h'; threads = in_script b.move } in
    (length b.move.front, s', move_turn sum s b.move b.from, refl, subst⁻¹ (λ l. Same l s'.threads) d.to b.here_there)
