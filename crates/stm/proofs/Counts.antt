-- What the counts count, and which event numbers stand for; events behind events: the counts add up, the orders follow one another. Assumes nothing.
use Prim.Native.Nat.{ℕ, suc, ◌+◌}
use mathlib.Core.Bool.{Bool, true, false, cond, not, ◌&&◌}
use mathlib.Core.Path.{◌≡◌, refl, sym, ap}
use mathlib.Core.List.{List, [], ◌∷◌, ◌++◌}
use native.Mathlib.Omega.{arith}
use lib.Dec.{eqb}
use Rattle.stm.specs.Events.{from_writes, from_reads, from_table, Event, idle, pushed, summed, forked, begun, looked, wrote, committed, sent_back, Happened, counted, is_idle, is_commit, is_back, is_turn, order, backs, Counts, uncounted, more, tally, counts_of, together, event_number, event_register, turn_number, event_of}
use Rattle.stm.specs.InnerTasks.{overs}

pub counted_append : (f : Event → Bool) (hs ks : List Happened) → counted f (hs ++ ks) ≡ counted f hs + counted f ks
unfolding counted
counted_append f [] ks = omega arith
counted_append f (h ∷ hs) ks = go (f h.event) (counted_append f hs ks)
  where
    go : (b : Bool) → counted f (hs ++ ks) ≡ counted f hs + counted f ks → cond b (suc (counted f (hs ++ ks))) (counted f (hs ++ ks)) ≡ cond b (suc (counted f hs)) (counted f hs) + counted f ks
    go true e = omega arith
    go false e = e

-- the send-backs of a thread: of one pick, and of picks behind picks
pub backs_one : (i : ℕ) (h : Happened) → backs i (h ∷ []) ≡ more (eqb h.thread i && is_back h.event) 0
unfolding backs
backs_one i h = refl

pub backs_append : (i : ℕ) (hs ks : List Happened) → backs i (hs ++ ks) ≡ backs i hs + backs i ks
unfolding backs
backs_append i [] ks = omega arith
backs_append i (h ∷ hs) ks = go (eqb h.thread i && is_back h.event) (backs_append i hs ks)
  where
    go : (b : Bool) → backs i (hs ++ ks) ≡ backs i hs + backs i ks → more b (backs i (hs ++ ks)) ≡ more b (backs i hs) + backs i ks
    go true e = omega arith
    go false e = e

pub order_append : (hs ks : List Happened) → order (hs ++ ks) ≡ order hs ++ order ks
unfolding order
order_append [] ks = refl
order_append (h ∷ hs) ks = go (is_turn h.event) refl (order_append hs ks)
  where
    go : (b : Bool) → is_turn h.event ≡ b → order (hs ++ ks) ≡ order hs ++ order ks → order (h ∷ (hs ++ ks)) ≡ order (h ∷ hs) ++ order ks
    go true t e = rw (order, t, e)
    go false t e = rw (order, t, e)

-- each count is the number of events that it is of
pub steps_counted : (hs : List Happened) → (counts_of hs).steps ≡ counted (λ e. not (is_idle e)) hs
unfolding counts_of counted tally
steps_counted [] = refl
steps_counted (h ∷ hs) = ap (more (not (is_idle h.event))) (steps_counted hs)

pub idle_counted : (hs : List Happened) → (counts_of hs).idle ≡ counted is_idle hs
unfolding counts_of counted tally
idle_counted [] = refl
idle_counted (h ∷ hs) = ap (more (is_idle h.event)) (idle_counted hs)

pub commits_counted : (hs : List Happened) → (counts_of hs).commits ≡ counted is_commit hs
unfolding counts_of counted tally
commits_counted [] = refl
commits_counted (h ∷ hs) = ap (more (is_commit h.event)) (commits_counted hs)

pub back_counted : (hs : List Happened) → (counts_of hs).back ≡ counted is_back hs
unfolding counts_of counted tally
back_counted [] = refl
back_counted (h ∷ hs) = ap (more (is_back h.event)) (back_counted hs)

-- and the sums are those that the events tell of
pub over_counted : (hs : List Happened) → (counts_of hs).over ≡ overs hs
unfolding counts_of overs tally
over_counted [] = refl
over_counted (h ∷ hs) = let e = over_counted hs in omega arith

-- counts are equal if each is
pub same_counts : {a b : Counts} → a.steps ≡ b.steps → a.idle ≡ b.idle → a.commits ≡ b.commits → a.back ≡ b.back → a.over ≡ b.over → a ≡ b
same_counts p q r s u = λ i. record { steps = p i; idle = q i; commits = r i; back = s i; over = u i }

-- one pick's counts go in front or behind
more_front : (b : Bool) (n m : ℕ) → more b n + m ≡ more b (n + m)
more_front true n m = omega arith
more_front false n m = refl

more_behind : (b : Bool) (n m : ℕ) → more b n + m ≡ n + more b m
more_behind true n m = omega arith
more_behind false n m = refl

pub tally_together : (e : Event) (over : ℕ) (a b : Counts) → together (tally e over a) b ≡ tally e over (together a b)
unfolding tally
tally_together e over a b = same_counts (more_front (not (is_idle e)) _ _) (more_front (is_idle e) _ _) (more_front (is_commit e) _ _) (more_front (is_back e) _ _) (omega arith)

pub tally_behind : (e : Event) (over : ℕ) (a b : Counts) → together (tally e over a) b ≡ together a (tally e over b)
unfolding tally
tally_behind e over a b = same_counts (more_behind (not (is_idle e)) _ _) (more_behind (is_idle e) _ _) (more_behind (is_commit e) _ _) (more_behind (is_back e) _ _) (omega arith)

-- two picks' counts go in either order
pub tally_swap : (e f : Event) (a b : ℕ) (c : Counts) → tally e a (tally f b c) ≡ tally f b (tally e a c)
unfolding tally
tally_swap e f a b c = same_counts (swap (not (is_idle e)) (not (is_idle f)) c.steps) (swap (is_idle e) (is_idle f) c.idle) (swap (is_commit e) (is_commit f) c.commits) (swap (is_back e) (is_back f) c.back) (omega arith)
  where
    swap : (x y : Bool) (n : ℕ) → more x (more y n) ≡ more y (more x n)
    swap true true n = refl
    swap true false n = refl
    swap false true n = refl
    swap false false n = refl

-- nothing counted before or behind
pub together_none : (a : Counts) → together uncounted a ≡ a
together_none a = same_counts (omega arith) (omega arith) (omega arith) (omega arith) (omega arith)

pub none_together : (a : Counts) → together a uncounted ≡ a
none_together a = same_counts (omega arith) (omega arith) (omega arith) (omega arith) (omega arith)

pub together_assoc : (a b c : Counts) → together (together a b) c ≡ together a (together b c)
together_assoc a b c = same_counts (omega arith) (omega arith) (omega arith) (omega arith) (omega arith)

-- the counts of a whole list are those of its parts together
pub counts_append : (hs ks : List Happened) → counts_of (hs ++ ks) ≡ together (counts_of hs) (counts_of ks)
unfolding counts_of
counts_append [] ks = sym (together_none (counts_of ks))
counts_append (h ∷ hs) ks = rw (counts_append hs ks, tally_together h.event h.over (counts_of hs) (counts_of ks))

-- the numbers of an event tell the event
pub event-of : (e : Event) → event_of (event_number e) (event_register e) (turn_number e) ≡ e
unfolding event_of event_number event_register turn_number
event-of idle = refl
event-of pushed = refl
event-of (summed true) = refl
event-of (summed false) = refl
event-of forked = refl
event-of begun = refl
event-of (looked from_writes) = refl
event-of (looked from_reads) = refl
event-of (looked from_table) = refl
event-of wrote = refl
event-of committed = refl
event-of (sent_back v) = refl
