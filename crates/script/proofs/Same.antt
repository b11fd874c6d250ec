-- Soups that are the same multi-set: to be the same has no direction, and a process may be taken out of both or put into both. Assumes nothing.
use mathlib.Core.Path.{◌≡◌, refl, ap}
use mathlib.Core.List.{List, [], ◌∷◌, ◌++◌, append_assoc, append-nil}
use Rattle.script.specs.Soup.{Picks, here, there, Same, none, put}

-- the soup in which a process has been picked, cut at its place
pub record Cut {A : Type 0} (p : A) (others soup : List A) : Type 0 where
  pub front : List A
  pub behind : List A
  pub whole : soup ≡ front ++ (p ∷ behind)
  pub rest : others ≡ front ++ behind

-- a picked process has its place in the soup
pub cut : {A : Type 0} {p : A} {others soup : List A} → Picks p others soup → Cut p others soup
cut (here {others = others}) = record { front = []; behind = others; whole = refl; rest = refl }
cut (there {q = q} at) =
    let c = cut at in
    record { front = q ∷ c.front; behind = c.behind; whole = ap (λ l. q ∷ l) c.whole; rest = ap (λ l. q ∷ l) c.rest }

-- the process at a place can be picked
pub picks_at : {A : Type 0} (front : List A) (p : A) (behind : List A) → Picks p (front ++ behind) (front ++ (p ∷ behind))
picks_at [] p behind = here
picks_at (q ∷ front) p behind = there (picks_at front p behind)

-- two processes picked one behind the other, in the other order
record Swapped {A : Type 0} (p q : A) (least soup : List A) : Type 0 where
  others : List A
  first : Picks q others soup
  second : Picks p least others

swap : {A : Type 0} {p q : A} {least others soup : List A} → Picks p others soup → Picks q least others → Swapped p q least soup
swap {p} {least = least} here at = record { others = p ∷ least; first = there at; second = here }
swap (there {soup = soup} at) here = record { others = soup; first = here; second = at }
swap (there {q = r} at) (there at') = let w = swap at at' in record { others = r ∷ w.others; first = there w.first; second = there w.second }

-- a process put into both at any places
pub put_both : {A : Type 0} {p : A} {s t s' t' : List A} → Picks p s t → Picks p s' t' → Same s s' → Same t t'
put_both here at' same = put at' same
put_both (there at) at' (put at-q same) = let w = swap at' at-q in put w.first (put_both at w.second same)

-- each soup is the same as itself
pub same_refl : {A : Type 0} (s : List A) → Same s s
same_refl [] = none
same_refl (p ∷ s) = put here (same_refl s)

-- to be the same has no direction
pub same_sym : {A : Type 0} {s s' : List A} → Same s s' → Same s' s
same_sym none = none
same_sym (put at same) = put_both at here (same_sym same)

-- p taken out of a soup, which leaves the same as `others`
pub record TakenOut {A : Type 0} (p : A) (others soup' : List A) : Type 0 where
  pub others' : List A
  pub picks : Picks p others' soup'
  pub same : Same others others'

-- a process taken out of the one can be taken out of the other, and leaves the same
pub take_both : {A : Type 0} {p : A} {others s s' : List A} → Same s s' → Picks p others s → TakenOut p others s'
take_both (put {others = others} at same) here = record { others' = others; picks = at; same = same }
take_both (put at same) (there at') =
    let t = take_both same at' in
    let w = swap at t.picks in
    record { others' = w.others; picks = w.first; same = put w.second t.same }
take_both {A = A} {p = p} {others = others} none x4 = elim x4 [ ]

-- the processes `new` put in before b, and behind all
added : {A : Type 0} (new f b : List A) {l : List A} → Same (f ++ b) l → Same (f ++ (new ++ b)) (l ++ new)
added [] f b {l} same = rw (append-nil l) same
added (x ∷ new) f b {l} same = put_both (picks_at f x (new ++ b)) (picks_at l x new) (added new f b same)

-- where the source and the script put what a move leaves: the moved process at its place, the new ones behind it or behind all
pub same_left : {A : Type 0} (p' : A) (new f b front behind : List A) → Same (f ++ b) (front ++ behind) → Same (f ++ (p' ∷ (new ++ b))) (front ++ (p' ∷ (behind ++ new)))
same_left p' new f b front behind same =
    put_both (picks_at f p' (new ++ b)) (picks_at front p' (behind ++ new)) (rw (append_assoc front behind new) at (added new f b same))

-- what is the same as the same is the same
pub same_trans : {A : Type 0} {s t u : List A} → Same s t → Same t u → Same s u
same_trans none x = x
same_trans (put at same) x = let k = take_both x at in put k.picks (same_trans same k.same)
