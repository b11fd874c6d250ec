-- How the script's numbered threads stand for the source's soup. The source puts a forked process behind its parent in the soup,
-- document 01 gives it the next number; "the soup itself is to be regarded as a multi-set" (source 5.1.3).
use Rattle.std.specs.Prelude.{ℕ, ◌≡◌, List, [], ◌∷◌, ◌++◌, length}
use Rattle.script.specs.Tree.{Proc}
use Rattle.script.specs.Turns.{Script, reduce, moved}
use Rattle.script.specs.Source.{StepP}
use Rattle.word.specs.Sum.{Rule}

-- p stands in the soup, and `others` is the soup without it
pub data Picks {A : Type 0} (p : A) : (others soup : List A) → Type 0 where
  here : {others : List A} → Picks p others (p ∷ others)
  there : {q : A} {others soup : List A} → Picks p others soup → Picks p (q ∷ others) (q ∷ soup)

-- two soups are the same multi-set
pub data Same {A : Type 0} : List A → List A → Type 0 where
  none : Same [] []
  put : {p : A} {s others s' : List A} → Picks p others s' → Same s others → Same (p ∷ s) s'

-- A step of the source on the process of thread i, in the soup that has the threads in the order of their numbers.
-- The source leaves `new`, the forked process if there is one, behind its parent p'; the script leaves it behind all.
pub record StepOn (sum : Rule) (s : Script) (i : ℕ) (s' : Script) (soup' : List Proc) : Type 0 where
  pub front : List Proc
  pub p : Proc
  pub p' : Proc
  pub behind : List Proc
  pub new : List Proc
  pub number : length front ≡ i
  pub threads : s.threads ≡ front ++ (p ∷ behind)
  pub moves : reduce sum s.registers p ≡ moved p' s'.registers new
  pub step : StepP sum s.registers (p ∷ behind) s'.registers (p' ∷ (new ++ behind))
  pub soup : soup' ≡ front ++ (p' ∷ (new ++ behind))
  pub left : s'.threads ≡ front ++ (p' ∷ (behind ++ new))
