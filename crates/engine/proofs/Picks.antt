-- A pick over lent records: which record it takes out, and how a list of picks goes on. Assumes nothing.
use Prim.Native.Nat.{ℕ, suc, ◌+◌, ◌≤◌, ◌<◌}
use mathlib.Core.Bool.{Bool, true, false, cond}
use mathlib.Core.Path.{◌≡◌, refl, sym, ap, ◌∙◌}
use mathlib.Core.List.{List}
use native.Mathlib.Numerals.{add-one}
use borrow.Author.Tests.{ltb-true}
use lib.Dec.{ltb, lit<}
use lib.ListN.{length, get_or, drop, drop_of_length-le}
use lib.Seq.{drop-cons}
use Rattle.thread.specs.Threads.{blank}
use Rattle.machine.specs.Steps.{table_in}
use Rattle.progress.specs.InnerProgress.{Driven, driven, driven_by, picked_by, which_of}

-- a pick takes out one of 16
pub which_low : (k : ℕ) → which_of k < 16
unfolding which_of
which_low k = go (ltb k 16) refl
  where
    go : (t : Bool) → ltb k 16 ≡ t → cond t k 0 < 16
    go true e = ltb-true k 16 e
    go false e = lit< tt

-- what one pick makes of all
abbrev pub settled : List ℕ → ℕ → Driven → Driven
settled cd k d = driven_by d.state (which_of k) (picked_by cd (table_in d.state) k (get_or d.state.threads (which_of k) blank) d.progress)

-- no picks are left
pub driven_none : (cd ps : List ℕ) (i : ℕ) (d : Driven) → length ps ≤ i → d ≡ driven cd (drop i ps) d
unfolding driven
driven_none cd ps i d h = sym (ap (λ (l : List ℕ). driven cd l d) (drop_of_length-le ps {i = i} h))

-- the run goes on after a turn as the definition does
pub goes_on : (cd ps : List ℕ) (i : ℕ) (m m' : Driven) → i < length ps → m' ≡ settled cd (get_or ps i 0) m → driven cd (drop (i + 1) ps) m' ≡ driven cd (drop i ps) m
unfolding driven
goes_on cd ps i m m' h f =
    ap (λ (j : ℕ). driven cd (drop j ps) m') (add-one i) ∙ ap (driven cd (drop (suc i) ps)) f ∙ sym (ap (λ (l : List ℕ). driven cd l m) (drop-cons ps i 0 h))
