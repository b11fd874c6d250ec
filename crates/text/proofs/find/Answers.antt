-- `text::find` meets its contract: `position`'s answer, or the length. Assumes nothing.
use Rattle.std.proofs.Common.{◌≡◌, ℕ, Bool, List, length, unwrap_or, ap, ◌∙◌, eqb, arith, rules, tests}
use Rattle.std.specs.List.{position_or_len, position}
use Rattle.std.proofs.lemmas.Iterator.{YieldsList-from_slice}
use Rattle.std.proofs.lemmas.Iterator.Search.{position_from_yields_List}
use Rattle.std.proofs.lemmas.List.Sums.{prefix_len-le-length}
use Rattle.text.proofs.find.Goals as goal

unwrapped : (p : ℕ → Bool) (xs : List ℕ) → unwrap_or (position p xs) (length xs) ≡ position_or_len p xs
unwrapped p xs = grind (arith, prefix_len-le-length)

pub returns-clause-place : goal.returns-clause-place
returns-clause-place c =
    c.unwrap_or.ensures
    ∙ ap (λ o. unwrap_or o (length c.args.text.now))
    (position_from_yields_List (λ x. eqb x c.args.byte) _ _ _ c.position.ensures.ran (YieldsList-from_slice c.args.text.now cc) (λ x b q k. search (rules, tests)))
    ∙ unwrapped (λ x. eqb x c.args.byte) c.args.text.now
