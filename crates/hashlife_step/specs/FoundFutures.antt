-- What a call for the future of a square does.
use Rattle.std.specs.Prelude.{ℕ, IfErr, IfOk, OnOk, Result}
use Rattle.plane.specs.declared.refusal.Refusal.{Refusal}
use Rattle.squares.specs.Book.{Book, HasResult, IsFuture, MayRefuse}
use Rattle.squares.specs.declared.sq.Sq.{Sq}
use Rattle.hashlife_step.specs.Tallies.{MakesResults}

-- from the old book to the new one and from one count of expansions to another, this came of a call
-- for the future of a square
pub record FindsFuture (old new : Book) (sq : Sq) (before after : ℕ)
    (made : Result Sq Refusal) : Type 0 where
  -- it is the future
  pub ok : IfOk made (IsFuture new sq)
  -- and the book knows it as the result
  pub kept : OnOk made (HasResult new sq)
  -- it is refused only as the book refuses
  pub refusal : IfErr made (MayRefuse new)
  -- all that was known is known, and the results that were made are counted
  pub makes : MakesResults old new sq.level before after
