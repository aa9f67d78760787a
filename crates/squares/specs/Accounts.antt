-- How many results were made, and not told by somebody else.
use Rattle.std.specs.Prelude.{◌≡◌, ℕ, ◌+◌, ◌≤◌, ◌⊎◌, length, Contains}
use Rattle.squares.specs.Book.{Book}
use Rattle.squares.specs.declared.sq.Sq.{Sq}

-- a count went up by the number of results that are new and that nobody else told, and the new ones
-- are of at most this level
pub record Accounts (old new : Book) (level before after : ℕ) : Type 0 where
  pub count : length new.results + before + old.learned ≡ length old.results + after + new.learned
  pub below : (sq : Sq) → Contains new.results sq → Contains old.results sq ⊎ (sq.level ≤ level)
