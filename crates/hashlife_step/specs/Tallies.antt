-- The results that were made, and the count of expansions.
use Rattle.std.specs.Prelude.{◌≡◌, ℕ, zero, suc, ◌+◌, ◌-◌, ◌^◌, ◌≤◌, min}
use Rattle.squares.specs.Accounts.{Accounts}
use Rattle.squares.specs.Book.{Book, Keeps}

-- a count after so many more, one at a time: a full count stays
abbrev pub counted : ℕ → ℕ → ℕ
counted before zero = before
counted before (suc more) = min (2 ^ 64 - 1) (counted before more + 1)

-- the count went up by as many results as are new and were told by nobody else, all of at most this
-- level
pub record Tallies (old new : Book) (level before after : ℕ) : Type 0 where
  pub made : ℕ
  pub accounts : Accounts old new level 0 made
  pub told : old.learned ≤ new.learned
  pub count : after ≡ counted before made

-- squares, and results of at most this level, are new, if anything is: all that was known stays
-- known, and the results that were made are counted
pub record MakesResults (old new : Book) (level before after : ℕ) : Type 0 where
  pub keeps : Keeps old new
  pub tally : Tallies old new level before after
