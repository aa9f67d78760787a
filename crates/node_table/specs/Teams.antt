-- What desks that work together have in common.
use Rattle.std.specs.Prelude.{◌≡◌}
use Rattle.squares.specs.Book.{Book}

-- the books of desks at work at one table
pub record AreAtOneTable (one other : Book) : Type 0 where
  pub rule : other.rule ≡ one.rule
  pub exponent : other.exponent ≡ one.exponent
  pub table : other.store.numbers ≡ one.store.numbers

-- what is in the other book, in the store of the one
abbrev pub at_place_of : (one other : Book) → Book
at_place_of one other = record other { store = one.store }
