-- A second desk at a table, which is only there to read.
use Rattle.std.specs.Prelude.{◌≡◌}
use Rattle.squares.specs.Book.{Book, IsKnown}
use Rattle.squares.specs.declared.sq.Sq.{Sq}

-- it knows the squares that the first desk knows, and the same cells of them
pub record IsReader (first second : Book) : Type 0 where
  pub cells : second.cells ≡ first.cells
  pub known : (sq : Sq) → IsKnown first sq.level sq → IsKnown second sq.level sq
