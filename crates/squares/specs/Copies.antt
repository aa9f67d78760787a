-- Squares that were copied from one book into another.
use Rattle.std.specs.Prelude.{◌≡◌, IsTrue, Some}
use Rattle.squares.specs.Book.{Book, Shows, numbered}
use Rattle.squares.specs.Noted.{Noted, value_of}
use Rattle.squares.specs.declared.sq.Num.{Num}
use Rattle.squares.specs.declared.sq.Sq.{Sq}

-- each square of the map has a copy of this number, with the same level and cells
pub record AreCopies (from to : Book) (copies : Noted Num) : Type 0 where
  pub same : (sq : Sq) (num : Num) → value_of copies sq ≡ Some num →
      Shows to sq.level (from.cells sq) (numbered sq.level num.0)

-- each square of the map is known, and has such a copy
pub record AreKnownCopies (from to : Book) (copies : Noted Num) : Type 0 where
  pub known : (sq : Sq) (num : Num) → value_of copies sq ≡ Some num → IsTrue (from.knows sq)
  pub same : AreCopies from to copies
