-- Squares around (0,0).
use Rattle.plane.specs.Centred.{centred, IsSmallestLevel}
use Rattle.plane.specs.Plane.{Plane}
use Rattle.plane.specs.Square.{IsSame}
use Rattle.squares.specs.Book.{Book, IsKnown}
use Rattle.squares.specs.declared.sq.Sq.{Sq}

-- a square's cells, with its centre corner at (0,0)
abbrev pub square_plane : Book → Sq → Plane
square_plane book sq = centred sq.level (book.cells sq)

-- a known square around (0,0) that has these cells, at the smallest level of at least 4
pub record IsRootOf (book : Book) (plane : Plane) (sq : Sq) : Type 0 where
  pub known : IsKnown book sq.level sq
  pub smallest : IsSmallestLevel sq.level plane
  pub cells : IsSame (square_plane book sq) plane
