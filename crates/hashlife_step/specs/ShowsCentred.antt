-- Squares around (0,0).
use Rattle.std.specs.Prelude.{◌^◌}
use Rattle.plane.specs.Plane.{Plane, after}
use Rattle.plane.specs.Square.{IsSame}
use Rattle.squares.specs.Book.{Book, IsKnown}
use Rattle.squares.specs.Roots.{IsRootOf, square_plane}
use Rattle.squares.specs.declared.sq.Sq.{Sq}

-- a known square which has these cells, with its centre corner at (0,0)
pub record ShowsCentred (book : Book) (plane : Plane) (sq : Sq) : Type 0 where
  pub known : IsKnown book sq.level sq
  pub cells : IsSame (square_plane book sq) plane

-- a square with the cells that a root's become in 2^exponent generations, by the rule and the
-- exponent of the older book
abbrev pub IsStepOf : Book → Book → Sq → Sq → Type 0
IsStepOf old new root = IsRootOf new (after old.rule (square_plane old root) (2 ^ old.exponent))
