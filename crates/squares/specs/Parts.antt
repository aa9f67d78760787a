-- The quarters of a square, and the quarters of each.
use Rattle.std.specs.Prelude.{ℕ, ◌-◌}
use Rattle.plane.specs.Plane.{Plane}
use Rattle.squares.specs.Book.{Book, AreQuarters, nth}
use Rattle.squares.specs.declared.subsquares.Parts.{Parts}

-- the whole is the quarters of a square of this level with these cells, and the others are the
-- quarters of each of them
pub record ArePartsOfParts (book : Book) (level : ℕ) (plane : Plane) (parts : Parts) : Type 0 where
  pub whole : AreQuarters book level plane parts.whole
  pub nw : AreQuarters book (level - 1) (book.cells (nth parts.whole 0)) parts.nw
  pub ne : AreQuarters book (level - 1) (book.cells (nth parts.whole 1)) parts.ne
  pub sw : AreQuarters book (level - 1) (book.cells (nth parts.whole 2)) parts.sw
  pub se : AreQuarters book (level - 1) (book.cells (nth parts.whole 3)) parts.se
