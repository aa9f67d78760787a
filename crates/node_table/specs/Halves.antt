-- Halves of squares, and what a desk knows of them.
use Rattle.std.specs.Prelude.{◌≡◌, ℕ, ◌-◌, ◌<◌, All, List, [], ◌∷◌}
use Rattle.plane.specs.declared.cell.TheConstants.{HIGHEST_LEVEL}
use Rattle.plane.specs.Plane.{Plane}
use Rattle.squares.specs.declared.sq.Sq.{Sq}
use Rattle.squares.specs.Book.{Book, AreQuarters, IsKnown, nth}
use Rattle.node_table.specs.declared.at.At.{At}
use Rattle.node_table.specs.declared.halves.Half.{Half}
use Rattle.node_table.specs.declared.subsquares.HalvesOfQuarters.{HalvesOfQuarters}
use Rattle.node_table.specs.declared.overlaps.HalvesOfRows.{HalvesOfRows}
use Rattle.node_table.specs.DesksAtWork.{book_here}
use Rattle.node_table.specs.Refusals.{IsHalf, known_by}

-- two known squares of one level, of which larger ones can be made
pub record AreBeside (book : Book) (first second : Sq) : Type 0 where
  pub fits : first.level < HIGHEST_LEVEL
  pub left : IsKnown book first.level first
  pub right : IsKnown book first.level second

-- the desk knows both squares of the half, which are of this level, and that its number shows the
-- two
pub record KnowsHalf (at : At) (level : ℕ) (half : Half) : Type 0 where
  pub left : IsKnown (book_here at) level half.left
  pub right : IsKnown (book_here at) level half.right
  pub shown : IsHalf (known_by at.desk) (known_by at.desk) half.left half.right half.number

-- the half is these two squares side by side
pub record IsHalfOf (at : At) (first second : Sq) (half : Half) : Type 0 where
  pub left : half.left ≡ first
  pub right : half.right ≡ second
  pub known : KnowsHalf at first.level half

-- the quarters of the square that two halves make
abbrev pub squares_of : Half → Half → List Sq
squares_of upper lower = upper.left ∷ upper.right ∷ lower.left ∷ lower.right ∷ []

-- two known halves of squares of one level
pub record MakeSquare (at : At) (top bottom : Half) : Type 0 where
  pub fits : top.left.level < HIGHEST_LEVEL
  pub upper : KnowsHalf at top.left.level top
  pub lower : KnowsHalf at top.left.level bottom

-- the halves of a square of this level with these cells
pub record AreHalves (at : At) (level : ℕ) (plane : Plane) (top bottom : Half) : Type 0 where
  pub quarters : AreQuarters (book_here at) level plane (squares_of top bottom)
  pub upper : KnowsHalf at (level - 1) top
  pub lower : KnowsHalf at (level - 1) bottom

-- the quarters of a square of this level with these cells, and the halves of each
pub record AreHalvesOfQuarters (at : At) (level : ℕ) (plane : Plane)
    (parts : HalvesOfQuarters) : Type 0 where
  pub quarters : AreQuarters (book_here at) level plane parts.quarters
  pub nw : AreHalves at (level - 1)
      ((book_here at).cells (nth parts.quarters 0)) parts.nw.0 parts.nw.1
  pub ne : AreHalves at (level - 1)
      ((book_here at).cells (nth parts.quarters 1)) parts.ne.0 parts.ne.1
  pub sw : AreHalves at (level - 1)
      ((book_here at).cells (nth parts.quarters 2)) parts.sw.0 parts.sw.1
  pub se : AreHalves at (level - 1)
      ((book_here at).cells (nth parts.quarters 3)) parts.se.0 parts.se.1

-- the halves of the three rows of nine known squares of this level
pub record AreHalvesOfRows (at : At) (level : ℕ) (nine : List Sq)
    (rows : HalvesOfRows) : Type 0 where
  pub known : All (IsKnown (book_here at) level) nine
  pub upper_left : IsHalfOf at (nth nine 0) (nth nine 1) rows.upper.0
  pub upper_right : IsHalfOf at (nth nine 1) (nth nine 2) rows.upper.1
  pub middle_left : IsHalfOf at (nth nine 3) (nth nine 4) rows.middle.0
  pub middle_right : IsHalfOf at (nth nine 4) (nth nine 5) rows.middle.1
  pub lower_left : IsHalfOf at (nth nine 6) (nth nine 7) rows.lower.0
  pub lower_right : IsHalfOf at (nth nine 7) (nth nine 8) rows.lower.1
