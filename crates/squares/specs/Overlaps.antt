-- Four squares made of nine in three rows.
use Rattle.std.specs.Prelude.{ℕ, ◌+◌, ◌^◌, List}
use Rattle.plane.specs.Plane.{Plane}
use Rattle.plane.specs.Square.{joined}
use Rattle.squares.specs.Book.{Book, Shows, nth}
use Rattle.squares.specs.declared.sq.Sq.{Sq}

-- the cells of four neighbours among three rows of three squares of this level, of which the upper
-- left one is given
abbrev pub neighbours : Book → ℕ → List Sq → ℕ → Plane
neighbours book level nine k =
    joined (2 ^ level) (book.cells (nth nine k)) (book.cells (nth nine (k + 1)))
    (book.cells (nth nine (k + 3))) (book.cells (nth nine (k + 4)))

-- each of four squares is what is made of the neighbours at its corner
pub record AreMade (make : Plane → Plane) (book : Book) (made_level level : ℕ)
    (nine four : List Sq) : Type 0 where
  pub nw : Shows book made_level (make (neighbours book level nine 0)) (nth four 0)
  pub ne : Shows book made_level (make (neighbours book level nine 1)) (nth four 1)
  pub sw : Shows book made_level (make (neighbours book level nine 3)) (nth four 2)
  pub se : Shows book made_level (make (neighbours book level nine 4)) (nth four 3)

-- the four squares of the neighbours at each corner
abbrev pub AreOverlaps : Book → ℕ → List Sq → List Sq → Type 0
AreOverlaps book level = AreMade (λ plane. plane) book (level + 1) level
