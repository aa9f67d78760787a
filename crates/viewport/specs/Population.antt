-- How many live cells planes and squares have.
use Rattle.std.specs.Prelude.{◌≡◌, ℕ, ◌*◌, ◌^◌, ◌≤◌, IsTrue, List, length, Some}
use Rattle.plane.specs.declared.cell.Cell.{Cell}
use Rattle.plane.specs.Listing.{IsListing}
use Rattle.plane.specs.Plane.{Plane}
use Rattle.plane.specs.Window.{square_cells}
use Rattle.squares.specs.Book.{Book}
use Rattle.squares.specs.Noted.{Noted, value_of}
use Rattle.squares.specs.declared.sq.Sq.{Sq}

-- the plane has so many live cells
pub record HasPopulation (plane : Plane) (population : ℕ) : Type 0 where
  pub cells : List Cell
  pub listing : IsListing cells plane
  pub count : population ≡ length cells

-- how many live cells the square of this side has
abbrev pub cell_count : ℕ → Plane → ℕ
cell_count side plane = length (square_cells side plane)

-- the number of live cells of a square of a book: at most one for each place
pub record IsCount (book : Book) (sq : Sq) (population : ℕ) : Type 0 where
  pub cells : population ≡ cell_count (2 ^ sq.level) (book.cells sq)
  pub most : population ≤ 2 ^ (2 * sq.level)

-- the square is known, and has so many live cells
abbrev pub IsKnownCount : Book → Sq → ℕ → Type 0
IsKnownCount book sq population = IsTrue (book.knows sq) × IsCount book sq population

-- each value that is kept is the number of live cells of its square, which is known
pub record AreCounts (book : Book) (counts : Noted ℕ) : Type 0 where
  pub count : (sq : Sq) (population : ℕ) → value_of counts sq ≡ Some population →
      IsKnownCount book sq population
