-- Runs that stay in the range, and runs that leave it.
use Rattle.std.specs.Prelude.{◌≡◌, ℕ, true, List}
use Rattle.plane.specs.Bounds.{IsWithin, bounds_of}
use Rattle.plane.specs.Listing.{IsListing}
use Rattle.plane.specs.Plane.{Plane}
use Rattle.plane.specs.Range.{StaysWithin}
use Rattle.plane.specs.declared.cell.Bounds.{Bounds}
use Rattle.plane.specs.declared.cell.Cell.{Cell}

-- each live cell of the plane lies in the box
abbrev pub Encloses : Bounds → Plane → Type 0
Encloses box plane = (cell : Cell) → plane cell.x cell.y ≡ true → IsWithin box cell

-- so many generations of the plane's cells stay in the range, from this generation on
pub record KeepsToRange (plane : Plane) (start generations : ℕ) : Type 0 where
  pub cells : List Cell
  pub listing : IsListing cells plane
  pub stays : StaysWithin (bounds_of cells) start generations

-- so many generations of the plane's cells leave the range
pub record LeavesRange (plane : Plane) (start generations : ℕ) : Type 0 where
  pub cells : List Cell
  pub listing : IsListing cells plane
  pub outside : ¬ StaysWithin (bounds_of cells) start generations
