-- Sets of cells, seen as their listings.
use Rattle.std.specs.Prelude.{◌||◌, List}
use Rattle.std.specs.List.{AllByRecursion}
use Rattle.std.specs.List.Sorted.{IsStrictlySortedBy}
use Rattle.plane.specs.declared.cell.Cell.{Cell}
use Rattle.plane.specs.Listing.{reading_order, is_at}
use Rattle.plane.specs.Plane.{Plane}
use Rattle.plane.specs.Range.{IsInRange}

-- cells of the range in the order of reading, each once
pub record IsCellSet (cells : List Cell) : Type 0 where
  pub rising : IsStrictlySortedBy reading_order cells
  pub in_range : AllByRecursion IsInRange cells

-- the plane on which this cell is live too
abbrev pub with_cell : Cell → Plane → Plane
with_cell cell plane x y = is_at x y cell || plane x y
