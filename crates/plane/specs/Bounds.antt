-- The smallest box round some cells.
use Rattle.std.specs.Prelude.{ℕ, IfSome, ◌≤ℤ◌, Option, None, Some, List, fold}
use Rattle.std.specs.Int.{int_min, int_max}
use Rattle.plane.specs.declared.cell.Cell.{Cell}
use Rattle.plane.specs.declared.cell.Bounds.{Bounds}
use Rattle.plane.specs.Range.{IsBoxInRange, widened}

-- the box of one cell
abbrev pub box_of : Cell → Bounds
box_of cell = record { left = cell.x; top = cell.y; right = cell.x; bottom = cell.y }

-- the smallest box that holds both
abbrev pub box_union : Bounds → Bounds → Bounds
box_union a b = record {
  left = int_min a.left b.left;
  top = int_min a.top b.top;
  right = int_max a.right b.right;
  bottom = int_max a.bottom b.bottom;
}

-- the smallest box that also holds the cell
abbrev pub box_with : Option Bounds → Cell → Option Bounds
box_with None cell = Some (box_of cell)
box_with (Some box) cell = Some (box_union box (box_of cell))

-- the smallest box that holds the cells, if there are any
abbrev pub bounds_of : List Cell → Option Bounds
bounds_of cells = fold box_with None cells

-- the cell lies in the box
pub record IsWithin (box : Bounds) (cell : Cell) : Type 0 where
  pub left : box.left ≤ℤ cell.x
  pub top : box.top ≤ℤ cell.y
  pub right : cell.x ≤ℤ box.right
  pub bottom : cell.y ≤ℤ box.bottom

-- so many generations of the cells stay in the range
abbrev pub HasReach : ℕ → List Cell → Type 0
HasReach generations cells =
    IfSome (bounds_of cells) (λ box. IsBoxInRange (widened generations box))
