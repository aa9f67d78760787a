-- What is shown can be shown.
use Rattle.std.proofs.Common.{Option, None, Some, IfSome, arith}
use Rattle.std.proofs.lemmas.Int.{ints}
use Rattle.plane.specs.Bounds.{IsWithin}
use Rattle.plane.specs.declared.cell.Bounds.{Bounds}
use Rattle.plane.specs.declared.cell.Cell.{Cell}
use Rattle.plane.proofs.Boxes.{Covers}
use Rattle.engine.proofs.BoxesInRange.{whole_range}
use Rattle.pattern_picture.specs.Scale.{IsShown}
use Rattle.view_program.specs.Shown.{rectangle_shown}

-- a box with a cell, within the rectangle that holds the range, can be shown
pub shown_with : (box : Bounds) (cell : Cell) → IsWithin box cell → Covers whole_range box → IsShown box
shown_with box cell within covers = record {
  columns = record { low = covers.left; order = omega (arith, ints, within.left, within.right); high = covers.right };
  rows = record { low = covers.top; order = omega (arith, ints, within.top, within.bottom); high = covers.bottom };
}

-- the window, the bounding box or the cell (0,0), where the window and the box can be shown
pub can_be_shown : (window bounds : Option Bounds) → IfSome window IsShown → IfSome bounds IsShown → IsShown (rectangle_shown window bounds)
can_be_shown (Some box) bounds window_shown is_shown = window_shown
can_be_shown None (Some box) window_shown is_shown = is_shown
can_be_shown None None window_shown is_shown = record {
  columns = record { low = omega (arith, ints); order = omega (arith, ints); high = omega (arith, ints) };
  rows = record { low = omega (arith, ints); order = omega (arith, ints); high = omega (arith, ints) };
}
