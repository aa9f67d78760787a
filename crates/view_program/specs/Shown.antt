-- The rectangle of cells that is shown.
use Rattle.std.specs.Prelude.{ℕ, ℤ, pos, ◌+ℤ◌, ◌-ℤ◌, Option, None, Some}
use Rattle.pattern_picture.specs.Scale.{IsShown}
use Rattle.plane.specs.Window.{Rectangle}
use Rattle.plane.specs.declared.cell.Bounds.{Bounds}

-- the last of so many coordinates from the first on; where there are none it is the one before the
-- first
abbrev pub last_of : ℤ → ℕ → ℤ
last_of first count = (first +ℤ pos count) -ℤ pos 1

-- the first and the last column and row of a rectangle
abbrev pub sides_of : Rectangle → Bounds
sides_of rectangle = record {
  left = rectangle.x;
  top = rectangle.y;
  right = last_of rectangle.x rectangle.width;
  bottom = last_of rectangle.y rectangle.height;
}

-- the cells from the first to the last column and row can be shown
abbrev pub CanBeShown : Rectangle → Type 0
CanBeShown rectangle = IsShown (sides_of rectangle)

-- the window, or else the bounding box, or else the cell (0,0)
abbrev pub rectangle_shown : Option Bounds → Option Bounds → Bounds
rectangle_shown (Some window) bounds = window
rectangle_shown None (Some bounds) = bounds
rectangle_shown None None = record { left = pos 0; top = pos 0; right = pos 0; bottom = pos 0 }
