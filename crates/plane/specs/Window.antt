-- The cells of a window: so many columns from its left on, so many rows from its top on.
use Rattle.std.specs.Prelude.{◌≡◌, ℕ, zero, suc, ◌≤◌, ◌^◌, ℤ, pos, ◌+ℤ◌, ◌-ℤ◌, ◌≤ℤ◌, false, ◌&&◌, List, [], ◌∷◌, ◌++◌, filter}
use Rattle.plane.specs.declared.cell.Cell.{Cell}
use Rattle.plane.specs.Plane.{Plane}
use Rattle.plane.specs.Square.{spans}

-- so many columns from x on, and so many rows from y on
pub record Rectangle : Type 0 where
  pub x : ℤ
  pub y : ℤ
  pub width : ℕ
  pub height : ℕ

-- the rectangle of so many columns from x on, and so many rows from y on
abbrev pub rectangle_at : ℤ → ℤ → ℕ → ℕ → Rectangle
rectangle_at x y width height = record { x = x; y = y; width = width; height = height }

-- how many columns, or rows, a window may have
pub record IsWindowSide (cells : ℕ) : Type 0 where
  pub some : 1 ≤ cells
  pub most : cells ≤ 1024

-- where a window may begin
pub record IsWindowCorner (z : ℤ) : Type 0 where
  pub low : (pos 0 -ℤ pos (2 ^ 62)) ≤ℤ z
  pub high : z ≤ℤ pos (2 ^ 62)

-- the rectangle is neither empty nor too large, and not too far away
pub record IsWindow (rectangle : Rectangle) : Type 0 where
  pub x : IsWindowCorner rectangle.x
  pub y : IsWindowCorner rectangle.y
  pub width : IsWindowSide rectangle.width
  pub height : IsWindowSide rectangle.height

-- so many places of a row, from this one on to the right
unfoldable pub row_places : ℤ → ℤ → ℕ → List Cell
row_places x y zero = []
row_places x y (suc wide) = record { x = x; y = y } ∷ row_places (x +ℤ pos 1) y wide

-- the places of a window, row by row from its top
unfoldable pub places : ℤ → ℤ → ℕ → ℕ → List Cell
places left top wide zero = []
places left top wide (suc tall) = row_places left top wide ++ places left (top +ℤ pos 1) wide tall

-- the live cells of a window, in the order of reading
unfoldable pub cells_in : ℤ → ℤ → ℕ → ℕ → Plane → List Cell
cells_in left top wide tall plane = filter (λ cell. plane cell.x cell.y) (places left top wide tall)

-- the live cells of the square of this side
abbrev pub square_cells : ℕ → Plane → List Cell
square_cells side = cells_in (pos 0) (pos 0) side side

-- the plane has no live cell outside the window
pub record IsInWindow (left top : ℤ) (wide tall : ℕ) (plane : Plane) : Type 0 where
  pub dead : (x y : ℤ) → (spans wide (x -ℤ left) && spans tall (y -ℤ top)) ≡ false →
      plane x y ≡ false
