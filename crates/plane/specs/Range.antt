-- The range of coordinates and of generations.
use Rattle.std.specs.Prelude.{ℕ, ◌+◌, ◌≤◌, ℤ, pos, ◌+ℤ◌, ◌-ℤ◌, ◌≤ℤ◌, ◌<ℤ◌, Option, IfSome}
use Rattle.plane.specs.declared.cell.Cell.{Cell}
use Rattle.plane.specs.declared.cell.Bounds.{Bounds}
use Rattle.plane.specs.Limits.{coordinate_limit, largest_generation}

-- a coordinate that a cell may have
pub record IsCoordinate (z : ℤ) : Type 0 where
  pub low : (pos 0 -ℤ coordinate_limit) ≤ℤ z
  pub high : z <ℤ coordinate_limit

-- a cell that lies in the range
pub record IsInRange (cell : Cell) : Type 0 where
  pub x : IsCoordinate cell.x
  pub y : IsCoordinate cell.y

-- a box whose four sides lie in the range
pub record IsBoxInRange (box : Bounds) : Type 0 where
  pub left : IsCoordinate box.left
  pub top : IsCoordinate box.top
  pub right : IsCoordinate box.right
  pub bottom : IsCoordinate box.bottom

-- the box with so many more cells on each of its four sides
abbrev pub widened : ℕ → Bounds → Bounds
widened n box = record {
  left = box.left -ℤ pos n;
  top = box.top -ℤ pos n;
  right = box.right +ℤ pos n;
  bottom = box.bottom +ℤ pos n;
}

-- a run of so many generations, from this box and start, stays within the last generation and the
-- range
pub record StaysWithin (box : Option Bounds) (start generations : ℕ) : Type 0 where
  pub last_generation : start + generations ≤ largest_generation
  pub coordinates : IfSome box (λ bounds. IsBoxInRange (widened generations bounds))
