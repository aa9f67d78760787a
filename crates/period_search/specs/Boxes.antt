-- Boxes in the range.
use Rattle.std.specs.Prelude.{◌^◌, ℤ, pos, ◌-ℤ◌, ◌≤ℤ◌, ◌<ℤ◌}
use Rattle.plane.specs.declared.cell.Bounds.{Bounds}

-- a side of a box from its first coordinate to its last, which are in the range
pub record IsSideInRange (first last : ℤ) : Type 0 where
  pub low : (pos 0 -ℤ pos (2 ^ 62)) ≤ℤ first
  pub order : first ≤ℤ last
  pub high : last <ℤ pos (2 ^ 62)

pub record IsInRange (box : Bounds) : Type 0 where
  pub columns : IsSideInRange box.left box.right
  pub rows : IsSideInRange box.top box.bottom
