-- Where the next generation of some cells may have live cells.
use Rattle.std.specs.Prelude.{◌≡◌, ℤ, pos, ◌+ℤ◌, ◌-ℤ◌, true, All}
use Rattle.rule_text.specs.declared.neighbourhood.Neighbourhood.{Neighbourhood}
use Rattle.rule_text.specs.Neighbourhood.{offsets}
use Rattle.plane.specs.declared.cell.Cell.{Cell}
use Rattle.plane.specs.Plane.{Plane}
use Rattle.plane.specs.Range.{IsCoordinate}

-- the cells round this one lie in the range, too
pub record HasRoom (cell : Cell) : Type 0 where
  pub left : IsCoordinate (cell.x -ℤ pos 1)
  pub right : IsCoordinate (cell.x +ℤ pos 1)
  pub above : IsCoordinate (cell.y -ℤ pos 1)
  pub below : IsCoordinate (cell.y +ℤ pos 1)

-- what is live on the one plane is live on the other
abbrev pub IsKept : Plane → Plane → Type 0
IsKept old new = (x y : ℤ) → old x y ≡ true → new x y ≡ true

-- the cell is live, and so is each cell that has it as a neighbour
pub record HasAround (neighbourhood : Neighbourhood) (cell : Cell) (plane : Plane) : Type 0 where
  pub itself : plane cell.x cell.y ≡ true
  pub around : All (λ offset. plane (cell.x -ℤ offset.right) (cell.y -ℤ offset.down) ≡ true)
      (offsets neighbourhood)
