-- Rows of one plane that are those of another one, moved.
use Rattle.std.specs.Prelude.{◌≡◌, ℤ, ◌+ℤ◌, ◌-ℤ◌}
use Rattle.plane.specs.Plane.{Plane}
use Rattle.viewport.specs.Rows.{AreDeadRows}

-- of the rows from y to this one, all moved, the other plane has the cells of this one and no
-- others
pub record IsNextRow (plane other : Plane) (right down y row : ℤ) : Type 0 where
  pub dead : AreDeadRows other (y +ℤ down) (row +ℤ down)
  pub cells : (x : ℤ) → other x (row +ℤ down) ≡ plane (x -ℤ right) row
