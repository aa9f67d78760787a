-- Blocks of cells: planes that are dead outside so many columns and rows.
use Rattle.std.specs.Prelude.{◌≡◌, ℕ, ℤ, pos, ◌-ℤ◌, false, if◌then◌else◌, int_lt}
use Rattle.plane.specs.Plane.{Plane}
use Rattle.plane.specs.Square.{spans}

-- one beside another that is so wide, and one below another that is so tall
abbrev pub beside : ℕ → Plane → Plane → Plane
beside width left right x y = if int_lt x (pos width) then left x y else right (x -ℤ pos width) y

abbrev pub below : ℕ → Plane → Plane → Plane
below tall upper lower x y = if int_lt y (pos tall) then upper x y else lower x (y -ℤ pos tall)

-- the plane has no live cell outside so many columns and rows
pub record IsInside (width tall : ℕ) (plane : Plane) : Type 0 where
  pub columns : (x y : ℤ) → spans width x ≡ false → plane x y ≡ false
  pub rows : (x y : ℤ) → spans tall y ≡ false → plane x y ≡ false
