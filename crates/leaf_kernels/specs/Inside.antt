-- Cells of a square that lie so far inside it.
use Rattle.std.specs.Prelude.{◌≡◌, ℕ, ℤ, pos, ◌+ℤ◌, ◌≤ℤ◌, ◌<ℤ◌}
use Rattle.plane.specs.Plane.{Plane}

-- the coordinate is at least so far inside a square of this side
pub record IsInner (side margin : ℕ) (z : ℤ) : Type 0 where
  pub low : pos margin ≤ℤ z
  pub high : (z +ℤ pos margin) <ℤ pos side

-- the planes agree at the cells of the square that are at least so far inside
abbrev pub AgreeInside : ℕ → ℕ → Plane → Plane → Type 0
AgreeInside side margin plane other =
    (x y : ℤ) → IsInner side margin x → IsInner side margin y → plane x y ≡ other x y
