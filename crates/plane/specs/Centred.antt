-- Squares around (0,0).
use Rattle.std.specs.Prelude.{◌≡◌, ℕ, ◌-◌, ◌^◌, ◌≤◌, ◌<◌, ℤ, pos, ◌+ℤ◌, Bool, false, ◌&&◌}
use Rattle.plane.specs.Plane.{Plane}
use Rattle.plane.specs.Square.{spans}

-- the plane of a square of this level, moved so that the square's centre corner is (0,0)
abbrev pub centred : ℕ → Plane → Plane
centred level plane x y = plane (x +ℤ pos (2 ^ (level - 1))) (y +ℤ pos (2 ^ (level - 1)))

-- whether the place lies in the square of this level around (0,0)
abbrev pub is_in_root : ℕ → ℤ → ℤ → Bool
is_in_root level x y =
    spans (2 ^ level) (x +ℤ pos (2 ^ (level - 1))) && spans (2 ^ level) (y +ℤ pos (2 ^ (level - 1)))

-- the square of this level around (0,0) has all live cells of the plane
pub record Holds (level : ℕ) (plane : Plane) : Type 0 where
  pub dead : (x y : ℤ) → is_in_root level x y ≡ false → plane x y ≡ false

-- no square around (0,0) of a smaller level, but of at least 4, has all live cells of the plane
pub record IsSmallestLevel (level : ℕ) (plane : Plane) : Type 0 where
  pub least : 4 ≤ level
  pub holds : Holds level plane
  pub no_smaller : (other : ℕ) → 4 ≤ other → other < level → ¬ Holds other plane
