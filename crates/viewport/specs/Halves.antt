-- The halves of a square: two squares beside one another.
use Rattle.std.specs.Prelude.{◌≡◌, ℕ, ◌+◌, ◌<◌, ◌≤◌, ℤ, pos, ◌||◌}
use Rattle.plane.specs.Laws.{moved}
use Rattle.plane.specs.Plane.{Plane}

-- the cells of two planes
abbrev pub either : Plane → Plane → Plane
either p q x y = p x y || q x y

-- two squares beside one another, of which the first has sides of this length
abbrev pub side_by_side : ℕ → Plane → Plane → Plane
side_by_side h p q = either p (moved (pos h) (pos 0) q)

-- a row of the plane is this row of two squares of these sides beside one another
pub record IsHalfRow (h : ℕ) (plane first second : Plane) (y row : ℕ) : Type 0 where
  pub inside : row < h
  pub cells : (x : ℤ) → plane x (pos y) ≡ side_by_side h first second x (pos row)

-- two squares of these sides beside one another are the plane's rows from `top` on
pub record AreRowsFrom (top h : ℕ) (plane first second : Plane) : Type 0 where
  pub cells : (x : ℤ) (y : ℕ) → y < h →
      plane x (pos (top + y)) ≡ side_by_side h first second x (pos y)

-- two squares, of h cells and n rows of blocks a side, beside one another are the upper or
-- the lower half of the plane, the one that has a row of blocks, and this is the row there
pub record IsHalfOfBlocks (n h : ℕ) (plane first second : Plane) (row there : ℕ) : Type 0 where
  pub inside : there < n
  pub upper : row < n → (row ≡ there) × AreRowsFrom 0 h plane first second
  pub lower : n ≤ row → (row ≡ n + there) × AreRowsFrom h h plane first second
