-- Squares of cells: planes that are dead outside 0 <= x, y < side. A square of level k has the side
-- 2^k.
use Rattle.std.specs.Prelude.{◌≡◌, ℕ, ◌+◌, ◌-◌, ◌*◌, ◌^◌, ℤ, pos, ◌+ℤ◌, ◌-ℤ◌, Bool, false, ◌&&◌, if◌then◌else◌, int_lt, int_le, unsigned_abs, ◌==◌, min}
use Rattle.std.specs.Int.{bit_at}
use Rattle.rule_text.specs.CountRule.{CountRule}
use Rattle.plane.specs.Plane.{Plane, after}

-- the planes have the same live cells
pub record IsSame (plane other : Plane) : Type 0 where
  pub same : (x y : ℤ) → plane x y ≡ other x y

-- whether the coordinate lies in a square of this side
abbrev pub spans : ℕ → ℤ → Bool
spans side z = int_le (pos 0) z && int_lt z (pos side)

-- the plane's cells in the square of this side that begins at left and top, moved to the origin
abbrev pub cut : ℕ → ℕ → ℕ → Plane → Plane
cut side left top plane x y = (spans side x && spans side y) && plane (x +ℤ pos left) (y +ℤ pos top)

-- the plane has no live cell outside the square of this side
pub record IsSquare (side : ℕ) (plane : Plane) : Type 0 where
  pub dead : (x y : ℤ) → (spans side x && spans side y) ≡ false → plane x y ≡ false

abbrev pub empty : Plane
empty x y = false

-- four squares of a side beside and below one another
abbrev pub joined : ℕ → Plane → Plane → Plane → Plane → Plane
joined side nw ne sw se x y =
    if int_lt y (pos side)
    then if int_lt x (pos side) then nw x y else ne (x -ℤ pos side) y
    else if int_lt x (pos side) then sw x (y -ℤ pos side) else se (x -ℤ pos side) (y -ℤ pos side)

-- the centre of a square of this level
abbrev pub centre_of : ℕ → Plane → Plane
centre_of level = cut (2 ^ (level - 1)) (2 ^ (level - 2)) (2 ^ (level - 2))

-- one of the nine overlapping squares of the level below: it begins so many quarters of the side
-- from the top and the left
abbrev pub subsquare : ℕ → ℕ → ℕ → Plane → Plane
subsquare level row column =
    cut (2 ^ (level - 1)) (column * 2 ^ (level - 2)) (row * 2 ^ (level - 2))

-- the cells of a leaf
abbrev pub bit : ℕ → ℕ → Bool
bit word place = bit_at word place == 1

abbrev pub bits_plane : ℕ → Plane
bits_plane word x y = (spans 8 x && spans 8 y) && bit word (8 * unsigned_abs y + unsigned_abs x)

-- the centre after 2^e generations, but at most a quarter of the side
abbrev pub future : CountRule → ℕ → ℕ → Plane → Plane
future rule exponent level plane = centre_of level (after rule plane (2 ^ min exponent (level - 2)))
