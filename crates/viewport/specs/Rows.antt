-- Rows with live cells.
use Rattle.std.specs.Prelude.{◌≡◌, ℕ, ◌<◌, ◌≤◌, ℤ, pos, ◌≤ℤ◌, ◌<ℤ◌, true, false, Option, None, Some}
use Rattle.plane.specs.Plane.{Plane}

-- some cell of the row is live
pub record IsLiveRow (plane : Plane) (y : ℤ) : Type 0 where
  pub x : ℤ
  pub live : plane x y ≡ true

-- no cell is live in the rows from `from` to before `end`
pub record AreDeadRows (plane : Plane) (from end : ℤ) : Type 0 where
  pub dead : (x y : ℤ) → from ≤ℤ y → y <ℤ end → plane x y ≡ false

-- no cell is live in the rows from this one on
pub record IsDeadFrom (plane : Plane) (from : ℤ) : Type 0 where
  pub dead : (x y : ℤ) → from ≤ℤ y → plane x y ≡ false

-- the first row with a live cell from this one on, if there is one
abbrev pub IsFirstRow : Plane → ℤ → Option ℤ → Type 0
IsFirstRow plane from None = IsDeadFrom plane from
IsFirstRow plane from (Some row) = (from ≤ℤ row) × IsLiveRow plane row × AreDeadRows plane from row

-- the first row with a live cell among those of a square from `from` to before `end`, if there is
-- one
abbrev pub IsFirstRowBelow : Plane → ℕ → ℕ → Option ℕ → Type 0
IsFirstRowBelow plane from end None = AreDeadRows plane (pos from) (pos end)
IsFirstRowBelow plane from end (Some row) =
    (from ≤ row) × (row < end) × IsLiveRow plane (pos row) × AreDeadRows plane (pos from) (pos row)
