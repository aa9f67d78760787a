-- Blocks of cells, and how many of their cells are live.
use Rattle.std.specs.Prelude.{ℕ, ◌^◌, ℤ, pos, ◌+ℤ◌, ◌-ℤ◌, ◌*ℤ◌, ◌≤ℤ◌, List, length, map}
use Rattle.plane.specs.Plane.{Plane}
use Rattle.plane.specs.Window.{cells_in}
use Rattle.viewport.specs.Picture.{coordinates}

-- how many live cells block (i, j) has: from i and j times its side on
abbrev pub block_count : Plane → ℕ → ℤ → ℤ → ℕ
block_count plane exponent i j =
    length
    (cells_in (i *ℤ pos (2 ^ exponent)) (j *ℤ pos (2 ^ exponent)) (2 ^ exponent)
    (2 ^ exponent) plane)

-- how many live cells so many blocks of row j have, from column i on
abbrev pub block_counts : Plane → ℕ → ℤ → ℤ → ℕ → List ℕ
block_counts plane exponent j i count = map (λ column. block_count plane exponent column j) (coordinates i count)

-- of so many blocks of 2^exponent cells a side the first begins at -2^62 or further on, and the
-- last at 2^62 or before
pub record IsBlockRange (exponent : ℕ) (first : ℤ) (count : ℕ) : Type 0 where
  pub low : (pos 0 -ℤ pos (2 ^ 62)) ≤ℤ (first *ℤ pos (2 ^ exponent))
  pub high : ((first +ℤ pos count) *ℤ pos (2 ^ exponent)) ≤ℤ (pos (2 ^ 62) +ℤ pos (2 ^ exponent))
