-- At what scale a picture shows a rectangle of cells.
use Rattle.std.specs.Prelude.{◌≡◌, ℕ, ◌+◌, ◌*◌, ◌^◌, ◌<◌, ◌≤◌, max, ℤ, pos, ◌-ℤ◌, ◌≤ℤ◌, unsigned_abs}
use Rattle.std.specs.Int.{int_div_euclid}
use Rattle.plane.specs.declared.cell.Bounds.{Bounds}
use Rattle.viewport.specs.declared.blocks.Blocks.{Blocks}
use Rattle.pattern_picture.specs.declared.scale.Scale.{Scale}

-- the coordinates from the first to the last
pub record IsShownSide (first last : ℤ) : Type 0 where
  pub low : (pos 0 -ℤ pos (2 ^ 62)) ≤ℤ first
  pub order : first ≤ℤ last
  pub high : last ≤ℤ pos (2 ^ 62)

-- a rectangle that a picture can show
pub record IsShown (shown : Bounds) : Type 0 where
  pub columns : IsShownSide shown.left shown.right
  pub rows : IsShownSide shown.top shown.bottom

-- how many pixels a side of a picture may have at most
pub record IsSize (size : ℕ) : Type 0 where
  pub least : 16 ≤ size
  pub most : size ≤ 4096

-- the block of 2^exponent cells in which the coordinate z lies: floor(z / 2^exponent)
unfoldable pub block_at : ℕ → ℤ → ℤ
block_at exponent z = int_div_euclid z (pos (2 ^ exponent))

-- how many blocks there are from that of the first coordinate to that of the last
abbrev pub block_span : ℕ → ℤ → ℤ → ℕ
block_span exponent first last =
    unsigned_abs (block_at exponent last -ℤ block_at exponent first) + 1

-- how many blocks the longer side of the rectangle has
abbrev pub longer_side : ℕ → Bounds → ℕ
longer_side exponent shown =
    max (block_span exponent shown.left shown.right) (block_span exponent shown.top shown.bottom)

-- the blocks of 2^exponent cells from that of the rectangle's upper left cell to that of its lower
-- right one
abbrev pub blocks_of : ℕ → Bounds → Blocks
blocks_of exponent shown = record {
  exponent = exponent;
  left = block_at exponent shown.left;
  top = block_at exponent shown.top;
  width = block_span exponent shown.left shown.right;
  height = block_span exponent shown.top shown.bottom;
}

-- the scale at which the rectangle is shown as large as can be, with at most so many pixels on each
-- side
pub record IsScale (shown : Bounds) (size : ℕ) (scale : Scale) : Type 0 where
  pub fits : scale.zoom * longer_side scale.exponent shown ≤ size
  pub smallest_blocks : (other : ℕ) → other < scale.exponent → size < longer_side other shown
  pub one_pixel : 0 < scale.exponent → scale.zoom ≡ 1
  pub largest_cells : scale.exponent ≡ 0 → scale.zoom < 16 →
      size < (scale.zoom + 1) * longer_side 0 shown
  pub pixels : (1 ≤ scale.zoom) × (scale.zoom ≤ 16)
  pub limit : scale.exponent ≤ 62

-- a rectangle has one scale for a size
abbrev pub OneScale : Type 0
OneScale =
    (shown : Bounds) (size : ℕ) (scale other : Scale) → IsScale shown size scale →
    IsScale shown size other → scale ≡ other
