-- The shades of grey that show how many cells of a block are live.
use Rattle.std.specs.Prelude.{ℕ, zero, suc, ◌-◌, ◌*◌, ◌/◌, ◌^◌, ◌==◌, nat_le, if◌then◌else◌, ℤ, List, map}
use Rattle.std.specs.List.{flat_map}
use Rattle.plane.specs.Plane.{Plane}
use Rattle.viewport.specs.Blocks.{block_counts}
use Rattle.viewport.specs.Picture.{coordinates}
use Rattle.viewport.specs.declared.blocks.Blocks.{Blocks}

-- the greatest k up to `most` with 2^k ≤ n, or 0
unfoldable pub log2_up_to : ℕ → ℕ → ℕ
log2_up_to zero n = zero
log2_up_to (suc k) n = if nat_le (2 ^ suc k) n then suc k else log2_up_to k n

-- floor(log2 n), of an n above 0
abbrev pub floor_log2 : ℕ → ℕ
floor_log2 n = log2_up_to n n

-- the shade of a block with a single live cell
abbrev pub lightest : ℕ
lightest = 160

-- how a block with so many live cells is drawn: white, 255, where there is none, and black, 0,
-- where a block of one cell has it
unfoldable pub shade_of : ℕ → ℕ → ℕ
shade_of exponent count =
    if count == 0 then 255 else if exponent == 0 then 0
    else lightest - (lightest * floor_log2 count / (2 * exponent))

-- the shades of a row of the blocks
abbrev pub row_shades : Plane → Blocks → ℤ → List ℕ
row_shades plane blocks j =
    map (shade_of blocks.exponent) (block_counts plane blocks.exponent j blocks.left blocks.width)

-- the shades of each row of the blocks
abbrev pub shade_rows : Plane → Blocks → List (List ℕ)
shade_rows plane blocks = map (row_shades plane blocks) (coordinates blocks.top blocks.height)

-- the shades of the blocks, row by row
abbrev pub block_shades : Plane → Blocks → List ℕ
block_shades plane blocks =
    flat_map (row_shades plane blocks) (coordinates blocks.top blocks.height)
