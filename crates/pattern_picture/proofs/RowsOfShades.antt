-- The shades of blocks, row by row.
use Rattle.std.proofs.Common.{◌≡◌, ℕ, ◌+◌, pos, ◌+ℤ◌, List, ◌++◌, map, sym, ◌∙◌, ap}
use Rattle.std.specs.List.{flat_map}
use Rattle.plane.specs.Plane.{Plane}
use Rattle.viewport.specs.Blocks.{block_counts}
use Rattle.viewport.specs.Picture.{coordinates}
use Rattle.viewport.specs.declared.blocks.Blocks.{Blocks}
use Rattle.viewport.proofs.PictureLines.{drawn-suc}
use Rattle.pattern_picture.specs.Shades.{row_shades, shade_of}

-- the shades of one row more
pub row_drawn : (plane : Plane) (blocks : Blocks) (n : ℕ) (shades new row : List ℕ) → shades ≡ flat_map (row_shades plane blocks) (coordinates blocks.top n) →
    new ≡ shades ++ map (shade_of blocks.exponent) row → row ≡ block_counts plane blocks.exponent (blocks.top +ℤ pos n) blocks.left blocks.width →
    new ≡ flat_map (row_shades plane blocks) (coordinates blocks.top (n + 1))
row_drawn plane blocks n shades new row so_far more is =
    more ∙ ap (λ l. l ++ map (shade_of blocks.exponent) row) so_far
    ∙ ap (λ l. flat_map (row_shades plane blocks) (coordinates blocks.top n) ++ map (shade_of blocks.exponent) l) is
    ∙ sym (drawn-suc (row_shades plane blocks) blocks.top n)
