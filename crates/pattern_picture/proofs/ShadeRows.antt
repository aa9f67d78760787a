-- The rows of the shades of a rectangle of blocks.
use Rattle.std.proofs.Common.{◌≡◌, ℕ, zero, suc, ℤ, pos, ◌+ℤ◌, List, [], ◌∷◌, ◌++◌, length, map, refl, ap, ◌∙◌}
use Rattle.std.specs.List.{AllByRecursion, concat, flat_map}
use Rattle.std.proofs.lemmas.List.{length-map}
use Rattle.plane.specs.Plane.{Plane}
use Rattle.viewport.specs.Blocks.{block_count, block_counts}
use Rattle.viewport.specs.Picture.{coordinates}
use Rattle.viewport.specs.declared.blocks.Blocks.{Blocks}
use Rattle.pattern_picture.specs.Shades.{block_shades, row_shades, shade_of, shade_rows}

coordinates-length : (first : ℤ) (count : ℕ) → length (coordinates first count) ≡ count
unfolding coordinates
coordinates-length first zero = refl
coordinates-length first (suc more) = ap suc (coordinates-length (first +ℤ pos 1) more)

row_shades-length : (plane : Plane) (blocks : Blocks) (j : ℤ) → length (row_shades plane blocks j) ≡ blocks.width
row_shades-length plane blocks j =
    length-map (block_counts plane blocks.exponent j blocks.left blocks.width) (shade_of blocks.exponent)
    ∙ length-map (coordinates blocks.left blocks.width) (λ column. block_count plane blocks.exponent column j)
    ∙ coordinates-length blocks.left blocks.width

flat_map_joins : {A : Type 0} (row : A → List ℕ) (places : List A) → flat_map row places ≡ concat (map row places)
flat_map_joins row [] = refl
flat_map_joins row (place ∷ places) = ap (λ rest. row place ++ rest) (flat_map_joins row places)

each_long : {A : Type 0} (width : ℕ) (row : A → List ℕ) (places : List A) → ((place : A) → length (row place) ≡ width) → AllByRecursion (λ shades. length shades ≡ width) (map row places)
each_long width row [] same = tt
each_long width row (place ∷ places) same = (same place, each_long width row places same)

module _ (plane : Plane) (blocks : Blocks) where
  -- the rows are as many as the blocks are high
  pub shade_rows-length : length (shade_rows plane blocks) ≡ blocks.height
  shade_rows-length = length-map (coordinates blocks.top blocks.height) (row_shades plane blocks) ∙ coordinates-length blocks.top blocks.height

  -- each has as many shades as the blocks are wide
  pub shade_rows-width : AllByRecursion (λ shades. length shades ≡ blocks.width) (shade_rows plane blocks)
  shade_rows-width = each_long blocks.width (row_shades plane blocks) (coordinates blocks.top blocks.height) (row_shades-length plane blocks)

  -- and the shades are the rows, one behind the other
  pub shade_rows-joined : block_shades plane blocks ≡ concat (shade_rows plane blocks)
  shade_rows-joined = flat_map_joins (row_shades plane blocks) (coordinates blocks.top blocks.height)
