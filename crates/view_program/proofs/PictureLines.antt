-- The line of a picture.
use Rattle.std.proofs.Common.{◌≡◌, ◌≢◌, ℕ, ◌^◌, ◌==◌, false, List, ◌++◌, codes, append_assoc, arith}
use Rattle.pattern_picture.specs.declared.scale.Scale.{Scale}
use Rattle.view_program.specs.PictureLine.{pixel_words, product_words}

-- what is said of a pixel where every cell has some
pub pixels_of_cell : (scale : Scale) (old : List ℕ) → scale.exponent ≡ 0 → (old ++ product_words scale.zoom scale.zoom) ++ codes " pixels a cell" ≡ old ++ pixel_words scale
pixels_of_cell scale old none = rw none (append_assoc old (product_words scale.zoom scale.zoom) (codes " pixels a cell"))

-- and where it is a block of cells
pub cells_of_pixel : (scale : Scale) (old : List ℕ) → scale.exponent ≢ 0 →
    (old ++ product_words (2 ^ scale.exponent) (2 ^ scale.exponent)) ++ codes " cells a pixel" ≡ old ++ pixel_words scale
cells_of_pixel scale old some =
    let no : (scale.exponent == 0) ≡ false = grind (arith, some) in
    rw no (append_assoc old (product_words (2 ^ scale.exponent) (2 ^ scale.exponent)) (codes " cells a pixel"))
