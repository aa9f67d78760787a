-- The line that says what a pixel is.
use Rattle.std.specs.Prelude.{ℕ, ◌*◌, ◌^◌, ◌==◌, if◌then◌else◌, List, ◌++◌, codes, decimal}
use Rattle.pattern_picture.specs.Scale.{block_span}
use Rattle.pattern_picture.specs.declared.scale.Scale.{Scale}
use Rattle.plane.specs.declared.cell.Bounds.{Bounds}

-- columns and rows
abbrev pub product_words : ℕ → ℕ → List ℕ
product_words columns rows = decimal columns ++ codes " x " ++ decimal rows

-- how many pixels a cell has, or how many cells a pixel
abbrev pub pixel_words : Scale → List ℕ
pixel_words scale =
    if scale.exponent == 0 then (product_words scale.zoom scale.zoom ++ codes " pixels a cell")
    else (product_words (2 ^ scale.exponent) (2 ^ scale.exponent) ++ codes " cells a pixel")

-- the size of the picture of a rectangle, and what a pixel is
abbrev pub scale_words : Bounds → Scale → List ℕ
scale_words shown scale =
    codes ": "
    ++ product_words (scale.zoom * block_span scale.exponent shown.left shown.right)
    (scale.zoom * block_span scale.exponent shown.top shown.bottom)
    ++ codes " pixels, " ++ pixel_words scale ++ codes "\n"

-- the line of a picture of this name
abbrev pub picture_line : List ℕ → Bounds → Scale → List ℕ
picture_line name shown scale = name ++ scale_words shown scale
