-- What stands before the body of an RLE file.
use Rattle.std.specs.Prelude.{ℕ, ℤ, List, ◌++◌, codes, decimal}
use Rattle.std.specs.Fmt.{signed_decimal}

-- where the pattern lies and in which generation
abbrev pub position_text : ℤ → ℤ → ℕ → List ℕ
position_text x y generation =
    codes "#CXRLE Pos=" ++ signed_decimal x ++ codes "," ++ signed_decimal y ++ codes " Gen="
    ++ decimal generation

-- the same as a line
abbrev pub position_line : ℤ → ℤ → ℕ → List ℕ
position_line x y generation = position_text x y generation ++ codes "\n"

-- the sides of the box and the rule
abbrev pub header_text : ℕ → ℕ → List ℕ → List ℕ
header_text width height rule =
    codes "x = " ++ decimal width ++ codes ", y = " ++ decimal height ++ codes ", rule = " ++ rule

-- the same as a line
abbrev pub header_line : ℕ → ℕ → List ℕ → List ℕ
header_line width height rule = header_text width height rule ++ codes "\n"
