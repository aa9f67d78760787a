-- Pictures of windows: a line for each row, and a mark for each cell.
use Rattle.std.specs.Prelude.{ℕ, zero, suc, ℤ, pos, ◌+ℤ◌, Bool, true, false, List, [], ◌∷◌, ◌++◌, codes}
use Rattle.std.specs.List.{flat_map}
use Rattle.plane.specs.Plane.{Plane}
use Rattle.plane.specs.Window.{Rectangle}

-- how a cell is drawn
abbrev pub mark_of : Bool → List ℕ
mark_of true = codes "*"
mark_of false = codes "."

-- so many coordinates, from this one on
unfoldable pub coordinates : ℤ → ℕ → List ℤ
coordinates first zero = []
coordinates first (suc more) = first ∷ coordinates (first +ℤ pos 1) more

-- the line of a row: so many cells of it from x on
abbrev pub row_text : Plane → ℤ → ℤ → ℕ → List ℕ
row_text plane y x width = flat_map (λ column. mark_of (plane column y)) (coordinates x width) ++ codes "\n"

-- the lines of a window's rows
abbrev pub picture_text : Plane → Rectangle → List ℕ
picture_text plane window = flat_map (λ row. row_text plane row window.x window.width) (coordinates window.y window.height)
