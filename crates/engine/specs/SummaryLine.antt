-- The line of a generation.
use Rattle.std.specs.Prelude.{ℕ, Option, None, Some, List, [], ◌++◌, codes, decimal}
use Rattle.std.specs.Fmt.{signed_decimal}
use Rattle.plane.specs.declared.cell.Bounds.{Bounds}
use Rattle.engine.specs.declared.running.Summary.{Summary}

-- from where to where a box goes
abbrev pub bounds_text : Option Bounds → List ℕ
bounds_text None = []
bounds_text (Some box) =
    codes ", x " ++ signed_decimal box.left ++ codes " to " ++ signed_decimal box.right
    ++ codes ", y " ++ signed_decimal box.top ++ codes " to " ++ signed_decimal box.bottom

-- the line of a generation: its number, how many cells are live, and from where to where they go
abbrev pub summary_line : Summary → List ℕ
summary_line summary =
    decimal summary.generation ++ codes ": " ++ decimal summary.population ++ codes " cells"
    ++ bounds_text summary.bounds ++ codes "\n"
