-- The runs of live cells in rows.
use Rattle.std.specs.Prelude.{◌≡◌, ℕ, ℤ, pos, ◌+ℤ◌, int_le, int_lt, ◌&&◌, List, [], ◌∷◌, ◌++◌, map, if◌then◌else◌}
use Rattle.plane.specs.declared.cell.Cell.{Cell}
use Rattle.plane.specs.Listing.{is_at}
use Rattle.plane.specs.Plane.{Plane}
use Rattle.viewport.specs.RowRuns.{AreRowRuns, end_of}
use Rattle.pattern_writers.specs.declared.rle_text.row_run.RowRun.{RowRun}

-- the run of one cell
abbrev pub run_at : Cell → RowRun
run_at cell = record { row = cell.y; first = cell.x; end = cell.x +ℤ pos 1 }

-- the first cell of a run
abbrev pub first_cell : RowRun → Cell
first_cell run = record { y = run.row; x = run.first }

-- a run and the runs that follow it: if the first of these begins where it ends, they are one run
abbrev pub joined : RowRun → List RowRun → List RowRun
joined run [] = run ∷ []
joined run (next ∷ runs) =
    if is_at run.end run.row (first_cell next) then (record run { end = next.end } ∷ runs)
    else (run ∷ next ∷ runs)

-- the longest runs of cells in the order of reading
abbrev pub runs_of : List Cell → List RowRun
runs_of [] = []
runs_of (cell ∷ cells) = joined (run_at cell) (runs_of cells)

-- the run of a row, from its first column and its length
abbrev pub run_in : ℤ → (ℤ × ℕ) → RowRun
run_in y run = record { row = y; first = run.0; end = end_of run }

-- the new runs are the old ones and those of a row of the plane
pub record AddsRow (plane : Plane) (y : ℤ) (old new : List RowRun) : Type 0 where
  pub runs : List (ℤ × ℕ)
  pub of_row : AreRowRuns plane y runs
  pub added : new ≡ old ++ map (run_in y) runs

-- the plane's rows from `from` to before `end`, and no other cell
abbrev pub rows_between : ℤ → ℤ → Plane → Plane
rows_between from end plane x y = (int_le from y && int_lt y end) && plane x y
