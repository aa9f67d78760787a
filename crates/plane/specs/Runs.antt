-- Runs of live cells: each is its first cell and how many cells it has, from there to the right.
use Rattle.std.specs.Prelude.{◌≡◌, ◌⊎◌, ℕ, ◌<◌, ℤ, pos, ◌+ℤ◌, ◌≤ℤ◌, ◌<ℤ◌, int_le, int_lt, ◌&&◌, Bool, List, [], ◌∷◌}
use Rattle.std.specs.List.{AllByRecursion, list_any}
use Rattle.std.specs.Ordering.{int_eq}
use Rattle.plane.specs.Limits.{coordinate_limit}
use Rattle.plane.specs.Plane.{Plane}
use Rattle.plane.specs.Range.{IsCoordinate}
use Rattle.plane.specs.declared.cell.Cell.{Cell}

-- whether the run has the cell
abbrev pub is_in_run : ℤ → ℤ → (Cell × ℕ) → Bool
is_in_run x y run = int_eq y run.0.y && int_le run.0.x x && int_lt x (run.0.x +ℤ pos run.1)

-- the plane whose live cells are those of the runs
unfoldable pub runs_plane : List (Cell × ℕ) → Plane
runs_plane runs x y = list_any (is_in_run x y) runs

-- a run of one or more cells of the range
pub record IsRun (run : Cell × ℕ) : Type 0 where
  pub row : IsCoordinate run.0.y
  pub first : IsCoordinate run.0.x
  pub some : 0 < run.1
  pub end : (run.0.x +ℤ pos run.1) ≤ℤ coordinate_limit

-- in the order of reading the other run begins behind this one
abbrev pub Precedes : (Cell × ℕ) → (Cell × ℕ) → Type 0
Precedes run other =
    (run.0.y <ℤ other.0.y) ⊎ ((run.0.y ≡ other.0.y) × ((run.0.x +ℤ pos run.1) ≤ℤ other.0.x))

-- each run precedes all that stand behind it
abbrev pub AreRising : List (Cell × ℕ) → Type 0
AreRising [] = Unit {0}
AreRising (run ∷ runs) = AllByRecursion (Precedes run) runs × AreRising runs

-- runs of cells of the range in the order of reading, no two of which share a cell
pub record AreRuns (runs : List (Cell × ℕ)) : Type 0 where
  pub each : AllByRecursion IsRun runs
  pub rising : AreRising runs
