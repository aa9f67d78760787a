-- The runs of live cells of a row: each is its first cell and how many there are, from there to the
-- right.
use Rattle.std.specs.Prelude.{◌≡◌, ℕ, ◌<◌, ℤ, pos, ◌+ℤ◌, ◌-ℤ◌, ◌≤ℤ◌, ◌<ℤ◌, ◌||◌, Bool, List, [], ◌∷◌}
use Rattle.std.specs.List.{AllByRecursion, list_any}
use Rattle.plane.specs.Plane.{Plane}
use Rattle.plane.specs.Square.{spans}

-- whether the run has the cell at x
abbrev pub is_in_row_run : ℤ → (ℤ × ℕ) → Bool
is_in_row_run x run = spans run.1 (x -ℤ run.0)

-- the place behind the run's last cell
abbrev pub end_of : (ℤ × ℕ) → ℤ
end_of run = run.0 +ℤ pos run.1

-- no run is empty, and behind each one is a dead cell before the next begins
abbrev pub AreApart : List (ℤ × ℕ) → Type 0
AreApart [] = Unit {0}
AreApart (run ∷ runs) =
    (0 < run.1) × AllByRecursion (λ other. end_of run <ℤ other.0) runs × AreApart runs

-- whether one of the runs has the cell at x
unfoldable pub is_in_some : List (ℤ × ℕ) → ℤ → Bool
is_in_some runs x = list_any (is_in_row_run x) runs

-- the runs of a row of a plane, from left to right, each as long as it can be
pub record AreRowRuns (plane : Plane) (y : ℤ) (runs : List (ℤ × ℕ)) : Type 0 where
  pub apart : AreApart runs
  pub cells : (x : ℤ) → is_in_some runs x ≡ plane x y

-- runs that all end here or before
pub record EndBy (x : ℤ) (runs : List (ℤ × ℕ)) : Type 0 where
  pub apart : AreApart runs
  pub ends : AllByRecursion (λ run. end_of run ≤ℤ x) runs

-- the new runs have the cells of the old ones and these, which lie from left on within so many
-- places
pub record AddsCells (left : ℤ) (wide : ℕ) (cells : ℤ → Bool)
    (old new : List (ℤ × ℕ)) : Type 0 where
  pub end : EndBy (left +ℤ pos wide) new
  pub adds : (x : ℤ) → is_in_some new x ≡ (is_in_some old x || cells x)

-- the cells of a row of a square that begins at left
abbrev pub cells_at : Plane → ℤ → ℕ → ℤ → Bool
cells_at plane left y x = plane (x -ℤ left) (pos y)

-- the cells of one run
abbrev pub run_cells : ℤ → ℕ → ℤ → Bool
run_cells first count x = is_in_row_run x (first, count)

-- a row has one list of runs
abbrev pub OneListOfRuns : Type 0
OneListOfRuns =
    (plane : Plane) (y : ℤ) (runs others : List (ℤ × ℕ)) → AreRowRuns plane y runs →
    AreRowRuns plane y others → runs ≡ others
