-- The runs of a plane, as bytes.
use Rattle.std.specs.Prelude.{◌≡◌, ◌≢◌, ℕ, ℤ, ◌<ℤ◌, true, List, [], ◌∷◌, ◌++◌, Contains}
use Rattle.std.specs.Int.{cast_unsigned, to_le_bytes, w64}
use Rattle.std.specs.List.{AllByRecursion}
use Rattle.plane.specs.Plane.{Plane}
use Rattle.viewport.specs.RowRuns.{AreRowRuns}

-- a row and its runs
abbrev pub RowOfRuns : Type 0
RowOfRuns = ℤ × List (ℤ × ℕ)

-- x, y and the number of cells, as numbers of 64 bits with the low byte first
abbrev pub run_bytes : ℤ → (ℤ × ℕ) → List ℕ
run_bytes y run =
    to_le_bytes w64 (cast_unsigned w64 run.0) ++ to_le_bytes w64 (cast_unsigned w64 y)
    ++ to_le_bytes w64 run.1

-- run by run
unfoldable pub row_bytes : ℤ → List (ℤ × ℕ) → List ℕ
row_bytes y [] = []
row_bytes y (run ∷ runs) = run_bytes y run ++ row_bytes y runs

-- row by row
unfoldable pub rows_bytes : List RowOfRuns → List ℕ
rows_bytes [] = []
rows_bytes (row ∷ rows) = row_bytes row.0 row.1 ++ rows_bytes rows

-- each row lies above all that stand behind it
abbrev pub AreRisingRows : List RowOfRuns → Type 0
AreRisingRows [] = Unit {0}
AreRisingRows (row ∷ rows) = AllByRecursion (λ other. row.0 <ℤ other.0) rows × AreRisingRows rows

-- the row has these runs of the plane, one or more
abbrev pub IsRowOf : Plane → RowOfRuns → Type 0
IsRowOf plane row = AreRowRuns plane row.0 row.1 × (row.1 ≢ [])

-- the bytes are those of all runs of live cells of the plane, row by row
pub record AreRunBytes (plane : Plane) (bytes : List ℕ) : Type 0 where
  pub rows : List RowOfRuns
  pub each : AllByRecursion (IsRowOf plane) rows
  pub rising : AreRisingRows rows
  pub whole : (x y : ℤ) → plane x y ≡ true → (row : RowOfRuns) × Contains rows row × (row.0 ≡ y)
  pub is : bytes ≡ rows_bytes rows
