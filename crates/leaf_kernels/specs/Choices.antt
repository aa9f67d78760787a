-- What is the same at all cells of a vector of rows, and choices among nine such answers.
use Rattle.std.specs.Prelude.{ℕ, Bool, not, ◌&&◌}
use mathlib.Core.Bool.{beq}
use Rattle.plane.specs.Plane.{Plane}
use Rattle.leaf_kernels.specs.Rows.{HasCells, in_rows}
use Rattle.leaf_kernels.specs.declared.choice.Choice.{Choice}

-- all cells, or none
abbrev pub all_cells : Bool → Plane
all_cells live x lane = in_rows x lane && live

-- whether one is live and the other isn't
abbrev pub differ : Bool → Bool → Bool
differ p q = not (beq p q)

-- whether the answers to two numbers differ
abbrev pub between : (ℕ → Bool) → ℕ → ℕ → Bool
between answers m n = differ (answers m) (answers n)

-- the choice among these answers
pub record IsChoice (answers : ℕ → Bool) (choice : Choice) : Type 0 where
  pub zero : HasCells choice.zero (all_cells (answers 0))
  pub one : HasCells choice.one (all_cells (between answers 0 1))
  pub two : HasCells choice.two (all_cells (between answers 0 2))
  pub three : HasCells choice.three (all_cells (differ (between answers 0 2) (between answers 1 3)))
  pub four : HasCells choice.four (all_cells (between answers 0 4))
  pub five : HasCells choice.five (all_cells (differ (between answers 0 4) (between answers 1 5)))
  pub six : HasCells choice.six (all_cells (differ (between answers 0 4) (between answers 2 6)))
  pub seven : HasCells choice.seven (all_cells
      (differ (differ (between answers 0 4) (between answers 2 6))
      (differ (between answers 1 5) (between answers 3 7))))
  pub eight : HasCells choice.eight (all_cells (between answers 0 8))
