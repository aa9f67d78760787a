-- The state before an item, and the faults of the item in it.
use Rattle.std.specs.Prelude.{ℕ, ◌+◌, ◌==◌, nat_lt, Bool, true, false, ◌||◌, ℤ, pos, ◌+ℤ◌, int_lt, int_le, List, [], ◌∷◌, ◌++◌, Result, Ok, Err, Option, None, Some}
use Rattle.plane.specs.declared.cell.Cell.{Cell}
use Rattle.plane.specs.declared.refusal.Refusal.{Refusal}
use Rattle.plane.specs.declared.refusal.Refusal.TheVariants.{BadCount, OutOfRange, TooManyCells}
use Rattle.plane.specs.Limits.{coordinate_limit, most_live_cells}
use Rattle.rle_reader.specs.declared.item.Tag.{Tag}
use Rattle.rle_reader.specs.declared.item.Tag.TheVariants.{Dead, Live, Row}

-- the column and the row of the next item, and the number of live cells before it
pub record State : Type 0 where
  pub column : ℤ
  pub row : ℤ
  pub live : ℕ

-- at a column and a row, with so many live cells before
abbrev pub state_at : ℤ → ℤ → ℕ → State
state_at column row live = record { column = column; row = row; live = live }

-- before the first item
abbrev pub start_at : Cell → State
start_at corner = record { column = corner.x; row = corner.y; live = 0 }

-- after an item, where the pattern's left side is at this column
abbrev pub after_item : ℤ → State → Tag → ℕ → State
after_item left state Dead count = record state { column = state.column +ℤ pos count }
after_item left state Live count = record state {
  column = state.column +ℤ pos count;
  live = state.live + count;
}
after_item left state Row count = record state { column = left; row = state.row +ℤ pos count }

-- the coordinate is then above the limit
abbrev pub passes_limit : ℤ → ℕ → Bool
passes_limit coordinate count = int_lt coordinate_limit (coordinate +ℤ pos count)

-- the item leads out of the range, or its live cells lie below it
abbrev pub leaves_range : State → Tag → ℕ → Bool
leaves_range state Dead count = passes_limit state.column count
leaves_range state Live count = passes_limit state.column count || int_le coordinate_limit state.row
leaves_range state Row count = passes_limit state.row count

-- the live cells are then too many
abbrev pub passes_cells : State → Tag → ℕ → Bool
passes_cells state Dead count = false
passes_cells state Live count = nat_lt most_live_cells (state.live + count)
passes_cells state Row count = false

-- the refusal, where the test is true
abbrev pub when : Bool → Refusal → List Refusal
when true refusal = refusal ∷ []
when false refusal = []

-- the faults of an item in a state, rising by their numbers
unfoldable pub faults_of : State → Result Tag Refusal → ℕ → List Refusal
faults_of state (Err refusal) count = refusal ∷ when (count == 0) BadCount
faults_of state (Ok tag) count =
    when (count == 0) BadCount ++ when (leaves_range state tag count) OutOfRange
    ++ when (passes_cells state tag count) TooManyCells

-- the first of them
abbrev pub first_fault : List Refusal → Option Refusal
first_fault [] = None
first_fault (refusal ∷ rest) = Some refusal

-- the fault of an item that has a tag and a count: where it leads, or how many cells are live then
unfoldable pub motion_fault : State → Tag → ℕ → Option Refusal
motion_fault state tag count =
    first_fault
    (when (leaves_range state tag count) OutOfRange
    ++ when (passes_cells state tag count) TooManyCells)
