use Rattle.std.proofs.Common.{length, take, ◌-◌, ◌≤◌}
use Rattle.std.specs.List.{AllByRecursion}
use Rattle.squares.specs.SquareRows.{EndsBy}
use Rattle.squares.proofs.square_rows.index_at.Given as goal

-- the segments before this one end before the column
abbrev pub invariant-loop-at : goal.invariant-loop-at
invariant-loop-at l = record {
  within : l.at ≤ length l.row;
  passed : AllByRecursion (EndsBy l.column) (take l.at l.row);
}

abbrev pub decreases-loop-at : goal.decreases-loop-at
decreases-loop-at l = length l.row - l.at
