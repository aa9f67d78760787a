use Rattle.std.proofs.Common.{◌-◌, ◌≤◌}
use Rattle.std.specs.List.{AllByRecursion}
use Rattle.squares.specs.Book.{AddsSquares}
use Rattle.squares.specs.SquareRows.{ArePassedBy, EndsBy, IsJoined}
use Rattle.squares.proofs.square_rows.join_rows.Given as goal

-- the row has the squares before this column
abbrev pub invariant-loop-column : goal.invariant-loop-column
invariant-loop-column g l = record {
  within : l.column ≤ l.width;
  passed : ArePassedBy l.upper l.lower l.from l.column;
  joined : IsJoined (g.S.Squares.book l.initial.book) (g.S.Squares.book l.book) l.upper l.lower l.column l.row.items;
  ends : AllByRecursion (EndsBy l.column) l.row.items;
  adds : AddsSquares (g.S.Squares.book l.initial.book) (g.S.Squares.book l.book);
}

abbrev pub decreases-loop-column : goal.decreases-loop-column
decreases-loop-column g l = l.width - l.column
