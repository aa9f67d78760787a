use Rattle.std.proofs.Common.{◌-◌, ◌≤◌}
use Rattle.std.specs.List.{AllByRecursion}
use Rattle.squares.specs.Book.{AddsSquares}
use Rattle.squares.specs.Spans.{in_spans, marked}
use Rattle.squares.specs.SquareRows.{EndsBy, IsRow}
use Rattle.squares.specs.Strips.{ArePassedIn}
use Rattle.squares.proofs.leaf_rows.leaf_row.Given as goal

-- the row has the leaves before this column
abbrev pub invariant-loop-column : goal.invariant-loop-column
invariant-loop-column g l = record {
  within : l.column ≤ l.width;
  passed : ArePassedIn l.spans l.passed l.top l.column;
  shown : IsRow (g.S.Squares.book l.book) 3 l.column l.top (marked (in_spans l.spans)) l.row.items;
  ends : AllByRecursion (EndsBy l.column) l.row.items;
  adds : AddsSquares (g.S.Squares.book l.initial.book) (g.S.Squares.book l.book);
}

abbrev pub decreases-loop-column : goal.decreases-loop-column
decreases-loop-column g l = l.width - l.column
