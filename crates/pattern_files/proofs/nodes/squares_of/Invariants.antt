use Rattle.std.proofs.Common.{map}
use Rattle.squares.specs.Book.{Keeps, KeepsResults}
use Rattle.pattern_files.proofs.NodeSquares.{HaveRead}
use Rattle.pattern_files.proofs.nodes.squares_of.Given as goal

abbrev pub invariant-loop-line : goal.invariant-loop-line
invariant-loop-line g l = record {
  read : HaveRead (g.S.Squares.book l.book) (map (λ line. line.node) l.initial.line-iterator) (map (λ line. line.node) l.line-iterator) l.squares.items;
  keeps : Keeps (g.S.Squares.book l.fn.book) (g.S.Squares.book l.book);
  results : KeepsResults (g.S.Squares.book l.fn.book) (g.S.Squares.book l.book);
}
