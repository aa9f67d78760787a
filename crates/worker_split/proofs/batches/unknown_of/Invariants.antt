use Rattle.std.proofs.Common.{All}
use Rattle.squares.specs.Book.{IsKnown, Keeps}
use Rattle.node_table.specs.DesksAtWork.{book_here}
use Rattle.worker_split.proofs.batches.unknown_of.Given as goal

abbrev pub invariant-loop-k : goal.invariant-loop-k
invariant-loop-k l = Keeps (book_here l.initial.at) (book_here l.at) × All (IsKnown (book_here l.at) l.level) l.unknown.items
