use Rattle.std.proofs.Common.{All}
use Rattle.squares.specs.Book.{IsKnown, Keeps}
use Rattle.worked_tables.proofs.tests.rounds.jobs_of_leaves.all_of_leaves.Given as goal

abbrev pub invariant-loop-k : goal.invariant-loop-k
invariant-loop-k g l = Keeps (g.S.Squares.book l.fn.book) (g.S.Squares.book l.book) × All (IsKnown (g.S.Squares.book l.book) 4) l.squares.items
