use Rattle.squares.specs.Book.{Keeps}
use Rattle.worked_tables.proofs.tests.leaves.make_leaves.Given as goal

abbrev pub invariant-loop-word : goal.invariant-loop-word
invariant-loop-word g l = Keeps (g.S.Squares.book l.fn.book) (g.S.Squares.book l.book)
