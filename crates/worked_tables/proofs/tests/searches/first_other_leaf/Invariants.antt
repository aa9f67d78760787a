use Rattle.squares.specs.Book.{Keeps}
use Rattle.worked_tables.proofs.tests.searches.first_other_leaf.Given as goal

abbrev pub invariant-loop-word : goal.invariant-loop-word
invariant-loop-word g l = Keeps (g.S.Squares.book l.fn.book) (g.S.Squares.book l.book)
