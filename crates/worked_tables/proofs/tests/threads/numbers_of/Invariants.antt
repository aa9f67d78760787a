use Rattle.squares.specs.Book.{Keeps}
use Rattle.worked_tables.proofs.tests.threads.numbers_of.Given as goal

abbrev pub invariant-loop-step : goal.invariant-loop-step
invariant-loop-step g l = Keeps (g.S.Squares.book l.fn.book) (g.S.Squares.book l.book)
