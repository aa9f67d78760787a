use Rattle.std.proofs.Common.{◌+◌, ◌*◌}
use Rattle.plane.specs.Square.{future}
use Rattle.hashlife_step.specs.Tallies.{MakesResults, Tallies}
use Rattle.hashlife_step.proofs.Replaced.{IsReplaced}
use Rattle.hashlife_step.proofs.recursion.+future.Given as goal

abbrev pub decreases-future_in_order : goal.decreases-future_in_order
decreases-future_in_order g l = 5 * l.sq.level + 3

abbrev pub decreases-make : goal.decreases-make
decreases-make g l = 5 * l.sq.level + 2

abbrev pub decreases-finish : goal.decreases-finish
decreases-finish g l = 5 * l.level + 11

abbrev pub decreases-replace_by_futures : goal.decreases-replace_by_futures
decreases-replace_by_futures g l = 5 * l.level + 5

abbrev pub decreases-ask_ahead : goal.decreases-ask_ahead
decreases-ask_ahead g l = 5 * l.level + 4

abbrev pub invariant-replace_by_futures-loop-i : goal.invariant-replace_by_futures-loop-i
invariant-replace_by_futures-loop-i g l =
    IsReplaced (future (g.S.Squares.book l.fn.book).rule (g.S.Squares.book l.fn.book).exponent l.fn.level) (g.S.Squares.book l.fn.book) (g.S.Squares.book l.book) l.fn.level l.i l.fn.squares l.squares
    × Tallies (g.S.Squares.book l.fn.book) (g.S.Squares.book l.book) l.fn.level l.fn.tally.expansions l.tally.expansions

abbrev pub invariant-ask_ahead-loop-k : goal.invariant-ask_ahead-loop-k
invariant-ask_ahead-loop-k g l =
    MakesResults (g.S.Squares.book l.fn.book) (g.S.Squares.book l.book) l.fn.level l.fn.tally.expansions l.tally.expansions
