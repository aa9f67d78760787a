use Rattle.std.proofs.Common.{max}
use Rattle.plane.specs.Centred.{centred}
use Rattle.hashlife_step.proofs.CentredSquares.{IsReached}
use Rattle.hashlife_step.proofs.trimming.trim.Given as goal

abbrev pub invariant-loop-trimmed : goal.invariant-loop-trimmed
invariant-loop-trimmed g l =
    IsReached (g.S.Squares.book l.fn.book) (g.S.Squares.book l.book) (centred l.fn.sq.level ((g.S.Squares.book l.fn.book).cells l.fn.sq)) 4 (max 4 l.fn.sq.level) l.trimmed

abbrev pub decreases-loop-trimmed : goal.decreases-loop-trimmed
decreases-loop-trimmed g l = l.trimmed.level
