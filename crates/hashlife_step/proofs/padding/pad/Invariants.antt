use Rattle.std.proofs.Common.{◌-◌}
use Rattle.plane.specs.Centred.{centred}
use Rattle.hashlife_step.proofs.CentredSquares.{IsReached}
use Rattle.hashlife_step.proofs.padding.pad.Given as goal

abbrev pub invariant-loop-padded : goal.invariant-loop-padded
invariant-loop-padded g l =
    IsReached (g.S.Squares.book l.fn.book) (g.S.Squares.book l.book) (centred l.fn.sq.level ((g.S.Squares.book l.fn.book).cells l.fn.sq)) 4 l.level l.padded

abbrev pub decreases-loop-padded : goal.decreases-loop-padded
decreases-loop-padded g l = l.level - l.padded.level
