use Rattle.plane.specs.Centred.{centred}
use Rattle.pattern_writers.specs.RowRuns.{rows_between}
use Rattle.pattern_writers.proofs.RowsDown.{AreRunsSoFar, rows_left}
use Rattle.pattern_writers.proofs.rle_text.row_run.runs_between.Given as goal

abbrev pub invariant-loop-next : goal.invariant-loop-next
invariant-loop-next g l = AreRunsSoFar (rows_between l.from l.end (centred l.sq.level ((g.B.Look.book l.book).cells l.sq))) l.next l.runs.items

abbrev pub decreases-loop-next : goal.decreases-loop-next
decreases-loop-next g l = rows_left l.next
