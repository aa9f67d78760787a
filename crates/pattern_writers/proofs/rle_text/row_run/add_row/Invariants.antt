use Rattle.std.proofs.Common.{◌≡◌, ◌++◌, map, take}
use Rattle.pattern_writers.specs.RowRuns.{run_in}
use Rattle.pattern_writers.proofs.rle_text.row_run.add_row.Given as goal

abbrev pub invariant-loop-run : goal.invariant-loop-run
invariant-loop-run g l = l.runs.items ≡ l.fn.runs.items ++ map (run_in l.row) (take l.run-index l.run-items)
