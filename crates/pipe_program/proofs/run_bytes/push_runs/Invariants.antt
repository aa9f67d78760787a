use Rattle.std.proofs.Common.{◌≡◌, ◌++◌, drop}
use Rattle.pipe_program.specs.RunBytes.{row_bytes}
use Rattle.pipe_program.proofs.run_bytes.push_runs.Given as goal

abbrev pub invariant-loop-run : goal.invariant-loop-run
invariant-loop-run l = l.fn.bytes.items ++ row_bytes l.y l.runs ≡ l.bytes.items ++ row_bytes l.y (drop l.run-index l.runs)
