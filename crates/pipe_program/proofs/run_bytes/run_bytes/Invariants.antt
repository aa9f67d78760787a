use Rattle.std.proofs.Common.{◌-ℤ◌}
use Rattle.std.specs.Prelude.{unsigned_abs}
use Rattle.engine.specs.Sessions.{IsSameSession, cells_of}
use Rattle.pipe_program.proofs.RowsOfRuns.{AreRunsAbove}
use Rattle.pipe_program.proofs.run_bytes.run_bytes.Given as goal

abbrev pub invariant-loop-bytes : goal.invariant-loop-bytes
invariant-loop-bytes l = record {
  session : IsSameSession l.fn.session l.session;
  above : AreRunsAbove (cells_of l.fn.session) l.y l.bytes.items;
}

abbrev pub decreases-loop-bytes : goal.decreases-loop-bytes
decreases-loop-bytes l = unsigned_abs (l.bounds.bottom -ℤ l.y)
