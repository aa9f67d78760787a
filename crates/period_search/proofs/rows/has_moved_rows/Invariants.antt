use Rattle.std.proofs.Common.{pos, ◌+ℤ◌, ◌-ℤ◌, ◌≤ℤ◌}
use Rattle.std.specs.Prelude.{unsigned_abs}
use Rattle.engine.specs.Pattern.{plane_of}
use Rattle.engine.specs.Sessions.{IsSameSession, cells_of}
use Rattle.period_search.proofs.MovedRows.{AreMovedAbove}
use Rattle.period_search.proofs.rows.has_moved_rows.Given as goal

abbrev pub invariant-loop-row : goal.invariant-loop-row
invariant-loop-row l = record {
  session : IsSameSession l.fn.session l.session;
  low : l.bounds.top ≤ℤ l.y;
  high : l.y ≤ℤ (l.bounds.bottom +ℤ pos 1);
  above : AreMovedAbove (plane_of l.first) (cells_of l.fn.session) l.fn.right l.fn.down l.y;
}

abbrev pub decreases-loop-row : goal.decreases-loop-row
decreases-loop-row l = unsigned_abs ((l.bounds.bottom +ℤ pos 1) -ℤ l.y)
