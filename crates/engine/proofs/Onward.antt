-- Runs for whose cells the tables are too small.
use Rattle.std.proofs.Common.{ℕ, ◌^◌, ap}
use Rattle.rule_text.specs.CountRule.{CountRule}
use Rattle.plane.specs.Plane.{Plane}
use Rattle.plane.specs.Square.{IsSame}
use Rattle.table_core.specs.declared.shape.Shape.{Shape}
use Rattle.universe.specs.Cells.{limit_of, live_cells, rule_of}
use Rattle.universe.specs.Later.{IsStuck}
use Rattle.universe.specs.declared.universe.Universe.{Universe}
use Rattle.engine.specs.Room.{IsStuckWithin}
use Rattle.engine.proofs.Reports.{same_generation}

-- where a universe is stuck, the run of its cells is
pub stuck_within : {start : Universe} → (generations : ℕ) → IsStuck start generations → IsStuckWithin (rule_of start) (live_cells start) (limit_of start) generations
stuck_within {start} generations stuck = record {
  done = stuck.done;
  before = stuck.stuck.before;
  there = stuck.there;
  cells = stuck.stuck.later.cells;
  rule = stuck.stuck.later.rule;
  limit = ap (λ (s : Shape). 2 ^ s.bits) stuck.stuck.later.limit;
  one = stuck.stuck.one;
  exhausted = stuck.stuck.exhausted;
}

-- where a plane is stuck, each with the same cells is
pub stuck_from : {rule : CountRule} {plane other : Plane} {pairs generations : ℕ} → IsSame plane other → IsStuckWithin rule plane pairs generations → IsStuckWithin rule other pairs generations
stuck_from {rule} {plane} {other} same stuck = record {
  done = stuck.done;
  before = stuck.before;
  there = stuck.there;
  cells = same_generation rule plane other same.same stuck.done (live_cells stuck.there) stuck.cells;
  rule = stuck.rule;
  limit = stuck.limit;
  one = stuck.one;
  exhausted = stuck.exhausted;
}
