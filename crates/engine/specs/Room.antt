-- Runs for whose cells the tables that they may have are too small.
use Rattle.std.specs.Prelude.{◌≡◌, ℕ, ◌<◌}
use Rattle.rule_text.specs.CountRule.{CountRule}
use Rattle.plane.specs.Plane.{Plane, after}
use Rattle.plane.specs.Square.{IsSame}
use Rattle.universe.specs.Cells.{exponent_of, limit_of, live_cells, rule_of}
use Rattle.universe.specs.Later.{IsExhausted}
use Rattle.universe.specs.declared.universe.Universe.{Universe}

-- the cells before one of so many generations stand at a table for single generations; it has so
-- many pair slots, was opened with what these cells need and nothing else, and is full, or so many
-- slots have no room for what they need
pub record IsStuckWithin (by : CountRule) (plane : Plane) (pairs generations : ℕ) : Type 0 where
  pub done : ℕ
  pub before : done < generations
  pub there : Universe
  pub cells : IsSame (live_cells there) (after by plane done)
  pub rule : rule_of there ≡ by
  pub limit : limit_of there ≡ pairs
  pub one : exponent_of there ≡ 0
  pub exhausted : IsExhausted there
