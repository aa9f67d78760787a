-- After how many generations a plane is what it was, maybe moved.
use Rattle.std.specs.Prelude.{ℕ, ◌≤◌, ℤ}
use Rattle.rule_text.specs.CountRule.{CountRule}
use Rattle.plane.specs.Laws.{moved}
use Rattle.plane.specs.Plane.{Plane, after}
use Rattle.plane.specs.Square.{IsSame}

-- after so many generations, at least one, the plane is what it was, moved so far to the right and
-- down
pub record IsPeriod (rule : CountRule) (plane : Plane) (generations : ℕ) (right down : ℤ) :
    Type 0 where
  pub some : 1 ≤ generations
  pub same : IsSame (after rule plane generations) (moved right down plane)

-- some displacement goes with it
abbrev pub HasPeriod : CountRule → Plane → ℕ → Type 0
HasPeriod rule plane generations =
    (right : ℤ) × (down : ℤ) × IsPeriod rule plane generations right down

-- the least of all periods
pub record IsLeastPeriod (rule : CountRule) (plane : Plane) (generations : ℕ) (right down : ℤ) :
    Type 0 where
  pub period : IsPeriod rule plane generations right down
  pub least : (fewer : ℕ) → HasPeriod rule plane fewer → generations ≤ fewer
