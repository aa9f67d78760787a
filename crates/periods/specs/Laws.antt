-- What holds of the periods of all planes.
use Rattle.std.specs.Prelude.{◌≡◌, ◌≢◌, ◌↔◌, ℕ, ◌+◌, ◌*◌, ◌≤◌, ℤ, pos, ◌+ℤ◌, ◌*ℤ◌, List, []}
use Rattle.rule_text.specs.CountRule.{CountRule, IsRule}
use Rattle.plane.specs.declared.cell.Cell.{Cell}
use Rattle.plane.specs.Laws.{moved}
use Rattle.plane.specs.Listing.{IsListing}
use Rattle.plane.specs.Plane.{Plane, after}
use Rattle.plane.specs.Square.{IsSame, empty}
use Rattle.periods.specs.Periods.{IsPeriod, HasPeriod, IsLeastPeriod}

-- a period of some live cells has one displacement
abbrev pub OneDisplacement : Type 0
OneDisplacement =
    (rule : CountRule) (plane : Plane) (cells : List Cell) (generations : ℕ)
    (right down other_right other_down : ℤ) → IsListing cells plane → cells ≢ [] →
    IsPeriod rule plane generations right down →
    IsPeriod rule plane generations other_right other_down →
    (right ≡ other_right) × (down ≡ other_down)

-- two periods, one after the other, are a period
abbrev pub PeriodsAdd : Type 0
PeriodsAdd =
    (rule : CountRule) (plane : Plane) (generations more : ℕ)
    (right down more_right more_down : ℤ) → IsPeriod rule plane generations right down →
    IsPeriod rule plane more more_right more_down →
    IsPeriod rule plane (generations + more) (right +ℤ more_right) (down +ℤ more_down)

-- a period, so many times
abbrev pub Multiples : Type 0
Multiples =
    (rule : CountRule) (plane : Plane) (generations times : ℕ) (right down : ℤ) → 1 ≤ times →
    IsPeriod rule plane generations right down →
    IsPeriod rule plane (times * generations) (pos times *ℤ right) (pos times *ℤ down)

-- each period is a multiple of the least
abbrev pub LeastDivides : Type 0
LeastDivides =
    (rule : CountRule) (plane : Plane) (least generations : ℕ) (right down : ℤ) →
    IsLeastPeriod rule plane least right down → HasPeriod rule plane generations →
    (times : ℕ) × (generations ≡ times * least)

-- the periods of some live cells are the multiples of the least, and no others
abbrev pub ExactlyMultiples : Type 0
ExactlyMultiples =
    (rule : CountRule) (plane : Plane) (cells : List Cell) (least generations : ℕ)
    (least_right least_down right down : ℤ) → IsListing cells plane → cells ≢ [] →
    IsLeastPeriod rule plane least least_right least_down →
    IsPeriod rule plane generations right down
    ↔ ((times : ℕ) × (1 ≤ times) × (generations ≡ times * least)
    × (right ≡ pos times *ℤ least_right) × (down ≡ pos times *ℤ least_down))

-- where no cell is live, none comes to life
abbrev pub EmptyPlane : Type 0
EmptyPlane = (rule : CountRule) (plane : Plane) → IsRule rule → IsSame plane empty →
    IsLeastPeriod rule plane 1 (pos 0) (pos 0)

-- some generations that are no period have no period as a divisor
abbrev pub NoPeriodNoDivisor : Type 0
NoPeriodNoDivisor =
    (rule : CountRule) (plane : Plane) (generations : ℕ) → 1 ≤ generations →
    (HasPeriod rule plane generations → ⊥) →
    (divisor times : ℕ) → generations ≡ times * divisor → HasPeriod rule plane divisor → ⊥

-- a plane that is moved has the same periods
abbrev pub MovedPlane : Type 0
MovedPlane =
    (rule : CountRule) (plane : Plane) (generations : ℕ) (right down across below : ℤ) →
    IsPeriod rule (moved across below plane) generations right down
    ↔ IsPeriod rule plane generations right down

-- planes with the same cells have the same periods
abbrev pub SamePlane : Type 0
SamePlane =
    (rule : CountRule) (plane other : Plane) (generations : ℕ) (right down : ℤ) →
    IsSame plane other →
    IsPeriod rule plane generations right down ↔ IsPeriod rule other generations right down

-- the periods of a plane are periods of each of its later generations
abbrev pub LaterGenerations : Type 0
LaterGenerations =
    (rule : CountRule) (plane : Plane) (later generations : ℕ) (right down : ℤ) →
    IsPeriod rule plane generations right down →
    IsPeriod rule (after rule plane later) generations right down
