-- What holds of all planes and all rules.
use Rattle.std.specs.Prelude.{◌≡◌, ℕ, ◌+◌, ◌-◌, ◌^◌, ◌<◌, ◌≤◌, ℤ, pos, ◌+ℤ◌, ◌-ℤ◌, ◌≤ℤ◌, List, Some}
use Rattle.std.specs.List.{AllByRecursion}
use Rattle.rule_text.specs.CountRule.{CountRule}
use Rattle.plane.specs.declared.cell.Cell.{Cell}
use Rattle.plane.specs.declared.cell.Bounds.{Bounds}
use Rattle.plane.specs.Bounds.{bounds_of, IsWithin}
use Rattle.plane.specs.Listing.{IsListing}
use Rattle.plane.specs.Plane.{Plane, after}
use Rattle.plane.specs.Square.{IsSame, joined, centre_of, subsquare, future}
use Rattle.plane.specs.Window.{cells_in, IsInWindow}

-- a plane has at most one listing
abbrev pub OneListing : Type 0
OneListing =
    (plane : Plane) (cells others : List Cell) → IsListing cells plane → IsListing others plane →
    cells ≡ others

-- the coordinate is at most so far away
pub record IsNear (distance : ℕ) (from to : ℤ) : Type 0 where
  pub before : (from -ℤ pos distance) ≤ℤ to
  pub behind : to ≤ℤ (from +ℤ pos distance)

-- a cell after some generations depends only on the cells that are at most so many away
abbrev pub LightCone : Type 0
LightCone = (rule : CountRule) (plane other : Plane) (generations : ℕ) (x y : ℤ) →
    ((u v : ℤ) → IsNear generations x u → IsNear generations y v → plane u v ≡ other u v) →
    after rule plane generations x y ≡ after rule other generations x y

-- the plane, moved so far to the right and down
abbrev pub moved : ℤ → ℤ → Plane → Plane
moved right down plane x y = plane (x -ℤ right) (y -ℤ down)

-- generations move with the plane
abbrev pub Translation : Type 0
Translation = (rule : CountRule) (plane : Plane) (right down : ℤ) (generations : ℕ) (x y : ℤ) →
    after rule (moved right down plane) generations x y
    ≡ moved right down (after rule plane generations) x y

-- no smaller box holds the cells: each of its sides has one
pub record IsSmallest (box : Bounds) (cells : List Cell) : Type 0 where
  pub holds : AllByRecursion (IsWithin box) cells
  pub no_smaller : (other : Bounds) → AllByRecursion (IsWithin other) cells →
      (other.left ≤ℤ box.left) × (other.top ≤ℤ box.top) × (box.right ≤ℤ other.right)
      × (box.bottom ≤ℤ other.bottom)

-- the box of some cells is the smallest that holds them
abbrev pub SmallestBox : Type 0
SmallestBox = (cells : List Cell) (box : Bounds) → bounds_of cells ≡ Some box → IsSmallest box cells

-- a plane that is dead outside a window is listed by the window's live cells
abbrev pub BoundedListing : Type 0
BoundedListing =
    (left top : ℤ) (wide tall : ℕ) (plane : Plane) → IsInWindow left top wide tall plane →
    IsListing (cells_in left top wide tall plane) plane

-- four neighbouring ones of the nine overlapping squares' futures, joined; row and column are those
-- of the upper left one
abbrev pub four_futures : CountRule → ℕ → ℕ → Plane → ℕ → ℕ → Plane
four_futures rule exponent level plane row column =
    joined (2 ^ (level - 2))
    (future rule exponent (level - 1) (subsquare level row column plane))
    (future rule exponent (level - 1) (subsquare level row (column + 1) plane))
    (future rule exponent (level - 1) (subsquare level (row + 1) column plane))
    (future rule exponent (level - 1) (subsquare level (row + 1) (column + 1) plane))

-- the nine futures make four squares, and these make the future: by their futures where there is
-- time for it, else by their centres
pub record HasNineParts (rule : CountRule) (exponent level : ℕ) (plane : Plane) : Type 0 where
  pub by_futures : level - 2 ≤ exponent → IsSame (joined (2 ^ (level - 2))
      (future rule exponent (level - 1) (four_futures rule exponent level plane 0 0))
      (future rule exponent (level - 1) (four_futures rule exponent level plane 0 1))
      (future rule exponent (level - 1) (four_futures rule exponent level plane 1 0))
      (future rule exponent (level - 1) (four_futures rule exponent level plane 1 1)))
      (future rule exponent level plane)
  pub by_centres : exponent < level - 2 → IsSame (joined (2 ^ (level - 2))
      (centre_of (level - 1) (four_futures rule exponent level plane 0 0))
      (centre_of (level - 1) (four_futures rule exponent level plane 0 1))
      (centre_of (level - 1) (four_futures rule exponent level plane 1 0))
      (centre_of (level - 1) (four_futures rule exponent level plane 1 1)))
      (future rule exponent level plane)

abbrev pub NineParts : Type 0
NineParts =
    (rule : CountRule) (exponent level : ℕ) (plane : Plane) → 3 ≤ level →
    HasNineParts rule exponent level plane
