-- The smallest box round the live cells of planes and squares.
use Rattle.std.specs.Prelude.{◌≡◌, ℕ, ℤ, pos, ◌+ℤ◌, ◌≤ℤ◌, ◌<ℤ◌, true, List, Option, None, Some, FitsSigned}
use Rattle.std.specs.Int.{w64}
use Rattle.std.specs.Option.{option_map}
use Rattle.plane.specs.declared.cell.Cell.{Cell}
use Rattle.plane.specs.declared.cell.Bounds.{Bounds}
use Rattle.plane.specs.Bounds.{bounds_of, box_union}
use Rattle.plane.specs.Listing.{IsListing}
use Rattle.plane.specs.Plane.{Plane}
use Rattle.plane.specs.Square.{IsSame, empty}

-- the box of the plane's live cells, if it has any
pub record HasBounds (plane : Plane) (box : Option Bounds) : Type 0 where
  pub cells : List Cell
  pub listing : IsListing cells plane
  pub bounds : box ≡ bounds_of cells

-- the box holds all live cells of the plane, and each of its sides has one
pub record IsBoxOf (plane : Plane) (box : Bounds) : Type 0 where
  pub columns : (x y : ℤ) → plane x y ≡ true → (box.left ≤ℤ x) × (x ≤ℤ box.right)
  pub rows : (x y : ℤ) → plane x y ≡ true → (box.top ≤ℤ y) × (y ≤ℤ box.bottom)
  pub at_left : (y : ℤ) × (plane box.left y ≡ true)
  pub at_right : (y : ℤ) × (plane box.right y ≡ true)
  pub at_top : (x : ℤ) × (plane x box.top ≡ true)
  pub at_bottom : (x : ℤ) × (plane x box.bottom ≡ true)

-- the box lies in the square of this side
pub record IsInSquare (side : ℕ) (box : Bounds) : Type 0 where
  pub left : pos 0 ≤ℤ box.left
  pub right : box.right <ℤ pos side
  pub top : pos 0 ≤ℤ box.top
  pub bottom : box.bottom <ℤ pos side
  pub wide : box.left ≤ℤ box.right
  pub tall : box.top ≤ℤ box.bottom

-- the box of the plane of a square, from the square's upper left corner
abbrev pub IsLocalBox : ℕ → Plane → Option Bounds → Type 0
IsLocalBox side plane None = IsSame plane empty
IsLocalBox side plane (Some box) = IsBoxOf plane box × IsInSquare side box

-- the box, moved so far to the right and down
abbrev pub moved_bounds : ℤ → ℤ → Bounds → Bounds
moved_bounds right down box = record {
  left = box.left +ℤ right;
  top = box.top +ℤ down;
  right = box.right +ℤ right;
  bottom = box.bottom +ℤ down;
}

abbrev pub moved_box : ℤ → ℤ → Option Bounds → Option Bounds
moved_box right down = option_map (moved_bounds right down)

-- the moved box has coordinates of 64 bits
pub record FitsMoved (right down : ℤ) (box : Bounds) : Type 0 where
  pub at_left : FitsSigned w64 (box.left +ℤ right)
  pub at_top : FitsSigned w64 (box.top +ℤ down)
  pub at_right : FitsSigned w64 (box.right +ℤ right)
  pub at_bottom : FitsSigned w64 (box.bottom +ℤ down)

-- the smallest box round two boxes, either of which may hold nothing
abbrev pub box_of_both : Option Bounds → Option Bounds → Option Bounds
box_of_both None b = b
box_of_both (Some a) None = Some a
box_of_both (Some a) (Some b) = Some (box_union a b)
