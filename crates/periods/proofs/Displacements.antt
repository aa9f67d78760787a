-- Some live cells that are moved in two ways and stay the same were moved equally far.
use Rattle.std.proofs.Common.{◌≡◌, ◌≢◌, ℤ, pos, ◌+ℤ◌, ◌-ℤ◌, Bool, true, false, ◌||◌, Option, None, Some, List, [], ◌∷◌, refl, sym, ◌∙◌, ap, arith}
use Rattle.std.specs.List.{AllByRecursion, list_any}
use Rattle.std.proofs.lemmas.Int.{ints}
use Rattle.plane.specs.declared.cell.Cell.{Cell}
use Rattle.plane.specs.declared.cell.Bounds.{Bounds}
use Rattle.plane.specs.Bounds.{bounds_of, IsWithin}
use Rattle.plane.specs.Laws.{IsSmallest, moved}
use Rattle.plane.specs.Listing.{plane_of, is_at, IsListing}
use Rattle.plane.specs.Plane.{Plane}
use Rattle.plane.specs.Square.{IsSame}
use Rattle.plane.proofs.Around.{live_cell}
use Rattle.plane.proofs.Boxes.{box_at, smallest_box_lem, some_box}
use Rattle.plane.proofs.Elements.{AllByRecursion-weaker}
use Rattle.plane.proofs.Listings.{is_at-own}
use Rattle.periods.proofs.Moves.{taken_back}

or_kept : (b c : Bool) → c ≡ true → (b || c) ≡ true
or_kept true c is = refl
or_kept false c is = is

-- each cell of a list is live on its plane
pub listed_live : (cells : List Cell) → AllByRecursion (λ cell. plane_of cells cell.x cell.y ≡ true) cells
unfolding plane_of
listed_live [] = tt
listed_live (cell ∷ cells) = (
  ap (λ b. b || list_any (is_at cell.x cell.y) cells) (is_at-own cell),
  AllByRecursion-weaker _ _ (λ other live. or_kept (is_at other.x other.y cell) (plane_of cells other.x other.y) live) cells (listed_live cells),
)

-- the box, moved so far to the right and down
abbrev moved_box : ℤ → ℤ → Bounds → Bounds
moved_box right down box = record {
  left = box.left +ℤ right;
  top = box.top +ℤ down;
  right = box.right +ℤ right;
  bottom = box.bottom +ℤ down;
}

moved_holds : (box : Bounds) (right down : ℤ) (cell from : Cell) → IsWithin box from → cell.x -ℤ right ≡ from.x → cell.y -ℤ down ≡ from.y → IsWithin (moved_box right down box) cell
moved_holds box right down cell from within across below = record {
  left = omega (arith, ints, within.left);
  top = omega (arith, ints, within.top);
  right = omega (arith, ints, within.right);
  bottom = omega (arith, ints, within.bottom);
}

-- the cell from which a live cell came is live
came_from : (plane : Plane) (cells : List Cell) (right down : ℤ) (cell : Cell) → IsListing cells plane → IsSame plane (moved right down plane) →
    plane_of cells cell.x cell.y ≡ true → plane_of cells (cell.x -ℤ right) (cell.y -ℤ down) ≡ true
came_from plane cells right down cell listing is live =
    listing.live (cell.x -ℤ right) (cell.y -ℤ down) ∙ sym (is.same cell.x cell.y) ∙ sym (listing.live cell.x cell.y) ∙ live

-- where the cells are the same after a move, a box that holds them still does where it is moved
within_moved : (plane : Plane) (cells : List Cell) (box : Bounds) (right down : ℤ) → IsListing cells plane → IsSame plane (moved right down plane) →
    AllByRecursion (IsWithin box) cells → AllByRecursion (IsWithin (moved_box right down box)) cells
within_moved plane cells box right down listing is within =
    AllByRecursion-weaker (λ cell. plane_of cells cell.x cell.y ≡ true) (IsWithin (moved_box right down box))
    (λ cell live.
    let one = live_cell (IsWithin box) cells (cell.x -ℤ right) (cell.y -ℤ down) within (came_from plane cells right down cell listing is live) in
    moved_holds box right down cell one.cell one.holds one.x_is one.y_is)
    cells (listed_live cells)

-- a smallest box that holds its cells also where it is moved is not moved at all
box_stays : (cells : List Cell) (box : Bounds) (right down : ℤ) → IsSmallest box cells → AllByRecursion (IsWithin (moved_box right down box)) cells → (right ≡ pos 0) × (down ≡ pos 0)
box_stays cells box right down smallest within =
    let sides = smallest.no_smaller (moved_box right down box) within in
    (omega (arith, ints, sides.0, sides.2), omega (arith, ints, sides.1, sides.3))

-- some live cells that are the same after a move are not moved at all
stays : (plane : Plane) (cells : List Cell) (bounds : Option Bounds) (right down : ℤ) → IsListing cells plane → bounds_of cells ≡ bounds → bounds ≢ None →
    IsSame plane (moved right down plane) → (right ≡ pos 0) × (down ≡ pos 0)
stays plane cells None right down listing is some same = absurd (some refl)
stays plane cells (Some box) right down listing is some same =
    let smallest : IsSmallest box cells = smallest_box_lem cells box is in
    box_stays cells box right down smallest (within_moved plane cells box right down listing same smallest.holds)

some_bounds : (cells : List Cell) → cells ≢ [] → bounds_of cells ≢ None
some_bounds [] some = absurd (some refl)
some_bounds (cell ∷ cells) some = some_box (box_at cell) cells

equal_by_difference : (a b : ℤ) → b -ℤ a ≡ pos 0 → a ≡ b
equal_by_difference a b e = omega (arith, ints)

-- two moves that make one plane of some live cells go equally far
pub one_move : (plane : Plane) (cells : List Cell) (a b c d : ℤ) → IsListing cells plane → cells ≢ [] → IsSame (moved a b plane) (moved c d plane) → (a ≡ c) × (b ≡ d)
one_move plane cells a b c d listing some is =
    let both = stays plane cells (bounds_of cells) (c -ℤ a) (d -ℤ b) listing refl (some_bounds cells some) (taken_back a b c d plane plane is) in
    (equal_by_difference a c both.0, equal_by_difference b d both.1)
