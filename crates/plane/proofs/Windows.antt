-- The live cells of a window are a listing.
use Rattle.std.proofs.Common.{◌≡◌, ℕ, zero, suc, ℤ, pos, ◌+ℤ◌, ◌-ℤ◌, ◌<ℤ◌, Bool, true, false, cond, ◌&&◌, ◌||◌, List, [], ◌∷◌, ◌++◌, filter, refl, sym, ◌∙◌, ap, arith}
use Rattle.std.specs.declared.cmp.Ordering.TheVariants.{Less}
use Rattle.std.specs.List.{list_any, AllByRecursion}
use Rattle.std.specs.List.Sorted.{IsStrictlySortedBy}
use Rattle.std.specs.Ordering.{int_eq}
use Rattle.std.proofs.lemmas.Int.{ints}
use Rattle.std.proofs.lemmas.List.Folds.{list_any-append}
use Rattle.std.proofs.lemmas.List.Kept.{IsStrictlySortedBy-filter}
use Rattle.plane.specs.declared.cell.Cell.{Cell}
use Rattle.plane.specs.Listing.{reading_order, is_at, plane_of, IsListing}
use Rattle.plane.specs.Plane.{Plane}
use Rattle.plane.specs.Square.{IsSquare, spans}
use Rattle.plane.specs.Window.{row_places, places, cells_in, square_cells, IsInWindow}
use Rattle.plane.proofs.Cells.{at}
use Rattle.plane.proofs.Living.{at_cell, kept_or, left_out}
use Rattle.plane.proofs.Elements.{AllByRecursion-append}

or_and : (a b c : Bool) → ((a && b) || (a && c)) ≡ (a && (b || c))
or_and true b c = refl
or_and false b c = refl

and_nothing : (b : Bool) → (b && false) ≡ false
and_nothing true = refl
and_nothing false = refl

and_one : (b : Bool) → (b && true) ≡ b
and_one true = refl
and_one false = refl

spans_none : (z : ℤ) → spans 0 z ≡ false
spans_none z = grind (arith, ints)

spans_one_more : (n : ℕ) (z from : ℤ) → (int_eq z from || spans n (z -ℤ (from +ℤ pos 1))) ≡ spans (suc n) (z -ℤ from)
spans_one_more n z from = grind (arith, ints)

-- a place is among those of a row
in_row : (left top : ℤ) (wide : ℕ) (x y : ℤ) → list_any (is_at x y) (row_places left top wide) ≡ (int_eq y top && spans wide (x -ℤ left))
unfolding row_places
in_row left top zero x y = sym (ap (λ b. int_eq y top && b) (spans_none (x -ℤ left)) ∙ and_nothing (int_eq y top))
in_row left top (suc wide) x y =
    ap (λ b. (int_eq y top && int_eq x left) || b) (in_row (left +ℤ pos 1) top wide x y)
    ∙ or_and (int_eq y top) (int_eq x left) (spans wide (x -ℤ (left +ℤ pos 1)))
    ∙ ap (λ b. int_eq y top && b) (spans_one_more wide x left)

spans_row : (n : ℕ) (y top : ℤ) (b : Bool) → ((int_eq y top && b) || (b && spans n (y -ℤ (top +ℤ pos 1)))) ≡ (b && spans (suc n) (y -ℤ top))
spans_row n y top true = ap (λ c. c || spans n (y -ℤ (top +ℤ pos 1))) (and_one (int_eq y top)) ∙ spans_one_more n y top
spans_row n y top false = ap (λ c. c || false) (and_nothing (int_eq y top))

-- a place is among those of a window
in_window : (left top : ℤ) (wide tall : ℕ) (x y : ℤ) → list_any (is_at x y) (places left top wide tall) ≡ (spans wide (x -ℤ left) && spans tall (y -ℤ top))
unfolding places
in_window left top wide zero x y = sym (ap (λ b. spans wide (x -ℤ left) && b) (spans_none (y -ℤ top)) ∙ and_nothing (spans wide (x -ℤ left)))
in_window left top wide (suc tall) x y =
    list_any-append (is_at x y) (row_places left top wide) (places left (top +ℤ pos 1) wide tall)
    ∙ ap (λ b. b || list_any (is_at x y) (places left (top +ℤ pos 1) wide tall)) (in_row left top wide x y)
    ∙ ap (λ b. (int_eq y top && spans wide (x -ℤ left)) || b) (in_window left (top +ℤ pos 1) wide tall x y)
    ∙ spans_row tall y top (spans wide (x -ℤ left))

-- what is among those that pass a test
any_filter : (plane : Plane) (x y : ℤ) (cells : List Cell) →
    list_any (is_at x y) (filter (λ cell. plane cell.x cell.y) cells) ≡ (list_any (is_at x y) cells && plane x y)
any_filter plane x y [] = refl
any_filter plane x y (cell ∷ cells) =
    elim (plane cell.x cell.y) as (λ b. plane cell.x cell.y ≡ b → list_any (is_at x y) (cond b (cell ∷ filter (λ cell. plane cell.x cell.y) cells) (filter (λ cell. plane cell.x cell.y) cells)) ≡ ((is_at x y cell || list_any (is_at x y) cells) && plane x y)) [
      | true ↦ λ live.
          ap (λ b. is_at x y cell || b) (any_filter plane x y cells)
          ∙ kept_or (is_at x y cell) (plane x y) (list_any (is_at x y) cells) (at_cell plane x y cell true live)
      | false ↦ λ dead.
          any_filter plane x y cells
          ∙ left_out (is_at x y cell) (plane x y) (list_any (is_at x y) cells) (at_cell plane x y cell false dead)
    ] refl

before_row : (x y right : ℤ) (wide : ℕ) → x <ℤ right → AllByRecursion (λ other. reading_order (at x y) other ≡ Less) (row_places right y wide)
unfolding row_places
before_row x y right zero less = tt
before_row x y right (suc wide) less = (grind (arith, ints), before_row x y (right +ℤ pos 1) wide (omega (arith, ints)))

above_row : (x y left top : ℤ) (wide : ℕ) → y <ℤ top → AllByRecursion (λ other. reading_order (at x y) other ≡ Less) (row_places left top wide)
unfolding row_places
above_row x y left top zero less = tt
above_row x y left top (suc wide) less = (grind (arith, ints), above_row x y (left +ℤ pos 1) top wide less)

before_rows : (x y left top : ℤ) (wide tall : ℕ) → y <ℤ top → AllByRecursion (λ other. reading_order (at x y) other ≡ Less) (places left top wide tall)
unfolding places
before_rows x y left top wide zero less = tt
before_rows x y left top wide (suc tall) less =
    AllByRecursion-append _ (row_places left top wide) (places left (top +ℤ pos 1) wide tall) (above_row x y left top wide less)
    (before_rows x y left (top +ℤ pos 1) wide tall (omega (arith, ints)))

-- a row stands before the rows below it
rises_on : (x y left top : ℤ) (wide more tall : ℕ) → y <ℤ top →
    IsStrictlySortedBy reading_order (places left top wide tall) → IsStrictlySortedBy reading_order (row_places x y more ++ places left top wide tall)
unfolding row_places IsStrictlySortedBy
rises_on x y left top wide zero tall less rises = rises
rises_on x y left top wide (suc more) tall less rises = (
  AllByRecursion-append _ (row_places (x +ℤ pos 1) y more) (places left top wide tall) (before_row x y (x +ℤ pos 1) more (omega (arith, ints))) (before_rows x y left top wide tall less),
  rises_on (x +ℤ pos 1) y left top wide more tall less rises,
)

places_rise : (left top : ℤ) (wide tall : ℕ) → IsStrictlySortedBy reading_order (places left top wide tall)
unfolding places IsStrictlySortedBy
places_rise left top wide zero = tt
places_rise left top wide (suc tall) = rises_on left top left (top +ℤ pos 1) wide wide tall (omega (arith, ints)) (places_rise left (top +ℤ pos 1) wide tall)

dead_outside : (b c : Bool) → (b ≡ false → c ≡ false) → (b && c) ≡ c
dead_outside true c h = refl
dead_outside false c h = sym (h refl)

-- the live cells of a window list a plane that is dead outside it
pub listing_in : (left top : ℤ) (wide tall : ℕ) (plane : Plane) → IsInWindow left top wide tall plane → IsListing (cells_in left top wide tall plane) plane
unfolding cells_in plane_of
listing_in left top wide tall plane is = record {
  rising = IsStrictlySortedBy-filter reading_order _ (places left top wide tall) (places_rise left top wide tall);
  live = λ x y.
      any_filter plane x y (places left top wide tall) ∙ ap (λ b. b && plane x y) (in_window left top wide tall x y)
      ∙ dead_outside (spans wide (x -ℤ left) && spans tall (y -ℤ top)) (plane x y) (is.dead x y);
}

from_zero : (z : ℤ) → z -ℤ pos 0 ≡ z
from_zero z = omega (arith, ints)

pub square_in_window : (side : ℕ) (plane : Plane) → IsSquare side plane → IsInWindow (pos 0) (pos 0) side side plane
square_in_window side plane is = record {
  dead = λ x y e. is.dead x y (ap (λ u. spans side u && spans side y) (sym (from_zero x)) ∙ ap (λ v. spans side (x -ℤ pos 0) && spans side v) (sym (from_zero y)) ∙ e);
}

-- the live cells of a square list it
pub square_listing : (side : ℕ) (plane : Plane) → IsSquare side plane → IsListing (square_cells side plane) plane
square_listing side plane is = listing_in (pos 0) (pos 0) side side plane (square_in_window side plane is)
