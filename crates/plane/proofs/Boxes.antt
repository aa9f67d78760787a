-- The box of some cells holds each of them.
use Rattle.std.proofs.Common.{◌≡◌, ◌≢◌, ℤ, pos, ◌+ℤ◌, ◌-ℤ◌, ◌≤ℤ◌, refl, Option, None, Some, List, [], ◌∷◌, fold, IfSome, subst, arith}
use Rattle.std.specs.Int.{int_min, int_max}
use Rattle.std.specs.List.{AllByRecursion}
use Rattle.std.proofs.lemmas.Int.{ints, clamps}
use Rattle.plane.specs.declared.cell.Cell.{Cell}
use Rattle.plane.specs.declared.cell.Bounds.{Bounds}
use Rattle.plane.specs.Bounds.{box_with, bounds_of, IsWithin}
use Rattle.plane.specs.Generation.{HasRoom}
use Rattle.plane.specs.Laws.{SmallestBox}
use Rattle.plane.specs.Range.{IsBoxInRange, IsCoordinate, widened}
use Rattle.plane.proofs.Elements.{AllByRecursion-weaker}

-- the box reaches at least as far on each side
pub record Covers (outer inner : Bounds) : Type 0 where
  pub left : outer.left ≤ℤ inner.left
  pub top : outer.top ≤ℤ inner.top
  pub right : inner.right ≤ℤ outer.right
  pub bottom : inner.bottom ≤ℤ outer.bottom

abbrev pub grown : Bounds → Cell → Bounds
grown box cell = record {
  left = int_min box.left cell.x;
  top = int_min box.top cell.y;
  right = int_max box.right cell.x;
  bottom = int_max box.bottom cell.y;
}

-- a box that covers the grown one covers the box and holds the cell
covers_grown : (outer box : Bounds) (cell : Cell) → Covers outer (grown box cell) → Covers outer box × IsWithin outer cell
covers_grown outer box cell covers = (
  record { left = omega (arith, ints, clamps); top = omega (arith, ints, clamps); right = omega (arith, ints, clamps); bottom = omega (arith, ints, clamps) },
  record { left = omega (arith, ints, clamps); top = omega (arith, ints, clamps); right = omega (arith, ints, clamps); bottom = omega (arith, ints, clamps) },
)

-- the box of some cells that grew out of a box covers it, and holds them
pub record GrewFrom (box : Bounds) (cells : List Cell) (outer : Bounds) : Type 0 where
  pub covers : Covers outer box
  pub holds : AllByRecursion (IsWithin outer) cells

pub if_some_weaker : {T : Type 0} (P Q : T → Type 0) → ((x : T) → P x → Q x) → (o : Option T) → IfSome o P → IfSome o Q
if_some_weaker P Q weaker None h = tt
if_some_weaker P Q weaker (Some x) h = weaker x h

box_grew : (box : Bounds) (cells : List Cell) → IfSome (fold box_with (Some box) cells) (GrewFrom box cells)
box_grew box [] = record { covers = record { left = omega (arith, ints); top = omega (arith, ints); right = omega (arith, ints); bottom = omega (arith, ints) }; holds = tt }
box_grew box (cell ∷ cells) =
    if_some_weaker (GrewFrom (grown box cell) cells) (GrewFrom box (cell ∷ cells))
    (λ outer grew. let both = covers_grown outer box cell grew.covers in record { covers = both.0; holds = (both.1, grew.holds) })
    (fold box_with (Some (grown box cell)) cells) (box_grew (grown box cell) cells)

abbrev pub box_at : Cell → Bounds
box_at cell = record { left = cell.x; top = cell.y; right = cell.x; bottom = cell.y }

-- the box of the cells holds each of them
pub within_bounds : (cells : List Cell) → IfSome (bounds_of cells) (λ box. AllByRecursion (IsWithin box) cells)
within_bounds [] = tt
within_bounds (cell ∷ cells) =
    if_some_weaker (GrewFrom (box_at cell) cells) (λ box. AllByRecursion (IsWithin box) (cell ∷ cells))
    (λ outer grew. (record { left = grew.covers.left; top = grew.covers.top; right = grew.covers.right; bottom = grew.covers.bottom }, grew.holds))
    (fold box_with (Some (box_at cell)) cells) (box_grew (box_at cell) cells)

-- what lies between two coordinates is one
pub coordinate_between : (a z b : ℤ) → IsCoordinate a → IsCoordinate b → a ≤ℤ z → z ≤ℤ b → IsCoordinate z
coordinate_between a z b low high above below = record { low = omega (arith, ints, low.low); high = omega (arith, ints, high.high) }

room_within : (box : Bounds) → IsBoxInRange (widened 1 box) → (cell : Cell) → IsWithin box cell → HasRoom cell
room_within box wide cell within = record {
  left = coordinate_between _ (cell.x -ℤ pos 1) _ wide.left wide.right (omega (arith, ints)) (omega (arith, ints));
  right = coordinate_between _ (cell.x +ℤ pos 1) _ wide.left wide.right (omega (arith, ints)) (omega (arith, ints));
  above = coordinate_between _ (cell.y -ℤ pos 1) _ wide.top wide.bottom (omega (arith, ints)) (omega (arith, ints));
  below = coordinate_between _ (cell.y +ℤ pos 1) _ wide.top wide.bottom (omega (arith, ints)) (omega (arith, ints));
}

room_by_box : (bounds : Option Bounds) (cells : List Cell) → IfSome bounds (λ box. AllByRecursion (IsWithin box) cells) →
    IfSome bounds (λ box. IsBoxInRange (widened 1 box)) → bounds ≢ None → AllByRecursion HasRoom cells
room_by_box None cells within wide some = absurd (some refl)
room_by_box (Some box) cells within wide some = AllByRecursion-weaker (IsWithin box) HasRoom (room_within box wide) cells within

pub some_box : (box : Bounds) (cells : List Cell) → fold box_with (Some box) cells ≢ None
some_box box [] = λ e. cc
some_box box (cell ∷ cells) = some_box (grown box cell) cells

-- where the box of the cells can be widened by one, each cell has room
pub room_for_next : (cells : List Cell) → IfSome (bounds_of cells) (λ box. IsBoxInRange (widened 1 box)) → AllByRecursion HasRoom cells
room_for_next [] wide = tt
room_for_next (cell ∷ cells) wide = room_by_box (bounds_of (cell ∷ cells)) (cell ∷ cells) (within_bounds (cell ∷ cells)) wide (some_box (box_at cell) cells)

-- a box that holds a grown box's cells covers it
covers_from_within : (outer box : Bounds) (cell : Cell) → Covers outer box → IsWithin outer cell → Covers outer (grown box cell)
covers_from_within outer box cell covers within = record { left = omega (arith, ints, clamps); top = omega (arith, ints, clamps); right = omega (arith, ints, clamps); bottom = omega (arith, ints, clamps) }

covers_all : (outer box : Bounds) (cells : List Cell) → Covers outer box → AllByRecursion (IsWithin outer) cells → IfSome (fold box_with (Some box) cells) (Covers outer)
covers_all outer box [] covers within = covers
covers_all outer box (cell ∷ cells) covers within = covers_all outer (grown box cell) cells (covers_from_within outer box cell covers within.0) within.1

-- a box that holds the cells covers their box
pub covers_bounds : (outer : Bounds) (cells : List Cell) → AllByRecursion (IsWithin outer) cells → IfSome (bounds_of cells) (Covers outer)
covers_bounds outer [] within = tt
covers_bounds outer (cell ∷ cells) within =
    covers_all outer (box_at cell) cells (record { left = within.0.left; top = within.0.top; right = within.0.right; bottom = within.0.bottom }) within.1

at_some : {T : Type 0} (P : T → Type 0) (o : Option T) (x : T) → o ≡ Some x → IfSome o P → P x
at_some P o x is holds = subst (λ p. IfSome p P) is holds

pub smallest_box_lem : SmallestBox
smallest_box_lem cells box is = record {
  holds = at_some (λ b. AllByRecursion (IsWithin b) cells) (bounds_of cells) box is (within_bounds cells);
  no_smaller = λ other within. let covers = at_some (Covers other) (bounds_of cells) box is (covers_bounds other cells within) in
      (covers.left, covers.top, covers.right, covers.bottom);
}
