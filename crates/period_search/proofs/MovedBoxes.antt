-- Boxes and populations of planes of which one is the other, moved.
use Rattle.std.proofs.Common.{◌≡◌, ℕ, ℤ, pos, ◌+ℤ◌, ◌-ℤ◌, ◌≤ℤ◌, ◌<ℤ◌, true, false, Option, None, Some, Result, Ok, Err, List, [], ◌∷◌, fold, map, length, refl, sym, ◌∙◌, ap, subst, arith}
use Rattle.std.specs.Prelude.{IfOk, IfSome}
use Rattle.std.specs.Int.{int_min, int_max}
use Rattle.std.proofs.lemmas.Bool.{false≢true}
use Rattle.std.proofs.lemmas.Int.{ints, clamps}
use Rattle.std.proofs.lemmas.List.{length-map}
use Rattle.plane.specs.Bounds.{IsWithin, bounds_of, box_with}
use Rattle.plane.specs.Laws.{IsSmallest, moved}
use Rattle.plane.specs.Listing.{IsListing, plane_of}
use Rattle.plane.specs.Plane.{Plane}
use Rattle.plane.specs.Square.{IsSame, empty}
use Rattle.plane.specs.declared.cell.Bounds.{Bounds}
use Rattle.plane.specs.declared.cell.Cell.{Cell}
use Rattle.plane.specs.declared.refusal.Refusal.{Refusal}
use Rattle.plane.proofs.Around.{live_cell}
use Rattle.plane.proofs.Boxes.{box_at, smallest_box_lem, some_box}
use Rattle.plane.proofs.Populations.{moved_cell, moved_listing}
use Rattle.plane.proofs.Same.{same_sym}
use Rattle.plane.proofs.Uniqueness.{one_listing_lem}
use Rattle.periods.proofs.Displacements.{listed_live}
use Rattle.viewport.specs.BoundingBox.{HasBounds, moved_bounds, moved_box}
use Rattle.viewport.specs.Population.{HasPopulation}
use Rattle.viewport.proofs.BoxesOfPlanes.{same_bounds}
use Rattle.engine.proofs.Endings.{listing_as}
use Rattle.period_search.proofs.MovedRows.{AreMovedAbove, by_cases}

-- ---- listings

-- the listing of a plane that is another one, moved
listing_moved : (plane other : Plane) (right down : ℤ) (cells others : List Cell) → IsSame other (moved right down plane) → IsListing cells plane → IsListing others other → others ≡ map (moved_cell right down) cells
listing_moved plane other right down cells others same is is_other =
    one_listing_lem other others (map (moved_cell right down) cells) is_other (listing_as (same_sym same) (moved_listing right down cells plane is))

pub population_moved : (plane other : Plane) (right down : ℤ) (n m : ℕ) → IsSame other (moved right down plane) → HasPopulation plane n → HasPopulation other m → m ≡ n
population_moved plane other right down n m same is is_other =
    is_other.count ∙ ap (λ (l : List Cell). length l) (listing_moved plane other right down is.cells is_other.cells same is.listing is_other.listing) ∙ length-map is.cells (moved_cell right down) ∙ sym is.count

-- ---- boxes

least : (a b by : ℤ) → int_min (a +ℤ by) (b +ℤ by) ≡ int_min a b +ℤ by
least a b by = omega (arith, ints, clamps)

greatest : (a b by : ℤ) → int_max (a +ℤ by) (b +ℤ by) ≡ int_max a b +ℤ by
greatest a b by = omega (arith, ints, clamps)

one_more : (right down : ℤ) (box : Option Bounds) (cell : Cell) → box_with (moved_box right down box) (moved_cell right down cell) ≡ moved_box right down (box_with box cell)
one_more right down None cell = refl
one_more right down (Some box) cell =
    ap (λ (b : Bounds). Some b) (same_bounds _ _ (least box.left cell.x right) (least box.top cell.y down) (greatest box.right cell.x right) (greatest box.bottom cell.y down))

all_more : (right down : ℤ) (box : Option Bounds) (cells : List Cell) → fold box_with (moved_box right down box) (map (moved_cell right down) cells) ≡ moved_box right down (fold box_with box cells)
all_more right down box [] = refl
all_more right down box (cell ∷ cells) =
    ap (λ (b : Option Bounds). fold box_with b (map (moved_cell right down) cells)) (one_more right down box cell) ∙ all_more right down (box_with box cell) cells

-- the box of a plane that is another one, moved
pub bounds_moved : (plane other : Plane) (right down : ℤ) (a b : Option Bounds) → IsSame other (moved right down plane) → HasBounds plane a → HasBounds other b → b ≡ moved_box right down a
bounds_moved plane other right down a b same is is_other =
    is_other.bounds ∙ ap bounds_of (listing_moved plane other right down is.cells is_other.cells same is.listing is_other.listing) ∙ all_more right down None is.cells
    ∙ sym (ap (moved_box right down) is.bounds)

pub sides_moved : (plane other : Plane) (right down : ℤ) (a b : Bounds) → IsSame other (moved right down plane) → HasBounds plane (Some a) → HasBounds other (Some b) → b ≡ moved_bounds right down a
sides_moved plane other right down a b same is is_other = let e = bounds_moved plane other right down (Some a) (Some b) same is is_other in cc

-- ---- rows in the box

-- a live cell of a plane lies between the top and the bottom of its box
pub row_within : (plane : Plane) (box : Bounds) → HasBounds plane (Some box) → (x y : ℤ) → plane x y ≡ true → (box.top ≤ℤ y) × (y ≤ℤ box.bottom)
row_within plane box has x y live =
    let smallest : IsSmallest box has.cells = smallest_box_lem has.cells box (sym has.bounds) in
    let one = live_cell (IsWithin box) has.cells x y smallest.holds (has.listing.live x y ∙ live) in
    (subst (λ z. box.top ≤ℤ z) (sym one.y_is) one.holds.top, subst (λ z. z ≤ℤ box.bottom) (sym one.y_is) one.holds.bottom)

above_dead : (plane : Plane) (box : Bounds) → HasBounds plane (Some box) → (x y : ℤ) → y <ℤ box.top → plane x y ≡ false
above_dead plane box has x y less = by_cases (plane x y) (λ live. absurd (not_both box.top y (row_within plane box has x y live).0 less)) (λ dead. dead) where
  not_both : (a y : ℤ) → a ≤ℤ y → y <ℤ a → ⊥
  not_both a y h k = omega (arith, ints)

-- above both boxes, nothing is live
pub none_above : (plane other : Plane) (right down : ℤ) (box : Bounds) → HasBounds plane (Some box) → HasBounds other (Some (moved_bounds right down box)) → AreMovedAbove plane other right down box.top
none_above plane other right down box has has_other = record {
  cells = λ x z less. above_dead other (moved_bounds right down box) has_other x (z +ℤ down) (still_less z box.top down less) ∙ sym (above_dead plane box has (x -ℤ right) z less);
} where
  still_less : (z top down : ℤ) → z <ℤ top → (z +ℤ down) <ℤ (top +ℤ down)
  still_less z top down h = omega (arith, ints)

-- ---- how far a box is moved

-- a box whose sides are as long as another one's is that one, moved
pub moved_by : (a b : Bounds) → b.right -ℤ a.right ≡ b.left -ℤ a.left → b.bottom -ℤ a.bottom ≡ b.top -ℤ a.top → b ≡ moved_bounds (b.left -ℤ a.left) (b.top -ℤ a.top) a
moved_by a b wide tall = same_bounds b (moved_bounds (b.left -ℤ a.left) (b.top -ℤ a.top) a) (omega (arith, ints)) (omega (arith, ints)) (omega (arith, ints, wide)) (omega (arith, ints, tall))

pub other_sides : (a b : Bounds) → ((b.right -ℤ a.right ≡ b.left -ℤ a.left) → (b.bottom -ℤ a.bottom ≡ b.top -ℤ a.top) → ⊥) → (right down : ℤ) → b ≡ moved_bounds right down a → ⊥
other_sides a b unlike right down is =
    let left_is : b.left ≡ a.left +ℤ right = ap (λ (box : Bounds). box.left) is in
    let right_is : b.right ≡ a.right +ℤ right = ap (λ (box : Bounds). box.right) is in
    let top_is : b.top ≡ a.top +ℤ down = ap (λ (box : Bounds). box.top) is in
    let bottom_is : b.bottom ≡ a.bottom +ℤ down = ap (λ (box : Bounds). box.bottom) is in
    unlike (omega (arith, ints, left_is, right_is)) (omega (arith, ints, top_is, bottom_is))

one_way : (right down across below : ℤ) (a : Bounds) → moved_bounds right down a ≡ moved_bounds across below a → (across ≡ right) × (below ≡ down)
one_way right down across below a is =
    let left_is : a.left +ℤ right ≡ a.left +ℤ across = ap (λ (box : Bounds). box.left) is in
    let top_is : a.top +ℤ down ≡ a.top +ℤ below = ap (λ (box : Bounds). box.top) is in
    (omega (arith, ints, left_is), omega (arith, ints, top_is))

-- a plane that is not another one, moved as far as its box is, is not so in another way
pub no_other_way : (plane other : Plane) (right down : ℤ) (a b : Bounds) → HasBounds plane (Some a) → HasBounds other (Some b) → b ≡ moved_bounds right down a → (IsSame other (moved right down plane) → ⊥) →
    (across below : ℤ) → IsSame other (moved across below plane) → ⊥
no_other_way plane other right down a b has has_other is unlike across below same =
    let ways = one_way right down across below a (sym is ∙ sides_moved plane other across below a b same has has_other) in
    unlike (subst (λ (d : ℤ). IsSame other (moved right d plane)) ways.1 (subst (λ (r : ℤ). IsSame other (moved r below plane)) ways.0 same))

none_live : (plane : Plane) (cells : List Cell) → IsListing cells plane → None ≡ bounds_of cells → (x y : ℤ) → plane x y ≡ false
unfolding plane_of
none_live plane [] listing none x y = sym (listing.live x y)
none_live plane (cell ∷ cells) listing none x y = absurd (some_box (box_at cell) cells (sym none))

-- planes with no live cell are the same
pub both_empty : (plane other : Plane) → HasBounds plane None → HasBounds other None → IsSame other (moved (pos 0) (pos 0) plane)
both_empty plane other has has_other = record {
  same = λ x y. none_live other has_other.cells has_other.listing has_other.bounds x y ∙ sym (none_live plane has.cells has.listing has.bounds (x -ℤ pos 0) (y -ℤ pos 0));
}

-- ---- boxes of which one may be missing

pub bounds_at : (p q : Plane) (b at : Option Bounds) → IsSame p q → b ≡ at → HasBounds p b → HasBounds q at
bounds_at p q b at same is has = record { cells = has.cells; listing = listing_as same has.listing; bounds = sym is ∙ has.bounds }

pub only_other : (plane other : Plane) (box : Bounds) → HasBounds plane None → HasBounds other (Some box) → (right down : ℤ) → IsSame other (moved right down plane) → ⊥
only_other plane other box has has_other right down same = let e : Some box ≡ None = bounds_moved plane other right down None (Some box) same has has_other in cc

pub only_this : (plane other : Plane) (box : Bounds) → HasBounds plane (Some box) → HasBounds other None → (right down : ℤ) → IsSame other (moved right down plane) → ⊥
only_this plane other box has has_other right down same = let e : None ≡ Some (moved_bounds right down box) = bounds_moved plane other right down (Some box) None same has has_other in cc

-- a plane that has a box has a live cell
pub some_live : (plane : Plane) (box : Bounds) → HasBounds plane (Some box) → IsSame plane empty → ⊥
some_live plane box has none = go has.cells has.listing has.bounds where
  go : (cells : List Cell) → IsListing cells plane → Some box ≡ bounds_of cells → ⊥
  go [] listing is = absurd cc
  go (cell ∷ cells) listing is =
      let live : plane cell.x cell.y ≡ true = sym (listing.live cell.x cell.y) ∙ (listed_live (cell ∷ cells)).0 in
      false≢true (sym (none.same cell.x cell.y) ∙ live)

-- so where no cell is live, what is found moves nothing
pub nothing_still : (plane : Plane) (box : Bounds) (result : Result (Option (ℤ × ℤ)) Refusal) → HasBounds plane (Some box) →
    IfOk result (λ found. IfSome found (λ by. IsSame plane empty → (by.0 ≡ pos 0) × (by.1 ≡ pos 0)))
nothing_still plane box (Err refusal) has = tt
nothing_still plane box (Ok None) has = tt
nothing_still plane box (Ok (Some by)) has = λ none. absurd (some_live plane box has none)
