-- The boxes of patterns and sessions lie in the range.
use Rattle.std.proofs.Common.{◌≡◌, ◌^◌, ℤ, pos, ◌+ℤ◌, ◌-ℤ◌, ◌≤ℤ◌, true, Some, List, [], ◌∷◌, refl, sym, ◌∙◌, arith}
use Rattle.std.specs.List.{AllByRecursion, list_any}
use Rattle.std.proofs.lemmas.Bool.{and_parts, false≢true}
use Rattle.std.proofs.lemmas.Int.{ints}
use Rattle.engine.specs.Pattern.{plane_of}
use Rattle.engine.specs.Sessions.{cells_of}
use Rattle.engine.specs.States.{state_cells}
use Rattle.engine.specs.declared.pattern.Pattern.{Pattern}
use Rattle.engine.specs.declared.session.Session.{Session}
use Rattle.engine.specs.declared.state.State.{State}
use Rattle.engine.specs.declared.state.State.TheVariants.{AtRest, AtWork, Lost}
use Rattle.node_table.specs.Stills.{book_in}
use Rattle.pattern_writers.proofs.RowsDown.{square_in_range}
use Rattle.plane.specs.Bounds.{IsWithin, bounds_of}
use Rattle.plane.specs.Centred.{Holds, is_in_root}
use Rattle.plane.specs.Laws.{IsSmallest}
use Rattle.plane.specs.Listing.{IsListing, is_at}
use Rattle.plane.specs.Listing as listing
use Rattle.plane.specs.Plane.{Plane}
use Rattle.plane.specs.Square.{spans}
use Rattle.plane.specs.declared.cell.Bounds.{Bounds}
use Rattle.plane.specs.declared.cell.Cell.{Cell}
use Rattle.plane.proofs.Boxes.{smallest_box_lem}
use Rattle.plane.proofs.Listings.{is_at-own}
use Rattle.plane.proofs.Paddings.{holds_more}
use Rattle.universe.specs.Cells.{live_cells, root_of, still_of}
use Rattle.universe.proofs.InRange.{held_by_root}
use Rattle.viewport.specs.BoundingBox.{HasBounds}
use Rattle.viewport.proofs.BoxesOfPlanes.{or_left, or_right, within_span}
use Rattle.period_search.specs.Boxes.{IsInRange}
use Rattle.period_search.proofs.MovedRows.{by_cases}

each_listed : (P : Cell → Type 0) (cells : List Cell) → ((cell : Cell) → listing.plane_of cells cell.x cell.y ≡ true → P cell) → AllByRecursion P cells
unfolding listing.plane_of
each_listed P [] h = tt
each_listed P (cell ∷ cells) h = (
  h cell (or_left (is_at cell.x cell.y cell) (list_any (is_at cell.x cell.y) cells) (is_at-own cell)),
  each_listed P cells (λ other e. h other (or_right (is_at other.x other.y cell) (list_any (is_at other.x other.y) cells) e)),
)

abbrev range_box : Bounds
range_box = record { left = pos 0 -ℤ pos (2 ^ 62); top = pos 0 -ℤ pos (2 ^ 62); right = pos (2 ^ 62) -ℤ pos 1; bottom = pos (2 ^ 62) -ℤ pos 1 }

in_span : (z : ℤ) → spans (2 ^ 63) (z +ℤ pos (2 ^ 62)) ≡ true → ((pos 0 -ℤ pos (2 ^ 62)) ≤ℤ z) × (z ≤ℤ (pos (2 ^ 62) -ℤ pos 1))
in_span z is = let both = within_span (2 ^ 63) (z +ℤ pos (2 ^ 62)) is in let low = both.0 in let high = both.1 in (omega (arith, ints, low), omega (arith, ints, high))

live_within : (plane : Plane) → Holds 63 plane → (cell : Cell) → plane cell.x cell.y ≡ true → IsWithin range_box cell
live_within plane holds cell live =
    by_cases (is_in_root 63 cell.x cell.y)
    (λ round. let parts = and_parts (spans (2 ^ 63) (cell.x +ℤ pos (2 ^ 62))) (spans (2 ^ 63) (cell.y +ℤ pos (2 ^ 62))) round in
    let across = in_span cell.x parts.0 in
    let down = in_span cell.y parts.1 in
    record { left = across.0; top = down.0; right = across.1; bottom = down.1 })
    (λ outside. absurd (false≢true (sym (holds.dead cell.x cell.y outside) ∙ live)))

box_list : (cells : List Cell) (box : Bounds) → AllByRecursion (IsWithin range_box) cells → Some box ≡ bounds_of cells → IsInRange box
box_list [] box within is = cc
box_list (cell ∷ cells) box within is =
    let smallest : IsSmallest box (cell ∷ cells) = smallest_box_lem (cell ∷ cells) box (sym is) in
    let sides = smallest.no_smaller range_box within in
    let one = smallest.holds.0 in
    let left = one.left in
    let right = one.right in
    let top = one.top in
    let bottom = one.bottom in
    let right_side = sides.2 in
    let bottom_side = sides.3 in
    record {
      columns = record { low = sides.0; order = omega (arith, ints, left, right); high = omega (arith, ints, right_side) };
      rows = record { low = sides.1; order = omega (arith, ints, top, bottom); high = omega (arith, ints, bottom_side) };
    }

held_box : (plane : Plane) (box : Bounds) → Holds 63 plane → HasBounds plane (Some box) → IsInRange box
held_box plane box holds has = box_list has.cells box (each_listed (IsWithin range_box) has.cells (λ cell live. live_within plane holds cell (sym (has.listing.live cell.x cell.y) ∙ live))) has.bounds

pattern_held : (pattern : Pattern) → Holds 63 (plane_of pattern)
pattern_held pattern =
    square_in_range (book_in (still_of pattern.resting.cells)) (root_of pattern.resting.cells) pattern.resting.cells.still.is_book pattern.resting.cells.known pattern.resting.cells.level.1

state_held : (state : State) → Holds 63 (state_cells state)
state_held (AtWork universe) = holds_more universe.root.level 63 (live_cells universe) (let low = universe.level.0 in omega (arith, low)) universe.level.1 (held_by_root universe)
state_held (AtRest pattern) = pattern_held pattern
state_held Lost = record { dead = λ x y _. refl }

pub session_box : (session : Session) (box : Bounds) → HasBounds (cells_of session) (Some box) → IsInRange box
session_box session box has = held_box (cells_of session) box (state_held session.state) has

pub pattern_box : (pattern : Pattern) (box : Bounds) → HasBounds (plane_of pattern) (Some box) → IsInRange box
pattern_box pattern box has = held_box (plane_of pattern) box (pattern_held pattern) has
