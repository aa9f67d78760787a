-- The cells of a text, read back from it.
use Rattle.std.proofs.Common.{◌≡◌, ◌≢◌, ℕ, ◌<◌, ◌^◌, ℤ, pos, ◌-ℤ◌, ◌≤ℤ◌, None, Some, IfSome, List, [], ◌∷◌, refl, sym, ◌∙◌, ap, arith}
use Rattle.std.specs.List.{AllByRecursion}
use Rattle.std.specs.List.Sorted.{IsStrictlySortedBy}
use Rattle.std.proofs.lemmas.Int.{ints}
use Rattle.rule_text.specs.CountRule.{CountRule}
use Rattle.rule_text.specs.RuleText.{canonical_text}
use Rattle.plane.specs.Bounds.{IsWithin, bounds_of}
use Rattle.plane.specs.CellSet.{IsCellSet}
use Rattle.plane.specs.Listing.{reading_order}
use Rattle.plane.specs.Range.{IsCoordinate, IsInRange}
use Rattle.plane.specs.declared.cell.Bounds.{Bounds}
use Rattle.plane.specs.declared.cell.Cell.{Cell}
use Rattle.plane.specs.Limits.{coordinate_limit}
use Rattle.plane.proofs.Boxes.{Covers, box_at, covers_bounds, some_box, within_bounds}
use Rattle.plane.proofs.Cells.{at}
use Rattle.plane.proofs.Elements.{AllByRecursion-weaker}
use Rattle.pattern_writers.specs.Frame.{frame_of, side}
use Rattle.pattern_writers.specs.Items.{items_of}
use Rattle.pattern_writers.specs.Layout.{body_text}
use Rattle.pattern_writers.specs.RleText.{comment_lines, framed_text, rle_text}
use Rattle.pattern_writers.specs.RowRuns.{runs_of}
use Rattle.pattern_writers.specs.declared.rle_text.frame.Frame.{Frame}
use Rattle.pattern_writers.specs.declared.rle_text.items.Item.{Item}
use Rattle.pattern_writers.proofs.BodyReading.{body_text-injective}
use Rattle.pattern_writers.proofs.ItemReading.{cells_of, items_read}
use Rattle.pattern_writers.proofs.PreambleReading.{IsShortFrame, preamble_read}
use Rattle.pattern_writers.proofs.RunReading.{IsFrom, runs_ahead, runs_cells}
use Rattle.pattern_writers.proofs.ShortCounts.{IsShort, coordinate_short, counts_short, mag_short}

-- ---- the frame of some cells

-- the box of the whole range
abbrev whole_range : Bounds
whole_range = record {
  left = pos 0 -ℤ coordinate_limit;
  top = pos 0 -ℤ coordinate_limit;
  right = coordinate_limit -ℤ pos 1;
  bottom = coordinate_limit -ℤ pos 1;
}

range_holds : (cell : Cell) → IsInRange cell → IsWithin whole_range cell
range_holds cell within = record {
  left = within.x.low;
  top = within.y.low;
  right = omega (arith, ints, within.x.high);
  bottom = omega (arith, ints, within.y.high);
}

-- the frame's corner lies in the range and its sides are short, and the cells lie in rows that
-- begin at its left, from its corner on
pub record IsFrame (frame : Frame) (cells : List Cell) : Type 0 where
  pub corner : IsInRange frame.corner
  pub width : frame.width < 2 ^ 64
  pub height : frame.height < 2 ^ 64
  pub right : AllByRecursion (λ cell. frame.corner.x ≤ℤ cell.x) cells
  pub from : AllByRecursion (IsFrom frame.corner) cells

pub corner_short : (frame : Frame) (cells : List Cell) → IsFrame frame cells → IsShort frame.corner.x × IsShort frame.corner.y
corner_short frame cells is = let corner = is.corner in (coordinate_short frame.corner.x corner.x, coordinate_short frame.corner.y corner.y)

short_frame : (frame : Frame) (cells : List Cell) → IsFrame frame cells → IsShortFrame frame
short_frame frame cells is = record { x = mag_short frame.corner.x (corner_short frame cells is).0; y = mag_short frame.corner.y (corner_short frame cells is).1; width = is.width; height = is.height }

from_corner : (box : Bounds) (cell : Cell) → IsWithin box cell → IsFrom (at box.left box.top) cell
from_corner box cell within = record { down = within.top; across = λ _. within.left }

-- the first of two columns or rows of the range lies in it, and there are few between
record IsShortSide (first last : ℤ) : Type 0 where
  start : IsCoordinate first
  steps : side first last < 2 ^ 64

short_side : (first between last : ℤ) → (pos 0 -ℤ coordinate_limit) ≤ℤ first → first ≤ℤ between → between ≤ℤ last → last ≤ℤ (coordinate_limit -ℤ pos 1) → IsShortSide first last
short_side first between last low above below high = record { start = record { low = low; high = omega (arith, ints) }; steps = omega (arith, ints) }

box_frame : (box : Bounds) (cell : Cell) (cells : List Cell) → AllByRecursion (IsWithin box) (cell ∷ cells) → Covers whole_range box → IsFrame (frame_of (Some box)) (cell ∷ cells)
box_frame box cell cells within covers =
    let across = short_side box.left cell.x box.right covers.left within.0.left within.0.right covers.right in
    let down = short_side box.top cell.y box.bottom covers.top within.0.top within.0.bottom covers.bottom in
    record {
      corner = record { x = across.start; y = down.start };
      width = across.steps;
      height = down.steps;
      right = AllByRecursion-weaker (IsWithin box) (λ c. box.left ≤ℤ c.x) (λ c inside. inside.left) (cell ∷ cells) within;
      from = AllByRecursion-weaker (IsWithin box) (IsFrom (at box.left box.top)) (from_corner box) (cell ∷ cells) within;
    }

origin_in_range : IsInRange (at (pos 0) (pos 0))
origin_in_range = record { x = record { low = omega (arith, ints); high = omega (arith, ints) }; y = record { low = omega (arith, ints); high = omega (arith, ints) } }

pub framed : (cells : List Cell) → AllByRecursion IsInRange cells → IsFrame (frame_of (bounds_of cells)) cells
framed [] within = record { corner = origin_in_range; width = omega arith; height = omega arith; right = tt; from = tt }
framed (cell ∷ cells) within =
    elim (bounds_of (cell ∷ cells)) as (λ bounds.
    IfSome bounds (λ box. AllByRecursion (IsWithin box) (cell ∷ cells)) → IfSome bounds (Covers whole_range) → bounds ≢ None → IsFrame (frame_of bounds) (cell ∷ cells)) [
      | None ↦ λ _ _ some. absurd (some refl)
      | Some box ↦ λ holds covers _. box_frame box cell cells holds covers
    ] (within_bounds (cell ∷ cells)) (covers_bounds whole_range (cell ∷ cells) (AllByRecursion-weaker IsInRange (IsWithin whole_range) range_holds (cell ∷ cells) within))
    (some_box (box_at cell) cells)

-- ---- the cells

-- the items of the cells of a frame
abbrev pub frame_items : Frame → List Cell → List Item
frame_items frame cells = items_of frame.corner.x frame.corner (runs_of cells)

-- they give back the cells
pub cells_read : (frame : Frame) (cells : List Cell) → IsStrictlySortedBy reading_order cells → IsFrame frame cells →
    cells_of frame.corner.x frame.corner (frame_items frame cells) ≡ cells
cells_read frame cells rising is =
    items_read frame.corner.x frame.corner (runs_of cells) (runs_ahead frame.corner.x frame.corner cells rising is.right is.from)
    ∙ runs_cells frame.corner.x frame.corner cells rising is.right is.from

framed_text-injective : (frame other : Frame) (comments : List (List ℕ)) (rule : CountRule) (generation : ℕ) (cells others : List Cell) →
    IsCellSet cells → IsCellSet others → IsFrame frame cells → IsFrame other others →
    framed_text frame comments rule generation cells ≡ framed_text other comments rule generation others → cells ≡ others
framed_text-injective frame other comments rule generation cells others set also in_frame in_other is =
    let short = corner_short frame cells in_frame in
    let small = corner_short other others in_other in
    let items = frame_items frame cells in
    let other_items = frame_items other others in
    let read = preamble_read frame other generation (comment_lines comments) (canonical_text rule) (body_text items) (body_text other_items)
    (short_frame frame cells in_frame) (short_frame other others in_other) is in
    let same : items ≡ other_items = body_text-injective items other_items
    (counts_short frame.corner cells short.0 short.1 set.in_range) (counts_short other.corner others small.0 small.1 also.in_range) read.1 in
    sym (cells_read frame cells set.rising in_frame)
    ∙ ap (λ (corner : Cell). cells_of corner.x corner items) read.0
    ∙ ap (cells_of other.corner.x other.corner) same
    ∙ cells_read other others also.rising in_other

-- no two sets of cells have one text
pub rle_text-injective : (comments : List (List ℕ)) (rule : CountRule) (generation : ℕ) (cells others : List Cell) → IsCellSet cells → IsCellSet others →
    rle_text comments rule generation cells ≡ rle_text comments rule generation others → cells ≡ others
rle_text-injective comments rule generation cells others set also is =
    framed_text-injective (frame_of (bounds_of cells)) (frame_of (bounds_of others)) comments rule generation cells others set also
    (framed cells set.in_range) (framed others also.in_range) is
