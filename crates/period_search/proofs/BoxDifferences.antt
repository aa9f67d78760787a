-- The differences of the sides of two boxes, as code reads them.
use Rattle.std.proofs.Common.{◌≡◌, ℤ, ◌+ℤ◌, ◌-ℤ◌, ◌≤ℤ◌, SFits, w64, ◌∙◌, sym, ap, arith}
use Rattle.std.proofs.lemmas.Int.{ints}
use Rattle.plane.specs.declared.cell.Bounds.{Bounds}
use Rattle.viewport.specs.BoundingBox.{moved_bounds}
use Rattle.period_search.specs.Boxes.{IsInRange, IsSideInRange}
use Rattle.period_search.proofs.MovedBoxes.{moved_by}
use Rattle.period_search.proofs.ReadNumbers.{difference_read, read, read_both}

itself : (z : ℤ) → z ≤ℤ z
itself z = omega (arith, ints)

module _ (from to : Bounds) (a : IsInRange from) (b : IsInRange to) where
  pub left_plain : read to.left -ℤ read from.left ≡ to.left -ℤ from.left
  left_plain = read_both from.left from.right to.left to.right from.left to.left a.columns b.columns (itself from.left) a.columns.order (itself to.left) b.columns.order

  pub left_read : read (read to.left -ℤ read from.left) ≡ to.left -ℤ from.left
  left_read = difference_read from.left from.right to.left to.right from.left to.left a.columns b.columns (itself from.left) a.columns.order (itself to.left) b.columns.order

  pub right_plain : read to.right -ℤ read from.right ≡ to.right -ℤ from.right
  right_plain = read_both from.left from.right to.left to.right from.right to.right a.columns b.columns a.columns.order (itself from.right) b.columns.order (itself to.right)

  pub right_read : read (read to.right -ℤ read from.right) ≡ to.right -ℤ from.right
  right_read = difference_read from.left from.right to.left to.right from.right to.right a.columns b.columns a.columns.order (itself from.right) b.columns.order (itself to.right)

  pub top_plain : read to.top -ℤ read from.top ≡ to.top -ℤ from.top
  top_plain = read_both from.top from.bottom to.top to.bottom from.top to.top a.rows b.rows (itself from.top) a.rows.order (itself to.top) b.rows.order

  pub top_read : read (read to.top -ℤ read from.top) ≡ to.top -ℤ from.top
  top_read = difference_read from.top from.bottom to.top to.bottom from.top to.top a.rows b.rows (itself from.top) a.rows.order (itself to.top) b.rows.order

  pub bottom_plain : read to.bottom -ℤ read from.bottom ≡ to.bottom -ℤ from.bottom
  bottom_plain = read_both from.top from.bottom to.top to.bottom from.bottom to.bottom a.rows b.rows a.rows.order (itself from.bottom) b.rows.order (itself to.bottom)

  pub bottom_read : read (read to.bottom -ℤ read from.bottom) ≡ to.bottom -ℤ from.bottom
  bottom_read = difference_read from.top from.bottom to.top to.bottom from.bottom to.bottom a.rows b.rows a.rows.order (itself from.bottom) b.rows.order (itself to.bottom)

way_fits : (first last other_first other_last way : ℤ) → IsSideInRange first last → IsSideInRange other_first other_last → other_first ≡ first +ℤ way → SFits w64 way
way_fits first last other_first other_last way side other is =
    let low = side.low in let order = side.order in let high = side.high in let other_low = other.low in let other_order = other.order in let other_high = other.high in
    omega (arith, ints, low, order, high, other_low, other_order, other_high, is)

pub moved_by_as : (a b : Bounds) (right down : ℤ) → right ≡ b.left -ℤ a.left → down ≡ b.top -ℤ a.top → b.right -ℤ a.right ≡ b.left -ℤ a.left → b.bottom -ℤ a.bottom ≡ b.top -ℤ a.top → b ≡ moved_bounds right down a
moved_by_as a b right down across below wide tall =
    moved_by a b wide tall ∙ sym (ap (λ (r : ℤ). moved_bounds r down a) across ∙ ap (λ (d : ℤ). moved_bounds (b.left -ℤ a.left) d a) below)

pub ways_fit : (a b : Bounds) (right down : ℤ) → IsInRange a → IsInRange b → b ≡ moved_bounds right down a → SFits w64 right × SFits w64 down
ways_fit a b right down first second is =
    let left_is : b.left ≡ a.left +ℤ right = ap (λ (box : Bounds). box.left) is in
    let top_is : b.top ≡ a.top +ℤ down = ap (λ (box : Bounds). box.top) is in
    (way_fits a.left a.right b.left b.right right first.columns second.columns left_is, way_fits a.top a.bottom b.top b.bottom down first.rows second.rows top_is)
