-- The live cells of a plane as a list.
use Rattle.std.specs.Prelude.{◌≡◌, ℤ, Bool, ◌&&◌, List}
use Rattle.std.specs.List.{list_any}
use Rattle.std.specs.List.Sorted.{IsStrictlySortedBy}
use Rattle.std.specs.declared.cmp.Ordering.{Ordering}
use Rattle.std.specs.Ordering.{ordering_then, int_cmp, int_eq}
use Rattle.plane.specs.declared.cell.Cell.{Cell}
use Rattle.plane.specs.Plane.{Plane}

-- cells are read by row, and then from left to right
abbrev pub reading_order : Cell → Cell → Ordering
reading_order a b = ordering_then (int_cmp a.y b.y) (int_cmp a.x b.x)

-- whether the cell lies at x and y
abbrev pub is_at : ℤ → ℤ → Cell → Bool
is_at x y cell = int_eq y cell.y && int_eq x cell.x

-- the plane whose live cells are those of the list
unfoldable pub plane_of : List Cell → Plane
plane_of cells x y = list_any (is_at x y) cells

-- the list has exactly the live cells of the plane, in the order of reading
pub record IsListing (cells : List Cell) (plane : Plane) : Type 0 where
  pub rising : IsStrictlySortedBy reading_order cells
  pub live : (x y : ℤ) → plane_of cells x y ≡ plane x y
