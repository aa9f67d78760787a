-- Rows of squares of one level, side by side from the left.
use Rattle.std.specs.Prelude.{◌≡◌, ℕ, ◌+◌, ◌*◌, ◌<◌, ◌≤◌, ◌^◌, nat_lt, List, length, slice_index, take, Option, Some}
use Rattle.std.specs.List.{AllByRecursion, find}
use Rattle.std.specs.Option.{option_map}
use Rattle.plane.specs.declared.cell.TheConstants.{HIGHEST_LEVEL}
use Rattle.plane.specs.Plane.{Plane}
use Rattle.plane.specs.Square.{cut}
use Rattle.squares.specs.Book.{AreKnown, Book, Shows, joined_squares, nth}
use Rattle.squares.specs.declared.square_rows.Segment.{Segment}
use Rattle.squares.specs.declared.sq.Sq.{Sq}

-- the segment that has the column: the first that ends behind it
abbrev pub segment_at : List Segment → ℕ → Option Segment
segment_at row column = find (λ (s : Segment). nat_lt column s.end) row

-- the square in the column
abbrev pub square_at : List Segment → ℕ → Option Sq
square_at row column = option_map (λ (s : Segment). s.sq) (segment_at row column)

-- the row has so many columns or more
abbrev pub HasColumns : ℕ → List Segment → Type 0
HasColumns width row = (column : ℕ) → column < width → (sq : Sq) × (square_at row column ≡ Some sq)

-- the segment ends at the column or before
abbrev pub EndsBy : ℕ → Segment → Type 0
EndsBy column segment = segment.end ≤ column

-- so many segments of each of two rows end before the quarters of this column
pub record ArePassedBy (upper lower : List Segment) (counts : List ℕ) (column : ℕ) : Type 0 where
  pub upper_has : slice_index counts 0 ≤ length upper
  pub lower_has : slice_index counts 1 ≤ length lower
  pub upper_ends : AllByRecursion (EndsBy (2 * column)) (take (slice_index counts 0) upper)
  pub lower_ends : AllByRecursion (EndsBy (2 * column)) (take (slice_index counts 1) lower)

-- the four squares stand in this column of the row above, in the one behind it, and in the same two
-- of the row below
pub record AreQuartersIn (upper lower : List Segment) (column : ℕ)
    (quarters : List Sq) : Type 0 where
  pub nw : square_at upper (2 * column) ≡ Some (nth quarters 0)
  pub ne : square_at upper (2 * column + 1) ≡ Some (nth quarters 1)
  pub sw : square_at lower (2 * column) ≡ Some (nth quarters 2)
  pub se : square_at lower (2 * column + 1) ≡ Some (nth quarters 3)

-- the four squares are known, and of one level below the highest
pub record CanJoin (book : Book) (quarters : List Sq) : Type 0 where
  pub level : (nth quarters 0).level < HIGHEST_LEVEL
  pub known : AreKnown book (nth quarters 0).level quarters

-- two rows have the quarters of so many squares
pub record HaveQuarters (book : Book) (width : ℕ) (upper lower : List Segment) : Type 0 where
  pub upper_columns : HasColumns (2 * width) upper
  pub lower_columns : HasColumns (2 * width) lower
  pub known : (column : ℕ) (quarters : List Sq) → column < width →
      AreQuartersIn upper lower column quarters → CanJoin book quarters

-- in this column the row has the square that the quarters in two rows make
pub record IsJoinedAt (old new : Book) (upper lower row : List Segment) (column : ℕ) : Type 0 where
  pub quarters : List Sq
  pub read : AreQuartersIn upper lower column quarters
  pub square : Sq
  pub there : square_at row column ≡ Some square
  pub shown : Shows new ((nth quarters 0).level + 1)
      (joined_squares old (nth quarters 0).level quarters) square

-- so many columns of the row have the squares that two rows make
abbrev pub IsJoined : Book → Book → List Segment → List Segment → ℕ → List Segment → Type 0
IsJoined old new upper lower width row =
    (column : ℕ) → column < width → IsJoinedAt old new upper lower row column

-- each of the first columns has the square of the plane's cells there, from this row of cells on
abbrev pub IsRow : Book → ℕ → ℕ → ℕ → Plane → List Segment → Type 0
IsRow book level width top plane row =
    (column : ℕ) → column < width →
    (sq : Sq) × (square_at row column ≡ Some sq)
    × Shows book level (cut (2 ^ level) (column * 2 ^ level) top plane) sq
