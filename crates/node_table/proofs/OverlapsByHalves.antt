-- The four squares that neighbours make, put together of the halves of rows.
use Rattle.std.proofs.Common.{◌≡◌, ℕ, ◌+◌, ◌*◌, ◌^◌, ◌<◌, All, List, length, arith}
use Rattle.plane.specs.Square.{joined}
use Rattle.squares.specs.declared.sq.Sq.{Sq}
use Rattle.squares.specs.Book.{Book, IsKnown, Keeps, Shows, joined_squares, nth, numbered}
use Rattle.squares.proofs.FourKnown.{joined_later}
use Rattle.squares.proofs.Kept.{known_kept}
use Rattle.table_core.specs.declared.shape.Kind.TheVariants.{Pair}
use Rattle.table_core.specs.Layout.{pair_of}
use Rattle.node_table.specs.declared.at.At.{At}
use Rattle.node_table.specs.declared.halves.Half.{Half}
use Rattle.node_table.specs.declared.overlaps.HalvesOfRows.{HalvesOfRows}
use Rattle.node_table.specs.DesksAtWork.{LearnsBlocks, book_here}
use Rattle.node_table.specs.Halves.{AreBeside, AreHalvesOfRows, IsHalfOf, MakeSquare, squares_of}
use Rattle.node_table.specs.Refusals.{HasNoRoom, HasNoRoomForOverlap, HasNoRoomForQuad, neighbouring_squares, word_of}
use Rattle.node_table.proofs.Refusing.{no_upper_half, no_lower_half, no_whole}
use Rattle.node_table.proofs.TwoHalves.{beside, half_of, half_shown, half_stays, joined_of, make_square}
use Rattle.node_table.proofs.Working.{book_kept}

pub beside_kept : {old new : At} {left right : Sq} → LearnsBlocks old new → AreBeside (book_here old) left right → AreBeside (book_here new) left right
beside_kept learns are = record { fits = are.fits; left = known_kept (book_kept learns) are.left; right = known_kept (book_kept learns) are.right }

pub all_kept : {old new : Book} {level : ℕ} (nine : List Sq) → Keeps old new → All (IsKnown old level) nine → All (IsKnown new level) nine
all_kept nine keeps known k d less = known_kept keeps (known k d less)

pub rows_kept : {old new : At} {level : ℕ} {nine : List Sq} {rows : HalvesOfRows} → LearnsBlocks old new → AreHalvesOfRows old level nine rows → AreHalvesOfRows new level nine rows
rows_kept learns are = record {
  known = all_kept _ (book_kept learns) are.known;
  upper_left = half_stays learns are.upper_left;
  upper_right = half_stays learns are.upper_right;
  middle_left = half_stays learns are.middle_left;
  middle_right = half_stays learns are.middle_right;
  lower_left = half_stays learns are.lower_left;
  lower_right = half_stays learns are.lower_right;
}

-- one of nine known squares
nth_known : {book : Book} {level : ℕ} (nine : List Sq) → length nine ≡ 9 → All (IsKnown book level) nine → (k : ℕ) → k < 9 → IsKnown book level (nth nine k)
nth_known nine long known k less = known k (numbered 0 0) (omega arith)

-- two of them stand beside one another
pub two_beside : {book : Book} {level : ℕ} (nine : List Sq) → length nine ≡ 9 → level < 65 → All (IsKnown book level) nine → (k : ℕ) → k < 8 → AreBeside book (nth nine k) (nth nine (k + 1))
two_beside nine long fits known k less = beside fits (nth_known nine long known k (omega arith)) (nth_known nine long known (k + 1) (omega arith))

-- two halves, the lower one a row below, make a square
pub corner : {at : At} {level : ℕ} {upper lower : Half} (nine : List Sq) → length nine ≡ 9 → level < 65 → All (IsKnown (book_here at) level) nine → (k : ℕ) → k < 5 →
    IsHalfOf at (nth nine k) (nth nine (k + 1)) upper → IsHalfOf at (nth nine (k + 3)) (nth nine (k + 4)) lower → MakeSquare at upper lower
corner nine long fits known k less is also =
    make_square fits (half_of (nth_known nine long known k (omega arith)).at_level is) (half_of (nth_known nine long known (k + 3) (omega arith)).at_level also)

-- and the square shows the neighbours there, to one that knows more too
pub corner_shown : {at made last : At} {level : ℕ} {upper lower : Half} {sq : Sq} (nine : List Sq) → length nine ≡ 9 → All (IsKnown (book_here at) level) nine → (k : ℕ) → k < 5 →
    IsHalfOf at (nth nine k) (nth nine (k + 1)) upper → IsHalfOf at (nth nine (k + 3)) (nth nine (k + 4)) lower → LearnsBlocks at made → LearnsBlocks made last →
    Shows (book_here made) (upper.left.level + 1) (joined_squares (book_here at) upper.left.level (squares_of upper lower)) sq →
    (let cells = (book_here last).cells in Shows (book_here last) (level + 1) (joined (2 ^ level) (cells (nth nine k)) (cells (nth nine (k + 1))) (cells (nth nine (k + 3))) (cells (nth nine (k + 4)))) sq)
corner_shown {at} {made} {upper = upper} {lower = lower} {sq = sq} nine long known k less is also learns later shown =
    joined_later (nth_known nine long known k (omega arith)) (nth_known nine long known (k + 1) (omega arith)) (nth_known nine long known (k + 3) (omega arith)) (nth_known nine long known (k + 4) (omega arith)) (book_kept learns) (book_kept later)
    (joined_of (book_here at) (book_here made) upper lower sq is.left is.right also.left also.right shown)

-- where the square of four neighbours has no room
module _ (at : At) (nine : List Sq) (row column : ℕ) (above : row < 2) (left : column < 2) where
  no_overlap : HasNoRoomForQuad at.table.now at.desk at.desk (neighbouring_squares nine row column) → HasNoRoomForOverlap at.table.now at.desk nine
  no_overlap lack = record { row = row; column = column; above = above; left = left; room = lack }

  pub no_half_above : HasNoRoom at.table.now at.desk Pair (word_of (nth nine (3 * row + column)) (nth nine (3 * row + column + 1))) → HasNoRoomForOverlap at.table.now at.desk nine
  no_half_above room = no_overlap (no_upper_half at.table.now at.desk at.desk _ room)

  pub no_half_below : HasNoRoom at.table.now at.desk Pair (word_of (nth nine (3 * row + column + 3)) (nth nine (3 * row + column + 4))) → HasNoRoomForOverlap at.table.now at.desk nine
  no_half_below room = no_overlap (no_lower_half at.table.now at.desk at.desk _ room)

  pub no_corner : {upper lower : Half} → IsHalfOf at (nth nine (3 * row + column)) (nth nine (3 * row + column + 1)) upper → IsHalfOf at (nth nine (3 * row + column + 3)) (nth nine (3 * row + column + 4)) lower →
      HasNoRoom at.table.now at.desk Pair (pair_of upper.number lower.number) → HasNoRoomForOverlap at.table.now at.desk nine
  no_corner {upper} {lower} is also room = no_overlap (no_whole at.table.now at.desk at.desk _ upper.number lower.number (half_shown is) (half_shown also) room)
