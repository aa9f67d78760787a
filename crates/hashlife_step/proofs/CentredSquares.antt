-- Squares with the same cells around (0,0), from one book to the next.
use Rattle.std.proofs.Common.{◌≡◌, ℕ, ◌+◌, ◌-◌, ◌^◌, ◌≤◌, max, arith}
use Rattle.plane.specs.Centred.{centred, Holds}
use Rattle.plane.specs.Plane.{Plane, after}
use Rattle.plane.specs.Square.{IsSame}
use Rattle.plane.proofs.Paddings.{padded_after, square_held}
use Rattle.plane.proofs.Same.{same_trans}
use Rattle.squares.specs.Book.{AddsSquares, Book, IsBook, IsKnown}
use Rattle.squares.specs.declared.sq.Sq.{Sq}
use Rattle.squares.proofs.Kept.{adds_trans}
use Rattle.hashlife_step.specs.ShowsCentred.{ShowsCentred}

-- a square of some level that has the cells, in a book where only squares are new
pub record IsReached (old new : Book) (plane : Plane) (low high : ℕ) (sq : Sq) : Type 0 where
  pub adds : AddsSquares old new
  pub shown : ShowsCentred new plane sq
  pub above : low ≤ sq.level
  pub below : sq.level ≤ high

pub centred_as : {book : Book} {plane other : Plane} {sq : Sq} → ShowsCentred book plane sq → IsSame plane other → ShowsCentred book other sq
centred_as is same = record { known = is.known; cells = same_trans is.cells same }

-- one step on
pub reached_next : (old now new : Book) (plane : Plane) (low high : ℕ) (sq next : Sq) → IsReached old now plane low high sq → AddsSquares now new →
    ShowsCentred new (centred sq.level (now.cells sq)) next → low ≤ next.level → next.level ≤ high → IsReached old new plane low high next
reached_next old now new plane low high sq next is adds shown above below = record {
  adds = adds_trans is.adds adds;
  shown = centred_as shown is.shown.cells;
  above = above;
  below = below;
}

-- there is room for what the cells become
pub room_after : (book : Book) (sq : Sq) (exponent level : ℕ) → IsBook book → IsKnown book sq.level sq → level ≡ max (sq.level + 2) (exponent + 3) →
    Holds (level - 1) (after book.rule (centred sq.level (book.cells sq)) (2 ^ exponent))
room_after book sq exponent level is known e =
    let low = known.low in
    padded_after book.rule is.rule.no_birth_on_zero sq.level exponent level (centred sq.level (book.cells sq)) (omega arith) (omega arith) (omega arith)
    (square_held sq.level (book.cells sq) (is.square sq known.known))
