-- A square of a smaller level with the same cells around (0,0).
use Rattle.std.proofs.Common.{◌≡◌, ℕ, ◌-◌, ◌<◌, arith, subst}
use Rattle.plane.specs.Centred.{centred, Holds, IsSmallestLevel}
use Rattle.plane.specs.Plane.{Plane}
use Rattle.plane.specs.Square.{centre_of}
use Rattle.plane.proofs.Paddings.{centred_centre, holds_more, holds_same, square_held}
use Rattle.plane.proofs.Same.{same_sym, same_trans, plane_equal}
use Rattle.squares.specs.Book.{AddsSquares, Book, IsBook, Keeps, Shows}
use Rattle.squares.specs.declared.sq.Sq.{Sq}
use Rattle.squares.proofs.Kept.{adds_trans, known_kept}
use Rattle.hashlife_step.specs.ShowsCentred.{ShowsCentred}
use Rattle.hashlife_step.proofs.Grown.{centred_same, shows_centred}
use Rattle.hashlife_step.proofs.CentredSquares.{IsReached, reached_next}

-- the centre, where it holds all
pub centre_reached : (old now read new : Book) (plane : Plane) (high : ℕ) (sq next : Sq) → IsReached old now plane 4 high sq → 4 < sq.level →
    Holds (sq.level - 1) (centred sq.level (now.cells sq)) → AddsSquares now read → AddsSquares read new →
    Shows new (sq.level - 1) (centre_of sq.level (read.cells sq)) next → IsReached old new plane 4 high next
centre_reached old now read new plane high sq next is above held reads adds shown =
    let same : read.cells sq ≡ now.cells sq = plane_equal _ _ (reads.keeps.cells sq is.shown.known.known) in
    let centre : Shows new (sq.level - 1) (centre_of sq.level (now.cells sq)) next = subst (λ p. Shows new (sq.level - 1) (centre_of sq.level p) next) same shown in
    let at_centre : ShowsCentred new (centred sq.level (now.cells sq)) next = shows_centred new (sq.level - 1) (centre_of sq.level (now.cells sq)) _ next centre (centred_centre sq.level (now.cells sq) (omega arith) held) in
    let level = shown.known.at_level in let below = is.below in
    reached_next old now new plane 4 high sq next is (adds_trans reads adds) at_centre (omega arith) (omega arith)

-- it is still so in a later book
pub centred_kept : {old new : Book} {plane : Plane} {sq : Sq} → Keeps old new → ShowsCentred old plane sq → ShowsCentred new plane sq
centred_kept {sq = sq} keeps is = record { known = known_kept keeps is.known; cells = same_trans (centred_same sq.level _ _ (keeps.cells sq is.known.known)) is.cells }

-- there is no smaller level
pub smallest_reached : (old now : Book) (plane : Plane) (high : ℕ) (sq : Sq) → IsReached old now plane 4 high sq → IsBook now →
    (4 < sq.level → ¬ Holds (sq.level - 1) (centred sq.level (now.cells sq))) → IsSmallestLevel sq.level plane
smallest_reached old now plane high sq is law border = record {
  least = is.above;
  holds = holds_same sq.level (centred sq.level (now.cells sq)) plane is.shown.cells (square_held sq.level (now.cells sq) (law.square sq is.shown.known.known));
  no_smaller = λ other least less held.
      border (omega arith) (holds_same (sq.level - 1) plane (centred sq.level (now.cells sq)) (same_sym is.shown.cells)
      (holds_more other (sq.level - 1) plane (omega arith) (omega arith) held));
}
