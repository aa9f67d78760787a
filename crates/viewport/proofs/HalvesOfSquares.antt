-- The upper and the lower half of a square of four quarters, and their rows.
use Rattle.std.proofs.Common.{◌≡◌, ℕ, ◌+◌, ◌-◌, ◌^◌, ◌<◌, ◌≤◌, pos, List, inl, inr, sym, ◌∙◌, ap, subst, arith}
use Rattle.std.proofs.lemmas.Bool.Decides.{leb_tells}
use Rattle.plane.specs.Plane.{Plane}
use Rattle.plane.proofs.Same.{plane_equal}
use Rattle.squares.specs.Book.{AreQuarters, Book, IsBook, IsKnown, Keeps, nth}
use Rattle.squares.specs.declared.sq.Sq.{Sq}
use Rattle.squares.proofs.Kept.{known_kept}
use Rattle.viewport.specs.Halves.{AreRowsFrom, IsHalfOfBlocks, IsHalfRow, side_by_side}
use Rattle.viewport.proofs.Quarters.{IsQuartered, quartered}
use Rattle.viewport.proofs.RowsOfSquares.{under_row, upper_row}

from_top : (y : ℕ) → 0 + y ≡ y
from_top y = omega arith

from_middle : (h y : ℕ) → (h + y) - h ≡ y
from_middle h y = omega arith

module _ (h : ℕ) (p nw ne sw se : Plane) (quarters : IsQuartered h p nw ne sw se) where
  upper_rows : AreRowsFrom 0 h p nw ne
  upper_rows = record { cells = λ x y low. ap (λ v. p x (pos v)) (from_top y) ∙ (upper_row h p nw ne sw se quarters y low).cells x }

  lower_rows : AreRowsFrom h h p sw se
  lower_rows = record {
    cells = λ x y low. (under_row h p nw ne sw se quarters (h + y) (omega arith) (omega arith)).cells x ∙ ap (λ v. side_by_side h sw se x (pos v)) (from_middle h y);
  }

  -- a row of blocks in the upper half, and one in the lower half
  pub upper_half : (n row : ℕ) → row < n → IsHalfOfBlocks n h p nw ne row row
  upper_half n row low = record {
    inside = low;
    upper = λ _. (omega arith, upper_rows);
    lower = λ high. absurd (omega arith);
  }

  pub lower_half : (n row : ℕ) → n ≤ row → row < n + n → IsHalfOfBlocks n h p sw se row (row - n)
  lower_half n row high inside = record {
    inside = omega arith;
    upper = λ low. absurd (omega arith);
    lower = λ _. (omega arith, lower_rows);
  }

-- the half that is picked of four quarters
pub picked_half : (n h : ℕ) (p : Plane) (cells : Sq → Plane) (quarters : List Sq) (row : ℕ) (picked : Sq × Sq × ℕ) → row < n + n →
    IsQuartered h p (cells (nth quarters 0)) (cells (nth quarters 1)) (cells (nth quarters 2)) (cells (nth quarters 3)) →
    (row < n → picked ≡ (nth quarters 0, nth quarters 1, row)) → (n ≤ row → picked ≡ (nth quarters 2, nth quarters 3, row - n)) →
    IsHalfOfBlocks n h p (cells picked.0) (cells picked.1) row picked.2
picked_half n h p cells quarters row picked inside are upper lower =
    let Half : (Sq × Sq × ℕ) → Type 0 = λ r. IsHalfOfBlocks n h p (cells r.0) (cells r.1) row r.2 in
    elim (leb_tells n row) [
      | inl q ↦ subst Half (sym (lower q.1)) (lower_half h p _ _ _ _ are n row q.1 inside)
      | inr q ↦ subst Half (sym (upper q.1)) (upper_half h p _ _ _ _ are n row q.1)
    ]

-- a square that a book goes on knowing, in its quarters
pub quartered_later : (old new : Book) (sq : Sq) (quarters : List Sq) → IsBook new → Keeps old new → IsKnown old sq.level sq → 3 < sq.level → AreQuarters new sq.level (old.cells sq) quarters →
    IsQuartered (2 ^ (sq.level - 1)) (old.cells sq) (new.cells (nth quarters 0)) (new.cells (nth quarters 1)) (new.cells (nth quarters 2)) (new.cells (nth quarters 3))
quartered_later old new sq quarters laws keeps known above are =
    let same = plane_equal (new.cells sq) (old.cells sq) (keeps.cells sq known.known) in
    subst (λ (p : Plane). IsQuartered (2 ^ (sq.level - 1)) p (new.cells (nth quarters 0)) (new.cells (nth quarters 1)) (new.cells (nth quarters 2)) (new.cells (nth quarters 3))) same
    (quartered new sq quarters laws (known_kept keeps known) above (subst (λ (p : Plane). AreQuarters new sq.level p quarters) (sym same) are))

-- a row of cells is one of blocks of one cell
pub row_of_half : (h : ℕ) (plane first second : Plane) (row there : ℕ) → IsHalfOfBlocks h h plane first second row there → IsHalfRow h plane first second row there
row_of_half h plane first second row there is = record {
  inside = is.inside;
  cells = λ x. elim (leb_tells h row) [
    | inl p ↦ ap (λ v. plane x (pos v)) (is.lower p.1).0 ∙ (is.lower p.1).1.cells x there is.inside
    | inr p ↦ ap (λ v. plane x (pos v)) ((is.upper p.1).0 ∙ sym (from_top there)) ∙ (is.upper p.1).1.cells x there is.inside
  ];
}
