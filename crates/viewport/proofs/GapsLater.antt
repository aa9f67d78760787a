-- Gaps of a book that learns more, and those of squares whose cells are shown.
use Rattle.std.proofs.Common.{◌≡◌, ℕ, ◌^◌, sym, subst}
use Rattle.std.specs.Prelude.{IsTrue, Option}
use Rattle.plane.specs.Plane.{Plane}
use Rattle.plane.specs.Square.{IsSame}
use Rattle.plane.proofs.Same.{plane_equal, same_sym}
use Rattle.squares.specs.Book.{Book, Keeps}
use Rattle.squares.specs.Noted.{Noted}
use Rattle.squares.specs.declared.sq.Sq.{Sq}
use Rattle.viewport.specs.declared.gaps.Side.{Side}
use Rattle.viewport.specs.Gaps.{AreGaps, IsGap}

-- the gap of a plane with the same cells
pub gap_as : (side : Side) (size : ℕ) (p q : Plane) (o : Option ℕ) → IsSame p q → IsGap side size q o → IsGap side size p o
gap_as side size p q o same is = subst (λ (r : Plane). IsGap side size r o) (sym (plane_equal p q same)) is

pub gap_later : (side : Side) (a b : Book) (sq : Sq) (o : Option ℕ) → Keeps a b → IsTrue (a.knows sq) → IsGap side (2 ^ sq.level) (a.cells sq) o → IsGap side (2 ^ sq.level) (b.cells sq) o
gap_later side a b sq o keeps known is = gap_as side (2 ^ sq.level) (b.cells sq) (a.cells sq) o (keeps.cells sq known) is

pub gap_before : (side : Side) (a b : Book) (sq : Sq) (o : Option ℕ) → Keeps a b → IsTrue (a.knows sq) → IsGap side (2 ^ sq.level) (b.cells sq) o → IsGap side (2 ^ sq.level) (a.cells sq) o
gap_before side a b sq o keeps known is = gap_as side (2 ^ sq.level) (a.cells sq) (b.cells sq) o (same_sym (keeps.cells sq known)) is

pub gap_level : (side : Side) (level other : ℕ) (p : Plane) (o : Option ℕ) → level ≡ other → IsGap side (2 ^ level) p o → IsGap side (2 ^ other) p o
gap_level side level other p o e is = subst (λ n. IsGap side (2 ^ n) p o) e is

pub kept_gaps : (a b : Book) (side : Side) (gaps : Noted (Option ℕ)) → Keeps a b → AreGaps a side gaps → AreGaps b side gaps
kept_gaps a b side gaps keeps h = record {
  gap = λ sq o at. (keeps.known sq (h.gap sq o at).0, gap_later side a b sq o keeps (h.gap sq o at).0 (h.gap sq o at).1);
}
