-- Counts of a book that learns more.
use Rattle.std.proofs.Common.{ℕ, ◌^◌, sym, ◌∙◌, ap}
use Rattle.std.specs.Prelude.{IsTrue}
use Rattle.plane.proofs.Same.{plane_equal}
use Rattle.squares.specs.Book.{Book, Keeps}
use Rattle.squares.specs.Noted.{Noted}
use Rattle.squares.specs.declared.sq.Sq.{Sq}
use Rattle.viewport.specs.Population.{AreCounts, IsCount, cell_count}

pub count_later : (a b : Book) (sq : Sq) (n : ℕ) → Keeps a b → IsTrue (a.knows sq) → IsCount a sq n → IsCount b sq n
count_later a b sq n keeps known is = record {
  cells = is.cells ∙ ap (cell_count (2 ^ sq.level)) (sym (plane_equal (b.cells sq) (a.cells sq) (keeps.cells sq known)));
  most = is.most;
}

pub count_before : (a b : Book) (sq : Sq) (n : ℕ) → Keeps a b → IsTrue (a.knows sq) → IsCount b sq n → IsCount a sq n
count_before a b sq n keeps known is = record {
  cells = is.cells ∙ ap (cell_count (2 ^ sq.level)) (plane_equal (b.cells sq) (a.cells sq) (keeps.cells sq known));
  most = is.most;
}

pub kept_counts : (a b : Book) (counts : Noted ℕ) → Keeps a b → AreCounts a counts → AreCounts b counts
kept_counts a b counts keeps h = record {
  count = λ sq n at. (keeps.known sq (h.count sq n at).0, count_later a b sq n keeps (h.count sq n at).0 (h.count sq n at).1);
}
