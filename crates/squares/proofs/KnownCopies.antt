-- Maps of copies, while the book that is read learns more.
use Rattle.std.proofs.Common.{ℕ}
use Rattle.std.specs.Prelude.{IsTrue, Some}
use Rattle.std.specs.HashMap.{Updates, IsUnchanged}
use Rattle.plane.proofs.Same.{same_sym, same_trans}
use Rattle.squares.specs.Book.{Book, Keeps, Shows, numbered}
use Rattle.squares.specs.Copies.{AreKnownCopies}
use Rattle.squares.specs.Noted.{Noted, is_same_key}
use Rattle.squares.specs.declared.sq.Num.{Num}
use Rattle.squares.specs.declared.sq.Sq.{Sq}
use Rattle.squares.proofs.CopyMaps.{noted_copies}
use Rattle.squares.proofs.Kept.{shows_kept}
use Rattle.squares.proofs.NotedValues.{true_of_kept, true_of_same}

-- what is shown of a known square is shown of it later
pub shown_later : (from later to : Book) (level : ℕ) (sq copy : Sq) → Keeps from later → IsTrue (from.knows sq) → Shows to level (from.cells sq) copy → Shows to level (later.cells sq) copy
shown_later from later to level sq copy keeps known shown = record { known = shown.known; cells = same_trans shown.cells (same_sym (keeps.cells sq known)) }

pub shown_before : (from later to : Book) (level : ℕ) (sq copy : Sq) → Keeps from later → IsTrue (from.knows sq) → Shows to level (later.cells sq) copy → Shows to level (from.cells sq) copy
shown_before from later to level sq copy keeps known shown = record { known = shown.known; cells = same_trans shown.cells (keeps.cells sq known) }

pub kept_copies : (from later old new : Book) (copies : Noted Num) → Keeps from later → Keeps old new → AreKnownCopies from old copies → AreKnownCopies later new copies
kept_copies from later old new copies reads keeps h = record {
  known = λ sq num at. reads.known sq (h.known sq num at);
  same = record { same = λ sq num at. shown_later from later new sq.level sq _ reads (h.known sq num at) (shows_kept keeps (h.same.same sq num at)) };
}

-- a new copy is noted
pub noted_known_copies : (from to : Book) (old new : Noted Num) (sq copy : Sq) → Updates is_same_key old new (sq.level, sq.num.0) (Some copy.num) → IsTrue (from.knows sq) →
    Shows to sq.level (from.cells sq) copy → AreKnownCopies from to old → AreKnownCopies from to new
noted_known_copies from to old new sq copy up known shows h = record {
  known = true_of_kept (λ q num. IsTrue (from.knows q)) old new sq copy.num h.known known up;
  same = noted_copies from to old new sq copy up shows h.same;
}

-- none is noted
pub same_known_copies : (from to : Book) (old new : Noted Num) → IsUnchanged old new → AreKnownCopies from to old → AreKnownCopies from to new
same_known_copies from to old new same h = record {
  known = true_of_same (λ q num. IsTrue (from.knows q)) old new h.known same;
  same = record { same = true_of_same (λ q num. Shows to q.level (from.cells q) (numbered q.level num.0)) old new h.same.same same };
}
