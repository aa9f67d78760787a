use Rattle.std.proofs.Common.{◌≡◌, List, length}
use Rattle.squares.specs.declared.sq.Sq.{Sq}
use Rattle.squares.specs.Book.{Book}
use Rattle.worker_split.specs.Rounds.{AreSettled, PlacesFit}
use Rattle.worker_split.proofs.gathering.place_all.Given as goal

abbrev pub invariant-loop-k : goal.invariant-loop-k
invariant-loop-k l =
    (length l.places ≡ length l.initial.places) × ((jobs : List Sq) (book : Book) → AreSettled jobs book l.answers → PlacesFit jobs book l.initial.places → PlacesFit jobs book l.places)
