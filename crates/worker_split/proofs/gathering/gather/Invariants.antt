use Rattle.std.proofs.Common.{◌≡◌, length, All, List}
use Rattle.squares.specs.declared.sq.Sq.{Sq}
use Rattle.squares.specs.Book.{Book}
use Rattle.node_table.specs.DesksAtWork.{book_here}
use Rattle.worker_split.specs.Rounds.{IsMember, PlacesFit}
use Rattle.worker_split.specs.Work.{Works}
use Rattle.worker_split.proofs.gathering.gather.Given as goal

abbrev pub invariant-loop-k : goal.invariant-loop-k
invariant-loop-k l = record {
  len : length l.members ≡ length l.initial.members;
  places_len : length l.places ≡ length l.initial.places;
  members : (base : Book) (jobs : List Sq) → All (IsMember base jobs) l.initial.members → All (IsMember base jobs) l.members;
  places : (jobs : List Sq) → All (IsMember (book_here l.initial.at) jobs) l.initial.members → PlacesFit jobs (book_here l.initial.at) l.initial.places → PlacesFit jobs (book_here l.at) l.places;
  works : Works l.k (book_here l.initial.at) (book_here l.at) l.initial.tally.expansions l.tally.expansions;
}
