-- What a job is, what came of it, and what is counted.
use Rattle.std.specs.Prelude.{◌≡◌, ◌+◌, ◌-◌, ◌*◌, ◌<◌, ◌≤◌, ◌⊎◌, ℕ, IsTrue, List, Vec, length}
use Rattle.std.specs.List.{AllZip}
use Rattle.std.specs.declared.alloc.Global.{Global}
use Rattle.plane.specs.declared.refusal.Refusal.{Refusal}
use Rattle.plane.specs.declared.refusal.Refusal.TheVariants.{NoMemory, NodesFull}
use Rattle.squares.specs.declared.sq.Sq.{Sq}
use Rattle.squares.specs.Book.{Book, IsKnown, IsFuture, HasResult, Keeps}
use Rattle.node_table.specs.declared.desk.Desk.{Desk}
use Rattle.node_table.specs.declared.table.NodeTable.{NodeTable}
use Rattle.node_table.specs.Desks.{IsDeskOf, book_at, expansions_of}
use Rattle.node_table.specs.DesksAtWork.{KnowsAllOf}

-- a known square that has a future
pub record IsJob (book : Book) (sq : Sq) : Type 0 where
  pub known : IsKnown book sq.level sq
  pub above : 3 < sq.level

-- the second square is the future of the first, whose result is known
pub record HasFuture (book : Book) (sq future : Sq) : Type 0 where
  pub is : IsFuture book sq future
  pub known : HasResult book sq

-- at each job's place stands its future
abbrev pub HaveFutures : Book → List Sq → Vec Sq Global → Type 0
HaveFutures book jobs futures = AllZip (HasFuture book) jobs futures.items

-- how many results are new
abbrev pub new_results : Book → Book → ℕ
new_results old new = length new.results - length old.results

-- the desk that comes back from so many workers is one of the table and knows all that the other
-- knew: its squares and results, and each word that it has seen; its number of expansions only
-- rises, by at most the number of new results times that of workers
pub record ComesBack (table : NodeTable) (workers : ℕ) (old new : Desk) : Type 0 where
  pub of_table : IsDeskOf table new
  pub keeps : Keeps (book_at table old) (book_at table new)
  pub grows : KnowsAllOf old new
  pub rises : expansions_of old ≤ expansions_of new
  pub expansions : expansions_of new
      ≤ expansions_of old + workers * new_results (book_at table old) (book_at table new)

-- the book is full
abbrev pub RefusesFull : Book → Refusal → Type 0
RefusesFull book refusal = (refusal ≡ NodesFull) × IsTrue book.is_full

-- memory ran out, or the book is full
abbrev pub Refuses : Book → Refusal → Type 0
Refuses book refusal = (refusal ≡ NoMemory) ⊎ RefusesFull book refusal
