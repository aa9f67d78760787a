-- What a book that is kept says of the desk whose book it is.
use Rattle.squares.specs.Book.{Keeps}
use Rattle.node_table.specs.declared.at.At.{At}
use Rattle.node_table.specs.declared.desk.Desk.{Desk}
use Rattle.node_table.specs.declared.table.NodeTable.{NodeTable}
use Rattle.node_table.specs.Desks.{book_at}
use Rattle.node_table.specs.DesksAtWork.{KnowsAllOf, book_here}

-- where a desk's book is kept, at work or not, the desk knows all that it knew
pub record EveryKeptBookKnowsAll : Type 0 where
  pub at_work : (old new : At) → Keeps (book_here old) (book_here new) →
      KnowsAllOf old.desk new.desk
  pub back : (table : NodeTable) (old new : Desk) →
      Keeps (book_at table old) (book_at table new) → KnowsAllOf old new
