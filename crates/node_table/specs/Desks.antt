-- What a desk is to a table.
use Rattle.std.specs.Prelude.{◌≡◌, ℕ, List, ◌∷◌, Some}
use Rattle.squares.specs.Book.{Book, Keeps, Store}
use Rattle.atomic_table.specs.Seated.{TableId}
use Rattle.node_table.specs.declared.desk.Desk.{Desk}
use Rattle.node_table.specs.declared.table.NodeTable.{NodeTable}
use Rattle.node_table.specs.Books.{book_of}

-- the desk is one of this table
pub record IsDeskOf (table : NodeTable) (desk : Desk) : Type 0 where
  pub same_table : desk.seat.table_id ≡ table.table.shared.table_id
  pub same_key : desk.seat.me.0.key ≡ Some table.key

-- what tells a table from all others
abbrev pub numbers_of : ℕ → TableId → List ℕ
numbers_of bits id =
    bits ∷ id.words ∷ id.slots ∷ id.views_name ∷ id.atom ∷ id.block ∷ id.offset ∷ id.slot_names

-- the store of a desk at work: the table, and the number of expansions with which the desk came
abbrev pub work_store : ℕ → NodeTable → Store
work_store expansions table = record {
  numbers = numbers_of table.key.shape.bits table.table.shared.table_id;
  expansions = expansions;
}

-- the store of a desk that is not at work
abbrev pub store_of : NodeTable → Store
store_of table = work_store 0 table

-- what a desk of this table knows
abbrev pub book_at : NodeTable → Desk → Book
book_at table desk = book_of (store_of table) table.key desk.seat.me.0.known

-- what a desk at work at this table knows
abbrev pub work_at : ℕ → NodeTable → Desk → Book
work_at expansions table desk = book_of (work_store expansions table) table.key desk.seat.me.0.known

-- the desk is one of each table at which such a book began, knows what is in the book, and has the
-- number of expansions with which it came
pub record Returns (book : Book) (desk : Desk) : Type 0 where
  pub returns : (table : NodeTable) (first : Desk) →
      Keeps (work_at first.expansions table first) book →
      IsDeskOf table desk × (work_at first.expansions table desk ≡ book)
      × (desk.expansions ≡ first.expansions)

-- what a desk knows is the same, of whichever table it is
pub record IsSameDesk (old new : Desk) : Type 0 where
  pub same_known : new.seat.me.0.known ≡ old.seat.me.0.known
  pub same_table : (table : NodeTable) → IsDeskOf table old → IsDeskOf table new
  pub same_book : (table : NodeTable) → book_at table new ≡ book_at table old

abbrev pub expansions_of : Desk → ℕ
expansions_of desk = desk.expansions
