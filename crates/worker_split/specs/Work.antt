-- What desks at work find out and count.
use Rattle.std.specs.Prelude.{◌≡◌, ℕ, ◌+◌, ◌*◌, ◌-◌, ◌^◌, ◌≤◌, min, length}
use Rattle.squares.specs.Book.{Book, Keeps}
use Rattle.squares.specs.declared.tally.Tally.{Tally}
use Rattle.node_table.specs.declared.at.At.{At}
use Rattle.node_table.specs.declared.desk.Desk.{Desk}
use Rattle.node_table.specs.declared.table.NodeTable.{NodeTable}
use Rattle.node_table.specs.Desks.{IsSameDesk, Returns, expansions_of, work_at}
use Rattle.node_table.specs.DesksAtWork.{KnowsAllOf, book_here}
use Rattle.node_table.specs.Teams.{at_place_of}

-- all that was known is known, and so many times the number of new results were counted, or less
pub record Works (times : ℕ) (old new : Book) (before after : ℕ) : Type 0 where
  pub keeps : Keeps old new
  pub rises : min (2 ^ 64 - 1) before ≤ after
  pub count : after + times * length old.results ≤ before + times * length new.results

-- the same of a desk that is at work
abbrev pub Continues : ℕ → At → At → Tally → Tally → Type 0
Continues times old new before after =
    Works times (book_here old) (book_here new) before.expansions after.expansions

-- a desk went to its table, and another one, which knows the same, was split off it for the work
pub record SetsOut (table : NodeTable) (desk : Desk) (own work : At) : Type 0 where
  pub own_book : book_here own ≡ work_at (expansions_of desk) table desk
  pub work_book : book_here work ≡ work_at (expansions_of desk) table desk
  pub knows : KnowsAllOf desk own.desk

-- a desk came back with what is in the book, and then so many expansions were added to its number
pub record Leaves (book : Book) (made : ℕ) (desk : Desk) : Type 0 where
  pub back : Desk
  pub returns : Returns book back
  pub same : IsSameDesk back desk
  pub expansions : expansions_of desk ≡ min (2 ^ 64 - 1) (expansions_of back + made)

-- a desk came back so with what is in either book
pub record Brings (own work : Book) (made : ℕ) (desk : Desk) : Type 0 where
  pub book : Book
  pub keeps_own : Keeps own book
  pub keeps_work : Keeps (at_place_of own work) book
  pub leaves : Leaves book made desk
