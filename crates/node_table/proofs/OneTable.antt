-- Desks at work at one table.
use Rattle.std.proofs.Common.{◌≡◌, ℕ, ap, refl}
use Rattle.squares.specs.Book.{Book, Keeps}
use Rattle.node_table.specs.declared.at.At.{At}
use Rattle.node_table.specs.declared.desk.Desk.{Desk}
use Rattle.node_table.specs.declared.table.NodeTable.{NodeTable}
use Rattle.node_table.specs.Books.{book_of}
use Rattle.node_table.specs.Desks.{IsDeskOf, book_at, work_at, work_store}
use Rattle.node_table.specs.DesksAtWork.{book_here}
use Rattle.node_table.specs.Teams.{AreAtOneTable, at_place_of}
use Rattle.node_table.proofs.Leaving.{same_table}

-- what a desk knows is the same at work
pub at_work : (n : ℕ) (table : NodeTable) (old new : Desk) → book_at table new ≡ book_at table old → work_at n table new ≡ work_at n table old
at_work n table old new e = ap (λ (b : Book). record b { store = work_store n table }) e

pub keeps_at_work : (n : ℕ) (table : NodeTable) (old new : Desk) → Keeps (book_at table old) (book_at table new) → Keeps (work_at n table old) (work_at n table new)
keeps_at_work n table old new k =
    record { rule = k.rule; exponent = k.exponent; known = k.known; cells = k.cells; results = k.results; learned = k.learned; facts = k.facts; full = k.full; memory = k.memory; store = refl }

-- desks at work at one table are desks of it
pub same_place : (one other : At) → AreAtOneTable (book_here one) (book_here other) →
    IsDeskOf one.table.now other.desk × (work_at one.expansions one.table.now other.desk ≡ at_place_of (book_here one) (book_here other))
same_place one other are =
    let t = same_table other.table.now one.table.now other.desk other.of_table are.rule are.exponent are.table in
    (t.0, λ i. book_of (work_store one.expansions one.table.now) (t.1 i) other.desk.seat.me.0.known)
