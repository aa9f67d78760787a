-- What a desk that was split off another knows, and finds out at work at their table.
use Rattle.std.proofs.Common.{◌≡◌, ◌∙◌, ap, subst, sym}
use Rattle.node_table.specs.declared.desk.Desk.{Desk}
use Rattle.node_table.specs.declared.table.NodeTable.{NodeTable}
use Rattle.node_table.specs.Desks.{book_at, expansions_of, work_at}
use Rattle.node_table.proofs.AtWork.{known_at_work}
use Rattle.squares.specs.Book.{Book, IsKnown, Keeps}
use Rattle.squares.specs.declared.sq.Sq.{Sq}
use Rattle.squares.proofs.Kept.{keeps_none}

-- what is the same keeps all
pub keeps_same : {old new : Book} → new ≡ old → Keeps old new
keeps_same {old} {new} same = subst (Keeps old) (sym same) (keeps_none old)

-- what the first desk knew, the second knows at work
pub second_known : (table : NodeTable) (desk second : Desk) (begun : Book) (sq : Sq) → book_at table second ≡ book_at table desk → begun ≡ work_at (expansions_of second) table second →
    IsKnown (book_at table desk) sq.level sq → IsKnown begun sq.level sq
second_known table desk second begun sq same begins known =
    known_at_work table second begun sq.level sq begins (subst (λ (b : Book). IsKnown b sq.level sq) (sym same) known)

-- with the same cells
pub second_cells : (table : NodeTable) (desk second : Desk) (begun : Book) → book_at table second ≡ book_at table desk → begun ≡ work_at (expansions_of second) table second →
    begun.cells ≡ (book_at table desk).cells
second_cells table desk second begun same begins = ap (λ (b : Book). b.cells) begins ∙ ap (λ (b : Book). b.cells) same
