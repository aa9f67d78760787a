-- Squares of words at the table that is opened of them, and what a desk found there at work.
use Rattle.std.proofs.Common.{ℕ, sym, subst}
use Rattle.std.specs.Prelude.{slice_index}
use Rattle.rule_text.specs.CountRule.{CountRule}
use Rattle.plane.specs.Plane.{Plane}
use Rattle.plane.proofs.Same.{same_trans}
use Rattle.squares.specs.declared.sq.Sq.{Sq}
use Rattle.squares.specs.Book.{Book, IsKnown, Shows}
use Rattle.squares.specs.Roots.{IsRootOf}
use Rattle.table_core.specs.declared.key.Key.{Key}
use Rattle.table_core.specs.Layout.{IsSlot}
use Rattle.table_core.specs.Blocks.{Words, cells_of, square_rank, ShowsBlock}
use Rattle.table_core.specs.Opening.{Reopens}
use Rattle.table_core.proofs.Blocks.{KeepsSlots, shows_stay}
use Rattle.node_table.specs.declared.desk.Desk.{Desk}
use Rattle.node_table.specs.declared.still.Still.{Still}
use Rattle.node_table.specs.declared.table.NodeTable.{NodeTable}
use Rattle.node_table.specs.Desks.{book_at, store_of}
use Rattle.node_table.specs.Openings.{Opens}
use Rattle.node_table.specs.Stills.{book_in, words_of}
use Rattle.node_table.proofs.AtWork.{IsBack, back_in_root}
use Rattle.node_table.proofs.Books.{shows_of}
use Rattle.node_table.proofs.Steps.{is_coherent}
use Rattle.node_sweep.proofs.Squares.{known_shows}

pub slots_kept : (was key : Key) (old new : Words) → Reopens was key old new → KeepsSlots key.shape.bits old new
slots_kept was key old new r = record {
  kept = λ kind i slot some. r.slots kind i (subst (λ s. IsSlot s.bits kind i) r.shape slot);
}

-- the first desk knows what the words showed
pub opened_shows : (still : Still) (rule : CountRule) (exponent : ℕ) (table : NodeTable) (desk : Desk) → Opens still rule exponent table desk → (sq : Sq) → IsKnown (book_in still) sq.level sq →
    Shows (book_at table desk) sq.level ((book_in still).cells sq) sq
opened_shows still rule exponent table desk opens sq known =
    let plane : Plane = (book_in still).cells sq in
    let was : ShowsBlock table.key.shape.bits (words_of still) (square_rank sq.level) sq.num.0 plane =
    subst (λ s. ShowsBlock s.bits (words_of still) (square_rank sq.level) sq.num.0 plane) (sym opens.reopens.shape) (known_shows still sq known) in
    let now = shows_stay table.key.shape.bits (words_of still) (slice_index opens.words) (square_rank sq.level) sq.num.0 plane
    (slots_kept still.key table.key (words_of still) (slice_index opens.words) opens.reopens) was in
    let knows = opens.known.blocks (square_rank sq.level) sq.num.0 now.stands in
    let shown = shows_of (store_of table) table.key desk.seat.me.0.known sq (cells_of (slice_index opens.words) (square_rank sq.level) sq.num.0)
    ∣ is_coherent table.key (slice_index opens.words) desk.seat.me.0.known opens.opening.good opens.known.true_of ∣₁ known.low known.high knows in
    record { known = shown.known; cells = same_trans shown.cells now.cells }

-- what the work found around (0,0), the desk that is back knows
pub back_as_root : {table : NodeTable} {desk back : Desk} {book : Book} (plane : Plane) (sq : Sq) → IsBack table desk back book → IsRootOf book plane sq → IsRootOf (book_at table back) plane sq
back_as_root plane sq is is_root = record { known = is.known sq.level sq is_root.known; smallest = is_root.smallest; cells = back_in_root plane sq is is_root.known is_root.cells }
