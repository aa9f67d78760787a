-- The square that a sweep is given, and the one that it gives.
use Rattle.std.proofs.Common.{◌≡◌, ◌≤◌, sym, subst, arith, refl}
use Rattle.plane.proofs.Same.{same_refl, same_trans}
use Rattle.squares.specs.declared.sq.Sq.{Sq}
use Rattle.squares.specs.Book.{IsKnown, Shows}
use Rattle.table_core.specs.Blocks.{square_rank, cells_of, ShowsBlock}
use Rattle.node_table.specs.declared.still.Still.{Still}
use Rattle.node_table.specs.Stills.{key_of, words_of, book_in}
use Rattle.node_table.proofs.WordBooks.{square_there, there_square}
use Rattle.node_sweep.specs.CopiedStills.{table_of}
use Rattle.node_sweep.specs.Table.{IsBlockIn}
use Rattle.node_sweep.specs.Copies.{IsCopy}

-- a known square is a block
pub known_shows : (still : Still) (root : Sq) → IsKnown (book_in still) root.level root →
    ShowsBlock (key_of still).shape.bits (words_of still) (square_rank root.level) root.num.0 ((book_in still).cells root)
known_shows still root known = record { stands = (square_there still.key.shape.bits (words_of still) root known.known).block; cells = same_refl ((book_in still).cells root) }

-- a block of a square's rank is a known square
pub block_shown : (still : Still) (sq : Sq) → 3 ≤ sq.level → sq.level ≤ 65 → IsBlockIn (table_of still) (square_rank sq.level) sq.num.0 →
    Shows (book_in still) sq.level (cells_of (words_of still) (square_rank sq.level) sq.num.0) sq
block_shown still sq low high b = record {
  known = record { known = there_square still.key.shape.bits (words_of still) sq low high b; at_level = refl; low = low; high = high };
  cells = same_refl ((book_in still).cells sq);
}

pub shown_as : (still : Still) (root copy : Sq) (now : Still) → IsKnown (book_in still) root.level root → copy.level ≡ root.level →
    IsCopy (table_of still) (table_of now) (square_rank root.level) root.num.0 copy.num.0 →
    Shows (book_in now) root.level ((book_in still).cells root) copy
shown_as still root copy now known e c =
    let at : IsBlockIn (table_of now) (square_rank copy.level) copy.num.0 = subst (λ l. IsBlockIn (table_of now) (square_rank l) copy.num.0) (sym e) c.now in
    let low = known.low in
    let high = known.high in
    let s : Shows (book_in now) copy.level (cells_of (words_of now) (square_rank copy.level) copy.num.0) copy = block_shown now copy (omega arith) (omega arith) at in
    let t : Shows (book_in now) root.level (cells_of (words_of now) (square_rank root.level) copy.num.0) copy = subst (λ l. Shows (book_in now) l (cells_of (words_of now) (square_rank l) copy.num.0) copy) e s in
    record { known = t.known; cells = same_trans t.cells (same_trans c.cells (known_shows still root known).cells) }
