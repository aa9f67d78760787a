use Rattle.std.proofs.Common.{◌-◌, inl, refl}
use Rattle.plane.specs.Square.{future}
use Rattle.table_core.specs.Blocks.{square_rank}
use Rattle.table_core.proofs.Knowing.{knows_same}
use Rattle.node_table.specs.Books.{known_cells}
use Rattle.node_table.proofs.Entries.{has_number}
use Rattle.node_table.proofs.Desks.{known_block, square_slot}
use Rattle.node_table.proofs.Telling.{may_tell, book_adds, told_some}
use Rattle.node_table.proofs.Working.{book_kept, goes_on_here, keeps_here, learns_none}
use Rattle.node_table.proofs.at.AtSquares.keep.Goals as goal

pub result_index-index-requires : goal.result_index-index-requires
result_index-index-requires c =
    let at = c.args.self.now in
    square_slot at c.args.sq c.requires.level (has_number c.is_empty.ensures c.if-not-is_empty.true) c.requires.known.known

pub tell-requires-clause-lawful : goal.tell-requires-clause-lawful
tell-requires-clause-lawful c =
    let at = c.args.self.now in
    let key = at.table.now.key in
    let known = at.desk.seat.me.0.known in
    let sq = c.args.sq in
    let fut = c.args.future in
    may_tell at sq c.requires.level (has_number c.is_empty.ensures c.if-not-is_empty.true) c.requires.known.known c.result_index-index.ensures.index fut
    (knows_same known (square_rank (sq.level - 1)) fut.num.0 (known_cells known fut) (future key.rule key.exponent sq.level (known_cells known sq)) c.requires.future.cells
    (known_block known (sq.level - 1) fut c.requires.future.known.at_level c.requires.future.known.known))

pub returns-then-not-is_empty-clause-ok : goal.returns-then-not-is_empty-clause-ok
returns-then-not-is_empty-clause-ok c =
    book_adds c.args.self.now c.args.sq c.requires.level (has_number c.is_empty.ensures c.if-not-is_empty.true) c.requires.known.known c.result_index-index.ensures.index
    c.tell.ensures.here c.tell.ensures.met.grows (c.tell.ensures.met.learns.some (told_some c.tell.result c.args.future.num.0)) refl

pub returns-then-not-is_empty-clause-keeps : goal.returns-then-not-is_empty-clause-keeps
returns-then-not-is_empty-clause-keeps c = keeps_here c.tell.ensures.here c.tell.ensures.met.grows

pub returns-then-not-is_empty-clause-grows : goal.returns-then-not-is_empty-clause-grows
returns-then-not-is_empty-clause-grows c = record { table = c.tell.ensures.here.table; grows = c.tell.ensures.met.grows }

pub returns-else-not-is_empty-clause-ok : goal.returns-else-not-is_empty-clause-ok
returns-else-not-is_empty-clause-ok c = record { known = inl (c.is_empty.ensures.0 c.if-not-is_empty.false); learned = refl; results = inl refl }

pub returns-else-not-is_empty-clause-grows : goal.returns-else-not-is_empty-clause-grows
returns-else-not-is_empty-clause-grows c = goes_on_here (learns_none c.args.self.now)

pub returns-else-not-is_empty-clause-keeps : goal.returns-else-not-is_empty-clause-keeps
returns-else-not-is_empty-clause-keeps c = book_kept (learns_none c.args.self.now)
