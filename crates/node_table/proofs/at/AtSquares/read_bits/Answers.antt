use Rattle.std.proofs.Common.{subst}
use Rattle.table_core.specs.Blocks.{square_rank}
use Rattle.table_core.specs.Knowledge.{KnowsBlock}
use Rattle.node_table.specs.Books.{known_cells}
use Rattle.node_table.proofs.Entries.{block_of, has_number}
use Rattle.node_table.proofs.Desks.{coherent_at, coherent_here, in_table, leaf_read, leaf_slot}
use Rattle.node_table.proofs.Searching.{learns_met}
use Rattle.node_table.proofs.Working.{desk_of, squares_added}
use Rattle.node_table.proofs.at.AtSquares.read_bits.Goals as goal

pub look-requires : goal.look-requires
look-requires c =
    let at = c.args.self.now in
    in_table at (square_rank c.args.sq.level) c.args.sq.num.0 (known_cells at.desk.seat.me.0.known c.args.sq) (has_number c.is_empty.ensures c.if-is_empty.false) (block_of at.desk.seat.me.0.known c.args.sq c.requires.known)

pub returns-clause-value : goal.returns-clause-value
returns-clause-value c =
    let at = c.args.self.now in
    let known = at.desk.seat.me.0.known in
    let n = c.args.sq.num.0 in
    let plane = known_cells known c.args.sq in
    let knows = subst (λ level. KnowsBlock known (square_rank level) n plane) c.requires.at_level (block_of known c.args.sq c.requires.known) in
    let met = c.look.ensures.met in
    record {
      known = c.requires;
      cells = leaf_read at.table.now.key known c.look.new.self.desk.seat.me.0.known n c.look.result plane (coherent_at at.table.now c.look.new.self.desk (desk_of c.look.ensures.here))
          (has_number c.is_empty.ensures c.if-is_empty.false) (leaf_slot at.table.now.key.shape.bits known n plane (coherent_here at) (has_number c.is_empty.ensures c.if-is_empty.false) knows) knows (met.stands 0 plane (has_number c.is_empty.ensures c.if-is_empty.false) knows) met.grows met.learns;
    }

pub returns-clause-adds : goal.returns-clause-adds
returns-clause-adds c = squares_added (learns_met c.look.ensures.here c.look.ensures.met.grows c.look.ensures.met.learns)
