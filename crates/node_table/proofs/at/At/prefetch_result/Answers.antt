use Rattle.node_table.proofs.Entries.{has_number}
use Rattle.node_table.proofs.Desks.{square_slot}
use Rattle.node_table.proofs.at.At.prefetch_result.Goals as goal

pub result_index-index-requires : goal.result_index-index-requires
result_index-index-requires c =
    let at = c.args.self.now in
    square_slot at c.args.sq c.requires.level (has_number c.is_empty.ensures c.if-not-is_empty.true) c.requires.known.known
