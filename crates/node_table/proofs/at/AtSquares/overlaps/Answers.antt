use Rattle.node_table.proofs.Working.{squares_added}
use Rattle.node_table.proofs.at.AtSquares.overlaps.Goals as goal

pub returns-clause-adds : goal.returns-clause-adds
returns-clause-adds c = squares_added c.overlaps_by_halves.ensures.learns
