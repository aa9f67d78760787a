use Rattle.node_table.proofs.Working.{squares_added}
use Rattle.node_table.proofs.at.AtSquares.read_parts.Goals as goal

pub returns-clause-adds : goal.returns-clause-adds
returns-clause-adds c = squares_added c.read_halves.ensures.learns
