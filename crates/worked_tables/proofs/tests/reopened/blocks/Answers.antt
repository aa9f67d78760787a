use Rattle.squares.proofs.Kept.{keeps_trans}
use Rattle.worked_tables.proofs.tests.reopened.blocks.Goals as goal

pub returns-clause-keeps : goal.returns-clause-keeps
returns-clause-keeps g c = keeps_trans c.join_leaves.ensures.adds.keeps (keeps_trans c.quad.ensures.adds.keeps c.quad-2.ensures.adds.keeps)
