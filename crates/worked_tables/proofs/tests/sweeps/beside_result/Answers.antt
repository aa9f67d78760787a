use Rattle.squares.proofs.Kept.{keeps_trans}
use Rattle.worked_tables.proofs.tests.sweeps.beside_result.Goals as goal

pub returns-in_err-other-clause-keeps : goal.returns-in_err-other-clause-keeps
returns-in_err-other-clause-keeps g c = keeps_trans c.square_and_result.ensures.keeps (keeps_trans c.leaf.ensures.adds.keeps c.quad.ensures.adds.keeps)

pub returns-clause-keeps : goal.returns-clause-keeps
returns-clause-keeps g c =
    keeps_trans c.square_and_result.ensures.keeps (keeps_trans c.leaf.ensures.adds.keeps (keeps_trans c.quad.ensures.adds.keeps c.quad-2.ensures.adds.keeps))
