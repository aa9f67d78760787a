use Rattle.squares.proofs.Kept.{keeps_trans}
use Rattle.worked_tables.proofs.tests.sweeps.+different_leaves.Goals as goal

pub returns-in_err-sw-clause-keeps : goal.returns-in_err-sw-clause-keeps
returns-in_err-sw-clause-keeps g t c = keeps_trans c.different_leaves.ensures.keeps (keeps_trans c.different_leaves-2.ensures.keeps c.different_leaves-3.ensures.keeps)

pub returns-in_err-se-clause-keeps : goal.returns-in_err-se-clause-keeps
returns-in_err-se-clause-keeps g t c =
    keeps_trans c.different_leaves.ensures.keeps (keeps_trans c.different_leaves-2.ensures.keeps (keeps_trans c.different_leaves-3.ensures.keeps c.different_leaves-4.ensures.keeps))

pub returns-clause-keeps : goal.returns-clause-keeps
returns-clause-keeps g t c =
    keeps_trans c.different_leaves.ensures.keeps (keeps_trans c.different_leaves-2.ensures.keeps
    (keeps_trans c.different_leaves-3.ensures.keeps (keeps_trans c.different_leaves-4.ensures.keeps c.quad.ensures.adds.keeps)))
