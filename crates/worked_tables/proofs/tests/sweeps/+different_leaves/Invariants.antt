use Rattle.worked_tables.proofs.tests.sweeps.+different_leaves.Given as goal

abbrev pub decreases-different_leaves : goal.decreases-different_leaves
decreases-different_leaves g l = l.level
