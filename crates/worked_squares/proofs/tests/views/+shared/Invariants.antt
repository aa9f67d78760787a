use Rattle.worked_squares.proofs.tests.views.+shared.Given as goal

abbrev pub decreases-shared : goal.decreases-shared
decreases-shared g l = l.level
