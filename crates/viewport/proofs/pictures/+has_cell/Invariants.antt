use Rattle.viewport.proofs.pictures.+has_cell.Given as goal

abbrev pub decreases-has_cell : goal.decreases-has_cell
decreases-has_cell g l = l.sq.level
