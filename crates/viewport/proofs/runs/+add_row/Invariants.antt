use Rattle.viewport.proofs.runs.+add_row.Given as goal

abbrev pub decreases-add_row : goal.decreases-add_row
decreases-add_row g l = l.sq.level
