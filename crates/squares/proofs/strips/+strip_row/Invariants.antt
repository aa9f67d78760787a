use Rattle.squares.proofs.strips.+strip_row.Given as goal

abbrev pub decreases-strip_row : goal.decreases-strip_row
decreases-strip_row g l = l.level
