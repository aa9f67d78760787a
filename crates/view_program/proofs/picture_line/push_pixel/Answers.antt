use Rattle.view_program.proofs.PictureLines.{cells_of_pixel, pixels_of_cell}
use Rattle.view_program.proofs.picture_line.push_pixel.Goals as goal

pub returns-then-scale-eq0-clause-text : goal.returns-then-scale-eq0-clause-text
returns-then-scale-eq0-clause-text c = let words = pixels_of_cell c.args.scale c.args.line.now c.if-scale-eq0.true in cc

pub returns-else-scale-eq0-clause-text : goal.returns-else-scale-eq0-clause-text
returns-else-scale-eq0-clause-text c = let words = cells_of_pixel c.args.scale c.args.line.now c.if-scale-eq0.false in cc
