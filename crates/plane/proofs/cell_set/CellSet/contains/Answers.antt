use Rattle.std.proofs.Common.{◌∙◌}
use Rattle.plane.proofs.Listings.{plane_of-by_order}
use Rattle.plane.proofs.cell_set.CellSet.contains.Goals as goal

pub returns : goal.returns
returns c = rw (← c.self.view_is) (c.contains.ensures ∙ plane_of-by_order c.self.inside.cells.keys c.args.cell)
