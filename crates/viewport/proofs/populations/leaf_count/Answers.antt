use Rattle.std.proofs.Common.{◌∙◌}
use Rattle.viewport.proofs.Leaves.{leaf_count_lem}
use Rattle.viewport.proofs.populations.leaf_count.Goals as goal

pub returns-clause-count : goal.returns-clause-count
returns-clause-count c = c.from.ensures ∙ leaf_count_lem c.args.word c.ranges.word.fits
