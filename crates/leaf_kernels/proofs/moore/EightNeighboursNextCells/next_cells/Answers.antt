use Rattle.std.proofs.Common.{◌∙◌, ap, pos, sym}
use Rattle.rule_text.specs.CountRule.{lives}
use Rattle.rule_text.specs.declared.neighbourhood.Neighbourhood.TheVariants.{Moore}
use Rattle.leaf_kernels.specs.Generation.{neighbours_at}
use Rattle.leaf_kernels.specs.Rows.{four_rows_plane, lane_plane}
use Rattle.leaf_kernels.proofs.Neighbours.{few_counted}
use Rattle.leaf_kernels.proofs.moore.EightNeighboursNextCells.next_cells.Goals as goal

pub returns : goal.returns
returns c x lane inside =
    let outcomes = c.args.self.now.outcomes in
    let counted = c.count.ensures x lane inside in
    c.next.ensures x lane inside (few_counted Moore (lane_plane c.args.above c.args.here c.args.below lane) x (pos 0) _ counted)
    ∙ ap (lives outcomes.rule (four_rows_plane c.args.here x lane))
    (counted ∙ ap (λ neighbourhood. neighbours_at neighbourhood c.args.above c.args.here c.args.below x lane) (sym c.args.self.now.counts_all))
