use Rattle.std.proofs.Common.{◌∙◌, ap, pos}
use Rattle.rule_text.specs.CountRule.{lives}
use Rattle.leaf_kernels.specs.Rows.{four_rows_plane, lane_plane}
use Rattle.leaf_kernels.proofs.Neighbours.{few_counted}
use Rattle.leaf_kernels.proofs.masks.MasksNextCells.next_cells.Goals as goal

pub returns : goal.returns
returns c x lane inside =
    let rule = c.args.self.now.outcomes.rule in
    let counted = c.count.ensures x lane inside in
    c.next.ensures x lane inside (few_counted rule.neighbourhood (lane_plane c.args.above c.args.here c.args.below lane) x (pos 0) _ counted)
    ∙ ap (lives rule (four_rows_plane c.args.here x lane)) counted
