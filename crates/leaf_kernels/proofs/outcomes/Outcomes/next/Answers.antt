use Rattle.std.proofs.Common.{◌∙◌, false}
use Rattle.rule_text.specs.CountRule.{lives}
use Rattle.leaf_kernels.specs.Outcomes.{is_changed}
use Rattle.leaf_kernels.specs.Rows.{four_rows_plane}
use Rattle.leaf_kernels.specs.Sums.{count_at}
use Rattle.leaf_kernels.proofs.Choices.{lives_by_state}
use Rattle.leaf_kernels.proofs.outcomes.Outcomes.next.Goals as goal

pub returns : goal.returns
returns c x lane inside few =
    let outcomes = c.args.self.now in
    c.select.ensures x lane _ _ (c.by_count.ensures (lives outcomes.rule false) outcomes.are_births x lane inside few)
    (c.by_count-2.ensures (is_changed outcomes.rule) outcomes.are_changes x lane inside few)
    ∙ lives_by_state outcomes.rule (four_rows_plane c.args.cells x lane) (count_at c.args.count x lane)
