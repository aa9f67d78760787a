use Rattle.std.proofs.Common.{false}
use Rattle.rule_text.specs.CountRule.{lives}
use Rattle.leaf_kernels.specs.Outcomes.{is_changed}
use Rattle.leaf_kernels.proofs.Choices.{same_choice}
use Rattle.leaf_kernels.proofs.outcomes.Outcomes.new.Goals as goal

pub invariant_of-result-clause-are_births : goal.invariant_of-result-clause-are_births
invariant_of-result-clause-are_births c =
    same_choice _ (lives c.args.rule false) c.new-births.result c.lives.ensures.lives c.lives-2.ensures.lives c.lives-3.ensures.lives c.lives-4.ensures.lives c.lives-5.ensures.lives c.lives-6.ensures.lives
    c.lives-7.ensures.lives c.lives-8.ensures.lives c.lives-9.ensures.lives c.new-births.ensures

pub invariant_of-result-clause-are_changes : goal.invariant_of-result-clause-are_changes
invariant_of-result-clause-are_changes c =
    same_choice _ (is_changed c.args.rule) c.new-changes.result c.is_changed.ensures c.is_changed-2.ensures c.is_changed-3.ensures c.is_changed-4.ensures c.is_changed-5.ensures
    c.is_changed-6.ensures c.is_changed-7.ensures c.is_changed-8.ensures c.is_changed-9.ensures c.new-changes.ensures
