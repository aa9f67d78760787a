use Rattle.rule_text.proofs.DeadRule.{no_digits}
use Rattle.rule_text.proofs.rule.Rule.dead.Goals as goal

pub invariant_of-result : goal.invariant_of-result
invariant_of-result c = no_digits c.new.result c.new-2.result c.new.ensures c.new-2.ensures

pub returns-clause-rule : goal.returns-clause-rule
returns-clause-rule c = no_digits c.new.result c.new-2.result c.new.ensures c.new-2.ensures
