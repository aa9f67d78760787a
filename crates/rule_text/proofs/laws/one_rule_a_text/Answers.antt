use Rattle.rule_text.proofs.Canonical.{one_rule}
use Rattle.rule_text.proofs.laws.one_rule_a_text.Goals as goal

pub returns : goal.returns
returns c = one_rule
