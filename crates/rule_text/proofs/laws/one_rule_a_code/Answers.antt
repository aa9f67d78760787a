use Rattle.rule_text.proofs.Codes.{one_rule}
use Rattle.rule_text.proofs.laws.one_rule_a_code.Goals as goal

pub returns : goal.returns
returns c = one_rule
