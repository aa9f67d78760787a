use Rattle.std.proofs.Common.{refl}
use Rattle.rule_text.specs.CountRule.{counts, digits_listed}
use Rattle.rule_text.proofs.digits.Digits.new.Goals as goal

pub returns : goal.returns
unfolding counts digits_listed
returns c = refl
