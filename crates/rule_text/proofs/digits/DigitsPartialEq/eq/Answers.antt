use Rattle.std.proofs.Common.{arith}
use Rattle.rule_text.proofs.Marks.{listed_of_view}
use Rattle.rule_text.proofs.digits.DigitsPartialEq.eq.Goals as goal

pub returns : goal.returns
returns c = grind (arith, listed_of_view)
