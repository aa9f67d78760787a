use Rattle.rule_text.proofs.Readings.{one_reading}
use Rattle.rule_text.proofs.laws.one_reading.Goals as goal

pub returns : goal.returns
returns c = one_reading
