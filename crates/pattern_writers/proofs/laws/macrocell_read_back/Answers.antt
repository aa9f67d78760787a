use Rattle.pattern_writers.proofs.McTextReading.{mc_read}
use Rattle.pattern_writers.proofs.laws.macrocell_read_back.Goals as goal

pub returns : goal.returns
returns c = mc_read
