use Rattle.pattern_writers.proofs.RleTextReading.{rle_read}
use Rattle.pattern_writers.proofs.laws.rle_read_back.Goals as goal

pub returns : goal.returns
returns c = rle_read
