use Rattle.pattern_writers.proofs.TextReading.{rle_text-injective}
use Rattle.pattern_writers.proofs.laws.distinct_texts.Goals as goal

pub returns : goal.returns
returns c = rle_text-injective
