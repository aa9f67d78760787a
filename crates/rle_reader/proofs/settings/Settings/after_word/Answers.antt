use Rattle.std.proofs.Common.{ap, sym}
use Rattle.rle_reader.specs.Settings.{after_word}
use Rattle.rle_reader.proofs.settings.Settings.after_word.Goals as goal

pub returns-in-Gen : goal.returns-in-Gen
returns-in-Gen c = ap (after_word c.args.self) (sym c.in-Gen.is)
