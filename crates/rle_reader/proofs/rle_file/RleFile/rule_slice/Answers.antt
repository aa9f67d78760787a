use Rattle.std.proofs.Common.{ap}
use Rattle.rle_reader.specs.Meaning.{Meaning, meaning_of}
use Rattle.rle_reader.proofs.rle_file.RleFile.rule_slice.Goals as goal

pub returns : goal.returns
unfolding meaning_of
returns c = ap (λ (meaning : Meaning). meaning.rule) c.self.view_is
