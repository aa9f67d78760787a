use Rattle.std.proofs.Common.{◌∙◌, ap}
use Rattle.text_lines.specs.Numbers.{number_of}
use Rattle.rle_reader.specs.Words.{generation_at}
use Rattle.rle_reader.proofs.SettingsLemmas.{generation_at-capped}
use Rattle.rle_reader.proofs.settings.generation_of.Goals as goal

pub returns : goal.returns
returns c = c.generation.ensures ∙ ap generation_at c.number.ensures ∙ generation_at-capped (number_of c.args.text.now)
