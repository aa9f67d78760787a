use Rattle.std.proofs.Common.{sym}
use Rattle.rle_reader.proofs.SettingsLemmas.{words-some, words-none}
use Rattle.rle_reader.proofs.settings.first_word.Goals as goal

pub returns-in-Some-clause-words : goal.returns-in-Some-clause-words
returns-in-Some-clause-words c = words-some c.args.text.now c.in-Some.at (sym c.in-Some.ensures)

pub returns-in-None-clause-words : goal.returns-in-None-clause-words
returns-in-None-clause-words c = words-none c.args.text.now (sym c.in-None.ensures)
