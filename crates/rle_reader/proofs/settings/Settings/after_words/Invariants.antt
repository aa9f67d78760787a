use Rattle.std.proofs.Common.{◌≡◌, ◌+◌, length, map}
use Rattle.std.specs.Option.{option_copied, option_map_or}
use Rattle.rle_reader.specs.Words.{word_of, words}
use Rattle.rle_reader.specs.Settings.{after_readings, words_left}
use Rattle.rle_reader.proofs.SettingsLemmas.{reading_on}
use Rattle.rle_reader.proofs.settings.Settings.after_words.Given as goal

abbrev pub invariant-loop-rest : goal.invariant-loop-rest
invariant-loop-rest l =
    reading_on l.settings l.lowest_refusal (map word_of (words_left (option_copied l.rest))) ≡ after_readings l.fn.self (map word_of (words l.line))

abbrev pub decreases-loop-rest : goal.decreases-loop-rest
decreases-loop-rest l = option_map_or (λ text. length text + 1) (option_copied l.rest) 0
