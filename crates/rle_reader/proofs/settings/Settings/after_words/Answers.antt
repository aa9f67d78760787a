use Rattle.std.proofs.Common.{◌∙◌, sym, ap, map}
use Rattle.std.specs.Option.{option_copied}
use Rattle.rle_reader.specs.Words.{word_of, words}
use Rattle.rle_reader.specs.Settings.{words_left, unless_refused}
use Rattle.rle_reader.proofs.SettingsLemmas.{reading_on, reading_on-start, reading_on-word, reading_on-refused, reading_on-end}
use Rattle.rle_reader.proofs.settings.Settings.after_words.Goals as goal

pub loop-rest-init : goal.loop-rest-init
loop-rest-init c = reading_on-start c.args.self (map word_of (words c.args.line.now))

pub loop-rest-preserved-in-Ok : goal.loop-rest-preserved-in-Ok
loop-rest-preserved-in-Ok c =
    reading_on-word c.loop-rest.settings c.after_word-settings.result c.loop-rest.lowest_refusal c.in-Some.text.now
    c.first_word.result.0.now (words_left (option_copied c.first_word.result.1)) c.in-Ok.word
    c.first_word.ensures.words c.in-Ok.ensures c.after_word-settings.ensures
    ∙ ap (λ rest. reading_on c.loop-rest.settings c.loop-rest.lowest_refusal (map word_of (words_left (option_copied rest)))) (sym c.in-Some.is)
    ∙ c.loop-rest.invariant

pub loop-rest-preserved : goal.loop-rest-preserved
loop-rest-preserved c =
    reading_on-refused c.loop-rest.settings c.loop-rest.lowest_refusal c.lower-lowest_refusal.result c.in-Some.text.now
    c.first_word.result.0.now (words_left (option_copied c.first_word.result.1)) c.in-Err.refusal
    c.first_word.ensures.words c.in-Err.ensures c.lower-lowest_refusal.ensures
    ∙ ap (λ rest. reading_on c.loop-rest.settings c.loop-rest.lowest_refusal (map word_of (words_left (option_copied rest)))) (sym c.in-Some.is)
    ∙ c.loop-rest.invariant

pub returns-in-Some-lowest_refusal : goal.returns-in-Some-lowest_refusal
returns-in-Some-lowest_refusal c =
    ap (λ lowest_refusal. unless_refused lowest_refusal c.loop-rest.settings) (sym c.in-Some-lowest_refusal.is)
    ∙ sym (reading_on-end c.loop-rest.settings c.loop-rest.lowest_refusal)
    ∙ ap (λ rest. reading_on c.loop-rest.settings c.loop-rest.lowest_refusal (map word_of (words_left (option_copied rest)))) (sym c.in_default.is)
    ∙ c.loop-rest.invariant

pub returns-in-None : goal.returns-in-None
returns-in-None c =
    ap (λ lowest_refusal. unless_refused lowest_refusal c.loop-rest.settings) (sym c.in-None.is)
    ∙ sym (reading_on-end c.loop-rest.settings c.loop-rest.lowest_refusal)
    ∙ ap (λ rest. reading_on c.loop-rest.settings c.loop-rest.lowest_refusal (map word_of (words_left (option_copied rest)))) (sym c.in_default.is)
    ∙ c.loop-rest.invariant
