-- What the `#CXRLE` lines say together.
use Rattle.std.specs.Prelude.{ℕ, pos, nat_le, if◌then◌else◌, List, [], map, fold, Option, None, Some, Result, Ok, Err}
use Rattle.std.specs.List.{filter_map}
use Rattle.std.specs.Result.{result_ok, result_err}
use Rattle.plane.specs.Refusal.{number_of}
use Rattle.plane.specs.declared.refusal.Refusal.{Refusal}
use Rattle.rle_reader.specs.Words.{word_of, words}
use Rattle.text_lines.specs.Comments.{is_settings_line}
use Rattle.rle_reader.specs.declared.settings.Settings.{Settings}
use Rattle.rle_reader.specs.declared.settings.Word.{Word}
use Rattle.rle_reader.specs.declared.settings.Word.TheVariants.{Pos, Gen, Other}

-- what holds where nothing is said
abbrev pub nothing_said : Settings
nothing_said = record { pos = record { y = pos 0; x = pos 0 }; generation = 0 }

-- a word replaces what was said before of the same
abbrev pub after_word : Settings → Word → Settings
after_word settings (Pos cell) = record { pos = cell; generation = settings.generation }
after_word settings (Gen number) = record { pos = settings.pos; generation = number }
after_word settings Other = settings

-- of two refusals the one of the lower number
abbrev pub lower : Option Refusal → Refusal → Option Refusal
lower None refusal = Some refusal
lower (Some other) refusal =
    if nat_le (number_of other) (number_of refusal) then Some other else Some refusal

-- the refusal of the lowest number
abbrev pub lowest : List Refusal → Option Refusal
lowest refusals = fold lower None refusals

-- these settings, unless something was refused
abbrev pub unless_refused : Option Refusal → Settings → Result Settings Refusal
unless_refused None settings = Ok settings
unless_refused (Some refusal) settings = Err refusal

-- the settings after these readings of words, or the lowest refusal of a word
unfoldable pub after_readings : Settings → List (Result Word Refusal) → Result Settings Refusal
after_readings settings readings =
    unless_refused (lowest (filter_map result_err readings))
    (fold after_word settings (filter_map result_ok readings))

-- the settings after a line before the header
unfoldable pub after_line : Settings → List ℕ → Result Settings Refusal
after_line settings line =
    if is_settings_line line then after_readings settings (map word_of (words line))
    else Ok settings

-- the words of a text, or none where there is no text
abbrev pub words_left : Option (List ℕ) → List (List ℕ)
words_left None = []
words_left (Some text) = words text
