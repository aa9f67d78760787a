-- What the words of a command line ask for.
use Rattle.std.specs.Prelude.{◌≡◌, ℕ, true, List, [], ◌∷◌, fold, Option, Some, codes, refl, string_bytes}
use Rattle.clap.specs.Words.{App, Rule, Text, fault_of, is_simple_and_free, new_app, with_rule}
use Rattle.clap.specs.declared.builder.value_parser.ValueParser.TheVariants as parser
use Rattle.clap.proofs.OnLiterals.{clap_on_literals}
use Rattle.pattern_picture.specs.Scale.{IsSize}
use Rattle.program_parts.specs.CommandLine.{CommandLine}
use Rattle.program_parts.specs.OptionRules.{file_argument, generation_option, node_option, rule_option, valued, valued_in_short, window_option, worker_option}
use Rattle.program_parts.specs.RunWords.{AskForRun}
use Rattle.program_parts.specs.Texts.{HasText, IsThere, text_in, value_in}
use Rattle.program_parts.specs.Values.{IsFitNumber, IsNumber}
use Rattle.program_parts.specs.WindowText.{IsAskedWindow, IsFitWindow, IsRefusedWindow}
use Rattle.view_program.specs.PictureFormat.{IsFitName, IsFormat}
use Rattle.view_program.specs.Shown.{CanBeShown, sides_of}
use Rattle.view_program.specs.declared.asking.Asked.{Asked}
use Rattle.view_program.specs.declared.asking.View.{View}

-- `-o NAME`, `--output NAME`, which has to be there
abbrev pub output_option : Rule
output_option = record (valued_in_short (codes "output") 111) { required = true }

-- `--size N`: a number from 16 to 4096, 1024 if it is left out
abbrev pub size_option : Rule
size_option =
    record
    (valued (codes "size")) {
      defaults = codes "1024"
          ∷ [];
      parser = Some (parser.Unsigned 16 4096);
    }

-- the options in this order, and FILE
abbrev pub command_rules : List Rule
command_rules =
    generation_option ∷ output_option ∷ window_option ∷ size_option ∷ rule_option ∷ node_option
    ∷ worker_option ∷ file_argument ∷ []

-- the form of the words
abbrev pub command_form : App
command_form = fold with_rule (new_app (codes "lifeview")) command_rules

-- the text that clap finds for an option or an argument
abbrev pub text_for : List ℕ → List Text → Option Text
text_for name words = text_in command_form name words

-- the text that clap reads the value of an option from
abbrev pub value_for : List ℕ → List Text → Option Text
value_for name words = value_in command_form name words

-- the text is a numeral of this number, and a picture may have so many pixels on a side
abbrev pub IsSizeNumber : Option Text → ℕ → Type 0
IsSizeNumber text size = IsNumber text size × IsSize size

-- the words are of the form, and ask for this
pub record AsksFor (words : List Text) (asked : Asked) : Type 0 where
  pub form : fault_of command_form words ≡ []
  pub run : AskForRun command_form words asked.view.run
  pub file : text_for (codes "file") words ≡ Some (string_bytes asked.file)
  pub output : text_for (codes "output") words ≡ Some (string_bytes asked.output)
  pub format : IsFormat (string_bytes asked.output) asked.view.format
  pub window :
      IsAskedWindow CanBeShown sides_of 64 (text_for (codes "window") words) asked.view.window
  pub size : IsSizeNumber (value_for (codes "size") words) asked.view.size

-- the output is the name of a picture
abbrev pub IsFitOutput : Option Text → Type 0
IsFitOutput output = (name : Text) × (output ≡ Some name) × IsFitName name

-- the words name a file, and a picture whose name is fit
pub record HasFiles (words : List Text) : Type 0 where
  pub file : HasText command_form (codes "file") words
  pub output : IsFitOutput (text_for (codes "output") words)

-- the words ask for this view, of the file and into the picture that they name
abbrev pub AskForView : List Text → View → Type 0
AskForView words view =
    (asked : Asked) → text_for (codes "file") words ≡ Some (string_bytes asked.file) →
    text_for (codes "output") words ≡ Some (string_bytes asked.output) →
    IsFormat (string_bytes asked.output) view.format → AsksFor words (record asked { view = view })

-- the form of the words, and the values that are fit: a NAME that ends as those of pictures, the
-- size of a picture, and a window whose cells can be shown
abbrev pub command_line : CommandLine
command_line = record {
  form = command_form;
  IsFitGeneration = IsFitNumber;
  IsFitInput = IsThere;
  IsFitOutput = IsFitOutput;
  AreFitOptions = λ words. (size : ℕ) × IsSizeNumber (value_for (codes "size") words) size;
  IsFitWindow = IsFitWindow 64;
  IsRefusedWindow = IsRefusedWindow 64 CanBeShown;
}

-- no argument has a rule on another
pub form_is_free : is_simple_and_free command_form ≡ true
unfolding clap_on_literals
form_is_free = refl
