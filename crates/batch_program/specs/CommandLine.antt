-- What the words of a command line ask for.
use Rattle.std.specs.Prelude.{◌≡◌, ℕ, nat_eq, Bool, true, false, List, [], ◌∷◌, fold, Option, None, Some, codes, refl, string_bytes}
use Rattle.std.specs.List.{ends_with}
use Rattle.std.specs.Option.{option_map}
use Rattle.clap.specs.Words.{App, Rule, Text, fault_of, is_simple_and_free, new_app, new_rule, with_rule}
use Rattle.clap.specs.declared.builder.action.ArgAction.TheVariants.{SetTrue}
use Rattle.clap.proofs.OnLiterals.{clap_on_literals}
use Rattle.plane.specs.Window.{IsWindow}
use Rattle.program_parts.specs.CommandLine.{CommandLine}
use Rattle.program_parts.specs.OptionRules.{file_argument, generation_option, node_option, numeric, rule_option, valued_in_short, window_option, worker_option}
use Rattle.program_parts.specs.RunWords.{AskForRun}
use Rattle.program_parts.specs.Texts.{IsThere, text_in, value_in}
use Rattle.program_parts.specs.Values.{IsFitNumber, IsNumber}
use Rattle.program_parts.specs.WindowText.{IsAskedWindow, IsFitWindow, IsRefusedWindow}
use Rattle.engine.specs.RunOptions.{run_of}
use Rattle.engine.specs.declared.options.Format.{Format}
use Rattle.engine.specs.declared.options.Format.TheVariants.{Rle, Macrocell}
use Rattle.engine.specs.declared.options.Options.{Options}
use Rattle.batch_program.specs.declared.asking.Asked.{Asked}

-- `-i N`, `--stepsize N`: a number below 2^64, 0 if it is left out
abbrev pub step_option : Rule
step_option = numeric (codes "stepsize") 105

-- `-o NAME`, `--output NAME`
abbrev pub output_option : Rule
output_option = valued_in_short (codes "output") 111

-- `-q`, `--quiet`, which takes no value
abbrev pub quiet_option : Rule
quiet_option =
    record
    (new_rule (codes "quiet")) {
      short = Some 113;
      long = Some
          (codes "quiet");
      action = Some SetTrue;
    }

-- the options in this order, and FILE
abbrev pub command_rules : List Rule
command_rules =
    generation_option ∷ step_option ∷ output_option ∷ rule_option ∷ quiet_option ∷ window_option
    ∷ node_option ∷ worker_option ∷ file_argument ∷ []

-- the form of the words
abbrev pub command_form : App
command_form = fold with_rule (new_app (codes "lifebatch")) command_rules

-- the text that clap finds for an option or an argument
abbrev pub text_for : List ℕ → List Text → Option Text
text_for name words = text_in command_form name words

-- the text that clap reads the value of an option from
abbrev pub value_for : List ℕ → List Text → Option Text
value_for name words = value_in command_form name words

-- the flag is up where its text is "true", and nowhere else
abbrev pub IsFlag : Option Text → Bool → Type 0
IsFlag text true = text ≡ Some (codes "true")
IsFlag text false = text ≡ Some (codes "true") → ⊥

-- how the names of files of a format end
abbrev pub ending : Format → Text
ending Rle = codes ".rle"
ending Macrocell = codes ".mc"

-- the format of the output, if there is one, by the ending of its name
abbrev pub IsFormat : Option Text → Option Format → Type 0
IsFormat None format = format ≡ None
IsFormat (Some name) None = ⊥
IsFormat (Some name) (Some format) = ends_with nat_eq name (ending format) ≡ true

-- the words are of the form, and ask for this
pub record AsksFor (words : List Text) (asked : Asked) : Type 0 where
  pub form : fault_of command_form words ≡ []
  pub run : AskForRun command_form words (run_of asked.options)
  pub step : IsNumber (value_for (codes "stepsize") words) asked.options.step
  pub file : text_for (codes "file") words ≡ Some (string_bytes asked.file)
  pub output : text_for (codes "output") words ≡ option_map string_bytes asked.output
  pub format : IsFormat (text_for (codes "output") words) asked.options.format
  pub quiet : IsFlag (value_for (codes "quiet") words) asked.options.quiet
  pub window :
      IsAskedWindow IsWindow (λ given. given) 32 (text_for (codes "window") words)
      asked.options.window

-- the words ask for a run by these options, of the file and into the output that they name
abbrev pub AskForOptions : List Text → Options → Type 0
AskForOptions words options =
    (asked : Asked) → text_for (codes "file") words ≡ Some (string_bytes asked.file) →
    text_for (codes "output") words ≡ option_map string_bytes asked.output →
    AsksFor words (record asked { options = options })

-- the form of the words, and the values that are fit: a NAME that says its format, if there is one,
-- a number of generations between two lines, and a window of less than 2^32 columns and rows
abbrev pub command_line : CommandLine
command_line = record {
  form = command_form;
  IsFitGeneration = IsFitNumber;
  IsFitInput = IsThere;
  IsFitOutput = λ output. (format : Option Format) × IsFormat output format;
  AreFitOptions = λ words. IsFitNumber (value_for (codes "stepsize") words);
  IsFitWindow = IsFitWindow 32;
  IsRefusedWindow = IsRefusedWindow 32 IsWindow;
}

-- no argument has a rule on another
pub form_is_free : is_simple_and_free command_form ≡ true
unfolding clap_on_literals
form_is_free = refl
