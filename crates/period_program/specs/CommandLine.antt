-- What the words of a command line ask for.
use Rattle.std.specs.Prelude.{◌≡◌, ℕ, true, List, [], ◌∷◌, fold, Option, Some, codes, refl, string_bytes, ⊤}
use Rattle.clap.specs.Words.{App, Rule, Text, fault_of, is_simple_and_free, new_app, with_rule}
use Rattle.clap.specs.declared.builder.value_parser.ValueParser.TheVariants as parser
use Rattle.clap.proofs.OnLiterals.{clap_on_literals}
use Rattle.period_search.specs.declared.candidates.Candidates.{Candidates}
use Rattle.program_parts.specs.CommandLine.{CommandLine}
use Rattle.program_parts.specs.OptionRules.{file_argument, generation_option, node_option, rule_option, valued, worker_option}
use Rattle.program_parts.specs.RunWords.{AskForRun}
use Rattle.program_parts.specs.Texts.{IsThere, text_in}
use Rattle.program_parts.specs.Values.{IsFitNumber}
use Rattle.period_program.specs.CandidateTexts.{IsAskedCandidates}
use Rattle.period_program.specs.declared.asking.Asked.{Asked}
use Rattle.period_program.specs.declared.asking.Search.{Search}

-- `--most N`: a number from 1 to 2^32
abbrev pub most_option : Rule
most_option = record (valued (codes "most")) { parser = Some (parser.Unsigned 1 4294967296) }

-- `--multiple N`: a number from 1 to 2^63
abbrev pub multiple_option : Rule
multiple_option =
    record (valued (codes "multiple")) { parser = Some (parser.Unsigned 1 9223372036854775808) }

-- the options in this order, and FILE
abbrev pub command_rules : List Rule
command_rules =
    most_option ∷ multiple_option ∷ generation_option ∷ rule_option ∷ node_option ∷ worker_option
    ∷ file_argument ∷ []

-- the form of the words
abbrev pub command_form : App
command_form = fold with_rule (new_app (codes "lifeperiod")) command_rules

-- the text that clap finds for an option or an argument
abbrev pub text_for : List ℕ → List Text → Option Text
text_for name words = text_in command_form name words

-- the words give these numbers of generations to be tried
abbrev pub AskForCandidates : List Text → Candidates → Type 0
AskForCandidates words candidates =
    IsAskedCandidates (text_for (codes "most") words) (text_for (codes "multiple") words) candidates

-- the words are of the form, and ask for this
pub record AsksFor (words : List Text) (asked : Asked) : Type 0 where
  pub form : fault_of command_form words ≡ []
  pub run : AskForRun command_form words asked.search.run
  pub candidates : AskForCandidates words asked.search.candidates
  pub file : text_for (codes "file") words ≡ Some (string_bytes asked.file)

-- the words ask for this search, in the file that they name
abbrev pub AskForSearch : List Text → Search → Type 0
AskForSearch words search =
    (asked : Asked) → text_for (codes "file") words ≡ Some (string_bytes asked.file) →
    AsksFor words (record asked { search = search })

-- the form of the words, and the values that are fit: --most or --multiple, but not both. There is
-- no output and no window
abbrev pub command_line : CommandLine
command_line = record {
  form = command_form;
  IsFitGeneration = IsFitNumber;
  IsFitInput = IsThere;
  IsFitOutput = λ output. ⊤;
  AreFitOptions = λ words. (candidates : Candidates) × AskForCandidates words candidates;
  IsFitWindow = λ window. ⊤;
  IsRefusedWindow = λ window. ⊥;
}

-- no argument has a rule on another
pub form_is_free : is_simple_and_free command_form ≡ true
unfolding clap_on_literals
form_is_free = refl
