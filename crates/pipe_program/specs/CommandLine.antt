-- What the words of a command line ask for.
use Rattle.std.specs.Prelude.{◌≡◌, true, List, [], ◌∷◌, fold, codes, refl, ⊤}
use Rattle.clap.specs.Words.{App, Rule, Text, fault_of, is_simple_and_free, new_app, with_rule}
use Rattle.clap.proofs.OnLiterals.{clap_on_literals}
use Rattle.program_parts.specs.CommandLine.{CommandLine}
use Rattle.program_parts.specs.OptionRules.{node_option, worker_option}
use Rattle.program_parts.specs.RunWords.{GiveLimits}
use Rattle.program_parts.specs.declared.numbers.Limits.{Limits}

-- the options in this order
abbrev pub command_rules : List Rule
command_rules = node_option ∷ worker_option ∷ []

-- the form of the words
abbrev pub command_form : App
command_form = fold with_rule (new_app (codes "lifepipe")) command_rules

-- the words are of the form, and give these limits
pub record AsksFor (words : List Text) (limits : Limits) : Type 0 where
  pub form : fault_of command_form words ≡ []
  pub given : GiveLimits command_form words limits

-- the form of the words, and the values that are fit. There is no output and no window, and the
-- file that is read is standard input
abbrev pub command_line : CommandLine
command_line = record {
  form = command_form;
  IsFitGeneration = λ text. ⊤;
  IsFitInput = λ file. ⊤;
  IsFitOutput = λ output. ⊤;
  AreFitOptions = λ words. ⊤;
  IsFitWindow = λ window. ⊤;
  IsRefusedWindow = λ window. ⊥;
}

-- no argument has a rule on another
pub form_is_free : is_simple_and_free command_form ≡ true
unfolding clap_on_literals
form_is_free = refl
