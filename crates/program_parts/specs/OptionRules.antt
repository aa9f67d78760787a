-- Rules of options.
use Rattle.std.specs.Prelude.{◌≡◌, ℕ, List, [], ◌∷◌, Some, codes, decimal, false, true}
use Rattle.std.specs.List.{AllZip}
use Rattle.clap.specs.Words.{Rule, Text, new_rule, rule_of}
use Rattle.clap.specs.declared.builder.arg.Arg.{Arg}
use Rattle.clap.specs.declared.builder.value_parser.ValueParser.TheVariants as parser
use Rattle.table_core.specs.declared.shape.TheConstants.{DEFAULT_PAIR_COUNT}

-- an option with a long name
abbrev pub valued : Text → Rule
valued name = record (new_rule name) { long = Some name; value_names = 1 }

-- an option with a long name and a short one
abbrev pub valued_in_short : Text → ℕ → Rule
valued_in_short name short = record (valued name) { short = Some short }

-- an option for a number below 2^64, 0 if it is left out
abbrev pub numeric : Text → ℕ → Rule
numeric name short = record (valued_in_short name short) {
  defaults = codes "0" ∷ [];
  parser = Some (parser.Unsigned 0 18446744073709551615);
}

-- the argument is read by this rule, only in this command
abbrev pub HasRule : Arg → Rule → Type 0
HasRule arg rule = (rule_of arg ≡ rule) × (arg.global ≡ false)

-- the arguments are read by these rules, one by one
abbrev pub HaveRules : List Arg → List Rule → Type 0
HaveRules args rules = AllZip HasRule args rules

-- `-m N`, `--generation N`: a number below 2^64, 0 if it is left out
abbrev pub generation_option : Rule
generation_option = numeric (codes "generation") 109

-- `-r R`, `--rule R`
abbrev pub rule_option : Rule
rule_option = valued_in_short (codes "rule") 114

-- `--window=X,Y,W,H`
abbrev pub window_option : Rule
window_option = valued (codes "window")

-- `--nodes N`: a number below 2^64, the default number of pair slots if it is left out
abbrev pub node_option : Rule
node_option = record (valued (codes "nodes")) {
  defaults = decimal DEFAULT_PAIR_COUNT ∷ [];
  parser = Some (parser.Unsigned 0 18446744073709551615);
}

-- `--workers N`: a number below 2^64, 1 if it is left out
abbrev pub worker_option : Rule
worker_option = record (valued (codes "workers")) {
  defaults = codes "1" ∷ [];
  parser = Some (parser.Unsigned 0 18446744073709551615);
}

-- FILE, which has to be there
abbrev pub file_argument : Rule
file_argument = record (new_rule (codes "file")) { value_names = 1; required = true }
