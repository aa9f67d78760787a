-- What the words of a command line ask for, by clap's matches.
use Rattle.std.proofs.Common.{◌≡◌, ℕ, true, List, [], ◌∷◌, Ok, Err, Result, sym, ◌∙◌, ap, subst, inl, inr}
use Rattle.std.specs.Prelude.{fold, IfErr, IsErrAnd}
use Rattle.clap.specs.Words.{AddsArg, AddsInTurn, App, Rule, Text, HasKind, HasMatchesOf, FailsBy, IsAmong, app_of, fault_of, first_of, first_value, found_of, is_simple, is_simple_and_free, kind_of, matches_of, one_of, one_text, with_rule}
use Rattle.clap.specs.declared.builder.arg.Arg.{Arg}
use Rattle.clap.specs.declared.builder.command.Command.{Command}
use Rattle.clap.specs.declared.error.Error.{Error}
use Rattle.clap.specs.declared.parser.matches.ArgMatches.{ArgMatches}
use Rattle.clap.proofs.WalkLemmas.{both, first_value-rows, one_text-rows}
use Rattle.program_parts.specs.Asking.{IsReasonOf}
use Rattle.program_parts.specs.CommandLine.{CommandLine}
use Rattle.program_parts.specs.Faults.{IsToldAs}
use Rattle.program_parts.specs.OptionRules.{HaveRules}
use Rattle.program_parts.specs.Texts.{AreMatchesIn, text_in, value_in}
use Rattle.program_parts.specs.declared.reason.WordsReason.{WordsReason}
use Rattle.program_parts.specs.declared.reason.WordsReason.TheVariants.{Clap, Unfit, Refused}

-- a command to which arguments are added has their rules, in turn
pub adds_rules : (args : List Arg) (rules : List Rule) (old new : Command) → AddsInTurn AddsArg old args new → HaveRules args rules → app_of new ≡ fold with_rule (app_of old) rules
adds_rules [] [] old new same have = ap app_of (sym same)
adds_rules [] (rule ∷ rules) old new adds have = absurd have
adds_rules (arg ∷ args) [] old new adds have = absurd have
adds_rules (arg ∷ args) (rule ∷ rules) old new (next, first, rest) (is, have) =
    adds_rules args rules next new rest have ∙ ap (λ app. fold with_rule app rules) (first.shape is.1 ∙ ap (with_rule (app_of old)) is.0)

-- the words fail by the faults of the form
pub fails_by : {T : Type 0} (form app : App) (words : List Text) (result : Result T Error) → is_simple_and_free form ≡ true → app ≡ form →
    (is_simple_and_free app ≡ true → FailsBy (fault_of app words) result) → FailsBy (fault_of form words) result
fails_by form app words result free is fails =
    subst (λ (a : App). FailsBy (fault_of a words) result) is (fails (ap is_simple_and_free is ∙ free))

-- an error among the faults of the form is told as a fault of the words
pub told_by : {T : Type 0} (line : CommandLine) (words : List Text) (error : Error) (result : Result T WordsReason) →
    HasKind (fault_of line.form words) error → IsErrAnd result (IsToldAs error) → IfErr result (IsReasonOf line words)
told_by line words error (Ok value) has told = absurd told
told_by line words error (Err (Clap fault)) (inl memory) (same, other) = absurd (other memory)
told_by line words error (Err (Clap fault)) (inr among) (same, other) = subst (λ (e : Error). IsAmong (kind_of e) (fault_of line.form words)) (sym same) among
told_by line words error (Err (Unfit misfit)) has told = absurd told
told_by line words error (Err (Refused refusal)) has (memory, kind) = inl memory

-- clap's matches are those of the form
pub matches_by : (form app : App) (words : List Text) (matches : ArgMatches) → is_simple_and_free form ≡ true → app ≡ form → HasMatchesOf app words matches →
    (is_simple_and_free app ≡ true → FailsBy (fault_of app words) (Ok matches)) → AreMatchesIn form words matches
matches_by form app words matches free is has fails = (
  fails_by form app words (Ok matches) free is fails,
  (has (ap is_simple is ∙ (both _ _ free).0)).0 ∙ ap (λ a. matches_of a words) is,
)

module _ (form : App) (words : List Text) (matches : ArgMatches) (are : AreMatchesIn form words matches) where
  pub text_by : (name : List ℕ) → first_value (found_of matches) name ≡ text_in form name words
  text_by name = first_value-rows (found_of matches) name ∙ ap (first_of name) are.1

  pub value_by : (name : List ℕ) → one_text (found_of matches) name ≡ value_in form name words
  value_by name = one_text-rows (found_of matches) name ∙ ap (one_of name) are.1
